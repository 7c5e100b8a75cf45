use Rattle.std.proofs.Common.{◌≡◌, ◌+◌, ◌≤◌, length, drop}
use Rattle.coverage.specs.Glyphs.{above, rises}
use Rattle.coverage_opentype.specs.Format2.{runs}
use Rattle.coverage_opentype.proofs.Runs.{breaks}
use Rattle.coverage_opentype.proofs.ranges.run_count.Given as goal

abbrev pub invariant-loop-glyph : goal.invariant-loop-glyph
invariant-loop-glyph l =
    record {
      rise : rises l.glyphs ≡ above l.last (drop l.glyph-index l.glyph-items);
      counted : l.count + breaks l.last (drop l.glyph-index l.glyph-items) ≡ length (runs l.glyphs);
      few : l.count ≤ l.glyph-index + 1;
    }
