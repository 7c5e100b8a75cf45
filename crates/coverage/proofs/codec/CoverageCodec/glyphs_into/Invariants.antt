use Rattle.std.proofs.Common.{◌≡◌, ℕ, ◌<◌, Ok, get_or}
use Rattle.coverage.specs.Meaning.{glyph_at}
use Rattle.coverage.proofs.codec.CoverageCodec.glyphs_into.Given as goal

abbrev pub invariant-loop-i : goal.invariant-loop-i
invariant-loop-i g l = (k : ℕ) → k < l.i → Ok (get_or l.place-items k 0) ≡ glyph_at (g.Self.CoverageCodec.meaning l.self l.bytes) k
