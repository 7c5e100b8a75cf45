use Rattle.std.proofs.Common.{rules, ap, ◌∙◌}
use Rattle.std.proofs.lemmas.Fn.{always_returns_same}
use Rattle.std.specs.List.{flat_map}
use Rattle.std.specs.Slice.Iter.{chunk_by_rest}
use Rattle.coverage_opentype.proofs.Runs.{runs_at, runs_are}
use Rattle.cover_text.specs.Text.{spaced_range}
use Rattle.cover_text.proofs.Printing.{all_runs}
use Rattle.cover_text.proofs.runs.Goals as goal

pub returns : goal.returns
returns c =
    c.loop-run.invariant
    ∙ all_runs _ 0 _ _ c.loop-run.yielded (always_returns_same _ _ _ (λ a r f k. search rules)) c.loop-run.yielded_by c.in-None.ensures.steps.0
    ∙ ap (λ s. flat_map spaced_range (runs_at 0 (chunk_by_rest s))) c.into_iter-run-iterator.ensures.into_iter_gives
    ∙ ap (λ gs. flat_map spaced_range (runs_at 0 gs)) c.chunk_by-run-items.ensures.rest
    ∙ ap (flat_map spaced_range) (runs_are c.args.glyphs.now)
