use Rattle.std.proofs.Common.{ℕ, List, get_or, length, Ok, Result, refl, sym, rules}
use Rattle.std.specs.Ordering.{nat_cmp}
use Rattle.std.specs.declared.cmp.Ordering.{Ordering}
use Rattle.std.specs.declared.convert.Infallible.{Infallible}
use Rattle.coverage.proofs.Halves.{index_halved}
use Rattle.coverage.proofs.glyphs.glyph_index.Goals as goal

abbrev compared : List ℕ → ℕ → ℕ → Result Ordering Infallible
compared gs g k = Ok (nat_cmp (get_or gs k 0) g)

pub returns : goal.returns
returns c up =
    let gs = c.args.glyphs.now in
    let g = c.args.glyph in
    sym (index_halved (compared gs g) gs g (length gs) up refl (λ k lt. refl) c.in-Ok.place (c.in-Ok.ensures (compared gs g) (λ k r lt called. search rules)))
