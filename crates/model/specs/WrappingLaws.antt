-- Where a wrap's bytes lie: one part for each extension table, in order, and together what the bill says.
use Rattle.std.specs.Prelude.{◌≡◌, ℕ, map, Some, sum_by}
use Rattle.std.specs.List.{AllByRecursion}
use Rattle.model.specs.Forest.{Subtable, Lookup}
use Rattle.model.specs.Splitting.{Part, wrap_parts, wrap_bill, wrap_lookup}

abbrev pub WrapsLieInOrder : Type 0
WrapsLieInOrder =
    (fresh : ℕ) (l : Lookup)
    → AllByRecursion (λ (p : Part). p.reserved ≡ 8) (wrap_parts fresh l.subtables)
    × (sum_by (λ (p : Part). p.reserved) (wrap_parts fresh l.subtables) ≡ (wrap_bill l).bytes)
    × (map (λ (p : Part). Some p.vertex) (wrap_parts fresh l.subtables) ≡ map (λ (s : Subtable). s.extension) (wrap_lookup fresh l).subtables)
