use Rattle.std.proofs.Common.{◌≡◌, ℕ, suc, ◌*◌, List, [], ◌∷◌, map, length, Some, sum_by, refl, ap, arith}
use Rattle.std.specs.List.{AllByRecursion}
use Rattle.std.proofs.lemmas.List.Sums.{sum_by-cons}
use Rattle.model.specs.Forest.{Subtable}
use Rattle.model.specs.Splitting.{Part, part, wrap_parts, extended}
use Rattle.model.proofs.wrapping.wraps_lie_in_order.Goals as goal

numbers : (fresh : ℕ) (ss : List Subtable) → map (λ (p : Part). Some p.vertex) (wrap_parts fresh ss) ≡ map (λ (s : Subtable). s.extension) (extended fresh ss)
numbers fresh [] = refl
numbers fresh (s ∷ ss) = ap (λ t. Some fresh ∷ t) (numbers (suc fresh) ss)

sizes : (fresh : ℕ) (ss : List Subtable) → sum_by (λ (p : Part). p.reserved) (wrap_parts fresh ss) ≡ 8 * length ss
sizes fresh [] = refl
sizes fresh (s ∷ ss) =
    let h = sizes (suc fresh) ss in
    let c = sum_by-cons (λ (p : Part). p.reserved) (part fresh 8) (wrap_parts (suc fresh) ss) in
    omega arith

eights : (fresh : ℕ) (ss : List Subtable) → AllByRecursion (λ (p : Part). p.reserved ≡ 8) (wrap_parts fresh ss)
eights fresh [] = tt
eights fresh (s ∷ ss) = (refl, eights (suc fresh) ss)

pub returns : goal.returns
returns c fresh l = (eights fresh l.subtables, sizes fresh l.subtables, numbers fresh l.subtables)
