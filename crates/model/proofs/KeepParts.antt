-- The parts of a cut: what holds of all entries; how large a part is; cuts are one fewer than the parts.
use Rattle.std.proofs.Common.{◌≡◌, ℕ, suc, ◌<◌, ◌≤◌, leb, List, [], ◌∷◌, ◌++◌, length, refl, ap, arith}
use Rattle.std.specs.List.{flat_map, AllByRecursion}
use Rattle.std.proofs.lemmas.Bool.{cond_both}
use Rattle.model.specs.Forest.{Subtable}
use Rattle.model.specs.Cutting.{Entry, entries, run_size, parts_from, parts, cuts_of, cuts_before, cuts}
use Rattle.model.proofs.Lists.{all_front, all_back}
use Rattle.model.proofs.PartsSize.{run_size_front, run_size_back}
use Rattle.model.proofs.PartsRule.{whole, filled_from, parts_filled, Fits}

-- what holds of all entries holds in each part
pub all_whole : (P : Entry → Type 0) (ps : List (List Entry)) → AllByRecursion P (whole ps) → AllByRecursion (AllByRecursion P) ps
all_whole P [] h = tt
all_whole P (p ∷ ps) h = (all_front P p (whole ps) h, all_whole P ps (all_back P p (whole ps) h))

-- THE SIZE OF A PART: no part is larger than all of them together
pub parts_no_larger : (n : ℕ) (ps : List (List Entry)) → run_size (whole ps) ≤ n → AllByRecursion (λ (p : List Entry). run_size p ≤ n) ps
parts_no_larger n [] h = tt
parts_no_larger n (p ∷ ps) h =
    let a = run_size_front p (whole ps) in
    let b = run_size_back p (whole ps) in
    (omega arith, parts_no_larger n ps (omega arith))

-- EACH PART HAS AN ENTRY
pub parts_full : (ceiling : ℕ) (es : List Entry) → 0 < length es → AllByRecursion (Fits ceiling) es → AllByRecursion (λ (p : List Entry). 0 < length p) (parts ceiling es)
parts_full c [] h f = absurd (omega arith)
parts_full c (e ∷ es) h f = parts_filled c (e ∷ es) (record { least = let g = f.0 in omega arith; short = f }) h

-- CUTS: one before each part but the first
pub cuts_of_full : (ps : List (List Entry)) → AllByRecursion (λ (p : List Entry). 0 < length p) ps → length (flat_map cuts_of ps) ≡ length ps
cuts_of_full [] h = refl
cuts_of_full ([] ∷ ps) h = let a = h.0 in absurd (omega arith)
cuts_of_full ((e ∷ es) ∷ ps) h = ap suc (cuts_of_full ps h.1)

pub parts_from_cuts : (ceiling : ℕ) (run es : List Entry) → suc (length (cuts_before (parts_from ceiling run es))) ≡ length (parts_from ceiling run es)
parts_from_cuts c run [] = refl
parts_from_cuts c run (e ∷ es) =
    cond_both (leb (run_size (run ++ e ∷ [])) c) (parts_from c (run ++ e ∷ []) es) (run ∷ parts_from c (e ∷ []) es)
    (λ (ps : List (List Entry)). suc (length (cuts_before ps)) ≡ length ps)
    (λ t. parts_from_cuts c (run ++ e ∷ []) es)
    (λ t. ap suc (cuts_of_full (parts_from c (e ∷ []) es) (filled_from c (e ∷ []) es (omega arith))))

pub parts_are_cuts_and_one : (ceiling : ℕ) (s : Subtable) → suc (length (cuts ceiling s)) ≡ length (parts ceiling (entries s))
parts_are_cuts_and_one c s = parts_from_cuts c [] (entries s)
