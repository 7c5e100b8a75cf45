-- Unbroken runs as they are printed, part by part of a list.
use Rattle.std.proofs.Common.{◌≡◌, ℕ, suc, ◌+◌, ◌-◌, ◌<◌, Bool, List, [], ◌∷◌, ◌++◌, length, get_or, codes, decimal, ◌==◌, Bor, sym, refl, ap, ◌∙◌, arith}
use Rattle.std.proofs.lemmas.Bool.{eq-eqb, ne_eqb, cond-true, cond-false}
use Rattle.std.specs.Fn.{ComputesOnPairs}
use Rattle.std.specs.Iterator.{Yields}
use Rattle.std.specs.List.{flat_map}
use Rattle.std.specs.Slice.Iter.{chunk_by_steps, chunk_by_rest, chunk_by_callee}
use Rattle.std.specs.declared.slice.ChunkBy.{ChunkBy}
use Rattle.coverage_opentype.specs.Unbroken.{run}
use Rattle.coverage_opentype.proofs.Runs.{follows_it, runs_at, part_counts, one_run, no_length}
use Rattle.cover_text.specs.Text.{spaced_range}
use denote.Param.Members.{Mut}

-- what is printed of a part
abbrev pub run_text : List ℕ → List ℕ
run_text [] = []
run_text (g ∷ []) = codes " " ++ decimal g
run_text (g ∷ h ∷ gs) = codes " " ++ (decimal g ++ (codes "-" ++ decimal (get_or (h ∷ gs) (length gs) 0)))

abbrev pub part_text : Bor (List ℕ) → List ℕ
part_text part = run_text part.now

-- a part that counts up is printed as its range
part_range : (i : ℕ) (gs : List ℕ) → 0 < length gs → ((k : ℕ) → k < length gs → get_or gs k 0 ≡ get_or gs 0 0 + k) → run_text gs ≡ spaced_range (run (get_or gs 0 0) (get_or gs (length gs - 1) 0) i)
part_range i [] some up = absurd (omega arith)
part_range i (g ∷ []) some up = ap (λ t. codes " " ++ t) (sym (cond-true (g == g) _ _ (eq-eqb g g refl)))
part_range i (g ∷ h ∷ gs) some up =
    let e = up (suc (length gs)) (omega arith) in
    let last : suc (length gs) ≡ length (g ∷ h ∷ gs) - 1 = omega arith in
    ap (λ t. codes " " ++ t) (sym (cond-false (g == get_or (h ∷ gs) (length gs) 0) (decimal g) _ (ne_eqb g _ (λ q. omega arith))))
    ∙ ap (λ k. spaced_range (run g (get_or (g ∷ h ∷ gs) k 0) i)) last

-- all parts are printed as the runs
pub all_runs : {F : Type 0} (g : Mut F (Bor ℕ × (Bor ℕ × Unit {0})) Bool) (i : ℕ) (s t : ChunkBy ℕ F) (parts : List (Bor (List ℕ))) → ComputesOnPairs g follows_it (chunk_by_callee s) → Yields (chunk_by_steps g) s parts t → length (chunk_by_rest t) ≡ 0 → flat_map part_text parts ≡ flat_map spaced_range (runs_at i (chunk_by_rest s))
all_runs g i s t [] c y e = ap (λ z. flat_map spaced_range (runs_at i z)) (sym (no_length (chunk_by_rest s) (ap (λ (z : ChunkBy ℕ _). length (chunk_by_rest z)) y ∙ e)))
all_runs g i s t (x ∷ parts) c (j, d, y) e =
    let m = d.2 follows_it c in
    ap (λ z. part_text x ++ z) (all_runs g (i + length x.now) j t parts m.0 y e)
    ∙ ap (λ z. z ++ flat_map spaced_range (runs_at (i + length x.now) (chunk_by_rest j))) (part_range i x.now d.1 (part_counts (chunk_by_rest s) x.now (chunk_by_rest j) d.0 m.1))
    ∙ sym (ap (flat_map spaced_range) (one_run i (chunk_by_rest s) x.now (chunk_by_rest j) d.0 d.1 m.1))
