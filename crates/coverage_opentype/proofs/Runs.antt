-- The parts that `chunk_by` makes of a glyph list are its unbroken runs, and how many runs a list has.
use Rattle.std.proofs.Common.{◌≡◌, ℕ, zero, suc, false, ◌+◌, ◌-◌, ◌<◌, ◌≤◌, ◌&&◌, Bool, cond, eqb, ltb, List, [], ◌∷◌, ◌++◌, length, get_or, drop, sym, refl, ap, ◌∙◌, inl, inr, arith, length-append}
use Rattle.std.specs.List.{range_with_len, IsChunkByPrefix}
use Rattle.std.proofs.lemmas.List.{ext_get_or, get_or_append_left, get_or-append-add, at_drop_more}
use Rattle.std.proofs.lemmas.List.FromFn.{length-range_with_len, get_or-range_with_len}
use Rattle.std.proofs.lemmas.Bool.{eqb-true, eq-eqb, both_ways, cases_Bool, cond-true, cond-false, le-ltb}
use Rattle.coverage.specs.Glyphs.{above, rises}
use Rattle.coverage_opentype.specs.declared.ranges.GlyphRange.{GlyphRange}
use Rattle.coverage_opentype.specs.Format2.{runs_from, runs}
use Rattle.coverage_opentype.specs.Unbroken.{run, runs_on, runs_break, runs_through}

abbrev pub follows_it : ℕ → ℕ → Bool
follows_it a b = eqb b (suc a)

-- the runs of what is left of a list, the first of them at that index
abbrev pub runs_at : ℕ → List ℕ → List GlyphRange
runs_at i [] = []
runs_at i (g ∷ gs) = runs_from g g i gs

pub runs_are : (gs : List ℕ) → runs_at 0 gs ≡ runs gs
runs_are [] = refl
runs_are (g ∷ gs) = refl

counts_up : (gs : List ℕ) (n : ℕ) → IsChunkByPrefix follows_it gs n → (k : ℕ) → k < n → get_or gs k 0 ≡ get_or gs 0 0 + k
counts_up gs n p zero lt = omega arith
counts_up gs n p (suc k) lt =
    let h = counts_up gs n p k (omega arith) in
    let e = eqb-true (get_or gs (k + 1) 0) (suc (get_or gs k 0)) (p.0 k 0 (omega arith)) in
    let i : get_or gs (suc k) 0 ≡ get_or gs (k + 1) 0 = ap (λ z. get_or gs z 0) (omega arith) in
    omega arith

run_stops : (s l i : ℕ) (rest : List ℕ) → (0 < length rest → eqb (get_or rest 0 0) (suc l) ≡ false) → runs_from s l i rest ≡ run s l i ∷ runs_at (i + (suc l - s)) rest
run_stops s l i [] h = refl
run_stops s l i (g ∷ gs) h = runs_break s l i g gs (λ e. both_ways _ (h (omega arith)) (eq-eqb g (suc l) e))

-- the glyphs of one part count up
pub part_counts : (gs xs rest : List ℕ) → gs ≡ xs ++ rest → IsChunkByPrefix follows_it gs (length xs) → (k : ℕ) → k < length xs → get_or xs k 0 ≡ get_or xs 0 0 + k
part_counts gs xs rest e p k lt =
    sym (ap (λ z. get_or z k 0) e ∙ get_or_append_left xs rest 0 k lt) ∙ counts_up gs (length xs) p k lt ∙ ap (λ z. z + k) (ap (λ z. get_or z 0 0) e ∙ get_or_append_left xs rest 0 0 (omega arith))

-- one part is the first run of what was left
pub one_run : (i : ℕ) (gs xs rest : List ℕ) → gs ≡ xs ++ rest → 0 < length xs → IsChunkByPrefix follows_it gs (length xs) → runs_at i gs ≡ run (get_or xs 0 0) (get_or xs (length xs - 1) 0) i ∷ runs_at (i + length xs) rest
one_run i gs xs rest e some p =
    let s = get_or xs 0 0 in
    let m = length xs - 1 in
    let at = part_counts gs xs rest e p in
    let last : get_or xs m 0 ≡ s + m = at m (omega arith) in
    let l = length-range_with_len s (suc m) in
    let is : xs ≡ range_with_len s (suc m) = ext_get_or 0 xs (range_with_len s (suc m)) (omega arith) (λ k lt. at k lt ∙ sym (get_or-range_with_len s (suc m) k 0 (omega arith))) in
    let stops = (λ (h : 0 < length rest).
    let a = length-append xs rest in
    let b = ap length e in
    let f : get_or gs (length xs) 0 ≡ get_or rest 0 0 = ap (λ z. get_or z (length xs) 0) e ∙ ap (λ z. get_or (xs ++ rest) z 0) (omega arith) ∙ get_or-append-add xs rest 0 0 in
    let g : get_or gs (length xs - 1) 0 ≡ s + m = ap (λ z. get_or z m 0) e ∙ get_or_append_left xs rest 0 m (omega arith) ∙ last in
    ap (λ z. eqb z (suc (s + m))) (sym f) ∙ ap (λ z. eqb (get_or gs (length xs) 0) (suc z)) (sym g) ∙ p.1 (omega arith) 0) in
    ap (runs_at i) (e ∙ ap (λ z. z ++ rest) is)
    ∙ runs_through s s i m rest
    ∙ run_stops s (s + m) i rest stops
    ∙ ap (λ z. run s (s + m) i ∷ runs_at (i + z) rest) (omega arith)
    ∙ ap (λ z. run s z i ∷ runs_at (i + length xs) rest) (sym last)

pub no_length : (gs : List ℕ) → length gs ≡ 0 → gs ≡ []
no_length [] e = refl
no_length (g ∷ gs) e = absurd (omega arith)

-- how many runs: one, and one more at each break
abbrev pub break_at : ℕ → ℕ → ℕ
break_at l g = cond (follows_it l g) 0 1

abbrev pub breaks : ℕ → List ℕ → ℕ
breaks l [] = 0
breaks l (g ∷ gs) = break_at l g + breaks g gs

pub length_runs : (s l i : ℕ) (gs : List ℕ) → length (runs_from s l i gs) ≡ suc (breaks l gs)
length_runs s l i [] = refl
length_runs s l i (g ∷ gs) =
    elim (cases_Bool (follows_it l g)) [
      | inl t ↦
          let h = length_runs s g i gs in
          let b : break_at l g ≡ 0 = cond-true (follows_it l g) 0 1 t in
          let r = ap length (runs_on s l i g gs (eqb-true _ _ t)) in
          omega arith
      | inr f ↦
          let h = length_runs g g (i + (suc l - s)) gs in
          let b : break_at l g ≡ 1 = cond-false (follows_it l g) 0 1 f in
          let r = ap length (runs_break s l i g gs (λ e. both_ways _ f (eq-eqb g (suc l) e))) in
          omega arith
    ]

pub runs_counted : (gs : List ℕ) → 0 < length gs → 1 + breaks (get_or gs 0 0) (drop 1 gs) ≡ length (runs gs)
runs_counted [] h = absurd (omega arith)
runs_counted (g ∷ gs) h = let l = length_runs g g 0 gs in omega arith

pub rises_behind : (gs : List ℕ) → 0 < length gs → rises gs ≡ above (get_or gs 0 0) (drop 1 gs)
rises_behind [] h = absurd (omega arith)
rises_behind (g ∷ gs) h = refl

pub above_stop : (xs : List ℕ) (k last g : ℕ) → k < length xs → g ≡ get_or xs k 0 → g ≤ last → above last (drop k xs) ≡ false
above_stop xs k last g lt is down =
    at_drop_more (above last) xs k 0 lt ∙ ap (λ z. ltb last z && above z (drop (k + 1) xs)) (sym is) ∙ ap (λ t. t && above g (drop (k + 1) xs)) (le-ltb last g down)
