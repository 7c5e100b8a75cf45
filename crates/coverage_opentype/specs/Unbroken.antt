-- Unbroken runs: they are ranges in order that cover the list, with gaps between them, and the only such ranges.
use Rattle.std.specs.Prelude.{◌≡◌, ℕ, zero, suc, ◌+◌, ◌-◌, ◌<◌, ◌≤◌, true, List, [], ◌∷◌, ◌++◌, length, ◌==◌, ◌≢◌, nat_le, nat_lt, slice_index_or, refl}
use Rattle.std.proofs.Common.{sym, ap, ◌∙◌, subst, ⊎_elim, append_assoc, arith}
use Rattle.std.specs.List.{range_with_len}
use Rattle.std.proofs.lemmas.Bool.{and_parts, and_from, ltb-true, leb-true, eqb-true, le-leb, eq-eqb, ne_eqb, cases_eq, cond-true, cond-false}
use Rattle.coverage.specs.Glyphs.{above, rises}
use Rattle.coverage_opentype.specs.declared.ranges.GlyphRange.{GlyphRange}
use Rattle.coverage_opentype.specs.Format2.{covers, covered, forward, apart, numbered, runs_from, runs, Gaps}
use Rattle.coverage_opentype.specs.Covering.{counting_push, Order, length-covers}

abbrev pub run : ℕ → ℕ → ℕ → GlyphRange
run s l i = record { start = s; end = l; index = i }

-- one glyph more in the run at hand
run_longer : (s l : ℕ) (gs : List ℕ) → s ≤ l → range_with_len s (suc (suc l) - s) ++ gs ≡ range_with_len s (suc l - s) ++ suc l ∷ gs
run_longer s l gs le =
    let n : suc (suc l) - s ≡ suc (suc l - s) = omega arith in
    let e : s + (suc l - s) ≡ suc l = omega arith in
    ap (λ t. range_with_len s t ++ gs) n
    ∙ ap (λ t. t ++ gs) (counting_push s (suc l - s) ∙ ap (λ t. range_with_len s (suc l - s) ++ t ∷ []) e)
    ∙ append_assoc (range_with_len s (suc l - s)) (suc l ∷ []) gs

-- the two ways that a walk goes on
module _ (s l i g : ℕ) (gs : List ℕ) where
  pub runs_on : g ≡ suc l → runs_from s l i (g ∷ gs) ≡ runs_from s g i gs
  runs_on e = cond-true _ _ _ (eq-eqb g (suc l) e)

  pub runs_break : (g ≢ suc l) → runs_from s l i (g ∷ gs) ≡ run s l i ∷ runs_from g g (i + (suc l - s)) gs
  runs_break ne = cond-false _ _ _ (ne_eqb g (suc l) ne)

covered_runs : (s l i : ℕ) (gs : List ℕ) → s ≤ l → covered (runs_from s l i gs) ≡ range_with_len s (suc l - s) ++ gs
covered_runs s l i [] le = refl
covered_runs s l i (g ∷ gs) le =
    ⊎_elim
    (λ e.
    ap covered (runs_on s l i g gs e) ∙ covered_runs s g i gs (omega arith)
    ∙ ap (λ t. range_with_len s (suc t - s) ++ gs) e ∙ run_longer s l gs le ∙ ap (λ t. range_with_len s (suc l - s) ++ t ∷ gs) (sym e))
    (λ ne.
    let one : suc g - g ≡ 1 = omega arith in
    ap covered (runs_break s l i g gs ne) ∙ ap (λ t. range_with_len s (suc l - s) ++ t) (covered_runs g g (i + (suc l - s)) gs (omega arith) ∙ ap (λ t. range_with_len g t ++ gs) one))
    (cases_eq g (suc l))

forward-runs : (s l i : ℕ) (gs : List ℕ) → s ≤ l → forward (runs_from s l i gs) ≡ true
forward-runs s l i [] le = and_from (nat_le s l) true (le-leb s l le) refl
forward-runs s l i (g ∷ gs) le =
    ⊎_elim
    (λ e. ap forward (runs_on s l i g gs e) ∙ forward-runs s g i gs (omega arith))
    (λ ne. ap forward (runs_break s l i g gs ne) ∙ and_from (nat_le s l) _ (le-leb s l le) (forward-runs g g (i + (suc l - s)) gs (omega arith)))
    (cases_eq g (suc l))

numbered_runs : (s l i : ℕ) (gs : List ℕ) → s ≤ l → numbered i (runs_from s l i gs) ≡ true
numbered_runs s l i [] le = and_from (i == i) true (eq-eqb i i refl) refl
numbered_runs s l i (g ∷ gs) le =
    ⊎_elim
    (λ e. ap (numbered i) (runs_on s l i g gs e) ∙ numbered_runs s g i gs (omega arith))
    (λ ne.
    ap (numbered i) (runs_break s l i g gs ne)
    ∙ and_from (i == i) _ (eq-eqb i i refl)
    (ap (λ t. numbered (i + t) (runs_from g g (i + (suc l - s)) gs)) (length-covers (run s l i)) ∙ numbered_runs g g (i + (suc l - s)) gs (omega arith)))
    (cases_eq g (suc l))

apart_runs : (low s l i : ℕ) (gs : List ℕ) → low ≤ s → s ≤ l → above l gs ≡ true → apart low (runs_from s l i gs) ≡ true
apart_runs low s l i [] a le up = and_from (nat_le low s) true (le-leb low s a) refl
apart_runs low s l i (g ∷ gs) a le up =
    let p = and_parts (nat_lt l g) (above g gs) up in
    let lt = ltb-true l g p.0 in
    ⊎_elim
    (λ e. ap (apart low) (runs_on s l i g gs e) ∙ apart_runs low s g i gs a (omega arith) p.1)
    (λ ne. ap (apart low) (runs_break s l i g gs ne) ∙ and_from (nat_le low s) _ (le-leb low s a) (apart_runs (suc l) g g (i + (suc l - s)) gs lt (omega arith) p.1))
    (cases_eq g (suc l))

-- gaps, one range at a time
gaps_one : (r : GlyphRange) → Gaps (r ∷ [])
gaps_one r k d lt = absurd (omega arith)

gaps_cons : (r : GlyphRange) (rs : List GlyphRange) → ((d : GlyphRange) → suc r.end < (slice_index_or rs 0 d).start) → Gaps rs → Gaps (r ∷ rs)
gaps_cons r rs h g zero d lt = h d
gaps_cons r rs h g (suc k) d lt = g k d (omega arith)

gaps_rest : (r : GlyphRange) (rs : List GlyphRange) → Gaps (r ∷ rs) → Gaps rs
gaps_rest r rs g k d lt = g (suc k) d (omega arith)

first_run : (s l i : ℕ) (gs : List ℕ) (d : GlyphRange) → (slice_index_or (runs_from s l i gs) 0 d).start ≡ s
first_run s l i [] d = refl
first_run s l i (g ∷ gs) d =
    ⊎_elim
    (λ e. ap (λ (t : List GlyphRange). (slice_index_or t 0 d).start) (runs_on s l i g gs e) ∙ first_run s g i gs d)
    (λ ne. ap (λ (t : List GlyphRange). (slice_index_or t 0 d).start) (runs_break s l i g gs ne))
    (cases_eq g (suc l))

gaps_runs : (s l i : ℕ) (gs : List ℕ) → above l gs ≡ true → Gaps (runs_from s l i gs)
gaps_runs s l i [] up = gaps_one (run s l i)
gaps_runs s l i (g ∷ gs) up =
    let p = and_parts (nat_lt l g) (above g gs) up in
    let lt = ltb-true l g p.0 in
    ⊎_elim
    (λ e. subst Gaps (sym (runs_on s l i g gs e)) (gaps_runs s g i gs p.1))
    (λ ne.
    subst Gaps (sym (runs_break s l i g gs ne))
    (gaps_cons (run s l i) (runs_from g g (i + (suc l - s)) gs)
    (λ d. let f = first_run g g (i + (suc l - s)) gs d in omega arith)
    (gaps_runs g g (i + (suc l - s)) gs p.1)))
    (cases_eq g (suc l))

-- the runs of a list that rises
pub covered_of_runs : (gs : List ℕ) → covered (runs gs) ≡ gs
covered_of_runs [] = refl
covered_of_runs (g ∷ gs) = let one : suc g - g ≡ 1 = omega arith in covered_runs g g 0 gs (omega arith) ∙ ap (λ t. range_with_len g t ++ gs) one

pub order_of_runs : (gs : List ℕ) → rises gs ≡ true → Order (runs gs)
order_of_runs [] up = record { goes = refl; parts = refl; counts = refl }
order_of_runs (g ∷ gs) up = record { goes = forward-runs g g 0 gs (omega arith); parts = apart_runs 0 g g 0 gs (omega arith) (omega arith) up; counts = numbered_runs g g 0 gs (omega arith) }

pub gaps_of_runs : (gs : List ℕ) → rises gs ≡ true → Gaps (runs gs)
gaps_of_runs [] up = λ k d lt. absurd (omega arith)
gaps_of_runs (g ∷ gs) up = gaps_runs g g 0 gs up

-- ranges with gaps are the runs of what they cover
pub runs_through : (s l i k : ℕ) (gs : List ℕ) → runs_from s l i (range_with_len (l + 1) k ++ gs) ≡ runs_from s (l + k) i gs
runs_through s l i zero gs = ap (λ t. runs_from s t i gs) (omega arith)
runs_through s l i (suc k) gs =
    runs_on s l i (l + 1) (range_with_len (l + 1 + 1) k ++ gs) (omega arith)
    ∙ runs_through s (l + 1) i k gs ∙ ap (λ t. runs_from s t i gs) (omega arith)

-- a range's glyphs behind its first
covers_first : (r : GlyphRange) (gs : List ℕ) → r.start ≤ r.end → covers r ++ gs ≡ r.start ∷ (range_with_len (r.start + 1) (r.end - r.start) ++ gs)
covers_first r gs le = let n : suc r.end - r.start ≡ suc (r.end - r.start) = omega arith in ap (λ t. range_with_len r.start t ++ gs) n

runs_back : (s l i : ℕ) (rs : List GlyphRange) → forward rs ≡ true → numbered (i + (suc l - s)) rs ≡ true → Gaps (run s l i ∷ rs) → runs_from s l i (covered rs) ≡ run s l i ∷ rs
runs_back s l i [] f n g = refl
runs_back s l i (r ∷ rs) f n g =
    let p = and_parts (nat_le r.start r.end) (forward rs) f in
    let q = and_parts (r.index == i + (suc l - s)) (numbered (i + (suc l - s) + length (covers r)) rs) n in
    let le = leb-true r.start r.end p.0 in
    let ix = eqb-true r.index (i + (suc l - s)) q.0 in
    let gap = g 0 r (omega arith) in
    let j = i + (suc l - s) in
    let e : r.start + (r.end - r.start) ≡ r.end = omega arith in
    let n' : numbered (j + (suc r.end - r.start)) rs ≡ true = ap (λ t. numbered (j + t) rs) (sym (length-covers r)) ∙ q.1 in
    let is : run r.start r.end j ≡ r = ap (run r.start r.end) (sym ix) in
    let g' : Gaps (run r.start r.end j ∷ rs) = subst (λ (t : GlyphRange). Gaps (t ∷ rs)) (sym is) (gaps_rest (run s l i) (r ∷ rs) g) in
    ap (runs_from s l i) (covers_first r (covered rs) le)
    ∙ runs_break s l i r.start (range_with_len (r.start + 1) (r.end - r.start) ++ covered rs) (λ q. omega arith)
    ∙ ap (λ t. run s l i ∷ t)
    (runs_through r.start r.start j (r.end - r.start) (covered rs)
    ∙ ap (λ t. runs_from r.start t j (covered rs)) e
    ∙ runs_back r.start r.end j rs p.1 n' g'
    ∙ ap (λ t. t ∷ rs) is)

pub runs_of_covered : (rs : List GlyphRange) → Order rs → Gaps rs → runs (covered rs) ≡ rs
runs_of_covered [] o g = refl
runs_of_covered (r ∷ rs) o g =
    let p = and_parts (nat_le r.start r.end) (forward rs) o.goes in
    let q = and_parts (r.index == 0) (numbered (0 + length (covers r)) rs) o.counts in
    let le = leb-true r.start r.end p.0 in
    let ix = eqb-true r.index 0 q.0 in
    let e : r.start + (r.end - r.start) ≡ r.end = omega arith in
    let is : run r.start r.end 0 ≡ r = ap (run r.start r.end) (sym ix) in
    let n' : numbered (0 + (suc r.end - r.start)) rs ≡ true = ap (λ t. numbered (0 + t) rs) (sym (length-covers r)) ∙ q.1 in
    ap runs (covers_first r (covered rs) le)
    ∙ runs_through r.start r.start 0 (r.end - r.start) (covered rs)
    ∙ ap (λ t. runs_from r.start t 0 (covered rs)) e
    ∙ runs_back r.start r.end 0 rs p.1 n' (subst (λ (t : GlyphRange). Gaps (t ∷ rs)) (sym is) g)
    ∙ ap (λ t. t ∷ rs) is

-- a run has a glyph
length-runs_from : (s l i : ℕ) (gs : List ℕ) → length (runs_from s l i gs) ≤ suc (length gs)
length-runs_from s l i [] = omega arith
length-runs_from s l i (g ∷ gs) =
    ⊎_elim
    (λ e. let h = length-runs_from s g i gs in let r = ap length (runs_on s l i g gs e) in omega arith)
    (λ ne. let h = length-runs_from g g (i + (suc l - s)) gs in let r = ap length (runs_break s l i g gs ne) in omega arith)
    (cases_eq g (suc l))

pub runs_few : (gs : List ℕ) → length (runs gs) ≤ length gs
runs_few [] = omega arith
runs_few (g ∷ gs) = length-runs_from g g 0 gs
