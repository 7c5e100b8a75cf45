-- Format 2 as it is written: range by range, and what the bytes then mean.
use Rattle.std.specs.Prelude.{◌≡◌, ℕ, zero, suc, ◌+◌, ◌*◌, ◌<◌, List, [], ◌∷◌, ◌++◌, length, get_or, Some, slice_index, slice_index_or, refl}
use Rattle.std.proofs.Common.{sym, ap, ◌∙◌, arith, length-append}
use Rattle.std.proofs.lemmas.List.{ext_get_or}
use Rattle.data_bytes.specs.BigEndian.{word16}
use Rattle.data_bytes.specs.Values.{value_bytes}
use Rattle.data_bytes.proofs.ValueLists.{length-value_bytes, word16-value_bytes}
use Rattle.coverage.specs.Glyphs.{is_glyph_list_of, GlyphList}
use Rattle.coverage.proofs.Lists.{listed}
use Rattle.coverage_opentype.specs.declared.ranges.GlyphRange.{GlyphRange}
use Rattle.coverage_opentype.specs.Format2.{range_at_of, ranges_at, range_meaning, runs, range_values, range_bytes, range_span}
use Rattle.coverage_opentype.specs.Covering.{range_at, table_found, in_order_lem, length-ranges_at, get_d_ranges_at}
use Rattle.coverage_opentype.specs.Unbroken.{covered_of_runs, order_of_runs}

pub length-range_values : (rs : List GlyphRange) → length (range_values rs) ≡ 3 * length rs
length-range_values [] = refl
length-range_values (r ∷ rs) = let h = length-range_values rs in omega arith

range_values-append : (rs ss : List GlyphRange) → range_values (rs ++ ss) ≡ range_values rs ++ range_values ss
range_values-append [] ss = refl
range_values-append (r ∷ rs) ss = ap (λ t. r.start ∷ r.end ∷ r.index ∷ t) (range_values-append rs ss)

pub length-range_bytes : (gs : List ℕ) → length (range_bytes gs) ≡ range_span gs
length-range_bytes gs =
    let a = length-value_bytes (2 ∷ length (runs gs) ∷ range_values (runs gs)) in
    let b = length-range_values (runs gs) in
    omega arith

-- what is written means the list
get_d_range_values : (rs : List GlyphRange) (k : ℕ) (d : GlyphRange) → k < length rs → (slice_index (range_values rs) (3 * k) ≡ (get_or rs k d).start) × (slice_index (range_values rs) (3 * k + 1) ≡ (get_or rs k d).end) × (slice_index (range_values rs) (3 * k + 2) ≡ (get_or rs k d).index)
get_d_range_values [] k d lt = absurd (omega arith)
get_d_range_values (r ∷ rs) zero d lt = (refl, refl, refl)
get_d_range_values (r ∷ rs) (suc k) d lt =
    let h = get_d_range_values rs k d (omega arith) in
    let a : 3 * suc k ≡ suc (suc (suc (3 * k))) = omega arith in
    let b : 3 * suc k + 1 ≡ suc (suc (suc (3 * k + 1))) = omega arith in
    let c : 3 * suc k + 2 ≡ suc (suc (suc (3 * k + 2))) = omega arith in
    (ap (λ z. slice_index (range_values (r ∷ rs)) z) a ∙ h.0, ap (λ z. slice_index (range_values (r ∷ rs)) z) b ∙ h.1, ap (λ z. slice_index (range_values (r ∷ rs)) z) c ∙ h.2)

value_of : (vs more : List ℕ) (i j : ℕ) → i ≡ 2 * j → j < length vs → word16 (value_bytes vs ++ more) i ≡ slice_index vs j
value_of vs more i j e lt = ap (word16 (value_bytes vs ++ more)) e ∙ word16-value_bytes vs more j lt

rendered_at : (n : ℕ) (rs : List GlyphRange) (more : List ℕ) (k : ℕ) (d : GlyphRange) → k < length rs → range_at_of (value_bytes (2 ∷ n ∷ range_values rs) ++ more) k ≡ slice_index_or rs k d
rendered_at n rs more k d lt =
    let vs = 2 ∷ n ∷ range_values rs in
    let l = length-range_values rs in
    let h = get_d_range_values rs k d lt in
    range_at (value_bytes vs ++ more) k _ _ _
    (value_of vs more (4 + 6 * k) (suc (suc (3 * k))) (omega arith) (omega arith) ∙ h.0)
    (value_of vs more (6 + 6 * k) (suc (suc (3 * k + 1))) (omega arith) (omega arith) ∙ h.1)
    (value_of vs more (8 + 6 * k) (suc (suc (3 * k + 2))) (omega arith) (omega arith) ∙ h.2)

rendered : (n : ℕ) (rs : List GlyphRange) (more : List ℕ) → ranges_at (value_bytes (2 ∷ n ∷ range_values rs) ++ more) (length rs) ≡ rs
rendered n rs more =
    let d : GlyphRange = record { start = 0; end = 0; index = 0 } in
    let bs = value_bytes (2 ∷ n ∷ range_values rs) ++ more in
    let l = length-ranges_at bs (length rs) in
    ext_get_or d (ranges_at bs (length rs)) rs l (λ k lt. get_d_ranges_at bs (length rs) k d (omega arith) ∙ rendered_at n rs more k d (omega arith))

pub bytes_mean : (gs more : List ℕ) → GlyphList gs → range_meaning (range_bytes gs ++ more) ≡ Some (gs, range_span gs)
bytes_mean gs more g =
    let rs = runs gs in
    let n = length rs in
    let bs = range_bytes gs ++ more in
    let lb = length-range_bytes gs in
    let la = length-append (range_bytes gs) more in
    let w0 : word16 bs 0 ≡ 2 = value_of (2 ∷ n ∷ range_values rs) more 0 0 (omega arith) (omega arith) in
    let w2 : word16 bs 2 ≡ n = value_of (2 ∷ n ∷ range_values rs) more 2 1 (omega arith) (omega arith) in
    let c = covered_of_runs gs in
    table_found bs n rs (sym w2) (sym (rendered n rs more)) (omega arith) w0 (omega arith) (in_order_lem rs (order_of_runs gs (listed gs g).rise)) (ap is_glyph_list_of c ∙ g) ∙ ap (λ z. Some (z, 4 + 6 * n)) c
