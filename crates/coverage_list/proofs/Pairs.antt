-- The pairs of bytes that a table has behind its count, as the glyphs that they spell.
use Rattle.std.proofs.Common.{◌≡◌, ℕ, zero, suc, ◌+◌, ◌-◌, ◌*◌, ◌/◌, ◌<◌, ◌≤◌, true, false, ◌≢◌, List, [], ◌∷◌, ◌++◌, length, get_or, take, drop, set, Some, None, Bool, Option, ltb, inl, inr, subst, sym, refl, ap, ◌∙◌, arith}
use Rattle.std.proofs.lemmas.List.{get_or-map, length-map, map-id, take-append-drop}
use Rattle.std.proofs.lemmas.Bool.{cases_Bool}
use Rattle.std.proofs.lemmas.Iterator.{YieldsList}
use Rattle.std.proofs.lemmas.Iterator.Consumers.{YieldsList-so_far, YieldsList-end}
use Rattle.std.specs.Bool.{OnTrue, IsTrue}
use Rattle.std.specs.Iterator.{DrainsIf}
use Rattle.std.specs.Iterator.Runs.{SomeRun, YieldsRun}
use Rattle.std.specs.Iterator.Order.{IsSortedAnswer, ActsAsAtTwo}
use denote.Ref.{Bor}
use denote.Param.Members.{Mut}
use Rattle.std.proofs.lemmas.List.Edits.{paste_more}
use Rattle.std.proofs.Math.Nat.{zero-add}
use Rattle.std.specs.Simd.{first_chunks}
use Rattle.std.specs.List.{slice_range}
use Rattle.data_bytes.specs.BigEndian.{word16}
use Rattle.data_bytes.specs.Values.{values, values_at}
use Rattle.data_bytes.proofs.ValueLists.{get_d_values_at}
use Rattle.coverage.specs.Glyphs.{rises, is_glyph_list_of}
use Rattle.coverage.proofs.Lists.{listed, list_of_rise, rises_by, rises_front}
use Rattle.coverage_list.specs.Format1.{array_glyphs, array_end, array_meaning, pair_glyphs}
use Rattle.coverage_list.specs.Arrays.{array_meaning_lem, no_array}

chunk_values : (n : ℕ) (bs : List ℕ) → length bs ≡ 2 * n → pair_glyphs (first_chunks 2 n bs) ≡ values bs
chunk_values zero [] h = refl
chunk_values zero (x ∷ bs) h = absurd (omega arith)
chunk_values (suc n) [] h = absurd (omega arith)
chunk_values (suc n) (x ∷ []) h = absurd (omega arith)
chunk_values (suc n) (x ∷ y ∷ bs) h = ap (λ t. (x * 256 + y) ∷ t) (chunk_values n bs (omega arith))

-- as many pairs as the count says
pub record Counted (bs : List ℕ) (pairs : List (List ℕ)) : Type 0 where
  pub glyphs : pair_glyphs pairs ≡ array_glyphs bs
  pub count : length pairs ≡ word16 bs 2
  pub fits : array_end bs ≤ length bs

pub counted_pairs : (bs part : List ℕ) (pairs : List (List ℕ)) (n : ℕ) → n ≡ word16 bs 2
    → (4 ≤ 4 + 2 * n) × (4 + 2 * n ≤ length bs) × (part ≡ slice_range bs 4 (4 + 2 * n)) × (length part + 4 ≡ 4 + 2 * n)
    → pairs ≡ first_chunks 2 (length part / 2) part → length pairs ≡ length part / 2 → Counted bs pairs
counted_pairs bs part pairs n e cut chunks many =
    let fits = cut.1 in
    let long = cut.3 in
    let back : 4 + 2 * n - 4 ≡ 2 * n = omega arith in
    record {
      glyphs = ap pair_glyphs chunks ∙ chunk_values (length part / 2) part (omega arith) ∙ ap values (cut.2 ∙ ap (λ t. take t (drop 4 bs)) back) ∙ ap (values_at bs 4) e;
      count = omega arith;
      fits = omega arith;
    }

module _ (bs : List ℕ) (pairs : List (List ℕ)) (c : Counted bs pairs) where
  pub pairs_mean : 4 ≤ length bs → word16 bs 0 ≡ 1 → ((i : ℕ) → get_or bs i 0 < 256) → length pairs ≢ 0 → true ≡ rises (pair_glyphs pairs) → array_meaning bs ≡ Some (pair_glyphs pairs, 4 + 2 * length pairs)
  pairs_mean four one bytes some up =
      let n = c.count in
      let fits = c.fits in
      let l = length-map pairs (λ pair. word16 pair 0) in
      let high = bytes 2 in
      let low = bytes 3 in
      let narrow = λ (k : ℕ) (lt : k < length (pair_glyphs pairs)).
      let here = ap (λ t. get_or t k 0) c.glyphs ∙ get_d_values_at bs 4 (word16 bs 2) fits k (omega arith) in
      let high' = bytes (4 + 2 * k) in
      let low' = bytes (4 + 2 * k + 1) in
      let r : get_or (pair_glyphs pairs) k 0 < 65536 = omega arith in r in
      let list = sym (ap is_glyph_list_of c.glyphs) ∙ sym (list_of_rise (pair_glyphs pairs) (omega arith) (omega arith) narrow) ∙ sym up in
      array_meaning_lem bs (record { four = four; one = one; fits = fits; list = list })
      ∙ ap (λ t. Some (t, array_end bs)) (sym c.glyphs) ∙ ap (λ t. Some (pair_glyphs pairs, 4 + 2 * t)) (sym n)

  pub no_pairs : length pairs ≡ 0 → array_meaning bs ≡ None
  no_pairs none =
      no_array bs (λ a.
      let some = (listed _ a.list).some in
      let l = length-map pairs (λ pair. word16 pair 0) in
      let e = ap length c.glyphs in omega arith)

  pub falling_pairs : false ≡ rises (pair_glyphs pairs) → array_meaning bs ≡ None
  falling_pairs down = no_array bs (λ a. let up = (listed _ a.list).rise in let e = ap rises c.glyphs in cc)

-- `is_sorted_by` of an iterator, which may leave the last items
front_rises : (xs : List ℕ) (r : Bool) → IsSortedAnswer ltb xs r → r ≡ rises xs
front_rises xs true h = rises_by (λ x. x) xs true (λ k d lt. sym (h.0 k d lt)) ∙ ap rises (map-id xs)
front_rises xs false h = rises_by (λ x. x) xs false (h.0.0, h.0.1, λ d. sym (h.0.2 d)) ∙ ap rises (map-id xs)

module _ {S F : Type 0} {steps : S → Option ℕ → S → Type 0} {all : List ℕ} (g : Mut F (Bor ℕ × (Bor ℕ × Unit {0})) Bool) (f : F) where
  pub rises_along : (s : S) (r : Bool) → YieldsList steps (λ x. x) s all
      → SomeRun steps s (λ p. OnTrue r (IsTrue p.whole) × ((h : ℕ → ℕ → Bool) → ActsAsAtTwo g f h → IsSortedAnswer h p.items r))
      → ActsAsAtTwo g f ltb → r ≡ rises all
  unfolding YieldsRun
  rises_along s true e (p, from, (whole, up)) acts =
      let ran = subst (λ z. DrainsIf steps (p.whole ≡ true) z p.items) from p.gave.0 in
      let end = ran.2 whole in
      front_rises p.items true (up ltb acts) ∙ ap rises (sym (map-id p.items) ∙ (YieldsList-end e p.items ran.0 ran.1 None end.0 refl end.1).0)
  rises_along s false e (p, from, (_, down)) acts =
      let ran = subst (λ z. DrainsIf steps (p.whole ≡ true) z p.items) from p.gave.0 in
      let n = length p.items in
      let front : p.items ≡ take n all = sym (map-id p.items) ∙ YieldsList-so_far e p.items ran.0 ran.1 in
      elim (cases_Bool (rises all)) [
        | inl up ↦ let here = rises_front (take n all) (drop n all) (ap rises (take-append-drop n all) ∙ up) in absurd (cc (front_rises p.items false (down ltb acts)))
        | inr f ↦ sym f
      ]

-- one glyph more is copied; what is copied so far is what std calls a paste at 0
pub copied_more : (pairs : List (List ℕ)) (old now : List ℕ) (i glyph : ℕ) → i < length pairs → length pairs ≤ length old → now ≡ take i (pair_glyphs pairs) ++ drop i old
    → glyph ≡ word16 (get_or pairs i []) 0 → set now i glyph ≡ take (i + 1) (pair_glyphs pairs) ++ drop (i + 1) old
copied_more pairs old now i glyph lt room is here =
    let l = length-map pairs (λ pair. word16 pair 0) in
    let e = here ∙ sym (get_or-map (λ pair. word16 pair 0) pairs i [] 0 lt) in
    ap (λ t. set t i glyph) is ∙ ap (set (take i (pair_glyphs pairs) ++ drop i old) i) e ∙ simp zero-add at (paste_more old 0 (pair_glyphs pairs) i 0 (omega arith) (omega arith))
