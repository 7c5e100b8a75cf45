-- What is known of format 1: its parts, the laws of a codec, and what is written.
use Rattle.std.specs.Prelude.{◌≡◌, ℕ, ◌+◌, ◌*◌, ◌%◌, ◌≤◌, true, List, ◌∷◌, ◌++◌, length, take, Some, None, refl}
use Rattle.std.proofs.Common.{sym, ap, ◌∙◌, inl, inr, arith, length-append}
use Rattle.std.proofs.lemmas.List.{take_at}
use Rattle.std.proofs.lemmas.Bool.{and_parts, and_from, leb-true, eqb-true, le-leb, eq-eqb, cases_Bool, cond-true, cond-false}
use Rattle.data_bytes.specs.BigEndian.{word16}
use Rattle.data_bytes.specs.Values.{value_bytes, values, values_at}
use Rattle.data_bytes.proofs.ValueLists.{length-value_bytes, values_value_bytes, length-values_at, word16_front, length_front, values_at_front}
use Rattle.coverage.specs.Glyphs.{is_glyph_list_of, GlyphList}
use Rattle.coverage.specs.Meaning.{Meant}
use Rattle.coverage_list.specs.Format1.{array_glyphs, array_end, is_array, array_meaning, array_bytes, array_span}

-- an array by its parts
pub record Array (bs : List ℕ) : Type 0 where
  pub four : 4 ≤ length bs
  pub one : word16 bs 0 ≡ 1
  pub fits : array_end bs ≤ length bs
  pub list : GlyphList (array_glyphs bs)

pub array : (bs : List ℕ) → is_array bs ≡ true → Array bs
unfolding is_array
array bs h =
    let a = and_parts _ _ h in
    let b = and_parts _ _ a.1 in
    let c = and_parts _ _ b.1 in
    record { four = leb-true _ _ a.0; one = eqb-true _ _ b.0; fits = leb-true _ _ c.0; list = c.1 }

pub is_array_lem : (bs : List ℕ) → Array bs → is_array bs ≡ true
unfolding is_array
is_array_lem bs a = and_from _ _ (le-leb _ _ a.four) (and_from _ _ (eq-eqb _ _ a.one) (and_from _ _ (le-leb _ _ a.fits) a.list))

pub array_meaning_lem : (bs : List ℕ) → Array bs → array_meaning bs ≡ Some (array_glyphs bs, array_end bs)
unfolding array_meaning
array_meaning_lem bs a = cond-true _ _ _ (is_array_lem bs a)

pub no_array : (bs : List ℕ) → (Array bs → ⊥) → array_meaning bs ≡ None
unfolding array_meaning
no_array bs h = elim (cases_Bool (is_array bs)) [ inl t ↦ absurd (h (array bs t)) | inr f ↦ cond-false _ _ _ f ]

-- what a meaning says of the bytes
pub record Meaning (bs gs : List ℕ) (e : ℕ) : Type 0 where
  pub is : Array bs
  pub glyphs : array_glyphs bs ≡ gs
  pub end : array_end bs ≡ e
  pub count : length gs ≡ word16 bs 2

pub meaning : (bs gs : List ℕ) (e : ℕ) → array_meaning bs ≡ Some (gs, e) → Meaning bs gs e
meaning bs gs e h =
    elim (cases_Bool (is_array bs)) [
      | inl t ↦
          let a = array bs t in
          let m = array_meaning_lem bs a in
          let p : ◌≡◌ {A = Meant} (array_glyphs bs, array_end bs) (gs, e) = cc in
          let g = ap (λ (z : Meant). z.0) p in
          record { is = a; glyphs = g; end = ap (λ (z : Meant). z.1) p; count = ap length (sym g) ∙ length-values_at bs 4 (word16 bs 2) a.fits }
      | inr f ↦ let n = no_array bs (λ a. let t = is_array_lem bs a in absurd (cc)) in absurd (cc)
    ]

-- the laws
pub front : (bs gs more : List ℕ) (e : ℕ) → array_meaning bs ≡ Some (gs, e) → array_meaning (take e bs ++ more) ≡ Some (gs, e)
front bs gs more e h =
    let m = meaning bs gs e h in
    let end = m.end in
    let fits = m.is.fits in
    let t = take e bs ++ more in
    let within : e ≤ length bs = omega arith in
    let l = length_front bs more e within in
    let w0 = word16_front bs more e within 0 (omega arith) in
    let w2 = word16_front bs more e within 2 (omega arith) in
    let g : array_glyphs t ≡ array_glyphs bs = ap (values_at t 4) w2 ∙ values_at_front bs more e within 4 (word16 bs 2) (omega arith) in
    let e' : array_end t ≡ e = ap (λ n. 4 + 2 * n) w2 ∙ m.end in
    let a : Array t = record { four = omega arith; one = w0 ∙ m.is.one; fits = omega arith; list = ap is_glyph_list_of g ∙ m.is.list } in
    array_meaning_lem t a ∙ ap (λ z. Some (z, array_end t)) (g ∙ m.glyphs) ∙ ap (λ z. Some (gs, z)) e'

pub within : (bs gs : List ℕ) (e : ℕ) → array_meaning bs ≡ Some (gs, e) → e ≤ length bs
within bs gs e h = let m = meaning bs gs e h in let a = m.end in let b = m.is.fits in omega arith

pub even : (bs gs : List ℕ) (e : ℕ) → array_meaning bs ≡ Some (gs, e) → e % 2 ≡ 0
even bs gs e h = let m = meaning bs gs e h in let a = m.end in omega arith

pub short : (bs gs : List ℕ) (e : ℕ) → array_meaning bs ≡ Some (gs, e) → e ≤ 4 + 6 * length gs
short bs gs e h = let m = meaning bs gs e h in let a = m.end in let c = m.count in omega arith

pub sound : (bs gs : List ℕ) (e : ℕ) → array_meaning bs ≡ Some (gs, e) → GlyphList gs
sound bs gs e h = let m = meaning bs gs e h in ap is_glyph_list_of (sym m.glyphs) ∙ m.is.list

pub spans : (gs : List ℕ) → (array_span gs % 2 ≡ 0) × (array_span gs ≤ 4 + 6 * length gs)
spans gs = (omega arith, omega arith)

-- what is written means the list
pub length-array_bytes : (gs : List ℕ) → length (array_bytes gs) ≡ array_span gs
length-array_bytes gs = let l = length-value_bytes (1 ∷ length gs ∷ gs) in omega arith

pub bytes_mean : (gs more : List ℕ) → GlyphList gs → array_meaning (array_bytes gs ++ more) ≡ Some (gs, array_span gs)
bytes_mean gs more g =
    let bs = array_bytes gs ++ more in
    let n = length gs in
    let l = length-value_bytes gs in
    let la = length-append (value_bytes gs) more in
    let lb : length bs ≡ 4 + length (value_bytes gs ++ more) = omega arith in
    let w2 : word16 bs 2 ≡ n = omega arith in
    let v : values_at bs 4 n ≡ gs = ap values (take_at (value_bytes gs) more (2 * n) l) ∙ values_value_bytes gs in
    let gl : array_glyphs bs ≡ gs = ap (values_at bs 4) w2 ∙ v in
    let a : Array bs = record { four = omega arith; one = refl; fits = omega arith; list = ap is_glyph_list_of gl ∙ g } in
    array_meaning_lem bs a ∙ ap (λ z. Some (z, array_end bs)) gl ∙ ap (λ z. Some (gs, 4 + 2 * z)) w2
