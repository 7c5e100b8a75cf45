-- What is known of ranges in order: the glyphs that they cover, place by place, and what a table of them means.
use Rattle.std.specs.Prelude.{◌≡◌, ℕ, zero, suc, ◌+◌, ◌-◌, ◌*◌, ◌%◌, ◌<◌, ◌≤◌, Bool, true, false, cond, ◌&&◌, List, [], ◌∷◌, ◌++◌, length, get_or, take, drop, Some, None, nat_le, slice_index_or, refl}
use Rattle.std.proofs.Common.{sym, ap, ◌∙◌, inl, inr, arith, length-append}
use Rattle.std.specs.List.{range_with_len}
use Rattle.std.proofs.lemmas.List.FromFn.{length-range_with_len, length-map-range_with_len, get_or-map-range_with_len}
use Rattle.std.proofs.lemmas.List.{ext_get_or, get_or-drop}
use Rattle.std.proofs.lemmas.Bool.{and_parts, and_from, leb-true, eqb-true, le-leb, eq-eqb, cases_Bool, cond-true, cond-false}
use Rattle.data_bytes.specs.BigEndian.{word16}
use Rattle.data_bytes.proofs.ValueLists.{word16_front, length_front}
use Rattle.coverage.specs.Glyphs.{is_glyph_list_of, GlyphList}
use Rattle.coverage_opentype.specs.declared.ranges.GlyphRange.{GlyphRange}
use Rattle.coverage_opentype.specs.Format2.{meant, covers, covered, forward, apart, numbered, in_order, range_at_of, ranges_at, range_end_of, is_ranges, range_meaning}

pub counting_push : (a n : ℕ) → range_with_len a (suc n) ≡ range_with_len a n ++ (a + n) ∷ []
counting_push a zero = ap (λ t. t ∷ []) (omega arith)
counting_push a (suc n) =
    let e : a + 1 + n ≡ a + suc n = omega arith in
    ap (λ t. a ∷ t) (counting_push (a + 1) n ∙ ap (λ t. range_with_len (a + 1) n ++ t ∷ []) e)

-- order, by its parts
pub record Order (rs : List GlyphRange) : Type 0 where
  pub goes : forward rs ≡ true
  pub parts : apart 0 rs ≡ true
  pub counts : numbered 0 rs ≡ true

pub order : (rs : List GlyphRange) → in_order rs ≡ true → Order rs
unfolding in_order
order rs h =
    let a = and_parts (forward rs) (apart 0 rs && numbered 0 rs) h in
    let b = and_parts (apart 0 rs) (numbered 0 rs) a.1 in
    record { goes = a.0; parts = b.0; counts = b.1 }

pub in_order_lem : (rs : List GlyphRange) → Order rs → in_order rs ≡ true
unfolding in_order
in_order_lem rs o = and_from _ _ o.goes (and_from _ _ o.parts o.counts)

-- the glyphs of a range
pub length-covers : (r : GlyphRange) → length (covers r) ≡ suc r.end - r.start
length-covers r = length-range_with_len r.start (suc r.end - r.start)

-- each range has a glyph
pub ranges_few : (rs : List GlyphRange) → forward rs ≡ true → length rs ≤ length (covered rs)
ranges_few [] h = omega arith
ranges_few (r ∷ rs) h =
    let p = and_parts (nat_le r.start r.end) (forward rs) h in
    let a = leb-true r.start r.end p.0 in
    let i = ranges_few rs p.1 in
    let l = length-append (covers r) (covered rs) in
    let c = length-covers r in
    omega arith

-- the range records of a table
pub length-ranges_at : (bs : List ℕ) (n : ℕ) → length (ranges_at bs n) ≡ n
length-ranges_at bs n = length-map-range_with_len (range_at_of bs) 0 n

pub get_d_ranges_at : (bs : List ℕ) (n k : ℕ) (d : GlyphRange) → k < n → slice_index_or (ranges_at bs n) k d ≡ range_at_of bs k
get_d_ranges_at bs n k d lt = get_or-map-range_with_len (range_at_of bs) 0 n k k d lt (omega arith)

pub ranges_at_same : (bs cs : List ℕ) (n : ℕ) → ((k : ℕ) → k < n → range_at_of bs k ≡ range_at_of cs k) → ranges_at bs n ≡ ranges_at cs n
ranges_at_same bs cs n h =
    let d : GlyphRange = record { start = 0; end = 0; index = 0 } in
    let l = length-ranges_at bs n in
    let m = length-ranges_at cs n in
    ext_get_or d (ranges_at bs n) (ranges_at cs n) (omega arith)
    (λ k lt. get_d_ranges_at bs n k d (omega arith) ∙ h k (omega arith) ∙ sym (get_d_ranges_at cs n k d (omega arith)))

word16_drop : (p i q : ℕ) (bs : List ℕ) → p + i ≡ q → word16 (drop p bs) i ≡ word16 bs q
word16_drop p i q bs e =
    let a = get_or-drop p bs i 0 ∙ ap (λ z. get_or bs z 0) e in
    let b : get_or (drop p bs) (i + 1) 0 ≡ get_or bs (q + 1) 0 = get_or-drop p bs (i + 1) 0 ∙ ap (λ z. get_or bs z 0) (omega arith) in
    omega arith

-- a range record by the places of its values
pub range_at : (bs : List ℕ) (k x y z : ℕ) → word16 bs (4 + 6 * k) ≡ x → word16 bs (6 + 6 * k) ≡ y → word16 bs (8 + 6 * k) ≡ z → range_at_of bs k ≡ record { start = x; end = y; index = z }
range_at bs k x y z p q s =
    let a = word16_drop (4 + 6 * k) 0 (4 + 6 * k) bs (omega arith) ∙ p in
    let b = word16_drop (4 + 6 * k) 2 (6 + 6 * k) bs (omega arith) ∙ q in
    let c = word16_drop (4 + 6 * k) 4 (8 + 6 * k) bs (omega arith) ∙ s in
    cc

-- a table by its parts
pub record Table (bs : List ℕ) : Type 0 where
  pub four : 4 ≤ length bs
  pub two : word16 bs 0 ≡ 2
  pub fits : range_end_of bs ≤ length bs
  pub order : in_order (ranges_at bs (word16 bs 2)) ≡ true
  pub list : GlyphList (covered (ranges_at bs (word16 bs 2)))

pub table : (bs : List ℕ) → is_ranges bs ≡ true → Table bs
unfolding is_ranges
table bs h =
    let a = and_parts _ _ h in
    let b = and_parts _ _ a.1 in
    let c = and_parts _ _ b.1 in
    let e = and_parts _ _ c.1 in
    record { four = leb-true _ _ a.0; two = eqb-true _ _ b.0; fits = leb-true _ _ c.0; order = e.0; list = e.1 }

pub is_ranges_lem : (bs : List ℕ) → Table bs → is_ranges bs ≡ true
unfolding is_ranges
is_ranges_lem bs t = and_from _ _ (le-leb _ _ t.four) (and_from _ _ (eq-eqb _ _ t.two) (and_from _ _ (le-leb _ _ t.fits) (and_from _ _ t.order t.list)))

pub table_meaning : (bs : List ℕ) → Table bs → range_meaning bs ≡ Some (covered (ranges_at bs (word16 bs 2)), range_end_of bs)
unfolding range_meaning
table_meaning bs t = cond-true _ _ _ (is_ranges_lem bs t)

-- the same under other names for the number of its ranges and for these
module _ (bs : List ℕ) (n : ℕ) (rs : List GlyphRange) (is : n ≡ word16 bs 2) (e : rs ≡ ranges_at bs n) where
  read_is : ranges_at bs (word16 bs 2) ≡ rs
  read_is = sym (e ∙ ap (ranges_at bs) is)

  pub table_found : 4 ≤ length bs → word16 bs 0 ≡ 2 → 4 + 6 * n ≤ length bs → in_order rs ≡ true → GlyphList (covered rs) → range_meaning bs ≡ Some (meant rs)
  table_found four two fits o g =
      let t : Table bs = record { four = four; two = two; fits = omega arith; order = ap in_order read_is ∙ o; list = ap (λ z. is_glyph_list_of (covered z)) read_is ∙ g } in
      let l : 6 * word16 bs 2 ≡ 6 * length rs = ap (λ z. 6 * z) (sym is ∙ sym (length-ranges_at bs n) ∙ ap length (sym e)) in
      table_meaning bs t ∙ ap (λ z. Some (covered z, range_end_of bs)) read_is ∙ ap (λ z. Some (covered rs, 4 + z)) l

pub no_table_lem : (bs : List ℕ) → (Table bs → ⊥) → range_meaning bs ≡ None
unfolding range_meaning
no_table_lem bs h = elim (cases_Bool (is_ranges bs)) [ inl t ↦ absurd (h (table bs t)) | inr f ↦ cond-false _ _ _ f ]

-- what a meaning says of the bytes
pub record Meaning (bs gs : List ℕ) (e : ℕ) : Type 0 where
  pub is : Table bs
  pub glyphs : covered (ranges_at bs (word16 bs 2)) ≡ gs
  pub end : range_end_of bs ≡ e

some_cond : {A : Type 0} (b : Bool) (x y : A) → cond b (Some x) None ≡ Some y → (b ≡ true) × (x ≡ y)
some_cond true x y h = (refl, cc)
some_cond false x y h = absurd (cc)

pub meaning : (bs gs : List ℕ) (e : ℕ) → range_meaning bs ≡ Some (gs, e) → Meaning bs gs e
unfolding range_meaning
meaning bs gs e h =
    let p = some_cond (is_ranges bs) (covered (ranges_at bs (word16 bs 2)), range_end_of bs) (gs, e) h in
    record { is = table bs p.0; glyphs = ap (λ (z : List ℕ × ℕ). z.0) p.1; end = ap (λ (z : List ℕ × ℕ). z.1) p.1 }

-- the laws
pub front : (bs gs more : List ℕ) (e : ℕ) → range_meaning bs ≡ Some (gs, e) → range_meaning (take e bs ++ more) ≡ Some (gs, e)
front bs gs more e h =
    let m = meaning bs gs e h in
    let end = m.end in
    let fits = m.is.fits in
    let w : e ≤ length bs = omega arith in
    let l = length_front bs more e w in
    let w0 : word16 (take e bs ++ more) 0 ≡ word16 bs 0 = word16_front bs more e w 0 (omega arith) in
    let w2 : word16 (take e bs ++ more) 2 ≡ word16 bs 2 = word16_front bs more e w 2 (omega arith) in
    let n = word16 bs 2 in
    let rs : ranges_at (take e bs ++ more) n ≡ ranges_at bs n =
    ranges_at_same (take e bs ++ more) bs n
    (λ k lt.
    let same = λ (i q : ℕ) (is : 4 + 6 * k + i ≡ q) (le : i < 5). word16_front bs more e w q (omega arith) ∙ sym (word16_drop (4 + 6 * k) i q bs is) in
    range_at (take e bs ++ more) k _ _ _ (same 0 _ (omega arith) (omega arith)) (same 2 _ (omega arith) (omega arith)) (same 4 _ (omega arith) (omega arith))) in
    table_found (take e bs ++ more) n (ranges_at bs n) (sym w2) (sym rs) (omega arith) (w0 ∙ m.is.two) (omega arith) m.is.order m.is.list
    ∙ sym (table_found bs n (ranges_at bs n) refl refl m.is.four m.is.two m.is.fits m.is.order m.is.list) ∙ h

pub within : (bs gs : List ℕ) (e : ℕ) → range_meaning bs ≡ Some (gs, e) → e ≤ length bs
within bs gs e h = let m = meaning bs gs e h in let a = m.end in let b = m.is.fits in omega arith

pub even : (bs gs : List ℕ) (e : ℕ) → range_meaning bs ≡ Some (gs, e) → e % 2 ≡ 0
even bs gs e h = let m = meaning bs gs e h in let a = m.end in omega arith

pub short : (bs gs : List ℕ) (e : ℕ) → range_meaning bs ≡ Some (gs, e) → e ≤ 4 + 6 * length gs
short bs gs e h =
    let m = meaning bs gs e h in
    let a = m.end in
    let f = ranges_few (ranges_at bs (word16 bs 2)) (order (ranges_at bs (word16 bs 2)) m.is.order).goes in
    let l = length-ranges_at bs (word16 bs 2) in
    let g = ap length m.glyphs in
    omega arith

pub sound : (bs gs : List ℕ) (e : ℕ) → range_meaning bs ≡ Some (gs, e) → GlyphList gs
sound bs gs e h = let m = meaning bs gs e h in ap is_glyph_list_of (sym m.glyphs) ∙ m.is.list
