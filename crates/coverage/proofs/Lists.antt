-- What is known of glyph lists: rising order by places, their parts, and where a glyph stands.
use Rattle.std.proofs.Common.{◌≡◌, ℕ, zero, suc, Bool, map, ◌+◌, ◌<◌, ◌≤◌, true, false, ◌&&◌, ltb, leb, ◌≢◌, List, [], ◌∷◌, ◌++◌, length, get_or, Some, None, Ok, Err, Result, sym, refl, ap, ◌∙◌, inl, inr, arith, length-append}
use Rattle.std.proofs.lemmas.List.{get_or-map, length-map}
use Rattle.std.proofs.lemmas.Bool.{and_parts, and_from, ltb-true, leb-true, lt-ltb, le-leb, eq-eqb, ne_eqb, cases_Bool}
use Rattle.std.proofs.lemmas.List.Sorted.{searchable_from_sorted}
use Rattle.std.proofs.Math.Bool.{and-true}
use Rattle.std.proofs.lemmas.Cmp.{nat_cmp_total}
use Rattle.std.proofs.lemmas.Bool.Decides.{nat_tests}
use Rattle.std.specs.declared.cmp.Ordering.TheVariants.{Equal}
use Rattle.std.specs.List.{IsAllAdjacentAnswer, AllAdjacentBelow}
use Rattle.std.specs.List.Sorted.{IsNonDecreasingBy, IsBinarySearchResult, IsSearchInRange}
use Rattle.std.specs.Ordering.{nat_cmp, is_lt, ordering_index}
use Rattle.std.specs.Result.{result_ok}
use Rattle.coverage.specs.Glyphs.{above, rises, small, is_glyph_list_of, GlyphList, index_in}

-- a glyph list by its parts
pub record Listed (gs : List ℕ) : Type 0 where
  pub some : 0 < length gs
  pub few : length gs ≤ 65535
  pub rise : rises gs ≡ true
  pub narrow : small gs ≡ true

pub listed : (gs : List ℕ) → GlyphList gs → Listed gs
unfolding is_glyph_list_of
listed gs h =
    let a = and_parts _ _ h in
    let b = and_parts _ _ a.1 in
    let c = and_parts _ _ b.1 in
    record { some = ltb-true _ _ a.0; few = leb-true _ _ b.0; rise = c.0; narrow = c.1 }

pub glyph_list : (gs : List ℕ) → Listed gs → GlyphList gs
unfolding is_glyph_list_of
glyph_list gs l = and_from _ _ (lt-ltb _ _ l.some) (and_from _ _ (le-leb _ _ l.few) (and_from _ _ l.rise l.narrow))

pub no_list : (gs : List ℕ) → (Listed gs → ⊥) → is_glyph_list_of gs ≡ false
no_list gs h = elim (cases_Bool (is_glyph_list_of gs)) [ inl t ↦ absurd (h (listed gs t)) | inr f ↦ f ]

-- with the length in bounds, what is left to test
pub list_by_rise : (gs : List ℕ) → 0 < length gs → length gs ≤ 65535 → is_glyph_list_of gs ≡ (rises gs && small gs)
unfolding is_glyph_list_of
list_by_rise gs a b = ap (λ t. t && (leb (length gs) 65535 && (rises gs && small gs))) (lt-ltb _ _ a) ∙ ap (λ t. t && (rises gs && small gs)) (le-leb _ _ b)

-- rising order by places
above_all : (x : ℕ) (ys : List ℕ) → above x ys ≡ true → (k : ℕ) → k < length ys → x < get_or ys k 0
above_all x [] h k lt = absurd (omega arith)
above_all x (y ∷ ys) h zero lt = ltb-true _ _ (and_parts _ _ h).0
above_all x (y ∷ ys) h (suc k) lt =
    let p = and_parts (ltb x y) (above y ys) h in
    let a = ltb-true x y p.0 in
    let b = above_all y ys p.1 k (omega arith) in
    omega arith

pub above_rises : (x : ℕ) (ys : List ℕ) → above x ys ≡ true → rises ys ≡ true
above_rises x [] h = refl
above_rises x (y ∷ ys) h = (and_parts _ _ h).1

pub rises_places : (gs : List ℕ) → rises gs ≡ true → (i j : ℕ) → i < j → j < length gs → get_or gs i 0 < get_or gs j 0
rises_places [] h i j a b = absurd (omega arith)
rises_places (x ∷ xs) h i zero a b = absurd (omega arith)
rises_places (x ∷ xs) h zero (suc j) a b = above_all x xs h j (omega arith)
rises_places (x ∷ xs) h (suc i) (suc j) a b = rises_places xs (above_rises x xs h) i j (omega arith) (omega arith)

pub places_small : (gs : List ℕ) → ((k : ℕ) → k < length gs → get_or gs k 0 < 65536) → small gs ≡ true
places_small [] h = refl
places_small (x ∷ xs) h = and_from _ _ (lt-ltb _ _ (h 0 (omega arith))) (places_small xs (λ k lt. h (suc k) (omega arith)))

-- parts of a list
above_front : (x : ℕ) (ys zs : List ℕ) → above x (ys ++ zs) ≡ true → above x ys ≡ true
above_front x [] zs h = refl
above_front x (y ∷ ys) zs h = let p = and_parts _ _ h in and_from _ _ p.0 (above_front y ys zs p.1)

pub rises_front : (ys zs : List ℕ) → rises (ys ++ zs) ≡ true → rises ys ≡ true
rises_front [] zs h = refl
rises_front (y ∷ ys) zs h = above_front y ys zs h

rises_back : (ys zs : List ℕ) → rises (ys ++ zs) ≡ true → rises zs ≡ true
rises_back [] zs h = h
rises_back (y ∷ ys) zs h = rises_back ys zs (above_rises y (ys ++ zs) h)

small_front : (ys zs : List ℕ) → small (ys ++ zs) ≡ true → small ys ≡ true
small_front [] zs h = refl
small_front (y ∷ ys) zs h = let p = and_parts _ _ h in and_from _ _ p.0 (small_front ys zs p.1)

small_back : (ys zs : List ℕ) → small (ys ++ zs) ≡ true → small zs ≡ true
small_back [] zs h = h
small_back (y ∷ ys) zs h = small_back ys zs (and_parts _ _ h).1

-- each part of a glyph list that is not empty is one
pub list_parts : (xs ys zs : List ℕ) → 0 < length ys → GlyphList (xs ++ (ys ++ zs)) → GlyphList ys
list_parts xs ys zs h g =
    let l = listed (xs ++ (ys ++ zs)) g in
    let f = l.few in
    let n1 = length-append xs (ys ++ zs) in
    let n2 = length-append ys zs in
    glyph_list ys (record {
      some = h;
      few = omega arith;
      rise = rises_front ys zs (rises_back xs (ys ++ zs) l.rise);
      narrow = small_front ys zs (small_back xs (ys ++ zs) l.narrow);
    })

-- with 16 bits each too, only the order is left
pub list_of_rise : (gs : List ℕ) → 0 < length gs → length gs ≤ 65535 → ((k : ℕ) → k < length gs → get_or gs k 0 < 65536) → rises gs ≡ is_glyph_list_of gs
list_of_rise gs some few narrow = sym (list_by_rise gs some few ∙ ap (λ t. rises gs && t) (places_small gs narrow) ∙ and-true (rises gs))

-- where a glyph stands
pub index_none : (g : ℕ) (gs : List ℕ) → ((k : ℕ) → k < length gs → get_or gs k 0 ≢ g) → index_in g gs ≡ None
index_none g [] h = refl
index_none g (x ∷ xs) h =
    let b = ne_eqb x g (h 0 (omega arith)) in
    let r = index_none g xs (λ k lt. h (suc k) (omega arith)) in
    rw (b, r)

pub index_at : (g : ℕ) (gs : List ℕ) (k : ℕ) → rises gs ≡ true → k < length gs → get_or gs k 0 ≡ g → index_in g gs ≡ Some k
index_at g [] k r lt e = absurd (omega arith)
index_at g (x ∷ xs) zero r lt e = let b = eq-eqb x g e in rw b
index_at g (x ∷ xs) (suc k) r lt e =
    let up = above_all x xs r k (omega arith) in
    let b = ne_eqb x g (λ q. omega arith) in
    let i = index_at g xs k (above_rises x xs r) (omega arith) e in
    rw (b, i)

pub cmp_equal : (a b : ℕ) → nat_cmp a b ≡ Equal → a ≡ b
cmp_equal a b h = grind (arith, nat_tests)

cmp_not_less : (a b : ℕ) → a < b → is_lt (nat_cmp b a) ≡ false
cmp_not_less a b h = grind (arith, nat_tests)

-- slices whose elements have a number each: what `is_sorted_by` and the binary searches of std answer
module _ {X : Type 0} (key : X → ℕ) where
  adjacent_rise : (xs : List X) → AllAdjacentBelow (λ x y. true ≡ ltb (key x) (key y)) xs (length xs) → rises (map key xs) ≡ true
  adjacent_rise [] h = refl
  adjacent_rise (x ∷ []) h = refl
  adjacent_rise (x ∷ y ∷ xs) h = and_from _ _ (sym (h 0 x (omega arith))) (adjacent_rise (y ∷ xs) (λ k d lt. h (suc k) d (omega arith) ∙ ap (λ j. ltb (key (get_or (y ∷ xs) k d)) (key (get_or (x ∷ y ∷ xs) j d))) {x = suc k + 1} {y = suc (k + 1)} (omega arith)))

  key_at : (xs : List X) (k : ℕ) (d : X) → k < length xs → get_or (map key xs) k 0 ≡ key (get_or xs k d)
  key_at xs k d lt = get_or-map key xs k d 0 lt

  keys_rise : (xs : List X) → rises (map key xs) ≡ true → (k : ℕ) (d : X) → k + 1 < length xs → key (get_or xs k d) < key (get_or xs (k + 1) d)
  keys_rise xs up k d lt =
      let l = length-map xs key in
      let a = key_at xs k d (omega arith) in
      let b = key_at xs (k + 1) d lt in
      let r = rises_places (map key xs) up k (k + 1) (omega arith) (omega arith) in
      omega arith

  pub rises_by : (xs : List X) (r : Bool) → IsAllAdjacentAnswer (λ x y b. b ≡ ltb (key x) (key y)) xs r → r ≡ rises (map key xs)
  rises_by xs true h = sym (adjacent_rise xs h)
  rises_by [] false h = let e = h.1 in absurd (omega arith)
  rises_by (x ∷ xs) false h =
      elim (cases_Bool (rises (map key (x ∷ xs)))) [
        | inl t ↦
            let up = lt-ltb _ _ (keys_rise (x ∷ xs) t h.0 x h.1) in
            let down = h.2 x in
            absurd (cc)
        | inr f ↦ sym f
      ]

  pub ranked : (xs : List X) (g : ℕ) → rises (map key xs) ≡ true → IsNonDecreasingBy (λ y. ordering_index (nat_cmp (key y) g)) xs
  ranked xs g up = searchable_from_sorted nat_cmp_total key xs g (λ k d a b. cmp_not_less _ _ (keys_rise xs up k d b))

  pub searched_by : (xs : List X) (g : ℕ) (r : Result ℕ ℕ) → rises (map key xs) ≡ true → IsSearchInRange r (length xs) → IsBinarySearchResult (λ y. nat_cmp (key y) g) xs r → result_ok r ≡ index_in g (map key xs)
  searched_by [] g (Ok i) up range at = absurd (omega arith)
  searched_by (x ∷ xs) g (Ok i) up range at =
      let l = length-map (x ∷ xs) key in
      sym (index_at g (map key (x ∷ xs)) i up (omega arith) (key_at (x ∷ xs) i x range ∙ cmp_equal _ _ (at x)))
  searched_by [] g (Err i) up range at = refl
  searched_by (x ∷ xs) g (Err i) up range at =
      let l = length-map (x ∷ xs) key in
      let cut = at (ranked (x ∷ xs) g up) in
      sym (index_none g (map key (x ∷ xs)) (λ k lt e. let kx = key_at (x ∷ xs) k x (omega arith) in let low = cut.0 k x in let high = cut.1 k x in grind (arith, nat_tests)))
