-- What is known of ranges in order as they are read: the walk that tests them, the glyphs that they cover, place by place, and where a glyph is found.
use Rattle.coverage.specs.Meaning.{glyph_at}
use Rattle.refusals.specs.declared.CodecFault.TheVariants.{PastEnd}
use Rattle.std.specs.Prelude.{Ok, Err, Result, Option, map, ◌/◌, ◌≡◌, ℕ, zero, suc, ◌+◌, ◌-◌, ◌*◌, ◌<◌, ◌≤◌, Bool, true, false, cond, ◌&&◌, ◌≢◌, ◌⊎◌, List, [], ◌∷◌, ◌++◌, length, get_or, take, drop, Some, None, ◌==◌, nat_le, nat_lt, slice_index, refl}
use Rattle.std.proofs.Common.{sym, ap, ◌∙◌, subst, inl, inr, ⊎_elim, append_assoc, arith, add-zero, length-append}
use Rattle.std.specs.List.{range_with_len, slice_range}
use Rattle.std.specs.List.Sorted.{IsNonDecreasingBy, IsPartitionPoint, IsSearchInRange, IsBinarySearchResult}
use Rattle.std.specs.Result.{result_ok}
use Rattle.std.specs.Ordering.{ordering_index}
use Rattle.std.specs.declared.cmp.Ordering.{Ordering}
use Rattle.std.specs.declared.cmp.Ordering.TheVariants.{Less, Equal, Greater}
use Rattle.std.proofs.lemmas.List.Concat.{flat_map-append, get_or-flat_map}
use Rattle.std.proofs.lemmas.List.Folds.{length-flat_map-take}
use Rattle.std.proofs.lemmas.List.FromFn.{get_or-range_with_len}
use Rattle.std.proofs.lemmas.List.{append-nil, at_drop_all, take_more, take_all, drop_more, get_or_append_left, length-drop, get_or-map, get_or-take, drop-drop, length-map, get_or-append_right, take_at}
use Rattle.std.proofs.lemmas.Slice.{drop-append-drop}
use Rattle.std.proofs.lemmas.Bool.{both_ways, and_parts, and_from, and_left, and_right, leb-true, eqb-true, lt-ltb, le-ltb, le-leb, lt-leb, eq-eqb, ne_eqb, cases_lt, cond-true, cond-false}
use Rattle.data_bytes.specs.BigEndian.{word16}
use Rattle.coverage.specs.Glyphs.{above, rises, small, is_glyph_list_of, GlyphList, index_in}
use Rattle.coverage.proofs.Lists.{listed, glyph_list, index_at, index_none}
use Rattle.coverage_opentype.specs.declared.ranges.GlyphRange.{GlyphRange}
use Rattle.coverage_opentype.specs.Covering.{Order, order, length-covers, no_table_lem}
use Rattle.std.specs.Simd.{first_chunks}
use Rattle.coverage_opentype.specs.Format2.{meant, range_of, covers, covered, forward, apart, numbered, in_order, range_at_of, ranges_at, range_meaning}

get_or-covers : (r : GlyphRange) (j : ℕ) → j < suc r.end - r.start → slice_index (covers r) j ≡ r.start + j
get_or-covers r j lt = get_or-range_with_len r.start (suc r.end - r.start) j 0 lt

-- one by one
forward_at : (rs : List GlyphRange) → forward rs ≡ true → (k : ℕ) (d : GlyphRange) → k < length rs → (get_or rs k d).start ≤ (get_or rs k d).end
forward_at [] h k d lt = absurd (omega arith)
forward_at (r ∷ rs) h zero d lt = leb-true r.start r.end (and_parts (nat_le r.start r.end) (forward rs) h).0
forward_at (r ∷ rs) h (suc k) d lt = forward_at rs (and_parts (nat_le r.start r.end) (forward rs) h).1 k d (omega arith)

apart_low : (low : ℕ) (rs : List GlyphRange) → forward rs ≡ true → apart low rs ≡ true → (k : ℕ) (d : GlyphRange) → k < length rs → low ≤ (get_or rs k d).start
apart_low low [] f h k d lt = absurd (omega arith)
apart_low low (r ∷ rs) f h zero d lt = leb-true low r.start (and_parts (nat_le low r.start) (apart (suc r.end) rs) h).0
apart_low low (r ∷ rs) f h (suc k) d lt =
    let p = and_parts (nat_le low r.start) (apart (suc r.end) rs) h in
    let q = and_parts (nat_le r.start r.end) (forward rs) f in
    let a = leb-true low r.start p.0 in
    let b = leb-true r.start r.end q.0 in
    let c = apart_low (suc r.end) rs q.1 p.1 k d (omega arith) in
    omega arith

apart_at : (low : ℕ) (rs : List GlyphRange) → forward rs ≡ true → apart low rs ≡ true → (i j : ℕ) (d : GlyphRange) → i < j → j < length rs → (get_or rs i d).end < (get_or rs j d).start
apart_at low [] f h i j d a b = absurd (omega arith)
apart_at low (r ∷ rs) f h i zero d a b = absurd (omega arith)
apart_at low (r ∷ rs) f h zero (suc j) d a b =
    apart_low (suc r.end) rs (and_parts (nat_le r.start r.end) (forward rs) f).1 (and_parts (nat_le low r.start) (apart (suc r.end) rs) h).1 j d (omega arith)
apart_at low (r ∷ rs) f h (suc i) (suc j) d a b =
    apart_at (suc r.end) rs (and_parts (nat_le r.start r.end) (forward rs) f).1 (and_parts (nat_le low r.start) (apart (suc r.end) rs) h).1 i j d (omega arith) (omega arith)

numbered_at : (n : ℕ) (rs : List GlyphRange) → numbered n rs ≡ true → (k : ℕ) (d : GlyphRange) → k < length rs → (get_or rs k d).index ≡ n + length (covered (take k rs))
numbered_at n [] h k d lt = absurd (omega arith)
numbered_at n (r ∷ rs) h zero d lt = eqb-true r.index n (and_parts (r.index == n) (numbered (n + length (covers r)) rs) h).0 ∙ sym (add-zero n)
numbered_at n (r ∷ rs) h (suc k) d lt =
    let i = numbered_at (n + length (covers r)) rs (and_parts (r.index == n) (numbered (n + length (covers r)) rs) h).1 k d (omega arith) in
    let l = length-append (covers r) (covered (take k rs)) in
    omega arith

-- what is known of the k-th of ranges in order
pub record Kth (rs : List GlyphRange) (k : ℕ) (r : GlyphRange) : Type 0 where
  pub goes : r.start ≤ r.end
  pub index : r.index ≡ length (covered (take k rs))
  pub more : covered (take (k + 1) rs) ≡ covered (take k rs) ++ covers r
  pub within : r.index + (suc r.end - r.start) ≤ length (covered rs)
  pub glyph : (j : ℕ) → j < suc r.end - r.start → slice_index (covered rs) (r.index + j) ≡ r.start + j

kth : (rs : List GlyphRange) (k : ℕ) (d : GlyphRange) → Order rs → k < length rs → Kth rs k (get_or rs k d)
kth rs k d o lt =
    let r = get_or rs k d in
    let h = numbered_at 0 rs o.counts k d lt in
    let i : r.index ≡ length (covered (take k rs)) = omega arith in
    let c = length-covers r in
    let w = length-flat_map-take covers rs k d lt in
    record {
      goes = forward_at rs o.goes k d lt;
      index = i;
      more = ap covered (take_more rs k d lt) ∙ flat_map-append covers (take k rs) (r ∷ []) ∙ ap (λ t. covered (take k rs) ++ t) (append-nil (covers r));
      within = omega arith;
      glyph = λ j h. ap (λ t. slice_index (covered rs) (t + j)) i ∙ get_or-flat_map covers rs k j d 0 lt (omega arith) ∙ get_or-covers r j h;
    }

-- the same of a range that was read from its record
pub kth_record : (xs : List (List ℕ)) (rs : List GlyphRange) (k : ℕ) (d : List ℕ) (r : GlyphRange) → map range_of xs ≡ rs → in_order (map range_of xs) ≡ true → k < length xs → r ≡ range_of (get_or xs k d) → Kth rs k r
kth_record xs rs k d r e o lt is =
    let l : length (map range_of xs) ≡ length xs = length-map xs range_of in
    let at : get_or (map range_of xs) k (range_of d) ≡ r = get_or-map range_of xs k d (range_of d) lt ∙ sym is in
    subst (λ (z : List GlyphRange). Kth z k r) e (subst (Kth (map range_of xs) k) at (kth (map range_of xs) k (range_of d) (order _ o) (omega arith)))

-- a glyph that no range has is not covered
pub not_covered : (g : ℕ) (rs : List GlyphRange) (d : GlyphRange) → ((k : ℕ) → k < length rs → ((get_or rs k d).end < g) ⊎ (g < (get_or rs k d).start)) → (j : ℕ) → j < length (covered rs) → slice_index (covered rs) j ≢ g
not_covered g [] d h j lt = absurd (omega arith)
not_covered g (r ∷ rs) d h j lt =
    let c = length-covers r in
    let l = length-append (covers r) (covered rs) in
    ⊎_elim
    (λ a e.
    let q = get_or_append_left (covers r) (covered rs) 0 j a in
    let v = get_or-covers r j (omega arith) in
    ⊎_elim (λ b. omega arith) (λ b. omega arith) (h 0 (omega arith)))
    (λ a e.
    let q = get_or-append_right (covers r) (covered rs) (length (covers r)) j 0 refl a in
    not_covered g rs d (λ k lk. h (suc k) (omega arith)) (j - length (covers r)) (omega arith) (sym q ∙ e))
    (cases_lt j (length (covers r)))

-- ranges in order cover a list that rises
run_above : (s m : ℕ) (gs : List ℕ) → above (s + m) gs ≡ true → above s (range_with_len (s + 1) m ++ gs) ≡ true
run_above s zero gs h = ap (λ t. above t gs) (sym (add-zero s)) ∙ h
run_above s (suc m) gs h =
    let e : s + suc m ≡ s + 1 + m = omega arith in
    and_from (nat_lt s (s + 1)) (above (s + 1) (range_with_len (s + 1 + 1) m ++ gs)) (lt-ltb s (s + 1) (omega arith)) (run_above (s + 1) m gs (ap (λ t. above t gs) (sym e) ∙ h))

range_above : (r : GlyphRange) (gs : List ℕ) → r.start ≤ r.end → above r.end gs ≡ true → rises (covers r ++ gs) ≡ true
range_above r gs le h =
    let n : suc r.end - r.start ≡ suc (r.end - r.start) = omega arith in
    let e : r.end ≡ r.start + (r.end - r.start) = omega arith in
    ap (λ t. rises (range_with_len r.start t ++ gs)) n ∙ run_above r.start (r.end - r.start) gs (ap (λ t. above t gs) (sym e) ∙ h)

above_range : (x : ℕ) (r : GlyphRange) (gs : List ℕ) → x < r.start → r.start ≤ r.end → rises (covers r ++ gs) ≡ true → above x (covers r ++ gs) ≡ true
above_range x r gs lt le h =
    let n : suc r.end - r.start ≡ suc (r.end - r.start) = omega arith in
    let h' = ap (λ t. rises (range_with_len r.start t ++ gs)) (sym n) ∙ h in
    ap (λ t. above x (range_with_len r.start t ++ gs)) n ∙ and_from (nat_lt x r.start) _ (lt-ltb x r.start lt) h'

above_covered : (x : ℕ) (rs : List GlyphRange) → forward rs ≡ true → apart (suc x) rs ≡ true → above x (covered rs) ≡ true
above_covered x [] f a = refl
above_covered x (r ∷ rs) f a =
    let p = and_parts (nat_le r.start r.end) (forward rs) f in
    let q = and_parts (nat_le (suc x) r.start) (apart (suc r.end) rs) a in
    let le = leb-true r.start r.end p.0 in
    above_range x r (covered rs) (leb-true (suc x) r.start q.0) le (range_above r (covered rs) le (above_covered r.end rs p.1 q.1))

pub rises_covered : (rs : List GlyphRange) → Order rs → rises (covered rs) ≡ true
rises_covered [] o = refl
rises_covered (r ∷ rs) o =
    let p = and_parts (nat_le r.start r.end) (forward rs) o.goes in
    let q = and_parts (nat_le 0 r.start) (apart (suc r.end) rs) o.parts in
    range_above r (covered rs) (leb-true r.start r.end p.0) (above_covered r.end rs p.1 q.1)

-- the walk over ranges: those from the k-th on are in order, if the ones before left low and n
abbrev pub order_from : ℕ → ℕ → List GlyphRange → Bool
order_from low n rs = forward rs && (apart low rs && numbered n rs)

pub order_start : (rs : List GlyphRange) → in_order rs ≡ order_from 0 0 rs
unfolding in_order
order_start rs = refl

and_swap : (a b c p q r : Bool) → ((a && p) && ((b && q) && (c && r))) ≡ ((a && (b && c)) && (p && (q && r)))
and_swap true true true p q r = refl
and_swap true true false true true r = refl
and_swap true true false true false r = refl
and_swap true true false false q r = refl
and_swap true false c true q r = refl
and_swap true false c false q r = refl
and_swap false b c p q r = refl

order_step : (low n : ℕ) (r : GlyphRange) (rs : List GlyphRange) → order_from low n (r ∷ rs) ≡ ((nat_le r.start r.end && (nat_le low r.start && r.index == n)) && order_from (suc r.end) (n + length (covers r)) rs)
order_step low n r rs = and_swap (nat_le r.start r.end) (nat_le low r.start) (r.index == n) (forward rs) (apart (suc r.end) rs) (numbered (n + length (covers r)) rs)

module _ (low n : ℕ) (r : GlyphRange) (rs : List GlyphRange) where
  pub order_more : low ≤ r.start → r.start ≤ r.end → r.index ≡ n → order_from low n (r ∷ rs) ≡ order_from (suc r.end) (n + length (covers r)) rs
  order_more a b e =
      order_step low n r rs
      ∙ ap (λ t. t && order_from (suc r.end) (n + length (covers r)) rs) (and_from _ _ (le-leb _ _ b) (and_from _ _ (le-leb _ _ a) (eq-eqb _ _ e)))

  pub order_overlaps : r.start < low → order_from low n (r ∷ rs) ≡ false
  order_overlaps a = order_step low n r rs ∙ and_left _ (order_from (suc r.end) (n + length (covers r)) rs) (and_right (nat_le r.start r.end) _ (and_left _ (r.index == n) (lt-leb low r.start a)))

  pub order_backward : r.end < r.start → order_from low n (r ∷ rs) ≡ false
  order_backward a = order_step low n r rs ∙ and_left _ (order_from (suc r.end) (n + length (covers r)) rs) (and_left _ (nat_le low r.start && r.index == n) (lt-leb r.start r.end a))

  pub order_miscounts : (r.index ≢ n) → order_from low n (r ∷ rs) ≡ false
  order_miscounts a = order_step low n r rs ∙ and_left _ (order_from (suc r.end) (n + length (covers r)) rs) (and_right (nat_le r.start r.end) _ (and_right (nat_le low r.start) _ (ne_eqb r.index n a)))

small_counting : (a n : ℕ) (gs : List ℕ) → a + n ≤ 65536 → small (range_with_len a n ++ gs) ≡ small gs
small_counting a zero gs le = refl
small_counting a (suc n) gs le = ap (λ t. t && small (range_with_len (a + 1) n ++ gs)) (lt-ltb a 65536 (omega arith)) ∙ small_counting (a + 1) n gs (omega arith)

pub small_range : (r : GlyphRange) (gs : List ℕ) → r.end < 65536 → r.start ≤ r.end → small (covers r ++ gs) ≡ small gs
small_range r gs a b = small_counting r.start (suc r.end - r.start) gs (omega arith)

-- the walk over a table's ranges: what is left to test when k ranges were in order and left low and n
pub record Walked (rs : List GlyphRange) (k low n : ℕ) : Type 0 where
  pub keeps : in_order rs ≡ order_from low n (drop k rs)
  pub narrow : small (covered rs) ≡ small (covered (drop k rs))
  pub sum : length (covered rs) ≡ n + length (covered (drop k rs))
  pub few : n ≤ low
  pub fits : low ≤ 65536

pub walked_none : (rs : List GlyphRange) → Walked rs 0 0 0
walked_none rs = record { keeps = order_start rs; narrow = refl; sum = omega arith; few = omega arith; fits = omega arith }

module _ (xs : List (List ℕ)) (k low n : ℕ) (d : List ℕ) (r : GlyphRange) (lt : k < length xs) (is : r ≡ range_of (get_or xs k d)) (w : Walked (map range_of xs) k low n) where
  abbrev rs : List GlyphRange
  rs = map range_of xs

  rest_is : drop k rs ≡ r ∷ drop (k + 1) rs
  rest_is =
      let l : length (map range_of xs) ≡ length xs = length-map xs range_of in
      drop_more rs k (range_of d) (omega arith) ∙ ap (λ t. t ∷ drop (k + 1) rs) (get_or-map range_of xs k d (range_of d) lt ∙ sym is)

  pub walked_more : low ≤ r.start → r.start ≤ r.end → r.index ≡ n → r.end < 65536 → (low' n' : ℕ) → low' ≡ r.end + 1 → n' ≡ n + (r.end + 1 - r.start) → Walked rs (k + 1) low' n'
  walked_more a b e s low' n' f h =
      let c = length-covers r in
      let q : n + length (covers r) ≡ n' = omega arith in
      let q' : suc r.end ≡ low' = omega arith in
      let l = length-append (covers r) (covered (drop (k + 1) rs)) in
      let ln = ap (λ t. length (covered t)) rest_is in
      let su = w.sum in
      let fe = w.few in
      record {
        keeps = w.keeps ∙ ap (order_from low n) rest_is ∙ order_more low n r (drop (k + 1) rs) a b e
            ∙ ap (λ t. order_from t (n + length (covers r)) (drop (k + 1) rs)) q' ∙ ap (λ t. order_from low' t (drop (k + 1) rs)) q;
        narrow = w.narrow ∙ ap (λ t. small (covered t)) rest_is ∙ small_range r (covered (drop (k + 1) rs)) s b;
        sum = omega arith;
        few = omega arith;
        fits = omega arith;
      }

  pub walked_stop : ((r.start < low) ⊎ ((r.end < r.start) ⊎ (r.index ≢ n))) → in_order rs ≡ false
  walked_stop h =
      w.keeps ∙ ap (order_from low n) rest_is
      ∙ ⊎_elim (order_overlaps low n r (drop (k + 1) rs)) (⊎_elim (order_backward low n r (drop (k + 1) rs)) (order_miscounts low n r (drop (k + 1) rs))) h

pub walked_all : (rs : List GlyphRange) (k low n : ℕ) → length rs ≤ k → Walked rs k low n → (in_order rs ≡ true) × (small (covered rs) ≡ true) × (n ≡ length (covered rs))
walked_all rs k low n le w =
    let s = w.sum in
    let z = at_drop_all (λ (t : List GlyphRange). length (covered t)) rs k le in
    (w.keeps ∙ at_drop_all (order_from low n) rs k le, w.narrow ∙ at_drop_all (λ (t : List GlyphRange). small (covered t)) rs k le, omega arith)

-- the records of a table are its ranges
word_in : (bs : List ℕ) (j : ℕ) → j < 5 → word16 (take 6 bs) j ≡ word16 bs j
word_in bs j lt =
    let a = get_or-take 6 bs j 0 (omega arith) in
    let b = get_or-take 6 bs (j + 1) 0 (omega arith) in
    omega arith

record_is : (bs : List ℕ) → range_of (take 6 bs) ≡ range_of bs
record_is bs =
    let a = word_in bs 0 (omega arith) in
    let b = word_in bs 2 (omega arith) in
    let d = word_in bs 4 (omega arith) in
    cc

records_from : (bs : List ℕ) (n i : ℕ) → map range_of (first_chunks 6 n (drop (4 + 6 * i) bs)) ≡ map (range_at_of bs) (range_with_len i n)
records_from bs zero i = refl
records_from bs (suc n) i =
    let p = 4 + 6 * i in
    let tail : drop 6 (drop p bs) ≡ drop (4 + 6 * (i + 1)) bs = drop-drop 6 p bs ∙ ap (λ z. drop z bs) (omega arith) in
    ap (λ t. range_of (take 6 (drop p bs)) ∷ map range_of (first_chunks 6 n t)) tail
    ∙ ap (λ t. range_of (take 6 (drop p bs)) ∷ t) (records_from bs n (i + 1))
    ∙ ap (λ t. t ∷ map (range_at_of bs) (range_with_len (i + 1) n)) (record_is (drop p bs))

first_of_chunks : (xs : List ℕ) (n m : ℕ) → n ≤ m → take n (first_chunks 6 m xs) ≡ first_chunks 6 n xs
first_of_chunks xs zero m le = refl
first_of_chunks xs (suc n) zero le = absurd (omega arith)
first_of_chunks xs (suc n) (suc m) le = ap (λ t. take 6 xs ∷ t) (first_of_chunks (drop 6 xs) n m (omega arith))

-- those that were cut out of its bytes
module _ (bs : List ℕ) (chunks xs : List (List ℕ)) (n : ℕ) where
  abbrev body : List ℕ
  body = take (length bs - 4) (drop 4 bs)

  body_is : body ≡ drop 4 bs
  body_is = let l = length-drop 4 bs in take_all (length bs - 4) (drop 4 bs) (omega arith)

  pub chunks_many : 4 ≤ length bs → length chunks ≡ length body / 6 → (n ≤ length chunks → 4 + 6 * n ≤ length bs) × (length chunks < n → length bs < 4 + 6 * n)
  chunks_many four l =
      let m = ap length body_is ∙ length-drop 4 bs in
      (λ le. omega arith, λ lt. omega arith)

  pub records_are : n ≤ length chunks → chunks ≡ first_chunks 6 (length body / 6) body → length chunks ≡ length body / 6 → xs ≡ slice_range chunks 0 n → map range_of xs ≡ ranges_at bs n
  records_are le e l is =
      ap (map range_of) (is ∙ ap (λ z. take z chunks) (omega arith) ∙ ap (take n) e ∙ first_of_chunks body n (length body / 6) (omega arith) ∙ ap (first_chunks 6 n) body_is) ∙ records_from bs n 0

-- a table that was not found
module _ (bs : List ℕ) (n : ℕ) (rs : List GlyphRange) (is : n ≡ word16 bs 2) (e : rs ≡ ranges_at bs n) where
  read_is : ranges_at bs (word16 bs 2) ≡ rs
  read_is = sym (e ∙ ap (ranges_at bs) is)

  pub no_order : in_order rs ≡ false → range_meaning bs ≡ None
  no_order h = no_table_lem bs (λ t. both_ways _ h (ap in_order (sym read_is) ∙ t.order))

  pub no_length : (m : ℕ) → m ≡ length (covered rs) → (0 < m → m ≤ 65535 → ⊥) → range_meaning bs ≡ None
  no_length m q h =
      no_table_lem bs (λ t.
      let l = listed (covered rs) (ap (λ z. is_glyph_list_of (covered z)) (sym read_is) ∙ t.list) in
      let a = l.some in
      let b = l.few in
      h (omega arith) (omega arith))

pub list_of : (rs : List GlyphRange) (n : ℕ) → in_order rs ≡ true → small (covered rs) ≡ true → n ≡ length (covered rs) → 0 < n → n ≤ 65535 → GlyphList (covered rs)
list_of rs n o s e a b = glyph_list (covered rs) (record { some = omega arith; few = omega arith; rise = rises_covered rs (order rs o); narrow = s })

-- the n-th glyph
pub placed_at : (rs : List GlyphRange) (k n : ℕ) (r : GlyphRange) → Kth rs k r → r.index ≤ n → n - r.index ≤ r.end - r.start → Ok (r.start + (n - r.index)) ≡ glyph_at (Some (meant rs)) n
placed_at rs k n r t a b =
    let g = t.goes in
    let w = t.within in
    let e : r.index + (n - r.index) ≡ n = omega arith in
    let v : get_or (covered rs) n 0 ≡ r.start + (n - r.index) = ap (λ z. slice_index (covered rs) z) (sym e) ∙ t.glyph (n - r.index) (omega arith) in
    ap Ok (sym v) ∙ sym (cond-true _ _ _ (lt-ltb n (length (covered rs)) (omega arith)))

pub placed_on : (rs : List GlyphRange) (k n : ℕ) (r : GlyphRange) → Kth rs k r → r.index ≤ n → r.end - r.start < n - r.index → length (covered (take (k + 1) rs)) ≤ n
placed_on rs k n r t a b =
    let g = t.goes in
    let i = t.index in
    let m = ap length t.more in
    let l = length-append (covered (take k rs)) (covers r) in
    let c = length-covers r in
    omega arith

pub placed_none : (rs : List GlyphRange) (k n : ℕ) → length rs ≤ k → length (covered (take k rs)) ≤ n → Err PastEnd ≡ glyph_at (Some (meant rs)) n
placed_none rs k n le h =
    let t = ap (λ z. length (covered z)) (take_all k rs le) in
    sym (cond-false _ _ _ (le-ltb n (length (covered rs)) (omega arith)))

-- on which side of a glyph a range lies, or whether it has it
abbrev pub side : GlyphRange → ℕ → Ordering
side r g = cond (nat_lt r.end g) Less (cond (nat_lt g r.start) Greater Equal)

data Side (r : GlyphRange) (g : ℕ) : Type 0 where
  lies_before : r.end < g → side r g ≡ Less → Side r g
  lies_behind : g ≤ r.end → g < r.start → side r g ≡ Greater → Side r g
  has_it : g ≤ r.end → r.start ≤ g → side r g ≡ Equal → Side r g

side_of : (r : GlyphRange) (g : ℕ) → Side r g
side_of r g =
    ⊎_elim
    (λ a. lies_before a (cond-true _ _ _ (lt-ltb r.end g a)))
    (λ b.
    ⊎_elim
    (λ a. lies_behind b a (cond-false _ _ _ (le-ltb r.end g b) ∙ cond-true _ _ _ (lt-ltb g r.start a)))
    (λ a. has_it b a (cond-false _ _ _ (le-ltb r.end g b) ∙ cond-false _ _ _ (le-ltb g r.start a)))
    (cases_lt g r.start))
    (cases_lt r.end g)

sides_apart : (r s : GlyphRange) (g : ℕ) → r.end < s.start → s.start ≤ s.end → ordering_index (side r g) ≤ ordering_index (side s g)
sides_apart r s g a b =
    elim (side_of r g) [
      | lies_before p e ↦ rw e (omega arith)
      | lies_behind p q e ↦ elim (side_of s g) [ lies_before u f ↦ absurd (omega arith) | lies_behind u v f ↦ rw (e, f) (omega arith) | has_it u v f ↦ absurd (omega arith) ]
      | has_it p q e ↦ elim (side_of s g) [ lies_before u f ↦ absurd (omega arith) | lies_behind u v f ↦ rw (e, f) (omega arith) | has_it u v f ↦ absurd (omega arith) ]
    ]

outside : (r : GlyphRange) (g : ℕ) → (side r g ≡ Less) ⊎ (side r g ≡ Greater) → (r.end < g) ⊎ (g < r.start)
outside r g h =
    elim (side_of r g) [
      | lies_before p f ↦ inl p
      | lies_behind p q f ↦ inr q
      | has_it p q f ↦ ⊎_elim (λ e. absurd (cc)) (λ e. absurd (cc)) h
    ]

-- where a search found the range that has a glyph, or that none has it
abbrev pub Searched : List (List ℕ) → List GlyphRange → ℕ → Option ℕ → Type 0
Searched xs rs g None = None ≡ index_in g (covered rs)
Searched xs rs g (Some k) = (r : GlyphRange) → r ≡ range_of (get_or xs k []) → (r.start ≤ g) × (Some (r.index + (g - r.start)) ≡ index_in g (covered rs))

-- what a binary search by sides tells, as it was made over the records
module _ (xs : List (List ℕ)) (rs : List GlyphRange) (g : ℕ) (e : map range_of xs ≡ rs) (o : in_order (map range_of xs) ≡ true) where
  sides_rise : (i j : ℕ) (d : List ℕ) → i ≤ j → j < length xs → ordering_index (side (range_of (get_or xs i d)) g) ≤ ordering_index (side (range_of (get_or xs j d)) g)
  sides_rise i j d le lt =
      let k = order (map range_of xs) o in
      let l = length-map xs range_of in
      let a = get_or-map range_of xs i d (range_of d) (omega arith) in
      let b = get_or-map range_of xs j d (range_of d) lt in
      ⊎_elim
      (λ h. sides_apart (range_of (get_or xs i d)) (range_of (get_or xs j d)) g
      (subst (λ (z : GlyphRange). (range_of (get_or xs i d)).end < z.start) b (subst (λ (z : GlyphRange). z.end < (get_or (map range_of xs) j (range_of d)).start) a (apart_at 0 (map range_of xs) k.goes k.parts i j (range_of d) h (omega arith))))
      (subst (λ (z : GlyphRange). z.start ≤ z.end) b (forward_at (map range_of xs) k.goes j (range_of d) (omega arith))))
      (λ h. let q : i ≡ j = omega arith in let f = ap (λ z. ordering_index (side (range_of (get_or xs z d)) g)) q in omega arith)
      (cases_lt i j)

  search_found : (k : ℕ) (r : GlyphRange) → k < length xs → r ≡ range_of (get_or xs k []) → side (range_of (get_or xs k [])) g ≡ Equal → (r.start ≤ g) × (Some (r.index + (g - r.start)) ≡ index_in g (covered rs))
  search_found k r lt is h =
      let t = kth_record xs rs k [] r e o lt is in
      let w = t.within in
      let up = rises_covered rs (subst Order e (order (map range_of xs) o)) in
      let here = ap (λ (z : GlyphRange). side z g) is ∙ h in
      elim (side_of r g) [
        | lies_before p f ↦ absurd (cc)
        | lies_behind p q f ↦ absurd (cc)
        | has_it p q f ↦
            let v = t.glyph (g - r.start) (omega arith) in
            (q, sym (index_at g (covered rs) (r.index + (g - r.start)) up (omega arith) (omega arith)))
      ]

  search_missed : (i : ℕ) → (IsNonDecreasingBy (λ x. ordering_index (side (range_of x) g)) xs → IsPartitionPoint (λ x. side (range_of x) g ≡ Less) (λ x. side (range_of x) g ≡ Greater) xs i) → None ≡ index_in g (covered rs)
  search_missed i h =
      let p = h sides_rise in
      let l = length-map xs range_of in
      let m : length rs ≡ length xs = ap length (sym e) ∙ l in
      sym (index_none g (covered rs) (not_covered g rs (range_of []) (λ k lt.
      let at : get_or rs k (range_of []) ≡ range_of (get_or xs k []) = ap (λ z. get_or z k (range_of [])) (sym e) ∙ get_or-map range_of xs k [] (range_of []) (omega arith) in
      subst (λ (z : GlyphRange). (z.end < g) ⊎ (g < z.start)) (sym at)
      (outside (range_of (get_or xs k [])) g (⊎_elim (λ a. inl (p.0 k [] (omega arith) a)) (λ b. inr (p.1 k [] b (omega arith))) (cases_lt k i))))))

  pub searched : (a : Result ℕ ℕ) → IsSearchInRange a (length xs) → IsBinarySearchResult (λ x. side (range_of x) g) xs a → Searched xs rs g (result_ok a)
  searched (Ok k) range at = λ r is. search_found k r range is (at [])
  searched (Err i) range at = search_missed i at

-- copying: the range's glyphs laid behind those of the ranges before it
pub copied_more : (before mine old now next : List ℕ) (i : ℕ) → i ≡ length before → now ≡ before ++ drop (length before) old → next ≡ take i now ++ (mine ++ drop (i + length mine) now) → next ≡ (before ++ mine) ++ drop (length (before ++ mine)) old
copied_more before mine old now next i e is n =
    let l = length-append before mine in
    let t : take i now ≡ before = ap (take i) is ∙ take_at before (drop (length before) old) i (sym e) in
    let q : i + length mine ≡ length (before ++ mine) = omega arith in
    let dd : drop (length (before ++ mine)) now ≡ drop (length (before ++ mine)) old =
    ap (drop (length (before ++ mine))) is ∙ drop-append-drop (length before) old before (length (before ++ mine)) (omega arith) refl in
    n ∙ ap (λ z. z ++ (mine ++ drop (i + length mine) now)) t ∙ ap (λ z. before ++ (mine ++ drop z now)) q ∙ ap (λ z. before ++ (mine ++ z)) dd
    ∙ sym (append_assoc before mine (drop (length (before ++ mine)) old))
