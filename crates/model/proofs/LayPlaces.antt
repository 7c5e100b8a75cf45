-- Bytes that stand at a place, and tables of values with their slots filled.
use Rattle.std.proofs.Common.{◌≡◌, ℕ, zero, suc, ◌+◌, ◌-◌, ◌*◌, ◌/◌, ◌%◌, ◌^◌, ◌<◌, ◌≤◌, List, [], ◌∷◌, ◌++◌, map, length, get_or, take, drop, sym, refl, ap, ◌∙◌, append_assoc, arith, length-append}
use Rattle.std.specs.List.{AllByRecursion}
use Rattle.std.proofs.lemmas.List.{append-nil, get_or-drop, drop-drop, drop_at, take_at}
use Rattle.std.proofs.ByRecursion.{All-weaker}
use Rattle.data_bytes.specs.BigEndian.{word16, number_at, put_at, spelled, big_endian}
use Rattle.data_bytes.specs.Values.{value_bytes, values, values_at}
use Rattle.data_bytes.proofs.Places.{length_put_at}
use Rattle.data_bytes.proofs.Spellings.{length_spelled, number_spelled}
use Rattle.data_bytes.proofs.ValueLists.{length-value_bytes, value_bytes-append, values_value_bytes, word16-value_bytes}
use Rattle.model.specs.Tables.{Slot, slots_from, zeros, extension_bytes}
use Rattle.model.specs.Writing.{Start, start_of, offset, fill_slots}

-- the bytes b stand at p
pub record Stands (bs : List ℕ) (p : ℕ) (b : List ℕ) : Type 0 where
  pub rest : List ℕ
  pub is : drop p bs ≡ b ++ rest
  pub within : p + length b ≤ length bs

pub stands_behind : (q b r : List ℕ) (p : ℕ) → length q ≡ p → Stands (q ++ (b ++ r)) p b
stands_behind q b r p e =
    let l = length-append q (b ++ r) in
    let m = length-append b r in
    record { rest = r; is = drop_at q (b ++ r) p e; within = omega arith }

-- READING WHERE VALUES STAND
module _ (bs : List ℕ) (p : ℕ) (vs : List ℕ) (h : Stands bs p (value_bytes vs)) where
  pub word_stands : (k q : ℕ) → q ≡ p + 2 * k → k < length vs → word16 bs q ≡ get_or vs k 0
  word_stands k q at lt =
      let w = word16-value_bytes vs h.rest k lt in
      let a : get_or bs q 0 ≡ get_or (value_bytes vs ++ h.rest) (2 * k) 0 = ap (λ t. get_or bs t 0) at ∙ sym (get_or-drop p bs (2 * k) 0) ∙ ap (λ t. get_or t (2 * k) 0) h.is in
      let e : q + 1 ≡ p + (2 * k + 1) = omega arith in
      let b : get_or bs (q + 1) 0 ≡ get_or (value_bytes vs ++ h.rest) (2 * k + 1) 0 =
      ap (λ t. get_or bs t 0) e ∙ sym (get_or-drop p bs (2 * k + 1) 0) ∙ ap (λ t. get_or t (2 * k + 1) 0) h.is in
      ap (λ t. t * 256 + get_or bs (q + 1) 0) a ∙ ap (λ t. get_or (value_bytes vs ++ h.rest) (2 * k) 0 * 256 + t) b ∙ w

  pub values_within : p + 2 * length vs ≤ length bs
  values_within = let l = length-value_bytes vs in let w = h.within in omega arith

-- the values behind the first two
pub values_stand : (bs : List ℕ) (p a b : ℕ) (vs : List ℕ) → Stands bs p (value_bytes (a ∷ b ∷ vs)) → values_at bs (p + 4) (length vs) ≡ vs
values_stand bs p a b vs h =
    let d : drop (p + 4) bs ≡ value_bytes vs ++ h.rest = sym (drop-drop 4 p bs) ∙ ap (drop 4) h.is in
    ap (λ t. values (take (2 * length vs) t)) d
    ∙ ap values (take_at (value_bytes vs) h.rest (2 * length vs) (length-value_bytes vs))
    ∙ values_value_bytes vs

-- FILLING
-- a value put into its slot
pub put_value : (us : List ℕ) (a n : ℕ) (zs : List ℕ) (i : ℕ) → 2 * length us ≡ i → n < 65536 → put_at 2 (value_bytes (us ++ a ∷ zs)) i n ≡ value_bytes (us ++ n ∷ zs)
put_value us a n zs i e small =
    let l = length-value_bytes us in
    let m : length (value_bytes us) ≡ i = omega arith in
    let s = value_bytes-append us (a ∷ zs) in
    let t : take i (value_bytes (us ++ a ∷ zs)) ≡ value_bytes us = ap (take i) s ∙ take_at (value_bytes us) (value_bytes (a ∷ zs)) i m in
    let d : drop (i + 2) (value_bytes (us ++ a ∷ zs)) ≡ value_bytes zs =
    sym (drop-drop 2 i (value_bytes (us ++ a ∷ zs))) ∙ ap (drop 2) (ap (drop i) s ∙ drop_at (value_bytes us) (value_bytes (a ∷ zs)) i m) in
    let high : n / 256 % 256 ≡ n / 256 = omega arith in
    ap (λ x. (x ++ spelled 2 n) ++ drop (i + 2) (value_bytes (us ++ a ∷ zs))) t
    ∙ ap (λ x. (value_bytes us ++ spelled 2 n) ++ x) d
    ∙ append_assoc (value_bytes us) (spelled 2 n) (value_bytes zs)
    ∙ ap (λ x. value_bytes us ++ x ∷ n % 256 ∷ value_bytes zs) high
    ∙ sym (value_bytes-append us (n ∷ zs))

module _ (ss : List Start) (v : ℕ) where
  -- how far it is from the start of v to the start of t
  abbrev pub ahead : ℕ → ℕ
  ahead t = start_of ss t - start_of ss v

  pub fill_values : (us ts ws : List ℕ) (p n : ℕ) → 2 * length us ≡ p → length ts ≡ n → AllByRecursion (λ t. ahead t < 65536) ts
      → fill_slots ss v (slots_from p ts) (value_bytes (us ++ (zeros n ++ ws))) ≡ value_bytes (us ++ (map ahead ts ++ ws))
  fill_values us [] ws p zero e f a = refl
  fill_values us [] ws p (suc n) e f a = absurd (omega arith)
  fill_values us (t ∷ ts) ws p zero e f a = absurd (omega arith)
  fill_values us (t ∷ ts) ws p (suc n) e f a =
      let l = length-append us (ahead t ∷ []) in
      let q : 2 * length (us ++ ahead t ∷ []) ≡ p + 2 = omega arith in
      let g1 : us ++ ahead t ∷ (zeros n ++ ws) ≡ (us ++ ahead t ∷ []) ++ (zeros n ++ ws) = sym (append_assoc us (ahead t ∷ []) (zeros n ++ ws)) in
      let g2 : (us ++ ahead t ∷ []) ++ (map ahead ts ++ ws) ≡ us ++ ahead t ∷ (map ahead ts ++ ws) = append_assoc us (ahead t ∷ []) (map ahead ts ++ ws) in
      ap (fill_slots ss v (slots_from (p + 2) ts)) (put_value us 0 (ahead t) (zeros n ++ ws) p e a.0)
      ∙ ap (λ x. fill_slots ss v (slots_from (p + 2) ts) (value_bytes x)) g1
      ∙ fill_values (us ++ ahead t ∷ []) ts ws (p + 2) n q (omega arith) a.1
      ∙ ap value_bytes g2

  pub fill_last : (us ts : List ℕ) (p n : ℕ) → 2 * length us ≡ p → length ts ≡ n → AllByRecursion (λ t. ahead t < 65536) ts
      → fill_slots ss v (slots_from p ts) (value_bytes (us ++ zeros n)) ≡ value_bytes (us ++ map ahead ts)
  fill_last us ts p n e f a =
      ap (λ x. fill_slots ss v (slots_from p ts) (value_bytes (us ++ x))) (sym (append-nil (zeros n)))
      ∙ fill_values us ts [] p n e f a
      ∙ ap (λ x. value_bytes (us ++ x)) (append-nil (map ahead ts))

  pub length_fill : (ts : List Slot) (bs : List ℕ) → AllByRecursion (λ (t : Slot). t.position + t.width ≤ length bs) ts → length (fill_slots ss v ts bs) ≡ length bs
  length_fill [] bs a = refl
  length_fill (t ∷ ts) bs a =
      let new = put_at t.width bs t.position (offset ss v t) in
      let h = length_put_at t.width bs t.position (offset ss v t) a.0 in
      length_fill ts new (All-weaker (λ (u : Slot). u.position + u.width ≤ length bs) (λ (u : Slot). u.position + u.width ≤ length new) (λ u le. omega arith) ts a.1) ∙ h

-- slots one behind the other lie within
pub slots_fit : (p e : ℕ) (ts : List ℕ) → p + 2 * length ts ≤ e → AllByRecursion (λ (t : Slot). t.position + t.width ≤ e) (slots_from p ts)
slots_fit p e [] h = tt
slots_fit p e (t ∷ ts) h = (omega arith, slots_fit (p + 2) e ts (omega arith))

-- an extension table: its two values, and its four-byte slot
module _ (bs : List ℕ) (p n : ℕ) (h : Stands bs p (put_at 4 (extension_bytes ++ zeros 4) 4 n)) where
  extension_byte : (k q b : ℕ) → q ≡ p + k → get_or (put_at 4 (extension_bytes ++ zeros 4) 4 n ++ h.rest) k 0 ≡ b → get_or bs q 0 ≡ b
  extension_byte k q b at e = ap (λ t. get_or bs t 0) at ∙ sym (get_or-drop p bs k 0) ∙ ap (λ t. get_or t k 0) h.is ∙ e

  pub extension_format : word16 bs p ≡ 1
  extension_format =
      let a = extension_byte 0 p 0 (omega arith) refl in
      let b = extension_byte 1 (p + 1) 1 refl refl in
      omega arith

  pub extension_type : word16 bs (p + 2) ≡ 4
  extension_type =
      let a = extension_byte 2 (p + 2) 0 refl refl in
      let b = extension_byte 3 (p + 2 + 1) 4 (omega arith) refl in
      omega arith

  pub extension_slot : n < 256 ^ 4 → number_at 4 bs (p + 4) ≡ n
  extension_slot small =
      let d : drop (p + 4) bs ≡ spelled 4 n ++ h.rest = sym (drop-drop 4 p bs) ∙ ap (drop 4) h.is in
      ap (λ t. big_endian (take 4 t)) d ∙ ap big_endian (take_at (spelled 4 n) h.rest 4 (length_spelled 4 n)) ∙ number_spelled 4 n small

  pub extension_within : p + 8 ≤ length bs
  extension_within = h.within
