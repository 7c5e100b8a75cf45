-- 16-bit values and their bytes: reading what was value_bytes, and writing one value behind another.
use Rattle.std.proofs.Common.{◌≡◌, ℕ, zero, suc, ◌+◌, ◌-◌, ◌*◌, ◌/◌, ◌%◌, ◌<◌, ◌≤◌, List, [], ◌∷◌, ◌++◌, length, get_or, take, drop, set, sym, refl, ap, ◌∙◌, append_assoc, arith, length-append, length-drop}
use Rattle.std.proofs.lemmas.List.{length-take-le, get_or-take, get_or-drop, get_or_append_left, drop_more, set_at, take-append-le, drop-append-le, take-take, drop-take}
use Rattle.data_bytes.specs.BigEndian.{word16, put16}
use Rattle.data_bytes.specs.Values.{value_bytes, values, values_at}

pub length-value_bytes : (vs : List ℕ) → length (value_bytes vs) ≡ 2 * length vs
length-value_bytes [] = refl
length-value_bytes (v ∷ vs) = let h = length-value_bytes vs in omega arith

pub value_bytes-append : (us vs : List ℕ) → value_bytes (us ++ vs) ≡ value_bytes us ++ value_bytes vs
value_bytes-append [] vs = refl
value_bytes-append (u ∷ us) vs = ap (λ t. u / 256 ∷ u % 256 ∷ t) (value_bytes-append us vs)

-- reading gives what was value_bytes
pub values_value_bytes : (vs : List ℕ) → values (value_bytes vs) ≡ vs
values_value_bytes [] = refl
values_value_bytes (v ∷ vs) = let e : v / 256 * 256 + v % 256 ≡ v = omega arith in ap (λ t. t ∷ values (value_bytes vs)) e ∙ ap (λ t. v ∷ t) (values_value_bytes vs)

pub word16-value_bytes : (vs more : List ℕ) (k : ℕ) → k < length vs → word16 (value_bytes vs ++ more) (2 * k) ≡ get_or vs k 0
word16-value_bytes [] more k lt = absurd (omega arith)
word16-value_bytes (v ∷ vs) more zero lt = omega arith
word16-value_bytes (v ∷ vs) more (suc k) lt =
    let i = word16-value_bytes vs more k (omega arith) in
    let e : 2 * suc k ≡ suc (suc (2 * k)) = omega arith in
    let f : 2 * suc k + 1 ≡ suc (suc (2 * k + 1)) = omega arith in
    ap (λ t. get_or (value_bytes (v ∷ vs) ++ more) t 0 * 256 + get_or (value_bytes (v ∷ vs) ++ more) (2 * suc k + 1) 0) e
    ∙ ap (λ t. get_or (value_bytes vs ++ more) (2 * k) 0 * 256 + get_or (value_bytes (v ∷ vs) ++ more) t 0) f ∙ i

pub length_values : (bs : List ℕ) (n : ℕ) → length bs ≡ 2 * n → length (values bs) ≡ n
length_values [] n h = omega arith
length_values (x ∷ []) n h = absurd (omega arith)
length_values (x ∷ y ∷ bs) zero h = absurd (omega arith)
length_values (x ∷ y ∷ bs) (suc n) h = ap suc (length_values bs n (omega arith))

pub get_d_values : (bs : List ℕ) (k : ℕ) → 2 * k + 1 < length bs → get_or (values bs) k 0 ≡ word16 bs (2 * k)
get_d_values [] k h = absurd (omega arith)
get_d_values (x ∷ []) k h = absurd (omega arith)
get_d_values (x ∷ y ∷ bs) zero h = refl
get_d_values (x ∷ y ∷ bs) (suc k) h =
    let i = get_d_values bs k (omega arith) in
    let e : 2 * suc k ≡ suc (suc (2 * k)) = omega arith in
    let f : 2 * suc k + 1 ≡ suc (suc (2 * k + 1)) = omega arith in
    let a : get_or (x ∷ y ∷ bs) (2 * suc k) 0 ≡ get_or bs (2 * k) 0 = ap (λ t. get_or (x ∷ y ∷ bs) t 0) e in
    let b : get_or (x ∷ y ∷ bs) (2 * suc k + 1) 0 ≡ get_or bs (2 * k + 1) 0 = ap (λ t. get_or (x ∷ y ∷ bs) t 0) f in
    i ∙ ap (λ t. t * 256 + get_or bs (2 * k + 1) 0) (sym a) ∙ ap (λ t. get_or (x ∷ y ∷ bs) (2 * suc k) 0 * 256 + t) (sym b)

-- the values from a byte on
module _ (bs : List ℕ) (i n : ℕ) (fits : i + 2 * n ≤ length bs) where
  length_part : length (take (2 * n) (drop i bs)) ≡ 2 * n
  length_part = let d = length-drop i bs in length-take-le (2 * n) (drop i bs) (omega arith)

  pub length-values_at : length (values_at bs i n) ≡ n
  length-values_at = length_values (take (2 * n) (drop i bs)) n length_part

  pub get_d_values_at : (k : ℕ) → k < n → get_or (values_at bs i n) k 0 ≡ word16 bs (i + 2 * k)
  get_d_values_at k lt =
      let l = length_part in
      let v = get_d_values (take (2 * n) (drop i bs)) k (omega arith) in
      let a = get_or-take (2 * n) (drop i bs) (2 * k) 0 (omega arith) ∙ get_or-drop i bs (2 * k) 0 in
      let b = get_or-take (2 * n) (drop i bs) (2 * k + 1) 0 (omega arith) ∙ get_or-drop i bs (2 * k + 1) 0 in
      let e : i + (2 * k + 1) ≡ i + 2 * k + 1 = omega arith in
      let b' = b ∙ ap (λ t. get_or bs t 0) e in
      v ∙ ap (λ t. t * 256 + get_or (take (2 * n) (drop i bs)) (2 * k + 1) 0) a ∙ ap (λ t. get_or bs (i + 2 * k) 0 * 256 + t) b'

-- bytes behind a place do not matter before it
module _ (bs more : List ℕ) (e : ℕ) (within : e ≤ length bs) where
  get_d_front : (k : ℕ) → k < e → get_or (take e bs ++ more) k 0 ≡ get_or bs k 0
  get_d_front k lt =
      let l = length-take-le e bs within in
      get_or_append_left (take e bs) more 0 k (omega arith) ∙ get_or-take e bs k 0 lt

  pub word16_front : (k : ℕ) → k + 1 < e → word16 (take e bs ++ more) k ≡ word16 bs k
  word16_front k lt = ap (λ t. t * 256 + get_or (take e bs ++ more) (k + 1) 0) (get_d_front k (omega arith)) ∙ ap (λ t. get_or bs k 0 * 256 + t) (get_d_front (k + 1) lt)

  pub length_front : e ≤ length (take e bs ++ more)
  length_front = let l = length-take-le e bs within in let a = length-append (take e bs) more in omega arith

  pub values_at_front : (i n : ℕ) → i + 2 * n ≤ e → values_at (take e bs ++ more) i n ≡ values_at bs i n
  values_at_front i n le =
      let l = length-take-le e bs within in
      let m : e ≡ i + (e - i) = omega arith in
      let d1 = drop-append-le i (take e bs) more (omega arith) in
      let ld = length-drop i (take e bs) in
      let d2 = take-append-le (2 * n) (drop i (take e bs)) more (omega arith) in
      let d3 : drop i (take e bs) ≡ take (e - i) (drop i bs) = ap (λ t. drop i (take t bs)) m ∙ drop-take i (e - i) bs in
      let d4 = take-take (2 * n) (e - i) (drop i bs) (omega arith) in
      ap values (ap (take (2 * n)) d1 ∙ d2 ∙ ap (take (2 * n)) d3 ∙ d4)

-- writing front to back: what is written, then what was there
abbrev pub laid : List ℕ → List ℕ → List ℕ
laid xs old = xs ++ drop (length xs) old

pub length_laid : (xs old : List ℕ) → length xs ≤ length old → length (laid xs old) ≡ length old
length_laid xs old le = let a = length-append xs (drop (length xs) old) in let d = length-drop (length xs) old in omega arith

-- one value more
pub lay_value : (xs old : List ℕ) (i v : ℕ) → i ≡ length xs → i + 1 < length old → put16 (laid xs old) i v ≡ laid (xs ++ value_bytes (v ∷ [])) old
lay_value xs old i v e lt =
    let n = length xs in
    let d1 = drop_more old n 0 (omega arith) in
    let d2 = drop_more old (n + 1) 0 (omega arith) in
    let d : drop n old ≡ get_or old n 0 ∷ get_or old (n + 1) 0 ∷ drop (n + 1 + 1) old = d1 ∙ ap (λ t. get_or old n 0 ∷ t) d2 in
    let la = length-append xs (value_bytes (v ∷ [])) in
    let la1 = length-append xs (v / 256 ∷ []) in
    let q : length (xs ++ value_bytes (v ∷ [])) ≡ n + 1 + 1 = omega arith in
    let s1 = set_at xs (get_or old n 0) (get_or old (n + 1) 0 ∷ drop (n + 1 + 1) old) (v / 256) i (sym e) in
    let s2 = set_at (xs ++ v / 256 ∷ []) (get_or old (n + 1) 0) (drop (n + 1 + 1) old) (v % 256) (i + 1) (omega arith) in
    let a1 : xs ++ v / 256 ∷ get_or old (n + 1) 0 ∷ drop (n + 1 + 1) old ≡ (xs ++ v / 256 ∷ []) ++ get_or old (n + 1) 0 ∷ drop (n + 1 + 1) old = sym (append_assoc xs (v / 256 ∷ []) (get_or old (n + 1) 0 ∷ drop (n + 1 + 1) old)) in
    let a2 : (xs ++ v / 256 ∷ []) ++ v % 256 ∷ drop (n + 1 + 1) old ≡ xs ++ v / 256 ∷ v % 256 ∷ drop (n + 1 + 1) old = append_assoc xs (v / 256 ∷ []) (v % 256 ∷ drop (n + 1 + 1) old) in
    let a3 : xs ++ v / 256 ∷ v % 256 ∷ drop (n + 1 + 1) old ≡ (xs ++ value_bytes (v ∷ [])) ++ drop (n + 1 + 1) old = sym (append_assoc xs (value_bytes (v ∷ [])) (drop (n + 1 + 1) old)) in
    ap (λ t. put16 (xs ++ t) i v) d
    ∙ ap (λ t. set t (i + 1) (v % 256)) (s1 ∙ a1)
    ∙ s2 ∙ a2 ∙ a3 ∙ ap (λ t. (xs ++ value_bytes (v ∷ [])) ++ drop t old) (sym q)
