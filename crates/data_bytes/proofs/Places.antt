-- Numbers at places of a list of bytes.
use Rattle.std.proofs.Common.{◌≡◌, ℕ, suc, ◌+◌, ◌*◌, ◌/◌, ◌%◌, ◌^◌, ◌<◌, ◌≤◌, true, cond, leb, List, [], ◌∷◌, ◌++◌, length, get_or, take, drop, set, Some, None, sym, ap, ◌∙◌, ⊎_elim, add-zero, add_assoc, add-one, arith}
use Rattle.std.proofs.lemmas.Int.Digits.{number_more}
use Rattle.std.proofs.lemmas.List.Edits.{sets-eq}
use Rattle.std.proofs.lemmas.List.{append_assoc, length-take-le, length-drop, get_or-drop, drop-drop, drop-take}
use Rattle.std.proofs.lemmas.Grind.{common_steps}
use Rattle.std.proofs.lemmas.Slice.{take-put_mid_below, drop-put_mid}
use borrow.Rule.Slice.PartMut.{put_mid}
use Rattle.std.proofs.lemmas.Bool.{leb-true, le-leb, lt-leb, cases_lt, cond-true, cond-false}
use Rattle.data_bytes.specs.BigEndian.{Bytes, word16, put16, big_endian, spelled, within, number_at, put_at, written_at}
use Rattle.data_bytes.specs.Scalars.{read_at_of, ReadsNumber, ScalarReadsBack, Apart}
use Rattle.data_bytes.proofs.Spellings.{length_spelled, number_spelled, number_under, bytes_take}

-- one byte more
pub number_at_more : (w : ℕ) (bs : List ℕ) (i : ℕ) → i + w < length bs → number_at (w + 1) bs i ≡ number_at w bs i * 256 + get_or bs (i + w) 0
number_at_more w bs i h =
    let n = length-drop i bs in
    number_more 256 (drop i bs) w (omega arith) ∙ ap (λ b. number_at w bs i * 256 + b) (get_or-drop i bs w 0)

pub word_number : (bs : List ℕ) (i : ℕ) → i + 1 < length bs → word16 bs i ≡ number_at 2 bs i
word_number bs i h =
    let first = number_at_more 0 bs i (omega arith) in
    let second = number_at_more 1 bs i (omega arith) in
    let here = ap (λ k. get_or bs k 0) (add-zero i) in
    omega arith

-- the number of four bytes is made of two words
pub words_number : (bs : List ℕ) (i : ℕ) → i + 3 < length bs → word16 bs i * 65536 + word16 bs (i + 2) ≡ number_at 4 bs i
words_number bs i h =
    let front = word_number bs i (omega arith) in
    let third = number_at_more 2 bs i (omega arith) in
    let fourth = number_at_more 3 bs i (omega arith) in
    let here = ap (λ k. get_or bs k 0) (add_assoc i 2 1) in
    omega arith

pub word_put : (bs : List ℕ) (i n : ℕ) → i + 1 < length bs → n < 65536 → put16 bs i n ≡ put_at 2 bs i n
word_put bs i n h small =
    let high : n / 256 ≡ n / 256 % 256 = omega arith in
    ap (λ b. set (set bs i b) (i + 1) (n % 256)) high ∙ rw add-one (sets-eq (spelled 2 n) bs i (omega arith))

four_set : (bs : List ℕ) (i a b c d : ℕ) → i + 3 < length bs
    → set (set (set (set bs i a) (i + 1) b) (i + 2) c) (i + 2 + 1) d ≡ take i bs ++ (a ∷ b ∷ c ∷ d ∷ []) ++ drop (i + 4) bs
four_set bs i a b c d h =
    let one : i + 1 ≡ suc i = omega arith in
    let two : i + 2 ≡ suc (suc i) = omega arith in
    let three : i + 2 + 1 ≡ suc (suc (suc i)) = omega arith in
    rw (three, two, one) (sets-eq (a ∷ b ∷ c ∷ d ∷ []) bs i (omega arith))

-- a number of four bytes is put as two words
pub words_put : (bs : List ℕ) (i n : ℕ) → i + 3 < length bs → n < 4294967296 → put16 (put16 bs i (n / 65536)) (i + 2) (n % 65536) ≡ put_at 4 bs i n
words_put bs i n h small =
    let a : n / 65536 / 256 ≡ n / 256 / 256 / 256 % 256 = omega arith in
    let b : n / 65536 % 256 ≡ n / 256 / 256 % 256 = omega arith in
    let c : n % 65536 / 256 ≡ n / 256 % 256 = omega arith in
    let d : n % 65536 % 256 ≡ n % 256 = omega arith in
    four_set bs i (n / 65536 / 256) (n / 65536 % 256) (n % 65536 / 256) (n % 65536 % 256) h
    ∙ rw (a, b, c, d)

-- what is read and written where all of the bytes are there, and where one is not

pub read_within : {X : Type 0} (scalar : ℕ → X) (w : ℕ) (bs : List ℕ) (i : ℕ) → i + w ≤ length bs → read_at_of scalar w bs i ≡ Some (scalar (number_at w bs i))
read_within scalar w bs i h = cond-true (within w bs i) (Some (scalar (number_at w bs i))) None (le-leb (i + w) (length bs) h)

pub read_outside : {X : Type 0} (scalar : ℕ → X) (w : ℕ) (bs : List ℕ) (i : ℕ) → length bs < i + w → read_at_of scalar w bs i ≡ None
read_outside scalar w bs i h = cond-false (within w bs i) (Some (scalar (number_at w bs i))) None (lt-leb (i + w) (length bs) h)

pub written_within : (w : ℕ) (bs : List ℕ) (i n : ℕ) → i + w ≤ length bs → written_at w bs i n ≡ put_at w bs i n
written_within w bs i n h = cond-true (within w bs i) (put_at w bs i n) bs (le-leb (i + w) (length bs) h)

pub written_outside : (w : ℕ) (bs : List ℕ) (i n : ℕ) → length bs < i + w → written_at w bs i n ≡ bs
written_outside w bs i n h = cond-false (within w bs i) (put_at w bs i n) bs (lt-leb (i + w) (length bs) h)

-- numbers of 16 and 32 bits, read and written as words

pub word_read : (bs : List ℕ) (i n : ℕ) → within 2 bs i ≡ true → n ≡ word16 bs i → Some n ≡ read_at_of (λ k. k) 2 bs i
word_read bs i n there e =
    let h = leb-true (i + 2) (length bs) there in
    ap Some (e ∙ word_number bs i (omega arith)) ∙ sym (read_within (λ k. k) 2 bs i h)

pub words_read : (bs : List ℕ) (i high low : ℕ) → within 4 bs i ≡ true → high ≡ word16 bs i → low ≡ word16 bs (i + 2)
    → Some (high * 65536 + low) ≡ read_at_of (λ k. k) 4 bs i
words_read bs i high low there e f =
    let h = leb-true (i + 4) (length bs) there in
    let n = words_number bs i (omega arith) in
    let is : high * 65536 + low ≡ number_at 4 bs i = omega arith in
    ap Some is ∙ sym (read_within (λ k. k) 4 bs i h)

pub word_written : (bs new : List ℕ) (i n : ℕ) → within 2 bs i ≡ true → n < 65536 → new ≡ put16 bs i n → new ≡ written_at 2 bs i n
word_written bs new i n there small e =
    let h = leb-true (i + 2) (length bs) there in
    e ∙ (word_put bs i n (omega arith) small ∙ sym (written_within 2 bs i n h))

pub words_written : (bs mid new : List ℕ) (i n : ℕ) → within 4 bs i ≡ true → n < 4294967296 → mid ≡ put16 bs i (n / 65536) → new ≡ put16 mid (i + 2) (n % 65536)
    → new ≡ written_at 4 bs i n
words_written bs mid new i n there small e f =
    let h = leb-true (i + 4) (length bs) there in
    f ∙ (ap (λ ks. put16 ks (i + 2) (n % 65536)) e ∙ (words_put bs i n (omega arith) small ∙ sym (written_within 4 bs i n h)))

-- what a write leaves

pub length_put_at : (w : ℕ) (bs : List ℕ) (i n : ℕ) → i + w ≤ length bs → length (put_at w bs i n) ≡ length bs
length_put_at w bs i n h = let s = length_spelled w n in grind (arith, common_steps)

pub length-written_at : (w : ℕ) (bs : List ℕ) (i n : ℕ) → length (written_at w bs i n) ≡ length bs
length-written_at w bs i n =
    ⊎_elim
    (λ outside. ap length (written_outside w bs i n outside))
    (λ inside. ap length (written_within w bs i n inside) ∙ length_put_at w bs i n inside)
    (cases_lt (length bs) (i + w))

over_part : (w : ℕ) (bs : List ℕ) (i n : ℕ) → put_at w bs i n ≡ put_mid i w bs (spelled w n)
over_part w bs i n = append_assoc (take i bs) (spelled w n) (drop (i + w) bs) ∙ ap (λ ks. take i bs ++ (spelled w n ++ ks)) (sym (drop-drop w i bs))

pub take_put_at : (w : ℕ) (bs : List ℕ) (i n : ℕ) → i + w ≤ length bs → (k : ℕ) → k ≤ i → take k (put_at w bs i n) ≡ take k bs
take_put_at w bs i n h k le = ap (take k) (over_part w bs i n) ∙ take-put_mid_below i w bs (spelled w n) k le (omega arith)

pub drop_put_at : (w : ℕ) (bs : List ℕ) (i n : ℕ) → i + w ≤ length bs → (k : ℕ) → i + w ≤ k → drop k (put_at w bs i n) ≡ drop k bs
drop_put_at w bs i n h k le = ap (drop k) (over_part w bs i n) ∙ drop-put_mid i w bs (spelled w n) k le (omega arith) (length_spelled w n)

pub between_put_at : (w : ℕ) (bs : List ℕ) (i n : ℕ) → i + w ≤ length bs → take w (drop i (put_at w bs i n)) ≡ spelled w n
between_put_at w bs i n h = let s = length_spelled w n in grind (arith, common_steps)

-- the number of bytes that were not written is as before
pub apart_put_at : (w u : ℕ) (bs : List ℕ) (i j n : ℕ) → j + u ≤ length bs → Apart i w j u → number_at w (put_at u bs j n) i ≡ number_at w bs i
apart_put_at w u bs i j n h =
    ⊎_elim
    (λ before. ap big_endian (sym (drop-take i w (put_at u bs j n)) ∙ (ap (drop i) (take_put_at u bs j n h (i + w) before) ∙ drop-take i w bs)))
    (λ behind. ap (λ ks. big_endian (take w ks)) (drop_put_at u bs j n h i behind))

apart_within : {X : Type 0} (scalar : ℕ → X) (w u : ℕ) (bs : List ℕ) (i j n : ℕ) → Apart i w j u → j + u ≤ length bs
    → read_at_of scalar w (put_at u bs j n) i ≡ read_at_of scalar w bs i
apart_within scalar w u bs i j n apart h =
    ap (λ l. cond (leb (i + w) l) (Some (scalar (number_at w (put_at u bs j n) i))) None) (length_put_at u bs j n h)
    ∙ ap (λ k. cond (within w bs i) (Some (scalar k)) None) (apart_put_at w u bs i j n h apart)

pub reads_apart_lem : {X : Type 0} (scalar : ℕ → X) (w u : ℕ) (bs : List ℕ) (i j n : ℕ) → Apart i w j u
    → read_at_of scalar w (written_at u bs j n) i ≡ read_at_of scalar w bs i
reads_apart_lem scalar w u bs i j n apart =
    ⊎_elim
    (λ outside. ap (λ ks. read_at_of scalar w ks i) (written_outside u bs j n outside))
    (λ inside. ap (λ ks. read_at_of scalar w ks i) (written_within u bs j n inside) ∙ apart_within scalar w u bs i j n apart inside)
    (cases_lt (length bs) (j + u))

pub number_at_under : (w : ℕ) (bs : List ℕ) (i : ℕ) → i + w ≤ length bs → Bytes bs → number_at w bs i < 256 ^ w
number_at_under w bs i h all =
    let n = length-drop i bs in
    number_under w (take w (drop i bs)) (length-take-le w (drop i bs) (omega arith))
    (bytes_take w (drop i bs) (omega arith) (λ k l. rw get_or-drop (all (i + k) (omega arith))))

module _ {X : Type 0} (number : X → ℕ) (scalar : ℕ → X) (w : ℕ) where
  pub reads_back_lem : ((x : X) → scalar (number x) ≡ x) → ScalarReadsBack number scalar w
  reads_back_lem back bs i x fits there =
      let h = leb-true (i + w) (length bs) there in
      let n = length_put_at w bs i (number x) h in
      let spelt = ap big_endian (between_put_at w bs i (number x) h) ∙ number_spelled w (number x) fits in
      ap (λ ks. read_at_of scalar w ks i) (written_within w bs i (number x) h)
      ∙ (read_within scalar w (put_at w bs i (number x)) i (omega arith) ∙ (ap (λ k. Some (scalar k)) spelt ∙ ap Some (back x)))

  pub reads_number : ((n : ℕ) → n < 256 ^ w → number (scalar n) ≡ n) → ReadsNumber number scalar w
  reads_number forth bs i x all e = ⊎_elim none some (cases_lt (length bs) (i + w)) where
    none : length bs < i + w → (i + w ≤ length bs) × (number x ≡ number_at w bs i)
    none outside = let is = read_outside scalar w bs i outside in let z : ◌≡◌ {A = ℕ} 0 1 = cc in absurd (omega arith)

    some : i + w ≤ length bs → (i + w ≤ length bs) × (number x ≡ number_at w bs i)
    some inside =
        let is = read_within scalar w bs i inside in
        let same : x ≡ scalar (number_at w bs i) = cc in
        (inside, ap number same ∙ forth (number_at w bs i) (number_at_under w bs i inside all))
