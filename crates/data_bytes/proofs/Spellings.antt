-- Spelling a number in bytes and reading it, at every width.
use Rattle.std.proofs.Common.{◌≡◌, ℕ, zero, suc, ◌+◌, ◌*◌, ◌/◌, ◌%◌, ◌^◌, ◌<◌, ◌≤◌, List, [], ◌∷◌, ◌++◌, length, get_or, take, sym, refl, ap, ◌∙◌, ⊎_elim, div-lt_iff_lt-mul, pow-suc, div-add-mod', add-one, arith, lit<}
use lib.Arith.{digits_div, digits_mod}
use Rattle.std.proofs.ByRecursion.{All-from_get_or}
use Rattle.std.proofs.lemmas.Int.Digits.{number_lt, number_more, number_push}
use Rattle.std.proofs.lemmas.List.{length_push, length-take-le, take_more, take_all, get_or-take, get_or_append_left, get_or_push}
use Rattle.std.proofs.lemmas.Bool.{cases_lt}
use Rattle.data_bytes.specs.BigEndian.{Bytes, big_endian, spelled}

pub length_spelled : (w n : ℕ) → length (spelled w n) ≡ w
length_spelled zero n = refl
length_spelled (suc w) n = length_push (spelled w (n / 256)) (n % 256) ∙ (ap (λ k. k + 1) (length_spelled w (n / 256)) ∙ add-one w)

pub bytes_push : (bs : List ℕ) (b : ℕ) → Bytes bs → b < 256 → Bytes (bs ++ (b ∷ []))
bytes_push bs b all h k l =
    let n = length_push bs b in
    ⊎_elim
    (λ less. rw (get_or_append_left bs (b ∷ []) 0 k less) (all k less))
    (λ more. rw (get_or_push bs b 0 k (omega arith)) h)
    (cases_lt k (length bs))

pub bytes_spelled : (w n : ℕ) → Bytes (spelled w n)
bytes_spelled zero n = λ k l. absurd (omega arith)
bytes_spelled (suc w) n = bytes_push (spelled w (n / 256)) (n % 256) (bytes_spelled w (n / 256)) (omega arith)

pub number_spelled : (w n : ℕ) → n < 256 ^ w → big_endian (spelled w n) ≡ n
number_spelled zero n h = omega arith
number_spelled (suc w) n h =
    let less : n < 256 ^ w * 256 = rw pow-suc at h in
    let rest = number_spelled w (n / 256) ((div-lt_iff_lt-mul (lit< tt)).1 less) in
    number_push 256 (spelled w (n / 256)) (n % 256) ∙ (ap (λ k. k * 256 + n % 256) rest ∙ div-add-mod' n 256)

-- a list of suc w is its first w and its last
last_apart : (w : ℕ) (bs : List ℕ) → length bs ≡ suc w → bs ≡ take w bs ++ (get_or bs w 0 ∷ [])
last_apart w bs e = sym (take_all (w + 1) bs (omega arith)) ∙ take_more bs w 0 (omega arith)

pub bytes_take : (w : ℕ) (bs : List ℕ) → w ≤ length bs → Bytes bs → Bytes (take w bs)
bytes_take w bs le all k l =
    let n = length-take-le w bs le in
    let below : k < w = omega arith in
    rw get_or-take (all k (omega arith))

number_last : (w : ℕ) (bs : List ℕ) → length bs ≡ suc w → big_endian bs ≡ big_endian (take w bs) * 256 + get_or bs w 0
number_last w bs e = ap big_endian (sym (take_all (w + 1) bs (omega arith))) ∙ number_more 256 bs w (omega arith)

pub spelled_again : (w : ℕ) (bs : List ℕ) → length bs ≡ w → Bytes bs → spelled w (big_endian bs) ≡ bs
spelled_again zero [] e all = refl
spelled_again zero (b ∷ bs) e all = absurd (omega arith)
spelled_again (suc w) bs e all =
    let last = all w (omega arith) in
    let n = number_last w bs e in
    let q : big_endian bs / 256 ≡ big_endian (take w bs) = ap (λ k. k / 256) n ∙ digits_div (big_endian (take w bs)) last in
    let r : big_endian bs % 256 ≡ get_or bs w 0 = ap (λ k. k % 256) n ∙ digits_mod (big_endian (take w bs)) last in
    let front = spelled_again w (take w bs) (length-take-le w bs (omega arith)) (bytes_take w bs (omega arith) all) in
    ap (λ k. spelled w k ++ (big_endian bs % 256 ∷ [])) q ∙ (ap (λ k. spelled w (big_endian (take w bs)) ++ (k ∷ [])) r
    ∙ (ap (λ ks. ks ++ (get_or bs w 0 ∷ [])) front ∙ sym (last_apart w bs e)))

pub number_under : (w : ℕ) (bs : List ℕ) → length bs ≡ w → Bytes bs → big_endian bs < 256 ^ w
number_under w bs e all = rw e at (number_lt 256 bs (All-from_get_or (λ b. b < 256) bs 0 all))
