-- Readable bytes and the rules that they hold, from the format alone: any bytes, a lookup at 0, slots holding offsets.
use Rattle.std.specs.Prelude.{ℕ, zero, suc, ◌+◌, ◌-◌, ◌*◌, ◌/◌, ◌%◌, Bool, cond, ◌&&◌, ◌||◌, List, [], ◌∷◌, ◌++◌, length, drop, Some, None, Ok, Err, Option, Result, ◌==◌, nat_le, nat_lt, slice_index}
use Rattle.refusals.specs.declared.Refusal.{Refusal}
use Rattle.refusals.specs.declared.Refusal.TheVariants.{NoPlace, Unreadable}
use Rattle.data_bytes.specs.BigEndian.{word16, number_at}
use Rattle.data_bytes.specs.Values.{values_at}
use Rattle.coverage.specs.Meaning.{Meant}
use Rattle.model.specs.Rules.{Rule, Shaped, first_rule}

-- the n bytes from p on are all there
abbrev pub there : List ℕ → ℕ → ℕ → Bool
there bs p n = nat_le (p + n) (length bs)

-- what is read, or the start of the first table that cannot be
abbrev pub Read : Type 0
Read = Result (List Rule) ℕ

abbrev pub and_then : Read → Read → Read
and_then (Ok rs) (Ok ss) = Ok (rs ++ ss)
and_then (Ok rs) (Err p) = Err p
and_then (Err p) s = Err p

-- each of n slots of two bytes from q on leads to a table, counted from the table's start p
abbrev pub each_slot : (ℕ → ℕ → Read) → List ℕ → ℕ → ℕ → ℕ → ℕ → Read
each_slot at bs p q i zero = Ok []
each_slot at bs p q i (suc n) = and_then (at i (p + word16 bs q)) (each_slot at bs p (q + 2) (suc i) n)

-- a ligature: glyph, component count of at least 1, the components behind the first
abbrev pub ligature_at : List ℕ → ℕ → ℕ → Read
ligature_at bs first p =
    cond (there bs p 4 && (nat_lt 0 (word16 bs (p + 2)) && there bs p (2 + 2 * word16 bs (p + 2))))
    (Ok (record { glyphs = first ∷ values_at bs (p + 4) (word16 bs (p + 2) - 1); ligature = word16 bs p } ∷ []))
    (Err p)

-- a set: a count and so many ligature slots
abbrev pub set_at : List ℕ → ℕ → ℕ → Read
set_at bs first p =
    cond (there bs p 2 && there bs p (2 + 2 * word16 bs p))
    (each_slot (λ i q. ligature_at bs first q) bs p (p + 2) 0 (word16 bs p))
    (Err p)

abbrev pub shape_read : Read → List ℕ → ℕ → Result Shaped Refusal
shape_read (Ok rs) s p = Ok (first_rule rs (drop p s))
shape_read (Err q) s p = Err (Unreadable q)

-- a mark filtering set stands behind the slots if the flag has bit 0x0010
abbrev pub has_mark : ℕ → Bool
has_mark flag = flag / 16 % 2 == 1

abbrev pub head_size : List ℕ → ℕ
head_size bs = 6 + (2 * word16 bs 4 + cond (has_mark (word16 bs 2)) 2 0)

module _ (meaning : List ℕ → Option Meant) where
  abbrev pub sets_under : List ℕ → ℕ → Option Meant → ℕ → ℕ → Read
  sets_under bs p None c q = Err q
  sets_under bs p (Some m) c q =
      cond (length m.0 == c) (each_slot (λ i r. set_at bs (slice_index m.0 i) r) bs p (p + 6) 0 c) (Err q)

  -- a subtable: the value 1, a coverage slot, a count and so many set slots; the coverage has a glyph for each set
  abbrev pub subtable_at : List ℕ → ℕ → Read
  subtable_at bs p =
      cond (there bs p 6 && (word16 bs p == 1 && there bs p (6 + 2 * word16 bs (p + 4))))
      (cond (there bs (p + word16 bs (p + 2)) 0)
      (sets_under bs p (meaning (drop (p + word16 bs (p + 2)) bs)) (word16 bs (p + 4)) (p + word16 bs (p + 2)))
      (Err (p + word16 bs (p + 2))))
      (Err p)

  -- an extension table: 00 01 00 04, and a four-byte slot
  abbrev pub extension_at : List ℕ → ℕ → Read
  extension_at bs p =
      cond (there bs p 8 && (word16 bs p == 1 && word16 bs (p + 2) == 4)) (subtable_at bs (p + number_at 4 bs (p + 4))) (Err p)

  -- a lookup: type, flag, count, so many subtable slots
  abbrev pub rules_in : List ℕ → Read
  rules_in bs =
      cond (there bs 0 6 && ((word16 bs 0 == 4 || word16 bs 0 == 7) && there bs 0 (head_size bs)))
      (each_slot (λ i q. cond (word16 bs 0 == 7) (extension_at bs q) (subtable_at bs q)) bs 0 6 0 (word16 bs 4))
      (Err 0)

  -- the outcome of read(bytes, string, place)
  abbrev pub read : List ℕ → List ℕ → ℕ → Result Shaped Refusal
  read bs s p = cond (nat_lt p (length s)) (shape_read (rules_in bs) s p) (Err NoPlace)
