-- Written lookups: the order of tables, their starts, offsets in the slots, the bytes; write's refusals.
use Rattle.std.specs.Prelude.{ℕ, ◌+◌, ◌-◌, Bool, false, cond, ◌&&◌, ◌||◌, List, [], ◌∷◌, ◌++◌, map, length, Some, None, Ok, Err, sum_by, Option, Result, ◌==◌, nat_le, nat_lt}
use Rattle.std.specs.List.{flat_map}
use Rattle.refusals.specs.declared.Refusal.{Refusal}
use Rattle.refusals.specs.declared.Refusal.TheVariants.{NoLookup, OffsetOverflow, ShortBuffer}
use Rattle.data_bytes.specs.BigEndian.{put_at}
use Rattle.model.specs.Forest.{LigatureSet, Subtable, Lookup, Model}
use Rattle.model.specs.Tables.{Slot, Placed, lookup_table, extension_walk, subtable_table, coverage_table, set_table, ligature_table}
use Rattle.model.specs.Rules.{nth}

-- the lookup, the extension tables, then each subtable: itself, its sets, its ligatures set by set, its coverage
abbrev pub subtable_order : Subtable → List Placed
subtable_order s =
    subtable_table s
    ∷ (map (set_table s.coverage) s.sets
    ++ (flat_map (λ (t : LigatureSet). map (ligature_table s.coverage) t.ligatures) s.sets
    ++ coverage_table s ∷ []))

abbrev pub extensions_of : List Subtable → List Placed
extensions_of ss = flat_map (λ (s : Subtable). extension_walk s.extension s.vertex) ss

abbrev pub write_order : Lookup → List Placed
write_order l = lookup_table l ∷ (extensions_of l.subtables ++ flat_map subtable_order l.subtables)

-- tables lie end to end
pub record Start : Type 0 where
  pub vertex : ℕ
  pub at : ℕ

abbrev pub starts_from : ℕ → List Placed → List Start
starts_from at [] = []
starts_from at (p ∷ ps) = record { vertex = p.vertex; at = at } ∷ starts_from (at + length p.table.bytes) ps

abbrev pub start_of : List Start → ℕ → ℕ
start_of [] v = 0
start_of (s ∷ ss) v = cond (s.vertex == v) s.at (start_of ss v)

abbrev pub starts_in : Lookup → List Start
starts_in l = starts_from 0 (write_order l)

-- a slot holds the distance from the start of its table to the start of its target
abbrev pub offset : List Start → ℕ → Slot → ℕ
offset ss v t = start_of ss t.target - start_of ss v

abbrev pub fill_slots : List Start → ℕ → List Slot → List ℕ → List ℕ
fill_slots ss v [] bs = bs
fill_slots ss v (t ∷ ts) bs = fill_slots ss v ts (put_at t.width bs t.position (offset ss v t))

abbrev pub filled : List Start → Placed → List ℕ
filled ss p = fill_slots ss p.vertex p.table.slots p.table.bytes

abbrev pub written_size : Lookup → ℕ
written_size l = sum_by (λ (p : Placed). length p.table.bytes) (write_order l)

unfoldable pub written : Lookup → List ℕ
written l = flat_map (filled (starts_in l)) (write_order l)

-- some two-byte offset is above 65535
abbrev pub too_far : List Start → ℕ → List Slot → Bool
too_far ss v [] = false
too_far ss v (t ∷ ts) = (t.width == 2 && nat_lt 65535 (offset ss v t)) || too_far ss v ts

abbrev pub any_too_far : List Start → List Placed → Bool
any_too_far ss [] = false
any_too_far ss (p ∷ ps) = too_far ss p.vertex p.table.slots || any_too_far ss ps

abbrev pub overflows : Lookup → Bool
overflows l = any_too_far (starts_in l) (write_order l)

abbrev pub write_in : Option Lookup → ℕ → Result (List ℕ) Refusal
write_in None room = Err NoLookup
write_in (Some l) room =
    cond (overflows l) (Err OffsetOverflow) (cond (nat_le (written_size l) room) (Ok (written l)) (Err (ShortBuffer (written_size l))))

-- the outcome of write(lookup n) into a buffer of that many bytes: what its front then holds
abbrev pub write : Model → ℕ → ℕ → Result (List ℕ) Refusal
write m n room = write_in (nth m.lookups n) room
