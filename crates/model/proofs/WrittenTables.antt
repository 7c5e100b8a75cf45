-- The tables of a written lookup as lists of values: no offset too far, the slots hold how far it is to their targets.
use Rattle.std.proofs.Common.{◌≡◌, ℕ, ◌+◌, ◌<◌, ◌≤◌, Bool, false, ◌||◌, ltb, List, [], ◌∷◌, ◌++◌, map, length, refl, ap, ◌∙◌, arith, length-append}
use Rattle.std.specs.List.{AllByRecursion}
use Rattle.std.specs.Option.{option_to_list}
use Rattle.std.proofs.lemmas.List.{append-nil, length-map}
use Rattle.std.proofs.lemmas.Bool.{or_from, or_parts, le-ltb, ltb-false}
use Rattle.data_bytes.specs.BigEndian.{spelled}
use Rattle.data_bytes.specs.Values.{value_bytes}
use Rattle.model.specs.Forest.{Ligature, LigatureSet, Subtable, Lookup}
use Rattle.model.specs.Tables.{Placed, slots_from, head, zeros, extension_bytes, lookup_table, extension_table, subtable_table, set_table}
use Rattle.model.specs.Writing.{Start, fill_slots, filled, too_far, any_too_far}
use Rattle.model.proofs.LayPlaces.{ahead, put_value, fill_values, fill_last}

-- NO OFFSET IS TOO FAR
abbrev pub Near : List Start → Placed → Type 0
Near ss x = too_far ss x.vertex x.table.slots ≡ false

pub near_all : (ss : List Start) (xs : List Placed) → any_too_far ss xs ≡ false → AllByRecursion (Near ss) xs
near_all ss [] h = tt
near_all ss (x ∷ xs) h =
    let p = or_parts (too_far ss x.vertex x.table.slots) (any_too_far ss xs) h in
    (p.0, near_all ss xs p.1)

pub all_near : (ss : List Start) (xs : List Placed) → AllByRecursion (Near ss) xs → any_too_far ss xs ≡ false
all_near ss [] a = refl
all_near ss (x ∷ xs) a = or_from (too_far ss x.vertex x.table.slots) (any_too_far ss xs) a.0 (all_near ss xs a.1)

module _ (ss : List Start) (v : ℕ) where
  near_first : (t : ℕ) (later : Bool) → (ltb 65535 (ahead ss v t) || later) ≡ false → (ahead ss v t < 65536) × (later ≡ false)
  near_first t later h =
      let q = or_parts (ltb 65535 (ahead ss v t)) later h in
      let le = ltb-false 65535 (ahead ss v t) q.0 in
      (omega arith, q.1)

  pub near_slots : (p : ℕ) (ts : List ℕ) → too_far ss v (slots_from p ts) ≡ false → AllByRecursion (λ t. ahead ss v t < 65536) ts
  near_slots p [] h = tt
  near_slots p (t ∷ ts) h = let q = near_first t (too_far ss v (slots_from (p + 2) ts)) h in (q.0, near_slots (p + 2) ts q.1)

  pub slots_near : (p : ℕ) (ts : List ℕ) → AllByRecursion (λ t. ahead ss v t ≤ 65535) ts → too_far ss v (slots_from p ts) ≡ false
  slots_near p [] a = refl
  slots_near p (t ∷ ts) a = or_from (ltb 65535 (ahead ss v t)) (too_far ss v (slots_from (p + 2) ts)) (le-ltb 65535 (ahead ss v t) a.0) (slots_near (p + 2) ts a.1)

-- WHAT THE SLOTS LEAD TO
abbrev pub heads : Lookup → List ℕ
heads l = map (λ (s : Subtable). head s) l.subtables

abbrev pub set_vertices : Subtable → List ℕ
set_vertices s = map (λ (t : LigatureSet). t.vertex) s.sets

abbrev pub ligature_vertices : LigatureSet → List ℕ
ligature_vertices t = map (λ (g : Ligature). g.vertex) t.ligatures

module _ (ss : List Start) where
  -- the values of each kind of table that has slots
  abbrev pub lookup_values : Lookup → List ℕ
  lookup_values l = l.kind ∷ l.flag ∷ length l.subtables ∷ (map (ahead ss l.vertex) (heads l) ++ option_to_list l.mark)

  abbrev pub subtable_values : Subtable → List ℕ
  subtable_values s = 1 ∷ ahead ss s.vertex s.coverage ∷ length s.sets ∷ map (ahead ss s.vertex) (set_vertices s)

  abbrev pub set_values : LigatureSet → List ℕ
  set_values t = length t.ligatures ∷ map (ahead ss t.vertex) (ligature_vertices t)

  pub length_lookup_values : (l : Lookup) → length (lookup_values l) ≡ 3 + (length l.subtables + length (option_to_list l.mark))
  length_lookup_values l =
      let a = length-append (map (ahead ss l.vertex) (heads l)) (option_to_list l.mark) in
      let b = length-map (heads l) (ahead ss l.vertex) in
      let c = length-map l.subtables (λ (s : Subtable). head s) in
      omega arith

  pub length_subtable_values : (s : Subtable) → length (subtable_values s) ≡ 3 + length s.sets
  length_subtable_values s =
      let b = length-map (set_vertices s) (ahead ss s.vertex) in
      let c = length-map s.sets (λ (t : LigatureSet). t.vertex) in
      omega arith

  pub length_set_values : (t : LigatureSet) → length (set_values t) ≡ 1 + length t.ligatures
  length_set_values t =
      let b = length-map (ligature_vertices t) (ahead ss t.vertex) in
      let c = length-map t.ligatures (λ (g : Ligature). g.vertex) in
      omega arith

  pub near_subtable : (s : Subtable) → Near ss (subtable_table s) → (ahead ss s.vertex s.coverage < 65536) × AllByRecursion (λ t. ahead ss s.vertex t < 65536) (set_vertices s)
  near_subtable s near =
      let q = near_first ss s.vertex s.coverage (too_far ss s.vertex (slots_from 6 (set_vertices s))) near in
      (q.0, near_slots ss s.vertex 6 (set_vertices s) q.1)

  -- a filled table spells its values
  pub filled_lookup : (l : Lookup) → Near ss (lookup_table l) → filled ss (lookup_table l) ≡ value_bytes (lookup_values l)
  filled_lookup l near =
      let n = length l.subtables in
      fill_values ss l.vertex (l.kind ∷ l.flag ∷ n ∷ []) (heads l) (option_to_list l.mark) 6 n refl (length-map l.subtables (λ (s : Subtable). head s)) (near_slots ss l.vertex 6 (heads l) near)

  pub filled_subtable : (s : Subtable) → Near ss (subtable_table s) → filled ss (subtable_table s) ≡ value_bytes (subtable_values s)
  filled_subtable s near =
      let n = length s.sets in
      let v = s.vertex in
      let o = ahead ss v s.coverage in
      let q = near_subtable s near in
      ap (fill_slots ss v (slots_from 6 (set_vertices s))) (put_value (1 ∷ []) 0 o (n ∷ zeros n) 2 refl q.0)
      ∙ fill_last ss v (1 ∷ o ∷ n ∷ []) (set_vertices s) 6 n refl (length-map s.sets (λ (t : LigatureSet). t.vertex)) q.1

  pub filled_set : (c : ℕ) (t : LigatureSet) → Near ss (set_table c t) → filled ss (set_table c t) ≡ value_bytes (set_values t)
  filled_set c t near =
      let n = length t.ligatures in
      fill_last ss t.vertex (n ∷ []) (ligature_vertices t) 2 n refl (length-map t.ligatures (λ (g : Ligature). g.vertex)) (near_slots ss t.vertex 2 (ligature_vertices t) near)

  -- the low four bytes of how far it is to the subtable
  pub filled_extension : (e v : ℕ) → filled ss (extension_table e v) ≡ extension_bytes ++ spelled 4 (ahead ss e v)
  filled_extension e v = append-nil (extension_bytes ++ spelled 4 (ahead ss e v))
