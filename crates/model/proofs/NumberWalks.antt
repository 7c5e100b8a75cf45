-- Sums over the walk of a model by the kinds of its tables: vertices, links, bytes.
use Rattle.std.proofs.Common.{◌≡◌, ℕ, zero, suc, ◌+◌, ◌*◌, List, [], ◌∷◌, ◌++◌, map, length, set, Some, None, Option, sym, refl, ap, ◌∙◌, arith, length-append}
use Rattle.std.specs.Option.{option_to_list}
use Rattle.std.specs.List.{flat_map}
use Rattle.std.proofs.lemmas.List.{length-map}
use Rattle.data_bytes.proofs.ValueLists.{length-value_bytes}
use Rattle.model.specs.Forest.{Ligature, LigatureSet, Subtable, Lookup}
use Rattle.model.specs.Tables.{Slot, Placed, slots_from, head, zeros, lookup_table, extension_table, subtable_table, coverage_table, set_table, ligature_table, set_walk, extension_walk, subtable_walk, lookup_walk, vertex_of, count_of, links_of}
use Rattle.model.specs.Rules.{nth}
use Rattle.model.specs.Cutting.{table_length}
use Rattle.model.specs.Splitting.{mark_room}
use Rattle.model.specs.CuttingLaws.{bytes_of}
use Rattle.model.proofs.NumberSums.{tally, tally_append, tally_map, tally_joined, tally_ones, one, count_tally}
use Rattle.model.proofs.NumberParts.{ligatures_in}
use Rattle.model.proofs.NumberWeights.{Weights, of_extension, of_sets, of_subtable}
use Rattle.model.proofs.PartsBytes.{length_zeros, bytes_set, bytes_subtable, bytes_ligature}

-- a sum over the walk of a lookup, when each table counts for what its kind says
module _ (k : Weights) (f : Placed → ℕ) where
  -- f of each kind of table: the slots of a table that has them may count with the tables that they lead to
  pub record Counts : Type 0 where
    pub extension : (e v : ℕ) → f (extension_table e v) ≡ k.extension e
    pub subtable : ℕ
    pub owning : ℕ
    pub own_subtable : (s : Subtable) → f (subtable_table s) + subtable ≡ k.subtable s.vertex + owning * length s.sets
    pub coverage : (s : Subtable) → f (coverage_table s) ≡ k.coverage s.coverage s.covering
    pub slots : ℕ
    pub own_set_lem : (c : ℕ) (t : LigatureSet) → f (set_table c t) + owning ≡ k.set t.vertex + slots * length t.ligatures
    pub own_ligature : (c : ℕ) (g : Ligature) → f (ligature_table c g) + slots ≡ k.ligature g

  module _ (n : Counts) where
    ligatures_count : (c : ℕ) (gs : List Ligature) → tally f (map (ligature_table c) gs) + n.slots * length gs ≡ tally k.ligature gs
    ligatures_count c [] = omega arith
    ligatures_count c (g ∷ gs) =
        let a = ligatures_count c gs in
        let b = n.own_ligature c g in
        omega arith

    sets_count : (c : ℕ) (ts : List LigatureSet) → tally f (flat_map (set_walk c) ts) + n.owning * length ts ≡ of_sets k ts
    sets_count c [] = omega arith
    sets_count c (t ∷ ts) =
        let a = sets_count c ts in
        let b = tally_append f (set_walk c t) (flat_map (set_walk c) ts) in
        let d = n.own_set_lem c t in
        let e = ligatures_count c t.ligatures in
        let g = tally_append k.ligature t.ligatures (ligatures_in ts) in
        omega arith

    extension_counts : (o : Option ℕ) (v : ℕ) → tally f (extension_walk o v) ≡ of_extension k o
    extension_counts None v = refl
    extension_counts (Some e) v = let a = n.extension e v in omega arith

    pub subtable_counts : (s : Subtable) → tally f (subtable_walk s) + n.subtable ≡ of_subtable k s
    subtable_counts s =
        let a = extension_counts s.extension s.vertex in
        let b = tally_append f (extension_walk s.extension s.vertex) (subtable_table s ∷ coverage_table s ∷ flat_map (set_walk s.coverage) s.sets) in
        let c = n.own_subtable s in
        let d = n.coverage s in
        let e = sets_count s.coverage s.sets in
        omega arith

    pub subtables_count : (ss : List Subtable) → tally f (flat_map subtable_walk ss) + n.subtable * length ss ≡ tally (of_subtable k) ss
    subtables_count [] = omega arith
    subtables_count (s ∷ ss) =
        let a = subtable_counts s in
        let b = subtables_count ss in
        let c = tally_append f (subtable_walk s) (flat_map subtable_walk ss) in
        omega arith

-- VERTICES: each table counts for a value of its vertex
abbrev pub vertex_weights : (ℕ → ℕ) → Weights
vertex_weights w = record { extension = w; subtable = w; coverage = λ v bs. w v; set = w; ligature = λ g. w g.vertex }

abbrev vertex_counts : (w : ℕ → ℕ) → Counts (vertex_weights w) (λ (p : Placed). w p.vertex)
vertex_counts w =
    record {
      extension = λ e v. refl;
      subtable = 0;
      owning = 0;
      own_subtable = λ s. omega arith;
      coverage = λ s. refl;
      slots = 0;
      own_set_lem = λ c t. omega arith;
      own_ligature = λ c g. omega arith;
    }

pub lookup_vertices : (w : ℕ → ℕ) (l : Lookup) → tally (λ (p : Placed). w p.vertex) (lookup_walk l) ≡ w l.vertex + tally (of_subtable (vertex_weights w)) l.subtables
lookup_vertices w l = let a = subtables_count (vertex_weights w) (λ (p : Placed). w p.vertex) (vertex_counts w) l.subtables in omega arith

-- LINKS: the slot that leads to a table counts with that table
abbrev pub link_weights : Weights
link_weights = record { extension = λ v. 1; subtable = λ v. 2; coverage = λ v bs. 0; set = λ v. 2; ligature = λ g. 2 }

slots_length : (p : ℕ) (ts : List ℕ) → length (slots_from p ts) ≡ length ts
slots_length p [] = refl
slots_length p (t ∷ ts) = ap suc (slots_length (p + 2) ts)

abbrev target : Slot → ℕ
target s = s.target

links_from : (p : ℕ) (ts vs : List ℕ) → length (map target (slots_from p ts) ++ vs) ≡ length ts + length vs
links_from p ts vs =
    let a = length-append (map target (slots_from p ts)) vs in
    let b = length-map (slots_from p ts) target in
    let c = slots_length p ts in
    omega arith

subtable_links : (s : Subtable) → links_of (subtable_table s) ≡ suc (length s.sets)
subtable_links s =
    let a = links_from 6 (map (λ (t : LigatureSet). t.vertex) s.sets) [] in
    let b = length-map s.sets (λ (t : LigatureSet). t.vertex) in
    omega arith

set_links : (c : ℕ) (t : LigatureSet) → links_of (set_table c t) ≡ suc (length t.ligatures)
set_links c t =
    let a = links_from 2 (map (λ (g : Ligature). g.vertex) t.ligatures) (c ∷ []) in
    let b = length-map t.ligatures (λ (g : Ligature). g.vertex) in
    omega arith

abbrev link_counts : Counts link_weights links_of
link_counts =
    record {
      extension = λ e v. refl;
      subtable = 1;
      owning = 1;
      own_subtable = λ s. let a = subtable_links s in omega arith;
      coverage = λ s. refl;
      slots = 1;
      own_set_lem = λ c t. let a = set_links c t in omega arith;
      own_ligature = λ c g. refl;
    }

pub lookup_links : (l : Lookup) → tally links_of (lookup_walk l) ≡ tally (of_subtable link_weights) l.subtables
lookup_links l =
    let a = subtables_count link_weights links_of link_counts l.subtables in
    let b = links_from 6 (map (λ (s : Subtable). head s) l.subtables) [] in
    let c = length-map l.subtables (λ (s : Subtable). head s) in
    omega arith

-- BYTES: so does the slot itself
abbrev pub byte_weights : Weights
byte_weights = record { extension = λ v. 8; subtable = λ v. 8; coverage = λ v bs. length bs; set = λ v. 4; ligature = λ g. 2 + table_length g }

mark_room_lem : (o : Option ℕ) → 2 * length (option_to_list o) ≡ mark_room o
mark_room_lem None = refl
mark_room_lem (Some m) = refl

pub lookup_table_bytes : (l : Lookup) → bytes_of (lookup_table l) ≡ 6 + (2 * length l.subtables + mark_room l.mark)
lookup_table_bytes l =
    let a = length-value_bytes (l.kind ∷ l.flag ∷ length l.subtables ∷ (zeros (length l.subtables) ++ option_to_list l.mark)) in
    let b = length-append (zeros (length l.subtables)) (option_to_list l.mark) in
    let c = length_zeros (length l.subtables) in
    let d = mark_room_lem l.mark in
    omega arith

abbrev byte_counts : Counts byte_weights bytes_of
byte_counts =
    record {
      extension = λ e v. refl;
      subtable = 2;
      owning = 2;
      own_subtable = λ s. let a = bytes_subtable s in omega arith;
      coverage = λ s. refl;
      slots = 2;
      own_set_lem = λ c t. let a = bytes_set c t in omega arith;
      own_ligature = λ c g. let a = bytes_ligature c g in omega arith;
    }

pub lookup_bytes_lem : (l : Lookup) → tally bytes_of (lookup_walk l) ≡ 6 + (mark_room l.mark + tally (of_subtable byte_weights) l.subtables)
lookup_bytes_lem l =
    let a = subtables_count byte_weights bytes_of byte_counts l.subtables in
    let b = lookup_table_bytes l in
    omega arith

-- ONE LOOKUP IN PLACE OF ANOTHER
in_place : (f : Lookup → ℕ) (ls : List Lookup) (n : ℕ) (l new : Lookup) → nth ls n ≡ Some l → tally f (set ls n new) + f l ≡ tally f ls + f new
in_place f [] n l new e = cc
in_place f (x ∷ ls) zero l new e =
    let same : x ≡ l = cc in
    let a : f x ≡ f l = ap f same in
    omega arith
in_place f (x ∷ ls) (suc n) l new e = let a = in_place f ls n l new e in omega arith

pub walk_in_place : (f : Placed → ℕ) (ls : List Lookup) (n : ℕ) (l new : Lookup) → nth ls n ≡ Some l
    → tally f (flat_map lookup_walk (set ls n new)) + tally f (lookup_walk l) ≡ tally f (flat_map lookup_walk ls) + tally f (lookup_walk new)
walk_in_place f ls n l new e =
    let a = in_place (λ x. tally f (lookup_walk x)) ls n l new e in
    let b = tally_joined f lookup_walk ls in
    let c = tally_joined f lookup_walk (set ls n new) in
    omega arith

-- the measures as Sound says them
pub walk_length : (ps : List Placed) → length ps ≡ tally (λ (p : Placed). 1) ps
walk_length ps = sym (tally_ones ps)

pub walk_count : (v : ℕ) (ps : List Placed) → count_of v (map vertex_of ps) ≡ tally (λ (p : Placed). one v p.vertex) ps
walk_count v ps = count_tally v (map vertex_of ps) ∙ tally_map (one v) vertex_of ps
