-- An accepted wrap: extension tables by link position, what they take, and that a good model stays good.
use Rattle.std.proofs.Common.{◌≡◌, ℕ, suc, ◌+◌, ◌*◌, ◌≤◌, Bool, true, false, cond, eqb, List, [], ◌∷◌, map, length, set, is_some, Some, sum_by, Option, sym, refl, ap, ◌∙◌, subst, arith}
use Rattle.std.specs.List.{flat_map, AllByRecursion}
use Rattle.std.proofs.ByRecursion.{All-set}
use Rattle.std.proofs.lemmas.Option.{same_Some}
use Rattle.coverage.specs.Meaning.{Meant}
use Rattle.model.specs.Forest.{Subtable, Lookup, Model}
use Rattle.model.specs.Tables.{Placed, lookup_walk, links_of}
use Rattle.model.specs.Rules.{nth}
use Rattle.model.specs.Splitting.{extended, is_wrapped, Changed, wrap_lookup}
use Rattle.model.specs.Sound.{GoodLookup, Good}
use Rattle.model.specs.NumberingLaws.{up_from, Wraps, Wrapped, WrapsAsBilled}
use Rattle.model.specs.CuttingLaws.{bytes_of}
use Rattle.model.proofs.Lists.{nth_set_same}
use Rattle.model.proofs.NumberSums.{tally, tally_sum, tally_up, tally_up_each}
use Rattle.model.proofs.NumberWeights.{Weights, of_subtable, extended_weigh}
use Rattle.model.proofs.NumberWalks.{vertex_weights, link_weights, byte_weights, lookup_vertices, lookup_links, lookup_bytes_lem, walk_in_place}
use Rattle.model.proofs.NumberTables.{extended_keep}
use Rattle.model.proofs.NumberModel.{good_lookup, grown_length, grown_count, grown_distinct, grown_below}
use Rattle.model.proofs.KeepModels.{wrap_to, wrap_is}
use Rattle.model.proofs.KeepSound.{wrapping_keeps_lookups_well_formed_lem}

-- the model and the lookup afterwards, by name
pub wraps_to : (P : Lookup → Changed → Type 0) (m : Model) (n : ℕ) (l after : Lookup) (c : Changed) → Wraps m n l after c
    → (is_wrapped l ≡ false → P (wrap_lookup m.taken.vertices l) (wrap_to m n l)) → P after c
wraps_to P m n l after c s h =
    let k = wrap_is s.caps m n c l s.was s.accepted in
    let new = wrap_lookup m.taken.vertices l in
    let f : new ≡ after = same_Some _ _ (sym (nth_set_same m.lookups n l new s.was) ∙ ap (λ (x : Changed). nth x.model.lookups n) k.1 ∙ s.is) in
    subst (λ (x : Lookup). P x c) f (subst (λ (x : Changed). P new x) k.1 (h k.0))

-- EXTENSION TABLES
extensions_are : (fresh : ℕ) (ss : List Subtable) → map (λ (s : Subtable). s.extension) (extended fresh ss) ≡ map (λ (v : ℕ). Some v) (up_from fresh (length ss))
extensions_are fresh [] = refl
extensions_are fresh (s ∷ ss) = ap (λ q. Some fresh ∷ q) (extensions_are (suc fresh) ss)

-- the kind of a lookup that is not wrapped
unwrapped : (b : Bool) (A B : Type 0) → cond b A B → b ≡ false → B
unwrapped true A B h e = cc
unwrapped false A B h e = h

module _ (meaning : List ℕ → Option Meant) (m : Model) (n : ℕ) (l : Lookup) (was : nth m.lookups n ≡ Some l) (g : Good meaning m) (plain : is_wrapped l ≡ false) where
  bare : AllByRecursion (λ (s : Subtable). is_some s.extension ≡ false) l.subtables
  bare =
      (unwrapped (eqb l.kind 7) (AllByRecursion (λ (s : Subtable). is_some s.extension ≡ true) l.subtables) ((l.kind ≡ 4) × AllByRecursion (λ (s : Subtable). is_some s.extension ≡ false) l.subtables)
      (good_lookup meaning m n l was g).kind plain).1

  abbrev before : List Placed
  before = flat_map lookup_walk m.lookups

  abbrev now : List Placed
  now = flat_map lookup_walk (set m.lookups n (wrap_lookup m.taken.vertices l))

  weighs : (k : Weights) → tally (of_subtable k) (extended m.taken.vertices l.subtables) ≡ tally (of_subtable k) l.subtables + tally_up k.extension m.taken.vertices (length l.subtables)
  weighs k = extended_weigh k m.taken.vertices l.subtables bare

  wrap_grows : (w : ℕ → ℕ) → tally (λ (p : Placed). w p.vertex) now ≡ tally (λ (p : Placed). w p.vertex) before + tally_up w m.taken.vertices (length l.subtables)
  wrap_grows w =
      let a = walk_in_place (λ (p : Placed). w p.vertex) m.lookups n l (wrap_lookup m.taken.vertices l) was in
      let b = lookup_vertices w l in
      let c = lookup_vertices w (wrap_lookup m.taken.vertices l) in
      let d = weighs (vertex_weights w) in
      omega arith

  wrap_links : sum_by links_of now ≡ sum_by links_of before + length l.subtables
  wrap_links =
      let a = walk_in_place links_of m.lookups n l (wrap_lookup m.taken.vertices l) was in
      let b = lookup_links l in
      let c = lookup_links (wrap_lookup m.taken.vertices l) in
      let d = weighs link_weights in
      let e = tally_up_each 1 m.taken.vertices (length l.subtables) in
      let f = tally_sum links_of before in
      let h = tally_sum links_of now in
      omega arith

  wrap_bytes : sum_by bytes_of now ≡ sum_by bytes_of before + 8 * length l.subtables
  wrap_bytes =
      let a = walk_in_place bytes_of m.lookups n l (wrap_lookup m.taken.vertices l) was in
      let b = lookup_bytes_lem l in
      let c = lookup_bytes_lem (wrap_lookup m.taken.vertices l) in
      let d = weighs byte_weights in
      let e = tally_up_each 8 m.taken.vertices (length l.subtables) in
      let f = tally_sum bytes_of before in
      let h = tally_sum bytes_of now in
      omega arith

  wrap_good : Good meaning (wrap_to m n l).model
  wrap_good =
      let a = grown_length before now m.taken.vertices (length l.subtables) g.distinct g.below wrap_grows in
      let b = wrap_links in
      let d = wrap_bytes in
      let v = g.vertices in
      let k = g.links in
      let r : sum_by bytes_of before ≤ m.taken.bytes = g.room in
      record {
        lookups = All-set (GoodLookup meaning) m.lookups n (wrap_lookup m.taken.vertices l) (wrapping_keeps_lookups_well_formed_lem meaning m.taken.vertices l (good_lookup meaning m n l was g)) g.lookups;
        distinct = grown_distinct before now m.taken.vertices (length l.subtables) g.distinct g.below wrap_grows;
        below = grown_below before now m.taken.vertices (length l.subtables) g.distinct g.below wrap_grows;
        vertices = omega arith;
        links = omega arith;
        room = omega arith;
      }

  pub new_wrapped : Wrapped meaning m l (wrap_lookup m.taken.vertices l) (wrap_to m n l)
  new_wrapped =
      record {
        extensions = extensions_are m.taken.vertices l.subtables;
        ligatures = extended_keep m.taken.vertices l.subtables;
        vertices = refl;
        links = refl;
        bytes = refl;
        more_vertices = grown_length before now m.taken.vertices (length l.subtables) g.distinct g.below wrap_grows;
        more_links = wrap_links;
        more_bytes = wrap_bytes;
        same = grown_count before now m.taken.vertices (length l.subtables) g.distinct g.below wrap_grows;
        count = refl;
        good = wrap_good;
      }

-- THE THEOREM
pub wraps_as_billed : WrapsAsBilled
wraps_as_billed meaning m n l after c g s = wraps_to (λ x y. Wrapped meaning m l x y) m n l after c s (λ plain. new_wrapped meaning m n l s.was g plain)
