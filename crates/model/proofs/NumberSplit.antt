-- An accepted split: its new vertices, its bill, and what it keeps of the model's numbers.
use Rattle.std.proofs.Common.{◌≡◌, ℕ, ◌+◌, ◌≤◌, List, [], ◌∷◌, ◌++◌, set, Some, sum_by, Option, sym, refl, ap, ◌∙◌, subst, arith}
use Rattle.std.specs.List.{flat_map, AllByRecursion}
use Rattle.std.proofs.ByRecursion.{All-set}
use Rattle.std.proofs.lemmas.Option.{same_Some}
use Rattle.coverage.specs.Meaning.{Meant}
use Rattle.model.specs.Forest.{Lookup, Model}
use Rattle.model.specs.Tables.{Placed, lookup_walk, links_of}
use Rattle.model.specs.Rules.{nth}
use Rattle.model.specs.Cutting.{Cut}
use Rattle.model.specs.Splitting.{split_all, is_wrapped, split_lookup, inside, cut_vertices, cut_links, all_cuts, all_parts, lookup_part, taken_parts, split_bill, Changed}
use Rattle.model.specs.Sound.{GoodLookup, Good, Lawful}
use Rattle.model.specs.NumberingLaws.{up_from, Family, families, pieces_of, family_vertices, family_bytes, lookup_bytes, divided_tables, lookup_tables, taken_tables, Lie, Short, Splits, Numbered, NumbersNewVertices, Billed, BillsExactly, Tidy, Roomy, Kept, KeepsVerticesDistinct}
use Rattle.model.specs.CuttingLaws.{bytes_of}
use Rattle.model.proofs.Lists.{nth_set_same}
use Rattle.model.proofs.NumberSums.{tally, tally_sum, tally_append, tally_up}
use Rattle.model.proofs.NumberWeights.{SomeSets}
use Rattle.model.proofs.NumberWalks.{lookup_vertices, lookup_links, lookup_bytes_lem, walk_in_place}
use Rattle.model.proofs.NumberTaken.{split_vertices, split_links}
use Rattle.model.proofs.NumberOrder.{OldSets, made, families_made, made_whole, all_in_order}
use Rattle.model.proofs.NumberBytes.{reserved, all_take, split_fits}
use Rattle.model.proofs.NumberTables.{tables_lie, split-length, new_in, all_new, split_ligatures}
use Rattle.model.proofs.NumberModel.{good_sets, old_sets, good_short, grown_length, grown_count, grown_distinct, grown_below}
use Rattle.model.proofs.KeepModels.{split_to, split_is}

-- the model and the lookup afterwards, by name
pub splits_to : (P : Lookup → Changed → Type 0) (m : Model) (n ceiling : ℕ) (l after : Lookup) (c : Changed) → (s : Splits m n ceiling l after c)
    → P (split_lookup ceiling s.wrote m.taken.vertices l) (split_to s.wrote m n ceiling l) → P after c
splits_to P m n ceiling l after c s h =
    let e : split_to s.wrote m n ceiling l ≡ c = split_is s.caps s.wrote m n ceiling c l s.was s.accepted in
    let new = split_lookup ceiling s.wrote m.taken.vertices l in
    let f : new ≡ after = same_Some _ _ (sym (nth_set_same m.lookups n l new s.was) ∙ ap (λ (x : Changed). nth x.model.lookups n) e ∙ s.is) in
    subst (λ (x : Lookup). P x c) f (subst (λ (x : Changed). P new x) e h)

-- ALL OF IT, of the model and the lookup by name
module _ (meaning : List ℕ → Option Meant) (wrote : ℕ → List ℕ) (m : Model) (n ceiling : ℕ) (l : Lookup) (was : nth m.lookups n ≡ Some l) (g : Good meaning m) where
  some : AllByRecursion SomeSets l.subtables
  some = good_sets meaning m n l was g

  old : AllByRecursion (OldSets m.taken.vertices) l.subtables
  old = old_sets meaning m n l was g

  found : families ceiling l.subtables (split_all ceiling (is_wrapped l) wrote m.taken.vertices l.subtables) ≡ made ceiling (is_wrapped l) wrote m.taken.vertices l.subtables
  found = families_made ceiling (is_wrapped l) wrote m.taken.vertices l.subtables

  all_vertices : sum_by (cut_vertices (is_wrapped l)) (all_cuts ceiling l) ≡ tally (cut_vertices (is_wrapped l)) (all_cuts ceiling l)
  all_vertices = tally_sum (cut_vertices (is_wrapped l)) (all_cuts ceiling l)

  pub new_numbered : Numbered m n ceiling l (split_lookup ceiling wrote m.taken.vertices l) (split_to wrote m n ceiling l)
  new_numbered =
      record {
        whole = ap (flat_map (λ (f : Family). f.after)) found ∙ made_whole ceiling (is_wrapped l) wrote m.taken.vertices l.subtables;
        order =
            ap (flat_map (family_vertices m.taken.vertices)) found
            ∙ all_in_order ceiling (is_wrapped l) wrote m.taken.vertices m.taken.vertices l.subtables (omega arith) some old
            ∙ ap (up_from m.taken.vertices) (sym all_vertices);
        sets =
            ap (sum_by (λ (f : Family). sum_by (new_in m.taken.vertices) (pieces_of f))) found
            ∙ tally_sum (λ (f : Family). sum_by (new_in m.taken.vertices) (pieces_of f)) (made ceiling (is_wrapped l) wrote m.taken.vertices l.subtables)
            ∙ all_new ceiling (is_wrapped l) wrote m.taken.vertices m.taken.vertices l.subtables (omega arith) some old
            ∙ sym (tally_sum inside (all_cuts ceiling l));
        taken = refl;
        count = refl;
      }

  -- vertices
  pub split_grows : (w : ℕ → ℕ)
      → tally (λ (p : Placed). w p.vertex) (flat_map lookup_walk (set m.lookups n (split_lookup ceiling wrote m.taken.vertices l)))
      ≡ tally (λ (p : Placed). w p.vertex) (flat_map lookup_walk m.lookups) + tally_up w m.taken.vertices (sum_by (cut_vertices (is_wrapped l)) (all_cuts ceiling l))
  split_grows w =
      let a = walk_in_place (λ (p : Placed). w p.vertex) m.lookups n l (split_lookup ceiling wrote m.taken.vertices l) was in
      let b = lookup_vertices w l in
      let c = lookup_vertices w (split_lookup ceiling wrote m.taken.vertices l) in
      let d = split_vertices ceiling (is_wrapped l) wrote m.taken.vertices l.subtables some w in
      let e : tally_up w m.taken.vertices (sum_by (cut_vertices (is_wrapped l)) (all_cuts ceiling l)) ≡ tally_up w m.taken.vertices (tally (cut_vertices (is_wrapped l)) (all_cuts ceiling l)) = ap (tally_up w m.taken.vertices) all_vertices in
      omega arith

  -- links
  pub split_more_links : sum_by links_of (flat_map lookup_walk (set m.lookups n (split_lookup ceiling wrote m.taken.vertices l)))
      ≡ sum_by links_of (flat_map lookup_walk m.lookups) + sum_by (cut_links (is_wrapped l)) (all_cuts ceiling l)
  split_more_links =
      let a = walk_in_place links_of m.lookups n l (split_lookup ceiling wrote m.taken.vertices l) was in
      let b = lookup_links l in
      let c = lookup_links (split_lookup ceiling wrote m.taken.vertices l) in
      let d = split_links ceiling (is_wrapped l) wrote m.taken.vertices l.subtables some in
      let e = tally_sum (cut_links (is_wrapped l)) (all_cuts ceiling l) in
      let f = tally_sum links_of (flat_map lookup_walk m.lookups) in
      let h = tally_sum links_of (flat_map lookup_walk (set m.lookups n (split_lookup ceiling wrote m.taken.vertices l))) in
      omega arith

  -- bytes
  lookup_takes : (cs : List Cut) → tally reserved (lookup_part ceiling l cs) ≡ lookup_bytes (split_lookup ceiling wrote m.taken.vertices l) cs
  lookup_takes [] = refl
  lookup_takes (c ∷ cs) = let a = split-length ceiling (is_wrapped l) wrote m.taken.vertices l.subtables in omega arith

  bill_bytes : (split_bill ceiling m l).bytes ≡ tally reserved (all_parts ceiling (is_wrapped l) m.taken.vertices l.subtables) + tally reserved (lookup_part ceiling l (all_cuts ceiling l))
  bill_bytes = tally_sum reserved (taken_parts ceiling m.taken.vertices l) ∙ tally_append reserved (all_parts ceiling (is_wrapped l) m.taken.vertices l.subtables) (lookup_part ceiling l (all_cuts ceiling l))

  rule_bytes : (split_bill ceiling m l).bytes
      ≡ sum_by (family_bytes m.taken.vertices (is_wrapped l)) (families ceiling l.subtables (split_all ceiling (is_wrapped l) wrote m.taken.vertices l.subtables)) + lookup_bytes (split_lookup ceiling wrote m.taken.vertices l) (all_cuts ceiling l)
  rule_bytes =
      let a = bill_bytes in
      let b = lookup_takes (all_cuts ceiling l) in
      let c = all_take ceiling (is_wrapped l) wrote m.taken.vertices m.taken.vertices l.subtables (omega arith) some old in
      let d : sum_by (family_bytes m.taken.vertices (is_wrapped l)) (families ceiling l.subtables (split_all ceiling (is_wrapped l) wrote m.taken.vertices l.subtables))
      ≡ tally (family_bytes m.taken.vertices (is_wrapped l)) (made ceiling (is_wrapped l) wrote m.taken.vertices l.subtables)
      = ap (sum_by (family_bytes m.taken.vertices (is_wrapped l))) found ∙ tally_sum (family_bytes m.taken.vertices (is_wrapped l)) (made ceiling (is_wrapped l) wrote m.taken.vertices l.subtables) in
      omega arith

  new_lie : AllByRecursion Short (split_all ceiling (is_wrapped l) wrote m.taken.vertices l.subtables)
      → Lie (taken_tables m.taken.vertices ceiling l (split_lookup ceiling wrote m.taken.vertices l)) (taken_parts ceiling m.taken.vertices l)
  new_lie h =
      subst (λ (fs : List Family). Lie (flat_map (λ (f : Family). divided_tables m.taken.vertices f.after) fs ++ lookup_tables (split_lookup ceiling wrote m.taken.vertices l) (all_cuts ceiling l)) (taken_parts ceiling m.taken.vertices l)) (sym found)
      (tables_lie ceiling wrote m.taken.vertices l some old h)

  abbrev before : List Placed
  before = flat_map lookup_walk m.lookups

  abbrev now : List Placed
  now = flat_map lookup_walk (set m.lookups n (split_lookup ceiling wrote m.taken.vertices l))

  abbrev more : ℕ
  more = sum_by (cut_vertices (is_wrapped l)) (all_cuts ceiling l)

  pub new_billed : Billed m n ceiling l (split_lookup ceiling wrote m.taken.vertices l) (split_to wrote m n ceiling l)
  new_billed =
      record {
        taken = refl;
        vertices = grown_length before now m.taken.vertices more g.distinct g.below split_grows;
        links = split_more_links;
        bytes = rule_bytes;
        lie = new_lie;
      }

  new_tidy : Tidy (split_to wrote m n ceiling l).model
  new_tidy =
      let a = grown_length before now m.taken.vertices more g.distinct g.below split_grows in
      let b = split_more_links in
      let v = g.vertices in
      let k = g.links in
      record {
        distinct = grown_distinct before now m.taken.vertices more g.distinct g.below split_grows;
        below = grown_below before now m.taken.vertices more g.distinct g.below split_grows;
        vertices = omega arith;
        links = omega arith;
      }

  new_room : AllByRecursion Short (split_all ceiling (is_wrapped l) wrote m.taken.vertices l.subtables) → Roomy (split_to wrote m n ceiling l).model
  new_room h =
      let a = walk_in_place bytes_of m.lookups n l (split_lookup ceiling wrote m.taken.vertices l) was in
      let b = lookup_bytes_lem l in
      let c = lookup_bytes_lem (split_lookup ceiling wrote m.taken.vertices l) in
      let d = split_fits ceiling (is_wrapped l) wrote m.taken.vertices l.subtables some h in
      let e = bill_bytes in
      let f = tally_sum bytes_of (flat_map lookup_walk m.lookups) in
      let i = tally_sum bytes_of (flat_map lookup_walk (set m.lookups n (split_lookup ceiling wrote m.taken.vertices l))) in
      let r : sum_by bytes_of (flat_map lookup_walk m.lookups) ≤ m.taken.bytes = g.room in
      omega arith

  pub new_kept : Kept m n ceiling l (split_lookup ceiling wrote m.taken.vertices l) (split_to wrote m n ceiling l)
  new_kept =
      record {
        tidy = new_tidy;
        room = new_room;
        same = grown_count before now m.taken.vertices more g.distinct g.below split_grows;
        ligatures = split_ligatures ceiling (is_wrapped l) wrote m.taken.vertices l.subtables;
      }

-- THE THEOREMS
pub numbers_new_vertices : NumbersNewVertices
numbers_new_vertices meaning m n ceiling l after c g s = splits_to (λ x y. Numbered m n ceiling l x y) m n ceiling l after c s (new_numbered meaning s.wrote m n ceiling l s.was g)

pub bills_exactly : BillsExactly
bills_exactly meaning m n ceiling l after c g s = splits_to (λ x y. Billed m n ceiling l x y) m n ceiling l after c s (new_billed meaning s.wrote m n ceiling l s.was g)

pub keeps_vertices_distinct : KeepsVerticesDistinct
keeps_vertices_distinct meaning m n ceiling l after c g s = splits_to (λ x y. Kept m n ceiling l x y) m n ceiling l after c s (new_kept meaning s.wrote m n ceiling l s.was g)

-- the other lookups stay
pub others_stay : (P : Lookup → Type 0) (m : Model) (n ceiling : ℕ) (l after : Lookup) (c : Changed) → Splits m n ceiling l after c → P after → AllByRecursion P m.lookups → AllByRecursion P c.model.lookups
others_stay P m n ceiling l after c s =
    splits_to (λ x y. P x → AllByRecursion P m.lookups → AllByRecursion P y.model.lookups) m n ceiling l after c s (λ h k. All-set P m.lookups n (split_lookup ceiling s.wrote m.taken.vertices l) h k)

-- a good model is good afterwards if the divided lookup is
pub split_keeps_good : (admits : List ℕ → Type 0) (meaning : List ℕ → Option Meant) (span : List ℕ → ℕ) → Lawful admits meaning span
    → (m : Model) (n ceiling : ℕ) (l after : Lookup) (c : Changed) → Good meaning m → Splits m n ceiling l after c → GoodLookup meaning after → Good meaning c.model
split_keeps_good admits meaning span law m n ceiling l after c g s h =
    let k = keeps_vertices_distinct meaning m n ceiling l after c g s in
    record {
      lookups = others_stay (GoodLookup meaning) m n ceiling l after c s h g.lookups;
      distinct = k.tidy.distinct;
      below = k.tidy.below;
      vertices = k.tidy.vertices;
      links = k.tidy.links;
      room = k.room (good_short admits meaning span law after.subtables h.subtables);
    }
