-- What memory holds, a reader of its used part is shown.
use Rattle.std.proofs.Common.{◌≡◌, ◌<◌, ◌≤◌, List, [], ◌∷◌, length, take, ap, ◌∙◌, subst, arith, length-append}
use Rattle.std.specs.List.{ContainsAt as Has, flat_map}
use Rattle.std.proofs.ByRecursion.{All-weaker, all-has, all_has_itself}
use Rattle.std.proofs.lemmas.List.{length-take-le, get_or-take}
use Rattle.model.specs.Forest.{Lookup, Model}
use Rattle.model.specs.Tables.{Placed, lookup_walk, model_walk}
use Rattle.model.specs.Loading.{table_in}
use Rattle.model.proofs.LoadBack.{found}
use Rattle.graph.specs.declared.Counts.{Counts}
use Rattle.graph.specs.declared.VertexRow.{VertexRow}
use Rattle.graph.specs.Memory.{zero_vertex, Bears}
use Rattle.graph.specs.Holding.{Lent, used_of, Holds, Shows}

-- a lookup has at least its own table
lookups_few : (ls : List Lookup) → length ls ≤ length (flat_map lookup_walk ls)
lookups_few [] = omega arith
lookups_few (l ∷ ls) = let a = lookups_few ls in let b = length-append (lookup_walk l) (flat_map lookup_walk ls) in omega arith

pub shows : (l : Lent) (u : Counts) (m : Model) → Holds l u m → Shows (used_of l u) u.lookups m
shows l u m h =
    let few = lookups_few m.lookups in
    let n = h.lookups in
    let v = h.vertices in
    let w = h.whole in
    let room = h.room in
    let lv : length (take u.vertices l.vertices) ≡ u.vertices = length-take-le u.vertices l.vertices h.room in
    let fl : u.links ≤ length l.links = h.fits in
    record {
      lookups = h.lookups;
      plain = h.plain;
      roots = λ i b.
          let lt : i < u.vertices = omega arith in (
            omega arith,
            ap (λ (r : VertexRow). r.lookup) (get_or-take u.vertices l.vertices i zero_vertex lt) ∙ ap (λ (r : VertexRow). r.lookup) (h.rows i lt),
          );
      tables = All-weaker (Has (model_walk m)) (λ (p : Placed). Bears (used_of l u) p.vertex p.table)
          (λ p i.
          let b = all-has (λ (q : Placed). q.vertex < m.taken.vertices) (model_walk m) p h.below i in
          subst (Bears (used_of l u) p.vertex) (all-has (λ (q : Placed). table_in (model_walk m) q.vertex ≡ q.table) (model_walk m) p (found (model_walk m) h.distinct) i) (h.tables p.vertex (omega arith)))
          (model_walk m) (all_has_itself (model_walk m));
      vertices = lv ∙ h.vertices;
      links = length-take-le u.links l.links fl ∙ h.count;
      bytes = length-take-le u.bytes l.bytes h.pool ∙ h.bytes;
    }
