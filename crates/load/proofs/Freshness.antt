-- Memory as load leaves it holds the loaded model, with the parts in table order from the front of the pool.
use Rattle.std.proofs.Common.{◌≡◌, ℕ, zero, suc, ◌+◌, ◌-◌, ◌<◌, ◌≤◌, false, List, [], ◌∷◌, map, length, take, drop, replicate, Some, Option, sym, refl, ap, ◌∙◌, subst, inl, arith, length-append}
use Rattle.std.specs.List.{flat_map}
use Rattle.std.specs.List.Sorted.{IsPermutation}
use Rattle.std.proofs.lemmas.List.{length-map}
use Rattle.std.proofs.ByRecursion.{All-weaker}
use Rattle.std.proofs.lemmas.List.Sorted.{length_permutation}
use Rattle.rows.specs.Kinds.{zero_link, zero_parent}
use Rattle.words.specs.Grammar.{StreamTable, Stream}
use Rattle.words.specs.Reading.{links_in, bytes_in}
use Rattle.data_bytes.proofs.ValueLists.{length-value_bytes}
use Rattle.coverage.specs.Meaning.{Meant}
use Rattle.model.specs.Forest.{Lookup, Taken, Model}
use Rattle.model.specs.Tables.{Table, model_walk}
use Rattle.model.specs.Rules.{nth}
use Rattle.model.specs.Loading.{slots_of, virtuals_of, TableAt, Loaded, table_in}
use Rattle.model.specs.Sound.{GoodLookup}
use Rattle.model.proofs.LoadSame.{Up}
use Rattle.model.proofs.LoadLists.{nth_there}
use Rattle.model.proofs.LoadFull.{size}
use Rattle.model.proofs.LoadWhole.{links_parted}
use Rattle.graph.specs.declared.VertexRow.{VertexRow}
use Rattle.graph.specs.declared.Counts.{Counts}
use Rattle.graph.specs.Memory.{zero_vertex, vertex_at, slot_row, virtual_rows, table_rows, flat, Bears}
use Rattle.graph.specs.Filling.{size_of, table_for, block_of, blocks_from}
use Rattle.graph.specs.Holding.{Lent, used_of, tables_of, parent_rows, first_parent, root_at, vertex_row, PlainLookup, padded, Fresh}
use Rattle.graph.proofs.Laid.{rows_along}
use Rattle.load.proofs.Tables.{table_is, tables_are}

-- LENGTHS
length_virtuals : (v k : ℕ) (ts : List ℕ) → length (virtual_rows v k ts) ≡ length ts
length_virtuals v k [] = refl
length_virtuals v k (t ∷ ts) = ap suc (length_virtuals v (suc k) ts)

links_before : (ts : List StreamTable) (v n : ℕ) → ((k w : ℕ) (t : StreamTable) → nth ts k ≡ Some t → length (table_rows w (table_for t)) ≡ length t.links) → links_in (take n ts) ≡ length (flat v (take n (map table_for ts)))
links_before [] v zero h = refl
links_before [] v (suc n) h = refl
links_before (t ∷ ts) v zero h = refl
links_before (t ∷ ts) v (suc n) h =
    let a = h 0 v t refl in
    let b = links_before ts (suc v) n (λ k w u e. h (suc k) w u e) in
    let c = length-append (table_rows v (table_for t)) (flat (suc v) (take n (map table_for ts))) in
    omega arith

bytes_before : (ts : List StreamTable) (n : ℕ) → bytes_in (take n ts) ≡ length (flat_map (λ (t : Table). t.bytes) (take n (map table_for ts)))
bytes_before [] zero = refl
bytes_before [] (suc n) = refl
bytes_before (t ∷ ts) zero = refl
bytes_before (t ∷ ts) (suc n) =
    let a = length-value_bytes t.values in
    let b = bytes_before ts n in
    let c = length-append (table_for t).bytes (flat_map (λ (u : Table). u.bytes) (take n (map table_for ts))) in
    omega arith

-- a part ends before any later one starts
bytes_part : (ts : List StreamTable) (v w : ℕ) (t : StreamTable) → nth ts v ≡ Some t → v < w → bytes_in (take v ts) + size_of t ≤ bytes_in (take w ts)
bytes_part ts v zero t e l = absurd (omega arith)
bytes_part [] v (suc w) t e l = cc
bytes_part (u ∷ ts) zero (suc w) t e l = let z : u ≡ t = cc in let y = ap size_of z in omega arith
bytes_part (u ∷ ts) (suc v) (suc w) t e l = let z = bytes_part ts v w t e (omega arith) in omega arith

plain_lookup : (meaning : List ℕ → Option Meant) (l : Lookup) → GoodLookup meaning l → PlainLookup l
plain_lookup meaning l g = record { kind = g.kind; asks = g.asks; count = g.count }

-- WHAT LOAD LEAVES
-- the vertex rows by table, with the first parent row and, for lookup v, its root
abbrev pub loaded_row : List StreamTable → List Lookup → ℕ → StreamTable → VertexRow
loaded_row ts ls v t =
    record {
      start = bytes_in (take v ts);
      size = size_of t;
      first = links_in (take v ts);
      links = length t.links;
      parent = first_parent (map table_for ts) v;
      lookup = root_at ls v;
      entries = 0;
      queue = 0;
      reached = false;
    }

pub record Left (s : Stream) (m : Model) (l : Lent) (u : Counts) : Type 0 where
  pub lookups : u.lookups ≡ length s.roots
  pub vertices : u.vertices ≡ length s.tables
  pub count : u.links ≡ links_in s.tables
  pub bytes : u.bytes ≡ bytes_in s.tables
  pub above : u.parents ≡ length (parent_rows (map table_for s.tables))
  pub rows : (v : ℕ) (t : StreamTable) → TableAt s v t → vertex_at l.vertices v ≡ loaded_row s.tables m.lookups v t
  pub tables : (v : ℕ) (t : StreamTable) → TableAt s v t → Bears (used_of l u) v (table_for t)
  pub room : u.vertices ≤ length l.vertices
  pub spare : drop u.vertices l.vertices ≡ replicate (length l.vertices - u.vertices) zero_vertex
  pub fits : u.links ≤ length l.links
  pub links : padded zero_link (blocks_from 0 s.tables) l.links
  pub parents : padded zero_parent (parent_rows (map table_for s.tables)) l.parents
  pub pool : u.bytes ≤ length l.bytes
  pub zeros : drop u.bytes l.bytes ≡ replicate (length l.bytes - u.bytes) 0

module _ (meaning : List ℕ → Option Meant) (s : Stream) (m : Model) (h : Loaded meaning s m)
    (rising : (v : ℕ) (t : StreamTable) → TableAt s v t → Up 0 (table_for t).slots)
    (shuffled : (v : ℕ) (t : StreamTable) → TableAt s v t → IsPermutation (table_for t).slots (slots_of t.links))
    (blocks : (v : ℕ) (t : StreamTable) → TableAt s v t → block_of v t ≡ table_rows v (table_for t))
    (l : Lent) (u : Counts) (a : Left s m l u) where
  are : tables_of m ≡ map table_for s.tables
  are = tables_are meaning s m h rising shuffled

  laid : blocks_from 0 s.tables ≡ flat 0 (tables_of m)
  laid = rows_along s.tables 0 (λ k t e. let z : 0 + k ≡ k = omega arith in subst (λ w. block_of w t ≡ table_rows w (table_for t)) (sym z) (blocks k t e)) ∙ ap (flat 0) (sym are)

  counted : (k w : ℕ) (t : StreamTable) → TableAt s k t → length (table_rows w (table_for t)) ≡ length t.links
  counted k w t e =
      let b = length-append (map (slot_row w) (table_for t).slots) (virtual_rows w 0 (virtuals_of t.links)) in
      let c = length-map (table_for t).slots (slot_row w) in
      let d = length_virtuals w 0 (virtuals_of t.links) in
      let f = length_permutation (table_for t).slots (slots_of t.links) (shuffled k t e) in
      let g = links_parted t.links in
      omega arith

  there : (v : ℕ) → v < u.vertices → (t : StreamTable) × TableAt s v t
  there v b = nth_there s.tables v (let z = a.vertices in omega arith)

  row_is : (v : ℕ) (t : StreamTable) → TableAt s v t → vertex_at l.vertices v ≡ vertex_row m (vertex_at l.vertices v).start v
  row_is v t e =
      let r = a.rows v t e in
      let is = table_is meaning s m h rising shuffled v t e in
      let f : links_in (take v s.tables) ≡ length (flat 0 (take v (tables_of m))) = links_before s.tables 0 v (λ k w x f. counted k w x f) ∙ ap (λ ts. length (flat 0 (take v ts))) (sym are) in
      let n : length t.links ≡ length (table_rows v (table_in (model_walk m) v)) = sym (counted v v t e) ∙ ap (λ x. length (table_rows v x)) (sym is) in
      let z : size_of t ≡ length (table_in (model_walk m) v).bytes = sym (length-value_bytes t.values) ∙ ap (λ (x : Table). length x.bytes) (sym is) in
      let p : first_parent (map table_for s.tables) v ≡ first_parent (tables_of m) v = ap (λ ts. first_parent ts v) (sym are) in
      let b : bytes_in (take v s.tables) ≡ (vertex_at l.vertices v).start = sym (ap (λ (x : VertexRow). x.start) r) in
      r ∙ (λ i. record { start = b i; size = z i; first = f i; links = n i; parent = p i; lookup = root_at m.lookups v; entries = 0; queue = 0; reached = false })

  pub fresh : Fresh l u m
  fresh =
      record {
        holds = record {
          lookups = a.lookups ∙ ap length h.roots ∙ length-map m.lookups (λ (x : Lookup). x.vertex);
          vertices = a.vertices ∙ sym (size meaning s m h);
          count = a.count ∙ sym (ap (λ (t : Taken). t.links) h.taken);
          bytes = a.bytes ∙ sym (ap (λ (t : Taken). t.bytes) h.taken);
          above = a.above ∙ ap (λ ts. length (parent_rows ts)) (sym are);
          plain = All-weaker (GoodLookup meaning) PlainLookup (plain_lookup meaning) m.lookups h.good.lookups;
          distinct = h.good.distinct;
          below = h.good.below;
          whole = h.good.vertices;
          rows = λ v b. let x = there v b in row_is v x.0 x.1;
          tables = λ v b. let x = there v b in subst (Bears (used_of l u) v) (sym (table_is meaning s m h rising shuffled v x.0 x.1)) (a.tables v x.0 x.1);
          apart = λ v w b c.
              let x = there v (omega arith) in
              let y = there w c in
              let rv = ap (λ (r : VertexRow). r.start) (a.rows v x.0 x.1) in
              let rz = ap (λ (r : VertexRow). r.size) (a.rows v x.0 x.1) in
              let rw = ap (λ (r : VertexRow). r.start) (a.rows w y.0 y.1) in
              let p = bytes_part s.tables v w x.0 x.1 b in
              inl (omega arith);
          room = a.room;
          spare = a.spare;
          fits = a.fits;
          links = subst (λ xs. padded zero_link xs l.links) laid a.links;
          parents = subst (λ ts. padded zero_parent (parent_rows ts) l.parents) (sym are) a.parents;
          pool = a.pool;
          zeros = a.zeros;
        };
        starts = λ v b.
            let x = there v b in
            ap (λ (r : VertexRow). r.start) (a.rows v x.0 x.1) ∙ bytes_before s.tables v ∙ ap (λ ts. length (flat_map (λ (t : Table). t.bytes) (take v ts))) (sym are);
      }
