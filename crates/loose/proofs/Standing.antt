-- Where the bytes and rows of a stream's table stand in the memory that was filled with the stream.
use Rattle.std.proofs.Common.{◌≡◌, ℕ, zero, suc, ◌+◌, ◌<◌, ◌≤◌, List, [], ◌∷◌, ◌++◌, length, get_or, take, drop, Some, sym, refl, ap, ◌∙◌, subst, arith}
use Rattle.std.specs.List.{AllByRecursion}
use Rattle.std.proofs.lemmas.List.{append_assoc, length-append, length-map, get_or-map, take_at, drop_at}
use Rattle.std.proofs.lemmas.Option.{slice_get_within}
use Rattle.std.proofs.ByRecursion.{All-append, All-weaker}
use Rattle.rows.specs.declared.LinkRow.{LinkRow}
use Rattle.words.specs.Grammar.{StreamTable}
use Rattle.data_bytes.specs.Values.{value_bytes}
use Rattle.data_bytes.proofs.ValueLists.{length-value_bytes}
use Rattle.model.specs.Rules.{nth}
use Rattle.graph.specs.declared.VertexRow.{VertexRow}
use Rattle.graph.specs.Memory.{zero_vertex, vertex_at, bare, bares}
use Rattle.graph.specs.Filling.{size_of, link_words, filled_rows, filled_bytes, block_of, blocks_from}
use Rattle.loose.proofs.Blocks.{block_owners, length_block}

length_filled : (a b q : ℕ) (ts : List StreamTable) → length (filled_rows a b q ts) ≡ length ts
length_filled a b q [] = refl
length_filled a b q (t ∷ ts) = ap suc (length_filled (a + size_of t) (b + length t.links) (q + (1 + length t.values + link_words t)) ts)

pub length_vertices : (vs : List VertexRow) (ts : List StreamTable) → bares vs ≡ bares (filled_rows 0 0 0 ts) → length vs ≡ length ts
length_vertices vs ts e = sym (length-map vs bare) ∙ ap length e ∙ length-map (filled_rows 0 0 0 ts) bare ∙ length_filled 0 0 0 ts

-- A TABLE at its place in the bytes and rows
pub record Stands (r : VertexRow) (bs : List ℕ) (rs : List LinkRow) (v : ℕ) (t : StreamTable) : Type 0 where
  pub size : r.size ≡ size_of t
  pub part : r.start + r.size ≤ length bs
  pub links : r.first + r.links ≤ length rs
  pub bytes : take r.size (drop r.start bs) ≡ value_bytes t.values
  pub rows : take r.links (drop r.first rs) ≡ block_of v t

-- what stands at its length behind a front
cut : {X : Type 0} (p x q : List X) (a n : ℕ) → length p ≡ a → length x ≡ n → take n (drop a (p ++ (x ++ q))) ≡ x
cut p x q a n e f = ap (take n) (drop_at p (x ++ q) a e) ∙ take_at x q n f

room : {X : Type 0} (p x q : List X) (a n : ℕ) → length p ≡ a → length x ≡ n → a + n ≤ length (p ++ (x ++ q))
room p x q a n e f = let c = length-append p (x ++ q) in let d = length-append x q in omega arith

first_stands : (a b q n : ℕ) (t : StreamTable) (ts : List StreamTable) (p : List ℕ) (w : List LinkRow) → length p ≡ a → length w ≡ b
    → Stands (bare (vertex_at (filled_rows a b q (t ∷ ts)) 0)) (p ++ filled_bytes (t ∷ ts)) (w ++ blocks_from n (t ∷ ts)) n t
first_stands a b q n t ts p w e f =
    record {
      size = refl;
      part = room p (value_bytes t.values) (filled_bytes ts) a (size_of t) e (length-value_bytes t.values);
      links = room w (block_of n t) (blocks_from (suc n) ts) b (length t.links) f (length_block n t);
      bytes = cut p (value_bytes t.values) (filled_bytes ts) a (size_of t) e (length-value_bytes t.values);
      rows = cut w (block_of n t) (blocks_from (suc n) ts) b (length t.links) f (length_block n t);
    }

stands_from : (a b q n v : ℕ) (ts : List StreamTable) (t : StreamTable) (p : List ℕ) (w : List LinkRow) → nth ts v ≡ Some t → length p ≡ a → length w ≡ b
    → Stands (bare (vertex_at (filled_rows a b q ts) v)) (p ++ filled_bytes ts) (w ++ blocks_from n ts) (n + v) t
stands_from a b q n v [] t p w h e f = cc
stands_from a b q n zero (y ∷ ts) t p w h e f =
    let z : n ≡ n + 0 = omega arith in
    subst (λ k. Stands (bare (vertex_at (filled_rows a b q (y ∷ ts)) 0)) (p ++ filled_bytes (y ∷ ts)) (w ++ blocks_from n (y ∷ ts)) k t) z
    (subst (Stands (bare (vertex_at (filled_rows a b q (y ∷ ts)) 0)) (p ++ filled_bytes (y ∷ ts)) (w ++ blocks_from n (y ∷ ts)) n) (cc) (first_stands a b q n y ts p w e f))
stands_from a b q n (suc v) (y ∷ ts) t p w h e f =
    let z : suc n + v ≡ n + suc v = omega arith in
    let row = bare (vertex_at (filled_rows (a + size_of y) (b + length y.links) (q + (1 + length y.values + link_words y)) ts) v) in
    let i = stands_from (a + size_of y) (b + length y.links) (q + (1 + length y.values + link_words y)) (suc n) v ts t (p ++ value_bytes y.values) (w ++ block_of n y) h
    (let c = length-append p (value_bytes y.values) in let d = length-value_bytes y.values in omega arith)
    (let c = length-append w (block_of n y) in let d = length_block n y in omega arith) in
    subst (λ k. Stands row (p ++ filled_bytes (y ∷ ts)) (w ++ blocks_from n (y ∷ ts)) k t) z
    (subst (λ bs. Stands row bs (w ++ blocks_from n (y ∷ ts)) (suc n + v) t) (append_assoc p (value_bytes y.values) (filled_bytes ts))
    (subst (λ rs. Stands row ((p ++ value_bytes y.values) ++ filled_bytes ts) rs (suc n + v) t) (append_assoc w (block_of n y) (blocks_from (suc n) ts)) i))

bare_same : (vs : List VertexRow) (ts : List StreamTable) (v : ℕ) → bares vs ≡ bares (filled_rows 0 0 0 ts) → v < length ts → bare (vertex_at (filled_rows 0 0 0 ts) v) ≡ bare (vertex_at vs v)
bare_same vs ts v e h =
    let n = length_vertices vs ts e in
    let m = length_filled 0 0 0 ts in
    sym (get_or-map bare (filled_rows 0 0 0 ts) v zero_vertex zero_vertex (omega arith))
    ∙ ap (λ rs. get_or rs v zero_vertex) (sym e)
    ∙ get_or-map bare vs v zero_vertex zero_vertex (omega arith)

pub stands : (vs : List VertexRow) (ts : List StreamTable) (v : ℕ) (t : StreamTable) → bares vs ≡ bares (filled_rows 0 0 0 ts) → nth ts v ≡ Some t → Stands (bare (vertex_at vs v)) (filled_bytes ts) (blocks_from 0 ts) v t
stands vs ts v t e h =
    let z : 0 + v ≡ v = omega arith in
    subst (λ k. Stands (bare (vertex_at vs v)) (filled_bytes ts) (blocks_from 0 ts) k t) z
    (subst (λ r. Stands r (filled_bytes ts) (blocks_from 0 ts) (0 + v) t) (bare_same vs ts v e (slice_get_within ts v t h)) (stands_from 0 0 0 0 v ts t [] [] h refl refl))

-- OWNERS of all rows
pub blocks_owned : (v : ℕ) (ts : List StreamTable) → AllByRecursion (λ (r : LinkRow). r.owner < v + length ts) (blocks_from v ts)
blocks_owned v [] = tt
blocks_owned v (t ∷ ts) =
    All-append (λ (r : LinkRow). r.owner < v + length (t ∷ ts)) (block_of v t) (blocks_from (suc v) ts)
    (All-weaker (λ (r : LinkRow). r.owner ≡ v) (λ (r : LinkRow). r.owner < v + length (t ∷ ts)) (λ r h. omega arith) (block_of v t) (block_owners v t))
    (All-weaker (λ (r : LinkRow). r.owner < suc v + length ts) (λ (r : LinkRow). r.owner < v + length (t ∷ ts)) (λ r h. omega arith) (blocks_from (suc v) ts) (blocks_owned (suc v) ts))
