-- From the memory that was filled with a stream to the stream: what the test for loose links says, and what the memory bears once there are none.
use Rattle.std.proofs.Common.{◌≡◌, ℕ, suc, ◌+◌, ◌<◌, ◌≤◌, cond, ◌⊎◌, List, [], ◌∷◌, map, length, Some, None, count_by, Option, sym, refl, ap, ◌∙◌, subst, inl, inr, ⊎_elim, arith, MatchOption}
use Rattle.std.specs.List.{ContainsAt as Has, AllByRecursion}
use Rattle.std.specs.List.Sorted.{IsPermutation}
use Rattle.std.proofs.ByRecursion.{All-append, All-weaker, All-get_or, all-has, all_has_itself, all_shuffled}
use Rattle.std.proofs.lemmas.List.Sorted.{IsPermutation-sym, sum_by-IsPermutation}
use Rattle.std.proofs.lemmas.Bool.{cases_lt}
use Rattle.std.proofs.lemmas.Option.{slice_get_within}
use Rattle.rows.specs.declared.LinkRow.{LinkRow}
use Rattle.rows.specs.Kinds.{zero_link}
use Rattle.words.specs.declared.Width.TheVariants.{Two, Four}
use Rattle.words.specs.Grammar.{StreamLink, real, virtual, StreamTable, Stream, FineTable, Uncounted}
use Rattle.data_bytes.proofs.ValueLists.{length-value_bytes}
use Rattle.model.specs.Tables.{Slot, Table}
use Rattle.model.specs.Rules.{nth}
use Rattle.model.specs.Loading.{slots_of, bytes_of, TableAt, Loose, nowhere, nowhere_virtual, beyond, shared, Loosely, Lowest, Never}
use Rattle.model.proofs.Lists.{all-nth}
use Rattle.model.proofs.LoadLists.{nth_there}
use Rattle.model.proofs.LoadSame.{Up}
use Rattle.model.proofs.LoadBack.{at_position}
use Rattle.model.proofs.LoadShapes.{strict}
use Rattle.graph.specs.declared.VertexRow.{VertexRow}
use Rattle.graph.specs.Memory.{Memory, behind_all, vertex_at, table_rows, flat, Bears, Tight, bares, Owned}
use Rattle.graph.specs.Filling.{size_of, filled_rows, filled_bytes, ordered, block_of, blocks_from, table_for}
use Rattle.graph.proofs.Laid.{rows_along}
use Rattle.loose.specs.Faults.{Faultless, FirstFault}
use Rattle.loose.proofs.Order.{ordered_shuffled, ordered_rise}
use Rattle.loose.proofs.Scan.{free_all, stops_first}
use Rattle.loose.proofs.Blocks.{place, block_is, block_from}
use Rattle.loose.proofs.Judging.{Sized, free_never, stops_found}
use Rattle.loose.proofs.Standing.{length_vertices, stands, blocks_owned}

-- a table's slots once nothing is loose
pub record Firm (t : Table) : Type 0 where
  pub up : Up 0 t.slots
  pub widths : AllByRecursion (λ (l : Slot). (l.width ≡ 2) ⊎ (l.width ≡ 4)) t.slots
  pub inside : AllByRecursion (λ (l : Slot). l.position + l.width ≤ length t.bytes) t.slots
  pub positions : AllByRecursion (λ (l : Slot). l.position < behind_all) t.slots

slot_widths : (ls : List StreamLink) → AllByRecursion (λ (l : Slot). (l.width ≡ 2) ⊎ (l.width ≡ 4)) (slots_of ls)
slot_widths [] = tt
slot_widths (real Two p t ∷ ls) = (inl refl, slot_widths ls)
slot_widths (real Four p t ∷ ls) = (inr refl, slot_widths ls)
slot_widths (virtual t ∷ ls) = slot_widths ls

some_wide : (l : Slot) → (l.width ≡ 2) ⊎ (l.width ≡ 4) → 0 < l.width
some_wide l h = ⊎_elim (λ e. omega arith) (λ e. omega arith) h

pub same_slots : (t : StreamTable) → IsPermutation (table_for t).slots (slots_of t.links)
same_slots t = IsPermutation-sym (slots_of t.links) (ordered place (slots_of t.links)) (ordered_shuffled place (slots_of t.links))

small : (s : Stream) → Uncounted s → (v : ℕ) (t : StreamTable) → TableAt s v t → size_of t < behind_all
small s f v t h = let k = (all-nth FineTable s.tables v t h f.tables).size in omega arith

-- A TABLE WITHOUT LOOSE LINKS
module _ (s : Stream) (t : StreamTable) (below : size_of t < behind_all) (tight : Loose s t → ⊥) where
  bytes_size : length (bytes_of t) ≡ size_of t
  bytes_size = length-value_bytes t.values

  slots_inside : AllByRecursion (λ (l : Slot). l.position + l.width ≤ length (bytes_of t)) (slots_of t.links)
  slots_inside =
      All-weaker (Has (slots_of t.links)) (λ (l : Slot). l.position + l.width ≤ length (bytes_of t))
      (λ l h. ⊎_elim (λ g. absurd (tight (beyond l h g))) (λ g. g) (cases_lt (length (bytes_of t)) (l.position + l.width)))
      (slots_of t.links) (all_has_itself (slots_of t.links))

  slots_before : AllByRecursion (λ (l : Slot). l.position < size_of t) (slots_of t.links)
  slots_before =
      All-weaker (Has (slots_of t.links)) (λ (l : Slot). l.position < size_of t)
      (λ l h.
      let a : l.position + l.width ≤ length (bytes_of t) = all-has (λ (x : Slot). x.position + x.width ≤ length (bytes_of t)) (slots_of t.links) l slots_inside h in
      let b = some_wide l (all-has (λ (x : Slot). (x.width ≡ 2) ⊎ (x.width ≡ 4)) (slots_of t.links) l (slot_widths t.links) h) in
      let c = bytes_size in
      omega arith)
      (slots_of t.links) (all_has_itself (slots_of t.links))

  pub firm : Firm (table_for t)
  firm =
      record {
        up = strict 0 (ordered place (slots_of t.links)) (ordered_rise place (slots_of t.links)) (λ p.
            let e : count_by (at_position p) (ordered place (slots_of t.links)) ≡ count_by (at_position p) (slots_of t.links) = sum_by-IsPermutation (λ (l : Slot). cond (at_position p l) 1 0) (slots_of t.links) (ordered place (slots_of t.links)) (ordered_shuffled place (slots_of t.links)) in
            ⊎_elim (λ g. absurd (tight (shared p g))) (λ g. omega arith) (cases_lt 1 (count_by (at_position p) (slots_of t.links))));
        widths = on (λ (l : Slot). (l.width ≡ 2) ⊎ (l.width ≡ 4)) (slot_widths t.links);
        inside = on (λ (l : Slot). l.position + l.width ≤ length (bytes_of t)) slots_inside;
        positions = on (λ (l : Slot). l.position < behind_all) (All-weaker (λ (l : Slot). l.position < size_of t) (λ (l : Slot). l.position < behind_all) (λ l h. omega arith) (slots_of t.links) slots_before);
      }
    where
      on : (P : Slot → Type 0) → AllByRecursion P (slots_of t.links) → AllByRecursion P (ordered place (slots_of t.links))
      on P h = all_shuffled P (slots_of t.links) (ordered place (slots_of t.links)) (ordered_shuffled place (slots_of t.links)) h

  pub block_rows : (v : ℕ) → block_of v t ≡ table_rows v (table_for t)
  block_rows v = block_is (size_of t) v 0 t.links (omega arith) slots_before

  pub block_targets : (v : ℕ) → AllByRecursion (λ (r : LinkRow). r.target < length s.tables) (block_of v t)
  block_targets v =
      All-weaker (Has (block_of v t)) (λ (r : LinkRow). r.target < length s.tables)
      (λ r h. ⊎_elim
      (λ g. g)
      (λ g. ⊎_elim
      (λ f. let e = f.2.target in absurd (tight (nowhere f.0 f.1 (omega arith))))
      (λ f. absurd (tight (nowhere_virtual r.target f.0 g)))
      (block_from v t r h))
      (cases_lt r.target (length s.tables)))
      (block_of v t) (all_has_itself (block_of v t))

blocks_all : (P : LinkRow → Type 0) (v : ℕ) (ts : List StreamTable) → ((u k : ℕ) (t : StreamTable) → nth ts k ≡ Some t → AllByRecursion P (block_of u t)) → AllByRecursion P (blocks_from v ts)
blocks_all P v [] h = tt
blocks_all P v (t ∷ ts) h = All-append P (block_of v t) (blocks_from (suc v) ts) (h v 0 t refl) (blocks_all P (suc v) ts (λ u k x e. h u (suc k) x e))

-- MEMORY FILLED WITH A STREAM
module _ (s : Stream) (fine : Uncounted s) (vs : List VertexRow) (filled : bares vs ≡ bares (filled_rows 0 0 0 s.tables)) where
  abbrev pub filled_memory : Memory
  filled_memory = record { vertices = vs; links = blocks_from 0 s.tables; bytes = filled_bytes s.tables }

  count : length vs ≡ length s.tables
  count = length_vertices vs s.tables filled

  pub rows_owned : Owned (blocks_from 0 s.tables) (length vs)
  rows_owned i h = let n = count in let k = All-get_or (λ (r : LinkRow). r.owner < 0 + length s.tables) (blocks_from 0 s.tables) i zero_link h (blocks_owned 0 s.tables) in omega arith

  sized_from : (v : ℕ) (ts : List StreamTable) → ((k : ℕ) (t : StreamTable) → nth ts k ≡ Some t → ((vertex_at vs (v + k)).size ≡ size_of t) × (size_of t ≤ behind_all)) → Sized vs s count v ts
  sized_from v [] h = tt
  sized_from v (t ∷ ts) h =
      let z : v + 0 ≡ v = omega arith in
      let first = h 0 t refl in (
        ap (λ u. (vertex_at vs u).size) (sym z) ∙ first.0,
        first.1,
        sized_from (suc v) ts (λ k x e. let y : suc v + k ≡ v + suc k = omega arith in let g = h (suc k) x e in (ap (λ u. (vertex_at vs u).size) y ∙ g.0, g.1)),
      )

  sized : Sized vs s count 0 s.tables
  sized =
      sized_from 0 s.tables (λ k t e.
      let z : 0 + k ≡ k = omega arith in
      let b = small s fine k t e in
      (ap (λ u. (vertex_at vs u).size) z ∙ (stands vs s.tables k t filled e).size, omega arith))

  -- WHAT THE TEST SAYS
  pub first_is_lowest : (u : ℕ) → FirstFault vs (blocks_from 0 s.tables) u → Lowest (Loosely s) u
  first_is_lowest u h =
      let f = stops_found vs s count None 0 u s.tables sized tt (stops_first vs (blocks_from 0 s.tables) u h) in
      let e : f.number ≡ u = let g = f.vertex in omega arith in
      record {
        holds = (f.table, subst (λ k. nth s.tables k ≡ Some f.table) e f.there, f.loose);
        lower = λ w l x. f.lower w (omega arith) x.0 x.1 x.2;
      }

  pub none_is_never : Faultless vs (blocks_from 0 s.tables) → Never (Loosely s)
  none_is_never h v x = free_never vs s count None 0 s.tables sized (free_all vs (blocks_from 0 s.tables) h) v x.0 x.1 x.2

  -- both at once, as the answer has them
  pub answer_means : (o : Option ℕ) → MatchOption o (Faultless vs (blocks_from 0 s.tables)) (FirstFault vs (blocks_from 0 s.tables)) → MatchOption o (Never (Loosely s)) (Lowest (Loosely s))
  answer_means None h = none_is_never h
  answer_means (Some u) h = first_is_lowest u h

  -- WHAT THE MEMORY BEARS where nothing is loose
  module _ (never : Never (Loosely s)) where
    pub table_firm : (v : ℕ) (t : StreamTable) → TableAt s v t → Firm (table_for t)
    table_firm v t h = firm s t (small s fine v t h) (λ x. never v (t, h, x))

    pub table_block : (v : ℕ) (t : StreamTable) → TableAt s v t → block_of v t ≡ table_rows v (table_for t)
    table_block v t h = block_rows s t (small s fine v t h) (λ x. never v (t, h, x)) v

    pub all_blocks : blocks_from 0 s.tables ≡ flat 0 (map table_for s.tables)
    all_blocks = rows_along s.tables 0 (λ k t h. block_rows s t (small s fine k t h) (λ x. never k (t, h, x)) (0 + k))

    pub table_borne : (v : ℕ) (t : StreamTable) → TableAt s v t → Bears filled_memory v (table_for t)
    table_borne v t h =
        let x = stands vs s.tables v t filled h in
        let n = count in
        let k = slice_get_within s.tables v t h in
        record {
          below = omega arith;
          within = record { part = x.part; rows = x.links };
          bytes = x.bytes;
          rows = x.rows ∙ table_block v t h;
        }

    pub all_tight : Tight filled_memory
    all_tight =
        record {
          within = λ v h.
              let n = count in
              let t = nth_there s.tables v (omega arith) in
              (table_borne v t.0 t.1).within;
          targets = λ i h d.
              let n = count in
              let k = All-get_or (λ (r : LinkRow). r.target < length s.tables) (blocks_from 0 s.tables) i d h (blocks_all (λ (r : LinkRow). r.target < length s.tables) 0 s.tables (λ u j t e. block_targets s t (small s fine j t e) (λ x. never j (t, e, x)) u)) in
              omega arith;
        }
