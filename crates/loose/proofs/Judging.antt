-- Faulty rows in the blocks of a stream's tables are loose links, and the first of them is one of the lowest loose vertex.
use Rattle.std.proofs.Common.{◌≡◌, ℕ, zero, suc, ◌+◌, ◌<◌, ◌≤◌, cond, ◌⊎◌, List, [], ◌∷◌, map, length, Some, None, count_by, Option, sym, refl, ap, ◌∙◌, subst, inl, inr, ⊎_elim, arith}
use Rattle.std.specs.List.{ContainsAt as Has, AllByRecursion}
use Rattle.std.proofs.ByRecursion.{all-has, All-weaker}
use Rattle.std.proofs.lemmas.List.Sorted.{sum_by-IsPermutation}
use Rattle.std.proofs.lemmas.Bool.{cases_eq}
use Rattle.std.proofs.lemmas.Bool.Decides.{nat_tests}
use Rattle.std.proofs.lemmas.List.Sums.{sum_by-cons}
use Rattle.rows.specs.declared.LinkRow.{LinkRow}
use Rattle.words.specs.Grammar.{StreamTable, Stream}
use Rattle.data_bytes.proofs.ValueLists.{length-value_bytes}
use Rattle.model.specs.Tables.{Slot}
use Rattle.model.specs.Rules.{nth}
use Rattle.model.specs.Loading.{slots_of, virtuals_of, bytes_of, Loose, nowhere, nowhere_virtual, beyond, shared}
use Rattle.model.proofs.LoadSame.{Up, has_first, has_later}
use Rattle.model.proofs.LoadLists.{count_cons}
use Rattle.model.proofs.LoadBack.{at_position}
use Rattle.graph.specs.declared.VertexRow.{VertexRow}
use Rattle.graph.specs.Memory.{behind_all, vertex_at, slot_row, virtual_rows}
use Rattle.graph.specs.Filling.{size_of, ordered, block_of, blocks_from}
use Rattle.rows.specs.Kinds.{wide}
use Rattle.loose.specs.Faults.{Twins}
use Rattle.loose.specs.Faults as fault
use Rattle.loose.proofs.Order.{Rise, ordered_shuffled, ordered_rise}
use Rattle.loose.proofs.Scan.{last, Wrong, Free, Stops, free_split, stops-split, Lower, lower_more, last_lower}
use Rattle.loose.proofs.Blocks.{place, block_is, block_owners, block_from, real_at, block_count, Fit, FitSlot, block_fit}

-- SLOTS THAT RISE
slot_wide : (v : ℕ) (l : Slot) → 0 < wide (slot_row v l).width
slot_wide v l = grind (arith, nat_tests)

-- no position comes twice
none_below : (p a : ℕ) (ls : List Slot) → p < a → Up a ls → count_by (at_position p) ls ≡ 0
none_below p a [] h u = refl
none_below p a (l ∷ ls) h u = let k = u.0 in let r = none_below p (suc l.position) ls (omega arith) u.1 in grind (arith, nat_tests, sum_by-cons {X = Slot})

pub up_count : (p a : ℕ) (ls : List Slot) → Up a ls → count_by (at_position p) ls ≤ 1
up_count p a [] u = omega arith
up_count p a (l ∷ ls) u =
    let c = sum_by-cons (λ (x : Slot). cond (at_position p x) 1 0) l ls in
    ⊎_elim
    (λ e. let r = none_below p (suc l.position) ls (omega arith) u.1 in grind (arith, nat_tests))
    (λ o. let r = up_count p (suc l.position) ls u.1 in grind (arith, nat_tests))
    (cases_eq l.position p)

module _ (vs : List VertexRow) where
  -- ROWS WITHOUT A FAULT
  free_fit : (b : Option LinkRow) (rows : List LinkRow) (v size : ℕ) → AllByRecursion (λ (r : LinkRow). r.owner ≡ v) rows → (vertex_at vs v).size ≡ size → Free vs b rows → AllByRecursion (Fit (length vs) size) rows
  free_fit b [] v size o e f = tt
  free_fit b (r ∷ rs) v size o e f =
      let n : (vertex_at vs r.owner).size ≡ size = ap (λ u. (vertex_at vs u).size) o.0 ∙ e in
      let t : length vs ≤ r.target → ⊥ = λ l. f.0 (fault.nowhere l) in
      let p : 0 < wide r.width → (vertex_at vs r.owner).size < r.position + wide r.width → ⊥ = λ w l. f.0 (fault.beyond w l) in
      ((omega arith, λ w. omega (arith, p w)), free_fit (Some r) rs v size o.1 e f.1)

  free_up : (b : Option LinkRow) (v a : ℕ) (os : List Slot) → Free vs b (map (slot_row v) os) → Rise place a os → Up a os
  free_up b v a [] f r = tt
  free_up b v a (x ∷ []) f r = (r.0, tt)
  free_up b v a (x ∷ y ∷ ys) f r =
      let q = r.1.0 in
      let n : x.position ≡ y.position → ⊥ = λ e. f.1.0 (fault.twins (slot_wide v x, slot_wide v y, refl, e)) in
      (r.0, free_up (Some (slot_row v x)) v (suc x.position) (y ∷ ys) f.1 (omega arith, r.1.1))

  -- A FAULT AMONG ROWS: in one of them, or two real ones at one position
  abbrev Torn : ℕ → LinkRow → Type 0
  Torn size r = (length vs ≤ r.target) ⊎ ((0 < wide r.width) × (size < r.position + wide r.width))

  abbrev Among : ℕ → List LinkRow → Type 0
  Among size rows = ((r : LinkRow) × Has rows r × Torn size r) ⊎ ((p : ℕ) × (1 < count_by (real_at p) rows))

  among_more : (size : ℕ) (q : LinkRow) (rows : List LinkRow) → Among size rows → Among size (q ∷ rows)
  among_more size q rows h =
      ⊎_elim
      (λ f. inl (f.0, has_later q rows f.0 f.1, f.2))
      (λ f. let c = count_cons (real_at f.0) q rows in let k = f.1 in inr (f.0, omega arith))
      h

  at_first : (size v : ℕ) (b : Option LinkRow) (r : LinkRow) (rs : List LinkRow) → r.owner ≡ v → (vertex_at vs v).size ≡ size → Wrong vs b r → Twins b r ⊎ Among size (r ∷ rs)
  at_first size v b r rs o e (fault.nowhere l) = inr (inl (r, has_first r rs, inl l))
  at_first size v b r rs o e (fault.beyond w l) = let n : (vertex_at vs r.owner).size ≡ size = ap (λ u. (vertex_at vs u).size) o ∙ e in inr (inl (r, has_first r rs, inr (w, omega arith)))
  at_first size v b r rs o e (fault.twins t) = inl t

  two : (size : ℕ) (q r : LinkRow) (rs : List LinkRow) → Twins (Some q) r → Among size (q ∷ r ∷ rs)
  two size q r rs t =
      let a = count_cons (real_at r.position) q (r ∷ rs) in
      let b = count_cons (real_at r.position) r rs in
      inr (r.position, grind (arith, nat_tests))

  stops_among : (size v u : ℕ) (q : LinkRow) (rs : List LinkRow) → AllByRecursion (λ (r : LinkRow). r.owner ≡ v) rs → (vertex_at vs v).size ≡ size → Stops vs (Some q) rs u → (u ≡ v) × Among size (q ∷ rs)
  stops_among size v u q [] o e s = absurd s
  stops_among size v u q (r ∷ rs) o e s =
      ⊎_elim
      (λ f. (sym f.1 ∙ o.0, ⊎_elim (two size q r rs) (among_more size q (r ∷ rs)) (at_first size v (Some q) r rs o.0 e f.0)))
      (λ n. let i = stops_among size v u r rs o.1 e n.1 in (i.0, among_more size q (r ∷ rs) i.1))
      s

  stops_in : (size v u : ℕ) (b : Option LinkRow) (rows : List LinkRow) → Lower b v → AllByRecursion (λ (r : LinkRow). r.owner ≡ v) rows → (vertex_at vs v).size ≡ size → Stops vs b rows u → (u ≡ v) × Among size rows
  stops_in size v u b [] l o e s = absurd s
  stops_in size v u b (r ∷ rs) l o e s =
      ⊎_elim
      (λ f. (sym f.1 ∙ o.0, ⊎_elim (λ t. absurd (apart b l t)) (λ a. a) (at_first size v b r rs o.0 e f.0)))
      (λ n. stops_among size v u r rs o.1 e n.1)
      s
    where
      apart : (c : Option LinkRow) → Lower c v → Twins c r → ⊥
      apart None m t = t
      apart (Some q) m t = let x = t.2 in let y = o.0 in omega arith

  -- A TABLE
  module _ (s : Stream) (count : length vs ≡ length s.tables) where
    bytes_size : (t : StreamTable) → length (bytes_of t) ≡ size_of t
    bytes_size t = length-value_bytes t.values

    pub free_tight : (b : Option LinkRow) (v : ℕ) (t : StreamTable) → (vertex_at vs v).size ≡ size_of t → size_of t ≤ behind_all → Free vs b (block_of v t) → Loose s t → ⊥
    free_tight b v t e m f x = no x
      where
        fit : AllByRecursion (FitSlot (length vs) (size_of t)) (slots_of t.links) × AllByRecursion (λ u. u < length vs) (virtuals_of t.links)
        fit = block_fit (length vs) (size_of t) v t (free_fit b (block_of v t) v (size_of t) (block_owners v t) e f)

        up : Up 0 (ordered place (slots_of t.links))
        up =
            let is = block_is (size_of t) v 0 t.links m (All-weaker (FitSlot (length vs) (size_of t)) (λ (l : Slot). l.position < size_of t) (λ l h. omega arith) (slots_of t.links) fit.0) in
            free_up b v 0 (ordered place (slots_of t.links)) (free_split vs b (map (slot_row v) (ordered place (slots_of t.links))) (virtual_rows v 0 (virtuals_of t.links)) (subst (Free vs b) is f)).0 (ordered_rise place (slots_of t.links))

        no : Loose s t → ⊥
        no (nowhere l h g) = let k = all-has (FitSlot (length vs) (size_of t)) (slots_of t.links) l fit.0 h in let z = k.0 in omega arith
        no (nowhere_virtual u h g) = let k = all-has (λ w. w < length vs) (virtuals_of t.links) u fit.1 h in omega arith
        no (beyond l h g) = let k = all-has (FitSlot (length vs) (size_of t)) (slots_of t.links) l fit.0 h in let z = k.2 in let y = bytes_size t in omega arith
        no (shared p g) =
            let k = up_count p 0 (ordered place (slots_of t.links)) up in
            let z : count_by (at_position p) (ordered place (slots_of t.links)) ≡ count_by (at_position p) (slots_of t.links) = sum_by-IsPermutation (λ (l : Slot). cond (at_position p l) 1 0) (slots_of t.links) (ordered place (slots_of t.links)) (ordered_shuffled place (slots_of t.links)) in
            omega arith

    pub stops_loose : (b : Option LinkRow) (v u : ℕ) (t : StreamTable) → (vertex_at vs v).size ≡ size_of t → Lower b v → Stops vs b (block_of v t) u → (u ≡ v) × Loose s t
    stops_loose b v u t e l x = let i = stops_in (size_of t) v u b (block_of v t) l (block_owners v t) e x in (i.0, ⊎_elim torn two i.1)
      where
        torn : ((r : LinkRow) × Has (block_of v t) r × Torn (size_of t) r) → Loose s t
        torn f =
            ⊎_elim
            (λ g. let y = g.2 in
            let y1 = y.position in let y2 = y.width in let y3 = y.target in
            ⊎_elim
            (λ n. nowhere g.0 g.1 (omega arith))
            (λ n. let n1 = n.1 in let z = bytes_size t in beyond g.0 g.1 (omega arith))
            f.2)
            (λ g. let g1 = g.1 in
            ⊎_elim
            (λ n. nowhere_virtual f.0.target g.0 (omega arith))
            (λ n. let n0 = n.0 in absurd (omega arith))
            f.2)
            (block_from v t f.0 f.1)

        two : ((p : ℕ) × (1 < count_by (real_at p) (block_of v t))) → Loose s t
        two f = let c = block_count f.0 v t in let g = f.1 in shared f.0 (omega arith)

    -- ALL TABLES, numbered on from v
    abbrev pub Sized : ℕ → List StreamTable → Type 0
    Sized v [] = Unit {0}
    Sized v (t ∷ ts) = ((vertex_at vs v).size ≡ size_of t) × (size_of t ≤ behind_all) × Sized (suc v) ts

    pub free_never : (b : Option LinkRow) (v : ℕ) (ts : List StreamTable) → Sized v ts → Free vs b (blocks_from v ts) → (k : ℕ) (t : StreamTable) → nth ts k ≡ Some t → Loose s t → ⊥
    free_never b v [] z f k t e x = cc
    free_never b v (y ∷ ts) z f zero t e x = free_tight b v y z.0 z.1 (free_split vs b (block_of v y) (blocks_from (suc v) ts) f).0 (subst (Loose s) (cc) x)
    free_never b v (y ∷ ts) z f (suc k) t e x = free_never (last b (block_of v y)) (suc v) ts z.2 (free_split vs b (block_of v y) (blocks_from (suc v) ts) f).1 k t e x

    pub record Found (v : ℕ) (ts : List StreamTable) (u : ℕ) : Type 0 where
      pub number : ℕ
      pub vertex : u ≡ v + number
      pub table : StreamTable
      pub there : nth ts number ≡ Some table
      pub loose : Loose s table
      pub lower : (j : ℕ) → j < number → (t : StreamTable) → nth ts j ≡ Some t → Loose s t → ⊥

    pub stops_found : (b : Option LinkRow) (v u : ℕ) (ts : List StreamTable) → Sized v ts → Lower b v → Stops vs b (blocks_from v ts) u → Found v ts u
    stops_found b v u [] z l x = absurd x
    stops_found b v u (y ∷ ts) z l x =
        ⊎_elim here
        (λ h. later h.0 (stops_found (last b (block_of v y)) (suc v) u ts z.2 (last_lower b (block_of v y) v (block_owners v y) (lower_more b v l)) h.1))
        (stops-split vs b (block_of v y) (blocks_from (suc v) ts) u x)
      where
        here : Stops vs b (block_of v y) u → Found v (y ∷ ts) u
        here h =
            let i = stops_loose b v u y z.0 l h in
            let e = i.0 in
            record { number = 0; vertex = omega arith; table = y; there = refl; loose = i.1; lower = λ j k t a c. absurd (omega arith) }

        before : Free vs b (block_of v y) → (n : ℕ) → ((j : ℕ) → j < n → (t : StreamTable) → nth ts j ≡ Some t → Loose s t → ⊥) → (j : ℕ) → j < suc n → (t : StreamTable) → nth (y ∷ ts) j ≡ Some t → Loose s t → ⊥
        before f n g zero k t a c = free_tight b v y z.0 z.1 f (subst (Loose s) (cc) c)
        before f n g (suc j) k t a c = g j (omega arith) t a c

        later : Free vs b (block_of v y) → Found (suc v) ts u → Found v (y ∷ ts) u
        later f r = let e = r.vertex in record { number = suc r.number; vertex = omega arith; table = r.table; there = r.there; loose = r.loose; lower = before f r.number r.lower }
