-- The link rows of a table in order of position: its slots by position, then its virtual links; what a row stands for.
use Rattle.std.proofs.Common.{◌≡◌, ℕ, suc, ◌+◌, ◌<◌, ◌≤◌, Bool, false, cond, eqb, ◌⊎◌, List, [], ◌∷◌, ◌++◌, map, length, count_by, sym, refl, ap, ◌∙◌, subst, inl, inr, ⊎_elim, arith}
use Rattle.std.specs.List.{ContainsAt as Has, AllByRecursion}
use Rattle.std.specs.List.Sorted.{IsPermutation}
use Rattle.std.proofs.lemmas.List.Sorted.{IsPermutation-sym, sum_by-IsPermutation, length_permutation}
use Rattle.std.proofs.ByRecursion.{all_shuffled, has_shuffled}
use Rattle.std.proofs.lemmas.Bool.Decides.{nat_tests}
use Rattle.std.proofs.lemmas.List.Sums.{sum_by-cons}
use Rattle.rows.specs.declared.LinkRow.{LinkRow}
use Rattle.rows.specs.declared.LinkWidth.TheVariants as row
use Rattle.words.specs.declared.Width.{Width}
use Rattle.words.specs.declared.Width.TheVariants.{Two, Four}
use Rattle.words.specs.Grammar.{StreamLink, real, virtual, StreamTable}
use Rattle.model.specs.Tables.{Slot, slot}
use Rattle.model.specs.Loading.{width_of, slots_of, virtuals_of}
use Rattle.model.proofs.LoadSame.{has_first, has_later, has_cases, has_none}
use Rattle.model.proofs.LoadBack.{at_position}
use Rattle.graph.specs.Memory.{behind_all, slot_row, virtual_rows}
use Rattle.graph.specs.Filling.{size_of, row_width, stream_rows, insert_by, ordered, clipped, block_of}
use Rattle.rows.specs.Kinds.{wide}
use Rattle.loose.proofs.Order.{ordered_shuffled}

abbrev pub place : Slot → ℕ
place l = l.position

abbrev pub record_row : ℕ → Width → ℕ → ℕ → LinkRow
record_row v w p t = record { owner = v; position = p; width = row_width w; target = t }

row_is : (v : ℕ) (w : Width) (p t : ℕ) → record_row v w p t ≡ slot_row v (slot p (width_of w) t)
row_is v Two p t = refl
row_is v Four p t = refl

abbrev virtual_row : ℕ → ℕ → ℕ → LinkRow
virtual_row v k t = record { owner = v; position = behind_all + k; width = row.Zero; target = t }

-- INSERTING among slots below a size and rows behind it
module _ (size v : ℕ) where
  abbrev Inside : Slot → Type 0
  Inside l = l.position < size

  abbrev Behind : LinkRow → Type 0
  Behind r = size ≤ r.position

  front_in : (r : LinkRow) (rs : List LinkRow) → AllByRecursion Behind rs → insert_by (clipped size) r rs ≡ r ∷ rs
  front_in r [] h = refl
  front_in r (y ∷ ys) h = let k = h.0 in grind (arith, nat_tests)

  slot_in : (l : Slot) (os : List Slot) (rs : List LinkRow) → Inside l → AllByRecursion Inside os → AllByRecursion Behind rs → insert_by (clipped size) (slot_row v l) (map (slot_row v) os ++ rs) ≡ map (slot_row v) (insert_by place l os) ++ rs
  slot_in l [] rs i h b = front_in (slot_row v l) rs b
  slot_in l (o ∷ os) rs i h b = let k = h.0 in let e = slot_in l os rs i h.1 b in grind (arith, nat_tests)

  virtual_in : (r : LinkRow) (os : List Slot) (rs : List LinkRow) → Behind r → AllByRecursion Inside os → AllByRecursion Behind rs → insert_by (clipped size) r (map (slot_row v) os ++ rs) ≡ map (slot_row v) os ++ r ∷ rs
  virtual_in r [] rs i h b = front_in r rs b
  virtual_in r (o ∷ os) rs i h b = let k = h.0 in let e = virtual_in r os rs i h.1 b in grind (arith, nat_tests)

  all_behind : (k : ℕ) (ts : List ℕ) → size ≤ behind_all → AllByRecursion Behind (virtual_rows v k ts)
  all_behind k [] h = tt
  all_behind k (t ∷ ts) h = (omega arith, all_behind (suc k) ts h)

  all_inside : (ls : List Slot) → AllByRecursion Inside ls → AllByRecursion Inside (ordered place ls)
  all_inside ls h = all_shuffled Inside ls (ordered place ls) (ordered_shuffled place ls) h

  pub block_is : (k : ℕ) (ls : List StreamLink) → size ≤ behind_all → AllByRecursion (λ (l : Slot). l.position < size) (slots_of ls) → ordered (clipped size) (stream_rows v k ls) ≡ map (slot_row v) (ordered place (slots_of ls)) ++ virtual_rows v k (virtuals_of ls)
  block_is k [] m h = refl
  block_is k (real w p t ∷ ls) m h =
      ap (insert_by (clipped size) (record_row v w p t)) (block_is k ls m h.1)
      ∙ ap (λ r. insert_by (clipped size) r (map (slot_row v) (ordered place (slots_of ls)) ++ virtual_rows v k (virtuals_of ls))) (row_is v w p t)
      ∙ slot_in (slot p (width_of w) t) (ordered place (slots_of ls)) (virtual_rows v k (virtuals_of ls)) h.0 (all_inside (slots_of ls) h.1) (all_behind k (virtuals_of ls) m)
  block_is k (virtual t ∷ ls) m h =
      ap (insert_by (clipped size) (virtual_row v k t)) (block_is (suc k) ls m h)
      ∙ virtual_in (virtual_row v k t) (ordered place (slots_of ls)) (virtual_rows v (suc k) (virtuals_of ls)) (omega arith) (all_inside (slots_of ls) h) (all_behind (suc k) (virtuals_of ls) m)

-- WHAT A ROW STANDS FOR
pub owners : (v k : ℕ) (ls : List StreamLink) → AllByRecursion (λ (r : LinkRow). r.owner ≡ v) (stream_rows v k ls)
owners v k [] = tt
owners v k (real w p t ∷ ls) = (refl, owners v k ls)
owners v k (virtual t ∷ ls) = (refl, owners v (suc k) ls)

pub length_rows : (v k : ℕ) (ls : List StreamLink) → length (stream_rows v k ls) ≡ length ls
length_rows v k [] = refl
length_rows v k (real w p t ∷ ls) = ap suc (length_rows v k ls)
length_rows v k (virtual t ∷ ls) = ap suc (length_rows v (suc k) ls)

pub block_shuffled : (v : ℕ) (t : StreamTable) → IsPermutation (stream_rows v 0 t.links) (block_of v t)
block_shuffled v t = ordered_shuffled (clipped (size_of t)) (stream_rows v 0 t.links)

pub block_owners : (v : ℕ) (t : StreamTable) → AllByRecursion (λ (r : LinkRow). r.owner ≡ v) (block_of v t)
block_owners v t = all_shuffled (λ (r : LinkRow). r.owner ≡ v) (stream_rows v 0 t.links) (block_of v t) (block_shuffled v t) (owners v 0 t.links)

pub length_block : (v : ℕ) (t : StreamTable) → length (block_of v t) ≡ length t.links
length_block v t = length_permutation (stream_rows v 0 t.links) (block_of v t) (block_shuffled v t) ∙ length_rows v 0 t.links

wide_row : (w : Width) → width_of w ≡ wide (row_width w)
wide_row Two = refl
wide_row Four = refl

-- the slot of a real row
pub record Says (l : Slot) (r : LinkRow) : Type 0 where
  pub position : l.position ≡ r.position
  pub width : l.width ≡ wide r.width
  pub target : l.target ≡ r.target

pub row_from_lem : (v k : ℕ) (ls : List StreamLink) (r : LinkRow) → Has (stream_rows v k ls) r → ((l : Slot) × Has (slots_of ls) l × Says l r) ⊎ (Has (virtuals_of ls) r.target × (wide r.width ≡ 0))
row_from_lem v k [] r h = absurd (has_none r h)
row_from_lem v k (real w p t ∷ ls) r h =
    ⊎_elim
    (λ e. inl (slot p (width_of w) t, has_first (slot p (width_of w) t) (slots_of ls), record { position = ap (λ (x : LinkRow). x.position) e; width = wide_row w ∙ ap (λ (x : LinkRow). wide x.width) e; target = ap (λ (x : LinkRow). x.target) e }))
    (λ i. ⊎_elim (λ f. inl (f.0, has_later (slot p (width_of w) t) (slots_of ls) f.0 f.1, f.2)) (λ f. inr f) (row_from_lem v k ls r i))
    (has_cases (record_row v w p t) (stream_rows v k ls) r h)
row_from_lem v k (virtual t ∷ ls) r h =
    ⊎_elim
    (λ e. inr (subst (Has (t ∷ virtuals_of ls)) (ap (λ (x : LinkRow). x.target) e) (has_first t (virtuals_of ls)), sym (ap (λ (x : LinkRow). wide x.width) e)))
    (λ i. ⊎_elim (λ f. inl f) (λ f. inr (has_later t (virtuals_of ls) r.target f.0, f.1)) (row_from_lem v (suc k) ls r i))
    (has_cases (virtual_row v k t) (stream_rows v (suc k) ls) r h)

pub block_from : (v : ℕ) (t : StreamTable) (r : LinkRow) → Has (block_of v t) r → ((l : Slot) × Has (slots_of t.links) l × Says l r) ⊎ (Has (virtuals_of t.links) r.target × (wide r.width ≡ 0))
block_from v t r h = row_from_lem v 0 t.links r (has_shuffled (block_of v t) (stream_rows v 0 t.links) r (IsPermutation-sym (stream_rows v 0 t.links) (block_of v t) (block_shuffled v t)) h)

-- real rows at a position
abbrev pub real_at : ℕ → LinkRow → Bool
real_at p r = cond (eqb (wide r.width) 0) false (eqb r.position p)

rows_count : (p v k : ℕ) (ls : List StreamLink) → count_by (real_at p) (stream_rows v k ls) ≡ count_by (at_position p) (slots_of ls)
rows_count p v k [] = refl
rows_count p v k (real Two q t ∷ ls) = let r = rows_count p v k ls in omega (arith, sum_by-cons {X = LinkRow}, sum_by-cons {X = Slot})
rows_count p v k (real Four q t ∷ ls) = let r = rows_count p v k ls in omega (arith, sum_by-cons {X = LinkRow}, sum_by-cons {X = Slot})
rows_count p v k (virtual t ∷ ls) = let r = rows_count p v (suc k) ls in grind (arith, sum_by-cons {X = LinkRow})

pub block_count : (p v : ℕ) (t : StreamTable) → count_by (real_at p) (block_of v t) ≡ count_by (at_position p) (slots_of t.links)
block_count p v t = sum_by-IsPermutation (λ (r : LinkRow). cond (real_at p r) 1 0) (stream_rows v 0 t.links) (block_of v t) (block_shuffled v t) ∙ rows_count p v 0 t.links

-- ROWS THAT FIT, and so do slots and virtual links
abbrev pub Fit : ℕ → ℕ → LinkRow → Type 0
Fit n size r = (r.target < n) × (0 < wide r.width → r.position + wide r.width ≤ size)

abbrev pub FitSlot : ℕ → ℕ → Slot → Type 0
FitSlot n size l = (l.target < n) × (0 < l.width) × (l.position + l.width ≤ size)

rows_fit : (n size v k : ℕ) (ls : List StreamLink) → AllByRecursion (Fit n size) (stream_rows v k ls) → AllByRecursion (FitSlot n size) (slots_of ls) × AllByRecursion (λ u. u < n) (virtuals_of ls)
rows_fit n size v k [] h = (tt, tt)
rows_fit n size v k (real Two p t ∷ ls) h = let r = rows_fit n size v k ls h.1 in ((((h.0.0, omega arith, h.0.1 (omega arith)), r.0)), r.1)
rows_fit n size v k (real Four p t ∷ ls) h = let r = rows_fit n size v k ls h.1 in ((((h.0.0, omega arith, h.0.1 (omega arith)), r.0)), r.1)
rows_fit n size v k (virtual t ∷ ls) h = let r = rows_fit n size v (suc k) ls h.1 in (r.0, (h.0.0, r.1))

pub block_fit : (n size v : ℕ) (t : StreamTable) → AllByRecursion (Fit n size) (block_of v t) → AllByRecursion (FitSlot n size) (slots_of t.links) × AllByRecursion (λ u. u < n) (virtuals_of t.links)
block_fit n size v t h = rows_fit n size v 0 t.links (all_shuffled (Fit n size) (block_of v t) (stream_rows v 0 t.links) (IsPermutation-sym (stream_rows v 0 t.links) (block_of v t) (block_shuffled v t)) h)
