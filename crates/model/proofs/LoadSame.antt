-- A table of the stream is the table of one lookup, subtable, set or ligature at most.
use Rattle.std.proofs.Common.{◌≡◌, ℕ, zero, suc, ◌+◌, ◌<◌, ◌≤◌, ◌⊎◌, List, [], ◌∷◌, ◌++◌, map, length, get_or, Some, None, Option, sym, refl, ap, ◌∙◌, inl, inr, ⊎_elim, arith, drop}
use Rattle.std.specs.List.{ContainsAt as Has, AllByRecursion}
use Rattle.std.specs.Option.{option_to_list}
use Rattle.std.proofs.lemmas.List.{append_cancel_left}
use Rattle.std.proofs.ByRecursion.{all-has, has_shuffled}
use Rattle.std.proofs.lemmas.List.Sorted.{IsPermutation-sym}
use Rattle.words.specs.Grammar.{StreamTable}
use Rattle.data_bytes.specs.Values.{value_bytes, values}
use Rattle.data_bytes.proofs.ValueLists.{values_value_bytes}
use Rattle.model.specs.Forest.{Ligature, LigatureSet, Subtable, Lookup}
use Rattle.model.specs.Tables.{Slot, slots_from, Table, zeros, head, lookup_table, extension_table, subtable_table, set_table, ligature_table}
use Rattle.model.specs.Loading.{slots_of, Spelt}

-- MEMBERS
pub has_first : {X : Type 0} (x : X) (xs : List X) → Has (x ∷ xs) x
has_first x xs = (0, omega arith, λ d. refl)

pub has_later : {X : Type 0} (y : X) (xs : List X) (x : X) → Has xs x → Has (y ∷ xs) x
has_later y xs x h = let l = h.1 in (suc h.0, omega arith, h.2)

pub has_cases : {X : Type 0} (y : X) (xs : List X) (x : X) → Has (y ∷ xs) x → (y ≡ x) ⊎ Has xs x
has_cases {X} y xs x h = at h.0 h.1 h.2
  where
    at : (k : ℕ) → k < length (y ∷ xs) → ((d : X) → get_or (y ∷ xs) k d ≡ x) → (y ≡ x) ⊎ Has xs x
    at zero l e = inl (e y)
    at (suc k) l e = inr (k, omega arith, e)

pub has_none : {X : Type 0} (x : X) → Has [] x → ⊥
has_none x h = let l = h.1 in omega arith

-- SLOTS BY POSITION
-- positions rise from a on
abbrev pub Up : ℕ → List Slot → Type 0
Up a [] = Unit {0}
Up a (l ∷ ls) = (a ≤ l.position) × Up (suc l.position) ls

abbrev From : ℕ → Slot → Type 0
From a l = a ≤ l.position

up_lower : (a b : ℕ) (ls : List Slot) → b ≤ a → Up a ls → Up b ls
up_lower a b [] h u = tt
up_lower a b (l ∷ ls) h u = (let k = u.0 in omega arith, u.1)

up_all : (a : ℕ) (ls : List Slot) → Up a ls → AllByRecursion (From a) ls
up_all a [] u = tt
up_all a (l ∷ ls) u = (u.0, up_all a ls (up_lower (suc l.position) a ls (let k = u.0 in omega arith) u.1))

pub up_from : (p a : ℕ) (ts : List ℕ) → a ≤ p → Up a (slots_from p ts)
up_from p a [] h = tt
up_from p a (t ∷ ts) h = (h, up_from (p + 2) (suc p) ts (omega arith))

abbrev Within : List Slot → List Slot → Type 0
Within xs ys = (l : Slot) → Has xs l → Has ys l

heads_same : (x y : Slot) (xs ys : List Slot) → Up (suc x.position) xs → Up (suc y.position) ys → Within (x ∷ xs) (y ∷ ys) → Within (y ∷ ys) (x ∷ xs) → y ≡ x
heads_same x y xs ys ux uy f g =
    ⊎_elim
    (λ e. e)
    (λ a. ⊎_elim
    (λ e. sym e)
    (λ b. let p : suc y.position ≤ x.position = all-has (From (suc y.position)) ys x (up_all (suc y.position) ys uy) a in
    let q : suc x.position ≤ y.position = all-has (From (suc x.position)) xs y (up_all (suc x.position) xs ux) b in
    absurd (omega arith))
    (has_cases x xs y (g y (has_first y ys))))
    (has_cases y ys x (f x (has_first x xs)))

tails_within : (x y : Slot) (xs ys : List Slot) → Up (suc x.position) xs → y ≡ x → Within (x ∷ xs) (y ∷ ys) → Within xs ys
tails_within x y xs ys ux e f l h =
    ⊎_elim
    (λ i. let p : suc x.position ≤ l.position = all-has (From (suc x.position)) xs l (up_all (suc x.position) xs ux) h in
    let q : x.position ≡ l.position = ap (λ (z : Slot). z.position) (sym e ∙ i) in
    absurd (omega arith))
    (λ i. i)
    (has_cases y ys l (f l (has_later x xs l h)))

pub rising_same : (a b : ℕ) (xs ys : List Slot) → Up a xs → Up b ys → Within xs ys → Within ys xs → xs ≡ ys
rising_same a b [] [] u v f g = refl
rising_same a b [] (y ∷ ys) u v f g = absurd (has_none y (g y (has_first y ys)))
rising_same a b (x ∷ xs) [] u v f g = absurd (has_none x (f x (has_first x xs)))
rising_same a b (x ∷ xs) (y ∷ ys) u v f g =
    let e = heads_same x y xs ys u.1 v.1 f g in
    ap (λ z. z ∷ xs) (sym e) ∙ ap (λ z. y ∷ z) (rising_same _ _ xs ys u.1 v.1 (tails_within x y xs ys u.1 e f) (tails_within y x ys xs v.1 (sym e) g))

-- TABLES
pub record Same (t u : Table) : Type 0 where
  pub bytes : t.bytes ≡ u.bytes
  pub slots : t.slots ≡ u.slots

pub spelt_same : (t : StreamTable) (a b : Table) → Up 0 a.slots → Up 0 b.slots → Spelt t a → Spelt t b → Same a b
spelt_same t a b u v x y =
    record {
      bytes = sym x.bytes ∙ y.bytes;
      slots = rising_same 0 0 a.slots b.slots u v
          (λ l h. has_shuffled (slots_of t.links) b.slots l (IsPermutation-sym b.slots (slots_of t.links) y.slots) (has_shuffled a.slots (slots_of t.links) l x.slots h))
          (λ l h. has_shuffled (slots_of t.links) a.slots l (IsPermutation-sym a.slots (slots_of t.links) x.slots) (has_shuffled b.slots (slots_of t.links) l y.slots h));
    }

pub targets_from : (p : ℕ) (ts : List ℕ) → map (λ (l : Slot). l.target) (slots_from p ts) ≡ ts
targets_from p [] = refl
targets_from p (t ∷ ts) = ap (λ x. t ∷ x) (targets_from (p + 2) ts)

same_targets : (p : ℕ) (us vs : List ℕ) → slots_from p us ≡ slots_from p vs → us ≡ vs
same_targets p us vs e = sym (targets_from p us) ∙ ap (map (λ (l : Slot). l.target)) e ∙ targets_from p vs

pub same_values : (us vs : List ℕ) → value_bytes us ≡ value_bytes vs → us ≡ vs
same_values us vs e = sym (values_value_bytes us) ∙ ap values e ∙ values_value_bytes vs

list_mark : (a b : Option ℕ) → option_to_list a ≡ option_to_list b → a ≡ b
list_mark None None e = refl
list_mark None (Some y) e = cc
list_mark (Some x) None e = cc
list_mark (Some x) (Some y) e = cc

-- THE KINDS
pub record SameLookup (l k : Lookup) : Type 0 where
  pub kind : l.kind ≡ k.kind
  pub flag : l.flag ≡ k.flag
  pub mark : l.mark ≡ k.mark
  pub heads : map (λ (s : Subtable). head s) l.subtables ≡ map (λ (s : Subtable). head s) k.subtables

abbrev heads : Lookup → List ℕ
heads l = map (λ (s : Subtable). head s) l.subtables

pub lookup_same : (t : StreamTable) (l k : Lookup) → Spelt t (lookup_table l).table → Spelt t (lookup_table k).table → SameLookup l k
lookup_same t l k x y =
    let s = spelt_same t (lookup_table l).table (lookup_table k).table (up_from 6 0 (heads l) (omega arith)) (up_from 6 0 (heads k) (omega arith)) x y in
    let e0 = same_values (l.kind ∷ l.flag ∷ length l.subtables ∷ (zeros (length l.subtables) ++ option_to_list l.mark)) (k.kind ∷ k.flag ∷ length k.subtables ∷ (zeros (length k.subtables) ++ option_to_list k.mark)) s.bytes in
    let n : length l.subtables ≡ length k.subtables = cc in
    let e1 : zeros (length l.subtables) ++ option_to_list l.mark ≡ zeros (length k.subtables) ++ option_to_list k.mark = cc in
    record {
      kind = cc;
      flag = cc;
      mark = list_mark l.mark k.mark (append_cancel_left (zeros (length l.subtables)) (option_to_list l.mark) (option_to_list k.mark) (e1 ∙ ap (λ c. zeros c ++ option_to_list k.mark) (sym n)));
      heads = same_targets 6 (heads l) (heads k) s.slots;
    }

pub extension_same : (t : StreamTable) (e f v w : ℕ) → Spelt t (extension_table e v).table → Spelt t (extension_table f w).table → v ≡ w
extension_same t e f v w x y = ap (λ ls. get_or (map (λ (l : Slot). l.target) ls) 0 0) (spelt_same t (extension_table e v).table (extension_table f w).table (omega arith, tt) (omega arith, tt) x y).slots

abbrev set_vertices : Subtable → List ℕ
set_vertices s = map (λ (y : LigatureSet). y.vertex) s.sets

pub subtable_same : (t : StreamTable) (s r : Subtable) → Spelt t (subtable_table s).table → Spelt t (subtable_table r).table
    → (s.coverage ≡ r.coverage) × (map (λ (y : LigatureSet). y.vertex) s.sets ≡ map (λ (y : LigatureSet). y.vertex) r.sets)
subtable_same t s r x y =
    let e = (spelt_same t (subtable_table s).table (subtable_table r).table (omega arith, up_from 6 3 (set_vertices s) (omega arith)) (omega arith, up_from 6 3 (set_vertices r) (omega arith)) x y).slots in
    (ap (λ ls. get_or (map (λ (l : Slot). l.target) ls) 0 0) e, same_targets 6 (set_vertices s) (set_vertices r) (ap (drop 1) e))

abbrev ligature_vertices : LigatureSet → List ℕ
ligature_vertices y = map (λ (g : Ligature). g.vertex) y.ligatures

pub set_same : (t : StreamTable) (c d : ℕ) (a b : LigatureSet) → Spelt t (set_table c a).table → Spelt t (set_table d b).table
    → map (λ (g : Ligature). g.vertex) a.ligatures ≡ map (λ (g : Ligature). g.vertex) b.ligatures
set_same t c d a b x y =
    same_targets 2 (ligature_vertices a) (ligature_vertices b)
    (spelt_same t (set_table c a).table (set_table d b).table (up_from 2 0 (ligature_vertices a) (omega arith)) (up_from 2 0 (ligature_vertices b) (omega arith)) x y).slots

pub ligature_same : (t : StreamTable) (c d : ℕ) (a b : Ligature) → Spelt t (ligature_table c a).table → Spelt t (ligature_table d b).table → (a.glyph ≡ b.glyph) × (a.components ≡ b.components)
ligature_same t c d a b x y =
    let e = same_values (a.glyph ∷ suc (length a.components) ∷ a.components) (b.glyph ∷ suc (length b.components) ∷ b.components) (sym x.bytes ∙ y.bytes) in
    ((cc), (cc))
