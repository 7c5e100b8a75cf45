-- Whether a table has the shape of its kind can be settled: its links by position, and what its values say, leave one candidate.
use Rattle.std.proofs.Common.{◌≡◌, ℕ, suc, ◌≤◌, Bool, true, false, cond, leb, ◌⊎◌, List, [], ◌∷◌, ◌++◌, map, length, get_or, drop, is_some, Some, None, count_by, Option, sym, refl, ap, ◌∙◌, subst, inl, inr, ⊎_elim, arith}
use Rattle.std.specs.List.Sorted.{IsPermutation}
use Rattle.std.specs.Option.{option_to_list}
use Rattle.std.proofs.lemmas.List.{length-map, length-replicate, get_or_at, map-id}
use Rattle.std.proofs.lemmas.List.Sorted.{IsPermutation-refl, IsPermutation-sym, IsPermutation-cons, IsPermutation-swap, IsPermutation-trans, sum_by-IsPermutation}
use Rattle.std.proofs.ByRecursion.{has_shuffled}
use Rattle.std.proofs.lemmas.Bool.{cases_eq, cond_both, leb-true, leb-false}
use Rattle.std.proofs.lemmas.Simd.{map-map}
use Rattle.std.proofs.lemmas.Bool.Decides.{nat_tests}
use Rattle.words.specs.Grammar.{StreamTable}
use Rattle.words.proofs.Saying.{cons_nil}
use Rattle.data_bytes.specs.Values.{value_bytes}
use Rattle.model.specs.Forest.{Ligature, LigatureSet, Subtable, Lookup}
use Rattle.model.specs.Tables.{Slot, slot, slots_from, Table, zeros, head, lookup_table, extension_table, subtable_table, set_table, ligature_table}
use Rattle.model.specs.Reading.{has_mark}
use Rattle.model.specs.Loading.{slots_of, bytes_of, Spelt, LookupShape, ExtensionShape, SubtableShape, SetShape, LigatureShape, CoverageShape, Kind, is_lookup, is_extension, is_subtable, is_coverage, is_set, is_ligature, Shaped, value_at}
use Rattle.model.proofs.LoadLists.{count_cons}
use Rattle.model.proofs.LoadSame.{Up, up_from, rising_same, targets_from, same_values}
use Rattle.model.proofs.LoadBack.{at_position}
use Rattle.model.proofs.LoadSought.{Settled, settled_both, settled_as}

-- LINKS BY POSITION
insert : Slot → List Slot → List Slot
insert l [] = l ∷ []
insert l (x ∷ xs) = cond (leb l.position x.position) (l ∷ x ∷ xs) (x ∷ insert l xs)

sort : List Slot → List Slot
sort [] = []
sort (l ∷ ls) = insert l (sort ls)

swapped : (l x : Slot) (xs : List Slot) → IsPermutation (l ∷ x ∷ xs) (x ∷ l ∷ xs)
swapped l x xs = IsPermutation-swap (l ∷ x ∷ xs) (x ∷ l ∷ xs) 0 1 (omega arith) (omega arith) refl

insert_shuffled : (l : Slot) (xs : List Slot) → IsPermutation (l ∷ xs) (insert l xs)
unfolding insert
insert_shuffled l [] = IsPermutation-refl (l ∷ [])
insert_shuffled l (x ∷ xs) =
    cond_both (leb l.position x.position) (l ∷ x ∷ xs) (x ∷ insert l xs) (IsPermutation (l ∷ x ∷ xs))
    (λ e. IsPermutation-refl (l ∷ x ∷ xs))
    (λ e. IsPermutation-trans (l ∷ x ∷ xs) (x ∷ l ∷ xs) (x ∷ insert l xs) (swapped l x xs) (IsPermutation-cons x (l ∷ xs) (insert l xs) (insert_shuffled l xs)))

sort_shuffled : (ls : List Slot) → IsPermutation ls (sort ls)
unfolding sort
sort_shuffled [] = IsPermutation-refl []
sort_shuffled (l ∷ ls) = IsPermutation-trans (l ∷ ls) (l ∷ sort ls) (insert l (sort ls)) (IsPermutation-cons l ls (sort ls) (sort_shuffled ls)) (insert_shuffled l (sort ls))

-- positions do not fall
abbrev pub Rise : ℕ → List Slot → Type 0
Rise a [] = Unit {0}
Rise a (x ∷ xs) = (a ≤ x.position) × Rise x.position xs

insert_rise : (a : ℕ) (l : Slot) (xs : List Slot) → a ≤ l.position → Rise a xs → Rise a (insert l xs)
unfolding insert
insert_rise a l [] h r = (h, tt)
insert_rise a l (x ∷ xs) h r =
    cond_both (leb l.position x.position) (l ∷ x ∷ xs) (x ∷ insert l xs) (Rise a)
    (λ e. (h, (leb-true l.position x.position e, r.1)))
    (λ e. (r.0, insert_rise x.position l xs (let k = leb-false l.position x.position e in omega arith) r.1))

sort_rise : (ls : List Slot) → Rise 0 (sort ls)
unfolding sort
sort_rise [] = tt
sort_rise (l ∷ ls) = insert_rise 0 l (sort ls) (omega arith) (sort_rise ls)

pub strict : (a : ℕ) (xs : List Slot) → Rise a xs → ((p : ℕ) → count_by (at_position p) xs ≤ 1) → Up a xs
strict a [] r h = tt
strict a (x ∷ []) r h = (r.0, tt)
strict a (x ∷ y ∷ ys) r h =
    let c = λ (p : ℕ). count_cons (at_position p) x (y ∷ ys) in
    let d = count_cons (at_position x.position) y ys in
    let apart : suc x.position ≤ y.position = grind (arith, nat_tests, r.1.0, c x.position, d, h x.position) in
    (r.0, strict (suc x.position) (y ∷ ys) (apart, r.1.1) (λ p. omega (arith, c p, h p)))

-- EQUAL LISTS
pub settled_list : {X : Type 0} → ((x y : X) → Settled (x ≡ y)) → (xs ys : List X) → Settled (xs ≡ ys)
settled_list f [] [] = inl refl
settled_list f [] (y ∷ ys) = inr (λ e. cons_nil (sym e))
settled_list f (x ∷ xs) [] = inr (λ e. cons_nil e)
settled_list f (x ∷ xs) (y ∷ ys) =
    ⊎_elim
    (λ e. ⊎_elim (λ g. inl (ap (λ z. z ∷ xs) e ∙ ap (λ z. y ∷ z) g)) (λ o. inr (λ h. let t : xs ≡ ys = cc in o t)) (settled_list f xs ys))
    (λ o. inr (λ h. let t : x ≡ y = cc in o t))
    (f x y)

settled_slot : (x y : Slot) → Settled (x ≡ y)
settled_slot x y =
    ⊎_elim
    (λ a. ⊎_elim
    (λ b. ⊎_elim (λ c. inl (λ i. record { position = a i; width = b i; target = c i })) (λ o. inr (λ e. o (ap (λ (l : Slot). l.target) e))) (cases_eq x.target y.target))
    (λ o. inr (λ e. o (ap (λ (l : Slot). l.width) e)))
    (cases_eq x.width y.width))
    (λ o. inr (λ e. o (ap (λ (l : Slot). l.position) e)))
    (cases_eq x.position y.position)

-- TABLES BY WHAT THEY SAY
abbrev table_with : List ℕ → List Slot → List ℕ → Table
table_with bs ls vs = record { bytes = bs; slots = ls; virtuals = vs }

abbrev pub heads_of : Lookup → List ℕ
heads_of l = map (λ (s : Subtable). head s) l.subtables

abbrev pub sets_of : Subtable → List ℕ
sets_of x = map (λ (y : LigatureSet). y.vertex) x.sets

abbrev pub ligatures_of : LigatureSet → List ℕ
ligatures_of y = map (λ (g : Ligature). g.vertex) y.ligatures

abbrev lookup_by : ℕ → ℕ → Option ℕ → List ℕ → Table
lookup_by kind flag mark hs = table_with (value_bytes (kind ∷ flag ∷ length hs ∷ (zeros (length hs) ++ option_to_list mark))) (slots_from 6 hs) []

lookup_by_lem : (l : Lookup) → (lookup_table l).table ≡ lookup_by l.kind l.flag l.mark (heads_of l)
lookup_by_lem l = ap (λ n. table_with (value_bytes (l.kind ∷ l.flag ∷ n ∷ (zeros n ++ option_to_list l.mark))) (slots_from 6 (heads_of l)) []) (sym (length-map l.subtables (λ (s : Subtable). head s)))

pub lookup_eq : (l k : Lookup) → l.kind ≡ k.kind → l.flag ≡ k.flag → l.mark ≡ k.mark → heads_of l ≡ heads_of k → (lookup_table l).table ≡ (lookup_table k).table
lookup_eq l k a b c d = lookup_by_lem l ∙ (λ i. lookup_by (a i) (b i) (c i) (d i)) ∙ sym (lookup_by_lem k)

abbrev subtable_by : ℕ → List ℕ → Table
subtable_by c us = table_with (value_bytes (1 ∷ 0 ∷ length us ∷ zeros (length us))) (slot 2 2 c ∷ slots_from 6 us) []

subtable_by_lem : (x : Subtable) → (subtable_table x).table ≡ subtable_by x.coverage (sets_of x)
subtable_by_lem x = ap (λ n. table_with (value_bytes (1 ∷ 0 ∷ n ∷ zeros n)) (slot 2 2 x.coverage ∷ slots_from 6 (sets_of x)) []) (sym (length-map x.sets (λ (y : LigatureSet). y.vertex)))

pub subtable_eq : (x y : Subtable) → x.coverage ≡ y.coverage → sets_of x ≡ sets_of y → (subtable_table x).table ≡ (subtable_table y).table
subtable_eq x y a b = subtable_by_lem x ∙ (λ i. subtable_by (a i) (b i)) ∙ sym (subtable_by_lem y)

abbrev set_by : ℕ → List ℕ → Table
set_by c us = table_with (value_bytes (length us ∷ zeros (length us))) (slots_from 2 us) (c ∷ [])

set_by_lem : (c : ℕ) (y : LigatureSet) → (set_table c y).table ≡ set_by c (ligatures_of y)
set_by_lem c y = ap (λ n. table_with (value_bytes (n ∷ zeros n)) (slots_from 2 (ligatures_of y)) (c ∷ [])) (sym (length-map y.ligatures (λ (g : Ligature). g.vertex)))

pub set_eq : (c : ℕ) (y z : LigatureSet) → ligatures_of y ≡ ligatures_of z → (set_table c y).table ≡ (set_table c z).table
set_eq c y z e = set_by_lem c y ∙ ap (set_by c) e ∙ sym (set_by_lem c z)

-- tables known by their vertices alone
abbrev bare_subtable : ℕ → Subtable
bare_subtable v = record { extension = None; vertex = v; coverage = 0; covering = []; sets = [] }

abbrev bare_set : ℕ → LigatureSet
bare_set v = record { vertex = v; first = 0; ligatures = [] }

abbrev bare_ligature : ℕ → Ligature
bare_ligature v = record { vertex = v; glyph = 0; components = [] }

map_back : {X : Type 0} (r : X → ℕ) (f : ℕ → X) → ((v : ℕ) → r (f v) ≡ v) → (vs : List ℕ) → map r (map f vs) ≡ vs
map_back r f h vs = map-map r f vs ∙ (λ i. map (λ v. h v i) vs) ∙ map-id vs

abbrev mark_read : Bool → ℕ → Option ℕ
mark_read true v = Some v
mark_read false v = None

mark_asks : (b : Bool) (v : ℕ) → is_some (mark_read b v) ≡ b
mark_asks true v = refl
mark_asks false v = refl

mark_read_lem : (b : Bool) (o : Option ℕ) (v k : ℕ) → is_some o ≡ b → v ≡ get_or (zeros k ++ option_to_list o) k 0 → o ≡ mark_read b v
mark_read_lem true None v k e f = cc
mark_read_lem false None v k e f = refl
mark_read_lem true (Some x) v k e f = ap Some (sym (f ∙ get_or_at (zeros k) x [] 0 k (length-replicate k 0)))
mark_read_lem false (Some x) v k e f = cc

-- one candidate is enough
settled_by : {A : Type 0} (P : A → Type 0) (a : A) → Settled (P a) → ((b : A) → P b → P a) → Settled ((b : A) × P b)
settled_by P a s f = ⊎_elim (λ p. inl (a, p)) (λ o. inr (λ x. o (f x.0 x.1))) s

module _ (t : StreamTable) (apart : (p : ℕ) → count_by (at_position p) (slots_of t.links) ≤ 1) where
  abbrev ordered : List Slot
  ordered = sort (slots_of t.links)

  ordered_up : Up 0 ordered
  ordered_up = strict 0 ordered (sort_rise (slots_of t.links)) (λ p. let e : count_by (at_position p) ordered ≡ count_by (at_position p) (slots_of t.links) = sum_by-IsPermutation (λ (l : Slot). cond (at_position p l) 1 0) (slots_of t.links) ordered (sort_shuffled (slots_of t.links)) in let z = apart p in omega arith)

  slots_are : (a : Table) → Up 0 a.slots → Spelt t a → a.slots ≡ ordered
  slots_are a u h =
      let to = IsPermutation-trans a.slots (slots_of t.links) ordered h.slots (sort_shuffled (slots_of t.links)) in
      rising_same 0 0 a.slots ordered u ordered_up (λ l i. has_shuffled a.slots ordered l to i) (λ l i. has_shuffled ordered a.slots l (IsPermutation-sym a.slots ordered to) i)

  spelt_settled : (a : Table) → Up 0 a.slots → Settled (Spelt t a)
  spelt_settled a u =
      settled_as ((bytes_of t ≡ a.bytes) × (a.slots ≡ ordered)) (Spelt t a)
      (λ e. record { bytes = e.0; slots = subst (λ ls. IsPermutation ls (slots_of t.links)) (sym e.1) (IsPermutation-sym (slots_of t.links) ordered (sort_shuffled (slots_of t.links))) })
      (λ h. (h.bytes, slots_are a u h))
      (settled_both (bytes_of t ≡ a.bytes) (a.slots ≡ ordered) (settled_list cases_eq (bytes_of t) a.bytes) (settled_list settled_slot a.slots ordered))

  abbrev aims : List ℕ
  aims = map (λ (l : Slot). l.target) ordered

  aims_are : (p : ℕ) (us : List ℕ) → slots_from p us ≡ ordered → us ≡ aims
  aims_are p us e = sym (targets_from p us) ∙ ap (map (λ (l : Slot). l.target)) e

  -- LOOKUPS
  abbrev lookup_read : Lookup
  lookup_read = record { vertex = 0; kind = value_at t 0; flag = value_at t 1; mark = mark_read (has_mark (value_at t 1)) (value_at t (suc (suc (suc (length aims))))); subtables = map bare_subtable aims }

  lookup_only : (l : Lookup) → LookupShape t l → LookupShape t lookup_read
  lookup_only l h =
      let vs : t.values ≡ l.kind ∷ l.flag ∷ length l.subtables ∷ (zeros (length l.subtables) ++ option_to_list l.mark) = same_values t.values (l.kind ∷ l.flag ∷ length l.subtables ∷ (zeros (length l.subtables) ++ option_to_list l.mark)) h.table.bytes in
      let kind : l.kind ≡ value_at t 0 = ap (λ zs. get_or zs 0 0) (sym vs) in
      let flag : l.flag ≡ value_at t 1 = ap (λ zs. get_or zs 1 0) (sym vs) in
      let hs : heads_of l ≡ aims = aims_are 6 (heads_of l) (slots_are (lookup_table l).table (up_from 6 0 (heads_of l) (omega arith)) h.table) in
      let n : length l.subtables ≡ length aims = sym (length-map l.subtables (λ (s : Subtable). head s)) ∙ ap length hs in
      let v : value_at t (suc (suc (suc (length aims)))) ≡ get_or (zeros (length l.subtables) ++ option_to_list l.mark) (length l.subtables) 0 =
      ap (λ zs. get_or zs (suc (suc (suc (length aims)))) 0) vs ∙ ap (λ k. get_or (zeros (length l.subtables) ++ option_to_list l.mark) k 0) (sym n) in
      let mark : l.mark ≡ lookup_read.mark = mark_read_lem (has_mark (value_at t 1)) l.mark (value_at t (suc (suc (suc (length aims))))) (length l.subtables) (h.asks ∙ ap has_mark flag) v in
      record {
        kind = ⊎_elim (λ e. inl (sym kind ∙ e)) (λ e. inr (sym kind ∙ e)) h.kind;
        asks = mark_asks (has_mark (value_at t 1)) (value_at t (suc (suc (suc (length aims)))));
        table = subst (Spelt t) (lookup_eq l lookup_read kind flag mark (hs ∙ sym (map_back (λ (s : Subtable). head s) bare_subtable (λ v. refl) aims))) h.table;
      }

  lookup_settled : Settled ((l : Lookup) × LookupShape t l)
  lookup_settled = settled_by (LookupShape t) lookup_read at lookup_only
    where
      either : Settled ((value_at t 0 ≡ 4) ⊎ (value_at t 0 ≡ 7))
      either = ⊎_elim (λ e. inl (inl e)) (λ o. ⊎_elim (λ e. inl (inr e)) (λ p. inr (λ x. ⊎_elim o p x)) (cases_eq (value_at t 0) 7)) (cases_eq (value_at t 0) 4)

      at : Settled (LookupShape t lookup_read)
      at =
          settled_as (((value_at t 0 ≡ 4) ⊎ (value_at t 0 ≡ 7)) × Spelt t (lookup_table lookup_read).table) (LookupShape t lookup_read)
          (λ x. record { kind = x.0; asks = mark_asks (has_mark (value_at t 1)) (value_at t (suc (suc (suc (length aims))))); table = x.1 })
          (λ x. (x.kind, x.table))
          (settled_both ((value_at t 0 ≡ 4) ⊎ (value_at t 0 ≡ 7)) (Spelt t (lookup_table lookup_read).table) either (spelt_settled (lookup_table lookup_read).table (up_from 6 0 (heads_of lookup_read) (omega arith))))

  -- EXTENSION TABLES
  extension_only : (v : ℕ) → ExtensionShape t v → ExtensionShape t (get_or aims 0 0)
  extension_only v h = subst (ExtensionShape t) (ap (λ ls. get_or (map (λ (l : Slot). l.target) ls) 0 0) (slots_are (extension_table 0 v).table (omega arith, tt) h)) h

  extension_settled : Settled ((v : ℕ) × ExtensionShape t v)
  extension_settled = settled_by (ExtensionShape t) (get_or aims 0 0) (spelt_settled (extension_table 0 (get_or aims 0 0)).table (omega arith, tt)) extension_only

  -- SUBTABLES
  abbrev subtable_read : Subtable
  subtable_read = record { extension = None; vertex = 0; coverage = get_or aims 0 0; covering = []; sets = map bare_set (drop 1 aims) }

  subtable_only : (x : Subtable) → SubtableShape t x → SubtableShape t subtable_read
  subtable_only x h =
      let e : x.coverage ∷ map (λ (l : Slot). l.target) (slots_from 6 (sets_of x)) ≡ aims = ap (map (λ (l : Slot). l.target)) (slots_are (subtable_table x).table (omega arith, up_from 6 3 (sets_of x) (omega arith)) h) in
      let us : sets_of x ≡ drop 1 aims = sym (targets_from 6 (sets_of x)) ∙ ap (drop 1) e in
      subst (Spelt t) (subtable_eq x subtable_read (ap (λ vs. get_or vs 0 0) e) (us ∙ sym (map_back (λ (y : LigatureSet). y.vertex) bare_set (λ v. refl) (drop 1 aims)))) h

  subtable_settled : Settled ((x : Subtable) × SubtableShape t x)
  subtable_settled = settled_by (SubtableShape t) subtable_read (spelt_settled (subtable_table subtable_read).table (omega arith, up_from 6 3 (sets_of subtable_read) (omega arith))) subtable_only

  -- SETS
  abbrev set_read : LigatureSet
  set_read = record { vertex = 0; first = 0; ligatures = map bare_ligature aims }

  set_only : (y : LigatureSet) → SetShape t y → SetShape t set_read
  set_only y h =
      let us = aims_are 2 (ligatures_of y) (slots_are (set_table 0 y).table (up_from 2 0 (ligatures_of y) (omega arith)) h) in
      subst (Spelt t) (set_eq 0 y set_read (us ∙ sym (map_back (λ (g : Ligature). g.vertex) bare_ligature (λ v. refl) aims))) h

  set_settled : Settled ((y : LigatureSet) × SetShape t y)
  set_settled = settled_by (SetShape t) set_read (spelt_settled (set_table 0 set_read).table (up_from 2 0 (ligatures_of set_read) (omega arith))) set_only

  -- LIGATURES
  abbrev ligature_read : Ligature
  ligature_read = record { vertex = 0; glyph = value_at t 0; components = drop 2 t.values }

  ligature_only : (g : Ligature) → LigatureShape t g → LigatureShape t ligature_read
  ligature_only g h =
      let vs : t.values ≡ g.glyph ∷ suc (length g.components) ∷ g.components = same_values t.values (g.glyph ∷ suc (length g.components) ∷ g.components) h.bytes in
      let a : g.glyph ≡ value_at t 0 = ap (λ zs. get_or zs 0 0) (sym vs) in
      let b : g.components ≡ drop 2 t.values = ap (λ zs. drop 2 zs) (sym vs) in
      subst (λ (k : Ligature). LigatureShape t k) (λ i. record { vertex = 0; glyph = a i; components = b i }) (record { bytes = h.bytes; slots = h.slots })

  ligature_settled : Settled ((g : Ligature) × LigatureShape t g)
  ligature_settled = settled_by (LigatureShape t) ligature_read (spelt_settled (ligature_table 0 ligature_read).table tt) ligature_only

  coverage_settled : Settled (CoverageShape t)
  coverage_settled = settled_list settled_slot (slots_of t.links) []

  pub shaped_settled : (k : Kind) → Settled (Shaped k t)
  shaped_settled is_lookup = lookup_settled
  shaped_settled is_extension = extension_settled
  shaped_settled is_subtable = subtable_settled
  shaped_settled (is_coverage n) = coverage_settled
  shaped_settled (is_set c) = set_settled
  shaped_settled (is_ligature c) = ligature_settled
