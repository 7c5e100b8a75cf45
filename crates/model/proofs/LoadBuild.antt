-- A stream with no loose link, no stray and no faulty place is the tables of a model.
use Rattle.std.proofs.Common.{◌≡◌, ℕ, zero, suc, ◌+◌, ◌<◌, Bool, true, false, cond, eqb, List, [], ◌∷◌, ◌++◌, map, length, get_or, is_some, IfSome, Some, None, Option, sym, refl, ap, ◌∙◌, subst, ⊎_elim, arith}
use Rattle.std.specs.List.{ContainsAt as Has, flat_map, AllByRecursion}
use Rattle.std.specs.List.Sorted.{IsPermutation}
use Rattle.std.specs.Option.{option_to_list}
use Rattle.std.proofs.lemmas.List.{length-map}
use Rattle.std.proofs.ByRecursion.{All-map, All-weaker, has_shuffled}
use Rattle.std.proofs.lemmas.List.Sorted.{IsPermutation-refl}
use Rattle.std.proofs.lemmas.Bool.{cases_lt, eq-eqb, ne_eqb}
use Rattle.refusals.specs.declared.Refusal.{Refusal}
use Rattle.words.specs.Grammar.{StreamTable, Stream, FineTable, Uncounted}
use Rattle.data_bytes.specs.BigEndian.{Bytes}
use Rattle.data_bytes.specs.Values.{value_bytes}
use Rattle.coverage.specs.Meaning.{Meant}
use Rattle.model.specs.Forest.{Ligature, LigatureSet, Subtable, Lookup, Model}
use Rattle.model.specs.Tables.{Slot, slot, slots_from, Table, zeros, head, lookup_table, extension_table, subtable_table, coverage_table, set_table, ligature_table, set_walk, subtable_walk, lookup_walk}
use Rattle.model.specs.Rules.{nth}
use Rattle.model.specs.Sound.{Value, GoodLigature, GoodSet, GoodSubtable, GoodLookup}
use Rattle.model.specs.Loading.{slots_of, bytes_of, TableAt, Spelt, taken_by, nowhere, Loosely, Strays, Never, LookupShape, Place, at_lookup, at_subtable, at_set, Kind, is_lookup, is_subtable, is_set, is_ligature, Stands, root, extension, plain, wrapped, coverage, set, ligature, value_at, Faulty, Holds, Loaded}
use Rattle.model.proofs.Lists.{all_parts_lem, all_joined, all-nth}
use Rattle.model.proofs.LoadLists.{nth-has, nth-map, nth_mapped, nth_there}
use Rattle.model.proofs.LoadSame.{has_first, has_later, same_values}
use Rattle.model.proofs.LoadOwned.{Passes}
use Rattle.model.proofs.LoadEach.{judged_at}
use Rattle.model.proofs.LoadShapes.{heads_of, sets_of, ligatures_of, lookup_eq, subtable_eq, set_eq}
use Rattle.model.proofs.LoadWhole.{read_whole}

-- LISTS MADE ONE BY ONE
build : {X : Type 0} (r : X → ℕ) (P : X → Type 0) (us : List ℕ) → ((k u : ℕ) → nth us k ≡ Some u → (x : X) × (r x ≡ u) × P x) → (xs : List X) × (map r xs ≡ us) × AllByRecursion P xs
build r P [] f = ([], refl, tt)
build r P (u ∷ us) f =
    let a = f 0 u refl in
    let b = build r P us (λ k v e. f (suc k) v e) in
    (a.0 ∷ b.0, λ i. a.1 i ∷ b.1 i, (a.2, b.2))

build_two : {X : Type 0} (r q : X → ℕ) (P : X → Type 0) (us gs : List ℕ) → length us ≡ length gs → ((k u g : ℕ) → nth us k ≡ Some u → (x : X) × (r x ≡ u) × (q x ≡ g) × P x)
    → (xs : List X) × (map r xs ≡ us) × (map q xs ≡ gs) × AllByRecursion P xs
build_two r q P [] [] e f = ([], refl, refl, tt)
build_two r q P [] (g ∷ gs) e f = absurd (omega arith)
build_two r q P (u ∷ us) [] e f = absurd (omega arith)
build_two r q P (u ∷ us) (g ∷ gs) e f =
    let a = f 0 u g refl in
    let b = build_two r q P us gs (omega arith) (λ k v h i. f (suc k) v h i) in
    (a.0 ∷ b.0, λ i. a.1 i ∷ b.1 i, λ i. a.2 i ∷ b.2 i, (a.3, b.3))

slot_in : (p : ℕ) (us : List ℕ) (k u : ℕ) → nth us k ≡ Some u → (q : ℕ) × Has (slots_from p us) (slot q 2 u)
slot_in p [] k u e = cc
slot_in p (v ∷ us) zero u e = (p, nth-has (slots_from p (v ∷ us)) 0 (slot p 2 u) (ap (λ o. slotted o) e))
  where
    slotted : Option ℕ → Option Slot
    slotted None = None
    slotted (Some w) = Some (slot p 2 w)
slot_in p (v ∷ us) (suc k) u e = let r = slot_in (p + 2) us k u e in (r.0, has_later (slot p 2 v) (slots_from (p + 2) us) (slot r.0 2 u) r.1)

bytes_value_bytes : (vs : List ℕ) → AllByRecursion (λ v. v < 65536) vs → Bytes (value_bytes vs)
bytes_value_bytes [] h k l = absurd (omega arith)
bytes_value_bytes (v ∷ vs) h zero l = let b = h.0 in omega arith
bytes_value_bytes (v ∷ vs) h (suc zero) l = omega arith
bytes_value_bytes (v ∷ vs) h (suc (suc k)) l = bytes_value_bytes vs h.1 k (omega arith)

mark_cases : (o : Option ℕ) → AllByRecursion (λ v. v < 65536) (option_to_list o) → IfSome o Value
mark_cases None h = tt
mark_cases (Some x) h = h.0

module _ (meaning : List ℕ → Option Meant) (s : Stream) (fine : Uncounted s) (tight : Never (Loosely s)) (clear : (p : Place) (r : Refusal) → Faulty meaning s p r → ⊥) where
  -- WHAT STANDS AT A PLACE IS A TABLE THAT PASSES
  led_to : (u : ℕ) (t : StreamTable) (a : Table) (l : Slot) → TableAt s u t → Spelt t a → Has a.slots l → (w : StreamTable) × TableAt s l.target w
  led_to u t a l e h i =
      nth_there s.tables l.target
      (⊎_elim (λ m. m) (λ m. absurd (tight u (t, e, nowhere l (has_shuffled a.slots (slots_of t.links) l h.slots i) m))) (cases_lt l.target (length s.tables)))

  head_there : (u : ℕ) (t : StreamTable) (l : Lookup) (j : ℕ) (x : Subtable) → TableAt s u t → LookupShape t l → nth l.subtables j ≡ Some x → (w : StreamTable) × TableAt s (head x) w
  head_there u t l j x e h i =
      let q = slot_in 6 (heads_of l) j (head x) (nth-map (λ (y : Subtable). head y) l.subtables j x i) in
      led_to u t (lookup_table l).table (slot q.0 2 (head x)) e h.table q.1

  tabled : {p : Place} {k : Kind} {v : ℕ} → Stands s p k v → (t : StreamTable) × TableAt s v t
  tabled (root i v e) = nth_there s.tables v (all-nth (λ r. r < length s.tables) s.roots i v e fine.roots)
  tabled (extension i j v t l x a b c d e) = head_there v t l j x b c e
  tabled (plain i j v t l x a b c d e) = head_there v t l j x b c e
  tabled (wrapped i j e t v a b c) = led_to e t (extension_table 0 v).table (slot 4 4 v) b c (has_first (slot 4 4 v) [])
  tabled (coverage i j v t x a b c) = led_to v t (subtable_table x).table (slot 2 2 x.coverage) b c (has_first (slot 2 2 x.coverage) (slots_from 6 (sets_of x)))
  tabled (set i j k v t x y a b c d) =
      let q = slot_in 6 (sets_of x) k y.vertex (nth-map (λ (z : LigatureSet). z.vertex) x.sets k y d) in
      led_to v t (subtable_table x).table (slot q.0 2 y.vertex) b c (has_later (slot 2 2 x.coverage) (slots_from 6 (sets_of x)) (slot q.0 2 y.vertex) q.1)
  tabled (ligature i j k n c v t y g a b d e) =
      let q = slot_in 2 (ligatures_of y) n g.vertex (nth-map (λ (z : Ligature). z.vertex) y.ligatures n g e) in
      led_to v t (set_table 0 y).table (slot q.0 2 g.vertex) b d q.1

  passes : {p : Place} {k : Kind} {v : ℕ} (t : StreamTable) → Stands s p k v → TableAt s v t → Passes meaning k t
  passes {p} {k} {v} t st e =
      ⊎_elim (λ ok. ok) (λ bad. absurd (clear p bad.0 (record { kind = k; vertex = v; table = t; stands = st; is = e; fault = bad.1 }))) (judged_at meaning s tight k v t e)

  small : (v : ℕ) (t : StreamTable) → TableAt s v t → AllByRecursion (λ x. x < 65536) t.values
  small v t e = (all-nth FineTable s.tables v t e fine.tables).values

  -- LIGATURES
  made_ligature : {p : Place} {c v : ℕ} → Stands s p (is_ligature c) v → (g : Ligature) × (g.vertex ≡ v) × (GoodLigature g × Holds s (ligature_table c g))
  made_ligature {v = v} st =
      let t = tabled st in
      let ok = passes t.0 st t.1 in
      let g = ok.shaped.0 in
      let h = ok.shaped.1 in
      let b : AllByRecursion (λ x. x < 65536) (g.glyph ∷ suc (length g.components) ∷ g.components) =
      subst (AllByRecursion (λ x. x < 65536)) (same_values t.0.values (g.glyph ∷ suc (length g.components) ∷ g.components) h.bytes) (small v t.0 t.1) in (
        record { vertex = v; glyph = g.glyph; components = g.components },
        refl,
        (record { glyph = b.0; count = b.1.0; components = b.1.1 }, (t.0, t.1, record { bytes = h.bytes; slots = h.slots }, ok.virtuals)),
      )

  -- SETS
  made_set : (i j k c v f : ℕ) → Stands s (at_set i j k) (is_set c) v → (y : LigatureSet) × (y.vertex ≡ v) × (y.first ≡ f) × (GoodSet y × AllByRecursion (Holds s) (set_walk c y))
  made_set i j k c v f st =
      let t = tabled st in
      let ok = passes t.0 st t.1 in
      let y = ok.shaped.0 in
      let h = ok.shaped.1 in
      let vs : t.0.values ≡ length y.ligatures ∷ zeros (length y.ligatures) = same_values t.0.values (length y.ligatures ∷ zeros (length y.ligatures)) h.bytes in
      let b : length y.ligatures < 65536 = (subst (AllByRecursion (λ x. x < 65536)) vs (small v t.0 t.1)).0 in
      let n : value_at t.0 0 ≡ length y.ligatures = ap (λ zs. get_or zs 0 0) vs in
      let gs = build (λ (g : Ligature). g.vertex) (λ g. GoodLigature g × Holds s (ligature_table c g)) (ligatures_of y)
      (λ m u e. let x = nth_mapped (λ (g : Ligature). g.vertex) y.ligatures m u e in
      let r = made_ligature (ligature i j k m c v t.0 y x.0 st t.1 h x.1) in
      (r.0, r.1 ∙ x.2, r.2)) in
      let same : length gs.0 ≡ length y.ligatures = sym (length-map gs.0 (λ (g : Ligature). g.vertex)) ∙ ap length gs.1 ∙ length-map y.ligatures (λ (g : Ligature). g.vertex) in
      let z : LigatureSet = record { vertex = v; first = f; ligatures = gs.0 } in
      let w : Spelt t.0 (set_table c z).table = subst (Spelt t.0) (set_eq c y z (sym gs.1)) (record { bytes = h.bytes; slots = h.slots }) in
      let some = ok.filled in (
        z,
        refl,
        refl,
        (
          record { some = omega arith; count = omega arith; ligatures = All-weaker (λ g. GoodLigature g × Holds s (ligature_table c g)) GoodLigature (λ g a. a.0) gs.0 gs.2 },
          ((t.0, t.1, w, ok.virtuals), All-map (Holds s) (ligature_table c) gs.0 (All-weaker (λ g. GoodLigature g × Holds s (ligature_table c g)) (λ g. Holds s (ligature_table c g)) (λ g a. a.1) gs.0 gs.2)),
        ),
      )

  -- SUBTABLES
  abbrev Below : Subtable → Type 0
  Below x = GoodSubtable meaning x × AllByRecursion (Holds s) (subtable_table x ∷ coverage_table x ∷ flat_map (set_walk x.coverage) x.sets)

  record Made (o : Option ℕ) (v : ℕ) : Type 0 where
    coverage : ℕ
    covering : List ℕ
    sets : List LigatureSet
    below : Below (record { extension = o; vertex = v; coverage = coverage; covering = covering; sets = sets })

  made_subtable : (i j v : ℕ) (o : Option ℕ) → Stands s (at_subtable i j) is_subtable v → Made o v
  made_subtable i j v o st =
      let t = tabled st in
      let ok = passes t.0 st t.1 in
      let x = ok.shaped.0 in
      let h = ok.shaped.1 in
      let vs : t.0.values ≡ 1 ∷ 0 ∷ length x.sets ∷ zeros (length x.sets) = same_values t.0.values (1 ∷ 0 ∷ length x.sets ∷ zeros (length x.sets)) h.bytes in
      let n : value_at t.0 2 ≡ length x.sets = ap (λ zs. get_or zs 2 0) vs in
      let cst = coverage i j v t.0 x st t.1 h in
      let u = tabled cst in
      let okc = passes u.0 cst u.1 in
      let gs = okc.covered.0 in
      let ys = build_two (λ (y : LigatureSet). y.vertex) (λ (y : LigatureSet). y.first) (λ y. GoodSet y × AllByRecursion (Holds s) (set_walk x.coverage y)) (sets_of x) gs (length-map x.sets (λ (y : LigatureSet). y.vertex) ∙ sym okc.covered.2)
      (λ k w g e. let y = nth_mapped (λ (z : LigatureSet). z.vertex) x.sets k w e in
      let r = made_set i j k x.coverage y.0.vertex g (set i j k v t.0 x y.0 st t.1 h y.1) in
      (r.0, r.1 ∙ y.2, r.2, r.3)) in
      let same : length ys.0 ≡ length x.sets = sym (length-map ys.0 (λ (y : LigatureSet). y.vertex)) ∙ ap length ys.1 ∙ length-map x.sets (λ (y : LigatureSet). y.vertex) in
      let z : Subtable = record { extension = o; vertex = v; coverage = x.coverage; covering = bytes_of u.0; sets = ys.0 } in
      let w : Spelt t.0 (subtable_table z).table = subst (Spelt t.0) (subtable_eq x z refl (sym ys.1)) h in
      let some = ok.filled in
      record {
        coverage = x.coverage;
        covering = bytes_of u.0;
        sets = ys.0;
        below = (
          record {
            some = omega arith;
            sets = All-weaker (λ y. GoodSet y × AllByRecursion (Holds s) (set_walk x.coverage y)) GoodSet (λ y a. a.0) ys.0 ys.3;
            bytes = bytes_value_bytes u.0.values (small x.coverage u.0 u.1);
            means = okc.covered.1 ∙ ap (λ gl. Some (gl, length (bytes_of u.0))) (sym ys.2);
          },
          (
            (t.0, t.1, w, ok.virtuals),
            (
              (u.0, u.1, record { bytes = refl; slots = subst (IsPermutation []) (sym okc.shaped) (IsPermutation-refl []) }, okc.virtuals),
              all_joined (Holds s) (set_walk x.coverage) ys.0 (All-weaker (λ y. GoodSet y × AllByRecursion (Holds s) (set_walk x.coverage y)) (λ y. AllByRecursion (Holds s) (set_walk x.coverage y)) (λ y a. a.1) ys.0 ys.3),
            ),
          ),
        );
      }

  -- LOOKUPS
  abbrev Entry : Bool → Subtable → Type 0
  Entry b x = (is_some x.extension ≡ b) × GoodSubtable meaning x × AllByRecursion (Holds s) (subtable_walk x)

  made_plain : (i j v u : ℕ) (t : StreamTable) (l : Lookup) → Stands s (at_lookup i) is_lookup v → TableAt s v t → LookupShape t l → l.kind ≡ 4 → nth (heads_of l) j ≡ Some u → (x : Subtable) × (head x ≡ u) × Entry false x
  made_plain i j v u t l st e h four at =
      let x = nth_mapped (λ (y : Subtable). head y) l.subtables j u at in
      let m = made_subtable i j (head x.0) None (plain i j v t l x.0 st e h four x.1) in
      (record { extension = None; vertex = head x.0; coverage = m.coverage; covering = m.covering; sets = m.sets }, x.2, (refl, m.below.0, m.below.1))

  made_wrapped : (i j v u : ℕ) (t : StreamTable) (l : Lookup) → Stands s (at_lookup i) is_lookup v → TableAt s v t → LookupShape t l → l.kind ≡ 7 → nth (heads_of l) j ≡ Some u → (x : Subtable) × (head x ≡ u) × Entry true x
  made_wrapped i j v u t l st e h seven at =
      let x = nth_mapped (λ (y : Subtable). head y) l.subtables j u at in
      let est = extension i j v t l x.0 st e h seven x.1 in
      let w = tabled est in
      let ok = passes w.0 est w.1 in
      let m = made_subtable i j ok.shaped.0 (Some (head x.0)) (wrapped i j (head x.0) w.0 ok.shaped.0 est w.1 ok.shaped.1) in (
        record { extension = Some (head x.0); vertex = ok.shaped.0; coverage = m.coverage; covering = m.covering; sets = m.sets },
        x.2,
        (refl, m.below.0, ((w.0, w.1, ok.shaped.1, ok.virtuals), m.below.1)),
      )

  abbrev Kinded : Lookup → Type 0
  Kinded l = cond (eqb l.kind 7) (AllByRecursion (λ (x : Subtable). is_some x.extension ≡ true) l.subtables) ((l.kind ≡ 4) × AllByRecursion (λ (x : Subtable). is_some x.extension ≡ false) l.subtables)

  made_lookup : (i v : ℕ) → nth s.roots i ≡ Some v → (l : Lookup) × (l.vertex ≡ v) × (GoodLookup meaning l × AllByRecursion (Holds s) (lookup_walk l))
  made_lookup i v at = ⊎_elim four seven h.kind
    where
      st : Stands s (at_lookup i) is_lookup v
      st = root i v at

      t : StreamTable
      t = (tabled (root i v at)).0

      e : TableAt s v (tabled (root i v at)).0
      e = (tabled (root i v at)).1

      ok : Passes meaning is_lookup (tabled (root i v at)).0
      ok = passes (tabled (root i v at)).0 (root i v at) (tabled (root i v at)).1

      l : Lookup
      l = ok.shaped.0

      h : LookupShape t l
      h = ok.shaped.1

      finish : (b : Bool) (xs : List Subtable) → map (λ (x : Subtable). head x) xs ≡ heads_of l → AllByRecursion (Entry b) xs
          → Kinded (record { vertex = v; kind = l.kind; flag = l.flag; mark = l.mark; subtables = xs })
          → (k : Lookup) × (k.vertex ≡ v) × (GoodLookup meaning k × AllByRecursion (Holds s) (lookup_walk k))
      finish b xs same all kinded =
          let k : Lookup = record { vertex = v; kind = l.kind; flag = l.flag; mark = l.mark; subtables = xs } in
          let vs : t.values ≡ l.kind ∷ l.flag ∷ length l.subtables ∷ (zeros (length l.subtables) ++ option_to_list l.mark) = same_values t.values (l.kind ∷ l.flag ∷ length l.subtables ∷ (zeros (length l.subtables) ++ option_to_list l.mark)) h.table.bytes in
          let sm = subst (AllByRecursion (λ x. x < 65536)) vs (small v t e) in
          let n : value_at t 2 ≡ length l.subtables = ap (λ zs. get_or zs 2 0) vs in
          let m : length xs ≡ length l.subtables = sym (length-map xs (λ (x : Subtable). head x)) ∙ ap length same ∙ length-map l.subtables (λ (x : Subtable). head x) in
          let few = ok.few in (
            k,
            refl,
            (
              record {
                kind = kinded;
                flag = sm.1.0;
                asks = h.asks;
                mark = mark_cases l.mark (all_parts_lem (λ x. x < 65536) (zeros (length l.subtables)) (option_to_list l.mark) sm.1.1.1).1;
                count = omega arith;
                subtables = All-weaker (Entry b) (GoodSubtable meaning) (λ x a. a.1) xs all;
              },
              (
                (t, e, subst (Spelt t) (lookup_eq l k refl refl refl (sym same)) h.table, ok.virtuals),
                all_joined (Holds s) subtable_walk xs (All-weaker (Entry b) (λ x. AllByRecursion (Holds s) (subtable_walk x)) (λ x a. a.2) xs all),
              ),
            ),
          )

      four : l.kind ≡ 4 → (k : Lookup) × (k.vertex ≡ v) × (GoodLookup meaning k × AllByRecursion (Holds s) (lookup_walk k))
      four is =
          let r = build (λ (x : Subtable). head x) (Entry false) (heads_of l) (λ j u at'. made_plain i j v u t l st e h is at') in
          finish false r.0 r.1 r.2
          (subst (λ b. cond b (AllByRecursion (λ (x : Subtable). is_some x.extension ≡ true) r.0) ((l.kind ≡ 4) × AllByRecursion (λ (x : Subtable). is_some x.extension ≡ false) r.0)) (sym (ne_eqb l.kind 7 (λ z. omega arith)))
          (is, All-weaker (Entry false) (λ (x : Subtable). is_some x.extension ≡ false) (λ x a. a.0) r.0 r.2))

      seven : l.kind ≡ 7 → (k : Lookup) × (k.vertex ≡ v) × (GoodLookup meaning k × AllByRecursion (Holds s) (lookup_walk k))
      seven is =
          let r = build (λ (x : Subtable). head x) (Entry true) (heads_of l) (λ j u at'. made_wrapped i j v u t l st e h is at') in
          finish true r.0 r.1 r.2
          (subst (λ b. cond b (AllByRecursion (λ (x : Subtable). is_some x.extension ≡ true) r.0) ((l.kind ≡ 4) × AllByRecursion (λ (x : Subtable). is_some x.extension ≡ false) r.0)) (sym (eq-eqb l.kind 7 is))
          (All-weaker (Entry true) (λ (x : Subtable). is_some x.extension ≡ true) (λ x a. a.0) r.0 r.2))

  pub made_model : Never (Strays s) → (m : Model) × Loaded meaning s m
  made_model strays =
      let r = build (λ (l : Lookup). l.vertex) (λ l. GoodLookup meaning l × AllByRecursion (Holds s) (lookup_walk l)) s.roots (λ i v e. made_lookup i v e) in
      let m : Model = record { lookups = r.0; taken = taken_by s } in (
        m,
        read_whole s m
            (all_joined (Holds s) lookup_walk r.0 (All-weaker (λ l. GoodLookup meaning l × AllByRecursion (Holds s) (lookup_walk l)) (λ l. AllByRecursion (Holds s) (lookup_walk l)) (λ l a. a.1) r.0 r.2))
            (sym r.1) strays meaning
            (All-weaker (λ l. GoodLookup meaning l × AllByRecursion (Holds s) (lookup_walk l)) (GoodLookup meaning) (λ l a. a.0) r.0 r.2) refl,
      )
