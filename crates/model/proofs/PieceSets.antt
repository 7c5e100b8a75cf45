-- Where the vertex of a divided set goes: each set of a piece has the vertex of its set in that set's home, else a new one.
use Rattle.std.proofs.Common.{◌≡◌, ℕ, zero, suc, ◌+◌, ◌<◌, ◌≤◌, Bool, true, false, ◌||◌, eqb, ◌⊎◌, List, [], ◌∷◌, ◌++◌, length, Some, sym, refl, ap, ◌∙◌, subst, inl, inr, ⊎_elim, arith}
use Rattle.std.specs.List.{flat_map, AllByRecursion}
use Rattle.std.proofs.lemmas.Bool.{cases_Bool, cases_lt, cond_both, both_ways, eq-eqb, eqb-true, or_right, or_cases}
use Rattle.std.proofs.lemmas.Option.{same_Some}
use Rattle.model.specs.Forest.{Ligature, LigatureSet, Subtable}
use Rattle.model.specs.Rules.{nth}
use Rattle.model.specs.Cutting.{Entry, entries_from, sets_from, entries, nth_part}
use Rattle.model.specs.Splitting.{Group, alone, with_first, join_group, groups, has, any_has, sets_of, divided}
use Rattle.model.specs.CuttingLaws.{FilledSets, Stands}
use Rattle.model.specs.PieceLaws.{LastWith, Home, Settled, Found, OnePlace, DividedSetsVertexGoesToOnePlace}
use Rattle.model.proofs.PartsGroups.{entries_stand}
use Rattle.model.proofs.NumberEntries.{itself, parts_divide, has-append, any_joined}
use Rattle.model.proofs.LoadLists.{nth_below, nth_there}
use Rattle.model.proofs.Lists.{all-nth}
use Rattle.model.proofs.KeepParts.{all_whole}
use Rattle.model.proofs.KeepSizes.{join_all, length-divided, length_sets_of}
use Rattle.model.proofs.PieceParts.{Piece, piece_of, none_from}

-- THE SET OF A GROUP: the part has some of it, and it stands in the subtable
record Known (s : Subtable) (p : List Entry) (t : Group) : Type 0 where
  some : has t.set p ≡ true
  whole : LigatureSet
  there : nth s.sets t.set ≡ Some whole
  owner : t.owner ≡ whole.vertex
  first : t.first ≡ whole.first

groups_known : (s : Subtable) (p : List Entry) → AllByRecursion (Stands s) p → AllByRecursion (Known s p) (groups p)
groups_known s [] h = tt
groups_known s (e ∷ es) h =
    join_all (Known s es) (Known s (e ∷ es)) e (groups es)
    (record { some = ap (λ b. b || has e.set es) (eq-eqb e.set e.set refl); whole = h.0.home; there = h.0.there; owner = h.0.owner; first = h.0.first })
    (λ t q k. record { some = or_right (eqb e.set t.set) (has t.set es) k.some; whole = k.whole; there = k.there; owner = k.owner; first = k.first })
    (λ t k. record { some = or_right (eqb e.set t.set) (has t.set es) k.some; whole = k.whole; there = k.there; owner = k.owner; first = k.first })
    (groups_known s es h.1)

-- A SET OF A PIECE and its group
record SetAt (own : ℕ → Bool) (at : ℕ) (us : List Group) (j : ℕ) (t : LigatureSet) : Type 0 where
  group : Group
  of : nth us j ≡ Some group
  first : t.first ≡ group.first
  ligatures : t.ligatures ≡ group.ligatures
  mine : own group.set ≡ true → t.vertex ≡ group.owner
  new : own group.set ≡ false → at ≤ t.vertex

abbrev own_set : Group → LigatureSet
own_set u = record { vertex = u.owner; first = u.first; ligatures = u.ligatures }

abbrev new_set : ℕ → Group → LigatureSet
new_set v u = record { vertex = v; first = u.first; ligatures = u.ligatures }

set_on : (own : ℕ → Bool) (at from : ℕ) (u : Group) (us : List Group) (j : ℕ) (t : LigatureSet) → at ≤ from → SetAt own from us j t → SetAt own at (u ∷ us) (suc j) t
set_on own at from u us j t l a =
    record { group = a.group; of = a.of; first = a.first; ligatures = a.ligatures; mine = a.mine; new = λ f. let q = a.new f in omega arith }

set_at : (own : ℕ → Bool) (at : ℕ) (us : List Group) (j : ℕ) (t : LigatureSet) → nth (sets_of own at us) j ≡ Some t → SetAt own at us j t
set_at own at [] j t e = cc
set_at own at (u ∷ us) zero t e =
    cond_both (own u.set) (own_set u ∷ sets_of own at us) (new_set at u ∷ sets_of own (suc at) us)
    (λ (xs : List LigatureSet). nth xs 0 ≡ Some t → SetAt own at (u ∷ us) 0 t)
    (λ y f. subst (SetAt own at (u ∷ us) 0) (same_Some (own_set u) t f) (record { group = u; of = refl; first = refl; ligatures = refl; mine = λ z. refl; new = λ n. absurd (both_ways (own u.set) n y) }))
    (λ n f. subst (SetAt own at (u ∷ us) 0) (same_Some (new_set at u) t f) (record { group = u; of = refl; first = refl; ligatures = refl; mine = λ y. absurd (both_ways (own u.set) n y); new = λ z. omega arith }))
    e
set_at own at (u ∷ us) (suc j) t e =
    cond_both (own u.set) (own_set u ∷ sets_of own at us) (new_set at u ∷ sets_of own (suc at) us)
    (λ (xs : List LigatureSet). nth xs (suc j) ≡ Some t → SetAt own at (u ∷ us) (suc j) t)
    (λ y f. set_on own at at u us j t (omega arith) (set_at own at us j t f))
    (λ n f. set_on own at (suc at) u us j t (omega arith) (set_at own (suc at) us j t f))
    e

settled_of : (fresh : ℕ) (s : Subtable) (ps : List (List Entry)) (k : ℕ) (p : List Entry) (d : Subtable) → AllByRecursion (Stands s) p → Piece fresh ps k p d
    → (j : ℕ) (t : LigatureSet) → nth d.sets j ≡ Some t → Settled fresh s ps k p j t
settled_of fresh s ps k p d h b j t e =
    let a = set_at b.own b.at (groups p) j t (ap (λ (us : List LigatureSet). nth us j) (sym b.sets) ∙ e) in
    let g = all-nth (Known s p) (groups p) j a.group a.of (groups_known s p h) in
    record {
      group = a.group;
      whole = g.whole;
      of = a.of;
      from = g.there;
      first = a.first ∙ g.first;
      ligatures = a.ligatures;
      own = λ x. a.mine (b.comes a.group.set x) ∙ g.owner;
      new = λ n.
          ⊎_elim
          (λ y. absurd (n (b.home a.group.set y g.some)))
          (λ f.
          let l = b.free a.group.set f in
          let m = a.new f in
          omega arith)
          (cases_Bool (b.own a.group.set));
      only = λ l q.
          ⊎_elim
          (λ y. b.home a.group.set y g.some)
          (λ f.
          let o = b.free a.group.set f in
          let m = a.new f in
          absurd (omega arith))
          (cases_Bool (b.own a.group.set));
    }

-- ONE HOME
last_one : (ps : List (List Entry)) (i k m : ℕ) → LastWith ps i k → LastWith ps i m → k ≡ m
last_one ps i k m a b =
    ⊎_elim
    (λ l. absurd (both_ways (has i (nth_part ps m)) (a.later m l) b.here))
    (λ l.
    ⊎_elim
    (λ n. absurd (both_ways (has i (nth_part ps k)) (b.later k n) a.here))
    (λ n. let e : k ≡ m = omega arith in e)
    (cases_lt m k))
    (cases_lt k m)

home_one : (ps : List (List Entry)) (i k m : ℕ) → Home ps i k → Home ps i m → k ≡ m
home_one ps i k m a b =
    ⊎_elim
    (λ x. ⊎_elim (λ y. x.1 ∙ sym y.1) (λ y. absurd (both_ways (has i (nth_part ps 0)) y.0 x.0)) b)
    (λ x. ⊎_elim (λ y. absurd (both_ways (has i (nth_part ps 0)) x.0 y.0)) (λ y. last_one ps i k m x.1 y.1) b)
    a

-- THERE IS A HOME
record Housed (ps : List (List Entry)) (i : ℕ) : Type 0 where
  piece : ℕ
  among : piece < length ps
  here : has i (nth_part ps piece) ≡ true
  home : Home ps i piece

record Last (ps : List (List Entry)) (i : ℕ) : Type 0 where
  piece : ℕ
  among : piece < length ps
  last : LastWith ps i piece

last_of : (i : ℕ) (ps : List (List Entry)) → any_has i ps ≡ true → Last ps i
last_of i [] e = cc
last_of i (p ∷ ps) e =
    ⊎_elim
    (λ y.
    let l = last_of i ps y in
    let a = l.among in
    record { piece = suc l.piece; among = omega arith; last = record { here = l.last.here; later = on l.piece l.last } })
    (λ n.
    record {
      piece = 0;
      among = omega arith;
      last = record { here = ⊎_elim (λ h. h) (λ h. absurd (both_ways (any_has i ps) n h)) (or_cases (has i p) (any_has i ps) e); later = none n };
    })
    (cases_Bool (any_has i ps))
  where
    on : (k : ℕ) → LastWith ps i k → (m : ℕ) → suc k < m → has i (nth_part (p ∷ ps) m) ≡ false
    on k l zero q = absurd (omega arith)
    on k l (suc m) q = l.later m (omega arith)

    none : any_has i ps ≡ false → (m : ℕ) → 0 < m → has i (nth_part (p ∷ ps) m) ≡ false
    none n zero q = absurd (omega arith)
    none n (suc m) q = none_from i ps 0 m n (omega arith)

housed : (i : ℕ) (p : List Entry) (ps : List (List Entry)) → any_has i (p ∷ ps) ≡ true → Housed (p ∷ ps) i
housed i p ps e =
    ⊎_elim
    (λ y. record { piece = 0; among = omega arith; here = y; home = inl (y, refl) })
    (λ n. let l = last_of i (p ∷ ps) e in record { piece = l.piece; among = l.among; here = l.last.here; home = inr (n, l.last) })
    (cases_Bool (has i p))

has-set : (i j : ℕ) (t : LigatureSet) (gs : List Ligature) (rest : List Entry) → 0 < length gs → has i (entries_from i j t gs ++ rest) ≡ true
has-set i j t [] rest l = absurd (omega arith)
has-set i j t (g ∷ gs) rest l = ap (λ b. b || has i (entries_from i (suc j) t gs ++ rest)) (eq-eqb i i refl)

has_sets : (i n m : ℕ) (ts : List LigatureSet) (t : LigatureSet) → m ≡ i + n → nth ts n ≡ Some t → FilledSets ts → has m (sets_from i ts) ≡ true
has_sets i n m [] t q e f = cc
has_sets i zero m (u ∷ ts) t q e f =
    let r : i ≡ m = omega arith in
    subst (λ x. has x (sets_from i (u ∷ ts)) ≡ true) r (has-set i 0 u u.ligatures (sets_from (suc i) ts) f.0)
has_sets i (suc n) m (u ∷ ts) t q e f =
    let mine = entries_from i 0 u u.ligatures in
    has-append m mine (sets_from (suc i) ts) ∙ or_right (has m mine) (has m (sets_from (suc i) ts)) (has_sets (suc i) n m ts t (omega arith) e f.1)

-- the group of a set in a part that has some of it
abbrev InGroups : ℕ → List Group → Type 0
InGroups i [] = ⊥
InGroups i (u ∷ us) = (u.set ≡ i) ⊎ InGroups i us

in_join : (i : ℕ) (e : Entry) (us : List Group) → (e.set ≡ i) ⊎ InGroups i us → InGroups i (join_group e us)
in_join i e [] h = ⊎_elim (λ x. inl x) (λ x. absurd x) h
in_join i e (u ∷ us) h =
    cond_both (eqb e.set u.set) (with_first e.ligature u ∷ us) (alone e ∷ u ∷ us) (InGroups i)
    (λ q. ⊎_elim (λ x. inl (sym (eqb-true e.set u.set q) ∙ x)) (λ x. x) h)
    (λ q. h)

in_groups : (i : ℕ) (p : List Entry) → has i p ≡ true → InGroups i (groups p)
in_groups i [] h = cc
in_groups i (e ∷ es) h = in_join i e (groups es) (⊎_elim (λ x. inl (eqb-true e.set i x)) (λ x. inr (in_groups i es x)) (or_cases (eqb e.set i) (has i es) h))

record Grouped (i : ℕ) (us : List Group) : Type 0 where
  place : ℕ
  group : Group
  of : nth us place ≡ Some group
  index : group.set ≡ i

grouped : (i : ℕ) (us : List Group) → InGroups i us → Grouped i us
grouped i [] h = absurd h
grouped i (u ∷ us) h =
    ⊎_elim
    (λ x. record { place = 0; group = u; of = refl; index = x })
    (λ x. let g = grouped i us x in record { place = suc g.place; group = g.group; of = g.of; index = g.index })
    h

part_below : (ps : List (List Entry)) (k : ℕ) → k < length ps → nth ps k ≡ Some (nth_part ps k)
part_below [] k l = absurd (omega arith)
part_below (p ∷ ps) zero l = refl
part_below (p ∷ ps) (suc k) l = part_below ps k (omega arith)

module _ (wrapped : Bool) (wrote : ℕ → List ℕ) (fresh : ℕ) (s : Subtable) (filled : FilledSets s.sets) (kept : List Entry) (later : List (List Entry)) (w : kept ++ flat_map itself later ≡ entries s) where
  abbrev ps : List (List Entry)
  ps = kept ∷ later

  abbrev ds : List Subtable
  ds = divided wrapped wrote fresh s (kept ∷ later)

  stand : AllByRecursion (AllByRecursion (Stands s)) ps
  stand = all_whole (Stands s) ps (subst (AllByRecursion (Stands s)) (sym w) (entries_stand s))

  settle : (k : ℕ) (p : List Entry) (d : Subtable) → nth ps k ≡ Some p → nth ds k ≡ Some d → (j : ℕ) (t : LigatureSet) → nth d.sets j ≡ Some t → Settled fresh s ps k p j t
  settle k p d e f = settled_of fresh s ps k p d (all-nth (AllByRecursion (Stands s)) ps k p e stand) (piece_of wrapped wrote fresh s filled kept later w k p d e f)

  find : (i : ℕ) (whole : LigatureSet) → nth s.sets i ≡ Some whole → Found ps ds i whole
  find i whole e =
      let some : any_has i ps ≡ true = any_joined i ps ∙ ap (has i) w ∙ has_sets 0 i i s.sets whole (omega arith) e filled in
      let h = housed i kept later some in
      let k = h.piece in
      let p = nth_part ps k in
      let at : nth ps k ≡ Some p = part_below ps k h.among in
      let n = length-divided wrapped wrote fresh s (kept ∷ later) (omega arith) in
      let l = h.among in
      let r = nth_there ds k (omega arith) in
      let d : Subtable = r.0 in
      let is : nth ds k ≡ Some d = r.1 in
      let b = piece_of wrapped wrote fresh s filled kept later w k p d at is in
      let g = grouped i (groups p) (in_groups i p h.here) in
      let o = length_sets_of b.own b.at (groups p) in
      let u = nth_below (groups p) g.place g.group g.of in
      let v = nth_there (sets_of b.own b.at (groups p)) g.place (omega arith) in
      let t : LigatureSet = v.0 in
      let there : nth d.sets g.place ≡ Some t = ap (λ (us : List LigatureSet). nth us g.place) b.sets ∙ v.1 in
      let z = settle k p d at is g.place t there in
      let same : z.group ≡ g.group = same_Some z.group g.group (sym z.of ∙ g.of) in
      let index : z.group.set ≡ i = ap (λ (u : Group). u.set) same ∙ g.index in
      let all : z.whole ≡ whole = same_Some z.whole whole (sym z.from ∙ ap (nth s.sets) index ∙ e) in
      record {
        piece = k;
        home = h.home;
        part = p;
        subtable = d;
        part_of = at;
        is = is;
        place = g.place;
        group = g.group;
        set = t;
        of = g.of;
        index = g.index;
        there = there;
        vertex = z.own (subst (λ x. Home ps x k) (sym index) h.home) ∙ ap (λ (u : LigatureSet). u.vertex) all;
      }

  one_place : OnePlace fresh s ps ds
  one_place = record { settled = settle; one = home_one ps; found = find }

pub one_place_each : DividedSetsVertexGoesToOnePlace
one_place_each ceiling wrapped wrote fresh s filled =
    let d = parts_divide ceiling (entries s) in
    subst (λ (ps : List (List Entry)). OnePlace fresh s ps (divided wrapped wrote fresh s ps)) (sym d.are) (one_place wrapped wrote fresh s filled d.kept d.later d.whole)
