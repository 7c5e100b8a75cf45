-- Reading what was written: ligatures, sets, subtables, extension tables, the lookup.
use Rattle.std.proofs.Common.{◌≡◌, ℕ, suc, ◌+◌, ◌-◌, ◌*◌, ◌^◌, ◌<◌, ◌≤◌, Bool, true, false, cond, ◌||◌, eqb, List, [], ◌∷◌, ◌++◌, map, length, get_or, drop, is_some, Some, None, Ok, Err, Option, sym, refl, ap, ◌∙◌, subst, arith, length-append}
use Rattle.std.specs.List.{flat_map, AllByRecursion}
use Rattle.std.specs.Option.{option_to_list}
use Rattle.std.proofs.ByRecursion.{All-get_or}
use Rattle.std.proofs.lemmas.List.{append-nil, length-map, get_or-map, get_or-append-add, get_or_append_left, take_all}
use Rattle.std.proofs.lemmas.Bool.{and_from, or_left, or_right, cond-true, le-leb, lt-ltb, eq-eqb}
use Rattle.std.proofs.lemmas.List.Concat.{flat_map_single}
use Rattle.data_bytes.specs.BigEndian.{word16, number_at}
use Rattle.data_bytes.specs.Values.{value_bytes, values_at}
use Rattle.coverage.specs.Meaning.{Meant}
use Rattle.model.specs.Forest.{Ligature, LigatureSet, Subtable, Lookup}
use Rattle.model.specs.Tables.{head, head_or, lookup_table, extension_table, set_table, ligature_table, extension_walk}
use Rattle.model.specs.Rules.{Rule, rule_of, set_rules, subtable_rules, rules_of}
use Rattle.model.specs.Writing.{Start, extensions_of, start_of}
use Rattle.model.specs.Reading.{Read, there, and_then, each_slot, ligature_at, set_at, has_mark, head_size, sets_under, subtable_at, extension_at, rules_in}
use Rattle.model.specs.Sound.{Lawful, GoodSubtable, GoodLookup, glyphs_of}
use Rattle.model.proofs.LayPlaces.{Stands, word_stands, values_within, values_stand, ahead, extension_format, extension_type, extension_slot, extension_within}
use Rattle.model.proofs.WrittenTables.{Near, heads, set_vertices, ligature_vertices, lookup_values, subtable_values, set_values, length_lookup_values, length_subtable_values, length_set_values, filled_lookup, filled_subtable, filled_set}
use Rattle.model.proofs.LayStarts.{Sits, size, sizes}
use Rattle.model.proofs.LayLookups.{SubtableLies, LookupLies}

-- A LIGATURE
pub ligature_reads : (bs : List ℕ) (first p : ℕ) (g : Ligature)
    → Stands bs p (value_bytes (g.glyph ∷ suc (length g.components) ∷ g.components)) → ligature_at bs first p ≡ Ok (rule_of first g ∷ [])
ligature_reads bs first p g h =
    let n = length g.components in
    let vs = g.glyph ∷ suc n ∷ g.components in
    let glyph = word_stands bs p vs h 0 p (omega arith) (omega arith) in
    let count = word_stands bs p vs h 1 (p + 2) (omega arith) (omega arith) in
    let w = values_within bs p vs h in
    let less : word16 bs (p + 2) - 1 ≡ n = omega arith in
    let parts = values_stand bs p g.glyph (suc n) g.components h in
    cond-true _ _ _ (and_from _ _ (le-leb (p + 4) (length bs) (omega arith))
    (and_from _ _ (lt-ltb 0 (word16 bs (p + 2)) (omega arith)) (le-leb (p + (2 + 2 * word16 bs (p + 2))) (length bs) (omega arith))))
    ∙ ap (λ (k : ℕ). Ok (record { glyphs = first ∷ values_at bs (p + 4) k; ligature = word16 bs p } ∷ [])) less
    ∙ ap (λ (x : List ℕ). Ok (record { glyphs = first ∷ x; ligature = word16 bs p } ∷ [])) parts
    ∙ ap (λ (k : ℕ). Ok (record { glyphs = first ∷ g.components; ligature = k } ∷ [])) glyph

-- SLOTS
pub each_slot_lem : {X : Type 0} (f : X → List Rule) (at : ℕ → ℕ → Read) (bs : List ℕ) (p : ℕ) (ts : List X) (q i : ℕ)
    → ((k : ℕ) (d : X) → k < length ts → at (i + k) (p + word16 bs (q + 2 * k)) ≡ Ok (f (get_or ts k d))) → each_slot at bs p q i (length ts) ≡ Ok (flat_map f ts)
each_slot_lem f at bs p [] q i h = refl
each_slot_lem {X} f at bs p (t ∷ ts) q i h =
    ap (λ x. and_then x (each_slot at bs p (q + 2) (suc i) (length ts))) here ∙ ap (and_then (Ok (f t))) (each_slot_lem f at bs p ts (q + 2) (suc i) later) where
      here : at i (p + word16 bs q) ≡ Ok (f t)
      here =
          let e : i ≡ i + 0 = omega arith in
          let o : q ≡ q + 2 * 0 = omega arith in
          ap (λ j. at j (p + word16 bs q)) e ∙ ap (λ r. at (i + 0) (p + word16 bs r)) o ∙ h 0 t (omega arith)

      later : (k : ℕ) (d : X) → k < length ts → at (suc i + k) (p + word16 bs (q + 2 + 2 * k)) ≡ Ok (f (get_or ts k d))
      later k d lt =
          let a : suc i + k ≡ i + suc k = omega arith in
          let b : q + 2 + 2 * k ≡ q + 2 * suc k = omega arith in
          ap (λ j. at j (p + word16 bs (q + 2 + 2 * k))) a ∙ ap (λ r. at (i + suc k) (p + word16 bs r)) b ∙ h (suc k) d (omega arith)

-- where a slot leads: to the start of its target
pub slot_leads : (ss : List Start) (bs : List ℕ) (v p : ℕ) (us ts ws : List ℕ) → start_of ss v ≡ p → Stands bs p (value_bytes (us ++ (map (ahead ss v) ts ++ ws)))
    → (q k t : ℕ) → q ≡ p + 2 * length us → k < length ts → get_or ts k 0 ≡ t → p ≤ start_of ss t → p + word16 bs (q + 2 * k) ≡ start_of ss t
slot_leads ss bs v p us ts ws start h q k t at lt target le =
    let vs = us ++ (map (ahead ss v) ts ++ ws) in
    let l = length-append us (map (ahead ss v) ts ++ ws) in
    let m = length-append (map (ahead ss v) ts) ws in
    let n = length-map ts (ahead ss v) in
    let w = word_stands bs p vs h (length us + k) (q + 2 * k) (omega arith) (omega arith) in
    let a = get_or-append-add us (map (ahead ss v) ts ++ ws) k 0 in
    let b = get_or_append_left (map (ahead ss v) ts) ws 0 k (omega arith) in
    let c = get_or-map (ahead ss v) ts k 0 0 lt in
    let d : ahead ss v (get_or ts k 0) ≡ start_of ss t - p = ap (ahead ss v) target ∙ ap (λ x. start_of ss t - x) start in
    omega arith

pub slot_leads_last : (ss : List Start) (bs : List ℕ) (v p : ℕ) (us ts : List ℕ) → start_of ss v ≡ p → Stands bs p (value_bytes (us ++ map (ahead ss v) ts))
    → (q k t : ℕ) → q ≡ p + 2 * length us → k < length ts → get_or ts k 0 ≡ t → p ≤ start_of ss t → p + word16 bs (q + 2 * k) ≡ start_of ss t
slot_leads_last ss bs v p us ts start h =
    slot_leads ss bs v p us ts [] start (subst (λ (x : List ℕ). Stands bs p (value_bytes (us ++ x))) (sym (append-nil (map (ahead ss v) ts))) h)

-- A SET
pub set_reads : (ss : List Start) (bs : List ℕ) (c low middle high : ℕ) (t : LigatureSet) → Sits (Near ss) ss bs low middle (set_table c t)
    → AllByRecursion (λ (g : Ligature). Sits (Near ss) ss bs middle high (ligature_table c g)) t.ligatures → set_at bs t.first (start_of ss t.vertex) ≡ Ok (set_rules t)
set_reads ss bs c low middle high t h a =
    let count = word_stands bs p (set_values ss t) st 0 p (omega arith) (omega arith) in
    let w = values_within bs p (set_values ss t) st in
    let l = length_set_values ss t in
    cond-true _ _ _ (and_from _ _ (le-leb (p + 2) (length bs) (omega arith)) (le-leb (p + (2 + 2 * word16 bs p)) (length bs) (omega arith)))
    ∙ ap (each_slot (λ i q. ligature_at bs t.first q) bs p (p + 2) 0) count
    ∙ each_slot_lem (λ (g : Ligature). rule_of t.first g ∷ []) (λ i q. ligature_at bs t.first q) bs p gs (p + 2) 0 each
    ∙ ap Ok (flat_map_single (rule_of t.first) gs) where
      gs : List Ligature
      gs = t.ligatures

      p : ℕ
      p = start_of ss t.vertex

      st : Stands bs p (value_bytes (set_values ss t))
      st = subst (λ (x : List ℕ). Stands bs p x) (filled_set ss c t h.more) h.stands

      each : (k : ℕ) (d : Ligature) → k < length gs → ligature_at bs t.first (p + word16 bs (p + 2 + 2 * k)) ≡ Ok (rule_of t.first (get_or gs k d) ∷ [])
      each k d lt =
          let g = get_or gs k d in
          let s = All-get_or (λ (g : Ligature). Sits (Near ss) ss bs middle high (ligature_table c g)) gs k d lt a in
          let from = s.from in
          let to = h.to in
          let m = length-map gs (λ (g : Ligature). g.vertex) in
          let vertex = get_or-map (λ (g : Ligature). g.vertex) gs k d 0 lt in
          let e = slot_leads_last ss bs t.vertex p (length gs ∷ []) (ligature_vertices t) refl st (p + 2) k g.vertex refl (omega arith) vertex (omega arith) in
          ap (ligature_at bs t.first) e ∙ ligature_reads bs t.first (start_of ss g.vertex) g s.stands

-- A SUBTABLE, by the values that stand in it
subtable_at_lem : (meaning : List ℕ → Option Meant) (bs : List ℕ) (p c q : ℕ) (gs : List ℕ) (e : ℕ) → p + 6 ≤ length bs → word16 bs p ≡ 1 → word16 bs (p + 4) ≡ c
    → p + (6 + 2 * c) ≤ length bs → p + word16 bs (p + 2) ≡ q → q ≤ length bs → meaning (drop q bs) ≡ Some (gs, e) → length gs ≡ c
    → subtable_at meaning bs p ≡ each_slot (λ i r. set_at bs (get_or gs i 0) r) bs p (p + 6) 0 c
subtable_at_lem meaning bs p c q gs e a format count b to inside means many =
    cond-true _ _ _ (and_from _ _ (le-leb (p + 6) (length bs) a)
    (and_from _ _ (eq-eqb (word16 bs p) 1 format) (le-leb (p + (6 + 2 * word16 bs (p + 4))) (length bs) (omega arith))))
    ∙ ap (λ (x : ℕ). cond (there bs x 0) (sets_under meaning bs p (meaning (drop x bs)) (word16 bs (p + 4)) x) (Err x)) to
    ∙ cond-true _ _ _ (le-leb (q + 0) (length bs) (omega arith))
    ∙ ap (λ (x : Option Meant). sets_under meaning bs p x (word16 bs (p + 4)) q) means
    ∙ ap (λ (x : ℕ). sets_under meaning bs p (Some (gs, e)) x q) count
    ∙ cond-true _ _ _ (eq-eqb (length gs) c many)

module _ (admits : List ℕ → Type 0) (meaning : List ℕ → Option Meant) (span : List ℕ → ℕ) (lawful : Lawful admits meaning span) (ss : List Start) (bs : List ℕ) where
  -- the coverage means the same with whatever stands behind it
  pub coverage_reads : (s : Subtable) (p : ℕ) → GoodSubtable meaning s → Stands bs p s.covering → meaning (drop p bs) ≡ Some (glyphs_of s, length s.covering)
  coverage_reads s p good h =
      let cs = s.covering in
      let f = lawful.front cs (glyphs_of s) h.rest (length cs) good.means in
      ap meaning (h.is ∙ ap (λ (x : List ℕ). x ++ h.rest) (sym (take_all (length cs) cs (omega arith)))) ∙ f

  pub subtable_reads : (low : ℕ) (s : Subtable) → GoodSubtable meaning s → SubtableLies (Near ss) ss bs low s → subtable_at meaning bs (start_of ss s.vertex) ≡ Ok (subtable_rules s)
  subtable_reads low s good h =
      let vs = subtable_values ss s in
      let w = values_within bs p vs st in
      let l = length_subtable_values ss s in
      let format = word_stands bs p vs st 0 p (omega arith) (omega arith) in
      let cover = word_stands bs p vs st 1 (p + 2) (omega arith) (omega arith) in
      let count = word_stands bs p vs st 2 (p + 4) (omega arith) (omega arith) in
      let end = h.coverage.start in
      let long = h.long in
      let inside = h.coverage.stands.within in
      let glyphs = length-map s.sets (λ (t : LigatureSet). t.first) in
      let means = coverage_reads s h.end good h.coverage.stands in
      ap (subtable_at meaning bs) start
      ∙ subtable_at_lem meaning bs p (length s.sets) h.end (glyphs_of s) (length s.covering) (omega arith) format count (omega arith) (omega arith) (omega arith) means glyphs
      ∙ each_slot_lem set_rules (λ i r. set_at bs (get_or (glyphs_of s) i 0) r) bs p s.sets (p + 6) 0 each where
        p : ℕ
        p = h.place

        start : start_of ss s.vertex ≡ p
        start = h.own.start

        st : Stands bs p (value_bytes (subtable_values ss s))
        st = subst (λ (x : List ℕ). Stands bs p x) (filled_subtable ss s h.own.more) h.own.stands

        each : (k : ℕ) (d : LigatureSet) → k < length s.sets → set_at bs (get_or (glyphs_of s) (0 + k) 0) (p + word16 bs (p + 6 + 2 * k)) ≡ Ok (set_rules (get_or s.sets k d))
        each k d lt =
            let c = s.coverage in
            let t = get_or s.sets k d in
            let a = All-get_or (λ (t : LigatureSet). Sits (Near ss) ss bs p h.middle (set_table c t)) s.sets k d lt h.sets in
            let b = All-get_or (λ (t : LigatureSet). AllByRecursion (λ (g : Ligature). Sits (Near ss) ss bs h.middle h.end (ligature_table c g)) t.ligatures) s.sets k d lt h.ligatures in
            let from = a.from in
            let m = length-map s.sets (λ (t : LigatureSet). t.vertex) in
            let z : 0 + k ≡ k = omega arith in
            let first : get_or (glyphs_of s) (0 + k) 0 ≡ t.first = ap (λ j. get_or (glyphs_of s) j 0) z ∙ get_or-map (λ (t : LigatureSet). t.first) s.sets k d 0 lt in
            let vertex = get_or-map (λ (t : LigatureSet). t.vertex) s.sets k d 0 lt in
            let front = 1 ∷ ahead ss s.vertex c ∷ length s.sets ∷ [] in
            let e = slot_leads_last ss bs s.vertex p front (set_vertices s) start st (p + 6) k t.vertex refl (omega arith) vertex (omega arith) in
            ap (set_at bs (get_or (glyphs_of s) (0 + k) 0)) e ∙ ap (λ (x : ℕ). set_at bs x (start_of ss t.vertex)) first
            ∙ set_reads ss bs c p h.middle h.end t a b

-- AN EXTENSION TABLE leads to its subtable
extension_at_lem : (meaning : List ℕ → Option Meant) (bs : List ℕ) (p q : ℕ) → p + 8 ≤ length bs → word16 bs p ≡ 1 → word16 bs (p + 2) ≡ 4 → p + number_at 4 bs (p + 4) ≡ q
    → extension_at meaning bs p ≡ subtable_at meaning bs q
extension_at_lem meaning bs p q a format kind to =
    cond-true _ _ _ (and_from _ _ (le-leb (p + 8) (length bs) a) (and_from _ _ (eq-eqb (word16 bs p) 1 format) (eq-eqb (word16 bs (p + 2)) 4 kind)))
    ∙ ap (subtable_at meaning bs) to

pub extension_reads : (meaning : List ℕ → Option Meant) (ss : List Start) (bs : List ℕ) (low high e v : ℕ) → Sits (Near ss) ss bs low high (extension_table e v)
    → high ≤ start_of ss v → start_of ss v < 256 ^ 4 → extension_at meaning bs (start_of ss e) ≡ subtable_at meaning bs (start_of ss v)
extension_reads meaning ss bs low high e v h behind small =
    let p = start_of ss e in
    let n = ahead ss e v in
    let st = h.stands in
    let to = h.to in
    let slot = extension_slot bs p n st (omega arith) in
    extension_at_lem meaning bs p (start_of ss v) (extension_within bs p n st) (extension_format bs p n st) (extension_type bs p n st) (omega arith)

-- with an extension table, and without
extended_reads : (meaning : List ℕ → Option Meant) (ss : List Start) (bs : List ℕ) (low high : ℕ) (o : Option ℕ) (v : ℕ) → is_some o ≡ true
    → AllByRecursion (Sits (Near ss) ss bs low high) (extension_walk o v) → high ≤ start_of ss v → start_of ss v < 256 ^ 4
    → extension_at meaning bs (start_of ss (head_or o v)) ≡ subtable_at meaning bs (start_of ss v)
extended_reads meaning ss bs low high None v some a behind small = cc
extended_reads meaning ss bs low high (Some e) v some a behind small = extension_reads meaning ss bs low high e v a.0 behind small

plain_head : (o : Option ℕ) (v : ℕ) → is_some o ≡ false → head_or o v ≡ v
plain_head None v none = refl
plain_head (Some e) v none = cc

mark_room_lem : (o : Option ℕ) → cond (is_some o) 2 0 ≡ 2 * length (option_to_list o)
mark_room_lem None = refl
mark_room_lem (Some m) = refl

-- THE LOOKUP, by the values that stand in it
lookup_at : (meaning : List ℕ → Option Meant) (bs : List ℕ) (kind flag n marks : ℕ) → word16 bs 0 ≡ kind → word16 bs 2 ≡ flag → word16 bs 4 ≡ n
    → (eqb kind 4 || eqb kind 7) ≡ true → cond (has_mark flag) 2 0 ≡ marks → 6 + (2 * n + marks) ≤ length bs
    → rules_in meaning bs ≡ each_slot (λ i q. cond (eqb kind 7) (extension_at meaning bs q) (subtable_at meaning bs q)) bs 0 6 0 n
lookup_at meaning bs kind flag n marks k f c known m within =
    let room : ℕ = cond (has_mark (word16 bs 2)) 2 0 in
    let m' : room ≡ marks = ap (λ (x : ℕ). cond (has_mark x) 2 0) f ∙ m in
    cond-true _ _ _ (and_from _ _ (le-leb (0 + 6) (length bs) (omega arith))
    (and_from _ _ (ap (λ (x : ℕ). eqb x 4 || eqb x 7) k ∙ known) (le-leb (0 + head_size bs) (length bs) (omega arith))))
    ∙ ap (λ (x : ℕ). each_slot (λ i q. cond (eqb x 7) (extension_at meaning bs q) (subtable_at meaning bs q)) bs 0 6 0 (word16 bs 4)) k
    ∙ ap (each_slot (λ i q. cond (eqb kind 7) (extension_at meaning bs q) (subtable_at meaning bs q)) bs 0 6 0) c

module _ (admits : List ℕ → Type 0) (meaning : List ℕ → Option Meant) (span : List ℕ → ℕ) (lawful : Lawful admits meaning span) where
  abbrev Kinds : Lookup → Bool → Type 0
  Kinds l b = cond b (AllByRecursion (λ (s : Subtable). is_some s.extension ≡ true) l.subtables) ((l.kind ≡ 4) × AllByRecursion (λ (s : Subtable). is_some s.extension ≡ false) l.subtables)

  kind_known : (l : Lookup) (b : Bool) → eqb l.kind 7 ≡ b → Kinds l b → (eqb l.kind 4 || eqb l.kind 7) ≡ true
  kind_known l true e k = or_right (eqb l.kind 4) (eqb l.kind 7) e
  kind_known l false e k = or_left (eqb l.kind 4) (eqb l.kind 7) (eq-eqb l.kind 4 k.0)

  module _ (ss : List Start) (bs : List ℕ) (small : length bs < 256 ^ 4) where
    entry_reads : (l : Lookup) (m k : ℕ) (d : Subtable) → k < length l.subtables → AllByRecursion (GoodSubtable meaning) l.subtables
        → AllByRecursion (λ (s : Subtable). AllByRecursion (Sits (Near ss) ss bs 0 m) (extension_walk s.extension s.vertex)) l.subtables → AllByRecursion (SubtableLies (Near ss) ss bs m) l.subtables
        → (b : Bool) → Kinds l b
        → cond b (extension_at meaning bs (start_of ss (head (get_or l.subtables k d)))) (subtable_at meaning bs (start_of ss (head (get_or l.subtables k d)))) ≡ Ok (subtable_rules (get_or l.subtables k d))
    entry_reads l m k d lt good exts subs true kinds =
        let s = get_or l.subtables k d in
        let e = All-get_or (λ (s : Subtable). is_some s.extension ≡ true) l.subtables k d lt kinds in
        let x = All-get_or (λ (s : Subtable). AllByRecursion (Sits (Near ss) ss bs 0 m) (extension_walk s.extension s.vertex)) l.subtables k d lt exts in
        let h = All-get_or (SubtableLies (Near ss) ss bs m) l.subtables k d lt subs in
        let start = h.own.start in
        let from = h.from in
        let inside = h.own.stands.within in
        extended_reads meaning ss bs 0 m s.extension s.vertex e x (omega arith) (omega arith)
        ∙ subtable_reads admits meaning span lawful ss bs m s (All-get_or (GoodSubtable meaning) l.subtables k d lt good) h
    entry_reads l m k d lt good exts subs false kinds =
        let s = get_or l.subtables k d in
        let e = All-get_or (λ (s : Subtable). is_some s.extension ≡ false) l.subtables k d lt kinds.1 in
        let h = All-get_or (SubtableLies (Near ss) ss bs m) l.subtables k d lt subs in
        ap (λ (v : ℕ). subtable_at meaning bs (start_of ss v)) (plain_head s.extension s.vertex e)
        ∙ subtable_reads admits meaning span lawful ss bs m s (All-get_or (GoodSubtable meaning) l.subtables k d lt good) h

    pub lookup_reads : (l : Lookup) → GoodLookup meaning l → LookupLies (Near ss) ss bs l → rules_in meaning bs ≡ Ok (rules_of l)
    lookup_reads l good h =
        let vs = lookup_values ss l in
        let w = values_within bs 0 vs st in
        let n = length_lookup_values ss l in
        let kind = word_stands bs 0 vs st 0 0 refl (omega arith) in
        let flag = word_stands bs 0 vs st 1 2 refl (omega arith) in
        let count = word_stands bs 0 vs st 2 4 refl (omega arith) in
        let marks : cond (has_mark l.flag) 2 0 ≡ 2 * length (option_to_list l.mark) = ap (λ (b : Bool). cond b 2 0) (sym good.asks) ∙ mark_room_lem l.mark in
        let known = kind_known l (eqb l.kind 7) refl good.kind in
        lookup_at meaning bs l.kind l.flag (length subs) (2 * length (option_to_list l.mark)) kind flag count known marks (omega arith)
        ∙ each_slot_lem subtable_rules (λ i q. cond (eqb l.kind 7) (extension_at meaning bs q) (subtable_at meaning bs q)) bs 0 subs 6 0 each where
          subs : List Subtable
          subs = l.subtables

          st : Stands bs 0 (value_bytes (lookup_values ss l))
          st = subst (λ (x : List ℕ). Stands bs 0 x) (filled_lookup ss l h.own.more) h.own.stands

          each : (k : ℕ) (d : Subtable) → k < length subs
              → cond (eqb l.kind 7) (extension_at meaning bs (0 + word16 bs (6 + 2 * k))) (subtable_at meaning bs (0 + word16 bs (6 + 2 * k))) ≡ Ok (subtable_rules (get_or subs k d))
          each k d lt =
              let m = length-map subs (λ (s : Subtable). head s) in
              let front = l.kind ∷ l.flag ∷ length subs ∷ [] in
              let vertex = get_or-map (λ (s : Subtable). head s) subs k d 0 lt in
              let e = slot_leads ss bs l.vertex 0 front (heads l) (option_to_list l.mark) h.own.start st 6 k (head (get_or subs k d)) refl (omega arith) vertex (omega arith) in
              ap (λ (q : ℕ). cond (eqb l.kind 7) (extension_at meaning bs q) (subtable_at meaning bs q)) e
              ∙ entry_reads l (size (lookup_table l) + sizes (extensions_of subs)) k d lt good.subtables h.extensions h.subtables (eqb l.kind 7) good.kind
