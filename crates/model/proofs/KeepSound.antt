-- A division of a well-formed lookup leaves it well-formed, if its new coverages were written well.
use Rattle.std.proofs.Common.{◌≡◌, ℕ, suc, ◌+◌, ◌<◌, ◌≤◌, Bool, true, false, cond, eqb, List, [], ◌∷◌, length, is_some, Some, Option, sym, refl, ap, subst, ⊎_elim, arith}
use Rattle.std.specs.List.{AllByRecursion}
use Rattle.std.proofs.lemmas.List.{length-append}
use Rattle.std.proofs.ByRecursion.{All-append, All-weaker, All-set}
use Rattle.std.proofs.lemmas.Bool.{cases_eq, cond_both}
use Rattle.std.proofs.lemmas.Bool.Decides.{nat_tests}
use Rattle.data_bytes.specs.BigEndian.{Bytes}
use Rattle.coverage.specs.Meaning.{Meant}
use Rattle.model.specs.Forest.{Ligature, LigatureSet, Subtable, Lookup, Model}
use Rattle.model.specs.Cutting.{Entry, entries_from, sets_from, entries, parts}
use Rattle.model.specs.Splitting.{Capacities, Group, groups, sets_of, new_sets, comes_here, pieces, after_pieces, extended, divided, after_divided, split_all, split_lookup, is_wrapped, wrap_lookup, renewed, all_renewed, renewed_in}
use Rattle.model.specs.Sound.{GoodLigature, GoodSet, GoodSubtable, GoodLookup, glyphs_of, WroteWell}
use Rattle.model.specs.KeepingLaws.{AcceptedSplitsKeepLookupsWellFormed, AcceptedWrapsKeepLookupsWellFormed, SplittingKeepsLookupsWellFormed, WrappingKeepsLookupsWellFormed}
use Rattle.model.proofs.Lists.{all_front, all_back, all_both, all-nth, one}
use Rattle.model.proofs.KeepParts.{all_whole, parts_full}
use Rattle.model.proofs.KeepModels.{split_made, wrap_made}
use Rattle.model.proofs.KeepSizes.{join_all, sets_of_all, length_sets_of, extended_all, divided-all, length_extended, length-split-all}
use Rattle.model.proofs.PartsSize.{touched_some}
use Rattle.model.proofs.PartsRule.{whole, joined_parts, parts_some, Fits, short_subtables}
use Rattle.model.proofs.PartsGroups.{groups_filled, length-groups}
use Rattle.model.proofs.NumberSums.{tally as sum, tally_append as sum_append}

-- HOW MANY ENTRIES ARE OF A SET
abbrev of_set : ℕ → Entry → ℕ
of_set i e = one (eqb e.set i)

abbrev pub tally : ℕ → List Entry → ℕ
tally i es = sum (of_set i) es

tally_here : (i : ℕ) (e : Entry) (es : List Entry) → e.set ≡ i → tally i (e ∷ es) ≡ suc (tally i es)
tally_here i e es h = grind (arith, nat_tests)

tally_other : (i : ℕ) (e : Entry) (es : List Entry) → (e.set ≡ i → ⊥) → tally i (e ∷ es) ≡ tally i es
tally_other i e es h = grind (arith, nat_tests)

tally_more : (i : ℕ) (e : Entry) (es : List Entry) → tally i es ≤ tally i (e ∷ es)
tally_more i e es = omega arith

-- a group has no more ligatures than there are entries of its set
groups_tally : (es : List Entry) → AllByRecursion (λ (t : Group). length t.ligatures ≤ tally t.set es) (groups es)
groups_tally [] = tt
groups_tally (e ∷ es) =
    join_all (λ (t : Group). length t.ligatures ≤ tally t.set es) (λ (t : Group). length t.ligatures ≤ tally t.set (e ∷ es)) e (groups es)
    (let h = tally_here e.set e es refl in omega arith)
    (λ t q k. let h = tally_here t.set e es q in omega arith)
    (λ t k. let h = tally_more t.set e es in omega arith)
    (groups_tally es)

-- in a subtable that is the length of the set
tally_of_set : (i j : ℕ) (t : LigatureSet) (gs : List Ligature) → tally i (entries_from i j t gs) ≡ length gs
tally_of_set i j t [] = refl
tally_of_set i j t (g ∷ gs) = grind (arith, nat_tests, tally_of_set i (suc j) t gs)

tally_of_other : (k i j : ℕ) (t : LigatureSet) (gs : List Ligature) → (i ≡ k → ⊥) → tally k (entries_from i j t gs) ≡ 0
tally_of_other k i j t [] ne = refl
tally_of_other k i j t (g ∷ gs) ne = grind (arith, nat_tests, tally_of_other k i (suc j) t gs ne)

tally_of_later : (k i : ℕ) (ts : List LigatureSet) → k < i → tally k (sets_from i ts) ≡ 0
tally_of_later k i [] lt = refl
tally_of_later k i (t ∷ ts) lt =
    let a = sum_append (of_set k) (entries_from i 0 t t.ligatures) (sets_from (suc i) ts) in
    let b = tally_of_other k i 0 t t.ligatures (λ e. omega arith) in
    let c = tally_of_later k (suc i) ts (omega arith) in
    omega arith

tally_of_sets : (n k i : ℕ) (ts : List LigatureSet) → 0 < n → AllByRecursion (λ (t : LigatureSet). length t.ligatures < n) ts → tally k (sets_from i ts) < n
tally_of_sets n k i [] pos h = omega arith
tally_of_sets n k i (t ∷ ts) pos h =
    let a = sum_append (of_set k) (entries_from i 0 t t.ligatures) (sets_from (suc i) ts) in
    let s = h.0 in
    ⊎_elim
    (λ (e : i ≡ k).
    let b = subst (λ (j : ℕ). tally k (entries_from j 0 t t.ligatures) ≡ length t.ligatures) (sym e) (tally_of_set k 0 t t.ligatures) in
    let c = tally_of_later k (suc i) ts (omega arith) in
    omega arith)
    (λ (ne : i ≡ k → ⊥).
    let b = tally_of_other k i 0 t t.ligatures ne in
    let c = tally_of_sets n k (suc i) ts pos h.1 in
    omega arith)
    (cases_eq i k)

tally_of_parts : (n : ℕ) (ps : List (List Entry)) → ((i : ℕ) → tally i (whole ps) < n) → AllByRecursion (λ (p : List Entry). (i : ℕ) → tally i p < n) ps
tally_of_parts n [] h = tt
tally_of_parts n (p ∷ ps) h = (
  λ i. let a = sum_append (of_set i) p (whole ps) in let b = h i in omega arith,
  tally_of_parts n ps (λ i. let a = sum_append (of_set i) p (whole ps) in let b = h i in omega arith),
)

-- WHAT HOLDS OF EACH LIGATURE of a subtable holds of each entry, and of each in a group
entries_from_all : (P : Ligature → Type 0) (i j : ℕ) (t : LigatureSet) (gs : List Ligature) → AllByRecursion P gs → AllByRecursion (λ (e : Entry). P e.ligature) (entries_from i j t gs)
entries_from_all P i j t [] h = tt
entries_from_all P i j t (g ∷ gs) h = (h.0, entries_from_all P i (suc j) t gs h.1)

pub entries_all : (P : Ligature → Type 0) (i : ℕ) (ts : List LigatureSet) → AllByRecursion (λ (t : LigatureSet). AllByRecursion P t.ligatures) ts → AllByRecursion (λ (e : Entry). P e.ligature) (sets_from i ts)
entries_all P i [] h = tt
entries_all P i (t ∷ ts) h =
    All-append (λ (e : Entry). P e.ligature) (entries_from i 0 t t.ligatures) (sets_from (suc i) ts)
    (entries_from_all P i 0 t t.ligatures h.0) (entries_all P (suc i) ts h.1)

pub groups-all : (P : Ligature → Type 0) (es : List Entry) → AllByRecursion (λ (e : Entry). P e.ligature) es → AllByRecursion (λ (t : Group). AllByRecursion P t.ligatures) (groups es)
groups-all P [] h = tt
groups-all P (e ∷ es) h =
    join_all (λ (t : Group). AllByRecursion P t.ligatures) (λ (t : Group). AllByRecursion P t.ligatures) e (groups es)
    (h.0, tt) (λ t q k. (h.0, k)) (λ t k. k) (groups-all P es h.1)

length_entries_from : (i j : ℕ) (t : LigatureSet) (gs : List Ligature) → length (entries_from i j t gs) ≡ length gs
length_entries_from i j t [] = refl
length_entries_from i j t (g ∷ gs) = ap suc (length_entries_from i (suc j) t gs)

-- SETS OF A PART
pub record GoodPart (p : List Entry) : Type 0 where
  pub some : 0 < length p
  pub ligatures : AllByRecursion (λ (e : Entry). GoodLigature e.ligature) p
  pub few : (i : ℕ) → tally i p < 65536

abbrev pub GoodSets : List LigatureSet → Type 0
GoodSets ts = (0 < length ts) × AllByRecursion GoodSet ts

made_some : (own : ℕ → Bool) (fresh : ℕ) (p : List Entry) → 0 < length p → 0 < length (sets_of own fresh (groups p))
made_some own fresh [] h = absurd (omega arith)
made_some own fresh (e ∷ es) h =
    let a = length_sets_of own fresh (groups (e ∷ es)) in
    let b = length-groups (e ∷ es) in
    let c = touched_some e es in
    omega arith

abbrev GoodLigatures : List Ligature → Type 0
GoodLigatures gs = ((0 < length gs) × (length gs < 65536)) × AllByRecursion GoodLigature gs

pub made_good : (own : ℕ → Bool) (fresh : ℕ) (p : List Entry) → GoodPart p → GoodSets (sets_of own fresh (groups p))
made_good own fresh p h =
    let few = All-weaker (λ (t : Group). length t.ligatures ≤ tally t.set p) (λ (t : Group). length t.ligatures < 65536)
    (λ t k. let b = h.few t.set in omega arith) (groups p) (groups_tally p) in
    let counts = all_both (λ (t : Group). 0 < length t.ligatures) (λ (t : Group). length t.ligatures < 65536) (groups p) (groups_filled p) few in
    let all = all_both (λ (t : Group). (0 < length t.ligatures) × (length t.ligatures < 65536)) (λ (t : Group). AllByRecursion GoodLigature t.ligatures) (groups p)
    counts (groups-all GoodLigature p h.ligatures) in (
      made_some own fresh p h.some,
      All-weaker (λ (t : LigatureSet). GoodLigatures t.ligatures) GoodSet (λ t k. record { some = k.0.0; count = k.0.1; ligatures = k.1 }) (sets_of own fresh (groups p))
          (sets_of_all GoodLigatures own fresh (groups p) all),
    )

-- PARTS OF A WELL-FORMED SUBTABLE
some_in_sets : (ts : List LigatureSet) → GoodSets ts → 0 < length (sets_from 0 ts)
some_in_sets [] h = let a = h.0 in omega arith
some_in_sets (t ∷ ts) h =
    let a = length-append (entries_from 0 0 t t.ligatures) (sets_from 1 ts) in
    let b = length_entries_from 0 0 t t.ligatures in
    let c = h.1.0.some in
    omega arith

pub entries_some : (s : Subtable) → GoodSets s.sets → 0 < length (entries s)
entries_some s h = some_in_sets s.sets h

good_parts : (ceiling : ℕ) (s : Subtable) → GoodSets s.sets → AllByRecursion (Fits ceiling) (entries s) → AllByRecursion GoodPart (parts ceiling (entries s))
good_parts c s h f =
    let w = joined_parts c (entries s) in
    let gs = entries_all GoodLigature 0 s.sets (All-weaker GoodSet (λ (t : LigatureSet). AllByRecursion GoodLigature t.ligatures) (λ t k. k.ligatures) s.sets h.1) in
    let a = all_whole (λ (e : Entry). GoodLigature e.ligature) (parts c (entries s)) (subst (λ (es : List Entry). AllByRecursion (λ (e : Entry). GoodLigature e.ligature) es) (sym w) gs) in
    let counts = All-weaker GoodSet (λ (t : LigatureSet). length t.ligatures < 65536) (λ t k. k.count) s.sets h.1 in
    let b = tally_of_parts 65536 (parts c (entries s))
    (λ i. subst (λ (es : List Entry). tally i es < 65536) (sym w) (tally_of_sets 65536 i 0 s.sets (omega arith) counts)) in
    let d = parts_full c (entries s) (entries_some s h) f in
    All-weaker (λ (p : List Entry). (0 < length p) × (AllByRecursion (λ (e : Entry). GoodLigature e.ligature) p × ((i : ℕ) → tally i p < 65536))) GoodPart
    (λ p k. record { some = k.0; ligatures = k.1.0; few = k.1.1 }) (parts c (entries s))
    (all_both (λ (p : List Entry). 0 < length p) (λ (p : List Entry). AllByRecursion (λ (e : Entry). GoodLigature e.ligature) p × ((i : ℕ) → tally i p < 65536)) (parts c (entries s)) d
    (all_both (λ (p : List Entry). AllByRecursion (λ (e : Entry). GoodLigature e.ligature) p) (λ (p : List Entry). (i : ℕ) → tally i p < 65536) (parts c (entries s)) a b))

pub divided_sets_good : (ceiling : ℕ) (wrapped : Bool) (wrote : ℕ → List ℕ) (fresh : ℕ) (s : Subtable) → GoodSets s.sets → AllByRecursion (Fits ceiling) (entries s) → AllByRecursion (λ (t : Subtable). GoodSets t.sets) (divided wrapped wrote fresh s (parts ceiling (entries s)))
divided_sets_good c wrapped wrote fresh s h f =
    divided-all GoodSets GoodPart made_good wrapped wrote fresh s (parts c (entries s)) (parts_some c (entries s)) (joined_parts c (entries s)) (λ _. h) (good_parts c s h f)

-- COVERAGES: what was written for the coverage's vertex
abbrev Renewed : (ℕ → List ℕ) → Subtable → Type 0
Renewed wrote t = t.covering ≡ wrote t.coverage

pieces-renewed : (wrote : ℕ → List ℕ) (kept : List Entry) (fresh : ℕ) (ps : List (List Entry)) → AllByRecursion (Renewed wrote) (pieces wrote kept fresh ps)
pieces-renewed wrote kept fresh [] = tt
pieces-renewed wrote kept fresh (p ∷ ps) = (refl, pieces-renewed wrote kept (fresh + 2 + new_sets (comes_here kept ps) (groups p)) ps)

pub divided-renewed : (wrapped : Bool) (wrote : ℕ → List ℕ) (fresh : ℕ) (s : Subtable) (kept p : List Entry) (ps : List (List Entry)) → AllByRecursion (Renewed wrote) (divided wrapped wrote fresh s (kept ∷ p ∷ ps))
divided-renewed wrapped wrote fresh s kept p ps = (
  refl,
  cond_both wrapped (extended (after_pieces kept fresh (p ∷ ps)) (pieces wrote kept fresh (p ∷ ps))) (pieces wrote kept fresh (p ∷ ps))
      (λ (u : List Subtable). AllByRecursion (Renewed wrote) u)
      (λ _. extended_all (Renewed wrote) (Renewed wrote) (λ e t k. k) (after_pieces kept fresh (p ∷ ps)) (pieces wrote kept fresh (p ∷ ps)) (pieces-renewed wrote kept fresh (p ∷ ps)))
      (λ _. pieces-renewed wrote kept fresh (p ∷ ps)),
)

-- EXTENSION TABLES where the lookup has them
abbrev Extended : Bool → Subtable → Type 0
Extended b t = is_some t.extension ≡ b

pieces_plain : (wrote : ℕ → List ℕ) (kept : List Entry) (fresh : ℕ) (ps : List (List Entry)) → AllByRecursion (Extended false) (pieces wrote kept fresh ps)
pieces_plain wrote kept fresh [] = tt
pieces_plain wrote kept fresh (p ∷ ps) = (refl, pieces_plain wrote kept (fresh + 2 + new_sets (comes_here kept ps) (groups p)) ps)

pub extended_extended : (fresh : ℕ) (ss : List Subtable) → AllByRecursion (Extended true) (extended fresh ss)
extended_extended fresh [] = tt
extended_extended fresh (s ∷ ss) = (refl, extended_extended (suc fresh) ss)

divided_extended : (wrapped : Bool) (wrote : ℕ → List ℕ) (fresh : ℕ) (s : Subtable) (ps : List (List Entry)) → Extended wrapped s → AllByRecursion (Extended wrapped) (divided wrapped wrote fresh s ps)
divided_extended wrapped wrote fresh s [] h = (h, tt)
divided_extended wrapped wrote fresh s (kept ∷ []) h = (h, tt)
divided_extended true wrote fresh s (kept ∷ p ∷ ps) h = (h, extended_extended (after_pieces kept fresh (p ∷ ps)) (pieces wrote kept fresh (p ∷ ps)))
divided_extended false wrote fresh s (kept ∷ p ∷ ps) h = (h, pieces_plain wrote kept fresh (p ∷ ps))

pub split_all_extended : (ceiling : ℕ) (wrapped : Bool) (wrote : ℕ → List ℕ) (fresh : ℕ) (ss : List Subtable) → AllByRecursion (Extended wrapped) ss → AllByRecursion (Extended wrapped) (split_all ceiling wrapped wrote fresh ss)
split_all_extended c wrapped wrote fresh [] h = tt
split_all_extended c wrapped wrote fresh (s ∷ ss) h =
    All-append (Extended wrapped) (divided wrapped wrote fresh s (parts c (entries s))) (split_all c wrapped wrote (after_divided wrapped fresh (parts c (entries s))) ss)
    (divided_extended wrapped wrote fresh s (parts c (entries s)) h.0)
    (split_all_extended c wrapped wrote (after_divided wrapped fresh (parts c (entries s))) ss h.1)

abbrev Kinds : Bool → ℕ → List Subtable → Type 0
Kinds b kind ss = cond b (AllByRecursion (λ (s : Subtable). is_some s.extension ≡ true) ss) ((kind ≡ 4) × AllByRecursion (λ (s : Subtable). is_some s.extension ≡ false) ss)

kinds_kept : (ceiling : ℕ) (b : Bool) (kind : ℕ) (wrote : ℕ → List ℕ) (fresh : ℕ) (ss : List Subtable) → Kinds b kind ss → Kinds b kind (split_all ceiling b wrote fresh ss)
kinds_kept c true kind wrote fresh ss h = split_all_extended c true wrote fresh ss h
kinds_kept c false kind wrote fresh ss h = (h.0, split_all_extended c false wrote fresh ss h.1)

-- LOOKUPS
module _ (caps : Capacities) (meaning : List ℕ → Option Meant) (span : List ℕ → ℕ) (ceiling : ℕ) (wrapped : Bool) (wrote : ℕ → List ℕ) where
  divided_good_as : (fresh : ℕ) (s : Subtable) (ps : List (List Entry)) → GoodSubtable meaning s → AllByRecursion (λ (t : Subtable). GoodSets t.sets) (divided wrapped wrote fresh s ps) → AllByRecursion (WroteWell meaning span wrote) (renewed wrapped wrote fresh s ps) → AllByRecursion (GoodSubtable meaning) (divided wrapped wrote fresh s ps)
  divided_good_as fresh s [] good sets well = (good, tt)
  divided_good_as fresh s (kept ∷ []) good sets well = (good, tt)
  divided_good_as fresh s (kept ∷ p ∷ ps) good sets well =
      All-weaker (λ (t : Subtable). (GoodSets t.sets × Renewed wrote t) × WroteWell meaning span wrote t) (GoodSubtable meaning)
      (λ t k. record {
        some = k.0.0.0;
        sets = k.0.0.1;
        bytes = subst (λ (bs : List ℕ). Bytes bs) (sym k.0.1) k.1.bytes;
        means = subst (λ (bs : List ℕ). meaning bs ≡ Some (glyphs_of t, length bs)) (sym k.0.1) k.1.means;
      })
      (divided wrapped wrote fresh s (kept ∷ p ∷ ps))
      (all_both (λ (t : Subtable). GoodSets t.sets × Renewed wrote t) (WroteWell meaning span wrote) (divided wrapped wrote fresh s (kept ∷ p ∷ ps))
      (all_both (λ (t : Subtable). GoodSets t.sets) (Renewed wrote) (divided wrapped wrote fresh s (kept ∷ p ∷ ps)) sets (divided-renewed wrapped wrote fresh s kept p ps))
      well)

  pub divided_good : (fresh : ℕ) (s : Subtable) → GoodSubtable meaning s → AllByRecursion (Fits ceiling) (entries s) → AllByRecursion (WroteWell meaning span wrote) (renewed wrapped wrote fresh s (parts ceiling (entries s))) → AllByRecursion (GoodSubtable meaning) (divided wrapped wrote fresh s (parts ceiling (entries s)))
  divided_good fresh s good f well = divided_good_as fresh s (parts ceiling (entries s)) good (divided_sets_good ceiling wrapped wrote fresh s (good.some, good.sets) f) well

  pub split_all_good : (fresh : ℕ) (ss : List Subtable) → AllByRecursion (GoodSubtable meaning) ss → AllByRecursion (λ (s : Subtable). AllByRecursion (Fits ceiling) (entries s)) ss → AllByRecursion (WroteWell meaning span wrote) (all_renewed ceiling wrapped wrote fresh ss) → AllByRecursion (GoodSubtable meaning) (split_all ceiling wrapped wrote fresh ss)
  split_all_good fresh [] good f well = tt
  split_all_good fresh (s ∷ ss) good f well =
      let next : ℕ = after_divided wrapped fresh (parts ceiling (entries s)) in
      All-append (GoodSubtable meaning) (divided wrapped wrote fresh s (parts ceiling (entries s))) (split_all ceiling wrapped wrote next ss)
      (divided_good fresh s good.0 f.0 (all_front (WroteWell meaning span wrote) (renewed wrapped wrote fresh s (parts ceiling (entries s))) (all_renewed ceiling wrapped wrote next ss) well))
      (split_all_good next ss good.1 f.1 (all_back (WroteWell meaning span wrote) (renewed wrapped wrote fresh s (parts ceiling (entries s))) (all_renewed ceiling wrapped wrote next ss) well))

pub splitting_keeps_lookups_well_formed_lem : SplittingKeepsLookupsWellFormed
splitting_keeps_lookups_well_formed_lem caps meaning span ceiling wrote fresh l good short few well =
    record {
      kind = kinds_kept ceiling (is_wrapped l) l.kind wrote fresh l.subtables good.kind;
      flag = good.flag;
      asks = good.asks;
      mark = good.mark;
      count = let n = length-split-all ceiling (is_wrapped l) wrote fresh l.subtables in omega arith;
      subtables = split_all_good caps meaning span ceiling (is_wrapped l) wrote fresh l.subtables good.subtables (short_subtables ceiling l.subtables short) well;
    }

pub wrapping_keeps_lookups_well_formed_lem : WrappingKeepsLookupsWellFormed
wrapping_keeps_lookups_well_formed_lem meaning fresh l good =
    record {
      kind = extended_extended fresh l.subtables;
      flag = good.flag;
      asks = good.asks;
      mark = good.mark;
      count = let n = length_extended fresh l.subtables in let k = good.count in omega arith;
      subtables = extended_all (GoodSubtable meaning) (GoodSubtable meaning) (λ e s k. record { some = k.some; sets = k.sets; bytes = k.bytes; means = k.means }) fresh l.subtables good.subtables;
    }

-- MODELS
pub accepted_splits_keep_lookups_well_formed_lem : AcceptedSplitsKeepLookupsWellFormed
accepted_splits_keep_lookups_well_formed_lem caps meaning span wrote m n ceiling c h good well =
    let a = split_made caps wrote m n ceiling c h in
    subst (λ (after : Model). AllByRecursion (GoodLookup meaning) after.lookups) (sym a.made)
    (All-set (GoodLookup meaning) m.lookups n (split_lookup ceiling wrote m.taken.vertices a.lookup)
    (splitting_keeps_lookups_well_formed_lem caps meaning span ceiling wrote m.taken.vertices a.lookup (all-nth (GoodLookup meaning) m.lookups n a.lookup a.found good) a.short a.few
    (subst (λ (o : Option Lookup). AllByRecursion (WroteWell meaning span wrote) (renewed_in ceiling wrote m.taken.vertices o)) a.found well))
    good)

pub accepted_wraps_keep_lookups_well_formed_lem : AcceptedWrapsKeepLookupsWellFormed
accepted_wraps_keep_lookups_well_formed_lem caps meaning m n c h good =
    let a = wrap_made caps m n c h in
    subst (λ (after : Model). AllByRecursion (GoodLookup meaning) after.lookups) (sym a.made)
    (All-set (GoodLookup meaning) m.lookups n (wrap_lookup m.taken.vertices a.lookup)
    (wrapping_keeps_lookups_well_formed_lem meaning m.taken.vertices a.lookup (all-nth (GoodLookup meaning) m.lookups n a.lookup a.found good))
    good)
