-- The sizes of what a division makes: the sets made of a run have the run's size.
use Rattle.std.proofs.Common.{◌≡◌, ℕ, suc, ◌+◌, ◌<◌, ◌≤◌, Bool, true, false, eqb, List, [], ◌∷◌, ◌++◌, map, length, set, Some, sum_by, Option, sym, refl, ap, ◌∙◌, subst, arith}
use Rattle.std.specs.List.{flat_map, AllByRecursion}
use Rattle.std.proofs.lemmas.List.{append-nil, length-append}
use Rattle.std.proofs.ByRecursion.{All-append, All-weaker}
use Rattle.std.proofs.lemmas.List.Sums.{sum_by-cons}
use Rattle.std.proofs.lemmas.Bool.{eqb-true, ne_eqb, cond_both}
use Rattle.model.specs.Forest.{Ligature, LigatureSet, Subtable, Lookup, Model}
use Rattle.model.specs.Rules.{nth}
use Rattle.model.specs.Cutting.{Entry, entries_from, sets_from, entries, table_length, entry_size, same_set, run_size, subtable_size, parts, cuts}
use Rattle.model.specs.Splitting.{Group, alone, with_first, join_group, groups, sets_of, new_sets, comes_here, pieces, after_pieces, behind, extended, divided, after_divided, split_all, split_lookup, is_wrapped, wrap_lookup}
use Rattle.model.specs.KeepingLaws.{Within, WithinIn, WithinAt, SplitSizes, DivisionsDoNotGrow, SplitSubtablesAreWithinTheCeiling, WrappingKeepsSizes, NewSubtablesAreCountedByCuts}
use Rattle.model.proofs.Lists.{all_any, nth_set_same, nth_set_kept}
use Rattle.model.proofs.KeepParts.{parts_no_larger, parts_are_cuts_and_one}
use Rattle.model.proofs.KeepTelling.{tell, sets_tell, made_tell}
use Rattle.model.proofs.KeepModels.{split_made, wrap_made}
use Rattle.model.proofs.PartsRule.{whole, joined_parts, parts_some, parts_within, Fits, short_subtables}
use Rattle.model.proofs.PartsGroups.{groups_filled, length-groups}
use Rattle.model.proofs.PartsBytes.{touched_sets}

-- GROUPS one entry further
pub join_all : (Q R : Group → Type 0) (e : Entry) (ts : List Group) → R (alone e) → ((t : Group) → e.set ≡ t.set → Q t → R (with_first e.ligature t)) → ((t : Group) → Q t → R t) → AllByRecursion Q ts → AllByRecursion R (join_group e ts)
join_all Q R e [] new more old h = (new, tt)
join_all Q R e (t ∷ ts) new more old h =
    cond_both (eqb e.set t.set) (with_first e.ligature t ∷ ts) (alone e ∷ t ∷ ts) (λ (u : List Group). AllByRecursion R u)
    (λ q. (more t (eqb-true e.set t.set q) h.0, All-weaker Q R old ts h.1))
    (λ q. (new, (old t h.0, All-weaker Q R old ts h.1)))

-- the set of the first group
abbrev pub Starts : ℕ → List Group → Type 0
Starts i [] = ⊥
Starts i (t ∷ ts) = t.set ≡ i

pub join_starts : (e : Entry) (ts : List Group) → Starts e.set (join_group e ts)
join_starts e [] = refl
join_starts e (t ∷ ts) =
    cond_both (eqb e.set t.set) (with_first e.ligature t ∷ ts) (alone e ∷ t ∷ ts) (λ (u : List Group). Starts e.set u)
    (λ q. sym (eqb-true e.set t.set q))
    (λ q. refl)

-- SETS OF GROUPS
pub sets_of_all : (Q : List Ligature → Type 0) (own : ℕ → Bool) (fresh : ℕ) (ts : List Group) → AllByRecursion (λ (t : Group). Q t.ligatures) ts → AllByRecursion (λ (t : LigatureSet). Q t.ligatures) (sets_of own fresh ts)
sets_of_all Q own fresh [] h = tt
sets_of_all Q own fresh (t ∷ ts) h =
    cond_both (own t.set)
    (record { vertex = t.owner; first = t.first; ligatures = t.ligatures } ∷ sets_of own fresh ts)
    (record { vertex = fresh; first = t.first; ligatures = t.ligatures } ∷ sets_of own (suc fresh) ts)
    (λ (u : List LigatureSet). AllByRecursion (λ (t : LigatureSet). Q t.ligatures) u)
    (λ q. (h.0, sets_of_all Q own fresh ts h.1))
    (λ q. (h.0, sets_of_all Q own (suc fresh) ts h.1))

pub length_sets_of : (own : ℕ → Bool) (fresh : ℕ) (ts : List Group) → length (sets_of own fresh ts) ≡ length ts
length_sets_of own fresh [] = refl
length_sets_of own fresh (t ∷ ts) = grind (arith, length_sets_of own fresh ts, length_sets_of own (suc fresh) ts)

-- an entry is of none of the sets behind its own
later_than_set : (e : Entry) (j : ℕ) (t : LigatureSet) (gs : List Ligature) (rest : List Entry) → e.set < j → same_set e rest ≡ false → same_set e (entries_from j 0 t gs ++ rest) ≡ false
later_than_set e j t [] rest lt h = h
later_than_set e j t (g ∷ gs) rest lt h = ne_eqb e.set j (λ q. omega arith)

pub later_set : (e : Entry) (j : ℕ) (ts : List LigatureSet) → e.set < j → same_set e (sets_from j ts) ≡ false
later_set e j [] lt = refl
later_set e j (t ∷ ts) lt = later_than_set e j t t.ligatures (sets_from (suc j) ts) lt (later_set e (suc j) ts (omega arith))

-- THE SIZE goes by the ligatures and the number of sets
abbrev just_ligature : ℕ → Ligature → Ligature
just_ligature first g = g

abbrev ligature_size : Ligature → ℕ
ligature_size g = 2 + table_length g

size_of_ligatures : (es : List Entry) → sum_by entry_size es ≡ sum_by ligature_size (map (tell just_ligature) es)
size_of_ligatures [] = refl
size_of_ligatures (e ∷ es) =
    sum_by-cons entry_size e es ∙ ap (λ (k : ℕ). entry_size e + k) (size_of_ligatures es) ∙ sym (sum_by-cons ligature_size e.ligature (map (tell just_ligature) es))

pub made_size : (own : ℕ → Bool) (fresh : ℕ) (es : List Entry) → run_size (sets_from 0 (sets_of own fresh (groups es))) ≡ run_size es
unfolding run_size
made_size own fresh es =
    let t = touched_sets 0 (sets_of own fresh (groups es)) (sets_of_all (λ (gs : List Ligature). 0 < length gs) own fresh (groups es) (groups_filled es))
    ∙ length_sets_of own fresh (groups es) ∙ length-groups es in
    let same = sets_tell just_ligature 0 (sets_of own fresh (groups es))
    ∙ made_tell just_ligature (λ i g. g) own fresh es (all_any (λ (e : Entry). (g : Ligature) → g ≡ g) (λ e g. refl) es) in
    let s = size_of_ligatures (sets_from 0 (sets_of own fresh (groups es))) ∙ ap (sum_by ligature_size) same ∙ sym (size_of_ligatures es) in
    omega arith

-- WHAT HOLDS OF THE SETS OF EACH SUBTABLE THAT A DIVISION MAKES
pub extended_all : (P Q : Subtable → Type 0) → ((e : ℕ) (s : Subtable) → P s → Q (behind e s)) → (fresh : ℕ) (ss : List Subtable) → AllByRecursion P ss → AllByRecursion Q (extended fresh ss)
extended_all P Q f fresh [] h = tt
extended_all P Q f fresh (s ∷ ss) h = (f fresh s h.0, extended_all P Q f (suc fresh) ss h.1)

module _ (P : List LigatureSet → Type 0) (Q : List Entry → Type 0) (made : (own : ℕ → Bool) (fresh : ℕ) (p : List Entry) → Q p → P (sets_of own fresh (groups p))) where
  pieces-all : (wrote : ℕ → List ℕ) (kept : List Entry) (fresh : ℕ) (ps : List (List Entry)) → AllByRecursion Q ps → AllByRecursion (λ (s : Subtable). P s.sets) (pieces wrote kept fresh ps)
  pieces-all wrote kept fresh [] h = tt
  pieces-all wrote kept fresh (p ∷ ps) h = (made (comes_here kept ps) (fresh + 2) p h.0, pieces-all wrote kept (fresh + 2 + new_sets (comes_here kept ps) (groups p)) ps h.1)

  -- the original stays as it is where it is the one part
  pub divided-all : (wrapped : Bool) (wrote : ℕ → List ℕ) (fresh : ℕ) (s : Subtable) (ps : List (List Entry)) → 0 < length ps → whole ps ≡ entries s → (Q (entries s) → P s.sets) → AllByRecursion Q ps → AllByRecursion (λ (t : Subtable). P t.sets) (divided wrapped wrote fresh s ps)
  divided-all wrapped wrote fresh s [] some w one h = absurd (omega arith)
  divided-all wrapped wrote fresh s (kept ∷ []) some w one h = (one (subst (λ (es : List Entry). Q es) (sym (append-nil kept) ∙ w) h.0), tt)
  divided-all wrapped wrote fresh s (kept ∷ p ∷ ps) some w one h =
      let rest = pieces-all wrote kept fresh (p ∷ ps) h.1 in (
        made (λ i. true) 0 kept h.0,
        cond_both wrapped (extended (after_pieces kept fresh (p ∷ ps)) (pieces wrote kept fresh (p ∷ ps))) (pieces wrote kept fresh (p ∷ ps))
            (λ (u : List Subtable). AllByRecursion (λ (t : Subtable). P t.sets) u)
            (λ _. extended_all (λ (t : Subtable). P t.sets) (λ (t : Subtable). P t.sets) (λ e t k. k) (after_pieces kept fresh (p ∷ ps)) (pieces wrote kept fresh (p ∷ ps)) rest)
            (λ _. rest),
      )

-- SIZES
divided_bounded : (bound : ℕ) (wrapped : Bool) (wrote : ℕ → List ℕ) (fresh : ℕ) (s : Subtable) (ps : List (List Entry)) → 0 < length ps → whole ps ≡ entries s → AllByRecursion (λ (p : List Entry). run_size p ≤ bound) ps → AllByRecursion (λ (t : Subtable). subtable_size t ≤ bound) (divided wrapped wrote fresh s ps)
divided_bounded bound wrapped wrote fresh s ps some w h =
    divided-all (λ (ts : List LigatureSet). run_size (sets_from 0 ts) ≤ bound) (λ (p : List Entry). run_size p ≤ bound)
    (λ own fresh p k. let e = made_size own fresh p in omega arith)
    wrapped wrote fresh s ps some w (λ k. k) h

-- none is above the ceiling, if each ligature fits
pub divided_within : (ceiling : ℕ) (wrapped : Bool) (wrote : ℕ → List ℕ) (fresh : ℕ) (s : Subtable) → 16 ≤ ceiling → AllByRecursion (Fits ceiling) (entries s) → AllByRecursion (λ (t : Subtable). subtable_size t ≤ ceiling) (divided wrapped wrote fresh s (parts ceiling (entries s)))
divided_within c wrapped wrote fresh s least f =
    divided_bounded c wrapped wrote fresh s (parts c (entries s)) (parts_some c (entries s)) (joined_parts c (entries s)) (parts_within c (entries s) (record { least = least; short = f }))

-- none is larger than the original
pub divided_no_larger : (ceiling bound : ℕ) (wrapped : Bool) (wrote : ℕ → List ℕ) (fresh : ℕ) (s : Subtable) → subtable_size s ≤ bound → AllByRecursion (λ (t : Subtable). subtable_size t ≤ bound) (divided wrapped wrote fresh s (parts ceiling (entries s)))
divided_no_larger c bound wrapped wrote fresh s h =
    divided_bounded bound wrapped wrote fresh s (parts c (entries s)) (parts_some c (entries s)) (joined_parts c (entries s))
    (parts_no_larger bound (parts c (entries s)) (subst (λ (es : List Entry). run_size es ≤ bound) (sym (joined_parts c (entries s))) h))

pub divisions_do_not_grow_lem : DivisionsDoNotGrow
divisions_do_not_grow_lem c wrapped wrote fresh s = divided_no_larger c (subtable_size s) wrapped wrote fresh s (omega arith)

pub split_all_within : (ceiling : ℕ) (wrapped : Bool) (wrote : ℕ → List ℕ) (fresh : ℕ) (ss : List Subtable) → 16 ≤ ceiling → AllByRecursion (λ (s : Subtable). AllByRecursion (Fits ceiling) (entries s)) ss → AllByRecursion (λ (t : Subtable). subtable_size t ≤ ceiling) (split_all ceiling wrapped wrote fresh ss)
split_all_within c wrapped wrote fresh [] least f = tt
split_all_within c wrapped wrote fresh (s ∷ ss) least f =
    All-append (λ (t : Subtable). subtable_size t ≤ c) (divided wrapped wrote fresh s (parts c (entries s))) (split_all c wrapped wrote (after_divided wrapped fresh (parts c (entries s))) ss)
    (divided_within c wrapped wrote fresh s least f.0)
    (split_all_within c wrapped wrote (after_divided wrapped fresh (parts c (entries s))) ss least f.1)

pub split_all_no_larger : (ceiling bound : ℕ) (wrapped : Bool) (wrote : ℕ → List ℕ) (fresh : ℕ) (ss : List Subtable) → AllByRecursion (λ (s : Subtable). subtable_size s ≤ bound) ss → AllByRecursion (λ (t : Subtable). subtable_size t ≤ bound) (split_all ceiling wrapped wrote fresh ss)
split_all_no_larger c bound wrapped wrote fresh [] h = tt
split_all_no_larger c bound wrapped wrote fresh (s ∷ ss) h =
    All-append (λ (t : Subtable). subtable_size t ≤ bound) (divided wrapped wrote fresh s (parts c (entries s))) (split_all c wrapped wrote (after_divided wrapped fresh (parts c (entries s))) ss)
    (divided_no_larger c bound wrapped wrote fresh s h.0)
    (split_all_no_larger c bound wrapped wrote (after_divided wrapped fresh (parts c (entries s))) ss h.1)

-- OF MODELS
kept_at : (m : Model) (n : ℕ) (l k : Lookup) → nth m.lookups n ≡ Some l → ((bound : ℕ) → Within bound l → Within bound k) → (bound i : ℕ) → WithinAt bound m i → WithinIn bound (nth (set m.lookups n k) i)
kept_at m n l k at h bound i w =
    nth_set_kept (λ (o p : Option Lookup). WithinIn bound p → WithinIn bound o) m.lookups n l k at (h bound) (λ o v. v) i w

pub split_subtables_are_within_the_ceiling_lem : SplitSubtablesAreWithinTheCeiling
split_subtables_are_within_the_ceiling_lem caps wrote m n ceiling c h =
    let a = split_made caps wrote m n ceiling c h in
    let l : Lookup = split_lookup ceiling wrote m.taken.vertices a.lookup in
    subst (λ (after : Model). SplitSizes n ceiling m after) (sym a.made)
    (record {
      within = subst (λ (o : Option Lookup). WithinIn ceiling o) (sym (nth_set_same m.lookups n a.lookup l a.found))
          (split_all_within ceiling (is_wrapped a.lookup) wrote m.taken.vertices a.lookup.subtables a.least (short_subtables ceiling a.lookup.subtables a.short));
      kept = kept_at m n a.lookup l a.found (λ bound w. split_all_no_larger ceiling bound (is_wrapped a.lookup) wrote m.taken.vertices a.lookup.subtables w);
    })

pub wrapping_keeps_sizes_lem : WrappingKeepsSizes
wrapping_keeps_sizes_lem caps m n c h =
    let a = wrap_made caps m n c h in
    subst (λ (after : Model). (bound k : ℕ) → WithinAt bound m k → WithinAt bound after k) (sym a.made)
    (kept_at m n a.lookup (wrap_lookup m.taken.vertices a.lookup) a.found
    (λ bound w. extended_all (λ (s : Subtable). subtable_size s ≤ bound) (λ (s : Subtable). subtable_size s ≤ bound) (λ e s k. k) m.taken.vertices a.lookup.subtables w))

-- HOW MANY
pub length-pieces : (wrote : ℕ → List ℕ) (kept : List Entry) (fresh : ℕ) (ps : List (List Entry)) → length (pieces wrote kept fresh ps) ≡ length ps
length-pieces wrote kept fresh [] = refl
length-pieces wrote kept fresh (p ∷ ps) = ap suc (length-pieces wrote kept (fresh + 2 + new_sets (comes_here kept ps) (groups p)) ps)

pub length_extended : (fresh : ℕ) (ss : List Subtable) → length (extended fresh ss) ≡ length ss
length_extended fresh [] = refl
length_extended fresh (s ∷ ss) = ap suc (length_extended (suc fresh) ss)

pub length-divided : (wrapped : Bool) (wrote : ℕ → List ℕ) (fresh : ℕ) (s : Subtable) (ps : List (List Entry)) → 0 < length ps → length (divided wrapped wrote fresh s ps) ≡ length ps
length-divided wrapped wrote fresh s [] some = absurd (omega arith)
length-divided wrapped wrote fresh s (kept ∷ []) some = refl
length-divided wrapped wrote fresh s (kept ∷ p ∷ ps) some =
    ap suc
    (cond_both wrapped (extended (after_pieces kept fresh (p ∷ ps)) (pieces wrote kept fresh (p ∷ ps))) (pieces wrote kept fresh (p ∷ ps))
    (λ (u : List Subtable). length u ≡ length (p ∷ ps))
    (λ _. length_extended (after_pieces kept fresh (p ∷ ps)) (pieces wrote kept fresh (p ∷ ps)) ∙ length-pieces wrote kept fresh (p ∷ ps))
    (λ _. length-pieces wrote kept fresh (p ∷ ps)))

pub length-split-all : (ceiling : ℕ) (wrapped : Bool) (wrote : ℕ → List ℕ) (fresh : ℕ) (ss : List Subtable) → length (split_all ceiling wrapped wrote fresh ss) ≡ length ss + length (flat_map (cuts ceiling) ss)
length-split-all c wrapped wrote fresh [] = refl
length-split-all c wrapped wrote fresh (s ∷ ss) =
    let a = length-append (divided wrapped wrote fresh s (parts c (entries s))) (split_all c wrapped wrote (after_divided wrapped fresh (parts c (entries s))) ss) in
    let d = length-divided wrapped wrote fresh s (parts c (entries s)) (parts_some c (entries s)) in
    let p = parts_are_cuts_and_one c s in
    let i = length-split-all c wrapped wrote (after_divided wrapped fresh (parts c (entries s))) ss in
    let b = length-append (cuts c s) (flat_map (cuts c) ss) in
    omega arith

pub new_subtables_are_counted_by_cuts_lem : NewSubtablesAreCountedByCuts
new_subtables_are_counted_by_cuts_lem ceiling wrote fresh l = length-split-all ceiling (is_wrapped l) wrote fresh l.subtables
