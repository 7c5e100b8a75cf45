-- Accepted splits and wraps of a model: what they met and made; each lookup keeps its rules and their vertices.
use Rattle.std.proofs.Common.{◌≡◌, ℕ, zero, suc, ◌≤◌, Bool, true, false, cond, ◌&&◌, leb, List, [], ◌∷◌, ◌++◌, map, length, set, Some, None, Ok, Err, Option, Result, sym, refl, ap, ◌∙◌, subst}
use Rattle.std.specs.List.{flat_map}
use Rattle.std.proofs.lemmas.List.{map-append, length-set}
use Rattle.std.proofs.lemmas.Bool.{leb-true, and_parts}
use Rattle.std.proofs.lemmas.Option.{same_Some}
use Rattle.refusals.specs.declared.Pool.{Pool}
use Rattle.refusals.specs.declared.Refusal.{Refusal}
use Rattle.refusals.specs.declared.Refusal.TheVariants.{NoLookup, BadCeiling, TooManySubtables, IsExtension, NoRule}
use Rattle.model.specs.Forest.{Ligature, Subtable, Lookup, Model}
use Rattle.model.specs.Rules.{Rule, Sourced, rule_of, Shaped, subtable_rules, rules_of, sourced, sourced_set, sourced_from, sourced_rules, shape_by, shape_in, told, rule_in, nth}
use Rattle.model.specs.Cutting.{entries, parts}
use Rattle.model.specs.Splitting.{Capacities, Changed, Bill, divided, split_lookup, is_wrapped, split_bill, room_for, with_lookup, all_cuts, first_long, subtables_after, subtable_limit, noted, split_with, split_short, split_in, split, wrap_bill, wrap_lookup, wrap_in, wrap}
use Rattle.model.specs.KeepingLaws.{Headed, SplittingKeepsHeads, WrappingKeepsHeads, Named, named, named_rules, answered, rules_in, named_in, SameRules, DivisionsKeepRules, SplittingKeepsRules, WrappingKeepsRules}
use Rattle.model.proofs.Lists.{nth_set_same, nth_set_other, nth_set_kept}
use Rattle.model.proofs.KeepTelling.{subtable_tells, divided_tells, split_all_tells, extended_tell, tells_map}
use Rattle.model.proofs.PartsRule.{joined_parts}

-- RULES OF A LOOKUP
pub divided_keeps_rules : (ceiling : ℕ) (wrapped : Bool) (wrote : ℕ → List ℕ) (fresh : ℕ) (s : Subtable) → flat_map subtable_rules (divided wrapped wrote fresh s (parts ceiling (entries s))) ≡ subtable_rules s
divided_keeps_rules c wrapped wrote fresh s = divided_tells rule_of wrapped wrote fresh s (parts c (entries s)) (joined_parts c (entries s))

pub split_lookup_keeps_rules : (ceiling : ℕ) (wrote : ℕ → List ℕ) (fresh : ℕ) (l : Lookup) → rules_of (split_lookup ceiling wrote fresh l) ≡ rules_of l
split_lookup_keeps_rules c wrote fresh l = split_all_tells rule_of c (is_wrapped l) wrote fresh l.subtables

pub wrap_lookup_keeps_rules : (fresh : ℕ) (l : Lookup) → rules_of (wrap_lookup fresh l) ≡ rules_of l
wrap_lookup_keeps_rules fresh l = extended_tell rule_of fresh l.subtables

-- with the ligature's vertex
abbrev pub named_of : ℕ → Ligature → Named
named_of first g = record { vertex = g.vertex; rule = rule_of first g }

named_from : (n : ℕ) (ss : List Subtable) → map named (sourced_from n ss) ≡ flat_map (subtable_tells named_of) ss
named_from n [] = refl
named_from n (s ∷ ss) =
    map-append named (flat_map (sourced_set n) s.sets) (sourced_from (suc n) ss)
    ∙ ap (λ u. u ++ map named (sourced_from (suc n) ss)) (tells_map named (sourced n) s.sets)
    ∙ ap (λ u. subtable_tells named_of s ++ u) (named_from (suc n) ss)

pub named_rules_lem : (l : Lookup) → named_rules l ≡ flat_map (subtable_tells named_of) l.subtables
named_rules_lem l = named_from 0 l.subtables

pub split_lookup_keeps_named : (ceiling : ℕ) (wrote : ℕ → List ℕ) (fresh : ℕ) (l : Lookup) → named_rules (split_lookup ceiling wrote fresh l) ≡ named_rules l
split_lookup_keeps_named c wrote fresh l = named_rules_lem (split_lookup c wrote fresh l) ∙ split_all_tells named_of c (is_wrapped l) wrote fresh l.subtables ∙ sym (named_rules_lem l)

pub wrap_lookup_keeps_named : (fresh : ℕ) (l : Lookup) → named_rules (wrap_lookup fresh l) ≡ named_rules l
wrap_lookup_keeps_named fresh l = named_rules_lem (wrap_lookup fresh l) ∙ extended_tell named_of fresh l.subtables ∙ sym (named_rules_lem l)

-- ANSWERS follow from the rules
abbrev shape_if : Option (List Rule) → List ℕ → ℕ → Result Shaped Refusal
shape_if None s p = Err NoLookup
shape_if (Some rs) s p = shape_by rs s p

shape_in_lem : (o : Option Lookup) (s : List ℕ) (p : ℕ) → shape_in o s p ≡ shape_if (rules_in o) s p
shape_in_lem None s p = refl
shape_in_lem (Some l) s p = refl

abbrev name_told : Option Named → Result Named Refusal
name_told None = Err NoRule
name_told (Some r) = Ok r

abbrev answer_by : Option (List Named) → ℕ → Result Named Refusal
answer_by None j = Err NoLookup
answer_by (Some rs) j = name_told (nth rs j)

told_named : (rs : List Sourced) (j : ℕ) → answered (told (nth rs j)) ≡ name_told (nth (map named rs) j)
told_named [] j = refl
told_named (r ∷ rs) zero = refl
told_named (r ∷ rs) (suc j) = told_named rs j

rule_in_lem : (o : Option Lookup) (j : ℕ) → answered (rule_in o j) ≡ answer_by (named_in o) j
rule_in_lem None j = refl
rule_in_lem (Some l) j = told_named (sourced_rules l) j

-- a lookup put in place of one that has the same rules
pub same_rules : (m : Model) (n : ℕ) (l k : Lookup) (b : Bill) → nth m.lookups n ≡ Some l → rules_of k ≡ rules_of l → named_rules k ≡ named_rules l → SameRules n m (with_lookup m n k b)
same_rules m n l k b at r v =
    let rs : (i : ℕ) → rules_in (nth (set m.lookups n k) i) ≡ rules_in (nth m.lookups i) =
    nth_set_kept (λ (o p : Option Lookup). rules_in o ≡ rules_in p) m.lookups n l k at (ap Some r) (λ o. refl) in
    let vs : (i : ℕ) → named_in (nth (set m.lookups n k) i) ≡ named_in (nth m.lookups i) =
    nth_set_kept (λ (o p : Option Lookup). named_in o ≡ named_in p) m.lookups n l k at (ap Some v) (λ o. refl) in
    record {
      rules = rs;
      named = vs;
      shapes = λ i s p. shape_in_lem (nth (set m.lookups n k) i) s p ∙ ap (λ o. shape_if o s p) (rs i) ∙ sym (shape_in_lem (nth m.lookups i) s p);
      answers = λ i j. rule_in_lem (nth (set m.lookups n k) i) j ∙ ap (λ o. answer_by o j) (vs i) ∙ sym (rule_in_lem (nth m.lookups i) j);
      others = λ i ne. nth_set_other m.lookups n i k ne;
      count = length-set m.lookups n k;
    }

-- WHAT AN ACCEPTED SPLIT MET AND MADE
abbrev pub split_to : (ℕ → List ℕ) → Model → ℕ → ℕ → Lookup → Changed
split_to wrote m n ceiling l =
    record { model = with_lookup m n (split_lookup ceiling wrote m.taken.vertices l) (split_bill ceiling m l); count = length (all_cuts ceiling l) }

pub record SplitMade (caps : Capacities) (wrote : ℕ → List ℕ) (m : Model) (n ceiling : ℕ) (c : Changed) : Type 0 where
  pub lookup : Lookup
  pub found : nth m.lookups n ≡ Some lookup
  pub least : 16 ≤ ceiling
  pub most : ceiling ≤ 65535
  pub short : first_long ceiling lookup.subtables ≡ None
  pub few : subtables_after ceiling lookup ≤ subtable_limit
  pub room : room_for caps m.taken (split_bill ceiling m lookup) ≡ None
  pub is : c ≡ split_to wrote m n ceiling lookup
  pub made : c.model ≡ with_lookup m n (split_lookup ceiling wrote m.taken.vertices lookup) (split_bill ceiling m lookup)

cond_ok : (b : Bool) (x : Result Changed Refusal) (r : Refusal) (c : Changed) → cond b x (Err r) ≡ Ok c → (b ≡ true) × (x ≡ Ok c)
cond_ok true x r c h = (refl, h)
cond_ok false x r c h = cc

noted_ok : (o : Option Pool) (d c : Changed) → noted o d ≡ Ok c → (o ≡ None) × (c ≡ d)
noted_ok None d c h = (refl, (cc))
noted_ok (Some p) d c h = cc

module _ (caps : Capacities) (wrote : ℕ → List ℕ) (m : Model) (n ceiling : ℕ) (c : Changed) where
  made_short : (l : Lookup) (o : Option ℕ) → split_short caps wrote m n ceiling l o ≡ Ok c → (o ≡ None) × (cond (leb (subtables_after ceiling l) subtable_limit) (split_with caps wrote m n ceiling l) (Err (TooManySubtables l.vertex)) ≡ Ok c)
  made_short l None h = (refl, h)
  made_short l (Some v) h = cc

  made_in : (o : Option Lookup) → nth m.lookups n ≡ o → split_in caps wrote m n ceiling o ≡ Ok c → SplitMade caps wrote m n ceiling c
  made_in None at h = cc
  made_in (Some l) at h =
      let a = cond_ok (leb 16 ceiling && leb ceiling 65535) (split_short caps wrote m n ceiling l (first_long ceiling l.subtables)) BadCeiling c h in
      let b = and_parts (leb 16 ceiling) (leb ceiling 65535) a.0 in
      let s = made_short l (first_long ceiling l.subtables) a.1 in
      let t = cond_ok (leb (subtables_after ceiling l) subtable_limit) (split_with caps wrote m n ceiling l) (TooManySubtables l.vertex) c s.1 in
      let r = noted_ok (room_for caps m.taken (split_bill ceiling m l)) (split_to wrote m n ceiling l) c t.1 in
      record {
        lookup = l;
        found = at;
        least = leb-true 16 ceiling b.0;
        most = leb-true ceiling 65535 b.1;
        short = s.0;
        few = leb-true (subtables_after ceiling l) subtable_limit t.0;
        room = r.0;
        is = r.1;
        made = ap (λ (d : Changed). d.model) r.1;
      }

  pub split_made : split caps wrote m n ceiling ≡ Ok c → SplitMade caps wrote m n ceiling c
  split_made h = made_in (nth m.lookups n) refl h

  -- of a lookup known beforehand
  pub split_is : (l : Lookup) → nth m.lookups n ≡ Some l → split caps wrote m n ceiling ≡ Ok c → split_to wrote m n ceiling l ≡ c
  split_is l was h =
      let s = split_made h in
      ap (split_to wrote m n ceiling) (same_Some _ _ (sym was ∙ s.found)) ∙ sym s.is

-- WHAT AN ACCEPTED WRAP MET AND MADE
abbrev pub wrap_to : Model → ℕ → Lookup → Changed
wrap_to m n l = record { model = with_lookup m n (wrap_lookup m.taken.vertices l) (wrap_bill l); count = length l.subtables }

pub record WrapMade (caps : Capacities) (m : Model) (n : ℕ) (c : Changed) : Type 0 where
  pub lookup : Lookup
  pub found : nth m.lookups n ≡ Some lookup
  pub plain : is_wrapped lookup ≡ false
  pub room : room_for caps m.taken (wrap_bill lookup) ≡ None
  pub is : c ≡ wrap_to m n lookup
  pub made : c.model ≡ with_lookup m n (wrap_lookup m.taken.vertices lookup) (wrap_bill lookup)

cond_ok_else : (b : Bool) (x : Result Changed Refusal) (r : Refusal) (c : Changed) → cond b (Err r) x ≡ Ok c → (b ≡ false) × (x ≡ Ok c)
cond_ok_else false x r c h = (refl, h)
cond_ok_else true x r c h = cc

module _ (caps : Capacities) (m : Model) (n : ℕ) (c : Changed) where
  wrapped_in : (o : Option Lookup) → nth m.lookups n ≡ o → wrap_in caps m n o ≡ Ok c → WrapMade caps m n c
  wrapped_in None at h = cc
  wrapped_in (Some l) at h =
      let a = cond_ok_else (is_wrapped l) (noted (room_for caps m.taken (wrap_bill l)) (wrap_to m n l)) IsExtension c h in
      let r = noted_ok (room_for caps m.taken (wrap_bill l)) (wrap_to m n l) c a.1 in
      record {
        lookup = l;
        found = at;
        plain = a.0;
        room = r.0;
        is = r.1;
        made = ap (λ (d : Changed). d.model) r.1;
      }

  pub wrap_made : wrap caps m n ≡ Ok c → WrapMade caps m n c
  wrap_made h = wrapped_in (nth m.lookups n) refl h

  -- of a lookup known beforehand
  pub wrap_is : (l : Lookup) → nth m.lookups n ≡ Some l → wrap caps m n ≡ Ok c → (is_wrapped l ≡ false) × (wrap_to m n l ≡ c)
  wrap_is l was h =
      let s = wrap_made h in
      let same : l ≡ s.lookup = same_Some _ _ (sym was ∙ s.found) in
      (ap is_wrapped same ∙ s.plain, ap (wrap_to m n) same ∙ sym s.is)

-- THEOREMS
pub divisions_keep_rules_lem : DivisionsKeepRules
divisions_keep_rules_lem = divided_keeps_rules

pub splitting_keeps_rules_lem : SplittingKeepsRules
splitting_keeps_rules_lem caps wrote m n ceiling c h =
    let a = split_made caps wrote m n ceiling c h in
    subst (λ (after : Model). SameRules n m after) (sym a.made)
    (same_rules m n a.lookup (split_lookup ceiling wrote m.taken.vertices a.lookup) (split_bill ceiling m a.lookup) a.found
    (split_lookup_keeps_rules ceiling wrote m.taken.vertices a.lookup)
    (split_lookup_keeps_named ceiling wrote m.taken.vertices a.lookup))

pub wrapping_keeps_rules_lem : WrappingKeepsRules
wrapping_keeps_rules_lem caps m n c h =
    let a = wrap_made caps m n c h in
    subst (λ (after : Model). SameRules n m after) (sym a.made)
    (same_rules m n a.lookup (wrap_lookup m.taken.vertices a.lookup) (wrap_bill a.lookup) a.found
    (wrap_lookup_keeps_rules m.taken.vertices a.lookup)
    (wrap_lookup_keeps_named m.taken.vertices a.lookup))

-- HEADS
pub splitting_keeps_heads : SplittingKeepsHeads
splitting_keeps_heads caps wrote m n ceiling l c was h =
    let after = split_lookup ceiling wrote m.taken.vertices l in
    subst (λ (d : Changed). Headed l.kind l (nth d.model.lookups n)) (split_is caps wrote m n ceiling c l was h)
    (record { lookup = after; there = nth_set_same m.lookups n l after was; kind = refl; vertex = refl; flag = refl; mark = refl })

pub wrapping_keeps_heads : WrappingKeepsHeads
wrapping_keeps_heads caps m n l c was h =
    let after = wrap_lookup m.taken.vertices l in
    subst (λ (d : Changed). Headed 7 l (nth d.model.lookups n)) (wrap_is caps m n c l was h).1
    (record { lookup = after; there = nth_set_same m.lookups n l after was; kind = refl; vertex = refl; flag = refl; mark = refl })
