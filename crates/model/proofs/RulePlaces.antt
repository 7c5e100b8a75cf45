-- A rule's answer points to a ligature of the subtable with the index answered.
use Rattle.std.proofs.Common.{◌≡◌, ℕ, suc, ◌+◌, List, [], ◌∷◌, Some, None, Ok, Option, sym, refl, ap, ◌∙◌, subst, ⊎_elim, arith}
use Rattle.std.specs.List.{flat_map}
use Rattle.model.proofs.LoadLists.{nth_mapped}
use Rattle.model.specs.Forest.{Ligature, LigatureSet, Subtable, Lookup}
use Rattle.model.specs.Rules.{Sourced, sourced, sourced_set, sourced_from, sourced_rules, told, rule_in, nth}
use Rattle.model.specs.ShapingLaws.{RulesStandWhereTold}
use Rattle.model.proofs.Sources.{in_either}

-- in one of some sets
record InSets (n : ℕ) (ts : List LigatureSet) (x : Sourced) : Type 0 where
  set : LigatureSet
  set_at : (i : ℕ) × (nth ts i ≡ Some set)
  ligature : Ligature
  ligature_at : (j : ℕ) × (nth set.ligatures j ≡ Some ligature)
  is : x ≡ sourced n set.first ligature

in_sets : (n : ℕ) (ts : List LigatureSet) (k : ℕ) (x : Sourced) → nth (flat_map (sourced_set n) ts) k ≡ Some x → InSets n ts x
in_sets n [] k x e = cc
in_sets n (t ∷ ts) k x e =
    ⊎_elim
    (λ h. let m = nth_mapped (sourced n t.first) t.ligatures h.0 x h.1 in record { set = t; set_at = (0, refl); ligature = m.0; ligature_at = (h.0, m.1); is = sym m.2 })
    (λ h. let r = in_sets n ts h.0 x h.1 in record { set = r.set; set_at = (suc r.set_at.0, r.set_at.1); ligature = r.ligature; ligature_at = r.ligature_at; is = r.is })
    (in_either (sourced_set n t) (flat_map (sourced_set n) ts) k x e)

-- in one of some subtables, counted from n
record InSubtables (n : ℕ) (ss : List Subtable) (x : Sourced) : Type 0 where
  at : ℕ
  subtable : Subtable
  there : nth ss at ≡ Some subtable
  sets : InSets (n + at) subtable.sets x

in_subtables : (n : ℕ) (ss : List Subtable) (k : ℕ) (x : Sourced) → nth (sourced_from n ss) k ≡ Some x → InSubtables n ss x
in_subtables n [] k x e = cc
in_subtables n (s ∷ ss) k x e =
    ⊎_elim
    (λ h. record { at = 0; subtable = s; there = refl; sets = subst (λ i. InSets i s.sets x) (let z : n ≡ n + 0 = omega arith in z) (in_sets n s.sets h.0 x h.1) })
    (λ h. let r = in_subtables (suc n) ss h.0 x h.1 in record { at = suc r.at; subtable = r.subtable; there = r.there; sets = subst (λ i. InSets i r.subtable.sets x) (let z : suc n + r.at ≡ n + suc r.at = omega arith in z) r.sets })
    (in_either (flat_map (sourced_set n) s.sets) (sourced_from (suc n) ss) k x e)

told_some : (o : Option Sourced) (x : Sourced) → told o ≡ Ok x → o ≡ Some x
told_some None x e = cc
told_some (Some y) x e = cc

pub rules_stand_where_told_lem : RulesStandWhereTold
rules_stand_where_told_lem m n k l x is e =
    let asked : rule_in (Some l) k ≡ Ok x = sym (ap (λ (o : Option Lookup). rule_in o k) is) ∙ e in
    let r = in_subtables 0 l.subtables k x (told_some (nth (sourced_rules l) k) x asked) in
    let q = r.sets in
    let counted : x.subtable ≡ 0 + r.at = ap (λ (z : Sourced). z.subtable) q.is in
    let index : x.subtable ≡ r.at = omega arith in
    record {
      subtable = r.subtable;
      index = ap (nth l.subtables) index ∙ r.there;
      set = q.set;
      set_at = q.set_at;
      ligature = q.ligature;
      ligature_at = q.ligature_at;
      vertex = ap (λ (z : Sourced). z.vertex) q.is;
      rule = ap (λ (z : Sourced). z.rule) q.is;
    }
