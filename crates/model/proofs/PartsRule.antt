-- The parts of a run of entries: they keep the cutting rule, and no other parts do.
use Rattle.std.proofs.Common.{◌≡◌, ℕ, zero, suc, ◌+◌, ◌<◌, ◌≤◌, Bool, cond, List, [], ◌∷◌, ◌++◌, length, get_or, None, sum_by, sym, refl, ap, ◌∙◌, subst, ⊎_elim, append_assoc, append-nil, arith, length-append}
use Rattle.std.specs.List.{flat_map, AllByRecursion}
use Rattle.std.proofs.ByRecursion.{All-get_or, All-from_get_or, All-weaker}
use Rattle.std.proofs.lemmas.Bool.{cases_lt, le-leb, lt-leb, cond-true, cond-false}
use Rattle.std.proofs.lemmas.Bool.Decides.{nat_tests}
use Rattle.model.specs.Forest.{Subtable, Lookup, Model}
use Rattle.model.specs.Cutting.{Entry, entries, table_length, run_size, parts_from, parts, nth_part, Cut, cuts_of, cuts_before, cuts, Forced, last, next, CutRule}
use Rattle.model.specs.Splitting.{Part, Bill, is_wrapped, divided, after_divided, split_all, split_lookup, all_cuts, cut_vertices, cut_links, divided_parts, all_parts, lookup_part, split_bill, long_in, first_long}
use Rattle.model.specs.CuttingLaws.{Fit, Fitting, Filled, CutsFollowTheRule, RuleAllowsOnlyThese, Meets, Uncut, Before}
use Rattle.model.proofs.Lists.{joined_all, all_joined}
use Rattle.model.proofs.PartsSize.{run_size_none, run_size_one, run_size_front}

abbrev pub whole : List (List Entry) → List Entry
whole ps = flat_map (λ (p : List Entry). p) ps

module _ (c : ℕ) where
  -- the two ways of the walk
  pub parts_on : (run : List Entry) (e : Entry) (es : List Entry) → run_size (run ++ e ∷ []) ≤ c → parts_from c run (e ∷ es) ≡ parts_from c (run ++ e ∷ []) es
  parts_on run e es le = cond-true _ _ _ (le-leb (run_size (run ++ e ∷ [])) c le)

  pub parts_cut : (run : List Entry) (e : Entry) (es : List Entry) → c < run_size (run ++ e ∷ []) → parts_from c run (e ∷ es) ≡ run ∷ parts_from c (e ∷ []) es
  parts_cut run e es lt = cond-false _ _ _ (lt-leb (run_size (run ++ e ∷ [])) c lt)

  -- what holds of both ways
  module _ (P : List (List Entry) → Type 0) (run : List Entry) (e : Entry) (es : List Entry) where
    either_way : (run_size (run ++ e ∷ []) ≤ c → P (parts_from c (run ++ e ∷ []) es)) → (c < run_size (run ++ e ∷ []) → P (run ∷ parts_from c (e ∷ []) es)) → P (parts_from c run (e ∷ es))
    either_way on cut =
        ⊎_elim
        (λ lt. subst P (sym (parts_cut run e es lt)) (cut lt))
        (λ le. subst P (sym (parts_on run e es le)) (on le))
        (cases_lt c (run_size (run ++ e ∷ [])))

  pub joined_from : (run es : List Entry) → whole (parts_from c run es) ≡ run ++ es
  joined_from run [] = refl
  joined_from run (e ∷ es) =
      either_way (λ (ps : List (List Entry)). whole ps ≡ run ++ e ∷ es) run e es
      (λ le. joined_from (run ++ e ∷ []) es ∙ append_assoc run (e ∷ []) es)
      (λ lt. ap (λ t. run ++ t) (joined_from (e ∷ []) es))

  abbrev pub Within : List Entry → Type 0
  Within p = run_size p ≤ c

  alone_fits : (e : Entry) → table_length e.ligature + 12 ≤ c → Within (e ∷ [])
  alone_fits e le = let h = run_size_one e in omega arith

  within_from : (run es : List Entry) → Within run → AllByRecursion (λ (e : Entry). table_length e.ligature + 12 ≤ c) es → AllByRecursion Within (parts_from c run es)
  within_from run [] w a = (w, tt)
  within_from run (e ∷ es) w a =
      either_way (AllByRecursion Within) run e es
      (λ le. within_from (run ++ e ∷ []) es le a.1)
      (λ lt. (w, within_from (e ∷ []) es (alone_fits e a.0) a.1))

  -- the first part begins with the run at hand
  pub record Begins (run : List Entry) (ps : List (List Entry)) : Type 0 where
    pub rest : List Entry
    pub later : List (List Entry)
    pub is : ps ≡ (run ++ rest) ∷ later

  begins_from : (run es : List Entry) → Begins run (parts_from c run es)
  begins_from run [] = record { rest = []; later = []; is = ap (λ (t : List Entry). t ∷ []) (sym (append-nil run)) }
  begins_from run (e ∷ es) =
      either_way (Begins run) run e es
      (λ le.
      let b = begins_from (run ++ e ∷ []) es in
      record { rest = e ∷ b.rest; later = b.later; is = b.is ∙ ap (λ (t : List Entry). t ∷ b.later) (append_assoc run (e ∷ []) b.rest) })
      (λ lt. record { rest = []; later = parts_from c (e ∷ []) es; is = ap (λ (t : List Entry). t ∷ parts_from c (e ∷ []) es) (sym (append-nil run)) })

  forced_next : (run : List Entry) (e : Entry) (ps : List (List Entry)) → c < run_size (run ++ e ∷ []) → Begins (e ∷ []) ps → Forced c ps → Forced c (run ∷ ps)
  forced_next run e ps lt b f =
      subst (λ (t : List (List Entry)). Forced c (run ∷ t)) (sym b.is)
      (next e b.rest refl lt (subst (Forced c) b.is f))

  forced_from : (run es : List Entry) → Forced c (parts_from c run es)
  forced_from run [] = last
  forced_from run (e ∷ es) =
      either_way (Forced c) run e es
      (λ le. forced_from (run ++ e ∷ []) es)
      (λ lt. forced_next run e (parts_from c (e ∷ []) es) lt (begins_from (e ∷ []) es) (forced_from (e ∷ []) es))

  pub filled_from : (run es : List Entry) → Filled run → AllByRecursion Filled (parts_from c run es)
  filled_from run [] f = (f, tt)
  filled_from run (e ∷ es) f =
      either_way (AllByRecursion Filled) run e es
      (λ le. filled_from (run ++ e ∷ []) es (let h = length-append run (e ∷ []) in omega arith))
      (λ lt. (f, filled_from (e ∷ []) es (omega arith)))

  pub some_from : (run es : List Entry) → 0 < length (parts_from c run es)
  some_from run es = let h = ap length (begins_from run es).is in omega arith

-- THE PARTS OF ENTRIES
module _ (c : ℕ) (es : List Entry) where
  pub parts_some : 0 < length (parts c es)
  parts_some = some_from c [] es

  pub joined_parts : whole (parts c es) ≡ es
  joined_parts = joined_from c [] es

  pub forced_parts : Forced c (parts c es)
  forced_parts = forced_from c [] es

  pub parts_within : Fit c es → AllByRecursion (Within c) (parts c es)
  parts_within f = within_from c [] es (let h = run_size_none in let k = f.least in omega arith) f.short

  pub part_within : Fit c es → (k : ℕ) → k < length (parts c es) → run_size (nth_part (parts c es) k) ≤ c
  part_within f k lt = All-get_or (Within c) (parts c es) k [] lt (parts_within f)

  pub parts_rule : Fit c es → CutRule c es (parts c es)
  parts_rule f = record { whole = joined_parts; within = part_within f; forced = forced_parts }

pub parts_filled : (c : ℕ) (es : List Entry) → Fit c es → 0 < length es → AllByRecursion Filled (parts c es)
parts_filled c [] f some = absurd (omega arith)
parts_filled c (e ∷ es) f some =
    subst (AllByRecursion Filled) (sym (parts_on c [] e es (alone_fits c e f.short.0))) (filled_from c (e ∷ []) es (omega arith))

pub follow_the_rule : CutsFollowTheRule
follow_the_rule c es f = (parts_rule c es f, parts_filled c es f)

-- NO OTHER PARTS
module _ (c : ℕ) where
  -- entries that keep the run within the ceiling are taken without a cut
  pub parts_through : (run rest tail : List Entry) → Within c (run ++ rest) → parts_from c run (rest ++ tail) ≡ parts_from c (run ++ rest) tail
  parts_through run [] tail w = ap (λ (t : List Entry). parts_from c t tail) (sym (append-nil run))
  parts_through run (e ∷ rest) tail w =
      let a = append_assoc run (e ∷ []) rest in
      let w' : Within c ((run ++ e ∷ []) ++ rest) = subst (Within c) (sym a) w in
      let m = run_size_front (run ++ e ∷ []) rest in
      parts_on c run e (rest ++ tail) (omega arith)
      ∙ parts_through (run ++ e ∷ []) rest tail w' ∙ ap (λ (t : List Entry). parts_from c t tail) a

  only_from : (p : List Entry) (ps : List (List Entry)) → Forced c (p ∷ ps) → AllByRecursion (Within c) ps → parts_from c p (whole ps) ≡ p ∷ ps
  only_from p [] f w = refl
  only_from p (q ∷ ps) (next e rest is lt f) w =
      ap (λ (t : List Entry). parts_from c p (t ++ whole ps)) is
      ∙ parts_cut c p e (rest ++ whole ps) lt
      ∙ ap (λ (t : List (List Entry)). p ∷ t)
      (parts_through (e ∷ []) rest (whole ps) (subst (Within c) is w.0)
      ∙ ap (λ (t : List Entry). parts_from c t (whole ps)) (sym is)
      ∙ only_from q ps f w.1)

  forced_some : Forced c [] → ⊥
  forced_some f = elim f [ ]

  only_parts : (es : List Entry) (ps : List (List Entry)) → whole ps ≡ es → AllByRecursion (Within c) ps → Forced c ps → ps ≡ parts c es
  only_parts es [] j w f = absurd (forced_some f)
  only_parts es (p ∷ ps) j w f =
      sym (only_from p ps f w.1) ∙ sym (parts_through [] p (whole ps) w.0) ∙ ap (parts c) j

pub rule_allows_only : RuleAllowsOnlyThese
rule_allows_only c es ps r = only_parts c es ps r.whole (All-from_get_or (Within c) ps [] r.within) r.forced

-- CUTS BETWEEN PARTS
module _ (c : ℕ) where
  one_cut : (q : List Entry) (e : Entry) (rest : List Entry) → q ≡ e ∷ rest → length (cuts_of q) ≡ 1
  one_cut q e rest is = ap (λ (t : List Entry). length (cuts_of t)) is

  length_behind : (p : List Entry) (ps : List (List Entry)) → Forced c (p ∷ ps) → length (flat_map cuts_of ps) ≡ length ps
  length_behind p [] f = refl
  length_behind p (q ∷ ps) (next e rest is lt f) =
      let h = length_behind q ps f in
      let o = one_cut q e rest is in
      let a = length-append (cuts_of q) (flat_map cuts_of ps) in
      omega arith

  length_between : (ps : List (List Entry)) → Forced c ps → length ps ≡ suc (length (cuts_before ps))
  length_between [] f = absurd (forced_some c f)
  length_between (p ∷ ps) f = let h = length_behind p ps f in omega arith

  pub length_cuts : (s : Subtable) → length (parts c (entries s)) ≡ suc (length (cuts c s))
  length_cuts s = length_between (parts c (entries s)) (forced_parts c (entries s))

  cuts_behind : (q : List Entry) (ps : List (List Entry)) (e : Entry) (rest : List Entry) → q ≡ e ∷ rest → flat_map cuts_of (q ∷ ps) ≡ record { set = e.set; place = e.place } ∷ flat_map cuts_of ps
  cuts_behind q ps e rest is = ap (λ (t : List Entry). cuts_of t ++ flat_map cuts_of ps) is

  named_behind : (p : List Entry) (ps : List (List Entry)) → Forced c (p ∷ ps) → (k : ℕ) (d : Cut) → k < length (flat_map cuts_of ps) → Before (get_or (flat_map cuts_of ps) k d) (nth_part (p ∷ ps) (suc k))
  named_behind p [] f k d lt = absurd (omega arith)
  named_behind p (q ∷ ps) (next e rest is over f) zero d lt =
      subst (λ (cs : List Cut). Before (get_or cs 0 d) q) (sym (cuts_behind q ps e rest is))
      (record { entry = e; rest = rest; part = is; set = refl; place = refl })
  named_behind p (q ∷ ps) (next e rest is over f) (suc k) d lt =
      let cs = cuts_behind q ps e rest is in
      let n = ap length cs in
      subst (λ (cs : List Cut). Before (get_or cs (suc k) d) (nth_part (q ∷ ps) (suc k))) (sym cs) (named_behind q ps f k d (omega arith))

  named_between : (ps : List (List Entry)) → Forced c ps → (k : ℕ) (d : Cut) → k < length (cuts_before ps) → Before (get_or (cuts_before ps) k d) (nth_part ps (suc k))
  named_between [] f k d lt = absurd (forced_some c f)
  named_between (p ∷ ps) f k d lt = named_behind p ps f k d lt

  pub cut_named : (s : Subtable) (k : ℕ) (d : Cut) → k < length (cuts c s) → Before (get_or (cuts c s) k d) (nth_part (parts c (entries s)) (suc k))
  cut_named s k d lt = named_between (parts c (entries s)) (forced_parts c (entries s)) k d lt

  pub one_part : (es : List Entry) → run_size es ≤ c → parts c es ≡ es ∷ []
  one_part es le = sym (only_parts c es (es ∷ []) (append-nil es) (le, tt) last)

  pub one_part_met : (es : List Entry) → Fit c es → parts c es ≡ es ∷ [] → run_size es ≤ c
  one_part_met es f is = (subst (AllByRecursion (Within c)) is (parts_within c es f)).0

  pub no_cuts : (s : Subtable) → Meets c s → cuts c s ≡ []
  no_cuts s le = ap cuts_before (one_part (entries s) le)

  -- a single part is the whole
  only_one : (es : List Entry) (ps : List (List Entry)) → whole ps ≡ es → length ps ≡ 1 → ps ≡ es ∷ []
  only_one es [] j n = absurd (omega arith)
  only_one es (p ∷ []) j n = ap (λ (t : List Entry). t ∷ []) (sym (append-nil p) ∙ j)
  only_one es (p ∷ q ∷ ps) j n = absurd (omega arith)

  pub no_cuts_met : (s : Subtable) → Fit c (entries s) → cuts c s ≡ [] → Meets c s
  no_cuts_met s f none =
      let n = length_cuts s in
      let z : length (cuts c s) ≡ 0 = ap length none in
      one_part_met (entries s) f (only_one (entries s) (parts c (entries s)) (joined_parts c (entries s)) (omega arith))

  no_cuts_all : (ss : List Subtable) → AllByRecursion (Meets c) ss → flat_map (cuts c) ss ≡ []
  no_cuts_all [] a = refl
  no_cuts_all (s ∷ ss) a = ap (λ (t : List Cut). t ++ flat_map (cuts c) ss) (no_cuts s a.0) ∙ no_cuts_all ss a.1

  pub no_cuts_lookup : (l : Lookup) → AllByRecursion (Meets c) l.subtables → all_cuts c l ≡ []
  no_cuts_lookup l a = no_cuts_all l.subtables a

none_more : (b : Bool) (n : ℕ) → n + cond b 0 0 ≡ n
none_more b n = grind arith

-- NOTHING CHANGES without a cut
module _ (c : ℕ) (wrapped : Bool) where
  divided_same : (wrote : ℕ → List ℕ) (fresh : ℕ) (s : Subtable) → Meets c s → divided wrapped wrote fresh s (parts c (entries s)) ≡ s ∷ []
  divided_same wrote fresh s le = ap (divided wrapped wrote fresh s) (one_part c (entries s) le)

  after_same : (fresh : ℕ) (s : Subtable) → Meets c s → after_divided wrapped fresh (parts c (entries s)) ≡ fresh
  after_same fresh s le = ap (after_divided wrapped fresh) (one_part c (entries s) le) ∙ none_more wrapped fresh

  subtables_same : (wrote : ℕ → List ℕ) (fresh : ℕ) (ss : List Subtable) → AllByRecursion (Meets c) ss → split_all c wrapped wrote fresh ss ≡ ss
  subtables_same wrote fresh [] a = refl
  subtables_same wrote fresh (s ∷ ss) a =
      ap (λ (t : List Subtable). t ++ split_all c wrapped wrote (after_divided wrapped fresh (parts c (entries s))) ss) (divided_same wrote fresh s a.0)
      ∙ ap (λ (n : ℕ). s ∷ split_all c wrapped wrote n ss) (after_same fresh s a.0)
      ∙ ap (λ (t : List Subtable). s ∷ t) (subtables_same wrote fresh ss a.1)

  none_taken : (fresh : ℕ) (ss : List Subtable) → AllByRecursion (Meets c) ss → all_parts c wrapped fresh ss ≡ []
  none_taken fresh [] a = refl
  none_taken fresh (s ∷ ss) a =
      ap (λ (t : List Part). t ++ all_parts c wrapped (after_divided wrapped fresh (parts c (entries s))) ss) (ap (divided_parts wrapped fresh s) (one_part c (entries s) a.0))
      ∙ ap (λ (n : ℕ). all_parts c wrapped n ss) (after_same fresh s a.0)
      ∙ none_taken fresh ss a.1

pub split_same : (c : ℕ) (wrote : ℕ → List ℕ) (fresh : ℕ) (l : Lookup) → AllByRecursion (Meets c) l.subtables → split_lookup c wrote fresh l ≡ l
split_same c wrote fresh l a =
    ap (λ (ss : List Subtable). record { vertex = l.vertex; kind = l.kind; flag = l.flag; mark = l.mark; subtables = ss }) (subtables_same c (is_wrapped l) wrote fresh l.subtables a)

pub split_free : (c : ℕ) (m : Model) (l : Lookup) → AllByRecursion (Meets c) l.subtables → split_bill c m l ≡ record { vertices = 0; links = 0; bytes = 0 }
split_free c m l a =
    let none = no_cuts_lookup c l a in
    let bill : List Cut → List Part → Bill
    = λ cs ps. record { vertices = sum_by (cut_vertices (is_wrapped l)) cs; links = sum_by (cut_links (is_wrapped l)) cs; bytes = sum_by (λ (p : Part). p.reserved) ps } in
    ap (λ (cs : List Cut). bill cs (all_parts c (is_wrapped l) m.taken.vertices l.subtables ++ lookup_part c l cs)) none
    ∙ ap (λ (ps : List Part). bill [] (ps ++ [])) (none_taken c (is_wrapped l) m.taken.vertices l.subtables a)

pub uncut : Uncut
uncut =
    record {
      between = length_cuts;
      one = one_part;
      met = one_part_met;
      none = no_cuts;
      only = no_cuts_met;
      lookup = no_cuts_lookup;
      same = split_same;
      free = split_free;
    }

-- WHEN ENTRIES FIT: no ligature was refused as too long
abbrev pub Fits : ℕ → Entry → Type 0
Fits ceiling e = table_length e.ligature + 12 ≤ ceiling

module _ (c : ℕ) where
  short_entries : (es : List Entry) → long_in c es ≡ None → AllByRecursion (Fits c) es
  short_entries [] n = tt
  short_entries (e ∷ es) n = (grind (arith, nat_tests), short_entries es (grind (arith, nat_tests)))

  pub short_subtables : (ss : List Subtable) → first_long c ss ≡ None → AllByRecursion (λ (s : Subtable). AllByRecursion (Fits c) (entries s)) ss
  short_subtables ss n = joined_all (Fits c) entries ss (short_entries (flat_map entries ss) n)

  pub fit_entries : 16 ≤ c → (es : List Entry) → long_in c es ≡ None → Fit c es
  fit_entries least es n = record { least = least; short = short_entries es n }

  pub fit_subtables : 16 ≤ c → (ss : List Subtable) → first_long c ss ≡ None → AllByRecursion (λ (s : Subtable). Fit c (entries s)) ss
  fit_subtables least ss n =
      All-weaker (λ (s : Subtable). AllByRecursion (Fits c) (entries s)) (λ (s : Subtable). Fit c (entries s)) (λ s a. record { least = least; short = a }) ss (short_subtables ss n)

  long_none : (es : List Entry) → AllByRecursion (Fits c) es → long_in c es ≡ None
  long_none [] a = refl
  long_none (e ∷ es) a = grind (arith, nat_tests, a.0, long_none es a.1)

  pub fit_none_long : (ss : List Subtable) → AllByRecursion (λ (s : Subtable). Fit c (entries s)) ss → first_long c ss ≡ None
  fit_none_long ss a =
      long_none (flat_map entries ss)
      (all_joined (Fits c) entries ss (All-weaker (λ (s : Subtable). Fit c (entries s)) (λ (s : Subtable). AllByRecursion (Fits c) (entries s)) (λ s f. f.short) ss a))

pub fitting : Fitting
fitting = record { fits = λ c ss least none. fit_subtables c least ss none; short = fit_none_long }
