-- The law, from what is known of one call: split and wrap keep rules and well-formedness, written bytes are read back, no offset overflows.
use Rattle.std.proofs.Common.{◌≡◌, ℕ, zero, suc, ◌≤◌, false, cond, ltb, leb, ◌⊎◌, List, [], ◌∷◌, ◌++◌, map, length, set, Some, None, Ok, Err, Option, Result, sym, refl, ap, ◌∙◌, subst, inl, ⊎_elim, arith}
use Rattle.std.proofs.lemmas.List.{map-append}
use Rattle.std.proofs.lemmas.Bool.{both_ways, cases_Bool, cond-true, cond-false}
use Rattle.std.proofs.ByRecursion.{All-weaker}
use Rattle.std.specs.List.{flat_map, AllByRecursion}
use Rattle.std.proofs.lemmas.Option.{none-some, same_Some}
use Rattle.std.proofs.lemmas.Bool.Decides.{nat_tests}
use Rattle.refusals.specs.declared.Refusal.{Refusal}
use Rattle.refusals.specs.declared.Refusal.TheVariants.{OffsetOverflow, ShortBuffer, NoPlace}
use Rattle.data_bytes.specs.Values.{value_bytes}
use Rattle.coverage.specs.Meaning.{Meant}
use Rattle.model.specs.Forest.{Subtable, Lookup, Model}
use Rattle.model.specs.Tables.{ligature_table, model_walk, part_of}
use Rattle.model.specs.Rules.{Rule, Sourced, Shaped, subtable_rules, rules_of, sourced, sourced_set, sourced_from, sourced_rules, shape_by, shape_in, shape, told, rule_in, rule, nth}
use Rattle.model.specs.Cutting.{subtable_size}
use Rattle.model.specs.Splitting.{Capacities, Changed, split_lookup, first_long, split, wrap_lookup, wrap}
use Rattle.model.specs.Writing.{overflows, written, written_size, write_in}
use Rattle.model.specs.Reading.{rules_in, shape_read, read}
use Rattle.model.specs.Sound.{Good}
use Rattle.model.specs.Book.{Call, do_split, do_wrap, do_write, do_shape, do_rule, do_read, Answer, refused, wrote, accepted, Page, page_of, book_of, lower, with_ceiling, with_kind7, on_page, page_shapes, rule_told, page_rule, Desk, output_of, answer_change, changed_model, answer_write, answer_shape, first_of, triple_of, answer_rule, answer, put_out, next_desk}
use Rattle.model.specs.WrittenLaws.{SoundLookup}
use Rattle.model.proofs.KeepModels.{split_made, wrap_made}
use Rattle.model.proofs.WrittenModels.{sound_nth}
use Rattle.model.proofs.Sources.{source, bytes_of}
use Rattle.model.specs.Law.{Shelf, kept_if, fed_shelf, Names, SameRule, SameRead, NoOverflow, Agrees, Under, Ceilings, none, more, Writes, WritesAlong, AgreesAlong, EveryAnswerAgrees}
use Rattle.model.proofs.KeepTelling.{tells_map}

-- a page and its lookup
pub record Match (g : Page) (l : Lookup) : Type 0 where
  pub rules : g.rules ≡ rules_of l
  pub kind : g.kind ≡ l.kind
  pub under : Under g l
  pub low : (c : ℕ) → g.ceiling ≡ Some c → c ≤ 65535

data Matches : List Page → List Lookup → Type 0 where
  no_pages : Matches [] []
  a_page : {g : Page} {l : Lookup} {gs : List Page} {ls : List Lookup} → Match g l → Matches gs ls → Matches (g ∷ gs) (l ∷ ls)

ceilings : {gs : List Page} {ls : List Lookup} → Matches gs ls → Ceilings gs ls
ceilings no_pages = none
ceilings (a_page m ms) = more m.under (ceilings ms)

matches_book : (ls : List Lookup) → Matches (map page_of ls) ls
matches_book [] = no_pages
matches_book (l ∷ ls) = a_page (record { rules = refl; kind = refl; under = λ c e. absurd (none-some c e); low = λ c e. absurd (none-some c e) }) (matches_book ls)

-- the n-th page is the n-th lookup's
data At : Option Page → Option Lookup → Type 0 where
  nowhere : At None None
  here : {g : Page} {l : Lookup} → Match g l → At (Some g) (Some l)

at : {gs : List Page} {ls : List Lookup} → Matches gs ls → (n : ℕ) → At (nth gs n) (nth ls n)
at no_pages n = nowhere
at (a_page m ms) zero = here m
at (a_page m ms) (suc n) = at ms n

-- one page and its lookup change together
matches_set : {gs : List Page} {ls : List Lookup} → Matches gs ls → (n : ℕ) (f : Page → Page) (l l' : Lookup) → nth ls n ≡ Some l → ((g : Page) → Match g l → Match (f g) l') → Matches (on_page f n gs) (set ls n l')
matches_set no_pages n f l l' e h = no_pages
matches_set {gs = g ∷ gs} {ls = k ∷ ls} (a_page m ms) zero f l l' e h = a_page (h g (subst (Match g) (same_Some _ _ e) m)) ms
matches_set (a_page m ms) (suc n) f l l' e h = a_page m (matches_set ms n f l l' e h)

-- what was put out, and what the book keeps of it
module _ (meaning : List ℕ → Option Meant) where
  data Kept : Option Page → Option (List ℕ) → Type 0 where
    nothing : Kept None None
    bytes : {g : Page} {bs : List ℕ} → rules_in meaning bs ≡ Ok g.rules → Kept (Some g) (Some bs)

  data AllKept : List (Option Page) → List (Option (List ℕ)) → Type 0 where
    empty : AllKept [] []
    one : {k : Option Page} {o : Option (List ℕ)} {ks : List (Option Page)} {os : List (Option (List ℕ))} → Kept k o → AllKept ks os → AllKept (k ∷ ks) (o ∷ os)

  kept_push : {ks : List (Option Page)} {os : List (Option (List ℕ))} {k : Option Page} {o : Option (List ℕ)} → AllKept ks os → Kept k o → AllKept (ks ++ k ∷ []) (os ++ o ∷ [])
  kept_push empty x = one x empty
  kept_push (one y ys) x = one y (kept_push ys x)

  read_as : (bs s : List ℕ) (p : ℕ) (rs : List Rule) → rules_in meaning bs ≡ Ok rs → answer_shape (read meaning bs s p) ≡ answer_shape (shape_by rs s p)
  read_as bs s p rs e = ap (λ t. answer_shape (cond (ltb p (length s)) (shape_read t s p) (Err NoPlace))) e

  reads : {ks : List (Option Page)} {os : List (Option (List ℕ))} → AllKept ks os → (w : ℕ) (s : List ℕ) (p : ℕ) → SameRead (nth ks w) s p (answer_shape (read meaning (output_of (nth os w)) s p))
  reads empty w s p = tt
  reads (one nothing ks) zero s p = tt
  reads (one (bytes {g} {bs} e) ks) zero s p = read_as bs s p g.rules e
  reads (one k ks) (suc w) s p = reads ks w s p

-- RULE QUESTIONS: rules with their sources are the rules
abbrev rule_only : Sourced → Rule
rule_only x = x.rule

sourced_subtables : (n : ℕ) (ss : List Subtable) → map rule_only (sourced_from n ss) ≡ flat_map subtable_rules ss
sourced_subtables n [] = refl
sourced_subtables n (s ∷ ss) =
    map-append rule_only (flat_map (sourced_set n) s.sets) (sourced_from (suc n) ss)
    ∙ ap (λ z. z ++ map rule_only (sourced_from (suc n) ss)) (tells_map rule_only (sourced n) s.sets)
    ∙ ap (λ z. subtable_rules s ++ z) (sourced_subtables (suc n) ss)

-- the n-th of the rules is that of the rules with sources
told_same : (m : Model) (xs : List Sourced) → ((k : ℕ) (x : Sourced) → nth xs k ≡ Some x → Names m (triple_of x) x.rule) → (k : ℕ) → SameRule m (rule_told (nth (map rule_only xs) k)) (answer_rule (told (nth xs k)))
told_same m [] h k = refl
told_same m (x ∷ xs) h zero = (triple_of x, refl, h zero x refl)
told_same m (x ∷ xs) h (suc k) = told_same m xs (λ j y e. h (suc j) y e) k

named : (meaning : List ℕ → Option Meant) (m : Model) (n : ℕ) (l : Lookup) → Good meaning m → nth m.lookups n ≡ Some l → (k : ℕ) (x : Sourced) → nth (sourced_rules l) k ≡ Some x → Names m (triple_of x) x.rule
named meaning m n l good is k x e =
    let s = source m n l k x is e in
    let g = s.ligature in
    let b = bytes_of (model_walk m) s.here.0 (ligature_table s.coverage g) good.distinct s.here.1 in
    let r : x.rule.glyphs ≡ s.first ∷ g.components = ap (λ (z : Rule). z.glyphs) s.rule in
    record {
      components = g.components;
      glyphs = r ∙ ap (λ (z : List ℕ). first_of z ∷ g.components) (sym r);
      bytes = ap (part_of m) s.vertex ∙ b ∙ ap (λ (z : Rule). Some (value_bytes (z.ligature ∷ suc (length g.components) ∷ g.components))) (sym s.rule);
    }

rule_same : (meaning : List ℕ → Option Meant) (m : Model) (n : ℕ) (g : Page) (l : Lookup) (k : ℕ) → Good meaning m → nth m.lookups n ≡ Some l → g.rules ≡ rules_of l → SameRule m (page_rule (Some g) k) (answer_rule (rule_in (Some l) k))
rule_same meaning m n g l k good is e =
    subst (λ (rs : List Rule). SameRule m (rule_told (nth rs k)) (answer_rule (rule_in (Some l) k))) (sourced_subtables 0 l.subtables ∙ sym e) (told_same m (sourced_rules l) (named meaning m n l good is) k)

-- WHAT IS KNOWN OF ONE CALL
abbrev pub Sizes : ℕ → Lookup → Type 0
Sizes b l = AllByRecursion (λ (s : Subtable). subtable_size s ≤ b) l.subtables

pub record Known (caps : Capacities) (meaning : List ℕ → Option Meant) (span : List ℕ → ℕ) : Type 0 where
  pub split_rules : (c : ℕ) (given : ℕ → List ℕ) (fresh : ℕ) (l : Lookup) → rules_of (split_lookup c given fresh l) ≡ rules_of l
  pub split_within : (c : ℕ) (given : ℕ → List ℕ) (fresh : ℕ) (l : Lookup) → 16 ≤ c → first_long c l.subtables ≡ None → Sizes c (split_lookup c given fresh l)
  pub split_shrinks : (b c : ℕ) (given : ℕ → List ℕ) (fresh : ℕ) (l : Lookup) → Sizes b l → Sizes b (split_lookup c given fresh l)
  pub split_good : (given : ℕ → List ℕ) (m : Model) (n c : ℕ) (ch : Changed) → Good meaning m → Writes caps meaning span given m (do_split n c) → split caps given m n c ≡ Ok ch → Good meaning ch.model
  pub wrap_rules : (fresh : ℕ) (l : Lookup) → rules_of (wrap_lookup fresh l) ≡ rules_of l
  pub wrap_sizes : (b fresh : ℕ) (l : Lookup) → Sizes b l → Sizes b (wrap_lookup fresh l)
  pub wrap_good : (m : Model) (n : ℕ) (ch : Changed) → Good meaning m → wrap caps m n ≡ Ok ch → Good meaning ch.model
  pub read_back : (l : Lookup) → SoundLookup meaning l → overflows l ≡ false → rules_in meaning (written l) ≡ Ok (rules_of l)
  pub fits : (l : Lookup) → SoundLookup meaning l → l.kind ≡ 7 → Sizes 65535 l → overflows l ≡ false

-- answers that are no refusal for an offset
not_refused : {bs : List ℕ} → wrote bs ≡ refused OffsetOverflow → ⊥
not_refused e = cc

not_far : {n : ℕ} → refused (ShortBuffer n) ≡ refused OffsetOverflow → ⊥
not_far e = cc

-- a ceiling that stands below another
lower_cases : (o : Option ℕ) (c d : ℕ) → lower o c ≡ Some d → (d ≡ c) ⊎ (o ≡ Some d)
lower_cases None c d e = inl (sym (same_Some _ _ e))
lower_cases (Some b) c d e = grind (arith, nat_tests)

module _ (caps : Capacities) (meaning : List ℕ → Option Meant) (span : List ℕ → ℕ) (know : Known caps meaning span) where
  record Inv (d : Desk) (h : Shelf) : Type 0 where
    good : Good meaning d.model
    pages : Matches h.book d.model.lookups
    outs : AllKept meaning h.kept d.outputs

  -- what one call does, given what it answers
  split_page : (c : ℕ) (given : ℕ → List ℕ) (fresh : ℕ) (l : Lookup) → 16 ≤ c → c ≤ 65535 → first_long c l.subtables ≡ None → (g : Page) → Match g l → Match (with_ceiling c g) (split_lookup c given fresh l)
  split_page c given fresh l a b short g m =
      record {
        rules = m.rules ∙ sym (know.split_rules c given fresh l);
        kind = m.kind;
        under = λ d e. ⊎_elim
            (λ q. subst (λ (z : ℕ). Sizes z (split_lookup c given fresh l)) (sym q) (know.split_within c given fresh l a short))
            (λ q. know.split_shrinks d c given fresh l (m.under d q))
            (lower_cases g.ceiling c d e);
        low = λ d e. ⊎_elim (λ q. omega arith) (λ q. m.low d q) (lower_cases g.ceiling c d e);
      }

  wrap_page : (fresh : ℕ) (l : Lookup) (g : Page) → Match g l → Match (with_kind7 g) (wrap_lookup fresh l)
  wrap_page fresh l g m =
      record { rules = m.rules ∙ sym (know.wrap_rules fresh l); kind = refl; under = λ c e. know.wrap_sizes c fresh l (m.under c e); low = m.low }

  split_step : (given : ℕ → List ℕ) (d : Desk) (h : Shelf) (n c : ℕ) (r : Result Changed Refusal) → Inv d h → Writes caps meaning span given d.model (do_split n c) → split caps given d.model n c ≡ r
      → Inv (record { model = changed_model d.model r; outputs = d.outputs ++ put_out caps meaning (answer_change r) ∷ [] }) (fed_shelf h (do_split n c) (accepted (answer_change r)))
  split_step given d h n c (Err e) i w is = record { good = i.good; pages = i.pages; outs = kept_push meaning i.outs nothing }
  split_step given d h n c (Ok ch) i w is =
      let s = split_made caps given d.model n c ch is in
      record {
        good = know.split_good given d.model n c ch i.good w is;
        pages = subst (λ (z : Model). Matches (on_page (with_ceiling c) n h.book) z.lookups) (sym s.made)
            (matches_set i.pages n (with_ceiling c) s.lookup (split_lookup c given d.model.taken.vertices s.lookup) s.found (split_page c given d.model.taken.vertices s.lookup s.least s.most s.short));
        outs = kept_push meaning i.outs nothing;
      }

  wrap_step : (d : Desk) (h : Shelf) (n : ℕ) (r : Result Changed Refusal) → Inv d h → wrap caps d.model n ≡ r
      → Inv (record { model = changed_model d.model r; outputs = d.outputs ++ put_out caps meaning (answer_change r) ∷ [] }) (fed_shelf h (do_wrap n) (accepted (answer_change r)))
  wrap_step d h n (Err e) i is = record { good = i.good; pages = i.pages; outs = kept_push meaning i.outs nothing }
  wrap_step d h n (Ok ch) i is =
      let s = wrap_made caps d.model n ch is in
      record {
        good = know.wrap_good d.model n ch i.good is;
        pages = subst (λ (z : Model). Matches (on_page with_kind7 n h.book) z.lookups) (sym s.made)
            (matches_set i.pages n with_kind7 s.lookup (wrap_lookup d.model.taken.vertices s.lookup) s.found (wrap_page d.model.taken.vertices s.lookup));
        outs = kept_push meaning i.outs nothing;
      }

  -- a write: kept exactly if it was accepted
  record WriteStep (o : Option Page) (a : Answer) : Type 0 where
    safe : NoOverflow o a
    kept : Kept meaning (kept_if (accepted a) o) (put_out caps meaning a)

  write_lookup : (m : Model) (n room : ℕ) (g : Page) (l : Lookup) → Good meaning m → nth m.lookups n ≡ Some l → Match g l → WriteStep (Some g) (answer_write (write_in (Some l) room))
  write_lookup m n room g l good is mt =
      let so = sound_nth meaning m n l good is in
      ⊎_elim
      (λ t.
      let a = ap answer_write (cond-true (overflows l) (Err OffsetOverflow) (cond (leb (written_size l) room) (Ok (written l)) (Err (ShortBuffer (written_size l)))) t) in
      subst (WriteStep (Some g)) (sym a)
      (record {
        safe = λ c e k z.
            let sz = All-weaker (λ (s : Subtable). subtable_size s ≤ c) (λ (s : Subtable). subtable_size s ≤ 65535) (λ s q. let lo = mt.low c e in omega arith) l.subtables (mt.under c e) in
            both_ways (overflows l) (know.fits l so (sym mt.kind ∙ k) sz) t;
        kept = nothing;
      }))
      (λ f. ⊎_elim
      (λ t.
      let a = ap answer_write (cond-false (overflows l) (Err OffsetOverflow) _ f ∙ cond-true (leb (written_size l) room) (Ok (written l)) (Err (ShortBuffer (written_size l))) t) in
      subst (WriteStep (Some g)) (sym a)
      (record { safe = λ c e k z. not_refused z; kept = bytes (know.read_back l so f ∙ ap Ok (sym mt.rules)) }))
      (λ u.
      let a = ap answer_write (cond-false (overflows l) (Err OffsetOverflow) _ f ∙ cond-false (leb (written_size l) room) (Ok (written l)) (Err (ShortBuffer (written_size l))) u) in
      subst (WriteStep (Some g)) (sym a) (record { safe = λ c e k z. not_far z; kept = nothing }))
      (cases_Bool (leb (written_size l) room)))
      (cases_Bool (overflows l))

  write_step : (d : Desk) (h : Shelf) (n room : ℕ) → Inv d h → (o : Option Page) (p : Option Lookup) → At o p → nth d.model.lookups n ≡ p → WriteStep o (answer_write (write_in p room))
  write_step d h n room i None None nowhere e = record { safe = tt; kept = nothing }
  write_step d h n room i None (Some l) x e = elim x [ ]
  write_step d h n room i (Some g) None x e = elim x [ ]
  write_step d h n room i (Some g) (Some l) (here m) e = write_lookup d.model n room g l i.good e m

  shape_same : (o : Option Page) (p : Option Lookup) (s : List ℕ) (k : ℕ) → At o p → answer_shape (shape_in p s k) ≡ answer_shape (page_shapes o s k)
  shape_same None None s k nowhere = refl
  shape_same None (Some l) s k x = elim x [ ]
  shape_same (Some g) None s k x = elim x [ ]
  shape_same (Some g) (Some l) s k (here m) = ap (λ z. answer_shape (shape_by z s k)) (sym m.rules)

  rules_same : (m : Model) (n : ℕ) (o : Option Page) (p : Option Lookup) (k : ℕ) → Good meaning m → nth m.lookups n ≡ p → At o p → SameRule m (page_rule o k) (answer_rule (rule_in p k))
  rules_same m n None None k good is nowhere = refl
  rules_same m n None (Some l) k good is x = elim x [ ]
  rules_same m n (Some g) None k good is x = elim x [ ]
  rules_same m n (Some g) (Some l) k good is (here t) = rule_same meaning m n g l k good is t.rules

  -- answers that put nothing out
  quiet_shape : (r : Result Shaped Refusal) → put_out caps meaning (answer_shape r) ≡ None
  quiet_shape (Ok s) = refl
  quiet_shape (Err e) = refl

  quiet_rule : (r : Result Sourced Refusal) → put_out caps meaning (answer_rule r) ≡ None
  quiet_rule (Ok s) = refl
  quiet_rule (Err e) = refl

  quiet : (d : Desk) (h : Shelf) (o : Option (List ℕ)) → Inv d h → o ≡ None → Inv (record { model = d.model; outputs = d.outputs ++ o ∷ [] }) (record { book = h.book; kept = h.kept ++ None ∷ [] })
  quiet d h o i e = record { good = i.good; pages = i.pages; outs = kept_push meaning i.outs (subst (Kept meaning None) (sym e) nothing) }

  agrees : (given : ℕ → List ℕ) (d : Desk) (h : Shelf) (c : Call) → Inv d h → Agrees d.model h c (answer caps meaning given d c)
  agrees given d h (do_split n c) i = tt
  agrees given d h (do_wrap n) i = tt
  agrees given d h (do_write n room) i = (write_step d h n room i (nth h.book n) (nth d.model.lookups n) (at i.pages n) refl).safe
  agrees given d h (do_shape n s p) i = shape_same (nth h.book n) (nth d.model.lookups n) s p (at i.pages n)
  agrees given d h (do_rule n k) i = rules_same d.model n (nth h.book n) (nth d.model.lookups n) k i.good refl (at i.pages n)
  agrees given d h (do_read w s p) i = reads meaning i.outs w s p

  step : (given : ℕ → List ℕ) (d : Desk) (h : Shelf) (c : Call) → Inv d h → Writes caps meaning span given d.model c → Inv (next_desk caps meaning given d c) (fed_shelf h c (accepted (answer caps meaning given d c)))
  step given d h (do_split n c) i w = split_step given d h n c (split caps given d.model n c) i w refl
  step given d h (do_wrap n) i w = wrap_step d h n (wrap caps d.model n) i refl
  step given d h (do_write n room) i w =
      record { good = i.good; pages = i.pages; outs = kept_push meaning i.outs (write_step d h n room i (nth h.book n) (nth d.model.lookups n) (at i.pages n) refl).kept }
  step given d h (do_shape n s p) i w = quiet d h _ i (quiet_shape (shape d.model n s p))
  step given d h (do_rule n k) i w = quiet d h _ i (quiet_rule (rule d.model n k))
  step given d h (do_read x s p) i w = quiet d h _ i (quiet_shape (read meaning (output_of (nth d.outputs x)) s p))

  along : (given : ℕ → ℕ → List ℕ) (k : ℕ) (d : Desk) (h : Shelf) (cs : List Call) → Inv d h → WritesAlong caps meaning span given k d cs → AgreesAlong caps meaning span given k d h cs
  along given k d h [] i w = tt
  along given k d h (c ∷ cs) i w =
      let j = step (given k) d h c i w.0 in
      (agrees (given k) d h c i, ceilings j.pages, along given (suc k) (next_desk caps meaning (given k) d c) (fed_shelf h c (accepted (answer caps meaning (given k) d c))) cs j w.1)

  pub every_answer_agrees : EveryAnswerAgrees caps meaning span
  every_answer_agrees m good given calls w =
      along given 0 (record { model = m; outputs = [] }) (record { book = book_of m; kept = [] }) calls (record { good = good; pages = matches_book m.lookups; outs = empty }) w
