-- What is known of one call, gathered for the law: from the theorems on splitting, numbering and written lookups.
use Rattle.std.proofs.Common.{◌≡◌, ℕ, ◌≤◌, List, Some, Ok, Err, Option, Result, refl, ap, ◌∙◌, arith}
use Rattle.refusals.specs.declared.Refusal.{Refusal}
use Rattle.coverage.specs.Meaning.{Meant}
use Rattle.model.specs.Forest.{Subtable, Model}
use Rattle.model.specs.Rules.{nth}
use Rattle.model.specs.Cutting.{subtable_size}
use Rattle.model.specs.Splitting.{Capacities, Changed, is_wrapped, split_lookup, split, wrap_lookup, wrap}
use Rattle.model.specs.Sound.{Lawful, GoodLookup, Good}
use Rattle.model.specs.Loading.{Loads, accepted}
use Rattle.model.specs.Book.{do_split, do_wrap, do_write, do_shape, do_rule, do_read, changed_model}
use Rattle.model.specs.Law.{Writes, EveryAnswerAgrees, EveryLineBehindALoadAgrees, CallsKeepModelsWellFormed}
use Rattle.model.proofs.Lists.{all-nth, nth_set_same}
use Rattle.model.proofs.KeepModels.{split_made, wrap_made, split_lookup_keeps_rules, wrap_lookup_keeps_rules}
use Rattle.model.proofs.KeepSizes.{split_all_within, split_all_no_larger, extended_all}
use Rattle.model.proofs.KeepSound.{accepted_splits_keep_lookups_well_formed_lem}
use Rattle.model.proofs.NumberSplit.{split_keeps_good}
use Rattle.model.proofs.NumberWrap.{wraps_as_billed}
use Rattle.model.proofs.WrittenModels.{reads_back_lem, offsets_fit}
use Rattle.model.proofs.Lines.{Known, every_answer_agrees}
use Rattle.model.proofs.PartsRule.{short_subtables}

module _ (caps : Capacities) (admits : List ℕ → Type 0) (meaning : List ℕ → Option Meant) (span : List ℕ → ℕ) (law : Lawful admits meaning span) where
  known : Known caps meaning span
  known =
      record {
        split_rules = split_lookup_keeps_rules;
        split_within = λ c given fresh l least short. split_all_within c (is_wrapped l) given fresh l.subtables least (short_subtables c l.subtables short);
        split_shrinks = λ b c given fresh l h. split_all_no_larger c b (is_wrapped l) given fresh l.subtables h;
        split_good = λ given m n c ch g w ok.
            let s = split_made caps given m n c ch ok in
            let after = split_lookup c given m.taken.vertices s.lookup in
            let is : nth ch.model.lookups n ≡ Some after =
            ap (λ (z : Model). nth z.lookups n) s.made ∙ nth_set_same m.lookups n s.lookup after s.found in
            let all = accepted_splits_keep_lookups_well_formed_lem caps meaning span given m n c ch ok g.lookups (w ch ok) in
            split_keeps_good admits meaning span law m n c s.lookup after ch g
            (record { caps = caps; wrote = given; was = s.found; accepted = ok; is = is })
            (all-nth (GoodLookup meaning) ch.model.lookups n after is all);
        wrap_rules = wrap_lookup_keeps_rules;
        wrap_sizes = λ b fresh l h. extended_all (λ (s : Subtable). subtable_size s ≤ b) (λ (s : Subtable). subtable_size s ≤ b) (λ e s q. q) fresh l.subtables h;
        wrap_good = λ m n ch g ok.
            let s = wrap_made caps m n ch ok in
            let after = wrap_lookup m.taken.vertices s.lookup in
            let is : nth ch.model.lookups n ≡ Some after =
            ap (λ (z : Model). nth z.lookups n) s.made ∙ nth_set_same m.lookups n s.lookup after s.found in
            (wraps_as_billed meaning m n s.lookup after ch g (record { caps = caps; was = s.found; accepted = ok; is = is })).good;
        read_back = λ l so none. (reads_back_lem admits meaning span law l so none).rules;
        fits = λ l so kind sizes. offsets_fit meaning 65535 (omega arith) l so (record { kind = kind; sizes = sizes });
      }

  pub every_line_agrees : EveryAnswerAgrees caps meaning span
  every_line_agrees = every_answer_agrees caps meaning span known

  loaded_good : (ws : List ℕ) (m : Model) → Loads meaning caps ws (Ok m) → Good meaning m
  loaded_good ws m (accepted s k sp room l) = l.good

  pub every_line_behind_a_load_agrees : EveryLineBehindALoadAgrees caps meaning span
  every_line_behind_a_load_agrees ws m l given calls w = every_line_agrees m (loaded_good ws m l) given calls w

  kept_by_split : (given : ℕ → List ℕ) (m : Model) (n c : ℕ) (r : Result Changed Refusal) → Good meaning m → Writes caps meaning span given m (do_split n c) → split caps given m n c ≡ r → Good meaning (changed_model m r)
  kept_by_split given m n c (Ok ch) g w e = known.split_good given m n c ch g w e
  kept_by_split given m n c (Err r) g w e = g

  kept_by_wrap : (m : Model) (n : ℕ) (r : Result Changed Refusal) → Good meaning m → wrap caps m n ≡ r → Good meaning (changed_model m r)
  kept_by_wrap m n (Ok ch) g e = known.wrap_good m n ch g e
  kept_by_wrap m n (Err r) g e = g

  pub calls_keep_models_well_formed_lem : CallsKeepModelsWellFormed caps meaning span
  calls_keep_models_well_formed_lem given m (do_split n c) g w = kept_by_split given m n c (split caps given m n c) g w refl
  calls_keep_models_well_formed_lem given m (do_wrap n) g w = kept_by_wrap m n (wrap caps m n) g refl
  calls_keep_models_well_formed_lem given m (do_write n room) g w = g
  calls_keep_models_well_formed_lem given m (do_shape n s p) g w = g
  calls_keep_models_well_formed_lem given m (do_rule n k) g w = g
  calls_keep_models_well_formed_lem given m (do_read x s p) g w = g
