-- The laws of written lookups, for a lookup and for the lookups of a model.
use Rattle.std.proofs.Common.{◌≡◌, ℕ, zero, suc, ◌^◌, ◌≤◌, false, cond, ltb, leb, List, [], ◌∷◌, map, length, get_or, Some, None, Ok, Err, Option, Result, sym, refl, ap, ◌∙◌, arith}
use Rattle.std.specs.List.{flat_map}
use Rattle.std.proofs.ByRecursion.{All-weaker}
use Rattle.std.proofs.lemmas.Bool.{cond-false}
use Rattle.std.proofs.lemmas.Bool.Decides.{nat_tests}
use Rattle.refusals.specs.declared.Refusal.TheVariants.{NoPlace, Unreadable, OffsetOverflow, ShortBuffer}
use Rattle.coverage.specs.Glyphs.{is_glyph_list_of}
use Rattle.coverage.specs.Meaning.{Meant}
use Rattle.coverage_list.specs.Format1.{is_array, array_meaning}
use Rattle.model.specs.Forest.{Subtable, Lookup, Model}
use Rattle.model.specs.Tables.{vertex_of, count_of, lookup_walk, model_walk}
use Rattle.model.specs.Rules.{Rule, rules_of, shape_by, shape_in, nth}
use Rattle.model.specs.Cutting.{subtable_size}
use Rattle.model.specs.Sound.{Lawful, GoodSubtable, GoodLookup, Good}
use Rattle.model.specs.Writing.{starts_in, write_order, overflows, written, written_size, write_in}
use Rattle.model.specs.Reading.{rules_in, shape_read, read}
use Rattle.model.specs.WrittenLaws.{SoundLookup, ReadingGivesWhatWasWritten, WrittenBelow, Wrote, ReadingGivesWhatTheModelShapes, NoOffsetOverflows, WritingAsksForRoom, sample, sample_bytes, SampleWritten}
use Rattle.model.proofs.Lists.{all-nth, distinct_count, count_distinct}
use Rattle.model.proofs.LayLookups.{counts_append, lookup_lies, length_written}
use Rattle.model.proofs.WrittenTables.{Near, near_all}
use Rattle.model.proofs.WrittenBytes.{bytes_written}
use Rattle.model.proofs.WrittenReads.{lookup_reads}
use Rattle.model.proofs.WrittenNear.{none_overflows, written_short}
use Rattle.model.proofs.Premises.{bytes_all}

-- THE LOOKUP AT A NUMBER
count_nth : (v : ℕ) (ls : List Lookup) (n : ℕ) (l : Lookup) → nth ls n ≡ Some l → count_of v (map vertex_of (lookup_walk l)) ≤ count_of v (map vertex_of (flat_map lookup_walk ls))
count_nth v [] n l e = cc
count_nth v (k ∷ ls) zero l e =
    let same : k ≡ l = cc in
    let f = ap (λ (x : Lookup). count_of v (map vertex_of (lookup_walk x))) same in
    let a = counts_append v (lookup_walk k) (flat_map lookup_walk ls) in
    omega arith
count_nth v (k ∷ ls) (suc n) l e =
    let h = count_nth v ls n l e in
    let a = counts_append v (lookup_walk k) (flat_map lookup_walk ls) in
    omega arith

pub sound_nth : (meaning : List ℕ → Option Meant) (m : Model) (n : ℕ) (l : Lookup) → Good meaning m → nth m.lookups n ≡ Some l → SoundLookup meaning l
sound_nth meaning m n l g e =
    record {
      good = all-nth (GoodLookup meaning) m.lookups n l e g.lookups;
      distinct = count_distinct (map vertex_of (lookup_walk l))
          (λ v. let a = distinct_count (map vertex_of (model_walk m)) g.distinct v in let b = count_nth v m.lookups n l e in omega arith);
    }

-- SHAPING IS NEVER REFUSED AS UNREADABLE
pub shaping_reads : (rs : List Rule) (s : List ℕ) (p q : ℕ) → shape_by rs s p ≡ Err (Unreadable q) → ⊥
shaping_reads rs s p q e = grind arith

pub read_rules : (meaning : List ℕ → Option Meant) (bs : List ℕ) (rs : List Rule) → rules_in meaning bs ≡ Ok rs → (s : List ℕ) (p : ℕ) → read meaning bs s p ≡ shape_by rs s p
read_rules meaning bs rs e s p = ap (λ (r : Result (List Rule) ℕ). cond (ltb p (length s)) (shape_read r s p) (Err NoPlace)) e

-- WHAT AN ACCEPTED WRITE SAYS
pub record Accepts (l : Lookup) (room : ℕ) (bs : List ℕ) : Type 0 where
  pub fits : overflows l ≡ false
  pub enough : written_size l ≤ room
  pub bytes : bs ≡ written l

pub accepts : (l : Lookup) (room : ℕ) (bs : List ℕ) → write_in (Some l) room ≡ Ok bs → Accepts l room bs
accepts l room bs e = record { fits = grind arith; enough = grind (arith, nat_tests); bytes = grind arith }

module _ (admits : List ℕ → Type 0) (meaning : List ℕ → Option Meant) (span : List ℕ → ℕ) (lawful : Lawful admits meaning span) where
  pub reads_back_lem : ReadingGivesWhatWasWritten meaning
  reads_back_lem l sound none =
      let short = written_short admits meaning span lawful l sound.good sound.distinct none in
      let lies = lookup_lies (Near (starts_in l)) l sound.distinct (near_all (starts_in l) (write_order l) none) in
      let rules = lookup_reads admits meaning span lawful (starts_in l) (written l) short l sound.good lies in
      record {
        bytes = bytes_written admits meaning span lawful l sound.good none;
        long = length_written l;
        rules = rules;
        shapes = read_rules meaning (written l) (rules_of l) rules;
        readable = λ s p q e. shaping_reads (rules_of l) s p q (sym (read_rules meaning (written l) (rules_of l) rules s p) ∙ e);
      }

  pub written_below : (limit : ℕ) → 256 ^ 4 ≤ limit → WrittenBelow meaning limit
  written_below limit le l sound none =
      let short = written_short admits meaning span lawful l sound.good sound.distinct none in
      let long = length_written l in
      omega arith

  write_reads : (m : Model) (n room : ℕ) (bs : List ℕ) → Good meaning m → (o : Option Lookup) → nth m.lookups n ≡ o → write_in o room ≡ Ok bs → Wrote meaning m n room bs
  write_reads m n room bs g None at e = cc
  write_reads m n room bs g (Some l) at e =
      let a = accepts l room bs e in
      let r = reads_back_lem l (sound_nth meaning m n l g at) a.fits in
      let long = ap length a.bytes in
      let long' = r.long in
      let fits = a.enough in
      let reads : (s : List ℕ) (p : ℕ) → read meaning bs s p ≡ shape_by (rules_of l) s p = λ s p. ap (λ (x : List ℕ). read meaning x s p) a.bytes ∙ r.shapes s p in
      record {
        lookup = l;
        stood = at;
        bytes = a.bytes;
        within = omega arith;
        shapes = λ s p. reads s p ∙ sym (ap (λ (x : Option Lookup). shape_in x s p) at);
        readable = λ s p q e. shaping_reads (rules_of l) s p q (sym (reads s p) ∙ e);
      }

  pub writes_read : ReadingGivesWhatTheModelShapes meaning
  writes_read m n room bs g e = write_reads m n room bs g (nth m.lookups n) refl e

pub offsets_fit : (meaning : List ℕ → Option Meant) (size : ℕ) → size ≤ 65535 → NoOffsetOverflows meaning size
offsets_fit meaning size le l sound x =
    none_overflows meaning l sound.good sound.distinct x.kind
    (All-weaker (λ (s : Subtable). subtable_size s ≤ size) (λ (s : Subtable). subtable_size s ≤ 65535) (λ s h. omega arith) l.subtables x.sizes)

pub writing_asks_for_room : (meaning : List ℕ → Option Meant) (size : ℕ) → size ≤ 65535 → WritingAsksForRoom meaning size
writing_asks_for_room meaning size le m n room l g at x =
    ap (λ (o : Option Lookup). write_in o room) at
    ∙ cond-false (overflows l) (Err OffsetOverflow) (cond (leb (written_size l) room) (Ok (written l)) (Err (ShortBuffer (written_size l))))
    (offsets_fit meaning size le l (sound_nth meaning m n l g at) x)

-- THE EXAMPLE
sample_other : Subtable
sample_other = record { extension = None; vertex = 0; coverage = 0; covering = []; sets = [] }

sample_first : GoodSubtable array_meaning (get_or sample.subtables 0 (sample_other))
unfolding array_meaning is_array is_glyph_list_of
sample_first =
    record {
      some = omega arith;
      sets = (
        record { some = omega arith; count = omega arith; ligatures = (record { glyph = omega arith; count = omega arith; components = (omega arith, tt) }, (record { glyph = omega arith; count = omega arith; components = tt }, tt)) },
        (record { some = omega arith; count = omega arith; ligatures = (record { glyph = omega arith; count = omega arith; components = (omega arith, (omega arith, tt)) }, tt) }, tt),
      );
      bytes = bytes_all (0 ∷ 1 ∷ 0 ∷ 2 ∷ 0 ∷ 7 ∷ 0 ∷ 9 ∷ []) (omega arith, (omega arith, (omega arith, (omega arith, (omega arith, (omega arith, (omega arith, (omega arith, tt))))))));
      means = refl;
    }

sample_second : GoodSubtable array_meaning (get_or sample.subtables 1 (sample_other))
unfolding array_meaning is_array is_glyph_list_of
sample_second =
    record {
      some = omega arith;
      sets = (record { some = omega arith; count = omega arith; ligatures = (record { glyph = omega arith; count = omega arith; components = (omega arith, tt) }, tt) }, tt);
      bytes = bytes_all (0 ∷ 1 ∷ 0 ∷ 1 ∷ 0 ∷ 7 ∷ []) (omega arith, (omega arith, (omega arith, (omega arith, (omega arith, (omega arith, tt))))));
      means = refl;
    }

sample_sound : SoundLookup array_meaning sample
sample_sound =
    record {
      good = record {
        kind = (refl, (refl, tt));
        flag = omega arith;
        asks = refl;
        mark = omega arith;
        count = omega arith;
        subtables = (sample_first, (sample_second, tt));
      };
      distinct = (refl, (refl, (refl, (refl, (refl, (refl, (refl, (refl, (refl, (refl, (refl, (refl, (refl, (refl, tt))))))))))))));
    }

pub sample_written : SampleWritten (sample_bytes 38)
unfolding written
sample_written = record { sound = sample_sound; fits = refl; written = refl }
