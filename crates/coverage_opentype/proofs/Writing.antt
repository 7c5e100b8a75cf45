-- Format 2 as it is written: the heading, then a record for each run.
use Rattle.std.specs.Prelude.{◌≡◌, ℕ, ◌+◌, ◌-◌, ◌*◌, ◌<◌, ◌≤◌, List, [], ◌∷◌, ◌++◌, length, get_or, take, drop, refl}
use Rattle.std.proofs.Common.{sym, ap, ◌∙◌, subst, arith, length-append}
use Rattle.std.proofs.lemmas.List.{take_more, take_all, drop_more, length-take-le, length-drop}
use Rattle.data_bytes.specs.BigEndian.{put16}
use Rattle.data_bytes.specs.Values.{value_bytes}
use Rattle.data_bytes.proofs.ValueLists.{length-value_bytes, value_bytes-append, laid, lay_value}
use Rattle.coverage_opentype.specs.declared.ranges.GlyphRange.{GlyphRange}
use Rattle.coverage_opentype.specs.Format2.{record_values, record_bytes, runs, range_values, range_bytes, range_span}
use Rattle.coverage_opentype.specs.Unbroken.{run}
use Rattle.std.specs.List.{IsChunkByPrefix}
use Rattle.std.proofs.lemmas.List.Concat.{flat_map-append}
use Rattle.coverage_opentype.specs.Rendering.{length-range_values, length-range_bytes}
use Rattle.coverage_opentype.proofs.Reading.{copied_more}
use Rattle.coverage_opentype.proofs.Runs.{follows_it, runs_at, runs_are, one_run, no_length}

-- the bytes with the first k ranges in them
abbrev pub heading : List ℕ → ℕ → List ℕ
heading gs k = value_bytes (2 ∷ length (runs gs) ∷ range_values (take k (runs gs)))

pub length-heading : (gs : List ℕ) (k : ℕ) → k ≤ length (runs gs) → length (heading gs k) ≡ 4 + 6 * k
length-heading gs k le =
    let a = length-value_bytes (2 ∷ length (runs gs) ∷ range_values (take k (runs gs))) in
    let b = length-range_values (take k (runs gs)) in
    let c = length-take-le k (runs gs) le in
    omega arith

pub begin : (gs old a b : List ℕ) (n : ℕ) → range_span gs ≤ length old → n ≡ length (runs gs) → a ≡ put16 old 0 2 → b ≡ put16 a 2 n → b ≡ laid (heading gs 0) old
begin gs old a b n room e p q =
    let s1 = lay_value [] old 0 2 refl (omega arith) in
    let s2 = lay_value (value_bytes (2 ∷ [])) old 2 (length (runs gs)) refl (omega arith) in
    q ∙ ap (put16 a 2) e ∙ ap (λ z. put16 z 2 (length (runs gs))) (p ∙ s1) ∙ s2

-- the range at hand is written
pub heading_more : (gs : List ℕ) (k : ℕ) (r : GlyphRange) (rest : List GlyphRange) → drop k (runs gs) ≡ r ∷ rest → k < length (runs gs) → heading gs k ++ record_bytes r ≡ heading gs (k + 1)
heading_more gs k r rest e lt =
    let d = drop_more (runs gs) k r lt in
    let is : get_or (runs gs) k r ≡ r = cc in
    let t : take (k + 1) (runs gs) ≡ take k (runs gs) ++ r ∷ [] = take_more (runs gs) k r lt ∙ ap (λ z. take k (runs gs) ++ z ∷ []) is in
    sym (value_bytes-append (2 ∷ length (runs gs) ∷ range_values (take k (runs gs))) (record_values r))
    ∙ ap (λ z. value_bytes (2 ∷ length (runs gs) ∷ z)) (sym (flat_map-append record_values (take k (runs gs)) (r ∷ [])) ∙ ap range_values (sym t))

put_heading : (gs old now next : List ℕ) (k : ℕ) (r : GlyphRange) (rest : List GlyphRange) → drop k (runs gs) ≡ r ∷ rest → k < length (runs gs) → now ≡ laid (heading gs k) old → next ≡ take (4 + 6 * k) now ++ (record_bytes r ++ drop (10 + 6 * k) now) → next ≡ laid (heading gs (k + 1)) old
put_heading gs old now next k r rest e lt is n =
    let l = length-heading gs k (omega arith) in
    copied_more (heading gs k) (record_bytes r) old now next (4 + 6 * k) (sym l) is (n ∙ ap (λ z. take (4 + 6 * k) now ++ (record_bytes r ++ drop z now)) (omega arith))
    ∙ ap (λ z. laid z old) (heading_more gs k r rest e lt)

-- how far the writing has come: k ranges are written, and what is left of the list begins at index i
pub record WrittenTo (gs old : List ℕ) (i k : ℕ) (left now : List ℕ) : Type 0 where
  pub bytes : now ≡ laid (heading gs k) old
  pub rest : drop k (runs gs) ≡ runs_at i left
  pub sum : i + length left ≡ length gs

pub written_none : (gs old now left : List ℕ) (k : ℕ) → k ≡ 0 → left ≡ gs → now ≡ laid (heading gs 0) old → WrittenTo gs old 0 k left now
written_none gs old now left k z e b =
    record {
      bytes = b ∙ ap (λ n. laid (heading gs n) old) (sym z);
      rest = ap (λ n. drop n (runs gs)) z ∙ sym (runs_are gs) ∙ ap (runs_at 0) (sym e);
      sum = omega (arith, ap length e);
    }

module _ (gs old now : List ℕ) (i k : ℕ) (left part rest : List ℕ) (w : WrittenTo gs old i k left now) (e : left ≡ part ++ rest) (some : 0 < length part) (p : IsChunkByPrefix follows_it left (length part)) where
  abbrev next_run : GlyphRange
  next_run = run (get_or part 0 0) (get_or part (length part - 1) 0) i

  split : drop k (runs gs) ≡ next_run ∷ runs_at (i + length part) rest
  split = w.rest ∙ one_run i left part rest e some p

  pub more_to_write : (k < length (runs gs)) × (i + length part ≤ length gs)
  more_to_write =
      let a = ap length split in
      let b = length-drop k (runs gs) in
      let s = w.sum in
      let l = ap length e in
      let t = length-append part rest in
      (omega arith, omega arith)

  pub written_next : (next : List ℕ) → next ≡ take (4 + 6 * k) now ++ (record_bytes next_run ++ drop (10 + 6 * k) now) → WrittenTo gs old (i + length part) (k + 1) rest next
  written_next next n =
      let m = more_to_write in
      let s = w.sum in
      let l = ap length e in
      let t = length-append part rest in
      let d = drop_more (runs gs) k next_run m.0 in
      let h = split in
      let tail : drop (k + 1) (runs gs) ≡ runs_at (i + length part) rest = cc in
      record {
        bytes = put_heading gs old now next k next_run (runs_at (i + length part) rest) split m.0 w.bytes n;
        rest = tail;
        sum = omega arith;
      }

  -- the same as the loop counts
  pub written_more : (next : List ℕ) (n k' i' : ℕ) → n ≡ k → k' ≡ k + 1 → i' ≡ i + length part → next ≡ take (4 + 6 * n) now ++ (record_bytes next_run ++ drop (10 + 6 * n) now) → WrittenTo gs old i' k' rest next
  written_more next n k' i' a b u h =
      subst (λ z. WrittenTo gs old z k' rest next) (sym u) (subst (λ z. WrittenTo gs old (i + length part) z rest next) (sym b) (written_next next (h ∙ ap (λ z. take (4 + 6 * z) now ++ (record_bytes next_run ++ drop (10 + 6 * z) now)) a)))

pub written_all : (gs old now left : List ℕ) (i k : ℕ) → length left ≡ 0 → WrittenTo gs old i k left now → now ≡ range_bytes gs ++ drop (range_span gs) old
written_all gs old now left i k z w =
    let a = ap length (w.rest ∙ ap (runs_at i) (no_length left z)) in
    let b = length-drop k (runs gs) in
    let all = ap (λ y. value_bytes (2 ∷ length (runs gs) ∷ range_values y)) (take_all k (runs gs) (omega arith)) in
    w.bytes ∙ ap (λ y. laid y old) all ∙ ap (λ y. range_bytes gs ++ drop y old) (length-range_bytes gs)
