-- Format 2 glyph by glyph: where a list breaks, and what is written there.
use Rattle.std.specs.Prelude.{◌≡◌, ℕ, suc, ◌+◌, ◌-◌, ◌*◌, ◌<◌, ◌≤◌, List, [], ◌∷◌, ◌++◌, length, drop, slice_index, ◌==◌}
use Rattle.std.proofs.Common.{sym, ap, ◌∙◌, append_assoc, arith, length-append}
use Rattle.std.proofs.lemmas.List.{drop_more, length-drop, at_drop_more, at_drop_all}
use Rattle.std.proofs.lemmas.Bool.{eq-eqb, ne_eqb, cond-true, cond-false}
use Rattle.data_bytes.specs.BigEndian.{put16}
use Rattle.data_bytes.specs.Values.{value_bytes}
use Rattle.data_bytes.proofs.ValueLists.{laid, lay_value}
use Rattle.coverage_opentype.specs.declared.ranges.GlyphRange.{GlyphRange}
use Rattle.coverage_opentype.specs.Format2.{record_bytes, runs_from, runs, range_span}
use Rattle.coverage_opentype.specs.Unbroken.{run, runs_break}
use Rattle.coverage_opentype.proofs.Runs.{break_at, breaks}
use Rattle.coverage_opentype.proofs.Writing.{heading, length-heading, heading_more}

-- how far the writing has come: k ranges are written, and the one at hand goes on from there
pub record WrittenTo (gs old : List ℕ) (i k : ℕ) (r : GlyphRange) (now : List ℕ) : Type 0 where
  pub bytes : now ≡ laid (heading gs k) old
  pub rest : drop k (runs gs) ≡ runs_from r.start r.end r.index (drop i gs)
  pub goes : r.start ≤ r.end
  pub last : r.end ≡ slice_index gs (i - 1)
  pub index : r.index + (suc r.end - r.start) ≡ i

-- three values more
lay_range : (xs old now next : List ℕ) (i : ℕ) (r : GlyphRange) → i ≡ length xs → i + 5 < length old → now ≡ laid xs old → next ≡ put16 (put16 (put16 now i r.start) (2 + i) r.end) (4 + i) r.index → next ≡ laid (xs ++ record_bytes r) old
lay_range xs old now next i r e lt is n =
    let s = value_bytes (r.start ∷ []) in
    let t = value_bytes (r.end ∷ []) in
    let la = length-append xs s in
    let lb = length-append (xs ++ s) t in
    let s1 = lay_value xs old i r.start e (omega arith) in
    let s2 = lay_value (xs ++ s) old (2 + i) r.end (omega arith) (omega arith) in
    let s3 = lay_value ((xs ++ s) ++ t) old (4 + i) r.index (omega arith) (omega arith) in
    n ∙ ap (λ z. put16 (put16 (put16 z i r.start) (2 + i) r.end) (4 + i) r.index) is
    ∙ ap (λ z. put16 (put16 z (2 + i) r.end) (4 + i) r.index) s1
    ∙ ap (λ z. put16 z (4 + i) r.index) s2
    ∙ s3
    ∙ ap (λ z. laid z old) (append_assoc (xs ++ s) t (value_bytes (r.index ∷ [])) ∙ append_assoc xs s (t ++ value_bytes (r.index ∷ [])))

module _ (gs old now : List ℕ) (i k g : ℕ) (r : GlyphRange) (lt : i < length gs) (is : g ≡ slice_index gs i) (w : WrittenTo gs old i k r now) where
  -- the range at hand is the next run, and the one behind it begins with the glyph
  split : 1 < g - r.end → drop k (runs gs) ≡ r ∷ runs_from g g i (drop (i + 1) gs)
  split far =
      w.rest ∙ ap (runs_from r.start r.end r.index) (drop_more gs i 0 lt ∙ ap (λ z. z ∷ drop (i + 1) gs) (sym is))
      ∙ runs_break r.start r.end r.index g (drop (i + 1) gs) (λ e. omega arith)
      ∙ ap (λ z. r ∷ runs_from g g z (drop (i + 1) gs)) w.index

  pub written_next : (next : List ℕ) → range_span gs ≤ length old → 1 < g - r.end → next ≡ put16 (put16 (put16 now (4 + 6 * k) r.start) (6 + 6 * k) r.end) (8 + 6 * k) r.index → WrittenTo gs old (i + 1) (k + 1) (run g g i) next
  written_next next room far n =
      let p = split far in
      let a = ap length p in
      let b = length-drop k (runs gs) in
      let l = length-heading gs k (omega arith) in
      let d = drop_more (runs gs) k r (omega arith) in
      let tail : drop (k + 1) (runs gs) ≡ runs_from g g i (drop (i + 1) gs) = cc in
      let u : 2 + (4 + 6 * k) ≡ 6 + 6 * k = omega arith in
      let v : 4 + (4 + 6 * k) ≡ 8 + 6 * k = omega arith in
      let m = n ∙ ap (λ z. put16 (put16 (put16 now (4 + 6 * k) r.start) z r.end) (8 + 6 * k) r.index) (sym u) ∙ ap (λ z. put16 (put16 (put16 now (4 + 6 * k) r.start) (2 + (4 + 6 * k)) r.end) z r.index) (sym v) in
      record {
        bytes = lay_range (heading gs k) old now next (4 + 6 * k) r (sym l) (omega arith) w.bytes m ∙ ap (λ z. laid z old) (heading_more gs k r _ p (omega arith));
        rest = tail;
        goes = omega arith;
        last = is ∙ ap (λ z. slice_index gs z) (omega arith);
        index = omega arith;
      }

-- counting on: the glyph behind the last one seen
module _ (gs : List ℕ) (i last g : ℕ) (lt : i < length gs) (is : g ≡ slice_index gs i) where
  breaks_step : breaks last (drop i gs) ≡ break_at last g + breaks g (drop (i + 1) gs)
  breaks_step = at_drop_more (breaks last) gs i 0 lt ∙ ap (λ t. break_at last t + breaks t (drop (i + 1) gs)) (sym is)

  pub breaks_none : last < g → g - last ≤ 1 → breaks last (drop i gs) ≡ breaks g (drop (i + 1) gs)
  breaks_none up near =
      let e : g ≡ suc last = omega arith in
      let b : break_at last g ≡ 0 = cond-true (g == suc last) 0 1 (eq-eqb g (suc last) e) in
      let s = breaks_step in
      omega arith

  pub breaks_more : 1 < g - last → breaks last (drop i gs) ≡ 1 + breaks g (drop (i + 1) gs)
  breaks_more far =
      let b : break_at last g ≡ 1 = cond-false (g == suc last) 0 1 (ne_eqb g (suc last) (λ e. omega arith)) in
      let s = breaks_step in
      omega arith

pub breaks_end : (gs : List ℕ) (i last : ℕ) → length gs ≤ i → breaks last (drop i gs) ≡ 0
breaks_end gs i last le = at_drop_all (breaks last) gs i le
