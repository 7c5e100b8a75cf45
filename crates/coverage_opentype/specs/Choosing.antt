-- The OpenType codec: bytes mean something in one format at most, and the shorter format is written.
use Rattle.std.specs.Prelude.{◌≡◌, ℕ, ◌+◌, ◌*◌, ◌%◌, ◌<◌, ◌≤◌, ◌⊎◌, List, ◌++◌, length, take, drop, Some, None, Ok, Err, Option, refl}
use Rattle.std.proofs.Common.{sym, ap, ◌∙◌, inl, inr, ⊎_elim, arith}
use Rattle.std.proofs.lemmas.Bool.{le-leb, lt-leb, lt-ltb, le-ltb, cases_lt, cond-true, cond-false}
use Rattle.refusals.specs.declared.CodecFault.TheVariants.{NoSpace}
use Rattle.data_bytes.specs.BigEndian.{word16}
use Rattle.data_bytes.proofs.ValueLists.{laid}
use Rattle.coverage.specs.Glyphs.{GlyphList}
use Rattle.coverage.specs.Meaning.{Meant, written_as}
use Rattle.coverage_list.specs.Format1.{array_meaning, array_bytes, array_span}
use Rattle.coverage_list.specs.Arrays as arrays
use Rattle.coverage_list.specs.Arrays.{no_array, length-array_bytes}
use Rattle.coverage_opentype.specs.Format2.{range_meaning, runs, range_bytes, range_span}
use Rattle.coverage_opentype.specs.OpenType.{or_else, open_type_meaning, open_type_bytes, open_type_span}
use Rattle.coverage_opentype.specs.Covering as ranges
use Rattle.coverage_opentype.specs.Unbroken.{runs_few}
use Rattle.coverage_opentype.specs.Rendering as rendering
use Rattle.coverage_opentype.specs.Rendering.{length-range_bytes}

-- a table of ranges is no array
two_no_array : (bs : List ℕ) → word16 bs 0 ≡ 2 → array_meaning bs ≡ None
two_no_array bs e = no_array bs (λ a. let o = a.one in omega arith)

-- bytes that are no table of ranges
or_none : (m : Option Meant) → or_else m None ≡ m
or_none None = refl
or_none (Some m) = refl

pub meant_by_array : (bs : List ℕ) → range_meaning bs ≡ None → open_type_meaning bs ≡ array_meaning bs
unfolding open_type_meaning
meant_by_array bs h = ap (or_else (array_meaning bs)) h ∙ or_none (array_meaning bs)

-- a meaning is one of the two formats'
pub data EitherFormat (bs gs : List ℕ) (e : ℕ) : Type 0 where
  by_glyphs : array_meaning bs ≡ Some (gs, e) → EitherFormat bs gs e
  by_runs : range_meaning bs ≡ Some (gs, e) → EitherFormat bs gs e

or_cases : (a b : Option Meant) (m : Meant) → or_else a b ≡ Some m → (a ≡ Some m) ⊎ (b ≡ Some m)
or_cases None b m h = inr h
or_cases (Some x) b m h = inl h

pub either : (bs gs : List ℕ) (e : ℕ) → open_type_meaning bs ≡ Some (gs, e) → EitherFormat bs gs e
unfolding open_type_meaning
either bs gs e h = ⊎_elim by_glyphs by_runs (or_cases (array_meaning bs) (range_meaning bs) (gs, e) h)

meant_by_glyphs : (bs : List ℕ) (m : Meant) → array_meaning bs ≡ Some m → open_type_meaning bs ≡ Some m
unfolding open_type_meaning
meant_by_glyphs bs m h = ap (λ t. or_else t (range_meaning bs)) h

pub meant_by_runs : (bs gs : List ℕ) (e : ℕ) → range_meaning bs ≡ Some (gs, e) → open_type_meaning bs ≡ Some (gs, e)
unfolding open_type_meaning
meant_by_runs bs gs e h = ap (λ t. or_else t (range_meaning bs)) (two_no_array bs (ranges.meaning bs gs e h).is.two) ∙ h

-- the laws
pub front : (bs gs more : List ℕ) (e : ℕ) → open_type_meaning bs ≡ Some (gs, e) → open_type_meaning (take e bs ++ more) ≡ Some (gs, e)
front bs gs more e h =
    elim (either bs gs e h) [
      | by_glyphs a ↦ meant_by_glyphs (take e bs ++ more) (gs, e) (arrays.front bs gs more e a)
      | by_runs r ↦ meant_by_runs (take e bs ++ more) gs e (ranges.front bs gs more e r)
    ]

pub within : (bs gs : List ℕ) (e : ℕ) → open_type_meaning bs ≡ Some (gs, e) → e ≤ length bs
within bs gs e h = elim (either bs gs e h) [ by_glyphs a ↦ arrays.within bs gs e a | by_runs r ↦ ranges.within bs gs e r ]

pub even : (bs gs : List ℕ) (e : ℕ) → open_type_meaning bs ≡ Some (gs, e) → e % 2 ≡ 0
even bs gs e h = elim (either bs gs e h) [ by_glyphs a ↦ arrays.even bs gs e a | by_runs r ↦ ranges.even bs gs e r ]

pub short : (bs gs : List ℕ) (e : ℕ) → open_type_meaning bs ≡ Some (gs, e) → e ≤ 4 + 6 * length gs
short bs gs e h = elim (either bs gs e h) [ by_glyphs a ↦ arrays.short bs gs e a | by_runs r ↦ ranges.short bs gs e r ]

pub sound : (bs gs : List ℕ) (e : ℕ) → open_type_meaning bs ≡ Some (gs, e) → GlyphList gs
sound bs gs e h = elim (either bs gs e h) [ by_glyphs a ↦ arrays.sound bs gs e a | by_runs r ↦ ranges.sound bs gs e r ]

-- the choice
module _ (gs : List ℕ) where
  module _ (lt : 6 * length (runs gs) < 2 * length gs) where
    pub span_ranges : open_type_span gs ≡ range_span gs
    span_ranges = cond-true _ _ _ (lt-ltb (6 * length (runs gs)) (2 * length gs) lt)

    bytes_ranges : open_type_bytes gs ≡ range_bytes gs
    bytes_ranges = cond-true _ _ _ (lt-ltb (6 * length (runs gs)) (2 * length gs) lt)

    pub laid_ranges : (old now : List ℕ) → now ≡ range_bytes gs ++ drop (range_span gs) old → now ≡ laid (open_type_bytes gs) old
    laid_ranges old now w = w ∙ ap (λ z. range_bytes gs ++ drop z old) (sym (length-range_bytes gs)) ∙ ap (λ z. laid z old) (sym bytes_ranges)

  module _ (le : 2 * length gs ≤ 6 * length (runs gs)) where
    pub span_array : open_type_span gs ≡ array_span gs
    span_array = cond-false _ _ _ (le-ltb (6 * length (runs gs)) (2 * length gs) le)

    bytes_array : open_type_bytes gs ≡ array_bytes gs
    bytes_array = cond-false _ _ _ (le-ltb (6 * length (runs gs)) (2 * length gs) le)

    pub laid_array : (old now : List ℕ) → now ≡ array_bytes gs ++ drop (array_span gs) old → now ≡ laid (open_type_bytes gs) old
    laid_array old now w = w ∙ ap (λ z. array_bytes gs ++ drop z old) (sym (length-array_bytes gs)) ∙ ap (λ z. laid z old) (sym bytes_array)

  pub length-open_type_bytes : length (open_type_bytes gs) ≡ open_type_span gs
  length-open_type_bytes =
      ⊎_elim
      (λ lt. ap length (bytes_ranges lt) ∙ length-range_bytes gs ∙ sym (span_ranges lt))
      (λ le. ap length (bytes_array le) ∙ length-array_bytes gs ∙ sym (span_array le))
      (cases_lt (6 * length (runs gs)) (2 * length gs))

  pub spans : (open_type_span gs % 2 ≡ 0) × (open_type_span gs ≤ 4 + 6 * length gs)
  spans =
      let f = runs_few gs in
      ⊎_elim (λ lt. let s = span_ranges lt in (omega arith, omega arith)) (λ le. let s = span_array le in (omega arith, omega arith)) (cases_lt (6 * length (runs gs)) (2 * length gs))

  -- what is written means the list
  bytes_mean : (more : List ℕ) → GlyphList gs → open_type_meaning (open_type_bytes gs ++ more) ≡ Some (gs, open_type_span gs)
  bytes_mean more g =
      ⊎_elim
      (λ lt.
      ap (λ z. open_type_meaning (z ++ more)) (bytes_ranges lt) ∙ meant_by_runs (range_bytes gs ++ more) gs (range_span gs) (rendering.bytes_mean gs more g) ∙ ap (λ z. Some (gs, z)) (sym (span_ranges lt)))
      (λ le.
      ap (λ z. open_type_meaning (z ++ more)) (bytes_array le) ∙ meant_by_glyphs (array_bytes gs ++ more) (gs, array_span gs) (arrays.bytes_mean gs more g) ∙ ap (λ z. Some (gs, z)) (sym (span_array le)))
      (cases_lt (6 * length (runs gs)) (2 * length gs))

  -- the outcome of a write
  pub wrote_means : (old now : List ℕ) → GlyphList gs → now ≡ laid (open_type_bytes gs) old → open_type_meaning now ≡ Some (gs, open_type_span gs)
  wrote_means old now g w = ap open_type_meaning w ∙ bytes_mean (drop (length (open_type_bytes gs)) old) g

  pub wrote : (old now : List ℕ) (n : ℕ) → GlyphList gs → n ≡ open_type_span gs → n ≤ length old → now ≡ laid (open_type_bytes gs) old → (Ok n, now) ≡ written_as gs (open_type_bytes gs) old
  wrote old now n g e room w =
      let l = length-open_type_bytes in
      let out : written_as gs (open_type_bytes gs) old ≡ (Ok (length (open_type_bytes gs)), laid (open_type_bytes gs) old) =
      cond-true _ _ _ g ∙ cond-true _ _ _ (le-leb (length (open_type_bytes gs)) (length old) (omega arith)) in
      ap (λ z. (Ok z, now)) (e ∙ sym l) ∙ ap (λ z. (Ok (length (open_type_bytes gs)), z)) w ∙ sym out

  pub wrote_no_space : (old : List ℕ) (n : ℕ) → GlyphList gs → n ≡ open_type_span gs → length old < n → (Err NoSpace, old) ≡ written_as gs (open_type_bytes gs) old
  wrote_no_space old n g e lt =
      let l = length-open_type_bytes in
      sym (cond-true _ _ _ g ∙ cond-false _ _ _ (lt-leb (length (open_type_bytes gs)) (length old) (omega arith)))
