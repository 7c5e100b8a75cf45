use Rattle.std.proofs.Common.{refl, sym, ◌∙◌, arith, rules}
use Rattle.std.proofs.lemmas.Option.{MatchOption-at_some}
use Rattle.std.proofs.lemmas.Iterator.{YieldsList-from_slice, YieldsList-from_map}
use Rattle.std.proofs.lemmas.Iterator.Consumers.{YieldsList-at}
use Rattle.std.proofs.lemmas.Bool.{eqb-true, eqb-false}
use Rattle.data_bytes.specs.BigEndian.{word16}
use Rattle.coverage_list.specs.Arrays.{no_array}
use Rattle.coverage_list.proofs.Pairs.{Counted, counted_pairs, pairs_mean, no_pairs, falling_pairs, rises_along}
use Rattle.coverage_list.proofs.array_pairs.Goals as goal
use Rattle.coverage_list.proofs.array_pairs.Goals.{After-as_chunks}
use Rattle.coverage_list.proofs.array_pairs.Goals.{then-bytes-lt4-via-then-bytes-lt4, then-bytes-lt4-via-else-bytes-lt4+then-word_at-ne1}
use Rattle.coverage_list.proofs.array_pairs.Goals.{then-is_empty-via-then-is_empty, then-is_empty-via-else-is_empty+then-not-is_sorted_by}

-- the pairs are as many as the count says
counted : (c : goal.After-as_chunks) → Counted c.args.bytes.now c.as_chunks.result.0.now
counted c =
    let cut = MatchOption-at_some _ _ _ c.in_ok-glyphs.ensures.ok_part c.get.ensures.lookup.0 in
    counted_pairs c.args.bytes.now _ _ _ c.word_at-2.ensures cut c.as_chunks.ensures.front c.as_chunks.ensures.front_len

pub returns-then-bytes-lt4 : goal.returns-then-bytes-lt4
returns-then-bytes-lt4 c = (
  refl,
  no_array c.args.bytes.now (λ a. let four = a.four in let one = a.one in
      elim c.then-bytes-lt4.branch [
        | then-bytes-lt4-via-then-bytes-lt4 w ↦ omega arith
        | then-bytes-lt4-via-else-bytes-lt4+then-word_at-ne1 w ↦ omega arith
      ]),
)

pub returns-in_err-glyphs : goal.returns-in_err-glyphs
returns-in_err-glyphs c =
    let n = no_array c.args.bytes.now (λ a. let fits = a.fits in let there = c.get.ensures.lookup.1 (omega arith, omega arith) in let e = c.in_err-glyphs.ensures.variant in cc) in
    search rules

pub returns-then-is_empty : goal.returns-then-is_empty
returns-then-is_empty c =
    let p = counted (goal.at.returns-then-is_empty c).After-as_chunks in (
      refl,
      elim c.then-is_empty.branch [
        | then-is_empty-via-then-is_empty w ↦ no_pairs _ _ p (eqb-true _ _ (sym w.if-is_empty.ensures))
        | then-is_empty-via-else-is_empty+then-not-is_sorted_by w ↦
            falling_pairs _ _ p (sym w.if-not-is_sorted_by.true ∙ rises_along _ _ _ _ (YieldsList-from_map _ (λ pair. word16 pair 0) (YieldsList-at w.map.ensures.source (YieldsList-from_slice _ w.iter.ensures.rest)) w.map.ensures.closure (λ x r q k. search rules)) w.is_sorted_by.ensures.runs (λ x y r f k. search rules))
      ],
    )

pub returns : goal.returns
returns c =
    let p = counted (goal.at.returns c).After-as_chunks in
    pairs_mean _ _ p (omega arith) (omega arith) (λ i. omega (arith, c.type_inv.bytes i)) (eqb-false _ _ (sym c.if-is_empty.ensures))
    (sym c.if-not-is_sorted_by.false ∙ rises_along _ _ _ _ (YieldsList-from_map _ (λ pair. word16 pair 0) (YieldsList-at c.map.ensures.source (YieldsList-from_slice _ c.iter.ensures.rest)) c.map.ensures.closure (λ x r q k. search rules)) c.is_sorted_by.ensures.runs (λ x y r f k. search rules))
