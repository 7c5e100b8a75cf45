use Rattle.std.proofs.Common.{◌≡◌, ℕ, ◌≤◌, List, [], Err, None, map, length, refl, sym, subst, ⊎_elim, arith, rules}
use Rattle.std.specs.Prelude.{Result}
use Rattle.std.proofs.lemmas.Option.{MatchOption-at_some}
use Rattle.refusals.specs.declared.CodecFault.{CodecFault}
use Rattle.refusals.specs.declared.CodecFault.TheVariants.{NoMeaning}
use Rattle.coverage_opentype.specs.declared.ranges.RangeTable.{RangeTable}
use Rattle.coverage_opentype.specs.Checked.{Totalled}
use Rattle.coverage_opentype.specs.Tables.{TableRead}
use Rattle.coverage_opentype.specs.Format2.{range_of, ranges_at, range_meaning}
use Rattle.coverage_opentype.specs.Covering.{table_found, no_table_lem}
use Rattle.coverage_opentype.proofs.Reading.{no_order, no_length, list_of, chunks_many, records_are}
use Rattle.coverage_opentype.proofs.ranges.RangeTable.read.Goals as goal
use Rattle.coverage_opentype.proofs.ranges.RangeTable.read.Goals.{In_ok-records, then-bytes-lt4-via-then-bytes-lt4, then-bytes-lt4-via-else-bytes-lt4+then-word_at-ne2, then-glyphs-eq0-via-then-glyphs-eq0, then-glyphs-eq0-via-else-glyphs-eq0+then-glyphs-gt65535}

-- the records are there, and are the ranges of the bytes
cut : (c : goal.In_ok-records) → (c.word_at-ranges.result ≤ length c.as_chunks.result.0.now) × (map range_of c.in_ok-records.records.now ≡ ranges_at c.args.bytes.now c.word_at-ranges.result)
cut c =
    let l = MatchOption-at_some _ _ _ c.in_ok-records.ensures.ok_part c.get.ensures.lookup.0 in
    (l.1, records_are _ _ _ _ l.1 c.as_chunks.ensures.front c.as_chunks.ensures.front_len l.2)

refused : (bs : List ℕ) (r : Result RangeTable CodecFault) → r ≡ Err NoMeaning → range_meaning bs ≡ None → TableRead bs r
refused bs r e n = subst (TableRead bs) (sym e) (n, refl)

pub returns-then-bytes-lt4 : goal.returns-then-bytes-lt4
returns-then-bytes-lt4 c = (
  no_table_lem c.args.bytes.now (λ t. let f = t.four in let two = t.two in elim c.then-bytes-lt4.branch [
    | then-bytes-lt4-via-then-bytes-lt4 w ↦ omega arith
    | then-bytes-lt4-via-else-bytes-lt4+then-word_at-ne2 w ↦ omega arith
  ]),
  refl,
)

pub returns-in_err-records : goal.returns-in_err-records
returns-in_err-records c =
    let m = chunks_many c.args.bytes.now c.as_chunks.result.0.now [] c.word_at-ranges.result c.if-bytes-lt4.false c.as_chunks.ensures.front_len in
    let l = rw c.in_err-records.ensures.ok_part at c.get.ensures.lookup.0 in
    let v = c.in_err-records.ensures.value in
    let r = c.from_residual.ensures in
    refused _ _ (search rules) (no_table_lem c.args.bytes.now (λ t. let f = t.fits in ⊎_elim (λ a. omega arith) (λ a. let b = m.1 a in omega arith) l))

pub returns-in_err-glyphs : goal.returns-in_err-glyphs
returns-in_err-glyphs c =
    let e = cut (goal.at.returns-in_err-glyphs c).In_ok-records in
    let v = c.in_err-glyphs.ensures.value in
    let r = c.from_residual-in_err-glyphs.ensures in
    refused _ _ (search rules) (no_order _ _ _ c.word_at-ranges.ensures e.1 (subst (Totalled _) c.in_err-glyphs.ensures.ok_part c.covered_count.ensures))

pub returns-then-glyphs-eq0 : goal.returns-then-glyphs-eq0
returns-then-glyphs-eq0 c =
    let e = cut (goal.at.returns-then-glyphs-eq0 c).In_ok-records in
    let t = subst (Totalled (map range_of c.in_ok-records.records.now)) c.in_ok-glyphs.ensures.ok_part c.covered_count.ensures in (
      no_length _ _ _ c.word_at-ranges.ensures e.1 _ t.2 (λ a b. elim c.then-glyphs-eq0.branch [
        | then-glyphs-eq0-via-then-glyphs-eq0 w ↦ omega arith
        | then-glyphs-eq0-via-else-glyphs-eq0+then-glyphs-gt65535 w ↦ omega arith
      ]),
      refl,
    )

pub returns : goal.returns
returns c =
    let e = cut (goal.at.returns c).In_ok-records in
    let m = chunks_many c.args.bytes.now c.as_chunks.result.0.now [] c.word_at-ranges.result c.if-bytes-lt4.false c.as_chunks.ensures.front_len in
    let t = subst (Totalled (map range_of c.in_ok-records.records.now)) c.in_ok-glyphs.ensures.ok_part c.covered_count.ensures in
    table_found _ _ _ c.word_at-ranges.ensures e.1 c.if-bytes-lt4.false (omega arith) (m.0 e.0) t.0 (list_of _ _ t.0 t.1 t.2 (omega arith) (omega arith))
