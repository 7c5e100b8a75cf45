use Rattle.std.proofs.Common.{ap, arith, rules}
use Rattle.std.proofs.lemmas.List.Sorted.{answers_always}
use Rattle.data_bytes.specs.BigEndian.{word16}
use Rattle.coverage.specs.Meaning.{indexed}
use Rattle.coverage.proofs.Lists.{listed, searched_by}
use Rattle.coverage_list.specs.Arrays.{sound}
use Rattle.coverage_list.proofs.ListCodecCoverageCodec.index_of.Goals as goal

-- The last step goes by what the calls ensure, and names none of them: another value fails here, another call does not.
pub returns : goal.returns
returns c =
    let found = c.binary_search_by_key.ensures in
    let pairs = c.in_ok-pairs.pairs.now in
    let meant = ap (λ m. indexed m c.args.glyph) c.in_ok-pairs.ensures in
    let up = (listed _ (sound c.args.bytes.now _ _ c.in_ok-pairs.ensures)).rise in
    let at = searched_by (λ pair. word16 pair 0) pairs c.args.glyph _ up found.bound (found.position (λ pair. word16 pair 0) (answers_always _ _ _ (λ f a r g called. search rules))) in
    grind arith
