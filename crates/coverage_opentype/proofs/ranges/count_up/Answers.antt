use Rattle.std.proofs.Common.{length, sym, ◌∙◌, arith}
use Rattle.std.proofs.lemmas.List.{ext_get_or}
use Rattle.std.proofs.lemmas.List.FromFn.{length-range_with_len, get_or-range_with_len}
use Rattle.coverage_opentype.proofs.ranges.count_up.Goals as goal

pub returns : goal.returns
returns c =
    let n = length c.args.slots.now in
    let l = length-range_with_len c.args.start n in
    ext_get_or 0 _ _ (omega arith) (λ k lt. c.loop-offset.invariant k (omega arith) ∙ sym (get_or-range_with_len c.args.start n k 0 (omega arith)))
