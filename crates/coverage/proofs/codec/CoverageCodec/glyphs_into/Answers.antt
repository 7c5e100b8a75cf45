use Rattle.std.proofs.Common.{arith}
use Rattle.std.proofs.lemmas.List.{length-take-le}
use Rattle.coverage.proofs.Answering.{copied_each}
use Rattle.coverage.proofs.codec.CoverageCodec.glyphs_into.Goals as goal

pub returns : goal.returns
returns g c =
    let l = length-take-le c.in_ok-count.count c.args.out.now (omega arith) in
    copied_each (g.Self.CoverageCodec.meaning c.args.self.now c.args.bytes.now) _ _ c.args.out.now c.in_ok-count.ensures (omega arith) (omega arith) (λ k lt. c.loop-i.invariant k (omega arith))
