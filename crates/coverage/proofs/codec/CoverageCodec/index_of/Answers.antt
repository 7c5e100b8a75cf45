use Rattle.std.proofs.Common.{rules}
use Rattle.coverage.proofs.Answering.{compared, indexed_halved}
use Rattle.coverage.proofs.codec.CoverageCodec.index_of.Goals as goal

pub returns : goal.returns
returns g c =
    let met = g.met.Self.CoverageCodec in
    let m = g.Self.CoverageCodec.meaning c.args.self.now c.args.bytes.now in
    indexed_halved m c.in_ok-count.count c.args.glyph (λ gs e is. met.listed _ _ (met.sound _ _ _ _ is)) c.in_ok-count.ensures c.halve.result (c.halve.ensures (compared m c.args.glyph) (λ k r lt called. search rules))
