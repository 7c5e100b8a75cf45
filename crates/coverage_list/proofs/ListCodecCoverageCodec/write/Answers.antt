use Rattle.std.proofs.Common.{arith}
use Rattle.coverage.proofs.Lists.{listed}
use Rattle.coverage_list.proofs.Writing.{wrote_means, wrote_no_space}
use Rattle.coverage_list.proofs.ListCodecCoverageCodec.write.Goals as goal

pub returns-then-out-size-clause-fixed : goal.returns-then-out-size-clause-fixed
returns-then-out-size-clause-fixed c = let e = c.in_ok-size.ensures.1 in wrote_no_space c.args.glyphs.now c.args.out.now c.in_ok-size.ensures.0 (omega arith)

pub write_array-requires : goal.write_array-requires
write_array-requires c = let e = c.in_ok-size.ensures.1 in ((listed c.args.glyphs.now c.in_ok-size.ensures.0).few, omega arith)

pub returns-clause-meant : goal.returns-clause-meant
returns-clause-meant c =
    let g = c.in_ok-size.ensures.0 in
    let e = c.in_ok-size.ensures.1 in
    (g, omega arith, e, wrote_means c.args.glyphs.now c.args.out.now _ g c.write_array.ensures)
