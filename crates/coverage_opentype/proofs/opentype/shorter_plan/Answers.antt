use Rattle.std.proofs.Common.{rules}
use Rattle.coverage.proofs.Lists.{listed}
use Rattle.coverage_opentype.specs.Unbroken.{runs_few}
use Rattle.coverage_opentype.proofs.opentype.shorter_plan.Goals as goal

pub overflow_mul-count : goal.overflow_mul-count
overflow_mul-count c =
    let f = runs_few c.args.glyphs.now in
    let e = rw c.in_ok-count.ensures.ok_part at c.run_count.ensures in
    let l = (listed c.args.glyphs.now e.0).few in
    search rules
