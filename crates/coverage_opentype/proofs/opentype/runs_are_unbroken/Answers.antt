use Rattle.coverage.proofs.Lists.{listed}
use Rattle.coverage_opentype.specs.Covering.{order, in_order_lem}
use Rattle.coverage_opentype.specs.Unbroken.{covered_of_runs, order_of_runs, gaps_of_runs, runs_of_covered}
use Rattle.coverage_opentype.proofs.opentype.runs_are_unbroken.Goals as goal

pub returns : goal.returns
returns c =
    (λ gs g. (covered_of_runs gs, in_order_lem _ (order_of_runs gs (listed gs g).rise), gaps_of_runs gs (listed gs g).rise), λ rs o g. runs_of_covered rs (order rs o) g)
