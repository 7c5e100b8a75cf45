use Rattle.std.proofs.Common.{◌≡◌, ℕ, List, Some, Ok, Err}
use Rattle.std.specs.Prelude.{MatchOption, Result}
use Rattle.std.specs.Result.{result_ok}
use Rattle.refusals.specs.declared.CodecFault.{CodecFault}
use Rattle.coverage_list.specs.Format1.{array_meaning}
use Rattle.coverage_opentype.specs.declared.ranges.RangeTable.{RangeTable}
use Rattle.coverage_opentype.specs.Tables.{ranges_in, TableRead}
use Rattle.coverage_opentype.specs.Format2.{meant}
use Rattle.coverage_opentype.specs.OpenType.{open_type_meaning}
use Rattle.coverage_opentype.specs.Choosing.{meant_by_array, meant_by_runs}
use Rattle.coverage_opentype.proofs.opentype.ranges_of.Goals as goal

by_table : (bs : List ℕ) (t : Result RangeTable CodecFault) → TableRead bs t → MatchOption (result_ok t) (open_type_meaning bs ≡ array_meaning bs) (λ t. open_type_meaning bs ≡ Some (meant (ranges_in t)))
by_table bs (Ok t) h = meant_by_runs bs _ _ h
by_table bs (Err e) h = meant_by_array bs h.0

pub returns : goal.returns
returns c = rw c.ok.ensures.value (by_table c.args.bytes.now c.read.result c.read.ensures)
