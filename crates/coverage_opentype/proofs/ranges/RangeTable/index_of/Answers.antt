use Rattle.std.proofs.Common.{◌≡◌, ℕ, Some, None, Option, refl, rules}
use Rattle.std.specs.Result.{result_ok}
use Rattle.std.proofs.lemmas.Fn.{always_returns_same}
use Rattle.coverage_opentype.specs.Format2.{range_of}
use Rattle.coverage_opentype.specs.Tables.{ranges_in}
use Rattle.coverage_opentype.proofs.Reading.{side, Searched, searched}
use Rattle.coverage_opentype.proofs.ranges.RangeTable.index_of.Goals as goal
use Rattle.coverage_opentype.proofs.ranges.RangeTable.index_of.Goals.{After-binary_search_by}

-- what the search answers
found_at : (c : goal.After-binary_search_by) (place : Option ℕ) → place ≡ result_ok c.binary_search_by.result → Searched c.args.self.now.records.now (ranges_in c.args.self.now) c.args.glyph place
found_at c place e =
    rw e
    (searched _ _ c.args.glyph refl c.args.self.now.order _ c.binary_search_by.ensures.bound (c.binary_search_by.ensures.position (λ x. side (range_of x) c.args.glyph) (always_returns_same _ _ _ (λ a r f q. search rules))))

pub returns-in_err-place : goal.returns-in_err-place
returns-in_err-place c =
    let n = found_at (goal.at.returns-in_err-place c).After-binary_search_by None c.in_err-place.ensures.value in
    let v = c.from_residual.ensures in
    search rules

pub overflow_sub-result : goal.overflow_sub-result
overflow_sub-result c = (found_at (goal.at.overflow_sub-result c).After-binary_search_by (Some c.in_ok-place.place) c.in_ok-place.ensures.value _ c.from-range.ensures).0

pub returns : goal.returns
returns c = (found_at (goal.at.returns c).After-binary_search_by (Some c.in_ok-place.place) c.in_ok-place.ensures.value _ c.from-range.ensures).1
