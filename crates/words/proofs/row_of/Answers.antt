-- What `find` finds in the table is what the definition finds among the kinds.
use Rattle.std.proofs.Common.{map, ◌∙◌, rules, tests}
use Rattle.std.proofs.lemmas.Iterator.{YieldsList-from_slice}
use Rattle.std.proofs.lemmas.Iterator.Search.{find_from_yields_List}
use Rattle.words.specs.Words.{kinds, row_for}
use Rattle.words.proofs.Looking.{coded, row_found}
use Rattle.words.proofs.row_of.Goals as goal

pub returns : goal.returns
returns c =
    c.copied.ensures
    ∙ find_from_yields_List (coded c.args.code) _ _ c.find.result c.find.ensures.ran (YieldsList-from_slice (map row_for kinds) cc) (λ x b q k. search (rules, tests))
    ∙ row_found kinds c.args.code
