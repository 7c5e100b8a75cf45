-- The closure tells a row's key, and the search ends where the order of keys says.
use Rattle.std.proofs.Common.{rules}
use Rattle.std.proofs.lemmas.List.Sorted.{answers_always}
use Rattle.rows.proofs.Places.{searched}
use Rattle.rows.proofs.search.Goals as goal

pub returns : goal.returns
returns g c =
    let facts = c.binary_search_by_key.ensures in
    let position = facts.position g.T.Row.key (answers_always _ _ _ (λ f a r f' called. search rules)) in
    let made = searched g.T.Row.key c.args.key c.args.rows.now c.binary_search_by_key.result facts.bound position in
    record { within = facts.bound; keyed = made.0; spot = made.1 }
