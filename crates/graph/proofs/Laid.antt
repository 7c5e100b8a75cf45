-- The blocks of link rows that are laid, one behind the other, are the tables' link rows if each block is its table's.
use Rattle.std.proofs.Common.{◌≡◌, ℕ, suc, ◌+◌, List, [], ◌∷◌, ◌++◌, map, Some, refl, ap, ◌∙◌, subst, arith}
use Rattle.words.specs.Grammar.{StreamTable}
use Rattle.model.specs.Rules.{nth}
use Rattle.graph.specs.Memory.{table_rows, flat}
use Rattle.graph.specs.Filling.{table_for, block_of, blocks_from}

pub rows_along : (ts : List StreamTable) (v : ℕ) → ((k : ℕ) (t : StreamTable) → nth ts k ≡ Some t → block_of (v + k) t ≡ table_rows (v + k) (table_for t)) → blocks_from v ts ≡ flat v (map table_for ts)
rows_along [] v h = refl
rows_along (t ∷ ts) v h =
    let z : v + 0 ≡ v = omega arith in
    let here : block_of v t ≡ table_rows v (table_for t) = subst (λ w. block_of w t ≡ table_rows w (table_for t)) z (h 0 t refl) in
    ap (λ xs. xs ++ blocks_from (suc v) ts) here
    ∙ ap (λ xs. table_rows v (table_for t) ++ xs) (rows_along ts (suc v) (λ k u e. let w : v + suc k ≡ suc v + k = omega arith in subst (λ y. block_of y u ≡ table_rows y (table_for u)) w (h (suc k) u e)))
