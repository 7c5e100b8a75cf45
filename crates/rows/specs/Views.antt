-- What a view of rows lies over.
use Rattle.std.specs.Prelude.{◌≡◌, List, take, drop}
use Rattle.rows.specs.declared.view.KeyedRows.{KeyedRows}

-- the rows that a view is lent
abbrev pub lent : {X : Type 0} → KeyedRows X → List X
lent v = v.rows.now

-- those in use, and the spare ones behind them
abbrev pub in_use : {X : Type 0} → KeyedRows X → List X
in_use v = take v.used v.rows.now

abbrev pub spare : {X : Type 0} → KeyedRows X → List X
spare v = drop v.used v.rows.now

-- both views are over the same slice
abbrev pub SameSlice : {X : Type 0} → KeyedRows X → KeyedRows X → Type 0
SameSlice v w = v.rows.ghost_name ≡ w.rows.ghost_name
