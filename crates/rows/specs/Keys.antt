-- The order of row keys: by list, and within a list by place.
use Rattle.std.specs.Prelude.{◌≡◌, Bool, true, ◌&&◌, ◌||◌, ◌==◌, nat_lt}
use Rattle.rows.specs.declared.RowKey.{RowKey}

-- whether k stands before l
abbrev pub precedes : RowKey → RowKey → Bool
precedes k l = nat_lt k.list l.list || (k.list == l.list && nat_lt k.place l.place)

-- whether k and l are the same key
abbrev pub same : RowKey → RowKey → Bool
same k l = k.list == l.list && k.place == l.place

-- k stands before l
abbrev pub Before : RowKey → RowKey → Type 0
Before k l = precedes k l ≡ true
