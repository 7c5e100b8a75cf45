-- Splitting and wrapping: the pieces of a subtable, which set vertex goes where, new vertex numbers, what is taken from the pools, refusals.
use Rattle.std.specs.Prelude.{ℕ, suc, ◌+◌, ◌*◌, min, Bool, true, false, cond, not, ◌&&◌, ◌||◌, List, [], ◌∷◌, ◌++◌, length, set, Some, None, Ok, Err, sum_by, Option, Result, ◌==◌, nat_le}
use Rattle.std.specs.List.{flat_map}
use Rattle.refusals.specs.declared.Pool.{Pool}
use Rattle.refusals.specs.declared.Pool.TheVariants.{Vertices, Links, Bytes}
use Rattle.refusals.specs.declared.Refusal.{Refusal}
use Rattle.refusals.specs.declared.Refusal.TheVariants.{NoRoom, NoLookup, BadCeiling, LongLigature, TooManySubtables, IsExtension}
use Rattle.model.specs.Forest.{Ligature, LigatureSet, Subtable, Lookup, Taken, Model}
use Rattle.model.specs.Rules.{nth}
use Rattle.model.specs.Cutting.{Entry, entries, table_length, parts, Cut, cuts}

-- GROUPS: neighbouring entries of one set
pub record Group : Type 0 where
  pub set : ℕ
  pub owner : ℕ
  pub first : ℕ
  pub ligatures : List Ligature

abbrev pub alone : Entry → Group
alone e = record { set = e.set; owner = e.owner; first = e.first; ligatures = e.ligature ∷ [] }

abbrev pub with_first : Ligature → Group → Group
with_first g t = record { set = t.set; owner = t.owner; first = t.first; ligatures = g ∷ t.ligatures }

abbrev pub join_group : Entry → List Group → List Group
join_group e [] = alone e ∷ []
join_group e (t ∷ ts) = cond (e.set == t.set) (with_first e.ligature t ∷ ts) (alone e ∷ t ∷ ts)

abbrev pub groups : List Entry → List Group
groups [] = []
groups (e ∷ es) = join_group e (groups es)

-- WHERE A DIVIDED SET'S OWN VERTEX GOES
-- some entry of the part is of that set
abbrev pub has : ℕ → List Entry → Bool
has i [] = false
has i (e ∷ es) = e.set == i || has i es

abbrev pub any_has : ℕ → List (List Entry) → Bool
any_has i [] = false
any_has i (p ∷ ps) = has i p || any_has i ps

-- to this part: the original keeps none of the set, and no later part has some of it
abbrev pub comes_here : List Entry → List (List Entry) → ℕ → Bool
comes_here kept later i = not (has i kept) && not (any_has i later)

-- sets of a part: the own vertex where that comes here, else the next new one
abbrev pub sets_of : (ℕ → Bool) → ℕ → List Group → List LigatureSet
sets_of own fresh [] = []
sets_of own fresh (t ∷ ts) =
    cond (own t.set)
    (record { vertex = t.owner; first = t.first; ligatures = t.ligatures } ∷ sets_of own fresh ts)
    (record { vertex = fresh; first = t.first; ligatures = t.ligatures } ∷ sets_of own (suc fresh) ts)

-- how many sets of a part are new
abbrev pub new_sets : (ℕ → Bool) → List Group → ℕ
new_sets own [] = 0
new_sets own (t ∷ ts) = cond (own t.set) 0 1 + new_sets own ts

-- THE PIECES BEHIND THE ORIGINAL: subtable, coverage, new sets, each with the next free number.
-- The bytes of a coverage are whatever the codec wrote for its vertex.
abbrev pub pieces : (ℕ → List ℕ) → List Entry → ℕ → List (List Entry) → List Subtable
pieces wrote kept fresh [] = []
pieces wrote kept fresh (p ∷ later) =
    record {
      extension = None;
      vertex = fresh;
      coverage = fresh + 1;
      covering = wrote (fresh + 1);
      sets = sets_of (comes_here kept later) (fresh + 2) (groups p);
    } ∷ pieces wrote kept (fresh + 2 + new_sets (comes_here kept later) (groups p)) later

abbrev pub after_pieces : List Entry → ℕ → List (List Entry) → ℕ
after_pieces kept fresh [] = fresh
after_pieces kept fresh (p ∷ later) = after_pieces kept (fresh + 2 + new_sets (comes_here kept later) (groups p)) later

-- extension tables, numbered in order
abbrev pub behind : ℕ → Subtable → Subtable
behind e s = record { extension = Some e; vertex = s.vertex; coverage = s.coverage; covering = s.covering; sets = s.sets }

abbrev pub extended : ℕ → List Subtable → List Subtable
extended fresh [] = []
extended fresh (s ∷ ss) = behind fresh s ∷ extended (suc fresh) ss

-- the original with what it keeps
abbrev pub remains : (ℕ → List ℕ) → Subtable → List Entry → Subtable
remains wrote s kept =
    record {
      extension = s.extension;
      vertex = s.vertex;
      coverage = s.coverage;
      covering = wrote s.coverage;
      sets = sets_of (λ i. true) 0 (groups kept);
    }

abbrev pub is_wrapped : Lookup → Bool
is_wrapped l = l.kind == 7

-- one subtable: without cuts as it is; else the original, and its pieces directly behind it
abbrev pub divided : Bool → (ℕ → List ℕ) → ℕ → Subtable → List (List Entry) → List Subtable
divided wrapped wrote fresh s [] = s ∷ []
divided wrapped wrote fresh s (kept ∷ []) = s ∷ []
divided wrapped wrote fresh s (kept ∷ p ∷ ps) =
    remains wrote s kept
    ∷ cond wrapped (extended (after_pieces kept fresh (p ∷ ps)) (pieces wrote kept fresh (p ∷ ps))) (pieces wrote kept fresh (p ∷ ps))

abbrev pub after_divided : Bool → ℕ → List (List Entry) → ℕ
after_divided wrapped fresh [] = fresh
after_divided wrapped fresh (kept ∷ ps) = after_pieces kept fresh ps + cond wrapped (length ps) 0

abbrev pub split_all : ℕ → Bool → (ℕ → List ℕ) → ℕ → List Subtable → List Subtable
split_all ceiling wrapped wrote fresh [] = []
split_all ceiling wrapped wrote fresh (s ∷ ss) =
    divided wrapped wrote fresh s (parts ceiling (entries s)) ++ split_all ceiling wrapped wrote (after_divided wrapped fresh (parts ceiling (entries s))) ss

abbrev pub split_lookup : ℕ → (ℕ → List ℕ) → ℕ → Lookup → Lookup
split_lookup ceiling wrote fresh l =
    record { vertex = l.vertex; kind = l.kind; flag = l.flag; mark = l.mark; subtables = split_all ceiling (is_wrapped l) wrote fresh l.subtables }

-- WHAT IS WRITTEN ANEW
-- what a cut subtable becomes, whose coverages are written anew; nothing of a subtable without cuts
abbrev pub renewed : Bool → (ℕ → List ℕ) → ℕ → Subtable → List (List Entry) → List Subtable
renewed wrapped wrote fresh s [] = []
renewed wrapped wrote fresh s (kept ∷ []) = []
renewed wrapped wrote fresh s (kept ∷ p ∷ ps) = divided wrapped wrote fresh s (kept ∷ p ∷ ps)

abbrev pub all_renewed : ℕ → Bool → (ℕ → List ℕ) → ℕ → List Subtable → List Subtable
all_renewed ceiling wrapped wrote fresh [] = []
all_renewed ceiling wrapped wrote fresh (s ∷ ss) =
    renewed wrapped wrote fresh s (parts ceiling (entries s)) ++ all_renewed ceiling wrapped wrote (after_divided wrapped fresh (parts ceiling (entries s))) ss

abbrev pub renewed_in : ℕ → (ℕ → List ℕ) → ℕ → Option Lookup → List Subtable
renewed_in ceiling wrote fresh None = []
renewed_in ceiling wrote fresh (Some l) = all_renewed ceiling (is_wrapped l) wrote fresh l.subtables

-- THE BILL
abbrev pub inside : Cut → ℕ
inside c = cond (c.place == 0) 0 1

-- per cut 2 vertices and 2 links; 1 and 2 more where a set is divided; 1 and 1 more behind extension tables
abbrev pub cut_vertices : Bool → Cut → ℕ
cut_vertices wrapped c = 2 + (inside c + cond wrapped 1 0)

abbrev pub cut_links : Bool → Cut → ℕ
cut_links wrapped c = 2 + (2 * inside c + cond wrapped 1 0)

abbrev pub all_cuts : ℕ → Lookup → List Cut
all_cuts ceiling l = flat_map (cuts ceiling) l.subtables

-- bytes that are taken, in the order in which they lie in the pool
pub record Part : Type 0 where
  pub vertex : ℕ
  pub reserved : ℕ

abbrev pub part : ℕ → ℕ → Part
part v n = record { vertex = v; reserved = n }

abbrev pub coverage_room : ℕ → ℕ
coverage_room glyphs = 4 + 6 * glyphs

abbrev pub new_set_parts : (ℕ → Bool) → ℕ → List Group → List Part
new_set_parts own fresh [] = []
new_set_parts own fresh (t ∷ ts) =
    cond (own t.set) (new_set_parts own fresh ts) (part fresh (2 + 2 * length t.ligatures) ∷ new_set_parts own (suc fresh) ts)

-- each piece: its subtable with room for all sets of the original, its coverage, its new sets
abbrev pub piece_parts : ℕ → List Entry → ℕ → List (List Entry) → List Part
piece_parts c kept fresh [] = []
piece_parts c kept fresh (p ∷ later) =
    part fresh (6 + 2 * c) ∷ part (fresh + 1) (coverage_room (length (groups p)))
    ∷ (new_set_parts (comes_here kept later) (fresh + 2) (groups p) ++ piece_parts c kept (fresh + 2 + new_sets (comes_here kept later) (groups p)) later)

abbrev pub extension_parts : ℕ → List (List Entry) → List Part
extension_parts fresh [] = []
extension_parts fresh (p ∷ ps) = part fresh 8 ∷ extension_parts (suc fresh) ps

-- then the original's new coverage, and the extension tables
abbrev pub divided_parts : Bool → ℕ → Subtable → List (List Entry) → List Part
divided_parts wrapped fresh s [] = []
divided_parts wrapped fresh s (kept ∷ []) = []
divided_parts wrapped fresh s (kept ∷ p ∷ ps) =
    piece_parts (length s.sets) kept fresh (p ∷ ps)
    ++ (part s.coverage (coverage_room (length (groups kept))) ∷ cond wrapped (extension_parts (after_pieces kept fresh (p ∷ ps)) (p ∷ ps)) [])

abbrev pub all_parts : ℕ → Bool → ℕ → List Subtable → List Part
all_parts ceiling wrapped fresh [] = []
all_parts ceiling wrapped fresh (s ∷ ss) =
    divided_parts wrapped fresh s (parts ceiling (entries s)) ++ all_parts ceiling wrapped (after_divided wrapped fresh (parts ceiling (entries s))) ss

-- at the very end the new lookup table, if there is any cut
abbrev pub mark_room : Option ℕ → ℕ
mark_room None = 0
mark_room (Some m) = 2

abbrev pub lookup_room : Lookup → ℕ → ℕ
lookup_room l k = 6 + (2 * k + mark_room l.mark)

abbrev pub subtables_after : ℕ → Lookup → ℕ
subtables_after ceiling l = length l.subtables + length (all_cuts ceiling l)

abbrev pub lookup_part : ℕ → Lookup → List Cut → List Part
lookup_part ceiling l [] = []
lookup_part ceiling l (c ∷ cs) = part l.vertex (lookup_room l (subtables_after ceiling l)) ∷ []

abbrev pub taken_parts : ℕ → ℕ → Lookup → List Part
taken_parts ceiling fresh l = all_parts ceiling (is_wrapped l) fresh l.subtables ++ lookup_part ceiling l (all_cuts ceiling l)

-- where each part starts, from the first free byte on
abbrev pub starts_of : ℕ → List Part → List (ℕ × ℕ)
starts_of at [] = []
starts_of at (p ∷ ps) = (p.vertex, at) ∷ starts_of (at + p.reserved) ps

pub record Bill : Type 0 where
  pub vertices : ℕ
  pub links : ℕ
  pub bytes : ℕ

abbrev pub split_bill : ℕ → Model → Lookup → Bill
split_bill ceiling m l =
    record {
      vertices = sum_by (cut_vertices (is_wrapped l)) (all_cuts ceiling l);
      links = sum_by (cut_links (is_wrapped l)) (all_cuts ceiling l);
      bytes = sum_by (λ (p : Part). p.reserved) (taken_parts ceiling m.taken.vertices l);
    }

-- ROOM
pub record Capacities : Type 0 where
  pub vertices : ℕ
  pub links : ℕ
  pub bytes : ℕ

-- what counts of the rows and bytes that a caller lends; of link rows and parent rows the shorter
abbrev pub lent : ℕ → ℕ → ℕ → ℕ → Capacities
lent vertex_rows link_rows parent_rows bytes =
    record { vertices = min vertex_rows 800000; links = min (min link_rows parent_rows) 2000000; bytes = min bytes 67108864 }

-- the first pool that is too small
abbrev pub room_for : Capacities → Taken → Bill → Option Pool
room_for c t b =
    cond (nat_le (t.vertices + b.vertices) c.vertices)
    (cond (nat_le (t.links + b.links) c.links)
    (cond (nat_le (t.bytes + b.bytes) c.bytes) None (Some Bytes))
    (Some Links))
    (Some Vertices)

abbrev pub taken_with : Taken → Bill → Taken
taken_with t b = record { vertices = t.vertices + b.vertices; links = t.links + b.links; bytes = t.bytes + b.bytes }

abbrev pub with_lookup : Model → ℕ → Lookup → Bill → Model
with_lookup m n l b = record { lookups = set m.lookups n l; taken = taken_with m.taken b }

-- SPLIT
-- the first ligature in rule order whose table is longer than the ceiling less 12
abbrev pub long_in : ℕ → List Entry → Option ℕ
long_in ceiling [] = None
long_in ceiling (e ∷ es) = cond (nat_le (table_length e.ligature + 12) ceiling) (long_in ceiling es) (Some e.ligature.vertex)

abbrev pub first_long : ℕ → List Subtable → Option ℕ
first_long ceiling ss = long_in ceiling (flat_map entries ss)

abbrev pub subtable_limit : ℕ
subtable_limit = 6553

-- the model afterwards, and the number of new subtables or extension tables
pub record Changed : Type 0 where
  pub model : Model
  pub count : ℕ

abbrev pub noted : Option Pool → Changed → Result Changed Refusal
noted None c = Ok c
noted (Some p) c = Err (NoRoom p)

abbrev pub split_with : Capacities → (ℕ → List ℕ) → Model → ℕ → ℕ → Lookup → Result Changed Refusal
split_with caps wrote m n ceiling l =
    noted (room_for caps m.taken (split_bill ceiling m l))
    (record { model = with_lookup m n (split_lookup ceiling wrote m.taken.vertices l) (split_bill ceiling m l); count = length (all_cuts ceiling l) })

abbrev pub split_short : Capacities → (ℕ → List ℕ) → Model → ℕ → ℕ → Lookup → Option ℕ → Result Changed Refusal
split_short caps wrote m n ceiling l (Some v) = Err (LongLigature v)
split_short caps wrote m n ceiling l None =
    cond (nat_le (subtables_after ceiling l) subtable_limit) (split_with caps wrote m n ceiling l) (Err (TooManySubtables l.vertex))

abbrev pub split_in : Capacities → (ℕ → List ℕ) → Model → ℕ → ℕ → Option Lookup → Result Changed Refusal
split_in caps wrote m n ceiling None = Err NoLookup
split_in caps wrote m n ceiling (Some l) =
    cond (nat_le 16 ceiling && nat_le ceiling 65535) (split_short caps wrote m n ceiling l (first_long ceiling l.subtables)) (Err BadCeiling)

-- the outcome of split(lookup n, ceiling), when the codec writes wrote v for the coverage v
abbrev pub split : Capacities → (ℕ → List ℕ) → Model → ℕ → ℕ → Result Changed Refusal
split caps wrote m n ceiling = split_in caps wrote m n ceiling (nth m.lookups n)

-- WRAP
abbrev pub wrap_bill : Lookup → Bill
wrap_bill l = record { vertices = length l.subtables; links = length l.subtables; bytes = 8 * length l.subtables }

-- where the extension tables lie, from the first free byte on, in the order of their numbers
abbrev pub wrap_parts : ℕ → List Subtable → List Part
wrap_parts fresh [] = []
wrap_parts fresh (s ∷ ss) = part fresh 8 ∷ wrap_parts (suc fresh) ss

abbrev pub wrap_lookup : ℕ → Lookup → Lookup
wrap_lookup fresh l = record { vertex = l.vertex; kind = 7; flag = l.flag; mark = l.mark; subtables = extended fresh l.subtables }

abbrev pub wrap_in : Capacities → Model → ℕ → Option Lookup → Result Changed Refusal
wrap_in caps m n None = Err NoLookup
wrap_in caps m n (Some l) =
    cond (is_wrapped l) (Err IsExtension)
    (noted (room_for caps m.taken (wrap_bill l)) (record { model = with_lookup m n (wrap_lookup m.taken.vertices l) (wrap_bill l); count = length l.subtables }))

-- the outcome of wrap(lookup n)
abbrev pub wrap : Capacities → Model → ℕ → Result Changed Refusal
wrap caps m n = wrap_in caps m n (nth m.lookups n)
