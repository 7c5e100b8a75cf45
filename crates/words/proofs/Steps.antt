-- What one word does to what is still to come: a word that fits can be put in front of it, and what is to come begins with a word that fits.
use Rattle.std.proofs.Common.{◌≡◌, ℕ, zero, suc, ◌+◌, ◌*◌, ◌/◌, ◌%◌, ◌^◌, ◌<◌, Bool, true, eqb, ltb, List, [], ◌∷◌, ◌++◌, map, length, drop, Some, None, Option, sym, refl, ap, ◌∙◌, subst, append_assoc, add-zero, arith}
use Rattle.std.specs.List.{flat_map, AllByRecursion}
use Rattle.std.proofs.lemmas.List.{nil_from_length}
use Rattle.std.proofs.lemmas.Bool.{eqb-true, eq-eqb, ltb-true, lt-ltb, cond_both, cond-true, and_from}
use Rattle.words.specs.declared.WordKind.{WordKind}
use Rattle.words.specs.declared.WordKind.TheVariants.{Table, Value, Link2, Link4, Target, Virtual, Root, Count}
use Rattle.words.specs.declared.Width.{Width}
use Rattle.words.specs.declared.Width.TheVariants.{Two, Four}
use Rattle.words.specs.declared.Token.{Token}
use Rattle.words.specs.declared.Place.{Place}
use Rattle.words.specs.declared.Place.TheVariants.{Start, Inside, Linking, Rooting, Closed}
use Rattle.words.specs.Words.{room_of}
use Rattle.words.specs.Grammar.{StreamLink, real, virtual, StreamTable, say, link_kind, link_tokens, table_tokens, FineLink, FineTable}
use Rattle.words.specs.Reading.{Rest, rest, nothing, openable, closable, if_so, place_after, tables_with, word_then}
use Rattle.words.proofs.Saying.{cons_nil}

-- the spelling of what is still to come, n tables having begun
abbrev pub body : ℕ → Rest → List Token
body n r = map (say Value) r.values ++ (flat_map link_tokens r.links ++ (flat_map table_tokens r.tables ++ (map (say Root) r.roots ++ say Count (n + length r.tables) ∷ [])))

abbrev pub render : Place → ℕ → Rest → List Token
render Start n r = body n r
render (Inside k) n r = body n r
render (Linking w p) n r = drop 1 (body n r)
render Rooting n r = body n r
render Closed n r = []

-- what can be still to come at a place
abbrev pub Shape : Place → Rest → Type 0
Shape Start r = (r.values ≡ []) × (r.links ≡ [])
Shape (Inside k) r = length r.values ≡ k
Shape (Linking w p) r = (r.values ≡ []) × ((t : ℕ) × (ls : List StreamLink) × (r.links ≡ real w p t ∷ ls))
Shape Rooting r = (r.values ≡ []) × (r.links ≡ []) × (r.tables ≡ [])
Shape Closed r = r ≡ nothing

pub record Good (p : Place) (n : ℕ) (r : Rest) : Type 0 where
  pub shape : Shape p r
  pub rooted : AllByRecursion (λ x. x < n + length r.tables) r.roots

-- each number has room in its word
pub record Sizes (r : Rest) : Type 0 where
  pub values : AllByRecursion (λ v. v < 2 ^ 16) r.values
  pub links : AllByRecursion FineLink r.links
  pub tables : AllByRecursion FineTable r.tables

-- the position of a link was a number of the word before
abbrev pub Sized : Place → Rest → Type 0
Sized Start r = Sizes r
Sized (Inside k) r = Sizes r
Sized (Linking w p) r = p < 2 ^ 24 → Sizes r
Sized Rooting r = Sizes r
Sized Closed r = Sizes r

abbrev pub Counted : Place → ℕ → Rest → Type 0
Counted Start n r = n + length r.tables < 2 ^ 24
Counted (Inside k) n r = n + length r.tables < 2 ^ 24
Counted (Linking w p) n r = n + length r.tables < 2 ^ 24
Counted Rooting n r = n + length r.tables < 2 ^ 24
Counted Closed n r = Unit {0}

-- a word put in front of the rest
pub record Before (p : Place) (n : ℕ) (k : WordKind) (m : ℕ) (q : Place) (r : Rest) : Type 0 where
  pub good : Good p n (word_then k m p r)
  pub spelled : render p n (word_then k m p r) ≡ say k m ∷ render q (tables_with k n) r
  pub sized : m < room_of k → Sized q r → Sized p (word_then k m p r)
  pub counted : m < room_of k → Counted q (tables_with k n) r → Counted p n (word_then k m p r)

abbrev pub Leads : Place → ℕ → WordKind → ℕ → Option Place → Type 0
Leads p n k m None = Unit {0}
Leads p n k m (Some q) = (r : Rest) → Good q (tables_with k n) r → Before p n k m q r

regroup : (a b c d : List Token) → ((a ++ b) ++ c) ++ d ≡ a ++ (b ++ (c ++ d))
regroup a b c d = append_assoc (a ++ b) c d ∙ append_assoc a b (c ++ d)

pub body_table : (n m : ℕ) (vs : List ℕ) (ls : List StreamLink) (ts : List StreamTable) (rs : List ℕ) → 2 * length vs ≡ m
    → body n (rest [] [] (record { values = vs; links = ls } ∷ ts) rs) ≡ say Table m ∷ body (n + 1) (rest vs ls ts rs)
body_table n m vs ls ts rs e =
    let c : n + suc (length ts) ≡ n + 1 + length ts = omega arith in
    let last = map (say Root) rs ++ say Count (n + 1 + length ts) ∷ [] in
    rw (e, c) (ap (λ x. say Table m ∷ x) (regroup (map (say Value) vs) (flat_map link_tokens ls) (flat_map table_tokens ts) last))

all_shift : (n : ℕ) (l : ℕ) (rs : List ℕ) → AllByRecursion (λ x. x < n + 1 + l) rs → AllByRecursion (λ x. x < n + suc l) rs
all_shift n l [] a = tt
all_shift n l (r ∷ rs) a = (omega (arith, a.0), all_shift n l rs a.1)

all_back : (n : ℕ) (l : ℕ) (rs : List ℕ) → AllByRecursion (λ x. x < n + suc l) rs → AllByRecursion (λ x. x < n + 1 + l) rs
all_back n l [] a = tt
all_back n l (r ∷ rs) a = (omega (arith, a.0), all_back n l rs a.1)

half : (m : ℕ) → eqb (m % 2) 0 ≡ true → 2 * (m / 2) ≡ m
half m e = omega (arith, eqb-true (m % 2) 0 e)

even : (v : ℕ) → eqb (2 * v % 2) 0 ≡ true
even v = eq-eqb (2 * v % 2) 0 (omega arith)

-- a place that leaves all to the rest
record Plain (p : Place) (n : ℕ) : Type 0 where
  render_is : (r : Rest) → render p n r ≡ body n r
  sized_is : (r : Rest) → Sizes r → Sized p r
  counted_is : (r : Rest) → n + length r.tables < 2 ^ 24 → Counted p n r

start : (n : ℕ) → Plain Start n
start n = record { render_is = λ r. refl; sized_is = λ r s. s; counted_is = λ r c. c }

inside : (k n : ℕ) → Plain (Inside k) n
inside k n = record { render_is = λ r. refl; sized_is = λ r s. s; counted_is = λ r c. c }

rooting : (n : ℕ) → Plain Rooting n
rooting n = record { render_is = λ r. refl; sized_is = λ r s. s; counted_is = λ r c. c }

-- A WORD THAT FITS
module _ (m n : ℕ) (p : Place) (plain : Plain p n) where
  lead_table : ((ts : List StreamTable) (rs : List ℕ) → Shape p (rest [] [] ts rs)) → eqb (m % 2) 0 ≡ true → Leads p n Table m (Some (Inside (m / 2)))
  lead_table sh e r g =
      let v : 2 * length r.values ≡ m = omega (arith, half m e, g.shape) in
      record {
        good = record { shape = sh _ _; rooted = all_shift n (length r.tables) r.roots g.rooted };
        spelled = plain.render_is _ ∙ body_table n m r.values r.links r.tables r.roots v;
        sized = λ lt s. plain.sized_is _ (record { values = tt; links = tt; tables = (record { values = s.values; size = omega arith; links = s.links }, s.tables) });
        counted = λ lt h. plain.counted_is _ (omega arith);
      }

  root_before : ((rs : List ℕ) → Shape p (rest [] [] [] rs)) → ltb m n ≡ true → (vs : List ℕ) (ls : List StreamLink) (ts : List StreamTable) (rs : List ℕ)
      → Good Rooting n (rest vs ls ts rs) → Before p n Root m Rooting (rest vs ls ts rs)
  root_before sh e (v ∷ vs) ls ts rs g = absurd (cons_nil g.shape.0)
  root_before sh e [] (l ∷ ls) ts rs g = absurd (cons_nil g.shape.1)
  root_before sh e [] [] (t ∷ ts) rs g = absurd (cons_nil g.shape.2)
  root_before sh e [] [] [] rs g =
      record {
        good = record { shape = sh _; rooted = (omega (arith, ltb-true m n e), g.rooted) };
        spelled = plain.render_is _;
        sized = λ lt s. plain.sized_is _ (record { values = tt; links = tt; tables = tt });
        counted = λ lt h. plain.counted_is _ h;
      }

  lead_root : ((rs : List ℕ) → Shape p (rest [] [] [] rs)) → ltb m n ≡ true → Leads p n Root m (Some Rooting)
  lead_root sh e r g = root_before sh e r.values r.links r.tables r.roots g

  lead_count : Shape p nothing → eqb m n ≡ true → Leads p n Count m (Some Closed)
  lead_count sh e r g =
      let same = eqb-true m n e in
      let z : n + 0 ≡ m = omega arith in
      subst (λ (x : Rest). Before p n Count m Closed x) (sym g.shape) (record {
        good = record { shape = sh; rooted = tt };
        spelled = plain.render_is _ ∙ ap (λ x. say Count x ∷ []) z;
        sized = λ lt s. plain.sized_is _ s;
        counted = λ lt h. plain.counted_is _ (omega arith);
      })

link_front : (w : Width) (m t n : ℕ) (vs : List ℕ) (ls ls' : List StreamLink) (ts : List StreamTable) (rs : List ℕ) → vs ≡ [] → ls ≡ real w m t ∷ ls'
    → body n (rest vs ls ts rs) ≡ say (link_kind w) m ∷ drop 1 (body n (rest vs ls ts rs))
link_front w m t n vs ls ls' ts rs e f = rw (e, f)

lead_link2 : (m n : ℕ) → Leads (Inside 0) n Link2 m (Some (Linking Two m))
lead_link2 m n r g =
    let s = g.shape in
    record {
      good = record { shape = ap length s.0; rooted = g.rooted };
      spelled = link_front Two m s.1.0 n r.values r.links s.1.1 r.tables r.roots s.0 s.1.2;
      sized = λ lt h. h lt;
      counted = λ lt h. h;
    }

lead_link4 : (m n : ℕ) → Leads (Inside 0) n Link4 m (Some (Linking Four m))
lead_link4 m n r g =
    let s = g.shape in
    record {
      good = record { shape = ap length s.0; rooted = g.rooted };
      spelled = link_front Four m s.1.0 n r.values r.links s.1.1 r.tables r.roots s.0 s.1.2;
      sized = λ lt h. h lt;
      counted = λ lt h. h;
    }

target_front : (w : Width) (p m n : ℕ) (vs : List ℕ) (ls : List StreamLink) (ts : List StreamTable) (rs : List ℕ) → vs ≡ []
    → drop 1 (body n (rest vs (real w p m ∷ ls) ts rs)) ≡ say Target m ∷ body n (rest vs ls ts rs)
target_front w p m n vs ls ts rs e = rw e

lead_target : (w : Width) (p m n : ℕ) → Leads (Linking w p) n Target m (Some (Inside 0))
lead_target w p m n r g =
    let e = nil_from_length r.values g.shape in
    record {
      good = record { shape = (e, (m, r.links, refl)); rooted = g.rooted };
      spelled = target_front w p m n r.values r.links r.tables r.roots e;
      sized = λ lt s at. record { values = s.values; links = ((at, lt), s.links); tables = s.tables };
      counted = λ lt h. h;
    }

virtual_front : (m n : ℕ) (vs : List ℕ) (ls : List StreamLink) (ts : List StreamTable) (rs : List ℕ) → vs ≡ []
    → body n (rest vs (virtual m ∷ ls) ts rs) ≡ say Virtual m ∷ body n (rest vs ls ts rs)
virtual_front m n vs ls ts rs e = rw e

lead_virtual : (m n : ℕ) → Leads (Inside 0) n Virtual m (Some (Inside 0))
lead_virtual m n r g =
    record {
      good = record { shape = g.shape; rooted = g.rooted };
      spelled = virtual_front m n r.values r.links r.tables r.roots (nil_from_length r.values g.shape);
      sized = λ lt s. record { values = s.values; links = (lt, s.links); tables = s.tables };
      counted = λ lt h. h;
    }

lead_value : (k m n : ℕ) → Leads (Inside (suc k)) n Value m (Some (Inside k))
lead_value k m n r g =
    record {
      good = record { shape = ap suc g.shape; rooted = g.rooted };
      spelled = refl;
      sized = λ lt s. record { values = (lt, s.values); links = s.links; tables = s.tables };
      counted = λ lt h. h;
    }

if_leads : (p : Place) (n : ℕ) (k : WordKind) (m : ℕ) (b : Bool) (q : Place) → (b ≡ true → Leads p n k m (Some q)) → Leads p n k m (if_so b q)
if_leads p n k m b q f = cond_both b (Some q) None (Leads p n k m) f (λ e. tt)

pub leads : (k : WordKind) (m : ℕ) (p : Place) (n : ℕ) → Leads p n k m (place_after k m p n)
leads Table m Start n = if_leads _ _ _ _ _ _ (lead_table m n Start (start n) (λ ts rs. (refl, refl)))
leads Table m (Inside zero) n = if_leads _ _ _ _ _ _ (lead_table m n (Inside 0) (inside 0 n) (λ ts rs. refl))
leads Table m (Inside (suc k)) n = tt
leads Table m (Linking w p) n = tt
leads Table m Rooting n = tt
leads Table m Closed n = tt
leads Value m Start n = tt
leads Value m (Inside zero) n = tt
leads Value m (Inside (suc k)) n = lead_value k m n
leads Value m (Linking w p) n = tt
leads Value m Rooting n = tt
leads Value m Closed n = tt
leads Link2 m Start n = tt
leads Link2 m (Inside zero) n = lead_link2 m n
leads Link2 m (Inside (suc k)) n = tt
leads Link2 m (Linking w p) n = tt
leads Link2 m Rooting n = tt
leads Link2 m Closed n = tt
leads Link4 m Start n = tt
leads Link4 m (Inside zero) n = lead_link4 m n
leads Link4 m (Inside (suc k)) n = tt
leads Link4 m (Linking w p) n = tt
leads Link4 m Rooting n = tt
leads Link4 m Closed n = tt
leads Target m Start n = tt
leads Target m (Inside k) n = tt
leads Target m (Linking w p) n = lead_target w p m n
leads Target m Rooting n = tt
leads Target m Closed n = tt
leads Virtual m Start n = tt
leads Virtual m (Inside zero) n = lead_virtual m n
leads Virtual m (Inside (suc k)) n = tt
leads Virtual m (Linking w p) n = tt
leads Virtual m Rooting n = tt
leads Virtual m Closed n = tt
leads Root m Start n = if_leads _ _ _ _ _ _ (lead_root m n Start (start n) (λ rs. (refl, refl)))
leads Root m (Inside zero) n = if_leads _ _ _ _ _ _ (lead_root m n (Inside 0) (inside 0 n) (λ rs. refl))
leads Root m (Inside (suc k)) n = tt
leads Root m (Linking w p) n = tt
leads Root m Rooting n = if_leads _ _ _ _ _ _ (lead_root m n Rooting (rooting n) (λ rs. (refl, refl, refl)))
leads Root m Closed n = tt
leads Count m Start n = if_leads _ _ _ _ _ _ (lead_count m n Start (start n) (refl, refl))
leads Count m (Inside zero) n = if_leads _ _ _ _ _ _ (lead_count m n (Inside 0) (inside 0 n) refl)
leads Count m (Inside (suc k)) n = tt
leads Count m (Linking w p) n = tt
leads Count m Rooting n = if_leads _ _ _ _ _ _ (lead_count m n Rooting (rooting n) (refl, refl, refl))
leads Count m Closed n = tt

-- WHAT IS TO COME BEGINS WITH A WORD THAT FITS
pub record Move (p : Place) (n : ℕ) (r : Rest) : Type 0 where
  pub kind : WordKind
  pub number : ℕ
  pub next : Place
  pub left : Rest
  pub fits : place_after kind number p n ≡ Some next
  pub good : Good next (tables_with kind n) left
  pub made : word_then kind number p left ≡ r
  pub spelled : render p n r ≡ say kind number ∷ render next (tables_with kind n) left

-- at the end nothing is to come
abbrev pub Moves : Place → ℕ → Rest → Type 0
Moves Start n r = Move Start n r
Moves (Inside k) n r = Move (Inside k) n r
Moves (Linking w p) n r = Move (Linking w p) n r
Moves Rooting n r = Move Rooting n r
Moves Closed n r = r ≡ nothing

so : (b : Bool) (q : Place) → b ≡ true → if_so b q ≡ Some q
so b q e = cond-true b (Some q) None e

module _ (n : ℕ) (p : Place) (plain : Plain p n) (cl : closable p ≡ true) where
  ending_move : (rs : List ℕ) → AllByRecursion (λ x. x < n + 0) rs → Move p n (rest [] [] [] rs)
  ending_move [] a =
      record {
        kind = Count;
        number = n;
        next = Closed;
        left = nothing;
        fits = so _ Closed (and_from _ _ cl (eq-eqb n n refl));
        good = record { shape = refl; rooted = tt };
        made = refl;
        spelled = plain.render_is _ ∙ ap (λ x. say Count x ∷ []) (add-zero n);
      }
  ending_move (x ∷ rs) a =
      record {
        kind = Root;
        number = x;
        next = Rooting;
        left = rest [] [] [] rs;
        fits = so _ Rooting (and_from _ _ cl (lt-ltb x n (omega (arith, a.0))));
        good = record { shape = (refl, refl, refl); rooted = a.1 };
        made = refl;
        spelled = plain.render_is _;
      }

  opening_move : openable p ≡ true → (ts : List StreamTable) (rs : List ℕ) → AllByRecursion (λ x. x < n + length ts) rs → Move p n (rest [] [] ts rs)
  opening_move op [] rs a = ending_move rs a
  opening_move op (t ∷ ts) rs a =
      let v = t.values in
      let h : 2 * length v / 2 ≡ length v = omega arith in
      record {
        kind = Table;
        number = 2 * length v;
        next = Inside (length v);
        left = rest v t.links ts rs;
        fits = so _ (Inside (2 * length v / 2)) (and_from _ _ op (even (length v))) ∙ ap (λ x. Some (Inside x)) h;
        good = record { shape = refl; rooted = all_back n (length ts) rs a };
        made = refl;
        spelled = plain.render_is _ ∙ body_table n (2 * length v) v t.links ts rs refl;
      }

linking_move : (w : Width) (p n t : ℕ) (ls : List StreamLink) (ts : List StreamTable) (rs : List ℕ) → AllByRecursion (λ x. x < n + length ts) rs → Move (Linking w p) n (rest [] (real w p t ∷ ls) ts rs)
linking_move w p n t ls ts rs a =
    record {
      kind = Target;
      number = t;
      next = Inside 0;
      left = rest [] ls ts rs;
      fits = refl;
      good = record { shape = refl; rooted = a };
      made = refl;
      spelled = refl;
    }

pub moves : (p : Place) (n : ℕ) (vs : List ℕ) (ls : List StreamLink) (ts : List StreamTable) (rs : List ℕ) → Good p n (rest vs ls ts rs) → Moves p n (rest vs ls ts rs)
moves Start n [] [] ts rs g = opening_move n Start (start n) refl refl ts rs g.rooted
moves Start n [] (l ∷ ls) ts rs g = absurd (cons_nil g.shape.1)
moves Start n (v ∷ vs) ls ts rs g = absurd (cons_nil g.shape.0)
moves (Inside zero) n [] [] ts rs g = opening_move n (Inside 0) (inside 0 n) refl refl ts rs g.rooted
moves (Inside zero) n [] (real Two p t ∷ ls) ts rs g =
    record {
      kind = Link2;
      number = p;
      next = Linking Two p;
      left = rest [] (real Two p t ∷ ls) ts rs;
      fits = refl;
      good = record { shape = (refl, (t, ls, refl)); rooted = g.rooted };
      made = refl;
      spelled = refl;
    }
moves (Inside zero) n [] (real Four p t ∷ ls) ts rs g =
    record {
      kind = Link4;
      number = p;
      next = Linking Four p;
      left = rest [] (real Four p t ∷ ls) ts rs;
      fits = refl;
      good = record { shape = (refl, (t, ls, refl)); rooted = g.rooted };
      made = refl;
      spelled = refl;
    }
moves (Inside zero) n [] (virtual t ∷ ls) ts rs g =
    record {
      kind = Virtual;
      number = t;
      next = Inside 0;
      left = rest [] ls ts rs;
      fits = refl;
      good = record { shape = refl; rooted = g.rooted };
      made = refl;
      spelled = refl;
    }
moves (Inside zero) n (v ∷ vs) ls ts rs g = absurd (omega (arith, g.shape))
moves (Inside (suc k)) n [] ls ts rs g = absurd (omega (arith, g.shape))
moves (Inside (suc k)) n (v ∷ vs) ls ts rs g =
    record {
      kind = Value;
      number = v;
      next = Inside k;
      left = rest vs ls ts rs;
      fits = refl;
      good = record { shape = omega (arith, g.shape); rooted = g.rooted };
      made = refl;
      spelled = refl;
    }
moves (Linking w p) n vs ls ts rs g =
    let e = g.shape.0 in
    let f = g.shape.1.2 in
    rw (e, f) (linking_move w p n g.shape.1.0 g.shape.1.1 ts rs g.rooted)
moves Rooting n [] [] [] rs g = ending_move n Rooting (rooting n) refl rs g.rooted
moves Rooting n (v ∷ vs) ls ts rs g = absurd (cons_nil g.shape.0)
moves Rooting n [] (l ∷ ls) ts rs g = absurd (cons_nil g.shape.1)
moves Rooting n [] [] (t ∷ ts) rs g = absurd (cons_nil g.shape.2)
moves Closed n vs ls ts rs g = g.shape
