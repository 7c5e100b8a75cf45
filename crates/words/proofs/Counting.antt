-- What has been counted and what is still to come make up what the whole stream has.
use Rattle.std.proofs.Common.{◌≡◌, ℕ, ◌+◌, ◌*◌, ◌<◌, ◌≤◌, List, ◌∷◌, length, get_or, drop, Some, None, Ok, Err, Option, Result, sym, refl, ap, ◌∙◌, subst, add-zero, arith}
use Rattle.std.proofs.lemmas.List.{at_drop_more, at_drop_all}
use Rattle.std.specs.Option.{ok_or}
use Rattle.refusals.specs.declared.Refusal.{Refusal}
use Rattle.refusals.specs.declared.Refusal.TheVariants.{BadWord}
use Rattle.words.specs.declared.WordKind.{WordKind}
use Rattle.words.specs.declared.WordKind.TheVariants.{Table, Value, Link2, Link4, Target, Virtual, Root, Count}
use Rattle.words.specs.declared.Token.{Token}
use Rattle.words.specs.declared.Place.{Place}
use Rattle.words.specs.declared.Place.TheVariants.{Start, Inside, Linking, Rooting, Closed}
use Rattle.words.specs.declared.StreamCounts.{StreamCounts}
use Rattle.words.specs.declared.Reading.{Reading}
use Rattle.words.specs.Words.{token_of}
use Rattle.words.specs.Reading.{Rest, nothing, place_after, next_place, tables_with, word_then, further, onward, onward_to, at_end, read, stream_of, parse, links_in, bytes_in, scanned_as, scanned, counted, stepped_to, stepped_by, stepped}
use Rattle.words.proofs.Saying.{none_some}
use Rattle.words.specs.Grammar.{Stream}
use Rattle.words.specs.Laws.{Tells}
use Rattle.words.proofs.Whole.{Told, told, streams_spell_lem, misfits_tell_lem}

abbrev count4 : ℕ → ℕ → ℕ → ℕ → StreamCounts
count4 t l b r = record { tables = t; links = l; bytes = b; roots = r }

-- so much has been counted, and this is still to come
abbrev total : StreamCounts → Rest → StreamCounts
total c r = count4 (c.tables + length r.tables) (c.links + (length r.links + links_in r.tables)) (c.bytes + (2 * length r.values + bytes_in r.tables)) (c.roots + length r.roots)

abbrev totalled : StreamCounts → ℕ → Result Rest ℕ → Result StreamCounts Refusal
totalled c i (Ok r) = Ok (total c r)
totalled c i (Err j) = Err (BadWord (i + j))

-- what a reader behind the first i words will answer
abbrev pub resumed : Reading → ℕ → List ℕ → Result StreamCounts Refusal
resumed d i ws = totalled d.counts i (read ws d.place d.counts.tables)

-- a reader behind the first i words
pub record Far (ws : List ℕ) (i : ℕ) (d : Reading) : Type 0 where
  pub so : resumed d i (drop i ws) ≡ scanned ws
  pub tables : d.counts.tables ≤ i
  pub links : d.counts.links ≤ i
  pub bytes : d.counts.bytes ≤ 2 * i
  pub roots : d.counts.roots ≤ i

same_counts : (t l b r t' l' b' r' : ℕ) → t ≡ t' → l ≡ l' → b ≡ b' → r ≡ r' → count4 t l b r ≡ count4 t' l' b' r'
same_counts t l b r t' l' b' r' e f g h = cc

-- AT THE START
abbrev pub fresh : Reading
fresh = record { place = Start; counts = record { tables = 0; links = 0; bytes = 0; roots = 0 } }

begun : (ws : List ℕ) (x : Result Rest ℕ) → Told ws Start 0 x → totalled fresh.counts 0 x ≡ scanned_as (stream_of x)
begun ws (Ok r) h =
    let e : length r.values ≡ 0 = ap length h.good.shape.0 in
    let f : length r.links ≡ 0 = ap length h.good.shape.1 in
    ap Ok (same_counts _ _ _ _ _ _ _ _ (omega arith) (omega arith) (omega arith) (omega arith))
begun ws (Err i) h = ap (λ k. Err (BadWord k)) (omega arith)

is_fresh : (p : Place) (t l b r : ℕ) → p ≡ Start → t ≡ 0 → l ≡ 0 → b ≡ 0 → r ≡ 0 → record { place = p; counts = count4 t l b r } ≡ fresh
is_fresh p t l b r e f g h i = cc

pub at_fresh : (ws : List ℕ) → Far ws 0 fresh
at_fresh ws = record { so = begun ws (read ws Start 0) (told ws Start 0); tables = omega arith; links = omega arith; bytes = omega arith; roots = omega arith }

pub at_start : (ws : List ℕ) (d : Reading) → (d.place ≡ Start) × ((d.counts.tables ≡ 0) × ((d.counts.links ≡ 0) × ((d.counts.bytes ≡ 0) × (d.counts.roots ≡ 0)))) → Far ws 0 d
at_start ws d e = subst (Far ws 0) (sym (is_fresh _ _ _ _ _ e.0 e.1.0 e.1.1.0 e.1.1.1.0 e.1.1.1.1)) (at_fresh ws)

-- ONE WORD MORE
one_total : (k : WordKind) (m : ℕ) (p q : Place) (n : ℕ) → place_after k m p n ≡ Some q → (c : StreamCounts) (r : Rest) → total c (word_then k m p r) ≡ total (counted k c) r
one_total Table m p q n e c r = same_counts _ _ _ _ _ _ _ _ (omega arith) (omega arith) (omega arith) (omega arith)
one_total Value m p q n e c r = same_counts _ _ _ _ _ _ _ _ (omega arith) (omega arith) (omega arith) (omega arith)
one_total Link2 m p q n e c r = refl
one_total Link4 m p q n e c r = refl
one_total Target m Start q n e c r = absurd (none_some e)
one_total Target m (Inside k) q n e c r = absurd (none_some e)
one_total Target m (Linking w p) q n e c r = same_counts _ _ _ _ _ _ _ _ (omega arith) (omega arith) (omega arith) (omega arith)
one_total Target m Rooting q n e c r = absurd (none_some e)
one_total Target m Closed q n e c r = absurd (none_some e)
one_total Virtual m p q n e c r = same_counts _ _ _ _ _ _ _ _ (omega arith) (omega arith) (omega arith) (omega arith)
one_total Root m p q n e c r = same_counts _ _ _ _ _ _ _ _ (omega arith) (omega arith) (omega arith) (omega arith)
one_total Count m p q n e c r = refl

one_totalled : (k : WordKind) (m : ℕ) (p q : Place) (n : ℕ) → place_after k m p n ≡ Some q → (c : StreamCounts) (i : ℕ) (x : Result Rest ℕ)
    → totalled c i (further (word_then k m p) x) ≡ totalled (counted k c) (i + 1) x
one_totalled k m p q n e c i (Ok r) = ap Ok (one_total k m p q n e c r)
one_totalled k m p q n e c i (Err j) = ap (λ x. Err (BadWord x)) (omega arith)

with_tables : (k : WordKind) (c : StreamCounts) → tables_with k c.tables ≡ (counted k c).tables
with_tables k c = grind arith

module _ (i : ℕ) (ws : List ℕ) (d e : Reading) where
  to_place : (t : Token) (o : Option Place) → next_place d.place d.counts.tables t ≡ o → stepped_to t.kind d.counts o ≡ Some e
      → totalled d.counts i (onward_to (λ q m. read ws q m) d.place d.counts.tables t o) ≡ resumed e (i + 1) ws
  to_place t None f h = absurd (none_some h)
  to_place t (Some q) f h =
      let same : record { place = q; counts = counted t.kind d.counts } ≡ e = cc in
      one_totalled t.kind t.number d.place q d.counts.tables f d.counts i (read ws q (tables_with t.kind d.counts.tables))
      ∙ ap (λ n. totalled (counted t.kind d.counts) (i + 1) (read ws q n)) (with_tables t.kind d.counts)
      ∙ ap (λ (x : Reading). resumed x (i + 1) ws) same

  to_token : (o : Option Token) → stepped_by d o ≡ Some e → totalled d.counts i (onward (λ q m. read ws q m) d.place d.counts.tables o) ≡ resumed e (i + 1) ws
  to_token None h = absurd (none_some h)
  to_token (Some t) h = to_place t (next_place d.place d.counts.tables t) refl h

-- the counts grow by at most one, the bytes by two
record Grown (c d : StreamCounts) : Type 0 where
  tables : d.tables ≤ c.tables + 1
  links : d.links ≤ c.links + 1
  bytes : d.bytes ≤ c.bytes + 2
  roots : d.roots ≤ c.roots + 1

grown_by : (k : WordKind) (c : StreamCounts) → Grown c (counted k c)
grown_by k c = record { tables = grind arith; links = grind arith; bytes = grind arith; roots = grind arith }

grown_to : (k : WordKind) (c : StreamCounts) (o : Option Place) (e : Reading) → stepped_to k c o ≡ Some e → Grown c e.counts
grown_to k c None e h = absurd (none_some h)
grown_to k c (Some q) e h =
    let same : record { place = q; counts = counted k c } ≡ e = cc in
    subst (λ (x : Reading). Grown c x.counts) same (grown_by k c)

grown_on : (d e : Reading) (o : Option Token) → stepped_by d o ≡ Some e → Grown d.counts e.counts
grown_on d e None h = absurd (none_some h)
grown_on d e (Some t) h = grown_to t.kind d.counts (next_place d.place d.counts.tables t) e h

-- the word at i is w
at_word : (ws : List ℕ) (i : ℕ) (d : Reading) → i < length ws → resumed d i (drop i ws) ≡ resumed d i (get_or ws i 0 ∷ drop (i + 1) ws)
at_word ws i d l = at_drop_more (resumed d i) ws i 0 l

pub again : (ws : List ℕ) (i : ℕ) (d e : Reading) (o : Option Reading) → i < length ws → Far ws i d → o ≡ stepped d (get_or ws i 0) → o ≡ Some e → Far ws (i + 1) e
again ws i d e o l f h' k =
    let h = sym h' ∙ k in
    let g = grown_on d e (token_of (get_or ws i 0)) h in
    record {
      so = sym (to_token i (drop (i + 1) ws) d e (token_of (get_or ws i 0)) h) ∙ sym (at_word ws i d l) ∙ f.so;
      tables = omega (arith, g.tables, f.tables);
      links = omega (arith, g.links, f.links);
      bytes = omega (arith, g.bytes, f.bytes);
      roots = omega (arith, g.roots, f.roots);
    }

-- THE WORD DOES NOT FIT
no_place : (i : ℕ) (ws : List ℕ) (d : Reading) (t : Token) (o : Option Place) → stepped_to t.kind d.counts o ≡ None
    → totalled d.counts i (onward_to (λ q m. read ws q m) d.place d.counts.tables t o) ≡ Err (BadWord i)
no_place i ws d t None h = ap (λ x. Err (BadWord x)) (add-zero i)
no_place i ws d t (Some q) h = absurd (none_some (sym h))

no_token : (i : ℕ) (ws : List ℕ) (d : Reading) (o : Option Token) → stepped_by d o ≡ None
    → totalled d.counts i (onward (λ q m. read ws q m) d.place d.counts.tables o) ≡ Err (BadWord i)
no_token i ws d None h = ap (λ x. Err (BadWord x)) (add-zero i)
no_token i ws d (Some t) h = no_place i ws d t (next_place d.place d.counts.tables t) h

pub ok_or_none : {X : Type 0} (o : Option X) (e f : Refusal) → Err f ≡ ok_or o e → o ≡ None → f ≡ e
ok_or_none {X} o e f h n = let k : ◌≡◌ {A = Result X Refusal} (Err f) (Err e) = h ∙ ap (λ (p : Option X). ok_or p e) n in cc

pub unfit : (ws : List ℕ) (i : ℕ) (d : Reading) (o : Option Reading) → i < length ws → Far ws i d → o ≡ stepped d (get_or ws i 0) → o ≡ None → Err (BadWord i) ≡ scanned ws
unfit ws i d o l f h' k = let h = sym h' ∙ k in sym (no_token i (drop (i + 1) ws) d (token_of (get_or ws i 0)) h) ∙ sym (at_word ws i d l) ∙ f.so

-- AT THE END
at_end_lem : (ws : List ℕ) (i : ℕ) (d : Reading) → length ws ≤ i → Far ws i d → totalled d.counts i (at_end d.place) ≡ scanned ws
at_end_lem ws i d l f = sym (at_drop_all (resumed d i) ws i l) ∙ f.so

pub ended : (ws : List ℕ) (i : ℕ) (d : Reading) → length ws ≤ i → Far ws i d → d.place ≡ Closed → Ok d.counts ≡ scanned ws
ended ws i d l f e =
    let a : totalled d.counts i (at_end d.place) ≡ Ok (total d.counts nothing) = ap (λ p. totalled d.counts i (at_end p)) e in
    let b : total d.counts nothing ≡ d.counts = same_counts _ _ _ _ _ _ _ _ (omega arith) (omega arith) (omega arith) (omega arith) in
    sym (a ∙ ap Ok b) ∙ at_end_lem ws i d l f

wanting : (p : Place) → (p ≡ Closed → ⊥) → at_end p ≡ Err 0
wanting Start n = refl
wanting (Inside k) n = refl
wanting (Linking w q) n = refl
wanting Rooting n = refl
wanting Closed n = absurd (n refl)

pub unended : (ws : List ℕ) (i : ℕ) (d : Reading) → length ws ≤ i → i ≤ length ws → Far ws i d → (d.place ≡ Closed → ⊥) → Err (BadWord (length ws)) ≡ scanned ws
unended ws i d l m f n =
    let same : length ws ≡ i + 0 = omega arith in
    ap (λ k. Err (BadWord k)) same ∙ sym (ap (totalled d.counts i) (wanting d.place n)) ∙ at_end_lem ws i d l f

-- WHAT THE ANSWER SAYS
tells_as : (ws : List ℕ) (x : Result Stream ℕ) → parse ws ≡ x → Tells ws (scanned_as x)
tells_as ws (Ok s) e = (s, (streams_spell_lem ws s).0 e, refl)
tells_as ws (Err i) e = (i, (misfits_tell_lem ws i).0 e, refl)

pub tells : (ws : List ℕ) (r : Result StreamCounts Refusal) → r ≡ scanned ws → Tells ws r
tells ws r e = subst (Tells ws) (sym e) (tells_as ws (parse ws) refl)
