-- Reading whole lists of words: what is accepted, what is refused, and where.
use Rattle.std.proofs.Common.{◌≡◌, ℕ, zero, suc, ◌+◌, ◌^◌, ◌<◌, ◌≤◌, ◌⊎◌, List, [], ◌∷◌, ◌++◌, map, length, take, drop, replicate, Some, None, Ok, Err, Option, Result, sym, refl, ap, ◌∙◌, subst, inl, inr, ⊎_elim, zero-add, arith}
use Rattle.std.specs.List.{flat_map, AllByRecursion}
use Rattle.std.proofs.lemmas.List.{take-append-drop, length-take-le, length-replicate}
use Rattle.std.proofs.ByRecursion.{All-append, All-weaker, All-map}
use Rattle.std.proofs.lemmas.Bool.{cases_lt}
use Rattle.words.specs.declared.WordKind.TheVariants.{Value, Root, Count}
use Rattle.words.specs.declared.Width.TheVariants.{Two, Four}
use Rattle.words.specs.declared.Token.{Token}
use Rattle.words.specs.declared.Place.{Place}
use Rattle.words.specs.declared.Place.TheVariants.{Start, Inside, Linking, Rooting, Closed}
use Rattle.words.specs.Words.{Fits, token_of}
use Rattle.words.specs.Grammar.{StreamLink, real, virtual, StreamTable, Stream, say, link_tokens, table_tokens, tokens, FineLink, FineTable, Uncounted, Fine, Spells, Front, Misfit}
use Rattle.words.specs.Reading.{Rest, rest, nothing, next_place, tables_with, word_then, further, onward, onward_to, at_end, read, stream_of, parse}
use Rattle.words.specs.Laws.{StreamsSpell, MisfitsTell}
use Rattle.words.proofs.Saying.{cons_nil, says, all_say, all_said}
use Rattle.words.proofs.Steps.{render, Shape, Good, Sizes, Sized, Counted, Leads, leads, Move, Moves, moves}

-- WHAT IS READ
-- the words are the front of what can be to come
pub record FrontAt (p : Place) (n : ℕ) (ws : List ℕ) : Type 0 where
  pub rest : Rest
  pub more : List Token
  pub good : Good p n rest
  pub sized : Sized p rest
  pub words : map token_of ws ++ map Some more ≡ map Some (render p n rest)

pub record Accepted (ws : List ℕ) (p : Place) (n : ℕ) (r : Rest) : Type 0 where
  pub good : Good p n r
  pub sized : Sized p r
  pub counted : Counted p n r
  pub words : map token_of ws ≡ map Some (render p n r)

pub record Refused (ws : List ℕ) (p : Place) (n : ℕ) (i : ℕ) : Type 0 where
  pub within : i ≤ length ws
  pub fronts : (j : ℕ) → j ≤ i → FrontAt p n (take j ws)

abbrev pub Told : List ℕ → Place → ℕ → Result Rest ℕ → Type 0
Told ws p n (Ok r) = Accepted ws p n r
Told ws p n (Err i) = Refused ws p n i

zeros : (k : ℕ) → AllByRecursion (λ v. v < 2 ^ 16) (replicate k 0)
zeros zero = tt
zeros (suc k) = (omega arith, zeros k)

-- at each place something can be to come
bare : (p : Place) (n : ℕ) → FrontAt p n []
bare Start n = record { rest = nothing; more = render Start n nothing; good = record { shape = (refl, refl); rooted = tt }; sized = record { values = tt; links = tt; tables = tt }; words = refl }
bare (Inside k) n =
    record {
      rest = rest (replicate k 0) [] [] [];
      more = render (Inside k) n (rest (replicate k 0) [] [] []);
      good = record { shape = length-replicate k 0; rooted = tt };
      sized = record { values = zeros k; links = tt; tables = tt };
      words = refl;
    }
bare (Linking w p) n =
    record {
      rest = rest [] (real w p 0 ∷ []) [] [];
      more = render (Linking w p) n (rest [] (real w p 0 ∷ []) [] []);
      good = record { shape = (refl, (0, [], refl)); rooted = tt };
      sized = λ at. record { values = tt; links = ((at, omega arith), tt); tables = tt };
      words = refl;
    }
bare Rooting n = record { rest = nothing; more = render Rooting n nothing; good = record { shape = (refl, refl, refl); rooted = tt }; sized = record { values = tt; links = tt; tables = tt }; words = refl }
bare Closed n = record { rest = nothing; more = []; good = record { shape = refl; rooted = tt }; sized = record { values = tt; links = tt; tables = tt }; words = refl }

at_once : (ws : List ℕ) (p : Place) (n : ℕ) → Refused ws p n 0
at_once ws p n = record { within = omega arith; fronts = none }
  where
    none : (j : ℕ) → j ≤ 0 → FrontAt p n (take j ws)
    none zero l = bare p n
    none (suc j) l = absurd (omega arith)

module _ (w : ℕ) (ws : List ℕ) (p : Place) (n : ℕ) (t : Token) (e : token_of w ≡ Some t) (q : Place) (lead : Leads p n t.kind t.number (Some q)) where
  one_more : (us : List ℕ) → FrontAt q (tables_with t.kind n) us → FrontAt p n (w ∷ us)
  one_more us f =
      let b = lead f.rest f.good in
      record {
        rest = word_then t.kind t.number p f.rest;
        more = f.more;
        good = b.good;
        sized = b.sized (says w t e).0 f.sized;
        words = ap (λ x. x ∷ (map token_of us ++ map Some f.more)) e ∙ ap (λ x. Some t ∷ x) f.words ∙ sym (ap (map Some) b.spelled);
      }

  fronts_more : (j i : ℕ) → j ≤ suc i → Refused ws q (tables_with t.kind n) i → FrontAt p n (take j (w ∷ ws))
  fronts_more zero i l h = bare p n
  fronts_more (suc j) i l h = one_more (take j ws) (h.fronts j (omega arith))

  told_further : (x : Result Rest ℕ) → Told ws q (tables_with t.kind n) x → Told (w ∷ ws) p n (further (word_then t.kind t.number p) x)
  told_further (Ok r) h =
      let b = lead r h.good in
      record {
        good = b.good;
        sized = b.sized (says w t e).0 h.sized;
        counted = b.counted (says w t e).0 h.counted;
        words = ap (λ x. x ∷ map token_of ws) e ∙ ap (λ x. Some t ∷ x) h.words ∙ sym (ap (map Some) b.spelled);
      }
  told_further (Err i) h = let l = h.within in record { within = omega arith; fronts = λ j le. fronts_more j i le h }

told_to : (w : ℕ) (ws : List ℕ) (p : Place) (n : ℕ) (t : Token) → token_of w ≡ Some t → ((q : Place) (m : ℕ) → Told ws q m (read ws q m))
    → (o : Option Place) → Leads p n t.kind t.number o → Told (w ∷ ws) p n (onward_to (λ q m. read ws q m) p n t o)
told_to w ws p n t e ih None lead = at_once (w ∷ ws) p n
told_to w ws p n t e ih (Some q) lead = told_further w ws p n t e q lead (read ws q (tables_with t.kind n)) (ih q (tables_with t.kind n))

told_on : (w : ℕ) (ws : List ℕ) (p : Place) (n : ℕ) → ((q : Place) (m : ℕ) → Told ws q m (read ws q m))
    → (o : Option Token) → token_of w ≡ o → Told (w ∷ ws) p n (onward (λ q m. read ws q m) p n o)
told_on w ws p n ih None e = at_once (w ∷ ws) p n
told_on w ws p n ih (Some t) e = told_to w ws p n t e ih (next_place p n t) (leads t.kind t.number p n)

pub told : (ws : List ℕ) (p : Place) (n : ℕ) → Told ws p n (read ws p n)
told [] Start n = at_once [] Start n
told [] (Inside k) n = at_once [] (Inside k) n
told [] (Linking w p) n = at_once [] (Linking w p) n
told [] Rooting n = at_once [] Rooting n
told [] Closed n = record { good = record { shape = refl; rooted = tt }; sized = record { values = tt; links = tt; tables = tt }; counted = tt; words = refl }
told (w ∷ ws) p n = told_on w ws p n (λ q m. told ws q m) (token_of w) refl

-- WHAT IS SPELLED IS READ
read_step : (w : ℕ) (ws : List ℕ) (p : Place) (n : ℕ) (t : Token) (q : Place) → token_of w ≡ Some t → next_place p n t ≡ Some q
    → read (w ∷ ws) p n ≡ further (word_then t.kind t.number p) (read ws q (tables_with t.kind n))
read_step w ws p n t q e f = ap (onward (λ q m. read ws q m) p n) e ∙ ap (onward_to (λ q m. read ws q m) p n t) f

-- a list that begins with a token that is said
record Begins (w : ℕ) (xs : List (Option Token)) (t : Token) (ts : List Token) : Type 0 where
  first : token_of w ≡ Some t
  others : xs ≡ map Some ts

begins : (w : ℕ) (xs : List (Option Token)) (us : List Token) (t : Token) (ts : List Token) → token_of w ∷ xs ≡ map Some us → us ≡ t ∷ ts → Begins w xs t ts
begins w xs us t ts e f =
    let h : token_of w ∷ xs ≡ Some t ∷ map Some ts = e ∙ ap (map Some) f in
    record { first = cc; others = cc }

-- nothing is to come, or a word that fits
ahead : (p : Place) (n : ℕ) (r : Rest) → Moves p n r → ((p ≡ Closed) × (r ≡ nothing)) ⊎ Move p n r
ahead Start n r m = inr m
ahead (Inside k) n r m = inr m
ahead (Linking w q) n r m = inr m
ahead Rooting n r m = inr m
ahead Closed n r m = inl (refl, m)

looked : (p : Place) (n : ℕ) (r : Rest) → Good p n r → ((p ≡ Closed) × (r ≡ nothing)) ⊎ Move p n r
looked p n r g = ahead p n r (moves p n r.values r.links r.tables r.roots g)

pub complete : (ws : List ℕ) (p : Place) (n : ℕ) (r : Rest) → Good p n r → map token_of ws ≡ map Some (render p n r) → read ws p n ≡ Ok r
complete [] p n r g e =
    ⊎_elim
    (λ c. ap at_end c.0 ∙ ap Ok (sym c.1))
    (λ mv. absurd (cons_nil (sym (e ∙ ap (map Some) mv.spelled))))
    (looked p n r g)
complete (w ∷ ws) p n r g e =
    ⊎_elim
    (λ c. absurd (cons_nil (e ∙ ap (λ q. map Some (render q n r)) c.0)))
    (λ mv. let b = begins w (map token_of ws) (render p n r) (say mv.kind mv.number) (render mv.next (tables_with mv.kind n) mv.left) e mv.spelled in
    read_step w ws p n (say mv.kind mv.number) mv.next b.first mv.fits
    ∙ ap (further (word_then mv.kind mv.number p)) (complete ws mv.next (tables_with mv.kind n) mv.left mv.good b.others)
    ∙ ap Ok mv.made)
    (looked p n r g)

-- NO WORD OF A FRONT IS REFUSED
further_err : (f : Rest → Rest) (x : Result Rest ℕ) (i : ℕ) → further f x ≡ Err i → (j : ℕ) × (i ≡ suc j) × (x ≡ Err j)
further_err f (Ok r) i e = let z : ◌≡◌ {A = ℕ} 0 1 = cc in absurd (omega arith)
further_err f (Err j) i e = (j, cc, refl)

pub no_early : (us vs : List ℕ) (p : Place) (n : ℕ) (r : Rest) (more : List Token) → Good p n r → map token_of us ++ map Some more ≡ map Some (render p n r)
    → (i : ℕ) → read (us ++ vs) p n ≡ Err i → length us ≤ i
no_early [] vs p n r more g e i h = omega arith
no_early (u ∷ us) vs p n r more g e i h =
    ⊎_elim
    (λ c. absurd (cons_nil (e ∙ ap (λ q. map Some (render q n r)) c.0)))
    (λ mv. let b = begins u (map token_of us ++ map Some more) (render p n r) (say mv.kind mv.number) (render mv.next (tables_with mv.kind n) mv.left) e mv.spelled in
    let s = read_step u (us ++ vs) p n (say mv.kind mv.number) mv.next b.first mv.fits in
    let f = further_err (word_then mv.kind mv.number p) (read (us ++ vs) mv.next (tables_with mv.kind n)) i (sym s ∙ h) in
    let l = no_early us vs mv.next (tables_with mv.kind n) mv.left more mv.good b.others f.0 f.2 in
    omega (arith, f.1))
    (looked p n r g)

-- FROM THE START
-- a stream is what is to come at the start
abbrev whole : Stream → Rest
whole s = rest [] [] s.tables s.roots

whole_tokens : (s : Stream) → render Start 0 (whole s) ≡ tokens s
whole_tokens s = ap (λ x. flat_map table_tokens s.tables ++ (map (say Root) s.roots ++ say Count x ∷ [])) (zero-add (length s.tables))

whole_good : (s : Stream) → Uncounted s → Good Start 0 (whole s)
whole_good s u = record { shape = (refl, refl); rooted = All-weaker (λ x. x < length s.tables) (λ x. x < 0 + length s.tables) (λ x h. omega arith) s.roots u.roots }

-- and what is to come at the start is a stream
abbrev stream_in : Rest → Stream
stream_in r = record { tables = r.tables; roots = r.roots }

same_rest : (vs : List ℕ) (ls : List StreamLink) (ts : List StreamTable) (rs : List ℕ) → vs ≡ [] → ls ≡ [] → rest vs ls ts rs ≡ rest [] [] ts rs
same_rest vs ls ts rs e f = rw (e, f)

start_whole : (r : Rest) → Shape Start r → r ≡ whole (stream_in r)
start_whole r h = same_rest r.values r.links r.tables r.roots h.0 h.1

start_tokens : (r : Rest) → Shape Start r → render Start 0 r ≡ tokens (stream_in r)
start_tokens r h = ap (render Start 0) (start_whole r h) ∙ whole_tokens (stream_in r)

start_fine : (r : Rest) → Good Start 0 r → Sizes r → Uncounted (stream_in r)
start_fine r g s = record { tables = s.tables; roots = All-weaker (λ x. x < 0 + length r.tables) (λ x. x < length r.tables) (λ x h. omega arith) r.roots g.rooted }

-- each word of a fine stream has room for its number
fit_links : (ls : List StreamLink) → AllByRecursion FineLink ls → AllByRecursion Fits (flat_map link_tokens ls)
fit_links [] f = tt
fit_links (real Two p t ∷ ls) f = (f.0.0, (f.0.1, fit_links ls f.1))
fit_links (real Four p t ∷ ls) f = (f.0.0, (f.0.1, fit_links ls f.1))
fit_links (virtual t ∷ ls) f = (f.0, fit_links ls f.1)

fit_tables : (ts : List StreamTable) → AllByRecursion FineTable ts → AllByRecursion Fits (flat_map table_tokens ts)
fit_tables [] f = tt
fit_tables (t ∷ ts) f =
    All-append Fits (table_tokens t) (flat_map table_tokens ts)
    (f.0.size, All-append Fits (map (say Value) t.values) (flat_map link_tokens t.links) (All-map Fits (say Value) t.values f.0.values) (fit_links t.links f.0.links))
    (fit_tables ts f.1)

fit_tokens : (s : Stream) → Fine s → AllByRecursion Fits (tokens s)
fit_tokens s f =
    let u = f.uncounted in
    let l = f.count in
    All-append Fits (flat_map table_tokens s.tables) (map (say Root) s.roots ++ say Count (length s.tables) ∷ [])
    (fit_tables s.tables u.tables)
    (All-append Fits (map (say Root) s.roots) (say Count (length s.tables) ∷ [])
    (All-map Fits (say Root) s.roots (All-weaker (λ x. x < length s.tables) (λ x. x < 2 ^ 24) (λ x h. omega arith) s.roots u.roots))
    (l, tt))

-- THE LAWS
accepted : (ws : List ℕ) (x : Result Rest ℕ) (s : Stream) → Told ws Start 0 x → stream_of x ≡ Ok s → Spells ws s
accepted ws (Err i) s h e = let z : ◌≡◌ {A = ℕ} 0 1 = cc in absurd (omega arith)
accepted ws (Ok r) s h e =
    let same : stream_in r ≡ s = cc in
    let l = h.counted in
    subst (Spells ws) same (record {
      fine = record { uncounted = start_fine r h.good h.sized; count = omega arith };
      words = all_say ws (tokens (stream_in r)) (h.words ∙ ap (map Some) (start_tokens r h.good.shape));
    })

spelled_read : (ws : List ℕ) (s : Stream) → Spells ws s → parse ws ≡ Ok s
spelled_read ws s h =
    let t : map token_of ws ≡ map Some (tokens s) = ap (map token_of) (sym h.words) ∙ all_said (tokens s) (fit_tokens s h.fine) in
    ap stream_of (complete ws Start 0 (whole s) (whole_good s h.fine.uncounted) (t ∙ ap (map Some) (sym (whole_tokens s))))

pub streams_spell_lem : StreamsSpell
streams_spell_lem ws s = (λ e. accepted ws (read ws Start 0) s (told ws Start 0) e, spelled_read ws s)

front_from : (ws : List ℕ) → FrontAt Start 0 ws → Front ws
front_from ws f =
    record {
      stream = stream_in f.rest;
      more = f.more;
      fine = start_fine f.rest f.good f.sized;
      words = f.words ∙ ap (map Some) (start_tokens f.rest f.good.shape);
    }

stream_err : (x : Result Rest ℕ) (i : ℕ) → stream_of x ≡ Err i → x ≡ Err i
stream_err (Ok r) i e = let z : ◌≡◌ {A = ℕ} 0 1 = cc in absurd (omega arith)
stream_err (Err j) i e = cc

-- the words before the index are a front, and no more than these
front_within : (ws : List ℕ) (i j : ℕ) → read ws Start 0 ≡ Err i → j ≤ length ws → Front (take j ws) → j ≤ i
front_within ws i j e l f =
    let t = ap (λ us. read us Start 0) (take-append-drop j ws) in
    let n = no_early (take j ws) (drop j ws) Start 0 (whole f.stream) f.more (whole_good f.stream f.fine) (f.words ∙ ap (map Some) (sym (whole_tokens f.stream))) i (t ∙ e) in
    omega (arith, length-take-le j ws l)

refused : (ws : List ℕ) (i : ℕ) → read ws Start 0 ≡ Err i → Refused ws Start 0 i
refused ws i e = subst (Told ws Start 0) e (told ws Start 0)

misfit : (ws : List ℕ) (i : ℕ) → parse ws ≡ Err i → Misfit ws i
misfit ws i e =
    let r = stream_err (read ws Start 0) i e in
    let h = refused ws i r in
    record {
      within = h.within;
      before = front_from (take i ws) (h.fronts i (omega arith));
      here = λ l f. let le = front_within ws i (i + 1) r (omega arith) f in omega arith;
      wanting = λ w. let same = sym e ∙ spelled_read ws w.0 w.1 in let z : ◌≡◌ {A = ℕ} 0 1 = cc in omega arith;
    }

misfit_index : (ws : List ℕ) (i : ℕ) → Misfit ws i → (x : Result Rest ℕ) → read ws Start 0 ≡ x → stream_of x ≡ Err i
misfit_index ws i m (Ok r) e = absurd (m.wanting (stream_in r, accepted ws (read ws Start 0) (stream_in r) (told ws Start 0) (ap stream_of e)))
misfit_index ws i m (Err j) e =
    let le = front_within ws j i e m.within m.before in
    let h = refused ws j e in
    ⊎_elim
    (λ l. let w = h.within in absurd (m.here (omega arith) (front_from (take (i + 1) ws) (h.fronts (i + 1) (omega arith)))))
    (λ l. let same : j ≡ i = omega arith in ap Err same)
    (cases_lt i j)

pub misfits_tell_lem : MisfitsTell
misfits_tell_lem ws i = (misfit ws i, λ m. misfit_index ws i m (read ws Start 0) refl)
