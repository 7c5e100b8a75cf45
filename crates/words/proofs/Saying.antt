-- A word says exactly what it is spelled from.
use Rattle.std.proofs.Common.{rules, ◌≡◌, ℕ, ◌/◌, ◌%◌, ◌^◌, ◌<◌, eqb, ltb, List, [], ◌∷◌, map, Some, None, Option, sym, refl, ap, ◌∙◌, ⊎_elim, arith}
use Rattle.std.specs.List.{AllByRecursion}
use Rattle.std.proofs.lemmas.Bool.{cases_Bool, eqb-true, ltb-true, cond-true, cond-false}
use Rattle.words.specs.declared.WordKind.{WordKind}
use Rattle.words.specs.declared.Token.{Token}
use Rattle.words.specs.Words.{kinds, kind_among, code_of, room_of, Fits, word_of, token_with, token_of}

pub none_some : {X : Type 0} {x : X} → None ≡ Some x → ⊥
none_some e = cc

pub cons_nil : {X : Type 0} {x : X} {xs : List X} → x ∷ xs ≡ [] → ⊥
cons_nil e = cc

code_kind : (ks : List WordKind) (c : ℕ) (k : WordKind) → kind_among ks c ≡ Some k → code_of k ≡ c
code_kind [] c k e = absurd (none_some e)
code_kind (j ∷ ks) c k e =
    ⊎_elim
    (λ t. let h : Some j ≡ Some k = sym (cond-true _ (Some j) (kind_among ks c) t) ∙ e in
    let same : j ≡ k = cc in
    ap code_of (sym same) ∙ eqb-true (code_of j) c t)
    (λ f. code_kind ks c k (sym (cond-false _ (Some j) (kind_among ks c) f) ∙ e))
    (cases_Bool (eqb (code_of j) c))

-- what stands in a token
pub record Parts (m : ℕ) (o : Option WordKind) (t : Token) : Type 0 where
  pub kind : o ≡ Some t.kind
  pub number : m ≡ t.number
  pub fits : Fits t

parts : (m : ℕ) (o : Option WordKind) (t : Token) → token_with m o ≡ Some t → Parts m o t
parts m None t e = absurd (none_some e)
parts m (Some k) t e =
    ⊎_elim
    (λ b. let h : Some (record { kind = k; number = m }) ≡ Some t = sym (cond-true _ (Some (record { kind = k; number = m })) None b) ∙ e in
    let same : record { kind = k; number = m } ≡ t = cc in
    let ks : k ≡ t.kind = ap (λ (x : Token). x.kind) same in
    let ms : m ≡ t.number = ap (λ (x : Token). x.number) same in
    let lt : m < room_of k = ltb-true m (room_of k) b in
    record { kind = ap Some ks; number = ms; fits = rw (ks, ms) at lt })
    (λ f. absurd (none_some (sym (cond-false _ (Some (record { kind = k; number = m })) None f) ∙ e)))
    (cases_Bool (ltb m (room_of k)))

pub says : (w : ℕ) (t : Token) → token_of w ≡ Some t → Fits t × (word_of t ≡ w)
says w t e =
    let p = parts (w % 2 ^ 28) (kind_among kinds (w / 2 ^ 28)) t e in
    let c = code_kind kinds (w / 2 ^ 28) t.kind p.kind in
    (p.fits, omega (arith, c, p.number))

pub said : (t : Token) → Fits t → token_of (word_of t) ≡ Some t
said t f = search rules

-- whole lists of words
pub all_say : (ws : List ℕ) (ts : List Token) → map token_of ws ≡ map Some ts → map word_of ts ≡ ws
all_say [] [] e = refl
all_say [] (t ∷ ts) e = absurd (cons_nil (sym e))
all_say (w ∷ ws) [] e = absurd (cons_nil e)
all_say (w ∷ ws) (t ∷ ts) e =
    let h : token_of w ≡ Some t = cc in
    let r : map token_of ws ≡ map Some ts = cc in
    let a = (says w t h).1 in
    let b = all_say ws ts r in
    rw (a, b)

pub all_said : (ts : List Token) → AllByRecursion Fits ts → map token_of (map word_of ts) ≡ map Some ts
all_said [] f = refl
all_said (t ∷ ts) f =
    let a = said t f.0 in
    let b = all_said ts f.1 in
    rw (a, b)
