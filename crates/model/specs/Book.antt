-- The rule book, the machine that a line of calls drives on models, and the law that their answers keep.
use Rattle.std.specs.Prelude.{ℕ, zero, suc, Bool, true, false, cond, List, [], ◌∷◌, ◌++◌, map, Some, None, Ok, Err, Option, Result, nat_le, slice_index}
use Rattle.refusals.specs.declared.Refusal.{Refusal}
use Rattle.refusals.specs.declared.Refusal.TheVariants.{NoLookup, NoRule}
use Rattle.coverage.specs.Meaning.{Meant}
use Rattle.model.specs.Forest.{Lookup, Model}
use Rattle.model.specs.Rules.{Rule, Sourced, Shaped, rules_of, shape_by, shape, rule, nth}
use Rattle.model.specs.Splitting.{Capacities, Changed, split, wrap}
use Rattle.model.specs.Writing.{write}
use Rattle.model.specs.Reading.{read}

-- CALLS AND ANSWERS
pub data Call : Type 0 where
  do_split : ℕ → ℕ → Call
  do_wrap : ℕ → Call
  do_write : ℕ → ℕ → Call
  do_shape : ℕ → List ℕ → ℕ → Call
  do_rule : ℕ → ℕ → Call
  do_read : ℕ → List ℕ → ℕ → Call

-- the n-th rule: the index of its subtable, its first glyph, its ligature's vertex
pub record RuleAnswer : Type 0 where
  pub subtable : ℕ
  pub first : ℕ
  pub vertex : ℕ

pub data Answer : Type 0 where
  refused : Refusal → Answer
  count : ℕ → Answer
  wrote : List ℕ → Answer
  shaped : Shaped → Answer
  ruled : RuleAnswer → Answer

abbrev pub accepted : Answer → Bool
accepted (refused r) = false
accepted (count n) = true
accepted (wrote bs) = true
accepted (shaped s) = true
accepted (ruled r) = true

-- THE BOOK: per lookup the rules in order, the type, and a ceiling
pub record Page : Type 0 where
  pub rules : List Rule
  pub kind : ℕ
  pub ceiling : Option ℕ

abbrev pub page_of : Lookup → Page
page_of l = record { rules = rules_of l; kind = l.kind; ceiling = None }

-- as it is after a load
abbrev pub book_of : Model → List Page
book_of m = map page_of m.lookups

-- the lower of two ceilings
abbrev pub lower : Option ℕ → ℕ → Option ℕ
lower None c = Some c
lower (Some b) c = cond (nat_le b c) (Some b) (Some c)

abbrev pub with_ceiling : ℕ → Page → Page
with_ceiling c p = record { rules = p.rules; kind = p.kind; ceiling = lower p.ceiling c }

abbrev pub with_kind7 : Page → Page
with_kind7 p = record { rules = p.rules; kind = 7; ceiling = p.ceiling }

abbrev pub on_page : (Page → Page) → ℕ → List Page → List Page
on_page f n [] = []
on_page f zero (p ∷ ps) = f p ∷ ps
on_page f (suc n) (p ∷ ps) = p ∷ on_page f n ps

-- fed a call and whether it was accepted
abbrev pub fed : List Page → Call → Bool → List Page
fed b (do_split n c) true = on_page (with_ceiling c) n b
fed b (do_split n c) false = b
fed b (do_wrap n) true = on_page with_kind7 n b
fed b (do_wrap n) false = b
fed b (do_write n room) t = b
fed b (do_shape n s p) t = b
fed b (do_rule n k) t = b
fed b (do_read w s p) t = b

-- what the book says to shaping and to rule questions
abbrev pub page_shapes : Option Page → List ℕ → ℕ → Result Shaped Refusal
page_shapes None s p = Err NoLookup
page_shapes (Some g) s p = shape_by g.rules s p

abbrev pub book_shapes : List Page → ℕ → List ℕ → ℕ → Result Shaped Refusal
book_shapes b n s p = page_shapes (nth b n) s p

abbrev pub rule_told : Option Rule → Result Rule Refusal
rule_told None = Err NoRule
rule_told (Some r) = Ok r

abbrev pub page_rule : Option Page → ℕ → Result Rule Refusal
page_rule None k = Err NoLookup
page_rule (Some g) k = rule_told (nth g.rules k)

abbrev pub book_rule : List Page → ℕ → ℕ → Result Rule Refusal
book_rule b n k = page_rule (nth b n) k

-- THE MACHINE: the model as it is, and what each call so far put out
pub record Desk : Type 0 where
  pub model : Model
  pub outputs : List (Option (List ℕ))

abbrev pub output_of : Option (Option (List ℕ)) → List ℕ
output_of None = []
output_of (Some None) = []
output_of (Some (Some bs)) = bs

abbrev pub answer_change : Result Changed Refusal → Answer
answer_change (Ok c) = count c.count
answer_change (Err r) = refused r

abbrev pub changed_model : Model → Result Changed Refusal → Model
changed_model m (Ok c) = c.model
changed_model m (Err r) = m

abbrev pub answer_write : Result (List ℕ) Refusal → Answer
answer_write (Ok bs) = wrote bs
answer_write (Err r) = refused r

abbrev pub answer_shape : Result Shaped Refusal → Answer
answer_shape (Ok s) = shaped s
answer_shape (Err r) = refused r

abbrev pub first_of : List ℕ → ℕ
first_of gs = slice_index gs 0

abbrev pub triple_of : Sourced → RuleAnswer
triple_of r = record { subtable = r.subtable; first = first_of r.rule.glyphs; vertex = r.vertex }

abbrev pub answer_rule : Result Sourced Refusal → Answer
answer_rule (Ok r) = ruled (triple_of r)
answer_rule (Err r) = refused r

module _ (caps : Capacities) (meaning : List ℕ → Option Meant) where
  -- the codec writes given v for the coverage v in this call
  abbrev pub answer : (ℕ → List ℕ) → Desk → Call → Answer
  answer given d (do_split n c) = answer_change (split caps given d.model n c)
  answer given d (do_wrap n) = answer_change (wrap caps d.model n)
  answer given d (do_write n room) = answer_write (write d.model n room)
  answer given d (do_shape n s p) = answer_shape (shape d.model n s p)
  answer given d (do_rule n k) = answer_rule (rule d.model n k)
  answer given d (do_read w s p) = answer_shape (read meaning (output_of (nth d.outputs w)) s p)

  abbrev pub next_model : (ℕ → List ℕ) → Model → Call → Model
  next_model given m (do_split n c) = changed_model m (split caps given m n c)
  next_model given m (do_wrap n) = changed_model m (wrap caps m n)
  next_model given m (do_write n room) = m
  next_model given m (do_shape n s p) = m
  next_model given m (do_rule n k) = m
  next_model given m (do_read w s p) = m

  abbrev pub put_out : Answer → Option (List ℕ)
  put_out (refused r) = None
  put_out (count n) = None
  put_out (wrote bs) = Some bs
  put_out (shaped s) = None
  put_out (ruled r) = None

  abbrev pub next_desk : (ℕ → List ℕ) → Desk → Call → Desk
  next_desk given d c = record { model = next_model given d.model c; outputs = d.outputs ++ put_out (answer given d c) ∷ [] }
