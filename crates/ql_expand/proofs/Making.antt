-- What forms expand to whose parts are expanded.
use Rattle.std.proofs.Common.{◌≡◌, ℕ, ◌+◌, ◌≤◌, [], Option, Some, None, refl, sym, ap, ◌∙◌, subst, arith}
use Rattle.std.specs.Prelude.{Bool, true, false, nat_le, ◌==◌, ◌&&◌, if◌then◌else◌}
use Rattle.std.proofs.lemmas.Bool.{leb-true, and_parts}
use Rattle.ql_base.specs.Reserved.{number}
use Rattle.ql_base.specs.declared.reserved.Reserved.{Reserved}
use Rattle.ql_base.specs.declared.reserved.Reserved.TheVariants.{Null, Greater, Less, Cons, Nil, True, If as IfWord, And as AndWord, Or as OrWord, Progn as PrognWord, Cond as CondWord, Let as LetWord, LetStar as LetStarWord, List as ListWord}
use Rattle.ql_forms.specs.Form.{Form, Forms, none, more, atom, list, proper, dotted, symbol, integer, Atom, items_of, place_of, count, is_nil}
use Rattle.ql_expand.specs.Assembly.{atom_core, nil_core, number_core, with_two, either, chain, all_linked, folded, operands, nested, before_body, of_each, has_body}
use Rattle.ql_expand.specs.Building.{weight, weights, IsFine, IsFineSplit, Gives, allows, passes, Clauses, EachOf, none_of, one_of}
use Rattle.ql_expand.specs.Core.{named, Binder, Core, core, Cores, no_cores, and_core, Bounds, and_bound, constant, conditional, variable, print, funcall, throw, protect}
use Rattle.ql_expand.specs.Expands.{applied, nil_at, one, two, no_terms, no_factors, one_term, one_factor, negative, more_operands, not_null, at_most, at_least, list_none, list_more, and_none, and_one, and_more, or_none, or_one, when, unless, cond_none, cond_test, cond_forms, let_star_none, let_star_one, let_star_more, Expands, sugar, or_more, integer_alone, constant_word, quoted, variable_word, assigned, if_then, if_else, sequence, bound, one_operand, two_operands, printed, called, value_called, closed, bound_apart, closed_apart, caught, caught_all, thrown, protected, Body, no_forms, one_form, forms, Each, none_left, one_more, Bind, Binds, none_bound, one_bound}
use Rattle.ql_expand.specs.Operator.{operator_of, reserved_operator, reading_of, takes_two, is_arithmetic, is_constant}
use Rattle.ql_expand.specs.Parts as parts
use Rattle.ql_expand.specs.Parts.{fits, clause_in}
use Rattle.ql_expand.proofs.Counts.{nil_items, not_one}
use Rattle.ql_expand.specs.ExpandFault.{top_faults}
use Rattle.ql_expand.specs.declared.search.Role.TheVariants.{Inner}
use Rattle.ql_expand.proofs.Fine.{clause_shape, fine_list}
use Rattle.ql_expand.proofs.Levels.{clean}
use Rattle.ql_expand.specs.declared.operator.Operator.{Operator}
use Rattle.ql_expand.specs.declared.operator.Reading.{Reading}
use Rattle.ql_expand.specs.declared.operator.Operator.TheVariants.{Constant, Quote, Defun, Defvar, Lambda, Qlambda, Setq, Let, Qlet, Cond, If, Progn, Catch, Qcatch, Throw, Protect, Funcall, Print, Unary, Binary, Sum, Difference, Product, Not, AtMost, AtLeast, And, Or, When, Unless, LetStar, List as ListOf, Call}

-- ---- the words that sugar adds

pub word_is : (r : Reserved) → operator_of (number r) ≡ reserved_operator r
unfolding operator_of
word_is Nil = refl
word_is _ = refl

-- ---- atoms

nil_made : {d : Bool} (at : ℕ) → Expands d (nil_at at) (nil_core at)
nil_made at = constant_word (ap is_constant (word_is Nil))

atom_made : (d : Bool) (at : ℕ) (a : Atom) → Expands d (atom at a) (atom_core at a)
atom_made d at (integer z) = integer_alone
atom_made d at (symbol w) = by_word (is_constant (operator_of w)) refl
  where
    by_word : (b : Bool) → is_constant (operator_of w) ≡ b → Expands d (atom at (symbol w)) (core at (if b then constant (atom at (symbol w)) else variable (named w)))
    by_word true e = constant_word e
    by_word false e = variable_word e

pub atom_seen : (d : Bool) (f : Form) (a : Atom) (at : ℕ) (k : Core) → f ≡ atom (place_of f) a → at ≡ place_of f → k ≡ atom_core at a → Expands d f k
atom_seen d f a at k e p q = rw q (subst (λ (g : Form). Expands d g (atom_core at a)) (sym (e ∙ ap (λ n. atom n a) (sym p))) (atom_made d at a))

-- ---- how many parts there are

module _ (fs : Forms) where
  enough : (low : ℕ) (high : Option ℕ) → fits low high (count fs) ≡ true → low ≤ count fs
  enough low None h = leb-true low (count fs) h
  enough low (Some high) h = leb-true low (count fs) (and_parts (nat_le low (count fs)) (nat_le (count fs) high) h).0

  few : (low high : ℕ) → fits low (Some high) (count fs) ≡ true → count fs ≤ high
  few low high h = leb-true (count fs) high (and_parts (nat_le low (count fs)) (nat_le (count fs) high) h).1

-- ---- forms by themselves

pub each_used : {fs : Forms} {cs : Cores} → EachOf false fs cs → Each fs cs
each_used none_of = none_left
each_used (one_of e es) = one_more e (each_used es)

module _ (d : Bool) (at o w : ℕ) (build : Cores → Core) where
  by_one : ((f : Form) (c : Core) → Expands false f c → Expands d (applied at o w (one f)) (build (and_core c no_cores)))
      → {fs : Forms} {cs : Cores} → fits 1 (Some 1) (count fs) ≡ true → Each fs cs → Expands d (applied at o w fs) (build cs)
  by_one k h none_left = cc
  by_one k h (one_more {e = f} {c = c} x none_left) = k f c x
  by_one k h (one_more {e = f} x (one_more {e = g} {fs = fs} y ys)) =
      let m : count (more f (more g fs)) ≤ 1 = few (more f (more g fs)) 1 1 h in absurd (omega arith)

  by_two : ((f g : Form) (c e : Core) → Expands false f c → Expands false g e → Expands d (applied at o w (two f g)) (build (and_core c (and_core e no_cores))))
      → {fs : Forms} {cs : Cores} → fits 2 (Some 2) (count fs) ≡ true → Each fs cs → Expands d (applied at o w fs) (build cs)
  by_two k h none_left = cc
  by_two k h (one_more x none_left) = cc
  by_two k h (one_more {e = f} {c = c} x (one_more {e = g} {c = e} y none_left)) = k f g c e x y
  by_two k h (one_more {e = f} x (one_more {e = g} y (one_more {e = i} {fs = fs} z zs))) =
      let m : count (more f (more g (more i fs))) ≤ 2 = few (more f (more g (more i fs))) 2 2 h in absurd (omega arith)

arithmetic_takes_two : (r : Operator) → is_arithmetic r ≡ true → takes_two r ≡ true
arithmetic_takes_two Sum h = refl
arithmetic_takes_two Difference h = refl
arithmetic_takes_two Product h = refl
arithmetic_takes_two _ h = cc

-- a first operand that expands to this core, a second one, and more of them
folded_made : {d : Bool} {at o w : ℕ} {a b : Form} {c e : Core} {fs : Forms} {cs : Cores} → is_arithmetic (operator_of w) ≡ true → Expands false a c → Expands false b e → Each fs cs
    → Expands d (applied at o w (more a (more b fs))) (folded at w c (and_core e cs))
folded_made {w = w} h x y none_left = two_operands (arithmetic_takes_two (operator_of w) h) x y
folded_made {w = w} h x y (one_more z zs) = sugar (more_operands h) (folded_made h (two_operands (arithmetic_takes_two (operator_of w) h) x y) z zs)

operands_made : {d : Bool} {at o w : ℕ} (n : ℕ) {fs : Forms} {cs : Cores} → is_arithmetic (operator_of w) ≡ true → (count fs ≡ 0 → Expands d (applied at o w none) (number_core at n))
    → ((a : Form) (c : Core) → Expands false a c → Expands d (applied at o w (one a)) (with_two at w (number_core at n) c))
    → Each fs cs → Expands d (applied at o w fs) (operands at w n cs)
operands_made n h zero single none_left = zero refl
operands_made n h zero single (one_more {e = a} {c = c} x none_left) = single a c x
operands_made n h zero single (one_more x (one_more y ys)) = folded_made h x y ys

list_made : {d : Bool} {at o w : ℕ} {fs : Forms} {cs : Cores} → operator_of w ≡ ListOf → Each fs cs → Expands d (applied at o w fs) (chain ListOf at cs (nil_core at))
list_made {at = at} e none_left = sugar (list_none e) (nil_made at)
list_made e (one_more x xs) = sugar (list_more e) (two_operands (ap takes_two (word_is Cons)) x (list_made (word_is ListWord) xs))

-- Of a single form the value is dropped where the whole one's is.
and_made : {d : Bool} {at o w : ℕ} {fs : Forms} {cs : Cores} → operator_of w ≡ And → (count fs ≡ 1 → d ≡ false) → Each fs cs → Expands d (applied at o w fs) (all_linked And at cs)
and_made e k none_left = sugar (and_none e) (constant_word (ap is_constant (word_is True)))
and_made e k (one_more x none_left) = rw (k refl) (sugar (and_one e) x)
and_made {at = at} e k (one_more x (one_more y ys)) = sugar (and_more e) (if_else (word_is IfWord) x (and_made (word_is AndWord) (λ _. refl) (one_more y ys)) (nil_made at))

or_made : {d : Bool} {at o w : ℕ} {fs : Forms} {cs : Cores} → operator_of w ≡ Or → (count fs ≡ 1 → d ≡ false) → Each fs cs → Expands d (applied at o w fs) (all_linked Or at cs)
or_made {at = at} e k none_left = sugar (or_none e) (nil_made at)
or_made e k (one_more x none_left) = rw (k refl) (sugar (or_one e) x)
or_made e k (one_more x (one_more y ys)) = or_more e x (or_made (word_is OrWord) (λ _. refl) (one_more y ys))

-- A single form of `and` or `or` is dropped where the whole is, and of more forms each is used.
linked_made : {d : Bool} {at o w : ℕ} {fs : Forms} {cs : Cores} (build : Cores → Core) → ((count fs ≡ 1 → d ≡ false) → Each fs cs → Expands d (applied at o w fs) (build cs))
    → ((f : Form) (c : Core) → Expands d f c → Expands d (applied at o w (one f)) (build (and_core c no_cores))) → EachOf ((count fs == 1) && d) fs cs
    → Expands d (applied at o w fs) (build cs)
linked_made build all single none_of = all (λ i. absurd (omega arith)) none_left
linked_made build all single (one_of {e = f} {c = c} x none_of) = single f c x
linked_made {d = d} build all single (one_of {e = f} {c = c} x (one_of {e = g} {fs = fs} {c = i} {cs = cs} y ys)) =
    all (λ j. absurd (omega arith))
    (each_used (subst (λ b. EachOf (b && d) (more f (more g fs)) (and_core c (and_core i cs))) (not_one (count fs)) (one_of x (one_of y ys))))

pub each_made : (d : Bool) (at o w : ℕ) (r : Operator) → operator_of w ≡ r → (r ≡ Progn → ⊥) × (r ≡ Print → ⊥) × (r ≡ If → ⊥) × (r ≡ Funcall → ⊥) × (has_body r ≡ false) → (fs : Forms) (cs : Cores) → allows (reading_of r) (count fs) ≡ true
    → EachOf (passes r d (count fs)) fs cs → Expands d (applied at o w fs) (of_each r at o w cs)
each_made d at o w Unary e h fs cs k x = by_one d at o w (of_each Unary at o w) (λ f c. one_operand e) k (each_used x)
each_made d at o w Not e h fs cs k x = by_one d at o w (of_each Not at o w) (λ f c y. sugar (not_null e) (one_operand (word_is Null) y)) k (each_used x)
each_made d at o w Binary e h fs cs k x = by_two d at o w (of_each Binary at o w) (λ f g c i. two_operands (ap takes_two e)) k (each_used x)
each_made d at o w AtMost e h fs cs k x =
    by_two d at o w (of_each AtMost at o w) (λ f g c i y z. sugar (at_most e) (one_operand (word_is Null) (two_operands (ap takes_two (word_is Greater)) y z))) k (each_used x)
each_made d at o w AtLeast e h fs cs k x =
    by_two d at o w (of_each AtLeast at o w) (λ f g c i y z. sugar (at_least e) (one_operand (word_is Null) (two_operands (ap takes_two (word_is Less)) y z))) k (each_used x)
each_made d at o w Sum e h fs cs k x =
    operands_made 0 (ap is_arithmetic e) (λ _. sugar (no_terms e) integer_alone) (λ a c y. sugar (one_term e) (two_operands (ap takes_two e) integer_alone y)) (each_used x)
each_made d at o w Product e h fs cs k x =
    operands_made 1 (ap is_arithmetic e) (λ _. sugar (no_factors e) integer_alone) (λ a c y. sugar (one_factor e) (two_operands (ap takes_two e) integer_alone y)) (each_used x)
each_made d at o w Difference e h fs cs k x =
    let some : 1 ≤ count fs = enough fs 1 None k in
    operands_made 0 (ap is_arithmetic e) (λ n. absurd (omega (arith, n))) (λ a c y. sugar (negative e) (two_operands (ap takes_two e) integer_alone y)) (each_used x)
each_made d at o w And e h fs cs k x = linked_made (all_linked And at) (and_made e) (λ f c. sugar (and_one e)) x
each_made d at o w Or e h fs cs k x = linked_made (all_linked Or at) (or_made e) (λ f c. sugar (or_one e)) x
each_made d at o w ListOf e h fs cs k x = list_made e (each_used x)
each_made d at o w Call e h fs cs k x = called e (each_used x)
each_made d at o w Progn e h fs cs k x = absurd (h.0 refl)
each_made d at o w Print e h fs cs k x = absurd (h.1 refl)
each_made d at o w If e h fs cs k x = absurd (h.2 refl)
each_made d at o w Funcall e h fs cs k x = absurd (h.3 refl)
each_made d at o w _ e h fs cs k x = cc

-- ---- a form and a body

only_form : {at : ℕ} {es : Forms} {c : Core} → count es ≤ 1 → 1 ≤ count es → Body at es c → (f : Form) × (es ≡ one f) × Expands false f c
only_form h k no_forms = absurd (omega arith)
only_form h k (one_form {e = f} x) = (f, refl, x)
only_form h k (forms {e = f} {f = g} {fs = fs} x) = absurd (omega arith)

thrown_made : {d : Bool} {at o w : ℕ} → operator_of w ≡ Throw → (f : Form) (es : Forms) {a b : Core} → fits 2 (Some 2) (count (more f es)) ≡ true → Expands false f a → Body at es b
    → Expands d (applied at o w (more f es)) (core at (throw a b))
thrown_made e f es h x y =
    let low : 2 ≤ count (more f es) = enough (more f es) 2 (Some 2) h in
    let high : count (more f es) ≤ 2 = few (more f es) 2 2 h in
    let only = only_form (omega arith) (omega arith) y in
    rw only.1 (thrown e x only.2)

protected_made : {d : Bool} {at o w : ℕ} → operator_of w ≡ Protect → (f : Form) (es : Forms) {a b : Core} → fits 2 None (count (more f es)) ≡ true → Expands false f a → Body at es b
    → Expands d (applied at o w (more f es)) (core at (protect a b))
protected_made e f none h x y = cc
protected_made e f (more g es) h x y = protected e x y

module _ {d : Bool} {at o w : ℕ} where
  pub before_made : (r : Operator) {f : Form} {fs es : Forms} {a b : Core} → operator_of w ≡ r → has_body r ≡ true → fs ≡ more f es → allows (reading_of r) (count fs) ≡ true
      → Expands false f a → Body at es b → Expands d (applied at o w fs) (before_body r at a b)
  before_made Catch e h s k x y = rw s (caught e x y)
  before_made Qcatch e h s k x y = rw s (caught_all e x y)
  before_made Throw {f = f} {es = es} e h s k x y = rw s (thrown_made e f es (rw s at k) x y)
  before_made Protect {f = f} {es = es} e h s k x y = rw s (protected_made e f es (rw s at k) x y)
  before_made When e h s k x y = rw s (sugar (when e) (if_else (word_is IfWord) x (sequence (word_is PrognWord) y) (nil_made at)))
  before_made Unless e h s k x y = rw s (sugar (unless e) (if_else (word_is IfWord) x (nil_made at) (sequence (word_is PrognWord) y)))
  before_made _ e h s k x y = cc

  pub sequence_made : (r : Operator) {fs : Forms} {c : Core} → operator_of w ≡ r → r ≡ Progn → Body at fs c → Expands d (applied at o w fs) c
  sequence_made r e h x = sequence (e ∙ h) x

  pub printed_made : (r : Operator) (fs : Forms) {c : Core} → operator_of w ≡ r → r ≡ Print → allows (reading_of r) (count fs) ≡ true → Body at fs c
      → Expands d (applied at o w fs) (core at (print c))
  printed_made r fs e h k x = let only = only_form (few fs 1 1 (rw h at k)) (enough fs 1 (Some 1) (rw h at k)) x in rw only.1 (printed (e ∙ h) only.2)

  if_made : operator_of w ≡ If → (f g : Form) (es : Forms) {a b c : Core} → count es ≤ 1 → Expands false f a → Expands false g b → Body at es c
      → Expands d (applied at o w (more f (more g es))) (core at (conditional a b c))
  if_made e f g none h x y no_forms = if_then e x y
  if_made e f g (more i none) h x y (one_form z) = if_else e x y z
  if_made e f g (more i (more j es)) h x y z = absurd (omega arith)

  pub tested_made : (r : Operator) {f g : Form} {fs gs es : Forms} {a b c : Core} → operator_of w ≡ r → r ≡ If → fs ≡ more f gs → gs ≡ more g es
      → allows (reading_of r) (count fs) ≡ true → Expands false f a → Expands false g b → Body at es c → Expands d (applied at o w fs) (core at (conditional a b c))
  tested_made r {f = f} {g = g} {fs = fs} {es = es} e h s t k x y z =
      let high : count fs ≤ 3 = few fs 2 3 (rw h at k) in
      let size = ap count (s ∙ ap (more f) t) in rw (s, t) (if_made (e ∙ h) f g es (omega (arith, size)) x y z)

  pub applied_made : (r : Operator) {f : Form} {fs gs : Forms} {c : Core} {cs : Cores} → operator_of w ≡ r → r ≡ Funcall → fs ≡ more f gs → Expands false f c → EachOf false gs cs
      → Expands d (applied at o w fs) (core at (funcall d c cs))
  applied_made r e h s x y = rw s (value_called (e ∙ h) x (each_used y))

-- ---- clauses

pub no_clause_made : {at : ℕ} {fs : Forms} → fs ≡ none → Clauses at fs (nil_core at)
no_clause_made {at = at} s d o w e = rw s (sugar (cond_none e) (nil_made at))

module _ {at : ℕ} {f c : Form} {es rs : Forms} {a rest : Core} where
  pub clause_alone_made : clause_in f ≡ Some (c, es) → es ≡ none → Expands false c a → Clauses at rs rest → Clauses at (more f rs) (either at a rest)
  clause_alone_made h s x y d o w e =
      let shape = clause_shape f c none (h ∙ ap (λ (is : Forms). Some (c, is)) s) in
      rw shape.1 (sugar (cond_test e) (or_more (word_is OrWord) x (sugar (or_one (word_is OrWord)) (y false at (number CondWord) (word_is CondWord)))))

  pub clause_made : {g : Form} {gs : Forms} {b : Core} → clause_in f ≡ Some (c, es) → es ≡ more g gs → Expands false c a → Body at es b → Clauses at rs rest
      → Clauses at (more f rs) (core at (conditional a b rest))
  clause_made {g = g} {gs = gs} {b = b} h s x y z d o w e =
      let shape = clause_shape f c (more g gs) (h ∙ ap (λ (is : Forms). Some (c, is)) s) in
      let body = subst (λ (is : Forms). Body at is b) s y in
      rw shape.1 (sugar (cond_forms e) (if_else (word_is IfWord) x (sequence (word_is PrognWord) body) (z false at (number CondWord) (word_is CondWord))))

-- ---- bindings

nested_made : {d : Bool} {at o p w : ℕ} {f : Form} {fs es : Forms} {n : Binder} {c e : Core} {ns : Bounds} → operator_of w ≡ LetStar → Bind f n c → Binds fs ns → Body at es e
    → Expands d (applied at o w (more (list p (more f fs) proper) es)) (nested at (and_bound n c ns) e)
nested_made e x none_bound y = sugar (let_star_one e) (bound (word_is LetWord) refl (one_bound x none_bound) y)
nested_made e x (one_bound z zs) y = sugar (let_star_more e) (bound (word_is LetWord) refl (one_bound x none_bound) (one_form (nested_made (word_is LetStarWord) z zs y)))

let_star_made : {d : Bool} {at o w : ℕ} (b : Form) {bs es : Forms} {ns : Bounds} {c : Core} → operator_of w ≡ LetStar → items_of b ≡ Some bs → Binds bs ns → Body at es c
    → Expands d (applied at o w (more b es)) (nested at ns c)
let_star_made b e h none_bound y = sugar (let_star_none e h) (bound (word_is LetWord) h none_bound y)
let_star_made (list p fs proper) {bs = bs} e h (one_bound x xs) y = let same : fs ≡ bs = cc in rw same (nested_made e x xs y)
let_star_made (list p fs (dotted t)) e h (one_bound x xs) y = cc
let_star_made (atom p a) {bs = bs} e h (one_bound x xs) y = let none_is = nil_items (is_nil a) bs h in cc

-- ---- parts

counted : (at o w : ℕ) (r : Operator) (fs : Forms) (b : Bool) → operator_of w ≡ r → allows (reading_of r) (count fs) ≡ b
    → IsFineSplit (if b then parts.forms fs else parts.misshapen) → Gives at o w fs (if b then parts.forms fs else parts.misshapen)
counted at o w r fs true e k h = (rw e k, h)
counted at o w r fs false e k h = absurd h

with_items : (P : parts.Split → Type 0) (b : Form) (split : Option Forms → parts.Split) → split None ≡ parts.misshapen
    → ((bs : Forms) → items_of b ≡ Some bs → weights bs + 1 ≤ weight b → P (split (Some bs))) → IsFineSplit (split (items_of b)) → P (split (items_of b))
with_items P (list p bs proper) split n k h = k bs refl (omega arith)
with_items P (list p bs (dotted t)) split n k h = absurd (subst IsFineSplit n h)
with_items P (atom p a) split n k h = by_nil (is_nil a) k h
  where
    by_nil : (b : Bool) → ((bs : Forms) → (if b then Some none else None) ≡ Some bs → weights bs + 1 ≤ 1 → P (split (Some bs)))
        → IsFineSplit (split (if b then Some none else None)) → P (split (if b then Some none else None))
    by_nil true k h = k none refl (omega arith)
    by_nil false k h = absurd (subst IsFineSplit n h)

parts_give : (at o w : ℕ) (r : Operator) (fs : Forms) → operator_of w ≡ r → top_faults Inner at (reading_of r) ≡ [] → IsFineSplit (parts.parts_by (reading_of r) fs)
    → Gives at o w fs (parts.parts_by (reading_of r) fs)
parts_give at o w Constant fs e n h = absurd h
parts_give at o w Defun fs e n h = cc
parts_give at o w Defvar fs e n h = cc
parts_give at o w Quote (more f none) e n h = λ d k q. rw q (quoted e)
parts_give at o w Quote fs e n h = absurd h
parts_give at o w Lambda (more ps es) e n h = (omega arith, λ d vs c k x y q. rw q (closed e x y))
parts_give at o w Lambda none e n h = absurd h
parts_give at o w Qlambda (more f (more ps es)) e n h = (omega arith, λ d i vs c k x y z q. rw q (closed_apart e x y z))
parts_give at o w Qlambda fs e n h = absurd h
parts_give at o w Setq (more (atom p (symbol v)) (more f none)) e n h = (omega arith, λ d c k x q. rw q (assigned e x))
parts_give at o w Setq fs e n h = absurd h
parts_give at o w Let (more b es) e n h = with_items (Gives at o w _) b (λ i. parts.with_binds i es) refl (λ bs i m. (omega arith, λ d r ns c k s x y q. rw (q, s ∙ e) (bound e i x y))) h
parts_give at o w Let none e n h = absurd h
parts_give at o w LetStar (more b es) e n h =
    with_items (Gives at o w _) b (λ i. parts.with_binds i es) refl (λ bs i m. (omega arith, λ d r ns c k s x y q. rw (q, s ∙ e) (let_star_made b e i x y))) h
parts_give at o w LetStar none e n h = absurd h
parts_give at o w Qlet (more f (more b es)) e n h =
    with_items (Gives at o w _) b (λ i. parts.after f (parts.with_binds i es)) refl (λ bs i m. (omega arith, λ d a ns c k x y z q. rw q (bound_apart e x i y z))) h
parts_give at o w Qlet fs e n h = absurd h
parts_give at o w Cond fs e n h = (omega arith, λ d k x. x d o w e)
parts_give at o w r fs e n h = counted at o w r fs (allows (reading_of r) (count fs)) e refl h

-- What the parts of a list give that has no fault, split as its operator reads them.
pub parts_fit : (at o w : ℕ) (fs : Forms) (r : Operator) (q : Reading) (s : parts.Split) → IsFine (applied at o w fs) → r ≡ operator_of w → q ≡ reading_of r → s ≡ parts.parts_by q fs
    → IsFineSplit s × Gives at o w fs s
parts_fit at o w fs r q s (names, n, h) e k l =
    let fine = fine_list names n Inner at ((o, w), fs) (clean names n Inner (applied at o w fs) h) in rw (l, k, e) (fine.1, parts_give at o w (operator_of w) fs refl fine.0 fine.1)

pub ruleset of_ways = (sequence_made, printed_made, applied_made, before_made, each_made)
