-- Forms expand to one program: the operator and the parts of a form tell the row by which it expands.
use Rattle.std.proofs.Common.{◌≡◌, ℕ, Bool, true, false, List, Some, refl, arith, ◌⊎◌, inl, inr}
use Rattle.ql_base.specs.Reserved.{number}
use Rattle.ql_base.specs.declared.reserved.Reserved.TheVariants.{Or as OrWord}
use Rattle.ql_forms.specs.Form.{Atom, Form, Forms, none, more, atom, list, proper, symbol, items_of}
use Rattle.ql_expand.specs.Assembly.{atom_core}
use Rattle.ql_expand.specs.Core.{named, hidden, Binder, binder, Core, core, Cores, no_cores, and_core, Bounds, no_bounds, and_bound, constant, variable, setq, conditional, binding, primitive, print, call, funcall, lambda, qlet, qlambda, catch, qcatch, throw, protect, Function, Program, program}
use Rattle.ql_expand.specs.Expands.{applied, added, nil_at, one, two, three, parameters_in, Rewrites, Expands, sugar, or_more, integer_alone, constant_word, quoted, variable_word, assigned, if_then, if_else, sequence, bound, one_operand, two_operands, printed, called, value_called, closed, bound_apart, closed_apart, caught, caught_all, thrown, protected, Body, no_forms, one_form, forms, InTurn, last_form, then_forms, Each, none_left, one_more, with_value, without_value, alone, Binds, none_bound, one_bound, TopForms, no_tops, top_function, top_global, top_form, ExpandsTo}
use Rattle.ql_expand.specs.Operator.{operator_of, takes_two}
use Rattle.ql_expand.specs.declared.operator.Operator.TheVariants.{Quote, Defun, Defvar, Lambda, Qlambda, Setq, If, Progn, Let, Qlet, Catch, Qcatch, Throw, Protect, Funcall, Print, Unary, Or, Call}

-- This is the only one of which the property holds.
abbrev Only : {A : Type 0} → (A → Type 0) → A → Type 0
Only {A = A} P a = (b : A) → P b → a ≡ b

-- ---- sugar: a list becomes one form, which expands to all that the list does

module _ {at o w : ℕ} where
  none_once : {g : Form} → Rewrites (applied at o w none) g → Only (Rewrites (applied at o w none)) g
  none_once = grind arith

  more_once : {a : Form} {fs : Forms} {g : Form} → Rewrites (applied at o w (more a fs)) g → Only (Rewrites (applied at o w (more a fs))) g
  more_once = grind arith

  none_stays : {d : Bool} {g : Form} {c : Core} → Rewrites (applied at o w none) g → Expands d (applied at o w none) c → Expands d g c
  none_stays = grind (arith, none_once)

  more_stays : {d : Bool} {a : Form} {fs : Forms} {g : Form} {c : Core} → Rewrites (applied at o w (more a fs)) g → Expands d (applied at o w (more a fs)) c → Expands d g c
  more_stays = grind (arith, more_once)

-- ---- core forms: each row's core is the only one where the cores of its parts are

atom_is : {d : Bool} {at : ℕ} {a : Atom} {c : Core} → Expands d (atom at a) c → atom_core at a ≡ c
atom_is (sugar r x) = elim r [ ]
atom_is integer_alone = refl
atom_is (constant_word k) = rw k refl
atom_is (variable_word k) = rw k refl

module _ (d : Bool) (at o w : ℕ) where
  -- the only core of a list with these parts
  abbrev OnlyOf : Forms → Core → Type 0
  OnlyOf fs c = Only (Expands d (applied at o w fs)) c

  -- rows of forms alone
  record OfForms : Type 0 where
    or_more : {a b : Form} {fs : Forms} {x y : Core} → operator_of w ≡ Or → Only (Expands false a) x → Only (Expands false (added at (number OrWord) (more b fs))) y
        → OnlyOf (more a (more b fs)) (core at (binding (and_bound (binder at (hidden 0)) x no_bounds) (core at (conditional (core at (variable (hidden 0))) (core at (variable (hidden 0))) y))))
    quoted : {f : Form} → operator_of w ≡ Quote → OnlyOf (one f) (core at (constant f))
    assigned : {p v : ℕ} {a : Form} {x : Core} → operator_of w ≡ Setq → Only (Expands false a) x → OnlyOf (two (atom p (symbol v)) a) (core at (setq (named v) p x))
    if_then : {a b : Form} {x y : Core} → operator_of w ≡ If → Only (Expands false a) x → Only (Expands false b) y → OnlyOf (two a b) (core at (conditional x y (core at (constant (nil_at at)))))
    if_else : {a b f : Form} {x y z : Core} → operator_of w ≡ If → Only (Expands false a) x → Only (Expands false b) y → Only (Expands false f) z → OnlyOf (three a b f) (core at (conditional x y z))
    one_operand : {a : Form} {x : Core} → operator_of w ≡ Unary → Only (Expands false a) x → OnlyOf (one a) (core at (primitive w (and_core x no_cores)))
    two_operands : {a b : Form} {x y : Core} → takes_two (operator_of w) ≡ true → Only (Expands false a) x → Only (Expands false b) y
        → OnlyOf (two a b) (core at (primitive w (and_core x (and_core y no_cores))))
    printed : {a : Form} {x : Core} → operator_of w ≡ Print → Only (Expands false a) x → OnlyOf (one a) (core at (print x))
    thrown : {a b : Form} {x y : Core} → operator_of w ≡ Throw → Only (Expands false a) x → Only (Expands false b) y → OnlyOf (two a b) (core at (throw x y))

  -- rows with a body or with arguments
  record OfLists : Type 0 where
    sequence : {es : Forms} {x : Core} → operator_of w ≡ Progn → Only (Body at es) x → OnlyOf es x
    bound : {b : Form} {bs es : Forms} {ns : Bounds} {x : Core} → operator_of w ≡ Let → items_of b ≡ Some bs → Only (Binds bs) ns → Only (Body at es) x → OnlyOf (more b es) (core at (binding ns x))
    called : {fs : Forms} {xs : Cores} → operator_of w ≡ Call → Only (Each fs) xs → OnlyOf fs (core at (call w o xs))
    value_called : {a : Form} {fs : Forms} {x : Core} {xs : Cores} → operator_of w ≡ Funcall → Only (Expands false a) x → Only (Each fs) xs → OnlyOf (more a fs) (core at (funcall d x xs))
    closed : {p : Form} {es : Forms} {vs : List Binder} {x : Core} → operator_of w ≡ Lambda → parameters_in p ≡ Some vs → Only (Body at es) x → OnlyOf (more p es) (core at (lambda vs x))
    bound_apart : {a b : Form} {bs es : Forms} {ns : Bounds} {x y : Core} → operator_of w ≡ Qlet → Only (Expands false a) x → items_of b ≡ Some bs → Only (Binds bs) ns → Only (Body at es) y
        → OnlyOf (more a (more b es)) (core at (qlet x ns y))
    closed_apart : {a p : Form} {es : Forms} {vs : List Binder} {x y : Core} → operator_of w ≡ Qlambda → Only (Expands false a) x → parameters_in p ≡ Some vs → Only (Body at es) y
        → OnlyOf (more a (more p es)) (core at (qlambda x vs y))
    caught : {a : Form} {es : Forms} {x y : Core} → operator_of w ≡ Catch → Only (Expands false a) x → Only (Body at es) y → OnlyOf (more a es) (core at (catch x y))
    caught_all : {a : Form} {es : Forms} {x y : Core} → operator_of w ≡ Qcatch → Only (Expands false a) x → Only (Body at es) y → OnlyOf (more a es) (core at (qcatch x y))
    protected : {a b : Form} {es : Forms} {x y : Core} → operator_of w ≡ Protect → Only (Expands false a) x → Only (Body at (more b es)) y → OnlyOf (more a (more b es)) (core at (protect x y))

of_forms : {d : Bool} {at o w : ℕ} → OfForms d at o w
of_forms = grind arith

of_lists : {d : Bool} {at o w : ℕ} → OfLists d at o w
of_lists = grind arith

mutual
  same : {d : Bool} {f : Form} {c : Core} → Expands d f c → Only (Expands d f) c
  same (sugar {f = list at (more (atom o (symbol w)) none) proper} r x) = λ e z. same x e (none_stays r z)
  same (sugar {f = list at (more (atom o (symbol w)) (more a fs)) proper} r x) = λ e z. same x e (more_stays r z)
  same (sugar r x) = elim r [ ]
  same (or_more k x y) = of_forms.or_more k (same x) (same y)
  same integer_alone = λ e z. atom_is z
  same (constant_word k) = λ e z. rw k at (atom_is z)
  same (quoted k) = of_forms.quoted k
  same (variable_word k) = λ e z. rw k at (atom_is z)
  same (assigned k x) = of_forms.assigned k (same x)
  same (if_then k x y) = of_forms.if_then k (same x) (same y)
  same (if_else k x y f) = of_forms.if_else k (same x) (same y) (same f)
  same (sequence k y) = of_lists.sequence k (same_body y)
  same (bound k i n y) = of_lists.bound k i (same_binds n) (same_body y)
  same (one_operand k x) = of_forms.one_operand k (same x)
  same (two_operands k x y) = of_forms.two_operands k (same x) (same y)
  same (printed k x) = of_forms.printed k (same x)
  same (called k n) = of_lists.called k (same_each n)
  same (value_called k x n) = of_lists.value_called k (same x) (same_each n)
  same (closed k i y) = of_lists.closed k i (same_body y)
  same (bound_apart k x i n y) = of_lists.bound_apart k (same x) i (same_binds n) (same_body y)
  same (closed_apart k x i y) = of_lists.closed_apart k (same x) i (same_body y)
  same (caught k x y) = of_lists.caught k (same x) (same_body y)
  same (caught_all k x y) = of_lists.caught_all k (same x) (same_body y)
  same (thrown k x y) = of_forms.thrown k (same x) (same y)
  same (protected k x y) = of_lists.protected k (same x) (same_body y)

  same_body : {at : ℕ} {fs : Forms} {c : Core} → Body at fs c → Only (Body at fs) c
  same_body no_forms _ no_forms = refl
  same_body (one_form x) _ (one_form y) = same x _ y
  same_body (forms m) _ (forms n) = cc (same_turn m _ n)

  same_turn : {fs : Forms} {cs : Cores} → InTurn fs cs → Only (InTurn fs) cs
  same_turn (last_form x) _ (last_form y) = cc (same x _ y)
  same_turn (then_forms x m) _ (then_forms y n) = cc (same x _ y, same_turn m _ n)

  same_each : {fs : Forms} {cs : Cores} → Each fs cs → Only (Each fs) cs
  same_each none_left _ none_left = refl
  same_each (one_more x m) _ (one_more y n) = cc (same x _ y, same_each m _ n)

  same_binds : {fs : Forms} {ns : Bounds} → Binds fs ns → Only (Binds fs) ns
  same_binds none_bound _ none_bound = refl
  same_binds (one_bound (with_value x) m) _ (one_bound (with_value y) n) = cc (same x _ y, same_binds m _ n)
  same_binds (one_bound without_value m) _ (one_bound without_value n) = cc (same_binds m _ n)
  same_binds (one_bound alone m) _ (one_bound alone n) = cc (same_binds m _ n)

-- ---- top forms

-- a definition is none of the other forms
no_definition : {d : Bool} {at o w : ℕ} {fs : Forms} {c : Core} → (operator_of w ≡ Defun) ⊎ (operator_of w ≡ Defvar) → Expands d (applied at o w fs) c → Prim.⊥
no_definition = grind arith

same_top : {fs : Forms} {functions others : List Function} {globals names : List ℕ} {cs ds : Cores} → TopForms fs functions globals cs → TopForms fs others names ds
    → program functions globals cs ≡ program others names ds
same_top no_tops no_tops = refl
same_top (top_function k i y t) (top_function l j z u) = cc (i, j, same_body y _ z, same_top t u)
same_top (top_function k i y t) (top_global l x u) = cc
same_top (top_function k i y t) (top_form x u) = absurd (no_definition (inl k) x)
same_top (top_global k x t) (top_function l j z u) = cc
same_top (top_global k x t) (top_global l y u) = cc (same x _ y, same_top t u)
same_top (top_global k x t) (top_form y u) = absurd (no_definition (inr k) y)
same_top (top_form x t) (top_function l j z u) = absurd (no_definition (inl l) x)
same_top (top_form x t) (top_global l y u) = absurd (no_definition (inr l) x)
same_top (top_form x t) (top_form y u) = cc (same x _ y, same_top t u)

pub one_program : (fs : Forms) (p q : Program) → ExpandsTo fs p → ExpandsTo fs q → p ≡ q
one_program fs (program functions globals cs) (program others names ds) t u = same_top t u
