-- What forms expand to: a case for each row of the tables of core forms and of sugar.
use Rattle.std.specs.Prelude.{◌≡◌, ℕ, pos, Bool, true, false, List, [], ◌∷◌, Option, Some, None, option_map}
use Rattle.std.specs.Option.{option_and_then}
use Rattle.ql_base.specs.Reserved.{number}
use Rattle.ql_base.specs.declared.reserved.Reserved.TheVariants.{Null, Greater, Less, Cons, True, If as IfWord, And as AndWord, Or as OrWord, Progn as PrognWord, Cond as CondWord, Let as LetWord, LetStar as LetStarWord, List as ListWord}
use Rattle.ql_forms.specs.Form.{Form, Forms, none, more, atom, list, proper, integer, symbol, nil, items_of}
use Rattle.ql_expand.specs.Core.{named, hidden, Binder, binder, Core, core, Cores, no_cores, and_core, Bounds, no_bounds, and_bound, constant, variable, setq, conditional, progn, binding, primitive, print, call, funcall, lambda, qlet, qlambda, catch, qcatch, throw, protect, defvar, Function, function, Program, program}
use Rattle.ql_expand.specs.Operator.{operator_of, takes_two, is_arithmetic, is_constant}
use Rattle.ql_expand.specs.declared.operator.Operator.TheVariants.{Quote, Defun, Defvar, Lambda, Qlambda, Setq, If, Progn, Let, Qlet, Catch, Qcatch, Throw, Protect, Funcall, Print, Unary, Sum, Difference, Product, Not, AtMost, AtLeast, Cond, And, Or, When, Unless, LetStar, List as ListOf, Call}

-- the list of an operator and its parts
abbrev pub applied : (at operator_at word : ℕ) → Forms → Form
applied at o w parts = list at (more (atom o (symbol w)) parts) proper

-- a form that the sugar at this offset adds
abbrev pub added : (at word : ℕ) → Forms → Form
added at w parts = applied at at w parts

abbrev pub nil_at : ℕ → Form
nil_at at = atom at nil

abbrev pub number_at : ℕ → ℕ → Form
number_at at n = atom at (integer (pos n))

abbrev pub one : Form → Forms
one a = more a none

abbrev pub two : Form → Form → Forms
two a b = more a (one b)

abbrev pub three : Form → Form → Form → Forms
three a b c = more a (two b c)

abbrev pub with_binder : (at number : ℕ) → Option (List Binder) → Option (List Binder)
with_binder at w bs = option_map (λ others. binder at (named w) ∷ others) bs

-- symbols as binders
abbrev pub binders_in : Forms → Option (List Binder)
binders_in none = Some []
binders_in (more (atom at (symbol w)) fs) = with_binder at w (binders_in fs)
binders_in _ = None

-- the parameters in a parameter list
abbrev pub parameters_in : Form → Option (List Binder)
parameters_in f = option_and_then binders_in (items_of f)

-- one step of expansion: what a sugar form becomes. The row of `or` with more forms than one is a core one below,
-- since no form names its hidden variable.
pub data Rewrites : Form → Form → Type 0 where
  no_terms : {at o : ℕ} {w : ℕ} → operator_of w ≡ Sum → Rewrites (applied at o w none) (number_at at 0)
  no_factors : {at o : ℕ} {w : ℕ} → operator_of w ≡ Product → Rewrites (applied at o w none) (number_at at 1)
  one_term : {at o : ℕ} {w : ℕ} {a : Form} → operator_of w ≡ Sum
      → Rewrites (applied at o w (one a)) (added at w (two (number_at at 0) a))
  one_factor : {at o : ℕ} {w : ℕ} {a : Form} → operator_of w ≡ Product
      → Rewrites (applied at o w (one a)) (added at w (two (number_at at 1) a))
  negative : {at o : ℕ} {w : ℕ} {a : Form} → operator_of w ≡ Difference
      → Rewrites (applied at o w (one a)) (added at w (two (number_at at 0) a))
  more_operands : {at o : ℕ} {w : ℕ} {a b c : Form} {fs : Forms} → is_arithmetic (operator_of w) ≡ true
      → Rewrites (applied at o w (more a (more b (more c fs)))) (added at w (more (added at w (two a b)) (more c fs)))
  not_null : {at o : ℕ} {w : ℕ} {a : Form} → operator_of w ≡ Not
      → Rewrites (applied at o w (one a)) (added at (number Null) (one a))
  at_most : {at o : ℕ} {w : ℕ} {a b : Form} → operator_of w ≡ AtMost
      → Rewrites (applied at o w (two a b)) (added at (number Null) (one (added at (number Greater) (two a b))))
  at_least : {at o : ℕ} {w : ℕ} {a b : Form} → operator_of w ≡ AtLeast
      → Rewrites (applied at o w (two a b)) (added at (number Null) (one (added at (number Less) (two a b))))
  list_none : {at o : ℕ} {w : ℕ} → operator_of w ≡ ListOf → Rewrites (applied at o w none) (nil_at at)
  list_more : {at o : ℕ} {w : ℕ} {a : Form} {fs : Forms} → operator_of w ≡ ListOf
      → Rewrites (applied at o w (more a fs)) (added at (number Cons) (two a (added at (number ListWord) fs)))
  and_none : {at o : ℕ} {w : ℕ} → operator_of w ≡ And → Rewrites (applied at o w none) (atom at (symbol (number True)))
  and_one : {at o : ℕ} {w : ℕ} {a : Form} → operator_of w ≡ And → Rewrites (applied at o w (one a)) a
  and_more : {at o : ℕ} {w : ℕ} {a b : Form} {fs : Forms} → operator_of w ≡ And
      → Rewrites (applied at o w (more a (more b fs))) (added at (number IfWord) (three a (added at (number AndWord) (more b fs)) (nil_at at)))
  or_none : {at o : ℕ} {w : ℕ} → operator_of w ≡ Or → Rewrites (applied at o w none) (nil_at at)
  or_one : {at o : ℕ} {w : ℕ} {a : Form} → operator_of w ≡ Or → Rewrites (applied at o w (one a)) a
  when : {at o : ℕ} {w : ℕ} {c : Form} {fs : Forms} → operator_of w ≡ When
      → Rewrites (applied at o w (more c fs)) (added at (number IfWord) (three c (added at (number PrognWord) fs) (nil_at at)))
  unless : {at o : ℕ} {w : ℕ} {c : Form} {fs : Forms} → operator_of w ≡ Unless
      → Rewrites (applied at o w (more c fs)) (added at (number IfWord) (three c (nil_at at) (added at (number PrognWord) fs)))
  cond_none : {at o : ℕ} {w : ℕ} → operator_of w ≡ Cond → Rewrites (applied at o w none) (nil_at at)
  cond_test : {at o p : ℕ} {w : ℕ} {c : Form} {rs : Forms} → operator_of w ≡ Cond
      → Rewrites (applied at o w (more (list p (one c) proper) rs)) (added at (number OrWord) (two c (added at (number CondWord) rs)))
  cond_forms : {at o p : ℕ} {w : ℕ} {c e : Form} {es rs : Forms} → operator_of w ≡ Cond
      → Rewrites (applied at o w (more (list p (more c (more e es)) proper) rs))
      (added at (number IfWord) (three c (added at (number PrognWord) (more e es)) (added at (number CondWord) rs)))
  let_star_none : {at o : ℕ} {w : ℕ} {b : Form} {es : Forms} → operator_of w ≡ LetStar → items_of b ≡ Some none
      → Rewrites (applied at o w (more b es)) (added at (number LetWord) (more b es))
  let_star_one : {at o p : ℕ} {w : ℕ} {b : Form} {es : Forms} → operator_of w ≡ LetStar
      → Rewrites (applied at o w (more (list p (one b) proper) es)) (added at (number LetWord) (more (list at (one b) proper) es))
  let_star_more : {at o p : ℕ} {w : ℕ} {b r : Form} {rs es : Forms} → operator_of w ≡ LetStar
      → Rewrites (applied at o w (more (list p (more b (more r rs)) proper) es))
      (added at (number LetWord) (two (list at (one b) proper) (added at (number LetStarWord) (more (list at (more r rs) proper) es))))

mutual
  -- A form expands to a core. Whether its value is dropped tells whether a call of a process closure is ignored: it is so
  -- in a place of a progn or a body that isn't the last. A step of sugar keeps this, and a progn of one form doesn't.
  pub data Expands : (dropped : Bool) → Form → Core → Type 0 where
    sugar : {d : Bool} {f g : Form} {c : Core} → Rewrites f g → Expands d g c → Expands d f c
    -- (or a b ..) is (let ((h a)) (if h h (or b ..)))
    or_more : {d : Bool} {at o : ℕ} {w : ℕ} {a b : Form} {fs : Forms} {c e : Core} → operator_of w ≡ Or
        → Expands false a c → Expands false (added at (number OrWord) (more b fs)) e
        → Expands d (applied at o w (more a (more b fs))) (core at (binding (and_bound (binder at (hidden 0)) c no_bounds)
        (core at (conditional (core at (variable (hidden 0))) (core at (variable (hidden 0))) e))))
    integer_alone : {d : Bool} {at : ℕ} {z : _} → Expands d (atom at (integer z)) (core at (constant (atom at (integer z))))
    constant_word : {d : Bool} {at : ℕ} {w : ℕ} → is_constant (operator_of w) ≡ true
        → Expands d (atom at (symbol w)) (core at (constant (atom at (symbol w))))
    quoted : {d : Bool} {at o : ℕ} {w : ℕ} {f : Form} → operator_of w ≡ Quote
        → Expands d (applied at o w (one f)) (core at (constant f))
    variable_word : {d : Bool} {at : ℕ} {w : ℕ} → is_constant (operator_of w) ≡ false
        → Expands d (atom at (symbol w)) (core at (variable (named w)))
    assigned : {d : Bool} {at o p : ℕ} {w v : ℕ} {e : Form} {c : Core} → operator_of w ≡ Setq → Expands false e c
        → Expands d (applied at o w (two (atom p (symbol v)) e)) (core at (setq (named v) p c))
    if_then : {d : Bool} {at o : ℕ} {w : ℕ} {a b : Form} {c e : Core} → operator_of w ≡ If → Expands false a c → Expands false b e
        → Expands d (applied at o w (two a b)) (core at (conditional c e (core at (constant (nil_at at)))))
    if_else : {d : Bool} {at o : ℕ} {w : ℕ} {a b f : Form} {c e g : Core} → operator_of w ≡ If
        → Expands false a c → Expands false b e → Expands false f g
        → Expands d (applied at o w (three a b f)) (core at (conditional c e g))
    sequence : {d : Bool} {at o : ℕ} {w : ℕ} {fs : Forms} {c : Core} → operator_of w ≡ Progn → Body at fs c
        → Expands d (applied at o w fs) c
    bound : {d : Bool} {at o : ℕ} {w : ℕ} {b : Form} {bs es : Forms} {ns : Bounds} {c : Core} → operator_of w ≡ Let
        → items_of b ≡ Some bs → Binds bs ns → Body at es c → Expands d (applied at o w (more b es)) (core at (binding ns c))
    one_operand : {d : Bool} {at o : ℕ} {w : ℕ} {a : Form} {c : Core} → operator_of w ≡ Unary → Expands false a c
        → Expands d (applied at o w (one a)) (core at (primitive w (and_core c no_cores)))
    two_operands : {d : Bool} {at o : ℕ} {w : ℕ} {a b : Form} {c e : Core} → takes_two (operator_of w) ≡ true
        → Expands false a c → Expands false b e
        → Expands d (applied at o w (two a b)) (core at (primitive w (and_core c (and_core e no_cores))))
    printed : {d : Bool} {at o : ℕ} {w : ℕ} {a : Form} {c : Core} → operator_of w ≡ Print → Expands false a c
        → Expands d (applied at o w (one a)) (core at (print c))
    called : {d : Bool} {at o : ℕ} {w : ℕ} {fs : Forms} {cs : Cores} → operator_of w ≡ Call → Each fs cs
        → Expands d (applied at o w fs) (core at (call w o cs))
    -- a call of a closure, ignored where its value is dropped
    value_called : {d : Bool} {at o : ℕ} {w : ℕ} {a : Form} {fs : Forms} {c : Core} {cs : Cores} → operator_of w ≡ Funcall
        → Expands false a c → Each fs cs → Expands d (applied at o w (more a fs)) (core at (funcall d c cs))
    closed : {d : Bool} {at o : ℕ} {w : ℕ} {p : Form} {es : Forms} {vs : List Binder} {c : Core} → operator_of w ≡ Lambda
        → parameters_in p ≡ Some vs → Body at es c → Expands d (applied at o w (more p es)) (core at (lambda vs c))
    bound_apart : {d : Bool} {at o : ℕ} {w : ℕ} {a b : Form} {bs es : Forms} {e : Core} {ns : Bounds} {c : Core}
        → operator_of w ≡ Qlet → Expands false a e → items_of b ≡ Some bs → Binds bs ns → Body at es c
        → Expands d (applied at o w (more a (more b es))) (core at (qlet e ns c))
    closed_apart : {d : Bool} {at o : ℕ} {w : ℕ} {a p : Form} {es : Forms} {e : Core} {vs : List Binder} {c : Core}
        → operator_of w ≡ Qlambda → Expands false a e → parameters_in p ≡ Some vs → Body at es c
        → Expands d (applied at o w (more a (more p es))) (core at (qlambda e vs c))
    caught : {d : Bool} {at o : ℕ} {w : ℕ} {a : Form} {es : Forms} {e c : Core} → operator_of w ≡ Catch
        → Expands false a e → Body at es c → Expands d (applied at o w (more a es)) (core at (catch e c))
    caught_all : {d : Bool} {at o : ℕ} {w : ℕ} {a : Form} {es : Forms} {e c : Core} → operator_of w ≡ Qcatch
        → Expands false a e → Body at es c → Expands d (applied at o w (more a es)) (core at (qcatch e c))
    thrown : {d : Bool} {at o : ℕ} {w : ℕ} {a b : Form} {c e : Core} → operator_of w ≡ Throw
        → Expands false a c → Expands false b e → Expands d (applied at o w (two a b)) (core at (throw c e))
    protected : {d : Bool} {at o : ℕ} {w : ℕ} {a b : Form} {es : Forms} {e c : Core} → operator_of w ≡ Protect
        → Expands false a e → Body at (more b es) c → Expands d (applied at o w (more a (more b es))) (core at (protect e c))

  -- the forms of a progn or of the body of the form at this offset
  pub data Body : (at : ℕ) → Forms → Core → Type 0 where
    no_forms : {at : ℕ} → Body at none (core at (constant (nil_at at)))
    one_form : {at : ℕ} {e : Form} {c : Core} → Expands false e c → Body at (one e) c
    forms : {at : ℕ} {e f : Form} {fs : Forms} {cs : Cores} → InTurn (more e (more f fs)) cs → Body at (more e (more f fs)) (core at (progn cs))

  -- forms of which all but the last are dropped
  pub data InTurn : Forms → Cores → Type 0 where
    last_form : {e : Form} {c : Core} → Expands false e c → InTurn (one e) (and_core c no_cores)
    then_forms : {e f : Form} {fs : Forms} {c : Core} {cs : Cores} → Expands true e c → InTurn (more f fs) cs
        → InTurn (more e (more f fs)) (and_core c cs)

  -- operands and arguments
  pub data Each : Forms → Cores → Type 0 where
    none_left : Each none no_cores
    one_more : {e : Form} {fs : Forms} {c : Core} {cs : Cores} → Expands false e c → Each fs cs → Each (more e fs) (and_core c cs)

  -- (v e), (v) and v
  pub data Bind : Form → Binder → Core → Type 0 where
    with_value : {p o : ℕ} {v : ℕ} {e : Form} {c : Core} → Expands false e c → Bind (list p (two (atom o (symbol v)) e) proper) (binder o (named v)) c
    without_value : {p o : ℕ} {v : ℕ} → Bind (list p (one (atom o (symbol v))) proper) (binder o (named v)) (core o (constant (nil_at o)))
    alone : {o : ℕ} {v : ℕ} → Bind (atom o (symbol v)) (binder o (named v)) (core o (constant (nil_at o)))

  pub data Binds : Forms → Bounds → Type 0 where
    none_bound : Binds none no_bounds
    one_bound : {b : Form} {bs : Forms} {n : Binder} {c : Core} {ns : Bounds} → Bind b n c → Binds bs ns → Binds (more b bs) (and_bound n c ns)

-- The top forms are these functions, globals and other forms.
pub data TopForms : Forms → List Function → List ℕ → Cores → Type 0 where
  no_tops : TopForms none [] [] no_cores
  top_function : {at o p : ℕ} {w v : ℕ} {ps : Form} {es fs : Forms} {vs : List Binder} {c : Core} {functions : List Function} {globals : List ℕ} {cs : Cores}
      → operator_of w ≡ Defun → parameters_in ps ≡ Some vs → Body at es c → TopForms fs functions globals cs
      → TopForms (more (applied at o w (more (atom p (symbol v)) (more ps es))) fs) (function at v p vs c ∷ functions) globals cs
  top_global : {at o p : ℕ} {w v : ℕ} {e : Form} {fs : Forms} {c : Core} {functions : List Function} {globals : List ℕ} {cs : Cores}
      → operator_of w ≡ Defvar → Expands false e c → TopForms fs functions globals cs
      → TopForms (more (applied at o w (two (atom p (symbol v)) e)) fs) functions (v ∷ globals) (and_core (core at (defvar v p c)) cs)
  top_form : {f : Form} {fs : Forms} {c : Core} {functions : List Function} {globals : List ℕ} {cs : Cores}
      → Expands false f c → TopForms fs functions globals cs → TopForms (more f fs) functions globals (and_core c cs)

-- The forms of a source expand to a program.
abbrev pub ExpandsTo : Forms → Program → Type 0
ExpandsTo fs (program functions globals cs) = TopForms fs functions globals cs
