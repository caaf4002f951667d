-- What forms expand to assigns to variables of the source alone, and has `defvar` as a top form alone.
use Rattle.std.proofs.Common.{◌≡◌, ℕ, Bool, true, List, refl, arith}
use Rattle.std.proofs.lemmas.Bool.Decides.{nat_tests}
use Rattle.ql_forms.specs.Form.{Form, Forms}
use Rattle.ql_expand.specs.Core.{Binder, Core, core, constant, variable, setq, conditional, progn, binding, primitive, print, call, funcall, lambda, qlet, qlambda, catch, qcatch, throw, protect, defvar, Cores, Bounds, Function, Program, program}
use Rattle.ql_expand.specs.Expands.{Expands, sugar, or_more, integer_alone, constant_word, quoted, variable_word, assigned, if_then, if_else, sequence, bound, one_operand, two_operands, printed, called, value_called, closed, bound_apart, closed_apart, caught, caught_all, thrown, protected, Body, no_forms, one_form, forms, InTurn, last_form, then_forms, Each, none_left, one_more, Bind, with_value, without_value, alone, Binds, none_bound, one_bound, TopForms, no_tops, top_function, top_global, top_form, ExpandsTo}
use Rattle.ql_compile.proofs.Assigns.{assigns, all_assign, values_assign, top_assigns, program_assigns}

mutual
  has : {d : Bool} {f : Form} {c : Core} → Expands d f c → assigns c ≡ true
  has (sugar r e) = has e
  has (or_more k e f) = rw (has e, has f) refl
  has integer_alone = refl
  has (constant_word k) = refl
  has (quoted k) = refl
  has (variable_word k) = refl
  has (assigned k e) = has e
  has (if_then k e f) = rw (has e, has f) refl
  has (if_else k e f g) = rw (has e, has f, has g) refl
  has (sequence k e) = body_has e
  has (bound k i m e) = rw (binds_have m, body_has e) refl
  has (one_operand k e) = rw (has e) refl
  has (two_operands k e f) = rw (has e, has f) refl
  has (printed k e) = has e
  has (called k e) = each_have e
  has (value_called k e f) = rw (has e, each_have f) refl
  has (closed k i e) = body_has e
  has (bound_apart k e i m f) = rw (has e, binds_have m, body_has f) refl
  has (closed_apart k e i f) = rw (has e, body_has f) refl
  has (caught k e f) = rw (has e, body_has f) refl
  has (caught_all k e f) = rw (has e, body_has f) refl
  has (thrown k e f) = rw (has e, has f) refl
  has (protected k e f) = rw (has e, body_has f) refl

  body_has : {at : ℕ} {fs : Forms} {c : Core} → Body at fs c → assigns c ≡ true
  body_has no_forms = refl
  body_has (one_form e) = has e
  body_has (forms s) = turns_have s

  turns_have : {fs : Forms} {cs : Cores} → InTurn fs cs → all_assign cs ≡ true
  turns_have (last_form e) = rw (has e) refl
  turns_have (then_forms e s) = rw (has e, turns_have s) refl

  each_have : {fs : Forms} {cs : Cores} → Each fs cs → all_assign cs ≡ true
  each_have none_left = refl
  each_have (one_more e s) = rw (has e, each_have s) refl

  bind_has : {f : Form} {b : Binder} {c : Core} → Bind f b c → assigns c ≡ true
  bind_has (with_value e) = has e
  bind_has without_value = refl
  bind_has alone = refl

  binds_have : {fs : Forms} {ns : Bounds} → Binds fs ns → values_assign ns ≡ true
  binds_have none_bound = refl
  binds_have (one_bound b s) = rw (bind_has b, binds_have s) refl

top_has : (c : Core) → assigns c ≡ true → top_assigns c ≡ true
top_has (core at (constant f)) h = h
top_has (core at (variable y)) h = h
top_has (core at (setq y o c)) h = h
top_has (core at (conditional a b c)) h = h
top_has (core at (progn cs)) h = h
top_has (core at (binding bs c)) h = h
top_has (core at (primitive o cs)) h = h
top_has (core at (print c)) h = h
top_has (core at (call f o cs)) h = h
top_has (core at (funcall i c cs)) h = h
top_has (core at (lambda ps c)) h = h
top_has (core at (qlet q bs c)) h = h
top_has (core at (qlambda q ps c)) h = h
top_has (core at (catch a b)) h = h
top_has (core at (qcatch a b)) h = h
top_has (core at (throw a b)) h = h
top_has (core at (protect a b)) h = h
top_has (core at (defvar w o c)) h = absurd cc

tops_have : {fs : Forms} {functions : List Function} {globals : List ℕ} {cs : Cores} → TopForms fs functions globals cs
    → program_assigns (program functions globals cs) ≡ true
tops_have no_tops = refl
tops_have (top_function k i e t) = grind (arith, nat_tests, body_has e, tops_have t)
tops_have (top_global k e t) = grind (arith, nat_tests, has e, tops_have t)
tops_have (top_form {c = c} e t) = grind (arith, nat_tests, top_has c (has e), tops_have t)

pub program_has : (fs : Forms) (p : Program) → ExpandsTo fs p → program_assigns p ≡ true
program_has fs (program functions globals cs) t = tops_have t
