-- What control and frames leave of the marks.
use Rattle.std.proofs.Common.{◌≡◌, ◌⊎◌, ℕ, List, [], ◌∷◌, ◌++◌, refl, sym, ap, ◌∙◌, inl, inr}
use Rattle.ql_expand.specs.Core.{Core, core, Node, constant, variable, setq, conditional, progn, binding, primitive, print, call, funcall, lambda, qlet, qlambda, catch, qcatch, throw, protect, defvar, Cores, no_cores, and_core, Bounds, no_bounds, and_bound}
use Rattle.ql_world.specs.declared.word.Word.{Word}
use Rattle.ql_world.specs.declared.word.Word.TheVariants.{Int as integer, Sym as symbol, Pair as pair, Fun as closure, Proc as process_closure, Fut as future}
use Rattle.ql_world.specs.declared.world.Aim.{Aim}
use Rattle.ql_world.specs.declared.world.Kind.{Kind}
use Rattle.ql_world.specs.declared.world.Kind.TheVariants.{Main as main, Child as child, Closure as serving}
use Rattle.ql_world.specs.Tick.{or_home}
use Rattle.ql_meaning.specs.Control.{Bindings, Frame, operands, then_forms, then_tops, returning, replied, catching, protecting, cleaning, child_base, server_base, Control, literal, reading, closing, guarding, acting, joining, given, unwinding, finished, at_rest, over, descend, descend_node, descend_operands, descend_values, descend_forms, values_in, begin, next_operand, give, unwind, cleanups_on, innermost_on, aim_cleanup}
use Rattle.ql_meaning.specs.Sane.{of_program, of_child, of_server, Mark, catch_mark, protect_mark, base_mark, works, Standing, marks_on, marks_of, standing, innermost_or, cleanups_of, Based}
use Rattle.ql_meaning.proofs.Marks.{aim_marks}

-- at work with these marks
abbrev pub working : List Mark → Standing
working ms = record { marks = ms; doing = works }

mutual
  pub descend_stands : (c : Core) (env : Bindings) (fs : List Frame) → standing (descend c env fs) ≡ working (marks_on fs)
  descend_stands (core at n) env fs = node_stands n at env fs

  node_stands : (n : Node) (at : ℕ) (env : Bindings) (fs : List Frame) → standing (descend_node at n env fs) ≡ working (marks_on fs)
  node_stands (constant f) at env fs = refl
  node_stands (variable x) at env fs = refl
  node_stands (setq x o c) at env fs = descend_stands c env (operands (core at (setq x o c)) [] no_cores env ∷ fs)
  node_stands (conditional a b c) at env fs = descend_stands a env (operands (core at (conditional a b c)) [] no_cores env ∷ fs)
  node_stands (progn cs) at env fs = forms_stand cs at env fs
  node_stands (binding bs c) at env fs = values_stand bs (core at (binding bs c)) env fs
  node_stands (primitive o cs) at env fs = operands_stand cs (core at (primitive o cs)) env fs
  node_stands (print c) at env fs = descend_stands c env (operands (core at (print c)) [] no_cores env ∷ fs)
  node_stands (call f o cs) at env fs = operands_stand cs (core at (call f o cs)) env fs
  node_stands (funcall i c cs) at env fs = descend_stands c env (operands (core at (funcall i c cs)) [] cs env ∷ fs)
  node_stands (lambda ps c) at env fs = refl
  node_stands (qlet p bs c) at env fs = descend_stands p env (operands (core at (qlet p bs c)) [] no_cores env ∷ fs)
  node_stands (qlambda p ps c) at env fs = descend_stands p env (operands (core at (qlambda p ps c)) [] no_cores env ∷ fs)
  node_stands (catch a b) at env fs = descend_stands a env (operands (core at (catch a b)) [] no_cores env ∷ fs)
  node_stands (qcatch a b) at env fs = descend_stands a env (operands (core at (qcatch a b)) [] no_cores env ∷ fs)
  node_stands (throw a b) at env fs = descend_stands a env (operands (core at (throw a b)) [] (and_core b no_cores) env ∷ fs)
  node_stands (protect a b) at env fs = refl
  node_stands (defvar l o c) at env fs = descend_stands c env (operands (core at (defvar l o c)) [] no_cores env ∷ fs)

  operands_stand : (cs : Cores) (whole : Core) (env : Bindings) (fs : List Frame) → standing (descend_operands whole cs env fs) ≡ working (marks_on fs)
  operands_stand no_cores whole env fs = refl
  operands_stand (and_core c cs) whole env fs = descend_stands c env (operands whole [] cs env ∷ fs)

  values_stand : (bs : Bounds) (whole : Core) (env : Bindings) (fs : List Frame) → standing (descend_values whole bs env fs) ≡ working (marks_on fs)
  values_stand no_bounds whole env fs = refl
  values_stand (and_bound b c bs) whole env fs = descend_stands c env (operands whole [] (values_in bs) env ∷ fs)

  forms_stand : (cs : Cores) (at : ℕ) (env : Bindings) (fs : List Frame) → standing (descend_forms at cs env fs) ≡ working (marks_on fs)
  forms_stand no_cores at env fs = refl
  forms_stand (and_core c cs) at env fs = last_or c cs at env fs (descend_stands c)

  last_or : (c : Core) (cs : Cores) (at : ℕ) (env : Bindings) (fs : List Frame) → ((env : Bindings) (fs : List Frame) → standing (descend c env fs) ≡ working (marks_on fs)) → standing (descend_forms at (and_core c cs) env fs) ≡ working (marks_on fs)
  last_or c no_cores at env fs h = h env fs
  last_or c (and_core d ds) at env fs h = h env (then_forms (and_core d ds) env ∷ fs)

pub begin_stands : (cs : Cores) → standing (begin cs) ≡ working (base_mark of_program ∷ [])
begin_stands no_cores = refl
begin_stands (and_core c cs) = descend_stands c [] (then_tops cs ∷ [])

next_stands : (whole : Core) (ws : List Word) (cs : Cores) (env : Bindings) (fs : List Frame) → standing (next_operand whole ws cs env fs) ≡ working (marks_on fs)
next_stands whole ws no_cores env fs = refl
next_stands whole ws (and_core c cs) env fs = descend_stands c env (operands whole ws cs env ∷ fs)

pub give_stands : (kind : Kind) (w : Word) (fs : List Frame) → Based kind (marks_on fs) → standing (give w fs) ≡ working (marks_on fs)
give_stands kind w [] b = absurd b
give_stands kind w (operands whole ws cs env ∷ fs) b = next_stands whole (ws ++ w ∷ []) cs env fs
give_stands kind w (then_forms cs env ∷ fs) b = forms_stand cs 0 env fs
give_stands kind w (then_tops cs ∷ fs) b = begin_stands cs ∙ ap (λ z. working (base_mark of_program ∷ z)) (sym b.1)
give_stands kind w (returning ∷ fs) b = refl
give_stands kind (integer z) (replied at ∷ fs) b = give_stands kind (integer z) fs b
give_stands kind (symbol n) (replied at ∷ fs) b = give_stands kind (symbol n) fs b
give_stands kind (pair n) (replied at ∷ fs) b = give_stands kind (pair n) fs b
give_stands kind (closure n) (replied at ∷ fs) b = give_stands kind (closure n) fs b
give_stands kind (process_closure n) (replied at ∷ fs) b = give_stands kind (process_closure n) fs b
give_stands kind (future n) (replied at ∷ fs) b = refl
give_stands kind w (catching c ∷ fs) b = refl
give_stands kind w (protecting u c env ∷ fs) b = refl
give_stands kind w (cleaning u v c ∷ fs) b = refl
give_stands kind w (child_base at ∷ fs) b = refl
give_stands kind w (server_base at ∷ fs) b = refl

pub unwind_marks : (fs : List Frame) → marks_on (unwind fs) ≡ marks_on fs
unwind_marks [] = refl
unwind_marks (operands whole ws cs env ∷ fs) = unwind_marks fs
unwind_marks (then_forms cs env ∷ fs) = unwind_marks fs
unwind_marks (then_tops cs ∷ fs) = refl
unwind_marks (returning ∷ fs) = unwind_marks fs
unwind_marks (replied at ∷ fs) = unwind_marks fs
unwind_marks (catching c ∷ fs) = refl
unwind_marks (protecting u c env ∷ fs) = refl
unwind_marks (cleaning u v c ∷ fs) = refl
unwind_marks (child_base at ∷ fs) = refl
unwind_marks (server_base at ∷ fs) = refl

pub cleanups_same : (fs : List Frame) → cleanups_of (marks_on fs) ≡ cleanups_on fs
cleanups_same [] = refl
cleanups_same (operands whole ws cs env ∷ fs) = cleanups_same fs
cleanups_same (then_forms cs env ∷ fs) = cleanups_same fs
cleanups_same (then_tops cs ∷ fs) = cleanups_same fs
cleanups_same (returning ∷ fs) = cleanups_same fs
cleanups_same (replied at ∷ fs) = cleanups_same fs
cleanups_same (catching c ∷ fs) = cleanups_same fs
cleanups_same (protecting u c env ∷ fs) = cleanups_same fs
cleanups_same (cleaning u v c ∷ fs) = ap (λ z. c ∷ z) (cleanups_same fs)
cleanups_same (child_base at ∷ fs) = cleanups_same fs
cleanups_same (server_base at ∷ fs) = cleanups_same fs

pub innermost_same : (h : ℕ) (fs : List Frame) → or_home (innermost_on fs) h ≡ innermost_or h (marks_on fs)
innermost_same h [] = refl
innermost_same h (operands whole ws cs env ∷ fs) = innermost_same h fs
innermost_same h (then_forms cs env ∷ fs) = innermost_same h fs
innermost_same h (then_tops cs ∷ fs) = innermost_same h fs
innermost_same h (returning ∷ fs) = innermost_same h fs
innermost_same h (replied at ∷ fs) = innermost_same h fs
innermost_same h (catching c ∷ fs) = refl
innermost_same h (protecting u c env ∷ fs) = innermost_same h fs
innermost_same h (cleaning u v c ∷ fs) = innermost_same h fs
innermost_same h (child_base at ∷ fs) = innermost_same h fs
innermost_same h (server_base at ∷ fs) = innermost_same h fs

pub aim_same : (a : Aim) (fs : List Frame) → marks_on (aim_cleanup a fs) ≡ aim_marks a (marks_on fs)
aim_same a [] = refl
aim_same a (operands whole ws cs env ∷ fs) = aim_same a fs
aim_same a (then_forms cs env ∷ fs) = aim_same a fs
aim_same a (then_tops cs ∷ fs) = ap (λ z. base_mark of_program ∷ z) (aim_same a fs)
aim_same a (returning ∷ fs) = aim_same a fs
aim_same a (replied at ∷ fs) = aim_same a fs
aim_same a (catching c ∷ fs) = ap (λ z. catch_mark c ∷ z) (aim_same a fs)
aim_same a (protecting u c env ∷ fs) = ap (λ z. protect_mark u ∷ z) (aim_same a fs)
aim_same a (cleaning u v c ∷ fs) = refl
aim_same a (child_base at ∷ fs) = ap (λ z. base_mark of_child ∷ z) (aim_same a fs)
aim_same a (server_base at ∷ fs) = ap (λ z. base_mark of_server ∷ z) (aim_same a fs)

-- a process that is not the main one has no finished control
pub marks_plain : (kind : Kind) (c : Control) (fs : List Frame) → Based kind (marks_of c fs) → (kind ≡ main → ⊥) → marks_of c fs ≡ marks_on fs
marks_plain kind (literal f) fs b n = refl
marks_plain kind (reading at y env) fs b n = refl
marks_plain kind (closing k) fs b n = refl
marks_plain kind (guarding v c env) fs b n = refl
marks_plain kind (acting c env ws) fs b n = refl
marks_plain kind (joining at bs c env ws) fs b n = refl
marks_plain kind (given w) fs b n = refl
marks_plain kind unwinding fs b n = refl
marks_plain main finished fs b n = absurd (n refl)
marks_plain (child f) finished fs b n = absurd b.0
marks_plain (serving k) finished fs b n = absurd b.0
marks_plain kind at_rest fs b n = refl
marks_plain kind over fs b n = refl

-- a process with a catch or a cleanup on its frames has no finished control
pub marks_below : (kind : Kind) (c : Control) (fs : List Frame) → Based kind (marks_of c fs) → (marks_of c fs ≡ marks_on fs) ⊎ (marks_of c fs ≡ base_mark of_program ∷ [])
marks_below kind (literal f) fs b = inl refl
marks_below kind (reading at y env) fs b = inl refl
marks_below kind (closing k) fs b = inl refl
marks_below kind (guarding v c env) fs b = inl refl
marks_below kind (acting c env ws) fs b = inl refl
marks_below kind (joining at bs c env ws) fs b = inl refl
marks_below kind (given w) fs b = inl refl
marks_below kind unwinding fs b = inl refl
marks_below kind finished fs b = inr (ap (λ z. base_mark of_program ∷ z) b.1)
marks_below kind at_rest fs b = inl refl
marks_below kind over fs b = inl refl
