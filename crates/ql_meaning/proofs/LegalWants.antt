-- What a process asks for tells where it stands.
use Rattle.std.proofs.Common.{◌≡◌, ◌⊎◌, ℕ, Bool, true, false, not, List, [], ◌∷◌, Option, Some, None, refl, sym, ap, ◌∙◌, inl, inr}
use Rattle.ql_expand.specs.Core.{Core, core, Node, setq, conditional, binding, primitive, print, call, funcall, qlet, qlambda, catch, qcatch, throw, defvar, Function}
use Rattle.ql_world.specs.Word.{first_future}
use Rattle.ql_world.specs.declared.word.Word.{Word}
use Rattle.ql_world.specs.declared.word.Word.TheVariants.{Proc as process_closure, Fut as future}
use Rattle.ql_world.specs.Operator.{operator_of}
use Rattle.ql_world.specs.declared.operator.Operator.{Operator}
use Rattle.ql_world.specs.declared.world.Kind.{Kind}
use Rattle.ql_world.specs.Machine.{Ending, Want, awaits, begins, finishes, exits, leaves, ends, rests, sends, takes_call, replies, last_form, with_word, unwound}
use Rattle.ql_world.specs.declared.world.Cleanup.{Cleanup}
use Rattle.ql_world.specs.Idle.{in_cleanup}
use Rattle.ql_world.specs.Touch.{await_or, await_word, compute_want, funcall_want}
use Rattle.ql_meaning.specs.Context.{Context, function_called}
use Rattle.ql_meaning.specs.Control.{Bindings, Frame, operands, then_forms, then_tops, returning, replied, catching, protecting, cleaning, child_base, server_base, Control, literal, reading, closing, guarding, acting, joining, given, unwinding, finished, at_rest, over, cleanups_on, touched, act_want, call_want, core_want, unwinding_want, want_of}
use Rattle.ql_meaning.specs.Sane.{Base, of_program, of_child, of_server, Mark, catch_mark, protect_mark, cleanup_mark, base_mark, marks_on, marks_of, doing_of, cleanups_of, is_unwinding, Based}
use Rattle.ql_meaning.proofs.Threads as threads

-- marks and frames

-- after the last top form
abbrev pub Finished : Control → Type 0
Finished c = c ≡ finished

pub is_finished_or : (c : Control) → Finished c ⊎ (Finished c → ⊥)
is_finished_or finished = inl refl
is_finished_or c = inr (λ e. absurd cc)

pub cleanups_same : (c : Control) (fs : List Frame) → (Finished c → ⊥) → cleanups_of (marks_of c fs) ≡ cleanups_on fs
cleanups_same finished fs n = absurd (n refl)
cleanups_same c fs n = threads.cleanups_same fs

-- what the wants of operands and of frames are

-- a process asks for these where it unwinds, or can't step
abbrev pub is_of_unwinding : Want → Bool
is_of_unwinding (leaves c) = true
is_of_unwinding (begins u) = true
is_of_unwinding (ends unwound) = true
is_of_unwinding rests = true
is_of_unwinding want = false

-- and for these where it runs no cleanup
abbrev pub is_of_base : Want → Bool
is_of_base (sends k ws used at) = true
is_of_base takes_call = true
is_of_base (replies w) = true
is_of_base (ends ending) = true
is_of_base want = false

-- and for these where a frame is on top that is no operand's
abbrev pub is_of_frame : Want → Bool
is_of_frame (begins u) = true
is_of_frame (finishes u) = true
is_of_frame (exits c) = true
is_of_frame (leaves c) = true
is_of_frame takes_call = true
is_of_frame (replies w) = true
is_of_frame (ends ending) = true
is_of_frame want = false

module _ (x : Context) where
  of_unwinding : (fs : List Frame) → is_of_unwinding (unwinding_want x fs) ≡ true
  of_unwinding [] = refl
  of_unwinding (operands c ws cs env ∷ fs) = refl
  of_unwinding (then_forms cs env ∷ fs) = refl
  of_unwinding (then_tops cs ∷ fs) = refl
  of_unwinding (returning ∷ fs) = refl
  of_unwinding (replied at ∷ fs) = refl
  of_unwinding (catching c ∷ fs) = refl
  of_unwinding (protecting u c env ∷ fs) = refl
  of_unwinding (cleaning u w c ∷ fs) = refl
  of_unwinding (child_base at ∷ fs) = refl
  of_unwinding (server_base at ∷ fs) = refl

  pub works_for : (c : Control) (fs : List Frame) → is_of_unwinding (want_of x c fs) ≡ false → is_unwinding (doing_of c) ≡ false
  works_for unwinding fs h = let bad : true ≡ false = sym (of_unwinding fs) ∙ h in absurd cc
  works_for c fs h = refl

  -- operands
  compute_is : (o : Option Operator) (ws : List Word) (at : ℕ) → (is_of_base (compute_want o ws at) ≡ false) × (is_of_frame (compute_want o ws at) ≡ false)
  compute_is None ws at = (refl, refl)
  compute_is (Some o) ws at = (refl, refl)

  call_is : (f : Option Function) (ws : List Word) → (is_of_base (call_want x f ws) ≡ false) × (is_of_frame (call_want x f ws) ≡ false)
  call_is None ws = (refl, refl)
  call_is (Some f) ws = (refl, refl)

  funcall_base : (used : Bool) (ws : List Word) (at : ℕ) → is_of_base (funcall_want true used ws at) ≡ false
  funcall_base used [] at = refl
  funcall_base used (process_closure k ∷ ws) at = refl
  funcall_base used (w ∷ ws) at = refl

  funcall_frame : (cleans used : Bool) (ws : List Word) (at : ℕ) → is_of_frame (funcall_want cleans used ws at) ≡ false
  funcall_frame cleans used [] at = refl
  funcall_frame true used (process_closure k ∷ ws) at = refl
  funcall_frame false used (process_closure k ∷ ws) at = refl
  funcall_frame cleans used (w ∷ ws) at = refl

  act_base : (at : ℕ) (n : Node) (env : Bindings) (ws : List Word) → is_of_base (act_want x true at n env ws) ≡ false
  act_base at (setq y o c) env (w ∷ []) = refl
  act_base at (conditional a b c) env (w ∷ []) = refl
  act_base at (binding bs c) env ws = refl
  act_base at (primitive o cs) env ws = (compute_is (operator_of o) ws at).0
  act_base at (print c) env (w ∷ []) = refl
  act_base at (call f o cs) env ws = (call_is (function_called x.functions f) ws).0
  act_base at (funcall ignored c cs) env ws = funcall_base (not ignored) ws at
  act_base at (qlet p bs c) env (w ∷ []) = refl
  act_base at (qlambda p ps c) env (w ∷ []) = refl
  act_base at (catch a b) env (w ∷ []) = refl
  act_base at (qcatch a b) env (w ∷ []) = refl
  act_base at (throw a b) env (tag ∷ (w ∷ [])) = refl
  act_base at (defvar l o c) env (w ∷ []) = refl
  act_base at n env ws = refl

  act_frame : (cleans : Bool) (at : ℕ) (n : Node) (env : Bindings) (ws : List Word) → is_of_frame (act_want x cleans at n env ws) ≡ false
  act_frame cleans at (setq y o c) env (w ∷ []) = refl
  act_frame cleans at (conditional a b c) env (w ∷ []) = refl
  act_frame cleans at (binding bs c) env ws = refl
  act_frame cleans at (primitive o cs) env ws = (compute_is (operator_of o) ws at).1
  act_frame cleans at (print c) env (w ∷ []) = refl
  act_frame cleans at (call f o cs) env ws = (call_is (function_called x.functions f) ws).1
  act_frame cleans at (funcall ignored c cs) env ws = funcall_frame cleans (not ignored) ws at
  act_frame cleans at (qlet p bs c) env (w ∷ []) = refl
  act_frame cleans at (qlambda p ps c) env (w ∷ []) = refl
  act_frame cleans at (catch a b) env (w ∷ []) = refl
  act_frame cleans at (qcatch a b) env (w ∷ []) = refl
  act_frame cleans at (throw a b) env (tag ∷ (w ∷ [])) = refl
  act_frame cleans at (defvar l o c) env (w ∷ []) = refl
  act_frame cleans at n env ws = refl

  await_is : (f : Want → Bool) (o : Option ℕ) (at : ℕ) (want : Want) → ((g : ℕ) → f (awaits g at) ≡ false) → f want ≡ false → f (await_or o at want) ≡ false
  await_is f None at want a h = h
  await_is f (Some g) at want a h = a g

  core_base : (c : Core) (env : Bindings) (ws : List Word) → is_of_base (core_want x true c env ws) ≡ false
  core_base (core at n) env ws = await_is is_of_base (first_future (touched true n x ws)) at _ (λ g. refl) (act_base at n env ws)

  core_frame : (cleans : Bool) (c : Core) (env : Bindings) (ws : List Word) → is_of_frame (core_want x cleans c env ws) ≡ false
  core_frame cleans (core at n) env ws = await_is is_of_frame (first_future (touched cleans n x ws)) at _ (λ g. refl) (act_frame cleans at n env ws)

  word_is : (f : Want → Bool) (w : Word) (at : ℕ) (want : Want) → ((g : ℕ) → f (awaits g at) ≡ false) → f want ≡ false → f (await_word w at want) ≡ false
  word_is f (future g) at want a h = a g
  word_is f w at want a h = h

  -- no cleanup runs

  no_marks : (fs : List Frame) → marks_on fs ≡ [] → cleanups_on fs ≡ []
  no_marks fs e = sym (threads.cleanups_same fs) ∙ ap cleanups_of e

  pub none_runs : (cs : List Cleanup) → in_cleanup cs ≡ false → cs ≡ []
  none_runs [] h = refl
  none_runs (c ∷ cs) h = absurd cc

  bare_acting : (b : Bool) (c : Core) (env : Bindings) (ws : List Word) → is_of_base (core_want x b c env ws) ≡ true → b ≡ false
  bare_acting true c env ws h = let bad : true ≡ false = sym h ∙ core_base c env ws in absurd cc
  bare_acting false c env ws h = refl

  pub bare : (kind : Kind) (c : Control) (fs : List Frame) → (Finished c → ⊥) → is_of_base (want_of x c fs) ≡ true → Based kind (marks_of c fs) → (doing_of c ≡ doing_of at_rest → marks_of c fs ≡ base_mark of_server ∷ []) → cleanups_on fs ≡ []
  bare kind (literal f) fs n h b r = absurd cc
  bare kind (reading at y env) fs n h b r = absurd cc
  bare kind (closing k) fs n h b r = absurd cc
  bare kind (guarding a c env) fs n h b r = absurd cc
  bare kind (acting c env ws) fs n h b r = none_runs (cleanups_on fs) (bare_acting (in_cleanup (cleanups_on fs)) c env ws h)
  bare kind (joining at bs c env ws) fs n h b r = let bad : true ≡ false = sym h ∙ await_is is_of_base (first_future ws) at _ (λ g. refl) refl in absurd cc
  bare kind (given w) [] n h b r = absurd cc
  bare kind (given w) (operands c ws cs env ∷ fs) n h b r = absurd cc
  bare kind (given w) (then_forms cs env ∷ fs) n h b r = absurd cc
  bare kind (given w) (then_tops cs ∷ fs) n h b r = absurd cc
  bare kind (given w) (returning ∷ fs) n h b r = absurd cc
  bare kind (given w) (replied at ∷ fs) n h b r = let bad : true ≡ false = sym h ∙ word_is is_of_base w at rests (λ g. refl) refl in absurd cc
  bare kind (given w) (catching c ∷ fs) n h b r = absurd cc
  bare kind (given w) (protecting u c env ∷ fs) n h b r = absurd cc
  bare kind (given w) (cleaning u v c ∷ fs) n h b r = absurd cc
  bare kind (given w) (child_base at ∷ fs) n h b r = no_marks fs b.1
  bare kind (given w) (server_base at ∷ fs) n h b r = no_marks fs b.1
  bare kind unwinding [] n h b r = absurd cc
  bare kind unwinding (operands c ws cs env ∷ fs) n h b r = absurd cc
  bare kind unwinding (then_forms cs env ∷ fs) n h b r = absurd cc
  bare kind unwinding (then_tops cs ∷ fs) n h b r = no_marks fs b.1
  bare kind unwinding (returning ∷ fs) n h b r = absurd cc
  bare kind unwinding (replied at ∷ fs) n h b r = absurd cc
  bare kind unwinding (catching c ∷ fs) n h b r = absurd cc
  bare kind unwinding (protecting u c env ∷ fs) n h b r = absurd cc
  bare kind unwinding (cleaning u v c ∷ fs) n h b r = absurd cc
  bare kind unwinding (child_base at ∷ fs) n h b r = no_marks fs b.1
  bare kind unwinding (server_base at ∷ fs) n h b r = no_marks fs b.1
  bare kind finished fs n h b r = absurd (n refl)
  bare kind at_rest fs n h b r = sym (threads.cleanups_same fs) ∙ ap cleanups_of (r refl)
  bare kind over fs n h b r = absurd cc

  -- what stands on top

  not_awaited : (w : Word) (at : ℕ) (want goal : Want) → (want ≡ goal → ⊥) → ((g : ℕ) → awaits g at ≡ goal → ⊥) → await_word w at want ≡ goal → ⊥
  not_awaited (future g) at want goal n a e = a g e
  not_awaited w at want goal n a e = n e

  pub top_of_begin : (c : Control) (fs : List Frame) (u : ℕ) → want_of x c fs ≡ begins u → (ms : List Mark) × (marks_of c fs ≡ protect_mark u ∷ ms)
  top_of_begin (literal f) fs u h = absurd cc
  top_of_begin (reading at y env) fs u h = absurd cc
  top_of_begin (closing k) fs u h = absurd cc
  top_of_begin (guarding a c env) fs u h = absurd cc
  top_of_begin (acting c env ws) fs u h = let bad : false ≡ true = sym (core_frame (in_cleanup (cleanups_on fs)) c env ws) ∙ ap is_of_frame h in absurd cc
  top_of_begin (joining at bs c env ws) fs u h = let bad : false ≡ true = sym (await_is is_of_frame (first_future ws) at _ (λ g. refl) refl) ∙ ap is_of_frame h in absurd cc
  top_of_begin (given w) [] u h = absurd cc
  top_of_begin (given w) (operands c ws cs env ∷ fs) u h = absurd cc
  top_of_begin (given w) (then_forms cs env ∷ fs) u h = absurd cc
  top_of_begin (given w) (then_tops cs ∷ fs) u h = absurd cc
  top_of_begin (given w) (returning ∷ fs) u h = absurd cc
  top_of_begin (given w) (replied at ∷ fs) u h = let bad : false ≡ true = sym (word_is is_of_frame w at rests (λ g. refl) refl) ∙ ap is_of_frame h in absurd cc
  top_of_begin (given w) (catching c ∷ fs) u h = absurd cc
  top_of_begin (given w) (protecting v c env ∷ fs) u h = let same : v ≡ u = cc in (marks_on fs, ap (λ z. protect_mark z ∷ marks_on fs) same)
  top_of_begin (given w) (cleaning v y c ∷ fs) u h = absurd cc
  top_of_begin (given w) (child_base at ∷ fs) u h = absurd (not_awaited w at (ends (with_word w)) (begins u) (λ e. absurd cc) (λ g e. absurd cc) h)
  top_of_begin (given w) (server_base at ∷ fs) u h = absurd (not_awaited w at (replies w) (begins u) (λ e. absurd cc) (λ g e. absurd cc) h)
  top_of_begin unwinding [] u h = absurd cc
  top_of_begin unwinding (operands c ws cs env ∷ fs) u h = absurd cc
  top_of_begin unwinding (then_forms cs env ∷ fs) u h = absurd cc
  top_of_begin unwinding (then_tops cs ∷ fs) u h = absurd cc
  top_of_begin unwinding (returning ∷ fs) u h = absurd cc
  top_of_begin unwinding (replied at ∷ fs) u h = absurd cc
  top_of_begin unwinding (catching c ∷ fs) u h = absurd cc
  top_of_begin unwinding (protecting v c env ∷ fs) u h = let same : v ≡ u = cc in (marks_on fs, ap (λ z. protect_mark z ∷ marks_on fs) same)
  top_of_begin unwinding (cleaning v y c ∷ fs) u h = absurd cc
  top_of_begin unwinding (child_base at ∷ fs) u h = absurd cc
  top_of_begin unwinding (server_base at ∷ fs) u h = absurd cc
  top_of_begin finished fs u h = absurd cc
  top_of_begin at_rest fs u h = absurd cc
  top_of_begin over fs u h = absurd cc

  pub top_of_finish : (c : Control) (fs : List Frame) (u : ℕ) → want_of x c fs ≡ finishes u → (k : Cleanup) × (ms : List Mark) × (marks_of c fs ≡ cleanup_mark u k ∷ ms)
  top_of_finish (literal f) fs u h = absurd cc
  top_of_finish (reading at y env) fs u h = absurd cc
  top_of_finish (closing k) fs u h = absurd cc
  top_of_finish (guarding a c env) fs u h = absurd cc
  top_of_finish (acting c env ws) fs u h = let bad : false ≡ true = sym (core_frame (in_cleanup (cleanups_on fs)) c env ws) ∙ ap is_of_frame h in absurd cc
  top_of_finish (joining at bs c env ws) fs u h = let bad : false ≡ true = sym (await_is is_of_frame (first_future ws) at _ (λ g. refl) refl) ∙ ap is_of_frame h in absurd cc
  top_of_finish (given w) [] u h = absurd cc
  top_of_finish (given w) (operands c ws cs env ∷ fs) u h = absurd cc
  top_of_finish (given w) (then_forms cs env ∷ fs) u h = absurd cc
  top_of_finish (given w) (then_tops cs ∷ fs) u h = absurd cc
  top_of_finish (given w) (returning ∷ fs) u h = absurd cc
  top_of_finish (given w) (replied at ∷ fs) u h = let bad : false ≡ true = sym (word_is is_of_frame w at rests (λ g. refl) refl) ∙ ap is_of_frame h in absurd cc
  top_of_finish (given w) (catching c ∷ fs) u h = absurd cc
  top_of_finish (given w) (protecting v c env ∷ fs) u h = absurd cc
  top_of_finish (given w) (cleaning v y c ∷ fs) u h = let same : v ≡ u = cc in (c, marks_on fs, ap (λ z. cleanup_mark z c ∷ marks_on fs) same)
  top_of_finish (given w) (child_base at ∷ fs) u h = absurd (not_awaited w at (ends (with_word w)) (finishes u) (λ e. absurd cc) (λ g e. absurd cc) h)
  top_of_finish (given w) (server_base at ∷ fs) u h = absurd (not_awaited w at (replies w) (finishes u) (λ e. absurd cc) (λ g e. absurd cc) h)
  top_of_finish unwinding fs u h = absurd (not_finish fs h)
    where
      not_finish : (fs : List Frame) → unwinding_want x fs ≡ finishes u → ⊥
      not_finish fs e = let bad : true ≡ false = sym (of_unwinding fs) ∙ ap is_of_unwinding e in absurd cc
  top_of_finish finished fs u h = absurd cc
  top_of_finish at_rest fs u h = absurd cc
  top_of_finish over fs u h = absurd cc

  pub top_of_leave : (c : Control) (fs : List Frame) (u : ℕ) → want_of x c fs ≡ leaves u → (ms : List Mark) × (marks_of c fs ≡ catch_mark u ∷ ms)
  top_of_leave (literal f) fs u h = absurd cc
  top_of_leave (reading at y env) fs u h = absurd cc
  top_of_leave (closing k) fs u h = absurd cc
  top_of_leave (guarding a c env) fs u h = absurd cc
  top_of_leave (acting c env ws) fs u h = let bad : false ≡ true = sym (core_frame (in_cleanup (cleanups_on fs)) c env ws) ∙ ap is_of_frame h in absurd cc
  top_of_leave (joining at bs c env ws) fs u h = let bad : false ≡ true = sym (await_is is_of_frame (first_future ws) at _ (λ g. refl) refl) ∙ ap is_of_frame h in absurd cc
  top_of_leave (given w) [] u h = absurd cc
  top_of_leave (given w) (operands c ws cs env ∷ fs) u h = absurd cc
  top_of_leave (given w) (then_forms cs env ∷ fs) u h = absurd cc
  top_of_leave (given w) (then_tops cs ∷ fs) u h = absurd cc
  top_of_leave (given w) (returning ∷ fs) u h = absurd cc
  top_of_leave (given w) (replied at ∷ fs) u h = let bad : false ≡ true = sym (word_is is_of_frame w at rests (λ g. refl) refl) ∙ ap is_of_frame h in absurd cc
  top_of_leave (given w) (catching c ∷ fs) u h = absurd cc
  top_of_leave (given w) (protecting v c env ∷ fs) u h = absurd cc
  top_of_leave (given w) (cleaning v y c ∷ fs) u h = absurd cc
  top_of_leave (given w) (child_base at ∷ fs) u h = absurd (not_awaited w at (ends (with_word w)) (leaves u) (λ e. absurd cc) (λ g e. absurd cc) h)
  top_of_leave (given w) (server_base at ∷ fs) u h = absurd (not_awaited w at (replies w) (leaves u) (λ e. absurd cc) (λ g e. absurd cc) h)
  top_of_leave unwinding [] u h = absurd cc
  top_of_leave unwinding (operands c ws cs env ∷ fs) u h = absurd cc
  top_of_leave unwinding (then_forms cs env ∷ fs) u h = absurd cc
  top_of_leave unwinding (then_tops cs ∷ fs) u h = absurd cc
  top_of_leave unwinding (returning ∷ fs) u h = absurd cc
  top_of_leave unwinding (replied at ∷ fs) u h = absurd cc
  top_of_leave unwinding (catching v ∷ fs) u h = let same : v ≡ u = cc in (marks_on fs, ap (λ z. catch_mark z ∷ marks_on fs) same)
  top_of_leave unwinding (protecting v c env ∷ fs) u h = absurd cc
  top_of_leave unwinding (cleaning v y c ∷ fs) u h = absurd cc
  top_of_leave unwinding (child_base at ∷ fs) u h = absurd cc
  top_of_leave unwinding (server_base at ∷ fs) u h = absurd cc
  top_of_leave finished fs u h = absurd cc
  top_of_leave at_rest fs u h = absurd cc
  top_of_leave over fs u h = absurd cc

  pub top_of_end : (kind : Kind) (c : Control) (fs : List Frame) (u : Ending) → want_of x c fs ≡ ends u → Based kind (marks_of c fs) → (base : Base) × (marks_of c fs ≡ base_mark base ∷ [])
  top_of_end kind (literal f) fs u h b = absurd cc
  top_of_end kind (reading at y env) fs u h b = absurd cc
  top_of_end kind (closing k) fs u h b = absurd cc
  top_of_end kind (guarding a c env) fs u h b = absurd cc
  top_of_end kind (acting c env ws) fs u h b = let bad : false ≡ true = sym (core_frame (in_cleanup (cleanups_on fs)) c env ws) ∙ ap is_of_frame h in absurd cc
  top_of_end kind (joining at bs c env ws) fs u h b = let bad : false ≡ true = sym (await_is is_of_frame (first_future ws) at _ (λ g. refl) refl) ∙ ap is_of_frame h in absurd cc
  top_of_end kind (given w) [] u h b = absurd cc
  top_of_end kind (given w) (operands c ws cs env ∷ fs) u h b = absurd cc
  top_of_end kind (given w) (then_forms cs env ∷ fs) u h b = absurd cc
  top_of_end kind (given w) (then_tops cs ∷ fs) u h b = absurd cc
  top_of_end kind (given w) (returning ∷ fs) u h b = absurd cc
  top_of_end kind (given w) (replied at ∷ fs) u h b = let bad : false ≡ true = sym (word_is is_of_frame w at rests (λ g. refl) refl) ∙ ap is_of_frame h in absurd cc
  top_of_end kind (given w) (catching c ∷ fs) u h b = absurd cc
  top_of_end kind (given w) (protecting v c env ∷ fs) u h b = absurd cc
  top_of_end kind (given w) (cleaning v y c ∷ fs) u h b = absurd cc
  top_of_end kind (given w) (child_base at ∷ fs) u h b = (of_child, ap (λ z. base_mark of_child ∷ z) b.1)
  top_of_end kind (given w) (server_base at ∷ fs) u h b = absurd (not_awaited w at (replies w) (ends u) (λ e. absurd cc) (λ g e. absurd cc) h)
  top_of_end kind unwinding [] u h b = absurd cc
  top_of_end kind unwinding (operands c ws cs env ∷ fs) u h b = absurd cc
  top_of_end kind unwinding (then_forms cs env ∷ fs) u h b = absurd cc
  top_of_end kind unwinding (then_tops cs ∷ fs) u h b = (of_program, ap (λ z. base_mark of_program ∷ z) b.1)
  top_of_end kind unwinding (returning ∷ fs) u h b = absurd cc
  top_of_end kind unwinding (replied at ∷ fs) u h b = absurd cc
  top_of_end kind unwinding (catching c ∷ fs) u h b = absurd cc
  top_of_end kind unwinding (protecting v c env ∷ fs) u h b = absurd cc
  top_of_end kind unwinding (cleaning v y c ∷ fs) u h b = absurd cc
  top_of_end kind unwinding (child_base at ∷ fs) u h b = (of_child, ap (λ z. base_mark of_child ∷ z) b.1)
  top_of_end kind unwinding (server_base at ∷ fs) u h b = (of_server, ap (λ z. base_mark of_server ∷ z) b.1)
  top_of_end kind finished fs u h b = (of_program, ap (λ z. base_mark of_program ∷ z) b.1)
  top_of_end kind at_rest fs u h b = absurd cc
  top_of_end kind over fs u h b = absurd cc

  pub where_finish : (c : Control) (fs : List Frame) (u : ℕ) → want_of x c fs ≡ finishes u → (w : Word) × (y : Word) × (k : Cleanup) × (gs : List Frame) × (c ≡ given w) × (fs ≡ cleaning u y k ∷ gs)
  where_finish (literal f) fs u h = absurd cc
  where_finish (reading at y env) fs u h = absurd cc
  where_finish (closing k) fs u h = absurd cc
  where_finish (guarding a c env) fs u h = absurd cc
  where_finish (acting c env ws) fs u h = let bad : false ≡ true = sym (core_frame (in_cleanup (cleanups_on fs)) c env ws) ∙ ap is_of_frame h in absurd cc
  where_finish (joining at bs c env ws) fs u h = let bad : false ≡ true = sym (await_is is_of_frame (first_future ws) at _ (λ g. refl) refl) ∙ ap is_of_frame h in absurd cc
  where_finish (given w) [] u h = absurd cc
  where_finish (given w) (operands c ws cs env ∷ fs) u h = absurd cc
  where_finish (given w) (then_forms cs env ∷ fs) u h = absurd cc
  where_finish (given w) (then_tops cs ∷ fs) u h = absurd cc
  where_finish (given w) (returning ∷ fs) u h = absurd cc
  where_finish (given w) (replied at ∷ fs) u h = let bad : false ≡ true = sym (word_is is_of_frame w at rests (λ g. refl) refl) ∙ ap is_of_frame h in absurd cc
  where_finish (given w) (catching c ∷ fs) u h = absurd cc
  where_finish (given w) (protecting v c env ∷ fs) u h = absurd cc
  where_finish (given w) (cleaning v y c ∷ fs) u h = let same : v ≡ u = cc in (w, y, c, fs, refl, ap (λ z. cleaning z y c ∷ fs) same)
  where_finish (given w) (child_base at ∷ fs) u h = absurd (not_awaited w at (ends (with_word w)) (finishes u) (λ e. absurd cc) (λ g e. absurd cc) h)
  where_finish (given w) (server_base at ∷ fs) u h = absurd (not_awaited w at (replies w) (finishes u) (λ e. absurd cc) (λ g e. absurd cc) h)
  where_finish unwinding fs u h = absurd (not_finish fs h)
    where
      not_finish : (fs : List Frame) → unwinding_want x fs ≡ finishes u → ⊥
      not_finish fs e = let bad : true ≡ false = sym (of_unwinding fs) ∙ ap is_of_unwinding e in absurd cc
  where_finish finished fs u h = absurd cc
  where_finish at_rest fs u h = absurd cc
  where_finish over fs u h = absurd cc

  pub rests_for_call : (c : Control) (fs : List Frame) → want_of x c fs ≡ takes_call → doing_of c ≡ doing_of at_rest
  rests_for_call (literal f) fs h = absurd cc
  rests_for_call (reading at y env) fs h = absurd cc
  rests_for_call (closing k) fs h = absurd cc
  rests_for_call (guarding a c env) fs h = absurd cc
  rests_for_call (acting c env ws) fs h = let bad : false ≡ true = sym (core_frame (in_cleanup (cleanups_on fs)) c env ws) ∙ ap is_of_frame h in absurd cc
  rests_for_call (joining at bs c env ws) fs h = let bad : false ≡ true = sym (await_is is_of_frame (first_future ws) at _ (λ g. refl) refl) ∙ ap is_of_frame h in absurd cc
  rests_for_call (given w) [] h = absurd cc
  rests_for_call (given w) (operands c ws cs env ∷ fs) h = absurd cc
  rests_for_call (given w) (then_forms cs env ∷ fs) h = absurd cc
  rests_for_call (given w) (then_tops cs ∷ fs) h = absurd cc
  rests_for_call (given w) (returning ∷ fs) h = absurd cc
  rests_for_call (given w) (replied at ∷ fs) h = let bad : false ≡ true = sym (word_is is_of_frame w at rests (λ g. refl) refl) ∙ ap is_of_frame h in absurd cc
  rests_for_call (given w) (catching c ∷ fs) h = absurd cc
  rests_for_call (given w) (protecting v c env ∷ fs) h = absurd cc
  rests_for_call (given w) (cleaning v y c ∷ fs) h = absurd cc
  rests_for_call (given w) (child_base at ∷ fs) h = absurd (not_awaited w at (ends (with_word w)) takes_call (λ e. absurd cc) (λ g e. absurd cc) h)
  rests_for_call (given w) (server_base at ∷ fs) h = absurd (not_awaited w at (replies w) takes_call (λ e. absurd cc) (λ g e. absurd cc) h)
  rests_for_call unwinding fs h = let bad : true ≡ false = sym (of_unwinding fs) ∙ ap is_of_unwinding h in absurd cc
  rests_for_call finished fs h = absurd cc
  rests_for_call at_rest fs h = refl
  rests_for_call over fs h = absurd cc

  pub finished_where : (c : Control) (fs : List Frame) → want_of x c fs ≡ ends last_form → c ≡ finished
  finished_where (literal f) fs h = absurd cc
  finished_where (reading at y env) fs h = absurd cc
  finished_where (closing k) fs h = absurd cc
  finished_where (guarding a c env) fs h = absurd cc
  finished_where (acting c env ws) fs h = let bad : false ≡ true = sym (core_frame (in_cleanup (cleanups_on fs)) c env ws) ∙ ap is_of_frame h in absurd cc
  finished_where (joining at bs c env ws) fs h = let bad : false ≡ true = sym (await_is is_of_frame (first_future ws) at _ (λ g. refl) refl) ∙ ap is_of_frame h in absurd cc
  finished_where (given w) [] h = absurd cc
  finished_where (given w) (operands c ws cs env ∷ fs) h = absurd cc
  finished_where (given w) (then_forms cs env ∷ fs) h = absurd cc
  finished_where (given w) (then_tops cs ∷ fs) h = absurd cc
  finished_where (given w) (returning ∷ fs) h = absurd cc
  finished_where (given w) (replied at ∷ fs) h = let bad : false ≡ true = sym (word_is is_of_frame w at rests (λ g. refl) refl) ∙ ap is_of_frame h in absurd cc
  finished_where (given w) (catching c ∷ fs) h = absurd cc
  finished_where (given w) (protecting v c env ∷ fs) h = absurd cc
  finished_where (given w) (cleaning v y c ∷ fs) h = absurd cc
  finished_where (given w) (child_base at ∷ fs) h = absurd (not_awaited w at (ends (with_word w)) (ends last_form) (λ e. absurd cc) (λ g e. absurd cc) h)
  finished_where (given w) (server_base at ∷ fs) h = absurd (not_awaited w at (replies w) (ends last_form) (λ e. absurd cc) (λ g e. absurd cc) h)
  finished_where unwinding fs h = let bad : true ≡ false = sym (of_unwinding fs) ∙ ap is_of_unwinding h in absurd cc
  finished_where finished fs h = refl
  finished_where at_rest fs h = absurd cc
  finished_where over fs h = absurd cc

  -- it unwinds

  pub unwinds_where : (c : Control) → is_unwinding (doing_of c) ≡ true → c ≡ unwinding
  unwinds_where unwinding h = refl
  unwinds_where c h = absurd cc

  pub unwinding_is : (fs : List Frame) → ((c : ℕ) × (unwinding_want x fs ≡ leaves c)) ⊎ (((u : ℕ) × (unwinding_want x fs ≡ begins u)) ⊎ ((unwinding_want x fs ≡ ends unwound) ⊎ (unwinding_want x fs ≡ rests)))
  unwinding_is [] = inr (inr (inr refl))
  unwinding_is (operands c ws cs env ∷ fs) = inr (inr (inr refl))
  unwinding_is (then_forms cs env ∷ fs) = inr (inr (inr refl))
  unwinding_is (then_tops cs ∷ fs) = inr (inr (inl refl))
  unwinding_is (returning ∷ fs) = inr (inr (inr refl))
  unwinding_is (replied at ∷ fs) = inr (inr (inr refl))
  unwinding_is (catching c ∷ fs) = inl (c, refl)
  unwinding_is (protecting u c env ∷ fs) = inr (inl (u, refl))
  unwinding_is (cleaning u w c ∷ fs) = inr (inr (inr refl))
  unwinding_is (child_base at ∷ fs) = inr (inr (inl refl))
  unwinding_is (server_base at ∷ fs) = inr (inr (inl refl))
