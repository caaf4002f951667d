-- Each tick keeps a sane world sane.
use Rattle.std.proofs.Common.{drop, ◌≡◌, ◌≢◌, ◌⊎◌, ℕ, ◌+◌, ◌==◌, Bool, true, false, List, [], ◌∷◌, ◌++◌, length, Option, Some, None, refl, sym, ap, ◌∙◌, subst, ⊎_elim, inr, eq-eqb}
use Rattle.std.specs.Prelude.{if◌then◌else◌, not, ◌&&◌, ◌||◌, pred, leb, option_and_then, is_none}
use Rattle.ql_base.specs.declared.limits.Limits.{Limits}
use Rattle.ql_expand.specs.Core.{Name, Core, core, Node, constant, variable, setq, conditional, progn, binding, primitive, print, call, funcall, lambda, qlet, qlambda, catch, qcatch, throw, protect, defvar, Bounds, no_bounds, and_bound, Function, Program}
use Rattle.ql_scope.specs.Scope.{binders_in}
use Rattle.ql_world.specs.Word.{is_nil, is_eager, first_future}
use Rattle.ql_world.specs.declared.word.Word.{Word}
use Rattle.ql_world.specs.declared.word.Word.TheVariants.{Int as integer, Sym as symbol, Pair as pair, Fun as closure, Proc as process_closure, Fut as future}
use Rattle.ql_world.specs.declared.word.Slot.{Slot}
use Rattle.ql_world.specs.Operator.{operator_of, computed}
use Rattle.ql_world.specs.declared.operator.Operator.{Operator}
use Rattle.ql_world.specs.declared.operator.Computed.{Computed as Result}
use Rattle.ql_world.specs.declared.operator.Computed.TheVariants.{Gives as gives, Fails as fails, Joins as joins}
use Rattle.ql_world.specs.World.{or_pending, World, change, numbered, counted, marked, with_thread, with_event, with_aim, without_catch}
use Rattle.ql_world.specs.declared.world.FutState.{FutState as Future}
use Rattle.ql_world.specs.declared.world.FutState.TheVariants.{Pending as pending, Value as valued, Dead as dead}
use Rattle.ql_world.specs.declared.world.Aim.{Aim}
use Rattle.ql_world.specs.declared.world.Aim.TheVariants.{Free as free, To as to, Die as die}
use Rattle.ql_world.specs.declared.world.Kind.{Kind}
use Rattle.ql_world.specs.declared.world.Kind.TheVariants.{Main as main, Child as child, Closure as serving}
use Rattle.ql_world.specs.declared.world.Process.{Process}
use Rattle.ql_world.specs.Within.{is_live, is_die, is_free}
use Rattle.ql_world.specs.declared.event.Stop.TheVariants.{Limit as limit}
use Rattle.ql_world.specs.declared.event.Event.TheVariants.{Finish as finish, Land as land}
use Rattle.ql_base.specs.declared.limits.LimitKind.TheVariants.{Procs}
use Rattle.ql_world.specs.Text.{value_text}
use Rattle.ql_world.specs.Machine as machine
use Rattle.ql_world.specs.Machine.{Place, held, box, global, Want, awaits, ends, last_form, with_word, unwound, Answer, done, got, bound, entered, in_line, spawned, aimed, Machine}
use Rattle.ql_world.specs.declared.world.Cleanup.{Cleanup}
use Rattle.ql_world.specs.Idle.{acting, in_cleanup}
use Rattle.ql_world.specs.Touch.{await_or, compute_want, function_want}
use Rattle.ql_world.specs.Tick.{words_boxed, or_home, landing, has_cells, has_procs, with_boxes, with_children, next_futures, await_row, of_box, of_global, variable_row, store_row, primitive_row, print_row, bind_row, close_row, enter_row, funcall_row, mode_row, make_row, process_row, leave_row, end_row, finish_answer, server_row, reply_row, take_row, row, is_ready, step, tick}
use Rattle.ql_world.specs.Run.{run, stop_of}
use Rattle.ql_meaning.specs.Context.{Context, context_of, offset_of, function_called, parameters_of, body_of, stored_among, constant_word}
use Rattle.ql_meaning.specs.Control as control
use Rattle.ql_meaning.specs.Control.{Bindings, lookup, bind_all, Closure, Frame, operands, then_forms, then_tops, returning, replied, catching, protecting, cleaning, child_base, server_base, Control, literal, reading, closing, guarding, joining, given, unwinding, finished, at_rest, over, Thread, thread, descend, give, unwind, unwind_thread, cleanups_on, innermost_on, aim_cleanup, touched, place_of_name, act_want, call_want, held_word, want_of, act_go, go_on, children_of, core_machine}
use Rattle.ql_meaning.specs.Sane as sane
use Rattle.ql_meaning.specs.Sane.{Base, of_program, of_child, of_server, Mark, catch_mark, protect_mark, cleanup_mark, base_mark, Standing, Doing, works, rests, marks_on, marks_of, doing_of, standing, Seen, seen, Server, Outline, outline, innermost_or, cleanups_of, is_unwinding, FitsBase, Based, WorkSane, SaneOutline, Sane}
use Rattle.ql_meaning.proofs.Lists.{cases, not_both, same_or}
use Rattle.ql_meaning.proofs.Marks.{aim_marks, aim_based}
use Rattle.ql_meaning.proofs.Threads.{working, descend_stands, give_stands, unwind_marks, cleanups_same, innermost_same, aim_same}
use Rattle.ql_meaning.proofs.Worlds.{Good, sane_if, good_if, counted_sane, seen_at, local}
use Rattle.ql_meaning.proofs.Steps.{protects_good, begins_good, finishes_good, opens_good, passes_good, lands_good, lands_inside_good, exit_good, throw_good, child_ends_good, killed_ends_good, last_good}
use Rattle.ql_meaning.proofs.Serves.{AllBegin, children_sane, made_plain_good, made_eager_good, send_good, take_good, reply_good}

no_rest : works ≡ rests → ⊥
no_rest z = absurd cc

no_rest' : sane.unwinds ≡ rests → ⊥
no_rest' z = absurd cc

-- where the acting aim is free and no cleanup runs the aim is free
free_one : (a : Aim) → is_free a ≡ true → a ≡ free
free_one free e = refl
free_one (to d z) e = absurd (not_both e refl)
free_one die e = absurd (not_both e refl)

own_free : (js : List Cleanup) (a : Aim) → in_cleanup js ≡ false → is_free (acting js a) ≡ true → a ≡ free
own_free [] a e h = free_one a h
own_free (j ∷ js) a e h = absurd (not_both refl e)

flip : (b : Bool) → false ≡ not b → b ≡ true
flip true e = refl
flip false e = absurd (not_both e refl)

aim_none : (a : Aim) (ms : List Mark) → in_cleanup (cleanups_of ms) ≡ false → aim_marks a ms ≡ ms
aim_none a [] e = refl
aim_none a (catch_mark c ∷ ms) e = ap (λ z. catch_mark c ∷ z) (aim_none a ms e)
aim_none a (protect_mark u ∷ ms) e = ap (λ z. protect_mark u ∷ z) (aim_none a ms e)
aim_none a (cleanup_mark u k ∷ ms) e = absurd (not_both refl e)
aim_none a (base_mark b ∷ ms) e = ap (λ z. base_mark b ∷ z) (aim_none a ms e)

unwind_stands : (fs : List Frame) → standing (unwind_thread fs) ≡ record { marks = marks_on fs; doing = sane.unwinds }
unwind_stands fs = ap (λ (z : List Mark). record { marks = z; doing = sane.unwinds }) (unwind_marks fs)

children_begin : (x : Context) (bs : Bounds) (env : Bindings) → AllBegin (children_of x bs env)
children_begin x no_bounds env = tt
children_begin x (and_bound b c bs) env = (descend_stands c env (child_base (offset_of c) ∷ []), children_begin x bs env)

module _ (x : Context) (names : List (List ℕ)) (limits : Limits) (w : World Thread Closure) (s : Sane w) (p : ℕ) where
  abbrev m : Machine Thread Closure
  m = core_machine x

  -- rows that change no mark

  module _ (q : Process Thread) (at : numbered w.procs p ≡ Some q) where
    abbrev Stays : Answer Closure → Type 0
    Stays a = standing (m.go q.thread a) ≡ standing q.thread

    await_good : ((v : Word) → Stays (got v)) → (f : Future) (offset : ℕ) → Good (await_row m names limits p q w f offset)
    await_good g pending offset = tt
    await_good g (valued v) offset = local w p q (m.go q.thread (got v)) s at (g v)
    await_good g dead offset = s

    box_good : ((v : Word) → Stays (got v)) → (a : Option Word) → Good (of_box m names limits p q w a)
    box_good g None = tt
    box_good g (Some v) = local w p q (m.go q.thread (got v)) s at (g v)

    global_good : ((v : Word) → Stays (got v)) → (a : Option (Option Word)) (offset : ℕ) → Good (of_global m names limits p q w a offset)
    global_good g None offset = tt
    global_good g (Some None) offset = s
    global_good g (Some (Some v)) offset = local w p q (m.go q.thread (got v)) s at (g v)

    variable_good : Stays done → ((v : Word) → Stays (got v)) → (place : Place) (offset : ℕ) → Good (variable_row m names limits p q w place offset)
    variable_good d g held offset = local w p q (m.go q.thread done) s at d
    variable_good d g (box n) offset = box_good g _
    variable_good d g (global n) offset = global_good g _ offset

    store_good : Stays done → (place : Place) (y : Word) → Good (store_row m names limits p q w place y)
    store_good d held y = tt
    store_good d (box n) y = local (record w { boxes = change (λ z. y) w.boxes n }) p q (m.go q.thread done) s at d
    store_good d (global n) y = local (record w { globals = change (λ z. Some y) w.globals n }) p q (m.go q.thread done) s at d

    primitive_good : ((v : Word) → Stays (got v)) → (r : Option Result) (offset : ℕ) → Good (primitive_row m names limits p q w r offset)
    primitive_good g None offset = tt
    primitive_good g (Some (gives v)) offset = local w p q (m.go q.thread (got v)) s at (g v)
    primitive_good g (Some (fails kind)) offset = s
    primitive_good g (Some (joins a b)) offset = good_if (has_cells limits w 1) _ _ (local (record w { pairs = w.pairs ++ (a, b) ∷ []; cells = w.cells + 1 }) p q (m.go q.thread (got (pair (length w.pairs)))) s at (g (pair (length w.pairs)))) s

    print_good : Stays done → (text : List ℕ) → Sane (print_row m names limits p q w text)
    print_good d text = sane_if (leb (length w.output + length text) limits.output) _ _ (local (record w { output = w.output ++ text }) p q (m.go q.thread done) s at d) s

    bind_good : (bs : List Bool) (xs : List Word) (answer : List Slot → Answer Closure) → ((ss : List Slot) → Stays (answer ss)) → Sane (bind_row m names limits p q w bs xs answer)
    bind_good bs xs answer g = sane_if (has_cells limits w (length (words_boxed bs xs))) _ _ (local (with_boxes w (words_boxed bs xs)) p q (m.go q.thread (answer _)) s at (g _)) s

    close_good : ((v : Word) → Stays (got v)) → (k : Option Closure) → Good (close_row m names limits p q w k)
    close_good g None = tt
    close_good g (Some k) = good_if (has_cells limits w 1) _ _ (local (record w { closures = w.closures ++ k ∷ []; cells = w.cells + 1 }) p q (m.go q.thread (got (closure (length w.closures + 1)))) s at (g (closure (length w.closures + 1)))) s

    enter_good : ((k : Closure) (ss : List Slot) → Stays (entered k ss)) → (k : Option Closure) (xs : List Word) (offset : ℕ) → Good (enter_row m names limits p q w k xs offset)
    enter_good g None xs offset = tt
    enter_good g (Some k) xs offset = good_if (length xs == length (m.stored k)) _ _ (bind_good (m.stored k) xs (entered k) (g k)) s

    funcall_good : ((k : Closure) (ss : List Slot) → Stays (entered k ss)) → (v : Word) (xs : List Word) (offset : ℕ) → Good (funcall_row m names limits p q w v xs offset)
    funcall_good g (closure n) xs offset = enter_good g _ xs offset
    funcall_good g (process_closure n) xs offset = s
    funcall_good g (integer z) xs offset = s
    funcall_good g (symbol n) xs offset = s
    funcall_good g (pair n) xs offset = s
    funcall_good g (future n) xs offset = s

    -- rows by which processes are made

    module _ (going : q.ended ≡ false) (at_work : (seen q).thread.doing ≡ works) (around : or_home (innermost_on q.thread.frames) q.home ≡ innermost_or q.home (seen q).thread.marks) (cleanups : cleanups_on q.thread.frames ≡ cleanups_of (seen q).thread.marks) where
      acts_free : is_free (acting (cleanups_of (seen q).thread.marks) q.aim) ≡ true
      acts_free = flip (is_free (acting (cleanups_of (seen q).thread.marks) q.aim)) (ap is_unwinding (sym at_work) ∙ (s.work p (seen q) (seen_at w p q at) going).unwinding)

      no_cleanup : in_cleanup (cleanups_on q.thread.frames) ≡ false → in_cleanup (cleanups_of (seen q).thread.marks) ≡ false
      no_cleanup e = ap in_cleanup (sym cleanups) ∙ e

      mode_good : Stays in_line → ((e : Bool) (fs : List ℕ) → Stays (spawned e fs)) → (v : Word) (ts : List Thread) → AllBegin ts → Sane (mode_row m names limits p q w v ts)
      mode_good line others v ts begins = tested (is_nil v) (in_cleanup (cleanups_on q.thread.frames)) refl
        where
          place : ℕ
          place = or_home (innermost_on q.thread.frames) q.home

          in_order : Sane (with_thread w p (m.go q.thread in_line))
          in_order = local w p q (m.go q.thread in_line) s at line

          side_by_side : in_cleanup (cleanups_on q.thread.frames) ≡ false → Sane (with_thread (with_children w p (or_home (innermost_on q.thread.frames) q.home) ts) p (m.go q.thread (spawned (is_eager v) (next_futures w (length ts)))))
          side_by_side e =
              let free_now : q.aim ≡ free = own_free (cleanups_of (seen q).thread.marks) q.aim (no_cleanup e) acts_free in
              let k = children_sane x names limits p q going free_now (no_cleanup e) around ts begins w s at in
              local (with_children w p (or_home (innermost_on q.thread.frames) q.home) ts) p q (m.go q.thread (spawned (is_eager v) (next_futures w (length ts)))) k.0 k.1 (others (is_eager v) (next_futures w (length ts)))

          tested : (a b : Bool) → in_cleanup (cleanups_on q.thread.frames) ≡ b → Sane (if a || b then with_thread w p (m.go q.thread in_line) else (if has_procs limits w (length ts) then with_thread (with_children w p (or_home (innermost_on q.thread.frames) q.home) ts) p (m.go q.thread (spawned (is_eager v) (next_futures w (length ts)))) else marked w (limit Procs)))
          tested true b e = in_order
          tested false true e = in_order
          tested false false e = sane_if (has_procs limits w (length ts)) _ _ (side_by_side e) s

      make_good : ((v : Word) → Stays (got v)) → (v : Word) (k : Option Closure) → Good (make_row m names limits p q w v k)
      make_good g v k = tested (is_nil v) (in_cleanup (cleanups_on q.thread.frames)) refl
        where
          with_process : in_cleanup (cleanups_on q.thread.frames) ≡ false → (e : Bool) (k : Option Closure) → Good (process_row m names limits p q w e k)
          with_process none e None = tt
          with_process none e (Some k) =
              let free_now : q.aim ≡ free = own_free (cleanups_of (seen q).thread.marks) q.aim (no_cleanup none) acts_free in
              good_if (has_procs limits w 1) _ _
              (sane_if e _ _
              (made_eager_good x names limits p q going free_now (no_cleanup none) around w s at k g)
              (made_plain_good x names limits p q going free_now (no_cleanup none) around w s at k g))
              s

          tested : (a b : Bool) → in_cleanup (cleanups_on q.thread.frames) ≡ b → Good (if a || b then close_row m names limits p q w k else process_row m names limits p q w (is_eager v) k)
          tested true b e = close_good g k
          tested false true e = close_good g k
          tested false false e = with_process e (is_eager v) k

  -- each control

  module _ (home : ℕ) (kind : Kind) (aim : Aim) (ended : Bool) (going : ended ≡ false) where
    abbrev the : Control → List Frame → Process Thread
    the c fs = record { home = home; kind = kind; aim = aim; thread = thread c fs; ended = ended }

    abbrev At : Control → List Frame → Type 0
    At c fs = numbered w.procs p ≡ Some (the c fs)

    abbrev Row : Control → List Frame → Want → Type 0
    Row c fs want = Good (row m names limits p (the c fs) w want)

    work : (c : Control) (fs : List Frame) → At c fs → WorkSane (seen (the c fs))
    work c fs at = s.work p (seen (the c fs)) (seen_at w p (the c fs) at) going

    gives_it : (c : Control) (fs : List Frame) → Based kind (marks_on fs) → (v : Word) → standing (give v fs) ≡ working (marks_on fs)
    gives_it c fs b v = give_stands kind v fs b

    literal_good : (f : _) (fs : List Frame) → At (literal f) fs → Row (literal f) fs (want_of x (literal f) fs)
    literal_good f fs at = local w p (the (literal f) fs) (give (constant_word x f) fs) s at (give_stands kind (constant_word x f) fs (work (literal f) fs at).based)

    reading_good : (offset : ℕ) (y : Name) (env : Bindings) (fs : List Frame) → At (reading offset y env) fs → Row (reading offset y env) fs (want_of x (reading offset y env) fs)
    reading_good offset y env fs at =
        variable_good (the (reading offset y env) fs) at
        (give_stands kind (held_word x (lookup env y)) fs (work (reading offset y env) fs at).based)
        (λ v. give_stands kind v fs (work (reading offset y env) fs at).based)
        (place_of_name x env y) offset

    closing_good : (k : Closure) (fs : List Frame) → At (closing k) fs → Row (closing k) fs (want_of x (closing k) fs)
    closing_good k fs at = close_good (the (closing k) fs) at (λ v. give_stands kind v fs (work (closing k) fs at).based) (Some k)

    guarding_good : (b c : Core) (env : Bindings) (fs : List Frame) → At (guarding b c env) fs → Row (guarding b c env) fs (want_of x (guarding b c env) fs)
    guarding_good b c env fs at =
        protects_good x names limits w s p (the (guarding b c env) fs) at going refl
        (descend_stands b env (protecting (w.protects + 1) c env ∷ fs))

    -- all operands are there

    module _ (offset : ℕ) (env : Bindings) (fs : List Frame) where
      abbrev acting_on : Node → List Word → Control
      acting_on n ws = control.acting (core offset n) env ws

      abbrev cleans : Bool
      cleans = in_cleanup (cleanups_on fs)

      module _ (n : Node) (ws : List Word) (at : At (acting_on n ws) fs) where
        based : Based kind (marks_on fs)
        based = (work (acting_on n ws) fs at).based

        gives_word : (v : Word) → standing (give v fs) ≡ working (marks_on fs)
        gives_word v = give_stands kind v fs based

        module _ (none : first_future (touched cleans n x ws) ≡ None) where
          goes_is : (a : Answer Closure) → m.go (thread (acting_on n ws) fs) a ≡ act_go x offset n env ws a fs
          goes_is a = rw none refl

          stays : (a : Answer Closure) → standing (act_go x offset n env ws a fs) ≡ working (marks_on fs) → standing (m.go (thread (acting_on n ws) fs) a) ≡ working (marks_on fs)
          stays a e = ap standing (goes_is a) ∙ e

      abbrev None' : Node → List Word → Type 0
      None' n ws = first_future (touched cleans n x ws) ≡ None

      open_it : (n : Node) (ws : List Word) (at : At (acting_on n ws) fs) (tag : Word) (waits : Bool) (body : Core) → ((a : Answer Closure) → m.go (thread (acting_on n ws) fs) a ≡ control.catch_go x body env a fs) → Row (acting_on n ws) fs (machine.opens tag waits)
      open_it n ws at tag waits body e =
          opens_good x names limits w s p (the (acting_on n ws) fs) at going tag waits refl (innermost_same home fs)
          (ap standing (e (machine.numbered (length w.catches))) ∙ descend_stands body env (catching (length w.catches) ∷ fs))

      act_good : (n : Node) (ws : List Word) → At (acting_on n ws) fs → None' n ws → Row (acting_on n ws) fs (act_want x cleans offset n env ws)
      act_good (constant f) ws at none = tt
      act_good (variable y) ws at none = tt
      act_good (setq y o c) [] at none = tt
      act_good (setq y o c) (v ∷ []) at none = store_good (the (acting_on (setq y o c) (v ∷ [])) fs) at (stays (setq y o c) (v ∷ []) at none done (gives_word (setq y o c) (v ∷ []) at v)) (place_of_name x env y) v
      act_good (setq y o c) (v ∷ (u ∷ ws)) at none = tt
      act_good (conditional a b c) [] at none = tt
      act_good (conditional a b c) (v ∷ []) at none =
          local w p (the (acting_on (conditional a b c) (v ∷ [])) fs) (m.go (thread (acting_on (conditional a b c) (v ∷ [])) fs) done) s at
          (stays (conditional a b c) (v ∷ []) at none done
          (⊎_elim
          (λ (t : is_nil v ≡ true). rw t (descend_stands c env fs))
          (λ (t : is_nil v ≡ false). rw t (descend_stands b env fs))
          (cases (is_nil v))))
      act_good (conditional a b c) (v ∷ (u ∷ ws)) at none = tt
      act_good (progn cs) ws at none = tt
      act_good (binding bs c) ws at none =
          bind_good (the (acting_on (binding bs c) ws) fs) at (stored_among x (binders_in bs)) ws bound
          (λ ss. stays (binding bs c) ws at none (bound ss) (descend_stands c (bind_all (binders_in bs) ss env) fs))
      act_good (primitive o cs) ws at none = by (operator_of o)
        where
          by : (a : Option Operator) → Row (acting_on (primitive o cs) ws) fs (compute_want a ws offset)
          by None = tt
          by (Some f) = primitive_good (the (acting_on (primitive o cs) ws) fs) at (λ v. stays (primitive o cs) ws at none (got v) (gives_word (primitive o cs) ws at v)) (computed w.pairs f ws) offset
      act_good (print c) [] at none = tt
      act_good (print c) (v ∷ []) at none = print_good (the (acting_on (print c) (v ∷ [])) fs) at (stays (print c) (v ∷ []) at none done (gives_word (print c) (v ∷ []) at v)) (value_text names w.pairs v ++ 10 ∷ [])
      act_good (print c) (v ∷ (u ∷ ws)) at none = tt
      act_good (call f o cs) ws at none = by (function_called x.functions f) refl
        where
          by : (a : Option Function) → function_called x.functions f ≡ a → Row (acting_on (call f o cs) ws) fs (call_want x a ws)
          by None e = tt
          by (Some g) e =
              bind_good (the (acting_on (call f o cs) ws) fs) at (stored_among x (parameters_of g)) ws bound
              (λ ss. stays (call f o cs) ws at none (bound ss) (rw e (descend_stands (body_of g) (bind_all (parameters_of g) ss []) (returning ∷ fs))))
      act_good (funcall i c cs) [] at none = tt
      act_good (funcall i c cs) (v ∷ ws) at none = by v
        where
          the_ws : List Word
          the_ws = v ∷ ws

          enters : (k : Closure) (ss : List Slot) → standing (m.go (thread (acting_on (funcall i c cs) (v ∷ ws)) fs) (entered k ss)) ≡ working (marks_on fs)
          enters k ss = stays (funcall i c cs) (v ∷ ws) at none (entered k ss) (descend_stands k.body (bind_all k.parameters ss k.env) (returning ∷ fs))

          other : (u : Word) → Row (acting_on (funcall i c cs) (v ∷ ws)) fs (machine.funcalls u ws offset)
          other u = funcall_good (the (acting_on (funcall i c cs) (v ∷ ws)) fs) at enters u ws offset

          replies : (u : Word) → standing (m.go (thread (acting_on (funcall i c cs) (v ∷ ws)) fs) (got u)) ≡ working (marks_on fs)
          replies u = stays (funcall i c cs) (v ∷ ws) at none (got u) (give_stands kind u (replied offset ∷ fs) (based (funcall i c cs) (v ∷ ws) at))

          sends : (k : ℕ) (b : Bool) → Row (acting_on (funcall i c cs) (v ∷ ws)) fs (if b then machine.funcalls (process_closure k) ws offset else machine.sends k ws (not i) offset)
          sends k true = other (process_closure k)
          sends k false = send_good x names limits w s p (the (acting_on (funcall i c cs) (v ∷ ws)) fs) at k ws (not i) offset replies

          by : (u : Word) → Row (acting_on (funcall i c cs) (v ∷ ws)) fs (function_want cleans (not i) u ws offset)
          by (process_closure k) = sends k cleans
          by (integer z) = other (integer z)
          by (symbol z) = other (symbol z)
          by (pair z) = other (pair z)
          by (closure z) = other (closure z)
          by (future z) = other (future z)
      act_good (lambda ps c) ws at none = tt
      act_good (qlet q bs c) [] at none = tt
      act_good (qlet q bs c) (v ∷ []) at none =
          mode_good (the (acting_on (qlet q bs c) (v ∷ [])) fs) at going refl (innermost_same home fs) (sym (cleanups_same fs))
          (stays (qlet q bs c) (v ∷ []) at none in_line (descend_stands (core offset (binding bs c)) env fs))
          (λ e states. stays (qlet q bs c) (v ∷ []) at none (spawned e states) (spawns e states))
          v (children_of x bs env) (children_begin x bs env)
        where
          spawns : (e : Bool) (states : List ℕ) → standing (act_go x offset (qlet q bs c) env (v ∷ []) (spawned e states) fs) ≡ working (marks_on fs)
          spawns true states = refl
          spawns false states = refl
      act_good (qlet q bs c) (v ∷ (u ∷ ws)) at none = tt
      act_good (qlambda q ps c) [] at none = tt
      act_good (qlambda q ps c) (v ∷ []) at none =
          make_good (the (acting_on (qlambda q ps c) (v ∷ [])) fs) at going refl (innermost_same home fs) (sym (cleanups_same fs))
          (λ u. stays (qlambda q ps c) (v ∷ []) at none (got u) (gives_word (qlambda q ps c) (v ∷ []) at u))
          v (Some (record { at = offset; parameters = ps; body = c; env = env }))
      act_good (qlambda q ps c) (v ∷ (u ∷ ws)) at none = tt
      act_good (catch a b) [] at none = tt
      act_good (catch a b) (v ∷ []) at none = open_it (catch a b) (v ∷ []) at v false b (goes_is (catch a b) (v ∷ []) at none)
      act_good (catch a b) (v ∷ (u ∷ ws)) at none = tt
      act_good (qcatch a b) [] at none = tt
      act_good (qcatch a b) (v ∷ []) at none = open_it (qcatch a b) (v ∷ []) at v true b (goes_is (qcatch a b) (v ∷ []) at none)
      act_good (qcatch a b) (v ∷ (u ∷ ws)) at none = tt
      act_good (throw a b) [] at none = tt
      act_good (throw a b) (v ∷ []) at none = tt
      act_good (throw a b) (v ∷ (u ∷ [])) at none =
          throw_good x names limits w s p (the (acting_on (throw a b) (v ∷ (u ∷ []))) fs) at going refl (innermost_same home fs) (sym (cleanups_same fs))
          v u offset
          (λ c. ap standing (goes_is (throw a b) (v ∷ (u ∷ [])) at none (aimed (to c u))) ∙ (unwind_stands (aim_cleanup (to c u) fs) ∙ ap (λ (z : List Mark). record { marks = z; doing = sane.unwinds }) (aim_same (to c u) fs)))
      act_good (throw a b) (v ∷ (u ∷ (t ∷ ws))) at none = tt
      act_good (protect a b) ws at none = tt
      act_good (defvar l o c) [] at none = tt
      act_good (defvar l o c) (v ∷ []) at none = store_good (the (acting_on (defvar l o c) (v ∷ [])) fs) at (stays (defvar l o c) (v ∷ []) at none done (gives_word (defvar l o c) (v ∷ []) at v)) (place_of_name x env _) v
      act_good (defvar l o c) (v ∷ (u ∷ ws)) at none = tt

      acting_good : (n : Node) (ws : List Word) → At (acting_on n ws) fs → Row (acting_on n ws) fs (want_of x (acting_on n ws) fs)
      acting_good n ws at = by (first_future (touched cleans n x ws)) refl
        where
          by : (a : Option ℕ) → first_future (touched cleans n x ws) ≡ a → Row (acting_on n ws) fs (await_or a offset (act_want x cleans offset n env ws))
          by None e = act_good n ws at e
          by (Some f) e = await_good (the (acting_on n ws) fs) at (λ v. rw e refl) (or_pending (numbered w.futures f)) offset

    joining_good : (offset : ℕ) (bs : Bounds) (c : Core) (env : Bindings) (ws : List Word) (fs : List Frame) → At (joining offset bs c env ws) fs → Row (joining offset bs c env ws) fs (want_of x (joining offset bs c env ws) fs)
    joining_good offset bs c env ws fs at = by (first_future ws) refl
      where
        by : (a : Option ℕ) → first_future ws ≡ a → Row (joining offset bs c env ws) fs (await_or a offset (machine.binds (stored_among x (binders_in bs)) ws))
        by None e = bind_good (the (joining offset bs c env ws) fs) at (stored_among x (binders_in bs)) ws bound (λ ss. rw e (descend_stands c (bind_all (binders_in bs) ss env) fs))
        by (Some f) e = await_good (the (joining offset bs c env ws) fs) at (λ v. rw e refl) (or_pending (numbered w.futures f)) offset

    -- a word is given to the frames

    acts : (c : Control) (fs : List Frame) → At c fs → is_unwinding (doing_of c) ≡ not (is_free (acting (cleanups_of (marks_of c fs)) aim))
    acts c fs at = (work c fs at).unwinding

    word_ends : (v : Word) (offset : ℕ) (fs : List Frame) → At (given v) (child_base offset ∷ fs) → m.go (thread (given v) (child_base offset ∷ fs)) done ≡ thread over [] → Row (given v) (child_base offset ∷ fs) (ends (with_word v))
    word_ends v offset fs at goes = by kind refl
      where
        none_below : marks_on fs ≡ []
        none_below = (work (given v) (child_base offset ∷ fs) at).based.1

        alive : is_die aim ≡ false
        alive = ap is_die (free_one aim (flip (is_free aim) (subst (λ z. false ≡ not (is_free (acting (cleanups_of (base_mark of_child ∷ z)) aim))) none_below (acts (given v) (child_base offset ∷ fs) at))))

        by : (k : Kind) → kind ≡ k → Good (end_row m names limits p (the (given v) (child_base offset ∷ fs)) w k (with_word v))
        by main e = tt
        by (serving k) e = tt
        by (child f) e =
            child_ends_good x names limits w s p (the (given v) (child_base offset ∷ fs)) at going of_child (ap (λ z. base_mark of_child ∷ z) none_below) f e alive v _
            (m.go (thread (given v) (child_base offset ∷ fs)) done) (ap standing goes)

    at_work_free : (v : Word) (offset : ℕ) (fs : List Frame) → At (given v) (server_base offset ∷ fs) → is_live (seen (the (given v) (server_base offset ∷ fs))) ≡ true
    at_work_free v offset fs at = live_is ended aim going free_now
      where
        none_below : marks_on fs ≡ []
        none_below = (work (given v) (server_base offset ∷ fs) at).based.1

        free_now : aim ≡ free
        free_now = free_one aim (flip (is_free aim) (subst (λ z. false ≡ not (is_free (acting (cleanups_of (base_mark of_server ∷ z)) aim))) none_below (acts (given v) (server_base offset ∷ fs) at)))

        live_is : (b : Bool) (a : Aim) → b ≡ false → a ≡ free → (not b && not (is_die a)) ≡ true
        live_is true a e f = absurd (not_both refl e)
        live_is false a e f = ap (λ z. not (is_die z)) f

    word_replies : (v : Word) (offset : ℕ) (fs : List Frame) → At (given v) (server_base offset ∷ fs) → Row (given v) (server_base offset ∷ fs) (machine.replies v)
    word_replies v offset fs at = by kind refl
      where
        none_below : marks_on fs ≡ []
        none_below = (work (given v) (server_base offset ∷ fs) at).based.1

        by : (k : Kind) → kind ≡ k → Good (server_row m names limits p (the (given v) (server_base offset ∷ fs)) (λ k. reply_row m names limits p (the (given v) (server_base offset ∷ fs)) w k (numbered w.servers k) v) k)
        by main e = tt
        by (child f) e = tt
        by (serving k) e =
            reply_good x names limits w s p (the (given v) (server_base offset ∷ fs)) at going k e (at_work_free v offset fs at) (ap (λ z. base_mark of_server ∷ z) none_below) refl v

    finishing : (v : Word) (u : ℕ) (r : Word) (k : Cleanup) (fs : List Frame) → At (given v) (cleaning u r k ∷ fs) → (a : Aim) → acting (cleanups_on fs) aim ≡ a → Sane (with_thread (with_event w (finish p u)) p (m.go (thread (given v) (cleaning u r k ∷ fs)) (finish_answer m names limits p (the (given v) (cleaning u r k ∷ fs)) a)))
    finishing v u r k fs at a e = by a e
      where
        is : acting (cleanups_of (marks_on fs)) aim ≡ a
        is = ap (λ js. acting js aim) (cleanups_same fs) ∙ e

        by : (a : Aim) → acting (cleanups_on fs) aim ≡ a → Sane (with_thread (with_event w (finish p u)) p (m.go (thread (given v) (cleaning u r k ∷ fs)) (finish_answer m names limits p (the (given v) (cleaning u r k ∷ fs)) a)))
        by free e =
            finishes_good x names limits w s p (the (given v) (cleaning u r k ∷ fs)) at going u k (marks_on fs) refl works
            (ap (λ z. not (is_free z)) (sym (ap (λ js. acting js aim) (cleanups_same fs) ∙ e))) no_rest
            (give r fs) (give_stands kind r fs (work (given v) (cleaning u r k ∷ fs) at).based)
        by (to c y) e =
            finishes_good x names limits w s p (the (given v) (cleaning u r k ∷ fs)) at going u k (marks_on fs) refl sane.unwinds
            (ap (λ z. not (is_free z)) (sym (ap (λ js. acting js aim) (cleanups_same fs) ∙ e))) no_rest'
            (unwind_thread fs) (unwind_stands fs)
        by die e =
            finishes_good x names limits w s p (the (given v) (cleaning u r k ∷ fs)) at going u k (marks_on fs) refl sane.unwinds
            (ap (λ z. not (is_free z)) (sym (ap (λ js. acting js aim) (cleanups_same fs) ∙ e))) no_rest'
            (unwind_thread fs) (unwind_stands fs)

    exiting : (v : Word) (c : ℕ) (fs : List Frame) → At (given v) (catching c ∷ fs) → Row (given v) (catching c ∷ fs) (machine.exits c)
    exiting v c fs at =
        exit_good x names limits w s p (the (given v) (catching c ∷ fs)) at going c (marks_on fs) refl refl
        (give_stands kind v fs (work (given v) (catching c ∷ fs) at).based)

    beginning : (v : Word) (u : ℕ) (c : Core) (env : Bindings) (fs : List Frame) → At (given v) (protecting u c env ∷ fs) → Row (given v) (protecting u c env ∷ fs) (machine.begins u)
    beginning v u c env fs at =
        begins_good x names limits w s p (the (given v) (protecting u c env ∷ fs)) at going u (marks_on fs) refl
        (descend c env (cleaning u v (record { aim = free; floor = pred (length w.catches) }) ∷ fs))
        (descend_stands c env (cleaning u v (record { aim = free; floor = pred (length w.catches) }) ∷ fs))

    plain_good : (v : Word) (offset : ℕ) (fs : List Frame) → At (given v) (replied offset ∷ fs) → (f : ℕ) → v ≡ future f → Row (given v) (replied offset ∷ fs) (awaits f offset)
    plain_good v offset fs at f e = await_good (the (given v) (replied offset ∷ fs)) at (λ u. give_stands kind u (replied offset ∷ fs) (work (given v) (replied offset ∷ fs) at).based) (or_pending (numbered w.futures f)) offset

    given_good : (fs : List Frame) (v : Word) → At (given v) fs → Row (given v) fs (want_of x (given v) fs)
    given_good [] v at = tt
    given_good (operands whole ws cs env ∷ fs) v at = tt
    given_good (then_forms cs env ∷ fs) v at = tt
    given_good (then_tops cs ∷ fs) v at = tt
    given_good (returning ∷ fs) v at = local w p (the (given v) (returning ∷ fs)) (give v fs) s at (give_stands kind v fs (work (given v) (returning ∷ fs) at).based)
    given_good (replied offset ∷ fs) (future f) at = plain_good (future f) offset fs at f refl
    given_good (replied offset ∷ fs) (integer z) at = tt
    given_good (replied offset ∷ fs) (symbol z) at = tt
    given_good (replied offset ∷ fs) (pair z) at = tt
    given_good (replied offset ∷ fs) (closure z) at = tt
    given_good (replied offset ∷ fs) (process_closure z) at = tt
    given_good (catching c ∷ fs) v at = exiting v c fs at
    given_good (protecting u c env ∷ fs) v at = beginning v u c env fs at
    given_good (cleaning u r k ∷ fs) v at = finishing v u r k fs at (acting (cleanups_on fs) aim) refl
    given_good (child_base offset ∷ fs) (future f) at = await_good (the (given (future f)) (child_base offset ∷ fs)) at (λ u. refl) (or_pending (numbered w.futures f)) offset
    given_good (child_base offset ∷ fs) (integer z) at = word_ends (integer z) offset fs at refl
    given_good (child_base offset ∷ fs) (symbol z) at = word_ends (symbol z) offset fs at refl
    given_good (child_base offset ∷ fs) (pair z) at = word_ends (pair z) offset fs at refl
    given_good (child_base offset ∷ fs) (closure z) at = word_ends (closure z) offset fs at refl
    given_good (child_base offset ∷ fs) (process_closure z) at = word_ends (process_closure z) offset fs at refl
    given_good (server_base offset ∷ fs) (future f) at = await_good (the (given (future f)) (server_base offset ∷ fs)) at (λ u. refl) (or_pending (numbered w.futures f)) offset
    given_good (server_base offset ∷ fs) (integer z) at = word_replies (integer z) offset fs at
    given_good (server_base offset ∷ fs) (symbol z) at = word_replies (symbol z) offset fs at
    given_good (server_base offset ∷ fs) (pair z) at = word_replies (pair z) offset fs at
    given_good (server_base offset ∷ fs) (closure z) at = word_replies (closure z) offset fs at
    given_good (server_base offset ∷ fs) (process_closure z) at = word_replies (process_closure z) offset fs at

    -- unwinding

    leaving : (c : ℕ) (fs : List Frame) (at : At unwinding (catching c ∷ fs)) (a : Aim) → acting (cleanups_on fs) aim ≡ a → Sane (leave_row m names limits p (the unwinding (catching c ∷ fs)) w c (landing a c))
    leaving c fs at = by
      where
        abbrev_q : Process Thread
        abbrev_q = the unwinding (catching c ∷ fs)

        acts_by : (a : Aim) → acting (cleanups_on fs) aim ≡ a → acting (cleanups_of (marks_on fs)) aim ≡ a
        acts_by a e = ap (λ js. acting js aim) (cleanups_same fs) ∙ e

        based : Based kind (marks_on fs)
        based = (work unwinding (catching c ∷ fs) at).based

        passes : ((y : Word) → acting (cleanups_of (marks_on fs)) aim ≡ to c y → ⊥) → Sane (with_thread (without_catch w c) p (unwind_thread fs))
        passes n = passes_good x names limits w s p (the unwinding (catching c ∷ fs)) at going c (marks_on fs) refl refl n (unwind_thread fs) (unwind_stands fs)

        lands : (y : Word) → acting (cleanups_on fs) aim ≡ to c y → (b : Bool) → in_cleanup (cleanups_on fs) ≡ b → Sane (with_thread (if b then without_catch (with_event w (land p c)) c else with_aim (without_catch (with_event w (land p c)) c) p free) p (give y (aim_cleanup free fs)))
        lands y e true f =
            lands_inside_good x names limits w s p (the unwinding (catching c ∷ fs)) at going c (marks_on fs) refl y (acts_by (to c y) e) (ap in_cleanup (cleanups_same fs) ∙ f)
            (give y (aim_cleanup free fs)) (give_stands kind y (aim_cleanup free fs) (subst (Based kind) (sym (aim_same free fs)) (aim_based free kind (marks_on fs) based)) ∙ ap working (aim_same free fs))
        lands y e false f =
            lands_good x names limits w s p (the unwinding (catching c ∷ fs)) at going c (marks_on fs) refl y (acts_by (to c y) e) (ap in_cleanup (cleanups_same fs) ∙ f)
            (give y (aim_cleanup free fs))
            (give_stands kind y (aim_cleanup free fs) (subst (Based kind) (sym (aim_same free fs)) (aim_based free kind (marks_on fs) based)) ∙ ap working (aim_same free fs ∙ aim_none free (marks_on fs) (ap in_cleanup (cleanups_same fs) ∙ f)))

        free_to : {d : ℕ} {y : Word} → free ≡ to d y → ⊥
        free_to z = absurd cc

        die_to : {d : ℕ} {y : Word} → die ≡ to d y → ⊥
        die_to z = absurd cc

        to_same : {d e : ℕ} {y z : Word} → to d y ≡ to e z → d ≡ e
        to_same z = cc

        aimed_at : (d : ℕ) (y : Word) → acting (cleanups_on fs) aim ≡ to d y → Sane (leave_row m names limits p (the unwinding (catching c ∷ fs)) w c (if d == c then Some y else None))
        aimed_at d y e = ⊎_elim
            (λ (t : d ≡ c).
            let is : (d == c) ≡ true = eq-eqb d c t in
            rw is (lands y (e ∙ ap (λ z. to z y) t) (in_cleanup (cleanups_on fs)) refl))
            (λ (t : ((d == c) ≡ false) × (d ≢ c)). rw t.0 (passes (λ z f. t.1 (to_same (sym (acts_by (to d y) e) ∙ f)))))
            (same_or d c)

        by : (a : Aim) → acting (cleanups_on fs) aim ≡ a → Sane (leave_row m names limits p (the unwinding (catching c ∷ fs)) w c (landing a c))
        by free e = passes (λ y f. free_to (sym (acts_by free e) ∙ f))
        by die e = passes (λ y f. die_to (sym (acts_by die e) ∙ f))
        by (to d y) e = aimed_at d y e

    killed_ending : (b : Base) (f : Frame) (fs : List Frame) → At unwinding (f ∷ fs) → marks_on (f ∷ fs) ≡ base_mark b ∷ [] → Row unwinding (f ∷ fs) (ends unwound) ⊎ (m.go (thread unwinding (f ∷ fs)) done ≡ thread over []) → (m.go (thread unwinding (f ∷ fs)) done ≡ thread over []) → Row unwinding (f ∷ fs) (ends unwound)
    killed_ending b f fs at is u goes =
        killed_ends_good x names limits w s p (the unwinding (f ∷ fs)) at going b is refl (m.go (thread unwinding (f ∷ fs)) done) (ap standing goes)

    unwinding_good : (fs : List Frame) → At unwinding fs → Row unwinding fs (want_of x unwinding fs)
    unwinding_good [] at = tt
    unwinding_good (operands whole ws cs env ∷ fs) at = tt
    unwinding_good (then_forms cs env ∷ fs) at = tt
    unwinding_good (returning ∷ fs) at = tt
    unwinding_good (replied offset ∷ fs) at = tt
    unwinding_good (cleaning u r k ∷ fs) at = tt
    unwinding_good (catching c ∷ fs) at = leaving c fs at (acting (cleanups_on fs) aim) refl
    unwinding_good (protecting u c env ∷ fs) at =
        begins_good x names limits w s p (the unwinding (protecting u c env ∷ fs)) at going u (marks_on fs) refl
        (descend c env (cleaning u (symbol 0) (record { aim = free; floor = pred (length w.catches) }) ∷ fs))
        (descend_stands c env (cleaning u (symbol 0) (record { aim = free; floor = pred (length w.catches) }) ∷ fs))
    unwinding_good (then_tops cs ∷ fs) at = killed_ending of_program (then_tops cs) fs at (ap (λ z. base_mark of_program ∷ z) (work unwinding (then_tops cs ∷ fs) at).based.1) (inr refl) refl
    unwinding_good (child_base offset ∷ fs) at = killed_ending of_child (child_base offset) fs at (ap (λ z. base_mark of_child ∷ z) (work unwinding (child_base offset ∷ fs) at).based.1) (inr refl) refl
    unwinding_good (server_base offset ∷ fs) at = killed_ending of_server (server_base offset) fs at (ap (λ z. base_mark of_server ∷ z) (work unwinding (server_base offset ∷ fs) at).based.1) (inr refl) refl

    -- the last tick of process 1, and a process at rest

    finished_good : (fs : List Frame) → At finished fs → Row finished fs (want_of x finished fs)
    finished_good fs at =
        last_good x names limits w s p (the finished fs) at going of_program (ap (λ z. base_mark of_program ∷ z) b.1) (is_main kind b.0) refl
      where
        b : FitsBase of_program kind × (marks_on (drop 1 fs) ≡ [])
        b = (work finished fs at).based

        is_main : (k : Kind) → FitsBase of_program k → k ≡ main
        is_main main f = refl
        is_main (child g) f = absurd f
        is_main (serving k) f = absurd f

    resting_good : (fs : List Frame) → At at_rest fs → Row at_rest fs (want_of x at_rest fs)
    resting_good fs at = by kind refl
      where
        marks : marks_on fs ≡ base_mark of_server ∷ []
        marks = (work at_rest fs at).resting refl

        free_now : aim ≡ free
        free_now = free_one aim (flip (is_free aim) (subst (λ z. false ≡ not (is_free (acting (cleanups_of z) aim))) marks (acts at_rest fs at)))

        live : is_live (seen (the at_rest fs)) ≡ true
        live = live_is ended aim going free_now
          where
            live_is : (b : Bool) (a : Aim) → b ≡ false → a ≡ free → (not b && not (is_die a)) ≡ true
            live_is true a e f = absurd (not_both refl e)
            live_is false a e f = ap (λ z. not (is_die z)) f

        by : (k : Kind) → kind ≡ k → Good (server_row m names limits p (the at_rest fs) (λ k. take_row m names limits p (the at_rest fs) w k (numbered w.servers k)) k)
        by main e = tt
        by (child f) e = tt
        by (serving k) e = take_good x names limits w s p (the at_rest fs) at going k e live marks refl

    control_good : (c : Control) (fs : List Frame) → At c fs → Row c fs (want_of x c fs)
    control_good (literal f) fs at = literal_good f fs at
    control_good (reading offset y env) fs at = reading_good offset y env fs at
    control_good (closing k) fs at = closing_good k fs at
    control_good (guarding b c env) fs at = guarding_good b c env fs at
    control_good (control.acting (core offset n) env ws) fs at = acting_good offset env fs n ws at
    control_good (joining offset bs c env ws) fs at = joining_good offset bs c env ws fs at
    control_good (given v) fs at = given_good fs v at
    control_good unwinding fs at = unwinding_good fs at
    control_good finished fs at = finished_good fs at
    control_good at_rest fs at = resting_good fs at
    control_good over fs at = tt

  row_good : (q : Process Thread) → numbered w.procs p ≡ Some q → q.ended ≡ false → Good (row m names limits p q w (m.want q.thread))
  row_good q at going = control_good q.home q.kind q.aim q.ended going q.thread.control q.thread.frames at

-- ticks and runs

pub tick_good : (x : Context) (names : List (List ℕ)) (limits : Limits) (w : World Thread Closure) (p : ℕ) → Sane w → Good (tick (core_machine x) names limits w p)
tick_good x names limits w p s = met (numbered w.procs p) refl
  where
    stepped : (q : Process Thread) → numbered w.procs p ≡ Some q → (b : Bool) → q.ended ≡ b → Good (if not b && is_ready (core_machine x) names limits p q w ((core_machine x).want q.thread) then row (core_machine x) names limits p q (counted w p) ((core_machine x).want q.thread) else None)
    stepped q e true f = tt
    stepped q e false f = good_if (is_ready (core_machine x) names limits p q w ((core_machine x).want q.thread)) _ _ (row_good x names limits (counted w p) (counted_sane w p s) p q e f) tt

    met : (a : Option (Process Thread)) → numbered w.procs p ≡ a → Good (option_and_then (λ q. step (core_machine x) names limits p q w) a)
    met None e = tt
    met (Some q) e = stepped q e q.ended refl

-- each tick keeps a sane world sane
pub tick_sane : (source : Program) (names : List (List ℕ)) (limits : Limits) (w v : World Thread Closure) (p : ℕ) → Sane w → tick (core_machine (context_of source)) names limits w p ≡ Some v → Sane v
tick_sane source names limits w v p s e = subst Good e (tick_good (context_of source) names limits w p s)

-- and so does each run
pub run_good : (x : Context) (names : List (List ℕ)) (limits : Limits) (schedule : List ℕ) (w : World Thread Closure) → Sane w → Good (run (core_machine x) names limits w schedule)
run_good x names limits [] w s = s
run_good x names limits (p ∷ ps) w s = good_if (is_none (stop_of (core_machine x) names limits w)) _ _ (on (tick (core_machine x) names limits w p) (tick_good x names limits w p s) (run_good x names limits ps)) tt
  where
    on : (a : Option (World Thread Closure)) → Good a → ((v : World Thread Closure) → Sane v → Good (run (core_machine x) names limits v ps)) → Good (option_and_then (λ v. run (core_machine x) names limits v ps) a)
    on None g k = tt
    on (Some v) g k = k v g

pub run_sane : (source : Program) (names : List (List ℕ)) (limits : Limits) (schedule : List ℕ) (w v : World Thread Closure) → Sane w → run (core_machine (context_of source)) names limits w schedule ≡ Some v → Sane v
run_sane source names limits schedule w v s e = subst Good e (run_good (context_of source) names limits schedule w s)
