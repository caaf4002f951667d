-- Compiled code is told as its program is, along every schedule.
use Rattle.std.proofs.Common.{◌≡◌, ℕ, ◌+◌, ◌==◌, Bool, true, false, List, [], ◌∷◌, ◌++◌, length, Option, Some, None, refl, sym, subst, ⊎_elim, arith, length-append}
use Rattle.std.specs.Prelude.{slice_get}
use Rattle.std.specs.List.{AllZip}
use Rattle.ql_base.specs.declared.limits.Limits.{Limits}
use Rattle.ql_expand.specs.Core as core
use Rattle.ql_expand.specs.Core.{Name, named, hidden, Core, Node, constant, variable, setq, conditional, progn, binding, primitive, lambda, defvar, Cores, no_cores, and_core, Bounds, Function, function, Program}
use Rattle.ql_scope.specs.Scope.{binders_in}
use Rattle.ql_world.specs.declared.word.Word.{Word}
use Rattle.ql_world.specs.declared.word.Slot.TheVariants.{Val as plain}
use Rattle.ql_world.specs.Tick.{slots_of}
use Rattle.ql_world.specs.Follows.{Both, Follows, AreToldAlike, ArePlannedAlike}
use Rattle.ql_meaning.specs.Context.{Context, is_called, function_called, stored_among, context_of, functions_of, globals_of, tops_of, quotes_of}
use Rattle.ql_meaning.specs.Control as control
use Rattle.ql_meaning.specs.Control.{Bindings, Closure, Frame, Control, acting, server_base, bind_all, descend, begin, closure_at, children_at, core_machine}
use Rattle.ql_meaning.specs.Meaning.{program_told, program_planned}
use Rattle.ql_code.specs.Code.{Instruction, instruction}
use Rattle.ql_code.specs.declared.code.Op.{Op}
use Rattle.ql_code.specs.declared.code.Op.TheVariants.{End as end}
use Rattle.ql_compile.specs.Compile.{find_in, free_in_values, size, size_of_joined, size_of_function, size_of_tops, Places, place_called, places_from, places_of, read_op, write_op, call_op, primitive_op, code_of_tops, code_of_function, code_of_functions, without_all, with_variables, free, instructions_of, compiled}
use Rattle.ql_code.specs.Machine as machine
use Rattle.ql_code.specs.Machine.{Item, slot, mark, word, push, push_slots, frame_of, top_mark, next_of, op_entry, entry_by, op_children, children_by, settled, Entry, code_machine, code_told, code_planned}
use Rattle.ql_code.specs.declared.mark.Mark.{Mark}
use Rattle.ql_code.specs.declared.mark.State.{State}
use Rattle.ql_code.specs.declared.mark.Mark.TheVariants.{Base as base}
use Rattle.ql_code.specs.declared.mark.State.TheVariants.{Running as running}
use Rattle.ql_compile.proofs.Compilable.{is_compilable}
use Rattle.ql_compile.proofs.Right.{AreRightFunctions, IsRightFunction}
use Rattle.ql_compile.proofs.Checked.{Checked, checked}
use Rattle.ql_compile.proofs.Cases.{cases}
use Rattle.ql_compile.proofs.Scopes.{sees_more}
use Rattle.ql_compile.proofs.Sizes.{HasAt, front, front_one, back, long, has_all}
use Rattle.ql_compile.proofs.Relation.{Known, Same, arity, After, waiting, Waits, returns, exits, leaves, cleans, child, server, At, at_literal, at_read, at_close, at_guard, at_act, at_touch, at_bind, at_given, at_reply, at_unwinding, at_end, at_resting, at_over, Follow}
use Rattle.ql_compile.proofs.Descends.{sub_left}
use Rattle.ql_compile.proofs.Gives.{stay, all_settled, begins}
use Rattle.ql_compile.proofs.Unwinds.{same_cleanups, same_innermost, unwound_alike}
use Rattle.ql_compile.proofs.Wants.{many, single, same_want}
use Rattle.ql_compile.proofs.Bodies.{suited, entered_body, same_stored, children_alike}
use Rattle.ql_compile.proofs.Goes.{same_go}

module _ (x : Context) (places : Places) (ops : List Instruction) where
  abbrev F : control.Thread → machine.Point → Type 0
  F = Follow x places ops

  abbrev C : Closure → Entry → Type 0
  C = Same x places ops

  -- an instruction that makes no closure and no children
  abbrev Single : Op → Type 0
  Single o = ((pc : ℕ) (st : List Item) → op_entry o pc st ≡ None) × ((st : List Item) → op_children ops o st ≡ [])

  read_single : (v : Option (ℕ × Bool)) (y : Name) → Single (read_op x v y)
  read_single (Some (i, true)) y = ((λ pc st. refl), λ st. refl)
  read_single (Some (i, false)) y = ((λ pc st. refl), λ st. refl)
  read_single None (named w) = ((λ pc st. refl), λ st. refl)
  read_single None (hidden n) = ((λ pc st. refl), λ st. refl)

  write_single : (v : Option (ℕ × Bool)) (y : Name) → Single (write_op x v y)
  write_single (Some v) y = ((λ pc st. refl), λ st. refl)
  write_single None (named w) = ((λ pc st. refl), λ st. refl)
  write_single None (hidden n) = ((λ pc st. refl), λ st. refl)

  call_single : (f : Option (Function × ℕ)) (cs : Cores) → Single (call_op x f cs)
  call_single None cs = ((λ pc st. refl), λ st. refl)
  call_single (Some f) cs = ((λ pc st. refl), λ st. refl)

  prim_single : (s : ℕ) → Single (primitive_op x s)
  prim_single s =
      ⊎_elim (λ (t : (s == 19) ≡ true). rw t ((λ pc st. refl), λ st. refl)) (λ (t : (s == 19) ≡ false). rw t ((λ pc st. refl), λ st. refl))
      (cases (s == 19))

  abbrev Parts : Control → State → ℕ → List Item → Type 0
  Parts c s pc st = Both C (closure_at x c) (entry_by ops (next_of ops s pc) pc st) × AllZip F (children_at x c) (children_by ops (next_of ops s pc) st)

  neither : (pc : ℕ) (st : List Item) (i : Instruction) → slice_get ops pc ≡ Some i → Single i.op
      → Both C None (entry_by ops (slice_get ops pc) pc st) × AllZip F [] (children_by ops (slice_get ops pc) st)
  neither pc st i g z = rw (g, z.0 pc st, z.1 st) (tt, tt)

  -- the captured slots are those under the proposition
  qlambda_parts : (at : ℕ) (p : Core) (ps : List core.Binder) (c : Core) (env : Bindings) (w : Word) (pc r : ℕ) (below : List Item)
      → After x places ops at (core.qlambda p ps c) env pc r below
      → Parts (acting (core.core at (core.qlambda p ps c)) env (w ∷ [])) running pc (word w ∷ below)
  qlambda_parts at p ps c env w pc r below h =
      rw h.has.0 (
        record {
          sc = None ∷ h.sc;
          ss = plain w ∷ frame_of below;
          count = refl;
          mask = refl;
          captured = refl;
          has = h.has.1;
          right = h.right;
          sees = sees_more x.globals (without_all ps (free c)) env h.sc (frame_of below) (plain w) h.fits.long h.fits.sees;
        },
        tt,
      )

  qlet_parts : (at : ℕ) (p : Core) (bs : Bounds) (c : Core) (env : Bindings) (w : Word) (pc r : ℕ) (below : List Item)
      → After x places ops at (core.qlet p bs c) env pc r below
      → Parts (acting (core.core at (core.qlet p bs c)) env (w ∷ [])) running pc (word w ∷ below)
  qlet_parts at p bs c env w pc r below h =
      rw h.has.0 (
        tt,
        children_alike x places ops bs env h.sc 0 0 (pc + 1) (pc + 1 + size_of_joined bs + 1) (frame_of below) refl refl (front ops _ _ _ h.has.1) h.right.0
            (λ y i. h.fits.sees y (sub_left (free_in_values bs) (without_all (binders_in bs) (free c)) y i)) h.fits.long,
      )

  act_parts : (at : ℕ) (n : Node) (env : Bindings) (ws : List Word) (pc r : ℕ) (below : List Item) → length ws ≡ arity n → After x places ops at n env pc r below
      → Parts (acting (core.core at n) env ws) running pc (push ws below)
  act_parts at (constant f) env ws pc r below k h = absurd h.right
  act_parts at (variable y) env ws pc r below k h = absurd h.right
  act_parts at (setq y o c) env ws pc r below k h = neither pc _ _ h.has.0 (write_single (find_in h.sc y) y)
  act_parts at (conditional b c d) env ws pc r below k h = neither pc _ _ h.has.0 ((λ pc st. refl), λ st. refl)
  act_parts at (progn cs) env ws pc r below k h = absurd h.right
  act_parts at (binding bs c) env ws pc r below k h = neither pc _ _ h.has.0 ((λ pc st. refl), λ st. refl)
  act_parts at (primitive o cs) env ws pc r below k h = neither pc _ _ h.has.0 (prim_single o)
  act_parts at (core.print c) env ws pc r below k h = neither pc _ _ h.has.0 ((λ pc st. refl), λ st. refl)
  act_parts at (core.call w o cs) env ws pc r below k h = neither pc _ _ h.has.0 (call_single (place_called places w) cs)
  act_parts at (core.funcall true c cs) env ws pc r below k h = neither pc _ _ h.has.0 ((λ pc st. refl), λ st. refl)
  act_parts at (core.funcall false c cs) env ws pc r below k h = neither pc _ _ h.has.0 ((λ pc st. refl), λ st. refl)
  act_parts at (lambda ps c) env ws pc r below k h = absurd h.right
  act_parts at (core.qlet p bs c) env ws pc r below k h =
      single (λ ws. Parts (acting (core.core at (core.qlet p bs c)) env ws) running pc (push ws below)) (λ w. qlet_parts at p bs c env w pc r below h) ws k
  act_parts at (core.qlambda p ps c) env ws pc r below k h =
      single (λ ws. Parts (acting (core.core at (core.qlambda p ps c)) env ws) running pc (push ws below)) (λ w. qlambda_parts at p ps c env w pc r below h) ws k
  act_parts at (core.catch b c) env ws pc r below k h = neither pc _ _ h.has.0 ((λ pc st. refl), λ st. refl)
  act_parts at (core.qcatch b c) env ws pc r below k h = neither pc _ _ h.has.0 ((λ pc st. refl), λ st. refl)
  act_parts at (core.throw b c) env ws pc r below k h = neither pc _ _ h.has.0 ((λ pc st. refl), λ st. refl)
  act_parts at (core.protect b c) env ws pc r below k h = absurd h.right
  act_parts at (defvar w o c) env ws pc r below k h = neither pc _ _ h.has.0 (write_single (find_in h.sc (named w)) (named w))

  waits_parts : (w : Word) (fs : List Frame) (pc : ℕ) (st : List Item) → Waits x places ops fs pc st → Parts (control.given w) running pc (word w ∷ st)
  waits_parts w fs pc st (returns gs below n at l g o t) = neither pc _ _ g ((λ pc st. refl), λ st. refl)
  waits_parts w fs pc st (exits c gs below at l g e t) = neither pc _ _ g ((λ pc st. refl), λ st. refl)
  waits_parts w fs pc st (leaves u c env gs below at l r g e k t) = neither pc _ _ g ((λ pc st. refl), λ st. refl)
  waits_parts w fs pc st (cleans u v k gs below at g t) = neither pc _ _ g ((λ pc st. refl), λ st. refl)
  waits_parts w fs pc st (child at n g o) = neither pc _ _ g ((λ pc st. refl), λ st. refl)
  waits_parts w fs pc st (server at n g o) = neither pc _ _ g ((λ pc st. refl), λ st. refl)

  -- what the next tick makes and spawns
  parts : (c : Control) (fs : List Frame) (s : State) (pc : ℕ) (st : List Item) → At x places ops c fs s pc st → Parts c s pc st
  parts c fs s pc st (at_literal f at g t) = neither pc st _ g ((λ pc st. refl), λ st. refl)
  parts c fs s pc st (at_read at y env sc g m t) = neither pc st _ g (read_single (find_in sc y) y)
  parts c fs s pc st (at_close k sc q h t) =
      rw h.has.0 (record { sc = sc; ss = frame_of st; count = refl; mask = refl; captured = refl; has = h.has.1; right = h.right; sees = h.fits.sees }, tt)
  parts c fs s pc st (at_guard a b env sc at q h t) = neither pc st _ h.has.0 ((λ pc st. refl), λ st. refl)
  parts c fs s pc st (at_act at n env ws below r e k a t) = subst (Parts c running pc) (sym e) (act_parts at n env ws pc r below k a)
  parts c fs s pc st (at_touch at bs d env ws below f r u g e k a t) = neither pc st _ g ((λ pc st. refl), λ st. refl)
  parts c fs s pc st (at_bind at bs d env ws u a) = parts _ fs s pc st a
  parts c fs s pc st (at_given w below t) = waits_parts w fs pc below t
  parts c fs s pc st (at_reply f at below g t) = neither pc st _ g ((λ pc st. refl), λ st. refl)
  parts c fs s pc st (at_unwinding t) = (tt, tt)
  parts c fs s pc st (at_end at g) = neither pc st _ g ((λ pc st. refl), λ st. refl)
  parts c fs s pc st (at_resting at) = (tt, tt)
  parts c fs s pc st at_over = (tt, tt)

  starts : (k : Closure) (l : Entry) (xs : List Word) (i : ℕ) → C k l → length xs ≡ length (stored_among x k.parameters)
      → F (descend k.body (bind_all k.parameters (slots_of (stored_among x k.parameters) xs i) k.env) (server_base k.at ∷ []))
      (settled ops l.place (push_slots (slots_of (stored_among x k.parameters) xs i ++ l.captured) (mark (base None) ∷ [])))
  starts k l xs i h e =
      all_settled x places ops _ l.place _ (stay x places ops _ l.place _
      (entered_body x places ops k l h (server_base k.at ∷ []) (mark (base None) ∷ []) _ (suited k.parameters (stored_among x k.parameters) xs i (many x k.parameters) e) refl tt
      (λ g n o. waiting (server k.at n g o))))

  code_follows : Known x places ops → Follows (core_machine x) (code_machine ops) F C
  code_follows known = record {
    wants = λ t p r. same_want x places ops known t.control t.frames p.state p.place p.stack r;
    goes = λ t p a b r s. same_go x places ops known t.control t.frames p.state p.place p.stack a b r s;
    cleanups = λ t p r. same_cleanups x places ops t.control t.frames p.state p.place p.stack r;
    innermost = λ t p r. same_innermost x places ops t.control t.frames p.state p.place p.stack r;
    unwound = λ t p r. unwound_alike x places ops t.control t.frames p.state p.place p.stack r;
    closure = λ t p r. (parts t.control t.frames p.state p.place p.stack r).0;
    children = λ t p r. (parts t.control t.frames p.state p.place p.stack r).1;
    stored = λ k l h. same_stored x places ops k l h;
    at_rest = λ k l h. at_resting k.at;
    started = λ k l xs i h e.
        subst (λ bs. F (descend k.body (bind_all k.parameters (slots_of (stored_among x k.parameters) xs i) k.env) (server_base k.at ∷ []))
        (settled ops l.place (push_slots (slots_of bs xs i ++ l.captured) (mark (base None) ∷ [])))) (same_stored x places ops k l h) (starts k l xs i h e);
  }

  function_long : (pc : ℕ) (f : Function) → length (code_of_function x places pc f) ≡ size_of_function f
  function_long pc (function at w o ps c) = omega (arith, length-append {A = Instruction}, long x places (with_variables ps (stored_among x ps) []) pc c)

  -- where a function stands that is among these
  abbrev Found : Option (Function × ℕ) → Function → Type 0
  Found o f = (l : ℕ) × (o ≡ Some (f, l)) × HasAt ops l (code_of_function x places l f) × IsRightFunction x.functions x.globals f

  found_here : (pc : ℕ) (g f : Function) → Some g ≡ Some f → HasAt ops pc (code_of_function x places pc g) → IsRightFunction x.functions x.globals g
      → Found (Some (g, pc)) f
  found_here pc g f e h r = let same : g ≡ f = cc in subst (Found (Some (g, pc))) same (pc, refl, h, r)

  found : (pc : ℕ) (fs : List Function) → HasAt ops pc (code_of_functions x places (places_from pc fs)) → AreRightFunctions x.functions x.globals fs
      → (w : ℕ) (f : Function) → function_called fs w ≡ Some f
      → Found (place_called (places_from pc fs) w) f
  found pc [] h r w f e = absurd cc
  found pc (g ∷ gs) h r w f e =
      ⊎_elim
      (λ (t : is_called w g ≡ true). rw t (found_here pc g f (rw t at e) (front ops pc _ _ h) r.0))
      (λ (t : is_called w g ≡ false). rw t (found (pc + size_of_function g) gs (back ops pc _ _ (size_of_function g) (function_long pc g) h) r.1 w f (rw t at e)))
      (cases (is_called w g))

  tops_long : (pc : ℕ) (cs : Cores) → length (code_of_tops x places pc cs) ≡ size_of_tops cs
  tops_long pc no_cores = refl
  tops_long pc (and_core c cs) =
      let i = long x places [] pc c in
      let j = tops_long (pc + size c + 1) cs in
      omega (arith, length-append {A = Instruction}, i, j)

-- the instructions of a program's code
abbrev pub ops_of : Program → List Instruction
ops_of p = instructions_of (context_of p) (places_of p) p

abbrev pub Alike : Program → control.Thread → machine.Point → Type 0
Alike p = Follow (context_of p) (places_of p) (ops_of p)

abbrev pub SameClosures : Program → Closure → Entry → Type 0
SameClosures p = Same (context_of p) (places_of p) (ops_of p)

-- what `ql_world` says of these machines: where the one follows the other, the same is told of both
abbrev pub FollowersAreToldAlike : Type 0
FollowersAreToldAlike = (p : Program) → Follows (core_machine (context_of p)) (code_machine (ops_of p)) (Alike p) (SameClosures p)
    → AreToldAlike (core_machine (context_of p)) (code_machine (ops_of p)) (Alike p) (SameClosures p)

-- and that one worker takes the same schedules
abbrev pub FollowersArePlannedAlike : Type 0
FollowersArePlannedAlike = (p : Program) → Follows (core_machine (context_of p)) (code_machine (ops_of p)) (Alike p) (SameClosures p)
    → ArePlannedAlike (core_machine (context_of p)) (code_machine (ops_of p)) (Alike p) (SameClosures p)

module _ (p : Program) (right : Checked p) where
  abbrev x : Context
  x = context_of p

  abbrev places : Places
  places = places_of p

  abbrev ops : List Instruction
  ops = instructions_of x places p

  all : HasAt ops 0 ops
  all = has_all ops []

  known : Known x places ops
  known w f e =
      let h = (back ops 0 _ _ (size_of_tops (tops_of p)) (tops_long x places ops 0 (tops_of p)) all).1 in
      let start : 0 + size_of_tops (tops_of p) + 1 ≡ size_of_tops (tops_of p) + 1 = omega arith in
      let s = found x places ops (size_of_tops (tops_of p) + 1) (functions_of p) (subst (λ q. HasAt ops q (code_of_functions x places places)) start h) right.functions w f e in
      record { place = s.0; called = s.1; has = s.2; right = s.3 }

  begins_alike : Follow x places ops (begin (tops_of p)) (settled ops 0 (mark (base None) ∷ []))
  begins_alike =
      all_settled x places ops _ 0 _ (stay x places ops _ 0 _
      (begins x places ops (tops_of p) 0
      (record { end_at = 0; has = front_one ops 0 (code_of_tops x places 0 (tops_of p)) (instruction end 0) _ all; right = right.tops; globals = right.variables })))

  told_alike : FollowersAreToldAlike → (names : List (List ℕ)) (limits : Limits) (schedule : List ℕ)
      → program_told names p limits schedule ≡ code_told names (compiled p) limits schedule
  told_alike alike names limits schedule =
      alike p (code_follows x places ops known) names limits (quotes_of p).0 (length (globals_of p)) _ _ begins_alike schedule

  planned_alike : FollowersArePlannedAlike → (names : List (List ℕ)) (limits : Limits) (schedule : List ℕ)
      → program_planned names p limits schedule ≡ code_planned names (compiled p) limits schedule
  planned_alike alike names limits schedule =
      alike p (code_follows x places ops known) names limits (quotes_of p).0 (length (globals_of p)) _ _ begins_alike schedule

-- the code of a program is told as the program is, along every schedule
pub always_same : FollowersAreToldAlike → (p : Program) → is_compilable p ≡ true → (names : List (List ℕ)) (limits : Limits) (schedule : List ℕ)
    → code_told names (compiled p) limits schedule ≡ program_told names p limits schedule
always_same alike p right names limits schedule = sym (told_alike p (checked p right) alike names limits schedule)

-- one worker takes the same schedules of it as of the program
pub always_planned : FollowersArePlannedAlike → (p : Program) → is_compilable p ≡ true → (names : List (List ℕ)) (limits : Limits) (schedule : List ℕ)
    → code_planned names (compiled p) limits schedule ≡ program_planned names p limits schedule
always_planned alike p right names limits schedule = sym (planned_alike p (checked p right) alike names limits schedule)
