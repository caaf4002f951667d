-- When a point of the code stands where a thread of the meaning does.
use Rattle.std.proofs.Common.{◌≡◌, ℕ, suc, ◌+◌, ◌<◌, ◌≤◌, true, false, List, [], ◌∷◌, ◌++◌, length, Option, Some, None}
use Rattle.std.specs.Prelude.{slice_get}
use Rattle.ql_forms.specs.Form.{Form}
use Rattle.ql_expand.specs.Core as core
use Rattle.ql_expand.specs.Core.{Name, named, Core, Node, constant, variable, setq, conditional, progn, binding, primitive, lambda, defvar, Cores, no_cores, and_core, Bounds, Function}
use Rattle.ql_scope.specs.Scope.{binders_in}
use Rattle.ql_world.specs.Word.{first_future}
use Rattle.ql_world.specs.declared.word.Word.{Word}
use Rattle.ql_world.specs.declared.word.Slot.{Slot}
use Rattle.ql_world.specs.declared.word.Word.TheVariants.{Fut as future}
use Rattle.ql_world.specs.declared.world.Cleanup.{Cleanup}
use Rattle.ql_meaning.specs.Context.{Context, function_called, constant_word, stored_among}
use Rattle.ql_meaning.specs.Control.{Bindings, lookup, Closure, Frame, operands, then_forms, then_tops, returning, replied, catching, protecting, cleaning, child_base, server_base, Control, literal, reading, closing, guarding, acting, joining, given, unwinding, finished, at_rest, over, Thread}
use Rattle.ql_code.specs.declared.code.Op.TheVariants.{FuncallDrop as op_funcall_drop, Funcall as op_funcall, Catch as op_catch, Qcatch as op_qcatch}
use Rattle.ql_code.specs.Code.{Instruction, instruction, mask_of}
use Rattle.ql_code.specs.declared.code.Op.TheVariants.{Lit as lit, Branch as branch, Jump as jump, Drop as drop, Slide as slide, Bind as bind, Return as return, Touch as touch, Join as join, Qlambda as qlambda, Exit as exit, Throw as throw, Leave as leave, EndClean as end_clean, Print as print, End as end}
use Rattle.ql_compile.specs.Compile.{Scope, find_in, without_all, with_variables, caught_slots, free, free_in_cores, free_in_values, count, size, size_of_cores, size_of_forms, size_of_joined, Places, place_called, read_op, write_op, mask, call_op, primitive_op, captured, body_scope, code, code_of_cores, code_of_forms, code_of_joined, code_of_tops, code_of_function, qlet_code}
use Rattle.ql_code.specs.declared.mark.Mark.TheVariants as marks
use Rattle.ql_code.specs.declared.mark.State.TheVariants as states
use Rattle.ql_code.specs.Machine.{Item, slot, mark, word, push, frame_of, top_mark, Point, Entry, slots_at}
use Rattle.ql_code.specs.declared.mark.Mark.{Mark}
use Rattle.ql_code.specs.declared.mark.State.{State}
use Rattle.ql_code.specs.declared.mark.Mark.TheVariants.{Base as base}
use Rattle.ql_code.specs.declared.mark.State.TheVariants.{Running as running, Resting as resting}
use Rattle.ql_compile.proofs.Right.{AreGlobal, IsFunction, IsPrimitive, IsRight, AreRight, AreRightValues, IsRightFunction}
use Rattle.ql_compile.proofs.Scopes.{Match, Sees}
use Rattle.ql_compile.proofs.Sizes.{HasAt, joined, joined_size}
use Rattle.ql_compile.proofs.Stacks.{Over}

-- the join of a child is not before this place
abbrev pub Beyond : Option Mark → ℕ → Type 0
Beyond (Some (base (Some j))) q = q ≤ j
Beyond _ q = Unit {0}

-- how many operands a core acts on
abbrev pub arity : Node → ℕ
arity (binding bs c) = length (binders_in bs)
arity (primitive o cs) = count cs
arity (core.call f o cs) = count cs
arity (core.funcall ignored c cs) = suc (count cs)
arity (core.throw a b) = 2
arity n = 1

-- what is left of a core once its operands are there: its free variables, its size and its code
abbrev pub free_after : Node → List Name
free_after (setq y o c) = y ∷ []
free_after (conditional a b c) = free b ++ free c
free_after (binding bs c) = without_all (binders_in bs) (free c)
free_after (core.qlet p bs c) = free_in_values bs ++ without_all (binders_in bs) (free c)
free_after (core.qlambda p ps c) = without_all ps (free c)
free_after (core.catch a b) = free b
free_after (core.qcatch a b) = free b
free_after (defvar w o c) = named w ∷ []
free_after n = []

abbrev pub size_after : Node → ℕ
size_after (conditional a b c) = 1 + size b + 1 + size c
size_after (binding bs c) = 1 + size c + 1
size_after (core.funcall true c cs) = 1
size_after (core.funcall false c cs) = 2
size_after (core.qlet p bs c) = 1 + size_of_joined bs + 3 + size c + 1
size_after (core.qlambda p ps c) = 1 + size c + 1
size_after (core.catch a b) = 1 + size b + 1
size_after (core.qcatch a b) = 1 + size b + 1
size_after n = 1

module _ (x : Context) (places : Places) where
  abbrev pub code_after : Scope → ℕ → ℕ → Node → List Instruction
  code_after sc pc at (setq y o c) = instruction (write_op x (find_in sc y) y) at ∷ []
  code_after sc pc at (conditional a b c) =
      instruction (branch (pc + 1 + size b + 1)) at
      ∷ (code x places sc (pc + 1) b ++ instruction (jump (pc + 1 + size b + 1 + size c)) at
      ∷ code x places sc (pc + 1 + size b + 1) c)
  code_after sc pc at (binding bs c) =
      instruction (bind (length (binders_in bs)) (mask x (binders_in bs))) at
      ∷ (code x places (with_variables (binders_in bs) (stored_among x (binders_in bs)) sc) (pc + 1) c ++ instruction (slide (length (binders_in bs))) at ∷ [])
  code_after sc pc at (primitive o cs) = instruction (primitive_op x o) at ∷ []
  code_after sc pc at (core.print c) = instruction print at ∷ []
  code_after sc pc at (core.call f o cs) = instruction (call_op x (place_called places f) cs) at ∷ []
  code_after sc pc at (core.funcall true c cs) = instruction (op_funcall_drop (count cs)) at ∷ []
  code_after sc pc at (core.funcall false c cs) = instruction (op_funcall (count cs)) at ∷ (instruction (touch 1) at ∷ [])
  code_after sc pc at (core.qlet p bs c) = qlet_code x sc pc at bs (λ sc pc. code x places sc pc c) (code_of_joined x places sc (pc + 1) bs)
  code_after sc pc at (core.qlambda p ps c) =
      instruction (qlambda (length ps) (mask x ps) (caught_slots (captured x sc ps c)) (pc + 1 + size c + 1)) at
      ∷ (code x places (body_scope x sc ps c) (pc + 1) c ++ instruction return at ∷ [])
  code_after sc pc at (core.catch a b) = instruction (op_catch (pc + 1 + size b + 1)) at ∷ (code x places sc (pc + 1) b ++ instruction exit at ∷ [])
  code_after sc pc at (core.qcatch a b) = instruction (op_qcatch (pc + 1 + size b + 1)) at ∷ (code x places sc (pc + 1) b ++ instruction exit at ∷ [])
  code_after sc pc at (core.throw a b) = instruction throw at ∷ []
  code_after sc pc at (defvar w o c) = instruction (write_op x (find_in sc (named w)) (named w)) at ∷ []
  code_after sc pc at n = []

  -- it is a core that acts, and what is left of it is right
  abbrev pub RightAfter : Node → Type 0
  RightAfter (constant f) = ⊥
  RightAfter (variable y) = ⊥
  RightAfter (progn cs) = ⊥
  RightAfter (lambda ps c) = ⊥
  RightAfter (core.protect a b) = ⊥
  RightAfter (conditional a b c) = IsRight x.functions b × IsRight x.functions c
  RightAfter (binding bs c) = IsRight x.functions c
  RightAfter (primitive o cs) = IsPrimitive o (count cs)
  RightAfter (core.call f o cs) = IsFunction x.functions f (count cs)
  RightAfter (core.qlet p bs c) = AreRightValues x.functions bs × IsRight x.functions c
  RightAfter (core.qlambda p ps c) = IsRight x.functions c
  RightAfter (core.catch a b) = IsRight x.functions b
  RightAfter (core.qcatch a b) = IsRight x.functions b
  RightAfter n = Unit {0}

  -- The slots of the topmost frame are what a scope says of these variables. If it is a child's own, its join is not
  -- before this place.
  pub record Fits (xs : List Name) (env : Bindings) (sc : Scope) (st : List Item) (last : ℕ) : Type 0 where
    pub sees : Sees x.globals xs env sc (frame_of st)
    pub long : length sc ≡ length (frame_of st)
    pub beyond : Beyond (top_mark st) last

  module _ (ops : List Instruction) where
    -- a core stands here
    pub record Stands (c : Core) (env : Bindings) (sc : Scope) (pc last : ℕ) (st : List Item) : Type 0 where
      pub has : HasAt ops pc (code x places sc pc c)
      pub right : IsRight x.functions c
      pub fits : Fits (free c) env sc st last
      pub is_last : last ≡ pc + size c

    -- what is left of a core
    pub record After (at : ℕ) (n : Node) (env : Bindings) (pc last : ℕ) (st : List Item) : Type 0 where
      pub sc : Scope
      pub has : HasAt ops pc (code_after sc pc at n)
      pub right : RightAfter n
      pub fits : Fits (free_after n) env sc st last
      pub is_last : last ≡ pc + size_after n

    -- operands that follow one that is given
    pub record Operands (cs : Cores) (env : Bindings) (pc last : ℕ) (st : List Item) : Type 0 where
      pub sc : Scope
      pub has : HasAt ops pc (code_of_cores x places (None ∷ sc) pc cs)
      pub right : AreRight x.functions cs
      pub fits : Fits (free_in_cores cs) env sc st last
      pub is_last : last ≡ pc + size_of_cores cs

    -- the same, each behind a join, and a jump at the end
    pub record Joined (at : ℕ) (cs : Cores) (env : Bindings) (pc last : ℕ) (st : List Item) : Type 0 where
      pub sc : Scope
      pub join_at : ℕ
      pub here : slice_get ops pc ≡ Some (instruction join join_at)
      pub has : HasAt ops (pc + 1) (joined x places (None ∷ sc) (pc + 1) cs ++ instruction (jump last) at ∷ [])
      pub right : AreRight x.functions cs
      pub fits : Fits (free_in_cores cs) env sc st last
      pub is_last : last ≡ pc + 1 + joined_size cs + 2

    pub record Forms (cs : Cores) (env : Bindings) (pc last : ℕ) (st : List Item) : Type 0 where
      pub at : ℕ
      pub drop_at : ℕ
      pub sc : Scope
      pub here : slice_get ops pc ≡ Some (instruction drop drop_at)
      pub has : HasAt ops (pc + 1) (code_of_forms x places sc (pc + 1) at cs)
      pub right : AreRight x.functions cs
      pub fits : Fits (free_in_cores cs) env sc st last
      pub is_last : last ≡ pc + 1 + size_of_forms cs

    pub record Tops (cs : Cores) (pc : ℕ) : Type 0 where
      pub end_at : ℕ
      pub has : HasAt ops pc (code_of_tops x places pc cs ++ instruction end end_at ∷ [])
      pub right : AreRight x.functions cs
      pub globals : AreGlobal x.globals (free_in_cores cs)

    pub record Clean (c : Core) (env : Bindings) (pc last : ℕ) (st : List Item) : Type 0 where
      pub at : ℕ
      pub sc : Scope
      pub has : HasAt ops pc (code x places (None ∷ sc) pc c ++ instruction end_clean at ∷ [])
      pub right : IsRight x.functions c
      pub fits : Fits (free c) env sc st last
      pub is_last : last ≡ pc + size c + 1

    mutual
      -- a word on top of this stack is given here to the frames
      pub data Rest : List Frame → ℕ → List Item → Type 0 where
        jumping : {fs : List Frame} {pc : ℕ} {st : List Item} (l at : ℕ) → slice_get ops pc ≡ Some (instruction (jump l) at) → pc < l → Rest fs l st → Rest fs pc st
        sliding : {fs : List Frame} {pc : ℕ} {st : List Item} (below : List Item) (n at : ℕ) → slice_get ops pc ≡ Some (instruction (slide n) at) → Over n st below
            → Rest fs (pc + 1) below → Rest fs pc st
        operand : (at : ℕ) (n : Node) (ws : List Word) (cs : Cores) (env : Bindings) (fs : List Frame) {pc : ℕ} {st : List Item} (below : List Item) (q r : ℕ)
            → st ≡ push ws below → Operands cs env pc q st → length ws + 1 + count cs ≡ arity n → After at n env q r below → Rest fs r below
            → Rest (operands (core.core at n) ws cs env ∷ fs) pc st
        joins : (at : ℕ) (bs : Bounds) (c : Core) (ws : List Word) (cs : Cores) (env : Bindings) (fs : List Frame) {pc : ℕ} {st : List Item} (below : List Item) (q r : ℕ)
            → st ≡ push ws below → Joined at cs env pc q st → length ws + 1 + count cs ≡ arity (binding bs c) → After at (binding bs c) env q r below → Rest fs r below
            → Rest (operands (core.core at (binding bs c)) ws cs env ∷ fs) pc st
        forms : (cs : Cores) (env : Bindings) (fs : List Frame) {pc : ℕ} {st : List Item} (q : ℕ) → Forms cs env pc q st → Rest fs q st
            → Rest (then_forms cs env ∷ fs) pc st
        tops : (cs : Cores) {pc : ℕ} (at : ℕ) → slice_get ops pc ≡ Some (instruction drop at) → Tops cs (pc + 1)
            → Rest (then_tops cs ∷ []) pc (mark (base None) ∷ [])
        touching : (at : ℕ) (fs : List Frame) {pc : ℕ} {st : List Item} → slice_get ops pc ≡ Some (instruction (touch 1) at) → Rest fs (pc + 1) st
            → Rest (replied at ∷ fs) pc st
        waiting : {fs : List Frame} {pc : ℕ} {st : List Item} → Waits fs pc st → Rest fs pc st

      -- the same where the word is not given at once
      pub data Waits : List Frame → ℕ → List Item → Type 0 where
        returns : (fs : List Frame) {pc : ℕ} {st : List Item} (below : List Item) (n at l : ℕ) → slice_get ops pc ≡ Some (instruction return at)
            → Over n st (mark (marks.Returning l) ∷ below) → Rest fs l below → Waits (returning ∷ fs) pc st
        exits : (c : ℕ) (fs : List Frame) {pc : ℕ} (below : List Item) (at l : ℕ) → slice_get ops pc ≡ Some (instruction exit at)
            → l ≡ pc + 1 → Rest fs l below → Waits (catching c ∷ fs) pc (mark (marks.Catching c l) ∷ below)
        leaves : (u : ℕ) (c : Core) (env : Bindings) (fs : List Frame) {pc : ℕ} (below : List Item) (at l r : ℕ) → slice_get ops pc ≡ Some (instruction leave at)
            → l ≡ pc + 1 → Clean c env l r below → Rest fs r below → Waits (protecting u c env ∷ fs) pc (mark (marks.Protecting u l) ∷ below)
        cleans : (u : ℕ) (w : Word) (k : Cleanup) (fs : List Frame) {pc : ℕ} (below : List Item) (at : ℕ) → slice_get ops pc ≡ Some (instruction end_clean at)
            → Rest fs (pc + 1) below → Waits (cleaning u w k ∷ fs) pc (mark (marks.Cleaning u k) ∷ (word w ∷ below))
        child : (at : ℕ) {pc : ℕ} {st : List Item} (n : ℕ) → slice_get ops pc ≡ Some (instruction join at)
            → Over n st (mark (base (Some pc)) ∷ []) → Waits (child_base at ∷ []) pc st
        server : (at : ℕ) {pc : ℕ} {st : List Item} (n : ℕ) → slice_get ops pc ≡ Some (instruction return at)
            → Over n st (mark (base None) ∷ []) → Waits (server_base at ∷ []) pc st

    -- what unwinding stops at
    pub data Stops : List Frame → List Item → Type 0 where
      at_catch : (c : ℕ) (fs : List Frame) (below : List Item) (l : ℕ) → Rest fs l below → Stops (catching c ∷ fs) (mark (marks.Catching c l) ∷ below)
      at_protect : (u : ℕ) (c : Core) (env : Bindings) (fs : List Frame) (below : List Item) (l r : ℕ) → Clean c env l r below → Rest fs r below
          → Stops (protecting u c env ∷ fs) (mark (marks.Protecting u l) ∷ below)
      at_clean : (u : ℕ) (w : Word) (k : Cleanup) (fs : List Frame) (below : List Item) (pc : ℕ) → Rest fs pc below
          → Stops (cleaning u w k ∷ fs) (mark (marks.Cleaning u k) ∷ (word w ∷ below))
      at_tops : (cs : Cores) → Stops (then_tops cs ∷ []) (mark (base None) ∷ [])
      at_child : (at j : ℕ) → Stops (child_base at ∷ []) (mark (base (Some j)) ∷ [])
      at_server : (at : ℕ) → Stops (server_base at ∷ []) (mark (base None) ∷ [])
      at_nothing : Stops [] []

    pub data At : Control → List Frame → State → ℕ → List Item → Type 0 where
      at_literal : (f : Form) {fs : List Frame} {pc : ℕ} {st : List Item} (at : ℕ) → slice_get ops pc ≡ Some (instruction (lit (constant_word x f)) at)
          → Rest fs (pc + 1) st → At (literal f) fs running pc st
      at_read : (at : ℕ) (y : Name) (env : Bindings) {fs : List Frame} {pc : ℕ} {st : List Item} (sc : Scope)
          → slice_get ops pc ≡ Some (instruction (read_op x (find_in sc y) y) at)
          → Match x.globals y (frame_of st) (lookup env y) (find_in sc y) → Rest fs (pc + 1) st → At (reading at y env) fs running pc st
      at_close : (k : Closure) {fs : List Frame} {pc : ℕ} {st : List Item} (sc : Scope) (q : ℕ)
          → Stands (core.core k.at (lambda k.parameters k.body)) k.env sc pc q st → Rest fs q st → At (closing k) fs running pc st
      at_guard : (a b : Core) (env : Bindings) {fs : List Frame} {pc : ℕ} {st : List Item} (sc : Scope) (at q : ℕ)
          → Stands (core.core at (core.protect a b)) env sc pc q st → Rest fs q st → At (guarding a b env) fs running pc st
      at_act : (at : ℕ) (n : Node) (env : Bindings) (ws : List Word) {fs : List Frame} {pc : ℕ} {st : List Item} (below : List Item) (r : ℕ)
          → st ≡ push ws below → length ws ≡ arity n → After at n env pc r below → Rest fs r below → At (acting (core.core at n) env ws) fs running pc st
      at_touch : (at : ℕ) (bs : Bounds) (c : Core) (env : Bindings) (ws : List Word) {fs : List Frame} {pc : ℕ} {st : List Item} (below : List Item) (f r : ℕ)
          → first_future ws ≡ Some f → slice_get ops pc ≡ Some (instruction (touch (length (binders_in bs))) at)
          → st ≡ push ws below → length ws ≡ arity (binding bs c) → After at (binding bs c) env (pc + 1) r below → Rest fs r below
          → At (joining at bs c env ws) fs running pc st
      at_bind : (at : ℕ) (bs : Bounds) (c : Core) (env : Bindings) (ws : List Word) {fs : List Frame} {pc : ℕ} {st : List Item}
          → first_future ws ≡ None → At (acting (core.core at (binding bs c)) env ws) fs running pc st → At (joining at bs c env ws) fs running pc st
      at_given : (w : Word) {fs : List Frame} {pc : ℕ} (st : List Item) → Waits fs pc st → At (given w) fs running pc (word w ∷ st)
      at_reply : (f at : ℕ) {fs : List Frame} {pc : ℕ} (st : List Item) → slice_get ops pc ≡ Some (instruction (touch 1) at) → Rest fs (pc + 1) st
          → At (given (future f)) (replied at ∷ fs) running pc (word (future f) ∷ st)
      at_unwinding : {fs : List Frame} {pc : ℕ} {st : List Item} → Stops fs st → At unwinding fs states.Unwinding pc st
      at_end : {pc : ℕ} (at : ℕ) → slice_get ops pc ≡ Some (instruction end at) → At finished (then_tops no_cores ∷ []) running pc (mark (base None) ∷ [])
      at_resting : (at : ℕ) {pc : ℕ} → At at_rest (server_base at ∷ []) resting pc (mark (base None) ∷ [])
      at_over : {pc : ℕ} → At over [] states.Over pc []

    -- a point stands where a thread does
    abbrev pub Follow : Thread → Point → Type 0
    Follow t p = At t.control t.frames p.state p.place p.stack

    -- a closure, and what the code's machine holds of it
    pub record Same (k : Closure) (l : Entry) : Type 0 where
      pub sc : Scope
      pub ss : List Slot
      pub count : l.count ≡ length k.parameters
      pub mask : l.mask ≡ mask_of (stored_among x k.parameters)
      pub captured : l.captured ≡ slots_at ss (caught_slots (captured x sc k.parameters k.body))
      pub has : HasAt ops l.place (code x places (body_scope x sc k.parameters k.body) l.place k.body ++ instruction return k.at ∷ [])
      pub right : IsRight x.functions k.body
      pub sees : Sees x.globals (without_all k.parameters (free k.body)) k.env sc ss

    -- where a function stands
    pub record Stood (w : ℕ) (f : Function) : Type 0 where
      pub place : ℕ
      pub called : place_called places w ≡ Some (f, place)
      pub has : HasAt ops place (code_of_function x places place f)
      pub right : IsRightFunction x.functions x.globals f

    abbrev pub Known : Type 0
    Known = (w : ℕ) (f : Function) → function_called x.functions w ≡ Some f → Stood w f
