-- The machine that runs code.
use Rattle.std.specs.Prelude.{ℕ, zero, suc, ◌+◌, ◌-◌, ◌==◌, Bool, true, false, if◌then◌else◌, List, [], ◌∷◌, ◌++◌, length, map, drop as without_first, replicate, Option, Some, None, is_none, slice_get}
use Rattle.ql_base.specs.declared.limits.Limits.{Limits}
use Rattle.ql_world.specs.Word.{nil, is_nil, first_future, with_value}
use Rattle.ql_world.specs.declared.word.Word.{Word}
use Rattle.ql_world.specs.declared.word.Word.TheVariants.{Fut as future}
use Rattle.ql_world.specs.declared.word.Slot.{Slot}
use Rattle.ql_world.specs.declared.word.Slot.TheVariants.{Val as plain, Cell as boxed}
use Rattle.ql_world.specs.Operator.{operator_of, takes_one}
use Rattle.ql_world.specs.declared.operator.Operator.{Operator}
use Rattle.ql_world.specs.declared.operator.Operator.TheVariants.{Cons as cons_operator}
use Rattle.ql_world.specs.World.{World, opening}
use Rattle.ql_world.specs.declared.world.Aim.{Aim}
use Rattle.ql_world.specs.declared.world.Aim.TheVariants.{Free as free}
use Rattle.ql_world.specs.Machine.{Place, held, box, global, last_form, with_word, unwound, Want, takes_literal, reads, stores, branches, prints, binds, calls, returns, closes, chooses, makes, takes_call, replies, opens, exits, throws, protects, begins, finishes, leaves, ends, rests, Answer, got, numbered, bound, entered, in_line, spawned, unwinds, aimed, Machine}
use Rattle.ql_world.specs.declared.world.Cleanup.{Cleanup}
use Rattle.ql_world.specs.declared.world.Closure.{Closure}
use Rattle.ql_world.specs.Idle.{in_cleanup}
use Rattle.ql_world.specs.Touch.{await_or, await_word, touched_in_call, touched_by, compute_want, funcall_want}
use Rattle.ql_world.specs.Run.{Story, told, is_planned}
use Rattle.ql_code.specs.Code.{Op, lit, local, box_get, global_get, box_set, global_set, branch, jump, drop, slide, bind, call, return, close, funcall, funcall_drop, touch, qlet, join, qlambda, catch, qcatch, exit, throw, protect, leave, end_clean, prim, cons, print, end, Instruction, unmasked, Code}
pub use Rattle.ql_code.specs.declared.mark.Mark.{Mark}
pub use Rattle.ql_code.specs.declared.mark.Mark.TheVariants.{Returning as returning, Catching as catching, Protecting as protecting, Cleaning as cleaning, Base as base}
pub use Rattle.ql_code.specs.declared.mark.State.{State}
pub use Rattle.ql_code.specs.declared.mark.State.TheVariants.{Running as running, Unwinding as unwinding, Resting as resting, Over as over}

pub data Item : Type 0 where
  slot : Slot → Item
  mark : Mark → Item

-- what a process holds
pub record Point : Type 0 where
  -- the index of its next instruction
  pub place : ℕ
  -- the topmost item first
  pub stack : List Item
  pub state : State

-- what a closure holds
abbrev pub Entry : Type 0
Entry = Closure

abbrev pub point : ℕ → List Item → State → Point
point place stack state = record { place = place; stack = stack; state = state }

abbrev pub word : Word → Item
word w = slot (plain w)

-- the words on top of the stack, the topmost one last
abbrev pub words : ℕ → List Item → List Word
words zero st = []
words (suc n) (slot (plain w) ∷ st) = words n st ++ w ∷ []
words (suc n) st = []

abbrev pub push_slots : List Slot → List Item → List Item
push_slots [] st = st
push_slots (s ∷ ss) st = push_slots ss (slot s ∷ st)

abbrev pub push : List Word → List Item → List Item
push [] st = st
push (w ∷ ws) st = push ws (word w ∷ st)

-- the slots of the topmost frame, the last one first
abbrev pub frame_of : List Item → List Slot
frame_of [] = []
frame_of (slot s ∷ st) = s ∷ frame_of st
frame_of (mark (returning pc) ∷ st) = []
frame_of (mark (base j) ∷ st) = []
frame_of (mark k ∷ st) = frame_of st

-- counted from the bottom of the frame
abbrev pub slot_at : List Slot → ℕ → Option Slot
slot_at [] i = None
slot_at (s ∷ ss) i = if i == length ss then Some s else slot_at ss i

abbrev pub or_nil : Option Slot → Slot
or_nil None = plain nil
or_nil (Some s) = s

abbrev pub slots_at : List Slot → List ℕ → List Slot
slots_at ss is = map (λ i. or_nil (slot_at ss i)) is

abbrev pub top_mark : List Item → Option Mark
top_mark [] = None
top_mark (slot s ∷ st) = top_mark st
top_mark (mark k ∷ st) = Some k

abbrev pub below_mark : List Item → List Item
below_mark [] = []
below_mark (slot s ∷ st) = below_mark st
below_mark (mark k ∷ st) = st

-- past the slots and calls that unwinding leaves
abbrev pub unwind : List Item → List Item
unwind [] = []
unwind (slot s ∷ st) = unwind st
unwind (mark (returning pc) ∷ st) = unwind st
unwind (mark k ∷ st) = mark k ∷ st

abbrev pub cleanups_on : List Item → List Cleanup
cleanups_on [] = []
cleanups_on (mark (cleaning u c) ∷ st) = c ∷ cleanups_on st
cleanups_on (i ∷ st) = cleanups_on st

abbrev pub innermost_on : List Item → Option ℕ
innermost_on [] = None
innermost_on (mark (catching c pc) ∷ st) = Some c
innermost_on (i ∷ st) = innermost_on st

-- the innermost running cleanup gets this aim
abbrev pub aim_cleanup : Aim → List Item → List Item
aim_cleanup a [] = []
aim_cleanup a (mark (cleaning u c) ∷ st) = mark (cleaning u (record c { aim = a })) ∷ st
aim_cleanup a (i ∷ st) = i ∷ aim_cleanup a st

-- a child whose own `join` stands at this place
abbrev pub joins_at : ℕ → Option Mark → Bool
joins_at pc (Some (base (Some j))) = j == pc
joins_at pc _ = false

abbrev pub slid : ℕ → List Item → List Item
slid n [] = []
slid n (i ∷ st) = i ∷ without_first n st

-- where a silent instruction goes on, and with what stack
abbrev pub silent : Op → ℕ → List Item → Option (ℕ × List Item)
silent (jump l) pc st = Some (l, st)
silent drop pc st = Some (pc + 1, without_first 1 st)
silent (slide n) pc st = Some (pc + 1, slid n st)
silent join pc st = if joins_at pc (top_mark st) then None else Some (pc + 1, st)
silent (touch n) pc st = if is_none (first_future (words n st)) then Some (pc + 1, st) else None
silent op pc st = None

abbrev pub after_silent : (ℕ → List Item → Point) → Option (ℕ × List Item) → ℕ → List Item → Point
after_silent next None pc st = point pc st running
after_silent next (Some x) pc st = next x.0 x.1

abbrev pub settle_at : (ℕ → List Item → Point) → Option Instruction → ℕ → List Item → Point
settle_at next None pc st = point pc st running
settle_at next (Some i) pc st = after_silent next (silent i.op pc st) pc st

abbrev pub place_of_slot : Option Slot → Place
place_of_slot (Some (boxed n)) = box n
place_of_slot _ = held

abbrev pub one_want : List Word → ℕ → (Word → Want) → Want
one_want (w ∷ []) at want = await_word w at (want w)
one_want ws at want = rests

abbrev pub store_want : Place → List Word → Want
store_want place (w ∷ []) = stores place w
store_want place ws = rests

abbrev pub throw_want : List Word → ℕ → Want
throw_want (tag ∷ (w ∷ [])) at = await_or (first_future (tag ∷ (w ∷ []))) at (throws tag w at)
throw_want ws at = rests

abbrev pub return_want : Option Mark → List Word → ℕ → Want
return_want (Some (returning pc)) ws at = returns
return_want (Some (base j)) ws at = one_want ws at replies
return_want _ ws at = rests

abbrev pub exit_want : List Item → Want
exit_want (slot s ∷ (mark (catching c pc) ∷ st)) = exits c
exit_want st = rests

abbrev pub leave_want : List Item → Want
leave_want (slot s ∷ (mark (protecting u pc) ∷ st)) = begins u
leave_want st = rests

abbrev pub clean_want : List Item → Want
clean_want (slot s ∷ (mark (cleaning u c) ∷ st)) = finishes u
clean_want st = rests

-- how many operands a primitive takes
abbrev pub operand_count : Option Operator → ℕ
operand_count None = 0
operand_count (Some o) = if takes_one o then 1 else 2

abbrev pub prim_want : Option Operator → List Word → ℕ → Want
prim_want o ws at = await_or (first_future (touched_by o ws)) at (compute_want o ws at)

abbrev pub call_want : (cleans used : Bool) → List Word → ℕ → Want
call_want cleans used ws at = await_or (first_future (touched_in_call cleans ws)) at (funcall_want cleans used ws at)

abbrev pub op_want : Op → ℕ → List Item → Want
op_want (lit w) at st = takes_literal
op_want (local i) at st = reads held at
op_want (box_get i) at st = reads (place_of_slot (slot_at (frame_of st) i)) at
op_want (global_get g) at st = reads (global g) at
op_want (box_set i) at st = store_want (place_of_slot (slot_at (frame_of st) i)) (words 1 st)
op_want (global_set g) at st = store_want (global g) (words 1 st)
op_want (branch l) at st = one_want (words 1 st) at (λ w. branches)
op_want (bind n mask) at st = binds (unmasked n mask) (words n st)
op_want (call pc n mask) at st = calls (unmasked n mask) (words n st)
op_want return at st = return_want (top_mark st) (words 1 st) at
op_want (close n mask is l) at st = closes
op_want (funcall n) at st = call_want (in_cleanup (cleanups_on st)) true (words (suc n) st) at
op_want (funcall_drop n) at st = call_want (in_cleanup (cleanups_on st)) false (words (suc n) st) at
op_want (touch n) at st = await_or (first_future (words n st)) at rests
op_want (qlet starts t b) at st = one_want (words 1 st) at chooses
op_want join at st = one_want (words 1 st) at (λ w. ends (with_word w))
op_want (qlambda n mask is l) at st = one_want (words 1 st) at makes
op_want (catch l) at st = one_want (words 1 st) at (λ w. opens w false)
op_want (qcatch l) at st = one_want (words 1 st) at (λ w. opens w true)
op_want exit at st = exit_want st
op_want throw at st = throw_want (words 2 st) at
op_want (protect l) at st = protects
op_want leave at st = leave_want st
op_want end_clean at st = clean_want st
op_want (prim s) at st = prim_want (operator_of s) (words (operand_count (operator_of s)) st) at
op_want cons at st = prim_want (Some cons_operator) (words 2 st) at
op_want print at st = one_want (words 1 st) at prints
op_want end at st = ends last_form
op_want op at st = rests

abbrev pub unwinding_want : List Item → Want
unwinding_want (mark (catching c pc) ∷ st) = leaves c
unwinding_want (mark (protecting u pc) ∷ st) = begins u
unwinding_want (mark (base j) ∷ st) = ends unwound
unwinding_want st = rests

abbrev pub running_want : Option Instruction → List Item → Want
running_want None st = rests
running_want (Some i) st = op_want i.op i.at st

-- the closure that an instruction makes
abbrev pub op_entry : Op → ℕ → List Item → Option Entry
op_entry (close n mask is l) pc st = Some (record { place = pc + 1; count = n; mask = mask; captured = slots_at (frame_of st) is })
op_entry (qlambda n mask is l) pc st = Some (record { place = pc + 1; count = n; mask = mask; captured = slots_at (frame_of st) is })
op_entry op pc st = None

abbrev pub unwind_point : ℕ → List Item → Point
unwind_point pc st = point pc (unwind st) unwinding

abbrev pub ended : ℕ → Point
ended pc = point pc [] over

-- each child has a copy of the frame, with nils for the values before its own
abbrev pub child_stack : ℕ → ℕ → List Slot → List Item
child_stack n j ss = replicate n (word nil) ++ map slot ss ++ mark (base (Some j)) ∷ []

module _ (code : List Instruction) where
  -- past at most so many silent instructions
  abbrev pub settle : ℕ → ℕ → List Item → Point
  settle zero pc st = point pc st running
  settle (suc n) pc st = settle_at (settle n) (slice_get code pc) pc st

  -- A jump goes forwards, so as many as there are instructions are enough.
  abbrev pub settled : ℕ → List Item → Point
  settled pc st = settle (length code) pc st

  -- a word on the stack, and on to a place
  abbrev pub word_go : ℕ → Answer Entry → ℕ → List Item → Point
  word_go next (got w) pc st = settled next (word w ∷ st)
  word_go next _ pc st = ended pc

  -- a word that is touched gives way to that of its future
  abbrev pub one_go : List Word → Answer Entry → ℕ → List Item → Point → Point
  one_go (future f ∷ []) (got v) pc st next = settled pc (word v ∷ st)
  one_go ws a pc st next = next

  -- the same of several words
  abbrev pub touch_go : Option ℕ → List Word → Answer Entry → ℕ → List Item → Point → Point
  touch_go (Some f) ws (got v) pc st next = settled pc (push (with_value v ws) st)
  touch_go _ ws a pc st next = next

  abbrev pub held_word : Option Slot → Word
  held_word (Some (plain w)) = w
  held_word _ = nil

  abbrev pub bind_go : ℕ → Answer Entry → ℕ → List Item → Point
  bind_go next (bound ss) pc st = settled next (push_slots ss st)
  bind_go next _ pc st = ended pc

  abbrev pub branch_go : List Word → ℕ → ℕ → List Item → Point
  branch_go (w ∷ ws) l pc st = if is_nil w then settled l st else settled (pc + 1) st
  branch_go [] l pc st = ended pc

  -- an ordinary call goes on at the second place, and a call of a process closure at the next
  abbrev pub funcall_go : ℕ → Answer Entry → ℕ → List Item → Point
  funcall_go back (entered k ss) pc st = settled k.place (push_slots (ss ++ k.captured) (mark (returning back) ∷ st))
  funcall_go back a pc st = word_go (pc + 1) a pc st

  abbrev pub mode_go : ℕ → ℕ → Answer Entry → ℕ → List Item → Point
  mode_go t b in_line pc st = settled (pc + 1) st
  mode_go t b (spawned e states) pc st = settled (if e then b else t) (push (map future states) st)
  mode_go t b _ pc st = ended pc

  abbrev pub catch_go : ℕ → Answer Entry → ℕ → List Item → Point
  catch_go l (numbered c) pc st = settled (pc + 1) (mark (catching c l) ∷ st)
  catch_go l _ pc st = ended pc

  abbrev pub throw_go : Answer Entry → ℕ → List Item → Point
  throw_go (aimed a) pc st = unwind_point pc (aim_cleanup a st)
  throw_go _ pc st = ended pc

  abbrev pub protect_go : ℕ → Answer Entry → ℕ → List Item → Point
  protect_go l (numbered u) pc st = settled (pc + 1) (mark (protecting u l) ∷ st)
  protect_go l _ pc st = ended pc

  -- the cleanup begins at a place, over the protected value
  abbrev pub begin_go : ℕ → ℕ → Slot → Answer Entry → ℕ → List Item → Point
  begin_go next u s (numbered floor) pc st = settled next (mark (cleaning u (record { aim = free; floor = floor })) ∷ (slot s ∷ st))
  begin_go next u s _ pc st = ended pc

  abbrev pub finish_go : Answer Entry → ℕ → List Item → Point
  finish_go unwinds pc st = unwind_point pc st
  finish_go _ pc st = settled (pc + 1) st

  abbrev pub exit_go : ℕ → List Item → Point
  exit_go pc (slot s ∷ (mark k ∷ st)) = settled (pc + 1) (slot s ∷ st)
  exit_go pc st = ended pc

  abbrev pub leave_go : Answer Entry → ℕ → List Item → Point
  leave_go a pc (slot s ∷ (mark (protecting u l) ∷ st)) = begin_go (pc + 1) u s a pc st
  leave_go a pc st = ended pc

  abbrev pub clean_go : Answer Entry → ℕ → List Item → Point
  clean_go a pc (slot s ∷ (mark k ∷ st)) = finish_go a pc st
  clean_go a pc st = ended pc

  abbrev pub return_to : Option Mark → Answer Entry → List Word → ℕ → List Item → Point
  return_to (Some (returning next)) a (w ∷ ws) pc st = settled next (word w ∷ below_mark st)
  return_to _ a ws pc st = one_go ws a pc (without_first 1 st) (ended pc)

  abbrev pub prim_go : Option Operator → ℕ → List Word → Answer Entry → ℕ → List Item → Point
  prim_go o n ws a pc st = touch_go (first_future (touched_by o ws)) ws a pc (without_first n st) (word_go (pc + 1) a pc (without_first n st))

  abbrev pub call_go : (cleans : Bool) → ℕ → List Word → ℕ → Answer Entry → ℕ → List Item → Point
  call_go cleans back ws n a pc st =
      touch_go (first_future (touched_in_call cleans ws)) ws a pc (without_first n st) (funcall_go back a pc (without_first n st))

  -- of an instruction with one operand that it touches
  abbrev pub unary_go : Answer Entry → ℕ → List Item → (List Item → Point) → Point
  unary_go a pc st next = one_go (words 1 st) a pc (without_first 1 st) (next (without_first 1 st))

  abbrev pub op_go : Op → Answer Entry → ℕ → List Item → Point
  op_go (lit w) a pc st = settled (pc + 1) (word w ∷ st)
  op_go (local i) a pc st = settled (pc + 1) (word (held_word (slot_at (frame_of st) i)) ∷ st)
  op_go (box_get i) a pc st = word_go (pc + 1) a pc st
  op_go (global_get g) a pc st = word_go (pc + 1) a pc st
  op_go (box_set i) a pc st = settled (pc + 1) st
  op_go (global_set g) a pc st = settled (pc + 1) st
  op_go (branch l) a pc st = unary_go a pc st (branch_go (words 1 st) l pc)
  op_go (bind n mask) a pc st = bind_go (pc + 1) a pc (without_first n st)
  op_go (call l n mask) a pc st = bind_go l a pc (mark (returning (pc + 1)) ∷ without_first n st)
  op_go return a pc st = return_to (top_mark st) a (words 1 st) pc st
  op_go (close n mask is l) a pc st = word_go l a pc st
  op_go (funcall n) a pc st = call_go (in_cleanup (cleanups_on st)) (pc + 2) (words (suc n) st) (suc n) a pc st
  op_go (funcall_drop n) a pc st = call_go (in_cleanup (cleanups_on st)) (pc + 1) (words (suc n) st) (suc n) a pc st
  op_go (touch n) a pc st = touch_go (first_future (words n st)) (words n st) a pc (without_first n st) (ended pc)
  op_go (qlet starts t b) a pc st = unary_go a pc st (mode_go t b a pc)
  op_go join a pc st = unary_go a pc st (λ r. ended pc)
  op_go (qlambda n mask is l) a pc st = unary_go a pc st (word_go l a pc)
  op_go (catch l) a pc st = unary_go a pc st (catch_go l a pc)
  op_go (qcatch l) a pc st = unary_go a pc st (catch_go l a pc)
  op_go exit a pc st = exit_go pc st
  op_go throw a pc st = touch_go (first_future (words 2 st)) (words 2 st) a pc (without_first 2 st) (throw_go a pc (without_first 2 st))
  op_go (protect l) a pc st = protect_go l a pc st
  op_go leave a pc st = leave_go a pc st
  op_go end_clean a pc st = clean_go a pc st
  op_go (prim s) a pc st = prim_go (operator_of s) (operand_count (operator_of s)) (words (operand_count (operator_of s)) st) a pc st
  op_go cons a pc st = prim_go (Some cons_operator) 2 (words 2 st) a pc st
  op_go print a pc st = unary_go a pc st (λ r. settled (pc + 1) st)
  op_go op a pc st = ended pc

  abbrev pub land_go : ℕ → Answer Entry → ℕ → List Item → Point
  land_go l (got w) pc st = settled l (word w ∷ aim_cleanup free st)
  land_go l _ pc st = unwind_point pc st

  abbrev pub unwinding_go : Answer Entry → ℕ → List Item → Point
  unwinding_go a pc (mark (catching c l) ∷ st) = land_go l a pc st
  unwinding_go a pc (mark (protecting u l) ∷ st) = begin_go l u (plain nil) a pc st
  unwinding_go a pc st = ended pc

  abbrev pub running_go : Option Instruction → Answer Entry → ℕ → List Item → Point
  running_go None a pc st = ended pc
  running_go (Some i) a pc st = op_go i.op a pc st

  -- the instruction that a running process is at
  abbrev pub next_of : State → ℕ → Option Instruction
  next_of running pc = slice_get code pc
  next_of _ pc = None

  abbrev pub want_in : State → ℕ → List Item → Want
  want_in running pc st = running_want (slice_get code pc) st
  want_in unwinding pc st = unwinding_want st
  want_in resting pc st = takes_call
  want_in over pc st = rests

  abbrev pub go_in : State → Answer Entry → ℕ → List Item → Point
  go_in running a pc st = running_go (slice_get code pc) a pc st
  go_in unwinding a pc st = unwinding_go a pc st
  go_in _ a pc st = ended pc

  abbrev pub entry_by : Option Instruction → ℕ → List Item → Option Entry
  entry_by None pc st = None
  entry_by (Some i) pc st = op_entry i.op pc st

  -- from this one on; the last child's `join` stands before a jump
  abbrev pub children_from : ℕ → List ℕ → ℕ → List Slot → List Point
  children_from n [] t ss = []
  children_from n (l ∷ []) t ss = settled l (child_stack n (t - 2) ss) ∷ []
  children_from n (l ∷ (k ∷ ls)) t ss = settled l (child_stack n (k - 1) ss) ∷ children_from (n + 1) (k ∷ ls) t ss

  abbrev pub op_children : Op → List Item → List Point
  op_children (qlet starts t b) st = children_from 0 starts t (frame_of (without_first 1 st))
  op_children op st = []

  abbrev pub children_by : Option Instruction → List Item → List Point
  children_by None st = []
  children_by (Some i) st = op_children i.op st

  -- the machine that runs this code
  abbrev pub code_machine : Machine Point Entry
  code_machine = record {
    want = λ p. want_in p.state p.place p.stack;
    go = λ p a. go_in p.state a p.place p.stack;
    cleanups = λ p. cleanups_on p.stack;
    innermost = λ p. innermost_on p.stack;
    unwound = λ p. unwind_point p.place p.stack;
    closure = λ p. entry_by (next_of p.state p.place) p.place p.stack;
    children = λ p. children_by (next_of p.state p.place) p.stack;
    stored = λ k. unmasked k.count k.mask;
    at_rest = λ k. point k.place (mark (base None) ∷ []) resting;
    started = λ k ss. settled k.place (push_slots (ss ++ k.captured) (mark (base None) ∷ []));
  }

-- before the first tick
abbrev pub code_world : Code → World Point Entry
code_world code = opening code.quoted code.globals (settled code.instructions 0 (mark (base None) ∷ []))

-- what is told of the code's run along a schedule, with these names
abbrev pub code_told : List (List ℕ) → Code → Limits → List ℕ → Option Story
code_told names code limits schedule = told (code_machine code.instructions) names limits (code_world code) schedule

-- whether the schedule is that of one worker
abbrev pub code_planned : List (List ℕ) → Code → Limits → List ℕ → Bool
code_planned names code limits schedule = is_planned (code_machine code.instructions) names limits (code_world code) schedule
