-- On sound code the operands of an instruction are there.
use Rattle.std.proofs.Common.{◌≡◌, ℕ, suc, true, false, List, [], ◌∷◌, ◌++◌, length, Some, refl, subst, ⊎_elim}
use Rattle.std.specs.Prelude.{not, is_some, slice_get}
use Rattle.std.proofs.Math.Logic.{∥∥₁_elim}
use Rattle.std.proofs.Math.Bridge.{le_prop}
use Rattle.std.proofs.Math.Nat.{ℕ_set}
use Rattle.std.proofs.Math.Bool.{Bool-set}
use Rattle.ql_base.specs.declared.limits.Limits.{Limits}
use Rattle.ql_world.specs.Operator.{operator_of}
use Rattle.ql_world.specs.World.{World, numbered}
use Rattle.ql_world.specs.declared.word.Word.{Word}
use Rattle.ql_world.specs.declared.word.Word.TheVariants.{Int as integer, Sym as symbol, Pair as pair, Fun as closure, Proc as process_closure, Fut as future}
use Rattle.ql_world.specs.declared.world.Kind.{Kind}
use Rattle.ql_world.specs.declared.world.Kind.TheVariants.{Main as world_main, Child as world_child, Closure as serving}
use Rattle.ql_world.specs.declared.world.Process.{Process}
use Rattle.ql_world.specs.Machine.{Machine, Place, held, box, global, last_form, with_word, unwound, Want, awaits, takes_literal, reads, stores, branches, computes, prints, binds, calls, returns, closes, funcalls, chooses, makes, sends, takes_call, replies, opens, exits, throws, protects, begins, finishes, leaves, ends, rests}
use Rattle.ql_world.specs.Tick.{is_ready, can_step, tick}
use Rattle.ql_world.specs.Run.{run}
use Rattle.ql_code.specs.Code.{Op, lit, local, box_get, global_get, box_set, global_set, branch, jump, drop, slide, bind, call, return, close, funcall, funcall_drop, touch, qlet, join, qlambda, catch, qcatch, exit, throw, protect, leave, end_clean, prim, cons, print, end, instruction, Code}
use Rattle.ql_code.specs.Machine.{Item, Point, Entry, words, operand_count, code_machine, code_world}
use Rattle.ql_code.specs.Sound.{Shape, Start, value, catching, protecting, cleaning, values, op_rule, after, Leads, Has, Sound}
use Rattle.ql_code.specs.Standing.{Made, IsNumber, IsMade, AreMade, IsMain, IsChild, IsServing, Fits, IsRunning, IsStandingIn, IsStanding, IsPlace, IsStore, IsAsked, IsOff, Holds}
use Rattle.ql_code.specs.SoundWorld.{made_of, IsProcess, IsSoundWorld}
use Rattle.ql_code.specs.Operands.{operands_of, HasOperands}
use Rattle.ql_code.proofs.Frames.{Led, led_is, words_top}
use Rattle.ql_code.proofs.Asks.{asked, taken}
use Rattle.ql_code.proofs.Settles.{and_left, and_right}
use Rattle.ql_code.proofs.Worlds.{each_numbered}
use Rattle.ql_code.proofs.SoundTicks.{IsSome, runs_sound, off_or_rests}
use Rattle.ql_code.proofs.Progress.{tick_there}

module _ (code : Code) (so : Sound code) (m : Made) (kind : Kind) (names : Holds code m) where
  abbrev At : Start → ℕ → Shape → Type 0
  At = Has so.table

  -- so many values on top of a shape are words on top of the stack
  long : (n : ℕ) (s : Start) (r : Shape) (st : List Item) → Fits At m kind s (values n ++ r) st → length (words n st) ≡ n
  long n s r st h = (words_top At m kind n s r st h).long

  op_long : (s : Start) (pc : ℕ) (sh : Shape) (st : List Item) (op : Op) → Led At (op_rule code s pc sh op) sh → Fits At m kind s sh st → length (words (operands_of op) st) ≡ operands_of op
  op_long s pc sh st (lit w) d h = refl
  op_long s pc sh st (local i) d h = refl
  op_long s pc sh st (box_get i) d h = refl
  op_long s pc sh st (global_get g) d h = refl
  op_long s pc sh st (box_set i) d h = long 1 s d.rest st (taken code so m kind names s sh st (op_rule code s pc sh (box_set i)) d h)
  op_long s pc sh st (global_set g) d h = long 1 s d.rest st (taken code so m kind names s sh st (op_rule code s pc sh (global_set g)) d h)
  op_long s pc sh st (branch l) d h = long 1 s d.rest st (taken code so m kind names s sh st (op_rule code s pc sh (branch l)) d h)
  op_long s pc sh st (jump l) d h = refl
  op_long s pc sh st drop d h = refl
  op_long s pc sh st (slide n) d h = refl
  op_long s pc sh st (bind n mask) d h = long n s d.rest st (taken code so m kind names s sh st (op_rule code s pc sh (bind n mask)) d h)
  op_long s pc sh st (call l n mask) d h = long n s d.rest st (taken code so m kind names s sh st (op_rule code s pc sh (call l n mask)) d h)
  op_long s pc sh st return d h = long 1 s d.rest st (taken code so m kind names s sh st (op_rule code s pc sh return) d h)
  op_long s pc sh st (close n mask is l) d h = refl
  op_long s pc sh st (funcall n) d h = long (suc n) s d.rest st (taken code so m kind names s sh st (op_rule code s pc sh (funcall n)) d h)
  op_long s pc sh st (funcall_drop n) d h = long (suc n) s d.rest st (taken code so m kind names s sh st (op_rule code s pc sh (funcall_drop n)) d h)
  op_long s pc sh st (touch n) d h = long n s d.rest st (taken code so m kind names s sh st (op_rule code s pc sh (touch n)) d h)
  op_long s pc sh st (qlet starts t b) d h = long 1 s d.rest st (taken code so m kind names s sh st (op_rule code s pc sh (qlet starts t b)) d h)
  op_long s pc sh st join d h = refl
  op_long s pc sh st (qlambda n mask is l) d h = long 1 s d.rest st (taken code so m kind names s sh st (op_rule code s pc sh (qlambda n mask is l)) d h)
  op_long s pc sh st (catch l) d h = long 1 s d.rest st (taken code so m kind names s sh st (op_rule code s pc sh (catch l)) d h)
  op_long s pc sh st (qcatch l) d h = long 1 s d.rest st (taken code so m kind names s sh st (op_rule code s pc sh (qcatch l)) d h)
  op_long s pc sh st exit d h = long 1 s (catching ∷ d.rest) st (taken code so m kind names s sh st (op_rule code s pc sh exit) d h)
  op_long s pc sh st throw d h = long 2 s d.rest st (taken code so m kind names s sh st (op_rule code s pc sh throw) d h)
  op_long s pc sh st (protect l) d h = refl
  op_long s pc sh st leave d h = long 1 s (protecting ∷ d.rest) st (taken code so m kind names s sh st (op_rule code s pc sh leave) d h)
  op_long s pc sh st end_clean d h = long 1 s (cleaning ∷ (value ∷ d.rest)) st (taken code so m kind names s sh st (op_rule code s pc sh end_clean) d h)
  op_long s pc sh st (prim n) d h = long (operand_count (operator_of n)) s d.rest st (taken code so m kind names s sh st (op_rule code s pc sh (prim n)) d h)
  op_long s pc sh st cons d h = long 2 s d.rest st (taken code so m kind names s sh st (op_rule code s pc sh cons) d h)
  op_long s pc sh st print d h = long 1 s d.rest st (taken code so m kind names s sh st (op_rule code s pc sh print) d h)
  op_long s pc sh st end d h = refl

  running_long : (pc : ℕ) (st : List Item) (op : Op) (at : ℕ) → slice_get code.instructions pc ≡ Some (instruction op at) → IsRunning At m code.instructions kind pc st → length (words (operands_of op) st) ≡ operands_of op
  running_long pc st op at e r =
      let d = led_is At (op_rule code r.start pc r.shape op) r.shape (subst (λ o. Leads At (after code r.start pc r.shape o)) e (so.kept r.start pc r.shape r.here)) in
      op_long r.start pc r.shape st op d r.fits

  standing_long : (t : Point) → IsStanding At m code.instructions kind t → HasOperands code t
  standing_long t h op at e i = running_long t.place t.stack op at i (subst (λ state. IsStandingIn At m code.instructions kind state t.place t.stack) e h)

module _ (code : Code) (so : Sound code) (names : List (List ℕ)) (limits : Limits) (w : World Point Entry) (p : ℕ) (q : Process Point) where
  abbrev M : Machine Point Entry
  M = code_machine code.instructions

  -- A process that can step stands in its place's shape, and doesn't wait for ever.
  stands : IsSoundWorld code so w → numbered w.procs p ≡ Some q → can_step M names limits p q w ≡ true → IsStanding (Has so.table) (made_of w) code.instructions q.kind q.thread
  stands s e c =
      ⊎_elim
      (λ (t : q.ended ≡ true). let bad : false ≡ true = subst (λ z. not z ≡ true) t (and_left (not q.ended) (is_ready M names limits p q w (M.want q.thread)) c) in absurd cc)
      (λ (h : IsStanding (Has so.table) (made_of w) code.instructions q.kind q.thread). h)
      (each_numbered (IsProcess code so (made_of w)) w.procs p q e s.procs_are).2

  is_off : can_step M names limits p q w ≡ true → IsOff q.thread.state q.thread.stack
  is_off c =
      ⊎_elim
      (λ (o : IsOff q.thread.state q.thread.stack). o)
      (λ (o : M.want q.thread ≡ rests). let bad : false ≡ true = subst (λ u. is_ready M names limits p q w u ≡ true) o (and_right (not q.ended) (is_ready M names limits p q w (M.want q.thread)) c) in absurd cc)
      (off_or_rests code so q.thread.state q.thread.place q.thread.stack)

  pub asked_there : IsSoundWorld code so w → numbered w.procs p ≡ Some q → can_step M names limits p q w ≡ true → IsAsked (made_of w) q.kind (M.want q.thread)
  asked_there s e c = asked code so (made_of w) q.kind s.names q.thread (stands s e c) (is_off c)

  pub operands_there : IsSoundWorld code so w → numbered w.procs p ≡ Some q → can_step M names limits p q w ≡ true → HasOperands code q.thread
  operands_there s e c = standing_long code so (made_of w) q.kind s.names q.thread (stands s e c)

-- What is asked is a fact that is there or not, whichever way code is known to be sound.
number_prop : (n most : ℕ) → IsProp (IsNumber n most)
number_prop n most = hlevel (le_prop)

module _ (m : Made) where
  made_prop : (w : Word) → IsProp (IsMade m w)
  made_prop (integer z) = hlevel
  made_prop (symbol n) = hlevel
  made_prop (pair n) = hlevel (le_prop)
  made_prop (closure n) = number_prop n m.closures
  made_prop (process_closure n) = number_prop n m.servers
  made_prop (future n) = number_prop n m.futures

  are_made_prop : (ws : List Word) → IsProp (AreMade m ws)
  are_made_prop [] = hlevel
  are_made_prop (w ∷ ws) = let a = made_prop w in let b = are_made_prop ws in hlevel (a, b)

module _ (m : Made) (kind : Kind) where
  place_prop : (place : Place) → IsProp (IsPlace m kind place)
  place_prop held = hlevel
  place_prop (box n) = hlevel (le_prop)
  place_prop (global g) = hlevel (le_prop)

  store_prop : (place : Place) → IsProp (IsStore m kind place)
  store_prop held = hlevel
  store_prop (box n) = hlevel (le_prop)
  store_prop (global g) = hlevel (le_prop)

  kind_main_prop : (k : Kind) → IsProp (IsMain k)
  kind_main_prop world_main = hlevel
  kind_main_prop (world_child f) = hlevel
  kind_main_prop (serving n) = hlevel

  kind_child_prop : (k : Kind) → IsProp (IsChild k)
  kind_child_prop world_main = hlevel
  kind_child_prop (world_child f) = hlevel
  kind_child_prop (serving n) = hlevel

  kind_serving_prop : (k : Kind) → IsProp (IsServing k)
  kind_serving_prop world_main = hlevel
  kind_serving_prop (world_child f) = hlevel
  kind_serving_prop (serving n) = hlevel

  asked_prop : (want : Want) → IsProp (IsAsked m kind want)
  asked_prop (awaits f at) = number_prop f m.futures
  asked_prop takes_literal = hlevel
  asked_prop (reads place at) = place_prop place
  asked_prop (stores place w) = let a = store_prop place in let b = made_prop m w in hlevel (a, b)
  asked_prop branches = hlevel
  asked_prop (computes o ws at) = let a = are_made_prop m ws in hlevel (a, ℕ_set)
  asked_prop (prints w) = made_prop m w
  asked_prop (binds bs ws) = let a = are_made_prop m ws in hlevel (a, ℕ_set)
  asked_prop (calls bs ws) = let a = are_made_prop m ws in hlevel (a, ℕ_set)
  asked_prop returns = hlevel
  asked_prop closes = hlevel
  asked_prop (funcalls w ws at) = let a = made_prop m w in let b = are_made_prop m ws in hlevel (a, b)
  asked_prop (chooses w) = made_prop m w
  asked_prop (makes w) = made_prop m w
  asked_prop (sends k ws used at) = let a = number_prop k m.servers in let b = are_made_prop m ws in hlevel (a, b)
  asked_prop takes_call = kind_serving_prop kind
  asked_prop (replies w) = let a = kind_serving_prop kind in let b = made_prop m w in hlevel (a, b)
  asked_prop (opens w waits) = made_prop m w
  asked_prop (exits c) = hlevel (le_prop)
  asked_prop (throws tag w at) = let a = made_prop m tag in let b = made_prop m w in hlevel (a, b)
  asked_prop protects = hlevel
  asked_prop (begins u) = hlevel
  asked_prop (finishes u) = hlevel
  asked_prop (leaves c) = hlevel (le_prop)
  asked_prop (ends last_form) = kind_main_prop kind
  asked_prop (ends (with_word w)) = let a = kind_child_prop kind in let b = made_prop m w in hlevel (a, b)
  asked_prop (ends unwound) = hlevel
  asked_prop rests = hlevel

-- Along a run of code that is known to be sound.
module _ (code : Code) (so : ∥ Sound code ∥₁) (names : List (List ℕ)) (limits : Limits) (schedule : List ℕ) (w : World Point Entry) (p : ℕ) (q : Process Point)
    (reached : run (code_machine code.instructions) names limits (code_world code) schedule ≡ Some w) (there : numbered w.procs p ≡ Some q)
    (can : can_step (code_machine code.instructions) names limits p q w ≡ true) where
  sound_world : (z : Sound code) → IsSoundWorld code z w
  sound_world z = subst (IsSome code z) reached (runs_sound code z names limits schedule)

  pub asked_along : IsAsked (made_of w) q.kind ((code_machine code.instructions).want q.thread)
  asked_along = ∥∥₁_elim so (asked_prop (made_of w) q.kind _) (λ z. asked_there code z names limits w p q (sound_world z) there can)

  pub operands_along : HasOperands code q.thread
  operands_along = ∥∥₁_elim so (hlevel (ℕ_set)) (λ z. operands_there code z names limits w p q (sound_world z) there can)

  pub tick_along : is_some (tick (code_machine code.instructions) names limits w p) ≡ true
  tick_along = ∥∥₁_elim so (Bool-set _ _) (λ z. tick_there code z names limits w p q (sound_world z) there can)
