-- The words that an instruction takes or touches.
use Rattle.std.specs.Prelude.{◌≡◌, ℕ, suc, true, List, length, slice_get, Some}
use Rattle.ql_base.specs.declared.limits.Limits.{Limits}
use Rattle.ql_world.specs.Operator.{operator_of}
use Rattle.ql_world.specs.World.{World, numbered}
use Rattle.ql_world.specs.declared.world.Process.{Process}
use Rattle.ql_world.specs.Tick.{can_step}
use Rattle.ql_world.specs.Run.{run}
use Rattle.ql_code.specs.Sound.{Sound}
use Rattle.ql_code.specs.Code.{Op, box_set, global_set, branch, bind, call, return, funcall, funcall_drop, touch, qlet, qlambda, catch, qcatch, exit, throw, leave, end_clean, prim, cons, print, instruction, Code}
use Rattle.ql_code.specs.Machine.{running, Point, Entry, words, operand_count, code_machine, code_world}

-- How many words on top of the stack it takes or touches. A `join` touches one where it ends its child.
abbrev pub operands_of : Op → ℕ
operands_of (box_set i) = 1
operands_of (global_set g) = 1
operands_of (branch l) = 1
operands_of (bind n mask) = n
operands_of (call l n mask) = n
operands_of return = 1
operands_of (funcall n) = suc n
operands_of (funcall_drop n) = suc n
operands_of (touch n) = n
operands_of (qlet starts t b) = 1
operands_of (qlambda n mask is l) = 1
operands_of (catch l) = 1
operands_of (qcatch l) = 1
operands_of exit = 1
operands_of throw = 2
operands_of leave = 1
operands_of end_clean = 1
operands_of (prim s) = operand_count (operator_of s)
operands_of cons = 2
operands_of print = 1
operands_of op = 0

-- Where the process is at an instruction, so many words are on top of its stack.
abbrev pub HasOperands : Code → Point → Type 0
HasOperands code t =
    (op : Op) (at : ℕ) → t.state ≡ running → slice_get code.instructions t.place ≡ Some (instruction op at) → length (words (operands_of op) t.stack) ≡ operands_of op

-- A run of sound code comes to this world, where this process can step.
pub record IsReachedOn (code : Code) (names : List (List ℕ)) (limits : Limits) (schedule : List ℕ) (w : World Point Entry) (p : ℕ) (q : Process Point) : Type 0 where
  pub sound : ∥ Sound code ∥₁
  pub reached : run (code_machine code.instructions) names limits (code_world code) schedule ≡ Some w
  pub there : numbered w.procs p ≡ Some q
  pub can : can_step (code_machine code.instructions) names limits p q w ≡ true
