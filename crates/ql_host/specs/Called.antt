-- Calls of a function under its arguments.
use Rattle.std.specs.Prelude.{ℕ, suc, Bool, true, false, if◌then◌else◌, List, ◌∷◌, Option, Some, None}
use Rattle.ql_world.specs.declared.word.Word.{Word}
use Rattle.ql_world.specs.declared.word.Word.TheVariants.{Proc as process_closure}
use Rattle.ql_world.specs.Idle.{in_cleanup}
use Rattle.ql_code.specs.declared.code.Op.{Op}
use Rattle.ql_code.specs.declared.code.Op.TheVariants.{Funcall as funcall, FuncallDrop as funcall_drop}
use Rattle.ql_code.specs.Machine.{Item, words, cleanups_on}

-- the call of the word under so many arguments, whose value is used or isn't
abbrev pub call_op : (used : Bool) → ℕ → Op
call_op true n = funcall n
call_op false n = funcall_drop n

abbrev pub process_closure_first : List Word → Option ℕ
process_closure_first (process_closure k ∷ ws) = Some k
process_closure_first ws = None

-- The process closure that a call with so many arguments is sent to, if any. A running cleanup sends none.
abbrev pub sent_to : ℕ → List Item → Option ℕ
sent_to n st = if in_cleanup (cleanups_on st) then None else process_closure_first (words (suc n) st)
