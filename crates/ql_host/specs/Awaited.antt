-- Which future an instruction waits for.
use Rattle.std.specs.Prelude.{ℕ, suc, List, Option, Some, None}
use Rattle.ql_world.specs.Word.{first_future}
use Rattle.ql_world.specs.Operator.{operator_of}
use Rattle.ql_world.specs.Touch.{touched_by, touched_in_call}
use Rattle.ql_world.specs.Idle.{in_cleanup}
use Rattle.ql_code.specs.declared.code.Op.{Op}
use Rattle.ql_code.specs.declared.code.Op.TheVariants.{Branch as branch, Return as return, Funcall as funcall, FuncallDrop as funcall_drop, Touch as touch, Qlet as qlet, Join as join, Qlambda as qlambda, Catch as catch, Qcatch as qcatch, Throw as throw, Prim as prim, Print as print}
use Rattle.ql_code.specs.declared.mark.Mark.{Mark}
use Rattle.ql_code.specs.declared.mark.Mark.TheVariants.{Base as base}
use Rattle.ql_code.specs.Machine.{Item, words, top_mark, cleanups_on, operand_count}

-- a return at the bottom of a process replies
abbrev pub replied : Option Mark → Option ℕ → Option ℕ
replied (Some (base j)) f = f
replied k f = None

-- the leftmost future among the words that it touches
abbrev pub awaited : Op → List Item → Option ℕ
awaited (branch l) st = first_future (words 1 st)
awaited return st = replied (top_mark st) (first_future (words 1 st))
awaited (funcall n) st = first_future (touched_in_call (in_cleanup (cleanups_on st)) (words (suc n) st))
awaited (funcall_drop n) st = first_future (touched_in_call (in_cleanup (cleanups_on st)) (words (suc n) st))
awaited (touch n) st = first_future (words n st)
awaited (qlet starts t b) st = first_future (words 1 st)
awaited join st = first_future (words 1 st)
awaited (qlambda n mask is l) st = first_future (words 1 st)
awaited (catch l) st = first_future (words 1 st)
awaited (qcatch l) st = first_future (words 1 st)
awaited throw st = first_future (words 2 st)
awaited (prim s) st = first_future (touched_by (operator_of s) (words (operand_count (operator_of s)) st))
awaited print st = first_future (words 1 st)
awaited op st = None

-- of so many words on top of the stack
abbrev pub awaited_among : Op → ℕ
awaited_among (funcall n) = suc n
awaited_among (funcall_drop n) = suc n
awaited_among (touch n) = n
awaited_among throw = 2
awaited_among (prim s) = operand_count (operator_of s)
awaited_among op = 1
