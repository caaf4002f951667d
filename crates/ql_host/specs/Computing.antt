-- A process at an instruction that computes.
use Rattle.std.specs.Prelude.{◌≡◌, ◌+◌, ◌∷◌, ℕ, Some, drop as without_first}
use Rattle.ql_world.specs.declared.word.Word.{Word}
use Rattle.ql_world.specs.declared.operator.Operator.{Operator}
use Rattle.ql_world.specs.Machine.{computes, got}
use Rattle.ql_code.specs.declared.code.Op.{Op}
use Rattle.ql_code.specs.Machine.{word, words, operand_count, op_want, op_go, settled}
use Rattle.ql_proc.specs.declared.process.Proc.{Proc}
use Rattle.ql_tree.specs.declared.person.Person.{Person}
use Rattle.ql_host.specs.Acting.{StandsAt}
use Rattle.ql_host.specs.declared.setting.Setting.{Setting}
use Rattle.ql_host.specs.declared.shared.Shared.{Shared}

-- It computes by this operator, and goes on with the result in place of the operands.
pub record IsComputing (s : Setting) (p : ℕ) (r : Person) (h : Shared) (t : Proc) (op : Op) (at : ℕ) (o : Operator) : Type 0 where
  pub stands : StandsAt s p r h t op at
  pub wants : op_want op at t.stack.items ≡ computes o (words (operand_count (Some o)) t.stack.items) at
  pub goes : (w : Word) → op_go s.code.now.instructions op (got w) t.place t.stack.items
      ≡ settled s.code.now.instructions (t.place + 1) (word w ∷ without_first (operand_count (Some o)) t.stack.items)
