-- Code: instructions, each with the offset of the core form that it belongs to.
use Rattle.std.specs.Prelude.{ℕ, zero, suc, ◌+◌, ◌*◌, ◌/◌, ◌%◌, ◌==◌, Bool, if◌then◌else◌, List, [], ◌∷◌}
use Rattle.ql_base.specs.declared.numbers.Offset.{Offset}
use Rattle.ql_world.specs.declared.word.Word.{Word}
pub use Rattle.ql_code.specs.declared.code.Op.{Op}
pub use Rattle.ql_code.specs.declared.code.Op.TheVariants.{Lit as lit, Local as local, BoxGet as box_get, GlobalGet as global_get, BoxSet as box_set, GlobalSet as global_set, Branch as branch, Jump as jump, Drop as drop, Slide as slide, Bind as bind, Call as call, Return as return, Close as close, Funcall as funcall, FuncallDrop as funcall_drop, Touch as touch, Qlet as qlet, Join as join, Qlambda as qlambda, Catch as catch, Qcatch as qcatch, Exit as exit, Throw as throw, Protect as protect, Leave as leave, EndClean as end_clean, Prim as prim, Cons as cons, Print as print, End as end}
pub use Rattle.ql_code.specs.declared.code.FunEntry.{FunEntry}

pub record Instruction : Type 0 where
  pub op : Op
  pub at : ℕ

abbrev pub instruction : Op → ℕ → Instruction
instruction op at = record { op = op; at = at }

abbrev pub bit : Bool → ℕ
bit b = if b then 1 else 0

abbrev pub mask_of : List Bool → ℕ
mask_of [] = 0
mask_of (b ∷ bs) = bit b + 2 * mask_of bs

-- which of so many variables are stored
abbrev pub unmasked : ℕ → ℕ → List Bool
unmasked zero mask = []
unmasked (suc n) mask = (mask % 2 == 1) ∷ unmasked n (mask / 2)

-- the code of a program, with its quoted pairs, its functions and the number of its globals
pub record Code : Type 0 where
  pub instructions : List Instruction
  pub quoted : List (Word × Word)
  pub entries : List FunEntry
  pub globals : ℕ

-- instructions of operations and their offsets
abbrev pub instructions_of : List Op → List Offset → List Instruction
instructions_of [] ns = []
instructions_of (o ∷ os) [] = []
instructions_of (o ∷ os) (n ∷ ns) = instruction o n.0 ∷ instructions_of os ns

-- code of its parts
abbrev pub code_of : List Op → List Offset → List (Word × Word) → List FunEntry → ℕ → Code
code_of ops offsets quoted entries globals = record {
  instructions = instructions_of ops offsets;
  quoted = quoted;
  entries = entries;
  globals = globals;
}
