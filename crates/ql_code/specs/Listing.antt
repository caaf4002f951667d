-- The listing of a code.
use Rattle.std.specs.Prelude.{ℕ, ◌+◌, List, [], ◌∷◌, ◌++◌, length, codes, decimal, slice_index_or, Option, Some, None}
use Rattle.ql_world.specs.declared.word.Word.{Word}
use Rattle.ql_world.specs.Text.{value_text, and_numbers}
use Rattle.ql_code.specs.Code.{Op, lit, local, box_get, global_get, box_set, global_set, branch, jump, drop, slide, bind, call, return, close, funcall, funcall_drop, touch, qlet, join, qlambda, catch, qcatch, exit, throw, protect, leave, end_clean, prim, cons, print, end, Instruction, Code}

abbrev pub name_of : Op → List ℕ
name_of (lit w) = codes "lit"
name_of (local i) = codes "local"
name_of (box_get i) = codes "boxget"
name_of (global_get g) = codes "globalget"
name_of (box_set i) = codes "boxset"
name_of (global_set g) = codes "globalset"
name_of (branch l) = codes "branch"
name_of (jump l) = codes "jump"
name_of drop = codes "drop"
name_of (slide n) = codes "slide"
name_of (bind n mask) = codes "bind"
name_of (call l n mask) = codes "call"
name_of return = codes "return"
name_of (close n mask is l) = codes "close"
name_of (funcall n) = codes "funcall"
name_of (funcall_drop n) = codes "funcalldrop"
name_of (touch n) = codes "touch"
name_of (qlet ls t b) = codes "qlet"
name_of join = codes "join"
name_of (qlambda n mask is l) = codes "qlambda"
name_of (catch l) = codes "catch"
name_of (qcatch l) = codes "qcatch"
name_of exit = codes "exit"
name_of throw = codes "throw"
name_of (protect l) = codes "protect"
name_of leave = codes "leave"
name_of end_clean = codes "endclean"
name_of (prim s) = codes "prim"
name_of cons = codes "cons"
name_of print = codes "print"
name_of end = codes "end"

-- the numbers of a closure that is made
abbrev pub made : (count mask : ℕ) → List ℕ → ℕ → List ℕ
made n mask is l = (n ∷ mask ∷ []) ++ (length is ∷ (is ++ l ∷ []))

module _ (names : List (List ℕ)) (quoted : List (Word × Word)) where
  -- what stands after the name
  abbrev pub operands_text : Op → List ℕ
  operands_text (lit w) = 32 ∷ value_text names quoted w
  operands_text (prim s) = 32 ∷ slice_index_or names s []
  operands_text (local i) = and_numbers (i ∷ [])
  operands_text (box_get i) = and_numbers (i ∷ [])
  operands_text (global_get g) = and_numbers (g ∷ [])
  operands_text (box_set i) = and_numbers (i ∷ [])
  operands_text (global_set g) = and_numbers (g ∷ [])
  operands_text (branch l) = and_numbers (l ∷ [])
  operands_text (jump l) = and_numbers (l ∷ [])
  operands_text drop = []
  operands_text (slide n) = and_numbers (n ∷ [])
  operands_text (bind n mask) = and_numbers (n ∷ mask ∷ [])
  operands_text (call l n mask) = and_numbers (l ∷ n ∷ mask ∷ [])
  operands_text return = []
  operands_text (close n mask is l) = and_numbers (made n mask is l)
  operands_text (funcall n) = and_numbers (n ∷ [])
  operands_text (funcall_drop n) = and_numbers (n ∷ [])
  operands_text (touch n) = and_numbers (n ∷ [])
  operands_text (qlet ls t b) = and_numbers (length ls ∷ (ls ++ t ∷ b ∷ []))
  operands_text join = []
  operands_text (qlambda n mask is l) = and_numbers (made n mask is l)
  operands_text (catch l) = and_numbers (l ∷ [])
  operands_text (qcatch l) = and_numbers (l ∷ [])
  operands_text exit = []
  operands_text throw = []
  operands_text (protect l) = and_numbers (l ∷ [])
  operands_text leave = []
  operands_text end_clean = []
  operands_text cons = []
  operands_text print = []
  operands_text end = []

  abbrev pub op_text : Op → List ℕ
  op_text op = name_of op ++ operands_text op

  -- the place, the instruction and its offset
  abbrev pub line_of : ℕ → Instruction → List ℕ
  line_of place i = decimal place ++ codes " " ++ op_text i.op ++ codes " @" ++ decimal i.at ++ codes "\n"

  abbrev pub lines_from : ℕ → List Instruction → List ℕ
  lines_from place [] = []
  lines_from place (i ∷ is) = line_of place i ++ lines_from (place + 1) is

  abbrev pub line_at : ℕ → Option Instruction → List ℕ
  line_at place None = []
  line_at place (Some i) = line_of place i

-- a line for each instruction
abbrev pub listing : List (List ℕ) → Code → List ℕ
listing names code = lines_from names code.quoted 0 code.instructions
