-- Sound code: at each place, from each start, it is known what stands on the frame, and each instruction keeps that.
use Rattle.std.specs.Prelude.{◌≡◌, ℕ, suc, ◌+◌, ◌-◌, ◌^◌, ◌==◌, leb, nat_lt, Bool, true, false, not, ◌&&◌, ◌||◌, if◌then◌else◌, List, [], ◌∷◌, ◌++◌, length, map, take, drop as without_first, replicate, Option, Some, None, is_some, option_map, slice_get}
use Rattle.ql_world.specs.declared.word.Word.{Word}
use Rattle.ql_world.specs.declared.word.Word.TheVariants.{Int as integer, Sym as symbol, Pair as pair}
use Rattle.ql_world.specs.Operator.{operator_of}
use Rattle.ql_code.specs.Code.{Op, lit, local, box_get, global_get, box_set, global_set, branch, jump, drop, slide, bind, call, return, close, funcall, funcall_drop, touch, qlet, join, qlambda, catch, qcatch, exit, throw, protect, leave, end_clean, prim, cons, print, end, Instruction, unmasked, FunEntry, Code}
use Rattle.ql_code.specs.Machine.{operand_count}

-- what stands on a frame: a slot with a word or with a box, or a mark
pub data Part : Type 0 where
  value : Part
  boxed : Part
  catching : Part
  protecting : Part
  cleaning : Part

-- The topmost part first. So a mark stands over the slots that are under it.
abbrev pub Shape : Type 0
Shape = List Part

-- Where a frame begins: at place 0, at the body of a function or closure, or at a value of a `qlet`, whose own `join`
-- has this place.
pub data Start : Type 0 where
  main : Start
  body : (place : ℕ) → Start
  child : (place own : ℕ) → Start

-- a place that a frame from this start comes to, and what then stands on the frame
pub record Target : Type 0 where
  pub start : Start
  pub place : ℕ
  pub shape : Shape

abbrev pub target : Start → ℕ → Shape → Target
target s pc sh = record { start = s; place = pc; shape = sh }

abbrev pub is_slot : Part → Bool
is_slot value = true
is_slot boxed = true
is_slot p = false

abbrev pub are_slots : List Part → Bool
are_slots [] = true
are_slots (p ∷ ps) = is_slot p && are_slots ps

abbrev pub slots_in : Shape → Shape
slots_in [] = []
slots_in (p ∷ ps) = if is_slot p then p ∷ slots_in ps else slots_in ps

-- counted from the bottom
abbrev pub part_at : Shape → ℕ → Option Part
part_at [] i = None
part_at (p ∷ ps) i = if i == length ps then Some p else part_at ps i

abbrev pub is_value : Option Part → Bool
is_value (Some value) = true
is_value _ = false

abbrev pub is_box : Option Part → Bool
is_box (Some boxed) = true
is_box _ = false

abbrev pub values : ℕ → Shape
values n = replicate n value

abbrev pub part_of : Bool → Part
part_of b = if b then boxed else value

-- the parts on top of others, the first of them lowest
abbrev pub over : List Part → Shape → Shape
over [] sh = sh
over (p ∷ ps) sh = over ps (p ∷ sh)

-- the slots of so many variables
abbrev pub variables : (count mask : ℕ) → List Part
variables n mask = map part_of (unmasked n mask)

abbrev pub is_mask : (count mask : ℕ) → Bool
is_mask n mask = leb n 16 && nat_lt mask (2 ^ n)

abbrev pub or_value : Option Part → Part
or_value None = value
or_value (Some p) = p

abbrev pub have_all : Shape → List ℕ → Bool
have_all sh [] = true
have_all sh (i ∷ is) = is_some (part_at sh i) && have_all sh is

abbrev pub parts_at : Shape → List ℕ → List Part
parts_at sh is = map (λ i. or_value (part_at sh i)) is

-- a word that code may name: an integer, a symbol or one of so many quoted pairs
abbrev pub is_constant : ℕ → Word → Bool
is_constant n (integer z) = true
is_constant n (symbol m) = true
is_constant n (pair m) = nat_lt m n
is_constant n w = false

abbrev pub is_entry : List FunEntry → (place count mask : ℕ) → Bool
is_entry [] l n mask = false
is_entry (e ∷ es) l n mask = (e.place == l && (e.params == n && e.mask == mask)) || is_entry es l n mask

abbrev pub is_main : Start → Bool
is_main main = true
is_main s = false

abbrev pub is_body : Start → Bool
is_body (body l) = true
is_body s = false

-- a child's own `join`
abbrev pub is_own : Start → ℕ → Bool
is_own (child l own) pc = own == pc
is_own s pc = false

abbrev pub same_part : Part → Part → Bool
same_part value value = true
same_part boxed boxed = true
same_part catching catching = true
same_part protecting protecting = true
same_part cleaning cleaning = true
same_part p q = false

-- the shape under these parts, where they stand on its top
abbrev pub under : List Part → Shape → Option Shape
under [] sh = Some sh
under (p ∷ ps) [] = None
under (p ∷ ps) (q ∷ sh) = if same_part p q then under ps sh else None

-- What an instruction asks: the parts that it takes from the top, and what else must hold. And the places that it goes
-- on at and the starts that it names, by what is left under these parts.
pub record Rule : Type 0 where
  pub takes : List Part
  pub asks : Bool
  pub goes : Shape → List Target

abbrev pub rule : List Part → Bool → (Shape → List Target) → Rule
rule takes asks goes = record { takes = takes; asks = asks; goes = goes }

-- the values of a `qlet`, the n-th one under so many values before it
abbrev pub children : ℕ → List ℕ → ℕ → Shape → List Target
children n [] t sh = []
children n (l ∷ []) t sh = target (child l (t - 2)) l (values n ++ slots_in sh) ∷ []
children n (l ∷ (k ∷ ls)) t sh = target (child l (k - 1)) l (values n ++ slots_in sh) ∷ children (n + 1) (k ∷ ls) t sh

-- of an instruction at this place, on a frame from this start with this shape
module _ (code : Code) (s : Start) (pc : ℕ) (sh : Shape) where
  abbrev to : ℕ → Shape → Target
  to = target s

  abbrev gives : Shape → List Target
  gives r = to (pc + 1) (value ∷ r) ∷ []

  -- the body of a closure is next to the instruction that makes it
  abbrev made : (count mask : ℕ) → List ℕ → ℕ → Shape → List Target
  made n mask is l r = to l (value ∷ r) ∷ (target (body (pc + 1)) (pc + 1) (over (variables n mask ++ parts_at (slots_in sh) is) []) ∷ [])

  abbrev pub op_rule : Op → Rule
  op_rule (lit w) = rule [] (is_constant (length code.quoted) w) gives
  op_rule (local i) = rule [] (is_value (part_at (slots_in sh) i)) gives
  op_rule (box_get i) = rule [] (is_box (part_at (slots_in sh) i)) gives
  op_rule (global_get g) = rule [] (nat_lt g code.globals) gives
  op_rule (box_set i) = rule (values 1) (is_box (part_at (slots_in sh) i)) gives
  op_rule (global_set g) = rule (values 1) (nat_lt g code.globals) gives
  op_rule (branch l) = rule (values 1) true (λ r. to l r ∷ (to (pc + 1) r ∷ []))
  op_rule (jump l) = rule [] (nat_lt pc l) (λ r. to l r ∷ [])
  op_rule drop = rule (take 1 sh) (are_slots (take 1 sh) && (length (take 1 sh) == 1)) (λ r. to (pc + 1) r ∷ [])
  op_rule (slide n) =
      let ps = take n (without_first 1 sh) in
      rule (value ∷ ps) (are_slots ps && (length ps == n)) gives
  op_rule (bind n mask) = rule (values n) (is_mask n mask) (λ r. to (pc + 1) (over (variables n mask) r) ∷ [])
  op_rule (call l n mask) = rule (values n) (is_entry code.entries l n mask) gives
  op_rule return = rule (values 1) (is_body s && are_slots sh) (λ r. [])
  op_rule (close n mask is l) = rule [] (is_mask n mask && have_all (slots_in sh) is) (made n mask is l)
  -- a call returns past the next place, and a send goes to it
  op_rule (funcall n) = rule (values (suc n)) (leb n 16) (λ r. to (pc + 1) (value ∷ r) ∷ (to (pc + 2) (value ∷ r) ∷ []))
  op_rule (funcall_drop n) = rule (values (suc n)) (leb n 16) gives
  op_rule (touch n) = rule (values n) true (λ r. to (pc + 1) sh ∷ [])
  op_rule (qlet starts t b) =
      rule (values 1) (leb (length starts) 16)
      (λ r. to (pc + 1) r ∷ (to t (values (length starts) ++ r) ∷ (to b (values (length starts) ++ r) ∷ children 0 starts t r)))
  op_rule join = if is_own s pc then rule (values 1) (are_slots sh) (λ r. []) else rule [] true (λ r. to (pc + 1) r ∷ [])
  op_rule (qlambda n mask is l) = rule (values 1) (is_mask n mask && have_all (slots_in sh) is) (made n mask is l)
  op_rule (catch l) = rule (values 1) true (λ r. to (pc + 1) (catching ∷ r) ∷ (to l (value ∷ r) ∷ []))
  op_rule (qcatch l) = rule (values 1) true (λ r. to (pc + 1) (catching ∷ r) ∷ (to l (value ∷ r) ∷ []))
  op_rule exit = rule (value ∷ (catching ∷ [])) true gives
  op_rule throw = rule (values 2) true gives
  op_rule (protect l) = rule [] true (λ r. to (pc + 1) (protecting ∷ r) ∷ (to l (cleaning ∷ (value ∷ r)) ∷ []))
  op_rule leave = rule (value ∷ (protecting ∷ [])) true (λ r. to (pc + 1) (cleaning ∷ (value ∷ r)) ∷ [])
  op_rule end_clean = rule (value ∷ (cleaning ∷ (value ∷ []))) true gives
  op_rule (prim n) = rule (values (operand_count (operator_of n))) (is_some (operator_of n) && not (n == 19)) gives
  op_rule cons = rule (values 2) true gives
  op_rule print = rule (values 1) true gives
  op_rule end = rule [] (is_main s && are_slots sh) (λ r. [])

-- where a rule leads to from a shape, if it may be used there
abbrev pub led : Rule → Shape → Option (List Target)
led r sh = if r.asks then option_map r.goes (under r.takes sh) else None

-- the step of a shape along the instruction at its place
abbrev pub after : Code → Start → ℕ → Shape → Option Instruction → Option (List Target)
after code s pc sh None = None
after code s pc sh (Some i) = led (op_rule code s pc sh i.op) sh

module _ (At : Start → ℕ → Shape → Type 0) where
  abbrev pub All : List Target → Type 0
  All [] = Unit {0}
  All (t ∷ ts) = At t.start t.place t.shape × All ts

  abbrev pub Leads : Option (List Target) → Type 0
  Leads None = ⊥
  Leads (Some ts) = All ts

-- the shapes of places, by start and place
abbrev pub Table : Type 0
Table = Start → ℕ → Option Shape

abbrev pub Has : Table → Start → ℕ → Shape → Type 0
Has t s pc sh = t s pc ≡ Some sh

abbrev pub is_constant_pair : ℕ → Word × Word → Bool
is_constant_pair n p = is_constant n p.0 && is_constant n p.1

-- a quoted pair names only pairs before it
abbrev pub are_constant : ℕ → List (Word × Word) → Bool
are_constant n [] = true
are_constant n (p ∷ ps) = is_constant_pair n p && are_constant (n + 1) ps

abbrev pub Enters : Table → List FunEntry → Type 0
Enters t [] = Unit {0}
Enters t (e ∷ es) = (is_mask e.params e.mask ≡ true) × Has t (body e.place) e.place (over (variables e.params e.mask) []) × Enters t es

-- There is a table with place 0 and the functions, and it is kept along each instruction of the code.
pub record Sound (code : Code) : Type 0 where
  pub table : Table
  pub begins : Has table main 0 []
  pub enters : Enters table code.entries
  pub kept : (s : Start) (pc : ℕ) (sh : Shape) → Has table s pc sh → Leads (Has table) (after code s pc sh (slice_get code.instructions pc))
  pub quoted : are_constant 0 code.quoted ≡ true

abbrev pub first_place : Start → ℕ
first_place main = 0
first_place (body pc) = pc
first_place (child pc own) = pc

abbrev pub is_same_kind : Start → Start → Bool
is_same_kind main main = true
is_same_kind (body pc) (body q) = true
is_same_kind (child pc own) (child q j) = true
is_same_kind s r = false

-- an instruction that a frame may begin with: it isn't silent, and takes and touches no word
abbrev pub may_start : Op → Bool
may_start (jump l) = false
may_start drop = false
may_start (slide n) = false
may_start join = false
may_start (touch n) = false
may_start return = false
may_start (branch l) = false
may_start (funcall n) = false
may_start (funcall_drop n) = false
may_start (qlet starts t b) = false
may_start (qlambda n mask is l) = false
may_start (catch l) = false
may_start (qcatch l) = false
may_start throw = false
may_start (prim n) = false
may_start print = false
may_start op = true

abbrev pub starts_at : Option Instruction → Bool
starts_at None = false
starts_at (Some i) = may_start i.op

abbrev pub is_join : Op → Bool
is_join join = true
is_join op = false

abbrev pub joins_there : Option Instruction → Bool
joins_there None = false
joins_there (Some i) = is_join i.op

-- What no run needs, and compiled code has: a place has the same slots from each start; no place begins frames of two
-- kinds; frames begin with an instruction that may begin one; and a child's own `join` is there.
pub record IsStrict (code : Code) (t : Table) : Type 0 where
  pub slots : (s r : Start) (pc : ℕ) (sh other : Shape) → Has t s pc sh → Has t r pc other → slots_in sh ≡ slots_in other
  pub apart : (s r : Start) (sh other : Shape) → Has t s (first_place s) sh → Has t r (first_place r) other → first_place s ≡ first_place r → is_same_kind s r ≡ true
  pub heads : (s : Start) (sh : Shape) → Has t s (first_place s) sh → starts_at (slice_get code.instructions (first_place s)) ≡ true
  pub joins : (pc own : ℕ) (sh : Shape) → Has t (child pc own) pc sh → joins_there (slice_get code.instructions own) ≡ true

-- what is asked of code that no compiler made
pub record IsValid (code : Code) : Type 0 where
  pub sound : Sound code
  pub strict : IsStrict code sound.table
