-- How far the code of a program has come: these definitions serve proofs alone.
use Rattle.std.specs.Prelude.{◌≡◌, ℕ, ◌+◌, Bool, true, false, List, [], ◌∷◌, ◌++◌, length}
use Rattle.ql_expand.specs.Core.{Binder, Core, Node, Cores, Bounds, Function}
use Rattle.ql_expand.specs.ProgramView.{program_of}
use Rattle.ql_meaning.specs.Context.{Context, context_of, stored_among}
use Rattle.ql_code.specs.Code.{Instruction, instruction}
use Rattle.ql_code.specs.declared.code.Op.{Op}
use Rattle.ql_code.specs.declared.code.Op.TheVariants.{Bind as bind, Close as close, Drop as drop, Funcall as funcall, FuncallDrop as funcall_drop, Jump as jump, Qlambda as qlambda, Qlet as qlet, Return as return, Slide as slide, Touch as touch}
use Rattle.ql_compile.specs.Compile.{Scope, Places, body_scope, captured, caught_slots, code, code_of_cores, code_of_forms, code_of_function, code_of_functions, code_of_joined, code_of_node, code_of_tops, code_of_values, count, mask, places_from, places_of, size, with_variables}
use Rattle.ql_compile.specs.declared.emit.Emitter.{Emitter}

abbrev pub context_in : Emitter → Context
context_in e = context_of (program_of e.lookup.now.scoped.now.program)

abbrev pub places_in : Emitter → Places
places_in e = places_of (program_of e.lookup.now.scoped.now.program)

-- these instructions more
abbrev pub followed : Emitter → List Instruction → Emitter
followed e is = record e { output = e.output ++ is }

-- the slots of another frame
abbrev pub within : Emitter → Scope → Emitter
within e sc = record e { frame = sc }

-- These instructions are added, which depend on the slots and on the place where they begin. The slots are as before.
abbrev pub Emits : Emitter → Emitter → (Emitter → List Instruction) → Type 0
Emits old new is = new ≡ followed old (is old)

-- What the instruction at a place does is changed.
abbrev pub Fills : Emitter → Emitter → ℕ → Op → Type 0
Fills old new place op =
    (before after : List Instruction) (i : Instruction) → old.output ≡ before ++ i ∷ after → place ≡ length before
    → new ≡ record old { output = before ++ instruction op i.at ∷ after }

abbrev pub just : Op → ℕ → Emitter → List Instruction
just op at e = instruction op at ∷ []

abbrev pub core_code : Core → Emitter → List Instruction
core_code c e = code (context_in e) (places_in e) e.frame (length e.output) c

abbrev pub node_code : ℕ → Node → Emitter → List Instruction
node_code at n e = code_of_node (context_in e) (places_in e) e.frame (length e.output) at n

abbrev pub cores_code : Cores → Emitter → List Instruction
cores_code cs e = code_of_cores (context_in e) (places_in e) e.frame (length e.output) cs

abbrev pub values_code : Bounds → Emitter → List Instruction
values_code bs e = code_of_values (context_in e) (places_in e) e.frame (length e.output) bs

abbrev pub joined_code : Bounds → Emitter → List Instruction
joined_code bs e = code_of_joined (context_in e) (places_in e) e.frame (length e.output) bs

abbrev pub forms_code : ℕ → Cores → Emitter → List Instruction
forms_code at cs e = code_of_forms (context_in e) (places_in e) e.frame (length e.output) at cs

-- variables of the top words, and a body under them
abbrev pub under_code : ℕ → List Binder → Core → Emitter → List Instruction
under_code at bs c e =
    instruction (bind (length bs) (mask (context_in e) bs)) at
    ∷ (code (context_in e) (places_in e) (with_variables bs (stored_among (context_in e) bs) e.frame) (length e.output + 1) c
    ++ instruction (slide (length bs)) at ∷ [])

-- makes a closure, or a process closure
abbrev pub closing : Bool → ℕ → ℕ → List ℕ → ℕ → Op
closing false count mask slots next = close count mask slots next
closing true count mask slots next = qlambda count mask slots next

abbrev pub closure_code : ℕ → Bool → List Binder → Core → Emitter → List Instruction
closure_code at is_process ps c e =
    instruction (closing is_process (length ps) (mask (context_in e) ps) (caught_slots (captured (context_in e) e.frame ps c)) (length e.output + 1 + size c + 1)) at
    ∷ (code (context_in e) (places_in e) (body_scope (context_in e) e.frame ps c) (length e.output + 1) c ++ instruction return at ∷ [])

-- a drop between two forms
abbrev pub dropped : Bool → ℕ → List Instruction
dropped false at = []
dropped true at = instruction drop at ∷ []

abbrev pub tops_code : Cores → Emitter → List Instruction
tops_code cs e = code_of_tops (context_in e) (places_in e) (length e.output) cs

abbrev pub function_code : Function → Emitter → List Instruction
function_code f e = code_of_function (context_in e) (places_in e) (length e.output) f

abbrev pub functions_code : List Function → Emitter → List Instruction
functions_code fs e = code_of_functions (context_in e) (places_in e) (places_from (length e.output) fs)

-- calls a closure, and touches its value where that is used
abbrev pub called : Bool → ℕ → Cores → List Instruction
called true at cs = instruction (funcall_drop (count cs)) at ∷ []
called false at cs = instruction (funcall (count cs)) at ∷ (instruction (touch 1) at ∷ [])

-- What the instruction at a place does is changed, and there is one instruction more.
abbrev pub Closes : Emitter → Emitter → ℕ → Op → Instruction → Type 0
Closes old new place op last =
    (before after : List Instruction) (i : Instruction) → old.output ≡ before ++ i ∷ after → place ≡ length before
    → new ≡ record old { output = before ++ instruction op i.at ∷ (after ++ last ∷ []) }

-- Values of a `qlet` are gathered behind them, and their places are known at its own place.
abbrev pub Gathers : Emitter → Emitter → ℕ → ℕ → List ℕ → Type 0
Gathers old new at place starts =
    let t = length old.output + 1 in
    (before after : List Instruction) (i : Instruction) → old.output ≡ before ++ i ∷ after → place ≡ length before
    → new ≡ record old { output = before ++ instruction (qlet starts t (t + 1)) i.at ∷ (after ++ instruction (jump (t + 1)) at ∷ (instruction (touch (length starts)) at ∷ [])) }

-- Words on top become variables.
abbrev pub Binds : Emitter → Emitter → ℕ → List Binder → Type 0
Binds old new at bs =
    new ≡ within (followed old (instruction (bind (length bs) (mask (context_in old) bs)) at ∷ [])) (with_variables bs (stored_among (context_in old) bs) old.frame)
