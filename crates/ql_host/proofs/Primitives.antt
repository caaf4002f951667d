-- What primitives make of their operands.
use Rattle.std.proofs.Common.{◌≡◌, ℕ, zero, suc, ◌+◌, Bool, true, false, ℤ, pos, List, [], ◌∷◌, ◌++◌, length, Option, Some, None, refl, sym, ap, ◌∙◌, subst, arith}
use Rattle.std.specs.Prelude.{slice_get, leb, ◌+ℤ◌, ◌-ℤ◌, ◌*ℤ◌, int_div, int_rem, if◌then◌else◌, drop as without_first}
use Rattle.std.proofs.lemmas.Bool.{le-leb}
use Rattle.ql_base.specs.declared.fault.RunFault.{RunFault}
use Rattle.ql_base.specs.declared.fault.RunFault.TheVariants.{DivZero, NotPair, Overflow}
use Rattle.ql_base.specs.declared.limits.Limits.{Limits}
use Rattle.ql_base.specs.declared.limits.LimitKind.TheVariants.{Cells}
use Rattle.ql_world.specs.declared.word.Word.{Word}
use Rattle.ql_world.specs.declared.word.Word.TheVariants.{Int as integer, Sym as symbol, Pair as pair, Fun as closure, Proc as process_closure, Fut as future}
use Rattle.ql_world.specs.Word.{nil, is_nil, same_integer}
use Rattle.ql_world.specs.Operator.{computed, checked, divided, fits, of_integers, of_numbers, of_two, of_one, part, part_of, takes_one}
use Rattle.ql_world.specs.declared.operator.Operator.{Operator}
use Rattle.ql_world.specs.declared.operator.Operator.TheVariants.{Add as add, Subtract as subtract, Multiply as multiply, Truncate as truncate, Remainder as remainder, Equals as equals, IsLess as is_less, IsGreater as is_greater, Eq as eq, Cons as cons, Car as car, Cdr as cdr, Null as null, Atom as atom, Consp as consp, Numberp as numberp, Symbolp as symbolp}
use Rattle.ql_world.specs.declared.operator.Computed.{Computed}
use Rattle.ql_world.specs.declared.operator.Computed.TheVariants.{Gives as gives, Fails as fails, Joins as joins}
use Rattle.ql_world.specs.declared.event.Stop.TheVariants.{Fault as fault, Limit as limit}
use Rattle.ql_world.specs.Text.{IsBefore}
use Rattle.ql_world.specs.World.{counted, marked, with_thread}
use Rattle.ql_world.specs.Machine.{Want, computes, got}
use Rattle.ql_world.specs.Tick.{goes, row, primitive_row}
use Rattle.ql_cells.specs.Cells.{allows}
use Rattle.ql_tree.specs.declared.person.Person.{Person}
use Rattle.ql_tree.specs.Persons.{process_of_person}
use Rattle.ql_code.specs.declared.code.Op.{Op}
use Rattle.ql_code.specs.Code.{Code}
use Rattle.ql_code.specs.Machine.{Point, word, words, operand_count, op_want, op_go, settled, code_machine}
use Rattle.ql_code.specs.Standing.{Made, IsMade, AreMade, IsAsked}
use Rattle.ql_host.specs.declared.shared.Shared.{Shared}
use Rattle.ql_host.specs.World.{world_of, made_in, Acts, IsAt}
use Rattle.ql_host.proofs.RowTicks.{acts_at, quiet_at, stops_at}

-- where there is room at all there is room for one
pub one_within : (n : ℕ) → (n ≡ 0 → ⊥) → leb 1 n ≡ true
one_within zero f = absurd (f refl)
one_within (suc n) f = le-leb 1 (suc n) (omega arith)

-- it makes no pair
abbrev IsPlain : Computed → Type 0
IsPlain (gives w) = Unit {0}
IsPlain (fails k) = Unit {0}
IsPlain (joins a d) = ⊥

plain_if : (b : Bool) (x y : Computed) → IsPlain x → IsPlain y → IsPlain (if b then x else y)
plain_if true x y f g = f
plain_if false x y f g = g

plain_checked : (z : ℤ) → IsPlain (checked z)
plain_checked z = plain_if (fits z) (gives (integer z)) (fails Overflow) tt tt

plain_divided : (f : ℤ → ℤ → ℤ) (y z : ℤ) → IsPlain (divided f y z)
plain_divided f y z = plain_if (same_integer z (pos 0)) (fails DivZero) (checked (f y z)) tt (plain_checked (f y z))

plain_integers : (o : Operator) (y z : ℤ) → IsPlain (of_integers o y z)
plain_integers add y z = plain_checked (y +ℤ z)
plain_integers subtract y z = plain_checked (y -ℤ z)
plain_integers multiply y z = plain_checked (y *ℤ z)
plain_integers truncate y z = plain_divided int_div y z
plain_integers remainder y z = plain_divided int_rem y z
plain_integers equals y z = tt
plain_integers is_less y z = tt
plain_integers is_greater y z = tt
plain_integers eq y z = tt
plain_integers cons y z = tt
plain_integers car y z = tt
plain_integers cdr y z = tt
plain_integers null y z = tt
plain_integers atom y z = tt
plain_integers consp y z = tt
plain_integers numberp y z = tt
plain_integers symbolp y z = tt

plain_numbers : (o : Operator) (a b : Word) → IsPlain (of_numbers o a b)
plain_numbers o (integer y) (integer z) = plain_integers o y z
plain_numbers o (integer y) (symbol z) = tt
plain_numbers o (integer y) (pair z) = tt
plain_numbers o (integer y) (closure z) = tt
plain_numbers o (integer y) (process_closure z) = tt
plain_numbers o (integer y) (future z) = tt
plain_numbers o (symbol y) b = tt
plain_numbers o (pair y) b = tt
plain_numbers o (closure y) b = tt
plain_numbers o (process_closure y) b = tt
plain_numbers o (future y) b = tt

plain_part : (f : Word × Word → Word) (x : Option (Word × Word)) → IsPlain (part f x)
plain_part f None = tt
plain_part f (Some x) = tt

plain_part_of : (pairs : List (Word × Word)) (f : Word × Word → Word) (w : Word) → IsPlain (part_of pairs f w)
plain_part_of pairs f (integer n) = tt
plain_part_of pairs f (symbol n) = plain_if (is_nil (symbol n)) (gives nil) (fails NotPair) tt tt
plain_part_of pairs f (pair n) = plain_part f (slice_get pairs n)
plain_part_of pairs f (closure n) = tt
plain_part_of pairs f (process_closure n) = tt
plain_part_of pairs f (future n) = tt

plain_one : (pairs : List (Word × Word)) (o : Operator) (w : Word) → IsPlain (of_one pairs o w)
plain_one pairs add w = tt
plain_one pairs subtract w = tt
plain_one pairs multiply w = tt
plain_one pairs truncate w = tt
plain_one pairs remainder w = tt
plain_one pairs equals w = tt
plain_one pairs is_less w = tt
plain_one pairs is_greater w = tt
plain_one pairs eq w = tt
plain_one pairs cons w = tt
plain_one pairs car w = plain_part_of pairs (λ x. x.0) w
plain_one pairs cdr w = plain_part_of pairs (λ x. x.1) w
plain_one pairs null w = tt
plain_one pairs atom w = tt
plain_one pairs consp w = tt
plain_one pairs numberp w = tt
plain_one pairs symbolp w = tt

no_pair : (x : Computed) (a d : Word) → IsPlain x → x ≡ joins a d → ⊥
no_pair x a d f e = subst IsPlain e f

joined_of_two : (o : Operator) (x y a d : Word) → of_two o x y ≡ joins a d → x ∷ (y ∷ []) ≡ a ∷ (d ∷ [])
joined_of_two add x y a d e = absurd (no_pair (of_numbers add x y) a d (plain_numbers add x y) e)
joined_of_two subtract x y a d e = absurd (no_pair (of_numbers subtract x y) a d (plain_numbers subtract x y) e)
joined_of_two multiply x y a d e = absurd (no_pair (of_numbers multiply x y) a d (plain_numbers multiply x y) e)
joined_of_two truncate x y a d e = absurd (no_pair (of_numbers truncate x y) a d (plain_numbers truncate x y) e)
joined_of_two remainder x y a d e = absurd (no_pair (of_numbers remainder x y) a d (plain_numbers remainder x y) e)
joined_of_two equals x y a d e = absurd (no_pair (of_numbers equals x y) a d (plain_numbers equals x y) e)
joined_of_two is_less x y a d e = absurd (no_pair (of_numbers is_less x y) a d (plain_numbers is_less x y) e)
joined_of_two is_greater x y a d e = absurd (no_pair (of_numbers is_greater x y) a d (plain_numbers is_greater x y) e)
joined_of_two eq x y a d e = absurd cc
joined_of_two cons x y a d e = let f : x ≡ a = cc in let g : y ≡ d = cc in rw (f, g) refl
joined_of_two car x y a d e = absurd (no_pair (of_numbers car x y) a d (plain_numbers car x y) e)
joined_of_two cdr x y a d e = absurd (no_pair (of_numbers cdr x y) a d (plain_numbers cdr x y) e)
joined_of_two null x y a d e = absurd (no_pair (of_numbers null x y) a d (plain_numbers null x y) e)
joined_of_two atom x y a d e = absurd (no_pair (of_numbers atom x y) a d (plain_numbers atom x y) e)
joined_of_two consp x y a d e = absurd (no_pair (of_numbers consp x y) a d (plain_numbers consp x y) e)
joined_of_two numberp x y a d e = absurd (no_pair (of_numbers numberp x y) a d (plain_numbers numberp x y) e)
joined_of_two symbolp x y a d e = absurd (no_pair (of_numbers symbolp x y) a d (plain_numbers symbolp x y) e)

-- a pair is made of two operands as they are
joined_of : (pairs : List (Word × Word)) (o : Operator) (ws : List Word) (a d : Word) → Some (joins a d) ≡ computed pairs o ws → ws ≡ a ∷ (d ∷ [])
joined_of pairs o [] a d e = absurd cc
joined_of pairs o (x ∷ []) a d e = let f : of_one pairs o x ≡ joins a d = cc in absurd (no_pair (of_one pairs o x) a d (plain_one pairs o x) f)
joined_of pairs o (x ∷ (y ∷ [])) a d e = let f : of_two o x y ≡ joins a d = cc in joined_of_two o x y a d f
joined_of pairs o (x ∷ (y ∷ (z ∷ ws))) a d e = absurd cc

made_before : (m : Made) (w : Word) → IsMade m w → IsBefore m.pairs w
made_before m (integer n) f = tt
made_before m (symbol n) f = tt
made_before m (pair n) f = f
made_before m (closure n) f = tt
made_before m (process_closure n) f = tt
made_before m (future n) f = tt

-- so they name only pairs that are there
pub joined_before : (m : Made) (pairs : List (Word × Word)) (o : Operator) (ws : List Word) (a d : Word) → AreMade m ws → Some (joins a d) ≡ computed pairs o ws → IsBefore m.pairs a × IsBefore m.pairs d
joined_before m pairs o ws a d f e =
    let g : AreMade m (a ∷ (d ∷ [])) = subst (AreMade m) (joined_of pairs o ws a d e) f in
    (made_before m a g.0, made_before m d g.1.0)

-- of as many operands as it takes there is a result
found_of : (pairs : List (Word × Word)) (o : Operator) (b : Bool) (ws : List Word) → length ws ≡ (if b then 1 else 2) → None ≡ computed pairs o ws → ⊥
found_of pairs o true [] l e = absurd cc
found_of pairs o false [] l e = absurd cc
found_of pairs o b (x ∷ []) l e = absurd cc
found_of pairs o b (x ∷ (y ∷ [])) l e = absurd cc
found_of pairs o true (x ∷ (y ∷ (z ∷ ws))) l e = absurd (omega (arith, l))
found_of pairs o false (x ∷ (y ∷ (z ∷ ws))) l e = absurd (omega (arith, l))

module _ (code : Code) (names : List (List ℕ)) (limits : Limits) (p : ℕ) (r : Person) (old : Shared) (t : Point) (op : Op) (at : ℕ) (o : Operator)
    (h : IsAt code names limits p old r t op at)
    (wants : op_want op at t.stack ≡ computes o (words (operand_count (Some o)) t.stack) at)
  where
    pub operands_asked : IsAsked (made_in old) r.kind (computes o (words (operand_count (Some o)) t.stack) at)
    operands_asked = subst (IsAsked (made_in old) r.kind) wants h.asked

    pub result_found : None ≡ computed old.cells.pairs o (words (operand_count (Some o)) t.stack) → ⊥
    result_found e = found_of old.cells.pairs o (takes_one o) (words (operand_count (Some o)) t.stack) operands_asked.0 e

    row_of : (x : Option Computed) → x ≡ computed old.cells.pairs o (words (operand_count (Some o)) t.stack) → (threads : List Point)
        → row (code_machine code.instructions) names limits p (process_of_person r t) (counted (world_of old threads) p) (op_want op at t.stack)
        ≡ primitive_row (code_machine code.instructions) names limits p (process_of_person r t) (counted (world_of old threads) p) x at
    row_of x e threads =
        ap (λ (w : Want). row (code_machine code.instructions) names limits p (process_of_person r t) (counted (world_of old threads) p) w) wants
        ∙ ap (λ (y : Option Computed). primitive_row (code_machine code.instructions) names limits p (process_of_person r t) (counted (world_of old threads) p) y at) (sym e)

    pub fails_with : (new : Shared) (kind : RunFault) → Some (fails kind) ≡ computed old.cells.pairs o (words (operand_count (Some o)) t.stack)
        → ((threads : List Point) → world_of new threads ≡ marked (counted (world_of old threads) p) (fault kind p at))
        → Acts code names limits p r old t new t
    fails_with new kind e f = stops_at code names limits p r old new t op at h (fault kind p at) (row_of (Some (fails kind)) e) f

    pub pair_refused : (new : Shared) (a d : Word) → Some (joins a d) ≡ computed old.cells.pairs o (words (operand_count (Some o)) t.stack) → allows old.cells 1 ≡ false
        → ((threads : List Point) → world_of new threads ≡ marked (counted (world_of old threads) p) (limit Cells))
        → Acts code names limits p r old t new t
    pair_refused new a d e c f =
        stops_at code names limits p r old new t op at h (limit Cells)
        (λ threads.
        row_of (Some (joins a d)) e threads
        ∙ ap (λ (b : Bool). if b then Some (goes (code_machine code.instructions) names limits p (process_of_person r t) (record (counted (world_of old threads) p) { pairs = old.cells.pairs ++ (a, d) ∷ []; cells = old.cells.made + 1 }) (got (pair (length old.cells.pairs)))) else Some (marked (counted (world_of old threads) p) (limit Cells)))
        (ap (leb (old.cells.made + 1)) (sym h.fit.cells) ∙ c))
        f

    module _ (new : Shared) (u : Point)
        (goes_on : (w : Word) → op_go code.instructions op (got w) t.place t.stack ≡ settled code.instructions (t.place + 1) (word w ∷ without_first (operand_count (Some o)) t.stack))
      where
        pub gives_word : (w : Word) → Some (gives w) ≡ computed old.cells.pairs o (words (operand_count (Some o)) t.stack)
            → ((threads : List Point) → world_of new threads ≡ counted (world_of old threads) p)
            → u ≡ settled code.instructions (t.place + 1) (word w ∷ without_first (operand_count (Some o)) t.stack)
            → Acts code names limits p r old t new u
        gives_word w e f z =
            quiet_at code names limits p r old new t u op at h (got w)
            (λ threads c. row_of (Some (gives w)) e threads)
            f (goes_on w ∙ sym z)

        pub pair_made : (a d : Word) → Some (joins a d) ≡ computed old.cells.pairs o (words (operand_count (Some o)) t.stack) → allows old.cells 1 ≡ true
            → ((threads : List Point) → world_of new threads ≡ record (counted (world_of old threads) p) { pairs = old.cells.pairs ++ (a, d) ∷ []; cells = old.cells.made + 1 })
            → u ≡ settled code.instructions (t.place + 1) (word (pair (length old.cells.pairs)) ∷ without_first (operand_count (Some o)) t.stack)
            → Acts code names limits p r old t new u
        pair_made a d e c f z =
            acts_at code names limits p r old new t u op at h (got (pair (length old.cells.pairs)))
            (λ threads k.
            row_of (Some (joins a d)) e threads
            ∙ ap (λ (b : Bool). if b then Some (goes (code_machine code.instructions) names limits p (process_of_person r t) (record (counted (world_of old threads) p) { pairs = old.cells.pairs ++ (a, d) ∷ []; cells = old.cells.made + 1 }) (got (pair (length old.cells.pairs)))) else Some (marked (counted (world_of old threads) p) (limit Cells)))
            (ap (leb (old.cells.made + 1)) (sym h.fit.cells) ∙ c)
            ∙ ap (λ x. Some (with_thread x p ((code_machine code.instructions).go t (got (pair (length old.cells.pairs)))))) (sym (f threads)))
            (goes_on (pair (length old.cells.pairs)) ∙ sym z)
