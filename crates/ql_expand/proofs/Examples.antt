-- Faults of small sources, computed.
use Rattle.std.proofs.Common.{◌≡◌, ℕ, zero, suc, ◌+◌, Option, Some, None, refl}
use Rattle.ql_base.specs.Names.{reserved}
use Rattle.ql_base.specs.Reserved.{number}
use Rattle.ql_base.specs.declared.reserved.Reserved.{Reserved}
use Rattle.ql_base.specs.declared.reserved.Reserved.TheVariants.{Nil, True, If, Progn, Defun, Let, LetStar, Cond, Lambda, List as ListWord, Qlet}
use Rattle.ql_forms.specs.Form.{Form, Forms, none, more, atom, list, proper, symbol}
use Rattle.ql_expand.specs.Operator.{operator_of}
use Rattle.ql_expand.specs.Expands.{one, two, three, number_at}
use Rattle.ql_expand.specs.ExpandFault.{faults, expand_fault}

abbrev word : ℕ → Reserved → Form
word at w = atom at (symbol (number w))

-- a symbol that isn't reserved
abbrev name : ℕ → Form
name at = atom at (symbol 46)

abbrev in_list : ℕ → Forms → Form
in_list at fs = list at fs proper

-- the form so many times, each so many bytes after the one before
abbrev repeated : ℕ → ℕ → ℕ → (ℕ → Form) → Forms
repeated zero at width f = none
repeated (suc n) at width f = more (f at) (repeated n (at + width) width f)

-- the first fault of a source of one form
abbrev fault_of : Form → Option (ℕ × ℕ)
fault_of f = expand_fault reserved (one f)

shapes :
    -- (if), (progn (defun f () 1)) and (progn (defun f))
    (fault_of (in_list 0 (one (word 1 If))) ≡ Some (0, 9))
    × (fault_of (in_list 0 (two (word 1 Progn) (in_list 7 (more (word 8 Defun) (three (name 14) (word 16 Nil) (number_at 19 1)))))) ≡ Some (7, 10))
    × (fault_of (in_list 0 (two (word 1 Progn) (in_list 7 (two (word 8 Defun) (name 14))))) ≡ Some (7, 9))
    -- (let ((t 1)) 2), (qlet t x 1), (lambda x) and (let (()) 1)
    × (fault_of (in_list 0 (three (word 1 Let) (in_list 5 (one (in_list 6 (two (word 7 True) (number_at 9 1))))) (number_at 13 2))) ≡ Some (7, 11))
    × (fault_of (in_list 0 (more (word 1 Qlet) (three (word 6 True) (name 8) (number_at 10 1)))) ≡ Some (0, 9))
    × (fault_of (in_list 0 (two (word 1 Lambda) (name 8))) ≡ Some (8, 9))
    × (fault_of (in_list 0 (three (word 1 Let) (in_list 5 (one (word 6 Nil))) (number_at 10 1))) ≡ Some (6, 11))
unfolding operator_of faults
shapes = (refl, refl, refl, refl, refl, refl, refl)

levels :
    -- (list 1 1 ..) with 199 and with 198 operands
    (fault_of (in_list 0 (more (word 1 ListWord) (repeated 199 6 2 (λ at. number_at at 1)))) ≡ Some (6, 9))
    × (fault_of (in_list 0 (more (word 1 ListWord) (repeated 198 6 2 (λ at. number_at at 1)))) ≡ None)
    -- (let* (a a ..)) with 199 bindings, and (cond (1) (1) ..) with 199 clauses
    × (fault_of (in_list 0 (two (word 1 LetStar) (in_list 6 (repeated 199 7 2 name)))) ≡ Some (7, 9))
    × (fault_of (in_list 0 (more (word 1 Cond) (repeated 199 6 4 (λ at. in_list at (one (number_at (at + 1) 1)))))) ≡ Some (6, 9))
unfolding operator_of faults
levels = (refl, refl, refl, refl)
