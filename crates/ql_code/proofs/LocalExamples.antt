-- Local ticks of small windows, computed.
use Rattle.std.proofs.Common.{◌≡◌, ℕ, List, [], ◌∷◌, Some, None, refl}
use Rattle.std.specs.Prelude.{pos, map, replicate}
use Rattle.ql_world.specs.Word.{nil, truth}
use Rattle.ql_world.specs.declared.word.Word.{Word}
use Rattle.ql_world.specs.declared.word.Word.TheVariants.{Int as integer, Pair as pair, Fut as future}
use Rattle.ql_world.specs.declared.world.Aim.TheVariants.{Free as free}
use Rattle.ql_code.specs.Code.{Op, lit, local, slide, call, return, join, prim, print, end, Instruction, instruction}
use Rattle.ql_code.specs.Machine.{Item, mark, returning, catching, base, running, unwinding, word}
use Rattle.ql_code.specs.LocalPath.{Window, Seen, farthest}

abbrev code_of : List Op → List Instruction
code_of ops = map (λ o. instruction o 0) ops

abbrev window : ℕ → List Item → Window
window place items = record { place = place; aim = free; state = running; items = items }

-- the body of (defun f (x) (car x)), under a return to a `print`
abbrev car_code : List Instruction
car_code = code_of (print ∷ (end ∷ (local 0 ∷ (prim 20 ∷ (return ∷ [])))))

abbrev pairs : Seen
pairs = Some (replicate 8 (integer (pos 7), nil))

abbrev body : Word → Window
body w = window 2 (word w ∷ (mark (returning 0) ∷ []))

car_seen : farthest car_code pairs 10 (body (pair 5)) ≡ (3, window 0 (word (integer (pos 7)) ∷ []))
car_seen = refl

car_unseen : (farthest car_code pairs 10 (body (pair 8))).0 ≡ 1
car_unseen = refl

car_of_nil : (farthest car_code pairs 10 (body nil)).0 ≡ 3
car_of_nil = refl

car_plain : (farthest car_code None 10 (body (pair 5))).0 ≡ 1
car_plain = refl

car_of_nil_plain : (farthest car_code None 10 (body nil)).0 ≡ 1
car_of_nil_plain = refl

-- (+ 1 2), and a sum that overflows
abbrev sum_code : Word → List Instruction
sum_code w = code_of (lit w ∷ (lit (integer (pos 2)) ∷ (prim 29 ∷ (print ∷ []))))

sum : farthest (sum_code (integer (pos 1))) None 10 (window 0 (mark (base None) ∷ [])) ≡ (3, window 3 (word (integer (pos 3)) ∷ (mark (base None) ∷ [])))
sum = refl

sum_of_nil : (farthest (sum_code nil) None 10 (window 0 [])).0 ≡ 2
sum_of_nil = refl

sum_of_future : (farthest (sum_code (future 1)) None 10 (window 0 [])).0 ≡ 2
sum_of_future = refl

-- a call of (lambda (x) x) in (let ((y nil)) (f y)), whose slide needs the variable
abbrev call_code : List Instruction
call_code = code_of (local 0 ∷ (call 4 1 0 ∷ (slide 1 ∷ (print ∷ (local 0 ∷ (return ∷ []))))))

whole_call : farthest call_code None 10 (window 0 (word nil ∷ (mark (base None) ∷ []))) ≡ (4, window 3 (word nil ∷ (mark (base None) ∷ [])))
whole_call = refl

-- within the call, with a window that ends at its mark: the slide after the return would go below
cut_call : (farthest call_code None 10 (window 4 (word nil ∷ (mark (returning 2) ∷ [])))).0 ≡ 1
cut_call = refl

-- a child's own `join` is no silent one, and the same place below a window's end is not told
abbrev join_code : List Instruction
join_code = code_of (lit truth ∷ (join ∷ (print ∷ [])))

own_join : farthest join_code None 10 (window 0 (mark (base (Some 1)) ∷ [])) ≡ (1, window 1 (word truth ∷ (mark (base (Some 1)) ∷ [])))
own_join = refl

other_join : farthest join_code None 10 (window 0 (mark (base None) ∷ [])) ≡ (1, window 2 (word truth ∷ (mark (base None) ∷ [])))
other_join = refl

untold_join : (farthest join_code None 10 (window 0 [])).0 ≡ 0
untold_join = refl

-- the frame's bottom is below the window
cut_frame : (farthest car_code None 10 (window 2 (word nil ∷ (mark (catching 1 9) ∷ [])))).0 ≡ 0
cut_frame = refl

unwinding_window : (farthest car_code None 10 (record (body nil) { state = unwinding })).0 ≡ 0
unwinding_window = refl
