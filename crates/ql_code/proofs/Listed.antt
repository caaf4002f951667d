-- The codes that a test lists are sound.
use Rattle.std.proofs.Common.{◌≡◌, ℕ, List, [], ◌∷◌, refl}
use Rattle.std.specs.Prelude.{pos}
use Rattle.ql_base.specs.declared.numbers.Offset.{Offset}
use Rattle.ql_world.specs.declared.word.Word.{Word}
use Rattle.ql_world.specs.declared.word.Word.TheVariants.{Int as integer, Sym as symbol}
use Rattle.ql_code.specs.Code.{Op, lit, local, jump, drop, slide, bind, touch, qlet, join, prim, print, end, FunEntry, code_of}
use Rattle.ql_code.specs.Sound.{Sound}
use Rattle.ql_code.proofs.WalkDecides.{is_so}

-- with no quoted pairs, functions and globals
abbrev IsSound : List Op → List Offset → Type 0
IsSound ops offsets =
    (os : List Op) (ns : List Offset) (ps : List (Word × Word)) (es : List FunEntry) → os ≡ ops → ns ≡ offsets → ps ≡ [] → es ≡ [] → ∥ Sound (code_of os ns ps es 0) ∥₁

abbrev offset : ℕ → Offset
offset n = record { 0 = n }

abbrev sum : List Op
sum = lit (integer (pos 1)) ∷ (lit (integer (pos 2)) ∷ (prim 29 ∷ (print ∷ (drop ∷ (end ∷ [])))))

abbrev sum_offsets : List Offset
sum_offsets = offset 10 ∷ (offset 12 ∷ (offset 7 ∷ (offset 0 ∷ (offset 0 ∷ (offset 0 ∷ [])))))

pub sum_is_sound : IsSound sum sum_offsets
sum_is_sound os ns ps es a b c d = rw (a, b, c, d) (∣ (is_so (code_of sum sum_offsets [] [] 0) refl).sound ∣₁)

-- a list of the places at which children begin
abbrev one_child : List ℕ → List Op
one_child starts =
    lit (symbol 1) ∷ (qlet starts 5 6 ∷ (lit (integer (pos 1)) ∷ (join ∷ (jump 6 ∷ (touch 1 ∷ (bind 1 0 ∷ (local 0 ∷ (slide 1 ∷ (drop ∷ (end ∷ []))))))))))

abbrev one_child_offsets : List Offset
one_child_offsets =
    offset 6 ∷ (offset 0 ∷ (offset 12 ∷ (offset 12 ∷ (offset 0 ∷ (offset 0 ∷ (offset 0 ∷ (offset 16 ∷ (offset 0 ∷ (offset 0 ∷ (offset 0 ∷ []))))))))))

pub one_child_is_sound : (starts : List ℕ) → starts ≡ 2 ∷ [] → IsSound (one_child starts) one_child_offsets
one_child_is_sound starts e os ns ps es a b c d = rw (a, b, c, d, e) (∣ (is_so (code_of (one_child (2 ∷ [])) one_child_offsets [] [] 0) refl).sound ∣₁)
