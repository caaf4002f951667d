-- The code that the tests run is sound.
use Rattle.std.proofs.Common.{◌≡◌, ℕ, List, [], ◌∷◌, refl, true}
use Rattle.std.specs.Prelude.{◌↔◌, pos}
use Rattle.ql_base.specs.declared.numbers.Offset.{Offset}
use Rattle.ql_world.specs.declared.word.Word.{Word}
use Rattle.ql_world.specs.declared.word.Word.TheVariants.{Int as integer}
use Rattle.ql_code.specs.declared.code.Op.{Op}
use Rattle.ql_code.specs.declared.code.Op.TheVariants.{Lit as lit, Prim as prim, Print as print, Drop as drop, End as end}
use Rattle.ql_code.specs.declared.code.FunEntry.{FunEntry}
use Rattle.ql_code.specs.Code.{Code, code_of}
use Rattle.ql_code.specs.Sound.{Sound, IsValid}
use Rattle.ql_code.specs.Walk.{is_valid}

abbrev offset : ℕ → Offset
offset n = record { 0 = n }

abbrev pub sum : List Op
sum = lit (integer (pos 1)) ∷ (lit (integer (pos 2)) ∷ (prim 29 ∷ (print ∷ (drop ∷ (end ∷ [])))))

abbrev pub sum_offsets : List Offset
sum_offsets = offset 10 ∷ (offset 12 ∷ (offset 7 ∷ (offset 0 ∷ (offset 0 ∷ (offset 0 ∷ [])))))

pub sum_is_sound : ((code : Code) → (is_valid code ≡ true) ↔ IsValid code)
    → (os : List Op) (ns : List Offset) (ps : List (Word × Word)) (es : List FunEntry) → os ≡ sum → ns ≡ sum_offsets → ps ≡ [] → es ≡ [] → ∥ Sound (code_of os ns ps es 0) ∥₁
sum_is_sound decides os ns ps es a b c d = rw (a, b, c, d) (∣ ((decides (code_of sum sum_offsets [] [] 0)).0 refl).sound ∣₁)
