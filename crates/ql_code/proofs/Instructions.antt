-- Instructions of operations and their offsets.
use Rattle.std.proofs.Common.{◌≡◌, ℕ, zero, suc, ◌<◌, get_or, List, [], ◌∷◌, length, Some, option_map, slice_get, refl, ap}
use Rattle.std.proofs.lemmas.Option.{slice_get_read}
use Rattle.ql_base.specs.declared.numbers.Offset.{Offset}
use Rattle.ql_code.specs.Code.{Op, Instruction, Code, instructions_of}

pub as_many : (os : List Op) (ns : List Offset) → length os ≡ length ns → length (instructions_of os ns) ≡ length os
as_many [] ns e = refl
as_many (o ∷ os) [] e = absurd cc
as_many (o ∷ os) (n ∷ ns) e = ap suc (as_many os ns cc)

pub op_at : (os : List Op) (ns : List Offset) (i : ℕ) → length os ≡ length ns → option_map (λ (x : Instruction). x.op) (slice_get (instructions_of os ns) i) ≡ slice_get os i
op_at [] ns i e = refl
op_at (o ∷ os) [] i e = absurd cc
op_at (o ∷ os) (n ∷ ns) zero e = refl
op_at (o ∷ os) (n ∷ ns) (suc i) e = op_at os ns i cc

pub offset_at : (os : List Op) (ns : List Offset) (i : ℕ) → length os ≡ length ns → option_map (λ (x : Instruction). x.at) (slice_get (instructions_of os ns) i) ≡ option_map (λ (n : Offset). n.0) (slice_get ns i)
offset_at [] [] i e = refl
offset_at [] (n ∷ ns) i e = absurd cc
offset_at (o ∷ os) [] i e = absurd cc
offset_at (o ∷ os) (n ∷ ns) zero e = refl
offset_at (o ∷ os) (n ∷ ns) (suc i) e = offset_at os ns i cc

-- a place of code is inside its parts
pub inside : (n : ℕ) (code : Code) (place k : ℕ) → k ≡ n → n ≡ length code.instructions → place < length code.instructions → place < k
inside n code place k e h l = rw (e, h) l

pub read : {A : Type 0} (xs : List A) (i : ℕ) (x : A) → i < length xs → x ≡ get_or xs i x → slice_get xs i ≡ Some x
read xs i x l e = slice_get_read xs (length xs) i x refl l e
