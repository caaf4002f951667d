-- Instructions one after another.
use Rattle.std.proofs.Common.{◌≡◌, List, [], ◌∷◌, ◌++◌, length, refl, ap, arith}
use Rattle.std.specs.Prelude.{slice_set}
use Rattle.ql_base.specs.declared.numbers.Offset.{Offset}
use Rattle.ql_code.specs.Code.{Instruction, instruction, instructions_of}
use Rattle.ql_code.specs.declared.code.Op.{Op}

-- instructions of operations and offsets
pub as_long : (os : List Op) (ns : List Offset) → length os ≡ length ns → length (instructions_of os ns) ≡ length os
as_long [] ns h = refl
as_long (o ∷ os) [] h = absurd cc
as_long (o ∷ os) (n ∷ ns) h = let rest = as_long os ns (omega (arith, h)) in omega (arith, rest)

pub one_more : (os : List Op) (ns : List Offset) (o : Op) (n : Offset) → length os ≡ length ns
    → instructions_of (os ++ o ∷ []) (ns ++ n ∷ []) ≡ instructions_of os ns ++ instruction o n.0 ∷ []
one_more [] [] o n h = refl
one_more [] (m ∷ ns) o n h = absurd cc
one_more (p ∷ os) [] o n h = absurd cc
one_more (p ∷ os) (m ∷ ns) o n h = ap (λ is. instruction p m.0 ∷ is) (one_more os ns o n (omega (arith, h)))

pub changed : (os : List Op) (ns : List Offset) (before after : List Instruction) (i : Instruction) (o : Op) → length os ≡ length ns
    → instructions_of os ns ≡ before ++ i ∷ after → instructions_of (slice_set os (length before) o) ns ≡ before ++ instruction o i.at ∷ after
changed [] ns [] after i o h e = absurd cc
changed [] ns (b ∷ before) after i o h e = absurd cc
changed (p ∷ os) [] before after i o h e = absurd cc
changed (p ∷ os) (n ∷ ns) [] after i o h e =
    let here : i ≡ instruction p n.0 = cc in
    let rest : instructions_of os ns ≡ after = cc in
    rw (here, rest) refl
changed (p ∷ os) (n ∷ ns) (b ∷ before) after i o h e =
    let here : b ≡ instruction p n.0 = cc in
    let rest : instructions_of os ns ≡ before ++ i ∷ after = cc in
    rw (here, changed os ns before after i o (omega (arith, h)) rest) refl
