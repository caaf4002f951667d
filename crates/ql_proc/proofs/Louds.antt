-- Where no silent instruction stands, a process stays.
use Rattle.std.proofs.Common.{◌≡◌, refl, ap, ◌∙◌, ℕ, zero, suc, ◌-◌, ◌<◌, Bool, true, false, not, List, [], ◌∷◌, length, arith, Option, Some, None, slice_get}
use Rattle.std.specs.Prelude.{option_map}
use Rattle.ql_code.specs.declared.code.Op.{Op}
use Rattle.ql_code.specs.declared.code.Op.TheVariants.{Jump as jump, Drop as drop, Slide as slide, Touch as touch, Join as join}
use Rattle.ql_code.specs.declared.mark.State.TheVariants.{Running as running}
use Rattle.ql_code.specs.Code.{Instruction}
use Rattle.ql_code.specs.Machine.{Item, Point, point, silent, settle_at, settle}
use Rattle.ql_code.specs.LocalPath.{is_within, settle_in_at, settle_in}
use Rattle.ql_proc.specs.Loud.{is_silent, is_loud}
use Rattle.ql_proc.proofs.Lists.{more}

passes-none : (op : Op) (pc : ℕ) (st : List Item) → is_silent op ≡ false → silent op pc st ≡ None
passes-none (jump l) pc st h = absurd cc
passes-none drop pc st h = absurd cc
passes-none (slide n) pc st h = absurd cc
passes-none join pc st h = absurd cc
passes-none (touch n) pc st h = absurd cc
passes-none op pc st h = refl

looks-at-none : (op : Op) (st : List Item) → is_silent op ≡ false → is_within op st ≡ true
looks-at-none (jump l) st h = absurd cc
looks-at-none drop st h = absurd cc
looks-at-none (slide n) st h = absurd cc
looks-at-none join st h = absurd cc
looks-at-none (touch n) st h = absurd cc
looks-at-none op st h = refl

not-silent : (b : Bool) → not b ≡ true → b ≡ false
not-silent true h = absurd cc
not-silent false h = refl

settles-at : (next : ℕ → List Item → Point) (i : Option Instruction) (pc : ℕ) (st : List Item) → is_loud i ≡ true → settle_at next i pc st ≡ point pc st running
settles-at next None pc st h = refl
settles-at next (Some i) pc st h = let s : is_silent i.op ≡ false = not-silent (is_silent i.op) h in rw (passes-none i.op pc st s) refl

pub loud-settles : (code : List Instruction) (n pc : ℕ) (st : List Item) → is_loud (slice_get code pc) ≡ true → settle code n pc st ≡ point pc st running
loud-settles code zero pc st h = refl
loud-settles code (suc n) pc st h = settles-at (settle code n) (slice_get code pc) pc st h

stays-at : (next : ℕ → List Item → Option (ℕ × List Item)) (i : Option Instruction) (pc : ℕ) (st : List Item) → is_loud i ≡ true → settle_in_at next i pc st ≡ Some (pc, st)
stays-at next None pc st h = refl
stays-at next (Some i) pc st h = let s : is_silent i.op ≡ false = not-silent (is_silent i.op) h in rw (looks-at-none i.op st s, passes-none i.op pc st s) refl

pub loud-stays : (code : List Instruction) (n pc : ℕ) (st : List Item) → is_loud (slice_get code pc) ≡ true → settle_in code n pc st ≡ Some (pc, st)
loud-stays code zero pc st h = refl
loud-stays code (suc n) pc st h = stays-at (settle_in code n) (slice_get code pc) pc st h

-- an instruction at a place that isn't silent
at-op : (x : Option Instruction) (op : Op) → option_map (λ i. i.op) x ≡ Some op → is_silent op ≡ false → is_loud x ≡ true
at-op None op e h = refl
at-op (Some i) op e h = let f : i.op ≡ op = cc in rw (f, h) refl

pub lands : (code : List Instruction) (pc : ℕ) (op : Op) (st : List Item) → option_map (λ i. i.op) (slice_get code pc) ≡ Some op → is_silent op ≡ false → settle_in code (length code) pc st ≡ Some (pc, st)
lands code pc op st e h = loud-stays code (length code) pc st (at-op (slice_get code pc) op e h)

-- a jump to a place at which no silent instruction stands

jumps-at : (next : ℕ → List Item → Option (ℕ × List Item)) (x : Option Instruction) (pc to : ℕ) (st : List Item) → option_map (λ i. i.op) x ≡ Some (jump to) → settle_in_at next x pc st ≡ next to st
jumps-at next None pc to st e = absurd cc
jumps-at next (Some i) pc to st e = let f : i.op ≡ jump to = cc in rw f refl

some-code : (code : List Instruction) (pc : ℕ) (op : Op) → option_map (λ i. i.op) (slice_get code pc) ≡ Some op → 0 < length code
some-code [] pc op e = absurd cc
some-code (i ∷ code) pc op e = omega arith

pub jump-lands : (code : List Instruction) (pc to : ℕ) (st : List Item) → option_map (λ i. i.op) (slice_get code pc) ≡ Some (jump to) → is_loud (slice_get code to) ≡ true
    → settle_in code (length code) pc st ≡ Some (to, st)
jump-lands code pc to st e h =
    ap (λ (k : ℕ). settle_in code k pc st) (more (length code) (some-code code pc (jump to) e))
    ∙ (jumps-at (settle_in code (length code - 1)) (slice_get code pc) pc to st e ∙ loud-stays code (length code - 1) to st h)
