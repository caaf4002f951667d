-- Sound code is never lost.
use Rattle.std.proofs.Common.{◌≡◌, ℕ, true, List, Option, Some, None, refl}
use Rattle.std.specs.Prelude.{is_some}
use Rattle.ql_base.specs.declared.limits.Limits.{Limits}
use Rattle.ql_world.specs.World.{World}
use Rattle.ql_world.specs.declared.world.Process.{Process}
use Rattle.ql_world.specs.Tick.{tick}
use Rattle.ql_code.specs.Code.{Code}
use Rattle.ql_code.specs.Sound.{Sound}
use Rattle.ql_code.specs.Operands.{IsReachedOn}
use Rattle.ql_code.specs.Machine.{Point, Entry, code_machine}
use Rattle.ql_replay.specs.Law.{IsNeverLost}

some_there : {A : Type 0} (o : Option A) → is_some o ≡ true → (x : A) × (o ≡ Some x)
some_there None h = absurd cc
some_there (Some x) h = (x, refl)

pub never_lost : (names : List (List ℕ)) (code : Code) (limits : Limits)
    → ((schedule : List ℕ) (w : World Point Entry) (p : ℕ) (q : Process Point) → IsReachedOn code names limits schedule w p q → is_some (tick (code_machine code.instructions) names limits w p) ≡ true)
    → ∥ Sound code ∥₁ → IsNeverLost names code limits
never_lost names code limits ticks sound schedule w p q reached there can =
    some_there (tick (code_machine code.instructions) names limits w p) (ticks schedule w p q (record { sound = sound; reached = reached; there = there; can = can }))
