-- A process that unwinds.
use Rattle.std.specs.Prelude.{◌≡◌, ℕ, Bool, if◌then◌else◌, List}
use Rattle.ql_base.specs.declared.limits.Limits.{Limits}
use Rattle.ql_world.specs.World.{change_numbered, closed}
use Rattle.ql_world.specs.declared.world.Aim.TheVariants.{Free as free}
use Rattle.ql_code.specs.declared.mark.State.TheVariants.{Unwinding as unwinding}
use Rattle.ql_code.specs.Standing.{IsAsked}
use Rattle.ql_code.specs.Machine.{Point, unwinding_want}
use Rattle.ql_proc.specs.declared.process.Proc.{Proc}
use Rattle.ql_proc.specs.Points.{point_of}
use Rattle.ql_tree.specs.Tree.{Tree}
use Rattle.ql_tree.specs.declared.person.Person.{Person}
use Rattle.ql_host.specs.World.{made_in, IsFit}
use Rattle.ql_host.specs.declared.setting.Setting.{Setting}
use Rattle.ql_host.specs.declared.shared.Shared.{Shared}

-- What is known of a process that unwinds: what it asks for is there.
pub record IsUnwinding (names : List (List ℕ)) (limits : Limits) (h : Shared) (r : Person) (t : Point) : Type 0 where
  pub fit : IsFit names limits h
  pub runs : t.state ≡ unwinding
  pub asked : IsAsked (made_in h) r.kind (unwinding_want t.stack)

abbrev pub Unwinds : Setting → Person → Shared → Proc → Type 0
Unwinds s r h t = IsUnwinding s.names.now s.limits h r (point_of t)

-- Process p has landed at catch c. A running cleanup has an aim of its own.
abbrev pub landed : (p c : ℕ) → (cleans : Bool) → Tree → Tree
landed p c cleans t =
    record t {
      catches = closed t.catches c;
      persons = if cleans then t.persons else change_numbered (λ r. record r { aim = free }) t.persons p;
    }
