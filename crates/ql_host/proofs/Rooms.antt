-- Room that was taken changes nothing else.
use Rattle.std.proofs.Common.{◌≡◌, ◌<◌, ℕ, List, length, sym, subst}
use Rattle.std.proofs.lemmas.Option.{slice_get_within}
use Rattle.ql_base.specs.declared.limits.Limits.{Limits}
use Rattle.ql_tree.specs.declared.person.Person.{Person}
use Rattle.ql_code.specs.declared.code.Op.{Op}
use Rattle.ql_code.specs.Code.{instruction, Code}
use Rattle.ql_code.specs.Machine.{Point}
use Rattle.ql_host.specs.declared.shared.Shared.{Shared}
use Rattle.ql_host.specs.World.{Acts, IsFit, IsAt}
use Rattle.ql_host.specs.Room.{with_room}

module _ (code : Code) (names : List (List ℕ)) (limits : Limits) (p : ℕ) (r : Person) (old mid : Shared) (same : mid ≡ with_room old mid) where
  -- what a process does after room was taken, it does from before
  pub from_room : (new : Shared) (t u : Point) → Acts code names limits p r mid t new u → Acts code names limits p r old t new u
  from_room new t u h = subst (λ m. Acts code names limits p r m t new u) same h

  pub fit_still : IsFit names limits old → IsFit names limits mid
  fit_still f = subst (IsFit names limits) (sym same) (record { cells = f.cells; procs = f.procs; printed = f.printed; ticks = f.ticks; protects = f.protects })

  pub at_still : (t : Point) (op : Op) (at : ℕ) → IsAt code names limits p old r t op at → IsAt code names limits p mid r t op at
  at_still t op at h =
      subst (λ m. IsAt code names limits p m r t op at) (sym same)
      (record {
        fit = record { cells = h.fit.cells; procs = h.fit.procs; printed = h.fit.printed; ticks = h.fit.ticks; protects = h.fit.protects };
        runs = h.runs;
        here = h.here;
        asked = h.asked;
        operands = h.operands;
      })

-- a process at an instruction is within its code
pub at_within : (code : Code) (names : List (List ℕ)) (limits : Limits) (p : ℕ) (h : Shared) (r : Person) (t : Point) (op : Op) (at : ℕ) → IsAt code names limits p h r t op at → t.place < length code.instructions
at_within code names limits p h r t op at i = slice_get_within code.instructions t.place (instruction op at) i.here
