use Rattle.std.proofs.Common.{◌≡◌, refl, ap, ◌∙◌, subst, List, map}
use Rattle.ql_world.specs.declared.world.Aim.TheVariants.{Die as die}
use Rattle.ql_world.specs.World.{change_numbered}
use Rattle.ql_tree.specs.Kill.{aimed_at}
use Rattle.ql_tree.specs.Persons.{joined}
use Rattle.ql_code.specs.Machine.{Point, code_machine}
use Rattle.ql_proc.specs.Points.{point_of}
use Rattle.ql_host.specs.declared.shared.Shared.{Shared}
use Rattle.ql_host.specs.World.{world_of}
use Rattle.ql_host.specs.Killing.{IsSameBut, killed_by}
use Rattle.ql_host.proofs.Killing.{with_procs, unwound_kill, spared_kill}
use Rattle.ql_host.proofs.kill.kill.Goals as goal
use Rattle.ql_host.proofs.kill.kill.Goals.{then-n-spared, else-n-spared}

pub returns-clause-world : goal.returns-clause-world
returns-clause-world c code =
    let m = code_machine code in
    let old : Shared = c.args.shared.now in
    let new : Shared = c.abandon.new.shared in
    let ts : List Point = map point_of c.args.procs.now in
    let us : List Point = map point_of c.if-n-spared.procs in
    let n = c.args.n in
    let is : world_of new us ≡ with_procs m old new ts us c.args.c n c.args.kind (joined (change_numbered (aimed_at die) old.tree.persons n) us) =
    c.abandon.ensures.world code us ∙ rw (c.tell.ensures.same, c.aim_at.ensures) refl in
    elim c.if-n-spared.branch [
      | then-n-spared w ↦ unwound_kill m old new ts us c.args.c n c.args.kind is c.args.spared (ap (map point_of) w.procs-is ∙ w.unwind_at.ensures.points code)
      | else-n-spared w ↦
          let e : n ≡ c.args.spared = w.if-n-spared.false in
          subst (λ p. IsSameBut p (world_of new us) (killed_by m (world_of old ts) c.args.c n c.args.kind)) e (spared_kill m old new ts us c.args.c n c.args.kind is (ap (map point_of) w.procs-is))
    ]
