use Rattle.std.proofs.Common.{sym, ap, ◌∙◌, List, map}
use Rattle.std.proofs.lemmas.List.{length-map}
use Rattle.ql_world.specs.World.{with_thread}
use Rattle.ql_code.specs.Machine.{Point, code_machine}
use Rattle.ql_proc.specs.Points.{point_of}
use Rattle.ql_host.specs.declared.shared.Shared.{Shared}
use Rattle.ql_host.specs.Killing.{is_killed_at}
use Rattle.ql_host.proofs.Killing.{not_killed, killed_found}
use Rattle.ql_host.proofs.kill.kill_if_within.Goals as goal

pub returns-then-not-is_killed-clause-world : goal.returns-then-not-is_killed-clause-world
returns-then-not-is_killed-clause-world c code t =
    let old : Shared = c.args.shared.now in
    let ts : List Point = map point_of c.args.procs.now in
    ap (λ w. with_thread w c.args.spared t) (not_killed (code_machine code) old ts c.args.c c.args.owner c.args.n (sym c.is_killed.ensures ∙ c.if-not-is_killed.true))

pub returns-clause-world : goal.returns-clause-world
returns-clause-world c code t =
    let old : Shared = c.args.shared.now in
    let ts : List Point = map point_of c.args.procs.now in
    let found = sym c.person.ensures ∙ c.in-Some.is in
    c.kill.ensures.world code t
    ∙ ap (λ w. with_thread w c.args.spared t)
    (killed_found (code_machine code) old ts c.args.c c.args.owner c.args.n c.in-Some.person found (length-map c.args.procs.now point_of ∙ c.requires.threads)
    (sym (ap (is_killed_at old.tree.catches c.args.c c.args.owner c.args.n) found) ∙ sym c.is_killed.ensures ∙ c.if-not-is_killed.false))
