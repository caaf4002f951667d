use Rattle.std.proofs.Common.{◌≡◌, ◌-◌, ◌<◌, ℕ, suc, List, length, sym, ap, ◌∙◌, arith}
use Rattle.std.proofs.lemmas.Result.{on_ok_weaker}
use Rattle.ql_world.specs.World.{numbered}
use Rattle.ql_proc.specs.declared.process.Proc.{Proc}
use Rattle.ql_host.proofs.Stepping.{no_person, no_proc}
use Rattle.ql_host.proofs.Steps.{turn_of, ticks_of, absent, no_thread_past}
use Rattle.ql_host.proofs.step.act.Goals.{then-p-eq0-via-then-p-eq0, then-p-eq0-via-else-p-eq0+then-p-len}
use Rattle.ql_host.proofs.step.act.Goals as goal

never_there : (c : goal.In_default) → ⊥
never_there c = absent _ c.requires.there (no_person c.args.shared.now.tree.persons c.args.procs.now.items c.args.p (sym c.person.ensures ∙ c.in_default.is))

never_past : (c : goal.Joined-then-p-eq0) → ⊥
never_past c =
    let ts : List Proc = c.args.procs.now.items in
    let p : ℕ = c.args.p in
    absent _ c.requires.there
    (no_proc c.args.shared.now.tree.persons ts p
    (elim c.then-p-eq0.branch [
      | then-p-eq0-via-then-p-eq0 w ↦ ap (numbered ts) w.if-p-eq0.true
      | then-p-eq0-via-else-p-eq0+then-p-len w ↦ no_thread_past ts p (omega (arith, w.if-p-len.true, w.len.ensures))
    ]))

pub returns-in_default-clause-ticks : goal.returns-in_default-clause-ticks
returns-in_default-clause-ticks c = absurd (never_there c)

pub returns-in_default-clause-keeps : goal.returns-in_default-clause-keeps
returns-in_default-clause-keeps c = absurd (never_there c)

pub returns-then-p-eq0-clause-ticks : goal.returns-then-p-eq0-clause-ticks
returns-then-p-eq0-clause-ticks c = absurd (never_past c)

pub returns-then-p-eq0-clause-keeps : goal.returns-then-p-eq0-clause-keeps
returns-then-p-eq0-clause-keeps c = absurd (never_past c)

pub take_turn-requires : goal.take_turn-requires
take_turn-requires c =
    let a : c.args.p ≡ suc (c.args.p - 1) = omega (arith, c.if-p-eq0.false) in
    let b : c.args.p - 1 < length c.args.procs.now.items = omega (arith, a, c.if-p-len.false, c.len.ensures) in
    turn_of c.args.s c.args.p (c.args.p - 1) c.in-Some.person c.args.shared.now c.args.procs.now.items c.requires a b (sym c.person.ensures ∙ c.in-Some.is)

pub returns-clause-ticks : goal.returns-clause-ticks
returns-clause-ticks c =
    let a : c.args.p ≡ suc (c.args.p - 1) = omega (arith, c.if-p-eq0.false) in
    let b : c.args.p - 1 < length c.args.procs.now.items = omega (arith, a, c.if-p-len.false, c.len.ensures) in
    on_ok_weaker c.take_turn.result
    (ticks_of c.args.s c.args.p (c.args.p - 1) c.in-Some.person c.args.shared.now c.args.procs.now.items (turn_of c.args.s c.args.p (c.args.p - 1) c.in-Some.person c.args.shared.now c.args.procs.now.items c.requires a b (sym c.person.ensures ∙ c.in-Some.is)) c.take_turn.new.shared c.take_turn.new.procs.items)
    c.take_turn.ensures.takes
