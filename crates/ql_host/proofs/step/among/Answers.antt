use Rattle.std.proofs.Common.{◌≡◌, None, sym, ap, ◌∙◌, subst}
use Rattle.ql_world.specs.World.{numbered}
use Rattle.ql_code.specs.declared.code.Op.{Op}
use Rattle.ql_code.specs.declared.code.Op.TheVariants as ops
use Rattle.ql_host.specs.Awaited.{awaited}
use Rattle.ql_host.specs.Making.{StandsAmong}
use Rattle.ql_host.proofs.Steps.{numbered_at, stands_there}
use Rattle.ql_host.proofs.step.among.Goals as goal

pub qlet-requires-clause-stands : goal.qlet-requires-clause-stands
qlet-requires-clause-stands c =
    rw c.as_slice.ensures
    (subst (λ (o : Op). StandsAmong c.args.s c.args.p c.args.person c.args.shared.now c.args.procs.now.items o c.args.at) c.in-Qlet.is c.requires.stands)

pub qlet-requires-clause-calm : goal.qlet-requires-clause-calm
qlet-requires-clause-calm c t e = subst (λ (o : Op). awaited o t.stack.items ≡ None) c.in-Qlet.is (c.requires.calm t e)

pub qlambda-requires-clause-stands : goal.qlambda-requires-clause-stands
qlambda-requires-clause-stands c =
    rw c.as_slice-in-Qlambda.ensures
    (subst (λ (o : Op). StandsAmong c.args.s c.args.p c.args.person c.args.shared.now c.args.procs.now.items o c.args.at) c.in-Qlambda.is c.requires.stands)

pub qlambda-requires-clause-calm : goal.qlambda-requires-clause-calm
qlambda-requires-clause-calm c t e = subst (λ (o : Op). awaited o t.stack.items ≡ None) c.in-Qlambda.is (c.requires.calm t e)

pub exit-requires : goal.exit-requires
exit-requires c =
    rw c.deref_mut.ensures.value
    (stands_there c.args.s c.args.p c.args.i c.args.person c.args.shared.now c.args.procs.now.items c.requires.turn ops.Exit c.args.at
    (subst (λ (o : Op). StandsAmong c.args.s c.args.p c.args.person c.args.shared.now c.args.procs.now.items o c.args.at) c.in-Exit.is c.requires.stands))

pub throw-requires-clause-stands : goal.throw-requires-clause-stands
throw-requires-clause-stands c =
    rw c.deref_mut-in-Throw.ensures.value
    (stands_there c.args.s c.args.p c.args.i c.args.person c.args.shared.now c.args.procs.now.items c.requires.turn ops.Throw c.args.at
    (subst (λ (o : Op). StandsAmong c.args.s c.args.p c.args.person c.args.shared.now c.args.procs.now.items o c.args.at) c.in-Throw.is c.requires.stands))

pub throw-requires-clause-calm : goal.throw-requires-clause-calm
throw-requires-clause-calm c t e =
    subst (λ (o : Op). awaited o t.stack.items ≡ None) c.in-Throw.is
    (c.requires.calm t (numbered_at c.args.s c.args.p c.args.i c.args.person c.args.shared.now c.args.procs.now.items c.requires.turn t (ap (λ ts. numbered ts c.args.p) (sym c.deref_mut-in-Throw.ensures.value) ∙ e)))

pub last-requires : goal.last-requires
last-requires c =
    rw c.deref_mut-in-End.ensures.value
    (stands_there c.args.s c.args.p c.args.i c.args.person c.args.shared.now c.args.procs.now.items c.requires.turn ops.End c.args.at
    (subst (λ (o : Op). StandsAmong c.args.s c.args.p c.args.person c.args.shared.now c.args.procs.now.items o c.args.at) c.in-End.is c.requires.stands))
