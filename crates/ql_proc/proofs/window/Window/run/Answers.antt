use Rattle.std.proofs.Common.{◌≡◌, refl, inr, arith, Some, None}
use Rattle.ql_code.specs.LocalPath.{local_step}
use Rattle.ql_proc.specs.Windows.{window_in}
use Rattle.ql_proc.proofs.Paths
use Rattle.ql_proc.proofs.window.Window.run.Goals as goal

pub ticks-preserved : goal.ticks-preserved
ticks-preserved c =
    let code = c.args.code.now.instructions in
    let a = window_in c.ticks.self in
    let i = c.ticks.invariant in
    let b = window_in (record { aim = c.ticks.self.aim; top = c.step.new.self }) in
    let e : local_step code None a ≡ Some b = Paths.one-step code a b i.1.0 c.if-not-step.ensures.steps.1 refl c.if-not-step.ensures.steps.0 in
    (Paths.one-more code c.ticks.steps (window_in c.args.self.now) a b i.0 e, (c.if-not-step.ensures.steps.1, (omega arith, omega (arith, i, c.if-not-step.ensures.room))))

pub returns-then-not-step-clause-greatest : goal.returns-then-not-step-clause-greatest
returns-then-not-step-clause-greatest c =
    let code = c.args.code.now.instructions in
    let a = window_in c.ticks.self in
    let i = c.ticks.invariant in
    let e : local_step code None a ≡ None = Paths.no-step code a i.1.0 c.if-not-step.ensures.steps.0 in
    Paths.greatest-at code c.args.most c.ticks.steps (window_in c.args.self.now) a i.1.1.0 i.0 (inr e)
