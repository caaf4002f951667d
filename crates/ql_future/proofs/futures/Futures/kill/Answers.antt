use Rattle.std.proofs.Common.{◌≡◌, rules, sym, ◌∙◌}
use Rattle.ql_world.specs.declared.world.FutState.TheVariants.{Dead as dead}
use Rattle.ql_world.specs.World.{change_numbered}
use Rattle.ql_world.specs.Idle.{killed}
use Rattle.ql_future.proofs.Changes.{killed_numbered, kept_numbered}
use Rattle.ql_future.proofs.futures.Futures.kill.Goals as goal

pub returns-in-Pending : goal.returns-in-Pending
returns-in-Pending c =
    let dies : change_numbered (λ s. dead) c.args.self.now.states c.args.f ≡ change_numbered killed c.args.self.now.states c.args.f =
    killed_numbered c.args.self.now.states c.args.f (sym c.state.ensures ∙ c.in-Pending.is) in
    search rules

pub returns-in_default : goal.returns-in_default
returns-in_default c =
    let stays : c.args.self.now.states ≡ change_numbered killed c.args.self.now.states c.args.f =
    kept_numbered c.args.self.now.states c.args.f (λ e. c.in_default.not-Pending (c.state.ensures ∙ e)) in
    search rules
