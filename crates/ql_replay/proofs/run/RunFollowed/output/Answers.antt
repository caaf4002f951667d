use Rattle.std.proofs.Common.{◌≡◌, ◌∙◌, List, ℕ, true, sym, ap, subst}
use Rattle.std.specs.Prelude.{is_some, IfOk}
use Rattle.ql_world.specs.Run.{Story}
use Rattle.ql_host.specs.Host as hosts
use Rattle.ql_replay.specs.Running.{Run}
use Rattle.ql_replay.proofs.Basics.{some_of}
use Rattle.ql_replay.proofs.run.RunFollowed.output.Goals as goal

pub finish-told-requires : goal.finish-told-requires
finish-told-requires c = some_of _ (subst (λ (r : Run). is_some (hosts.stop r.host) ≡ true) (sym c.self.view_is) c.requires)

pub returns : goal.returns
returns c =
    let s = some_of (hosts.stop c.self.inside.host) (subst (λ (r : Run). is_some (hosts.stop r.host) ≡ true) (sym c.self.view_is) c.requires) in
    let story = c.finish-told.ensures.story s.0 s.1 in
    let o : c.output.result.now ≡ c.args.self.host.world.output = c.output.ensures ∙ (ap (λ (t : Story). t.output) story ∙ ap (λ (r : Run). r.host.world.output) c.self.view_is) in
    subst (λ (b : List ℕ). IfOk c.from_slice.result (λ bytes. bytes.items ≡ b)) o c.from_slice.ensures.items
