use Rattle.std.proofs.Common.{sym, ap, ◌∙◌, add-one}
use Rattle.ql_world.specs.Idle.{all_killed}
use Rattle.ql_calls.specs.Facts.{places-hold}
use Rattle.ql_calls.specs.Unanswered.{reply_places}
use Rattle.ql_future.specs.Futures.{Futures}
use Rattle.ql_host.proofs.Killing.{dies, none_dies}
use Rattle.ql_host.proofs.kill.kill_unanswered.Goals as goal
use Rattle.ql_host.proofs.kill.kill_unanswered.Goals.{in-Some, in_default}

pub places-init : goal.places-init
places-init c = ap (λ fs. record c.args.futures.now { states = all_killed fs c.args.futures.now.states }) (places-hold c.args.server.now)

pub places-preserved : goal.places-preserved
places-preserved c =
    let f : Futures = c.places.futures in
    let places = reply_places c.args.server.now in
    rw add-one
    (elim c.match-unanswered.branch [
      | in-Some w ↦ rw (w.futures-is, w.kill.ensures) (ap (λ ss. record f { states = ss }) (sym (dies places c.places.at w.in-Some.f f.states (sym c.unanswered.ensures ∙ w.in-Some.is))) ∙ c.places.invariant)
      | in_default w ↦ rw w.futures-is (ap (λ ss. record f { states = ss }) (sym (none_dies places c.places.at f.states (sym c.unanswered.ensures ∙ w.in_default.is))) ∙ c.places.invariant)
    ])
