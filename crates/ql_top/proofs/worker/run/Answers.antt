use Rattle.std.proofs.Common.{◌≡◌, ◌∙◌, None, sym}
use Rattle.ql_host.specs.Host.{stop}
use Rattle.ql_top.specs.Worker.{picked_of}
use Rattle.ql_top.proofs.Working.{none_there, some_there, round_on, round_ends, ends_planned}
use Rattle.ql_top.proofs.worker.run.Goals as goal

pub finish-requires : goal.finish-requires
finish-requires c =
    let s = some_there c.stopped.result (sym c.is_some.ensures ∙ c.if-is_some.true) in
    (s.0, sym c.stopped.ensures.stop ∙ s.1)

pub returns-then-is_some-clause-planned : goal.returns-then-is_some-clause-planned
returns-then-is_some-clause-planned c =
    let s = some_there c.stopped.result (sym c.is_some.ensures ∙ c.if-is_some.true) in
    ends_planned c.args.code c.args.names c.args.limits c.rounds.host (picked_of c.rounds.last) c.rounds.invariant s.0 c.finish.result.story
    (c.finish.ensures.story s.0 (sym c.stopped.ensures.stop ∙ s.1))

pub rounds-preserved : goal.rounds-preserved
rounds-preserved c =
    let on : stop c.rounds.host ≡ None = sym c.stopped.ensures.stop ∙ none_there c.stopped.result (sym c.is_some.ensures ∙ c.if-is_some.false) in
    round_on c.rounds.host c.next-next.new.host c.round.new.host (picked_of c.rounds.last) (picked_of c.next-next.result) c.in_ok-taken.taken c.ticks_left.result on c.next-next.ensures.next
    c.next-next.ensures.host c.in_ok-taken.ensures.rest c.in_ok-taken.ensures.worked c.in_ok-taken.ensures.some c.args.code c.args.names c.args.limits c.rounds.invariant c.in_ok-taken.ensures.few
    c.ticks_left.ensures.few

pub rounds-smaller : goal.rounds-smaller
rounds-smaller c =
    let on : stop c.rounds.host ≡ None = sym c.stopped.ensures.stop ∙ none_there c.stopped.result (sym c.is_some.ensures ∙ c.if-is_some.false) in
    round_ends c.rounds.host c.next-next.new.host c.round.new.host (picked_of c.rounds.last) (picked_of c.next-next.result) c.in_ok-taken.taken c.ticks_left.result on c.next-next.ensures.next
    c.next-next.ensures.host c.in_ok-taken.ensures.rest c.in_ok-taken.ensures.worked c.in_ok-taken.ensures.some c.rounds.invariant.few
