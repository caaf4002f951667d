use Rattle.std.proofs.Common.{refl, sym, ap, ◌∙◌}
use Rattle.std.specs.Prelude.{is_some}
use Rattle.ql_calls.specs.Taking.{oldest_at}
use Rattle.ql_host.specs.World.{world_of}
use Rattle.ql_host.proofs.ReplyRows.{serves_one, serves_none}
use Rattle.ql_host.proofs.ticks.replies.serve.Goals as goal

pub returns-then-is_some-clause-world : goal.returns-then-is_some-clause-world
returns-then-is_some-clause-world c threads s e =
    serves_one c.args.shared.now threads c.args.k s e (world_of c.take_now.new.shared threads)
    (λ t d f g. c.take_now.ensures.taken threads t d (rw (c.take.ensures.taken) f) g ∙ rw (c.take.ensures.taken) refl)
    (sym (ap is_some (c.take.ensures.number ∙ ap oldest_at e)) ∙ sym c.is_some.ensures ∙ c.if-is_some.true)

pub returns-else-is_some-clause-world : goal.returns-else-is_some-clause-world
returns-else-is_some-clause-world c threads s e =
    rw (c.take.ensures.taken)
    (serves_none c.args.shared.now threads c.args.k s e (sym (ap is_some (c.take.ensures.number ∙ ap oldest_at e)) ∙ sym c.is_some.ensures ∙ c.if-is_some.false))
