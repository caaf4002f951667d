use Rattle.std.proofs.Common.{◌≡◌, ◌∙◌, Some, None, length, sym, ap, subst, arith}
use Rattle.std.specs.Prelude.{slice_get}
use Rattle.std.proofs.lemmas.Option.{slice_get-get_or}
use Rattle.ql_replay.specs.Book.{turn_in}
use Rattle.ql_replay.specs.Replay.{due}
use Rattle.ql_replay.specs.Running.{Run, host_in, line_in}
use Rattle.ql_replay.proofs.Dues.{left_is, event_due, none_due, stop_due}
use Rattle.ql_replay.proofs.run.RunFollowed.due_line.Goals as goal

pub returns-then-seen-due-clause-found : goal.returns-then-seen-due-clause-found
returns-then-seen-due-clause-found c =
    let r : Run = record { host = c.self.inside.host; texts = c.self.inside.texts } in
    let left = c.from-due.result.now in
    let same = left_is c.self.inside.told left c.events.result.now c.journal.result.now.journal.events r.host.world.events c.from-due.ensures c.events.ensures c.journal.ensures.events c.self.invariant.since in
    let e : slice_get left c.args.seen ≡ Some c.index-due-seen.result =
    slice_get-get_or left c.args.seen c.index-due-seen.result c.if-seen-due.true ∙ ap Some (sym c.index-due-seen.is) in (
      subst (λ (z : Run). slice_get (due (host_in z) (line_in z.texts) turn_in z.host.world) c.args.seen ≡ Some c.put_line.new.to.items) c.self.view_is
          (event_due (host_in r) (line_in r.texts) turn_in r.host.world left same c.args.seen c.index-due-seen.result e ∙ ap Some (sym c.in_ok-put_line.ensures.line)),
      c.in_ok-put_line.ensures.short,
    )

pub returns-then-seen-due-2-clause-found : goal.returns-then-seen-due-2-clause-found
returns-then-seen-due-2-clause-found c =
    let r : Run = record { host = c.self.inside.host; texts = c.self.inside.texts } in
    let left = c.from-due.result.now in
    let same = left_is c.self.inside.told left c.events.result.now c.journal.result.now.journal.events r.host.world.events c.from-due.ensures c.events.ensures c.journal.ensures.events c.self.invariant.since in
    subst (λ (z : Run). slice_get (due (host_in z) (line_in z.texts) turn_in z.host.world) c.args.seen ≡ None) c.self.view_is
    (none_due (host_in r) (line_in r.texts) turn_in r.host.world left same c.args.seen c.if-seen-due-2.true)

pub returns-in_default-clause-found : goal.returns-in_default-clause-found
returns-in_default-clause-found c =
    let r : Run = record { host = c.self.inside.host; texts = c.self.inside.texts } in
    let left = c.from-due.result.now in
    let same = left_is c.self.inside.told left c.events.result.now c.journal.result.now.journal.events r.host.world.events c.from-due.ensures c.events.ensures c.journal.ensures.events c.self.invariant.since in
    let a = c.if-seen-due.false in
    let b = c.if-seen-due-2.false in
    let at : c.args.seen ≡ length left = omega (arith, a, b) in
    subst (λ (z : Run). slice_get (due (host_in z) (line_in z.texts) turn_in z.host.world) c.args.seen ≡ None) c.self.view_is
    (stop_due (host_in r) (line_in r.texts) turn_in r.host.world left same c.args.seen None (sym c.in_default.is ∙ c.stopped.ensures.stop) at)

pub returns-clause-found : goal.returns-clause-found
returns-clause-found c =
    let r : Run = record { host = c.self.inside.host; texts = c.self.inside.texts } in
    let left = c.from-due.result.now in
    let same = left_is c.self.inside.told left c.events.result.now c.journal.result.now.journal.events r.host.world.events c.from-due.ensures c.events.ensures c.journal.ensures.events c.self.invariant.since in
    let a = c.if-seen-due.false in
    let b = c.if-seen-due-2.false in
    let at : c.args.seen ≡ length left = omega (arith, a, b) in (
      subst (λ (z : Run). slice_get (due (host_in z) (line_in z.texts) turn_in z.host.world) c.args.seen ≡ Some c.put_line-2.new.to.items) c.self.view_is
          (stop_due (host_in r) (line_in r.texts) turn_in r.host.world left same c.args.seen (Some c.in-Some.stop) (sym c.in-Some.is ∙ c.stopped.ensures.stop) at ∙ ap Some (sym c.in_ok-put_line-2.ensures.line)),
      c.in_ok-put_line-2.ensures.short,
    )
