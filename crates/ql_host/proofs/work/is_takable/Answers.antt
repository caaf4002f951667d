use Rattle.std.proofs.Common.{◌∙◌, sym, ap, arith}
use Rattle.std.specs.Prelude.{is_none}
use Rattle.ql_host.proofs.Picks.{none_or_some}
use Rattle.ql_host.proofs.Works.{flipped, other_window, too_many, takable}
use Rattle.ql_host.proofs.work.is_takable.Goals as goal

pub returns-then-not-has_window : goal.returns-then-not-has_window
returns-then-not-has_window c =
    other_window c.args.s c.args.shared.now c.args.procs.now c.args.done.now c.args.i c.args.person c.thread_at.result.now c.requires.number c.requires.person c.thread_at.ensures
    c.has_window.result c.if-not-has_window.true c.has_window.ensures.1

pub returns-then-done-s : goal.returns-then-done-s
returns-then-done-s c =
    too_many c.args.s c.args.shared.now c.args.procs.now c.args.done.now c.args.i c.args.person c.thread_at.result.now c.requires.number c.requires.person c.thread_at.ensures
    (λ w. grind (arith, w, c.if-done-s.true, c.ticks.ensures))

pub returns : goal.returns
returns c =
    takable c.args.s c.args.shared.now c.args.procs.now c.args.done.now c.args.i c.args.person c.thread_at.result.now c.requires.number c.requires.person c.thread_at.ensures
    c.has_window.result c.if-not-has_window.false c.has_window.ensures.0 (grind (arith, c.if-done-s.false, c.ticks.ensures, c.requires.ticks)) c.is_none.result (flipped _ _ c.is_none.ensures ∙ sym (none_or_some c.stopped.result) ∙ ap is_none c.stopped.ensures)
