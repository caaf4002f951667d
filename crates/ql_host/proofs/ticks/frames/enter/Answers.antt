use Rattle.std.proofs.Common.{refl, sym, ap, ◌∙◌}
use Rattle.std.proofs.lemmas.Result.{on_ok_weaker}
use Rattle.std.specs.Option.{option_copied}
use Rattle.ql_world.specs.declared.word.Word.TheVariants.{Fun as closure}
use Rattle.ql_proc.specs.Points.{point_of}
use Rattle.ql_host.specs.Called.{call_op}
use Rattle.ql_host.proofs.Rooms.{at_within}
use Rattle.ql_host.proofs.Boxes.{has_boxes, meets_limit}
use Rattle.ql_host.proofs.CallRows.{refused_count, entered_closure, entered_full}
use Rattle.ql_host.proofs.ticks.frames.enter.Goals as goal

pub returns-then-asked-count-clause-takes : goal.returns-then-asked-count-clause-takes
returns-then-asked-count-clause-takes c =
    let s = c.args.s in
    rw (c.refuse.ensures.proc)
    (on_ok_weaker c.refuse.result
    (refused_count s.code.now s.names.now s.limits c.args.p c.args.person c.args.shared.now (point_of c.args.proc.now) c.args.used c.args.count c.args.at c.requires.here (closure c.args.n) c.requires.function
    c.args.n refl c.in-Some.asked.now (sym c.closure.ensures ∙ ap option_copied c.in-Some.is) c.if-asked-count.true c.refuse.new.shared)
    c.refuse.ensures.marked)

pub returns-in_default-2-clause-takes : goal.returns-in_default-2-clause-takes
returns-in_default-2-clause-takes c =
    let s = c.args.s in
    rw (c.take_boxes.ensures.proc)
    (entered_full s.code.now s.names.now s.limits c.args.p c.args.person c.args.shared.now (point_of c.args.proc.now) c.args.used c.args.count c.args.at c.requires.here (closure c.args.n) c.requires.function
    c.args.n refl c.in-Some.asked.now (sym c.closure.ensures ∙ ap option_copied c.in-Some.is) c.if-asked-count.false c.take_boxes.new.shared (meets_limit _ _ _ c.args.p _ c.in_ok-first.ensures.made c.in_default-2.is))

pub place_after-back-requires : goal.place_after-back-requires
place_after-back-requires c =
    rw (c.take_boxes.ensures.proc) (at_within c.args.s.code.now c.args.s.names.now c.args.s.limits c.args.p c.args.shared.now c.args.person (point_of c.args.proc.now) (call_op c.args.used c.args.count) c.args.at c.requires.here)

pub returns-clause-takes : goal.returns-clause-takes
returns-clause-takes c =
    let s = c.args.s in
    entered_closure s.code.now s.names.now s.limits c.args.p c.args.person c.args.shared.now (point_of c.args.proc.now) c.args.used c.args.count c.args.at c.requires.here (closure c.args.n) c.requires.function
    c.args.n refl c.in-Some.asked.now (sym c.closure.ensures ∙ ap option_copied c.in-Some.is) c.if-asked-count.false
    c.take_boxes.new.shared c.tick.new.self (point_of c.enter.new.self) c.in-Some-2.first c.in-Some-closure.entered.now (has_boxes _ _ _ c.args.p _ c.in_ok-first.ensures.made c.in-Some-2.first c.in-Some-2.is) c.tick.ensures.same
    (sym c.closure-2.ensures ∙ ap option_copied c.in-Some-closure.is)
    (c.enter.ensures.point ∙ rw (c.place_after-back.ensures, c.take_boxes.ensures.proc) refl)
