use Rattle.std.proofs.Common.{refl, ◌∙◌}
use Rattle.ql_proc.specs.Points.{point_of}
use Rattle.ql_code.specs.declared.code.Op.TheVariants as ops
use Rattle.ql_host.proofs.Rooms.{at_within}
use Rattle.ql_host.proofs.Boxes.{has_boxes, meets_limit}
use Rattle.ql_host.proofs.FrameRows.{bind_made, bind_full}
use Rattle.ql_host.proofs.ticks.frames.bind.Goals as goal

pub returns-in_default-clause-takes : goal.returns-in_default-clause-takes
returns-in_default-clause-takes c =
    let s = c.args.s in
    rw (c.take_boxes.ensures.proc)
    (bind_full s.code.now s.names.now s.limits c.args.p c.args.person c.args.shared.now (point_of c.args.proc.now) c.args.count c.args.mask c.args.at c.requires
    c.take_boxes.new.shared (meets_limit _ _ _ c.args.p _ c.in_ok-first.ensures.made c.in_default.is))

pub bind-requires-clause-place : goal.bind-requires-clause-place
bind-requires-clause-place c =
    rw (c.take_boxes.ensures.proc) (at_within c.args.s.code.now c.args.s.names.now c.args.s.limits c.args.p c.args.shared.now c.args.person (point_of c.args.proc.now) (ops.Bind c.args.count c.args.mask) c.args.at c.requires)

pub returns-clause-takes : goal.returns-clause-takes
returns-clause-takes c =
    let s = c.args.s in
    bind_made s.code.now s.names.now s.limits c.args.p c.args.person c.args.shared.now (point_of c.args.proc.now) c.args.count c.args.mask c.args.at c.requires
    c.take_boxes.new.shared c.tick.new.self (point_of c.bind.new.self) c.in-Some.first (has_boxes _ _ _ c.args.p _ c.in_ok-first.ensures.made c.in-Some.first c.in-Some.is) c.tick.ensures.same
    (c.bind.ensures.point ∙ rw (c.take_boxes.ensures.proc) refl)
