use Rattle.std.proofs.Common.{[]}
use Rattle.ql_proc.specs.Points.{point_of}
use Rattle.ql_code.specs.declared.code.Op.TheVariants as ops
use Rattle.ql_host.specs.declared.shared.Shared.{Shared}
use Rattle.ql_host.proofs.Rooms.{at_still}
use Rattle.ql_host.proofs.Making.{made_from_room}
use Rattle.ql_host.proofs.SpawnRows.{qlet_full}
use Rattle.ql_host.proofs.ticks.spawns.too_many.Goals as goal

pub returns-clause-makes : goal.returns-clause-makes
returns-clause-makes c =
    let m : Shared = c.take_room.new.shared in
    let s = c.args.s in
    let p = c.args.p in
    let old : Shared = c.args.shared.now in
    let new : Shared = c.stop.new.shared in
    let t = point_of c.args.proc.now in
    made_from_room s.code.now s.names.now s.limits p c.args.person old m c.take_room.ensures.shared new t (point_of c.take_room.new.proc) []
    (rw (c.take_room.ensures.proc)
    (qlet_full s.code.now s.names.now s.limits p c.args.person m new t t c.args.starts.now c.args.touched c.args.bound c.args.at c.args.x
    (at_still s.code.now s.names.now s.limits p c.args.person old m c.take_room.ensures.shared t (ops.Qlet c.args.starts.now c.args.touched c.args.bound) c.args.at c.requires.stands)
    c.requires.calm c.requires.top c.requires.spawns
    (rw (c.take_room.ensures.shared) c.requires.many)
    c.stop.ensures.marked))
