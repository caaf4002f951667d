use Rattle.std.proofs.Common.{sym, ◌∙◌, drop}
use Rattle.ql_proc.specs.Points.{point_of}
use Rattle.ql_proc.proofs.Ticks
use Rattle.ql_proc.proofs.process.Proc.land_drop_slowly.Goals as goal

pub returns-clause-takes : goal.returns-clause-takes
returns-clause-takes c =
    let st = drop 1 c.args.self.now.stack.items in
    Ticks.landed c.args.code.now.instructions c.args.place st (point_of c.drop_to.new.self) (sym c.stays_with.ensures ∙ c.if-not-stays_with.false) c.drop_to.ensures.point
