use Rattle.std.proofs.Common.{sym, ◌∙◌}
use Rattle.ql_proc.specs.Points.{point_of}
use Rattle.ql_proc.proofs.Ticks
use Rattle.ql_proc.proofs.process.Proc.land_pass_slowly.Goals as goal

pub returns-clause-takes : goal.returns-clause-takes
returns-clause-takes c =
    let st = c.args.self.now.stack.items in
    Ticks.landed c.args.code.now.instructions c.args.place st (point_of c.pass_to.new.self) (sym c.stays_with.ensures ∙ c.if-not-stays_with.false) c.pass_to.ensures.point
