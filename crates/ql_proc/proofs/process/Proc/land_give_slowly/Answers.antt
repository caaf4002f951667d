use Rattle.std.proofs.Common.{sym, ◌∙◌, ◌∷◌}
use Rattle.ql_code.specs.Machine.{word, below_mark}
use Rattle.ql_proc.specs.Points.{point_of}
use Rattle.ql_proc.proofs.Ticks
use Rattle.ql_proc.proofs.process.Proc.land_give_slowly.Goals as goal

pub returns-clause-takes : goal.returns-clause-takes
returns-clause-takes c =
    let st = word c.args.w ∷ below_mark c.args.self.now.stack.items in
    Ticks.landed c.args.code.now.instructions c.args.place st (point_of c.give.new.self) (sym c.stays_given.ensures ∙ c.if-not-stays_given.false) c.give.ensures.point
