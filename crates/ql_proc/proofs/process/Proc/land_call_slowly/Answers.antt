use Rattle.std.proofs.Common.{sym, ◌∙◌, ◌∷◌, drop}
use Rattle.ql_code.specs.declared.mark.Mark.TheVariants.{Returning}
use Rattle.ql_code.specs.Machine.{mark, words, push}
use Rattle.ql_proc.specs.Points.{point_of}
use Rattle.ql_proc.proofs.Ticks
use Rattle.ql_proc.proofs.process.Proc.land_call_slowly.Goals as goal

pub returns-clause-takes : goal.returns-clause-takes
returns-clause-takes c =
    let st = push (words c.args.count c.args.self.now.stack.items) (mark (Returning c.args.back) ∷ drop c.args.count c.args.self.now.stack.items) in
    Ticks.landed c.args.code.now.instructions c.args.place st (point_of c.call_plain.new.self) (sym c.stays_called.ensures ∙ c.if-not-stays_called.false) c.call_plain.ensures.point
