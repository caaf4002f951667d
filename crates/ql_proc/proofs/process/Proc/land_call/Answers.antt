use Rattle.std.proofs.Common.{sym, ◌∙◌, ◌∷◌, drop}
use Rattle.ql_code.specs.declared.mark.Mark.TheVariants.{Returning}
use Rattle.ql_code.specs.Machine.{mark, push, words}
use Rattle.ql_proc.proofs.Ticks
use Rattle.ql_proc.proofs.process.Proc.land_call.Goals as goal

pub returns-clause-takes : goal.returns-clause-takes
returns-clause-takes c =
    let st = c.args.self.now.stack.items in
    let n = c.args.count in
    let e = c.enter.ensures.items ∙ sym (Ticks.pushed n st (mark (Returning c.args.back) ∷ drop n st) c.requires.words) in
    rw e (c.in-Some.ensures (push (words n st) (mark (Returning c.args.back) ∷ drop n st)), c.requires.running)
