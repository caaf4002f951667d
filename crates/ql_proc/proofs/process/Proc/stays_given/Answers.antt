use Rattle.std.proofs.Common.{◌∙◌, length}
use Rattle.ql_code.specs.Machine.{below_mark}
use Rattle.ql_proc.proofs.Ticks
use Rattle.ql_proc.proofs.process.Proc.stays_given.Goals as goal

pub returns : goal.returns
returns c =
    let code = c.args.code.now.instructions in
    c.stays.ensures ∙ rw (c.loose_below.ensures, c.mark_below.ensures) (Ticks.stays-given code (length code) c.args.place c.args.w (below_mark c.args.self.now.stack.items))
