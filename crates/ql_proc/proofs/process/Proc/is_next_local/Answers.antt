use Rattle.std.proofs.Common.{◌∙◌, slice_get}
use Rattle.ql_code.specs.LocalPath.{topmost}
use Rattle.ql_proc.proofs.Nexts
use Rattle.ql_proc.proofs.process.Proc.is_next_local.Goals as goal

pub returns-in-Some : goal.returns-in-Some
returns-in-Some c =
    let self = c.args.self.now in
    let code = c.args.code.now.instructions in
    c.op_stays.ensures ∙ Nexts.tick-of code (slice_get code self.place) c.in-Some.op.now self.place (topmost 64 self.stack.items) c.in-Some.ensures.found
