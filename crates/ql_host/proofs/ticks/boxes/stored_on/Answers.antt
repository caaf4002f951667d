use Rattle.std.proofs.Common.{sym, ◌∙◌}
use Rattle.ql_code.specs.Machine.{words}
use Rattle.ql_host.proofs.Boxes.{none_stored}
use Rattle.ql_host.proofs.ticks.boxes.stored_on.Goals as goal

pub returns-then-mask-eq0 : goal.returns-then-mask-eq0
returns-then-mask-eq0 c = rw (c.if-mask-eq0.true) (c.new.ensures.items ∙ sym (none_stored c.args.count (words c.args.count c.args.proc.now.stack.items)))
