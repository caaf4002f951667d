use Rattle.std.proofs.Common.{◌≤◌, ◌∙◌, ap, length, arith}
use Rattle.std.proofs.lemmas.List.{length-reverse}
use Rattle.std.specs.Prelude.{option_to_list}
use Rattle.ql_proc.specs.Slots.{slots_on}
use Rattle.ql_proc.proofs.Ticks
use Rattle.ql_proc.proofs.Words
use Rattle.ql_proc.proofs.process.Proc.stays_with.Goals as goal

pub lowered-requires : goal.lowered-requires
lowered-requires c =
    let h : c.args.count ≤ length (slots_on c.args.self.now.stack.items) = Words.within c.args.count c.args.self.now.stack.items c.requires in
    omega (arith, h, ap length c.loose.ensures, length-reverse c.loose.result.now)

pub returns : goal.returns
returns c =
    let code = c.args.code.now.instructions in
    c.stays.ensures ∙ rw (c.lowered.ensures, c.loose.ensures, c.mark.ensures) (Ticks.stays-with code (length code) c.args.place (option_to_list c.args.top) c.args.count c.args.self.now.stack.items c.requires)
