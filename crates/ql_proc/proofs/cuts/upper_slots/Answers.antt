use Rattle.std.proofs.Common.{◌≤◌, length}
use Rattle.std.proofs.lemmas.List.{length-reverse, take_rest}
use Rattle.ql_proc.proofs.Tops
use Rattle.ql_proc.proofs.cuts.upper_slots.Goals as goal

pub returns-clause-slots : goal.returns-clause-slots
returns-clause-slots c =
    let h : c.args.under ≤ length c.args.slots.now = rw (length-reverse c.args.slots.now) at c.requires in
    rw take_rest (Tops.slots-above c.args.under c.args.slots.now h)
