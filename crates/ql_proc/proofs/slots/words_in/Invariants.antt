use Rattle.std.proofs.Common.{◌≡◌, ◌++◌, drop}
use Rattle.ql_proc.specs.Slots.{words_of}
use Rattle.ql_proc.proofs.slots.words_in.Given as goal

abbrev pub invariant-slots : goal.invariant-slots
invariant-slots l = l.words.items ++ words_of (drop l.slot-index l.slots) ≡ words_of l.fn.slots
