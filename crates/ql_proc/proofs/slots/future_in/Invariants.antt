use Rattle.std.proofs.Common.{◌≡◌, ◌≤◌, map, reverse, length}
use Rattle.ql_world.specs.Word.{first_future}
use Rattle.ql_code.specs.Machine.{slot, words}
use Rattle.ql_proc.specs.Slots.{or_found}
use Rattle.ql_proc.proofs.Futures.{future-under}
use Rattle.ql_proc.proofs.slots.future_in.Given as goal

abbrev pub invariant-words : goal.invariant-words
invariant-words l = (l.at ≤ length l.slots) × (or_found (future-under l.at l.left l.slots) l.found ≡ first_future (words l.fn.count (map slot (reverse l.slots))))

abbrev pub decreases-words : goal.decreases-words
decreases-words l = l.left
