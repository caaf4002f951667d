use Rattle.std.proofs.Common.{◌≡◌, ◌++◌, drop}
use Rattle.ql_host.proofs.Boxes.{stored_among}
use Rattle.ql_host.proofs.ticks.boxes.stored_words.Given as goal

abbrev pub invariant-words : goal.invariant-words
invariant-words l = l.stored.items ++ stored_among l.rest (drop l.w-index l.words) ≡ stored_among l.mask l.words
