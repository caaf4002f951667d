use Rattle.std.proofs.Common.{◌≡◌, ◌++◌, drop}
use Rattle.ql_world.specs.Text.{and_numbers}
use Rattle.ql_code.proofs.listing.put_numbers.Given as goal

abbrev pub invariant-numbers : goal.invariant-numbers
invariant-numbers l = l.text.items ++ and_numbers (drop l.n-index l.numbers) ≡ l.fn.text.items ++ and_numbers l.numbers
