use Rattle.std.proofs.Common.{◌≡◌, ◌++◌, drop}
use Rattle.ql_code.specs.Listing.{lines_from, listing}
use Rattle.ql_code.proofs.listing.listing_of.Given as goal

abbrev pub invariant-places : goal.invariant-places
invariant-places l = l.text.items ++ lines_from l.names l.code.quoted l.place (drop l.place l.code.instructions) ≡ listing l.names l.code
