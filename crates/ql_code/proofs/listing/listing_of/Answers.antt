use Rattle.ql_code.proofs.Listings.{next_line}
use Rattle.ql_code.proofs.listing.listing_of.Goals as goal

pub places-preserved : goal.places-preserved
places-preserved c = next_line c.args.names.now c.args.code.now.quoted c.args.code.now.instructions c.places.place c.places.text.items c.put_line.new.text.items _ c.places.invariant c.in_ok-put_line.ensures
