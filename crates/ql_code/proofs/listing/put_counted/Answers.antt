use Rattle.std.proofs.lemmas.Result.{on_ok_weaker}
use Rattle.ql_code.proofs.Listings.{counted}
use Rattle.ql_code.proofs.listing.put_counted.Goals as goal

pub returns : goal.returns
returns c =
    on_ok_weaker c.put_numbers-3.result
    (counted c.args.text.now.items c.args.before.now c.args.list.now c.args.after.now c.put_numbers.new.text.items c.put_number.new.text.items c.put_numbers-2.new.text.items c.put_numbers-3.new.text.items c.in_ok-put_numbers.ensures c.in_ok-put_number.ensures c.in_ok-put_numbers-2.ensures)
    c.put_numbers-3.ensures
