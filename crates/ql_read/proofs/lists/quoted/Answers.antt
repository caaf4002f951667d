use Rattle.ql_read.proofs.Forms.{quoted_form}
use Rattle.ql_read.proofs.lists.quoted.Goals as goal

pub returns : goal.returns
returns c = λ names g.
    quoted_form names (record { 0 = c.args.at }) c.in_ok-items.items.items c.push.new.self.items c.push-2.new.self.items c.from_vec.result c.reserved_word.result c.args.form
    g c.in_ok-items.ensures.items c.in_ok-push.ensures.items c.in_ok-push-2.ensures.items c.from_vec.ensures (c.reserved_word.ensures names)
