use Rattle.ql_code.proofs.Listings.{past_text}
use Rattle.ql_code.proofs.listing.put_constant.Goals as goal

pub returns-then-is_past : goal.returns-then-is_past
returns-then-is_past c = rw (past_text c.args.names.now c.args.quoted.now c.args.w (c.is_past.ensures.past c.if-is_past.true)) c.in_ok-push.ensures.items
