use Rattle.ql_host.proofs.ready.may_leave.Goals as goal

pub returns-in-Some : goal.returns-in-Some
returns-in-Some c person t = rw c.in-Some.is (c.lets_go.ensures person t)
