use Rattle.ql_host.proofs.kill.abandon.Goals as goal

pub returns-in-Closure-clause-world : goal.returns-in-Closure-clause-world
returns-in-Closure-clause-world c code threads = rw c.in-Closure.is (c.abandon_calls.ensures.world code threads)
