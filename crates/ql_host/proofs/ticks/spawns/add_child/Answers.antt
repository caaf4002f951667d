use Rattle.ql_host.proofs.Children.{child_added}
use Rattle.ql_host.proofs.ticks.spawns.add_child.Goals as goal

pub returns-clause-world : goal.returns-clause-world
returns-clause-world c threads t l =
    rw (c.add-q.ensures.new, c.add-f.ensures.made, c.tell.ensures.same)
    (child_added c.args.shared.now c.args.p c.args.home c.add-f.result c.add-q.result threads t c.add-f.ensures.number c.add-q.ensures.number l)
