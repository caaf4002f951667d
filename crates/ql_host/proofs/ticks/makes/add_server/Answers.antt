use Rattle.ql_host.proofs.MakeRows.{server_added}
use Rattle.ql_host.proofs.ticks.makes.add_server.Goals as goal

pub returns-clause-world : goal.returns-clause-world
returns-clause-world c threads t l =
    rw (c.add-q.ensures.new, c.add.ensures.new, c.tell.ensures.same)
    (server_added c.args.shared.now c.args.p c.args.home c.args.k c.add-q.result c.mode_of-mode.result c.args.body c.args.eager c.args.turn.items threads t
    c.requires.number c.add-q.ensures.number c.mode_of-mode.ensures l)
