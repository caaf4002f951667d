use Rattle.std.proofs.Common.{sym, ap, ◌∙◌}
use Rattle.std.proofs.lemmas.Result.{on_ok_weaker}
use Rattle.ql_world.specs.World.{ProcessClosure}
use Rattle.ql_world.specs.declared.world.Closure.{Closure}
use Rattle.ql_calls.specs.Sending.{after_send, next_call}
use Rattle.ql_calls.proofs.Lists.{changed-to, numbered-get, numbered-is}
use Rattle.ql_calls.proofs.calls.send_at.Goals as goal

pub returns-clause-ok : goal.returns-clause-ok
returns-clause-ok c = λ s e.
    let sent = λ (t : ProcessClosure Closure). after_send t (next_call t c.args.arguments.items c.args.reply) in
    let made = sym c.is_made.ensures ∙ c.if-not-is_made.false in
    on_ok_weaker c.send.result
    (λ new. changed-to (λ t. sent s) c.args.servers.now c.args.k c.index-servers-k.result _ made (new ∙ ap sent (numbered-get c.args.servers.now c.args.k c.index-servers-k.result s e)))
    c.send.ensures.ok

pub returns-clause-lives : goal.returns-clause-lives
returns-clause-lives c = rw (numbered-is c.args.servers.now c.args.k c.index-servers-k.result (sym c.is_made.ensures ∙ c.if-not-is_made.false)) c.send.ensures.lives

pub returns-clause-why : goal.returns-clause-why
returns-clause-why c = rw (numbered-is c.args.servers.now c.args.k c.index-servers-k.result (sym c.is_made.ensures ∙ c.if-not-is_made.false)) c.send.ensures.why
