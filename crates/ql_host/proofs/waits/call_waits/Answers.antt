use Rattle.std.proofs.Common.{◌∙◌, ap, subst, ◌∷◌, suc, Some}
use Rattle.ql_world.specs.Idle.{in_cleanup}
use Rattle.ql_code.specs.Machine.{words, cleanups_on}
use Rattle.ql_proc.specs.Looks.{IsFirst}
use Rattle.ql_host.proofs.Leftmost.{sends_waits}
use Rattle.ql_host.proofs.waits.call_waits.Goals as goal

pub returns-in-Some-Proc : goal.returns-in-Some-Proc
returns-in-Some-Proc c used at =
    let n = c.args.count in
    let st = c.args.proc.now.stack.items in
    let first : IsFirst (Some c.in-Some-Proc.field-0) (words (suc n) st) = subst (λ o. IsFirst o (words (suc n) st)) c.in-Some-Proc.is c.called.ensures in
    c.send_waits.ensures
    ∙ sends_waits (in_cleanup (cleanups_on st)) n c.in-Some-Proc.field-0-0 st first.0 (first.1 ∙ ap (λ w. w ∷ first.0) c.in-Some-Proc.field-0-is) used at
