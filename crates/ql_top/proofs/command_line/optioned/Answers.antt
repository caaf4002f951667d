use Rattle.std.proofs.Common.{◌∙◌, ap, ap₂}
use Rattle.clap.specs.Simple.{with_rule}
use Rattle.ql_top.proofs.command_line.optioned.Goals as goal

pub returns-clause-app : goal.returns-clause-app
returns-clause-app c =
    let first = c.in_ok-first.ensures.app ∙ ap (with_rule _) c.workers.ensures.rule in
    let second = c.in_ok-second.ensures.app ∙ ap₂ with_rule first c.budget.ensures.rule in
    let third = c.in_ok-third.ensures.app ∙ ap₂ with_rule second c.cells.ensures.rule in
    let fourth = c.in_ok-fourth.ensures.app ∙ ap₂ with_rule third c.quantum.ensures.rule in
    c.in_ok-fifth.ensures.app ∙ ap₂ with_rule fourth c.policy.ensures.rule
