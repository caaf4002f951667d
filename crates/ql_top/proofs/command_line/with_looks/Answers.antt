use Rattle.std.proofs.Common.{◌∙◌, ap}
use Rattle.std.specs.Prelude.{codes}
use Rattle.ql_top.specs.CommandLine.{with_plain}
use Rattle.ql_top.proofs.command_line.with_looks.Goals as goal

pub returns : goal.returns
returns c =
    let second = c.in_ok-second.ensures.app ∙ ap (λ a. with_plain a (codes "show")) c.in_ok-first.ensures.app in
    let third = c.in_ok-third.ensures.app ∙ ap (λ a. with_plain a (codes "list")) second in
    let fourth = c.in_ok-fourth.ensures.app ∙ ap (λ a. with_plain a (codes "replay")) third in
    record { app = c.in_ok-fifth.ensures.app ∙ ap (λ a. with_plain a (codes "span")) fourth }
