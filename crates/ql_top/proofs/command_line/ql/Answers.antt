use Rattle.std.proofs.Common.{◌≡◌, ◌∙◌, ap, ap₂}
use Rattle.clap.specs.Simple.{App, with_subcommand}
use Rattle.ql_top.specs.CommandLine.{with_looks}
use Rattle.ql_top.proofs.command_line.ql.Goals as goal

pub returns : goal.returns
returns c =
    let shape : (s t : App) → s ≡ t → s.top ≡ t.top = λ s t. ap (λ (a : App). a.top) in
    let looks = c.in_ok-command.ensures.app ∙ ap with_looks c.base.ensures.app in
    let first = c.in_ok-command-2.ensures.shape c.in_ok-run.ensures.local ∙ ap₂ with_subcommand looks (shape _ _ c.in_ok-run.ensures.app) in
    let second = c.in_ok-command-3.ensures.shape c.in_ok-generator.ensures.local ∙ ap₂ with_subcommand first (shape _ _ c.in_ok-generator.ensures.app) in
    record { app = c.in_ok-command-4.ensures.shape c.in_ok-trial.ensures.local ∙ ap₂ with_subcommand second (shape _ _ c.in_ok-trial.ensures.app) }
