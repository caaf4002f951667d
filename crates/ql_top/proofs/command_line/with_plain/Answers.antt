use Rattle.std.proofs.Common.{◌∙◌, ap}
use Rattle.clap.specs.Simple.{App, app_of, with_subcommand}
use Rattle.ql_top.proofs.command_line.with_plain.Goals as goal

pub returns : goal.returns
returns c = record {
  app = c.in_ok-added.ensures.shape c.plain.ensures.local ∙ ap (λ (a : App). with_subcommand (app_of c.args.command) a.top) c.plain.ensures.app;
}
