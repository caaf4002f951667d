use Rattle.std.proofs.Common.{◌∙◌, ap}
use Rattle.std.specs.Prelude.{option_and_then, codes}
use Rattle.clap.specs.Matches.{found_of}
use Rattle.clap.proofs.WalkLemmas.{first_value-rows}
use Rattle.ql_top.specs.Words.{policy_named}
use Rattle.ql_top.proofs.words.policy.Goals as goal

pub returns-in_err-get_str : goal.returns-in_err-get_str
returns-in_err-get_str c =
    c.from_residual.ensures ∙ ap (option_and_then policy_named) (c.in_err-get_str.ensures ∙ first_value-rows (found_of c.args.matches.now) (codes "policy"))

pub returns : goal.returns
returns c = c.policy_named.ensures ∙ ap (option_and_then policy_named) (c.in_ok-get_str.ensures ∙ first_value-rows (found_of c.args.matches.now) (codes "policy"))
