use Rattle.std.proofs.Common.{◌≡◌, true, refl, subst, map}
use Rattle.clap.specs.Faults.{fault_of, is_simple_and_free}
use Rattle.clap.specs.Kinds.{FailsBy}
use Rattle.clap.specs.Simple.{App}
use Rattle.ql_top.proofs.command_line.parse.Goals as goal

pub returns-clause-kinds : goal.returns-clause-kinds
returns-clause-kinds c =
    subst (λ (a : App). is_simple_and_free a ≡ true → FailsBy (fault_of a (map (λ w. w.now) c.args.words.now)) c.try_get_matches_from.result) c.in_ok-ql.ensures.app
    c.try_get_matches_from.ensures.kinds refl
