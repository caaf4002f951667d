use Rattle.ql_expand.proofs.Making.{parts_fit}
use Rattle.ql_expand.proofs.build.fitting.Goals as goal

pub returns : goal.returns
returns c =
    let fit = parts_fit c.args.at.0 c.args.head.at.0 c.args.head.number _ _ _ _ c.requires c.operator_of.ensures c.reading.ensures c.in-Some.ensures in
    record { fine = fit.0; gives = fit.1 }

pub unreachable-requires : goal.unreachable-requires
unreachable-requires c = (parts_fit c.args.at.0 c.args.head.at.0 c.args.head.number _ _ _ _ c.requires c.operator_of.ensures c.reading.ensures c.in-None.ensures).0
