use Rattle.std.proofs.Common.{ap, drop}
use Rattle.std.proofs.lemmas.List.{drop_all}
use Rattle.ql_expand.specs.ProgramView.{program_of}
use Rattle.ql_meaning.specs.Context.{all_data}
use Rattle.ql_compile.specs.Quoting.{data_at}
use Rattle.ql_compile.proofs.Quoting.{all_ordered}
use Rattle.ql_compile.proofs.quotes.Quotes.new.Goals as goal

pub returns-clause-ordered : goal.returns-clause-ordered
returns-clause-ordered c =
    let forms = c.deref-form-items.result.now in
    let i = c.loop-form.form-index in
    all_ordered (all_data (program_of c.args.program.now)) (data_at (drop i forms)) c.loop-form.quotes.pairs.items
    (ap data_at (drop_all i forms c.loop-form-test.false)) c.loop-form.invariant.pairs
