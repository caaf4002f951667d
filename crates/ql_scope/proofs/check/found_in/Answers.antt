use Rattle.std.proofs.Common.{◌∙◌, map}
use Rattle.ql_expand.specs.View.{function_of, cores_of}
use Rattle.ql_expand.specs.ProgramView.{program_of}
use Rattle.ql_scope.proofs.Added.{whole_is}
use Rattle.ql_scope.proofs.Collected.{all_stored}
use Rattle.ql_scope.proofs.check.found_in.Goals as goal

pub returns : goal.returns
returns c =
    let p = c.args.program.now in
    let found = whole_is (map function_of p.functions) p.globals (cores_of p.body) c.check_functions.new.first c.check_globals.new.first c.in_ok-walk.walk c.functions.new.self c.cores.new.self
    (rw c.as_slice-functions.ensures at c.in_ok-check_functions.ensures) (rw c.as_slice-body.ensures at c.in_ok-check_globals.ensures) c.in_ok-walk.ensures
    (rw c.as_slice-functions.ensures at c.in_ok-functions.ensures) (rw c.as_slice-body.ensures at c.in_ok-cores.ensures) in
    record { first = c.finish.ensures.first ∙ found.0; stored = all_stored (program_of p) c.finish.result.stored.keys (c.finish.ensures.stored ∙ found.1) }
