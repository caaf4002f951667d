use Rattle.std.proofs.Common.{subst}
use Rattle.std.specs.Prelude.{Err}
use Rattle.ql_code.specs.Machine.{code_told}
use Rattle.ql_replay.specs.Answer.{verdict_of, IsReadOut, IsNotPast}
use Rattle.ql_replay.specs.Law.{IsRight}
use Rattle.ql_top.specs.declared.status.Status.TheVariants.{Differs, ReadFault, NoMemory}
use Rattle.ql_top.proofs.Replays.{of_book, same_shown}
use Rattle.ql_top.proofs.replay.follow_code.Goals as goal

pub returns-in-Ok-Same-clause-answer : goal.returns-in-Ok-Same-clause-answer
returns-in-Ok-Same-clause-answer g c =
    let tells = code_told c.args.names c.args.code in
    let is = c.in-Ok-Same.field-0-is in
    of_book tells _ c.write_output.result _ _ _ _ c.in-Ok-Same.ensures.right c.in-Ok-Same.ensures.end c.in-Ok-Same.ensures.early c.in-Ok-Same.ensures.every
    (λ held rest right end early. same_shown tells held c.in-Ok-Same.output.items rest _ _ c.write_output.result
    (subst (λ v. IsRight tells held (verdict_of v)) is right) (subst (λ v. IsReadOut v rest) is end) (rw c.as_slice.ensures.value at c.write_output.ensures.shows))

pub returns-in-Ok-Differs-clause-answer : goal.returns-in-Ok-Differs-clause-answer
returns-in-Ok-Differs-clause-answer g c =
    let tells = code_told c.args.names c.args.code in
    let held = g.O.Sink.held c.args.out.now in
    of_book tells _ (Differs c.in-Ok-Differs.line) _ _ held held c.in-Ok-Differs.ensures.right c.in-Ok-Differs.ensures.end c.in-Ok-Differs.ensures.early c.in-Ok-Differs.ensures.every
    (λ bytes rest right end early. rw c.in-Ok-Differs.line-is (subst (λ v. IsRight tells bytes (verdict_of v)) c.in-Ok-Differs.field-0-is right))

pub returns-in-Err-Book-clause-answer : goal.returns-in-Err-Book-clause-answer
returns-in-Err-Book-clause-answer g c =
    let tells = code_told c.args.names c.args.code in
    let held = g.O.Sink.held c.args.out.now in
    of_book tells _ ReadFault _ _ held held c.in-Err-Book.ensures.right c.in-Err-Book.ensures.end c.in-Err-Book.ensures.early c.in-Err-Book.ensures.every
    (λ bytes rest right end early. subst (λ e. IsNotPast tells bytes (Err e) rest) c.in-Err-Book.field-0-is early)

pub returns-in-Err-Memory-clause-answer : goal.returns-in-Err-Memory-clause-answer
returns-in-Err-Memory-clause-answer g c =
    let tells = code_told c.args.names c.args.code in
    let held = g.O.Sink.held c.args.out.now in
    of_book tells _ NoMemory _ _ held held c.in-Err-Memory.ensures.right c.in-Err-Memory.ensures.end c.in-Err-Memory.ensures.early c.in-Err-Memory.ensures.every
    (λ bytes rest right end early. tt)
