use Rattle.std.proofs.Common.{◌∙◌, sym, ap}
use Rattle.std.specs.Prelude.{is_some}
use Rattle.ql_replay.specs.Page.{first_of}
use Rattle.ql_replay.specs.Answer.{head_before}
use Rattle.ql_replay.proofs.Begun.{is_headed, is_unusable, is_headless, is_ended, some_before, none_before, some_next, none_next}
use Rattle.ql_replay.proofs.replay.after_opening.Goals as goal

pub returns-then-is_none-clause-answers : goal.returns-then-is_none-clause-answers
returns-then-is_none-clause-answers g c =
    is_ended c.args.names c.args.code c.args.held.items c.args.page.now (g.B.Source.left c.args.book.now) (g.B.Source.left c.args.book.now) c.requires.clean c.requires.opening
    c.first_line_alone.result (none_next (first_of c.args.page.now) c.is_none.result (ap is_some (sym c.first.ensures) ∙ c.is_none.ensures) c.if-is_none.true) c.first_line_alone.ensures

pub returns-in_default-clause-answers : goal.returns-in_default-clause-answers
returns-in_default-clause-answers g c =
    let x = some_next (first_of c.args.page.now) c.is_none.result (ap is_some (sym c.first.ensures) ∙ c.is_none.ensures) c.if-is_none.false in
    is_headless c.args.names c.args.code c.args.held.items c.args.page.now (g.B.Source.left c.args.book.now) (g.B.Source.left c.headless.new.book) c.requires.clean c.requires.opening
    c.headless.result x.0 x.1
    (none_before (first_of c.args.page.now) c.args.held.items (ap (head_before (first_of c.args.page.now)) (sym c.deref.ensures.value) ∙ sym c.head_after.ensures.head ∙ c.in_default.is))
    c.headless.ensures.answers

pub returns-then-not-is_usable-clause-answers : goal.returns-then-not-is_usable-clause-answers
returns-then-not-is_usable-clause-answers g c =
    let x = some_before (first_of c.args.page.now) c.args.held.items c.in-Some.head (ap (head_before (first_of c.args.page.now)) (sym c.deref.ensures.value) ∙ sym c.head_after.ensures.head ∙ c.in-Some.is) in
    is_unusable c.args.names c.args.code c.args.held.items c.args.page.now (g.B.Source.left c.args.book.now) (g.B.Source.left c.args.book.now) c.requires.clean c.requires.opening
    x.0 c.in-Some.head x.1 (sym c.is_usable.ensures ∙ c.if-not-is_usable.true)

pub returns-clause-answers : goal.returns-clause-answers
returns-clause-answers g c =
    let x = some_before (first_of c.args.page.now) c.args.held.items c.in-Some.head (ap (head_before (first_of c.args.page.now)) (sym c.deref.ensures.value) ∙ sym c.head_after.ensures.head ∙ c.in-Some.is) in
    is_headed c.args.names c.args.code c.args.held.items c.args.page.now (g.B.Source.left c.args.book.now) (g.B.Source.left c.headed.new.book) c.requires.clean c.requires.opening
    x.0 c.in-Some.head x.1 c.headed.result c.skip.new.self c.skip.ensures c.headed.ensures.answers
