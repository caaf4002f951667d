use Rattle.std.proofs.Common.{Global, List, [], ℕ, subst}
use Rattle.std.specs.Prelude.{Err}
use Rattle.ql_replay.specs.Page.{Hands}
use Rattle.ql_replay.specs.Answer.{Opens}
use Rattle.ql_replay.proofs.Answering.{opened_err, opened_ok}
use Rattle.ql_replay.proofs.replay.read_and_follow.Goals as goal

pub returns-in-Err-clause-answers : goal.returns-in-Err-clause-answers
returns-in-Err-clause-answers g c =
    opened_err c.args.names c.args.code Global [] c.first_bytes.new.page (g.B.Source.left c.args.book.now) (g.B.Source.left c.first_bytes.new.book) c.in-Err.e
    (subst (λ (p : List ℕ). Opens {A = Global} (Err c.in-Err.e) p (g.B.Source.left c.args.book.now) c.first_bytes.new.page (g.B.Source.left c.first_bytes.new.book))
    c.new-page.ensures c.in-Err.ensures.opens)

pub returns-in-Ok-clause-answers : goal.returns-in-Ok-clause-answers
returns-in-Ok-clause-answers g c =
    opened_ok c.args.names c.args.code c.in-Ok.held.items [] c.first_bytes.new.page (g.B.Source.left c.args.book.now) (g.B.Source.left c.first_bytes.new.book)
    (g.B.Source.left c.after_opening.new.book) c.after_opening.result c.in-Ok.ensures.clean
    (subst (λ (p : List ℕ). Hands c.in-Ok.held.items p (g.B.Source.left c.args.book.now) c.first_bytes.new.page (g.B.Source.left c.first_bytes.new.book))
    c.new-page.ensures c.in-Ok.ensures.opens.0) c.after_opening.ensures.answers
