use Rattle.ql_replay.proofs.Answering.{names_are_lines, is_right_on, is_read_out, is_not_past, answers_taken}
use Rattle.ql_replay.proofs.replay.replay.Goals as goal

pub returns-clause-right : goal.returns-clause-right
returns-clause-right g c = λ bytes e.
    is_right_on c.args.names c.args.code (c.replay_is_right.ensures c.args.names (names_are_lines c.args.names c.requires.names) c.args.code c.len.ensures.sound)
    bytes (g.B.Source.left c.args.book.now) (g.B.Source.left c.read_and_follow.new.book) e c.read_and_follow.result c.read_and_follow.ensures.answers

pub returns-clause-end : goal.returns-clause-end
returns-clause-end g c = λ bytes e.
    is_read_out c.args.names c.args.code (c.replay_is_right.ensures c.args.names (names_are_lines c.args.names c.requires.names) c.args.code c.len.ensures.sound)
    bytes (g.B.Source.left c.args.book.now) (g.B.Source.left c.read_and_follow.new.book) e c.read_and_follow.result c.read_and_follow.ensures.answers

pub returns-clause-early : goal.returns-clause-early
returns-clause-early g c = λ bytes e.
    is_not_past c.args.names c.args.code (c.replay_is_right.ensures c.args.names (names_are_lines c.args.names c.requires.names) c.args.code c.len.ensures.sound)
    bytes (g.B.Source.left c.args.book.now) (g.B.Source.left c.read_and_follow.new.book) e c.first_line_is_one.ensures c.read_and_follow.result c.read_and_follow.ensures.answers

pub returns-clause-every : goal.returns-clause-every
returns-clause-every g c =
    answers_taken c.args.names c.args.code (c.replay_is_right.ensures c.args.names (names_are_lines c.args.names c.requires.names) c.args.code c.len.ensures.sound)
    c.first_line_is_one.ensures c.read_and_follow.result (g.B.Source.left c.args.book.now) (g.B.Source.left c.read_and_follow.new.book) c.read_and_follow.ensures.answers
