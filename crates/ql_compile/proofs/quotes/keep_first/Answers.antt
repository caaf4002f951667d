use Rattle.std.proofs.Common.{◌∙◌, sym}
use Rattle.ql_compile.proofs.Quoting.{known_stays, new_counts}
use Rattle.ql_compile.proofs.quotes.keep_first.Goals as goal

pub returns-then-contains_key : goal.returns-then-contains_key
returns-then-contains_key c = known_stays c.args.words.now.entries c.args.at c.args.word (sym c.contains_key.ensures ∙ c.if-contains_key.true)

pub returns : goal.returns
returns c = new_counts c.args.words.now c.insert.new.self.entries c.args.at c.args.word (sym c.contains_key.ensures ∙ c.if-contains_key.false) c.in_ok-insert.ensures.entries
