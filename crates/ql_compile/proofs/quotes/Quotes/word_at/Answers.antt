use Rattle.std.proofs.Common.{◌∙◌, ap, sym}
use Rattle.ql_compile.proofs.Quoting.{or_nil, word_found}
use Rattle.ql_world.specs.declared.word.Word.TheVariants.{Sym as symbol}
use Rattle.ql_compile.proofs.quotes.Quotes.word_at.Goals as goal

pub returns-in-Some : goal.returns-in-Some
returns-in-Some c = ap or_nil c.in-Some.ensures.value ∙ sym (word_found c.args.self.now.words.entries c.args.at)

pub returns-in-None : goal.returns-in-None
returns-in-None c = ap symbol c.number.ensures ∙ (ap or_nil c.in-None.ensures.value ∙ sym (word_found c.args.self.now.words.entries c.args.at))
