use Rattle.std.proofs.Common.{◌≡◌, map, take}
use Rattle.ql_world.specs.declared.word.Word.TheVariants.{Fut as future}
use Rattle.ql_host.proofs.turns.future_words.Given as goal

abbrev pub invariant-futures : goal.invariant-futures
invariant-futures l = l.words.items ≡ map future (take l.f-index l.futures)
