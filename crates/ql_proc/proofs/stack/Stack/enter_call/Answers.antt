use Rattle.std.proofs.Common.{◌≡◌, refl, true, drop, suc}
use Rattle.ql_proc.specs.Slots.{are_words}
use Rattle.ql_proc.proofs.Words
use Rattle.ql_proc.proofs.stack.Stack.enter_call.Goals as goal

pub enter-requires-clause-words : goal.enter-requires-clause-words
enter-requires-clause-words c =
    let st = c.args.self.now.items in
    let n = c.args.count in
    let a : are_words n st ≡ true = Words.fewer n st (Words.there (suc n) st c.requires.words) in
    rw (c.remove_under.ensures.items, Words.words-entered n st (drop (suc n) st) a) (Words.length-words n st a)

pub returns-clause-items : goal.returns-clause-items
returns-clause-items c =
    let st = c.args.self.now.items in
    let n = c.args.count in
    let a : are_words n st ≡ true = Words.fewer n st (Words.there (suc n) st c.requires.words) in
    rw (c.enter.ensures.items, c.remove_under.ensures.items, Words.take-entered n st (drop (suc n) st) a, Words.drop-entered n st (drop (suc n) st) a) refl
