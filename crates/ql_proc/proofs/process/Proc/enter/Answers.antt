use Rattle.std.proofs.Common.{◌≡◌, ap, ◌∙◌, ◌∷◌, ◌++◌, List, drop, suc, true}
use Rattle.ql_world.specs.Tick.{slots_of}
use Rattle.ql_code.specs.Code.{unmasked}
use Rattle.ql_code.specs.declared.mark.Mark.TheVariants.{Returning}
use Rattle.ql_code.specs.Machine.{Item, mark, words, push_slots, settled}
use Rattle.ql_proc.specs.Slots.{are_words}
use Rattle.ql_proc.proofs.Words
use Rattle.ql_proc.proofs.process.Proc.enter.Goals as goal

pub bind-requires-clause-words : goal.bind-requires-clause-words
bind-requires-clause-words c =
    let st = c.args.self.now.stack.items in
    let n = c.args.count in
    let a : are_words n st ≡ true = Words.fewer n st (Words.there (suc n) st c.requires.words) in
    let under : List Item = mark (Returning c.args.back) ∷ drop (suc n) st in
    rw (c.enter_call.ensures.items, Words.words-entered n st under a) (Words.length-words n st a)

pub bind-requires-clause-boxes : goal.bind-requires-clause-boxes
bind-requires-clause-boxes c =
    let st = c.args.self.now.stack.items in
    let n = c.args.count in
    let a : are_words n st ≡ true = Words.fewer n st (Words.there (suc n) st c.requires.words) in
    let under : List Item = mark (Returning c.args.back) ∷ drop (suc n) st in
    rw (c.enter_call.ensures.items, Words.words-entered n st under a) c.requires.boxes

pub returns-clause-point : goal.returns-clause-point
returns-clause-point c =
    let st = c.args.self.now.stack.items in
    let n = c.args.count in
    let a : are_words n st ≡ true = Words.fewer n st (Words.there (suc n) st c.requires.words) in
    let under : List Item = mark (Returning c.args.back) ∷ drop (suc n) st in
    let k = c.args.closure.now in
    let back : List Item = mark (Returning c.args.back) ∷ drop (suc n) st in
    let ss = slots_of (unmasked n k.mask) (words n st) c.args.first in
    let b : c.bind.new.self.items ≡ push_slots ss back =
    rw (c.enter_call.ensures.items, Words.words-entered n st under a, Words.drop-entered n st under a) at c.bind.ensures.items in
    let e : c.push_all.new.self.items ≡ push_slots (ss ++ k.captured) back =
    rw (c.as_slice.ensures, b, ← Words.push-append ss k.captured back) at c.push_all.ensures.items in
    rw c.requires.count (c.settle.ensures.point ∙ ap (settled c.args.code.now.instructions k.place) e)
