use Rattle.std.proofs.Common.{◌≡◌, refl, ap, ◌∙◌, ◌∷◌, ◌++◌, ◌+◌, ℕ, take, List, drop, true}
use Rattle.ql_code.specs.declared.mark.Mark.TheVariants.{Returning}
use Rattle.ql_code.specs.Machine.{Item, mark, settled}
use Rattle.ql_proc.specs.Slots.{are_words}
use Rattle.ql_proc.proofs.Words
use Rattle.ql_proc.proofs.process.Proc.call.Goals as goal

pub bind-requires-clause-words : goal.bind-requires-clause-words
bind-requires-clause-words c =
    let st = c.args.self.now.stack.items in
    let n = c.args.count in
    let a : are_words n st ≡ true = Words.there n st c.requires.words in
    let under : List Item = mark (Returning (c.args.self.now.place + 1)) ∷ drop n st in
    let e = c.enter.ensures.items ∙ ap (λ (pc : ℕ). take n st ++ (mark (Returning pc) ∷ drop n st)) c.next_place-back.ensures in
    rw (e, Words.words-entered n st under a) (Words.length-words n st a)

pub bind-requires-clause-boxes : goal.bind-requires-clause-boxes
bind-requires-clause-boxes c =
    let st = c.args.self.now.stack.items in
    let n = c.args.count in
    let a : are_words n st ≡ true = Words.there n st c.requires.words in
    let under : List Item = mark (Returning (c.args.self.now.place + 1)) ∷ drop n st in
    let e = c.enter.ensures.items ∙ ap (λ (pc : ℕ). take n st ++ (mark (Returning pc) ∷ drop n st)) c.next_place-back.ensures in
    rw (e, Words.words-entered n st under a) c.requires.boxes

pub returns-clause-point : goal.returns-clause-point
returns-clause-point c =
    let st = c.args.self.now.stack.items in
    let n = c.args.count in
    let a : are_words n st ≡ true = Words.there n st c.requires.words in
    let under : List Item = mark (Returning (c.args.self.now.place + 1)) ∷ drop n st in
    let e = c.enter.ensures.items ∙ ap (λ (pc : ℕ). take n st ++ (mark (Returning pc) ∷ drop n st)) c.next_place-back.ensures in
    c.settle.ensures.point ∙ ap (settled c.args.code.now.instructions c.args.place) (c.bind.ensures.items ∙ rw (e, Words.words-entered n st under a, Words.drop-entered n st under a) refl)
