use Rattle.std.proofs.Common.{◌≡◌, refl, ap, ◌∙◌, [], ◌∷◌, ◌++◌, List, None}
use Rattle.ql_world.specs.Tick.{slots_of}
use Rattle.ql_code.specs.Code.{unmasked}
use Rattle.ql_code.specs.declared.mark.Mark.TheVariants.{Base}
use Rattle.ql_code.specs.Machine.{Item, mark, push, push_slots, settled}
use Rattle.ql_proc.proofs.Words
use Rattle.ql_proc.proofs.process.Proc.start.Goals as goal

pub bind-requires-clause-words : goal.bind-requires-clause-words
bind-requires-clause-words c =
    let ws = c.args.words.now in
    let under : List Item = mark (Base None) ∷ [] in
    let p : c.push_words.new.self.items ≡ push ws under =
    c.push_words.ensures.items ∙ ap (push ws) (c.push_mark.ensures.items ∙ ap (λ (x : List Item). mark (Base None) ∷ x) c.clear.ensures.items) in
    rw (p, Words.words-pushed ws under) refl

pub bind-requires-clause-boxes : goal.bind-requires-clause-boxes
bind-requires-clause-boxes c =
    let ws = c.args.words.now in
    let under : List Item = mark (Base None) ∷ [] in
    let p : c.push_words.new.self.items ≡ push ws under =
    c.push_words.ensures.items ∙ ap (push ws) (c.push_mark.ensures.items ∙ ap (λ (x : List Item). mark (Base None) ∷ x) c.clear.ensures.items) in
    rw (p, Words.words-pushed ws under, c.requires.count) c.requires.boxes

pub returns-clause-point : goal.returns-clause-point
returns-clause-point c =
    let ws = c.args.words.now in
    let under : List Item = mark (Base None) ∷ [] in
    let p : c.push_words.new.self.items ≡ push ws under =
    c.push_words.ensures.items ∙ ap (push ws) (c.push_mark.ensures.items ∙ ap (λ (x : List Item). mark (Base None) ∷ x) c.clear.ensures.items) in
    let k = c.args.closure.now in
    let ss = slots_of (unmasked k.count k.mask) ws c.args.first in
    let b : c.bind.new.self.items ≡ push_slots ss under = rw (p, Words.words-pushed ws under, Words.drop-pushed ws under, c.requires.count) at c.bind.ensures.items in
    let e : c.push_all.new.self.items ≡ push_slots (ss ++ k.captured) under =
    rw (c.as_slice.ensures, b, ← Words.push-append ss k.captured under) at c.push_all.ensures.items in
    c.settle.ensures.point ∙ ap (settled c.args.code.now.instructions k.place) e
