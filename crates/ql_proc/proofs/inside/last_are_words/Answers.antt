use Rattle.std.proofs.Common.{◌≡◌, ◌<◌, sym, ◌∙◌, length, leb, reverse, arith, false}
use Rattle.std.proofs.lemmas.List.{length-reverse}
use Rattle.std.proofs.lemmas.Bool.Decides.{nat_tests}
use Rattle.ql_proc.proofs.Insides
use Rattle.ql_proc.proofs.inside.last_are_words.Goals as goal

pub returns-then-count-slots : goal.returns-then-count-slots
returns-then-count-slots c =
    let xs = c.args.slots.now in
    c.last_are_plain.ensures ∙ sym (Insides.plain-words c.args.count (reverse xs) (omega (arith, c.if-count-slots.true, length-reverse xs)))

pub returns-else-count-slots : goal.returns-else-count-slots
returns-else-count-slots c =
    let xs = c.args.slots.now in
    let h : length xs < c.args.count = c.if-count-slots.false in
    let e : leb c.args.count (length xs) ≡ false = grind (arith, nat_tests, h) in
    e ∙ sym (Insides.few-words c.args.count (reverse xs) (omega (arith, h, length-reverse xs)))
