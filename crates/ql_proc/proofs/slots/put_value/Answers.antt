use Rattle.std.proofs.Common.{◌≡◌, ◌≤◌, length, reverse, sym, ap, ◌∙◌, arith}
use Rattle.std.proofs.lemmas.List.{length-reverse}
use Rattle.ql_proc.proofs.Binding
use Rattle.ql_proc.proofs.Lists.{put-back}
use Rattle.ql_proc.proofs.slots.put_value.Goals as goal

pub put_value_from-requires-clause-words : goal.put_value_from-requires-clause-words
put_value_from-requires-clause-words c =
    let xs = c.args.slots.now.items in
    let h : c.args.count ≤ length xs = omega (arith, c.requires.within, length-reverse xs) in
    let n : c.len.result ≡ length xs = c.len.ensures ∙ (sym c.deref_mut.ensures.len ∙ ap length c.deref_mut.ensures.value) in
    rw (c.deref_mut.ensures.value, n) (Binding.plain-last c.args.count xs h c.requires.words)

pub returns-clause-slots : goal.returns-clause-slots
returns-clause-slots c =
    let xs = c.args.slots.now.items in
    let h : c.args.count ≤ length xs = omega (arith, c.requires.within, length-reverse xs) in
    let n : c.len.result ≡ length xs = c.len.ensures ∙ (sym c.deref_mut.ensures.len ∙ ap length c.deref_mut.ensures.value) in
    let e = rw (c.deref_mut.ensures.value, n) at c.put_value_from.ensures in
    rw (put-back _ xs c.put_value_from.new.slots (c.put_value_from.auto.slots ∙ ap length c.deref_mut.ensures.value) (sym c.len.ensures ∙ n)) (ap reverse e ∙ Binding.value-last c.args.count xs h c.args.value)
