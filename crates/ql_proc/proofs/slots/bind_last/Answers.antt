use Rattle.std.proofs.Common.{◌≡◌, ◌≤◌, length, reverse, sym, ap, ◌∙◌, arith}
use Rattle.std.proofs.lemmas.List.{length-reverse}
use Rattle.ql_proc.proofs.Binding
use Rattle.ql_proc.proofs.Lists.{put-back}
use Rattle.ql_proc.proofs.slots.bind_last.Goals as goal

pub bind_from-requires-clause-words : goal.bind_from-requires-clause-words
bind_from-requires-clause-words c =
    let xs = c.args.slots.now.items in
    let h : c.args.count ≤ length xs = omega (arith, c.requires.within, length-reverse xs) in
    let n : c.len.result ≡ length xs = c.len.ensures ∙ (sym c.deref_mut.ensures.len ∙ ap length c.deref_mut.ensures.value) in
    rw (c.deref_mut.ensures.value, n) (Binding.plain-last c.args.count xs h c.requires.words)

pub bind_from-requires-clause-boxes : goal.bind_from-requires-clause-boxes
bind_from-requires-clause-boxes c =
    let xs = c.args.slots.now.items in
    let h : c.args.count ≤ length xs = omega (arith, c.requires.within, length-reverse xs) in
    let n : c.len.result ≡ length xs = c.len.ensures ∙ (sym c.deref_mut.ensures.len ∙ ap length c.deref_mut.ensures.value) in
    rw (c.deref_mut.ensures.value, n, Binding.boxes-last c.args.count xs h c.args.mask c.args.first) c.requires.boxes

pub returns-clause-slots : goal.returns-clause-slots
returns-clause-slots c =
    let xs = c.args.slots.now.items in
    let h : c.args.count ≤ length xs = omega (arith, c.requires.within, length-reverse xs) in
    let n : c.len.result ≡ length xs = c.len.ensures ∙ (sym c.deref_mut.ensures.len ∙ ap length c.deref_mut.ensures.value) in
    let e = rw (c.deref_mut.ensures.value, n) at c.bind_from.ensures in
    rw (put-back _ xs c.bind_from.new.slots (c.bind_from.auto.slots ∙ ap length c.deref_mut.ensures.value) (sym c.len.ensures ∙ n)) (ap reverse e ∙ Binding.bound-last c.args.count xs h c.args.mask c.args.first)
