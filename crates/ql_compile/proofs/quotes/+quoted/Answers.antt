use Rattle.ql_forms.specs.View.{form_of, forms_of, tail_of}
use Rattle.std.proofs.Common.{◌+◌, drop}
use Rattle.ql_compile.proofs.Linked.{forms_from, one_linked}
use Rattle.ql_compile.proofs.quotes.+quoted.Goals as goal

pub put_items-loop-item-preserved : goal.put_items-loop-item-preserved
put_items-loop-item-preserved t c =
    let items = c.args.items.now in
    let i = c.loop-item.item-index in
    let item = c.item-item.result in
    one_linked (form_of item) (forms_of (drop i items)) (forms_of (drop (i + 1) items)) (tail_of c.args.tail) c.loop-item.words.items c.push.new.self.items c.loop-item.pairs.items c.put_form.new.pairs.items c.in_ok-word.word _
    (forms_from items i item c.loop-item-test.true c.item-item.is) c.loop-item.invariant c.in_ok-word.ensures c.in_ok-push.ensures.items
