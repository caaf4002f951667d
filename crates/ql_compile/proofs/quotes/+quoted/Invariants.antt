use Rattle.std.proofs.Common.{◌≡◌, drop, length}
use Rattle.ql_forms.specs.View.{forms_of, tail_of}
use Rattle.ql_meaning.specs.Context.{quoted_items}
use Rattle.ql_compile.proofs.Linked.{linked}
use Rattle.ql_compile.proofs.quotes.+quoted.Given as goal

-- the words so far, linked to the list of the rest, make the list of all
abbrev pub invariant-put_items-loop-item : goal.invariant-put_items-loop-item
invariant-put_items-loop-item l =
    linked l.words.items (quoted_items (forms_of (drop l.item-index l.items)) (tail_of l.tail) l.pairs.items) ≡ quoted_items (forms_of l.items) (tail_of l.tail) l.fn.pairs.items

abbrev pub invariant-put_items-loop-word : goal.invariant-put_items-loop-word
invariant-put_items-loop-word l =
    linked l.words.items (l.pairs.items, l.list) ≡ quoted_items (forms_of l.items) (tail_of l.fn.tail) l.fn.pairs.items

abbrev pub decreases-put_items-loop-word : goal.decreases-put_items-loop-word
decreases-put_items-loop-word l = length l.words.items
