use Rattle.std.proofs.Common.{◌≡◌, ◌++◌, length, take, drop}
use Rattle.ql_forms.specs.FormText.{items_text}
use Rattle.ql_forms.specs.View.{spellings_of}
use Rattle.ql_forms.proofs.Written.{rest_text}
use Rattle.ql_forms.proofs.write.+put.Given as goal

abbrev pub invariant-put_items-loop-item : goal.invariant-put_items-loop-item
invariant-put_items-loop-item l =
    (l.to.items ++ rest_text l.is_first (spellings_of l.names (drop l.item-index l.items)) ≡ l.fn.to.items ++ items_text (spellings_of l.names l.items))
    × (take (length l.fn.to.items) l.to.items ≡ l.fn.to.items)
