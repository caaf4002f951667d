use Rattle.std.proofs.Common.{◌≡◌, ◌≤◌, ◌+◌, ◌++◌, take}
use Rattle.ql_host.proofs.ticks.boxes.put_boxes.Given as goal

abbrev pub invariant-words : goal.invariant-words
invariant-words l =
    (l.cells ≡ record l.fn.cells { boxes = l.fn.cells.boxes ++ take l.w-index l.words; made = l.fn.cells.made + l.w-index; spare = l.cells.spare })
    × (l.fn.cells.spare ≤ l.cells.spare + l.w-index)
