use Rattle.std.proofs.Common.{◌≡◌, refl, ◌∙◌, reverse, drop}
use Rattle.ql_proc.proofs.Windowed
use Rattle.ql_proc.proofs.cuts.replace_marks.Goals as goal

pub put_marks-requires-clause-links : goal.put_marks-requires-clause-links
put_marks-requires-clause-links c =
    let xs = c.args.marks.now.items in
    let d : reverse c.truncate.new.self.items ≡ drop 64 (reverse xs) = rw (c.truncate.ensures.items, c.count_under-count.ensures, c.deref-2.ensures.value) (Windowed.reverse-lower 64 xs) in
    rw d (Windowed.links-drop 64 (reverse xs) c.requires.links)

pub put_marks-requires-clause-base : goal.put_marks-requires-clause-base
put_marks-requires-clause-base c =
    let xs = c.args.marks.now.items in
    let d : reverse c.truncate.new.self.items ≡ drop 64 (reverse xs) = rw (c.truncate.ensures.items, c.count_under-count.ensures, c.deref-2.ensures.value) (Windowed.reverse-lower 64 xs) in
    rw d (c.base_under-base.ensures ∙ rw c.deref.ensures.value refl)

pub returns-clause-marks : goal.returns-clause-marks
returns-clause-marks c =
    let xs = c.args.marks.now.items in
    let d : reverse c.truncate.new.self.items ≡ drop 64 (reverse xs) = rw (c.truncate.ensures.items, c.count_under-count.ensures, c.deref-2.ensures.value) (Windowed.reverse-lower 64 xs) in
    rw (← d) c.put_marks.ensures.marks
