use Rattle.std.proofs.Common.{◌≡◌, sym, ap, append_assoc, ◌∙◌, [], ◌∷◌, ◌++◌, List, map, drop, replicate, Some}
use Rattle.ql_world.specs.declared.word.Slot.{Slot}
use Rattle.ql_world.specs.Word.{nil}
use Rattle.ql_code.specs.declared.mark.Mark.TheVariants.{Base}
use Rattle.ql_code.specs.Machine.{Item, slot, mark, word, push_slots, frame_of}
use Rattle.ql_proc.proofs.Words
use Rattle.ql_proc.proofs.makers.child_of.Goals as goal

pub returns : goal.returns
returns c =
    let ss = c.frame_under-frame.result.now in
    let under : List Item = mark (Base (Some c.args.join)) ∷ [] in
    let b : c.push_mark.new.self.items ≡ under = c.push_mark.ensures.items ∙ ap (λ (x : List Item). mark (Base (Some c.args.join)) ∷ x) (c.in_ok-reserve.ensures.same ∙ c.new-stack.ensures) in
    let e : c.push_all.new.self.items ≡ map slot (frame_of (drop 1 c.args.parent.now.items)) ++ under =
    c.push_all.ensures.items ∙ (ap (push_slots ss) b ∙ (Words.push-reverse ss under ∙ ap (λ (x : List Slot). map slot x ++ under) c.frame_under-frame.ensures)) in
    c.push_nils.ensures.items
    ∙ (ap (λ (x : List Item). replicate c.args.nils (word nil) ++ x) e
    ∙ sym (append_assoc (replicate c.args.nils (word nil)) (map slot (frame_of (drop 1 c.args.parent.now.items))) under))
