use Rattle.std.proofs.Common.{◌<◌, length, arith}
use Rattle.ql_world.specs.Word.{nil}
use Rattle.ql_host.proofs.Boxes.{after_stored, after_held}
use Rattle.ql_host.proofs.ticks.boxes.stored_words.Goals.{then-rest-eq1+in_ok-push, else-rest-eq1}
use Rattle.ql_host.proofs.ticks.boxes.stored_words.Goals as goal

pub words-preserved : goal.words-preserved
words-preserved c =
    let i = c.words.w-index in
    let ws = c.args.words.now in
    let h : i < length ws = omega (arith, c.words-test.true) in
    elim c.if-rest-eq1.branch [
      | then-rest-eq1+in_ok-push w ↦ rw (w.stored-is, w.in_ok-push.ensures.items) (after_stored c.words.stored.items ws _ i c.words.rest h c.words.invariant _ w.if-rest-eq1.true)
      | else-rest-eq1 w ↦ rw (w.stored-is) (after_held c.words.stored.items ws _ i c.words.rest h c.words.invariant nil w.if-rest-eq1.false)
    ]
