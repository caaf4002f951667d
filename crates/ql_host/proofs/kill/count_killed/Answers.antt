use Rattle.std.proofs.Common.{sym, ap, ◌∙◌, suc, ◌+◌, add-one, arith, Bool, length, drop}
use Rattle.std.specs.Prelude.{if◌then◌else◌}
use Rattle.ql_world.specs.Run.{those_from}
use Rattle.ql_tree.specs.Kill.{is_killed}
use Rattle.ql_host.proofs.Killing.{left_next}
use Rattle.ql_host.proofs.kill.count_killed.Goals as goal
use Rattle.ql_host.proofs.kill.count_killed.Goals.{then-is_killed, else-is_killed}

pub count-preserved : goal.count-preserved
count-preserved c =
    let catches = c.args.tree.now.catches in
    let rs = c.args.tree.now.persons in
    let at = c.count.at in
    let left = length (those_from (is_killed catches c.args.c c.args.owner) (suc (suc at)) (drop (suc at) rs)) in
    let e = left_next catches c.args.c c.args.owner (suc at) at rs in
    let k = rw add-one at c.is_killed.ensures in
    elim c.if-is_killed.branch [
      | then-is_killed w ↦
          let f = e ∙ ap (λ (b : Bool). (if b then 1 else 0) + left) (sym k ∙ w.if-is_killed.true) in
          record { few = omega (arith, w.killed-is, c.count.invariant.few); rest = rw add-one (omega (arith, w.killed-is, f, c.count.invariant.rest)) }
      | else-is_killed w ↦
          let f = e ∙ ap (λ (b : Bool). (if b then 1 else 0) + left) (sym k ∙ w.if-is_killed.false) in
          record { few = omega (arith, w.killed-is, c.count.invariant.few); rest = rw add-one (omega (arith, w.killed-is, f, c.count.invariant.rest)) }
    ]
