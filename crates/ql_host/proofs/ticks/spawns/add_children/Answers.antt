use Rattle.std.proofs.Common.{◌≡◌, ◌≤◌, ◌<◌, ◌+◌, ℕ, length, map, sym, arith, subst}
use Rattle.std.proofs.lemmas.List.{length-map}
use Rattle.ql_proc.specs.Points.{point_of}
use Rattle.ql_host.specs.declared.shared.Shared.{Shared}
use Rattle.ql_host.proofs.Children.{children_made, grows_on}
use Rattle.ql_host.proofs.ticks.spawns.add_children.Goals as goal

pub children-preserved : goal.children-preserved
children-preserved c =
    let start : Shared = c.args.shared.now in
    let old : Shared = c.children.shared in
    let new : Shared = c.add_child.new.shared in
    let n : ℕ = c.children.n in
    let k : length old.tree.persons ≡ length start.tree.persons + n = c.children.invariant.1 in
    let e = c.add_child.ensures in
    let f : start.futures.spare ≤ old.futures.spare + n = c.children.invariant.3 in
    let t : start.tree.spare ≤ old.tree.spare + n = c.children.invariant.4 in
    let h : start.history.spare ≤ old.history.spare + n = c.children.invariant.5 in
    let l : length new.tree.persons ≡ length old.tree.persons + 1 = e.persons in
    let ef : old.futures.spare ≤ new.futures.spare + 1 = e.futures in
    let et : old.tree.spare ≤ new.tree.spare + 1 = e.tree in
    let eh : old.history.spare ≤ new.history.spare + 1 = e.events in (
      children_made start old new c.args.p c.args.home n (map point_of c.args.made.now) (subst (λ m. n < m) (sym (length-map c.args.made.now point_of)) c.children-test.true) k c.children.invariant.0 e.world,
      omega (arith, k, l),
      grows_on start old new c.children.invariant.2 e.grows,
      omega (arith, f, ef),
      omega (arith, t, et),
      omega (arith, h, eh),
    )
