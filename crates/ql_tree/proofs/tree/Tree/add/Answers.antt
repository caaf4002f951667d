use Rattle.std.proofs.Common.{arith, refl}
use Rattle.ql_tree.proofs.Counts.{running-added, running-most}
use Rattle.ql_tree.proofs.tree.Tree.add.Goals as goal

pub overflow_add-self : goal.overflow_add-self
overflow_add-self c =
    let i = c.self.invariant in
    omega (arith, running-most c.self.inside.persons.items)

pub invariant_of-self : goal.invariant_of-self
invariant_of-self c =
    let i = c.self.invariant in
    record {
      few_persons = omega arith;
      few_catches = i.few_catches;
      counted = rw (c.put.ensures.items, c.fresh.ensures, running-added c.self.inside.persons.items, i.counted) refl;
    }
