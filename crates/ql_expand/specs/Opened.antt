-- What a value's core is made of, a level at a time: these lemmas serve proofs alone.
use Rattle.std.specs.Prelude.{◌≡◌}
use Rattle.ql_expand.specs.View.{core_of, node_of, bound_of, binder_of, node_step, bound_step, core_step}
use Rattle.ql_expand.specs.Core as spec
use Rattle.ql_expand.specs.Core.{core}
use Rattle.ql_expand.specs.declared.core_form.Core.{Core}
use Rattle.ql_expand.specs.declared.core_form.Bound.{Bound}
use Rattle.ql_expand.specs.declared.core_form.Node.{Node, out-Node, map-Node, fold_out-Node}
use Rattle.ql_expand.specs.declared.core_form.Node.TheFolds.{fold-roll-Core, fold-roll-Bound}
use Rattle.ql_expand.specs.declared.core_form.Node.TheOpen.{Node-F}

pub opened : (c : Core) → core_of c ≡ core c.at.0 (node_of c.node)
opened c = fold-roll-Core spec.Node (spec.Binder × spec.Core) spec.Core node_step bound_step core_step (record { at = c.at; node = c.node })

pub bound_opened : (b : Bound) → bound_of b ≡ (binder_of b.binder, core_of b.value)
bound_opened b = fold-roll-Bound spec.Node (spec.Binder × spec.Core) spec.Core node_step bound_step core_step (record { binder = b.binder; value = b.value })

-- one level of a node, whose parts a lemma `outs-KIND` tells
pub node_opened : (n : Node) → node_of n ≡ node_step (map-Node Node Bound Core spec.Node (spec.Binder × spec.Core) spec.Core node_of bound_of core_of (out-Node n))
node_opened n = fold_out-Node spec.Node (spec.Binder × spec.Core) spec.Core node_step bound_step core_step n
