use Rattle.std.proofs.Common.{ap, reverse}
use Rattle.ql_proc.specs.Stacked.{Stacked}
use Rattle.ql_proc.proofs.Tops
use Rattle.ql_proc.proofs.stack.Stack.frame_under.Goals as goal

pub lower-requires : goal.lower-requires
lower-requires c = rw c.deref.ensures.value (Tops.base-low _ _ c.self.inside.slots.items (reverse c.self.inside.marks.items) _ c.self.invariant (ap (λ (x : Stacked). x.items) c.self.view_is) c.requires)

pub returns : goal.returns
returns c =
    rw (c.lower.ensures, c.deref.ensures.value) (Tops.frame-lower _ _ c.self.inside.slots.items (reverse c.self.inside.marks.items) _ c.self.invariant (ap (λ (x : Stacked). x.items) c.self.view_is) c.requires)
