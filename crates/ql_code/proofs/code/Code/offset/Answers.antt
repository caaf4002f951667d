use Rattle.std.proofs.Common.{◌∙◌, ap, sym, subst, ◌<◌, length, option_map, slice_get}
use Rattle.ql_code.proofs.Instructions.{as_many, offset_at, inside, read}
use Rattle.ql_code.proofs.code.Code.offset.Goals as goal

pub index-requires : goal.index-requires
index-requires c = inside _ c.args.self.now c.args.place _ c.self.inside.offsets.ok.0 (sym (as_many c.self.inside.ops.items c.self.inside.offsets.items c.self.invariant.0 ∙ c.self.invariant.0) ∙ ap (λ k. length k.instructions) c.self.view_is) c.requires

pub returns : goal.returns
returns c =
    ap (λ k. option_map (λ i. i.at) (slice_get k.instructions c.args.place)) (sym c.self.view_is)
    ∙ offset_at c.self.inside.ops.items c.self.inside.offsets.items c.args.place c.self.invariant.0
    ∙ ap (option_map (λ n. n.0)) (read _ _ _ (subst (λ n. c.args.place < n) (sym (sym (as_many c.self.inside.ops.items c.self.inside.offsets.items c.self.invariant.0 ∙ c.self.invariant.0) ∙ ap (λ k. length k.instructions) c.self.view_is)) c.requires) c.index.ensures)
