use Rattle.std.proofs.Common.{◌≡◌, refl, sym, ap, subst, length, None, [], ◌∷◌}
use Rattle.std.specs.Arc.{arc_value}
use Rattle.ql_code.specs.Code.{Code}
use Rattle.ql_code.specs.declared.mark.Mark.TheVariants as Mark
use Rattle.ql_code.specs.Machine.{mark, settled}
use Rattle.ql_proc.specs.declared.process.Proc.{Proc}
use Rattle.ql_proc.specs.Points.{point_of}
use Rattle.ql_host.specs.Hosted.{IsOpening}
use Rattle.ql_host.proofs.Hosts.{hosted_first, opened_first, are_printed}
use Rattle.ql_host.proofs.host.Host.begin.Goals as goal

pub invariant_of-result : goal.invariant_of-result
invariant_of-result c =
    let opened : IsOpening (arc_value c.args.code) c.args.limits c.in_ok-shared.shared = subst (λ (z : Code). IsOpening z c.args.limits c.in_ok-shared.shared) c.deref.ensures c.in_ok-shared.ensures in
    let one : c.push.new.self.items ≡ c.in_ok-first.field-0 ∷ [] = rw (c.in_ok-push.ensures.items, c.new-procs.ensures.items) refl in
    let first : point_of c.in_ok-first.field-0 ≡ settled (arc_value c.args.code).instructions 0 (mark (Mark.Base None) ∷ []) = rw (sym c.deref-2.ensures) c.in_ok-first.ensures in
    hosted_first (arc_value c.args.code) c.args.names c.args.limits c.in_ok-shared.shared c.push.new.self.items
    (opened_first (arc_value c.args.code) c.args.names c.args.limits c.in_ok-shared.shared c.push.new.self.items c.in_ok-first.field-0 opened one first)
    opened (ap (length {A = Proc}) one) c.requires.limits.budget (are_printed c.args.names c.requires.names)
