use Rattle.std.proofs.Common.{◌≡◌, ◌∙◌, ap, sym, refl}
use Rattle.std.proofs.Math.Logic.{∥∥₁_elim}
use Rattle.std.proofs.Math.Bool.{Bool-set}
use Rattle.ql_expand.specs.Core.{binder, named}
use Rattle.ql_expand.specs.View.{name_of}
use Rattle.ql_expand.specs.ProgramView.{program_of}
use Rattle.ql_scope.specs.Scoped.{HasScope, is_listed}
use Rattle.ql_scope.specs.Stored.{is_stored}
use Rattle.ql_scope.proofs.Collected.{hidden_is_not_stored, listed}
use Rattle.ql_scope.proofs.scoped.Scoped.is_stored.Goals as goal

pub returns-in-Sym : goal.returns-in-Sym
returns-in-Sym c =
    let scoped = c.args.self.now in
    let p = program_of scoped.program in
    let at = c.args.binder.0 in
    let kept : is_listed scoped.stored.keys at c.in-Sym.number ≡ is_stored p (binder at (named c.in-Sym.number)) =
    ∥∥₁_elim scoped.scoped (Bool-set _ _) (λ (h : HasScope p scoped.program.names scoped.stored.keys). h.stored at c.in-Sym.number) in
    c.contains.ensures ∙ (listed _ (λ x y. refl) scoped.stored.keys (record { at = at; name = c.in-Sym.number })
    ∙ (kept ∙ sym (ap (λ v. is_stored p (binder at (name_of v))) c.in-Sym.is)))

pub returns-in-Hidden : goal.returns-in-Hidden
returns-in-Hidden c =
    let p = program_of c.args.self.now.program in
    sym (ap (λ v. is_stored p (binder c.args.binder.0 (name_of v))) c.in-Hidden.is ∙ hidden_is_not_stored p c.args.binder.0 c.in-Hidden.field-0)
