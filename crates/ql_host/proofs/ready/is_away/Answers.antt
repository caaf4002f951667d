use Rattle.std.proofs.Common.{◌≡◌, refl, sym, ap, ◌∙◌, ◌==◌, false, map, arith}
use Rattle.std.specs.Prelude.{◌||◌, option_copied}
use Rattle.ql_tree.specs.Persons.{process_of_person}
use Rattle.ql_proc.specs.Points.{point_of}
use Rattle.ql_host.specs.Ready.{machine, world}
use Rattle.ql_host.specs.Waiting.{is_harmless, is_away, holds_at}
use Rattle.ql_host.proofs.Stepping.{process_found, no_person, no_proc}
use Rattle.ql_host.proofs.ready.is_away.Goals as goal

pub returns-in_default : goal.returns-in_default
returns-in_default c = rw (no_person c.args.shared.now.tree.persons c.args.procs.now c.args.number (sym c.person.ensures ∙ c.in_default.is)) refl

pub returns-in_default-proc_at : goal.returns-in_default-proc_at
returns-in_default-proc_at c = rw (no_proc c.args.shared.now.tree.persons c.args.procs.now c.args.number (sym c.proc_at.ensures ∙ ap option_copied c.in_default-proc_at.is)) refl

pub returns : goal.returns
returns c =
    let m = machine c.args.s in
    let w = world c.args.s c.args.shared.now c.args.procs.now in
    let t = c.in-Some-proc_at.proc.now in
    let q = process_of_person c.in-Some.person (point_of t) in
    let f : (c.args.number == c.args.p) ≡ false = grind (arith, c.if-number-p.false) in
    c.is_harmless.ensures (map point_of c.args.procs.now)
    ∙ sym (ap (λ b. b || is_harmless m w c.args.enough c.args.c q) f)
    ∙ sym (ap (holds_at (is_away m w c.args.enough c.args.p c.args.c) c.args.number)
    (process_found c.args.shared.now.tree.persons c.args.procs.now c.args.number c.in-Some.person t (sym c.person.ensures ∙ c.in-Some.is) (sym c.proc_at.ensures ∙ ap option_copied c.in-Some-proc_at.is)))
