use Rattle.std.proofs.Common.{◌≡◌, ◌∙◌, ap, sym, false}
use Rattle.ql_expand.specs.View.{name_of}
use Rattle.ql_compile.specs.Compile.{is_name_among}
use Rattle.ql_compile.specs.Free.{Gathered, with_name}
use Rattle.ql_compile.proofs.Capturing.{used_free}
use Rattle.ql_compile.proofs.free.Walk.used.Goals as goal

pub returns-in_ok-insert : goal.returns-in_ok-insert
returns-in_ok-insert c =
    let y = name_of c.args.name in
    let new : c.contains.result ≡ false = c.if-not-contains.true in
    used_free c.args.self.now _ y (ap (λ (s : Gathered). is_name_among y s.bound) (sym c.self.view_is) ∙ (sym c.contains.ensures ∙ new))
    (ap (λ (s : Gathered). s.bound) c.self.view_is) (c.in_ok-insert.ensures ∙ ap (λ (s : Gathered). with_name s.found y) c.self.view_is)
