use Rattle.std.proofs.Common.{◌∙◌, ap, map}
use Rattle.ql_expand.specs.View.{name_of}
use Rattle.ql_compile.specs.Free.{named_by, with_name}
use Rattle.ql_compile.proofs.Capturing.{inserted, same_key}
use Rattle.ql_compile.proofs.names.Names.insert.Goals as goal

pub returns : goal.returns
returns c =
    ap (map named_by) c.in_ok-insert.ensures.keys ∙ (inserted _ same_key c.self.inside.keys.keys c.key_of.result
    ∙ (ap (λ x. with_name (map named_by c.self.inside.keys.keys) x) c.key_of.ensures ∙ ap (λ xs. with_name xs (name_of c.args.name)) c.self.view_is))
