use Rattle.std.proofs.Common.{◌∙◌, ap, map}
use Rattle.ql_expand.specs.View.{name_of}
use Rattle.ql_compile.specs.Compile.{is_name_among}
use Rattle.ql_compile.specs.Free.{named_by}
use Rattle.ql_compile.proofs.Capturing.{listed, same_key}
use Rattle.ql_compile.proofs.names.Names.contains.Goals as goal

pub returns : goal.returns
returns c =
    c.contains.ensures ∙ (listed _ same_key c.self.inside.keys.keys c.key_of.result
    ∙ (ap (λ x. is_name_among x (map named_by c.self.inside.keys.keys)) c.key_of.ensures ∙ ap (is_name_among (name_of c.args.name)) c.self.view_is))
