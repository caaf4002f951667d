use Rattle.std.proofs.Common.{◌∙◌, ap, map}
use Rattle.ql_expand.specs.View.{name_of}
use Rattle.ql_compile.specs.Compile.{is_name_among, without}
use Rattle.ql_compile.specs.Free.{named_by}
use Rattle.ql_compile.proofs.Capturing.{listed, removed, same_key}
use Rattle.ql_compile.proofs.names.Names.remove.Goals as goal

pub returns-clause-found : goal.returns-clause-found
returns-clause-found c =
    c.swap_remove.ensures.found ∙ (listed _ same_key c.self.inside.keys.keys c.key_of.result
    ∙ (ap (λ x. is_name_among x (map named_by c.self.inside.keys.keys)) c.key_of.ensures ∙ ap (is_name_among (name_of c.args.name)) c.self.view_is))

pub returns-clause-left : goal.returns-clause-left
returns-clause-left c x =
    removed _ same_key c.self.inside.keys.keys c.swap_remove.new.self.keys c.key_of.result c.swap_remove.ensures.updates.0 x
    ∙ (ap (λ y. is_name_among x (without y (map named_by c.self.inside.keys.keys))) c.key_of.ensures ∙ ap (λ xs. is_name_among x (without (name_of c.args.name) xs)) c.self.view_is)
