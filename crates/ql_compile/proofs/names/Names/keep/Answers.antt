use Rattle.std.proofs.Common.{◌∙◌, ap, map, take}
use Rattle.ql_compile.specs.Free.{named_by}
use Rattle.ql_compile.proofs.Capturing.{map_take}
use Rattle.ql_compile.proofs.names.Names.keep.Goals as goal

pub returns : goal.returns
returns c = ap (map named_by) c.truncate.ensures.keys ∙ (map_take named_by c.args.len c.self.inside.keys.keys ∙ ap (take c.args.len) c.self.view_is)
