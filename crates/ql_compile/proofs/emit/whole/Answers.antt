use Rattle.std.proofs.Common.{◌∙◌, ap, map}
use Rattle.ql_expand.specs.View.{cores_of, function_of}
use Rattle.ql_compile.proofs.Framed.{whole_code}
use Rattle.ql_compile.proofs.emit.whole.Goals as goal

pub returns : goal.returns
returns c =
    let whole = whole_code (cores_of c.as_slice.result.now) (map function_of c.as_slice-2.result.now) (record { lookup = c.args.lookup; frame = c.new.result; output = c.new-2.result }) c.tops.new.self c.add.new.self c.functions.new.self
    c.new-2.ensures c.in_ok-tops.ensures c.in_ok-add.ensures c.in_ok-functions.ensures in
    let cs = c.as_slice.ensures ∙ ap (λ p. p.body) c.program-program.ensures in
    let fs = c.as_slice-2.ensures ∙ ap (λ p. p.functions) c.program-program.ensures in
    rw (cs, fs) at whole
