use Rattle.std.proofs.Common.{◌≡◌, true, length, map, sym, subst}
use Rattle.ql_forms.specs.View.{forms_of}
use Rattle.ql_expand.specs.Primitives.{program_below}
use Rattle.ql_expand.specs.Core.{program}
use Rattle.ql_expand.specs.View.{cores_of, function_of}
use Rattle.ql_expand.proofs.TopForms.{many_names}
use Rattle.ql_expand.proofs.top.program_of_text.Goals as goal

pub invariant_of-result : goal.invariant_of-result
invariant_of-result c =
    let tops = c.in_ok-tops.tops in
    let made = program (map function_of tops.functions) tops.globals (cores_of tops.body) in
    let names = c.args.text.now.names in
    record {
      numbered = subst (λ n. program_below n made ≡ true) (sym c.len-names.ensures.count)
          (c.expanded_numbers.ensures (length names) (forms_of c.args.text.now.forms) made c.in_ok-tops.ensures (many_names names c.len-names.ensures.reserved) c.args.text.now.numbered);
    }
