use Rattle.std.proofs.Common.{◌≡◌, ◌∙◌, length}
use Rattle.ql_forms.proofs.Written.{cut_back}
use Rattle.ql_forms.proofs.write.write_form.Goals as goal

pub returns-then-is_err-clause-err : goal.returns-then-is_err-clause-err
returns-then-is_err-clause-err c =
    let at : c.len-before.result ≡ length c.args.to.now.items = c.len-before.ensures ∙ c.args.to.now.ok.0 in
    cut_back c.put_form-written.result c.args.to.now.items c.put_form-written.new.to.items c.truncate.new.self.items c.len-before.result at c.truncate.ensures.items c.put_form-written.ensures.err
