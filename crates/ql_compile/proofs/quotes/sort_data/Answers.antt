use Rattle.std.proofs.Common.{rules}
use Rattle.ql_forms.specs.Form.{place_of}
use Rattle.ql_forms.specs.View.{form_of}
use Rattle.ql_compile.proofs.SourceOrder.{closure_sort_is}
use Rattle.ql_compile.proofs.quotes.sort_data.Goals as goal

pub returns : goal.returns
returns c =
    closure_sort_is (λ f. place_of (form_of f.now)) (λ f. form_of f.now) c.sort_by_key.result c.args.found.now.items c.reverse.new.self.items c.sort_by_key.new.self.items
    c.reverse.ensures.items c.sort_by_key.ensures.stable c.sort_by_key.ensures.sorted (λ a k after called. search rules)
