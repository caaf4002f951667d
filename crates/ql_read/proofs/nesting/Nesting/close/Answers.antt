use Rattle.std.proofs.Common.{[], ◌∷◌, ◌++◌, ap, ◌∙◌, refl}
use Rattle.ql_forms.specs.Spelled.{with_tail, list_form}
use Rattle.ql_forms.specs.View.{spelling_of, spellings_of}
use Rattle.ql_read.specs.View.{nested}
use Rattle.ql_read.proofs.Views.{close_list, close_past, close_bad}
use Rattle.ql_read.proofs.nesting.Nesting.close.Goals as goal

pub returns-in-Some-InList-clause-ok : goal.returns-in-Some-InList-clause-ok
returns-in-Some-InList-clause-ok c = λ later g.
    close_list later c.args.at c.in-Some-InList.from c.args.self.now.frames.items c.pop.new.self.items c.in-Some-InList.items c.args.self.now.top.items (nested later c.put.new.self) (spelling_of later c.proper_list.result)
    (c.in-Some-InList.ensures.items ∙ ap (λ f. c.pop.new.self.items ++ f ∷ []) c.in-Some-InList.field-0-is) (c.in_ok-put-in-Some-InList.ensures.ok later g) (c.proper_list.ensures later g)

pub returns-in-Some-PastTail-clause-ok : goal.returns-in-Some-PastTail-clause-ok
returns-in-Some-PastTail-clause-ok c = λ later g.
    close_past later c.args.at c.in-Some-PastTail.from c.args.self.now.frames.items c.pop.new.self.items c.in-Some-PastTail.items c.in-Some-PastTail.tail c.args.self.now.top.items (nested later c.put-in-Some-PastTail.new.self) (spelling_of later c.in_ok-list-in-Some-PastTail.list)
    (c.in-Some-PastTail.ensures.items ∙ ap (λ f. c.pop.new.self.items ++ f ∷ []) c.in-Some-PastTail.field-0-is) (c.in_ok-put-in-Some-PastTail.ensures.ok later g)
    (c.in_ok-list-in-Some-PastTail.ensures later g ∙ ap (λ x. list_form c.in-Some-PastTail.from (spellings_of later c.in-Some-PastTail.items.items) (with_tail (spelling_of later x))) c.into_inner.ensures)

pub returns-in-Some-InTail-clause-ok : goal.returns-in-Some-InTail-clause-ok
returns-in-Some-InTail-clause-ok c = λ later g. close_bad later c.args.at _ c.args.self.now.frames.items c.pop.new.self.items _ c.args.self.now.top.items (c.in-Some-InTail.ensures.items ∙ ap (λ f. c.pop.new.self.items ++ f ∷ []) c.in-Some-InTail.field-0-is) refl

pub returns-in-Some-InQuote-clause-ok : goal.returns-in-Some-InQuote-clause-ok
returns-in-Some-InQuote-clause-ok c = λ later g. close_bad later c.args.at _ c.args.self.now.frames.items c.pop.new.self.items _ c.args.self.now.top.items (c.in-Some-InQuote.ensures.items ∙ ap (λ f. c.pop.new.self.items ++ f ∷ []) c.in-Some-InQuote.field-0-is) refl
