use Rattle.std.proofs.Common.{[], ◌∷◌, ◌++◌, ap, ◌∙◌}
use Rattle.ql_forms.specs.View.{spelling_of}
use Rattle.ql_read.specs.Scan.{push}
use Rattle.ql_read.specs.View.{stack_of}
use Rattle.ql_read.specs.declared.nesting.Frame.TheVariants.{PastTail}
use Rattle.ql_read.proofs.Views.{first_of, put_top, put_quote, put_list, put_tail, put_past}
use Rattle.ql_read.proofs.nesting.Nesting.put.Goals as goal

pub returns-in-None-clause-ok : goal.returns-in-None-clause-ok
returns-in-None-clause-ok c = λ later g.
    put_top later c.frames.self.frames.items c.pop.new.self.items c.frames.self.top.items c.push.new.self.items c.frames.ended
    (first_of _ c.frames.self.frames.items c.pop.new.self.items c.in-None.ensures.cases.0 c.in-None.ensures.rest) c.in-None.ensures.items c.in_ok-push-in-None.ensures.items
    ∙ c.frames.invariant.forms later g

pub frames-preserved : goal.frames-preserved
frames-preserved c = record {
  forms = λ later g.
      ap (λ f. push f (stack_of later c.pop.new.self.items c.frames.self.top.items)) (c.in_ok-ended-in-Some-InQuote.ensures later g)
      ∙ put_quote later c.frames.self.frames.items c.pop.new.self.items c.frames.self.top.items c.in-Some-InQuote.at (spelling_of later c.frames.ended)
      (c.in-Some-InQuote.ensures.items ∙ ap (λ f. c.pop.new.self.items ++ f ∷ []) c.in-Some-InQuote.field-0-is)
      ∙ c.frames.invariant.forms later g;
  names = c.frames.invariant.names;
}

pub returns-in-Some-InList-clause-ok : goal.returns-in-Some-InList-clause-ok
returns-in-Some-InList-clause-ok c = λ later g.
    put_list later c.frames.self.frames.items c.pop.new.self.items c.push-in-Some-InList-2.new.self.items c.frames.self.top.items c.in-Some-InList.at c.in-Some-InList.items c.push-in-Some-InList.new.self c.frames.ended
    (c.in-Some-InList.ensures.items ∙ ap (λ f. c.pop.new.self.items ++ f ∷ []) c.in-Some-InList.field-0-is) c.in_ok-push-in-Some-InList.ensures.items c.in_ok-push-in-Some-InList-2.ensures.items
    ∙ c.frames.invariant.forms later g

pub returns-in-Some-InTail-clause-ok : goal.returns-in-Some-InTail-clause-ok
returns-in-Some-InTail-clause-ok c = λ later g.
    put_tail later c.frames.self.frames.items c.pop.new.self.items c.push-in-Some-InTail.new.self.items c.frames.self.top.items c.in-Some-InTail.at c.in-Some-InTail.items c.frames.ended
    (c.in-Some-InTail.ensures.items ∙ ap (λ f. c.pop.new.self.items ++ f ∷ []) c.in-Some-InTail.field-0-is) (c.in_ok-push-in-Some-InTail.ensures.items ∙ ap (λ x. c.pop.new.self.items ++ PastTail c.in-Some-InTail.at c.in-Some-InTail.items x ∷ []) c.in_ok-tail-in-Some-InTail.ensures)
    ∙ c.frames.invariant.forms later g

pub returns-in-Some-PastTail-clause-ok : goal.returns-in-Some-PastTail-clause-ok
returns-in-Some-PastTail-clause-ok c = λ later g.
    put_past later c.frames.self.frames.items c.pop.new.self.items c.push-in-Some-PastTail.new.self.items c.frames.self.top.items c.in-Some-PastTail.at c.in-Some-PastTail.items c.frames.ended c.in-Some-PastTail.tail
    (c.in-Some-PastTail.ensures.items ∙ ap (λ f. c.pop.new.self.items ++ f ∷ []) c.in-Some-PastTail.field-0-is) c.in_ok-push-in-Some-PastTail.ensures.items
    ∙ c.frames.invariant.forms later g
