use Rattle.std.proofs.Common.{[], ◌∷◌, ◌++◌, ap, ◌∙◌, refl}
use Rattle.std.specs.Vec.{vec_len}
use Rattle.ql_read.specs.View.{stack_of}
use Rattle.ql_read.specs.declared.nesting.Frame.TheVariants.{InList}
use Rattle.ql_read.proofs.Views.{dot_bad, dot_empty, dot_list}
use Rattle.ql_read.proofs.nesting.Nesting.put_dot.Goals as goal

pub returns-then-is_empty-clause-ok : goal.returns-then-is_empty-clause-ok
returns-then-is_empty-clause-ok c = λ later.
    dot_bad later c.args.at c.args.self.now.frames.items c.pop.new.self.items (InList c.in-Some-InList.from c.in-Some-InList.items) c.args.self.now.top.items
    (c.in-Some-InList.ensures.items ∙ ap (λ f. c.pop.new.self.items ++ f ∷ []) c.in-Some-InList.field-0-is)
    (dot_empty later c.args.at c.in-Some-InList.from (vec_len c.in-Some-InList.items) (stack_of later c.pop.new.self.items c.args.self.now.top.items) c.in-Some-InList.items.items c.in-Some-InList.items.ok.0 c.if-is_empty.ensures)

pub returns-in-Some-InList-clause-ok : goal.returns-in-Some-InList-clause-ok
returns-in-Some-InList-clause-ok c = λ later.
    dot_list later c.args.at c.in-Some-InList.from c.args.self.now.frames.items c.pop.new.self.items c.push.new.self.items c.in-Some-InList.items c.args.self.now.top.items (vec_len c.in-Some-InList.items)
    (c.in-Some-InList.ensures.items ∙ ap (λ f. c.pop.new.self.items ++ f ∷ []) c.in-Some-InList.field-0-is) c.in_ok-push-in-Some-InList.ensures.items c.in-Some-InList.items.ok.0 c.if-is_empty.ensures

pub returns-in-Some-PastTail-clause-ok : goal.returns-in-Some-PastTail-clause-ok
returns-in-Some-PastTail-clause-ok c = λ later. dot_bad later c.args.at c.args.self.now.frames.items c.pop.new.self.items _ c.args.self.now.top.items (c.in-Some-PastTail.ensures.items ∙ ap (λ f. c.pop.new.self.items ++ f ∷ []) c.in-Some-PastTail.field-0-is) refl

pub returns-in-Some-InTail-clause-ok : goal.returns-in-Some-InTail-clause-ok
returns-in-Some-InTail-clause-ok c = λ later. dot_bad later c.args.at c.args.self.now.frames.items c.pop.new.self.items _ c.args.self.now.top.items (c.in-Some-InTail.ensures.items ∙ ap (λ f. c.pop.new.self.items ++ f ∷ []) c.in-Some-InTail.field-0-is) refl

pub returns-in-Some-InQuote-clause-ok : goal.returns-in-Some-InQuote-clause-ok
returns-in-Some-InQuote-clause-ok c = λ later. dot_bad later c.args.at c.args.self.now.frames.items c.pop.new.self.items _ c.args.self.now.top.items (c.in-Some-InQuote.ensures.items ∙ ap (λ f. c.pop.new.self.items ++ f ∷ []) c.in-Some-InQuote.field-0-is) refl
