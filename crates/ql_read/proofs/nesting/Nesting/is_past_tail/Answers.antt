use Rattle.ql_read.specs.declared.nesting.Frame.TheVariants.{InList, InTail, PastTail, InQuote}
use Rattle.ql_read.proofs.Views.{past_last}
use Rattle.ql_read.proofs.nesting.Nesting.is_past_tail.Goals as goal

pub returns-in-Some-PastTail : goal.returns-in-Some-PastTail
returns-in-Some-PastTail c = λ later. past_last later c.args.self.now.frames.items c.deref.result.now c.args.self.now.top.items (PastTail c.in-Some-PastTail.field-0-0 c.in-Some-PastTail.field-0-1 c.in-Some-PastTail.field-0-2) c.in-Some-PastTail.field-0.now c.in-Some-PastTail.ensures.value c.in-Some-PastTail.field-0-is c.deref.ensures.value

pub returns-in-Some-InList : goal.returns-in-Some-InList
returns-in-Some-InList c = λ later. past_last later c.args.self.now.frames.items c.deref.result.now c.args.self.now.top.items (InList c.in-Some-InList.field-0-0 c.in-Some-InList.field-0-1) c.in-Some-InList.field-0.now c.in-Some-InList.ensures.value c.in-Some-InList.field-0-is c.deref.ensures.value

pub returns-in-Some-InTail : goal.returns-in-Some-InTail
returns-in-Some-InTail c = λ later. past_last later c.args.self.now.frames.items c.deref.result.now c.args.self.now.top.items (InTail c.in-Some-InTail.field-0-0 c.in-Some-InTail.field-0-1) c.in-Some-InTail.field-0.now c.in-Some-InTail.ensures.value c.in-Some-InTail.field-0-is c.deref.ensures.value

pub returns-in-Some-InQuote : goal.returns-in-Some-InQuote
returns-in-Some-InQuote c = λ later. past_last later c.args.self.now.frames.items c.deref.result.now c.args.self.now.top.items (InQuote c.in-Some-InQuote.field-0-0) c.in-Some-InQuote.field-0.now c.in-Some-InQuote.ensures.value c.in-Some-InQuote.field-0-is c.deref.ensures.value
