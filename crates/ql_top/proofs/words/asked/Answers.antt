use Rattle.std.proofs.Common.{◌∙◌, ap}
use Rattle.ql_top.specs.Words.{texts_of}
use Rattle.ql_top.proofs.Asking.{asked_by, nothing_asked}
use Rattle.ql_top.proofs.words.asked.Goals as goal

pub returns-in-Ok-clause-asked : goal.returns-in-Ok-clause-asked
returns-in-Ok-clause-asked c =
    asked_by (texts_of c.args.words.now) (texts_of c.deref.result.now) c.in-Ok.matches c.command_in.result
    (ap texts_of c.deref.ensures.value ∙ c.in_ok-all.ensures) c.in-Ok.ensures.kinds c.in-Ok.ensures.matches c.command_in.ensures.value

pub returns : goal.returns
returns c = record {
  asked = nothing_asked (texts_of c.args.words.now) (texts_of c.deref.result.now) c.in-Err.error
      (ap texts_of c.deref.ensures.value ∙ c.in_ok-all.ensures) (λ e. c.in_default.not-OutOfMemory (c.kind.ensures ∙ e)) c.in-Err.ensures.kinds;
  range = tt;
}
