use Rattle.std.proofs.Common.{subst}
use Rattle.std.specs.Fmt.{decimal}
use Rattle.std.specs.Prelude.{codes, OnOk}
use Rattle.ql_base.specs.Outside.{Appends}
use Rattle.ql_top.specs.Texts.{refusal_name}
use Rattle.ql_top.proofs.Parts.{from_the_right}
use Rattle.ql_top.proofs.error_line.write_error_line.Goals as goal

pub returns-in-Refused-clause-whole : goal.returns-in-Refused-clause-whole
returns-in-Refused-clause-whole g c =
    let said = from_the_right (codes "ql: refused ") (refusal_name c.in-Refused.kind) (codes " at ") (decimal c.in-Refused.at) (codes "\n") in
    rw c.in-Refused.is
    (subst (λ t. OnOk c.write_parts.result (Appends t (g.E.Sink.held c.args.err.now) (g.E.Sink.held c.write_parts.new.err))) said
    (rw (c.refusal_name.ensures, c.as_bytes-at.ensures.value, c.format.ensures.text) at c.write_parts.ensures.whole))

pub returns-in-Words-clause-whole : goal.returns-in-Words-clause-whole
returns-in-Words-clause-whole g c = rw c.in-Words.is c.write_text.ensures.whole

pub returns-in-Deadlock-clause-whole : goal.returns-in-Deadlock-clause-whole
returns-in-Deadlock-clause-whole g c = rw c.in-Deadlock.is c.write_text-in-Deadlock.ensures.whole

pub returns-in-WriteFault-clause-whole : goal.returns-in-WriteFault-clause-whole
returns-in-WriteFault-clause-whole g c = rw c.in-WriteFault.is c.write_text-in-WriteFault.ensures.whole

pub returns-in-Differs-clause-whole : goal.returns-in-Differs-clause-whole
returns-in-Differs-clause-whole g c =
    rw c.in-Differs.is (rw (c.as_bytes-line.ensures.value, c.format-in-Differs.ensures.text) at c.write_parts-in-Differs.ensures.whole)
