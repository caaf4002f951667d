use Rattle.std.proofs.Common.{◌≡◌, subst}
use Rattle.std.specs.Prelude.{OnOk}
use Rattle.ql_read.specs.Scan.{push}
use Rattle.ql_read.specs.View.{nested}
use Rattle.ql_read.proofs.Forms.{symbol_form}
use Rattle.ql_read.proofs.Naming.{symbol_named}
use Rattle.ql_read.proofs.nesting.Nesting.put_symbol.Goals as goal

pub returns-clause-ok : goal.returns-clause-ok
returns-clause-ok c = λ later g h.
    subst (λ f. OnOk c.put.result (nested later c.put.new.self ≡ push f (nested later c.args.self.now)))
    (symbol_form later (record { 0 = c.args.at }) c.in_ok-number.number c.args.letters.now (symbol_named later c.args.self.now.names c.number.new.self c.args.letters.now c.in_ok-number.number c.in_ok-number.ensures.ok h))
    (c.put.ensures.ok later g)
