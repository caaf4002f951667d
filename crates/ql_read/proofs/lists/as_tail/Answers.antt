use Rattle.ql_read.proofs.Forms.{nil_tail, other_tail}
use Rattle.ql_read.proofs.lists.as_tail.Goals as goal

pub returns-then-number-eq-NIL : goal.returns-then-number-eq-NIL
returns-then-number-eq-NIL c = λ names g. nil_tail names c.in-Sym.number c.args.atom g c.in-Sym.is c.if-number-eq-NIL.true

pub returns-else-number-eq-NIL : goal.returns-else-number-eq-NIL
returns-else-number-eq-NIL c = λ names g. other_tail names c.in-Sym.number c.args.atom g c.in-Sym.is c.if-number-eq-NIL.false
