use Rattle.std.proofs.Common.{◌∷◌, []}
use Rattle.ql_code.specs.Code.{instruction}
use Rattle.ql_code.specs.declared.code.Op.TheVariants.{Funcall as funcall, Touch as touch}
use Rattle.ql_compile.proofs.Counts.{count_is}
use Rattle.ql_compile.proofs.Emitting.{more_then}
use Rattle.ql_compile.proofs.emit.Emitter.funcall.Goals as goal

pub returns-then-ignored : goal.returns-then-ignored
returns-then-ignored c = rw (c.if-ignored.true, count_is c.args.args.now, ← c.in_ok-count.ensures) c.add.ensures

pub returns : goal.returns
returns c =
    rw (c.if-ignored.false, count_is c.args.args.now, ← c.in_ok-count.ensures)
    (more_then c.add-3.result c.args.self.now c.add-2.new.self c.add-3.new.self (instruction (funcall c.in_ok-count.count) c.args.at.0 ∷ []) (instruction (touch 1) c.args.at.0 ∷ []) c.in_ok-add.ensures c.add-3.ensures)
