-- The bytes given were next, and the others are left.
use Rattle.std.proofs.Common.{length, rules}
use Rattle.std.proofs.lemmas.List.{drop-drop}
use Rattle.ql_base.proofs.Pieces.{front_is_next}
use Rattle.ql_base.proofs.memory.MemSourceSource.read.Goals as goal

pub returns-clause-bytes : goal.returns-clause-bytes
returns-clause-bytes c =
    rw (← c.self.view_is, ← drop-drop c.copy_front-n.result c.self.inside.at c.self.inside.bytes.items)
    (front_is_next c.self.inside.bytes.items c.copy_front-n.new.buf c.self.inside.at c.copy_front-n.result c.self.inside.piece (length c.args.buf.now) c.self.invariant.gives (search rules) (search rules))
