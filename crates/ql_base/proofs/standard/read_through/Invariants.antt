-- An interrupted call leaves the bytes that the reader tells.
use Rattle.std.specs.Io.KnownBytes.{Keeps}
use Rattle.ql_base.proofs.standard.read_through.Given as goal

abbrev pub invariant-loop : goal.invariant-loop
invariant-loop g l = Keeps (g.R.Read.remaining l.fn.inner) (g.R.Read.remaining l.inner)
