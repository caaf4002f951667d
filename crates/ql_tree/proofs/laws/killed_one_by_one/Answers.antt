use Rattle.std.proofs.Common.{sym}
use Rattle.ql_world.specs.declared.world.Aim.TheVariants.{Die as die}
use Rattle.ql_tree.specs.Kill.{aimed_at, is_killed}
use Rattle.ql_tree.proofs.Kills.{killed-each}
use Rattle.ql_tree.proofs.laws.killed_one_by_one.Goals as goal

pub returns : goal.returns
returns c = λ catches c owner persons. sym (killed-each (is_killed catches c owner) (aimed_at die) persons)
