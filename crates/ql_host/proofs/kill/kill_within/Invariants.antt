use Rattle.std.proofs.Common.{◌≡◌, ◌≤◌, ◌+◌, ◌-◌, drop, suc, length, map, List}
use Rattle.ql_world.specs.World.{numbered}
use Rattle.ql_world.specs.Run.{those_from}
use Rattle.ql_world.specs.Idle.{killed_among}
use Rattle.ql_tree.specs.Kill.{is_killed}
use Rattle.ql_code.specs.Code.{Instruction}
use Rattle.ql_code.specs.Machine.{code_machine}
use Rattle.ql_proc.specs.Points.{point_of}
use Rattle.ql_host.specs.World.{world_of}
use Rattle.ql_host.specs.Killing.{IsSameBut, with_killed, killed_count}
use Rattle.ql_host.proofs.kill.kill_within.Given as goal

abbrev pub invariant-kills : goal.invariant-kills
invariant-kills l = record {
  world : (code : List Instruction) → IsSameBut l.spared (world_of l.shared (map point_of l.procs)) (killed_among (code_machine code) (world_of l.fn.shared (map point_of l.fn.procs)) l.c l.owner l.at);
  same : l.shared ≡ with_killed l.fn.shared l.shared;
  persons : length l.shared.tree.persons ≡ length l.fn.shared.tree.persons;
  spared : numbered l.procs l.spared ≡ numbered l.fn.procs l.spared;
  within : l.at ≤ length l.fn.shared.tree.persons;
  count : length l.procs ≡ length l.fn.procs;
  left : l.fn.shared.history.spare + length (those_from (is_killed l.fn.shared.tree.catches l.c l.owner) (suc l.at) (drop l.at l.shared.tree.persons)) ≤ l.shared.history.spare + killed_count l.fn.shared l.c l.owner;
}

abbrev pub decreases-kills : goal.decreases-kills
decreases-kills l = l.count - l.at
