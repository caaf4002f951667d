use Rattle.std.proofs.Common.{◌≤◌, ◌<◌, ◌+◌, ◌-◌, ◌*◌, ◌^◌, ◌∙◌, ℕ, length, drop, ◌++◌, arith}
use Rattle.std.specs.declared.alloc.AllocError.{AllocError}
use Rattle.ql_replay.specs.Book.{lines_in, turn_in}
use Rattle.ql_replay.specs.Replay.{due}
use Rattle.ql_replay.proofs.Holding.{goes_on, differs_there, ends_there, faults_there, no_memory, faults_kept}
use Rattle.ql_replay.proofs.Late.{follow_late}
use Rattle.ql_replay.proofs.follow.follow.Goals as goal

pub bytes-smaller : goal.bytes-smaller
bytes-smaller g c =
    let on = c.in-Ok-On.ensures.on c.in-Ok-On.field-0-is in
    let low = c.in-Ok-On.ensures.low in
    let short = c.in-Ok-On.ensures.short in
    smaller c.bytes.follower.at c.take_next.new.follower.at (length c.bytes.follower.held.items) (length c.take_next.new.follower.held.items) on low short
  where
    smaller : (at now held after : ℕ) → 201 * at + held + 1 ≤ 201 * now + after → now < 2 ^ 64 → after ≤ 200 → 201 * 2 ^ 64 - (201 * now + after) < 201 * 2 ^ 64 - (201 * at + held)
    smaller at now held after a b d = omega (arith, a, b, d)

pub bytes-preserved : goal.bytes-preserved
bytes-preserved g c = record {
  clean = c.in-Ok-On.ensures.clean;
  short = c.in-Ok-On.ensures.short;
  low = c.in-Ok-On.ensures.low;
  holds = goes_on _ _ _ _ _ _ _ _ c.bytes.invariant.holds _ _ _ _ c.in-Ok-On.field-0 c.in-Ok-On.field-0-is c.in-Ok-On.ensures.steps;
  faults = faults_kept AllocError c.in-Ok-On.field-0 _ _ c.in-Ok-On.field-0-is c.in-Ok-On.ensures.faults ∙ c.bytes.invariant.faults;
}

pub returns-in-Ok-Fault-clause-answers : goal.returns-in-Ok-Fault-clause-answers
returns-in-Ok-Fault-clause-answers g c =
    let f = c.take_next.new.follower in
    let host = g.H.Followed.host f.host in
    let line = g.H.Followed.line f.host in
    let w = g.H.Followed.world f.host in
    faults_there _ _ _ _ _ _ _ _ c.bytes.invariant.holds _ _ _ _ c.in-Ok-Fault.field-0 c.in-Ok-Fault.field-0-is
    (λ rest k. follow_late host line turn_in (lines_in (f.held.items ++ rest)) w (drop f.seen (due host line turn_in w)) f.at k) c.in-Ok-Fault.ensures.steps

pub returns-in-Ok-Differs-clause-answers : goal.returns-in-Ok-Differs-clause-answers
returns-in-Ok-Differs-clause-answers g c = differs_there _ _ _ _ _ _ _ _ c.bytes.invariant.holds _ _ _ _ c.in-Ok-Differs.field-0 c.in-Ok-Differs.field-0-is c.in-Ok-Differs.ensures.steps

pub returns-in-Ok-End-clause-answers : goal.returns-in-Ok-End-clause-answers
returns-in-Ok-End-clause-answers g c = ends_there _ _ _ _ _ _ _ _ c.bytes.invariant.holds _ _ _ _ c.in-Ok-End.field-0 c.in-Ok-End.field-0-is c.in-Ok-End.ensures.steps c.at_end.result c.at_end.ensures

pub returns-in-Err-clause-answers : goal.returns-in-Err-clause-answers
returns-in-Err-clause-answers g c = no_memory _ _ _ _ _ _ _ _ _ c.bytes.invariant.holds c.in-Err.e c.in-Err.ensures.steps
