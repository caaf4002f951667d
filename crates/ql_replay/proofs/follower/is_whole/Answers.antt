use Rattle.std.proofs.Common.{◌≡◌, ◌<◌, length, arith}
use Rattle.ql_replay.proofs.TakesBytes.{ends_within, ends_due, ends_none}
use Rattle.ql_replay.proofs.follower.is_whole.Goals as goal

pub returns-then-len-gt0 : goal.returns-then-len-gt0
returns-then-len-gt0 g c =
    let l : 0 < length c.args.follower.now.held.items = omega (arith, c.if-len-gt0.true, c.len.ensures) in
    ends_within (g.H.Followed.host c.args.follower.now.host) (g.H.Followed.line c.args.follower.now.host) (g.H.Followed.world c.args.follower.now.host) c.args.follower.now.seen c.args.follower.now.held.items c.args.follower.now.at c.requires.clean l

pub returns-then-branch : goal.returns-then-branch
returns-then-branch g c =
    let l : length c.args.follower.now.held.items ≡ 0 = omega (arith, c.if-len-gt0.false, c.len.ensures) in
    ends_due (g.H.Followed.host c.args.follower.now.host) (g.H.Followed.line c.args.follower.now.host) (g.H.Followed.world c.args.follower.now.host) c.args.follower.now.seen c.args.follower.now.held.items c.args.follower.now.at c.requires.clean c.due_line.new.to.items c.in_ok-due_line.field-0 c.in_ok-due_line.ensures.found c.if-branch.true l

pub returns : goal.returns
returns g c =
    let l : length c.args.follower.now.held.items ≡ 0 = omega (arith, c.if-len-gt0.false, c.len.ensures) in
    ends_none (g.H.Followed.host c.args.follower.now.host) (g.H.Followed.line c.args.follower.now.host) (g.H.Followed.world c.args.follower.now.host) c.args.follower.now.seen c.args.follower.now.held.items c.args.follower.now.at c.requires.clean c.due_line.new.to.items c.in_ok-due_line.field-0 c.has_stopped.result c.in_ok-due_line.ensures.found c.if-branch.false l c.has_stopped.ensures
