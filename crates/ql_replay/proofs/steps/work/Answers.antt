use Rattle.std.proofs.Common.{◌≡◌, ◌≤◌, ◌+◌, sym, subst, arith}
use Rattle.ql_code.specs.Code.{Code}
use Rattle.ql_code.specs.LocalPath.{LocalPath}
use Rattle.ql_proc.specs.Windows.{window_in}
use Rattle.ql_replay.specs.Running.{IsQuietUpTo}
use Rattle.ql_replay.proofs.Working.{takes_some, all_taken}
use Rattle.ql_replay.proofs.Quiet.{local_quiet}
use Rattle.ql_replay.proofs.steps.work.Goals as goal

pub returns-clause-some : goal.returns-clause-some
returns-clause-some c =
    takes_some c.args.host.now c.args.code.now c.args.p c.args.most c.run_local.result.steps c.in-Applied.n c.in_ok-job.job c.requires.code c.requires.local c.in_ok-job.ensures.job c.requires.some
    c.run_local.ensures.greatest
    (all_taken c.in_ok-n.field-0 c.in-Applied.n c.run_local.result.proc c.run_local.result.steps c.resume.new.self c.commit.new.self (window_in c.run_local.result.start) c.in-Applied.is c.in_ok-n.ensures.comes)

pub returns-clause-quiet : goal.returns-clause-quiet
returns-clause-quiet c =
    let h = c.args.host.now in
    let start = window_in c.in_ok-job.job.start in
    let steps = c.run_local.result.steps in
    let same : c.in-Applied.n ≡ steps =
    all_taken c.in_ok-n.field-0 c.in-Applied.n c.run_local.result.proc steps c.resume.new.self c.commit.new.self (window_in c.run_local.result.start) c.in-Applied.is c.in_ok-n.ensures.comes in
    let path : LocalPath h.code.instructions start steps (window_in c.run_local.result.window) =
    subst (λ (z : Code). LocalPath z.instructions start steps (window_in c.run_local.result.window)) c.requires.code c.run_local.ensures.path in
    let few = c.run_local.ensures.greatest.within in
    let most = c.in_ok-job.ensures.job.most_is in
    let left = c.requires.left in
    let within : h.world.ticks + steps ≤ h.limits.budget = omega (arith, few, most, left) in
    subst (IsQuietUpTo h c.args.p) (sym same)
    (local_quiet c.commits_are_ticks.ensures.ticks c.commits_are_ticks.ensures.turns h c.stopped.ensures.run c.requires.goes_on c.args.p steps start (window_in c.run_local.result.window)
    c.in_ok-job.ensures.job.start path within)
