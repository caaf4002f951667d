use Rattle.std.proofs.Common.{◌∙◌}
use Rattle.ql_proc.specs.Windows.{window_in}
use Rattle.ql_top.proofs.Windows.{only_world, takes_some, all_taken}
use Rattle.ql_top.proofs.worker.work.Goals as goal

pub returns-clause-some : goal.returns-clause-some
returns-clause-some c =
    takes_some c.args.host.now c.args.code.now c.args.p c.args.most c.run_local.result.steps c.in-Applied.n c.in_ok-job.job c.requires.code c.requires.local c.in_ok-job.ensures.job c.requires.some
    c.run_local.ensures.greatest
    (all_taken c.in_ok-n.field-0 c.in-Applied.n c.run_local.result.proc c.run_local.result.steps c.resume.new.self c.commit.new.self (window_in c.run_local.result.start) c.in-Applied.is c.in_ok-n.ensures.comes)

pub returns-clause-rest : goal.returns-clause-rest
returns-clause-rest c =
    only_world c.args.host.now c.resume.new.self c.commit.new.self c.args.p c.run_local.result.proc c.in_ok-job.ensures.away c.commit.ensures.rest (c.run_local.ensures.proc ∙ c.in_ok-job.ensures.job.process) c.requires.home
