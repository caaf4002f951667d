use Rattle.ql_host.proofs.Works.{job_given}
use Rattle.ql_host.proofs.work.give_out.Goals as goal

pub returns : goal.returns
returns c =
    job_given c.args.shared.now c.args.procs.now c.args.p c.in-Some.i c.in-Some.person c.thread_at.result.now c.in-Some.ensures.0 c.in-Some.ensures.1.1 c.thread_at.ensures c.args.most c.job_of.result
    c.job_of.ensures.process c.job_of.ensures.start c.job_of.ensures.copy c.job_of.ensures.most c.job_of.ensures.room
