use Rattle.std.proofs.Common.{◌∙◌, ap, sym}
use Rattle.ql_host.specs.Host.{Host}
use Rattle.ql_top.proofs.worker.tests.late.Goals as goal

pub commit-requires : goal.commit-requires
commit-requires c =
    let same_code = c.in-Ok-go_on_for.ensures.code ∙ ap (λ (h : Host). h.code) c.in-Ok.ensures.away ∙ c.loop.invariant.0 ∙ sym c.deref-2.ensures in
    rw (same_code, c.run_local-done.ensures.start) c.run_local-done.ensures.path
