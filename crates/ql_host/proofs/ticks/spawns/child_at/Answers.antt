use Rattle.std.proofs.Common.{ap, ◌∙◌}
use Rattle.std.specs.Prelude.{drop}
use Rattle.std.proofs.Math.ListN.{get_or}
use Rattle.std.proofs.lemmas.Option.{slice_get-get_or}
use Rattle.ql_code.specs.Machine.{frame_of, settled, child_stack}
use Rattle.ql_proc.specs.Points.{point_of}
use Rattle.ql_host.proofs.Children.{children_next}
use Rattle.ql_host.proofs.ticks.spawns.child_at.Goals as goal

pub returns : goal.returns
returns c =
    let code = c.args.s.code.now.instructions in
    let ss = frame_of (drop 1 c.args.parent.now.items) in
    let start = get_or c.args.starts.now c.args.n 0 in
    children_next code c.args.touched ss c.args.n c.args.starts.now start (point_of c.in_ok-child.child)
    (slice_get-get_or c.args.starts.now c.args.n 0 c.requires.within)
    (c.in_ok-child.ensures ∙ ap (λ j. settled code start (child_stack c.args.n j ss)) c.join_after-join.ensures)
