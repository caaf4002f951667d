use Rattle.std.proofs.Common.{List, None, ◌∙◌, sym, subst}
use Rattle.ql_span.specs.declared.found.Link.{Link}
use Rattle.ql_span.specs.Held.{IsHeld}
use Rattle.ql_span.specs.Walk.{Mark, marks, walk}
use Rattle.ql_span.specs.Keeping.{Keeps}
use Rattle.ql_span.proofs.Held.{kept_span}
use Rattle.ql_span.proofs.spans.span_from.Goals as goal

pub returns : goal.returns
returns c =
    let k : Keeps c.in_ok-keeper.keeper (walk c.args.first (marks (λ key. None) c.args.events.now)) =
    subst (λ (l : List Mark). Keeps c.in_ok-keeper.keeper (walk c.args.first l)) (c.deref.ensures.value ∙ c.in_ok-marks.ensures) c.in_ok-keeper.ensures in
    kept_span c.args.first c.args.events.now c.in_ok-keeper.keeper c.in_ok-chain.chain.items c.requires.low k
    (c.in_ok-chain.ensures (walk c.args.first (marks (λ key. None) c.args.events.now)).top.chain
    (subst (λ (l : List Link). IsHeld l c.in_ok-keeper.keeper.top.place (walk c.args.first (marks (λ key. None) c.args.events.now)).top.chain) (sym c.deref-2.ensures.value) k.top.held))
