use Rattle.std.proofs.Common.{rules, ◌≡◌, take, Contains, subst}
use Rattle.std.proofs.lemmas.List.{take_all}
use Rattle.std.proofs.lemmas.List.Elements.{All-more}
use Rattle.ql_turn.specs.Appending.{HasAppended}
use Rattle.ql_turn.specs.Passes.{journal_seen}
use Rattle.ql_turn.proofs.Prefixes.{prefix_trans, All-prefix}
use Rattle.ql_turn.proofs.notes.append_all.Goals as goal

pub loop-number-preserved : goal.loop-number-preserved
loop-number-preserved g c =
    let seen = journal_seen c.loop-number.pass in
    let after = journal_seen c.append_in_turn.new.pass in
    let goes_on = c.append_in_turn.ensures.journal in
    let before = All-prefix seen after goes_on (take c.loop-number.number-index c.args.numbers.now) c.loop-number.invariant.4 in
    (search rules, search rules, prefix_trans _ seen after c.loop-number.invariant.2 goes_on, search rules, All-more (Contains after) c.args.numbers.now c.loop-number.number-index 0 (search rules) before c.in_ok-append_in_turn.ensures.ok)

pub returns : goal.returns
returns g c =
    let whole : take c.loop-number.number-index c.args.numbers.now ≡ c.args.numbers.now = take_all _ _ (search rules) in
    subst (λ numbers. HasAppended c.args.turn.now c.args.pass numbers c.loop-number.pass) whole c.loop-number.invariant
