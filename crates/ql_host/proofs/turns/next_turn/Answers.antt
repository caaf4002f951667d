use Rattle.std.proofs.Common.{ap, ◌∙◌, map, length, subst}
use Rattle.ql_world.specs.declared.word.Word.TheVariants.{Fut as future}
use Rattle.ql_world.specs.Tick.{words_boxed}
use Rattle.ql_code.specs.Code.{unmasked}
use Rattle.ql_host.specs.declared.turns.Turn.{Turn}
use Rattle.ql_host.specs.Turns.{IsTurn}
use Rattle.ql_host.proofs.TurnNumbers.{is_turn}
use Rattle.ql_host.proofs.turns.next_turn.Goals as goal

pub returns : goal.returns
returns c =
    let turn : Turn = record { futures = c.in_ok-futures.futures; words = c.in_ok-words.words; stored = c.in_ok-stored.stored } in
    subst (λ n. IsTurn n c.args.count c.args.mask turn) c.in_ok-first.ensures
    (is_turn c.in_ok-first.first c.args.count c.args.mask turn c.in_ok-futures.ensures
    (c.in_ok-words.ensures ∙ ap (λ is. map future is) c.deref.ensures.value)
    (c.in_ok-stored.ensures ∙ ap (λ ws. words_boxed (unmasked (length ws) c.args.mask) ws) c.deref-2.ensures.value))
