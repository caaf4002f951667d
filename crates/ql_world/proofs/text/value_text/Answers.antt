use Rattle.std.proofs.Common.{◌≡◌, ℕ, List, length, nat_lt, false, ap, sym, ◌∙◌, subst}
use Rattle.std.proofs.lemmas.Bool.{ltb-false}
use Rattle.ql_world.specs.Parts.{ArePartsBefore}
use Rattle.ql_world.proofs.Texts.{parts_before_popped, still_all, too_long}
use Rattle.ql_world.proofs.text.value_text.Goals as goal

pub put_part-requires-clause-there : goal.put_part-requires-clause-there
put_part-requires-clause-there c = (parts_before_popped _ _ _ (subst (ArePartsBefore (length c.args.pairs.now)) c.in-Some.ensures.items c.parts.invariant.1)).1

pub put_part-requires-clause-all_there : goal.put_part-requires-clause-all_there
put_part-requires-clause-all_there c = (parts_before_popped _ _ _ (subst (ArePartsBefore (length c.args.pairs.now)) c.in-Some.ensures.items c.parts.invariant.1)).0

pub returns-then-is_longer : goal.returns-then-is_longer
returns-then-is_longer c =
    let now = c.put_part.new.text.items in
    let same = still_all c.args.names.now c.args.pairs.now _ now _ _ _ c.put_part.new.todo.items _ c.parts.invariant.0 c.in-Some.ensures.items c.in_ok-put_part.ensures.same in
    too_long c.args.cap now _ _ same (ap (λ t. nat_lt c.args.cap (length t)) (sym c.deref.ensures.value) ∙ sym c.is_longer.ensures ∙ c.if-is_longer.true)

pub parts-preserved : goal.parts-preserved
parts-preserved c =
    let now : List ℕ = c.put_part.new.text.items in
    let short : nat_lt c.args.cap (length now) ≡ false = ap (λ t. nat_lt c.args.cap (length t)) (sym c.deref.ensures.value) ∙ sym c.is_longer.ensures ∙ c.if-is_longer.false in (
      still_all c.args.names.now c.args.pairs.now _ now _ _ _ c.put_part.new.todo.items _ c.parts.invariant.0 c.in-Some.ensures.items c.in_ok-put_part.ensures.same,
      c.in_ok-put_part.ensures.all_there,
      ltb-false _ _ short,
    )
