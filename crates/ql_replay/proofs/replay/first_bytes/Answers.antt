use Rattle.std.proofs.Common.{◌≡◌, ◌≤◌, ◌<◌, ◌==◌, ◌∷◌, [], ◌∙◌, ℕ, List, false, length, length-append, inl, inr, refl, sym, subst, arith, ne_eqb}
use Rattle.ql_replay.specs.Book.{has_feed}
use Rattle.ql_replay.proofs.Feeds.{clean_append}
use Rattle.ql_replay.proofs.Holding.{no_feeds}
use Rattle.ql_replay.proofs.Begun.{opens_memory, opens_before, opens_whole}
use Rattle.ql_replay.proofs.Handing.{hands_some, hands_still, hands_byte, hands_none_left}
use Rattle.ql_replay.proofs.replay.first_bytes.Goals.{in_default-via-in-Byte+then-b-ne10+else-len-lt200, in_default-via-in-Byte+else-b-ne10, in_default-via-in_default}
use Rattle.ql_replay.proofs.replay.first_bytes.Goals as goal

pub bytes-preserved : goal.bytes-preserved
bytes-preserved g c =
    let b : ℕ = c.in-Byte.b in
    let no : (b == 10) ≡ false = ne_eqb b 10 c.if-b-ne10.true in
    let one : has_feed (b ∷ []) ≡ false = rw no refl in
    let items = c.in_ok-push-in-Byte.ensures.items in
    let low : length c.bytes.held.items < 200 = (let l = c.if-len-lt200.true in let e = c.len.ensures in omega (arith, l, e)) in
    record {
      clean = subst (λ (l : List ℕ). has_feed l ≡ false) (sym items) (clean_append c.bytes.held.items (b ∷ []) c.bytes.invariant.clean one);
      short = subst (λ (l : List ℕ). length l ≤ 200) (sym items) (omega (arith, low, length-append c.bytes.held.items (b ∷ [])));
      hands = hands_byte c.bytes.held.items _ b _ _ _ _ _ _ _ c.bytes.invariant.hands c.in-Byte.ensures.bytes.0 c.in-Byte.ensures.bytes.1 items c.skip.ensures;
      faults = c.in-Byte.ensures.faults ∙ c.bytes.invariant.faults;
    }

pub returns-in_err-push-in-Byte-clause-opens : goal.returns-in_err-push-in-Byte-clause-opens
returns-in_err-push-in-Byte-clause-opens g c =
    opens_memory c.from_residual.result _ _ _ _ c.from_residual.ensures
    (hands_some _ _ _ _ _ (hands_still _ _ _ _ _ c.bytes.invariant.hands _ _ c.in-Byte.ensures.bytes.0))

pub returns-in-Fault-clause-opens : goal.returns-in-Fault-clause-opens
returns-in-Fault-clause-opens g c =
    let looked = hands_still _ _ _ _ _ c.bytes.invariant.hands _ _ c.in-Fault.ensures.bytes.0 in
    (c.bytes.held.items, (hands_none_left _ _ _ _ _ looked c.in-Fault.ensures.bytes.1, no_feeds c.bytes.held.items c.bytes.invariant.clean))

pub returns-in_default-clause-opens : goal.returns-in_default-clause-opens
returns-in_default-clause-opens g c = elim c.in_default.branch [
  | in_default-via-in-Byte+then-b-ne10+else-len-lt200 w ↦
      let many : 200 ≤ length c.bytes.held.items = (let l = w.if-len-lt200.false in let e = w.len.ensures in omega (arith, l, e)) in
      opens_before c.bytes.held.items _ _ _ _ _ _ c.bytes.invariant.hands w.in-Byte.b w.in-Byte.ensures.bytes (inr many)
  | in_default-via-in-Byte+else-b-ne10 w ↦
      let feed : w.in-Byte.b ≡ 10 = w.if-b-ne10.false in
      opens_before c.bytes.held.items _ _ _ _ _ _ c.bytes.invariant.hands w.in-Byte.b w.in-Byte.ensures.bytes (inl feed)
  | in_default-via-in_default w ↦
      opens_whole c.bytes.held.items _ _ _ _ _ _ c.bytes.invariant.hands c.peek.result c.peek.ensures.bytes w.in_default.not-Byte w.in_default.not-Fault
]
