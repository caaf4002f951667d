-- What a thread has appended is in every journal that goes on from there.
use Rattle.std.proofs.Common.{◌≡◌, List, All, Contains, Result, Ok, IfOk, subst}
use mathlib.Core.List.{IsPrefix}
use Rattle.ql_turn.specs.declared.pass.PassOf.{PassOf}
use Rattle.ql_turn.specs.declared.turn.Turn.{Turn}
use Rattle.ql_turn.specs.Passes.{journal_seen}
use Rattle.ql_turn.specs.Appending.{HasAppended}
use Rattle.ql_turn.proofs.Prefixes.{prefix_trans, All-prefix}

module _ {H P E F : Type 0} (turn : Turn H P E) (old new : PassOf H P E) (entries : List E) where
  pub all_stay : (r : Result (PassOf H P E) F) → r ≡ Ok new → IfOk r (HasAppended turn old entries)
      → (seen last : List E) → IsPrefix (journal_seen new) seen → IsPrefix seen last → All (Contains last) entries
  all_stay r is appended seen last more most =
      let own : HasAppended turn old entries new = subst (λ o. IfOk o (HasAppended turn old entries)) is appended in
      All-prefix (journal_seen new) last (prefix_trans (journal_seen new) seen last more most) entries own.4
