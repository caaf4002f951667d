-- What each step asks and tells, of the seat of a pass.
use Rattle.std.proofs.Common.{◌≡◌, ℕ, ◌+◌, ◌<◌, ◌==◌, true, false, List, [], ◌∷◌, Option, Some, None, refl, sym, ap, ◌∙◌, subst}
use mathlib.Core.List.{IsPrefix}
use mathlib.Core.Option.{none, some, some-injective}
use lib.ListN.{get_elem?}
use prog.Atomic.{either}
use Rattle.atomic_table.specs.Table.{State, Me, step, Allows, Splits, Joins, Final, Seen, opening, rest}
use Rattle.ql_turn.specs.declared.view.View.{View}
use Rattle.ql_turn.specs.declared.view.View.TheVariants.{Spent, Idle, Joined, Holding}
use Rattle.ql_turn.specs.Views.{parts_of, MayFollow}
use Rattle.ql_turn.specs.Rule.{IsRuled}
use Rattle.ql_turn.specs.Told.{one_less, one_part, joined, took, gave, looked}
use Rattle.ql_turn.specs.Seats.{IsIdle, MayGive}
use Rattle.ql_turn.proofs.Keeps.{opens, take_keeps, give_keeps, split_keeps, join_keeps, look_keeps, all_back}

-- the view of a seat, and the slots that are out with it
abbrev Seated : Type 0 → Type 0 → Type 0 → Type 0
Seated P E H = Me (Option H) (View P E)

module _ {P E H : Type 0} where
  -- what a seat has that doesn't hold the turn
  idle_of : (m : Seated P E H) → IsIdle m → (p : P) × (seen : List E) × (n : ℕ) × (m ≡ (Idle p seen n, []))
  idle_of (Spent, slots) i = let no : false ≡ true = i.0.0 in absurd cc
  idle_of (Idle p seen n, slots) i = (p, seen, n, λ t. (Idle p seen n, i.0.1 t))
  idle_of (Joined p a b n, slots) i = let no : false ≡ true = i.0.0 in absurd cc
  idle_of (Holding p taken n, slots) i = let no : true ≡ false = i.1 in absurd cc

module _ {P E H : Type 0} (program : H → P) (journal : H → List E) where
  abbrev Rule : State (Option H) (View P E) → Type 0
  Rule = IsRuled program journal

  -- a table that begins with this value meets the rule
  pub opens_with : (h k : H) (slots : List (Option H)) → k ≡ h → slots ≡ Some h ∷ [] → Rule (opening (0 ∷ []) slots (Idle (program k) (journal k) 65536))
  opens_with h k slots is e = subst (λ (t : H × List (Option H)). Rule (opening (0 ∷ []) t.1 (Idle (program t.0) (journal t.0) 65536))) (λ i. (sym is i, sym e i)) (opens program journal h)

  -- a pass with two parts may be split
  pub may_split : (id : ℕ) (m : Seated P E H) → IsIdle m → 1 < parts_of m.0 → Splits Rule id m.0 (one_less m.0) (one_part m.0)
  may_split id m i = let k = idle_of m i in subst (λ (u : Seated P E H). 1 < parts_of u.0 → Splits Rule id u.0 (one_less u.0) (one_part u.0)) (sym k.3) (split_keeps program journal 0 id k.0 k.1 k.2)

  -- a pass without the turn may try to take it
  pub may_take : (slots id : ℕ) (m : Seated P E H) → IsIdle m → Allows Rule slots id m 0 (λ n. either (n == 0) 1 n) (took program journal (step slots 0 0 1 none) m)
  may_take slots id m i = let k = idle_of m i in subst (λ (u : Seated P E H). Allows Rule slots id u 0 (λ n. either (n == 0) 1 n) (took program journal (step slots 0 0 1 none) u)) (sym k.3) (take_keeps program journal slots id k.0 k.1 k.2)

  -- where the turn was free, the slot is out with the seat that took it
  pub has_slot : (m m' : Seated P E H) (found : ℕ) → took program journal (step 0 0 0 0 none) m found m' → found ≡ 0 → (x : Option H) × (m'.1 ≡ (0, x) ∷ rest m'.1)
  has_slot m m' found t free = let taken = t.0 free in (Some taken.0, subst (λ (u : Seated P E H). u.1 ≡ (0, Some taken.0) ∷ rest u.1) (sym taken.2) refl)

  module _ (h : H) where
    -- what a seat has that may give the value
    holding_of : (m : Seated P E H) → MayGive program journal h m → (seen : List E) × (n : ℕ) × (m ≡ (Holding (program h) seen n, (0, None) ∷ [])) × IsPrefix seen (journal h)
    holding_of (Spent, slots) may = let no : false ≡ true = may.0.0 in absurd cc
    holding_of (Idle p seen n, slots) may = let no : false ≡ true = may.1 in absurd cc
    holding_of (Joined p a b n, slots) may = let no : false ≡ true = may.0.0 in absurd cc
    holding_of (Holding p seen n, slots) may =
        let both : Some p ≡ Some (program h) = may.2.0 in
        let same : p ≡ program h = cc in
        (seen, n, (λ t. (Holding (same t) seen n, may.0.1 t)), may.2.1)

    -- once the value lies in its slot, it may make the turn free
    pub may_give : (m m' : Seated P E H) → MayGive program journal h m → (slots id : ℕ) → m' ≡ (m.0, (0, Some h) ∷ []) → Allows Rule slots id m' 0 (λ _. 0) (gave program journal (step slots 0 0 0 none) m')
    may_give m m' may slots id e =
        let k = holding_of m may in
        let whole : m' ≡ (Holding (program h) k.0 k.1, (0, Some h) ∷ []) = e ∙ ap (λ (u : Seated P E H). let z : Seated P E H = (u.0, (0, Some h) ∷ []) in z) k.2 in
        subst (λ (u : Seated P E H). Allows Rule slots id u 0 (λ _. 0) (gave program journal (step slots 0 0 0 none) u)) (sym whole) (give_keeps program journal slots id h k.0 k.1 k.3)

  module _ (m other : Seated P E H) (i : IsIdle m) (o : IsIdle other) where
    -- two passes without the turn may become one
    pub may_join : (id with : ℕ) → Joins Rule id m.0 with other.0 (joined m.0 other.0) Spent
    may_join id with =
        let k = idle_of m i in
        let l = idle_of other o in
        subst (λ (u : View P E × View P E). Joins Rule id u.0 with u.1 (joined u.0 u.1) Spent) (λ t. ((sym k.3 t).0, (sym l.3 t).0)) (join_keeps program journal 0 id k.0 k.1 k.2 with l.2 l.0 l.1)

    -- and then that one may look at the word
    pub may_look : (m' : Seated P E H) → m' ≡ (joined m.0 other.0, m.1) → (slots id : ℕ) → Allows Rule slots id m' 0 (λ n. n) (looked (step slots 0 0 0 none) m')
    may_look m' e slots id =
        let k = idle_of m i in
        let l = idle_of other o in
        let is : m' ≡ (Joined k.0 k.1 l.1 (k.2 + l.2), []) = e ∙ λ t. (joined (k.3 t).0 (l.3 t).0, (k.3 t).1) in
        subst (λ (u : Seated P E H). Allows Rule slots id u 0 (λ n. n) (looked (step slots 0 0 0 none) u)) (sym is) (look_keeps program journal slots id k.0 k.1 (k.2 + l.2) l.1)

  -- where the last pass has all the parts
  module _ (ws : List ℕ) (xs : List (Option H)) (id : ℕ) (m : Seated P E H) (i : IsIdle m) (all : parts_of m.0 ≡ 65536) (final : Final (Seen Rule id m.0) ws xs)
      (r : Option H) (found : get_elem? xs 0 ≡ some r) where
    -- the slot has a value that goes on from what the pass has seen
    closes : (h : H) × (r ≡ Some h) × MayFollow program journal m.0 h
    closes =
        let k = idle_of m i in
        let count : k.2 ≡ 65536 = sym (ap (λ (u : Seated P E H). parts_of u.0) k.3) ∙ all in
        let whole : m.0 ≡ Idle k.0 k.1 65536 = ap (λ (u : Seated P E H). u.0) k.3 ∙ ap (λ (n : ℕ). Idle k.0 k.1 n) count in
        let b = all_back program journal ws xs id k.0 k.1 (subst (λ (u : View P E). Final (Seen Rule id u) ws xs) whole final) in
        (b.0, some-injective _ _ (sym found ∙ b.1), subst (λ (u : View P E). MayFollow program journal u b.0) (sym whole) (ap Some (sym b.2), b.3))

    pub not_empty : r ≡ None → ⊥
    not_empty e = let no : None ≡ Some closes.0 = sym e ∙ closes.1 in absurd cc

    pub closed_with : (h : H) → r ≡ Some h → MayFollow program journal m.0 h
    closed_with h e = let both : Some closes.0 ≡ Some h = sym closes.1 ∙ e in let same : closes.0 ≡ h = cc in subst (MayFollow program journal m.0) same closes.2
