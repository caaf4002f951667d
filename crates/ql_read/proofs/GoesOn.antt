-- What has no fault can go on, and what has one cannot.
use Rattle.std.proofs.Common.{◌≡◌, ℕ, ◌+◌, List, [], ◌∷◌, ◌++◌, Some, None, refl, ap, ◌∙◌}
use Rattle.ql_forms.specs.Spelled.{Form, symbol, list_form, quote_form, Forms, none, more, plain, with_tail, atom}
use Rattle.ql_forms.specs.Spells.{Spells}
use Rattle.ql_base.specs.declared.refusal.FaultKind.{FaultKind}
use Rattle.ql_read.specs.TextFault.{CanGoOn}
use Rattle.ql_read.specs.Scan.{token_form, Stack, top, in_list, in_tail, past_tail, in_quote, onto, push, State, between, in_comment, in_atom, after_dot, bad, step, scan, start, finish, fault_of}
use Rattle.ql_read.proofs.Complete.{run, complete}
use Rattle.ql_read.proofs.Sound.{sound}

abbrev Ends : State → Type 0
Ends s = (c : List ℕ) × (F : Forms) × (run s c ≡ Some F)

-- once a form has ended
closes_all : (k : Stack) (f : Form) (o : ℕ) → Ends (between o (push f k))
closes_all (top gs) f o = ([], onto (more f gs) none, refl)
closes_all (in_list at gs k) f o = let (c, F, e) = closes_all k (list_form at (onto (more f gs) none) plain) (o + 1) in (41 ∷ c, F, e)
closes_all (in_tail at gs k) f o = let (c, F, e) = closes_all k (list_form at (onto gs none) (with_tail f)) (o + 1) in (41 ∷ c, F, e)
closes_all (past_tail at gs g k) f o = let (c, F, e) = closes_all k (list_form at (onto gs none) (with_tail g)) (o + 1) in (41 ∷ c, F, e)
closes_all (in_quote at k) f o = closes_all k (quote_form at f) o

ends_all : (k : Stack) (o : ℕ) → Ends (between o k)
ends_all (top gs) o = ([], onto gs none, refl)
ends_all (in_list at gs k) o = let (c, F, e) = closes_all k (list_form at (onto gs none) plain) (o + 1) in (41 ∷ c, F, e)
ends_all (in_tail at gs k) o = let (c, F, e) = closes_all (in_tail at gs k) (atom o (symbol (97 ∷ []))) (o + 1 + 1) in (97 ∷ 32 ∷ c, F, e)
ends_all (past_tail at gs g k) o = let (c, F, e) = closes_all k (list_form at (onto gs none) (with_tail g)) (o + 1) in (41 ∷ c, F, e)
ends_all (in_quote at k) o = let (c, F, e) = closes_all k (quote_form at (atom o (symbol (97 ∷ [])))) (o + 1 + 1) in (97 ∷ 32 ∷ c, F, e)

can_end : (s : State) → fault_of s ≡ None → Ends s
can_end (between o k) e = ends_all k o
can_end (in_comment o k) e = let (c, F, h) = ends_all k (o + 1) in (10 ∷ c, F, h)
can_end (in_atom o at w k) e = let (c, F, h) = closes_all k (token_form at w) (o + 1) in (32 ∷ c, F, h)
can_end (after_dot o k) e = let (c, F, h) = ends_all k (o + 1) in (32 ∷ c, F, h)
can_end (bad at kind) e = absurd (cc)

pub scan_append : (s : State) (b c : List ℕ) → scan s (b ++ c) ≡ scan (scan s b) c
scan_append s [] c = refl
scan_append s (x ∷ b) c = scan_append (step s x) b c

pub stays_bad : (at : ℕ) (kind : FaultKind) (c : List ℕ) → scan (bad at kind) c ≡ bad at kind
stays_bad at kind [] = refl
stays_bad at kind (x ∷ c) = stays_bad at kind c

pub can_go_on : (b : List ℕ) → fault_of (scan start b) ≡ None → CanGoOn b
can_go_on b h = let (c, F, e) = can_end (scan start b) h in (c, F, sound (b ++ c) F (ap finish (scan_append start b c) ∙ e))

pub cannot : (b : List ℕ) (at : ℕ) (kind : FaultKind) → scan start b ≡ bad at kind → CanGoOn b → Prim.⊥
cannot b at kind e (c, F, h) =
    let all : run start (b ++ c) ≡ Some F = complete (b ++ c) F h in
    let none_is : run start (b ++ c) ≡ None = ap finish (scan_append start b c ∙ ap (λ s. scan s c) e ∙ stays_bad at kind c) in
    absurd (cc)

pub one_reading : (b : List ℕ) (f g : Forms) → Spells b f → Spells b g → f ≡ g
one_reading b f g h i = let x : run start b ≡ Some f = complete b f h in let y : run start b ≡ Some g = complete b g i in cc
