-- Where the first fault stands.
use Rattle.std.proofs.Common.{◌≡◌, ℕ, zero, suc, ◌+◌, ◌<◌, ◌≤◌, ◌==◌, Bool, true, false, List, [], ◌∷◌, ◌++◌, length, take, Option, Some, None, refl, sym, ap, ◌∙◌, subst, arith, length-append}
use Rattle.std.specs.Prelude.{ltb, if◌then◌else◌}
use Rattle.ql_forms.specs.Bytes.{Class, blank, letter, digit, plus, minus, opening, closing, mark, semicolon, dot, other, class}
use Rattle.ql_forms.specs.Spelled.{none, more}
use Rattle.ql_base.specs.declared.refusal.FaultKind.{FaultKind}
use Rattle.ql_read.specs.TextFault.{CanGoOn, FaultsAt}
use Rattle.ql_read.specs.Scan.{Token, next, token_form, Stack, top, in_list, in_tail, past_tail, in_quote, depth, push, State, between, in_comment, in_atom, after_dot, bad, close, put_dot, form_in, step_between, atom_or_bad, step_atom, step_dot, step, scan, start, fault_of}
use Rattle.ql_read.proofs.GoesOn.{scan_append, stays_bad, can_go_on, cannot}

abbrev pub IsGood : State → Type 0
IsGood s = fault_of s ≡ None

abbrev taken : State → ℕ
taken (between o k) = o
taken (in_comment o k) = o
taken (in_atom o at w k) = o
taken (after_dot o k) = o
taken (bad at kind) = at

-- a byte is taken, or it is the fault
abbrev Took : ℕ → State → Type 0
Took o (bad at kind) = at ≡ o
Took o s = taken s ≡ o + 1

either : (o : ℕ) (c : Bool) (s t : State) → Took o s → Took o t → Took o (if c then s else t)
either o true s t h i = h
either o false s t h i = i

took_close : (o : ℕ) (k : Stack) → Took o (close o k)
took_close o (top gs) = refl
took_close o (in_list at gs k) = refl
took_close o (in_tail at gs k) = refl
took_close o (past_tail at gs f k) = refl
took_close o (in_quote at k) = refl

took_dot : (o : ℕ) (k : Stack) → Took o (put_dot o k)
took_dot o (top gs) = refl
took_dot o (in_list at none k) = refl
took_dot o (in_list at (more f gs) k) = refl
took_dot o (in_tail at gs k) = refl
took_dot o (past_tail at gs f k) = refl
took_dot o (in_quote at k) = refl

took_form : (o : ℕ) (k : Stack) (s : State) → Took o s → Took o (form_in o k s)
took_form o (top gs) s h = h
took_form o (in_list at gs k) s h = h
took_form o (in_tail at gs k) s h = h
took_form o (past_tail at gs f k) s h = refl
took_form o (in_quote at k) s h = h

took_between : (o : ℕ) (k : Stack) (b : ℕ) (c : Class) → Took o (step_between o k b c)
took_between o k b blank = refl
took_between o k b letter = took_form o k _ refl
took_between o k b digit = took_form o k _ refl
took_between o k b plus = took_form o k _ refl
took_between o k b minus = took_form o k _ refl
took_between o k b opening = took_form o k _ (either o (ltb (depth k) 200) _ _ refl refl)
took_between o k b closing = took_close o k
took_between o k b mark = took_form o k _ (either o (ltb (depth k) 200) _ _ refl refl)
took_between o k b semicolon = refl
took_between o k b dot = took_dot o k
took_between o k b other = refl

took_more : (o at : ℕ) (w : Token) (k : Stack) (z : Option Token) → Took o (atom_or_bad o at w k z)
took_more o at w k (Some y) = refl
took_more o at w k None = refl

took_atom : (o at : ℕ) (w : Token) (k : Stack) (b : ℕ) (c : Class) → Took o (step_atom o at w k b c)
took_atom o at w k b letter = took_more o at w k (next w b letter)
took_atom o at w k b digit = took_more o at w k (next w b digit)
took_atom o at w k b plus = took_more o at w k (next w b plus)
took_atom o at w k b minus = took_more o at w k (next w b minus)
took_atom o at w k b dot = refl
took_atom o at w k b blank = refl
took_atom o at w k b opening = took_between o (push (token_form at w) k) b opening
took_atom o at w k b closing = took_close o (push (token_form at w) k)
took_atom o at w k b mark = took_between o (push (token_form at w) k) b mark
took_atom o at w k b semicolon = refl
took_atom o at w k b other = refl

took_after : (o : ℕ) (k : Stack) (b : ℕ) (c : Class) → Took o (step_dot o k b c)
took_after o k b blank = refl
took_after o k b opening = took_between o k b opening
took_after o k b mark = took_between o k b mark
took_after o k b semicolon = refl
took_after o k b letter = refl
took_after o k b digit = refl
took_after o k b plus = refl
took_after o k b minus = refl
took_after o k b closing = refl
took_after o k b dot = refl
took_after o k b other = refl

took : (s : State) (b : ℕ) → IsGood s → Took (taken s) (step s b)
took (between o k) b h = took_between o k b (class b)
took (in_comment o k) b h = either o (b == 10) _ _ refl refl
took (in_atom o at w k) b h = took_atom o at w k b (class b)
took (after_dot o k) b h = took_after o k b (class b)
took (bad at kind) b h = absurd (cc)

-- the fault of a text read from s stands at a byte with none before it
pub record FirstBad (s : State) (o : ℕ) (t : List ℕ) (at : ℕ) (kind : FaultKind) : Type 0 where
  pub front : List ℕ
  pub byte : ℕ
  pub rest : List ℕ
  pub parts : t ≡ front ++ byte ∷ rest
  pub is_at : at ≡ o + length front
  pub good : IsGood (scan s front)
  pub bad_then : scan s (front ++ byte ∷ []) ≡ bad at kind

-- all was taken, or there is a first fault
abbrev pub Reached : State → ℕ → List ℕ → State → Type 0
Reached s o t (bad at kind) = FirstBad s o t at kind
Reached s o t end = taken end ≡ o + length t

reached_on : (s : State) (o x : ℕ) (t : List ℕ) (end : State) → Reached (step s x) (o + 1) t end → Reached s o (x ∷ t) end
reached_on s o x t (between q k) h = omega (arith, h)
reached_on s o x t (in_comment q k) h = omega (arith, h)
reached_on s o x t (in_atom q at w k) h = omega (arith, h)
reached_on s o x t (after_dot q k) h = omega (arith, h)
reached_on s o x t (bad at kind) h = record {
  front = x ∷ h.front;
  byte = h.byte;
  rest = h.rest;
  parts = ap (λ u. x ∷ u) h.parts;
  is_at = omega (arith, h.is_at);
  good = h.good;
  bad_then = h.bad_then;
}

good_next : (s : State) (o x : ℕ) (t : List ℕ) (s' : State) → step s x ≡ s' → taken s' ≡ o + 1 → Reached s' (taken s') t (scan s' t) → Reached s o (x ∷ t) (scan s' t)
good_next s o x t s' e h r = reached_on s o x t (scan s' t) (subst (λ z. Reached z (o + 1) t (scan s' t)) (sym e) (subst (λ n. Reached s' n t (scan s' t)) h r))

next_byte : (s : State) (o x : ℕ) (t : List ℕ) (s' : State) → step s x ≡ s' → IsGood s → Took o s' → (IsGood s' → Reached s' (taken s') t (scan s' t)) → Reached s o (x ∷ t) (scan s' t)
next_byte s o x t (between q k) e g h r = good_next s o x t (between q k) e h (r refl)
next_byte s o x t (in_comment q k) e g h r = good_next s o x t (in_comment q k) e h (r refl)
next_byte s o x t (in_atom q at w k) e g h r = good_next s o x t (in_atom q at w k) e h (r refl)
next_byte s o x t (after_dot q k) e g h r = good_next s o x t (after_dot q k) e h (r refl)
next_byte s o x t (bad at kind) e g n r = subst (Reached s o (x ∷ t)) (sym (stays_bad at kind t))
    (record { front = []; byte = x; rest = t; parts = refl; is_at = omega (arith, n); good = g; bad_then = e })

pub reaches : (t : List ℕ) (s : State) → IsGood s → Reached s (taken s) t (scan s t)
reaches [] (between o k) h = omega arith
reaches [] (in_comment o k) h = omega arith
reaches [] (in_atom o at w k) h = omega arith
reaches [] (after_dot o k) h = omega arith
reaches [] (bad at kind) h = absurd (cc)
reaches (x ∷ t) s h = next_byte s (taken s) x t (step s x) refl h (took s x h) (λ g. reaches t (step s x) g)

-- a front of what has no fault has none
front_good : (s : State) (b c : List ℕ) → IsGood (scan s (b ++ c)) → (t : State) → scan s b ≡ t → IsGood t
front_good s b c h (between o k) e = refl
front_good s b c h (in_comment o k) e = refl
front_good s b c h (in_atom o at w k) e = refl
front_good s b c h (after_dot o k) e = refl
front_good s b c h (bad at kind) e =
    let all : scan s (b ++ c) ≡ bad at kind = scan_append s b c ∙ ap (λ x. scan x c) e ∙ stays_bad at kind c in
    let no : fault_of (bad at kind) ≡ None = subst IsGood all h in absurd (cc)

take_front : (p r : List ℕ) (n : ℕ) → n ≤ length p → (q : List ℕ) × (take n (p ++ r) ++ q ≡ p)
take_front p r zero h = (p, refl)
take_front [] r (suc n) h = absurd (omega (arith, h))
take_front (x ∷ p) r (suc n) h = let (q, e) = take_front p r n (omega (arith, h)) in (q, ap (λ y. x ∷ y) e)

take_all : (p : List ℕ) (x : ℕ) (r : List ℕ) → take (suc (length p)) (p ++ x ∷ r) ≡ p ++ x ∷ []
take_all [] x r = refl
take_all (y ∷ p) x r = ap (λ z. y ∷ z) (take_all p x r)

module _ (b : List ℕ) (n : ℕ) (kind : FaultKind) (h : FirstBad start 0 b n kind) where
  open h use {front, byte, rest}

  length_is : n ≡ length front
  length_is = omega (arith, h.is_at)

  length_all : length b ≡ length front + suc (length rest)
  length_all = ap length h.parts ∙ length-append {A = ℕ} front (byte ∷ rest)

  goes : (m : ℕ) → m < n → CanGoOn (take (m + 1) b)
  goes m lt =
      let fits : m + 1 ≤ length front = omega (arith, lt, length_is) in
      let (q, e) = take_front front (byte ∷ rest) (m + 1) fits in
      let at_b : take (m + 1) (front ++ byte ∷ rest) ≡ take (m + 1) b = ap (take (m + 1)) (sym h.parts) in
      let whole_front : IsGood (scan start (take (m + 1) (front ++ byte ∷ rest) ++ q)) = subst (λ x. IsGood (scan start x)) (sym e) h.good in
      subst CanGoOn at_b (can_go_on (take (m + 1) (front ++ byte ∷ rest)) (front_good start (take (m + 1) (front ++ byte ∷ rest)) q whole_front _ refl))

  stops : CanGoOn (take (n + 1) b) → Prim.⊥
  stops can =
      let place : n + 1 ≡ suc (length front) = omega (arith, length_is) in
      let at_b : take (n + 1) b ≡ front ++ byte ∷ [] = ap (λ k. take k b) place ∙ ap (take (suc (length front))) h.parts ∙ take_all front byte rest in
      cannot (front ++ byte ∷ []) n kind h.bad_then (subst CanGoOn at_b can)

  faults : FaultsAt b n
  faults = record { there = omega (arith, length_is, length_all); before = goes; none_goes_on = stops }

pub fault_is : (b : List ℕ) (n : ℕ) (kind : FaultKind) → scan start b ≡ bad n kind → FaultsAt b n
fault_is b n kind e = faults b n kind (subst (Reached start 0 b) e (reaches b start refl))
