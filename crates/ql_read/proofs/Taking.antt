-- What a reader's answers say of the bytes that came.
use Rattle.std.proofs.Common.{◌≡◌, ℕ, zero, suc, ◌+◌, ◌<◌, ◌≤◌, List, [], ◌∷◌, ◌++◌, length, take, Some, None, refl, sym, ap, ◌∙◌, subst, arith, length-append, append_assoc, drop, get_or, ⊎_elim}
use Rattle.std.proofs.lemmas.Bool.{cases_lt}
use Rattle.std.proofs.lemmas.List.{take_all}
use Rattle.ql_base.specs.declared.refusal.FaultKind.{FaultKind}
use Rattle.ql_base.specs.Refusal.{number_of}
use Rattle.ql_read.specs.TextFault.{CanGoOn, too_long, unfinished, limit, by_byte, by_length, by_end, NoFaultIn, IsRefused}
use Rattle.ql_base.specs.Names.{reserved, with_names}
use Rattle.ql_read.specs.Numbering.{GoesOn, state_names, ended}
use Rattle.ql_read.specs.View.{nested, state_of}
use Rattle.ql_read.specs.declared.token.Token.{Token}
use Rattle.ql_read.proofs.Naming.{goes_on_before, goes_on_same}
use Rattle.ql_read.proofs.Tables.{state_begins, well_scan, names_step}
use Rattle.ql_read.specs.declared.token.Token.TheVariants.{Between}
use Rattle.ql_forms.specs.Spelled.{none}
use Rattle.ql_read.specs.Scan.{top, Stack, State, between, in_comment, in_atom, after_dot, bad, step, scan, start, fault_of}
use Rattle.ql_read.specs.Taken.{IsIn, IsAfter}
use Rattle.ql_read.specs.Told.{told, HasTaken}
use Rattle.ql_read.specs.declared.nesting.Nesting.{Nesting}
use Rattle.std.specs.Prelude.{Result, Err, Option}
use Rattle.ql_read.specs.declared.reader.Reader.{Reader}
use Rattle.ql_read.specs.declared.reader.ReadRefusal.{ReadRefusal}
use Rattle.ql_read.specs.declared.reader.ReadRefusal.TheVariants.{Bad}
use Rattle.ql_read.proofs.GoesOn.{scan_append, can_go_on}
use Rattle.ql_read.proofs.FaultKinds.{text_fault}
use Rattle.ql_read.proofs.Judging.{front_can}
use Rattle.ql_read.proofs.Refusals.{take_within, byte_refused, length_refused, refused_front, small_kind}

scan_one : (p : List ℕ) (b : ℕ) → scan start (p ++ b ∷ []) ≡ step (scan start p) b
scan_one p b = scan_append start p (b ∷ [])

pub is_in : (token : Token) (taken : ℕ) (nesting : Nesting) (s : State) → ((later : List (List ℕ)) → GoesOn nesting.names later → state_of token taken (nested later nesting) ≡ s)
    → IsIn token taken nesting s
unfolding IsIn
is_in token taken nesting s f = f

pub at_state : (r : Reader) (s : State) → IsIn r.token r.taken r.nesting s → (later : List (List ℕ)) → GoesOn r.nesting.names later → told later r ≡ s
unfolding IsIn
at_state r s h = h

-- What one byte leads to, under whichever names come later.
abbrev pub Leads : Reader → ℕ → Token → (List (List ℕ) → State) → Type 0
Leads old b token after =
    (k : Stack) (later : List (List ℕ)) → GoesOn reserved later → GoesOn (with_names old.nesting.names (ended (state_of token old.taken k) b)) later
    → after later ≡ step (state_of token old.taken (nested later old.nesting)) b

pub goes_on_reserved : (old : Reader) (p : List ℕ) (later : List (List ℕ)) → HasTaken old p → GoesOn old.nesting.names later → GoesOn reserved later
goes_on_reserved old p later h g =
    let first = state_begins (scan start p) in
    goes_on_before reserved (state_names (scan start p)) first.more later first.is (subst (λ z. GoesOn z later) h.numbered g)

pub leads_on : (old : Reader) (p : List ℕ) (b : ℕ) (token : Token) (after : List (List ℕ) → State) (k : Stack) (later : List (List ℕ)) → HasTaken old p → token ≡ old.token → Leads old b token after
    → GoesOn (with_names old.nesting.names (ended (state_of token old.taken k) b)) later → after later ≡ scan start (p ++ b ∷ [])
leads_on old p b token after k later h same s g =
    let before : GoesOn old.nesting.names later = goes_on_before old.nesting.names (with_names old.nesting.names (ended (state_of token old.taken k) b)) (ended (state_of token old.taken k) b) later refl g in
    s k later (goes_on_reserved old p later h before) g ∙ ap (λ t. step (state_of t old.taken (nested later old.nesting)) b) same
    ∙ ap (λ x. step x b) (at_state old (scan start p) h.scanned later before) ∙ sym (scan_one p b)

-- one more byte, which is no fault
pub taken_one : (old : Reader) (refused : Option ReadRefusal) (taken : ℕ) (next : Token) (nesting : Nesting) (p : List ℕ) (b : ℕ) (token : Token) → HasTaken old p → refused ≡ None
    → taken ≡ old.taken + 1 → old.taken < limit → token ≡ old.token → Leads old b token (λ later. state_of next taken (nested later nesting))
    → ((k : Stack) → nesting.names ≡ with_names old.nesting.names (ended (state_of token old.taken k) b)) → ((k : Stack) → fault_of (state_of next taken k) ≡ None)
    → IsAfter refused taken next nesting (p ++ b ∷ [])
taken_one old refused taken next nesting p b token h r n lt same s names g =
    let now = nested old.nesting.names old.nesting in
    let all : (later : List (List ℕ)) → GoesOn nesting.names later → state_of next taken (nested later nesting) ≡ scan start (p ++ b ∷ []) =
    λ later goes. leads_on old p b token (λ later. state_of next taken (nested later nesting)) now later h same s (subst (λ z. GoesOn z later) (names now) goes) in
    let well : fault_of (scan start (p ++ b ∷ [])) ≡ None = subst (λ x. fault_of x ≡ None) (all nesting.names (goes_on_same nesting.names)) (g (nested nesting.names nesting)) in
    let is : state_of token old.taken now ≡ scan start p = ap (λ t. state_of t old.taken now) same ∙ at_state old (scan start p) h.scanned old.nesting.names (goes_on_same old.nesting.names) in
    let counted : length (p ++ b ∷ []) ≡ length p + 1 = length-append {A = ℕ} p (b ∷ []) in
    let before : old.taken ≡ length p = h.counted in
    record {
      reading = r;
      scanned = is_in next taken nesting (scan start (p ++ b ∷ [])) all;
      numbered = names now ∙ ap (λ z. with_names old.nesting.names (ended z b)) is ∙ ap (λ z. with_names z (ended (scan start p) b)) h.numbered
          ∙ sym (names_step (scan start p) b (well_scan start p tt) (subst (λ x. fault_of x ≡ None) (scan_one p b) well)) ∙ ap state_names (sym (scan_one p b));
      no_fault = well;
      counted = omega (arith, n, before, counted);
      short = omega (arith, lt, before, counted);
    }

some_is : (x y : ℕ × FaultKind) → Some x ≡ Some y → x ≡ y
some_is x y e = cc

is_bad : (s : State) (at : ℕ) (kind : FaultKind) → fault_of s ≡ Some (at, kind) → s ≡ bad at kind
is_bad (between o k) at kind e = absurd (cc)
is_bad (in_comment o k) at kind e = absurd (cc)
is_bad (in_atom o m w k) at kind e = absurd (cc)
is_bad (after_dot o k) at kind e = absurd (cc)
is_bad (bad m l) at kind e = ap (λ z. bad z.0 z.1) (some_is (m, l) (at, kind) e)

-- a fault after bytes without one stands at the next byte
fault_here : (p : List ℕ) (b at : ℕ) (kind : FaultKind) → fault_of (scan start p) ≡ None → scan start (p ++ b ∷ []) ≡ bad at kind → at ≡ length p
fault_here p b at kind g e =
    let f = text_fault (p ++ b ∷ []) at kind e in
    let there : at < length (p ++ b ∷ []) = f.least.there in
    let all : length (p ++ b ∷ []) ≡ length p + 1 = length-append {A = ℕ} p (b ∷ []) in
    ⊎_elim
    (λ (lt : at < length p). absurd (f.least.none_goes_on (subst CanGoOn (sym (take_within (at + 1) p (b ∷ []) (omega (arith, lt)))) (front_can (at + 1) p (can_go_on p g)))))
    (λ (le : length p ≤ at). omega (arith, there, all, le))
    (cases_lt at (length p))

pub byte_is_bad : (old : Reader) (s : State) (p : List ℕ) (b at : ℕ) (kind : FaultKind) → HasTaken old p → old.taken < limit → s ≡ scan start (p ++ b ∷ []) → fault_of s ≡ Some (at, kind)
    → IsRefused (p ++ b ∷ []) (number_of kind) at
byte_is_bad old s p b at kind h lt e f =
    let is : scan start (p ++ b ∷ []) ≡ bad at kind = sym e ∙ is_bad s at kind f in
    let here : at ≡ length p = fault_here p b at kind h.no_fault is in
    let before : old.taken ≡ length p = h.counted in
    byte_refused (p ++ b ∷ []) at kind is (omega (arith, here, before, lt))

pub bad_is_here : (old : Reader) (s : State) (p : List ℕ) (b at : ℕ) (kind : FaultKind) → HasTaken old p → s ≡ scan start (p ++ b ∷ []) → fault_of s ≡ Some (at, kind)
    → (at ≡ length p) × (number_of kind < unfinished)
bad_is_here old s p b at kind h e f =
    let is : scan start (p ++ b ∷ []) ≡ bad at kind = sym e ∙ is_bad s at kind f in
    (fault_here p b at kind h.no_fault is, (small_kind (p ++ b ∷ []) at kind (text_fault (p ++ b ∷ []) at kind is)).1)

pub one_too_many : (old : Reader) (p : List ℕ) (b : ℕ) → HasTaken old p → limit ≤ old.taken → IsRefused (p ++ b ∷ []) too_long limit × (limit ≡ length p)
one_too_many old p b h le =
    let before : old.taken ≡ length p = h.counted in
    let short : length p ≤ limit = h.short in
    let all : length p ≡ limit = omega (arith, le, before, short) in
    (length_refused p b h.no_fault all, sym all)

-- what holds of an answer holds of its equal
pub as_answered : {A : Type 0} (P : ℕ → ℕ → Type 0) (k n kind at : ℕ) → ◌≡◌ {A = Result A ReadRefusal} (Err (Bad k n)) (Err (Bad kind at)) → P k n → P kind at
as_answered P k n kind at e h =
    let i : k ≡ kind = cc in
    let j : n ≡ at = cc in
    subst (λ x. P kind x) j (subst (λ x. P x n) i h)

parted : (w : List ℕ) (i : ℕ) → i < length w → take i w ++ get_or w i 0 ∷ drop (suc i) w ≡ w
parted [] i h = absurd (omega (arith, h))
parted (x ∷ w) zero h = refl
parted (x ∷ w) (suc i) h = ap (λ v. x ∷ v) (parted w i (omega (arith, h)))

regrouped : (p t d : List ℕ) (x : ℕ) → ((p ++ t) ++ x ∷ []) ++ d ≡ p ++ (t ++ x ∷ d)
regrouped p t d x = simp append_assoc

-- a fault inside a piece is one of the whole piece
pub refused_piece : (p w : List ℕ) (i k n : ℕ) → i < length w → IsRefused ((p ++ take i w) ++ get_or w i 0 ∷ []) k n → k < unfinished → IsRefused (p ++ w) k n
refused_piece p w i k n h f lt =
    subst (λ t. IsRefused t k n) (regrouped p (take i w) (drop (suc i) w) (get_or w i 0) ∙ ap (λ t. p ++ t) (parted w i h))
    (refused_front ((p ++ take i w) ++ get_or w i 0 ∷ []) (drop (suc i) w) k n f lt)

pub near_fault : (p t : List ℕ) (n k : ℕ) → (n ≡ length (p ++ t)) × (k < unfinished) → (length p ≤ n) × (k < unfinished)
near_fault p t n k (e, lt) = (omega (arith, e, length-append {A = ℕ} p t), lt)

-- bytes that were taken have no fault
pub taken_well : (r : Reader) (b : List ℕ) → HasTaken r b → NoFaultIn b
taken_well r b h kind at (by_byte {n = n} lt f) = absurd (f.least.none_goes_on (front_can (n + 1) b (can_go_on b h.no_fault)))
taken_well r b h kind at (by_length before long) = let short : length b ≤ limit = h.short in absurd (omega (arith, long, short))
taken_well r b h kind at (by_end before short not) = refl

-- a whole piece was taken
pub piece_taken : (r : Reader) (b piece : List ℕ) (i : ℕ) → length piece ≤ i → HasTaken r (b ++ take i piece) → NoFaultIn (b ++ piece)
piece_taken r b piece i le h = subst (λ t. NoFaultIn (b ++ t)) (take_all i piece le) (taken_well r (b ++ take i piece) h)

-- no bytes have no fault
pub none_bad : NoFaultIn []
none_bad kind at (by_byte {n = n} lt f) = absurd (f.least.none_goes_on (front_can (n + 1) [] (can_go_on [] refl)))
none_bad kind at (by_length before long) = absurd (omega (arith, long))
none_bad kind at (by_end before short not) = refl

-- a new reader
pub taken_none : (refused : Option ReadRefusal) (taken : ℕ) (token : Token) (nesting : Nesting) → refused ≡ None → taken ≡ 0 → token ≡ Between
    → ((later : List (List ℕ)) → nested later nesting ≡ top none) → nesting.names ≡ reserved → IsAfter refused taken token nesting []
taken_none refused taken token nesting e n t k names = record {
  reading = e;
  scanned = is_in token taken nesting start (λ later g. ap (λ x. state_of x taken (nested later nesting)) t ∙ ap (λ o. between o (nested later nesting)) n ∙ ap (between 0) (k later));
  numbered = names;
  no_fault = refl;
  counted = n;
  short = omega arith;
}
