-- A text has at most one fault, and what a reader's state says of it.
use Rattle.std.proofs.Common.{◌≡◌, ℕ, zero, suc, ◌+◌, ◌<◌, ◌≤◌, Bool, true, false, if◌then◌else◌, List, [], ◌∷◌, ◌++◌, length, take, Some, None, refl, sym, ap, ◌∙◌, subst, arith, append_assoc, length-append, ⊎_elim, inl, inr}
use Rattle.std.proofs.lemmas.List.{append-nil}
use Rattle.std.proofs.lemmas.Bool.{cases_lt}
use Rattle.ql_forms.specs.Bytes.{Class, blank, letter, digit, plus, minus, opening, closing, mark, semicolon, dot, other, class}
use Rattle.ql_forms.specs.Spelled.{Forms}
use Rattle.ql_forms.specs.Form as numbered
use Rattle.ql_forms.specs.Numbered.{Numbered}
use Rattle.ql_forms.specs.Spells.{is_numeric, Spells}
use Rattle.ql_base.specs.declared.refusal.FaultKind.{FaultKind}
use Rattle.ql_base.specs.declared.refusal.FaultKind.TheVariants.{BadByte, StrayClose, BadDot, BadNumber, LongName, TooDeep}
use Rattle.ql_base.specs.Refusal.{number_of}
use Rattle.ql_read.specs.TextFault.{CanGoOn, FaultsAt, too_long, unfinished, atom_at_end, is_dot, last_byte, atom_kind, OpeningKind, HasKind, ByteFault, limit, NoneBelow, TextFault, by_byte, by_length, by_end, MayFollow, IsRefused, IsRead}
use Rattle.ql_read.specs.Scan.{bad, scan, start, finish, fault_of}
use Rattle.ql_read.proofs.Complete.{run, complete}
use Rattle.ql_read.proofs.Sound.{sound}
use Rattle.ql_read.proofs.GoesOn.{scan_append, stays_bad, can_go_on, one_reading}
use Rattle.ql_read.proofs.FaultKinds.{text_fault}
use Rattle.ql_read.proofs.Judging.{front_can, none_in}

-- the least fault is one
not_before : (b : List ℕ) (m n : ℕ) → FaultsAt b m → FaultsAt b n → m < n → Prim.⊥
not_before b m n f g lt = f.none_goes_on (g.before m lt)

one_place : (b : List ℕ) (m n : ℕ) → FaultsAt b m → FaultsAt b n → m ≡ n
one_place b m n f g = ⊎_elim
    (λ (lt : m < n). absurd (not_before b m n f g lt))
    (λ (le : n ≤ m). ⊎_elim
    (λ (lt : n < m). absurd (not_before b n m g f lt))
    (λ (ge : m ≤ n). omega (arith, le, ge))
    (cases_lt n m))
    (cases_lt m n)

-- parts with fronts of one length are the same
same_parts : (p q r s : List ℕ) (x y : ℕ) → p ++ x ∷ r ≡ q ++ y ∷ s → length p ≡ length q → (p ≡ q) × (x ≡ y)
same_parts [] [] r s x y e h = (refl, cc)
same_parts [] (b ∷ q) r s x y e h = absurd (omega (arith, h))
same_parts (a ∷ p) [] r s x y e h = absurd (omega (arith, h))
same_parts (a ∷ p) (b ∷ q) r s x y e h =
    let head : a ≡ b = cc in
    let rest : p ++ x ∷ r ≡ q ++ y ∷ s = cc in
    let (i, j) = same_parts p q r s x y rest (omega (arith, h)) in (cc, j)

one_opening : (p : List ℕ) (k l : FaultKind) → OpeningKind p k → OpeningKind p l → k ≡ l
one_opening p k l (inl (e, f)) (inl (i, g)) = cc
one_opening p k l (inl (e, f)) (inr (i, g)) = absurd (g f)
one_opening p k l (inr (e, f)) (inl (i, g)) = absurd (f g)
one_opening p k l (inr (e, f)) (inr (i, g)) = cc

one_kind : (p : List ℕ) (c : Class) (k l : FaultKind) → HasKind p c k → HasKind p c l → k ≡ l
one_kind p blank k l e i = absurd e
one_kind p semicolon k l e i = absurd e
one_kind p opening k l e i = one_opening p k l e i
one_kind p mark k l e i = one_opening p k l e i
one_kind p closing k l e i = e ∙ sym i
one_kind p dot k l e i = e ∙ sym i
one_kind p other k l e i = e ∙ sym i
one_kind p letter k l e i = e ∙ sym i
one_kind p digit k l e i = e ∙ sym i
one_kind p plus k l e i = e ∙ sym i
one_kind p minus k l e i = e ∙ sym i

one_byte_fault : (b : List ℕ) (m n : ℕ) (k l : FaultKind) → ByteFault b m k → ByteFault b n l → (k ≡ l) × (m ≡ n)
one_byte_fault b m n k l f g =
    let place : m ≡ n = one_place b m n f.least g.least in
    let (front, byte) = same_parts f.front g.front f.rest g.rest f.byte g.byte (sym f.parts ∙ g.parts) (sym f.place ∙ place ∙ g.place) in
    (one_kind g.front (class g.byte) k l (subst (λ x. HasKind g.front (class x) k) byte (subst (λ x. HasKind x (class f.byte) k) front f.has_kind)) g.has_kind, place)

one_fault_at : {b c : List ℕ} {k l m n : ℕ} → TextFault b k m → TextFault c l n → b ≡ c → (k ≡ l) × (m ≡ n)
one_fault_at (by_byte {b = b} {n = m} {kind = k} lt f) (by_byte {b = c} {n = n} {kind = l} ls g) e =
    let (i, j) = one_byte_fault c m n k l (subst (λ x. ByteFault x m k) e f) g in (ap number_of i, j)
one_fault_at (by_byte {n = m} {kind = k} lt f) (by_length none long) e = absurd (none m lt (subst (λ x. FaultsAt x m) e f.least))
one_fault_at (by_byte {n = m} {kind = k} lt f) (by_end none short not) e = absurd (none m lt (subst (λ x. FaultsAt x m) e f.least))
one_fault_at (by_length none long) (by_byte {n = n} ls g) e = absurd (none n ls (subst (λ x. FaultsAt x n) (sym e) g.least))
one_fault_at (by_length none long) (by_length nothing longer) e = (refl, refl)
one_fault_at (by_length none long) (by_end nothing short spells) e = absurd (omega (arith, long, short, ap length e))
one_fault_at (by_end none short not) (by_byte {n = n} ls g) e = absurd (none n ls (subst (λ x. FaultsAt x n) (sym e) g.least))
one_fault_at (by_end none short not) (by_length nothing long) e = absurd (omega (arith, long, short, ap length e))
one_fault_at (by_end none short not) (by_end nothing small nor) e = (refl, ap length e)

pub one_fault : (b : List ℕ) (k l m n : ℕ) → TextFault b k m → TextFault b l n → (k ≡ l) × (m ≡ n)
one_fault b k l m n f g = one_fault_at f g refl

-- what has a fault spells nothing
fault_spells_at : {b : List ℕ} {k n : ℕ} → TextFault b k n → (c : List ℕ) → b ≡ c → (fs : Forms) → Spells c fs → length c ≤ limit → Prim.⊥
fault_spells_at (by_byte {b = b} {n = n} lt f) c e fs h le =
    f.least.none_goes_on (front_can (n + 1) b ([], fs, subst (λ x. Spells x fs) (sym e ∙ sym (append-nil b)) h))
fault_spells_at (by_length none long) c e fs h le = absurd (omega (arith, long, le, ap length e))
fault_spells_at (by_end none short not) c e fs h le = not fs (subst (λ x. Spells x fs) (sym e) h)

pub fault_spells : (b : List ℕ) (k n : ℕ) (fs : Forms) → Spells b fs → length b ≤ limit → TextFault b k n → Prim.⊥
fault_spells b k n fs h le f = fault_spells_at f b refl fs h le

-- the kinds of faults at a byte are the first six
abbrev IsOfByte : FaultKind → Type 0
IsOfByte kind = (1 ≤ number_of kind) × (number_of kind < unfinished)

of_byte : (k l : FaultKind) → k ≡ l → IsOfByte l → IsOfByte k
of_byte k l e h = subst IsOfByte (sym e) h

of_opening : (p : List ℕ) (k : FaultKind) → OpeningKind p k → IsOfByte k
of_opening p k (inl h) = of_byte k TooDeep h.0 (omega arith, omega arith)
of_opening p k (inr h) = of_byte k BadDot h.0 (omega arith, omega arith)

of_closing : (b : Bool) → IsOfByte (if b then BadDot else StrayClose)
of_closing true = (omega arith, omega arith)
of_closing false = (omega arith, omega arith)

of_atom : (w : List ℕ) → IsOfByte (atom_kind w)
of_atom [] = (omega arith, omega arith)
of_atom (b ∷ w) = either (is_numeric (b ∷ w))
  where
    either : (n : Bool) → IsOfByte (if n then BadNumber else LongName)
    either true = (omega arith, omega arith)
    either false = (omega arith, omega arith)

of_class : (p : List ℕ) (c : Class) (k : FaultKind) → HasKind p c k → IsOfByte k
of_class p blank k h = absurd h
of_class p semicolon k h = absurd h
of_class p opening k h = of_opening p k h
of_class p mark k h = of_opening p k h
of_class p closing k h = of_byte k _ h (of_closing (is_dot (class (last_byte false 0 p))))
of_class p dot k h = of_byte k BadDot h (omega arith, omega arith)
of_class p other k h = of_byte k BadByte h (omega arith, omega arith)
of_class p letter k h = of_byte k _ h (of_atom (atom_at_end [] p))
of_class p digit k h = of_byte k _ h (of_atom (atom_at_end [] p))
of_class p plus k h = of_byte k _ h (of_atom (atom_at_end [] p))
of_class p minus k h = of_byte k _ h (of_atom (atom_at_end [] p))

pub small_kind : (b : List ℕ) (n : ℕ) (k : FaultKind) → ByteFault b n k → (1 ≤ number_of k) × (number_of k < unfinished)
small_kind b n k f = of_class f.front (class f.byte) k f.has_kind

-- one fault of a text and of what may go on from it makes a refusal
refused_by : (b : List ℕ) (k n : ℕ) → (1 ≤ k) × (k ≤ unfinished) → n ≤ length b → (k < unfinished → n < length b) → (unfinished ≤ k → n ≡ length b) → ((rest : List ℕ) → MayFollow k rest → TextFault (b ++ rest) k n) → IsRefused b k n
refused_by b k n kinds le lt late f = record { kinds = kinds; fault = f; only = λ rest may l m g. one_fault (b ++ rest) l k m n g (f rest may); place = le; within = lt; late = late }

-- reading found a byte at fault
pub byte_refused : (b : List ℕ) (n : ℕ) (kind : FaultKind) → scan start b ≡ bad n kind → n < limit → IsRefused b (number_of kind) n
byte_refused b n kind e lt =
    let f = text_fault b n kind e in
    let (low, high) = small_kind b n kind f in
    let there : n < length b = f.least.there in
    refused_by b (number_of kind) n (low, omega (arith, high)) (omega (arith, there)) (λ k. there) (λ k. absurd (omega (arith, k, high)))
    (λ rest may. by_byte lt (text_fault (b ++ rest) n kind (scan_append start b rest ∙ ap (λ s. scan s rest) e ∙ stays_bad n kind rest)))

pub take_within : (n : ℕ) (p r : List ℕ) → n ≤ length p → take n (p ++ r) ≡ take n p
take_within zero p r h = refl
take_within (suc n) [] r h = absurd (omega (arith, h))
take_within (suc n) (x ∷ p) r h = ap (λ y. x ∷ y) (take_within n p r (omega (arith, h)))

good_below : (p r : List ℕ) → fault_of (scan start p) ≡ None → limit ≤ length p → NoneBelow (p ++ r)
good_below p r h le = λ n lt f. f.none_goes_on (subst CanGoOn (sym (take_within (n + 1) p r (omega (arith, lt, le)))) (front_can (n + 1) p (can_go_on p h)))

-- reading has taken as many bytes as a text has at most, and there is one more
pub length_refused : (p : List ℕ) (x : ℕ) → fault_of (scan start p) ≡ None → length p ≡ limit → IsRefused (p ++ x ∷ []) too_long limit
length_refused p x h e =
    let all : length (p ++ x ∷ []) ≡ length p + 1 = length-append {A = ℕ} p (x ∷ []) in
    let there : limit < length (p ++ x ∷ []) = omega (arith, all, e) in
    refused_by (p ++ x ∷ []) too_long limit (omega arith, omega arith) (omega (arith, there)) (λ k. there) (λ k. absurd (omega (arith, k)))
    (λ rest may. subst (λ t. TextFault t too_long limit) (sym (longer p x rest))
    (by_length (good_below p (x ∷ rest) h (omega (arith, e))) (omega (arith, length-append {A = ℕ} p (x ∷ rest), e))))
  where
    longer : (w : List ℕ) (y : ℕ) (rest : List ℕ) → (w ++ y ∷ []) ++ rest ≡ w ++ y ∷ rest
    longer [] y rest = refl
    longer (a ∷ w) y rest = ap (λ v. a ∷ v) (longer w y rest)

-- a refusal of a front is one of all
pub refused_front : (b c : List ℕ) (k n : ℕ) → IsRefused b k n → k < unfinished → IsRefused (b ++ c) k n
refused_front b c k n f lt =
    let there : n < length (b ++ c) = let w : n < length b = f.within lt in omega (arith, length-append {A = ℕ} b c, w) in
    refused_by (b ++ c) k n f.kinds (omega (arith, there)) (λ h. there) (λ h. absurd (omega (arith, h, lt)))
    (λ rest may. subst (λ t. TextFault t k n) (sym (append_assoc b c rest)) (f.fault (c ++ rest) (λ e. absurd (omega (arith, e, lt)))))

-- reading stands inside a form at the end
pub end_refused : (b : List ℕ) → fault_of (scan start b) ≡ None → length b ≤ limit → finish (scan start b) ≡ None → IsRefused b unfinished (length b)
end_refused b h le e =
    let no : (fs : Forms) → Spells b fs → Prim.⊥ = λ fs i. let c : run start b ≡ Some fs = complete b fs i in absurd (cc) in
    refused_by b unfinished (length b) (omega arith, omega arith) (omega arith) (λ lt. absurd (omega (arith, lt))) (λ k. refl)
    (λ rest may. subst (λ t. TextFault t unfinished (length b)) (sym (ap (λ r. b ++ r) (may refl) ∙ append-nil b)) (by_end (none_in b h) le no))

-- reading ended with these forms
pub read_all : (b : List ℕ) (fs : Forms) (names : List (List ℕ)) (forms : numbered.Forms) → length b ≤ limit → finish (scan start b) ≡ Some fs → Numbered fs names forms → IsRead b forms names
read_all b fs names forms le e numbers =
    let spells : Spells b fs = sound b fs e in
    record { spelling = fs; spells = spells; numbered = numbers; short = le; no_fault = λ k n f. fault_spells b k n fs spells le f; only = λ gs h. one_reading b gs fs h spells }

moved : (b r : List ℕ) (n : ℕ) → FaultsAt b n → FaultsAt (b ++ r) n
moved b r n f =
    let there : n < length b = f.there in
    record {
      there = omega (arith, there, length-append {A = ℕ} b r);
      before = λ m lt. subst CanGoOn (sym (take_within (m + 1) b r (omega (arith, lt, there)))) (f.before m lt);
      none_goes_on = λ can. f.none_goes_on (subst CanGoOn (take_within (n + 1) b r (omega (arith, there))) can);
    }

moved_back : (b r : List ℕ) (n : ℕ) → n < length b → FaultsAt (b ++ r) n → FaultsAt b n
moved_back b r n there f = record {
  there = there;
  before = λ m lt. subst CanGoOn (take_within (m + 1) b r (omega (arith, lt, there))) (f.before m lt);
  none_goes_on = λ can. f.none_goes_on (subst CanGoOn (sym (take_within (n + 1) b r (omega (arith, there)))) can);
}

fault_stays_at : {b : List ℕ} {k n : ℕ} → TextFault b k n → (r : List ℕ) → k < unfinished → TextFault (b ++ r) k n
fault_stays_at (by_byte {b = b} {n = n} {kind = kind} lt f) r h =
    by_byte lt (record { least = moved b r n f.least; front = f.front; byte = f.byte; rest = f.rest ++ r; parts = ap (λ x. x ++ r) f.parts ∙ append_assoc f.front (f.byte ∷ f.rest) r; place = f.place; has_kind = f.has_kind })
fault_stays_at (by_length {b = b} none long) r h =
    by_length (λ n lt f. none n lt (moved_back b r n (omega (arith, lt, long)) f)) (omega (arith, long, length-append {A = ℕ} b r))
fault_stays_at (by_end none short not) r h = absurd (omega (arith, h))

pub fault_stays : (b r : List ℕ) (k n : ℕ) → TextFault b k n → k < unfinished → TextFault (b ++ r) k n
fault_stays b r k n f h = fault_stays_at f r h
