-- The names of a text's symbols, byte by byte.
use Rattle.std.proofs.Common.{◌≡◌, ℕ, ◌+◌, ◌==◌, Bool, true, false, List, [], ◌∷◌, ◌++◌, Option, Some, None, refl, sym, ap, ◌∙◌, append_assoc}
use Rattle.std.proofs.lemmas.List.{append-nil}
use Rattle.std.specs.Prelude.{if◌then◌else◌, ltb, codes}
use Rattle.std.specs.Str.{bytes_eq}
use Rattle.ql_base.specs.Names.{reserved, with_name, with_names}
use Rattle.ql_forms.specs.Bytes.{Class, blank, letter, digit, plus, minus, opening, closing, mark, semicolon, dot, other, class}
use Rattle.ql_forms.specs.Spelled.{Form, Forms, none, more, integer, symbol, atom, list, proper, dotted, joined, plain, with_tail, with_last, list_form, quote_form, letters_of, letters_in_tail, symbols_of, symbols_in}
use Rattle.ql_read.specs.Numbering.{GoesOn, stack_names, state_names, pending, ended_by, ended}
use Rattle.ql_base.specs.declared.refusal.FaultKind.{FaultKind}
use Rattle.ql_base.specs.declared.refusal.FaultKind.TheVariants.{BadByte, StrayClose, BadDot, TooDeep}
use Rattle.ql_read.specs.Scan.{Token, first, next, token_atom, token_form, token_kind, Stack, top, in_list, in_tail, past_tail, in_quote, depth, onto, push, State, between, in_comment, in_atom, after_dot, bad, close, put_dot, form_in, step_between, atom_or_bad, step_atom, step_dot, step, scan, whole, finish, fault_of}
use Rattle.ql_read.proofs.Naming.{same_text, names_append, goes_on_before, goes_on_same, word_known}

-- every table begins with the reserved words
pub begins : (k : Stack) → GoesOn reserved (stack_names k)
begins (top fs) = record { more = symbols_in (onto fs none); is = refl }
begins (in_list at fs k) = goes_on_before reserved (stack_names k) (begins k).more _ (begins k).is (record { more = symbols_in (onto fs none); is = refl })
begins (in_tail at fs k) = goes_on_before reserved (stack_names k) (begins k).more _ (begins k).is (record { more = symbols_in (onto fs none); is = refl })
begins (past_tail at fs f k) =
    goes_on_before reserved (stack_names k) (begins k).more _ (begins k).is
    (record { more = symbols_in (onto fs none) ++ symbols_of f; is = sym (names_append (stack_names k) (symbols_in (onto fs none)) (symbols_of f)) })
begins (in_quote at k) = begins k

pub state_begins : (s : State) → GoesOn reserved (state_names s)
state_begins (between o k) = begins k
state_begins (in_comment o k) = begins k
state_begins (in_atom o at w k) = begins k
state_begins (after_dot o k) = begins k
state_begins (bad at kind) = goes_on_same reserved

abbrev IsMore : Forms → Type 0
IsMore none = Prim.⊥
IsMore (more f fs) = Prim.Unit {0}

-- no list around is past its tail, and a dot stands after an item
abbrev IsOpen : Stack → Type 0
IsOpen (top fs) = Prim.Unit {0}
IsOpen (in_list at fs k) = IsOpen k
IsOpen (in_tail at fs k) = IsMore fs × IsOpen k
IsOpen (past_tail at fs f k) = Prim.⊥
IsOpen (in_quote at k) = IsOpen k

-- the same, but that the innermost list may be past its tail
abbrev IsWell : Stack → Type 0
IsWell (top fs) = Prim.Unit {0}
IsWell (in_list at fs k) = IsOpen k
IsWell (in_tail at fs k) = IsMore fs × IsOpen k
IsWell (past_tail at fs f k) = IsMore fs × IsOpen k
IsWell (in_quote at k) = IsOpen k

abbrev pub IsWellState : State → Type 0
IsWellState (between o k) = IsWell k
IsWellState (in_comment o k) = IsWell k
IsWellState (in_atom o at w k) = IsOpen k
IsWellState (after_dot o k) = IsWell k
IsWellState (bad at kind) = Prim.Unit {0}

well_push : (f : Form) (k : Stack) → IsOpen k → IsWell (push f k)
well_push f (top fs) h = tt
well_push f (in_list at fs k) h = h
well_push f (in_tail at fs k) h = h
well_push f (past_tail at fs g k) h = absurd h
well_push f (in_quote at k) h = well_push (quote_form at f) k h

well_in : (o : ℕ) (k : Stack) (s : State) → IsWell k → (IsOpen k → IsWellState s) → IsWellState (form_in o k s)
well_in o (top fs) s h f = f h
well_in o (in_list at fs k) s h f = f h
well_in o (in_tail at fs k) s h f = f h
well_in o (past_tail at fs g k) s h f = tt
well_in o (in_quote at k) s h f = f h

well_level : (o : ℕ) (kind : FaultKind) (b : Bool) (s : State) → IsWellState s → IsWellState (if b then s else bad o kind)
well_level o kind true s h = h
well_level o kind false s h = tt

well_close : (o : ℕ) (k : Stack) → IsWell k → IsWellState (close o k)
well_close o (top fs) h = tt
well_close o (in_list at fs k) h = well_push (list_form at (onto fs none) plain) k h
well_close o (in_tail at fs k) h = tt
well_close o (past_tail at fs f k) h = well_push (list_form at (onto fs none) (with_tail f)) k h.1
well_close o (in_quote at k) h = tt

well_put_dot : (o : ℕ) (k : Stack) → IsWell k → IsWellState (put_dot o k)
well_put_dot o (top fs) h = tt
well_put_dot o (in_list at none k) h = tt
well_put_dot o (in_list at (more f fs) k) h = (tt, h)
well_put_dot o (in_tail at fs k) h = tt
well_put_dot o (past_tail at fs f k) h = tt
well_put_dot o (in_quote at k) h = tt

well_between : (o : ℕ) (k : Stack) (b : ℕ) (y : Class) → IsWell k → IsWellState (step_between o k b y)
well_between o k b blank h = h
well_between o k b letter h = well_in o k (in_atom (o + 1) o (first b letter) k) h (λ i. i)
well_between o k b digit h = well_in o k (in_atom (o + 1) o (first b digit) k) h (λ i. i)
well_between o k b plus h = well_in o k (in_atom (o + 1) o (first b plus) k) h (λ i. i)
well_between o k b minus h = well_in o k (in_atom (o + 1) o (first b minus) k) h (λ i. i)
well_between o k b opening h = well_in o k _ h (λ i. well_level o TooDeep (ltb (depth k) 200) (between (o + 1) (in_list o none k)) i)
well_between o k b closing h = well_close o k h
well_between o k b mark h = well_in o k _ h (λ i. well_level o TooDeep (ltb (depth k) 200) (between (o + 1) (in_quote o k)) i)
well_between o k b semicolon h = h
well_between o k b dot h = well_put_dot o k h
well_between o k b other h = tt

well_next : (o at : ℕ) (w : Token) (k : Stack) (x : Option Token) → IsOpen k → IsWellState (atom_or_bad o at w k x)
well_next o at w k (Some v) h = h
well_next o at w k None h = tt

well_atom : (o at : ℕ) (w : Token) (k : Stack) (b : ℕ) (y : Class) → IsOpen k → IsWellState (step_atom o at w k b y)
well_atom o at w k b letter h = well_next o at w k (next w b letter) h
well_atom o at w k b digit h = well_next o at w k (next w b digit) h
well_atom o at w k b plus h = well_next o at w k (next w b plus) h
well_atom o at w k b minus h = well_next o at w k (next w b minus) h
well_atom o at w k b dot h = tt
well_atom o at w k b blank h = well_between o (push (token_form at w) k) b blank (well_push (token_form at w) k h)
well_atom o at w k b opening h = well_between o (push (token_form at w) k) b opening (well_push (token_form at w) k h)
well_atom o at w k b closing h = well_between o (push (token_form at w) k) b closing (well_push (token_form at w) k h)
well_atom o at w k b mark h = well_between o (push (token_form at w) k) b mark (well_push (token_form at w) k h)
well_atom o at w k b semicolon h = well_between o (push (token_form at w) k) b semicolon (well_push (token_form at w) k h)
well_atom o at w k b other h = tt

well_dot : (o : ℕ) (k : Stack) (b : ℕ) (y : Class) → IsWell k → IsWellState (step_dot o k b y)
well_dot o k b blank h = well_between o k b blank h
well_dot o k b letter h = tt
well_dot o k b digit h = tt
well_dot o k b plus h = tt
well_dot o k b minus h = tt
well_dot o k b opening h = well_between o k b opening h
well_dot o k b closing h = tt
well_dot o k b mark h = well_between o k b mark h
well_dot o k b semicolon h = well_between o k b semicolon h
well_dot o k b dot h = tt
well_dot o k b other h = tt

well_line : (o : ℕ) (k : Stack) (b : Bool) → IsWell k → IsWellState (if b then between o k else in_comment o k)
well_line o k true h = h
well_line o k false h = h

well_step : (s : State) (b : ℕ) → IsWellState s → IsWellState (step s b)
well_step (between o k) b h = well_between o k b (class b) h
well_step (in_comment o k) b h = well_line (o + 1) k (b == 10) h
well_step (in_atom o at w k) b h = well_atom o at w k b (class b) h
well_step (after_dot o k) b h = well_dot o k b (class b) h
well_step (bad at kind) b h = tt

pub well_scan : (s : State) (b : List ℕ) → IsWellState s → IsWellState (scan s b)
well_scan s [] h = h
well_scan s (x ∷ b) h = well_scan (step s x) b (well_step s x h)

symbols_onto : (fs gs : Forms) → symbols_in (onto fs gs) ≡ symbols_in (onto fs none) ++ symbols_in gs
symbols_onto none gs = refl
symbols_onto (more f fs) gs =
    let before = symbols_in (onto fs none) in
    symbols_onto fs (more f gs) ∙ sym (append_assoc before (symbols_of f) (symbols_in gs))
    ∙ ap (λ z. (before ++ z) ++ symbols_in gs) (sym (append-nil (symbols_of f))) ∙ ap (λ z. z ++ symbols_in gs) (sym (symbols_onto fs (more f none)))

names_onto : (ns : List (List ℕ)) (f : Form) (fs : Forms) → with_names ns (symbols_in (onto (more f fs) none)) ≡ with_names (with_names ns (symbols_in (onto fs none))) (symbols_of f)
names_onto ns f fs =
    ap (with_names ns) (symbols_onto fs (more f none) ∙ ap (λ z. symbols_in (onto fs none) ++ z) (append-nil (symbols_of f)))
    ∙ names_append ns (symbols_in (onto fs none)) (symbols_of f)

-- a form that ends adds its symbols
names_push : (f : Form) (k : Stack) → IsOpen k → stack_names (push f k) ≡ with_names (stack_names k) (symbols_of f)
names_push f (top fs) h = names_onto reserved f fs
names_push f (in_list at fs k) h = names_onto (stack_names k) f fs
names_push f (in_tail at fs k) h = refl
names_push f (past_tail at fs g k) h = absurd h
names_push f (in_quote at k) h =
    names_push (quote_form at f) k h
    ∙ ap (λ z. with_names z ((symbols_of f ++ []) ++ [])) (word_known (stack_names k) (codes "quote") 2 refl (begins k))
    ∙ ap (with_names (stack_names k)) (append-nil (symbols_of f ++ []) ∙ append-nil (symbols_of f))

-- what a list's end makes has the symbols of its items
proper_names : (ns : List (List ℕ)) (at : ℕ) (gs : Forms) → GoesOn reserved ns → with_names ns (symbols_of (list_form at gs plain)) ≡ with_names ns (symbols_in gs)
proper_names ns at none g = word_known ns (codes "nil") 0 refl g
proper_names ns at (more f gs) g = ap (with_names ns) (append-nil (symbols_in (more f gs)))

symbols_joined : (fs gs : Forms) → symbols_in (joined fs gs) ≡ symbols_in fs ++ symbols_in gs
symbols_joined none gs = refl
symbols_joined (more f fs) gs = ap (λ x. symbols_of f ++ x) (symbols_joined fs gs) ∙ sym (append_assoc (symbols_of f) (symbols_in fs) (symbols_in gs))

symbol_tail : (ns : List (List ℕ)) (at : ℕ) (gs : Forms) (w : List ℕ) (b : Bool) → bytes_eq w (codes "nil") ≡ b → GoesOn reserved ns
    → with_names ns (symbols_of (list at gs (if b then proper else dotted (symbol w)))) ≡ with_name (with_names ns (symbols_in gs)) w
symbol_tail ns at gs w true e g =
    let all = with_names ns (symbols_in gs) in
    let goes : GoesOn reserved all = goes_on_before reserved ns g.more all g.is (record { more = symbols_in gs; is = refl }) in
    ap (with_names ns) (append-nil (symbols_in gs)) ∙ sym (word_known all (codes "nil") 0 refl goes) ∙ ap (with_name all) (sym (same_text w (codes "nil") e))
symbol_tail ns at gs w false e g = names_append ns (symbols_in gs) (w ∷ [])

tail_names : (ns : List (List ℕ)) (at : ℕ) (gs : Forms) (f : Form) → GoesOn reserved ns → with_names ns (symbols_of (with_last at gs f)) ≡ with_names (with_names ns (symbols_in gs)) (symbols_of f)
tail_names ns at gs (atom o (integer z)) g = ap (with_names ns) (append-nil (symbols_in gs))
tail_names ns at gs (atom o (symbol w)) g = symbol_tail ns at gs w (bytes_eq w (codes "nil")) refl g
tail_names ns at gs (list o hs t) g =
    ap (with_names ns) (ap (λ x. x ++ letters_in_tail t) (symbols_joined gs hs) ∙ append_assoc (symbols_in gs) (symbols_in hs) (letters_in_tail t))
    ∙ names_append ns (symbols_in gs) (symbols_in hs ++ letters_in_tail t)

onto_more : (f : Form) (fs gs : Forms) → (g : Form) × (hs : Forms) × (onto fs (more f gs) ≡ more g hs)
onto_more f none gs = (f, gs, refl)
onto_more f (more h fs) gs = onto_more h fs (more f gs)

dotted_names : (ns : List (List ℕ)) (at : ℕ) (fs : Forms) (f : Form) → GoesOn reserved ns → IsMore fs
    → with_names ns (symbols_of (list_form at (onto fs none) (with_tail f))) ≡ with_names (with_names ns (symbols_in (onto fs none))) (symbols_of f)
dotted_names ns at none f g h = absurd h
dotted_names ns at (more e fs) f g h =
    let (d, ds, is) = onto_more e fs none in
    ap (λ z. with_names ns (symbols_of (list_form at z (with_tail f)))) is ∙ tail_names ns at (more d ds) f g
    ∙ ap (λ z. with_names (with_names ns (symbols_in z)) (symbols_of f)) (sym is)

-- the names of a state that is no fault
abbrev Keeps : List (List ℕ) → State → Type 0
Keeps ns s = fault_of s ≡ None → state_names s ≡ ns

keeps_bad : (ns : List (List ℕ)) (at : ℕ) (kind : FaultKind) → Keeps ns (bad at kind)
keeps_bad ns at kind e = absurd (cc)

keeps_in : (ns : List (List ℕ)) (o : ℕ) (k : Stack) (s : State) → Keeps ns s → Keeps ns (form_in o k s)
keeps_in ns o (top fs) s h = h
keeps_in ns o (in_list at fs k) s h = h
keeps_in ns o (in_tail at fs k) s h = h
keeps_in ns o (past_tail at fs f k) s h = keeps_bad ns o BadDot
keeps_in ns o (in_quote at k) s h = h

keeps_level : (ns : List (List ℕ)) (o : ℕ) (b : Bool) (s : State) → Keeps ns s → Keeps ns (if b then s else bad o TooDeep)
keeps_level ns o true s h = h
keeps_level ns o false s h = keeps_bad ns o TooDeep

names_close : (o : ℕ) (k : Stack) → IsWell k → Keeps (stack_names k) (close o k)
names_close o (top fs) h = keeps_bad _ o StrayClose
names_close o (in_list at fs k) h = λ e. names_push (list_form at (onto fs none) plain) k h ∙ proper_names (stack_names k) at (onto fs none) (begins k)
names_close o (in_tail at fs k) h = keeps_bad _ o BadDot
names_close o (past_tail at fs f k) h = λ e. names_push (list_form at (onto fs none) (with_tail f)) k h.1 ∙ dotted_names (stack_names k) at fs f (begins k) h.0
names_close o (in_quote at k) h = keeps_bad _ o StrayClose

names_put_dot : (o : ℕ) (k : Stack) → Keeps (stack_names k) (put_dot o k)
names_put_dot o (top fs) = keeps_bad _ o BadDot
names_put_dot o (in_list at none k) = keeps_bad _ o BadDot
names_put_dot o (in_list at (more f fs) k) = λ e. refl
names_put_dot o (in_tail at fs k) = keeps_bad _ o BadDot
names_put_dot o (past_tail at fs f k) = keeps_bad _ o BadDot
names_put_dot o (in_quote at k) = keeps_bad _ o BadDot

names_between : (o : ℕ) (k : Stack) (b : ℕ) (y : Class) → IsWell k → Keeps (stack_names k) (step_between o k b y)
names_between o k b blank h = λ e. refl
names_between o k b letter h = keeps_in (stack_names k) o k (in_atom (o + 1) o (first b letter) k) (λ e. refl)
names_between o k b digit h = keeps_in (stack_names k) o k (in_atom (o + 1) o (first b digit) k) (λ e. refl)
names_between o k b plus h = keeps_in (stack_names k) o k (in_atom (o + 1) o (first b plus) k) (λ e. refl)
names_between o k b minus h = keeps_in (stack_names k) o k (in_atom (o + 1) o (first b minus) k) (λ e. refl)
names_between o k b opening h = keeps_in (stack_names k) o k _ (keeps_level (stack_names k) o (ltb (depth k) 200) (between (o + 1) (in_list o none k)) (λ e. refl))
names_between o k b closing h = names_close o k h
names_between o k b mark h = keeps_in (stack_names k) o k _ (keeps_level (stack_names k) o (ltb (depth k) 200) (between (o + 1) (in_quote o k)) (λ e. refl))
names_between o k b semicolon h = λ e. refl
names_between o k b dot h = names_put_dot o k
names_between o k b other h = keeps_bad (stack_names k) o BadByte

keeps_next : (o at : ℕ) (w : Token) (k : Stack) (x : Option Token) → Keeps (stack_names k) (atom_or_bad o at w k x)
keeps_next o at w k (Some v) = λ e. refl
keeps_next o at w k None = keeps_bad (stack_names k) o (token_kind w)

-- the byte ends the atom
names_after : (o at : ℕ) (w : Token) (k : Stack) (b : ℕ) (y : Class) → IsOpen k → Keeps (with_names (stack_names k) (letters_of (token_atom w))) (step_between o (push (token_form at w) k) b y)
names_after o at w k b y h = λ e. names_between o (push (token_form at w) k) b y (well_push (token_form at w) k h) e ∙ names_push (token_form at w) k h

names_atom : (o at : ℕ) (w : Token) (k : Stack) (b : ℕ) (y : Class) → IsOpen k → Keeps (with_names (stack_names k) (ended_by y (letters_of (token_atom w)))) (step_atom o at w k b y)
names_atom o at w k b letter h = keeps_next o at w k (next w b letter)
names_atom o at w k b digit h = keeps_next o at w k (next w b digit)
names_atom o at w k b plus h = keeps_next o at w k (next w b plus)
names_atom o at w k b minus h = keeps_next o at w k (next w b minus)
names_atom o at w k b dot h = keeps_bad _ o BadDot
names_atom o at w k b blank h = names_after o at w k b blank h
names_atom o at w k b opening h = names_after o at w k b opening h
names_atom o at w k b closing h = names_after o at w k b closing h
names_atom o at w k b mark h = names_after o at w k b mark h
names_atom o at w k b semicolon h = names_after o at w k b semicolon h
names_atom o at w k b other h = names_after o at w k b other h

names_dot : (o : ℕ) (k : Stack) (b : ℕ) (y : Class) → IsWell k → Keeps (stack_names k) (step_dot o k b y)
names_dot o k b blank h = names_between o k b blank h
names_dot o k b letter h = keeps_bad _ o BadDot
names_dot o k b digit h = keeps_bad _ o BadDot
names_dot o k b plus h = keeps_bad _ o BadDot
names_dot o k b minus h = keeps_bad _ o BadDot
names_dot o k b opening h = names_between o k b opening h
names_dot o k b closing h = keeps_bad _ o BadDot
names_dot o k b mark h = names_between o k b mark h
names_dot o k b semicolon h = names_between o k b semicolon h
names_dot o k b dot h = keeps_bad _ o BadDot
names_dot o k b other h = keeps_bad _ o BadByte

names_line : (o : ℕ) (k : Stack) (b : Bool) → state_names (if b then between o k else in_comment o k) ≡ stack_names k
names_line o k true = refl
names_line o k false = refl

none_ended : (y : Class) → ended_by y [] ≡ []
none_ended blank = refl
none_ended letter = refl
none_ended digit = refl
none_ended plus = refl
none_ended minus = refl
none_ended opening = refl
none_ended closing = refl
none_ended mark = refl
none_ended semicolon = refl
none_ended dot = refl
none_ended other = refl

nothing_ended : (ns : List (List ℕ)) (b : ℕ) → ns ≡ with_names ns (ended_by (class b) [])
nothing_ended ns b = ap (with_names ns) (sym (none_ended (class b)))

-- a byte adds the symbol that it ends
pub names_step : (s : State) (b : ℕ) → IsWellState s → fault_of (step s b) ≡ None → state_names (step s b) ≡ with_names (state_names s) (ended s b)
names_step (between o k) b h e = names_between o k b (class b) h e ∙ nothing_ended (stack_names k) b
names_step (in_comment o k) b h e = names_line (o + 1) k (b == 10) ∙ nothing_ended (stack_names k) b
names_step (in_atom o at w k) b h e = names_atom o at w k b (class b) h e
names_step (after_dot o k) b h e = names_dot o k b (class b) h e ∙ nothing_ended (stack_names k) b
names_step (bad at kind) b h e = absurd (cc)

whole_names : (k : Stack) (fs : Forms) → whole k ≡ Some fs → stack_names k ≡ with_names reserved (symbols_in fs)
whole_names (top gs) fs e = let same : onto gs none ≡ fs = cc in ap (λ z. with_names reserved (symbols_in z)) same
whole_names (in_list at gs k) fs e = absurd (cc)
whole_names (in_tail at gs k) fs e = absurd (cc)
whole_names (past_tail at gs f k) fs e = absurd (cc)
whole_names (in_quote at k) fs e = absurd (cc)

-- the end adds the symbol that it ends
pub names_end : (s : State) (fs : Forms) → IsWellState s → finish s ≡ Some fs → with_names (state_names s) (pending s) ≡ with_names reserved (symbols_in fs)
names_end (between o k) fs h e = whole_names k fs e
names_end (in_comment o k) fs h e = whole_names k fs e
names_end (in_atom o at w k) fs h e = sym (names_push (token_form at w) k h) ∙ whole_names (push (token_form at w) k) fs e
names_end (after_dot o k) fs h e = absurd (cc)
names_end (bad at kind) fs h e = absurd (cc)
