-- What the end of a text says of it.
use Rattle.std.proofs.Common.{◌≡◌, ℕ, ◌==◌, true, false, List, [], ◌∷◌, length, Option, Some, None, refl, sym, ap, ◌∙◌, subst}
use Rattle.ql_base.specs.Names.{reserved, with_names}
use Rattle.ql_forms.specs.Spelled.{Forms, none}
use Rattle.ql_forms.specs.Form.{forms_below}
use Rattle.ql_forms.specs.Form as numbered
use Rattle.ql_forms.specs.Numbered.{Numbered, spelled_forms}
use Rattle.ql_forms.specs.Spells.{Spells}
use Rattle.ql_forms.specs.View.{forms_of, spelling_of, spellings_of}
use Rattle.ql_forms.specs.declared.form.Form.{Form as Value}
use Rattle.ql_read.specs.TextFault.{unfinished, IsRead, IsRefused}
use Rattle.ql_read.specs.Scan.{Stack, top, in_list, in_tail, past_tail, in_quote, scan, start, whole, finish}
use Rattle.ql_read.specs.View.{backward, frames_on, stack_of, nested, state_of}
use Rattle.ql_read.specs.Numbering.{GoesOn, pending}
use Rattle.ql_read.specs.Told.{HasTaken}
use Rattle.ql_read.specs.declared.nesting.Frame.{Frame}
use Rattle.ql_read.specs.declared.nesting.Frame.TheVariants.{InList, InTail, PastTail, InQuote}
use Rattle.ql_read.specs.declared.reader.Reader.{Reader}
use Rattle.ql_read.proofs.Views.{in_order_is}
use Rattle.ql_read.proofs.Forms.{no_items}
use Rattle.ql_read.proofs.Naming.{goes_on_before, goes_on_same}
use Rattle.ql_read.proofs.Tables.{well_scan, names_end}
use Rattle.ql_read.proofs.Taking.{at_state, goes_on_reserved}
use Rattle.ql_read.proofs.Refusals.{end_refused, read_all}
use Rattle.ql_read.proofs.Sound.{sound}

none_on : (names : List (List ℕ)) (fs : List Frame) (k : Stack) → whole k ≡ None → whole (frames_on names k fs) ≡ None
none_on names [] k h = h
none_on names (InList at v ∷ fs) k h = none_on names fs (in_list at (backward names none v.items) k) refl
none_on names (InTail at v ∷ fs) k h = none_on names fs (in_tail at (backward names none v.items) k) refl
none_on names (PastTail at v y ∷ fs) k h = none_on names fs (past_tail at (backward names none v.items) (spelling_of names y) k) refl
none_on names (InQuote at ∷ fs) k h = none_on names fs (in_quote at k) refl

-- something is open
pub not_whole : (names : List (List ℕ)) (n : ℕ) (fs : List Frame) (xs : List Value) → n ≡ length fs → (n == 0) ≡ false → None ≡ whole (stack_of names fs xs)
not_whole names n [] xs e h = let z : (n == 0) ≡ true = rw e refl in absurd (cc)
not_whole names n (InList at v ∷ fs) xs e h = sym (none_on names fs (in_list at (backward names none v.items) (top (backward names none xs))) refl)
not_whole names n (InTail at v ∷ fs) xs e h = sym (none_on names fs (in_tail at (backward names none v.items) (top (backward names none xs))) refl)
not_whole names n (PastTail at v y ∷ fs) xs e h = sym (none_on names fs (past_tail at (backward names none v.items) (spelling_of names y) (top (backward names none xs))) refl)
not_whole names n (InQuote at ∷ fs) xs e h = sym (none_on names fs (in_quote at (top (backward names none xs))) refl)

-- nothing is open
pub is_whole : (names : List (List ℕ)) (n : ℕ) (fs : List Frame) (xs ys : List Value) → n ≡ length fs → true ≡ (n == 0) → ys ≡ xs → Some (spellings_of names ys) ≡ whole (stack_of names fs xs)
is_whole names n fs xs ys e h same =
    ap (λ z. Some (spellings_of names z)) same ∙ ap Some (sym (in_order_is names none xs)) ∙ ap (λ z. whole (stack_of names z xs)) (sym (no_items n fs e h))

-- What the end leads to, under whichever names come later.
abbrev pub Ends : Reader → (List (List ℕ) → Option Forms) → Type 0
Ends r forms =
    (o : ℕ) (k : Stack) (later : List (List ℕ)) → GoesOn reserved later → GoesOn (with_names r.nesting.names (pending (state_of r.token o k))) later
    → forms later ≡ finish (state_of r.token o (nested later r.nesting))

finished : (r : Reader) (b : List ℕ) (forms : List (List ℕ) → Option Forms) (k : Stack) (later : List (List ℕ)) → HasTaken r b → Ends r forms
    → GoesOn (with_names r.nesting.names (pending (state_of r.token r.taken k))) later → finish (scan start b) ≡ forms later
finished r b forms k later h e g =
    let before : GoesOn r.nesting.names later = goes_on_before r.nesting.names (with_names r.nesting.names (pending (state_of r.token r.taken k))) (pending (state_of r.token r.taken k)) later refl g in
    sym (e r.taken k later (goes_on_reserved r b later h before) g ∙ ap finish (at_state r (scan start b) h.scanned later before))

-- the text ends too early
pub ends_early : (r : Reader) (b : List ℕ) (forms : List (List ℕ) → Option Forms) → HasTaken r b → Ends r forms → ((later : List (List ℕ)) → None ≡ forms later) → IsRefused b unfinished r.taken
ends_early r b forms h e none_is =
    let later = with_names r.nesting.names (pending (state_of r.token r.taken (top none))) in
    subst (λ n. IsRefused b unfinished n) (sym h.counted) (end_refused b h.no_fault h.short (finished r b forms (top none) later h e (goes_on_same later) ∙ sym (none_is later)))

-- In what is spelled each number is that of a name.
abbrev pub HaveNames : Type 0
HaveNames = (b : List ℕ) (names : List (List ℕ)) (fs : numbered.Forms) → Spells b (spelled_forms names fs) → forms_below (length names) fs ≡ true

-- the text is read
pub ends_well : HaveNames → (r : Reader) (b : List ℕ) (vs : List Value) (names : List (List ℕ)) (forms : List (List ℕ) → Option Forms) → HasTaken r b → Ends r forms
    → ((later : List (List ℕ)) → Some (spellings_of later vs) ≡ forms later) → ((o : ℕ) (k : Stack) → names ≡ with_names r.nesting.names (pending (state_of r.token o k))) → IsRead b (forms_of vs) names
ends_well have r b vs names forms h e some n =
    let now = nested r.nesting.names r.nesting in
    let all : finish (scan start b) ≡ Some (spellings_of names vs) = finished r b forms now names h e (subst (λ z. GoesOn z names) (n r.taken now) (goes_on_same names)) ∙ sym (some names) in
    let is : state_of r.token r.taken now ≡ scan start b = at_state r (scan start b) h.scanned r.nesting.names (goes_on_same r.nesting.names) in
    let spells : Spells b (spellings_of names vs) = sound b (spellings_of names vs) all in
    let numbers : Numbered (spellings_of names vs) names (forms_of vs) = record {
      in_order = n r.taken now ∙ ap (λ z. with_names r.nesting.names (pending z)) is ∙ ap (λ z. with_names z (pending (scan start b))) h.numbered
          ∙ names_end (scan start b) (spellings_of names vs) (well_scan start b tt) all;
      letters_are = refl;
      below = have b names (forms_of vs) spells;
    } in
    read_all b (spellings_of names vs) names (forms_of vs) h.short all numbers
