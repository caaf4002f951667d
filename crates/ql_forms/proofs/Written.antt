-- What is left to write of a list's items, and texts that begin with what was there before.
use Rattle.std.proofs.Common.{◌≡◌, ◌++◌, ◌<◌, ◌≤◌, ◌+◌, ℕ, Bool, true, false, List, [], ◌∷◌, length, take, drop, get_or, ap, sym, ◌∙◌, arith, append_assoc, add-one, append-nil, Result, Ok, Err, OnErr}
use Rattle.std.proofs.lemmas.List.{take-append-le, take-append-drop, length-take, drop_all}
use Rattle.std.proofs.lemmas.Result.{on_err_weaker}
use Rattle.std.proofs.Math.Seq.{drop-cons}
use Rattle.ql_forms.specs.Spelled.{Form, Forms, more}
use Rattle.ql_forms.specs.FormText.{form_text, items_text, others_text}
use Rattle.ql_forms.specs.View.{spelling_of, spellings_of}
use Rattle.ql_forms.specs.declared.form.Form.{Form as Value}

-- the text of the items that are left, where the first of all is among them or isn't
abbrev pub rest_text : Bool → Forms → List ℕ
rest_text true fs = items_text fs
rest_text false fs = others_text fs

front_within : (a b : List ℕ) → take (length a) b ≡ a → length a ≤ length b
front_within a b h = omega (arith, length-take (length a) b, ap length h)

pub front_more : (a b c d : List ℕ) → take (length a) b ≡ a → c ≡ b ++ d → take (length a) c ≡ a
front_more a b c d h e = ap (take (length a)) e ∙ take-append-le (length a) b d (front_within a b h) ∙ h

pub front_on : (a b c : List ℕ) → take (length a) b ≡ a → take (length b) c ≡ b → take (length a) c ≡ a
front_on a b c h e = front_more a b c (drop (length b) c) h (sym (take-append-drop (length b) c) ∙ ap (λ z. z ++ drop (length b) c) e)

pub next_of : (names : List (List ℕ)) (items : List Value) (i : ℕ) (x : Value) → i < length items → x ≡ get_or items i x
    → spellings_of names (drop i items) ≡ more (spelling_of names x) (spellings_of names (drop (i + 1) items))
next_of names items i x lt e =
    let here : drop i items ≡ get_or items i x ∷ drop (i + 1) items = rw add-one (drop-cons items i x lt) in
    ap (spellings_of names) here ∙ ap (λ y. more (spelling_of names y) (spellings_of names (drop (i + 1) items))) (sym e)

pub all_done : (names : List (List ℕ)) (items : List Value) (i : ℕ) (is_first : Bool) (to all : List ℕ) → length items ≤ i
    → to ++ rest_text is_first (spellings_of names (drop i items)) ≡ all → to ≡ all
all_done names items i true to all le h = sym (append-nil to) ∙ sym (ap (λ z. to ++ items_text (spellings_of names z)) (drop_all i items le)) ∙ h
all_done names items i false to all le h = sym (append-nil to) ∙ sym (ap (λ z. to ++ others_text (spellings_of names z)) (drop_all i items le)) ∙ h

-- the first item was written
pub first_done : (f : Form) (fs rest : Forms) (to new all : List ℕ) → rest ≡ more f fs → to ++ rest_text true rest ≡ all → new ≡ to ++ form_text f
    → new ++ others_text fs ≡ all
first_done f fs rest to new all e h w = ap (λ z. z ++ others_text fs) w ∙ append_assoc to (form_text f) (others_text fs) ∙ sym (ap (λ z. to ++ items_text z) e) ∙ h

-- a space and another item were written
pub other_done : (f : Form) (fs rest : Forms) (to spaced new all : List ℕ) → rest ≡ more f fs → to ++ rest_text false rest ≡ all → spaced ≡ to ++ 32 ∷ [] → new ≡ spaced ++ form_text f
    → new ++ others_text fs ≡ all
other_done f fs rest to spaced new all e h s w =
    ap (λ z. z ++ others_text fs) w ∙ ap (λ z. (z ++ form_text f) ++ others_text fs) s ∙ regrouped ∙ sym (ap (λ z. to ++ others_text z) e) ∙ h
  where
    regrouped : ((to ++ 32 ∷ []) ++ form_text f) ++ others_text fs ≡ to ++ (32 ∷ form_text f ++ others_text fs)
    regrouped = simp append_assoc

pub on_err : {T E : Type 0} {P : Type 0} (r : Result T E) → P → OnErr r P
on_err (Ok x) p = tt
on_err (Err e) p = p

pub cut_back : {T E : Type 0} (r : Result T E) (old long new : List ℕ) (n : ℕ) → n ≡ length old → new ≡ take n long → OnErr r (take (length old) long ≡ old) → OnErr r (new ≡ old)
cut_back r old long new n e h = on_err_weaker r (λ k. h ∙ ap (λ m. take m long) e ∙ k)
