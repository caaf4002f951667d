-- The text of a form spells that form again, at other places: by induction on the form.
use Rattle.std.proofs.Common.{◌≡◌, ℕ, ◌+◌, true, List, [], ◌∷◌, ◌++◌, refl, ap, sym, ◌∙◌, subst, append_assoc, append-nil}
use Rattle.std.specs.Prelude.{if◌then◌else◌}
use Rattle.ql_forms.specs.Bytes.{class, blank}
use Rattle.ql_forms.specs.Spelled.{Tail, proper, dotted, Form, atom, list, Forms, none, more, Ending, plain, with_tail, tail_of, list_form}
use Rattle.ql_forms.specs.FormText.{tail_text, form_text, others_text, forms_text, without_places, all_without_places, IsTail, CanBeSpelled, AllCanBeSpelled}
use Rattle.ql_forms.specs.Spells.{nothing, a_blank, AfterAtom, IsForm, an_atom, a_list, a_quote, AreItems, closed, an_item, a_tail, AreForms, ended, a_form}
use Rattle.ql_forms.proofs.AtomsReadBack.{atom_reads_back}

-- a blank may stand before a form, and before forms
before_form : {d o b p : ℕ} {t u : List ℕ} {f : Form} → class b ≡ blank → IsForm d (o + 1) t f p u → IsForm d o (b ∷ t) f p u
before_form e (an_atom g a r is) = an_atom (a_blank e g) a r is
before_form e (a_list g c lt items) = a_list (a_blank e g) c lt items
before_form e (a_quote g c lt is) = a_quote (a_blank e g) c lt is

before_forms : {o b : ℕ} {t : List ℕ} {fs : Forms} → class b ≡ blank → AreForms (o + 1) t fs → AreForms o (b ∷ t) fs
before_forms e (ended g) = ended (a_blank e g)
before_forms e (a_form is others) = a_form (before_form e is) others

-- what follows an item of a list ends an atom
after_item : (fs : Forms) (t : Tail) (u : List ℕ) → AfterAtom (others_text fs ++ (tail_text t ++ 41 ∷ u))
after_item none proper u = refl
after_item none (dotted a) u = refl
after_item (more f fs) t u = refl

-- the form stands at the front of a text
pub record ReadsBack (d o : ℕ) (t : List ℕ) (f : Form) (u : List ℕ) : Type 0 where
  pub read : Form
  pub end : ℕ
  pub is : IsForm d o t read end u
  pub alike : without_places read ≡ without_places f

-- The ending of a text makes this tail. Its form is an atom, so no lists are joined.
abbrev EndsAs : Ending → Tail → Type 0
EndsAs plain t = proper ≡ t
EndsAs (with_tail (atom o a)) t = tail_of a ≡ t
EndsAs (with_tail (list o fs u)) t = Prim.⊥

same_list : (at : ℕ) (f : Form) (fs : Forms) (e : Ending) (t : Tail) → EndsAs e t → list_form at (more f fs) e ≡ list at (more f fs) t
same_list at f fs plain t h = ap (list at (more f fs)) h
same_list at f fs (with_tail (atom o a)) t h = ap (list at (more f fs)) h
same_list at f fs (with_tail (list o gs u)) t h = absurd h

-- the other items of a list, its tail and the end of the list stand at the front of a text
record OthersReadBack (d o : ℕ) (t : List ℕ) (fs : Forms) (tail : Tail) (u : List ℕ) : Type 0 where
  read : Forms
  ending : Ending
  end : ℕ
  are : AreItems d true o t read ending end u
  alike : all_without_places read ≡ all_without_places fs
  ends : EndsAs ending tail

tail_reads_back : (d o : ℕ) (t : Tail) (u : List ℕ) → IsTail t → OthersReadBack d o (tail_text t ++ 41 ∷ u) none t u
tail_reads_back d o proper u h = record { read = none; ending = plain; end = o + 1; are = closed nothing refl; alike = refl; ends = refl }
tail_reads_back d o (dotted a) u h =
    let (p, is) = atom_reads_back d (o + 1 + 1 + 1) a (41 ∷ u) h.0 refl in
    record {
      read = none;
      ending = with_tail (atom (o + 1 + 1 + 1) a);
      end = p + 1;
      are = a_tail (a_blank refl nothing) refl refl (before_form refl is) nothing refl;
      alike = refl;
      ends = ap (λ b. if b then proper else dotted a) h.1;
    }

list_text : (w x y u : List ℕ) → (((w ++ x) ++ y) ++ 41 ∷ []) ++ u ≡ w ++ (x ++ (y ++ 41 ∷ u))
list_text w x y u = simp append_assoc

mutual
  pub reads_back : (d o : ℕ) (f : Form) (u : List ℕ) → CanBeSpelled d f → AfterAtom u → ReadsBack d o (form_text f ++ u) f u
  reads_back d o (atom at a) u h after = let (p, is) = atom_reads_back d o a u h after in record { read = atom o a; end = p; is = is; alike = refl }
  reads_back d o (list at none t) u h after = absurd h.1
  reads_back d o (list at (more f fs) t) u h after =
      let first = reads_back (d + 1) (o + 1) f (others_text fs ++ (tail_text t ++ 41 ∷ u)) h.2.0 (after_item fs t u) in
      let others = others_read_back (d + 1) first.end fs t u h.2.1 h.3 in
      let is : IsForm d o (40 ∷ form_text f ++ (others_text fs ++ (tail_text t ++ 41 ∷ u))) (list_form o (more first.read others.read) others.ending) others.end u =
      a_list nothing refl h.0 (an_item first.is others.are) in
      record {
        read = list_form o (more first.read others.read) others.ending;
        end = others.end;
        is = subst (λ x. IsForm d o (40 ∷ x) (list_form o (more first.read others.read) others.ending) others.end u) (sym (list_text (form_text f) (others_text fs) (tail_text t) u)) is;
        alike = ap without_places (same_list o first.read others.read others.ending t others.ends) ∙ ap (λ g. list 0 (more g (all_without_places others.read)) t) first.alike ∙ ap (λ gs. list 0 (more (without_places f) gs) t) others.alike;
      }

  others_read_back : (d o : ℕ) (fs : Forms) (t : Tail) (u : List ℕ) → AllCanBeSpelled d fs → IsTail t → OthersReadBack d o (others_text fs ++ (tail_text t ++ 41 ∷ u)) fs t u
  others_read_back d o none t u h tail = tail_reads_back d o t u tail
  others_read_back d o (more f fs) t u h tail =
      let first = reads_back d (o + 1) f (others_text fs ++ (tail_text t ++ 41 ∷ u)) h.0 (after_item fs t u) in
      let others = others_read_back d first.end fs t u h.1 tail in
      record {
        read = more first.read others.read;
        ending = others.ending;
        end = others.end;
        are = subst (λ x. AreItems d true o (32 ∷ x) (more first.read others.read) others.ending others.end u) (sym (append_assoc (form_text f) (others_text fs) (tail_text t ++ 41 ∷ u)))
            (an_item (before_form refl first.is) others.are);
        alike = ap (λ g. more g (all_without_places others.read)) first.alike ∙ ap (more (without_places f)) others.alike;
        ends = others.ends;
      }

-- a whole text, form by form
pub all_read_back : (o : ℕ) (fs : Forms) → AllCanBeSpelled 0 fs → (gs : Forms) × AreForms o (forms_text fs) gs × (all_without_places gs ≡ all_without_places fs)
all_read_back o none h = (none, ended nothing, refl)
all_read_back o (more f fs) h =
    let first = reads_back 0 o f (10 ∷ forms_text fs) h.0 refl in
    let (gs, are, alike) = all_read_back (first.end + 1) fs h.1 in
    let text : form_text f ++ 10 ∷ forms_text fs ≡ (form_text f ++ 10 ∷ []) ++ forms_text fs = sym (append_assoc (form_text f) (10 ∷ []) (forms_text fs)) in
    (more first.read gs, subst (λ x. AreForms o x (more first.read gs)) text (a_form first.is (before_forms refl are)), ap (λ g. more g (all_without_places gs)) first.alike ∙ ap (more (without_places f)) alike)

pub alone_reads_back : (f : Form) → CanBeSpelled 0 f → (g : Form) × AreForms 0 (form_text f) (more g none) × (without_places g ≡ without_places f)
alone_reads_back f h =
    let r = reads_back 0 0 f [] h tt in
    (r.read, a_form (subst (λ x. IsForm 0 0 x r.read r.end []) (append-nil (form_text f)) r.is) (ended nothing), r.alike)
