-- Where a form stands doesn't show in its text.
use Rattle.std.proofs.Common.{◌≡◌, ◌++◌, [], ◌∷◌, refl, ap, sym, ◌∙◌}
use Rattle.ql_forms.specs.Spelled.{Form, atom, list, Forms, none, more}
use Rattle.ql_forms.specs.FormText.{form_text, items_text, others_text, tail_text, without_places, all_without_places}

mutual
  form_alike : (f : Form) → form_text (without_places f) ≡ form_text f
  form_alike (atom at a) = refl
  form_alike (list at fs t) = ap (λ w. 40 ∷ w ++ tail_text t ++ 41 ∷ []) (items_alike fs)

  items_alike : (fs : Forms) → items_text (all_without_places fs) ≡ items_text fs
  items_alike none = refl
  items_alike (more f fs) = ap (λ w. w ++ others_text (all_without_places fs)) (form_alike f) ∙ ap (λ w. form_text f ++ w) (others_alike fs)

  others_alike : (fs : Forms) → others_text (all_without_places fs) ≡ others_text fs
  others_alike none = refl
  others_alike (more f fs) = ap (λ w. (32 ∷ w) ++ others_text (all_without_places fs)) (form_alike f) ∙ ap (λ w. (32 ∷ form_text f) ++ w) (others_alike fs)

pub same_text : (f g : Form) → without_places f ≡ without_places g → form_text f ≡ form_text g
same_text f g e = sym (form_alike f) ∙ ap form_text e ∙ form_alike g
