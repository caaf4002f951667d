-- Words of items, linked to a list by pairs.
use Rattle.std.proofs.Common.{◌≡◌, ℕ, ◌+◌, suc, ◌<◌, List, [], ◌∷◌, ◌++◌, length, drop, get_or, refl, ap, sym, ◌∙◌, add-one, drop-cons}
use Rattle.ql_forms.specs.Form.{Form, Forms, more, Tail}
use Rattle.ql_forms.specs.View.{form_of, forms_of}
use Rattle.ql_forms.specs.declared.form.Form as declared
use Rattle.ql_meaning.specs.Context.{Pairs, quoted, quoted_items, with_pair}
use Rattle.ql_world.specs.declared.word.Word.{Word}

-- pairs of these words before a list, made from the last word on
abbrev pub linked : List Word → Pairs × Word → Pairs × Word
linked [] r = r
linked (w ∷ ws) r = with_pair w (linked ws r)

pub linked_last : (ws : List Word) (w : Word) (r : Pairs × Word) → linked (ws ++ w ∷ []) r ≡ linked ws (with_pair w r)
linked_last [] w r = refl
linked_last (v ∷ ws) w r = ap (with_pair v) (linked_last ws w r)

pub forms_from : (fs : List declared.Form) (i : ℕ) (f : declared.Form) → i < length fs → f ≡ get_or fs i f → forms_of (drop i fs) ≡ more (form_of f) (forms_of (drop (i + 1) fs))
forms_from fs i f h e = rw (add-one, drop-cons fs i f) (ap (λ g. more (form_of g) (forms_of (drop (suc i) fs))) (sym e))

-- One item more has its word.
pub one_linked : (f : Form) (fs others : Forms) (t : Tail) (words new : List Word) (ps qs : Pairs) (w : Word) (all : Pairs × Word)
    → fs ≡ more f others → linked words (quoted_items fs t ps) ≡ all → (qs, w) ≡ quoted f ps → new ≡ words ++ w ∷ [] → linked new (quoted_items others t qs) ≡ all
one_linked f fs others t words new ps qs w all next whole here put =
    ap (λ ws. linked ws (quoted_items others t qs)) put ∙ (linked_last words w (quoted_items others t qs)
    ∙ (ap (λ (r : Pairs × Word). linked words (with_pair r.1 (quoted_items others t r.0))) here ∙ (ap (λ gs. linked words (quoted_items gs t ps)) (sym next) ∙ whole)))
