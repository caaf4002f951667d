-- No bytes have two refusals.
use Rattle.std.proofs.Common.{◌≡◌, ◌<◌, ◌≤◌, ℕ, List, Option, Some, None, length, refl, sym, ap, ◌∙◌, subst, arith}
use Rattle.std.specs.Prelude.{option_map, slice_get}
use Rattle.std.proofs.lemmas.Option.{slice_get_within}
use Rattle.ql_base.specs.Names.{AreDistinct, reserved, with_names}
use Rattle.ql_base.specs.Refusal.{least, told}
use Rattle.ql_forms.specs.Form.{Forms}
use Rattle.ql_forms.specs.Numbered.{Numbered}
use Rattle.ql_forms.specs.Spelled as spelled
use Rattle.ql_forms.specs.Spelled.{symbols_in}
use Rattle.ql_forms.specs.Spells.{Spells}
use Rattle.ql_expand.specs.Core.{Program}
use Rattle.ql_expand.specs.ExpandFault.{expand_fault}
use Rattle.ql_expand.specs.Expands.{ExpandsTo}
use Rattle.ql_scope.specs.Scope.{InScope, scope_fault}
use Rattle.ql_code.specs.Code.{Instruction, Code}
use Rattle.ql_compile.specs.Compile.{compiled}
use Rattle.ql_compile.specs.Laws.{IsTooLong}
use Rattle.ql_read.specs.TextFault.{TextFault}
use Rattle.ql_top.specs.Top.{IsText, Makes, Unfit, by_forms, by_scope, by_code, Refusal, of_text, of_forms, IsSource}

-- the answers to one question
one_place : (o : Option (ℕ × ℕ)) (at kind n k : ℕ) → o ≡ Some (at, kind) → o ≡ Some (n, k) → (kind ≡ k) × (at ≡ n)
one_place o at kind n k e f =
    let both : ◌≡◌ {A = Option (ℕ × ℕ)} (Some (at, kind)) (Some (n, k)) = sym e ∙ f in
    let pair : ◌≡◌ {A = ℕ × ℕ} (at, kind) (n, k) = cc in
    (ap (λ (p : ℕ × ℕ). p.1) pair, ap (λ (p : ℕ × ℕ). p.0) pair)

one_offset : (o : Option ℕ) (at n : ℕ) → o ≡ Some at → o ≡ Some n → at ≡ n
one_offset o at n e f = let both : Some at ≡ Some n = sym e ∙ f in cc

none_or_some : {A : Type 0} (o : Option A) (a : A) → o ≡ None → o ≡ Some a → Prim.⊥
none_or_some o a e f = let no = sym e ∙ f in cc

no_scope_fault : (p : Program) → InScope p → scope_fault p ≡ None
no_scope_fault p h = ap (λ fs. told (least fs)) h

-- the offset of the 65,536th instruction
abbrev last_place : Code → Option ℕ
last_place code = option_map (λ (i : Instruction). i.at) (slice_get code.instructions 65535)

too_many : (is : List Instruction) (o : Option Instruction) (at : ℕ) → slice_get is 65535 ≡ o → option_map (λ (i : Instruction). i.at) o ≡ Some at
    → length is ≤ 65535 → Prim.⊥
too_many is None at e h short = none_or_some _ _ refl h
too_many is (Some i) at e h short = let beyond : 65535 < length is = slice_get_within is 65535 i e in absurd (omega (arith, beyond, short))

not_too_long : (code : Code) (at : ℕ) → length code.instructions ≤ 65535 → IsTooLong code at → Prim.⊥
not_too_long code at short h = too_many code.instructions (slice_get code.instructions 65535) at refl h short

-- What is wrong with forms has a kind beyond those of a text.
pub kind_beyond : ((names : List (List ℕ)) (forms : Forms) (at kind : ℕ) → expand_fault names forms ≡ Some (at, kind) → (9 ≤ kind) × (kind ≤ 11))
    → ((p : Program) (at kind : ℕ) → scope_fault p ≡ Some (at, kind) → (12 ≤ kind) × (kind ≤ 18))
    → (names : List (List ℕ)) (forms : Forms) (kind at : ℕ) → Unfit names forms kind at → 9 ≤ kind
kind_beyond form_kinds name_kinds names forms kind at (by_forms e) = (form_kinds names forms at kind e).0
kind_beyond form_kinds name_kinds names forms kind at (by_scope p none x e) =
    let beyond : 12 ≤ kind = (name_kinds p at kind e).0 in omega (arith, beyond)
kind_beyond form_kinds name_kinds names forms kind at (by_code p none x s e) = omega arith

module _ (one_reading : (b : List ℕ) (f g : spelled.Forms) → Spells b f → Spells b g → f ≡ g)
    (distinct : (texts : List (List ℕ)) → AreDistinct (with_names reserved texts))
    (numbered : (s : spelled.Forms) (names : List (List ℕ)) (f g : Forms) → AreDistinct names → Numbered s names f → Numbered s names g → f ≡ g)
    (one_expansion : (forms : Forms) (p q : Program) → ExpandsTo forms p → ExpandsTo forms q → p ≡ q) where
  same_names : (b : List ℕ) (n m : List (List ℕ)) (f g : Forms) → IsText b n f → IsText b m g → n ≡ m
  same_names b n m f g i j =
      i.numbered.in_order ∙ ap (λ s. with_names reserved (symbols_in s)) (one_reading b i.spelling j.spelling i.spells j.spells) ∙ sym j.numbered.in_order

  same_forms : (b : List ℕ) (n m : List (List ℕ)) (f g : Forms) → IsText b n f → IsText b m g → f ≡ g
  same_forms b n m f g i j =
      numbered i.spelling n f g (subst AreDistinct (sym i.numbered.in_order) (distinct (symbols_in i.spelling))) i.numbered
      (subst (λ s. Numbered s n g) (one_reading b j.spelling i.spelling j.spells i.spells)
      (subst (λ k. Numbered j.spelling k g) (same_names b m n g f j i) j.numbered))

  -- what is wrong with the forms of a text is wrong with those of any other reading
  same_unfit : (b : List ℕ) (n m : List (List ℕ)) (f g : Forms) (kind at : ℕ) → IsText b n f → IsText b m g
      → Unfit m g kind at → Unfit n f kind at
  same_unfit b n m f g kind at i j u =
      subst (λ k. Unfit k f kind at) (same_names b m n g f j i) (subst (λ h. Unfit m h kind at) (same_forms b m n g f j i) u)

  one_unfit : (names : List (List ℕ)) (forms : Forms) (k n kind at : ℕ) → Unfit names forms k n → Unfit names forms kind at
      → (k ≡ kind) × (n ≡ at)
  one_unfit names forms k n kind at (by_forms e) (by_forms f) = one_place (expand_fault names forms) n k at kind e f
  one_unfit names forms k n kind at (by_forms e) (by_scope p none x f) = absurd (none_or_some _ _ none e)
  one_unfit names forms k n kind at (by_forms e) (by_code p none x s f) = absurd (none_or_some _ _ none e)
  one_unfit names forms k n kind at (by_scope p none x e) (by_forms f) = absurd (none_or_some _ _ none f)
  one_unfit names forms k n kind at (by_scope p none x e) (by_scope q clean y f) =
      one_place (scope_fault p) n k at kind e (ap scope_fault (one_expansion forms p q x y) ∙ f)
  one_unfit names forms k n kind at (by_scope p none x e) (by_code q clean y s f) =
      absurd (none_or_some _ _ (no_scope_fault q s) (ap scope_fault (one_expansion forms q p y x) ∙ e))
  one_unfit names forms k n kind at (by_code p none x s e) (by_forms f) = absurd (none_or_some _ _ none f)
  one_unfit names forms k n kind at (by_code p none x s e) (by_scope q clean y f) =
      absurd (none_or_some _ _ (no_scope_fault p s) (ap scope_fault (one_expansion forms p q x y) ∙ f))
  one_unfit names forms k n kind at (by_code p none x s e) (by_code q clean y t f) =
      (refl, one_offset (last_place (compiled p)) n at e (ap (λ r. last_place (compiled r)) (one_expansion forms p q x y) ∙ f))

  pub one_refusal : ((b : List ℕ) (k l m n : ℕ) → TextFault b k m → TextFault b l n → (k ≡ l) × (m ≡ n))
      → (b : List ℕ) (k n kind at : ℕ) → Refusal b k n → Refusal b kind at → (k ≡ kind) × (n ≡ at)
  one_refusal one_fault b k n kind at (of_text f) (of_text g) = one_fault b k kind n at f g
  one_refusal one_fault b k n kind at (of_text f) (of_forms t u) = absurd (t.no_fault k n f)
  one_refusal one_fault b k n kind at (of_forms t u) (of_text g) = absurd (t.no_fault kind at g)
  one_refusal one_fault b k n kind at (of_forms {names = names} {forms = f} t u) (of_forms {names = others} {forms = g} i v) =
      one_unfit names f k n kind at u (same_unfit b names others f g kind at t i v)

  not_unfit : (names : List (List ℕ)) (forms : Forms) (p : Program) → Makes names forms p → (kind at : ℕ) → Unfit names forms kind at → Prim.⊥
  not_unfit names forms p m kind at (by_forms e) = none_or_some _ _ m.no_fault e
  not_unfit names forms p m kind at (by_scope q none x e) =
      none_or_some _ _ (no_scope_fault p m.in_scope) (ap scope_fault (one_expansion forms p q m.expands x) ∙ e)
  not_unfit names forms p m kind at (by_code q none x s e) =
      not_too_long (compiled p) at m.short (ap (λ r. last_place (compiled r)) (one_expansion forms p q m.expands x) ∙ e)

  -- nothing refuses a program in scope
  pub not_refused : (b : List ℕ) (p : Program) → IsSource b p → (kind at : ℕ) → Refusal b kind at → Prim.⊥
  not_refused b p s kind at (of_text f) = s.is_text.no_fault kind at f
  not_refused b p s kind at (of_forms {names = names} {forms = f} t u) =
      not_unfit s.names s.forms p s.makes kind at (same_unfit b s.names names s.forms f kind at s.is_text t u)

  pub same_source : (b : List ℕ) (p q : Program) → IsSource b p → IsSource b q → p ≡ q
  same_source b p q i j =
      one_expansion i.forms p q i.makes.expands
      (subst (λ f. ExpandsTo f q) (same_forms b j.names i.names j.forms i.forms j.is_text i.is_text) j.makes.expands)

  pub same_source_names : (b : List ℕ) (p q : Program) (i : IsSource b p) (j : IsSource b q) → i.names ≡ j.names
  same_source_names b p q i j = same_names b i.names j.names i.forms j.forms i.is_text j.is_text
