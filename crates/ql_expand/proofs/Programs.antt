-- What forms expand to has the numbers of the forms and of reserved words, and primitives with as many operands as they take.
use Rattle.std.proofs.Common.{◌≡◌, ℕ, ◌<◌, ◌≤◌, Bool, true, false, nat_lt, List, [], ◌∷◌, Option, Some, None, IfSome, if◌then◌else◌, refl, subst, arith}
use Rattle.std.specs.List.{list_all}
use Rattle.std.specs.Option.{option_and_then}
use Rattle.std.proofs.lemmas.Bool.{lt-ltb, and_parts}
use Rattle.std.proofs.lemmas.Bool.Decides.{nat_tests}
use Rattle.ql_forms.specs.Form.{Form, Forms, none, more, atom, list, proper, dotted, symbol, is_nil, form_below, forms_below, items_of}
use Rattle.ql_expand.specs.Core.{named, hidden, Binder, binder, Core, Cores, Bounds, Function, Program, program}
use Rattle.ql_expand.specs.Primitives.{binder_passes, core_passes, cores_pass, bounds_pass, program_passes, program_below, program_has_primitives}
use Rattle.ql_expand.specs.Expands.{with_binder, binders_in, parameters_in, Rewrites, no_terms, Expands, sugar, or_more, integer_alone, constant_word, quoted, variable_word, assigned, if_then, if_else, sequence, bound, one_operand, two_operands, printed, called, value_called, closed, bound_apart, closed_apart, caught, caught_all, thrown, protected, Body, no_forms, one_form, forms, InTurn, last_form, then_forms, Each, none_left, one_more, with_value, without_value, alone, Binds, none_bound, one_bound, TopForms, no_tops, top_function, top_global, top_form, ExpandsTo}

below_more : (m n : ℕ) → m < 46 → 46 ≤ n → nat_lt m n ≡ true
below_more m n h i = lt-ltb m n (omega arith)

abbrev binders_below : ℕ → List Binder → Bool
binders_below n = list_all (binder_passes (λ m. nat_lt m n))

all_pass : (bs : List Binder) → list_all (binder_passes (λ m. true)) bs ≡ true
all_pass [] = refl
all_pass (binder at (named m) ∷ bs) = all_pass bs
all_pass (binder at (hidden m) ∷ bs) = all_pass bs

module _ (n : ℕ) (enough : 46 ≤ n) where
  keeps : {f g : Form} → Rewrites f g → form_below n f ≡ true → form_below n g ≡ true
  keeps (no_terms e) h = refl
  keeps _ h = grind (arith, nat_tests)

  items_have : (b : Form) (bs : Forms) → items_of b ≡ Some bs → form_below n b ≡ true → forms_below n bs ≡ true
  items_have b bs i h = subst (λ o. IfSome o (λ x. forms_below n x ≡ true)) i (of b h)
    where
      of : (b : Form) → form_below n b ≡ true → IfSome (items_of b) (λ x. forms_below n x ≡ true)
      of (atom at a) h = elim (is_nil a) as (λ b. IfSome (if b then Some none else None) (λ x. forms_below n x ≡ true)) [ true ↦ refl | false ↦ tt ]
      of (list at fs proper) h = grind (arith, nat_tests)
      of (list at fs (dotted a)) h = tt

  binders_have : (fs : Forms) → forms_below n fs ≡ true → IfSome (binders_in fs) (λ x. binders_below n x ≡ true)
  binders_have none h = refl
  binders_have (more (atom at (symbol w)) fs) h = with_one (binders_in fs) (and_parts _ _ h).0 (binders_have fs (and_parts _ _ h).1)
    where
      with_one : (o : Option (List Binder)) → nat_lt w n ≡ true → IfSome o (λ x. binders_below n x ≡ true) → IfSome (with_binder at w o) (λ x. binders_below n x ≡ true)
      with_one None h i = tt
      with_one (Some bs) h i = rw (h, i) refl
  binders_have (more _ fs) h = tt

  parameters_have : (p : Form) (vs : List Binder) → parameters_in p ≡ Some vs → form_below n p ≡ true → binders_below n vs ≡ true
  parameters_have p vs i h = of (items_of p) refl i
    where
      of : (o : Option Forms) → items_of p ≡ o → option_and_then binders_in o ≡ Some vs → binders_below n vs ≡ true
      of None e k = cc
      of (Some fs) e k = subst (λ o. IfSome o (λ x. binders_below n x ≡ true)) k (binders_have fs (items_have p fs e h))

  -- It passes with any numbers, and with those below the count where the source has such numbers.
  abbrev Passes : (source : Bool) → ((ℕ → Bool) → (Form → Bool) → Bool) → Type 0
  Passes source passes = (passes (λ m. true) (λ f. true) ≡ true) × (source ≡ true → passes (λ m. nat_lt m n) (form_below n) ≡ true)

  mutual
    has : {d : Bool} {f : Form} {c : Core} → Expands d f c → Passes (form_below n f) (λ number datum. core_passes number datum c)
    has (sugar r e) = ((has e).0, λ h. (has e).1 (keeps r h))
    has (or_more k e f) = (rw ((has e).0, (has f).0) refl, λ h. grind (arith, nat_tests, (has e).1, (has f).1))
    has integer_alone = (refl, λ h. refl)
    has (constant_word k) = (refl, λ h. h)
    has (quoted k) = (refl, λ h. grind (arith, nat_tests))
    has (variable_word k) = (refl, λ h. h)
    has (assigned k e) = ((has e).0, λ h. grind (arith, nat_tests, (has e).1))
    has (if_then k e f) = (rw ((has e).0, (has f).0) refl, λ h. grind (arith, nat_tests, (has e).1, (has f).1))
    has (if_else k e f g) = (rw ((has e).0, (has f).0, (has g).0) refl, λ h. grind (arith, nat_tests, (has e).1, (has f).1, (has g).1))
    has (sequence k e) = ((body_has e).0, λ h. grind (arith, nat_tests, (body_has e).1))
    has (bound {b = b} {bs = bs} k i m e) = (rw ((binds_have m).0, (body_has e).0) refl, λ h. grind (arith, nat_tests, items_have b bs i, (binds_have m).1, (body_has e).1))
    has (one_operand k e) = (rw (k, (has e).0) refl, λ h. rw k (grind (arith, nat_tests, (has e).1)))
    has (two_operands k e f) = (rw (k, (has e).0, (has f).0) refl, λ h. rw k (grind (arith, nat_tests, (has e).1, (has f).1)))
    has (printed k e) = ((has e).0, λ h. grind (arith, nat_tests, (has e).1))
    has (called k e) = ((each_have e).0, λ h. grind (arith, nat_tests, (each_have e).1))
    has (value_called k e f) = (rw ((has e).0, (each_have f).0) refl, λ h. grind (arith, nat_tests, (has e).1, (each_have f).1))
    has (closed {p = p} {vs = vs} k i e) = (rw (all_pass vs, (body_has e).0) refl, λ h. grind (arith, nat_tests, parameters_have p vs i, (body_has e).1))
    has (bound_apart {b = b} {bs = bs} k e i m f) =
        (rw ((has e).0, (binds_have m).0, (body_has f).0) refl, λ h. grind (arith, nat_tests, (has e).1, items_have b bs i, (binds_have m).1, (body_has f).1))
    has (closed_apart {p = p} {vs = vs} k e i f) = (rw ((has e).0, all_pass vs, (body_has f).0) refl, λ h. grind (arith, nat_tests, (has e).1, parameters_have p vs i, (body_has f).1))
    has (caught k e f) = (rw ((has e).0, (body_has f).0) refl, λ h. grind (arith, nat_tests, (has e).1, (body_has f).1))
    has (caught_all k e f) = (rw ((has e).0, (body_has f).0) refl, λ h. grind (arith, nat_tests, (has e).1, (body_has f).1))
    has (thrown k e f) = (rw ((has e).0, (has f).0) refl, λ h. grind (arith, nat_tests, (has e).1, (has f).1))
    has (protected k e f) = (rw ((has e).0, (body_has f).0) refl, λ h. grind (arith, nat_tests, (has e).1, (body_has f).1))

    body_has : {at : ℕ} {fs : Forms} {c : Core} → Body at fs c → Passes (forms_below n fs) (λ number datum. core_passes number datum c)
    body_has no_forms = (refl, λ h. below_more 0 n (omega arith) enough)
    body_has (one_form e) = ((has e).0, λ h. grind (arith, nat_tests, (has e).1))
    body_has (forms s) = turns_have s

    turns_have : {fs : Forms} {cs : Cores} → InTurn fs cs → Passes (forms_below n fs) (λ number datum. cores_pass number datum cs)
    turns_have (last_form e) = (rw (has e).0 refl, λ h. grind (arith, nat_tests, (has e).1))
    turns_have (then_forms e s) = (rw ((has e).0, (turns_have s).0) refl, λ h. grind (arith, nat_tests, (has e).1, (turns_have s).1))

    each_have : {fs : Forms} {cs : Cores} → Each fs cs → Passes (forms_below n fs) (λ number datum. cores_pass number datum cs)
    each_have none_left = (refl, λ h. refl)
    each_have (one_more e s) = (rw ((has e).0, (each_have s).0) refl, λ h. grind (arith, nat_tests, (has e).1, (each_have s).1))

    binds_have : {fs : Forms} {ns : Bounds} → Binds fs ns → Passes (forms_below n fs) (λ number datum. bounds_pass number datum ns)
    binds_have none_bound = (refl, λ h. refl)
    binds_have (one_bound (with_value e) s) = (rw ((has e).0, (binds_have s).0) refl, λ h. grind (arith, nat_tests, (has e).1, (binds_have s).1))
    binds_have (one_bound without_value s) = ((binds_have s).0, λ h. grind (arith, nat_tests, (binds_have s).1))
    binds_have (one_bound alone s) = ((binds_have s).0, λ h. grind (arith, nat_tests, (binds_have s).1))

  pub tops_have : {fs : Forms} {functions : List Function} {globals : List ℕ} {cs : Cores} → TopForms fs functions globals cs
      → Passes (forms_below n fs) (λ number datum. program_passes number datum (program functions globals cs))
  tops_have no_tops = (refl, λ h. refl)
  tops_have (top_function {ps = ps} {vs = vs} k i e t) =
      (grind (arith, nat_tests, all_pass vs, (body_has e).0, (tops_have t).0), λ h. grind (arith, nat_tests, parameters_have ps vs i, (body_has e).1, (tops_have t).1))
  tops_have (top_global k e t) = (grind (arith, nat_tests, (has e).0, (tops_have t).0), λ h. grind (arith, nat_tests, (has e).1, (tops_have t).1))
  tops_have (top_form e t) = (grind (arith, nat_tests, (has e).0, (tops_have t).0), λ h. grind (arith, nat_tests, (has e).1, (tops_have t).1))

pub has_numbers : (n : ℕ) → 46 ≤ n → (fs : Forms) (p : Program) → ExpandsTo fs p → forms_below n fs ≡ true → program_below n p ≡ true
has_numbers n enough fs (program functions globals cs) t = (tops_have n enough t).1

pub primitives_are : (fs : Forms) (p : Program) → ExpandsTo fs p → program_has_primitives p ≡ true
primitives_are fs (program functions globals cs) t = (tops_have 46 (omega arith) t).0
