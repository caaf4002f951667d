-- The binders above a place, and what each of them hides.
use Rattle.std.proofs.Common.{◌≡◌, ⊎_elim, ◌∙◌, ℕ, ◌+◌, ◌≤◌, ◌<◌, Bool, true, false, ◌==◌, ◌||◌, if◌then◌else◌, List, [], ◌∷◌, ◌++◌, length, take, Option, Some, None, is_some, refl, ap, sym, arith, zero, suc, get_or, eq-eqb, eqb-true}
use Rattle.std.specs.Prelude.{option_map}
use Rattle.std.proofs.lemmas.Bool.{le-leb, lt-leb}
use Rattle.std.proofs.lemmas.List.{length-map}
use Rattle.std.proofs.Math.Seq.{take-append_seam}
use Rattle.ql_expand.specs.Core as spec
use Rattle.ql_expand.specs.Core.{binder, named, hidden}
use Rattle.ql_expand.specs.View.{name_of, binder_of}
use Rattle.ql_expand.specs.declared.core_form.VarName.TheVariants.{Sym, Hidden}
use Rattle.ql_expand.specs.declared.core_form.Binder.{Binder}
use Rattle.ql_scope.specs.Scope.{is_among, names_at, offset_of}
use Rattle.ql_scope.specs.Stored.{binder_named, has_name, inside}
use Rattle.ql_scope.specs.CheckTables.{Hides, KeepHidden, HasInnermost, binders_of_row, innermost_named, offset_named}
use Rattle.ql_scope.specs.declared.binder_stack.Above.{Above}
use Rattle.ql_scope.specs.declared.binder_stack.Innermost.{Innermost}
use Rattle.ql_scope.proofs.Cases.{cases, or_false, or_true}
use lib.Dec.{leb}

pub inside_append : (bs cs above : List spec.Binder) → inside (bs ++ cs) above ≡ inside cs (inside bs above)
inside_append [] cs above = refl
inside_append (b ∷ bs) cs above = inside_append bs cs (b ∷ above)

pub inside_length : (bs above : List spec.Binder) → length (inside bs above) ≡ length bs + length above
inside_length [] above = omega arith
inside_length (b ∷ bs) above = inside_length bs (b ∷ above) ∙ omega arith

-- The innermost of a name is where the search finds it.
pub offset_is : (above : List spec.Binder) (w : ℕ) → option_map (λ i. i.at) (innermost_named above w) ≡ offset_named above w
offset_is [] w = refl
offset_is (b ∷ above) w = by (has_name w b) (offset_is above w)
  where
    by : (t : Bool) → option_map (λ i. i.at) (innermost_named above w) ≡ option_map offset_of (binder_named above w)
        → option_map (λ i. i.at) (if t then Some (record { place = length above; at = offset_of b }) else innermost_named above w) ≡ option_map offset_of (if t then Some b else binder_named above w)
    by true e = refl
    by false e = e

-- whether a binder is inside so many others
abbrev pub is_inside : ℕ → Option Innermost → Bool
is_inside outer None = false
is_inside outer (Some i) = leb outer i.place

inside_none : (above : List spec.Binder) (w outer : ℕ) → length above ≤ outer → is_inside outer (innermost_named above w) ≡ false
inside_none [] w outer h = refl
inside_none (b ∷ above) w outer h = by (has_name w b) (inside_none above w outer (omega arith))
  where
    by : (t : Bool) → is_inside outer (innermost_named above w) ≡ false → is_inside outer (if t then Some (record { place = length above; at = offset_of b }) else innermost_named above w) ≡ false
    by true e = lt-leb outer (length above) (omega arith)
    by false e = e

inside_more : (bs above : List spec.Binder) (w outer : ℕ) → outer ≤ length above
    → is_inside outer (innermost_named (inside bs above) w) ≡ (is_inside outer (innermost_named above w) || is_among w (names_at bs))
inside_more [] above w outer h = sym (or_false (is_inside outer (innermost_named above w)))
inside_more (binder at (hidden n) ∷ bs) above w outer h = inside_more bs (binder at (hidden n) ∷ above) w outer (omega arith)
inside_more (binder at (named v) ∷ bs) above w outer h = inside_more bs (binder at (named v) ∷ above) w outer (omega arith) ∙ by (v == w)
  where
    by : (t : Bool) → (is_inside outer (if t then Some (record { place = length above; at = at }) else innermost_named above w) || is_among w (names_at bs))
        ≡ (is_inside outer (innermost_named above w) || (t || is_among w (names_at bs)))
    by true = rw (le-leb outer (length above) h) (sym (or_true (is_inside outer (innermost_named above w))))
    by false = refl

-- The innermost of a name is inside so many others where its name is among those after them.
pub named_inside : (row before after : List spec.Binder) (w outer : ℕ) (found : Option Innermost) → found ≡ innermost_named (inside row []) w → row ≡ before ++ after → outer ≡ length before
    → is_inside outer found ≡ is_among w (names_at after)
named_inside row before after w outer found e split counted =
    let long : length (inside before []) ≡ length before = inside_length before [] ∙ omega arith in
    ap (is_inside outer) (e ∙ (ap (λ bs. innermost_named (inside bs []) w) split ∙ ap (λ bs. innermost_named bs w) (inside_append before after [])))
    ∙ (inside_more after (inside before []) w outer (omega arith) ∙ ap (λ t. t || is_among w (names_at after)) (inside_none (inside before []) w outer (omega arith)))

-- One more binder stands before the others.
above_last : (row : List Above) (a : Above) (above : List spec.Binder) → inside (binders_of_row (row ++ a ∷ [])) above ≡ binder_of a.binder ∷ inside (binders_of_row row) above
above_last [] a above = refl
above_last (x ∷ row) a above = above_last row a (binder_of x.binder ∷ above)

kept_last : (row : List Above) (a : Above) (above : List spec.Binder)
    → KeepHidden above row → Hides (inside (binders_of_row row) above) a.binder.name a.hides → KeepHidden above (row ++ a ∷ [])
kept_last [] a above h k = (k, h)
kept_last (x ∷ row) a above h k = (h.0, kept_last row a (binder_of x.binder ∷ above) h.1 k)

last_kept : (row : List Above) (a : Above) (above : List spec.Binder)
    → KeepHidden above (row ++ a ∷ []) → KeepHidden above row × Hides (inside (binders_of_row row) above) a.binder.name a.hides
last_kept [] a above h = (h.1, h.0)
last_kept (x ∷ row) a above h = let r = last_kept row a (binder_of x.binder ∷ above) h.1 in ((h.0, r.0), r.1)

-- the innermost of a name, with one more binder inside
one_more : (b : Binder) (above : List spec.Binder) (n m : ℕ) → b.name ≡ Sym n
    → innermost_named (binder_of b ∷ above) m ≡ (if n == m then Some (record { place = length above; at = b.at.0 }) else innermost_named above m)
one_more b above n m e = ap (λ v. if has_name m (binder b.at.0 (name_of v)) then Some (record { place = length above; at = b.at.0 }) else innermost_named above m) e

-- a hidden variable is the innermost of no name
none_more : (b : Binder) (above : List spec.Binder) (n m : ℕ) → b.name ≡ Hidden n → innermost_named (binder_of b ∷ above) m ≡ innermost_named above m
none_more b above n m e = ap (λ v. if has_name m (binder b.at.0 (name_of v)) then Some (record { place = length above; at = b.at.0 }) else innermost_named above m) e

place_last : (row : List Above) → length row ≡ length (inside (binders_of_row row) [])
place_last row = sym (inside_length (binders_of_row row) [] ∙ omega (arith, length-map row (λ a. binder_of a.binder)))

-- A binder with a name is added.
pub pushed_named : (row : List Above) (a : Above) (old new : List (Option Innermost)) (n place : ℕ)
    → place ≡ length row → HasInnermost row old → a.binder.name ≡ Sym n → a.hides ≡ get_or old n None
    → ((m : ℕ) → get_or new m None ≡ (if n == m then Some (record { place = place; at = a.binder.at.0 }) else get_or old m None))
    → HasInnermost (row ++ a ∷ []) new
pushed_named row a old new n place last h e hides put =
    record {
      innermost = λ m. rw (above_last row a []) (put m
          ∙ (ap (λ r. if n == m then Some (record { place = place; at = a.binder.at.0 }) else r) (h.innermost m)
          ∙ (ap (λ p. if n == m then Some (record { place = p; at = a.binder.at.0 }) else innermost_named (inside (binders_of_row row) []) m) (last ∙ place_last row)
          ∙ sym (one_more a.binder (inside (binders_of_row row) []) n m e))));
      kept = kept_last row a [] h.kept (rw e (hides ∙ h.innermost n));
    }

-- A hidden one is added.
pub pushed_hidden : (row : List Above) (a : Above) (table : List (Option Innermost)) (n : ℕ) → HasInnermost row table → a.binder.name ≡ Hidden n → HasInnermost (row ++ a ∷ []) table
pushed_hidden row a table n h e =
    record {
      innermost = λ m. rw (above_last row a []) (h.innermost m ∙ sym (none_more a.binder (inside (binders_of_row row) []) n m e));
      kept = kept_last row a [] h.kept (rw e (record {}));
    }

within : (table : List (Option Innermost)) (n : ℕ) → is_some (get_or table n None) ≡ true → n < length table
within [] n h = absurd cc
within (x ∷ table) zero h = omega arith
within (x ∷ table) (suc n) h = let rest = within table n h in omega arith

-- The last binder is taken away, which has a name.
pub popped_named : (row : List Above) (a : Above) (old new : List (Option Innermost)) (n : ℕ)
    → HasInnermost (row ++ a ∷ []) old → a.binder.name ≡ Sym n
    → (n < length old → (m : ℕ) → get_or new m None ≡ (if n == m then a.hides else get_or old m None))
    → HasInnermost row new
popped_named row a old new n h e replaced =
    let outer = inside (binders_of_row row) [] in
    let both = last_kept row a [] h.kept in
    let hides = rw e at both.1 in
    let found = λ (m : ℕ). h.innermost m ∙ (ap (λ bs. innermost_named bs m) (above_last row a []) ∙ one_more a.binder outer n m e) in
    let known : is_some (get_or old n None) ≡ true = ap is_some (found n) ∙ rw (eq-eqb n n refl) refl in
    let reached : n < length old = within old n known in
    record {
      innermost = λ m. replaced reached m ∙ ⊎_elim
          (λ (t : (n == m) ≡ true). rw t (hides ∙ ap (innermost_named outer) (eqb-true n m t)))
          (λ (t : (n == m) ≡ false). rw t (found m ∙ (rw t refl)))
          (cases (n == m));
      kept = both.0;
    }

-- It is hidden.
pub popped_hidden : (row : List Above) (a : Above) (table : List (Option Innermost)) (n : ℕ) → HasInnermost (row ++ a ∷ []) table → a.binder.name ≡ Hidden n → HasInnermost row table
popped_hidden row a table n h e =
    record {
      innermost = λ m. h.innermost m ∙ (ap (λ bs. innermost_named bs m) (above_last row a []) ∙ none_more a.binder (inside (binders_of_row row) []) n m e);
      kept = (last_kept row a [] h.kept).0;
    }

pub names_append : (bs cs : List spec.Binder) → names_at (bs ++ cs) ≡ names_at bs ++ names_at cs
names_append [] cs = refl
names_append (binder at (named v) ∷ bs) cs = ap (λ ws. v ∷ ws) (names_append bs cs)
names_append (binder at (hidden n) ∷ bs) cs = names_append bs cs

-- The binders are those before once all that were added are left.
pub back : (row bs : List spec.Binder) → take (length row) (row ++ bs) ≡ row
back row bs = take-append_seam row bs
