-- The innermost mark of a kind, where each mark knows of it.
use Rattle.std.proofs.Common.{◌≡◌, refl, sym, ap, ◌∙◌, ⊎_elim, ℕ, suc, ◌+◌, ◌-◌, ◌<◌, Bool, true, false, List, [], ◌∷◌, ◌++◌, length, take, reverse, arith, length-append, append_assoc, Option, Some, None, slice_get}
use Rattle.std.specs.Prelude.{option_map}
use Rattle.std.proofs.lemmas.List.{reverse-append, reverse-reverse, length-reverse}
use Rattle.ql_world.specs.declared.world.Cleanup.{Cleanup}
use Rattle.ql_code.specs.declared.mark.Mark.{Mark}
use Rattle.ql_code.specs.declared.mark.Mark.TheVariants.{Returning, Catching, Protecting, Cleaning, Base}
use Rattle.ql_proc.specs.declared.stack.Marker.{Marker}
use Rattle.ql_proc.specs.Stacked.{cleanups_in, cleanup_then, catch_in, catch_or, is_cleaning, is_catching, up_to, AreLinked}
use Rattle.ql_proc.proofs.Words.{cases}

seam : {A : Type 0} (ys zs : List A) (x : A) → slice_get (ys ++ x ∷ zs) (length ys) ≡ Some x
seam [] zs x = refl
seam (y ∷ ys) zs x = seam ys zs x

front : {A : Type 0} (ys zs : List A) → take (length ys) (ys ++ zs) ≡ ys
front [] zs = refl
front {A = A} (y ∷ ys) zs = ap (λ (x : List A). y ∷ x) (front ys zs)

-- the topmost of these marks that is of a kind, and what is told of the marks up to it
pub record Topmost {A : Type 0} (f : Mark → Bool) (tell : List Marker → A) (step : Mark → A → A) (ms : List Marker) (n : ℕ) : Type 0 where
  pub over : List Marker
  pub item : Marker
  pub under : List Marker
  pub parts : ms ≡ over ++ item ∷ under
  pub count : length under ≡ n
  pub kind : f item.mark ≡ true
  pub told : tell ms ≡ step item.mark (tell under)
  pub linked : AreLinked ms → AreLinked under

module _ {A : Type 0} (f : Mark → Bool) (tell : List Marker → A) (step : Mark → A → A)
    (tells : (m : Marker) (ms : List Marker) → tell (m ∷ ms) ≡ step m.mark (tell ms)) (skips : (k : Mark) (a : A) → f k ≡ false → step k a ≡ a) where
  pub topmost : (ms : List Marker) (n : ℕ) → up_to f ms ≡ suc n → Topmost f tell step ms n
  topmost [] n h = absurd (omega arith)
  topmost (m ∷ ms) n h =
      ⊎_elim
      (λ (b : f m.mark ≡ true). let k : suc (length ms) ≡ suc n = rw b at h in
      record { over = []; item = m; under = ms; parts = refl; count = omega (arith, k); kind = b; told = tells m ms; linked = λ l. l.1.1 })
      (λ (b : f m.mark ≡ false). let t = topmost ms n (rw b at h) in
      record { over = m ∷ t.over; item = t.item; under = t.under; parts = ap (λ (x : List Marker). m ∷ x) t.parts; count = t.count; kind = t.kind; told = tells m ms ∙ (skips m.mark (tell ms) b ∙ t.told); linked = λ l. t.linked l.1.1 })
      (cases (f m.mark))

  pub without : (ms : List Marker) → up_to f ms ≡ 0 → tell ms ≡ tell []
  without [] h = refl
  without (m ∷ ms) h =
      ⊎_elim
      (λ (b : f m.mark ≡ true). absurd (let k : suc (length ms) ≡ 0 = rw b at h in omega (arith, k)))
      (λ (b : f m.mark ≡ false). tells m ms ∙ (skips m.mark (tell ms) b ∙ without ms (rw b at h)))
      (cases (f m.mark))

  -- among marks of which the topmost is the last
  module _ (xs : List Marker) (n : ℕ) (t : Topmost f tell step (reverse xs) n) where
    whole : xs ≡ reverse t.under ++ t.item ∷ reverse t.over
    whole =
        sym (reverse-reverse xs)
        ∙ (ap reverse t.parts
        ∙ (reverse-append t.over (t.item ∷ t.under)
        ∙ (ap (λ (ys : List Marker). ys ++ reverse t.over) (reverse-append (t.item ∷ []) t.under) ∙ append_assoc (reverse t.under) (t.item ∷ []) (reverse t.over))))

    long : length (reverse t.under) ≡ n
    long = length-reverse t.under ∙ t.count

    pub inside : n < length xs
    inside =
        let l : length xs ≡ length (reverse t.under) + length (t.item ∷ reverse t.over) = ap length whole ∙ length-append (reverse t.under) (t.item ∷ reverse t.over) in
        omega (arith, l, long)

    there : slice_get xs n ≡ Some t.item
    there = rw (whole, ← long) (seam (reverse t.under) (reverse t.over) t.item)

    pub mark-is : (k : Mark) → option_map (λ m. m.mark) (slice_get xs n) ≡ Some k → k ≡ t.item.mark
    mark-is k e = let f : Some t.item.mark ≡ Some k = rw there at e in cc

    pub below : reverse (take n xs) ≡ t.under
    below = ap (λ (x : List Marker). reverse (take n x)) whole ∙ (rw (← long) (ap reverse (front (reverse t.under) (t.item ∷ reverse t.over))) ∙ reverse-reverse t.under)

skips-cleanup : (k : Mark) (cs : List Cleanup) → is_cleaning k ≡ false → cleanup_then k cs ≡ cs
skips-cleanup (Returning pc) cs h = refl
skips-cleanup (Catching c pc) cs h = refl
skips-cleanup (Protecting u pc) cs h = refl
skips-cleanup (Cleaning u c) cs h = absurd cc
skips-cleanup (Base j) cs h = refl

skips-catch : (k : Mark) (o : Option ℕ) → is_catching k ≡ false → catch_or k o ≡ o
skips-catch (Returning pc) o h = refl
skips-catch (Catching c pc) o h = absurd cc
skips-catch (Protecting u pc) o h = refl
skips-catch (Cleaning u c) o h = refl
skips-catch (Base j) o h = refl

pub first-cleanup : (k : Mark) (cs : List Cleanup) → is_cleaning k ≡ true → slice_get (cleanup_then k []) 0 ≡ slice_get (cleanup_then k cs) 0
first-cleanup (Returning pc) cs h = absurd cc
first-cleanup (Catching c pc) cs h = absurd cc
first-cleanup (Protecting u pc) cs h = absurd cc
first-cleanup (Cleaning u c) cs h = refl
first-cleanup (Base j) cs h = absurd cc

pub second-cleanup : (k : Mark) (cs : List Cleanup) → is_cleaning k ≡ true → slice_get cs 0 ≡ slice_get (cleanup_then k cs) 1
second-cleanup (Returning pc) cs h = absurd cc
second-cleanup (Catching c pc) cs h = absurd cc
second-cleanup (Protecting u pc) cs h = absurd cc
second-cleanup (Cleaning u c) cs h = refl
second-cleanup (Base j) cs h = absurd cc

pub only-catch : (k : Mark) (o : Option ℕ) → is_catching k ≡ true → catch_or k None ≡ catch_or k o
only-catch (Returning pc) o h = absurd cc
only-catch (Catching c pc) o h = refl
only-catch (Protecting u pc) o h = absurd cc
only-catch (Cleaning u c) o h = absurd cc
only-catch (Base j) o h = absurd cc

-- as the looks need it, for the number that the topmost mark keeps

module _ (xs : List Marker) (at : ℕ) (e : at ≡ up_to is_cleaning (reverse xs)) where
  pub no-cleanup : at ≡ 0 → cleanups_in (reverse xs) ≡ []
  no-cleanup z = without is_cleaning cleanups_in cleanup_then (λ m ms. refl) skips-cleanup (reverse xs) (sym e ∙ z)

  module _ (z : at ≡ 0 → ⊥) where
    abbrev at-cleanup : Topmost is_cleaning cleanups_in cleanup_then (reverse xs) (at - 1)
    at-cleanup = topmost is_cleaning cleanups_in cleanup_then (λ m ms. refl) skips-cleanup (reverse xs) (at - 1) (omega (arith, e, z))

    pub cleanup-inside : at - 1 < length xs
    cleanup-inside = inside is_cleaning cleanups_in cleanup_then (λ m ms. refl) skips-cleanup xs (at - 1) at-cleanup

    below-cleanup : reverse (take (at - 1) xs) ≡ at-cleanup.under
    below-cleanup = below is_cleaning cleanups_in cleanup_then (λ m ms. refl) skips-cleanup xs (at - 1) at-cleanup

    pub cleanup-first : (k : Mark) → option_map (λ m. m.mark) (slice_get xs (at - 1)) ≡ Some k → slice_get (cleanup_then k []) 0 ≡ slice_get (cleanups_in (reverse xs)) 0
    cleanup-first k g =
        let i : k ≡ at-cleanup.item.mark = mark-is is_cleaning cleanups_in cleanup_then (λ m ms. refl) skips-cleanup xs (at - 1) at-cleanup k g in
        rw (i, at-cleanup.told) (first-cleanup at-cleanup.item.mark (cleanups_in at-cleanup.under) at-cleanup.kind)

    pub cleanup-second : slice_get (cleanups_in (reverse (take (at - 1) xs))) 0 ≡ slice_get (cleanups_in (reverse xs)) 1
    cleanup-second = rw (below-cleanup, at-cleanup.told) (second-cleanup at-cleanup.item.mark (cleanups_in at-cleanup.under) at-cleanup.kind)

    pub links-below : AreLinked (reverse xs) → AreLinked (reverse (take (at - 1) xs))
    links-below l = rw below-cleanup (at-cleanup.linked l)

module _ (xs : List Marker) (at : ℕ) (e : at ≡ up_to is_catching (reverse xs)) where
  pub no-catch : at ≡ 0 → catch_in (reverse xs) ≡ None
  no-catch z = without is_catching catch_in catch_or (λ m ms. refl) skips-catch (reverse xs) (sym e ∙ z)

  module _ (z : at ≡ 0 → ⊥) where
    abbrev at-catch : Topmost is_catching catch_in catch_or (reverse xs) (at - 1)
    at-catch = topmost is_catching catch_in catch_or (λ m ms. refl) skips-catch (reverse xs) (at - 1) (omega (arith, e, z))

    pub catch-inside : at - 1 < length xs
    catch-inside = inside is_catching catch_in catch_or (λ m ms. refl) skips-catch xs (at - 1) at-catch

    pub catch-first : (k : Mark) → option_map (λ m. m.mark) (slice_get xs (at - 1)) ≡ Some k → catch_or k None ≡ catch_in (reverse xs)
    catch-first k g =
        let i : k ≡ at-catch.item.mark = mark-is is_catching catch_in catch_or (λ m ms. refl) skips-catch xs (at - 1) at-catch k g in
        rw (i, at-catch.told) (only-catch at-catch.item.mark (catch_in at-catch.under) at-catch.kind)
