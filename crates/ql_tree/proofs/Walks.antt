-- A walk over catches that stand oldest first is one over catches that stand newest first.
use Rattle.std.proofs.Common.{◌≡◌, refl, sym, ap, ◌∙◌, ℕ, zero, suc, ◌==◌, ◌<◌, ◌≤◌, ◌≢◌, ◌&&◌, if◌then◌else◌, Bool, true, false, cond, List, [], ◌∷◌, ◌++◌, length, take, drop, reverse, arith, Some, None, slice_get, length-append, append_assoc, get_or, set, ⊎_elim}
use Rattle.std.proofs.lemmas.Bool.{eq-eqb}
use Rattle.std.proofs.lemmas.Bool.Decides.{nat_tests}
use Rattle.std.proofs.lemmas.List.{length-reverse, length-take-le, reverse-append, set_split, take_all}
use Rattle.std.proofs.lemmas.Option.{slice_get-get_or, slice_get_cases, slice_get_read}
use Rattle.ql_world.specs.declared.word.Word.{Word}
use Rattle.ql_world.specs.declared.world.Catch.{Catch}
use Rattle.ql_world.specs.World.{catch_at, closed}
use Rattle.ql_world.specs.Within.{has_tag, is_over, tagged}

module _ {A : Type 0} where
  -- the list around one of its places
  pub around : (xs : List A) (i : ℕ) (x : A) → slice_get xs i ≡ Some x → xs ≡ take i xs ++ x ∷ drop (suc i) xs
  around [] i x e = absurd cc
  around (y ∷ xs) zero x e = let f : y ≡ x = cc in ap (λ z. z ∷ xs) f
  around (y ∷ xs) (suc i) x e = ap (λ zs. y ∷ zs) (around xs i x e)

  slice_get-take : (xs : List A) (n i : ℕ) → i < n → slice_get (take n xs) i ≡ slice_get xs i
  slice_get-take xs zero i h = absurd (omega arith)
  slice_get-take [] (suc n) i h = refl
  slice_get-take (x ∷ xs) (suc n) zero h = refl
  slice_get-take (x ∷ xs) (suc n) (suc i) h = slice_get-take xs n i (omega arith)

  take-less : (xs : List A) (n i : ℕ) → i < n → take i (take n xs) ≡ take i xs
  take-less xs n zero h = refl
  take-less xs zero (suc i) h = absurd (omega arith)
  take-less [] (suc n) (suc i) h = refl
  take-less (x ∷ xs) (suc n) (suc i) h = ap (λ ys. x ∷ ys) (take-less xs n i (omega arith))

  reverse-parts : (xs ys : List A) (x : A) → reverse (xs ++ x ∷ ys) ≡ reverse ys ++ (x ∷ reverse xs)
  reverse-parts xs ys x =
      let first : reverse (x ∷ ys) ≡ reverse ys ++ x ∷ [] = reverse-append (x ∷ []) ys in
      reverse-append xs (x ∷ ys) ∙ rw first (append_assoc (reverse ys) (x ∷ []) (reverse xs))

  -- the older ones of those up to a place, of which that one is the newest
  reverse-around : (xs : List A) (n i : ℕ) (x : A) → i < n → slice_get xs i ≡ Some x → reverse (take n xs) ≡ reverse (drop (suc i) (take n xs)) ++ (x ∷ reverse (take i xs))
  reverse-around xs n i x h e =
      let at : slice_get (take n xs) i ≡ Some x = slice_get-take xs n i h ∙ e in
      ap reverse (around (take n xs) i x at) ∙ (rw (take-less xs n i h) (reverse-parts (take i xs) (drop (suc i) (take n xs)) x))

-- What goes down the list until it comes to catch d, and gives the base where there is none.
module _ {X : Type 0} (h : List Catch → ℕ → X) (s : List Catch → Catch → ℕ → X) (base : X) (none : (d : ℕ) → h [] d ≡ base) (step : (k : Catch) (ks : List Catch) (d : ℕ) → h (k ∷ ks) d ≡ cond (d == length ks) (s ks k d) (h ks d)) where
  older : (newer ks : List Catch) (d : ℕ) → d < length ks → h (newer ++ ks) d ≡ h ks d
  older [] ks d l = refl
  older (k ∷ newer) ks d l =
      let m : (d == length (newer ++ ks)) ≡ false = let e = length-append newer ks in grind (arith, nat_tests) in
      step k (newer ++ ks) d ∙ rw m (older newer ks d l)

  beyond : (ks : List Catch) (d : ℕ) → length ks ≤ d → h ks d ≡ base
  beyond [] d l = none d
  beyond (k ∷ ks) d l =
      let m : (d == length ks) ≡ false = grind (arith, nat_tests) in
      step k ks d ∙ rw m (beyond ks d (omega arith))

  pub reach : (cs : List Catch) (n d : ℕ) (k : Catch) → d < n → n ≤ length cs → slice_get cs d ≡ Some k → h (reverse (take n cs)) d ≡ s (reverse (take d cs)) k d
  reach cs n d k l m e =
      let len : length (reverse (take d cs)) ≡ d = length-reverse (take d cs) ∙ length-take-le d cs (omega arith) in
      let same : (d == length (reverse (take d cs))) ≡ true = eq-eqb _ _ (sym len) in
      rw (reverse-around cs n d k l e) (older _ (k ∷ reverse (take d cs)) d (omega arith) ∙ (step k (reverse (take d cs)) d ∙ rw same refl))

  pub past : (cs : List Catch) (n d : ℕ) → n ≤ length cs → n ≤ d → h (reverse (take n cs)) d ≡ base
  past cs n d m l = beyond (reverse (take n cs)) d (omega (arith, length-reverse (take n cs), length-take-le n cs m))

pub catch_at_whole : (cs : List Catch) (c : ℕ) → slice_get cs c ≡ catch_at (reverse cs) c
catch_at_whole cs c =
    let all : take (length cs) cs ≡ cs = take_all (length cs) cs (omega arith) in
    ⊎_elim
    (λ (w : (k : Catch) × (c < length cs) × (slice_get cs c ≡ Some k) × (get_or cs c k ≡ k)).
    w.2 ∙ sym (ap (λ xs. catch_at (reverse xs) c) (sym all) ∙ reach catch_at (λ ks k d. Some k) None (λ d. refl) (λ k ks d. refl) cs (length cs) c w.0 w.1 (omega arith) w.2))
    (λ (w : (length cs ≤ c) × (slice_get cs c ≡ None)).
    w.1 ∙ sym (ap (λ xs. catch_at (reverse xs) c) (sym all) ∙ past catch_at (λ ks k d. Some k) None (λ d. refl) (λ k ks d. refl) cs (length cs) c (omega arith) w.0))
    (slice_get_cases cs c).1

closed-older : (newer ks : List Catch) (k : Catch) (c : ℕ) → c ≡ length ks → closed (newer ++ (k ∷ ks)) c ≡ newer ++ (record k { open_still = false } ∷ ks)
closed-older [] ks k c e = let same : (c == length ks) ≡ true = eq-eqb _ _ e in rw same refl
closed-older (j ∷ newer) ks k c e =
    let other : (c == length (newer ++ (k ∷ ks))) ≡ false = let l = length-append newer (k ∷ ks) in grind (arith, nat_tests) in
    rw other (ap (λ (xs : List Catch). j ∷ xs) (closed-older newer ks k c e))

closed-beyond : (ks : List Catch) (c : ℕ) → length ks ≤ c → closed ks c ≡ ks
closed-beyond [] c l = refl
closed-beyond (k ∷ ks) c l =
    let other : (c == length ks) ≡ false = grind (arith, nat_tests) in
    rw other (ap (λ (xs : List Catch). k ∷ xs) (closed-beyond ks c (omega arith)))

-- a catch is closed, wherever it stands
pub closed-at : (cs : List Catch) (c : ℕ) (k : Catch) → c < length cs → k ≡ get_or cs c k → reverse (set cs c (record k { open_still = false })) ≡ closed (reverse cs) c
closed-at cs c k l e =
    let at : slice_get cs c ≡ Some k = slice_get_read cs (length cs) c k refl l e in
    let len : c ≡ length (reverse (take c cs)) = sym (length-reverse (take c cs) ∙ length-take-le c cs (omega arith)) in
    let parts : reverse cs ≡ reverse (drop (suc c) cs) ++ (k ∷ reverse (take c cs)) = ap reverse (around cs c k at) ∙ reverse-parts (take c cs) (drop (suc c) cs) k in
    rw (parts, set_split cs c (record k { open_still = false }) l)
    (reverse-parts (take c cs) (drop (suc c) cs) (record k { open_still = false }) ∙ sym (closed-older (reverse (drop (suc c) cs)) (reverse (take c cs)) k c len))

pub closed-past : (cs : List Catch) (c : ℕ) → length cs ≤ c → reverse cs ≡ closed (reverse cs) c
closed-past cs c l = sym (closed-beyond (reverse cs) c (omega (arith, length-reverse cs)))

-- k is any catch
module _ (cs : List Catch) (n d : ℕ) (k : Catch) (m : n ≤ length cs) where
  is-at : d < n → slice_get cs d ≡ Some (get_or cs d k)
  is-at l = slice_get-get_or cs d k (omega arith)

  module _ (c : ℕ) where
    over-here : d < n → is_over (reverse (take n cs)) c d ≡ (if c == d then true else is_over (reverse (take d cs)) c (get_or cs d k).enclosing)
    over-here l = reach (λ ks d. is_over ks c d) (λ ks k d. if c == d then true else is_over ks c k.enclosing) false (λ d. refl) (λ k ks d. refl) cs n d (get_or cs d k) l m (is-at l)

    pub over-found : d < n → c ≡ d → is_over (reverse (take n cs)) c d ≡ true
    over-found l e = over-here l ∙ (let same : (c == d) ≡ true = eq-eqb c d e in rw same refl)

    pub over-next : d < n → c ≢ d → is_over (reverse (take n cs)) c d ≡ is_over (reverse (take d cs)) c (get_or cs d k).enclosing
    over-next l other = over-here l ∙ (let differ : (c == d) ≡ false = grind (arith, nat_tests) in rw differ refl)

    pub over-past : n ≤ d → is_over (reverse (take n cs)) c d ≡ false
    over-past l = past (λ ks d. is_over ks c d) (λ ks k d. if c == d then true else is_over ks c k.enclosing) false (λ d. refl) (λ k ks d. refl) cs n d m l

  module _ (f : ℕ → Bool) (w : Word) where
    abbrev fits : Catch → Bool
    fits k = k.open_still && has_tag w k.tag

    tag-here : d < n → tagged f (reverse (take n cs)) w d ≡ (if f d then (if fits (get_or cs d k) then Some d else tagged f (reverse (take d cs)) w (get_or cs d k).enclosing) else None)
    tag-here l = reach (λ ks d. tagged f ks w d) (λ ks k d. if f d then (if fits k then Some d else tagged f ks w k.enclosing) else None) None (λ d. refl) (λ k ks d. refl) cs n d (get_or cs d k) l m (is-at l)

    pub tag-found : d < n → f d ≡ true → fits (get_or cs d k) ≡ true → tagged f (reverse (take n cs)) w d ≡ Some d
    tag-found l above here = tag-here l ∙ rw (above, here) refl

    pub tag-next : d < n → f d ≡ true → fits (get_or cs d k) ≡ false → tagged f (reverse (take n cs)) w d ≡ tagged f (reverse (take d cs)) w (get_or cs d k).enclosing
    tag-next l above other = tag-here l ∙ rw (above, other) refl

    pub tag-below : d < n → f d ≡ false → tagged f (reverse (take n cs)) w d ≡ None
    tag-below l below = tag-here l ∙ rw below refl

    pub tag-past : n ≤ d → tagged f (reverse (take n cs)) w d ≡ None
    tag-past l = past (λ ks d. tagged f ks w d) (λ ks k d. if f d then (if fits k then Some d else tagged f ks w k.enclosing) else None) None (λ d. refl) (λ k ks d. refl) cs n d m l
