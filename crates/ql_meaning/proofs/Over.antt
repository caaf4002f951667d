-- Catches over catches.
use Rattle.std.proofs.Common.{◌≡◌, ◌≢◌, ◌⊎◌, ℕ, zero, suc, ◌<◌, ◌≤◌, ◌==◌, true, false, List, [], ◌∷◌, length, Some, refl, sym, ap, ◌∙◌, subst, ⊎_elim, inl, inr, arith, eq-eqb, ne_eqb}
use Rattle.std.specs.Prelude.{if◌then◌else◌}
use Rattle.ql_world.specs.World.{catch_at, closed}
use Rattle.ql_world.specs.declared.world.Catch.{Catch}
use Rattle.ql_world.specs.Within.{is_over}
use Rattle.ql_meaning.proofs.Lists.{cases, same_or, one}

-- an enclosing catch has a lower number
abbrev pub Falling : List Catch → Type 0
Falling ks = (c : ℕ) (k : Catch) → catch_at ks c ≡ Some k → 0 < c → k.enclosing < c

pub catch_older : (k : Catch) (ks : List Catch) (c : ℕ) → c < length ks → catch_at (k ∷ ks) c ≡ catch_at ks c
catch_older k ks c h = let n : (c == length ks) ≡ false = ne_eqb _ _ (λ e. omega arith) in rw n refl

pub catch_newest : (k : Catch) (ks : List Catch) → catch_at (k ∷ ks) (length ks) ≡ Some k
catch_newest k ks = let n : (length ks == length ks) ≡ true = eq-eqb _ _ refl in rw n refl

pub catch_low : (ks : List Catch) (c : ℕ) (k : Catch) → catch_at ks c ≡ Some k → c < length ks
catch_low [] c k e = absurd cc
catch_low (j ∷ ks) c k e =
    ⊎_elim
    (λ (t : c ≡ length ks). omega arith)
    (λ (t : ((c == length ks) ≡ false) × (c ≢ length ks)). let r = catch_low ks c k (rw t.0 at e) in omega (arith, r))
    (same_or c (length ks))

pub falling_older : (k : Catch) (ks : List Catch) → Falling (k ∷ ks) → Falling ks
falling_older k ks f c j e p = f c j (catch_older k ks c (catch_low ks c j e) ∙ e) p

pub over_older : (k : Catch) (ks : List Catch) (c d : ℕ) → d < length ks → is_over (k ∷ ks) c d ≡ is_over ks c d
over_older k ks c d h = let n : (d == length ks) ≡ false = ne_eqb _ _ (λ e. omega arith) in rw n refl

pub over_low : (ks : List Catch) (c d : ℕ) → is_over ks c d ≡ true → d < length ks
over_low [] c d o = absurd cc
over_low (k ∷ ks) c d o =
    ⊎_elim
    (λ (t : d ≡ length ks). omega arith)
    (λ (t : ((d == length ks) ≡ false) × (d ≢ length ks)). let r = over_low ks c d (rw t.0 at o) in omega (arith, r))
    (same_or d (length ks))

-- what is over a catch is that, or is over its enclosing one
pub over_up : (ks : List Catch) (c d : ℕ) → Falling ks → is_over ks c d ≡ true → (c ≡ d) ⊎ ((0 < d) × (k : Catch) × (catch_at ks d ≡ Some k) × (is_over ks c k.enclosing ≡ true))
over_up [] c d f o = absurd cc
over_up (k ∷ ks) c d f o =
    ⊎_elim
    (λ (t : d ≡ length ks).
    let is : (d == length ks) ≡ true = eq-eqb _ _ t in
    ⊎_elim
    (λ (u : c ≡ d). inl u)
    (λ (u : ((c == d) ≡ false) × (c ≢ d)).
    let r : is_over ks c k.enclosing ≡ true = rw u.0 at (rw is at o) in
    let low = over_low ks c k.enclosing r in
    inr (omega (arith, low), k, rw is refl, over_older k ks c k.enclosing low ∙ r))
    (same_or c d))
    (λ (t : ((d == length ks) ≡ false) × (d ≢ length ks)).
    let o' : is_over ks c d ≡ true = rw t.0 at o in
    let low = over_low ks c d o' in
    ⊎_elim
    (λ (u : c ≡ d). inl u)
    (λ (u : (0 < d) × (j : Catch) × (catch_at ks d ≡ Some j) × (is_over ks c j.enclosing ≡ true)).
    inr (u.0, u.1, catch_older k ks d low ∙ u.2, over_older k ks c u.1.enclosing (over_low ks c u.1.enclosing u.3) ∙ u.3))
    (over_up ks c d (falling_older k ks f) o'))
    (same_or d (length ks))

pub over_self : (ks : List Catch) (c : ℕ) → c < length ks → is_over ks c c ≡ true
over_self [] c h = absurd (omega arith)
over_self (k ∷ ks) c h =
    ⊎_elim
    (λ (t : c ≡ length ks). let is : (c == length ks) ≡ true = eq-eqb _ _ t in let self : (c == c) ≡ true = eq-eqb _ _ refl in rw (is, self) refl)
    (λ (t : ((c == length ks) ≡ false) × (c ≢ length ks)). let n = t.1 in rw t.0 (over_self ks c (omega arith)))
    (same_or c (length ks))

-- what is over the enclosing catch is over the catch
pub over_down : (ks : List Catch) (c d : ℕ) (k : Catch) → Falling ks → 0 < d → catch_at ks d ≡ Some k → is_over ks c k.enclosing ≡ true → is_over ks c d ≡ true
over_down [] c d k f p e o = absurd cc
over_down (j ∷ ks) c d k f p e o =
    let fall = f d k e p in
    ⊎_elim
    (λ (t : d ≡ length ks).
    let is : (d == length ks) ≡ true = eq-eqb _ _ t in
    let same : j ≡ k = one refl (rw is at e) in
    let low : k.enclosing < length ks = omega (arith, fall, t) in
    let o' : is_over ks c j.enclosing ≡ true = subst (λ (z : Catch). is_over ks c z.enclosing ≡ true) (sym same) (sym (over_older j ks c k.enclosing low) ∙ o) in
    ⊎_elim
    (λ (u : (c == d) ≡ true). rw (is, u) refl)
    (λ (u : (c == d) ≡ false). rw (is, u) o')
    (cases (c == d)))
    (λ (t : ((d == length ks) ≡ false) × (d ≢ length ks)).
    let e' : catch_at ks d ≡ Some k = rw t.0 at e in
    let low = catch_low ks d k e' in
    rw t.0 (over_down ks c d k (falling_older j ks f) p e' (sym (over_older j ks c k.enclosing (omega (arith, fall, low))) ∙ o)))
    (same_or d (length ks))

pub over_le : (ks : List Catch) (c d : ℕ) → Falling ks → is_over ks c d ≡ true → c ≤ d
over_le [] c d f o = absurd cc
over_le (k ∷ ks) c d f o =
    ⊎_elim
    (λ (t : d ≡ length ks).
    let is : (d == length ks) ≡ true = eq-eqb _ _ t in
    ⊎_elim
    (λ (u : c ≡ d). omega arith)
    (λ (u : ((c == d) ≡ false) × (c ≢ d)).
    let r : is_over ks c k.enclosing ≡ true = rw u.0 at (rw is at o) in
    let a = over_le ks c k.enclosing (falling_older k ks f) r in let b = over_low ks c k.enclosing r in omega (arith, a, b))
    (same_or c d))
    (λ (t : ((d == length ks) ≡ false) × (d ≢ length ks)). over_le ks c d (falling_older k ks f) (rw t.0 at o))
    (same_or d (length ks))

-- by how far it may go up
over_within : (n : ℕ) (ks : List Catch) (c d e : ℕ) → e < n → Falling ks → is_over ks c d ≡ true → is_over ks d e ≡ true → is_over ks c e ≡ true
over_within zero ks c d e h f a b = absurd (omega arith)
over_within (suc n) ks c d e h f a b =
    ⊎_elim
    (λ (t : d ≡ e). subst (λ z. is_over ks c z ≡ true) t a)
    (λ (t : (0 < e) × (k : Catch) × (catch_at ks e ≡ Some k) × (is_over ks d k.enclosing ≡ true)).
    let low = f e t.1 t.2 t.0 in
    over_down ks c e t.1 f t.0 t.2 (over_within n ks c d t.1.enclosing (omega (arith, low)) f a t.3))
    (over_up ks d e f b)

pub over_over : (ks : List Catch) (c d e : ℕ) → Falling ks → is_over ks c d ≡ true → is_over ks d e ≡ true → is_over ks c e ≡ true
over_over ks c d e f a b = over_within (suc e) ks c d e (omega arith) f a b

pub closed_length : (ks : List Catch) (c : ℕ) → length (closed ks c) ≡ length ks
closed_length [] c = refl
closed_length (k ∷ ks) c =
    ⊎_elim
    (λ (t : (c == length ks) ≡ true). rw t refl)
    (λ (t : (c == length ks) ≡ false). rw t (ap suc (closed_length ks c)))
    (cases (c == length ks))

pub closed_over : (ks : List Catch) (c d e : ℕ) → is_over (closed ks c) d e ≡ is_over ks d e
closed_over [] c d e = refl
closed_over (k ∷ ks) c d e =
    ⊎_elim
    (λ (t : (c == length ks) ≡ true). rw t refl)
    (λ (t : (c == length ks) ≡ false). rw (t, closed_length ks c, closed_over ks c d k.enclosing, closed_over ks c d e) refl)
    (cases (c == length ks))

pub closed_cases : (ks : List Catch) (c d : ℕ) (j : Catch) → catch_at (closed ks c) d ≡ Some j → (k : Catch) × (catch_at ks d ≡ Some k) × (((d ≡ c) × (j ≡ record k { open_still = false })) ⊎ ((d ≢ c) × (j ≡ k)))
closed_cases [] c d j e = absurd cc
closed_cases (k ∷ ks) c d j e =
    ⊎_elim
    (λ (t : c ≡ length ks).
    let is : (c == length ks) ≡ true = eq-eqb _ _ t in
    let e' : (if d == length ks then Some (record k { open_still = false }) else catch_at ks d) ≡ Some j = rw is at e in
    ⊎_elim
    (λ (u : d ≡ length ks). let v : (d == length ks) ≡ true = eq-eqb _ _ u in (k, rw v refl, inl (u ∙ sym t, sym (one refl (rw v at e')))))
    (λ (u : ((d == length ks) ≡ false) × (d ≢ length ks)). (j, rw u.0 (rw u.0 at e'), inr ((λ z. u.1 (z ∙ t)), refl)))
    (same_or d (length ks)))
    (λ (t : ((c == length ks) ≡ false) × (c ≢ length ks)).
    let e' : (if d == length (closed ks c) then Some k else catch_at (closed ks c) d) ≡ Some j = rw t.0 at e in
    let e'' : (if d == length ks then Some k else catch_at (closed ks c) d) ≡ Some j = rw (closed_length ks c) at e' in
    ⊎_elim
    (λ (u : d ≡ length ks). let v : (d == length ks) ≡ true = eq-eqb _ _ u in (k, rw v refl, inr ((λ z. t.1 (sym z ∙ u)), sym (one refl (rw v at e'')))))
    (λ (u : ((d == length ks) ≡ false) × (d ≢ length ks)).
    let r = closed_cases ks c d j (rw u.0 at e'') in
    (r.0, rw u.0 r.1, r.2))
    (same_or d (length ks)))
    (same_or c (length ks))

pub closed_else : (ks : List Catch) (c d : ℕ) (k : Catch) → d ≢ c → catch_at ks d ≡ Some k → catch_at (closed ks c) d ≡ Some k
closed_else [] c d k n e = absurd cc
closed_else (j ∷ ks) c d k n e =
    ⊎_elim
    (λ (t : c ≡ length ks).
    let is : (c == length ks) ≡ true = eq-eqb _ _ t in
    let apart : (d == length ks) ≡ false = ne_eqb _ _ (λ z. n (z ∙ sym t)) in
    rw (is, apart) (rw apart at e))
    (λ (t : ((c == length ks) ≡ false) × (c ≢ length ks)).
    ⊎_elim
    (λ (u : (d == length ks) ≡ true). rw (t.0, closed_length ks c, u) (rw u at e))
    (λ (u : (d == length ks) ≡ false). rw (t.0, closed_length ks c, u) (closed_else ks c d k n (rw u at e)))
    (cases (d == length ks)))
    (same_or c (length ks))

-- an older catch has a record
pub catch_there : (ks : List Catch) (c : ℕ) → c < length ks → (k : Catch) × (catch_at ks c ≡ Some k)
catch_there [] c h = absurd (omega arith)
catch_there (k ∷ ks) c h =
    ⊎_elim
    (λ (t : c ≡ length ks). let is : (c == length ks) ≡ true = eq-eqb _ _ t in (k, rw is refl))
    (λ (t : ((c == length ks) ≡ false) × (c ≢ length ks)). let n = t.1 in let r = catch_there ks c (omega arith) in (r.0, rw t.0 r.1))
    (same_or c (length ks))
