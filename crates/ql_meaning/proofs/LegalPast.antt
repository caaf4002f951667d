-- What the lines tell, in terms of the lines themselves.
use Rattle.std.proofs.Common.{◌≡◌, ℕ, zero, suc, ◌<◌, ◌≤◌, ◌==◌, true, false, List, [], ◌∷◌, ◌++◌, length, Option, Some, None, refl, sym, ap, ◌∙◌, subst, ⊎_elim, inl, inr, arith, eq-eqb, eqb-true, ne_eqb}
use Rattle.std.specs.Prelude.{if◌then◌else◌, ◌||◌}
use Rattle.ql_world.specs.declared.event.Mode.{Mode}
use Rattle.ql_world.specs.declared.event.Event.{Event}
use Rattle.ql_world.specs.declared.event.Event.TheVariants.{Spawn as spawn, Opened as opened, Kill as kill, Protect as protect, Begin as begin, Finish as finish, Send as send, Take as take, Reply as reply, EndOk as end_ok, EndKilled as end_killed}
use Rattle.ql_world.specs.World.{numbered, change_numbered}
use Rattle.ql_meaning.specs.Legal.{IsAmong, HasHome, Owns, IsOver, itself, over_enclosing, HasKill, HasEnd}
use Rattle.ql_meaning.specs.Sane.{protector, is_begun, is_finished, sends, takes, replies}
use Rattle.ql_meaning.proofs.Lists.{cases, apart, or_true, some_same, numbered_pushed, numbered_last, numbered_of_pushed, numbered_changed, numbered_unchanged, numbered_of_changed}
use Rattle.ql_meaning.proofs.LegalLines.{Person, newborn, with_death, with_end, persons_in, opens_in, over_in, owner_in, Fine}
use Rattle.ql_meaning.proofs.LegalAmong.{EachNews}

-- who there is

-- a person after a change keeps this
changed_keeps : (F : Person → Type 0) (g : Person → Person) → ((x : Person) → F x → F (g x)) → (xs : List Person) (n q : ℕ) (x : Person) → numbered xs q ≡ Some x → F x → (y : Person) × (numbered (change_numbered g xs n) q ≡ Some y) × F y
changed_keeps F g k xs n q x e f =
    ⊎_elim
    (λ (t : (q == n) ≡ true). let same : q ≡ n = eqb-true q n t in (g x, subst (λ z. numbered (change_numbered g xs z) q ≡ Some (g x)) same (numbered_changed g xs q x e), k x f))
    (λ (t : (q == n) ≡ false). (x, numbered_unchanged g xs n q (apart q n t) ∙ e, f))
    (cases (q == n))

-- what deaths and ends leave stays
stays : (F : Person → Type 0) → ((x : Person) → F x → F (with_death x)) → ((x : Person) → F x → F (with_end x)) → (e : Event) (es : List Event) (q : ℕ) (x : Person) → numbered (persons_in es) q ≡ Some x → F x → (y : Person) × (numbered (persons_in (e ∷ es)) q ≡ Some y) × F y
stays F d n (spawn p r home mode) es q x e f = (x, numbered_pushed (persons_in es) (newborn home) q x e, f)
stays F d n (kill c r) es q x e f = changed_keeps F with_death d (persons_in es) r q x e f
stays F d n (end_ok p text) es q x e f = changed_keeps F with_end n (persons_in es) p q x e f
stays F d n (end_killed p) es q x e f = changed_keeps F with_end n (persons_in es) p q x e f
stays F d n l es q x e f = (x, e, f)

abbrev pub HasPerson : (Person → Type 0) → ℕ → List Event → Type 0
HasPerson F q es = (x : Person) × (numbered (persons_in es) q ≡ Some x) × F x

further : (F : Person → Type 0) → ((x : Person) → F x → F (with_death x)) → ((x : Person) → F x → F (with_end x)) → (e : Event) (es : List Event) (q : ℕ) → HasPerson F q es → HasPerson F q (e ∷ es)
further F d n e es q h = stays F d n e es q h.0 h.1 h.2

abbrev pub IsDead : Person → Type 0
IsDead x = x.dead ≡ true

abbrev pub IsEnded : Person → Type 0
IsEnded x = x.ended ≡ true

abbrev pub HomeIs : ℕ → Person → Type 0
HomeIs h x = x.home ≡ h

pub killed_is_dead : (es : List Event) (c q : ℕ) → EachNews es → IsAmong (kill c q) es → HasPerson IsDead q es
killed_is_dead [] c q k h = absurd h
killed_is_dead (e ∷ es) c q k h =
    ⊎_elim
    (λ (t : kill c q ≡ e). subst (λ z. HasPerson IsDead q (z ∷ es)) t (now (subst (λ z. Fine z es) (sym t) k.0)))
    (λ t. further IsDead (λ x f. refl) (λ x f. f) e es q (killed_is_dead es c q k.1 t))
    h
  where
    now : Fine (kill c q) es → HasPerson IsDead q (kill c q ∷ es)
    now v = (with_death v.person, numbered_changed with_death (persons_in es) q v.person v.is, refl)

-- each dead person was killed
pub dead_was_killed : (es : List Event) (q : ℕ) (x : Person) → numbered (persons_in es) q ≡ Some x → x.dead ≡ true → HasKill es q
dead_was_killed [] zero x e d = absurd cc
dead_was_killed [] (suc zero) x e d = let same : newborn 0 ≡ x = some_same e in let bad : false ≡ true = ap (λ (z : Person). z.dead) same ∙ d in absurd cc
dead_was_killed [] (suc (suc q)) x e d = absurd cc
dead_was_killed (spawn p r home mode ∷ es) q x e d =
    ⊎_elim
    (λ t. let k = dead_was_killed es q x t d in (k.0, inr k.1))
    (λ (t : (q ≡ suc (length (persons_in es))) × (x ≡ newborn home)). let bad : true ≡ false = sym d ∙ ap (λ (z : Person). z.dead) t.1 in absurd cc)
    (numbered_of_pushed (persons_in es) (newborn home) q x e)
dead_was_killed (kill c r ∷ es) q x e d =
    let o = numbered_of_changed with_death (persons_in es) r q x e in
    ⊎_elim
    (λ (t : (q ≡ r) × (x ≡ with_death o.0)). (c, inl (ap (kill c) t.0)))
    (λ (t : x ≡ o.0). let k = dead_was_killed es q o.0 o.1 (ap (λ (z : Person). z.dead) (sym t) ∙ d) in (k.0, inr k.1))
    o.2
dead_was_killed (end_ok p text ∷ es) q x e d =
    let o = numbered_of_changed with_end (persons_in es) p q x e in
    let k = dead_was_killed es q o.0 o.1 (⊎_elim (λ (t : (q ≡ p) × (x ≡ with_end o.0)). ap (λ (z : Person). z.dead) (sym t.1) ∙ d) (λ (t : x ≡ o.0). ap (λ (z : Person). z.dead) (sym t) ∙ d) o.2) in
    (k.0, inr k.1)
dead_was_killed (end_killed p ∷ es) q x e d =
    let o = numbered_of_changed with_end (persons_in es) p q x e in
    let k = dead_was_killed es q o.0 o.1 (⊎_elim (λ (t : (q ≡ p) × (x ≡ with_end o.0)). ap (λ (z : Person). z.dead) (sym t.1) ∙ d) (λ (t : x ≡ o.0). ap (λ (z : Person). z.dead) (sym t) ∙ d) o.2) in
    (k.0, inr k.1)
dead_was_killed (l ∷ es) q x e d = let k = dead_was_killed es q x e d in (k.0, inr k.1)

pub ended_well_is_ended : (es : List Event) (q : ℕ) (text : Option (List ℕ)) → EachNews es → IsAmong (end_ok q text) es → HasPerson IsEnded q es
ended_well_is_ended [] q text k h = absurd h
ended_well_is_ended (e ∷ es) q text k h =
    ⊎_elim
    (λ (t : end_ok q text ≡ e). subst (λ z. HasPerson IsEnded q (z ∷ es)) t (now (subst (λ z. Fine z es) (sym t) k.0)))
    (λ t. further IsEnded (λ x f. f) (λ x f. refl) e es q (ended_well_is_ended es q text k.1 t))
    h
  where
    now : Fine (end_ok q text) es → HasPerson IsEnded q (end_ok q text ∷ es)
    now v = (with_end v.1.0, numbered_changed with_end (persons_in es) q v.1.0 v.1.1, refl)

pub ended_killed_is_ended : (es : List Event) (q : ℕ) → EachNews es → IsAmong (end_killed q) es → HasPerson IsEnded q es
ended_killed_is_ended [] q k h = absurd h
ended_killed_is_ended (e ∷ es) q k h =
    ⊎_elim
    (λ (t : end_killed q ≡ e). subst (λ z. HasPerson IsEnded q (z ∷ es)) t (now (subst (λ z. Fine z es) (sym t) k.0)))
    (λ t. further IsEnded (λ x f. f) (λ x f. refl) e es q (ended_killed_is_ended es q k.1 t))
    h
  where
    now : Fine (end_killed q) es → HasPerson IsEnded q (end_killed q ∷ es)
    now v = (with_end v.1.0, numbered_changed with_end (persons_in es) q v.1.0 v.1.1, refl)

end_later : (e : Event) (es : List Event) (q : ℕ) → HasEnd es q → HasEnd (e ∷ es) q
end_later e es q h = ⊎_elim (λ t. inl (t.0, inr t.1)) (λ t. inr (inr t)) h

-- each ended person has come to its end
pub ended_has_end : (es : List Event) (q : ℕ) (x : Person) → numbered (persons_in es) q ≡ Some x → x.ended ≡ true → HasEnd es q
ended_has_end [] zero x e d = absurd cc
ended_has_end [] (suc zero) x e d = let same : newborn 0 ≡ x = some_same e in let bad : false ≡ true = ap (λ (z : Person). z.ended) same ∙ d in absurd cc
ended_has_end [] (suc (suc q)) x e d = absurd cc
ended_has_end (spawn p r home mode ∷ es) q x e d =
    ⊎_elim
    (λ t. end_later _ es q (ended_has_end es q x t d))
    (λ (t : (q ≡ suc (length (persons_in es))) × (x ≡ newborn home)). let bad : true ≡ false = sym d ∙ ap (λ (z : Person). z.ended) t.1 in absurd cc)
    (numbered_of_pushed (persons_in es) (newborn home) q x e)
ended_has_end (kill c r ∷ es) q x e d =
    let o = numbered_of_changed with_death (persons_in es) r q x e in
    end_later _ es q (ended_has_end es q o.0 o.1 (⊎_elim (λ (t : (q ≡ r) × (x ≡ with_death o.0)). ap (λ (z : Person). z.ended) (sym t.1) ∙ d) (λ (t : x ≡ o.0). ap (λ (z : Person). z.ended) (sym t) ∙ d) o.2))
ended_has_end (end_ok p text ∷ es) q x e d =
    let o = numbered_of_changed with_end (persons_in es) p q x e in
    ⊎_elim
    (λ (t : (q ≡ p) × (x ≡ with_end o.0)). inl (text, inl (ap (λ z. end_ok z text) t.0)))
    (λ (t : x ≡ o.0). end_later _ es q (ended_has_end es q o.0 o.1 (ap (λ (z : Person). z.ended) (sym t) ∙ d)))
    o.2
ended_has_end (end_killed p ∷ es) q x e d =
    let o = numbered_of_changed with_end (persons_in es) p q x e in
    ⊎_elim
    (λ (t : (q ≡ p) × (x ≡ with_end o.0)). inr (inl (ap end_killed t.0)))
    (λ (t : x ≡ o.0). end_later _ es q (ended_has_end es q o.0 o.1 (ap (λ (z : Person). z.ended) (sym t) ∙ d)))
    o.2
ended_has_end (l ∷ es) q x e d = end_later _ es q (ended_has_end es q x e d)

-- homes

first_at_home : (es : List Event) → HasPerson (HomeIs 0) 1 es
first_at_home [] = (newborn 0, refl, refl)
first_at_home (e ∷ es) = further (HomeIs 0) (λ x f. f) (λ x f. f) e es 1 (first_at_home es)

spawned_at_home : (es : List Event) (p q h : ℕ) (mode : Mode) → EachNews es → IsAmong (spawn p q h mode) es → HasPerson (HomeIs h) q es
spawned_at_home [] p q h mode k a = absurd a
spawned_at_home (e ∷ es) p q h mode k a =
    ⊎_elim
    (λ (t : spawn p q h mode ≡ e). subst (λ z. HasPerson (HomeIs h) q (z ∷ es)) t (now (subst (λ z. Fine z es) (sym t) k.0)))
    (λ t. further (HomeIs h) (λ x f. f) (λ x f. f) e es q (spawned_at_home es p q h mode k.1 t))
    a
  where
    now : Fine (spawn p q h mode) es → HasPerson (HomeIs h) q (spawn p q h mode ∷ es)
    now v = (newborn h, subst (λ z. numbered (persons_in es ++ newborn h ∷ []) z ≡ Some (newborn h)) (sym v.2) (numbered_last (persons_in es) (newborn h)), refl)

pub at_home : (es : List Event) (q h : ℕ) → EachNews es → HasHome es q h → HasPerson (HomeIs h) q es
at_home es q h k a =
    ⊎_elim
    (λ (t : (q ≡ 1) × (h ≡ 0)). subst (λ z. HasPerson (HomeIs z) q es) (sym t.1) (subst (λ z. HasPerson (HomeIs 0) z es) (sym t.0) (first_at_home es)))
    (λ t. spawned_at_home es t.0 q h t.1 k t.2)
    a

home_later : (e : Event) (es : List Event) (q h : ℕ) → HasHome es q h → HasHome (e ∷ es) q h
home_later e es q h a = ⊎_elim (λ t. inl t) (λ t. inr (t.0, t.1, inr t.2)) a

pub has_home : (es : List Event) (q : ℕ) (x : Person) → EachNews es → numbered (persons_in es) q ≡ Some x → HasHome es q x.home
has_home [] zero x k e = absurd cc
has_home [] (suc zero) x k e = let same : newborn 0 ≡ x = some_same e in inl (refl, ap (λ (z : Person). z.home) (sym same))
has_home [] (suc (suc q)) x k e = absurd cc
has_home (spawn p r home mode ∷ es) q x k e =
    ⊎_elim
    (λ t. home_later _ es q x.home (has_home es q x k.1 t))
    (λ (t : (q ≡ suc (length (persons_in es))) × (x ≡ newborn home)). inr (p, mode, inl (subst (λ (z : Person). spawn p q z.home mode ≡ spawn p r home mode) (sym t.1) (ap (λ z. spawn p z home mode) (t.0 ∙ sym k.0.2)))))
    (numbered_of_pushed (persons_in es) (newborn home) q x e)
has_home (kill c r ∷ es) q x k e =
    let o = numbered_of_changed with_death (persons_in es) r q x e in
    home_later _ es q x.home (subst (HasHome es q) (⊎_elim (λ (t : (q ≡ r) × (x ≡ with_death o.0)). ap (λ (z : Person). z.home) (sym t.1)) (λ (t : x ≡ o.0). ap (λ (z : Person). z.home) (sym t)) o.2) (has_home es q o.0 k.1 o.1))
has_home (end_ok p text ∷ es) q x k e =
    let o = numbered_of_changed with_end (persons_in es) p q x e in
    home_later _ es q x.home (subst (HasHome es q) (⊎_elim (λ (t : (q ≡ p) × (x ≡ with_end o.0)). ap (λ (z : Person). z.home) (sym t.1)) (λ (t : x ≡ o.0). ap (λ (z : Person). z.home) (sym t)) o.2) (has_home es q o.0 k.1 o.1))
has_home (end_killed p ∷ es) q x k e =
    let o = numbered_of_changed with_end (persons_in es) p q x e in
    home_later _ es q x.home (subst (HasHome es q) (⊎_elim (λ (t : (q ≡ p) × (x ≡ with_end o.0)). ap (λ (z : Person). z.home) (sym t.1)) (λ (t : x ≡ o.0). ap (λ (z : Person). z.home) (sym t)) o.2) (has_home es q o.0 k.1 o.1))
has_home (l ∷ es) q x k e = home_later _ es q x.home (has_home es q x k.1 e)

-- each home is a catch
pub home_low : (es : List Event) (q : ℕ) (x : Person) → EachNews es → numbered (persons_in es) q ≡ Some x → x.home < length (opens_in es)
home_low [] zero x k e = absurd cc
home_low [] (suc zero) x k e = let same : newborn 0 ≡ x = some_same e in subst (λ (z : Person). z.home < 1) same (omega arith)
home_low [] (suc (suc q)) x k e = absurd cc
home_low (spawn p r home mode ∷ es) q x k e =
    ⊎_elim
    (λ t. home_low es q x k.1 t)
    (λ (t : (q ≡ suc (length (persons_in es))) × (x ≡ newborn home)). subst (λ (z : Person). z.home < length (opens_in es)) (sym t.1) k.0.3)
    (numbered_of_pushed (persons_in es) (newborn home) q x e)
home_low (kill c r ∷ es) q x k e =
    let o = numbered_of_changed with_death (persons_in es) r q x e in
    subst (λ z. z < length (opens_in es)) (⊎_elim (λ (t : (q ≡ r) × (x ≡ with_death o.0)). ap (λ (z : Person). z.home) (sym t.1)) (λ (t : x ≡ o.0). ap (λ (z : Person). z.home) (sym t)) o.2) (home_low es q o.0 k.1 o.1)
home_low (end_ok p text ∷ es) q x k e =
    let o = numbered_of_changed with_end (persons_in es) p q x e in
    subst (λ z. z < length (opens_in es)) (⊎_elim (λ (t : (q ≡ p) × (x ≡ with_end o.0)). ap (λ (z : Person). z.home) (sym t.1)) (λ (t : x ≡ o.0). ap (λ (z : Person). z.home) (sym t)) o.2) (home_low es q o.0 k.1 o.1)
home_low (end_killed p ∷ es) q x k e =
    let o = numbered_of_changed with_end (persons_in es) p q x e in
    subst (λ z. z < length (opens_in es)) (⊎_elim (λ (t : (q ≡ p) × (x ≡ with_end o.0)). ap (λ (z : Person). z.home) (sym t.1)) (λ (t : x ≡ o.0). ap (λ (z : Person). z.home) (sym t)) o.2) (home_low es q o.0 k.1 o.1)
home_low (opened p c d ∷ es) q x k e = let r = home_low es q x k.1 e in omega (arith, r)
home_low (l ∷ es) q x k e = home_low es q x k.1 e

-- catches

pub over_low : (os : List (ℕ × ℕ)) (c d : ℕ) → over_in os c d ≡ true → c < length os
over_low [] c d h = absurd cc
over_low (o ∷ os) c d h =
    ⊎_elim
    (λ (t : (d == length os) ≡ true).
    ⊎_elim
    (λ (v : (c == d) ≡ true). let a = eqb-true _ _ v in let b = eqb-true _ _ t in omega (arith, a, b))
    (λ (v : (c == d) ≡ false). let r = over_low os c o.1 (rw v at (rw t at h)) in omega (arith, r))
    (cases (c == d)))
    (λ (t : (d == length os) ≡ false). let r = over_low os c d (rw t at h) in omega (arith, r))
    (cases (d == length os))

pub over_newer : (o : ℕ × ℕ) (os : List (ℕ × ℕ)) (c d : ℕ) → d < length os → over_in (o ∷ os) c d ≡ over_in os c d
over_newer o os c d l = let n : (d == length os) ≡ false = ne_eqb _ _ (λ z. omega (arith, l, z)) in rw n refl

over_itself : (os : List (ℕ × ℕ)) (d : ℕ) → d < length os → over_in os d d ≡ true
over_itself [] d l = absurd (omega (arith, l))
over_itself (o ∷ os) d l =
    let s : (d == d) ≡ true = eq-eqb d d refl in
    ⊎_elim
    (λ (t : (d == length os) ≡ true). rw (t, s) refl)
    (λ (t : (d == length os) ≡ false). let n = apart _ _ t in rw t (over_itself os d (omega (arith, l, n))))
    (cases (d == length os))

pub over_later : (e : Event) (es : List Event) (c d : ℕ) → IsOver es c d → IsOver (e ∷ es) c d
over_later e es c d (itself h s) = itself h s
over_later e es c d (over_enclosing p h f a r) = over_enclosing p h f (inr a) (over_later e es c f r)

-- a catch that was opened is below what its enclosing one is below
enclosed : (es : List Event) (p d f : ℕ) → EachNews es → IsAmong (opened p d f) es → (d < length (opens_in es)) × (f < d) × ((c : ℕ) → over_in (opens_in es) c f ≡ true → over_in (opens_in es) c d ≡ true)
enclosed [] p d f k a = absurd a
enclosed (e ∷ es) p d f k a =
    ⊎_elim
    (λ (t : opened p d f ≡ e). subst (λ z. (d < length (opens_in (z ∷ es))) × (f < d) × ((c : ℕ) → over_in (opens_in (z ∷ es)) c f ≡ true → over_in (opens_in (z ∷ es)) c d ≡ true)) t (now (subst (λ z. Fine z es) (sym t) k.0)))
    (λ t. beyond e (enclosed es p d f k.1 t))
    a
  where
    now : Fine (opened p d f) es → (d < suc (length (opens_in es))) × (f < d) × ((c : ℕ) → over_in ((p, f) ∷ opens_in es) c f ≡ true → over_in ((p, f) ∷ opens_in es) c d ≡ true)
    now v =
        let is = v.2 in let low = v.3 in
        let t : (d == length (opens_in es)) ≡ true = eq-eqb _ _ is in (
          omega (arith, is),
          low,
          λ c h.
              let h' : over_in (opens_in es) c f ≡ true = sym (over_newer (p, f) (opens_in es) c f (omega (arith, is, low))) ∙ h in
              ⊎_elim (λ (v : (c == d) ≡ true). rw (t, v) refl) (λ (v : (c == d) ≡ false). rw (t, v) h') (cases (c == d)),
        )

    beyond : (e : Event) → (d < length (opens_in es)) × (f < d) × ((c : ℕ) → over_in (opens_in es) c f ≡ true → over_in (opens_in es) c d ≡ true) → (d < length (opens_in (e ∷ es))) × (f < d) × ((c : ℕ) → over_in (opens_in (e ∷ es)) c f ≡ true → over_in (opens_in (e ∷ es)) c d ≡ true)
    beyond (opened r g h) o =
        let l = o.0 in let m = o.1 in
        (omega (arith, l), m, λ c s. over_newer (r, h) (opens_in es) c d l ∙ o.2 c (sym (over_newer (r, h) (opens_in es) c f (omega (arith, l, m))) ∙ s))
    beyond l o = o

pub over_told : (es : List Event) (c d : ℕ) → EachNews es → IsOver es c d → d < length (opens_in es) → over_in (opens_in es) c d ≡ true
over_told es c d k (itself h s) l = subst (λ z. over_in (opens_in es) z h ≡ true) (sym s) (over_itself (opens_in es) h l)
over_told es c d k (over_enclosing p h f a r) l = let o = enclosed es p h f k a in let m = o.1 in o.2 c (over_told es c f k r (omega (arith, l, m)))

pub over_tells : (es : List Event) (c d : ℕ) → EachNews es → over_in (opens_in es) c d ≡ true → IsOver es c d
over_tells [] c d k h =
    ⊎_elim
    (λ (t : (d == 0) ≡ true). ⊎_elim (λ (v : (c == d) ≡ true). itself d (eqb-true _ _ v)) (λ (v : (c == d) ≡ false). let bad : false ≡ true = rw v at (rw t at h) in absurd cc) (cases (c == d)))
    (λ (t : (d == 0) ≡ false). let bad : false ≡ true = rw t at h in absurd cc)
    (cases (d == 0))
over_tells (opened p g f ∷ es) c d k h =
    ⊎_elim
    (λ (t : (d == length (opens_in es)) ≡ true).
    ⊎_elim
    (λ (v : (c == d) ≡ true). itself d (eqb-true _ _ v))
    (λ (v : (c == d) ≡ false).
    let is : d ≡ g = eqb-true _ _ t ∙ sym k.0.2 in
    over_enclosing p d f (inl (ap (λ z. opened p z f) is)) (over_later _ es c f (over_tells es c f k.1 (rw v at (rw t at h)))))
    (cases (c == d)))
    (λ (t : (d == length (opens_in es)) ≡ false). over_later _ es c d (over_tells es c d k.1 (rw t at h)))
    (cases (d == length (opens_in es)))
over_tells (l ∷ es) c d k h = over_later _ es c d (over_tells es c d k.1 h)

-- owners

pub root_owned : (es : List Event) → (owner_in (opens_in es) 0 ≡ 1) × (0 < length (opens_in es))
root_owned [] = (refl, omega arith)
root_owned (opened p c d ∷ es) =
    let r = root_owned es in let l = r.1 in
    let n : (0 == length (opens_in es)) ≡ false = ne_eqb _ _ (λ z. omega (arith, l, z)) in
    (rw n r.0, omega arith)
root_owned (l ∷ es) = root_owned es

opened_owned : (es : List Event) (p c d : ℕ) → EachNews es → IsAmong (opened p c d) es → (owner_in (opens_in es) c ≡ p) × (c < length (opens_in es))
opened_owned [] p c d k a = absurd a
opened_owned (e ∷ es) p c d k a =
    ⊎_elim
    (λ (t : opened p c d ≡ e). subst (λ z. (owner_in (opens_in (z ∷ es)) c ≡ p) × (c < length (opens_in (z ∷ es)))) t (now (subst (λ z. Fine z es) (sym t) k.0)))
    (λ t. beyond e (opened_owned es p c d k.1 t))
    a
  where
    now : Fine (opened p c d) es → (owner_in ((p, d) ∷ opens_in es) c ≡ p) × (c < suc (length (opens_in es)))
    now v = let is = v.2 in let t : (c == length (opens_in es)) ≡ true = eq-eqb _ _ is in (rw t refl, omega (arith, is))

    beyond : (e : Event) → (owner_in (opens_in es) c ≡ p) × (c < length (opens_in es)) → (owner_in (opens_in (e ∷ es)) c ≡ p) × (c < length (opens_in (e ∷ es)))
    beyond (opened r g h) o = let l = o.1 in let n : (c == length (opens_in es)) ≡ false = ne_eqb _ _ (λ z. omega (arith, l, z)) in (rw n o.0, omega (arith, l))
    beyond l o = o

pub owner_told : (es : List Event) (p c : ℕ) → EachNews es → Owns es p c → owner_in (opens_in es) c ≡ p
owner_told es p c k o =
    ⊎_elim
    (λ (t : (c ≡ 0) × (p ≡ 1)). ap (owner_in (opens_in es)) t.0 ∙ (root_owned es).0 ∙ sym t.1)
    (λ t. (opened_owned es p c t.0 k t.1).0)
    o

owner_later : (e : Event) (es : List Event) (p c : ℕ) → Owns es p c → Owns (e ∷ es) p c
owner_later e es p c o = ⊎_elim (λ t. inl t) (λ t. inr (t.0, inr t.1)) o

pub owner_tells : (es : List Event) (c : ℕ) → EachNews es → c < length (opens_in es) → Owns es (owner_in (opens_in es) c) c
owner_tells [] zero k l = inl (refl, refl)
owner_tells [] (suc c) k l = absurd (omega (arith, l))
owner_tells (opened p g f ∷ es) c k l =
    ⊎_elim
    (λ (t : (c == length (opens_in es)) ≡ true). let is : c ≡ g = eqb-true _ _ t ∙ sym k.0.2 in rw t (inr (f, inl (ap (λ z. opened p z f) is))))
    (λ (t : (c == length (opens_in es)) ≡ false).
    let n = apart _ _ t in
    let same : owner_in (opens_in (opened p g f ∷ es)) c ≡ owner_in (opens_in es) c = rw t refl in
    subst (λ z. Owns (opened p g f ∷ es) z c) (sym same) (owner_later (opened p g f) es (owner_in (opens_in es) c) c (owner_tells es c k.1 (omega (arith, l, n)))))
    (cases (c == length (opens_in es)))
owner_tells (e ∷ es) c k l = owner_later _ es _ c (owner_tells es c k.1 l)

-- protects

pub protect_told : (es : List Event) (p u : ℕ) → EachNews es → IsAmong (protect p u) es → (protector u es ≡ Some p) × (0 < u)
protect_told [] p u k a = absurd a
protect_told (e ∷ es) p u k a =
    ⊎_elim
    (λ (t : protect p u ≡ e). subst (λ z. (protector u (z ∷ es) ≡ Some p) × (0 < u)) t (now (subst (λ z. Fine z es) (sym t) k.0)))
    (λ t. beyond e k.0 (protect_told es p u k.1 t))
    a
  where
    now : Fine (protect p u) es → ((if u == u then Some p else protector u es) ≡ Some p) × (0 < u)
    now v = let s : (u == u) ≡ true = eq-eqb u u refl in (rw s refl, v.3)

    beyond : (e : Event) → Fine e es → (protector u es ≡ Some p) × (0 < u) → (protector u (e ∷ es) ≡ Some p) × (0 < u)
    beyond (protect r v) f o =
        ⊎_elim
        (λ (t : (u == v) ≡ true). let same : u ≡ v = eqb-true _ _ t in let bad : Some p ≡ None = sym o.0 ∙ ap (λ z. protector z es) same ∙ f.2 in absurd cc)
        (λ (t : (u == v) ≡ false). (rw t o.0, o.1))
        (cases (u == v))
    beyond l f o = o

pub protector_tells : (es : List Event) (p u : ℕ) → protector u es ≡ Some p → IsAmong (protect p u) es
protector_tells [] p u e = absurd cc
protector_tells (protect r v ∷ es) p u e =
    ⊎_elim
    (λ (t : (u == v) ≡ true). let same : r ≡ p = some_same (rw t at e) in let is : u ≡ v = eqb-true _ _ t in inl (ap (λ z. protect z u) (sym same) ∙ ap (protect r) is))
    (λ (t : (u == v) ≡ false). inr (protector_tells es p u (rw t at e)))
    (cases (u == v))
protector_tells (l ∷ es) p u e = inr (protector_tells es p u e)

protector_later : (e : Event) (es : List Event) (p u : ℕ) → Fine e es → protector u es ≡ Some p → protector u (e ∷ es) ≡ Some p
protector_later (protect r v) es p u f o =
    ⊎_elim
    (λ (t : (u == v) ≡ true). let same : u ≡ v = eqb-true _ _ t in let bad : Some p ≡ None = sym o ∙ ap (λ z. protector z es) same ∙ f.2 in absurd cc)
    (λ (t : (u == v) ≡ false). rw t o)
    (cases (u == v))
protector_later l es p u f o = o

pub begin_told : (es : List Event) (p u : ℕ) → EachNews es → IsAmong (begin p u) es → (is_begun u es ≡ true) × (protector u es ≡ Some p)
begin_told [] p u k a = absurd a
begin_told (e ∷ es) p u k a =
    ⊎_elim
    (λ (t : begin p u ≡ e). subst (λ z. (is_begun u (z ∷ es) ≡ true) × (protector u (z ∷ es) ≡ Some p)) t (now (subst (λ z. Fine z es) (sym t) k.0)))
    (λ t. beyond (begin_told es p u k.1 t))
    a
  where
    now : Fine (begin p u) es → ((u == u || is_begun u es) ≡ true) × (protector u es ≡ Some p)
    now v = let s : (u == u) ≡ true = eq-eqb u u refl in (rw s refl, v.1.mine)

    stay : (e : Event) → is_begun u es ≡ true → is_begun u (e ∷ es) ≡ true
    stay (begin r v) o = ⊎_elim (λ (t : (u == v) ≡ true). rw t refl) (λ (t : (u == v) ≡ false). rw t o) (cases (u == v))
    stay l o = o

    beyond : (is_begun u es ≡ true) × (protector u es ≡ Some p) → (is_begun u (e ∷ es) ≡ true) × (protector u (e ∷ es) ≡ Some p)
    beyond o = (stay e o.0, protector_later e es p u k.0 o.1)

pub begun_tells : (es : List Event) (u : ℕ) → is_begun u es ≡ true → (p : ℕ) × IsAmong (begin p u) es
begun_tells [] u e = absurd cc
begun_tells (begin r v ∷ es) u e = ⊎_elim (λ (t : (u == v) ≡ true). (r, inl (ap (begin r) (eqb-true _ _ t)))) (λ t. let o = begun_tells es u t in (o.0, inr o.1)) (or_true _ _ e)
begun_tells (l ∷ es) u e = let o = begun_tells es u e in (o.0, inr o.1)

pub finish_told : (es : List Event) (p u : ℕ) → EachNews es → IsAmong (finish p u) es → (is_finished u es ≡ true) × (protector u es ≡ Some p)
finish_told [] p u k a = absurd a
finish_told (e ∷ es) p u k a =
    ⊎_elim
    (λ (t : finish p u ≡ e). subst (λ z. (is_finished u (z ∷ es) ≡ true) × (protector u (z ∷ es) ≡ Some p)) t (now (subst (λ z. Fine z es) (sym t) k.0)))
    (λ t. beyond (finish_told es p u k.1 t))
    a
  where
    now : Fine (finish p u) es → ((u == u || is_finished u es) ≡ true) × (protector u es ≡ Some p)
    now v = let s : (u == u) ≡ true = eq-eqb u u refl in (rw s refl, v.1.mine)

    stay : (e : Event) → is_finished u es ≡ true → is_finished u (e ∷ es) ≡ true
    stay (finish r v) o = ⊎_elim (λ (t : (u == v) ≡ true). rw t refl) (λ (t : (u == v) ≡ false). rw t o) (cases (u == v))
    stay l o = o

    beyond : (is_finished u es ≡ true) × (protector u es ≡ Some p) → (is_finished u (e ∷ es) ≡ true) × (protector u (e ∷ es) ≡ Some p)
    beyond o = (stay e o.0, protector_later e es p u k.0 o.1)

pub finished_tells : (es : List Event) (u : ℕ) → is_finished u es ≡ true → (p : ℕ) × IsAmong (finish p u) es
finished_tells [] u e = absurd cc
finished_tells (finish r v ∷ es) u e = ⊎_elim (λ (t : (u == v) ≡ true). (r, inl (ap (finish r) (eqb-true _ _ t)))) (λ t. let o = finished_tells es u t in (o.0, inr o.1)) (or_true _ _ e)
finished_tells (l ∷ es) u e = let o = finished_tells es u e in (o.0, inr o.1)

-- calls

pub sent_tells : (es : List Event) (k n : ℕ) → EachNews es → 0 < n → n ≤ sends k es → (p : ℕ) × IsAmong (send p k n) es
sent_tells [] k n f l h = absurd (omega (arith, l, h))
sent_tells (send p j m ∷ es) k n f l h =
    ⊎_elim
    (λ (t : (k == j) ≡ true).
    let same : k ≡ j = eqb-true _ _ t in
    let is : m ≡ suc (sends k es) = f.0.2 ∙ ap (λ z. suc (sends z es)) (sym same) in
    let h' : n ≤ suc (sends k es) = rw t at h in
    ⊎_elim
    (λ (v : (n == m) ≡ true). (p, inl (ap (λ z. send p z n) same ∙ ap (send p j) (eqb-true _ _ v))))
    (λ (v : (n == m) ≡ false). let d = apart _ _ v in let o = sent_tells es k n f.1 l (omega (arith, d, is, h')) in (o.0, inr o.1))
    (cases (n == m)))
    (λ (t : (k == j) ≡ false). let o = sent_tells es k n f.1 l (rw t at h) in (o.0, inr o.1))
    (cases (k == j))
sent_tells (e ∷ es) k n f l h = let o = sent_tells es k n f.1 l h in (o.0, inr o.1)

pub taken_tells : (es : List Event) (k n : ℕ) → EachNews es → 0 < n → n ≤ takes k es → (p : ℕ) × IsAmong (take p k n) es
taken_tells [] k n f l h = absurd (omega (arith, l, h))
taken_tells (take p j m ∷ es) k n f l h =
    ⊎_elim
    (λ (t : (k == j) ≡ true).
    let same : k ≡ j = eqb-true _ _ t in
    let is : m ≡ suc (takes k es) = f.0.2.next ∙ ap (λ z. suc (takes z es)) (sym same) in
    let h' : n ≤ suc (takes k es) = rw t at h in
    ⊎_elim
    (λ (v : (n == m) ≡ true). (p, inl (ap (λ z. take p z n) same ∙ ap (take p j) (eqb-true _ _ v))))
    (λ (v : (n == m) ≡ false). let d = apart _ _ v in let o = taken_tells es k n f.1 l (omega (arith, d, is, h')) in (o.0, inr o.1))
    (cases (n == m)))
    (λ (t : (k == j) ≡ false). let o = taken_tells es k n f.1 l (rw t at h) in (o.0, inr o.1))
    (cases (k == j))
taken_tells (e ∷ es) k n f l h = let o = taken_tells es k n f.1 l h in (o.0, inr o.1)

pub answered_tells : (es : List Event) (k n : ℕ) → EachNews es → 0 < n → n ≤ replies k es → (p : ℕ) × (text : Option (List ℕ)) × IsAmong (reply p k n text) es
answered_tells [] k n f l h = absurd (omega (arith, l, h))
answered_tells (reply p j m text ∷ es) k n f l h =
    ⊎_elim
    (λ (t : (k == j) ≡ true).
    let same : k ≡ j = eqb-true _ _ t in
    let is : m ≡ suc (replies k es) = f.0.2.next ∙ ap (λ z. suc (replies z es)) (sym same) in
    let h' : n ≤ suc (replies k es) = rw t at h in
    ⊎_elim
    (λ (v : (n == m) ≡ true). (p, text, inl (ap (λ z. reply p z n text) same ∙ ap (λ z. reply p j z text) (eqb-true _ _ v))))
    (λ (v : (n == m) ≡ false). let d = apart _ _ v in let o = answered_tells es k n f.1 l (omega (arith, d, is, h')) in (o.0, o.1, inr o.2))
    (cases (n == m)))
    (λ (t : (k == j) ≡ false). let o = answered_tells es k n f.1 l (rw t at h) in (o.0, o.1, inr o.2))
    (cases (k == j))
answered_tells (e ∷ es) k n f l h = let o = answered_tells es k n f.1 l h in (o.0, o.1, inr o.2)
