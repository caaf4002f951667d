-- The marks on the frames of one process.
use Rattle.std.proofs.Common.{◌≡◌, ◌≢◌, ◌⊎◌, ℕ, suc, ◌<◌, ◌≤◌, true, false, List, [], ◌∷◌, length, Some, refl, sym, ap, ◌∙◌, subst, ⊎_elim, inl, inr, arith}
use Rattle.ql_world.specs.declared.word.Word.{Word}
use Rattle.ql_world.specs.World.{catch_at, closed}
use Rattle.ql_world.specs.declared.world.Aim.{Aim}
use Rattle.ql_world.specs.declared.world.Aim.TheVariants.{Free as free, To as to, Die as die}
use Rattle.ql_world.specs.declared.world.Catch.{Catch}
use Rattle.ql_world.specs.declared.world.Kind.{Kind}
use Rattle.ql_world.specs.Within.{is_over}
use Rattle.ql_world.specs.declared.world.Cleanup.{Cleanup}
use Rattle.ql_world.specs.Idle.{acting, in_cleanup}
use Rattle.ql_meaning.specs.Sane.{Mark, catch_mark, protect_mark, cleanup_mark, base_mark, innermost_or, Stands, IsOpen, Chained, cleanups_of, StandsAbove, Among, OwnAim, InnerAim, Aims, AllOver, Floors, LowFloors, Based, Stage, waiting, running, Holds, AllUnder, Rising}
use Rattle.ql_meaning.proofs.Lists.{cases, not_both, one}
use Rattle.ql_meaning.proofs.Over.{Falling, catch_older, catch_low, over_up, over_self, over_down, closed_else}

-- catches

pub open_low : {ks : List Catch} {p c d : ℕ} → IsOpen ks p c d → c < length ks
open_low {ks} {p} {c} {d} o = catch_low ks c o.kept o.is

pub open_older : (k : Catch) (ks : List Catch) (p c d : ℕ) → IsOpen ks p c d → IsOpen (k ∷ ks) p c d
open_older k ks p c d o = record { kept = o.kept; is = catch_older k ks c (catch_low ks c o.kept o.is) ∙ o.is; open_still = o.open_still; owner = o.owner; enclosing = o.enclosing; inner = o.inner }

pub open_closed : (ks : List Catch) (e p c d : ℕ) → c ≢ e → IsOpen ks p c d → IsOpen (closed ks e) p c d
open_closed ks e p c d n o = record { kept = o.kept; is = closed_else ks e c o.kept n o.is; open_still = o.open_still; owner = o.owner; enclosing = o.enclosing; inner = o.inner }

module _ (ks : List Catch) (p h : ℕ) where
  pub chained_open : (c : ℕ) (ms : List Mark) → Stands c ms → Chained ks p h ms → (d : ℕ) × IsOpen ks p c d
  chained_open c [] s k = absurd s
  chained_open c (catch_mark d ∷ ms) s k = ⊎_elim (λ (t : c ≡ d). (innermost_or h ms, subst (λ z. IsOpen ks p z (innermost_or h ms)) (sym t) k.0)) (λ t. chained_open c ms t k.1) s
  chained_open c (protect_mark u ∷ ms) s k = chained_open c ms s k
  chained_open c (cleanup_mark u j ∷ ms) s k = chained_open c ms s k
  chained_open c (base_mark b ∷ ms) s k = chained_open c ms s k

  pub innermost_low : (ms : List Mark) → h < length ks → Chained ks p h ms → innermost_or h ms < length ks
  innermost_low [] l k = l
  innermost_low (catch_mark d ∷ ms) l k = open_low k.0
  innermost_low (protect_mark u ∷ ms) l k = innermost_low ms l k
  innermost_low (cleanup_mark u j ∷ ms) l k = innermost_low ms l k
  innermost_low (base_mark b ∷ ms) l k = innermost_low ms l k

  open_falls : (c d : ℕ) → Falling ks → IsOpen ks p c d → d < c
  open_falls c d f o = subst (λ z. z < c) o.enclosing (f c o.kept o.is o.inner)

  pub home_under : (ms : List Mark) → Falling ks → Chained ks p h ms → h ≤ innermost_or h ms
  home_under [] f k = omega arith
  home_under (catch_mark d ∷ ms) f k = let r = home_under ms f k.1 in let l = open_falls d (innermost_or h ms) f k.0 in omega (arith, r, l)
  home_under (protect_mark u ∷ ms) f k = home_under ms f k
  home_under (cleanup_mark u j ∷ ms) f k = home_under ms f k
  home_under (base_mark b ∷ ms) f k = home_under ms f k

  pub stands_over_home : (c : ℕ) (ms : List Mark) → Falling ks → Chained ks p h ms → Stands c ms → h < c
  stands_over_home c [] f k s = absurd s
  stands_over_home c (catch_mark d ∷ ms) f k s =
      ⊎_elim
      (λ (t : c ≡ d). let r = home_under ms f k.1 in let l = open_falls d (innermost_or h ms) f k.0 in omega (arith, r, l, t))
      (λ t. stands_over_home c ms f k.1 t)
      s
  stands_over_home c (protect_mark u ∷ ms) f k s = stands_over_home c ms f k s
  stands_over_home c (cleanup_mark u j ∷ ms) f k s = stands_over_home c ms f k s
  stands_over_home c (base_mark b ∷ ms) f k s = stands_over_home c ms f k s

  pub stands_under : (c : ℕ) (ms : List Mark) → Falling ks → Chained ks p h ms → Stands c ms → c ≤ innermost_or h ms
  stands_under c [] f k s = absurd s
  stands_under c (catch_mark d ∷ ms) f k s =
      ⊎_elim
      (λ (t : c ≡ d). omega (arith, t))
      (λ t. let r = stands_under c ms f k.1 t in let l = open_falls d (innermost_or h ms) f k.0 in omega (arith, r, l))
      s
  stands_under c (protect_mark u ∷ ms) f k s = stands_under c ms f k s
  stands_under c (cleanup_mark u j ∷ ms) f k s = stands_under c ms f k s
  stands_under c (base_mark b ∷ ms) f k s = stands_under c ms f k s

  -- what is over the innermost catch is on the frames, or over the home
  pub over_innermost : (c : ℕ) (ms : List Mark) → Falling ks → Chained ks p h ms → is_over ks c (innermost_or h ms) ≡ true → Stands c ms ⊎ (is_over ks c h ≡ true)
  over_innermost c [] f k o = inr o
  over_innermost c (catch_mark d ∷ ms) f k o =
      ⊎_elim
      (λ (t : c ≡ d). inl (inl t))
      (λ (t : (0 < d) × (j : Catch) × (catch_at ks d ≡ Some j) × (is_over ks c j.enclosing ≡ true)).
      let same : k.0.kept ≡ t.1 = one k.0.is t.2 in
      let e : t.1.enclosing ≡ innermost_or h ms = ap (λ (z : Catch). z.enclosing) (sym same) ∙ k.0.enclosing in
      ⊎_elim (λ s. inl (inr s)) (λ s. inr s) (over_innermost c ms f k.1 (subst (λ z. is_over ks c z ≡ true) e t.3)))
      (over_up ks c d f o)
  over_innermost c (protect_mark u ∷ ms) f k o = over_innermost c ms f k o
  over_innermost c (cleanup_mark u j ∷ ms) f k o = over_innermost c ms f k o
  over_innermost c (base_mark b ∷ ms) f k o = over_innermost c ms f k o

  over_next : (c d e : ℕ) → Falling ks → IsOpen ks p d e → is_over ks c e ≡ true → is_over ks c d ≡ true
  over_next c d e f o t = over_down ks c d o.kept f o.inner o.is (subst (λ z. is_over ks c z ≡ true) (sym o.enclosing) t)

  pub home_over : (c : ℕ) (ms : List Mark) → Falling ks → Chained ks p h ms → is_over ks c h ≡ true → is_over ks c (innermost_or h ms) ≡ true
  home_over c [] f k o = o
  home_over c (catch_mark d ∷ ms) f k o = over_next c d (innermost_or h ms) f k.0 (home_over c ms f k.1 o)
  home_over c (protect_mark u ∷ ms) f k o = home_over c ms f k o
  home_over c (cleanup_mark u j ∷ ms) f k o = home_over c ms f k o
  home_over c (base_mark b ∷ ms) f k o = home_over c ms f k o

  -- what is over the home is over each catch on the frames
  pub home_over_frames : (c d : ℕ) (ms : List Mark) → Falling ks → Chained ks p h ms → is_over ks c h ≡ true → Stands d ms → is_over ks c d ≡ true
  home_over_frames c d [] f k o s = absurd s
  home_over_frames c d (catch_mark e ∷ ms) f k o s =
      ⊎_elim
      (λ (t : d ≡ e). subst (λ z. is_over ks c z ≡ true) (sym t) (home_over c (catch_mark e ∷ ms) f k o))
      (λ t. home_over_frames c d ms f k.1 o t)
      s
  home_over_frames c d (protect_mark u ∷ ms) f k o s = home_over_frames c d ms f k o s
  home_over_frames c d (cleanup_mark u j ∷ ms) f k o s = home_over_frames c d ms f k o s
  home_over_frames c d (base_mark b ∷ ms) f k o s = home_over_frames c d ms f k o s

  pub stands_over : (c : ℕ) (ms : List Mark) → Falling ks → Chained ks p h ms → Stands c ms → is_over ks c (innermost_or h ms) ≡ true
  stands_over c [] f k s = absurd s
  stands_over c (catch_mark d ∷ ms) f k s =
      ⊎_elim
      (λ (t : c ≡ d). subst (λ z. is_over ks z d ≡ true) (sym t) (over_self ks d (open_low k.0)))
      (λ t. over_next c d (innermost_or h ms) f k.0 (stands_over c ms f k.1 t))
      s
  stands_over c (protect_mark u ∷ ms) f k s = stands_over c ms f k s
  stands_over c (cleanup_mark u j ∷ ms) f k s = stands_over c ms f k s
  stands_over c (base_mark b ∷ ms) f k s = stands_over c ms f k s

  -- of two catches on the frames the one with the lower number is over the other
  pub stands_in_line : (c d : ℕ) (ms : List Mark) → Falling ks → Chained ks p h ms → Stands c ms → Stands d ms → c ≤ d → is_over ks c d ≡ true
  stands_in_line c d [] f k s t l = absurd s
  stands_in_line c d (catch_mark e ∷ ms) f k s t l =
      ⊎_elim
      (λ (u : d ≡ e). subst (λ z. is_over ks c z ≡ true) (sym u) (stands_over c (catch_mark e ∷ ms) f k s))
      (λ (u : Stands d ms).
      ⊎_elim
      (λ (v : c ≡ e).
      let r = stands_under d ms f k.1 u in let m = open_falls e (innermost_or h ms) f k.0 in absurd (omega (arith, r, m, v, l)))
      (λ (v : Stands c ms). stands_in_line c d ms f k.1 v u l)
      s)
      t
  stands_in_line c d (protect_mark u ∷ ms) f k s t l = stands_in_line c d ms f k s t l
  stands_in_line c d (cleanup_mark u j ∷ ms) f k s t l = stands_in_line c d ms f k s t l
  stands_in_line c d (base_mark b ∷ ms) f k s t l = stands_in_line c d ms f k s t l

  pub chained_older : (k : Catch) (ms : List Mark) → Chained ks p h ms → Chained (k ∷ ks) p h ms
  chained_older k [] c = tt
  chained_older k (catch_mark d ∷ ms) c = (open_older k ks p d (innermost_or h ms) c.0, chained_older k ms c.1)
  chained_older k (protect_mark u ∷ ms) c = chained_older k ms c
  chained_older k (cleanup_mark u j ∷ ms) c = chained_older k ms c
  chained_older k (base_mark b ∷ ms) c = chained_older k ms c

  pub chained_closed : (e : ℕ) (ms : List Mark) → (Stands e ms → ⊥) → Chained ks p h ms → Chained (closed ks e) p h ms
  chained_closed e [] n c = tt
  chained_closed e (catch_mark d ∷ ms) n c = (open_closed ks e p d (innermost_or h ms) (λ z. n (inl (sym z))) c.0, chained_closed e ms (λ z. n (inr z)) c.1)
  chained_closed e (protect_mark u ∷ ms) n c = chained_closed e ms n c
  chained_closed e (cleanup_mark u j ∷ ms) n c = chained_closed e ms n c
  chained_closed e (base_mark b ∷ ms) n c = chained_closed e ms n c

pub above_stands : (c : ℕ) (ms : List Mark) → StandsAbove c ms → Stands c ms
above_stands c [] s = absurd s
above_stands c (catch_mark d ∷ ms) s = ⊎_elim (λ t. inl t.0) (λ t. inr (above_stands c ms t)) s
above_stands c (protect_mark u ∷ ms) s = above_stands c ms s
above_stands c (cleanup_mark u j ∷ ms) s = above_stands c ms s
above_stands c (base_mark b ∷ ms) s = above_stands c ms s

-- where no cleanup runs no catch stands above one
pub none_above : (c : ℕ) (ms : List Mark) → in_cleanup (cleanups_of ms) ≡ false → StandsAbove c ms → ⊥
none_above c [] n s = s
none_above c (catch_mark d ∷ ms) n s = ⊎_elim (λ t. not_both t.1 n) (λ t. none_above c ms n t) s
none_above c (protect_mark u ∷ ms) n s = none_above c ms n s
none_above c (cleanup_mark u j ∷ ms) n s = not_both refl n
none_above c (base_mark b ∷ ms) n s = none_above c ms n s

-- aims

-- the innermost running cleanup gets this aim
abbrev pub aim_marks : Aim → List Mark → List Mark
aim_marks a [] = []
aim_marks a (cleanup_mark u k ∷ ms) = cleanup_mark u (record k { aim = a }) ∷ ms
aim_marks a (m ∷ ms) = m ∷ aim_marks a ms

-- catch c stands above the innermost running cleanup
abbrev pub Near : ℕ → List Mark → Type 0
Near c [] = ⊥
Near c (catch_mark d ∷ ms) = (c ≡ d) ⊎ Near c ms
Near c (cleanup_mark u k ∷ ms) = ⊥
Near c (m ∷ ms) = Near c ms

own_less : (a : Aim) (cs ds : List ℕ) → ((c : ℕ) (x : Word) → a ≡ to c x → Among c cs → Among c ds) → OwnAim cs a → OwnAim ds a
own_less free cs ds h o = tt
own_less (to c x) cs ds h o = h c x refl o
own_less die cs ds h o = tt

inner_less : (a : Aim) (cs ds : List ℕ) → ((c : ℕ) (x : Word) → a ≡ to c x → Among c cs → Among c ds) → InnerAim cs a → InnerAim ds a
inner_less free cs ds h o = tt
inner_less (to c x) cs ds h o = h c x refl o
inner_less die cs ds h o = o

pub aims_less : (own : Aim) (cs ds : List ℕ) (ms : List Mark) → ((c : ℕ) (x : Word) → acting (cleanups_of ms) own ≡ to c x → Among c cs → Among c ds) → Aims own cs ms → Aims own ds ms
aims_less own cs ds [] h a = own_less own cs ds h a
aims_less own cs ds (catch_mark c ∷ ms) h a = aims_less own (c ∷ cs) (c ∷ ds) ms (λ d x e s. ⊎_elim (λ t. inl t) (λ t. inr (h d x e t)) s) a
aims_less own cs ds (protect_mark u ∷ ms) h a = aims_less own cs ds ms h a
aims_less own cs ds (cleanup_mark u k ∷ ms) h a = (inner_less k.aim cs ds h a.0, a.1)
aims_less own cs ds (base_mark b ∷ ms) h a = aims_less own cs ds ms h a

pub aims_more : (own : Aim) (c : ℕ) (ms : List Mark) → Aims own [] ms → Aims own (c ∷ []) ms
aims_more own c ms a = aims_less own [] (c ∷ []) ms (λ d x e s. absurd s) a

pub aims_free : (cs : List ℕ) (ms : List Mark) → in_cleanup (cleanups_of ms) ≡ false → Aims free cs ms
aims_free cs [] n = tt
aims_free cs (catch_mark c ∷ ms) n = aims_free (c ∷ cs) ms n
aims_free cs (protect_mark u ∷ ms) n = aims_free cs ms n
aims_free cs (cleanup_mark u k ∷ ms) n = absurd (not_both refl n)
aims_free cs (base_mark b ∷ ms) n = aims_free cs ms n

pub aims_die : (own : Aim) (cs : List ℕ) (ms : List Mark) → Aims own cs ms → Aims die cs ms
aims_die own cs [] a = tt
aims_die own cs (catch_mark c ∷ ms) a = aims_die own (c ∷ cs) ms a
aims_die own cs (protect_mark u ∷ ms) a = aims_die own cs ms a
aims_die own cs (cleanup_mark u k ∷ ms) a = (a.0, aims_die own [] ms a.1)
aims_die own cs (base_mark b ∷ ms) a = aims_die own cs ms a

-- the innermost cleanup's aim becomes free
pub aims_landed : (own : Aim) (cs ds : List ℕ) (ms : List Mark) → in_cleanup (cleanups_of ms) ≡ true → Aims own cs ms → Aims own ds (aim_marks free ms)
aims_landed own cs ds [] n a = absurd (not_both n refl)
aims_landed own cs ds (catch_mark c ∷ ms) n a = aims_landed own (c ∷ cs) (c ∷ ds) ms n a
aims_landed own cs ds (protect_mark u ∷ ms) n a = aims_landed own cs ds ms n a
aims_landed own cs ds (cleanup_mark u k ∷ ms) n a = (tt, a.1)
aims_landed own cs ds (base_mark b ∷ ms) n a = aims_landed own cs ds ms n a

-- or a catch above it
pub aims_inner : (own : Aim) (c : ℕ) (x : Word) (cs : List ℕ) (ms : List Mark) → in_cleanup (cleanups_of ms) ≡ true → Among c cs ⊎ Near c ms → Aims own cs ms → Aims own cs (aim_marks (to c x) ms)
aims_inner own c x cs [] n s a = absurd (not_both n refl)
aims_inner own c x cs (catch_mark d ∷ ms) n s a =
    aims_inner own c x (d ∷ cs) ms n (⊎_elim (λ t. inl (inr t)) (λ t. ⊎_elim (λ u. inl (inl u)) (λ u. inr u) t) s) a
aims_inner own c x cs (protect_mark u ∷ ms) n s a = aims_inner own c x cs ms n s a
aims_inner own c x cs (cleanup_mark u k ∷ ms) n s a = (⊎_elim (λ t. t) (λ t. absurd t) s, a.1)
aims_inner own c x cs (base_mark b ∷ ms) n s a = aims_inner own c x cs ms n s a

-- a process leaves for a catch on its frames that stands above no running cleanup
pub aims_to : (own : Aim) (c : ℕ) (x : Word) (cs : List ℕ) (ms : List Mark) → Stands c ms ⊎ (Among c cs × (in_cleanup (cleanups_of ms) ≡ false)) → (StandsAbove c ms → ⊥) → Aims own cs ms → Aims (to c x) cs ms
aims_to own c x cs [] s n a = ⊎_elim (λ t. absurd t) (λ t. t.0) s
aims_to own c x cs (catch_mark d ∷ ms) s n a =
    aims_to own c x (d ∷ cs) ms
    (⊎_elim
    (λ t. ⊎_elim (λ (u : c ≡ d). ⊎_elim (λ (v : in_cleanup (cleanups_of ms) ≡ true). absurd (n (inl (u, v)))) (λ (v : in_cleanup (cleanups_of ms) ≡ false). inr (inl u, v)) (cases (in_cleanup (cleanups_of ms)))) (λ u. inl u) t)
    (λ t. inr (inr t.0, t.1))
    s)
    (λ z. n (inr z)) a
aims_to own c x cs (protect_mark u ∷ ms) s n a = aims_to own c x cs ms s n a
aims_to own c x cs (cleanup_mark u k ∷ ms) s n a = (a.0, aims_to own c x [] ms (⊎_elim (λ t. inl t) (λ t. absurd (not_both refl t.1)) s) n a.1)
aims_to own c x cs (base_mark b ∷ ms) s n a = aims_to own c x cs ms s n a

pub floors_less : (made h : ℕ) (cs ds : List ℕ) (ms : List Mark) → ((f : ℕ) → f < made → AllOver f cs → AllOver f ds) → LowFloors made ms → Floors h cs ms → Floors h ds ms
floors_less made h cs ds [] g l a = tt
floors_less made h cs ds (catch_mark c ∷ ms) g l a = floors_less made h (c ∷ cs) (c ∷ ds) ms (λ f z s. (s.0, g f z s.1)) l a
floors_less made h cs ds (protect_mark u ∷ ms) g l a = floors_less made h cs ds ms g l a
floors_less made h cs ds (cleanup_mark u k ∷ ms) g l a = (g k.floor l.0 a.0, (a.1.0, floors_less made h cs ds ms g l.1 a.1.1))
floors_less made h cs ds (base_mark b ∷ ms) g l a = floors_less made h cs ds ms g l a

pub low_more : (made : ℕ) (ms : List Mark) → LowFloors made ms → LowFloors (suc made) ms
low_more made [] l = tt
low_more made (catch_mark c ∷ ms) l = low_more made ms l
low_more made (protect_mark u ∷ ms) l = low_more made ms l
low_more made (cleanup_mark u k ∷ ms) l = (let a = l.0 in omega (arith, a), low_more made ms l.1)
low_more made (base_mark b ∷ ms) l = low_more made ms l

-- a catch on the frames with a number above the floor of the innermost cleanup stands above that
pub near_floor : (ks : List Catch) (p h c : ℕ) (j : Cleanup) (js : List Cleanup) (cs : List ℕ) (ms : List Mark) → Falling ks → Chained ks p h ms → Floors h cs ms → cleanups_of ms ≡ j ∷ js → j.floor < c → Stands c ms ⊎ (c ≤ h) → Near c ms
near_floor ks p h c j js cs [] f k a e l s = absurd cc
near_floor ks p h c j js cs (catch_mark d ∷ ms) f k a e l s =
    ⊎_elim
    (λ t. ⊎_elim (λ u. inl u) (λ u. inr (near_floor ks p h c j js (d ∷ cs) ms f k.1 a e l (inl u))) t)
    (λ t. inr (near_floor ks p h c j js (d ∷ cs) ms f k.1 a e l (inr t)))
    s
near_floor ks p h c j js cs (protect_mark u ∷ ms) f k a e l s = near_floor ks p h c j js cs ms f k a e l s
near_floor ks p h c j js cs (cleanup_mark u i ∷ ms) f k a e l s =
    let same : i ≡ j = cc in
    let floor : i.floor ≡ j.floor = ap (λ (z : Cleanup). z.floor) same in
    let b = a.1.0 in
    let under : c ≤ innermost_or h ms = ⊎_elim (λ t. stands_under ks p h c ms f k t) (λ t. let r = home_under ks p h ms f k in omega (arith, r, t)) s in
    absurd (omega (arith, b, under, floor, l))
near_floor ks p h c j js cs (base_mark b ∷ ms) f k a e l s = near_floor ks p h c j js cs ms f k a e l s

pub near_above : (c : ℕ) (ms : List Mark) → in_cleanup (cleanups_of ms) ≡ true → Near c ms → StandsAbove c ms
near_above c [] n s = s
near_above c (catch_mark d ∷ ms) n s = ⊎_elim (λ t. inl (t, n)) (λ t. inr (near_above c ms n t)) s
near_above c (protect_mark u ∷ ms) n s = near_above c ms n s
near_above c (cleanup_mark u k ∷ ms) n s = absurd s
near_above c (base_mark b ∷ ms) n s = near_above c ms n s

-- the innermost cleanup's aim matters to nothing else

module _ (a : Aim) where
  pub aim_innermost : (h : ℕ) (ms : List Mark) → innermost_or h (aim_marks a ms) ≡ innermost_or h ms
  aim_innermost h [] = refl
  aim_innermost h (catch_mark c ∷ ms) = refl
  aim_innermost h (protect_mark u ∷ ms) = aim_innermost h ms
  aim_innermost h (cleanup_mark u k ∷ ms) = refl
  aim_innermost h (base_mark b ∷ ms) = aim_innermost h ms

  pub aim_cleans : (ms : List Mark) → in_cleanup (cleanups_of (aim_marks a ms)) ≡ in_cleanup (cleanups_of ms)
  aim_cleans [] = refl
  aim_cleans (catch_mark c ∷ ms) = aim_cleans ms
  aim_cleans (protect_mark u ∷ ms) = aim_cleans ms
  aim_cleans (cleanup_mark u k ∷ ms) = refl
  aim_cleans (base_mark b ∷ ms) = aim_cleans ms

  pub aim_acts : (own : Aim) (ms : List Mark) → in_cleanup (cleanups_of ms) ≡ true → acting (cleanups_of (aim_marks a ms)) own ≡ a
  aim_acts own [] n = absurd (not_both n refl)
  aim_acts own (catch_mark c ∷ ms) n = aim_acts own ms n
  aim_acts own (protect_mark u ∷ ms) n = aim_acts own ms n
  aim_acts own (cleanup_mark u k ∷ ms) n = refl
  aim_acts own (base_mark b ∷ ms) n = aim_acts own ms n

  pub aim_stands : (c : ℕ) (ms : List Mark) → Stands c (aim_marks a ms) ≡ Stands c ms
  aim_stands c [] = refl
  aim_stands c (catch_mark d ∷ ms) = ap (λ z. (c ≡ d) ⊎ z) (aim_stands c ms)
  aim_stands c (protect_mark u ∷ ms) = aim_stands c ms
  aim_stands c (cleanup_mark u k ∷ ms) = refl
  aim_stands c (base_mark b ∷ ms) = aim_stands c ms

  pub aim_above : (c : ℕ) (ms : List Mark) → StandsAbove c (aim_marks a ms) → StandsAbove c ms
  aim_above c [] s = s
  aim_above c (catch_mark d ∷ ms) s = ⊎_elim (λ t. inl (t.0, sym (aim_cleans ms) ∙ t.1)) (λ t. inr (aim_above c ms t)) s
  aim_above c (protect_mark u ∷ ms) s = aim_above c ms s
  aim_above c (cleanup_mark u k ∷ ms) s = s
  aim_above c (base_mark b ∷ ms) s = aim_above c ms s

  pub aim_chained : (ks : List Catch) (p h : ℕ) (ms : List Mark) → Chained ks p h ms → Chained ks p h (aim_marks a ms)
  aim_chained ks p h [] k = k
  aim_chained ks p h (catch_mark d ∷ ms) k = (subst (IsOpen ks p d) (sym (aim_innermost h ms)) k.0, aim_chained ks p h ms k.1)
  aim_chained ks p h (protect_mark u ∷ ms) k = aim_chained ks p h ms k
  aim_chained ks p h (cleanup_mark u j ∷ ms) k = k
  aim_chained ks p h (base_mark b ∷ ms) k = aim_chained ks p h ms k

  pub aim_floors : (h : ℕ) (cs : List ℕ) (ms : List Mark) → Floors h cs ms → Floors h cs (aim_marks a ms)
  aim_floors h cs [] f = f
  aim_floors h cs (catch_mark d ∷ ms) f = aim_floors h (d ∷ cs) ms f
  aim_floors h cs (protect_mark u ∷ ms) f = aim_floors h cs ms f
  aim_floors h cs (cleanup_mark u k ∷ ms) f = f
  aim_floors h cs (base_mark b ∷ ms) f = aim_floors h cs ms f

  pub aim_low : (made : ℕ) (ms : List Mark) → LowFloors made ms → LowFloors made (aim_marks a ms)
  aim_low made [] f = f
  aim_low made (catch_mark d ∷ ms) f = aim_low made ms f
  aim_low made (protect_mark u ∷ ms) f = aim_low made ms f
  aim_low made (cleanup_mark u k ∷ ms) f = f
  aim_low made (base_mark b ∷ ms) f = aim_low made ms f

  aim_nothing : (ms : List Mark) → ms ≡ [] → aim_marks a ms ≡ []
  aim_nothing [] e = refl
  aim_nothing (m ∷ ms) e = absurd cc

  pub aim_based : (kind : Kind) (ms : List Mark) → Based kind ms → Based kind (aim_marks a ms)
  aim_based kind [] f = f
  aim_based kind (catch_mark d ∷ ms) f = aim_based kind ms f
  aim_based kind (protect_mark u ∷ ms) f = aim_based kind ms f
  aim_based kind (cleanup_mark u k ∷ ms) f = f
  aim_based kind (base_mark b ∷ ms) f = (f.0, aim_nothing ms f.1)

  pub aim_holds : (stage : Stage) (u : ℕ) (ms : List Mark) → Holds stage u (aim_marks a ms) ≡ Holds stage u ms
  aim_holds waiting u [] = refl
  aim_holds running u [] = refl
  aim_holds waiting u (catch_mark d ∷ ms) = aim_holds waiting u ms
  aim_holds running u (catch_mark d ∷ ms) = aim_holds running u ms
  aim_holds waiting u (protect_mark v ∷ ms) = ap (λ z. (u ≡ v) ⊎ z) (aim_holds waiting u ms)
  aim_holds running u (protect_mark v ∷ ms) = aim_holds running u ms
  aim_holds waiting u (cleanup_mark v k ∷ ms) = refl
  aim_holds running u (cleanup_mark v k ∷ ms) = refl
  aim_holds waiting u (base_mark b ∷ ms) = aim_holds waiting u ms
  aim_holds running u (base_mark b ∷ ms) = aim_holds running u ms

  aim_under : (u : ℕ) (ms : List Mark) → AllUnder u ms → AllUnder u (aim_marks a ms)
  aim_under u [] f = f
  aim_under u (catch_mark d ∷ ms) f = aim_under u ms f
  aim_under u (protect_mark v ∷ ms) f = (f.0, aim_under u ms f.1)
  aim_under u (cleanup_mark v k ∷ ms) f = f
  aim_under u (base_mark b ∷ ms) f = aim_under u ms f

  pub aim_rising : (ms : List Mark) → Rising ms → Rising (aim_marks a ms)
  aim_rising [] f = f
  aim_rising (catch_mark d ∷ ms) f = aim_rising ms f
  aim_rising (protect_mark v ∷ ms) f = (aim_under v ms f.0, aim_rising ms f.1)
  aim_rising (cleanup_mark v k ∷ ms) f = f
  aim_rising (base_mark b ∷ ms) f = aim_rising ms f
