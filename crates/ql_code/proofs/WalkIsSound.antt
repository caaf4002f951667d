-- What is walked of a code makes it sound.
use Rattle.std.proofs.Common.{◌≡◌, ◌⊎◌, ℕ, zero, suc, Bool, true, false, List, [], ◌∷◌, ◌++◌, length, Option, Some, None, refl, sym, ap, ap₂, ◌∙◌, subst, ⊎_elim, inl, inr}
use Rattle.std.specs.Prelude.{◌&&◌, if◌then◌else◌, slice_get}
use Rattle.std.proofs.lemmas.Bool.{eqb-true, eq-eqb}
use Rattle.ql_code.specs.Code.{FunEntry, Code}
use Rattle.ql_code.specs.Sound.{Part, value, boxed, catching, protecting, cleaning, same_part, Shape, Start, main, body, child, Target, are_constant, after, All, Leads, Has, Enters, Sound}
use Rattle.ql_code.specs.Walk.{same_start, same_shape, same_place, shape_in, met, onwards, walk, entered, begun, starts_of, all_places, are_masks, walked}

pub both : {a b : Bool} → (a && b) ≡ true → (a ≡ true) × (b ≡ true)
both {a = true} {b = true} h = (refl, refl)
both {a = true} {b = false} h = absurd cc
both {a = false} {b = b} h = absurd cc

pub if_both : {a b : Bool} → a ≡ true → b ≡ true → (a && b) ≡ true
if_both e f = rw (e, f) refl

pub which : (b : Bool) → (b ≡ true) ⊎ (b ≡ false)
which true = inl refl
which false = inr refl

pub start_is : (s r : Start) → same_start s r ≡ true → s ≡ r
start_is main main h = refl
start_is main (body m) h = absurd cc
start_is main (child m k) h = absurd cc
start_is (body l) main h = absurd cc
start_is (body l) (body m) h = ap body (eqb-true l m h)
start_is (body l) (child m k) h = absurd cc
start_is (child l own) main h = absurd cc
start_is (child l own) (body m) h = absurd cc
start_is (child l own) (child m k) h = let (e, f) = both h in ap₂ child (eqb-true l m e) (eqb-true own k f)

pub start_self : (s : Start) → same_start s s ≡ true
start_self main = refl
start_self (body l) = eq-eqb l l refl
start_self (child l own) = if_both (eq-eqb l l refl) (eq-eqb own own refl)

part_is : (p q : Part) → same_part p q ≡ true → p ≡ q
part_is value value h = refl
part_is value boxed h = absurd cc
part_is value catching h = absurd cc
part_is value protecting h = absurd cc
part_is value cleaning h = absurd cc
part_is boxed value h = absurd cc
part_is boxed boxed h = refl
part_is boxed catching h = absurd cc
part_is boxed protecting h = absurd cc
part_is boxed cleaning h = absurd cc
part_is catching value h = absurd cc
part_is catching boxed h = absurd cc
part_is catching catching h = refl
part_is catching protecting h = absurd cc
part_is catching cleaning h = absurd cc
part_is protecting value h = absurd cc
part_is protecting boxed h = absurd cc
part_is protecting catching h = absurd cc
part_is protecting protecting h = refl
part_is protecting cleaning h = absurd cc
part_is cleaning value h = absurd cc
part_is cleaning boxed h = absurd cc
part_is cleaning catching h = absurd cc
part_is cleaning protecting h = absurd cc
part_is cleaning cleaning h = refl

part_self : (p : Part) → same_part p p ≡ true
part_self value = refl
part_self boxed = refl
part_self catching = refl
part_self protecting = refl
part_self cleaning = refl

pub shape_is : (sh r : Shape) → same_shape sh r ≡ true → sh ≡ r
shape_is [] [] h = refl
shape_is [] (q ∷ r) h = absurd cc
shape_is (p ∷ sh) [] h = absurd cc
shape_is (p ∷ sh) (q ∷ r) h = let (e, f) = both h in ap₂ (λ x y. x ∷ y) (part_is p q e) (shape_is sh r f)

pub shape_self : (sh : Shape) → same_shape sh sh ≡ true
shape_self [] = refl
shape_self (p ∷ sh) = if_both (part_self p) (shape_self sh)

pub place_is : (s r : Start) (pc q : ℕ) → same_place s pc r q ≡ true → (s ≡ r) × (pc ≡ q)
place_is s r pc q h = let (e, f) = both h in (start_is s r e, eqb-true pc q f)

pub place_self : (s : Start) (pc : ℕ) → same_place s pc s pc ≡ true
place_self s pc = if_both (start_self s) (eq-eqb pc pc refl)

pub if_same : {X : Type 0} {b : Bool} (x y : X) → b ≡ true → (if b then x else y) ≡ x
if_same x y e = rw e refl

pub if_other : {X : Type 0} {b : Bool} (x y : X) → b ≡ false → (if b then x else y) ≡ y
if_other x y e = rw e refl

module _ (code : Code) where
  abbrev pub following : Start → ℕ → Shape → Option (List Target)
  following s pc sh = after code s pc sh (slice_get code.instructions pc)

  pub record Walked (known todo K : List Target) : Type 0 where
    pub more : (s : Start) (pc : ℕ) (sh : Shape) → shape_in known s pc ≡ Some sh → shape_in K s pc ≡ Some sh
    pub has : All (Has (shape_in K)) todo
    pub kept : (s : Start) (pc : ℕ) (sh : Shape) → shape_in K s pc ≡ Some sh → (shape_in known s pc ≡ Some sh) ⊎ Leads (Has (shape_in K)) (following s pc sh)

  fronts : (K us ts : List Target) → All (Has (shape_in K)) (us ++ ts) → All (Has (shape_in K)) us × All (Has (shape_in K)) ts
  fronts K [] ts h = (tt, h)
  fronts K (u ∷ us) ts h = let (a, b) = fronts K us ts h.1 in ((h.0, a), b)

  -- the next one is known
  known_next : (known ts K : List Target) (t : Target) (sh : Shape) → shape_in known t.start t.place ≡ Some sh → sh ≡ t.shape → Walked known ts K → Walked known (t ∷ ts) K
  known_next known ts K t sh e f w = record { more = w.more; has = (w.more t.start t.place t.shape (e ∙ ap Some f), w.has); kept = w.kept }

  -- the next one is new
  new_next : (known ts us K : List Target) (t : Target) → shape_in known t.start t.place ≡ None → following t.start t.place t.shape ≡ Some us → Walked (t ∷ known) (us ++ ts) K → Walked known (t ∷ ts) K
  new_next known ts us K t e f w =
      let (a, b) = fronts K us ts w.has in
      let here : shape_in (t ∷ known) t.start t.place ≡ Some t.shape = if_same (Some t.shape) (shape_in known t.start t.place) (place_self t.start t.place) in
      record {
        more = λ s pc sh h. w.more s pc sh (older s pc sh h (same_place t.start t.place s pc) refl);
        has = (w.more t.start t.place t.shape here, b);
        kept = λ s pc sh h. ⊎_elim (λ (k : shape_in (t ∷ known) s pc ≡ Some sh). mine s pc sh a (same_place t.start t.place s pc) refl k) (λ (l : Leads (Has (shape_in K)) (following s pc sh)). inr l) (w.kept s pc sh h);
      }
    where
      older : (s : Start) (pc : ℕ) (sh : Shape) → shape_in known s pc ≡ Some sh → (o : Bool) → same_place t.start t.place s pc ≡ o → shape_in (t ∷ known) s pc ≡ Some sh
      older s pc sh h true o = let (x, y) = place_is t.start s t.place pc o in let z : shape_in known t.start t.place ≡ shape_in known s pc = ap₂ (shape_in known) x y in absurd cc
      older s pc sh h false o = if_other (Some t.shape) (shape_in known s pc) o ∙ h

      mine : (s : Start) (pc : ℕ) (sh : Shape) → All (Has (shape_in K)) us → (o : Bool) → same_place t.start t.place s pc ≡ o → shape_in (t ∷ known) s pc ≡ Some sh → (shape_in known s pc ≡ Some sh) ⊎ Leads (Has (shape_in K)) (following s pc sh)
      mine s pc sh a true o k =
          let (x, y) = place_is t.start s t.place pc o in
          let z : Some t.shape ≡ Some sh = sym (if_same (Some t.shape) (shape_in known s pc) o) ∙ k in
          let z' : t.shape ≡ sh = cc in
          inr (subst (Leads (Has (shape_in K))) (sym f ∙ ap₂ (λ u v. following u v t.shape) x y ∙ ap (following s pc) z') a)
      mine s pc sh a false o k = inl (sym (if_other (Some t.shape) (shape_in known s pc) o) ∙ k)

  met_known : {X : Type 0} (o : Option Shape) (sh : Shape) (a : Option X) (b : Option X) (x : X) → met o sh a b ≡ Some x → ((r : Shape) × ((o ≡ Some r) × ((r ≡ sh) × (a ≡ Some x)))) ⊎ ((o ≡ None) × (b ≡ Some x))
  met_known None sh a b x h = inr (refl, h)
  met_known (Some r) sh a b x h =
      ⊎_elim (λ (e : same_shape r sh ≡ true). inl (r, (refl, (shape_is r sh e, sym (if_same a None e) ∙ h)))) (λ (e : same_shape r sh ≡ false). let k : None ≡ Some x = sym (if_other a None e) ∙ h in absurd cc) (which (same_shape r sh))

  went_on : {X Y : Type 0} (o : Option X) (f : X → Option Y) (y : Y) → onwards o f ≡ Some y → (x : X) × ((o ≡ Some x) × (f x ≡ Some y))
  went_on None f y h = absurd cc
  went_on (Some x) f y h = (x, (refl, h))

  pub walk_keeps : (n : ℕ) (known todo K : List Target) → walk code n known todo ≡ Some K → Walked known todo K
  walk_keeps n known [] K h = let e : known ≡ K = cc in subst (Walked known []) e (record { more = λ s pc sh k. k; has = tt; kept = λ s pc sh k. inl k })
  walk_keeps zero known (t ∷ ts) K h =
      ⊎_elim
      (λ (z : (r : Shape) × ((shape_in known t.start t.place ≡ Some r) × ((r ≡ t.shape) × (walk code zero known ts ≡ Some K)))). known_next known ts K t z.0 z.1.0 z.1.1.0 (walk_keeps zero known ts K z.1.1.1))
      (λ (z : (shape_in known t.start t.place ≡ None) × (None ≡ Some K)). let e = z.1 in absurd cc)
      (met_known (shape_in known t.start t.place) t.shape (walk code zero known ts) None K h)
  walk_keeps (suc n) known (t ∷ ts) K h =
      let next = onwards (following t.start t.place t.shape) (λ us. walk code n (t ∷ known) (us ++ ts)) in
      ⊎_elim
      (λ (z : (r : Shape) × ((shape_in known t.start t.place ≡ Some r) × ((r ≡ t.shape) × (walk code (suc n) known ts ≡ Some K)))). known_next known ts K t z.0 z.1.0 z.1.1.0 (walk_keeps (suc n) known ts K z.1.1.1))
      (λ (z : (shape_in known t.start t.place ≡ None) × (next ≡ Some K)).
      let (us, (e, f)) = went_on (following t.start t.place t.shape) (λ us. walk code n (t ∷ known) (us ++ ts)) K z.1 in
      new_next known ts us K t z.0 e (walk_keeps n (t ∷ known) (us ++ ts) K f))
      (met_known (shape_in known t.start t.place) t.shape (walk code (suc n) known ts) next K h)

  pub enter : (K : List Target) (es : List FunEntry) → are_masks es ≡ true → All (Has (shape_in K)) (entered es) → Enters (shape_in K) es
  enter K [] m h = tt
  enter K (e ∷ es) m h = let (a, b) = both m in (a, h.0, enter K es b h.1)

  pub from_none : (K : List Target) (s : Start) (pc : ℕ) (sh : Shape) → None ≡ Some sh → Leads (Has (shape_in K)) (following s pc sh)
  from_none K s pc sh e = absurd cc

  abbrev pub sound_of : (K : List Target) → (are_masks code.entries && are_constant 0 code.quoted) ≡ true → Walked [] (begun code) K → Sound code
  sound_of K h w =
      let (a, b) = both h in
      record {
        table = shape_in K;
        begins = w.has.0;
        enters = enter K code.entries a w.has.1;
        kept = λ s pc sh k. ⊎_elim (λ (e : None ≡ Some sh). from_none K s pc sh e) (λ (l : Leads (Has (shape_in K)) (following s pc sh)). l) (w.kept s pc sh k);
        quoted = b;
      }

  -- a code that can be walked is sound
  pub walked_is : (K : List Target) → walked code ≡ Some K → ((are_masks code.entries && are_constant 0 code.quoted) ≡ true) × Walked [] (begun code) K
  walked_is K h =
      let n = length (all_places (starts_of code) (length code.instructions)) in
      ⊎_elim
      (λ (e : (are_masks code.entries && are_constant 0 code.quoted) ≡ true). (e, walk_keeps n [] (begun code) K (sym (if_same (walk code n [] (begun code)) None e) ∙ h)))
      (λ (e : (are_masks code.entries && are_constant 0 code.quoted) ≡ false). let k : None ≡ Some K = sym (if_other (walk code n [] (begun code)) None e) ∙ h in absurd cc)
      (which (are_masks code.entries && are_constant 0 code.quoted))
