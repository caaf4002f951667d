-- A sound code can be walked, and all that is walked has its shape in each table.
use Rattle.std.proofs.Common.{◌≡◌, ◌⊎◌, ℕ, zero, suc, ◌+◌, ◌<◌, Bool, true, false, List, [], ◌∷◌, ◌++◌, length, Option, Some, None, refl, sym, ap, ◌∙◌, subst, ⊎_elim, inl, inr, arith}
use Rattle.std.specs.Prelude.{◌==◌, ◌||◌, ltb, if◌then◌else◌, slice_get, option_map}
use Rattle.std.proofs.lemmas.Bool.{ltb-true, ltb-false, eq-eqb}
use Rattle.ql_code.specs.Code.{Op, lit, local, box_get, global_get, box_set, global_set, branch, jump, drop, slide, bind, call, return, close, funcall, funcall_drop, touch, qlet, join, qlambda, catch, qcatch, exit, throw, protect, leave, end_clean, prim, cons, print, end, Instruction, FunEntry, Code}
use Rattle.ql_code.specs.Sound.{Shape, Start, main, body, Target, under, Rule, children, op_rule, led, is_own, after, All, Leads, Has, Enters, Sound}
use Rattle.ql_code.specs.Reached.{IsIn}
use Rattle.ql_code.specs.Walk.{same_place, shape_in, met, onwards, walk, entered, begun, children_of, named_by, starts_from, entry_starts, starts_of, Places, places_from, all_places, are_masks, walked}
use Rattle.ql_code.proofs.WalkIsSound.{if_both, which, start_self, place_is, shape_self, if_same, if_other, following}

-- the starts that an instruction leads to
module _ (S : List Start) where
  abbrev AllIn : List Start → Type 0
  AllIn [] = Unit {0}
  AllIn (s ∷ ss) = IsIn s S × AllIn ss

  abbrev InS : Start → ℕ → Shape → Type 0
  InS s pc sh = IsIn s S

  children_in : (n t : ℕ) (ls : List ℕ) (r : Shape) → AllIn (children_of t ls) → All InS (children n ls t r)
  children_in n t [] r h = tt
  children_in n t (l ∷ []) r h = h
  children_in n t (l ∷ (k ∷ ls)) r h = (h.0, children_in (n + 1) t (k ∷ ls) r h.1)

  module _ (code : Code) (s : Start) (pc : ℕ) (sh : Shape) (here : IsIn s S) (next : IsIn (body (pc + 1)) S) where
    join_in : (b : Bool) (x : Shape) → is_own s pc ≡ b → All InS ((op_rule code s pc sh join).goes x)
    join_in true x e = rw e tt
    join_in false x e = rw e (here, tt)

    goes_in : (o : Op) (x : Shape) → AllIn (named_by o) → All InS ((op_rule code s pc sh o).goes x)
    goes_in (lit w) x h = (here, tt)
    goes_in (local i) x h = (here, tt)
    goes_in (box_get i) x h = (here, tt)
    goes_in (global_get g) x h = (here, tt)
    goes_in (box_set i) x h = (here, tt)
    goes_in (global_set g) x h = (here, tt)
    goes_in (branch l) x h = (here, (here, tt))
    goes_in (jump l) x h = (here, tt)
    goes_in drop x h = (here, tt)
    goes_in (slide n) x h = (here, tt)
    goes_in (bind n mask) x h = (here, tt)
    goes_in (call l n mask) x h = (here, tt)
    goes_in return x h = tt
    goes_in (close n mask is l) x h = (here, (next, tt))
    goes_in (funcall n) x h = (here, (here, tt))
    goes_in (funcall_drop n) x h = (here, tt)
    goes_in (touch n) x h = (here, tt)
    goes_in (qlet ls t b) x h = (here, (here, (here, children_in 0 t ls x h)))
    goes_in join x h = join_in (is_own s pc) x refl
    goes_in (qlambda n mask is l) x h = (here, (next, tt))
    goes_in (catch l) x h = (here, (here, tt))
    goes_in (qcatch l) x h = (here, (here, tt))
    goes_in exit x h = (here, tt)
    goes_in throw x h = (here, tt)
    goes_in (protect l) x h = (here, (here, tt))
    goes_in leave x h = (here, tt)
    goes_in end_clean x h = (here, tt)
    goes_in (prim n) x h = (here, tt)
    goes_in cons x h = (here, tt)
    goes_in print x h = (here, tt)
    goes_in end x h = tt

    mapped : (f : Shape → List Target) (o : Option Shape) (us : List Target) → option_map f o ≡ Some us → (x : Shape) × (f x ≡ us)
    mapped f None us h = absurd cc
    mapped f (Some x) us h = (x, cc)

    led_on : (r : Rule) (us : List Target) → led r sh ≡ Some us → (x : Shape) × (r.goes x ≡ us)
    led_on r us h = ⊎_elim (λ (e : r.asks ≡ true). mapped r.goes (under r.takes sh) us (sym (if_same (option_map r.goes (under r.takes sh)) None e) ∙ h)) (λ (e : r.asks ≡ false). let k : None ≡ Some us = sym (if_other (option_map r.goes (under r.takes sh)) None e) ∙ h in absurd cc) (which r.asks)

    after_in : (i : Instruction) (us : List Target) → AllIn (named_by i.op) → after code s pc sh (Some i) ≡ Some us → All InS us
    after_in i us h e = let (x, f) = led_on (op_rule code s pc sh i.op) us e in subst (All InS) f (goes_in i.op x h)

in_left : {A : Type 0} (x : A) (xs ys : List A) → IsIn x xs → IsIn x (xs ++ ys)
in_left x [] ys h = absurd h
in_left x (z ∷ xs) ys h = ⊎_elim (λ (e : x ≡ z). inl e) (λ (k : IsIn x xs). inr (in_left x xs ys k)) h

in_right : {A : Type 0} (x : A) (xs ys : List A) → IsIn x ys → IsIn x (xs ++ ys)
in_right x [] ys h = h
in_right x (z ∷ xs) ys h = inr (in_right x xs ys h)

all_in_left : (ss xs ys : List Start) → AllIn xs ss → AllIn (xs ++ ys) ss
all_in_left [] xs ys h = tt
all_in_left (s ∷ ss) xs ys h = (in_left s xs ys h.0, all_in_left ss xs ys h.1)

all_in_right : (ss xs ys : List Start) → AllIn ys ss → AllIn (xs ++ ys) ss
all_in_right [] xs ys h = tt
all_in_right (s ∷ ss) xs ys h = (in_right s xs ys h.0, all_in_right ss xs ys h.1)

all_more : (ss xs : List Start) (s : Start) → AllIn xs ss → AllIn (s ∷ xs) ss
all_more [] xs s h = tt
all_more (r ∷ ss) xs s h = (inr h.0, all_more ss xs s h.1)

all_self : (ss : List Start) → AllIn ss ss
all_self [] = tt
all_self (s ∷ ss) = (inl refl, all_more ss ss s (all_self ss))

named_there : (k j : ℕ) (is : List Instruction) (i : Instruction) → slice_get is j ≡ Some i → IsIn (body (k + j + 1)) (starts_from k is) × AllIn (starts_from k is) (named_by i.op)
named_there k j [] i e = absurd cc
named_there k zero (x ∷ is) i e =
    let f : x ≡ i = cc in
    let m : k + 0 + 1 ≡ k + 1 = omega arith in (
      inl (ap body m),
      subst (λ (y : Instruction). AllIn (body (k + 1) ∷ named_by x.op ++ starts_from (k + 1) is) (named_by y.op)) f
          (all_more (named_by x.op) (named_by x.op ++ starts_from (k + 1) is) (body (k + 1)) (all_in_left (named_by x.op) (named_by x.op) (starts_from (k + 1) is) (all_self (named_by x.op)))),
    )
named_there k (suc j) (x ∷ is) i e =
    let (a, b) = named_there (k + 1) j is i e in
    let m : k + 1 + j + 1 ≡ k + suc j + 1 = omega arith in (
      inr (in_right (body (k + suc j + 1)) (named_by x.op) (starts_from (k + 1) is) (subst (λ z. IsIn (body z) (starts_from (k + 1) is)) m a)),
      all_more (named_by i.op) (named_by x.op ++ starts_from (k + 1) is) (body (k + 1)) (all_in_right (named_by i.op) (named_by x.op) (starts_from (k + 1) is) b),
    )

there : (is : List Instruction) (j : ℕ) (i : Instruction) → slice_get is j ≡ Some i → j < length is
there [] j i e = absurd cc
there (x ∷ is) zero i e = omega arith
there (x ∷ is) (suc j) i e = let h = there is j i e in omega (arith, h)

-- what is left of the places
abbrev has_key : Places → Start → ℕ → Bool
has_key [] s pc = false
has_key (k ∷ ks) s pc = same_place k.0 k.1 s pc || has_key ks s pc

abbrev removed : Places → Start → ℕ → Places
removed [] s pc = []
removed (k ∷ ks) s pc = if same_place k.0 k.1 s pc then ks else k ∷ removed ks s pc

removed_one : (ks : Places) (s : Start) (pc : ℕ) → has_key ks s pc ≡ true → length ks ≡ suc (length (removed ks s pc))
removed_one [] s pc h = absurd cc
removed_one (k ∷ ks) s pc h =
    ⊎_elim
    (λ (e : same_place k.0 k.1 s pc ≡ true). ap (λ z. suc (length z)) (sym (if_same ks (k ∷ removed ks s pc) e)))
    (λ (e : same_place k.0 k.1 s pc ≡ false).
    let g : has_key ks s pc ≡ true = sym (ap (λ z. z || has_key ks s pc) e) ∙ h in
    ap suc (removed_one ks s pc g) ∙ ap (λ z. suc (length z)) (sym (if_other ks (k ∷ removed ks s pc) e)))
    (which (same_place k.0 k.1 s pc))

-- another one stays
still : (ks : Places) (s r : Start) (pc q : ℕ) → has_key ks r q ≡ true → (same_place s pc r q ≡ true) ⊎ (has_key (removed ks s pc) r q ≡ true)
still [] s r pc q h = absurd cc
still (k ∷ ks) s r pc q h =
    ⊎_elim
    (λ (e : same_place k.0 k.1 s pc ≡ true).
    ⊎_elim
    (λ (f : same_place k.0 k.1 r q ≡ true). let (a, b) = place_is k.0 s k.1 pc e in inl (subst (λ z. same_place z pc r q ≡ true) a (subst (λ z. same_place k.0 z r q ≡ true) b f)))
    (λ (f : same_place k.0 k.1 r q ≡ false). inr (ap (λ z. has_key z r q) (if_same ks (k ∷ removed ks s pc) e) ∙ sym (ap (λ z. z || has_key ks r q) f) ∙ h))
    (which (same_place k.0 k.1 r q)))
    (λ (e : same_place k.0 k.1 s pc ≡ false).
    let back = ap (λ z. has_key z r q) (if_other ks (k ∷ removed ks s pc) e) in
    ⊎_elim
    (λ (f : same_place k.0 k.1 r q ≡ true). inr (back ∙ ap (λ z. z || has_key (removed ks s pc) r q) f))
    (λ (f : same_place k.0 k.1 r q ≡ false).
    ⊎_elim (λ (g : same_place s pc r q ≡ true). inl g) (λ (g : has_key (removed ks s pc) r q ≡ true). inr (back ∙ ap (λ z. z || has_key (removed ks s pc) r q) f ∙ g))
    (still ks s r pc q (sym (ap (λ z. z || has_key ks r q) f) ∙ h)))
    (which (same_place k.0 k.1 r q)))
    (which (same_place k.0 k.1 s pc))

or_right : (a : Bool) {b : Bool} → b ≡ true → (a || b) ≡ true
or_right true h = refl
or_right false h = h

or_left : {a : Bool} (b : Bool) → a ≡ true → (a || b) ≡ true
or_left b h = rw h refl

key_front : (xs ys : Places) (s : Start) (pc : ℕ) → has_key xs s pc ≡ true → has_key (xs ++ ys) s pc ≡ true
key_front [] ys s pc h = absurd cc
key_front (x ∷ xs) ys s pc h =
    ⊎_elim (λ (e : same_place x.0 x.1 s pc ≡ true). or_left (has_key (xs ++ ys) s pc) e) (λ (e : same_place x.0 x.1 s pc ≡ false). or_right (same_place x.0 x.1 s pc) (key_front xs ys s pc (sym (ap (λ z. z || has_key xs s pc) e) ∙ h))) (which (same_place x.0 x.1 s pc))

key_back : (xs ys : Places) (s : Start) (pc : ℕ) → has_key ys s pc ≡ true → has_key (xs ++ ys) s pc ≡ true
key_back [] ys s pc h = h
key_back (x ∷ xs) ys s pc h = or_right (same_place x.0 x.1 s pc) (key_back xs ys s pc h)

less : (n pc : ℕ) → pc < suc n → (n == pc) ≡ false → pc < n
less n pc h e =
    ⊎_elim (λ (f : ltb pc n ≡ true). ltb-true pc n f)
    (λ (f : ltb pc n ≡ false). let l = ltb-false pc n f in let m : n ≡ pc = omega (arith, h, l) in let t : (n == pc) ≡ true = eq-eqb n pc m in let z : true ≡ false = sym t ∙ e in absurd cc)
    (which (ltb pc n))

from_start : (s : Start) (n pc : ℕ) → pc < n → has_key (places_from s n) s pc ≡ true
from_start s zero pc h = absurd (omega (arith, h))
from_start s (suc n) pc h =
    ⊎_elim (λ (e : (n == pc) ≡ true). or_left (has_key (places_from s n) s pc) (if_both (start_self s) e))
    (λ (e : (n == pc) ≡ false). or_right (same_place s n s pc) (from_start s n pc (less n pc h e)))
    (which (n == pc))

all_there : (ss : List Start) (n : ℕ) (s : Start) (pc : ℕ) → IsIn s ss → pc < n → has_key (all_places ss n) s pc ≡ true
all_there [] n s pc h l = absurd h
all_there (r ∷ ss) n s pc h l =
    ⊎_elim
    (λ (e : s ≡ r). key_front (places_from r n) (all_places ss n) s pc (subst (λ z. has_key (places_from z n) s pc ≡ true) e (from_start s n pc l)))
    (λ (k : IsIn s ss). key_back (places_from r n) (all_places ss n) s pc (all_there ss n s pc k l))
    h

seen : {X : Type 0} (o : Option X) → (o ≡ None) ⊎ ((x : X) × (o ≡ Some x))
seen None = inl refl
seen (Some x) = inr (x, refl)

module _ (At : Start → ℕ → Shape → Type 0) where
  pub shape_at : (ts : List Target) (s : Start) (pc : ℕ) (sh : Shape) → All At ts → shape_in ts s pc ≡ Some sh → At s pc sh
  shape_at [] s pc sh h e = absurd cc
  shape_at (t ∷ ts) s pc sh h e =
      ⊎_elim
      (λ (f : same_place t.start t.place s pc ≡ true).
      let (a, b) = place_is t.start s t.place pc f in
      let c : Some t.shape ≡ Some sh = sym (if_same (Some t.shape) (shape_in ts s pc) f) ∙ e in
      let d : t.shape ≡ sh = cc in
      subst (λ z. At z pc sh) a (subst (λ z. At t.start z sh) b (subst (At t.start t.place) d h.0)))
      (λ (f : same_place t.start t.place s pc ≡ false). shape_at ts s pc sh h.1 (sym (if_other (Some t.shape) (shape_in ts s pc) f) ∙ e))
      (which (same_place t.start t.place s pc))

  both_parts : (us ts : List Target) → All At us → All At ts → All At (us ++ ts)
  both_parts [] ts h k = k
  both_parts (u ∷ us) ts h k = (h.0, both_parts us ts h.1 k)

  leads_some : (o : Option (List Target)) → Leads At o → (us : List Target) × ((o ≡ Some us) × All At us)
  leads_some None h = absurd h
  leads_some (Some us) h = (us, (refl, h))

met_same : {X : Type 0} (o : Option Shape) (r sh : Shape) (a b : Option X) → o ≡ Some r → r ≡ sh → met o sh a b ≡ a
met_same o r sh a b e f = ap (λ z. met z sh a b) e ∙ ap (λ z. met (Some r) z a b) (sym f) ∙ if_same a None (shape_self r)

met_new : {X : Type 0} (o : Option Shape) (sh : Shape) (a b : Option X) → o ≡ None → met o sh a b ≡ b
met_new o sh a b e = ap (λ z. met z sh a b) e

all_weaker : (ts : List Target) (s : Start) (xs : List Start) → All (InS xs) ts → All (InS (s ∷ xs)) ts
all_weaker [] s xs h = tt
all_weaker (t ∷ ts) s xs h = (inr h.0, all_weaker ts s xs h.1)

entries_in : (es : List FunEntry) (xs : List Start) → All (InS (entry_starts es ++ xs)) (entered es)
entries_in [] xs = tt
entries_in (e ∷ es) xs = (inl refl, all_weaker (entered es) (body e.place) (entry_starts es ++ xs) (entries_in es xs))

module _ (code : Code) (so : Sound code) where
  abbrev S : List Start
  S = starts_of code

  abbrev places : ℕ
  places = length code.instructions

  abbrev H : Start → ℕ → Shape → Type 0
  H = Has so.table

  abbrev Cover : List Target → Places → Type 0
  Cover known left = (s : Start) (pc : ℕ) → IsIn s S → pc < places → ((sh : Shape) × (shape_in known s pc ≡ Some sh)) ⊎ (has_key left s pc ≡ true)

  one_shape : (s : Start) (pc : ℕ) (sh r : Shape) → H s pc sh → H s pc r → sh ≡ r
  one_shape s pc sh r h k = let e : Some sh ≡ Some r = sym h ∙ k in cc

  -- what a place leads to
  record Step (t : Target) : Type 0 where
    pub goes : List Target
    pub is_after : following code t.start t.place t.shape ≡ Some goes
    pub have : All H goes
    pub are_in : All (InS S) goes
    pub within : t.place < places

  step_at : (t : Target) (us : List Target) (o : Option Instruction) → slice_get code.instructions t.place ≡ o → after code t.start t.place t.shape o ≡ Some us → All H us → IsIn t.start S → Step t
  step_at t us None e f h k = absurd cc
  step_at t us (Some i) e f h k =
      let (a, b) = named_there 0 t.place code.instructions i e in
      let m : 0 + t.place + 1 ≡ t.place + 1 = omega arith in
      let in_all : (x : Start) → IsIn x (starts_from 0 code.instructions) → IsIn x S = λ x z. inr (in_right x (entry_starts code.entries) (starts_from 0 code.instructions) z) in
      record {
        goes = us;
        is_after = ap (after code t.start t.place t.shape) e ∙ f;
        have = h;
        are_in = after_in S code t.start t.place t.shape k (in_all (body (t.place + 1)) (subst (λ z. IsIn (body z) (starts_from 0 code.instructions)) m a)) i us
            (all_more (named_by i.op) (entry_starts code.entries ++ starts_from 0 code.instructions) main (all_in_right (named_by i.op) (entry_starts code.entries) (starts_from 0 code.instructions) b)) f;
        within = there code.instructions t.place i e;
      }

  step : (t : Target) → H t.start t.place t.shape → IsIn t.start S → Step t
  step t h k = let (us, (e, a)) = leads_some H (following code t.start t.place t.shape) (so.kept t.start t.place t.shape h) in step_at t us (slice_get code.instructions t.place) refl e a k

  covered_on : (known : List Target) (left : Places) (t : Target) → Cover known left → Cover (t ∷ known) (removed left t.start t.place)
  covered_on known left t c s pc k l =
      ⊎_elim
      (λ (e : same_place t.start t.place s pc ≡ true). inl (t.shape, if_same (Some t.shape) (shape_in known s pc) e))
      (λ (e : same_place t.start t.place s pc ≡ false).
      ⊎_elim
      (λ (z : (sh : Shape) × (shape_in known s pc ≡ Some sh)). inl (z.0, if_other (Some t.shape) (shape_in known s pc) e ∙ z.1))
      (λ (z : has_key left s pc ≡ true).
      ⊎_elim (λ (g : same_place t.start t.place s pc ≡ true). inl (t.shape, if_same (Some t.shape) (shape_in known s pc) g)) (λ (g : has_key (removed left t.start t.place) s pc ≡ true). inr g)
      (still left t.start s t.place pc z))
      (c s pc k l))
      (which (same_place t.start t.place s pc))

  abbrev Ends : ℕ → List Target → List Target → Type 0
  Ends n known todo = (K : List Target) × ((walk code n known todo ≡ Some K) × All H K)

  not_left : (known : List Target) (left : Places) (t : Target) → Cover known left → shape_in known t.start t.place ≡ None → IsIn t.start S → t.place < places → has_key left t.start t.place ≡ true
  not_left known left t c e k l = ⊎_elim (λ (z : (sh : Shape) × (shape_in known t.start t.place ≡ Some sh)). let f : None ≡ Some z.0 = sym e ∙ z.1 in absurd cc) (λ (z : has_key left t.start t.place ≡ true). z) (c t.start t.place k l)

  pub walk_ends : (n : ℕ) (left : Places) (known todo : List Target) → n ≡ length left → All H known → All H todo → All (InS S) todo → Cover known left → Ends n known todo
  walk_ends n left known [] e h a i c = (known, (refl, h))
  walk_ends zero left known (t ∷ ts) e h a i c =
      ⊎_elim
      (λ (f : shape_in known t.start t.place ≡ None).
      let st = step t a.0 i.0 in
      let g = removed_one left t.start t.place (not_left known left t c f i.0 st.within) in absurd (omega (arith, e, g)))
      (λ (f : (sh : Shape) × (shape_in known t.start t.place ≡ Some sh)).
      let (K, (g, g')) = walk_ends zero left known ts e h a.1 i.1 c in
      let same = one_shape t.start t.place f.0 t.shape (shape_at H known t.start t.place f.0 h f.1) a.0 in
      (K, (met_same (shape_in known t.start t.place) f.0 t.shape (walk code zero known ts) None f.1 same ∙ g, g')))
      (seen (shape_in known t.start t.place))
  walk_ends (suc n) left known (t ∷ ts) e h a i c =
      let next = onwards (following code t.start t.place t.shape) (λ us. walk code n (t ∷ known) (us ++ ts)) in
      ⊎_elim
      (λ (f : shape_in known t.start t.place ≡ None).
      let st = step t a.0 i.0 in
      let us = st.goes in
      let g = removed_one left t.start t.place (not_left known left t c f i.0 st.within) in
      let (K, (w, w')) = walk_ends n (removed left t.start t.place) (t ∷ known) (us ++ ts) (omega (arith, e, g)) (a.0, h) (both_parts H us ts st.have a.1) (both_parts (InS S) us ts st.are_in i.1) (covered_on known left t c) in
      (K, (met_new (shape_in known t.start t.place) t.shape (walk code (suc n) known ts) next f ∙ ap (λ o. onwards o (λ vs. walk code n (t ∷ known) (vs ++ ts))) st.is_after ∙ w, w')))
      (λ (f : (sh : Shape) × (shape_in known t.start t.place ≡ Some sh)).
      let (K, (g, g')) = walk_ends (suc n) left known ts e h a.1 i.1 c in
      let same = one_shape t.start t.place f.0 t.shape (shape_at H known t.start t.place f.0 h f.1) a.0 in
      (K, (met_same (shape_in known t.start t.place) f.0 t.shape (walk code (suc n) known ts) next f.1 same ∙ g, g')))
      (seen (shape_in known t.start t.place))

  entries_have : (es : List FunEntry) → Enters so.table es → (are_masks es ≡ true) × All H (entered es)
  entries_have [] h = (refl, tt)
  entries_have (e ∷ es) h = let (a, b, c) = h in let (d, f) = entries_have es c in (if_both a d, (b, f))

  start_have : All H (begun code)
  start_have = (so.begins, (entries_have code.entries so.enters).1)

  start_in : All (InS S) (begun code)
  start_in = (inl refl, all_weaker (entered code.entries) main (entry_starts code.entries ++ starts_from 0 code.instructions) (entries_in code.entries (starts_from 0 code.instructions)))

  pub walks : (K : List Target) × ((walked code ≡ Some K) × All H K)
  walks =
      let left = all_places S places in
      let (K, (w, h)) = walk_ends (length left) left [] (begun code) refl tt start_have start_in (λ s pc k l. inr (all_there S places s pc k l)) in
      let m = if_both (entries_have code.entries so.enters).0 so.quoted in
      (K, (if_same (walk code (length left) [] (begun code)) None m ∙ w, h))
