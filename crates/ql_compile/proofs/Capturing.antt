-- Sets of names, and what a closure captures.
use Rattle.std.proofs.Common.{◌≡◌, ℕ, ◌==◌, Bool, true, false, not, List, [], ◌∷◌, ◌++◌, ◌+◌, ◌-◌, ◌<◌, zero, suc, arith, get_or, drop-cons, length, take, drop, map, append-nil, append_assoc, Option, Some, None, refl, ap, sym, ◌∙◌, subst, ⊎_elim}
use Rattle.std.specs.Prelude.{◌||◌, ◌&&◌, if◌then◌else◌, Result, OnOk, reverse}
use Rattle.std.specs.List.{list_any}
use Rattle.std.proofs.Math.Seq.{take-append_seam, drop-length}
use Rattle.std.proofs.Math.Bool.{beq}
use Rattle.std.proofs.lemmas.List.{map-append, take-append-drop, length-drop, reverse-append, reverse-reverse}
use Rattle.std.proofs.lemmas.Result.{on_ok_weaker}
use Rattle.ql_expand.specs.Core.{Name, named, hidden, Binder}
use Rattle.ql_compile.proofs.Cases.{or_assoc, or_false}
use Rattle.ql_meaning.specs.Context.{same_name, name_of}
use Rattle.ql_compile.specs.Compile.{Scope, is_name_among, without, without_all, caught, caught_slots}
use Rattle.ql_compile.specs.declared.captured.Taken.{Taken}
use Rattle.ql_compile.specs.Free.{caught_of, named_by, with_name, with_names, Gathered, Finds}
use Rattle.ql_compile.specs.declared.names.Key.{Key}
use Rattle.ql_compile.proofs.Cases.{cases}
use Rattle.ql_compile.proofs.Scopes.{name_same, binds_name}

name_sym : (x y : Name) → same_name x y ≡ same_name y x
name_sym x y =
    ⊎_elim
    (λ (t : same_name x y ≡ true). ap (λ z. same_name x z) (sym (name_same x y t)) ∙ ap (λ z. same_name z x) (name_same x y t))
    (λ (t : same_name x y ≡ false).
    ⊎_elim
    (λ (u : same_name y x ≡ true). ap (λ z. same_name x z) (name_same y x u) ∙ ap (λ z. same_name z x) (sym (name_same y x u)))
    (λ (u : same_name y x ≡ false). t ∙ sym u)
    (cases (same_name y x)))
    (cases (same_name x y))

and_false : (a : Bool) → (a && false) ≡ false
and_false true = refl
and_false false = refl

pub among_append : (x : Name) (xs ys : List Name) → is_name_among x (xs ++ ys) ≡ (is_name_among x xs || is_name_among x ys)
among_append x [] ys = refl
among_append x (z ∷ xs) ys = rw (among_append x xs ys) (sym (or_assoc (same_name x z) (is_name_among x xs) (is_name_among x ys)))

among_without : (xs : List Name) (y x : Name) → is_name_among x (without y xs) ≡ (not (same_name y x) && is_name_among x xs)
among_without [] y x = sym (and_false (not (same_name y x)))
among_without (z ∷ xs) y x =
    ⊎_elim
    (λ (t : same_name y z ≡ true).
    let here : same_name x z ≡ same_name y x = ap (λ w. same_name x w) (sym (name_same y z t)) ∙ name_sym x y in
    rw (t, here, among_without xs y x) (skip (same_name y x) (is_name_among x xs)))
    (λ (t : same_name y z ≡ false).
    let apart : same_name y x ≡ true → same_name x z ≡ false = λ e. ap (λ w. same_name w z) (sym (name_same y x e)) ∙ t in
    rw (t, among_without xs y x) (keep (same_name y x) (same_name x z) (is_name_among x xs) apart))
    (cases (same_name y z))
  where
    skip : (s r : Bool) → (not s && r) ≡ (not s && (s || r))
    skip true r = refl
    skip false r = refl

    keep : (s q r : Bool) → (s ≡ true → q ≡ false) → (q || (not s && r)) ≡ (not s && (q || r))
    keep true q r h = rw (h refl) refl
    keep false q r h = refl

among_without_all : (bs : List Binder) (xs : List Name) (x : Name) → is_name_among x (without_all bs xs) ≡ (not (binds_name bs x) && is_name_among x xs)
among_without_all [] xs x = refl
among_without_all (b ∷ bs) xs x =
    among_without_all bs (without (name_of b) xs) x
    ∙ (ap (λ t. not (binds_name bs x) && t) (among_without xs (name_of b) x) ∙ both (same_name (name_of b) x) (binds_name bs x) (is_name_among x xs))
  where
    both : (s t r : Bool) → (not t && (not s && r)) ≡ (not (s || t) && r)
    both true t r = and_false (not t)
    both false t r = refl

among_with_name : (xs : List Name) (y x : Name) → is_name_among x (with_name xs y) ≡ (is_name_among x xs || same_name y x)
among_with_name xs y x = by (is_name_among y xs) refl
  where
    or_same : (t u : Bool) → (u ≡ true → t ≡ true) → t ≡ (t || u)
    or_same true u k = refl
    or_same false false k = refl
    or_same false true k = k refl

    by : (t : Bool) → is_name_among y xs ≡ t → is_name_among x (if t then xs else xs ++ y ∷ []) ≡ (is_name_among x xs || same_name y x)
    by true e = or_same (is_name_among x xs) (same_name y x) (λ u. ap (λ z. is_name_among z xs) (sym (name_same y x u)) ∙ e)
    by false e = among_append x xs (y ∷ []) ∙ ap (λ t. is_name_among x xs || t) (or_false (same_name x y) ∙ name_sym x y)

among_with_names : (bs : List Binder) (xs : List Name) (x : Name) → is_name_among x (with_names xs bs) ≡ (is_name_among x xs || binds_name bs x)
among_with_names [] xs x = sym (or_false (is_name_among x xs))
among_with_names (b ∷ bs) xs x =
    among_with_names bs (with_name xs (name_of b)) x
    ∙ (ap (λ t. t || binds_name bs x) (among_with_name xs (name_of b) x) ∙ or_assoc (is_name_among x xs) (same_name (name_of b) x) (binds_name bs x))

-- Names that are added stand last.
kept : (bs : List Binder) (xs ys : List Name) → take (length xs) (with_names (xs ++ ys) bs) ≡ xs
kept [] xs ys = take-append_seam xs ys
kept (b ∷ bs) xs ys = by (is_name_among (name_of b) (xs ++ ys)) (kept bs xs ys) (kept bs xs (ys ++ name_of b ∷ []))
  where
    by : (t : Bool) → take (length xs) (with_names (xs ++ ys) bs) ≡ xs → take (length xs) (with_names (xs ++ (ys ++ name_of b ∷ [])) bs) ≡ xs
        → take (length xs) (with_names (if t then xs ++ ys else (xs ++ ys) ++ name_of b ∷ []) bs) ≡ xs
    by true h k = h
    by false h k = rw (append_assoc xs ys (name_of b ∷ [])) k

back : (bs : List Binder) (xs : List Name) → take (length xs) (with_names xs bs) ≡ xs
back bs xs = subst (λ zs. take (length xs) (with_names zs bs) ≡ xs) (append-nil xs) (kept bs xs [])

-- Stretches of a walk.

pub gathers_nothing : (a : Gathered) → Finds a a []
gathers_nothing a = record { bound = refl; found = λ x. none (is_name_among x a.found) (is_name_among x a.bound) }
  where
    none : (f b : Bool) → f ≡ (f || (not b && false))
    none true b = refl
    none false b = sym (and_false (not b))

pub gathers_then : (a b c : Gathered) (xs ys : List Name) → Finds a b xs → Finds b c ys → Finds a c (xs ++ ys)
gathers_then a b c xs ys h k = record {
  bound = k.bound ∙ h.bound;
  found = λ x.
      k.found x
      ∙ (ap (λ bs. is_name_among x b.found || (not (is_name_among x bs) && is_name_among x ys)) h.bound
      ∙ (ap (λ t. t || (not (is_name_among x a.bound) && is_name_among x ys)) (h.found x)
      ∙ (two (is_name_among x a.found) (is_name_among x a.bound) (is_name_among x xs) (is_name_among x ys)
      ∙ ap (λ t. is_name_among x a.found || (not (is_name_among x a.bound) && t)) (sym (among_append x xs ys)))));
}
  where
    two : (f b m n : Bool) → ((f || (not b && m)) || (not b && n)) ≡ (f || (not b && (m || n)))
    two true b m n = refl
    two false true m n = refl
    two false false m n = refl

pub then_more : {T E : Type 0} (r : Result T E) (a b c : Gathered) (xs ys : List Name) → Finds a b xs → OnOk r (Finds b c ys) → OnOk r (Finds a c (xs ++ ys))
then_more r a b c xs ys h k = on_ok_weaker r (λ (z : Finds b c ys). gathers_then a b c xs ys h z) k

-- A body under binders.
pub under_binders : (bs : List Binder) (xs : List Name) (a b c d : Gathered) → b.bound ≡ with_names a.bound bs → b.found ≡ a.found → Finds b c xs
    → d ≡ record c { bound = take (length a.bound) c.bound } → Finds a d (without_all bs xs)
under_binders bs xs a b c d bound found h left = record {
  bound = ap (λ g. g.bound) left ∙ (ap (take (length a.bound)) (h.bound ∙ bound) ∙ back bs a.bound);
  found = λ x.
      ap (λ g. is_name_among x g.found) left
      ∙ (h.found x
      ∙ (ap (λ f. is_name_among x f || (not (is_name_among x b.bound) && is_name_among x xs)) found
      ∙ (ap (λ u. is_name_among x a.found || (not (is_name_among x u) && is_name_among x xs)) bound
      ∙ (ap (λ t. is_name_among x a.found || (not t && is_name_among x xs)) (among_with_names bs a.bound x)
      ∙ ap (λ t. is_name_among x a.found || t)
      (apart (is_name_among x a.bound) (binds_name bs x) (is_name_among x xs) ∙ ap (λ t. not (is_name_among x a.bound) && t) (sym (among_without_all bs xs x)))))));
}
  where
    apart : (s t r : Bool) → (not (s || t) && r) ≡ (not s && (not t && r))
    apart true t r = refl
    apart false t r = refl

-- A use of a name that isn't bound.
pub used_free : (a b : Gathered) (y : Name) → is_name_among y a.bound ≡ false → b.bound ≡ a.bound → b.found ≡ with_name a.found y → Finds a b (y ∷ [])
used_free a b y h bound found = record {
  bound = bound;
  found = λ x. ap (is_name_among x) found ∙ (among_with_name a.found y x ∙ (ap (λ t. is_name_among x a.found || t) (name_sym y x)
      ∙ ap (λ t. is_name_among x a.found || t) (by (is_name_among x a.bound) (same_name x y) (λ e. ap (λ z. is_name_among z a.bound) (name_same x y e) ∙ h))));
}
  where
    by : (b s : Bool) → (s ≡ true → b ≡ false) → s ≡ (not b && (s || false))
    by b true k = rw (k refl) refl
    by b false k = sym (and_false (not b))

pub map_take : {X Y : Type 0} (f : X → Y) (n : ℕ) (xs : List X) → map f (take n xs) ≡ take n (map f xs)
map_take f zero xs = refl
map_take f (suc n) [] = refl
map_take f (suc n) (x ∷ xs) = ap (λ ys. f x ∷ ys) (map_take f n xs)

-- Keys.

abbrev pub key_named : Name → Key
key_named (named n) = record { hidden = false; number = n }
key_named (hidden n) = record { hidden = true; number = n }

pub key_is : (x : Name) → named_by (key_named x) ≡ x
key_is (named n) = refl
key_is (hidden n) = refl

module _ (eq : Key → Key → Bool) (same : (x y : Key) → eq x y ≡ same_name (named_by x) (named_by y)) where
  -- A set of keys answers as the search of their names.
  pub listed : (ks : List Key) (k : Key) → list_any (eq k) ks ≡ is_name_among (named_by k) (map named_by ks)
  listed [] k = refl
  listed (c ∷ ks) k = rw (same k c, listed ks k) refl

  pub inserted : (ks : List Key) (k : Key) → map named_by (if list_any (eq k) ks then ks else ks ++ k ∷ []) ≡ with_name (map named_by ks) (named_by k)
  inserted ks k = rw (listed ks k) (by (is_name_among (named_by k) (map named_by ks)))
    where
      by : (t : Bool) → map named_by (if t then ks else ks ++ k ∷ []) ≡ (if t then map named_by ks else map named_by ks ++ named_by k ∷ [])
      by true = refl
      by false = map-append named_by ks (k ∷ [])

  pub removed : (ks ls : List Key) (k : Key) → ((q : Key) → list_any (eq q) ls ≡ (if eq k q then false else list_any (eq q) ks))
      → (x : Name) → is_name_among x (map named_by ls) ≡ is_name_among x (without (named_by k) (map named_by ks))
  removed ks ls k h x =
      let q = key_named x in
      let at : named_by q ≡ x = key_is x in
      subst (λ y. is_name_among y (map named_by ls) ≡ is_name_among y (without (named_by k) (map named_by ks))) at
      (sym (listed ls q) ∙ (h q ∙ (rw (same k q, listed ks q) (by (same_name (named_by k) (named_by q)) (is_name_among (named_by q) (map named_by ks)))
      ∙ sym (among_without (map named_by ks) (named_by k) (named_by q)))))
    where
      by : (s t : Bool) → (if s then false else t) ≡ (not s && t)
      by true t = refl
      by false t = refl

-- What is caught depends on which names are among those that are named.
pub caught_same : (sc : Scope) (xs ys : List Name) → ((x : Name) → is_name_among x xs ≡ is_name_among x ys) → caught sc xs ≡ caught sc ys
caught_same [] xs ys h = refl
caught_same (None ∷ sc) xs ys h = caught_same sc xs ys h
caught_same (Some v ∷ sc) xs ys h =
    let left : caught sc (without v.0 xs) ≡ caught sc (without v.0 ys) =
    caught_same sc _ _ (λ x. among_without xs v.0 x ∙ (ap (λ t. not (same_name v.0 x) && t) (h x) ∙ sym (among_without ys v.0 x))) in
    rw (h v.0, left, caught_same sc xs ys h) refl

pub caught_none : (sc : Scope) → caught sc [] ≡ []
caught_none [] = refl
caught_none (None ∷ sc) = caught_none sc
caught_none (Some v ∷ sc) = caught_none sc

pub same_key : (x y : Key) → (beq x.hidden y.hidden && x.number == y.number) ≡ same_name (named_by x) (named_by y)
same_key x y = by x.hidden y.hidden x.number y.number
  where
    by : (h i : Bool) (m n : ℕ) → (beq h i && m == n) ≡ same_name (if h then hidden m else named m) (if i then hidden n else named n)
    by true true m n = refl
    by true false m n = refl
    by false true m n = refl
    by false false m n = refl

-- so many slots from the bottom of a frame
abbrev pub lowest : ℕ → Scope → Scope
lowest n sc = drop (length sc - n) sc

-- A frame at one of its slots.
pub record Split (sc : Scope) (n : ℕ) : Type 0 where
  pub above : Scope
  pub below : Scope
  pub slot : Option (Name × Bool)
  pub whole : sc ≡ above ++ slot ∷ below
  pub long : n ≡ length below
  pub here : lowest (n + 1) sc ≡ slot ∷ below
  pub next : lowest n sc ≡ below

pub split : (sc : Scope) (n : ℕ) → n < length sc → Split sc n
split sc n h =
    let k = length sc - (n + 1) in
    let at : k < length sc = omega arith in
    let after : length sc - n ≡ suc k = omega arith in
    let from : drop k sc ≡ get_or sc k None ∷ drop (suc k) sc = drop-cons sc k None at in
    record {
      above = take k sc;
      below = drop (suc k) sc;
      slot = get_or sc k None;
      whole = sym (take-append-drop k sc) ∙ ap (λ rest. take k sc ++ rest) from;
      long = let count : length (drop (suc k) sc) ≡ length sc - suc k = length-drop (suc k) sc in omega (arith, count);
      here = from;
      next = ap (λ i. drop i sc) after;
    }

-- What the frame answers of a slot.
abbrev pub Answers : Scope → ℕ → Option (Name × Bool) → Type 0
Answers sc n found = (above below : Scope) (v : Option (Name × Bool)) → sc ≡ above ++ v ∷ below → n ≡ length below → found ≡ v

module _ (sc : Scope) (n : ℕ) (at : n < length sc) (names : List Name) where
  pub passes_operand : (found : Option (Name × Bool)) → found ≡ None → Answers sc n found → caught (lowest (n + 1) sc) names ≡ caught (lowest n sc) names
  passes_operand found none answers =
      let s = split sc n at in
      let is : s.slot ≡ None = sym (answers s.above s.below s.slot s.whole s.long) ∙ none in
      ap (λ l. caught l names) s.here ∙ (ap (λ v. caught (v ∷ s.below) names) is ∙ ap (λ l. caught l names) (sym s.next))

  pub takes : (v : Name × Bool) (left : List Name) → Answers sc n (Some v) → is_name_among v.0 names ≡ true → ((x : Name) → is_name_among x left ≡ is_name_among x (without v.0 names))
      → caught (lowest (n + 1) sc) names ≡ (n, v) ∷ caught (lowest n sc) left
  takes v left answers among rest =
      let s = split sc n at in
      let is : s.slot ≡ Some v = sym (answers s.above s.below s.slot s.whole s.long) in
      ap (λ l. caught l names) s.here ∙ (ap (λ w. caught (w ∷ s.below) names) is
      ∙ (ap (λ t. if t then (length s.below, v) ∷ caught s.below (without v.0 names) else caught s.below names) among
      ∙ (ap (λ i. (i, v) ∷ caught s.below (without v.0 names)) (sym s.long)
      ∙ ap (λ cs. (n, v) ∷ cs) (sym (caught_same s.below left (without v.0 names) rest) ∙ ap (λ l. caught l left) (sym s.next)))))

  pub passes_variable : (v : Name × Bool) (left : List Name) → Answers sc n (Some v) → is_name_among v.0 names ≡ false → ((x : Name) → is_name_among x left ≡ is_name_among x (without v.0 names))
      → caught (lowest (n + 1) sc) names ≡ caught (lowest n sc) left
  passes_variable v left answers among rest =
      let s = split sc n at in
      let is : s.slot ≡ Some v = sym (answers s.above s.below s.slot s.whole s.long) in
      let same : (x : Name) → is_name_among x names ≡ is_name_among x left =
      λ x. by (same_name v.0 x) (is_name_among x names) (λ e. ap (λ z. is_name_among z names) (sym (name_same v.0 x e)) ∙ among) ∙ (sym (among_without names v.0 x) ∙ sym (rest x)) in
      ap (λ l. caught l names) s.here ∙ (ap (λ w. caught (w ∷ s.below) names) is
      ∙ (ap (λ t. if t then (length s.below, v) ∷ caught s.below (without v.0 names) else caught s.below names) among
      ∙ (caught_same s.below names left same ∙ ap (λ l. caught l left) (sym s.next))))
    where
      by : (s t : Bool) → (s ≡ true → t ≡ false) → t ≡ (not s && t)
      by true t k = k refl
      by false t k = refl

-- The captured variables, pushed from the lowest on.
abbrev pub pushed : List (ℕ × (Name × Bool)) → Scope → Scope
pushed [] sc = sc
pushed (c ∷ cs) sc = pushed cs (Some c.1 ∷ sc)

pub pushed_all : (cs : List (ℕ × (Name × Bool))) (sc : Scope) → pushed cs sc ≡ map (λ c. Some c.1) (reverse cs) ++ sc
pushed_all [] sc = refl
pushed_all (c ∷ cs) sc =
    pushed_all cs (Some c.1 ∷ sc) ∙ (sym (append_assoc (map (λ c. Some c.1) (reverse cs)) (Some c.1 ∷ []) sc)
    ∙ ap (λ l. l ++ sc) (sym (map-append (λ (c : ℕ × (Name × Bool)). Some c.1) (reverse cs) (c ∷ [])) ∙ ap (map (λ c. Some c.1)) (sym (reverse-append (c ∷ []) cs))))

pub nothing_lowest : (sc : Scope) (n : ℕ) → n ≡ 0 → lowest n sc ≡ []
nothing_lowest sc n h = let all : length sc - n ≡ length sc = omega (arith, h) in ap (λ i. drop i sc) all ∙ drop-length sc

pub no_names : (xs : List Name) → length xs ≡ 0 → xs ≡ []
no_names [] h = refl
no_names (x ∷ xs) h = absurd cc

map_reverse : {X Y : Type 0} (f : X → Y) (xs : List X) → map f (reverse xs) ≡ reverse (map f xs)
map_reverse f [] = refl
map_reverse f (x ∷ xs) =
    ap (map f) (reverse-append (x ∷ []) xs) ∙ (map-append f (reverse xs) (x ∷ [])
    ∙ (ap (λ l. l ++ f x ∷ []) (map_reverse f xs) ∙ sym (reverse-append (f x ∷ []) (map f xs))))

slots_caught : (ts : List Taken) → map (λ c. c.0) (map caught_of ts) ≡ map (λ (t : Taken). t.slot) ts
slots_caught [] = refl
slots_caught (t ∷ ts) = ap (λ l. t.slot ∷ l) (slots_caught ts)

-- The captured variables, from the lowest on.
module _ (ts us : List Taken) (sc : Scope) (xs ys : List Name) (turned : us ≡ reverse ts) (taken : map caught_of ts ≡ caught sc xs) (same : (x : Name) → is_name_among x xs ≡ is_name_among x ys) where
  pub slots_are : map (λ (t : Taken). t.slot) us ≡ caught_slots (caught sc ys)
  slots_are =
      ap (map (λ (t : Taken). t.slot)) turned ∙ (map_reverse (λ (t : Taken). t.slot) ts
      ∙ ap reverse (sym (slots_caught ts) ∙ ap (map (λ c. c.0)) (taken ∙ caught_same sc xs ys same)))

  pub turned_back : reverse (map caught_of us) ≡ caught sc ys
  turned_back =
      ap (λ l. reverse (map caught_of l)) turned ∙ (ap reverse (map_reverse caught_of ts)
      ∙ (reverse-reverse (map caught_of ts) ∙ (taken ∙ caught_same sc xs ys same)))
