-- Rows of the world on its outline.
use Rattle.std.proofs.Common.{◌≡◌, ◌≢◌, ℕ, ◌==◌, Bool, true, false, List, [], ◌∷◌, length, Option, Some, None, refl, sym, ap, ◌∙◌, subst, ⊎_elim, arith, eq-eqb, ne_eqb}
use Rattle.std.specs.Prelude.{if◌then◌else◌, ◌&&◌, map}
use Rattle.ql_world.specs.declared.word.Word.{Word}
use Rattle.ql_world.specs.Event.{with_tick}
use Rattle.ql_world.specs.declared.event.Event.{Event}
use Rattle.ql_world.specs.declared.event.Event.TheVariants.{Turn as turn, Spawn as spawn, Opened as opened, Exit as exit, Throw as throw, Land as land, Kill as kill, Protect as protect, Begin as begin, Finish as finish, Send as send, Take as take, Reply as reply, EndOk as end_ok, EndKilled as end_killed, Stopped as stopped}
use Rattle.ql_world.specs.World.{World, numbered, catch_at, counted, with_thread}
use Rattle.ql_world.specs.declared.world.Catch.{Catch}
use Rattle.ql_world.specs.declared.world.Process.{Process}
use Rattle.ql_world.specs.Within.{is_over, has_tag, tagged}
use Rattle.ql_meaning.specs.Control.{Thread, Closure}
use Rattle.ql_meaning.specs.Sane.{Standing, standing, Seen, seen, without_turns, Outline, outline, SaneOutline, Sane}
use Rattle.ql_meaning.proofs.Lists.{cases, not_both, same_or, one, put, put_known, put_self, numbered_map, map_put}
use Rattle.ql_meaning.proofs.Over.{Falling, over_older, over_low, catch_low}

abbrev pub Good : Option (World Thread Closure) → Type 0
Good None = Unit {0}
Good (Some w) = Sane w

pub sane_by : (w : World Thread Closure) (o : Outline) → outline w ≡ o → SaneOutline o → Sane w
sane_by w o e s = subst SaneOutline (sym e) s

pub sane_if : (b : Bool) (v w : World Thread Closure) → Sane v → Sane w → Sane (if b then v else w)
sane_if true v w s t = s
sane_if false v w s t = t

pub good_if : (b : Bool) (v w : Option (World Thread Closure)) → Good v → Good w → Good (if b then v else w)
good_if true v w s t = s
good_if false v w s t = t

-- turns are no part of an outline

turn_out : (p q n : ℕ) (es : List Event) → without_turns (with_tick p (turn q n ∷ es)) ≡ without_turns es
turn_out p q n es =
    ⊎_elim
    (λ (t : (p == q) ≡ true). rw t refl)
    (λ (t : (p == q) ≡ false). rw t refl)
    (cases (p == q))

pub turns_out : (p : ℕ) (es : List Event) → without_turns (with_tick p es) ≡ without_turns es
turns_out p [] = refl
turns_out p (turn q n ∷ es) = turn_out p q n es
turns_out p (spawn a b c d ∷ es) = refl
turns_out p (opened a b c ∷ es) = refl
turns_out p (exit a b ∷ es) = refl
turns_out p (throw a b ∷ es) = refl
turns_out p (land a b ∷ es) = refl
turns_out p (kill a b ∷ es) = refl
turns_out p (protect a b ∷ es) = refl
turns_out p (begin a b ∷ es) = refl
turns_out p (finish a b ∷ es) = refl
turns_out p (send a b c ∷ es) = refl
turns_out p (take a b c ∷ es) = refl
turns_out p (reply a b c d ∷ es) = refl
turns_out p (end_ok a b ∷ es) = refl
turns_out p (end_killed a ∷ es) = refl
turns_out p (stopped a ∷ es) = refl

pub counted_sane : (w : World Thread Closure) (p : ℕ) → Sane w → Sane (counted w p)
counted_sane w p s = subst (λ z. SaneOutline (record (outline w) { events = z })) (sym (turns_out p w.events)) s

-- one process with another thread

abbrev pub standing_as : Seen → Standing → Seen
standing_as q st = record { home = q.home; kind = q.kind; aim = q.aim; thread = st; ended = q.ended }

pub thread_procs : (w : World Thread Closure) (p : ℕ) (q : Process Thread) (t : Thread) (st : Standing) → numbered w.procs p ≡ Some q → standing t ≡ st → map seen (with_thread w p t).procs ≡ put (map seen w.procs) p (standing_as (seen q) st)
thread_procs w p q t st at e =
    ap (map seen) (put_known (λ (z : Process Thread). record z { thread = t }) w.procs p q at)
    ∙ (map_put seen w.procs p (record q { thread = t })
    ∙ ap (λ z. put (map seen w.procs) p (standing_as (seen q) z)) e)

abbrev pub with_procs : Outline → List Seen → Outline
with_procs o rs = record { catches = o.catches; procs = rs; servers = o.servers; futures = o.futures; protects = o.protects; events = o.events }

pub thread_out : (w : World Thread Closure) (p : ℕ) (q : Process Thread) (t : Thread) (st : Standing) → numbered w.procs p ≡ Some q → standing t ≡ st → outline (with_thread w p t) ≡ with_procs (outline w) (put (map seen w.procs) p (standing_as (seen q) st))
thread_out w p q t st at e = ap (with_procs (outline w)) (thread_procs w p q t st at e)

pub seen_at : (w : World Thread Closure) (p : ℕ) (q : Process Thread) → numbered w.procs p ≡ Some q → numbered (map seen w.procs) p ≡ Some (seen q)
seen_at w p q at = numbered_map seen w.procs p ∙ rw at refl

-- who is seen is there
pub unseen : (w : World Thread Closure) (p : ℕ) (y : Seen) → numbered (map seen w.procs) p ≡ Some y → (q : Process Thread) × (numbered w.procs p ≡ Some q) × (seen q ≡ y)
unseen w p y e = found (numbered w.procs p) refl
  where
    found : (a : Option (Process Thread)) → numbered w.procs p ≡ a → (q : Process Thread) × (numbered w.procs p ≡ Some q) × (seen q ≡ y)
    found None h = absurd (nothing (sym e ∙ (numbered_map seen w.procs p ∙ rw h refl)))
      where
        nothing : Some y ≡ None → ⊥
        nothing z = absurd cc
    found (Some q) h = (q, h, one (seen_at w p q h) e)

-- a tick that changes no mark
pub local : (w : World Thread Closure) (p : ℕ) (q : Process Thread) (t : Thread) → Sane w → numbered w.procs p ≡ Some q → standing t ≡ standing q.thread → Sane (with_thread w p t)
local w p q t s at e =
    sane_by (with_thread w p t) (outline w)
    (thread_out w p q t (standing q.thread) at e ∙ ap (with_procs (outline w)) (put_self (map seen w.procs) p (seen q) (seen_at w p q at)))
    s

-- catches by their tags

-- catch c is seen, over catch d, open, and has this tag
pub record Found (f : ℕ → Bool) (ks : List Catch) (x : Word) (d c : ℕ) : Type 0 where
  pub seen : f c ≡ true
  pub over : is_over ks c d ≡ true
  pub kept : Catch
  pub is : catch_at ks c ≡ Some kept
  pub open_still : kept.open_still ≡ true
  pub tag : has_tag x kept.tag ≡ true

both_true : (a b : Bool) → (a && b) ≡ true → (a ≡ true) × (b ≡ true)
both_true true b e = (refl, e)
both_true false b e = absurd (not_both e refl)

nothing_some : {A : Type 0} {a : A} → None ≡ Some a → ⊥
nothing_some z = absurd cc

some_is : {m n : ℕ} → Some m ≡ Some n → m ≡ n
some_is z = cc

catch_past : (k : Catch) (ks : List Catch) (c : ℕ) (j : Catch) → catch_at ks c ≡ Some j → catch_at (k ∷ ks) c ≡ Some j
catch_past k ks c j g = let low = catch_low ks c j g in let n : (c == length ks) ≡ false = ne_eqb _ _ (λ z. omega (arith, low, z)) in rw n g

falling_past : (k : Catch) (ks : List Catch) → Falling (k ∷ ks) → Falling ks
falling_past k ks fall c j e p = fall c j (catch_past k ks c j e) p

module _ (f : ℕ → Bool) (k : Catch) (ks : List Catch) (x : Word) (d c : ℕ) (older : (e : ℕ) → tagged f ks x e ≡ Some c → Found f ks x e c) where
  further : (e : ℕ) → Found f ks x e c → is_over (k ∷ ks) c d ≡ true → Found f (k ∷ ks) x d c
  further e r over = record { seen = r.seen; over = over; kept = r.kept; is = catch_past k ks c r.kept r.is; open_still = r.open_still; tag = r.tag }

  here : d ≡ length ks → (b : Bool) → f d ≡ true → (k.open_still && has_tag x k.tag) ≡ b → (if b then Some d else tagged f ks x k.enclosing) ≡ Some c → Found f (k ∷ ks) x d c
  here t true g h z =
      let same : d ≡ c = some_is z in
      let is : (d == length ks) ≡ true = eq-eqb _ _ t in
      let self : (d == d) ≡ true = eq-eqb d d refl in
      let two = both_true k.open_still (has_tag x k.tag) h in
      subst (λ c. Found f (k ∷ ks) x d c) same (record { seen = g; over = rw (is, self) refl; kept = k; is = rw is refl; open_still = two.0; tag = two.1 })
  here t false g h z =
      let r = older k.enclosing z in
      let is : (d == length ks) ≡ true = eq-eqb _ _ t in
      let over : is_over ks c k.enclosing ≡ true = r.over in
      further k.enclosing r (⊎_elim (λ (u : (c == d) ≡ true). rw (is, u) refl) (λ (u : (c == d) ≡ false). rw (is, u) over) (cases (c == d)))

  tested : d ≡ length ks → (b : Bool) → f d ≡ b → (if b then (if k.open_still && has_tag x k.tag then Some d else tagged f ks x k.enclosing) else None) ≡ Some c → Found f (k ∷ ks) x d c
  tested t true g z = here t (k.open_still && has_tag x k.tag) g refl z
  tested t false g z = absurd (nothing_some z)

  at_one : tagged f (k ∷ ks) x d ≡ Some c → Found f (k ∷ ks) x d c
  at_one e =
      ⊎_elim
      (λ (t : d ≡ length ks). let is : (d == length ks) ≡ true = eq-eqb _ _ t in tested t (f d) refl (rw is at e))
      (λ (t : ((d == length ks) ≡ false) × (d ≢ length ks)).
      let r = older d (rw t.0 at e) in
      further d r (over_older k ks c d (over_low ks c d r.over) ∙ r.over))
      (same_or d (length ks))

pub tagged_gives : (f : ℕ → Bool) (ks : List Catch) (x : Word) (d c : ℕ) → tagged f ks x d ≡ Some c → Found f ks x d c
tagged_gives f [] x d c e = absurd (nothing_some e)
tagged_gives f (k ∷ ks) x d c e = at_one f k ks x d c (λ i z. tagged_gives f ks x i c z) e
