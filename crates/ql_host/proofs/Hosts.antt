-- A host after a tick, and what is told of one that stopped.
use Rattle.std.proofs.Common.{◌≡◌, ◌⊎◌, ℕ, zero, suc, ◌+◌, ◌-◌, ◌≤◌, ◌<◌, ◌==◌, Bool, true, false, List, [], ◌∷◌, ◌++◌, length, map, Option, Some, None, refl, sym, ap, ◌∙◌, subst, arith, eq-eqb, ⊎_elim, append_assoc}
use Rattle.std.proofs.lemmas.List.{reverse-reverse}
use Rattle.std.proofs.Math.Logic.{∥∥₁_elim}
use Rattle.std.proofs.Math.Bridge.{le_prop}
use Rattle.std.proofs.Math.Nat.{ℕ_set}
use Rattle.std.specs.Prelude.{Result, Ok, Err, OnOk, OnErr, reverse, if◌then◌else◌, is_some, slice_get}
use Rattle.ql_base.specs.declared.limits.Limits.{Limits}
use Rattle.ql_world.specs.Event.{turns}
use Rattle.ql_world.specs.declared.event.Event.{Event}
use Rattle.ql_world.specs.declared.event.Event.TheVariants.{Stopped as stopped}
use Rattle.ql_world.specs.declared.event.Head.{Head}
use Rattle.ql_world.specs.declared.event.Stop.{Stop}
use Rattle.ql_world.specs.declared.event.Stop.TheVariants as stops
use Rattle.ql_world.specs.declared.word.Word.{Word}
use Rattle.ql_world.specs.World.{World, numbered, without_values}
use Rattle.ql_world.specs.declared.world.Process.{Process}
use Rattle.ql_world.specs.Short.{ArePrinted}
use Rattle.ql_world.specs.Tick.{tick, can_step}
use Rattle.ql_world.specs.Run.{mark_or, stop_of, run, story_of}
use Rattle.ql_cells.specs.Names.{IsPrintedName, ArePrintedNames}
use Rattle.ql_code.specs.Code.{unmasked, Code}
use Rattle.ql_code.specs.declared.mark.Mark.TheVariants as Mark
use Rattle.ql_code.specs.Machine.{mark, settled, Point, Entry, code_machine, code_world, code_told}
use Rattle.ql_proc.specs.declared.process.Proc.{Proc}
use Rattle.ql_host.specs.declared.shared.Shared.{Shared}
use Rattle.ql_code.specs.Sound.{Sound}
use Rattle.ql_code.specs.Standing.{IsAsked}
use Rattle.ql_code.specs.SoundWorld.{made_of, Each, IsServer, IsCallMade, IsSoundWorld}
use Rattle.ql_code.specs.Operands.{IsReachedOn, HasOperands}
use Rattle.ql_proc.specs.Points.{point_of}
use Rattle.ql_tree.specs.Persons.{joined}
use Rattle.ql_host.specs.declared.setting.Setting.{Setting}
use Rattle.ql_host.specs.Ready.{steps, steps_in}
use Rattle.ql_host.specs.World.{Keeps}
use Rattle.ql_host.specs.Acts.{world_in, IsLeft, IsAble, AreCounted, CanAct}
use Rattle.ql_host.specs.Host.{AreNames}
use Rattle.ql_host.specs.Hosted.{IsRunTo, IsHosted, IsOpening}
use Rattle.ql_host.proofs.News.{tick_fits}
use Rattle.ql_host.proofs.Schedules.{spelled, stop_spelled, run_on, told_at}

printed_prop : (text : List ℕ) → IsProp (ArePrinted text)
printed_prop [] = hlevel
printed_prop (b ∷ bs) = let h = printed_prop bs in hlevel (le_prop, h)

name_prop : (name : List ℕ) → IsProp (IsPrintedName name)
name_prop name = let h = printed_prop name in hlevel (le_prop, h)

names_prop : (names : List (List ℕ)) → IsProp (ArePrintedNames names)
names_prop names = hlevel (name_prop)

pub names_printed : (names : List (List ℕ)) → ∥ ArePrintedNames names ∥₁ → ArePrintedNames names
names_printed names h = ∥∥₁_elim h (names_prop names) (λ k. k)

-- one more without a value
pub one_more : (gs : List (Option Word)) (n : ℕ) → 0 < n → (gs ++ None ∷ []) ++ without_values (n - 1) ≡ gs ++ without_values n
one_more gs zero h = absurd (omega (arith, h))
one_more gs (suc n) h = let e : suc n - 1 ≡ n = omega arith in rw e (append_assoc gs (None ∷ []) (without_values n))

module _ (code : Code) (names : List (List ℕ)) (limits : Limits) where
  -- a run that goes on has ticks left
  unspent : (b : Bool) (k : Option Stop) (c d : Bool) → (if b then Some stops.Done else mark_or k (if c then Some stops.Deadlock else (if d then Some stops.Budget else None))) ≡ None → d ≡ false
  unspent true k c d e = absurd cc
  unspent false (Some s) c d e = absurd cc
  unspent false None true d e = absurd cc
  unspent false None false true e = absurd cc
  unspent false None false false e = refl

  below : (t b : ℕ) → t ≤ b → (t == b) ≡ false → t + 1 ≤ b
  below t b l e =
      ⊎_elim
      (λ (s : t ≡ b). let bad : false ≡ true = sym e ∙ eq-eqb t b s in absurd cc)
      (λ (s : t + 1 ≤ b). s)
      (equal_or_less t b l)
    where
      equal_or_less : (t b : ℕ) → t ≤ b → (t ≡ b) ⊎ (t + 1 ≤ b)
      equal_or_less t b l = grind (arith, l)

  -- A host after a tick of process p keeps what it kept.
  pub hosted_after : (p : ℕ) (h g : Shared) (ts us : List Proc) → IsHosted code names limits h ts → stop_of (code_machine code.instructions) names limits (world_in h ts) ≡ None
      → tick (code_machine code.instructions) names limits (world_in h ts) p ≡ Some (world_in g us) → Keeps h g → length us ≡ length g.tree.persons → IsHosted code names limits g us
  hosted_after p h g ts us i s t k l =
      let a = tick_fits (code_machine code.instructions) names limits p (world_in h ts) (world_in g us) t in
      let e : turns (reverse g.history.events) ≡ turns (reverse h.history.events) ++ p ∷ [] = ap (λ es. turns (reverse es)) a.events ∙ spelled p a.new h.history.events a.news in
      record {
        runs = ap (run (code_machine code.instructions) names limits (code_world code)) e ∙ run_on (code_machine code.instructions) names limits (turns (reverse h.history.events)) p (code_world code) (world_in h ts) (world_in g us) i.runs s t;
        long = l;
        cells = k.cells ∙ i.cells;
        procs = k.procs ∙ i.procs;
        head = k.head ∙ i.head;
        room = k.room;
        protects = (let x = k.protects in let y = i.protects in let z = k.ticks in omega (arith, x, y, z));
        ticks = (let z = k.ticks in let y = below h.history.ticks limits.budget i.ticks (unspent _ _ _ _ s) in omega (arith, y, z));
        budget = i.budget;
        printed = i.printed;
      }

  -- one that nothing changed but room
  pub hosted_still : (h g : Shared) (ts us : List Proc) → IsHosted code names limits h ts → IsLeft h ts g us → IsHosted code names limits g us
  hosted_still h g ts us i k =
      record {
        runs = subst (IsRunTo code names limits) (sym k.world) i.runs;
        long = k.long ∙ (i.long ∙ sym (ap length k.persons));
        cells = k.cells ∙ i.cells;
        procs = k.procs ∙ i.procs;
        head = k.head ∙ i.head;
        room = (let x = k.room in let y = i.room in omega (arith, x, y));
        protects = (let x = k.protects in let y = i.protects in let z = k.ticks in omega (arith, x, y, z));
        ticks = (let z = k.ticks in let y = i.ticks in omega (arith, y, z));
        budget = i.budget;
        printed = i.printed;
      }

  -- what is told of one that stopped
  pub told_of : (h : Shared) (ts : List Proc) (why : Stop) → IsHosted code names limits h ts → stop_of (code_machine code.instructions) names limits (world_in h ts) ≡ Some why
      → code_told names code limits (turns (reverse (stopped why ∷ h.history.events))) ≡ Some (story_of (code_machine code.instructions) names limits (world_in h ts) why)
  told_of h ts why i s =
      ap (code_told names code limits) (stop_spelled why h.history.events)
      ∙ told_at (code_machine code.instructions) names limits (turns (reverse h.history.events)) (code_world code) (world_in h ts) why i.runs s

  -- its journal tells it
  pub told_journal : (h : Shared) (ts : List Proc) (why : Stop) (output : List ℕ) (head : Option Head) (events : List Event) → IsHosted code names limits h ts
      → stop_of (code_machine code.instructions) names limits (world_in h ts) ≡ Some why
      → output ≡ h.output.bytes → head ≡ h.history.head → reverse events ≡ stopped why ∷ h.history.events
      → code_told names code limits (turns events) ≡ Some (record { output = output; journal = record { head = head; events = events }; stop = why })
  told_journal h ts why output head events i s o k e =
      let r : events ≡ reverse (stopped why ∷ h.history.events) = sym (reverse-reverse events) ∙ ap reverse e in
      rw (r, o, k ∙ i.head) (told_of h ts why i s)

  -- A host after a call that took a tick or left all as it was.
  pub hosted_either : {T E : Type 0} (r : Result T E) (same : Code) (p : ℕ) (h g : Shared) (ts us : List Proc) → same ≡ code
      → IsHosted code names limits h ts → stop_of (code_machine code.instructions) names limits (world_in h ts) ≡ None
      → OnOk r (tick (code_machine same.instructions) names limits (world_in h ts) p ≡ Some (world_in g us)) → OnOk r (Keeps h g) → OnOk r (length us ≡ length g.tree.persons) → OnErr r (IsLeft h ts g us)
      → IsHosted code names limits g us
  hosted_either (Ok x) same p h g ts us a i e t k l f =
      hosted_after p h g ts us i e (subst (λ (d : Code). tick (code_machine d.instructions) names limits (world_in h ts) p ≡ Some (world_in g us)) a t) k l
  hosted_either (Err x) same p h g ts us a i e t k l f = hosted_still h g ts us i f

  -- the story of its output and its journal
  pub story_is : (h : Shared) (ts : List Proc) (why : Stop) (output : List ℕ) (head : Option Head) (events : List Event) → IsHosted code names limits h ts
      → output ≡ h.output.bytes → head ≡ h.history.head → reverse events ≡ stopped why ∷ h.history.events
      → record { output = output; journal = record { head = head; events = events }; stop = why } ≡ story_of (code_machine code.instructions) names limits (world_in h ts) why
  story_is h ts why output head events i o k e =
      let r : events ≡ reverse (stopped why ∷ h.history.events) = sym (reverse-reverse events) ∙ ap reverse e in
      rw (r, o, k ∙ i.head) refl

  -- its world is that of the code
  pub opened_first : (h : Shared) (ts : List Proc) (t : Proc) → IsOpening code limits h → ts ≡ t ∷ [] → point_of t ≡ settled code.instructions 0 (mark (Mark.Base None) ∷ []) → world_in h ts ≡ code_world code
  opened_first h ts t o e s =
      rw (e, o.pairs, o.boxes, o.closures, o.made, o.futures, o.catches, o.persons, o.servers, o.globals, o.output, o.events, o.ticks, o.protects, o.mark, s) refl

  -- A host before its first tick.
  pub hosted_first : (h : Shared) (ts : List Proc) → world_in h ts ≡ code_world code → IsOpening code limits h → length ts ≡ 1 → limits.budget ≤ 20000000 → ArePrintedNames names → IsHosted code names limits h ts
  hosted_first h ts w o l b n =
      record {
        runs = subst (IsRunTo code names limits) (sym w) refl;
        long = l ∙ sym (ap length o.persons);
        cells = o.cells;
        procs = o.procs;
        head = o.head;
        room = o.room;
        protects = (let x = o.protects in omega (arith, x));
        ticks = (let x = o.ticks in omega (arith, x));
        budget = b;
        printed = ∣ n ∣₁;
      }

names_are_printed : (names : List (List ℕ)) → AreNames names → (n : ℕ) (name : List ℕ) → slice_get names n ≡ Some name → IsPrintedName name
names_are_printed [] h n name e = absurd cc
names_are_printed (x ∷ xs) h zero name e = let z : x ≡ name = cc in subst IsPrintedName z (record { some = h.0; printed = h.1 })
names_are_printed (x ∷ xs) h (suc n) name e = names_are_printed xs h.2 n name e

pub are_printed : (names : List (List ℕ)) → AreNames names → ArePrintedNames names
are_printed names h = names_are_printed names h

each_at : {A : Type 0} (P : A → Type 0) (xs : List A) (n : ℕ) (x : A) → slice_get xs n ≡ Some x → Each P xs → P x
each_at P [] n x e h = absurd cc
each_at P (y ∷ ys) zero x e h = let z : y ≡ x = cc in subst P z h.0
each_at P (y ∷ ys) (suc n) x e h = each_at P ys n x e h.1

each_numbered : {A : Type 0} (P : A → Type 0) (xs : List A) (k : ℕ) (x : A) → numbered xs k ≡ Some x → Each P xs → P x
each_numbered P xs zero x e h = absurd cc
each_numbered P xs (suc n) x e h = each_at P xs n x e h

unmasked_long : (n mask : ℕ) → length (unmasked n mask) ≡ n
unmasked_long zero mask = refl
unmasked_long (suc n) mask = ap suc (unmasked_long n _)

-- In a sound world calls have as many arguments as their closures have parameters.
counted_in : (code : Code) (so : Sound code) (h : Shared) (ts : List Proc) → IsSoundWorld code so (world_in h ts) → AreCounted h
counted_in code so h ts w k s c later e q =
    let server = each_numbered (IsServer code so (made_of (world_in h ts))) h.calls.servers k s e w.servers_are in
    let calls : Each (IsCallMade (made_of (world_in h ts)) s.body) (c ∷ later) = subst (Each (IsCallMade (made_of (world_in h ts)) s.body)) q server.1 in
    calls.0.1 ∙ unmasked_long s.body.count s.body.mask

pub counted_now : (code : Code) (so : ∥ Sound code ∥₁) (h : Shared) (ts : List Proc) → ((z : Sound code) → IsSoundWorld code z (world_in h ts)) → AreCounted h
counted_now code so h ts f = ∥∥₁_elim so (hlevel (ℕ_set)) (λ z. counted_in code z h ts (f z))

-- What a host knows of a process that can step.
module _ (s : Setting) (p : ℕ) (h : Shared) (ts : List Proc) (i : IsHosted s.code.now s.names.now s.limits h ts) (so : ∥ Sound s.code.now ∥₁)
    (asked : (code : Code) (names : List (List ℕ)) (limits : Limits) (schedule : List ℕ) (w : World Point Entry) (p : ℕ) (q : Process Point) → IsReachedOn code names limits schedule w p q → IsAsked (made_of w) q.kind ((code_machine code.instructions).want q.thread))
    (operands : (code : Code) (names : List (List ℕ)) (limits : Limits) (schedule : List ℕ) (w : World Point Entry) (p : ℕ) (q : Process Point) → IsReachedOn code names limits schedule w p q → HasOperands code q.thread)
    (sound : (code : Code) (so : Sound code) (names : List (List ℕ)) (limits : Limits) (schedule : List ℕ) (w : World Point Entry) → run (code_machine code.instructions) names limits (code_world code) schedule ≡ Some w → IsSoundWorld code so w)
    (can : steps s h ts p ≡ true) where
  able_to : (q : Process Point) → numbered (joined h.tree.persons (map point_of ts)) p ≡ Some q → IsAble s p h ts q
  able_to q e =
      let c : can_step (code_machine s.code.now.instructions) s.names.now s.limits p q (world_in h ts) ≡ true = subst (λ o. steps_in s (world_in h ts) p o ≡ true) e can in
      let r : IsReachedOn s.code.now s.names.now s.limits (turns (reverse h.history.events)) (world_in h ts) p q = record { sound = so; reached = i.runs; there = e; can = c } in
      record { can = c; asked = asked _ _ _ _ _ p q r; operands = operands _ _ _ _ _ p q r }

  is_there : (o : Option (Process Point)) → steps_in s (world_in h ts) p o ≡ true → is_some o ≡ true
  is_there None e = absurd cc
  is_there (Some q) e = refl

  pub can_act : CanAct s p h ts
  can_act = record {
    fit = record { cells = i.cells; procs = i.procs; printed = names_printed s.names.now i.printed; ticks = (let a = i.ticks in let b = i.budget in omega (arith, a, b)); protects = i.protects };
    counted = counted_now s.code.now so h ts (λ z. sound s.code.now z s.names.now s.limits (turns (reverse h.history.events)) (world_in h ts) i.runs);
    long = i.long;
    there = is_there (numbered (joined h.tree.persons (map point_of ts)) p) can;
    able = able_to;
  }
