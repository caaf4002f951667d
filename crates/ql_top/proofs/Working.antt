-- What one worker does to a host.
use Rattle.std.proofs.Common.{◌≡◌, ◌⊎◌, ◌≤◌, ◌<◌, ℕ, suc, ◌+◌, ◌-◌, Bool, true, false, not, List, [], ◌∷◌, Option, Some, None, refl, sym, ap, ◌∙◌, subst, inl, inr, ⊎_elim, arith}
use Rattle.std.specs.Prelude.{◌&&◌, nat_lt, is_some}
use Rattle.ql_base.specs.declared.limits.Limits.{Limits}
use Rattle.ql_world.specs.Event.{turns}
use Rattle.ql_world.specs.declared.event.Event.TheVariants.{Stopped as stopped}
use Rattle.ql_world.specs.declared.event.Stop.{Stop}
use Rattle.ql_world.specs.declared.world.Process.{Process}
use Rattle.ql_world.specs.World.{World, numbered}
use Rattle.ql_world.specs.Tick as ticks
use Rattle.ql_world.specs.Run.{Story, Picked, pick, is_in, those_from, next_picked}
use Rattle.ql_code.specs.Code.{Code}
use Rattle.ql_code.specs.Machine.{Point, Entry, code_world, code_planned}
use Rattle.ql_host.specs.Host.{Host, machine, process_can_step, can_step, ready, ready_home, stop, story, worked}
use Rattle.ql_top.proofs.Counted.{spelled, spelled_other}
use Rattle.ql_top.proofs.Planned.{passes, is_in_numbered, some_ready, IsPlan, plan_ends}
use Rattle.ql_top.proofs.Rounds.{ran, plan_works}

and_home : (b : Bool) → (b && true) ≡ b
and_home true = refl
and_home false = refl

module _ {A : Type 0} (f : ℕ → A → Bool) where
  none_away : (k : ℕ) (xs : List A) → those_from (λ p x. f p x && not (is_in p [])) k xs ≡ those_from f k xs
  none_away k [] = refl
  none_away k (x ∷ xs) = rw (and_home (f k x), none_away (suc k) xs) refl

module _ (h : Host) where
  -- where none is away, all are at home
  all_home : h.away ≡ [] → ready_home h ≡ ready h
  all_home e = rw e (none_away (λ p q. ticks.can_step (machine h) h.names h.limits p q h.world) 1 h.world.procs)

  passes_same : (p : ℕ) (o : Option (Process Point)) → passes (λ p q. ticks.can_step (machine h) h.names h.limits p q h.world) p o ≡ process_can_step h p o
  passes_same p None = refl
  passes_same p (Some q) = refl

  -- the processes that can step are those that are ready
  pub ready_is_in : (p : ℕ) → is_in p (ready h) ≡ can_step h p
  ready_is_in p =
      is_in_numbered (λ p q. ticks.can_step (machine h) h.names h.limits p q h.world) h.world.procs p ∙ passes_same p (numbered h.world.procs p)

  module _ (last : Picked) (quantum : ℕ) (is : quantum ≡ h.limits.quantum) where
    -- who was picked last goes on
    pub keeps_on : (can_step h last.process && nat_lt last.ticks quantum) ≡ true
        → next_picked h.limits last (ready h) ≡ Some (record { process = last.process; ticks = last.ticks + 1 })
    keeps_on goes =
        let can : (can_step h last.process && nat_lt last.ticks h.limits.quantum) ≡ true = subst (λ n. (can_step h last.process && nat_lt last.ticks n) ≡ true) is goes in
        rw (ready_is_in last.process, can) refl

    -- or another is picked
    pub picks : (p : ℕ) → (can_step h last.process && nat_lt last.ticks quantum) ≡ false → last.process ≡ h.last → h.away ≡ []
        → pick h.limits.policy h.last (ready_home h) ≡ Some p → next_picked h.limits last (ready h) ≡ Some (record { process = p; ticks = 1 })
    picks p stays same home picked =
        let done : (can_step h last.process && nat_lt last.ticks h.limits.quantum) ≡ false = subst (λ n. (can_step h last.process && nat_lt last.ticks n) ≡ false) is stays in
        let all : pick h.limits.policy h.last (ready h) ≡ Some p = subst (λ ps. pick h.limits.policy h.last ps ≡ Some p) (all_home home) picked in
        let next : pick h.limits.policy last.process (ready h) ≡ Some p = subst (λ n. pick h.limits.policy n (ready h) ≡ Some p) (sym same) all in
        rw (ready_is_in last.process, done, next) refl

  pub one_is_ready : stop h ≡ None → h.away ≡ [] → pick h.limits.policy h.last (ready_home h) ≡ None → Prim.⊥
  one_is_ready goes_on home none =
      some_ready (machine h) h.names h.limits h.world h.last goes_on (subst (λ ps. pick h.limits.policy h.last ps ≡ None) (all_home home) none)

  -- the journal that is told spells the schedule so far
  pub spelled_story : (s : Stop) → turns (story h s).journal.events ≡ spelled h.world.events
  spelled_story s = spelled_other (stopped s) h.world.events refl

pub first_true : (a b : Bool) → (a && b) ≡ true → a ≡ true
first_true true b e = refl
first_true false b e = absurd cc

pub none_there : {A : Type 0} (o : Option A) → is_some o ≡ false → o ≡ None
none_there None e = refl
none_there (Some x) e = absurd cc

pub some_there : {A : Type 0} (o : Option A) → is_some o ≡ true → (x : A) × (o ≡ Some x)
some_there None e = absurd cc
some_there (Some x) e = (x, refl)

-- a run of this code as far as one worker has brought it
pub record IsWorked (code : Code) (names : List (List ℕ)) (limits : Limits) (h : Host) (last : Picked) : Type 0 where
  pub code_is : h.code ≡ code
  pub names_are : h.names ≡ names
  pub limits_are : h.limits ≡ limits
  pub last_is : last.process ≡ h.last
  pub few : h.world.ticks ≤ h.limits.budget
  pub home : h.away ≡ []
  pub plan : IsPlan (machine h) h.names h.limits (code_world h.code) h.world last

-- the ticks that are left in the budget
abbrev pub left : Host → ℕ
left h = h.limits.budget - h.world.ticks

abbrev pub nobody : Picked
nobody = record { process = 0; ticks = 0 }

pub is_begun : (code : Code) (names : List (List ℕ)) (limits : Limits) (h : Host) → h.code ≡ code → h.names ≡ names → h.limits ≡ limits
    → h.world ≡ code_world code → h.last ≡ 0 → h.away ≡ [] → IsWorked code names limits h nobody
is_begun code names limits h c n l begun none home =
    let first : h.world ≡ code_world h.code = begun ∙ sym (ap code_world c) in
    let zero : h.world.ticks ≡ 0 = ap (λ (w : World Point Entry). w.ticks) first in
    record {
      code_is = c;
      names_are = n;
      limits_are = l;
      last_is = sym none;
      few = omega (arith, zero);
      home = home;
      plan = subst (λ (w : World Point Entry). IsPlan (machine h) h.names h.limits (code_world h.code) w nobody) (sym first) (λ ps e. e);
    }

-- ticks of one process, between a host, the host whose next process is picked, and the host after its ticks
module _ (h i j : Host) (last next : Picked) (n : ℕ) (goes_on : stop h ≡ None) (picked : next_picked h.limits last (ready h) ≡ Some next)
    (to_pick : i ≡ record h { last = next.process }) (to_work : j ≡ record i { world = j.world }) (moved : worked i next.process (suc n) ≡ Some j.world) where
  abbrev after : Host
  after = record h { last = next.process; world = j.world }

  is_after : j ≡ after
  is_after = to_work ∙ ap (λ (k : Host). record k { world = j.world }) to_pick

  moves : worked h next.process (suc n) ≡ Some j.world
  moves = subst (λ (k : Host). worked k next.process (suc n) ≡ Some j.world) to_pick moved

  works_on : (code : Code) (names : List (List ℕ)) (limits : Limits) → IsWorked code names limits h last → (n ≡ 0) ⊎ (next.ticks + n ≤ h.limits.quantum)
      → IsWorked code names limits j (record { process = next.process; ticks = next.ticks + n })
  works_on code names limits k within =
      subst (λ (x : Host). IsWorked code names limits x (record { process = next.process; ticks = next.ticks + n })) (sym is_after) (record {
        code_is = k.code_is;
        names_are = k.names_are;
        limits_are = k.limits_are;
        last_is = refl;
        few = (ran (machine h) h.names h.limits (suc n) next.process h.world j.world k.few moves).few;
        home = k.home;
        plan = plan_works (machine h) h.names h.limits n (code_world h.code) h.world j.world last next.process next.ticks k.plan picked within moves;
      })

  fewer_left : h.world.ticks ≤ h.limits.budget → left j < left h
  fewer_left few =
      let r = ran (machine h) h.names h.limits (suc n) next.process h.world j.world few moves in
      let c = r.count in
      let b = r.few in
      let fewer : left after < left h = omega (arith, c, b) in
      subst (λ (x : Host). left x < left h) (sym is_after) fewer

-- the same of so many ticks, at least one, and of no more than are left of the quantum
module _ (h i j : Host) (last next : Picked) (taken most : ℕ) (goes_on : stop h ≡ None) (picked : next_picked h.limits last (ready h) ≡ Some next)
    (to_pick : i ≡ record h { last = next.process }) (to_work : j ≡ record i { world = j.world }) (moved : worked i next.process taken ≡ Some j.world) (some : 1 ≤ taken) where
  whole : suc (taken - 1) ≡ taken
  whole = omega (arith, some)

  moved_so : worked i next.process (suc (taken - 1)) ≡ Some j.world
  moved_so = subst (λ n. worked i next.process n ≡ Some j.world) (sym whole) moved

  pub round_on : (code : Code) (names : List (List ℕ)) (limits : Limits) → IsWorked code names limits h last → taken ≤ most → (most ≡ 1) ⊎ (next.ticks + most ≤ limits.quantum + 1)
      → IsWorked code names limits j (record { process = next.process; ticks = next.ticks + (taken - 1) })
  round_on code names limits k few bound =
      works_on h i j last next (taken - 1) goes_on picked to_pick to_work moved_so code names limits k
      (⊎_elim
      (λ (one : most ≡ 1). inl (let z : taken - 1 ≡ 0 = omega (arith, few, one) in z))
      (λ (fits : next.ticks + most ≤ limits.quantum + 1).
      inr (subst (λ (l : Limits). next.ticks + (taken - 1) ≤ l.quantum) (sym k.limits_are) (let z : next.ticks + (taken - 1) ≤ limits.quantum = omega (arith, few, fits, some) in z)))
      bound)

  pub round_ends : h.world.ticks ≤ h.limits.budget → left j < left h
  round_ends few = fewer_left h i j last next (taken - 1) goes_on picked to_pick to_work moved_so few

module _ (code : Code) (names : List (List ℕ)) (limits : Limits) (h : Host) (last : Picked) (k : IsWorked code names limits h last) where
  -- what the journal spells in the end is a schedule of one worker
  pub ends_planned : (s : Stop) (told : Story) → told ≡ story h s → code_planned names code limits (turns told.journal.events) ≡ true
  ends_planned s told e =
      let planned : code_planned h.names h.code h.limits (spelled h.world.events) ≡ true = plan_ends (machine h) h.names h.limits (code_world h.code) h.world last k.plan in
      let all : code_planned names code limits (spelled h.world.events) ≡ true = rw (k.names_are, k.code_is, k.limits_are) at planned in
      subst (λ (t : Story). code_planned names code limits (turns t.journal.events) ≡ true) (sym e)
      (subst (λ schedule. code_planned names code limits schedule ≡ true) (sym (spelled_story h s)) all)
