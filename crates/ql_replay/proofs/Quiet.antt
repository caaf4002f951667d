-- Ticks of one process that touch its window alone are ticks of one turn.
use Rattle.std.proofs.Common.{◌≡◌, ◌≤◌, ◌==◌, ◌+◌, ℕ, zero, suc, Bool, true, false, List, [], ◌∷◌, ◌++◌, Option, Some, None, refl, sym, ap, ◌∙◌, subst, arith}
use Rattle.std.specs.Prelude.{◌||◌, is_none, option_map, option_and_then, replicate, reverse, if◌then◌else◌}
use Rattle.ql_base.specs.declared.limits.Limits.{Limits}
use Rattle.ql_world.specs.Event.{turns}
use Rattle.ql_world.specs.declared.event.Event.{Event}
use Rattle.ql_world.specs.declared.event.Event.TheVariants.{Turn as turn, Spawn as spawn, Opened as opened, Exit as exit, Throw as throw, Land as land, Kill as kill, Protect as protect, Begin as begin, Finish as finish, Send as send, Take as take, Reply as reply, EndOk as end_ok, EndKilled as end_killed, Stopped as stopped}
use Rattle.ql_world.specs.declared.world.Process.{Process}
use Rattle.ql_world.specs.World.{World, numbered}
use Rattle.ql_world.specs.Machine.{Machine}
use Rattle.ql_world.specs.Tick.{tick}
use Rattle.ql_world.specs.Run.{run, stop_of}
use Rattle.ql_code.specs.Code.{Instruction}
use Rattle.ql_code.specs.Machine.{Point, Entry, code_world}
use Rattle.ql_code.specs.LocalPath.{Window, window_of, local_step, local_steps, LocalPath}
use Rattle.ql_code.specs.LocalLaws as law
use Rattle.ql_code.specs.LocalLaws.{CommitsAreTicks, TicksAreTurns, with_turn, with_ticks, thread_after}
use Rattle.ql_host.specs.Host.{Host, IsRun, machine, stop, window, worked}
use Rattle.ql_replay.specs.Following.{TakesTicks}
use Rattle.ql_replay.specs.Replay.{is_quiet, is_zero, stepped, turned}
use Rattle.ql_replay.specs.Running.{Run, host_in, IsQuietUpTo}
use Rattle.ql_replay.proofs.Basics.{if_some, then_some}

-- ---- along a schedule

module _ {P K : Type 0} (m : Machine P K) (names : List (List ℕ)) (limits : Limits) where
  pub run_on : (first rest : List ℕ) (w v : World P K) → run m names limits w first ≡ Some v → run m names limits w (first ++ rest) ≡ run m names limits v rest
  run_on [] rest w v e = let same : w ≡ v = cc in ap (λ z. run m names limits z rest) same
  run_on (p ∷ ps) rest w v e =
      let i = if_some (is_none (stop_of m names limits w)) _ v e in
      let t = then_some (λ u. run m names limits u ps) (tick m names limits w p) v i.1 in
      ap (λ b. if b then option_and_then (λ u. run m names limits u (ps ++ rest)) (tick m names limits w p) else None) i.0
      ∙ ap (option_and_then (λ u. run m names limits u (ps ++ rest))) t.1.0
      ∙ run_on ps rest t.0 v t.1.1

  -- the state before the last tick
  pub record Last (p n : ℕ) (w v : World P K) : Type 0 where
    pub before : World P K
    pub runs : run m names limits w (replicate n p) ≡ Some before
    pub steps : run m names limits before (p ∷ []) ≡ Some v

  pub last_tick : (p n : ℕ) (w v : World P K) → run m names limits w (replicate (suc n) p) ≡ Some v → Last p n w v
  last_tick p zero w v e = record { before = w; runs = refl; steps = e }
  last_tick p (suc n) w v e =
      let i = if_some (is_none (stop_of m names limits w)) _ v e in
      let t = then_some (λ u. run m names limits u (replicate (suc n) p)) (tick m names limits w p) v i.1 in
      let l = last_tick p n t.0 v t.1.1 in
      record {
        before = l.before;
        runs =
            ap (λ b. if b then option_and_then (λ u. run m names limits u (replicate n p)) (tick m names limits w p) else None) i.0
            ∙ (ap (option_and_then (λ u. run m names limits u (replicate n p))) t.1.0 ∙ l.runs);
        steps = l.steps;
      }

-- ---- turns

turn_is_quiet : (p n : ℕ) (es : List Event) → is_quiet (with_turn p n es) ≡ true
turn_is_quiet p n [] = refl
turn_is_quiet p n (turn q m ∷ es) = of_both (p == q)
  where
    of_both : (b : Bool) → is_quiet (if b then turn q (m + n) ∷ es else turn p n ∷ (turn q m ∷ es)) ≡ true
    of_both true = refl
    of_both false = refl
turn_is_quiet p n (spawn a b c d ∷ es) = refl
turn_is_quiet p n (opened a b c ∷ es) = refl
turn_is_quiet p n (exit a b ∷ es) = refl
turn_is_quiet p n (throw a b ∷ es) = refl
turn_is_quiet p n (land a b ∷ es) = refl
turn_is_quiet p n (kill a b ∷ es) = refl
turn_is_quiet p n (protect a b ∷ es) = refl
turn_is_quiet p n (begin a b ∷ es) = refl
turn_is_quiet p n (finish a b ∷ es) = refl
turn_is_quiet p n (send a b c ∷ es) = refl
turn_is_quiet p n (take a b c ∷ es) = refl
turn_is_quiet p n (reply a b c d ∷ es) = refl
turn_is_quiet p n (end_ok a b ∷ es) = refl
turn_is_quiet p n (end_killed a ∷ es) = refl
turn_is_quiet p n (stopped a ∷ es) = refl

-- ---- local ticks

module _ (code : List Instruction) where
  -- a local path has all shorter ones
  shorter : (j n : ℕ) (a b : Window) → j ≤ n → LocalPath code a n b → (c : Window) × LocalPath code a j c
  shorter zero n a b l e = (a, refl)
  shorter (suc j) zero a b l e = absurd (omega (arith, l))
  shorter (suc j) (suc n) a b l e =
      let t = then_some (local_steps code None n) (local_step code None a) b e in
      let s = shorter j n t.0 b (omega (arith, l)) t.1.1 in
      (s.0, ap (option_and_then (local_steps code None j)) t.1.0 ∙ s.1)

-- the process whose window is this
window_there : (o : Option (Process Point)) (a : Window) → option_map window_of o ≡ Some a → (q : Process Point) × ((o ≡ Some q) × (window_of q ≡ a))
window_there None a e = absurd cc
window_there (Some q) a e = (q, (refl, cc))

module _ (commits : CommitsAreTicks) (one_turn : TicksAreTurns) (h : Host) (reached : IsRun h) (on : stop h ≡ None) (p n : ℕ) (a b : Window)
    (there : window h p ≡ Some a) (path : LocalPath h.code.instructions a n b) (within : h.world.ticks + n ≤ h.limits.budget) where
  events_quiet : (j : ℕ) (t : Point) → 1 ≤ j → is_quiet (law.worked h.world p j t).events ≡ true
  events_quiet zero t l = absurd (omega (arith, l))
  events_quiet (suc j) t l = ap is_quiet (one_turn p j h.world.events) ∙ turn_is_quiet p (suc j) h.world.events

  pub local_quiet : IsQuietUpTo h p n
  local_quiet j l m u e =
      let s = shorter h.code.instructions j n a b (omega (arith, m)) path in
      let x = window_there (numbered h.world.procs p) a there in
      let q = x.0 in
      let few : h.world.ticks + j ≤ h.limits.budget = omega (arith, within, m) in
      let whole = commits h.code h.names h.limits None (turns (reverse h.world.events)) j h.world p q s.0 reached on x.1.0 tt few
      (subst (λ z. local_steps h.code.instructions None j z ≡ Some s.0) (sym x.1.1) s.1) in
      let split = run_on (machine h) h.names h.limits (turns (reverse h.world.events)) (replicate j p) (code_world h.code) h.world reached in
      let same : Some u ≡ Some (law.worked h.world p j (thread_after q s.0)) = sym e ∙ (sym split ∙ whole) in
      let is : u ≡ law.worked h.world p j (thread_after q s.0) = cc in
      ap (λ (z : World Point Entry). is_quiet z.events) is ∙ events_quiet j (thread_after q s.0) l

-- ---- and so they are ticks of one turn

module _ (r : Run) (p : ℕ) where
  abbrev h : Host
  h = r.host

  one_step : (x u : World Point Entry) → run (machine h) h.names h.limits x (p ∷ []) ≡ Some u → stepped (host_in r) x p ≡ Some u
  one_step x u e =
      let i = if_some (is_none (stop_of (machine h) h.names h.limits x)) _ u e in
      let t = then_some (λ v. Some v) (tick (machine h) h.names h.limits x p) u i.1 in
      ap (λ b. if b then tick (machine h) h.names h.limits x p else None) i.0 ∙ (t.1.0 ∙ t.1.1)

  turned_by : (n : ℕ) → IsQuietUpTo h p n → (j : ℕ) → j ≤ n → (u : World Point Entry) → worked h p j ≡ Some u → turned (host_in r) h.world p j ≡ Some u
  turned_by n quiet zero l u e = e
  turned_by n quiet (suc j) l u e =
      let x = last_tick (machine h) h.names h.limits p j h.world u e in
      let i : turned (host_in r) h.world p j ≡ Some x.before = turned_by n quiet j (omega (arith, l)) x.before x.runs in
      let s : stepped (host_in r) x.before p ≡ Some u = one_step x.before u x.steps in
      let may : (is_zero j || is_quiet x.before.events) ≡ true = may_step j x.before (λ m. quiet j m (omega (arith, l)) x.before x.runs) in
      rw (i, may) s
    where
      may_step : (j : ℕ) (x : World Point Entry) → (1 ≤ j → is_quiet x.events ≡ true) → (is_zero j || is_quiet x.events) ≡ true
      may_step zero x q = refl
      may_step (suc j) x q = q (omega arith)

  pub takes_them : (n : ℕ) (v : World Point Entry) → 1 ≤ n → worked h p n ≡ Some v → IsQuietUpTo h p n → TakesTicks (host_in r) p n h.world v
  takes_them zero v l e q = absurd (omega (arith, l))
  takes_them (suc n) v l e q = turned_by (suc n) q (suc n) (omega arith) v e
