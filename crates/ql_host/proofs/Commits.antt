-- A host that takes work in goes on with its run.
use Rattle.std.proofs.Common.{◌≡◌, ℕ, List, ◌++◌, length, Option, Some, None, refl, sym, ap, ◌∙◌, subst, arith}
use Rattle.std.specs.Prelude.{Result, Ok, Err, IfOk, OnErr, reverse, replicate, option_map}
use Rattle.ql_world.specs.Event.{turns}
use Rattle.ql_world.specs.World.{World}
use Rattle.ql_world.specs.Run.{run}
use Rattle.ql_code.specs.Code.{Code}
use Rattle.ql_code.specs.Machine.{Point, Entry, code_machine, code_world}
use Rattle.ql_code.specs.LocalPath.{Window, window_of, LocalPath}
use Rattle.ql_code.specs.LocalLaws.{CommitsAreTicks, with_ticks}
use Rattle.ql_proc.specs.declared.process.Proc.{Proc}
use Rattle.ql_proc.specs.declared.window.Done.{Done}
use Rattle.ql_proc.specs.Windows.{window_in}
use Rattle.ql_host.specs.declared.setting.Setting.{Setting}
use Rattle.ql_host.specs.declared.shared.Shared.{Shared}
use Rattle.ql_host.specs.declared.work.Commit.{Commit}
use Rattle.ql_host.specs.declared.work.Commit.TheVariants.{Applied as applied, Dropped as dropped}
use Rattle.ql_host.specs.Acts.{world_in, IsLeft}
use Rattle.ql_host.specs.Host.{Host, Comes}
use Rattle.ql_host.specs.Hosted.{IsHosted}
use Rattle.ql_host.specs.Working.{process_in, IsTakable, IsTaken, Ends}
use Rattle.ql_host.proofs.Hosts.{hosted_still}
use Rattle.ql_host.proofs.Schedules.{ticks_spelled, run_all}

of_some : {A B : Type 0} (f : A → B) (o : Option A) (b : B) → option_map f o ≡ Some b → (a : A) × ((o ≡ Some a) × (f a ≡ b))
of_some f None b e = absurd cc
of_some f (Some a) b e = (a, (refl, cc))

module _ (law : CommitsAreTicks) (s : Setting) (h g : Shared) (ts us : List Proc) (d : Done)
    (i : IsHosted s.code.now s.names.now s.limits h ts)
    (path : LocalPath s.code.now.instructions (window_in d.start) d.steps (window_in d.window)) where
  abbrev W : Type 0
  W = World Point Entry

  -- what was taken in is a part of the run
  module _ (can : IsTakable s h ts d) (taken : IsTaken d h ts g us) where
    along : run (code_machine s.code.now.instructions) s.names.now s.limits (code_world s.code.now) (turns (reverse h.history.events) ++ replicate d.steps d.proc) ≡ Some (world_in g us)
    along =
        let q = of_some window_of (process_in h ts d.proc) (window_in d.start) can.same in
        law s.code.now s.names.now s.limits None (turns (reverse h.history.events)) d.steps (world_in h ts) d.proc q.0 (window_in d.window) i.runs can.goes_on q.1.0 tt can.within
        (subst (λ (a : Window). LocalPath s.code.now.instructions a d.steps (window_in d.window)) (sym q.1.1) path)
        ∙ ap Some (sym (taken.world q.0 q.1.0))

    pub goes_along : run (code_machine s.code.now.instructions) s.names.now s.limits (world_in h ts) (replicate d.steps d.proc) ≡ Some (world_in g us)
    goes_along =
        sym (run_all (code_machine s.code.now.instructions) s.names.now s.limits (turns (reverse h.history.events)) (replicate d.steps d.proc) (code_world s.code.now) (world_in h ts) i.runs) ∙ along

    events_are : g.history.events ≡ with_ticks d.proc d.steps h.history.events
    events_are =
        let q = of_some window_of (process_in h ts d.proc) (window_in d.start) can.same in
        ap (λ (w : W). w.events) (taken.world q.0 q.1.0)

    pub hosted_worked : IsHosted s.code.now s.names.now s.limits g us
    hosted_worked = record {
      runs = ap (λ es. run (code_machine s.code.now.instructions) s.names.now s.limits (code_world s.code.now) (turns (reverse es))) events_are
          ∙ ap (run (code_machine s.code.now.instructions) s.names.now s.limits (code_world s.code.now)) (ticks_spelled d.proc d.steps h.history.events)
          ∙ along;
      long = taken.long ∙ (i.long ∙ sym (ap length taken.persons));
      cells = taken.cells ∙ i.cells;
      procs = taken.procs ∙ i.procs;
      head = taken.head ∙ i.head;
      room = taken.room;
      protects = (let x = taken.protects in let y = i.protects in let z = taken.ticks in omega (arith, x, y, z));
      ticks = (let z = taken.ticks in let y = can.within in omega (arith, y, z));
      budget = i.budget;
      printed = i.printed;
    }

  pub hosted_ends : (c : Commit) → Ends c s d h ts g us → IsHosted s.code.now s.names.now s.limits g us
  hosted_ends (applied k) e = hosted_worked e.1.0 e.1.1
  hosted_ends dropped e = subst (λ (x : Shared). IsHosted s.code.now s.names.now s.limits x us) (sym e.1.0) (subst (IsHosted s.code.now s.names.now s.limits h) (sym e.1.1) i)

  -- it keeps what it kept
  pub hosted_anyhow : {E : Type 0} (r : Result Commit E) → IfOk r (λ c. Ends c s d h ts g us) → OnErr r (IsLeft h ts g us) → IsHosted s.code.now s.names.now s.limits g us
  hosted_anyhow (Ok c) e l = hosted_ends c e
  hosted_anyhow (Err x) e l = hosted_still s.code.now s.names.now s.limits h g ts us i l

  abbrev at : ℕ → List ℕ → Host
  at last away = record { code = s.code.now; names = s.names.now; limits = s.limits; world = world_in h ts; last = last; away = away }

  comes_so : (last : ℕ) (away : List ℕ) (new : Host) → new.world ≡ world_in g us → (c : Commit) → Ends c s d h ts g us → Comes c (at last away) new d.proc (window_in d.start) d.steps
  comes_so last away new w (applied k) e = (e.0, (record { same = e.1.0.same; within = e.1.0.within; goes_on = e.1.0.goes_on }, goes_along e.1.0 e.1.1 ∙ ap Some (sym w)))
  comes_so last away new w dropped e = (
    (λ k. e.0 (record { same = k.same; within = k.within; goes_on = k.goes_on })),
    w ∙ ap (λ (x : Shared). world_in x us) e.1.0 ∙ ap (world_in h) e.1.1,
  )

  -- what became of the work
  pub comes : {E : Type 0} (code : Code) → s.code.now ≡ code → (last : ℕ) (away : List ℕ) (new : Host) → new.world ≡ world_in g us → (r : Result Commit E) → IfOk r (λ c. Ends c s d h ts g us)
      → IfOk r (λ c. Comes c (record { code = code; names = s.names.now; limits = s.limits; world = world_in h ts; last = last; away = away }) new d.proc (window_in d.start) d.steps)
  comes code same last away new w (Ok c) e =
      subst (λ (z : Code). Comes c (record { code = z; names = s.names.now; limits = s.limits; world = world_in h ts; last = last; away = away }) new d.proc (window_in d.start) d.steps) same (comes_so last away new w c e)
  comes code same last away new w (Err x) e = e
