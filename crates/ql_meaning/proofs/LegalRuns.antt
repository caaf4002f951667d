-- Every journal is legal, and a killed process only cleans up.
use Rattle.std.proofs.Common.{◌≡◌, ℕ, true, false, List, [], ◌∷◌, length, Option, Some, None, refl, sym, ap, ◌∙◌, subst, ⊎_elim}
use Rattle.std.specs.Prelude.{reverse, is_none, option_map, option_and_then}
use Rattle.ql_base.specs.declared.limits.Limits.{Limits}
use Rattle.ql_expand.specs.Core.{Program}
use Rattle.ql_world.specs.declared.word.Word.{Word}
use Rattle.ql_world.specs.declared.event.Stop.{Stop}
use Rattle.ql_world.specs.declared.event.Event.TheVariants.{Stopped as stopped}
use Rattle.ql_world.specs.World.{World, numbered, opening, counted}
use Rattle.ql_world.specs.declared.world.Process.{Process}
use Rattle.ql_world.specs.Tick.{can_step, row, step, tick}
use Rattle.ql_world.specs.Run.{Story, stop_of, run, story_of, told}
use Rattle.ql_meaning.specs.Context.{Context, context_of, quotes_of, globals_of, tops_of}
use Rattle.ql_meaning.specs.Control.{Thread, Closure, begin, want_of, core_machine}
use Rattle.ql_meaning.specs.Meaning.{program_world}
use Rattle.ql_meaning.specs.Sane.{Sane}
use Rattle.ql_meaning.specs.Legal.{Legal}
use Rattle.ql_meaning.specs.CleanupTick.{CleanupTick}
use Rattle.ql_meaning.specs.Laws.{SaneAlong, JournalsAreLegal, KilledOnlyCleanUp}
use Rattle.ql_meaning.proofs.Opening.{runs_sane}
use Rattle.ql_meaning.proofs.Lists.{cases, both_true, not_true, some_same}
use Rattle.ql_meaning.proofs.LegalLines.{NotDone, Knows}
use Rattle.ql_meaning.proofs.LegalKills.{news_of_tick}
use Rattle.ql_meaning.proofs.LegalTicks.{mm, SaneFrom, counted_sane, counted_known, step_known, tick_known, opening_known, all_cleaned}
use Rattle.ql_meaning.proofs.LegalLaws.{is_left, NoneLate, legal}
use Rattle.ql_meaning.proofs.LegalLate.{Late, Fresh, AllFresh, all_rows}

module _ (x : Context) (names : List (List ℕ)) (limits : Limits) where
  -- all that is known of a world along a run
  pub record Told (v : World Thread Closure) : Type 0 where
    pub known : Knows v.events v.procs v.catches
    pub unmarked : NotDone v.mark
    pub late : Late v.events v.procs v.catches

  counted_late : (w : World Thread Closure) (p : ℕ) → Late w.events w.procs w.catches → Late (counted w p).events w.procs w.catches
  counted_late w p l = record {
    none = subst NoneLate (sym (news_of_tick p w.events)) l.none;
    low = λ c h. l.low c (sym (ap (is_left c) (news_of_tick p w.events)) ∙ h);
    leaving = λ c k h i o. l.leaving c k (sym (ap (is_left c) (news_of_tick p w.events)) ∙ h) i o;
  }

  step_late : (w : World Thread Closure) (p : ℕ) (q : Process Thread) (v : World Thread Closure) → Sane w → Told w → numbered w.procs p ≡ Some q → step (mm x names limits) names limits p q w ≡ Some v → Late v.events v.procs v.catches
  step_late w p q v s k at e =
      ⊎_elim
      (λ (t : can_step (core_machine x) names limits p q w ≡ true).
      let at_work : q.ended ≡ false = not_true _ (both_true _ _ t).0 in
      let su : Sane (counted w p) = counted_sane x names limits w p s in
      let ku : Knows (counted w p).events (counted w p).procs (counted w p).catches = counted_known x names limits w p k.known in
      let lu : Late (counted w p).events (counted w p).procs (counted w p).catches = counted_late w p k.late in
      let moved : row (core_machine x) names limits p q (counted w p) (want_of x q.thread.control q.thread.frames) ≡ Some v = rw t at e in
      let good : Fresh x names limits (counted w p) su ku lu p q at at_work v = subst (AllFresh x names limits (counted w p) su ku lu p q at at_work) moved (all_rows x names limits (counted w p) su ku lu p q at at_work (want_of x q.thread.control q.thread.frames) refl) in
      good.is)
      (λ (t : can_step (core_machine x) names limits p q w ≡ false). let bad : None ≡ Some v = rw t at e in absurd cc)
      (cases (can_step (core_machine x) names limits p q w))

  pub told_tick : (w v : World Thread Closure) (p : ℕ) → Sane w → Told w → tick (core_machine x) names limits w p ≡ Some v → Told v
  told_tick w v p s k e = of_process (numbered w.procs p) refl e
    where
      of_process : (o : Option (Process Thread)) → numbered w.procs p ≡ o → option_and_then (λ q. step (core_machine x) names limits p q w) o ≡ Some v → Told v
      of_process None at e = absurd cc
      of_process (Some q) at e = let t = step_known x names limits w p q v s k.known k.unmarked at e in record { known = t.known; unmarked = t.unmarked; late = step_late w p q v s k at e }

  pub run_told : (ps : List ℕ) (w v : World Thread Closure) → SaneFrom x names limits w → Told w → run (core_machine x) names limits w ps ≡ Some v → Told v
  run_told [] w v s k e = subst Told (some_same e) k
  run_told (p ∷ ps) w v s k e =
      ⊎_elim
      (λ (t : is_none (stop_of (core_machine x) names limits w) ≡ true). of_tick t (tick (core_machine x) names limits w p) refl (rw t at e) (run_told ps))
      (λ (t : is_none (stop_of (core_machine x) names limits w) ≡ false). let bad : None ≡ Some v = rw t at e in absurd cc)
      (cases (is_none (stop_of (core_machine x) names limits w)))
    where
      of_tick : is_none (stop_of (core_machine x) names limits w) ≡ true → (o : Option (World Thread Closure)) → tick (core_machine x) names limits w p ≡ o → option_and_then (λ z. run (core_machine x) names limits z ps) o ≡ Some v
          → ((w v : World Thread Closure) → SaneFrom x names limits w → Told w → run (core_machine x) names limits w ps ≡ Some v → Told v) → Told v
      of_tick t None f e again = absurd cc
      of_tick t (Some z) f e again =
          let from : SaneFrom x names limits z = λ rs y r. s (p ∷ rs) y (rw (t, f) r) in
          again z v from (told_tick w z p (s [] w refl) k f) e

  pub opening_told : (quoted : List (Word × Word)) (n : ℕ) (t : Thread) → Told (opening quoted n t)
  opening_told quoted n t =
      let o = opening_known x names limits quoted n t in
      record { known = o.known; unmarked = o.unmarked; late = record { none = tt; low = λ c h. absurd cc; leaving = λ c k h i w. absurd cc } }

  told_legal : (v : World Thread Closure) (why : Stop) → Sane v → Told v → stop_of (core_machine x) names limits v ≡ Some why → Legal (reverse (stopped why ∷ v.events))
  told_legal v why s k e = legal (stopped why ∷ v.events) ((k.known.calm, all_cleaned x names limits v why s k.unmarked e), k.known.lines) refl k.late.none

  pub story_legal : (w : World Thread Closure) (schedule : List ℕ) (story : Story) → SaneFrom x names limits w → Told w → told (core_machine x) names limits w schedule ≡ Some story → Legal story.journal.events
  story_legal w schedule story s k e = of_run (run (core_machine x) names limits w schedule) refl e
    where
      of_stop : (v : World Thread Closure) → run (core_machine x) names limits w schedule ≡ Some v → (o : Option Stop) → stop_of (core_machine x) names limits v ≡ o → option_map (story_of (core_machine x) names limits v) o ≡ Some story → Legal story.journal.events
      of_stop v r None g e = absurd cc
      of_stop v r (Some why) g e =
          let same : story_of (core_machine x) names limits v why ≡ story = some_same e in
          subst (λ (z : Story). Legal z.journal.events) same (told_legal v why (s schedule v r) (run_told schedule w v s k r) g)

      of_run : (o : Option (World Thread Closure)) → run (core_machine x) names limits w schedule ≡ o → option_and_then (λ v. option_map (story_of (core_machine x) names limits v) (stop_of (core_machine x) names limits v)) o ≡ Some story → Legal story.journal.events
      of_run None r e = absurd cc
      of_run (Some v) r e = of_stop v r (stop_of (core_machine x) names limits v) refl e

-- the theorems

module _ (names : List (List ℕ)) (p : Program) (limits : Limits) (sane : SaneAlong names p limits) where
  pub start : Told (context_of p) names limits (program_world p)
  start = opening_told (context_of p) names limits (quotes_of p).0 (length (globals_of p)) (begin (tops_of p))

  -- the bridge, along each run
  pub all_told : (schedule : List ℕ) (w : World Thread Closure) → run (core_machine (context_of p)) names limits (program_world p) schedule ≡ Some w → Told (context_of p) names limits w
  all_told schedule w r = run_told (context_of p) names limits schedule (program_world p) w sane start r

  pub journals_legal : JournalsAreLegal names p limits
  journals_legal = λ schedule story e. story_legal (context_of p) names limits (program_world p) schedule story sane start e

  pub killed_clean_up : KilledOnlyCleanUp names p limits
  killed_clean_up = λ schedule old new n q r at d e.
      let k = all_told schedule old r in
      let t = tick_known (context_of p) names limits old n new (sane schedule old r) k.known k.unmarked e in
      let same : t.0 ≡ q = some_same (sym t.1 ∙ at) in
      subst (λ (z : Process Thread). CleanupTick (core_machine (context_of p)) z old new) same (t.2.cleanup (ap (λ (z : Process Thread). z.aim) same ∙ d))

-- joined with the proof that each world along a run is sane

pub sane_along : (names : List (List ℕ)) (p : Program) (limits : Limits) → SaneAlong names p limits
sane_along names p limits = λ schedule w r. runs_sane p names limits schedule w r

pub journals_always_legal : (names : List (List ℕ)) (p : Program) (limits : Limits) → JournalsAreLegal names p limits
journals_always_legal names p limits = journals_legal names p limits (sane_along names p limits)

pub killed_always_clean_up : (names : List (List ℕ)) (p : Program) (limits : Limits) → KilledOnlyCleanUp names p limits
killed_always_clean_up names p limits = killed_clean_up names p limits (sane_along names p limits)
