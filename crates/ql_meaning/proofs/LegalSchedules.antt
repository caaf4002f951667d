-- Every journal spells the schedule of its run.
use Rattle.std.proofs.Common.{◌≡◌, ℕ, zero, suc, true, false, List, [], ◌∷◌, ◌++◌, Option, Some, None, refl, sym, ap, ◌∙◌, ⊎_elim, append_assoc}
use Rattle.std.proofs.lemmas.List.{reverse-reverse, reverse-append, append-nil}
use Rattle.std.specs.Prelude.{reverse, replicate, is_none, option_map, option_and_then}
use Rattle.ql_base.specs.declared.limits.Limits.{Limits}
use Rattle.ql_expand.specs.Core.{Program}
use Rattle.ql_world.specs.Event.{turns}
use Rattle.ql_world.specs.declared.event.Event.{Event}
use Rattle.ql_world.specs.declared.event.Event.TheVariants.{Turn as turn, Stopped as stopped}
use Rattle.ql_world.specs.declared.event.Stop.{Stop}
use Rattle.ql_world.specs.World.{World}
use Rattle.ql_world.specs.Tick.{tick}
use Rattle.ql_world.specs.Run.{Story, stop_of, run, story_of, told}
use Rattle.ql_meaning.specs.Context.{Context, context_of}
use Rattle.ql_meaning.specs.Control.{Thread, Closure, core_machine}
use Rattle.ql_meaning.specs.Meaning.{program_world}
use Rattle.ql_meaning.specs.Laws.{JournalsSpellTheirSchedules}
use Rattle.ql_meaning.proofs.Lists.{cases, some_same}
use Rattle.ql_meaning.proofs.LegalLines.{spelled_by}
use Rattle.ql_meaning.proofs.LegalTicks.{SaneFrom, tick_known}
use Rattle.ql_meaning.proofs.LegalRuns.{Told, told_tick, start, sane_along}

turns_append : (xs ys : List Event) → turns (xs ++ ys) ≡ turns xs ++ turns ys
turns_append [] ys = refl
turns_append (turn p n ∷ xs) ys = ap (λ z. replicate n p ++ z) (turns_append xs ys) ∙ sym (append_assoc (replicate n p) (turns xs) (turns ys))
turns_append (e ∷ xs) ys = turns_append xs ys

turned : (e : Event) (es : List Event) → turns (reverse (e ∷ es)) ≡ turns (reverse es) ++ turns (e ∷ [])
turned e es = ap turns (reverse-append (e ∷ []) es) ∙ turns_append (reverse es) (e ∷ [])

pushed : (n p : ℕ) → replicate n p ++ p ∷ [] ≡ p ∷ replicate n p
pushed zero p = refl
pushed (suc n) p = ap (λ z. p ∷ z) (pushed n p)

same_back : (n p : ℕ) → reverse (replicate n p) ≡ replicate n p
same_back zero p = refl
same_back (suc n) p = reverse-append (p ∷ []) (replicate n p) ∙ ap (λ z. z ++ p ∷ []) (same_back n p) ∙ pushed n p

-- read in order
spelled_in_order : (es : List Event) → turns (reverse es) ≡ reverse (spelled_by es)
spelled_in_order [] = refl
spelled_in_order (turn p n ∷ es) =
    turned (turn p n) es ∙ ap (λ z. turns (reverse es) ++ z) (append-nil (replicate n p)) ∙ ap (λ z. z ++ replicate n p) (spelled_in_order es)
    ∙ sym (reverse-append (replicate n p) (spelled_by es) ∙ ap (λ z. reverse (spelled_by es) ++ z) (same_back n p))
spelled_in_order (e ∷ es) = turned e es ∙ append-nil (turns (reverse es)) ∙ spelled_in_order es

module _ (x : Context) (names : List (List ℕ)) (limits : Limits) where
  run_spells : (ps : List ℕ) (w v : World Thread Closure) → SaneFrom x names limits w → Told x names limits w → run (core_machine x) names limits w ps ≡ Some v → spelled_by v.events ≡ reverse ps ++ spelled_by w.events
  run_spells [] w v s k e = ap (λ (z : World Thread Closure). spelled_by z.events) (sym (some_same e))
  run_spells (p ∷ ps) w v s k e =
      ⊎_elim
      (λ (t : is_none (stop_of (core_machine x) names limits w) ≡ true). of_tick t (tick (core_machine x) names limits w p) refl (rw t at e) (run_spells ps))
      (λ (t : is_none (stop_of (core_machine x) names limits w) ≡ false). let bad : None ≡ Some v = rw t at e in absurd cc)
      (cases (is_none (stop_of (core_machine x) names limits w)))
    where
      of_tick : is_none (stop_of (core_machine x) names limits w) ≡ true → (o : Option (World Thread Closure)) → tick (core_machine x) names limits w p ≡ o → option_and_then (λ z. run (core_machine x) names limits z ps) o ≡ Some v
          → ((w v : World Thread Closure) → SaneFrom x names limits w → Told x names limits w → run (core_machine x) names limits w ps ≡ Some v → spelled_by v.events ≡ reverse ps ++ spelled_by w.events) → spelled_by v.events ≡ reverse (p ∷ ps) ++ spelled_by w.events
      of_tick t None f e again = absurd cc
      of_tick t (Some z) f e again =
          let from : SaneFrom x names limits z = λ rs y r. s (p ∷ rs) y (rw (t, f) r) in
          let one = (tick_known x names limits w p z (s [] w refl) k.known k.unmarked f).2.spelled in
          again z v from (told_tick x names limits w z p (s [] w refl) k f) e ∙ ap (λ y. reverse ps ++ y) one
          ∙ sym (ap (λ y. y ++ spelled_by w.events) (reverse-append (p ∷ []) ps) ∙ append_assoc (reverse ps) (p ∷ []) (spelled_by w.events))

  story_spells : (w : World Thread Closure) (schedule : List ℕ) (story : Story) → spelled_by w.events ≡ [] → SaneFrom x names limits w → Told x names limits w → told (core_machine x) names limits w schedule ≡ Some story → turns story.journal.events ≡ schedule
  story_spells w schedule story first s k e = of_run (run (core_machine x) names limits w schedule) refl e
    where
      of_stop : (v : World Thread Closure) → run (core_machine x) names limits w schedule ≡ Some v → (o : Option Stop) → option_map (story_of (core_machine x) names limits v) o ≡ Some story → turns story.journal.events ≡ schedule
      of_stop v r None e = absurd cc
      of_stop v r (Some why) e =
          let same : story_of (core_machine x) names limits v why ≡ story = some_same e in
          let all : spelled_by v.events ≡ reverse schedule = run_spells schedule w v s k r ∙ ap (λ z. reverse schedule ++ z) first ∙ append-nil (reverse schedule) in
          ap (λ (z : Story). turns z.journal.events) (sym same) ∙ spelled_in_order (stopped why ∷ v.events) ∙ ap reverse all ∙ reverse-reverse schedule

      of_run : (o : Option (World Thread Closure)) → run (core_machine x) names limits w schedule ≡ o → option_and_then (λ v. option_map (story_of (core_machine x) names limits v) (stop_of (core_machine x) names limits v)) o ≡ Some story → turns story.journal.events ≡ schedule
      of_run None r e = absurd cc
      of_run (Some v) r e = of_stop v r (stop_of (core_machine x) names limits v) e

pub journals_spell : (names : List (List ℕ)) (p : Program) (limits : Limits) → JournalsSpellTheirSchedules names p limits
journals_spell names p limits = λ schedule story e. story_spells (context_of p) names limits (program_world p) schedule story refl (sane_along names p limits) (start names p limits (sane_along names p limits)) e
