-- The status of a run is that of the stop of the program's one whole run by one worker.
use Rattle.std.proofs.Common.{◌≡◌, ℕ, true, List, Option, Some, refl, sym, ap, ◌∙◌, subst, inl, inr}
use Rattle.ql_base.specs.declared.limits.Limits.{Limits}
use Rattle.ql_forms.specs.Form.{Forms}
use Rattle.ql_expand.specs.Core.{Program}
use Rattle.ql_world.specs.Event.{turns}
use Rattle.ql_world.specs.Run.{Story}
use Rattle.ql_world.specs.declared.event.Stop as stop
use Rattle.ql_host.specs.Host.{Told}
use Rattle.ql_meaning.specs.Meaning.{program_told, program_planned}
use Rattle.ql_top.specs.Status.{status_of}
use Rattle.ql_top.specs.Top.{Refusal, IsSource, IsTold, Writes, of_run, of_trial, LeavesJournal, Written, IsDone, EndsBy, StopsOrFails}
use Rattle.ql_top.specs.Words.{limits_of}
use Rattle.ql_top.specs.declared.words.Command.{Command}
use Rattle.ql_top.specs.declared.words.Command.TheVariants as commands
use Rattle.ql_top.specs.declared.words.Command.TheVariants.{Run, Show, Check, Gen, Trial, Replay, Span}
use Rattle.ql_top.specs.declared.status.Ended.{Ended}
use Rattle.ql_top.specs.declared.status.Status.{Status}
use Rattle.ql_top.specs.declared.status.Status.TheVariants.{Done, Refused, Words, Fault, Budget, Deadlock, Limit, NoMemory, ReadFault, WriteFault, Differs}

-- what is told of the run of a command
run_told : (command : Command) (names : List (List ℕ)) (forms : Forms) (p : Program) (told : Option Told) (stop : stop.Stop) (output lines : List ℕ)
    → (LeavesJournal (Some command) → Prim.⊥) → Writes command names forms p told stop output lines
    → (printed : List ℕ) × IsTold names p (limits_of command) told stop printed lines
run_told (Run options) names forms p told stop output lines runs (of_run t) = (output, t)
run_told (Trial seed size options) names forms p told stop output lines runs (of_trial {printed} t) = (printed, t)
run_told Check names forms p told stop output lines runs w = absurd (runs tt)
run_told Show names forms p told stop output lines runs w = absurd (runs tt)
run_told commands.List names forms p told stop output lines runs w = absurd (runs tt)
run_told (Gen seed size) names forms p told stop output lines runs w = absurd (runs tt)
run_told Replay names forms p told stop output lines runs w = absurd (runs tt)
run_told Span names forms p told stop output lines runs w = absurd (runs tt)

module _ (one_program : (b : List ℕ) (p q : Program) → IsSource b p → IsSource b q → p ≡ q)
    (same_names : (b : List ℕ) (p q : Program) (i : IsSource b p) (j : IsSource b q) → i.names ≡ j.names)
    (not_refused : (b : List ℕ) (p : Program) → IsSource b p → (kind at : ℕ) → Refusal b kind at → Prim.⊥)
    (one_schedule : (names : List (List ℕ)) (p : Program) (limits : Limits) (s t : List ℕ) (x y : Story) → program_told names p limits s ≡ Some x
    → program_told names p limits t ≡ Some y → program_planned names p limits s ≡ true → program_planned names p limits t ≡ true → s ≡ t)
    (command : Command) (runs : LeavesJournal (Some command) → Prim.⊥) (b : List ℕ) (left o o' j j' : Option (List ℕ)) (p : Program) (schedule : List ℕ) (story : Story) (i : IsSource b p)
    (e : program_told i.names p (limits_of command) schedule ≡ Some story) (h : program_planned i.names p (limits_of command) schedule ≡ true) (ended : Ended) where
  same_story : (s : List ℕ) (x : Story) → program_told i.names p (limits_of command) s ≡ Some x → program_planned i.names p (limits_of command) s ≡ true → x ≡ story
  same_story s x f g =
      let both : Some x ≡ Some story = sym f ∙ ap (program_told i.names p (limits_of command)) (one_schedule i.names p (limits_of command) s schedule x story f e g h) ∙ e in cc

  stop_told : (told : Option Told) (stop : stop.Stop) (output lines : List ℕ) → IsTold i.names p (limits_of command) told stop output lines → stop ≡ story.stop
  stop_told told stop output lines t =
      t.stop_is ∙ ap (λ s. s.stop) (same_story (turns t.run.story.journal.events) t.run.story t.is_run.told t.is_run.planned)

  run_stop : (d : IsDone command ended b left o o' j j') → d.stop ≡ story.stop
  run_stop d =
      let t = run_told command d.of.source.names d.of.source.forms d.of.program ended.told d.stop d.output d.lines runs d.writes in
      stop_told ended.told d.stop t.0 d.lines
      (subst (λ ns. IsTold ns p (limits_of command) ended.told d.stop t.0 d.lines) (same_names b d.of.program p d.of.source i)
      (subst (λ q. IsTold d.of.source.names q (limits_of command) ended.told d.stop t.0 d.lines) (one_program b d.of.program p d.of.source i) t.1))

  run_stops : (status : Status) (d : IsDone command ended b left o o' j j') → status ≡ status_of d.stop → StopsOrFails status story.stop
  run_stops status d s = inl (s ∙ ap status_of (run_stop d))

  written_by : (status : Status) → ended.status ≡ status → (d : IsDone command ended b left o o' j j') → Written status d.stop d.output d.lines o o' j j'
  written_by status s d = subst (λ x. Written x d.stop d.output d.lines o o' j j') s d.written

  pub stops_as_told : (status : Status) → ended.status ≡ status → EndsBy status command ended b left o o' j j' → StopsOrFails status story.stop
  stops_as_told Done s d = run_stops Done d (written_by Done s d).0
  stops_as_told (Refused kind at) s d = absurd (not_refused b p i kind at d.refusal)
  stops_as_told Words s d = absurd d
  stops_as_told (Fault kind q at) s d = run_stops (Fault kind q at) d (written_by (Fault kind q at) s d).0
  stops_as_told Budget s d = run_stops Budget d (written_by Budget s d).0
  stops_as_told Deadlock s d = run_stops Deadlock d (written_by Deadlock s d).0
  stops_as_told (Limit kind) s d = run_stops (Limit kind) d (written_by (Limit kind) s d).0
  stops_as_told NoMemory s d = inr (inl refl)
  stops_as_told ReadFault s d = inr (inr (inl refl))
  stops_as_told WriteFault s d = inr (inr (inr refl))
  stops_as_told (Differs line) s d = absurd d
