-- What is told of a run is of a run of the program that the bytes are the source of.
use Rattle.std.proofs.Common.{◌≡◌, ℕ, List, Option, Some, None, refl, sym, ◌∙◌, subst}
use Rattle.std.specs.Prelude.{IfSome}
use Rattle.ql_base.specs.declared.limits.Limits.{Limits}
use Rattle.ql_forms.specs.Form.{Forms}
use Rattle.ql_expand.specs.Core.{Program}
use Rattle.ql_world.specs.declared.event.Stop.{Stop}
use Rattle.ql_host.specs.Host.{Told}
use Rattle.ql_meaning.specs.Legal.{Legal}
use Rattle.ql_top.specs.Run.{IsRun}
use Rattle.ql_top.specs.Top.{IsSource, Writes, of_run, of_trial, of_show, of_check, of_list, HasSource, LeavesJournal, IsDone, EndsBy, IsSilent, Tells}
use Rattle.ql_top.specs.Words.{limits_of}
use Rattle.ql_top.proofs.Answering.{Ends}
use Rattle.ql_top.specs.declared.words.Command.{Command}
use Rattle.ql_top.specs.declared.words.Command.TheVariants as commands
use Rattle.ql_top.specs.declared.words.Command.TheVariants.{Run, Show, Check, Gen, Trial, Replay, Span}
use Rattle.ql_top.specs.declared.status.Ended.{Ended}
use Rattle.ql_top.specs.declared.status.Status.{Status}
use Rattle.ql_top.specs.declared.status.Status.TheVariants.{Done, Refused, Words, Fault, Budget, Deadlock, Limit, NoMemory, ReadFault, WriteFault, Differs}

none_and_some : {A : Type 0} (o : Option A) (x : A) → o ≡ None → o ≡ Some x → Prim.⊥
none_and_some o x e f = let bad : None ≡ Some x = sym e ∙ f in absurd cc

-- it is told of a run of a program with this source
abbrev IsOf : Limits → List ℕ → Told → Type 0
IsOf limits b told = (p : Program) × (i : IsSource b p) × IsRun i.names p limits told.story

same_run : (names : List (List ℕ)) (p : Program) (limits : Limits) (o : Option Told) (run told : Told) → o ≡ Some run → o ≡ Some told
    → IsRun names p limits run.story → IsRun names p limits told.story
same_run names p limits o run told a e h =
    let both : Some run ≡ Some told = sym a ∙ e in
    let same : run ≡ told = cc in
    subst (λ (t : Told). IsRun names p limits t.story) same h

told_written : (command : Command) (names : List (List ℕ)) (forms : Forms) (p : Program) (o : Option Told) (stop : Stop) (output lines : List ℕ) (told : Told)
    → Writes command names forms p o stop output lines → o ≡ Some told → IsRun names p (limits_of command) told.story
told_written (Run options) names forms p o stop output lines told (of_run r) e = same_run names p options.limits o r.run told r.is_told e r.is_run
told_written (Trial seed size options) names forms p o stop output lines told (of_trial r) e =
    same_run names p options.limits o r.run told r.is_told e r.is_run
told_written Show names forms p o stop output lines told of_show e = absurd cc
told_written Check names forms p o stop output lines told of_check e = absurd cc
told_written commands.List names forms p o stop output lines told of_list e = absurd cc
told_written (Gen seed size) names forms p o stop output lines told h e = elim h [ ]
told_written Replay names forms p o stop output lines told h e = elim h [ ]
told_written Span names forms p o stop output lines told h e = elim h [ ]

module _ (command : Command) (ended : Ended) (b : List ℕ) (o o' j j' : Option (List ℕ)) (told : Told) (e : ended.told ≡ Some told) where
  told_done : (left : Option (List ℕ)) → IsDone command ended b left o o' j j' → IsOf (limits_of command) b told
  told_done left d =
      let s = d.of.source in (d.of.program, s, told_written command s.names s.forms d.of.program ended.told d.stop d.output d.lines told d.writes e)

  silent_told : (command : Command) (status : Status) → Tells (Some command) status ended.told → IsSilent status → Prim.⊥
  silent_told (Run options) status t s = none_and_some ended.told told (t.1 s) e
  silent_told (Trial seed size options) status t s = none_and_some ended.told told (t.1 s) e
  silent_told Show status t s = none_and_some ended.told told t e
  silent_told Check status t s = none_and_some ended.told told t e
  silent_told commands.List status t s = none_and_some ended.told told t e
  silent_told (Gen seed size) status t s = none_and_some ended.told told t e
  silent_told Replay status t s = none_and_some ended.told told t e
  silent_told Span status t s = none_and_some ended.told told t e

  told_by : (status : Status) (left : Option (List ℕ)) → EndsBy status command ended b left o o' j j' → Tells (Some command) status ended.told
      → IsOf (limits_of command) b told
  told_by Done left d t = told_done left d
  told_by (Refused kind at) left d t = absurd (silent_told command (Refused kind at) t tt)
  told_by Words left d t = absurd d
  told_by (Fault kind p at) left d t = told_done left d
  told_by Budget left d t = told_done left d
  told_by Deadlock left d t = told_done left d
  told_by (Limit kind) left d t = told_done left d
  told_by NoMemory left d t = absurd (silent_told command NoMemory t tt)
  told_by ReadFault left d t = absurd (silent_told command ReadFault t tt)
  told_by WriteFault left d t = told_done left d
  told_by (Differs line) left d t = absurd d

-- a command of whose run a host has told writes its journal
pub tells_run : (command : Command) (status : Status) (o : Option Told) (told : Told) → o ≡ Some told → Tells (Some command) status o
    → LeavesJournal (Some command) → Prim.⊥
tells_run (Run options) status o told e t l = l
tells_run (Trial seed size options) status o told e t l = l
tells_run Check status o told e t l = none_and_some o told t e
tells_run Show status o told e t l = none_and_some o told t e
tells_run commands.List status o told e t l = none_and_some o told t e
tells_run (Gen seed size) status o told e t l = none_and_some o told t e
tells_run Replay status o told e t l = none_and_some o told t e
tells_run Span status o told e t l = none_and_some o told t e

-- of every source
pub legal_told : (asked : Option Command) (ended : Ended) (o o' j j' : Option (List ℕ))
    → ((command : Command) → asked ≡ Some command → HasSource command → (b : List ℕ) × Ends command ended b o o' j j')
    → Tells asked ended.status ended.told → IfSome ended.told (λ told. Legal told.story.journal.events)
legal_told asked ended o o' j j' ends t = of_told ended.told refl
  where
    of_asked : (told : Told) → ended.told ≡ Some told → (a : Option Command) → asked ≡ a → Tells a ended.status ended.told → Legal told.story.journal.events
    of_asked told e None h t = absurd (none_and_some ended.told told t e)
    of_asked told e (Some (Gen seed size)) h t = absurd (none_and_some ended.told told t e)
    of_asked told e (Some (Trial seed size options)) h t =
        let a = ends (Trial seed size options) h tt in
        (told_by (Trial seed size options) ended a.0 o o' j j' told e ended.status a.1.0 a.1.1 t).2.legal
    of_asked told e (Some (Run options)) h t =
        let a = ends (Run options) h tt in (told_by (Run options) ended a.0 o o' j j' told e ended.status a.1.0 a.1.1 t).2.legal
    of_asked told e (Some Replay) h t = absurd (none_and_some ended.told told t e)
    of_asked told e (Some Span) h t = absurd (none_and_some ended.told told t e)
    of_asked told e (Some Show) h t = absurd (none_and_some ended.told told t e)
    of_asked told e (Some Check) h t = absurd (none_and_some ended.told told t e)
    of_asked told e (Some commands.List) h t = absurd (none_and_some ended.told told t e)

    of_told : (told : Option Told) → ended.told ≡ told → IfSome told (λ told. Legal told.story.journal.events)
    of_told None e = tt
    of_told (Some told) e = of_asked told e asked refl t

module _ (one_program : (b : List ℕ) (p q : Program) → IsSource b p → IsSource b q → p ≡ q)
    (same_names : (b : List ℕ) (p q : Program) (i : IsSource b p) (j : IsSource b q) → i.names ≡ j.names) where
  -- of the program that the source is of
  pub run_told : (command : Command) (ended : Ended) (b : List ℕ) (o o' j j' : Option (List ℕ)) (told : Told) → ended.told ≡ Some told
      → Ends command ended b o o' j j' → (p : Program) (i : IsSource b p) → Tells (Some command) ended.status ended.told
      → IsRun i.names p (limits_of command) told.story
  run_told command ended b o o' j j' told e a p i t =
      let r = told_by command ended b o o' j j' told e ended.status a.0 a.1 t in
      subst (λ ns. IsRun ns p (limits_of command) told.story) (same_names b r.0 p r.1 i)
      (subst (λ q. IsRun r.1.names q (limits_of command) told.story) (one_program b r.0 p r.1 i) r.2)
