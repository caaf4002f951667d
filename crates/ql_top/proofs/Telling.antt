-- The texts of a command.
use Rattle.std.proofs.Common.{◌≡◌, ◌++◌, ℕ, true, List, [], Some, None, refl, sym, ◌∙◌, subst, arith}
use Rattle.ql_base.specs.declared.limits.Limits.{Limits}
use Rattle.ql_forms.specs.Form.{Forms}
use Rattle.ql_forms.specs.FormText.{forms_text}
use Rattle.ql_forms.specs.Numbered.{spelled_forms}
use Rattle.ql_expand.specs.Core.{Program}
use Rattle.ql_expand.specs.Expands.{ExpandsTo}
use Rattle.ql_scope.specs.Compilable.{is_compilable}
use Rattle.ql_scope.specs.Scope.{InScope}
use Rattle.ql_world.specs.Event.{turns}
use Rattle.ql_world.specs.declared.event.Stop.TheVariants as stops
use Rattle.ql_code.specs.Code.{Code}
use Rattle.ql_code.specs.Listing.{listing}
use Rattle.ql_code.specs.Machine.{code_told, code_planned}
use Rattle.ql_host.specs.Host.{Told, IsInRange}
use Rattle.ql_meaning.specs.Meaning.{program_told}
use Rattle.ql_meaning.specs.Laws.{JournalsAreLegal, KilledOnlyCleanUp}
use Rattle.ql_compile.specs.Compile.{compiled}
use Rattle.ql_compile.specs.Laws.{CodeFollows, CodeIsPlanned}
use Rattle.ql_top.specs.Acts.{IsRunOf, HasTexts, told_in, stop_in, output_in, lines_in}
use Rattle.ql_top.specs.Run.{IsRun}
use Rattle.ql_top.specs.Top.{Makes, IsTold, Writes, of_run, of_trial, of_show, of_check, of_list, approval}
use Rattle.ql_top.specs.declared.top.Texts.{Texts}
use Rattle.ql_top.specs.declared.words.Command.TheVariants as commands
use Rattle.ql_top.specs.declared.words.Command.TheVariants.{Run, Show, Check, Trial}
use Rattle.ql_top.specs.declared.words.Options.{Options}
use Rattle.ql_top.specs.Summary.{summary}
use Rattle.ql_top.specs.Words.{IsAsked}

module _ (compilable : (forms : Forms) (p : Program) → ExpandsTo forms p → InScope p → is_compilable p ≡ true)
    (follows : (p : Program) → is_compilable p ≡ true → (names : List (List ℕ)) (limits : Limits) → CodeFollows names p limits)
    (planned_as : (p : Program) → is_compilable p ≡ true → (names : List (List ℕ)) (limits : Limits) → CodeIsPlanned names p limits)
    (legal : (names : List (List ℕ)) (p : Program) (limits : Limits) → JournalsAreLegal names p limits)
    (cleans : (names : List (List ℕ)) (p : Program) (limits : Limits) → KilledOnlyCleanUp names p limits)
    (names : List (List ℕ)) (forms : Forms) (p : Program) (makes : Makes names forms p) (limits : Limits) where
  can_be_compiled : is_compilable p ≡ true
  can_be_compiled = compilable forms p makes.expands makes.in_scope

  -- a run of a program's code is one of the program
  is_run : (told : Told) → code_told names (compiled p) limits (turns told.story.journal.events) ≡ Some told.story
      → code_planned names (compiled p) limits (turns told.story.journal.events) ≡ true → IsRun names p limits told.story
  is_run told t h =
      let schedule = turns told.story.journal.events in
      let is_told : program_told names p limits schedule ≡ Some told.story = sym (follows p can_be_compiled names limits schedule) ∙ t in
      record {
        told = is_told;
        planned = sym (planned_as p can_be_compiled names limits schedule) ∙ h;
        legal = legal names p limits schedule told.story is_told;
        cleans = λ before after n old new q parts reached at_place dies ticks. cleans names p limits before old new n q reached at_place dies ticks;
      }

  same_code : (code code' : Code) (ns ns' : List (List ℕ)) (l l' : Limits) (told : Told) → code ≡ code' → ns ≡ ns' → l ≡ l'
      → code_told ns code l (turns told.story.journal.events) ≡ Some told.story → code_told ns' code' l' (turns told.story.journal.events) ≡ Some told.story
  same_code code code' ns ns' l l' told c n m t = rw (c, n, m) at t

  pub run_told : (code : Code) (told : Told) (lines : List ℕ) → code ≡ compiled p → IsRunOf code names limits told lines
      → IsTold names p limits (Some told) told.story.stop told.story.output lines
  run_told code told lines c r = record {
    run = told;
    is_told = refl;
    code_is = r.code_is ∙ c;
    names_are = r.names_are;
    limits_are = r.limits_are;
    is_run = is_run told (same_code told.code (compiled p) told.names names told.limits limits told (r.code_is ∙ c) r.names_are r.limits_are r.is_told)
        (subst (λ k. code_planned names k limits (turns told.story.journal.events) ≡ true) c r.planned);
    stop_is = refl;
    output_is = refl;
    lines_are = r.lines_are;
  }

pub writes_run : (options : Options) (names : List (List ℕ)) (forms : Forms) (p : Program) (makes : Makes names forms p) (texts : Texts)
    → IsTold names p options.limits (told_in texts) (stop_in texts) (output_in texts) (lines_in texts) → HasTexts (Run options) texts names forms
writes_run options names forms p makes texts t = record { program = p; makes = makes; writes = of_run t }

pub writes_trial : (seed size : ℕ) (options : Options) (names : List (List ℕ)) (forms : Forms) (p : Program) (makes : Makes names forms p) (texts : Texts)
    (printed : List ℕ) → output_in texts ≡ printed ++ summary seed size (stop_in texts)
    → IsTold names p options.limits (told_in texts) (stop_in texts) printed (lines_in texts) → HasTexts (Trial seed size options) texts names forms
writes_trial seed size options names forms p makes texts printed e t = record {
  program = p;
  makes = makes;
  writes = subst (λ o. Writes (Trial seed size options) names forms p (told_in texts) (stop_in texts) o (lines_in texts)) (sym e) (of_trial t);
}

-- limits that words may give are those of a host
pub host_range : (limits : Limits) → IsAsked limits → IsInRange limits
host_range limits h = record { budget = h.budget; cells = h.cells; some_procs = rw h.procs (omega arith); procs = rw h.procs (omega arith); output = rw h.output (omega arith) }

pub writes_show : (names : List (List ℕ)) (forms : Forms) (p : Program) (output : List ℕ) → output ≡ forms_text (spelled_forms names forms)
    → Writes Show names forms p None stops.Done output []
writes_show names forms p output t = rw t of_show

pub writes_check : (names : List (List ℕ)) (forms : Forms) (p : Program) (output : List ℕ) → output ≡ approval → Writes Check names forms p None stops.Done output []
writes_check names forms p output t = rw t of_check

pub writes_list : (names : List (List ℕ)) (forms : Forms) (p : Program) (code : Code) (output : List ℕ) → output ≡ listing names code → code ≡ compiled p
    → Writes commands.List names forms p None stops.Done output []
writes_list names forms p code output t c = rw (t, c) of_list
