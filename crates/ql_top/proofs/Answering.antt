-- What an answer says of the bytes.
use Rattle.std.proofs.Common.{◌≡◌, ◌⊎◌, ◌≤◌, ◌++◌, ℕ, List, [], Option, Some, None, refl, sym, ap, ◌∙◌, subst, append-nil, inl, inr, arith}
use Rattle.ql_base.specs.Outside.{HasRisen}
use Rattle.ql_forms.specs.Form.{Forms}
use Rattle.ql_forms.specs.View.{forms_of}
use Rattle.ql_forms.specs.declared.text.Text.{Text}
use Rattle.ql_expand.specs.Core.{Program}
use Rattle.ql_world.specs.declared.event.Stop.{Stop}
use Rattle.ql_world.specs.declared.event.Stop.TheVariants.{Done as done}
use Rattle.ql_host.specs.Host.{Told}
use Rattle.ql_read.specs.TextFault.{MayFollow, IsRead}
use Rattle.ql_top.specs.Acts.{told_in, stop_in, output_in, lines_in, HasTexts, StopsText, AnswersSome}
use Rattle.ql_top.specs.Reading.{Takes, IsAtEnd, ReadsAll, IsFaulty, IsCutShort, StopsReading, HoldsTaken, HoldsFurther, ReadFaults}
use Rattle.ql_top.specs.Top.{IsText, Makes, Unfit, Refusal, of_text, of_forms, IsRefused, IsSource, Writes, of_run, of_trial, of_show, of_check, of_list, HasSource, ReadsSource, IsSourceOf, LeavesJournal, AnswersTrial, IsAnswer, IsGenerated, Written, IsAccepted, IsDone, EndsBy, Answers, IsSilent, Tells, WriteFaults}
use Rattle.ql_top.specs.declared.top.Texts.{Texts}
use Rattle.ql_top.specs.declared.words.Command.{Command}
use Rattle.ql_top.specs.declared.words.Command.TheVariants as commands
use Rattle.ql_top.specs.declared.words.Command.TheVariants.{Run, Show, Check, Gen, Trial, Replay, Span}
use Rattle.ql_top.specs.declared.words.Options.{Options}
use Rattle.ql_vectors.specs.GenText.{gen_text}
use Rattle.ql_top.specs.declared.status.Ended.{Ended}
use Rattle.ql_top.specs.declared.status.Status.{Status}
use Rattle.ql_top.specs.declared.status.Status.TheVariants.{Done, Refused, Words, Fault, Budget, Deadlock, Limit, NoMemory, ReadFault, WriteFault, Differs}

abbrev ended_by : Status → Option Told → Ended
ended_by status told = record { status = status; told = told }

-- the bytes that may follow those that were taken
abbrev MayBeLeft : Option (List ℕ) → List ℕ → Type 0
MayBeLeft left rest = (left ≡ Some rest) ⊎ (rest ≡ [])

none_at_end : (left : Option (List ℕ)) (rest : List ℕ) → IsAtEnd left → MayBeLeft left rest → rest ≡ []
none_at_end None rest e (inl h) = absurd (cc)
none_at_end (Some x) rest e (inl h) = let same : x ≡ rest = cc in sym same ∙ e
none_at_end left rest e (inr h) = h

-- at the end it holds of all bytes
pub holds_at_end : {Holds : List ℕ → Option (List ℕ) → Type 0} (taken : List ℕ) (left left' : Option (List ℕ)) → Takes taken left left' → IsAtEnd left'
    → Holds taken (Some []) → HoldsFurther Holds left left'
holds_at_end taken left left' t e a = record {
  taken = taken;
  takes = t;
  holds = λ rest h. rw (none_at_end left' rest e h, append-nil) a;
}

-- for a source that tells its bytes
left_over : (left left' : Option (List ℕ)) (b taken : List ℕ) → Takes taken left left' → left ≡ Some b → (rest : List ℕ) × (left' ≡ Some rest) × (b ≡ taken ++ rest)
left_over None left' b taken t e = absurd (cc)
left_over (Some x) None b taken t e = absurd t
left_over (Some x) (Some y) b taken t e = let same : x ≡ b = cc in (y, refl, sym same ∙ t)

pub told_further : {Holds : List ℕ → Option (List ℕ) → Type 0} (b : List ℕ) (left left' : Option (List ℕ)) → left ≡ Some b → HoldsFurther Holds left left' → Holds b left'
told_further {Holds} b left left' e a =
    let more = left_over left left' b a.taken a.takes e in
    subst (λ l. Holds b l) (sym more.1) (subst (λ t. Holds t (Some more.0)) (sym more.2) (a.holds more.0 (inl more.1)))

-- for every source
pub taken_further : {Holds : List ℕ → Option (List ℕ) → Type 0} (left left' : Option (List ℕ)) → HoldsFurther Holds left left' → HoldsTaken Holds left left'
taken_further left left' a = record { taken = a.taken; takes = a.takes; holds = rw append-nil at (a.holds [] (inr refl)) }

pub is_text : (b : List ℕ) (forms : Forms) (names : List (List ℕ)) → IsRead b forms names → IsText b names forms
is_text b forms names r = record { spelling = r.spelling; spells = r.spells; numbered = r.numbered; no_fault = r.no_fault }

-- Whatever is said of a status and the bytes, a refusal says it, and so do the failures that may come before.
module _ (Holds : Status → List ℕ → Option (List ℕ) → Type 0)
    (of_refused : (kind at : ℕ) (b : List ℕ) (left : Option (List ℕ)) → IsRefused b left kind at → Holds (Refused kind at) b left)
    (of_memory : (b : List ℕ) (left : Option (List ℕ)) → Holds NoMemory b left)
    (of_cut : (b : List ℕ) (left : Option (List ℕ)) → IsCutShort (Some b) left → Holds ReadFault b left) where
  faulty_source : (kind at : ℕ) (left left' : Option (List ℕ)) → IsFaulty kind at left left' → HoldsFurther (Holds (Refused kind at)) left left'
  faulty_source kind at left left' f = record {
    taken = f.taken;
    takes = f.takes;
    holds = λ rest h.
        let may : MayFollow kind rest = λ e. none_at_end left' rest (f.at_end e) h in
        let fault = f.refused.fault rest may in
        of_refused kind at (f.taken ++ rest) (Some rest) (record {
          refusal = of_text fault;
          only = λ k n r. elim r [ of_text g ↦ f.refused.only rest may k n g | of_forms t u ↦ absurd (t.no_fault kind at fault) ];
          taken = f.taken;
          rest = rest;
          parts = refl;
          is_left = refl;
          near = λ low. f.near;
          whole = λ high. let low : kind ≤ 8 = f.refused.kinds.1 in absurd (omega (arith, high, low));
        });
  }

  -- reading stopped early
  pub stopped_source : (status : Status) (left left' : Option (List ℕ)) → StopsReading status left left' → HoldsFurther (Holds status) left left'
  stopped_source (Refused kind at) left left' h = faulty_source kind at left left' h
  stopped_source NoMemory left left' h = record { taken = h.0; takes = h.1; holds = λ rest e. of_memory (h.0 ++ rest) (Some rest) }
  stopped_source ReadFault left left' h = record {
    taken = h.taken;
    takes = h.takes;
    holds = λ rest e. of_cut (h.taken ++ rest) (Some rest) (record { taken = h.taken; takes = refl; no_fault = h.no_fault });
  }
  stopped_source Done left left' h = absurd h
  stopped_source Words left left' h = absurd h
  stopped_source (Fault kind p at) left left' h = absurd h
  stopped_source Budget left left' h = absurd h
  stopped_source Deadlock left left' h = absurd h
  stopped_source (Limit kind) left left' h = absurd h
  stopped_source WriteFault left left' h = absurd h
  stopped_source (Differs line) left left' h = absurd h

  module _ (one_refusal : (b : List ℕ) (k n kind at : ℕ) → Refusal b k n → Refusal b kind at → (k ≡ kind) × (n ≡ at))
      (beyond : (names : List (List ℕ)) (forms : Forms) (kind at : ℕ) → Unfit names forms kind at → 9 ≤ kind)
      (text : Text) (left left' : Option (List ℕ)) (r : ReadsAll text left left') where
    -- all was read, and the forms are refused
    unfit_source : (kind at : ℕ) → Unfit text.names (forms_of text.forms) kind at → IsRefused r.taken (Some []) kind at
    unfit_source kind at u =
        let high = beyond text.names (forms_of text.forms) kind at u in
        let refusal : Refusal r.taken kind at = of_forms (is_text r.taken (forms_of text.forms) text.names r.is_read) u in
        record {
          refusal = refusal;
          only = λ k n f. one_refusal r.taken k n kind at f refusal;
          taken = r.taken;
          rest = [];
          parts = sym (append-nil r.taken);
          is_left = refl;
          near = λ low. absurd (omega (arith, high, low));
          whole = λ _. refl;
        }

    pub stopped_text : (status : Status) → StopsText status text.names (forms_of text.forms) → HoldsFurther (Holds status) left left'
    stopped_text (Refused kind at) u = holds_at_end r.taken left left' r.takes r.at_end (of_refused kind at r.taken (Some []) (unfit_source kind at u))
    stopped_text NoMemory h = holds_at_end r.taken left left' r.takes r.at_end (of_memory r.taken (Some []))
    stopped_text Done h = absurd h
    stopped_text Words h = absurd h
    stopped_text (Fault kind p at) h = absurd h
    stopped_text Budget h = absurd h
    stopped_text Deadlock h = absurd h
    stopped_text (Limit kind) h = absurd h
    stopped_text ReadFault h = absurd h
    stopped_text WriteFault h = absurd h
    stopped_text (Differs line) h = absurd h

-- all was read, and nothing refuses it
abbrev pub accepted_text : ((b : List ℕ) (p : Program) → IsSource b p → (kind at : ℕ) → Refusal b kind at → Prim.⊥)
    → (text : Text) (left left' : Option (List ℕ)) (r : ReadsAll text left left') (p : Program) → Makes text.names (forms_of text.forms) p
    → IsAccepted r.taken (Some [])
accepted_text not_refused text left left' r p makes =
    let source : IsSource r.taken p = record {
      names = text.names;
      forms = forms_of text.forms;
      is_text = is_text r.taken (forms_of text.forms) text.names r.is_read;
      makes = makes;
    } in
    record { program = p; source = source; accepted = not_refused r.taken p source; none_left = refl }

-- ---- commands on a source alone

pub stopped_answer : (command : Command) (ended : Ended) (status : Status) (left left' o o' j j' : Option (List ℕ)) → ended.status ≡ status
    → StopsReading status left left' → AnswersSome command ended left left' o o' j j'
stopped_answer command ended status left left' o o' j j' e h =
    stopped_source (λ s b l. EndsBy s command (ended_by s ended.told) b l o o' j j') (λ kind at b l r. r) (λ b l. tt) (λ b l c. c)
    ended.status left left' (subst (λ s. StopsReading s left left') (sym e) h)

-- all was read, and there are no texts
pub no_texts_answer : ((b : List ℕ) (k n kind at : ℕ) → Refusal b k n → Refusal b kind at → (k ≡ kind) × (n ≡ at))
    → ((names : List (List ℕ)) (forms : Forms) (kind at : ℕ) → Unfit names forms kind at → 9 ≤ kind)
    → (command : Command) (text : Text) (left left' o o' j j' : Option (List ℕ)) → ReadsAll text left left' → (ended : Ended) (status : Status)
    → ended.status ≡ status → StopsText status text.names (forms_of text.forms) → AnswersSome command ended left left' o o' j j'
no_texts_answer one_refusal beyond command text left left' o o' j j' r ended status e h =
    stopped_text (λ s b l. EndsBy s command (ended_by s ended.told) b l o o' j j') (λ kind at b l r. r) (λ b l. tt) (λ b l c. c)
    one_refusal beyond text left left' r ended.status (subst (λ s. StopsText s text.names (forms_of text.forms)) (sym e) h)

done_by : (status : Status) (command : Command) (ended : Ended) (b : List ℕ) (left o o' j j' : Option (List ℕ)) → (IsSilent status → Prim.⊥)
    → IsDone command ended b left o o' j j' → EndsBy status command ended b left o o' j j'
done_by Done command ended b left o o' j j' loud h = h
done_by (Refused kind at) command ended b left o o' j j' loud h = absurd (loud tt)
done_by Words command ended b left o o' j j' loud h = absurd (loud tt)
done_by (Fault kind p at) command ended b left o o' j j' loud h = h
done_by Budget command ended b left o o' j j' loud h = h
done_by Deadlock command ended b left o o' j j' loud h = h
done_by (Limit kind) command ended b left o o' j j' loud h = h
done_by NoMemory command ended b left o o' j j' loud h = absurd (loud tt)
done_by ReadFault command ended b left o o' j j' loud h = absurd (loud tt)
done_by WriteFault command ended b left o o' j j' loud h = h
done_by (Differs line) command ended b left o o' j j' loud h = absurd (loud tt)

-- all was read, and the texts of the command are written
pub written_answer : ((b : List ℕ) (p : Program) → IsSource b p → (kind at : ℕ) → Refusal b kind at → Prim.⊥)
    → (command : Command) (text : Text) (left left' o o' j j' : Option (List ℕ)) → ReadsAll text left left' → (texts : Texts) (ended : Ended)
    → HasTexts command texts text.names (forms_of text.forms) → ended.told ≡ told_in texts → (IsSilent ended.status → Prim.⊥)
    → Written ended.status (stop_in texts) (output_in texts) (lines_in texts) o o' j j' → AnswersSome command ended left left' o o' j j'
written_answer not_refused command text left left' o o' j j' r texts ended h t loud w =
    holds_at_end r.taken left left' r.takes r.at_end (done_by ended.status command ended r.taken (Some []) o o' j j' loud (record {
      of = accepted_text not_refused text left left' r h.program h.makes;
      stop = stop_in texts;
      output = output_in texts;
      lines = lines_in texts;
      writes = subst (λ o. Writes command text.names (forms_of text.forms) h.program o (stop_in texts) (output_in texts) (lines_in texts)) (sym t) h.writes;
      written = w;
    }))

-- of a run a host has told
pub tells_texts : (command : Command) (texts : Texts) (ended : Ended) (names : List (List ℕ)) (forms : Forms) → HasTexts command texts names forms
    → ended.told ≡ told_in texts → (IsSilent ended.status → Prim.⊥) → Tells (Some command) ended.status ended.told
tells_texts command texts ended names forms h t loud = written_by command (told_in texts) (stop_in texts) (output_in texts) (lines_in texts) h.writes t
  where
    written_by : (command : Command) (told : Option Told) (stop : Stop) (output lines : List ℕ) → Writes command names forms h.program told stop output lines
        → ended.told ≡ told → Tells (Some command) ended.status ended.told
    written_by (Run options) told stop output lines (of_run r) e = (λ none. let bad : None ≡ Some r.run = sym none ∙ e ∙ r.is_told in absurd cc, λ silent. absurd (loud silent))
    written_by (Trial seed size options) told stop output lines (of_trial r) e = (λ none. let bad : None ≡ Some r.run = sym none ∙ e ∙ r.is_told in absurd cc, λ silent. absurd (loud silent))
    written_by (Gen seed size) told stop output lines h e = elim h [ ]
    written_by Replay told stop output lines h e = elim h [ ]
    written_by Span told stop output lines h e = elim h [ ]
    written_by Show told stop output lines of_show e = e
    written_by Check told stop output lines of_check e = e
    written_by commands.List told stop output lines of_list e = e

-- A command answers by the bytes of its source, some of which may be left.
abbrev pub Ends : Command → Ended → (b : List ℕ) → (o o' j j' : Option (List ℕ)) → Type 0
Ends command ended b o o' j j' = (left : Option (List ℕ)) × Answers command ended b left o o' j j'

module _ (ended : Ended) (left left' o o' j j' : Option (List ℕ)) where
  abbrev Reads : Command → Type 0
  Reads command = ReadsSource command → AnswersSome command ended left left' o o' j j'

  abbrev Tries : Command → Type 0
  Tries command = (seed size : ℕ) (options : Options) → command ≡ Trial seed size options → AnswersTrial seed size options ended o o' j j'

  -- for the source that the command has
  pub ends_for : (command : Command) → HasSource command → Reads command → Tries command → (b : List ℕ) → IsSourceOf command left b
      → Ends command ended b o o' j j'
  ends_for Check has reads tries b e = (left', told_further b left left' e (reads tt))
  ends_for Show has reads tries b e = (left', told_further b left left' e (reads tt))
  ends_for commands.List has reads tries b e = (left', told_further b left left' e (reads tt))
  ends_for (Run options) has reads tries b e = (left', told_further b left left' e (reads tt))
  ends_for (Gen seed size) has reads tries b e = absurd has
  ends_for Replay has reads tries b e = absurd has
  ends_for Span has reads tries b e = absurd has
  ends_for (Trial seed size options) has reads tries b e =
      let t = tries seed size options refl in
      (t.left, subst (λ x. Answers (Trial seed size options) ended x t.left o o' j j') (sym e) t.answers)

  taken_ends : (command : Command) → AnswersSome command ended left left' o o' j j' → (b : List ℕ) × Ends command ended b o o' j j'
  taken_ends command a = let t = taken_further left left' a in (t.taken, (Some [], t.holds))

  -- for some source, where the command has one
  pub ends_somehow : (command : Command) → HasSource command → Reads command → Tries command → (b : List ℕ) × Ends command ended b o o' j j'
  ends_somehow Check has reads tries = taken_ends Check (reads tt)
  ends_somehow Show has reads tries = taken_ends Show (reads tt)
  ends_somehow commands.List has reads tries = taken_ends commands.List (reads tt)
  ends_somehow (Run options) has reads tries = taken_ends (Run options) (reads tt)
  ends_somehow (Gen seed size) has reads tries = absurd has
  ends_somehow Replay has reads tries = absurd has
  ends_somehow Span has reads tries = absurd has
  ends_somehow (Trial seed size options) has reads tries = let t = tries seed size options refl in (gen_text seed size, (t.left, t.answers))

-- a command that has a source has one alone, or follows a book along it
pub source_of : (command : Command) (left : Option (List ℕ)) (b : List ℕ) → IsSourceOf command left b → (command ≡ Replay) ⊎ HasSource command
source_of Check left b e = inr tt
source_of Show left b e = inr tt
source_of commands.List left b e = inr tt
source_of (Run options) left b e = inr tt
source_of (Gen seed size) left b e = absurd e
source_of (Trial seed size options) left b e = inr tt
source_of Replay left b e = inl refl
source_of Span left b e = absurd e

pub replay_source : (command : Command) (left : Option (List ℕ)) (b : List ℕ) → command ≡ Replay → IsSourceOf command left b → left ≡ Some b
replay_source command left b e h = subst (λ k. IsSourceOf k left b) e h

-- a command that runs a program has a source alone
pub runs_source : (command : Command) → (LeavesJournal (Some command) → Prim.⊥) → HasSource command
runs_source (Run options) runs = tt
runs_source (Trial seed size options) runs = tt
runs_source Check runs = absurd (runs tt)
runs_source Show runs = absurd (runs tt)
runs_source commands.List runs = absurd (runs tt)
runs_source (Gen seed size) runs = absurd (runs tt)
runs_source Replay runs = absurd (runs tt)
runs_source Span runs = absurd (runs tt)

-- what must be refused is refused, unless memory or the source fails
abbrev pub RefusedOrFailed : Status → (kind at : ℕ) → Type 0
RefusedOrFailed status kind at = (status ≡ Refused kind at) ⊎ ((status ≡ NoMemory) ⊎ (status ≡ ReadFault))

pub same_refusal : (b : List ℕ) (left : Option (List ℕ)) (k n kind at : ℕ) → IsRefused b left k n → Refusal b kind at → Refused k n ≡ Refused kind at
same_refusal b left k n kind at r f = let o = r.only kind at f in ap (λ x. Refused x n) (sym o.0) ∙ ap (λ x. Refused kind x) (sym o.1)

pub must_refuse : (status : Status) (command : Command) (ended : Ended) (b : List ℕ) (left o o' j j' : Option (List ℕ)) (kind at : ℕ)
    → EndsBy status command ended b left o o' j j' → Refusal b kind at → RefusedOrFailed status kind at
must_refuse (Refused k n) command ended b left o o' j j' kind at h f = inl (same_refusal b left k n kind at h f)
must_refuse NoMemory command ended b left o o' j j' kind at h f = inr (inl refl)
must_refuse ReadFault command ended b left o o' j j' kind at h f = inr (inr refl)
must_refuse Words command ended b left o o' j j' kind at h f = absurd h
must_refuse Done command ended b left o o' j j' kind at h f = absurd (h.of.accepted kind at f)
must_refuse (Fault k p n) command ended b left o o' j j' kind at h f = absurd (h.of.accepted kind at f)
must_refuse Budget command ended b left o o' j j' kind at h f = absurd (h.of.accepted kind at f)
must_refuse Deadlock command ended b left o o' j j' kind at h f = absurd (h.of.accepted kind at f)
must_refuse (Limit k) command ended b left o o' j j' kind at h f = absurd (h.of.accepted kind at f)
must_refuse (Differs line) command ended b left o o' j j' kind at h f = absurd h
must_refuse WriteFault command ended b left o o' j j' kind at h f = absurd (h.of.accepted kind at f)

-- the generated text is written as any other
pub is_generated : (status : Status) (seed size : ℕ) (text : List ℕ) (o o' j j' : Option (List ℕ)) → text ≡ gen_text seed size
    → Written status done text [] o o' j j' → IsGenerated status seed size o o' j j'
is_generated Done seed size text o o' j j' e w = subst (λ t. Written Done done t [] o o' j j') e w
is_generated (Refused kind at) seed size text o o' j j' e w = subst (λ t. Written (Refused kind at) done t [] o o' j j') e w
is_generated Words seed size text o o' j j' e w = subst (λ t. Written Words done t [] o o' j j') e w
is_generated (Fault kind p at) seed size text o o' j j' e w = subst (λ t. Written (Fault kind p at) done t [] o o' j j') e w
is_generated Budget seed size text o o' j j' e w = subst (λ t. Written Budget done t [] o o' j j') e w
is_generated Deadlock seed size text o o' j j' e w = subst (λ t. Written Deadlock done t [] o o' j j') e w
is_generated (Limit kind) seed size text o o' j j' e w = subst (λ t. Written (Limit kind) done t [] o o' j j') e w
is_generated NoMemory seed size text o o' j j' e w = tt
is_generated ReadFault seed size text o o' j j' e w = subst (λ t. Written ReadFault done t [] o o' j j') e w
is_generated (Differs line) seed size text o o' j j' e w = subst (λ t. Written (Differs line) done t [] o o' j j') e w
is_generated WriteFault seed size text o o' j j' e w = subst (λ t. Written WriteFault done t [] o o' j j') e w

pub some_words : (asked : Option Command) (command : Command) → asked ≡ None → asked ≡ Some command → Prim.⊥
some_words asked command e f = let bad : None ≡ Some command = sym e ∙ f in absurd cc

-- where no fault rose, something came of the command
pub complete_answer : (status : Status) (s s' b b' o o' j j' : ℕ) → (status ≡ Words → Prim.⊥) → ReadFaults status s s' b b' → WriteFaults status o o' j j'
    → (HasRisen s s' → Prim.⊥) → (HasRisen b b' → Prim.⊥) → (HasRisen o o' → Prim.⊥) → (HasRisen j j' → Prim.⊥) → IsAnswer status
complete_answer Done s s' b b' o o' j j' asked read write source book out journal = tt
complete_answer (Refused kind at) s s' b b' o o' j j' asked read write source book out journal = tt
complete_answer Words s s' b b' o o' j j' asked read write source book out journal = asked refl
complete_answer (Fault kind p at) s s' b b' o o' j j' asked read write source book out journal = tt
complete_answer Budget s s' b b' o o' j j' asked read write source book out journal = tt
complete_answer Deadlock s s' b b' o o' j j' asked read write source book out journal = tt
complete_answer (Limit kind) s s' b b' o o' j j' asked read write source book out journal = tt
complete_answer NoMemory s s' b b' o o' j j' asked read write source book out journal = tt
complete_answer (Differs line) s s' b b' o o' j j' asked read write source book out journal = tt
complete_answer ReadFault s s' b b' o o' j j' asked (inl h) write source book out journal = source h.0
complete_answer ReadFault s s' b b' o o' j j' asked (inr h) write source book out journal = book h.1
complete_answer WriteFault s s' b b' o o' j j' asked read (inl h) source book out journal = out h.0
complete_answer WriteFault s s' b b' o o' j j' asked read (inr h) source book out journal = journal h.1
