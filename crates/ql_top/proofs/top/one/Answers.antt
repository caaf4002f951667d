use Rattle.std.proofs.Common.{◌∙◌, ap, subst, refl, inl, inr}
use Rattle.std.specs.Prelude.{Some}
use Rattle.ql_top.specs.Top.{Tells}
use Rattle.ql_top.proofs.Answering.{told_further, taken_further, ends_for, ends_somehow, source_of, replay_source, runs_source, must_refuse, complete_answer, some_words}
use Rattle.ql_top.proofs.Ran.{run_told, tells_run, legal_told}
use Rattle.ql_top.proofs.Replays.{must_refuse_replay}
use Rattle.ql_top.proofs.Stopping.{stops_as_told}
use Rattle.ql_top.proofs.top.one.Goals as goal

pub returns-clause-plain : goal.returns-clause-plain
returns-clause-plain g c command plain = c.plain_words_ask.ensures _ command plain

pub returns-clause-answer : goal.returns-clause-answer
returns-clause-answer g c command b asked reads e = told_further b _ _ e (c.answer-ended.ensures.answer command asked reads)

pub returns-clause-every : goal.returns-clause-every
returns-clause-every g c command asked reads = taken_further _ _ (c.answer-ended.ensures.answer command asked reads)

pub returns-clause-replayed : goal.returns-clause-replayed
returns-clause-replayed g c b held asked e f = (told_further b _ _ e (c.answer-ended.ensures.replayed asked)).told held f

pub returns-clause-every_replay : goal.returns-clause-every_replay
returns-clause-every_replay g c asked =
    let t = taken_further _ _ (c.answer-ended.ensures.replayed asked) in record { taken = t.taken; takes = t.takes; holds = t.holds.taken }

pub returns-clause-spanned : goal.returns-clause-spanned
returns-clause-spanned g c held asked e = told_further held _ _ e (c.answer-ended.ensures.spanned asked)

pub returns-clause-every_span : goal.returns-clause-every_span
returns-clause-every_span g c asked = taken_further _ _ (c.answer-ended.ensures.spanned asked)

pub returns-clause-refused : goal.returns-clause-refused
returns-clause-refused g c command b kind at asked e h =
    elim (source_of command _ b e) [
      | inl same ↦
          let t = told_further b _ _ (replay_source command _ b same e) (c.answer-ended.ensures.replayed (asked ∙ ap Some same)) in
          must_refuse_replay c.answer-ended.result.status b _ t.taken.taken _ _ _ kind at t.taken.holds h
      | inr has ↦
          let a = ends_for c.answer-ended.result _ _ _ _ _ _ command has (c.answer-ended.ensures.answer command asked)
          (λ seed size options same. c.answer-ended.ensures.trial seed size options (asked ∙ ap Some same)) b e in
          must_refuse _ command _ b a.0 _ _ _ _ kind at a.1 h
    ]

pub returns-clause-stops : goal.returns-clause-stops
returns-clause-stops g c command b p schedule story asked e runs i told planned =
    let a = ends_for c.answer-ended.result _ _ _ _ _ _ command (runs_source command runs) (c.answer-ended.ensures.answer command asked)
    (λ seed size options same. c.answer-ended.ensures.trial seed size options (asked ∙ ap Some same)) b e in
    stops_as_told c.at_most_one_program.ensures.programs c.at_most_one_program.ensures.names c.programs_are_accepted.ensures c.one_planned_schedule.ensures
    command runs b a.0 _ _ _ _ p schedule story i told planned c.answer-ended.result c.answer-ended.result.status refl a.1

pub returns-clause-complete : goal.returns-clause-complete
returns-clause-complete g c command asked source book out journal =
    complete_answer c.answer-ended.result.status _ _ _ _ _ _ _ _ (λ e. some_words _ command (c.answer-ended.ensures.words e) asked)
    c.answer-ended.ensures.read_faults c.answer-ended.ensures.write_faults source book out journal

pub returns-clause-planned : goal.returns-clause-planned
returns-clause-planned g c command b p told asked e t i =
    let tells = subst (λ q. Tells q c.answer-ended.result.status c.answer-ended.result.told) asked c.answer-ended.ensures.told in
    let has = runs_source command (tells_run command c.answer-ended.result.status c.answer-ended.result.told told t tells) in
    let a = ends_for c.answer-ended.result _ _ _ _ _ _ command has (c.answer-ended.ensures.answer command asked)
    (λ seed size options same. c.answer-ended.ensures.trial seed size options (asked ∙ ap Some same)) b e in
    (run_told c.at_most_one_program.ensures.programs c.at_most_one_program.ensures.names command c.answer-ended.result b _ _ _ _ told t a p i tells).planned

pub returns-clause-cleans : goal.returns-clause-cleans
returns-clause-cleans g c command b p told asked e t i =
    let tells = subst (λ q. Tells q c.answer-ended.result.status c.answer-ended.result.told) asked c.answer-ended.ensures.told in
    let has = runs_source command (tells_run command c.answer-ended.result.status c.answer-ended.result.told told t tells) in
    let a = ends_for c.answer-ended.result _ _ _ _ _ _ command has (c.answer-ended.ensures.answer command asked)
    (λ seed size options same. c.answer-ended.ensures.trial seed size options (asked ∙ ap Some same)) b e in
    (run_told c.at_most_one_program.ensures.programs c.at_most_one_program.ensures.names command c.answer-ended.result b _ _ _ _ told t a p i tells).cleans

pub returns-clause-legal : goal.returns-clause-legal
returns-clause-legal g c =
    legal_told _ c.answer-ended.result _ _ _ _
    (λ command asked has. ends_somehow c.answer-ended.result _ _ _ _ _ _ command has (c.answer-ended.ensures.answer command asked)
    (λ seed size options same. c.answer-ended.ensures.trial seed size options (asked ∙ ap Some same))) c.answer-ended.ensures.told
