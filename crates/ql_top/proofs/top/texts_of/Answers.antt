use Rattle.ql_forms.specs.View.{forms_of}
use Rattle.ql_top.proofs.top.texts_of.Goals as goal

pub returns-in-Run-clause-texts : goal.returns-in-Run-clause-texts
returns-in-Run-clause-texts c =
    rw c.in-Run.is (c.texts_of_run.ensures (forms_of c.args.text.forms) c.in-Ok.ensures.program c.in-Ok.ensures.makes c.in-Ok.ensures.code_is)

pub returns-in-Show-clause-texts : goal.returns-in-Show-clause-texts
returns-in-Show-clause-texts c = rw c.in-Show.is (c.texts_of_show.ensures.texts c.in-Ok.ensures.program c.in-Ok.ensures.makes)

pub returns-in-Check-clause-texts : goal.returns-in-Check-clause-texts
returns-in-Check-clause-texts c =
    rw c.in-Check.is (c.texts_of_check.ensures.texts c.args.text.names (forms_of c.args.text.forms) c.in-Ok.ensures.program c.in-Ok.ensures.makes)

pub returns-in-List-clause-texts : goal.returns-in-List-clause-texts
returns-in-List-clause-texts c =
    rw c.in-List.is (c.texts_of_list.ensures.texts (forms_of c.args.text.forms) c.in-Ok.ensures.program c.in-Ok.ensures.makes c.in-Ok.ensures.code_is)

pub returns-in-Trial-clause-texts : goal.returns-in-Trial-clause-texts
returns-in-Trial-clause-texts c =
    rw c.in-Trial.is (c.texts_of_trial.ensures (forms_of c.args.text.forms) c.in-Ok.ensures.program c.in-Ok.ensures.makes c.in-Ok.ensures.code_is)
