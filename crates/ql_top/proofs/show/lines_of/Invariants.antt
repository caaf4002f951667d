use Rattle.std.proofs.Common.{◌≡◌, ◌++◌, drop}
use Rattle.ql_forms.specs.FormText.{forms_text}
use Rattle.ql_forms.specs.View.{spellings_of}
use Rattle.ql_top.proofs.show.lines_of.Given as goal

-- the lines so far and those of the forms to come are all
abbrev pub invariant-loop-form : goal.invariant-loop-form
invariant-loop-form l = l.lines.items ++ forms_text (spellings_of l.text.names (drop l.form-index l.forms)) ≡ forms_text (spellings_of l.text.names l.forms)
