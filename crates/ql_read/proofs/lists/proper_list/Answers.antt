use Rattle.std.specs.Vec.{vec_len}
use Rattle.ql_forms.specs.Spelled.{plain}
use Rattle.ql_forms.specs.View.{spelling_of}
use Rattle.ql_read.proofs.Forms.{nil_form, proper_form}
use Rattle.ql_read.proofs.lists.proper_list.Goals as goal

pub returns-then-is_empty : goal.returns-then-is_empty
returns-then-is_empty c = λ names g. nil_form names c.args.at (vec_len c.args.items) c.args.items.items plain (spelling_of names c.reserved_word.result) g c.args.items.ok.0 c.if-is_empty.ensures (c.reserved_word.ensures names)

pub returns : goal.returns
returns c = λ names g. proper_form names (record { 0 = c.args.at }) (vec_len c.args.items) c.args.items.items c.from_vec.result c.args.items.ok.0 c.if-is_empty.ensures c.from_vec.ensures
