use Rattle.std.specs.Vec.{vec_len}
use Rattle.ql_forms.specs.Spelled.{with_tail}
use Rattle.ql_forms.specs.View.{spelling_of}
use Rattle.ql_read.proofs.Forms.{nil_form, tail_form, joined_form}
use Rattle.ql_read.proofs.lists.dotted_list.Goals as goal

pub returns-then-is_empty : goal.returns-then-is_empty
returns-then-is_empty c = λ names g. nil_form names c.args.at (vec_len c.args.items) c.args.items.items (with_tail (spelling_of names c.args.last)) (spelling_of names c.reserved_word.result) g c.args.items.ok.0 c.if-is_empty.ensures (c.reserved_word.ensures names)

pub returns-in-Atom : goal.returns-in-Atom
returns-in-Atom c = λ names g.
    tail_form names (record { 0 = c.args.at }) c.in-Atom.at (vec_len c.args.items) c.args.items.items c.from_vec.result c.in-Atom.atom c.as_tail.result c.args.last
    c.args.items.ok.0 c.if-is_empty.ensures c.from_vec.ensures c.in-Atom.is (c.as_tail.ensures names g)

pub returns-in_ok-append-in-List : goal.returns-in_ok-append-in-List
returns-in_ok-append-in-List c = λ names g.
    joined_form names (record { 0 = c.args.at }) c.in-List.at (vec_len c.args.items) c.args.items.items c.from_vec-all.result c.in-List.others c.append.new.self c.in-List.tail c.args.last
    c.args.items.ok.0 c.if-is_empty.ensures c.from_vec-all.ensures c.in-List.is c.in_ok-append-in-List.ensures
