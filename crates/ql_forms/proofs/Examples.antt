-- The definitions at worked examples.
use Rattle.std.proofs.Common.{◌≡◌, refl, arith, pos, negsuc}
use Rattle.std.specs.Prelude.{codes}
use Rattle.std.specs.Fmt.{digits}
use Rattle.ql_forms.specs.Spelled.{Atom, integer, symbol, proper, dotted, Form, atom, list, none, more}
use Rattle.ql_forms.specs.FormText.{form_text}
use Rattle.ql_forms.specs.Spells.{Spells, nothing, a_blank, a_comment, beyond, at_line_feed, ends, goes_on, a_symbol, an_integer, a_minus, an_atom, a_list, a_quote, closed, an_item, a_tail, ended, a_form}

abbrev a : Atom
a = symbol (codes "a")

abbrev b : Atom
b = symbol (codes "b")

-- `'(a . (b))`: a tail that is a list is joined
abbrev quoted_pair : Form
quoted_pair = list 0 (more (atom 0 (symbol (codes "quote"))) (more (list 1 (more (atom 2 a) (more (atom 7 b) none)) proper) none)) proper

quoted_pair_is_spelled : Spells (codes "'(a . (b))") (more quoted_pair none)
quoted_pair_is_spelled =
    a_form (a_quote nothing refl (omega arith)
    (a_list nothing refl (omega arith)
    (an_item (an_atom nothing refl (ends refl) (a_symbol refl (omega arith)))
    (a_tail (a_blank refl nothing) refl refl
    (a_list (a_blank refl nothing) refl (omega arith) (an_item (an_atom nothing refl (ends refl) (a_symbol refl (omega arith))) (closed nothing refl)))
    nothing refl))))
    (ended nothing)

quoted_pair_text : form_text quoted_pair ≡ codes "(quote (a b))"
quoted_pair_text = refl

-- `()` is nil
empty_is_nil : Spells (codes "()") (more (atom 0 (symbol (codes "nil"))) none)
empty_is_nil = a_form (a_list nothing refl (omega arith) (closed nothing refl)) (ended nothing)

-- `(a . nil)` has no tail
nil_tail : Spells (codes "(a . nil)") (more (list 0 (more (atom 1 a) none) proper) none)
nil_tail =
    a_form (a_list nothing refl (omega arith)
    (an_item (an_atom nothing refl (ends refl) (a_symbol refl (omega arith)))
    (a_tail (a_blank refl nothing) refl refl (an_atom (a_blank refl nothing) refl (goes_on refl (goes_on refl (ends refl))) (a_symbol refl (omega arith))) nothing refl)))
    (ended nothing)

dotted_text : form_text (list 0 (more (atom 1 a) (more (atom 3 b) none)) (dotted (integer (pos 4)))) ≡ codes "(a b . 4)"
unfolding digits
dotted_text = refl

least_text : form_text (atom 0 (integer (negsuc 9223372036854775807))) ≡ codes "-9223372036854775808"
unfolding digits
least_text = refl

-- a comment ends an atom, and runs to the end of its line
comment_between : Spells (codes "a;b\n-7") (more (atom 0 a) (more (atom 4 (integer (negsuc 6))) none))
comment_between =
    a_form (an_atom nothing refl (ends refl) (a_symbol refl (omega arith)))
    (a_form (an_atom (a_comment refl (beyond refl (at_line_feed refl)) nothing) refl (goes_on refl (ends tt)) (an_integer (a_minus refl) (refl, tt) (omega arith)))
    (ended nothing))
