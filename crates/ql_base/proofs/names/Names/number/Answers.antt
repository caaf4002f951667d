-- A number is a place among the names.
use Rattle.std.proofs.Common.{◌≡◌, ◌++◌, ◌∷◌, [], ◌+◌, ◌<◌, ◌^◌, length, map, None, arith, ◌≢◌, subst, sym, ◌∙◌}
use Rattle.std.proofs.lemmas.List.{length-map}
use Rattle.ql_base.specs.Names.{place_of, HasNumber, IsTable}
use Rattle.ql_base.proofs.Places.{place_is_position, added_last, table_with, number_of_known, number_of_added}
use Rattle.ql_base.proofs.names.Names.number.Goals as goal

pub returns-in-Some-clause-ok : goal.returns-in-Some-clause-ok
returns-in-Some-clause-ok c =
    number_of_known c.args.self.now c.args.text.now c.in-Some.n
    (rw (← c.self.view_is) (sym (place_is_position (λ t. t.items) c.self.inside.texts.keys c.args.text.now) ∙ sym c.in-Some.ensures.index))

-- the text was not there
absent_before : (c : goal.In_ok-insert) → place_of (map (λ t. t.items) c.self.inside.texts.keys) c.args.text.now ≡ None
absent_before c = sym (place_is_position (λ t. t.items) c.self.inside.texts.keys c.args.text.now) ∙ sym c.in_default.ensures.index

added : (c : goal.In_ok-insert) → map (λ t. t.items) c.insert.new.self.keys ≡ map (λ t. t.items) c.self.inside.texts.keys ++ c.args.text.now ∷ []
added c = added_last (λ t. t.items) c.self.inside.texts.keys c.insert.new.self.keys c.in_ok-owned.owned c.args.text.now c.in_ok-insert.ensures.keys c.in_ok-owned.ensures.items (absent_before c)

as_many : (c : goal.In_ok-insert) → c.len-n.result ≡ length (map (λ t. t.items) c.self.inside.texts.keys)
as_many c = c.len-n.ensures.len ∙ sym (length-map c.self.inside.texts.keys (λ t. t.items))

table : (c : goal.In_ok-insert) → IsTable (map (λ t. t.items) c.insert.new.self.keys)
table c =
    let len = as_many c in
    let old : length (map (λ t. t.items) c.self.inside.texts.keys) < 2 ^ 32 = c.self.invariant.small in
    let full : c.len-n.result ≢ 4294967295 = c.if-n-eq-MOST_NAMES.false in
    let small : length (map (λ t. t.items) c.self.inside.texts.keys) + 1 < 2 ^ 32 = omega (arith, len, old, full) in
    table_with (map (λ t. t.items) c.self.inside.texts.keys) (map (λ t. t.items) c.insert.new.self.keys) c.args.text.now c.self.invariant (absent_before c) small (added c)

pub invariant_of-self-2 : goal.invariant_of-self-2
invariant_of-self-2 c = table c

pub returns-clause-ok : goal.returns-clause-ok
returns-clause-ok c =
    let old : map (λ t. t.items) c.self.inside.texts.keys ≡ c.args.self.now = c.self.view_is in
    let new = map (λ t. t.items) c.insert.new.self.keys in
    subst (λ n. HasNumber c.args.self.now c.args.text.now n new) (sym (as_many c))
    (subst (λ names. HasNumber names c.args.text.now (length (map (λ t. t.items) c.self.inside.texts.keys)) new) old
    (number_of_added (map (λ t. t.items) c.self.inside.texts.keys) new c.args.text.now (absent_before c) (added c)))

pub returns-clause-distinct : goal.returns-clause-distinct
returns-clause-distinct c = let t = table c in t.distinct
