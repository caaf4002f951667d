use Rattle.std.proofs.Common.{◌≡◌, ◌++◌, length, take, drop, ℕ, List, ◌+◌, ap, sym, ◌∙◌, [], ◌∷◌}
use Rattle.ql_forms.specs.Spelled.{Form, Forms, more}
use Rattle.ql_forms.specs.FormText.{form_text, items_text}
use Rattle.ql_forms.specs.View.{spelling_of, spellings_of}
use Rattle.ql_forms.proofs.Written.{rest_text, front_more, front_on, next_of, all_done, first_done, other_done, on_err}
use Rattle.ql_forms.proofs.write.+put.Goals as goal
use Rattle.ql_forms.proofs.write.+put.Goals.{put_items-then-not-is_first+in_ok-push, put_items-else-not-is_first}

pub put_items-returns-in_err-put_form-clause-err : goal.put_items-returns-in_err-put_form-clause-err
put_items-returns-in_err-put_form-clause-err t c =
    let a : List ℕ = c.args.to.now.items in
    let front : take (length a) c.if-not-is_first.to.items ≡ a =
    elim c.if-not-is_first.branch [
      | put_items-then-not-is_first+in_ok-push w ↦ front_more a c.loop-item.to.items c.if-not-is_first.to.items (32 ∷ []) c.loop-item.invariant.1 (ap (λ v. v.items) w.to-is ∙ w.in_ok-push.ensures.items)
      | put_items-else-not-is_first w ↦ ap (λ v. take (length a) v.items) w.to-is ∙ c.loop-item.invariant.1
    ] in
    on_err _ (front_on a c.if-not-is_first.to.items c.put_form.new.to.items front c.in_err-put_form.ensures.err)

pub put_items-loop-item-preserved : goal.put_items-loop-item-preserved
put_items-loop-item-preserved t c =
    let a : List ℕ = c.args.to.now.items in
    let names : List (List ℕ) = c.args.names.now in
    let all : List ℕ = a ++ items_text (spellings_of names c.args.items.now) in
    let left : Forms = spellings_of names (drop c.loop-item.item-index c.args.items.now) in
    let others : Forms = spellings_of names (drop (c.loop-item.item-index + 1) c.args.items.now) in
    let f : Form = spelling_of names c.item-item.result in
    let next : left ≡ more f others = next_of names c.args.items.now c.loop-item.item-index c.item-item.result c.loop-item-test.true c.item-item.is in
    let to : List ℕ = c.loop-item.to.items in
    let spaced : List ℕ = c.if-not-is_first.to.items in
    let new : List ℕ = c.put_form.new.to.items in
    let put : new ≡ spaced ++ form_text f = c.in_ok-put_form.ensures.ok in
    elim c.if-not-is_first.branch [
      | put_items-then-not-is_first+in_ok-push w ↦
          let space : spaced ≡ to ++ 32 ∷ [] = ap (λ v. v.items) w.to-is ∙ w.in_ok-push.ensures.items in (
            other_done f others left to spaced new all next (ap (λ b. to ++ rest_text b left) (sym w.if-not-is_first.true) ∙ c.loop-item.invariant.0) space put,
            front_more a spaced new (form_text f) (front_more a to spaced (32 ∷ []) c.loop-item.invariant.1 space) put,
          )
      | put_items-else-not-is_first w ↦
          let same : spaced ≡ to = ap (λ v. v.items) w.to-is in
          let here : new ≡ to ++ form_text f = put ∙ ap (λ z. z ++ form_text f) same in (
            first_done f others left to new all next (ap (λ b. to ++ rest_text b left) (sym w.if-not-is_first.false) ∙ c.loop-item.invariant.0) here,
            front_more a to new (form_text f) c.loop-item.invariant.1 here,
          )
    ]

pub put_items-returns-clause-ok : goal.put_items-returns-clause-ok
put_items-returns-clause-ok t c = all_done c.args.names.now c.args.items.now c.loop-item.item-index c.loop-item.is_first c.loop-item.to.items (c.args.to.now.items ++ items_text (spellings_of c.args.names.now c.args.items.now)) c.loop-item-test.false c.loop-item.invariant.0
