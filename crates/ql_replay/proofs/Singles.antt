-- Lines that are read by themselves.
use Rattle.std.proofs.Common.{◌≡◌, ℕ, List, [], ◌∷◌, ◌++◌, Option, Some, None, refl, sym, ap, ◌∙◌, arith}
use Rattle.std.specs.Prelude.{IfSome}
use Rattle.std.proofs.lemmas.List.{append_cancel_right}
use Rattle.ql_world.specs.declared.event.Head.{Head}
use Rattle.ql_journal.specs.Single.{IsTurnLine, IsHeadLine}
use Rattle.ql_replay.specs.Book.{head_line, turn_in, head_in}
use Rattle.ql_replay.proofs.Reading.{turn_in_reads, head_in_reads}

pub turn_is_read : (line : List ℕ) (p n : ℕ) → IsTurnLine line p n → turn_in line ≡ Some (p, n)
turn_is_read line p n h =
    let (i, m, c) = h.event in
    ap turn_in h.text ∙ turn_in_reads.reads p n (omega (arith, i)) m (omega (arith, c))

pub no_turn_is_read : (line : List ℕ) → ((p n : ℕ) → ¬ IsTurnLine line p n) → turn_in line ≡ None
no_turn_is_read line none = by (turn_in line) refl
  where
    by : (o : Option (ℕ × ℕ)) → turn_in line ≡ o → turn_in line ≡ None
    by None e = e
    by (Some x) e =
        let l = turn_in_reads.low line x.0 x.1 e in
        let a = l.0 in
        let c = l.1.1 in
        absurd (none x.0 x.1 (record { event = (omega (arith, a), l.1.0, omega (arith, c)); text = turn_in_reads.says line x.0 x.1 e }))

pub head_is_read : (line : List ℕ) (h : Head) → IsHeadLine line h → head_in line ≡ Some h
head_is_read line h t =
    let (b, c, p, o) = t.head in
    let e : line ≡ head_line h = append_cancel_right line (head_line h) (10 ∷ []) t.text in
    ap head_in e ∙ head_in_reads.reads h (record { budget = omega (arith, b); cells = omega (arith, c); procs = omega (arith, p); output = omega (arith, o) })

pub no_head_is_read : (line : List ℕ) → ((h : Head) → ¬ IsHeadLine line h) → head_in line ≡ None
no_head_is_read line none = by (head_in line) refl
  where
    by : (o : Option Head) → head_in line ≡ o → head_in line ≡ None
    by None e = e
    by (Some h) e =
        let l = head_in_reads.low line h e in
        let b = l.budget in
        let c = l.cells in
        let p = l.procs in
        let o = l.output in
        absurd (none h (record { head = (omega (arith, b), omega (arith, c), omega (arith, p), omega (arith, o)); text = ap (λ (x : List ℕ). x ++ 10 ∷ []) (head_in_reads.says line h e) }))

pub head_read_is : (line : List ℕ) (o : Option Head) → IfSome o (λ h. IsHeadLine line h) → (o ≡ None → (h : Head) → ¬ IsHeadLine line h) → o ≡ head_in line
head_read_is line None is none = sym (no_head_is_read line (none refl))
head_read_is line (Some h) is none = sym (head_is_read line h is)
