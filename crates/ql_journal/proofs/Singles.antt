-- One line, read by itself.
use Rattle.std.proofs.Common.{◌≡◌, refl, sym, ◌∙◌, ap, ℕ, ◌≤◌, List, [], ◌∷◌, ◌++◌, Option, Some, None, arith}
use Rattle.std.specs.Prelude.{codes, IfSome}
use Rattle.std.specs.Fmt.{decimal}
use Rattle.std.proofs.lemmas.List.{append_cancel_right}
use Rattle.ql_world.specs.declared.event.Event.TheVariants.{Turn as turn}
use Rattle.ql_world.specs.declared.event.Head.{Head}
use Rattle.ql_world.specs.Text.{line_of}
use Rattle.ql_journal.specs.Grammar.{most_id, most_count}
use Rattle.ql_journal.specs.Reading.{id_and_count, head_in}
use Rattle.ql_journal.specs.Single.{IsTurnLine, IsHeadLine}
use Rattle.ql_journal.proofs.Fields.{field_again}
use Rattle.ql_journal.proofs.Shapes.{id_and_count_sound}
use Rattle.ql_journal.proofs.Breaks.{head_line, head_in_again, head_in_sound}

words_again : (p n : ℕ) → p ≤ most_id → n ≤ most_count → id_and_count (codes "turn") (line_of (turn p n)) ≡ Some (p, n)
words_again p n i c =
    rw (field_again most_id p (32 ∷ decimal n ++ []) i (omega arith) refl, field_again most_count n [] c c tt) refl

-- what is read of a turn line
read_again : (line : List ℕ) (p n : ℕ) → IsTurnLine line p n → (id_and_count (codes "turn") line ≡ Some (p, n)) × (1 ≤ n)
read_again line p n h = let (i, m, c) = h.event in (ap (id_and_count (codes "turn")) h.text ∙ words_again p n i c, m)

pub turn_line : (line : List ℕ) (p n : ℕ) → id_and_count (codes "turn") line ≡ Some (p, n) → 1 ≤ n → IsTurnLine line p n
turn_line line p n h m =
    let (i, c, t) = id_and_count_sound (codes "turn") line (p, n) h in
    record { event = (i, m, c); text = t }

pub no_words : (line : List ℕ) → id_and_count (codes "turn") line ≡ None → (p n : ℕ) → ¬ IsTurnLine line p n
no_words line h p n t = let (a, m) = read_again line p n t in absurd cc

same_ticks : (q k p n : ℕ) → ◌≡◌ {A = Option (ℕ × ℕ)} (Some (q, k)) (Some (p, n)) → k ≡ n
same_ticks q k p n h = let e : ◌≡◌ {A = ℕ × ℕ} (q, k) (p, n) = cc in ap (λ (x : ℕ × ℕ). x.1) e

pub no_ticks : (line : List ℕ) (q m : ℕ) → id_and_count (codes "turn") line ≡ Some (q, m) → m ≡ 0 → (p n : ℕ) → ¬ IsTurnLine line p n
no_ticks line q k h z p n t =
    let (a, m) = read_again line p n t in
    let f = same_ticks q k p n (sym h ∙ a) in
    absurd (omega (arith, f, z, m))

tells_limits : (line : List ℕ) (h : Head) → head_in line ≡ Some h → IsHeadLine line h
tells_limits line h g = let (i, t) = head_in_sound line h g in record { head = i; text = ap (λ (l : List ℕ). l ++ 10 ∷ []) t }

no_limits : (line : List ℕ) → head_in line ≡ None → (h : Head) → ¬ IsHeadLine line h
no_limits line g h t =
    let e : line ≡ head_line h = append_cancel_right line (head_line h) (10 ∷ []) t.text in
    let a : head_in line ≡ Some h = ap head_in e ∙ head_in_again h t.head in
    absurd cc

-- what was read of a line
pub told_limits : (line : List ℕ) (o : Option Head) → o ≡ head_in line → IfSome o (λ h. IsHeadLine line h)
told_limits line None e = tt
told_limits line (Some h) e = tells_limits line h (sym e)

pub tells_none : (line : List ℕ) (o : Option Head) → o ≡ head_in line → o ≡ None → (h : Head) → ¬ IsHeadLine line h
tells_none line o e n = no_limits line (sym e ∙ n)
