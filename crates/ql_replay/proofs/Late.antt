-- A line that differs isn't before the one at which following begins.
use Rattle.std.proofs.Common.{◌≡◌, ℕ, suc, ◌≤◌, true, false, List, [], ◌∷◌, Option, Some, None, ⊎_elim, arith}
use Rattle.std.specs.Prelude.{is_some}
use Rattle.std.specs.Str.{bytes_eq}
use Rattle.ql_base.specs.Limits.{usual}
use Rattle.ql_world.specs.declared.event.Event.{Event}
use Rattle.ql_world.specs.declared.event.Head.{Head}
use Rattle.ql_world.specs.Text.{line_of}
use Rattle.ql_code.specs.Code.{Code}
use Rattle.ql_code.specs.Machine.{code_machine, code_world}
use Rattle.ql_replay.specs.Book.{Line, lines_in, turn_in, head_in}
use Rattle.ql_replay.specs.FirstDiff.{limits_of}
use Rattle.ql_replay.specs.Replay.{Host, same, differs, due, next, on_next, follow, host_of, plain_line, is_usable, plain_replayed, headed_replayed, by_head, lines_replayed, replayed}
use Rattle.ql_replay.proofs.Basics.{cases}

same_line : (i k : ℕ) → differs i ≡ differs k → i ≡ k
same_line i k h = cc

module _ {W : Type 0} (host : Host W) (line : Event → List ℕ) (read : List ℕ → Option (ℕ × ℕ)) where
  pub follow_late : (ls : List Line) (w : W) (ds : List (List ℕ)) (at k : ℕ) → follow host line read w ds ls at ≡ differs k → at ≤ k
  follow_late [] w [] at k h =
      ⊎_elim (λ (t : is_some (host.stop w) ≡ true). let bad : same (host.output w) ≡ differs k = rw t at h in absurd cc)
      (λ (t : is_some (host.stop w) ≡ false). let e : differs at ≡ differs k = rw t at h in let s : at ≡ k = same_line at k e in omega (arith, s))
      (cases (is_some (host.stop w)))
  follow_late [] w (d ∷ ds) at k h = let s : at ≡ k = same_line at k h in omega (arith, s)
  follow_late (None ∷ ls) w [] at k h = let s : at ≡ k = same_line at k h in omega (arith, s)
  follow_late (None ∷ ls) w (d ∷ ds) at k h = let s : at ≡ k = same_line at k h in omega (arith, s)
  follow_late (Some x ∷ ls) w [] at k h =
      by_next (λ v r. let i : suc at ≤ k = follow_late ls v (due host line read v) (suc at) k r in omega (arith, i)) (next host line read w x) h
    where
      by_next : ((v : W) → follow host line read v (due host line read v) ls (suc at) ≡ differs k → at ≤ k)
          → (o : Option W) → on_next host line read at (λ v. follow host line read v (due host line read v) ls (suc at)) o ≡ differs k → at ≤ k
      by_next again None h = let s : at ≡ k = same_line at k h in omega (arith, s)
      by_next again (Some v) h = again v h
  follow_late (Some x ∷ ls) w (d ∷ ds) at k h =
      ⊎_elim (λ (t : bytes_eq d x ≡ true). let r : follow host line read w ds ls (suc at) ≡ differs k = rw t at h in let i : suc at ≤ k = follow_late ls w ds (suc at) k r in omega (arith, i))
      (λ (t : bytes_eq d x ≡ false). let r : differs at ≡ differs k = rw t at h in let s : at ≡ k = same_line at k r in omega (arith, s))
      (cases (bytes_eq d x))

module _ (names : List (List ℕ)) (code : Code) where
  plain_late : (ls : List Line) (k : ℕ) → plain_replayed names code ls ≡ differs k → 1 ≤ k
  plain_late ls k h =
      follow_late (host_of (code_machine code.instructions) names usual) plain_line turn_in ls (code_world code)
      (due (host_of (code_machine code.instructions) names usual) plain_line turn_in (code_world code)) 1 k h

  headed_late : (ls : List Line) (g : Head) (k : ℕ) → headed_replayed names code ls g ≡ differs k → 1 ≤ k
  headed_late ls g k h =
      ⊎_elim (λ (t : is_usable g ≡ true).
      let i : 2 ≤ k = follow_late (host_of (code_machine code.instructions) names (limits_of g)) line_of turn_in ls (code_world code)
      (due (host_of (code_machine code.instructions) names (limits_of g)) line_of turn_in (code_world code)) 2 k (rw t at h) in
      omega (arith, i))
      (λ (t : is_usable g ≡ false). let r : differs 1 ≡ differs k = rw t at h in let s : 1 ≡ k = same_line 1 k r in omega (arith, s))
      (cases (is_usable g))

  head_late : (all ls : List Line) (o : Option Head) (k : ℕ) → by_head names code all ls o ≡ differs k → 1 ≤ k
  head_late all ls None k h = plain_late all k h
  head_late all ls (Some g) k h = headed_late ls g k h

  lines_late : (ls : List Line) (k : ℕ) → lines_replayed names code ls ≡ differs k → 1 ≤ k
  lines_late [] k h = plain_late [] k h
  lines_late (None ∷ ls) k h = plain_late (None ∷ ls) k h
  lines_late (Some x ∷ ls) k h = head_late (Some x ∷ ls) ls (head_in x) k h

  -- The first line is line 1.
  pub replayed_late : (book : List ℕ) (k : ℕ) → replayed names code book ≡ differs k → 1 ≤ k
  replayed_late book k h = lines_late (lines_in book) k h
