-- The lines of a book up to the one that differs are enough.
use Rattle.std.proofs.Common.{◌≡◌, ℕ, suc, ◌+◌, ◌<◌, ◌≤◌, ◌==◌, true, false, List, [], ◌∷◌, ◌++◌, length, Option, Some, None, refl, ap, ◌∙◌, ⊎_elim, arith}
use Rattle.std.specs.Prelude.{is_some}
use Rattle.std.specs.Str.{bytes_eq}
use Rattle.ql_world.specs.declared.event.Event.{Event}
use Rattle.ql_world.specs.declared.event.Head.{Head}
use Rattle.ql_base.specs.Limits.{usual}
use Rattle.ql_world.specs.Text.{line_of}
use Rattle.ql_code.specs.Code.{Code}
use Rattle.ql_code.specs.Machine.{code_machine, code_world}
use Rattle.ql_replay.specs.Book.{Line, longer, after_byte, lines_in, turn_in, head_in}
use Rattle.ql_replay.specs.FirstDiff.{limits_of}
use Rattle.ql_replay.specs.Replay.{Host, same, differs, due, next, on_next, follow, host_of, plain_line, is_usable, by_head, lines_replayed}
use Rattle.ql_replay.specs.Law.{EarlyIsEnough, LinesAreApart}
use Rattle.ql_replay.proofs.Basics.{cases}

same_line : (i k : ℕ) → differs i ≡ differs k → i ≡ k
same_line i k h = cc

module _ {W : Type 0} (host : Host W) (line : Event → List ℕ) (read : List ℕ → Option (ℕ × ℕ)) where
  pub follow_early : (ls more : List Line) (w : W) (ds : List (List ℕ)) (at k : ℕ) → follow host line read w ds ls at ≡ differs k → k < at + length ls
      → follow host line read w ds (ls ++ more) at ≡ differs k
  follow_early [] more w [] at k h l =
      ⊎_elim (λ (t : is_some (host.stop w) ≡ true). let bad : same (host.output w) ≡ differs k = rw t at h in absurd cc)
      (λ (t : is_some (host.stop w) ≡ false). let e : differs at ≡ differs k = rw t at h in let s : at ≡ k = same_line at k e in absurd (omega (arith, l, s)))
      (cases (is_some (host.stop w)))
  follow_early [] more w (d ∷ ds) at k h l = let s : at ≡ k = same_line at k h in absurd (omega (arith, l, s))
  follow_early (None ∷ ls) more w [] at k h l = h
  follow_early (None ∷ ls) more w (d ∷ ds) at k h l = h
  follow_early (Some x ∷ ls) more w [] at k h l =
      by_next (λ v r. follow_early ls more v (due host line read v) (suc at) k r (omega (arith, l))) (next host line read w x) h
    where
      by_next : ((v : W) → follow host line read v (due host line read v) ls (suc at) ≡ differs k → follow host line read v (due host line read v) (ls ++ more) (suc at) ≡ differs k)
          → (o : Option W) → on_next host line read at (λ v. follow host line read v (due host line read v) ls (suc at)) o ≡ differs k
          → on_next host line read at (λ v. follow host line read v (due host line read v) (ls ++ more) (suc at)) o ≡ differs k
      by_next again None h = h
      by_next again (Some v) h = again v h
  follow_early (Some x ∷ ls) more w (d ∷ ds) at k h l =
      ⊎_elim (λ (t : bytes_eq d x ≡ true). let r : follow host line read w ds ls (suc at) ≡ differs k = rw t at h in rw t (follow_early ls more w ds (suc at) k r (omega (arith, l))))
      (λ (t : bytes_eq d x ≡ false). let r : differs at ≡ differs k = rw t at h in rw t r)
      (cases (bytes_eq d x))

module _ (names : List (List ℕ)) (code : Code) where
  -- in version 1
  plain_early : (ls more : List Line) (k : ℕ) → k ≤ length ls → by_head names code ls ls None ≡ differs k → by_head names code (ls ++ more) (ls ++ more) None ≡ differs k
  plain_early ls more k l h =
      follow_early (host_of (code_machine code.instructions) names usual) plain_line turn_in ls more (code_world code)
      (due (host_of (code_machine code.instructions) names usual) plain_line turn_in (code_world code)) 1 k h (omega (arith, l))

  headed_early : (x : List ℕ) (ls more : List Line) (k : ℕ) (o : Option Head) → k ≤ suc (length ls) → by_head names code (Some x ∷ ls) ls o ≡ differs k
      → by_head names code (Some x ∷ (ls ++ more)) (ls ++ more) o ≡ differs k
  headed_early x ls more k None l h = plain_early (Some x ∷ ls) more k l h
  headed_early x ls more k (Some g) l h =
      ⊎_elim (λ (t : is_usable g ≡ true).
      rw t (follow_early (host_of (code_machine code.instructions) names (limits_of g)) line_of turn_in ls more (code_world code)
      (due (host_of (code_machine code.instructions) names (limits_of g)) line_of turn_in (code_world code)) 2 k (rw t at h) (omega (arith, l))))
      (λ (t : is_usable g ≡ false). let r : differs 1 ≡ differs k = rw t at h in rw t r)
      (cases (is_usable g))

  lines_early : (ls more : List Line) (k : ℕ) → lines_replayed names code ls ≡ differs k → k ≤ length ls → lines_replayed names code (ls ++ more) ≡ differs k
  lines_early [] more k h l =
      let none : k ≡ 0 = omega (arith, l) in
      absurd (first_line k h none)
    where
      first_line : (k : ℕ) → lines_replayed names code [] ≡ differs k → k ≡ 0 → ⊥
      first_line k h e = nothing_at (code_world code) _ k h e
        where
          nothing_at : (w : _) (ds : List (List ℕ)) (k : ℕ) → follow (host_of (code_machine code.instructions) names usual) plain_line turn_in w ds [] 1 ≡ differs k → k ≡ 0 → ⊥
          nothing_at w [] k h e =
              ⊎_elim (λ (t : is_some ((host_of (code_machine code.instructions) names usual).stop w) ≡ true). let bad : same w.output ≡ differs k = rw t at h in absurd cc)
              (λ (t : is_some ((host_of (code_machine code.instructions) names usual).stop w) ≡ false). let r : differs 1 ≡ differs k = rw t at h in let s : 1 ≡ k = same_line 1 k r in omega (arith, e, s))
              (cases (is_some ((host_of (code_machine code.instructions) names usual).stop w)))
          nothing_at w (d ∷ ds) k h e = let s : 1 ≡ k = same_line 1 k h in omega (arith, e, s)
  lines_early (None ∷ ls) more k h l = plain_early (None ∷ ls) more k l h
  lines_early (Some x ∷ ls) more k h l = headed_early x ls more k (head_in x) l h

pub early_is_enough : EarlyIsEnough
early_is_enough names code ls more k h l = lines_early names code ls more k h l

pub lines_are_apart : LinesAreApart
lines_are_apart [] rest = refl
lines_are_apart (b ∷ bs) rest =
    ⊎_elim (λ (t : (b == 10) ≡ true). rw t (ap (λ (l : List Line). Some [] ∷ l) (lines_are_apart bs rest)))
    (λ (t : (b == 10) ≡ false). rw t (ap (after_byte b) (lines_are_apart bs rest) ∙ byte_apart (lines_in (bs ++ 10 ∷ [])) (has_line bs)))
    (cases (b == 10))
  where
    byte_apart : (ls : List Line) → (x : Line) × ((xs : List Line) × (ls ≡ x ∷ xs)) → after_byte b (ls ++ lines_in rest) ≡ after_byte b ls ++ lines_in rest
    byte_apart [] h = let e : [] ≡ h.0 ∷ h.1.0 = h.1.1 in absurd cc
    byte_apart (x ∷ xs) h = refl

    has_line : (bs : List ℕ) → (x : Line) × ((xs : List Line) × (lines_in (bs ++ 10 ∷ []) ≡ x ∷ xs))
    has_line [] = (Some [], ([], refl))
    has_line (c ∷ bs) =
        ⊎_elim (λ (t : (c == 10) ≡ true). (Some [], (lines_in (bs ++ 10 ∷ []), rw t refl)))
        (λ (t : (c == 10) ≡ false). let i = has_line bs in (longer c i.0, (i.1.0, rw t (ap (after_byte c) i.1.1))))
        (cases (c == 10))
