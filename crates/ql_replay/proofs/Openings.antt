-- The first line of a book.
use Rattle.std.proofs.Common.{◌≡◌, ℕ, ◌<◌, ◌≤◌, ◌==◌, true, false, List, [], ◌∷◌, ◌++◌, length, ◌⊎◌, Some, None, refl, sym, ap, ◌∙◌, subst, ⊎_elim, arith, append_assoc, length-append}
use Rattle.std.proofs.lemmas.Bool.Decides.{nat_tests}
use Rattle.ql_world.specs.declared.event.Head.{Head}
use Rattle.ql_code.specs.Code.{Code}
use Rattle.ql_replay.specs.Book.{Line, lines_in, head_in, has_feed}
use Rattle.ql_replay.specs.Replay.{differs, is_usable, plain_replayed, plain_verdict, headed_verdict, by_head, lines_replayed, replayed}
use Rattle.ql_replay.proofs.Basics.{cases}
use Rattle.ql_replay.proofs.Feeds.{clean_append}
use Rattle.ql_replay.proofs.Long.{long_lines_differ}
use Rattle.ql_replay.proofs.TakesBytes.{line_first, last_part, long_first}

module _ (names : List (List ℕ)) (code : Code) where
  module _ (held rest : List ℕ) (clean : has_feed held ≡ false) where
    first_is : replayed names code (held ++ 10 ∷ rest) ≡ by_head names code (Some held ∷ lines_in rest) (lines_in rest) (head_in held)
    first_is = ap (lines_replayed names code) (line_first held rest clean)

    pub headed_is : (h : Head) → head_in held ≡ Some h → replayed names code (held ++ 10 ∷ rest) ≡ headed_verdict names code h rest
    headed_is h e = first_is ∙ ap (by_head names code (Some held ∷ lines_in rest) (lines_in rest)) e

    pub unusable_is : (h : Head) → head_in held ≡ Some h → is_usable h ≡ false → replayed names code (held ++ 10 ∷ rest) ≡ differs 1
    unusable_is h e u = headed_is h e ∙ rw u refl

    no_head : head_in held ≡ None → replayed names code (held ++ 10 ∷ rest) ≡ plain_verdict names code (held ++ 10 ∷ rest)
    no_head e = first_is ∙ (ap (by_head names code (Some held ∷ lines_in rest) (lines_in rest)) e ∙ ap (plain_replayed names code) (sym (line_first held rest clean)))

  -- No line of the book has ended.
  pub unended : (held : List ℕ) → has_feed held ≡ false → replayed names code held ≡ plain_verdict names code held
  unended [] clean = refl
  unended (x ∷ xs) clean =
      let i = last_part x xs clean in
      ap (lines_replayed names code) i.1 ∙ ap (plain_replayed names code) (sym i.1)

  long_line : (ls : List Line) (line : Line) (others : List Line) → ls ≡ line ∷ others → ((l : List ℕ) → line ≡ Some l → 200 < length l)
      → lines_replayed names code ls ≡ plain_replayed names code ls
  long_line ls None others e long = ap (lines_replayed names code) e ∙ ap (plain_replayed names code) (sym e)
  long_line ls (Some l) others e long =
      ap (lines_replayed names code) e ∙ (ap (by_head names code (Some l ∷ others) others) (long_lines_differ.heads l (long l refl)) ∙ ap (plain_replayed names code) (sym e))

  long_held : (held : List ℕ) (b : ℕ) (rest : List ℕ) → has_feed held ≡ false → (b == 10) ≡ false → 200 ≤ length held
      → replayed names code (held ++ b ∷ rest) ≡ plain_verdict names code (held ++ b ∷ rest)
  long_held [] b rest clean t l = absurd (omega (arith, l))
  long_held (x ∷ xs) b rest clean t l =
      let one : has_feed (b ∷ []) ≡ false = rw t refl in
      let c : has_feed (x ∷ (xs ++ b ∷ [])) ≡ false = clean_append (x ∷ xs) (b ∷ []) clean one in
      let i = long_first x (xs ++ b ∷ []) rest c in
      let big : 200 < length (x ∷ (xs ++ b ∷ [])) = omega (arith, l, length-append xs (b ∷ [])) in
      let e : x ∷ (xs ++ b ∷ rest) ≡ x ∷ ((xs ++ b ∷ []) ++ rest) = ap (λ (z : List ℕ). x ∷ z) (sym (append_assoc xs (b ∷ []) rest)) in
      long_line (lines_in (x ∷ (xs ++ b ∷ rest))) i.line i.others (ap lines_in e ∙ i.is) (λ k g. let j : length (x ∷ (xs ++ b ∷ [])) ≤ length k = i.long k g in omega (arith, big, j))

  -- The bytes aren't the beginning of a head line.
  pub plain_is : (held : List ℕ) (b : ℕ) (rest : List ℕ) → has_feed held ≡ false → (b ≡ 10) ⊎ (200 ≤ length held) → (b ≡ 10 → head_in held ≡ None)
      → replayed names code (held ++ b ∷ rest) ≡ plain_verdict names code (held ++ b ∷ rest)
  plain_is held b rest clean o none =
      ⊎_elim (λ (t : (b == 10) ≡ true). feed (same_of b t) none)
      (λ (t : (b == 10) ≡ false). long_held held b rest clean t (⊎_elim (λ (s : b ≡ 10). absurd (other b t s)) (λ (l : 200 ≤ length held). l) o))
      (cases (b == 10))
    where
      same_of : (b : ℕ) → (b == 10) ≡ true → b ≡ 10
      same_of b t = grind (arith, nat_tests)

      other : (b : ℕ) → (b == 10) ≡ false → b ≡ 10 → ⊥
      other b t s = grind (arith, nat_tests)

      feed : b ≡ 10 → (b ≡ 10 → head_in held ≡ None) → replayed names code (held ++ b ∷ rest) ≡ plain_verdict names code (held ++ b ∷ rest)
      feed s none =
          subst (λ (z : ℕ). replayed names code (held ++ z ∷ rest) ≡ plain_verdict names code (held ++ z ∷ rest)) (sym s) (no_head held rest clean (none s))
