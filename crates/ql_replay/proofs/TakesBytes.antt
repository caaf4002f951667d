-- A book byte by byte.
use Rattle.std.proofs.Common.{◌≡◌, ℕ, suc, ◌<◌, ◌≤◌, ◌==◌, Bool, true, false, List, [], ◌∷◌, ◌++◌, length, drop, Some, None, refl, sym, ap, ◌∙◌, subst, arith, append_assoc, append-nil, length-append}
use Rattle.std.specs.Prelude.{is_some, slice_get}
use Rattle.ql_world.specs.declared.event.Event.{Event}
use Rattle.ql_replay.specs.Book.{Line, after_byte, lines_in, turn_in, has_feed}
use Rattle.ql_replay.specs.Replay.{Host, differs, due, follow, follow_past, ahead}
use Rattle.ql_replay.specs.Following.{TakesByte, EndsHere, Finds, Follows}
use Rattle.ql_replay.proofs.Feeds.{clean_append}
use Rattle.ql_replay.proofs.Texts.{clean_rest}
use Rattle.ql_replay.proofs.Long.{long_lines_differ}
use Rattle.ql_replay.proofs.TakesLines.{due_other, no_turn_line, get_drop, none_drop}

pub line_first : (held rest : List ℕ) → has_feed held ≡ false → lines_in (held ++ 10 ∷ rest) ≡ Some held ∷ lines_in rest
line_first [] rest h = refl
line_first (b ∷ d) rest h = let x = clean_rest b d h in let t : (b == 10) ≡ false = x.0 in rw t (ap (after_byte b) (line_first d rest x.1))

pub last_part : (x : ℕ) (xs : List ℕ) → has_feed (x ∷ xs) ≡ false → (ls : List Line) × (lines_in (x ∷ xs) ≡ None ∷ ls)
last_part x [] h = let t : (x == 10) ≡ false = (clean_rest x [] h).0 in ([], rw t refl)
last_part x (y ∷ ys) h =
    let c = clean_rest x (y ∷ ys) h in
    let t : (x == 10) ≡ false = c.0 in
    let i = last_part y ys c.1 in
    (i.0, rw t (ap (after_byte x) i.1))

nothing : (xs : List ℕ) → length xs ≡ 0 → xs ≡ []
nothing [] h = refl
nothing (x ∷ xs) h = absurd (omega (arith, h))

-- the first of lines that begin with these bytes is as long, or none
pub record LongFirst (xs : List ℕ) (ls : List Line) : Type 0 where
  pub line : Line
  pub others : List Line
  pub is : ls ≡ line ∷ others
  pub long : (l : List ℕ) → line ≡ Some l → length xs ≤ length l

pub long_first : (x : ℕ) (xs rest : List ℕ) → has_feed (x ∷ xs) ≡ false → LongFirst (x ∷ xs) (lines_in (x ∷ (xs ++ rest)))
long_first x [] rest h =
    let t : (x == 10) ≡ false = (clean_rest x [] h).0 in rw t (one (lines_in rest))
  where
    one : (ls : List Line) → LongFirst (x ∷ []) (after_byte x ls)
    one [] = record { line = None; others = []; is = refl; long = λ l e. absurd cc }
    one (None ∷ ls) = record { line = None; others = ls; is = refl; long = λ l e. absurd cc }
    one (Some k ∷ ls) = record { line = Some (x ∷ k); others = ls; is = refl; long = λ l e. let f : x ∷ k ≡ l = cc in subst (λ z. 1 ≤ length z) f (omega arith) }
long_first x (y ∷ ys) rest h =
    let c = clean_rest x (y ∷ ys) h in
    let t : (x == 10) ≡ false = c.0 in
    let i = long_first y ys rest c.1 in
    rw t (more (lines_in (y ∷ (ys ++ rest))) i.line i.others i.is i.long)
  where
    more : (ls : List Line) (line : Line) (others : List Line) → ls ≡ line ∷ others → ((l : List ℕ) → line ≡ Some l → length (y ∷ ys) ≤ length l) → LongFirst (x ∷ (y ∷ ys)) (after_byte x ls)
    more ls None others e g = record { line = None; others = others; is = ap (after_byte x) e; long = λ l f. absurd cc }
    more ls (Some k) others e g = record {
      line = Some (x ∷ k);
      others = others;
      is = ap (after_byte x) e;
      long = λ l f. let n : length (y ∷ ys) ≤ length k = g k refl in let same : x ∷ k ≡ l = cc in subst (λ z. length (x ∷ (y ∷ ys)) ≤ length z) same (omega (arith, n));
    }

module _ {W : Type 0} (host : Host W) (line : Event → List ℕ) (w : W) (seen : ℕ) (held : List ℕ) (at : ℕ) (clean : has_feed held ≡ false) where
  pub byte_ends : (b : ℕ) (v : W) (n : ℕ) → b ≡ 10 → Follows host line turn_in w seen held v (Some n) → TakesByte host line turn_in true b w seen held at v n [] (suc at)
  byte_ends b v n e f = λ rest.
      ap (λ (z : ℕ). ahead host line turn_in w seen held (z ∷ rest) at) e
      ∙ (ap (λ (ls : List Line). follow_past host line turn_in w seen ls at) (line_first held rest clean) ∙ f (lines_in rest) at)

  pub byte_differs : (b : ℕ) (v u : W) (n : ℕ) (h : List ℕ) → b ≡ 10 → Follows host line turn_in w seen held v None → TakesByte host line turn_in false b w seen held at u n h at
  byte_differs b v u n h e f = λ rest.
      ap (λ (z : ℕ). ahead host line turn_in w seen held (z ∷ rest) at) e
      ∙ (ap (λ (ls : List Line). follow_past host line turn_in w seen ls at) (line_first held rest clean) ∙ f (lines_in rest) at)

  pub byte_held : (b : ℕ) → TakesByte host line turn_in true b w seen held at w seen (held ++ b ∷ []) at
  byte_held b = λ rest. ap (λ (z : List ℕ). follow_past host line turn_in w seen (lines_in z) at) (sym (append_assoc held (b ∷ []) rest))

  pub clean_held : (b : ℕ) → (b == 10) ≡ false → has_feed (held ++ b ∷ []) ≡ false
  clean_held b t = clean_append held (b ∷ []) clean (rw t refl)

  none_follows : (ds : List (List ℕ)) (ls : List Line) → follow host line turn_in w ds (None ∷ ls) at ≡ differs at
  none_follows [] ls = refl
  none_follows (d ∷ ds) ls = refl

  long_differs : (l : List ℕ) (ls : List Line) (d : List ℕ) (found : Bool) → Finds found (slice_get (due host line turn_in w) seen) d → 200 < length l
      → follow_past host line turn_in w seen (Some l ∷ ls) at ≡ differs at
  long_differs l ls d true f g = due_other host line turn_in w seen l ls at d true f refl (λ e. let n : length d ≤ 200 = f.1 in let m : length d ≡ length l = ap length e in omega (arith, g, n, m))
  long_differs l ls d false f g = no_turn_line host line turn_in w seen l ls at d false f refl (long_lines_differ.turns l g)

  pub byte_too_many : (b : ℕ) (d : List ℕ) (found : Bool) (u : W) (n : ℕ) (h : List ℕ) → (b == 10) ≡ false → 200 ≤ length held → Finds found (slice_get (due host line turn_in w) seen) d
      → TakesByte host line turn_in false b w seen held at u n h at
  byte_too_many b d found u n h t l f = λ rest. by held refl rest
    where
      of_first : (ls : List Line) (x : Line) (xs : List Line) → ls ≡ x ∷ xs → ((k : List ℕ) → x ≡ Some k → 200 < length k) → follow_past host line turn_in w seen ls at ≡ differs at
      of_first ls None xs e g = ap (λ (z : List Line). follow_past host line turn_in w seen z at) e ∙ none_follows (drop seen (due host line turn_in w)) xs
      of_first ls (Some k) xs e g = ap (λ (z : List Line). follow_past host line turn_in w seen z at) e ∙ long_differs k xs d found f (g k refl)

      by : (xs : List ℕ) → held ≡ xs → (rest : List ℕ) → ahead host line turn_in w seen held (b ∷ rest) at ≡ differs at
      by [] e rest = let m : length held ≡ 0 = ap length e in absurd (omega (arith, l, m))
      by (x ∷ xs) e rest =
          let c : has_feed (x ∷ (xs ++ b ∷ [])) ≡ false = subst (λ (z : List ℕ). has_feed (z ++ b ∷ []) ≡ false) e (clean_held b t) in
          let i = long_first x (xs ++ b ∷ []) rest c in
          let m : length held ≡ suc (length xs) = ap length e in
          let big : 200 < length (x ∷ (xs ++ b ∷ [])) = omega (arith, l, m, length-append xs (b ∷ [])) in
          let same : held ++ (b ∷ rest) ≡ x ∷ ((xs ++ b ∷ []) ++ rest) = ap (λ (z : List ℕ). z ++ (b ∷ rest)) e ∙ ap (λ (z : List ℕ). x ∷ z) (sym (append_assoc xs (b ∷ []) rest)) in
          of_first (lines_in (held ++ (b ∷ rest))) i.line i.others (ap lines_in same ∙ i.is) (λ k g. let j : length (x ∷ (xs ++ b ∷ [])) ≤ length k = i.long k g in omega (arith, big, j))

  -- ---- the end of a book

  pub ends_within : 0 < length held → EndsHere host line turn_in false w seen held at
  ends_within l = by held refl
    where
      by : (xs : List ℕ) → held ≡ xs → ahead host line turn_in w seen held [] at ≡ differs at
      by [] e = let m : length held ≡ 0 = ap length e in absurd (omega (arith, l, m))
      by (x ∷ xs) e =
          let i = last_part x xs (subst (λ (z : List ℕ). has_feed z ≡ false) e clean) in
          ap (λ (z : List Line). follow_past host line turn_in w seen z at) (ap lines_in (append-nil held ∙ e) ∙ i.1) ∙ none_follows (drop seen (due host line turn_in w)) i.0

  pub ends_due : (d : List ℕ) (found : Bool) → Finds found (slice_get (due host line turn_in w) seen) d → found ≡ true → length held ≡ 0 → EndsHere host line turn_in false w seen held at
  ends_due d true f t l =
      ap (λ (z : List ℕ). follow_past host line turn_in w seen (lines_in z) at) (append-nil held ∙ nothing held l)
      ∙ ap (λ (ds : List (List ℕ)). follow host line turn_in w ds [] at) (get_drop (due host line turn_in w) seen d f.0)
  ends_due d false f t l = absurd cc

  pub ends_none : (d : List ℕ) (found b : Bool) → Finds found (slice_get (due host line turn_in w) seen) d → found ≡ false → length held ≡ 0 → b ≡ is_some (host.stop w) → EndsHere host line turn_in b w seen held at
  ends_none d true b f t l s = absurd cc
  ends_none d false b f t l s =
      subst (λ z. EndsHere host line turn_in z w seen held at) (sym s) (by_stop (is_some (host.stop w)) refl)
    where
      here : ahead host line turn_in w seen held [] at ≡ follow host line turn_in w [] [] at
      here =
          ap (λ (z : List ℕ). follow_past host line turn_in w seen (lines_in z) at) (append-nil held ∙ nothing held l)
          ∙ ap (λ (ds : List (List ℕ)). follow host line turn_in w ds [] at) (none_drop (due host line turn_in w) seen f)

      by_stop : (c : Bool) → is_some (host.stop w) ≡ c → EndsHere host line turn_in c w seen held at
      by_stop true e = (here ∙ rw e refl, e)
      by_stop false e = here ∙ rw e refl
