-- On sound code a process settles where it stands in its place's shape.
use Rattle.std.proofs.Common.{◌≡◌, ℕ, zero, suc, ◌+◌, ◌<◌, ◌≤◌, ◌==◌, Bool, true, false, List, [], ◌∷◌, ◌++◌, length, Option, Some, None, refl, sym, ◌∙◌, subst, ⊎_elim, arith, eqb-true, take}
use Rattle.std.specs.Prelude.{◌&&◌, if◌then◌else◌, slice_get, drop as without_first, is_none}
use Rattle.std.proofs.lemmas.Bool.{ltb-true}
use Rattle.std.proofs.lemmas.Option.{slice_get_past}
use Rattle.ql_world.specs.Word.{first_future}
use Rattle.ql_world.specs.declared.world.Kind.TheVariants.{Main as world_main, Child as world_child}
use Rattle.ql_world.specs.declared.world.Kind.{Kind}
use Rattle.ql_world.specs.declared.world.Kind.TheVariants.{Closure as serving}
use Rattle.ql_code.specs.Code.{Op, jump, drop, slide, touch, join, Instruction, Code}
use Rattle.ql_code.specs.Machine as machine
use Rattle.ql_code.specs.Machine.{Mark, returning, base, Item, slot, mark, running, Point, Entry, words, top_mark, below_mark, joins_at, slid, silent, after_silent, settle_at, settle, settled}
use Rattle.ql_code.specs.Sound.{Part, value, Shape, Start, main, body, child, are_slots, values, target, is_own, rule, op_rule, after, Leads, Has, Sound}
use Rattle.ql_code.specs.Standing.{Made, IsBottom, Fits, IsStanding}
use Rattle.ql_code.proofs.Within.{cases}
use Rattle.ql_code.proofs.Frames.{Led, led_is, Ends, end_of, off_top}

pub and_left : (a b : Bool) → (a && b) ≡ true → a ≡ true
and_left true b e = refl
and_left false b e = absurd cc

pub and_right : (a b : Bool) → (a && b) ≡ true → b ≡ true
and_right true b e = e
and_right false b e = absurd cc

module _ (code : Code) (so : Sound code) (m : Made) (kind : Kind) where
  abbrev At : Start → ℕ → Shape → Type 0
  At = Has so.table

  abbrev F : Start → Shape → List Item → Type 0
  F = Fits At m kind

  abbrev pub IsOn : Point → Type 0
  IsOn = IsStanding At m code.instructions kind

  abbrev NextFits : Start → ℕ → Option (ℕ × List Item) → Type 0
  NextFits s pc None = Unit {0}
  NextFits s pc (Some x) = (pc < x.0) × ((sh : Shape) × At s x.0 sh × F s sh x.1)

  next_if : (b : Bool) (s : Start) (pc : ℕ) (o : Option (ℕ × List Item)) → (b ≡ true → NextFits s pc o) → NextFits s pc (if b then o else None)
  next_if true s pc o f = f refl
  next_if false s pc o f = tt

  next_unless : (b : Bool) (s : Start) (pc : ℕ) (o : Option (ℕ × List Item)) → (b ≡ false → NextFits s pc o) → NextFits s pc (if b then None else o)
  next_unless true s pc o f = tt
  next_unless false s pc o f = f refl

  own_end : (pc : ℕ) (s : Start) (o : Option Mark) (st : List Item) → is_own s pc ≡ true → Ends At m kind s o st → joins_at pc o ≡ true
  own_end pc main o st e h = absurd cc
  own_end pc (body q) o st e h = absurd cc
  own_end pc (child q own) None st e h = absurd h
  own_end pc (child q own) (Some (returning l)) st e h = absurd h.0
  own_end pc (child q own) (Some (base j)) st e h = at_bottom kind j h
    where
      at_bottom : (k : Kind) (j : Option ℕ) → IsBottom k (child q own) j → joins_at pc (Some (base j)) ≡ true
      at_bottom world_main None h = absurd h
      at_bottom world_main (Some j) h = absurd h
      at_bottom (world_child f) None h = absurd h
      at_bottom (world_child f) (Some j) h = subst (λ z. (z == pc) ≡ true) h e
      at_bottom (serving k) None h = absurd h
      at_bottom (serving k) (Some j) h = absurd h
  own_end pc (child q own) (Some (machine.catching c l)) st e h = absurd h
  own_end pc (child q own) (Some (machine.protecting c l)) st e h = absurd h
  own_end pc (child q own) (Some (machine.cleaning c l)) st e h = absurd h

  -- the rule of a `join` that isn't its frame's own, or that is
  pub join_led : (s : Start) (pc : ℕ) (sh : Shape) (b : Bool) → is_own s pc ≡ b → Led At (op_rule code s pc sh join) sh → Led At (if b then rule (values 1) (are_slots sh) (λ r. []) else rule [] true (λ r. target s (pc + 1) r ∷ [])) sh
  join_led s pc sh b e l = subst (λ z. Led At (if z then rule (values 1) (are_slots sh) (λ r. []) else rule [] true (λ r. target s (pc + 1) r ∷ [])) sh) e l

  pass_join : (s : Start) (pc : ℕ) (sh : Shape) (st : List Item) → Led At (op_rule code s pc sh join) sh → F s sh st → joins_at pc (top_mark st) ≡ false → NextFits s pc (Some (pc + 1, st))
  pass_join s pc sh st l h j =
      ⊎_elim
      (λ (t : is_own s pc ≡ true).
      let d = join_led s pc sh true t l in
      let e : joins_at pc (top_mark st) ≡ true = own_end pc s (top_mark st) (below_mark st) t (end_of At m kind s sh st d.asks h) in
      let bad : true ≡ false = sym e ∙ j in absurd cc)
      (λ (t : is_own s pc ≡ false).
      let d = join_led s pc sh false t l in
      let lt : pc < pc + 1 = omega arith in
      (lt, (d.rest, d.goes.0, subst (λ z. F s z st) d.takes h)))
      (cases (is_own s pc))

  slide_fits : (s : Start) (n : ℕ) (ps : List Part) (r : Shape) (st : List Item) → length ps ≡ n → F s (value ∷ (ps ++ r)) st → F s (value ∷ r) (slid n st)
  slide_fits s n ps r [] e h = absurd h
  slide_fits s n ps r (slot x ∷ st) e h = (h.0, subst (λ z. F s r (without_first z st)) e (off_top At m kind ps s r st h.1))
  slide_fits s n ps r (mark k ∷ st) e h = absurd h.0

  silent_fits : (s : Start) (pc : ℕ) (sh : Shape) (st : List Item) (op : Op) → Led At (op_rule code s pc sh op) sh → F s sh st → NextFits s pc (silent op pc st)
  silent_fits s pc sh st (jump l) d h = (ltb-true pc l d.asks, (d.rest, d.goes.0, subst (λ z. F s z st) d.takes h))
  silent_fits s pc sh st drop d h =
      let n : length (take 1 sh) ≡ 1 = eqb-true _ _ (and_right (are_slots (take 1 sh)) (length (take 1 sh) == 1) d.asks) in
      let k : F s (take 1 sh ++ d.rest) st = subst (λ z. F s z st) d.takes h in
      let lt : pc < pc + 1 = omega arith in
      (lt, (d.rest, d.goes.0, subst (λ z. F s d.rest (without_first z st)) n (off_top At m kind (take 1 sh) s d.rest st k)))
  silent_fits s pc sh st (slide n) d h =
      let ps = take n (without_first 1 sh) in
      let e : length ps ≡ n = eqb-true _ _ (and_right (are_slots ps) (length ps == n) d.asks) in
      let k : F s (value ∷ (ps ++ d.rest)) st = subst (λ z. F s z st) d.takes h in
      let lt : pc < pc + 1 = omega arith in
      (lt, (value ∷ d.rest, d.goes.0, slide_fits s n ps d.rest st e k))
  silent_fits s pc sh st join d h = next_unless (joins_at pc (top_mark st)) s pc (Some (pc + 1, st)) (pass_join s pc sh st d h)
  silent_fits s pc sh st (touch n) d h = let lt : pc < pc + 1 = omega arith in next_if (is_none (first_future (words n st))) s pc (Some (pc + 1, st)) (λ e. (lt, (sh, d.goes.0, h)))
  silent_fits s pc sh st op d h = tt

  on_after : (next : ℕ → List Item → Point) (s : Start) (pc : ℕ) (sh : Shape) (st : List Item) → ((q : ℕ) (r : Shape) (u : List Item) → pc < q → At s q r → F s r u → IsOn (next q u)) → At s pc sh → F s sh st
      → (i : Instruction) → slice_get code.instructions pc ≡ Some i → (o : Option (ℕ × List Item)) → silent i.op pc st ≡ o → NextFits s pc o → IsOn (after_silent next o pc st)
  on_after next s pc sh st rec a h i e None f n = record { start = s; shape = sh; here = a; fits = h; next = i; stands = e; halts = f }
  on_after next s pc sh st rec a h i e (Some x) f n = rec x.0 n.1.0 x.1 n.0 n.1.1 n.1.2

  on_settle : (next : ℕ → List Item → Point) (s : Start) (pc : ℕ) (sh : Shape) (st : List Item) → ((q : ℕ) (r : Shape) (u : List Item) → pc < q → At s q r → F s r u → IsOn (next q u)) → At s pc sh → F s sh st
      → (o : Option Instruction) → slice_get code.instructions pc ≡ o → Leads At (after code s pc sh o) → IsOn (settle_at next o pc st)
  on_settle next s pc sh st rec a h None e l = absurd l
  on_settle next s pc sh st rec a h (Some i) e l = on_after next s pc sh st rec a h i e (silent i.op pc st) refl (silent_fits s pc sh st i.op (led_is At (op_rule code s pc sh i.op) sh l) h)

  settle_fits : (n : ℕ) (s : Start) (pc : ℕ) (sh : Shape) (st : List Item) → length code.instructions ≤ n + pc → At s pc sh → F s sh st → IsOn (settle code.instructions n pc st)
  settle_fits zero s pc sh st l a h =
      let e : slice_get code.instructions pc ≡ None = slice_get_past code.instructions pc (omega (arith, l)) in
      absurd (subst (λ o. Leads At (after code s pc sh o)) e (so.kept s pc sh a))
  settle_fits (suc n) s pc sh st l a h =
      on_settle (settle code.instructions n) s pc sh st (λ q r u lt. settle_fits n s q r u (omega (arith, l, lt))) a h (slice_get code.instructions pc) refl (so.kept s pc sh a)

  -- where a process goes on
  pub settled_fits : (s : Start) (pc : ℕ) (sh : Shape) (st : List Item) → At s pc sh → F s sh st → IsOn (settled code.instructions pc st)
  settled_fits s pc sh st a h = settle_fits (length code.instructions) s pc sh st (omega arith) a h
