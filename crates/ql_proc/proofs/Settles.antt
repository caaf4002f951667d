-- How silent instructions are passed.
use Rattle.std.proofs.Common.{◌≡◌, refl, sym, subst, ap, ◌∙◌, ℕ, ◌-◌, ◌<◌, List, Option, Some, None, slice_get}
use Rattle.std.specs.Prelude.{option_map}
use Rattle.ql_code.specs.declared.code.Op.{Op}
use Rattle.ql_code.specs.Code.{Instruction}
use Rattle.ql_code.specs.Machine.{Item, Point, silent, after_silent, settle_at, settle}
use Rattle.ql_proc.proofs.Lists.{more}

abbrev op_of : Option Instruction → Option Op
op_of x = option_map (λ i. i.op) x

at-op : (next : ℕ → List Item → Point) (x : Option Instruction) (pc : ℕ) (st : List Item) (op : Op) → op_of x ≡ Some op → settle_at next x pc st ≡ after_silent next (silent op pc st) pc st
at-op next None pc st op e = absurd cc
at-op next (Some i) pc st op e = let f : i.op ≡ op = cc in rw f refl

module _ (code : List Instruction) (n pc : ℕ) (st : List Item) (h : 0 < n) where
  abbrev rest : ℕ → List Item → Point
  rest = settle code (n - 1)

  one-on : settle code n pc st ≡ settle_at rest (slice_get code pc) pc st
  one-on = subst (λ (m : ℕ). settle code m pc st ≡ settle_at rest (slice_get code pc) pc st) (sym (more n h)) refl

  pub settle-pass : (op : Op) (next : ℕ) (under : List Item) → option_map (λ i. i.op) (slice_get code pc) ≡ Some op → silent op pc st ≡ Some (next, under)
      → settle code n pc st ≡ settle code (n - 1) next under
  settle-pass op next under g s = one-on ∙ (at-op rest (slice_get code pc) pc st op g ∙ ap (λ (x : Option (ℕ × List Item)). after_silent rest x pc st) s)
