-- Ticks on words, cells and output.
use Rattle.std.proofs.Common.{◌≡◌, ℕ, zero, suc, ◌+◌, Bool, true, false, List, [], ◌∷◌, length, ◌<◌, Option, Some, None, refl, sym, ap, ◌∙◌, subst, arith}
use Rattle.std.specs.Prelude.{slice_get, if◌then◌else◌, drop as without_first}
use Rattle.ql_base.specs.declared.fault.RunFault.TheVariants.{Unbound}
use Rattle.ql_base.specs.declared.limits.Limits.{Limits}
use Rattle.ql_world.specs.declared.word.Word.{Word}
use Rattle.ql_world.specs.declared.event.Stop.TheVariants.{Fault as fault}
use Rattle.ql_world.specs.Word.{is_nil}
use Rattle.ql_world.specs.World.{change, counted, marked, with_thread}
use Rattle.ql_world.specs.Machine.{Place, held, box, global, Want, branches, done, got}
use Rattle.ql_world.specs.Tick.{row, of_box, of_global, variable_row, store_row}
use Rattle.ql_tree.specs.declared.person.Person.{Person}
use Rattle.ql_tree.specs.Persons.{process_of_person}
use Rattle.ql_code.specs.declared.code.Op.TheVariants.{Lit as lit, Local as local, BoxGet as box_get, GlobalGet as global_get, BoxSet as box_set, GlobalSet as global_set, Branch as branch}
use Rattle.ql_code.specs.Code.{Code}
use Rattle.ql_code.specs.Machine.{Point, word, words, frame_of, slot_at, place_of_slot, store_want, held_word, branch_go, settled, ended, code_machine}
use Rattle.ql_code.specs.Standing.{IsPlace}
use Rattle.ql_host.specs.declared.shared.Shared.{Shared}
use Rattle.ql_host.specs.Awaited.{awaited}
use Rattle.ql_host.specs.World.{world_of, made_in, Acts, IsAt}
use Rattle.ql_host.proofs.Awaits.{calm_want, calm_go}
use Rattle.ql_host.proofs.RowTicks.{acts_at, quiet_at, stops_at}

-- an item within a list is there
none_within : {A : Type 0} (xs : List A) (n : ℕ) → n < length xs → slice_get xs n ≡ None → ⊥
none_within [] n h e = absurd (omega (arith, h))
none_within (x ∷ xs) zero h e = absurd cc
none_within (x ∷ xs) (suc n) h e = none_within xs n (omega (arith, h)) e

module _ (code : Code) (names : List (List ℕ)) (limits : Limits) (p : ℕ) (r : Person) (old new : Shared) (t u : Point) where
  pub global_got : (g at : ℕ) (w : Word) → IsAt code names limits p old r t (global_get g) at
      → Some (Some w) ≡ slice_get old.globals.items g
      → ((threads : List Point) → world_of new threads ≡ counted (world_of old threads) p)
      → u ≡ settled code.instructions (t.place + 1) (word w ∷ t.stack)
      → Acts code names limits p r old t new u
  global_got g at w h e f z =
      quiet_at code names limits p r old new t u (global_get g) at h (got w)
      (λ threads c. ap (λ o. of_global (code_machine code.instructions) names limits p (process_of_person r t) (counted (world_of old threads) p) o at) (sym e))
      f (sym z)

  pub global_without : (g at : ℕ) → IsAt code names limits p old r t (global_get g) at
      → Some None ≡ slice_get old.globals.items g
      → ((threads : List Point) → world_of new threads ≡ marked (counted (world_of old threads) p) (fault Unbound p at))
      → Acts code names limits p r old t new t
  global_without g at h e f =
      stops_at code names limits p r old new t (global_get g) at h (fault Unbound p at)
      (λ threads. ap (λ o. of_global (code_machine code.instructions) names limits p (process_of_person r t) (counted (world_of old threads) p) o at) (sym e))
      f

  pub literal_taken : (w : Word) (at : ℕ) → IsAt code names limits p old r t (lit w) at
      → ((threads : List Point) → world_of new threads ≡ counted (world_of old threads) p)
      → u ≡ settled code.instructions (t.place + 1) (word w ∷ t.stack)
      → Acts code names limits p r old t new u
  literal_taken w at h f z = quiet_at code names limits p r old new t u (lit w) at h done (λ threads c. refl) f (sym z)

  pub local_got : (i at : ℕ) → IsAt code names limits p old r t (local i) at
      → ((threads : List Point) → world_of new threads ≡ counted (world_of old threads) p)
      → u ≡ settled code.instructions (t.place + 1) (word (held_word code.instructions (slot_at (frame_of t.stack) i)) ∷ t.stack)
      → Acts code names limits p r old t new u
  local_got i at h f z = quiet_at code names limits p r old new t u (local i) at h done (λ threads c. refl) f (sym z)

  pub box_got : (i at b : ℕ) (w : Word) → IsAt code names limits p old r t (box_get i) at
      → place_of_slot (slot_at (frame_of t.stack) i) ≡ box b → slice_get old.cells.boxes b ≡ Some w
      → ((threads : List Point) → world_of new threads ≡ counted (world_of old threads) p)
      → u ≡ settled code.instructions (t.place + 1) (word w ∷ t.stack)
      → Acts code names limits p r old t new u
  box_got i at b w h e g f z =
      quiet_at code names limits p r old new t u (box_get i) at h (got w)
      (λ threads c.
      ap (λ (x : Place). variable_row (code_machine code.instructions) names limits p (process_of_person r t) (counted (world_of old threads) p) x at) e
      ∙ ap (λ (o : Option Word). of_box (code_machine code.instructions) names limits p (process_of_person r t) (counted (world_of old threads) p) o) g)
      f (sym z)

  pub box_lacking : (i at : ℕ) → IsAt code names limits p old r t (box_get i) at
      → place_of_slot (slot_at (frame_of t.stack) i) ≡ held
      → ((threads : List Point) → world_of new threads ≡ counted (world_of old threads) p)
      → u ≡ ended t.place
      → Acts code names limits p r old t new u
  box_lacking i at h e f z =
      quiet_at code names limits p r old new t u (box_get i) at h done
      (λ threads c.
      ap (λ (x : Place). variable_row (code_machine code.instructions) names limits p (process_of_person r t) (counted (world_of old threads) p) x at) e)
      f (sym z)

  -- a box that is asked for is there
  pub box_there : (i at b : ℕ) → IsAt code names limits p old r t (box_get i) at
      → place_of_slot (slot_at (frame_of t.stack) i) ≡ box b → slice_get old.cells.boxes b ≡ None → ⊥
  box_there i at b h e n = let within : b < length old.cells.boxes = subst (IsPlace (made_in old) r.kind) e h.asked in none_within old.cells.boxes b within n

  pub box_put : (i at b : ℕ) (w : Word) → IsAt code names limits p old r t (box_set i) at → words 1 t.stack ≡ w ∷ []
      → place_of_slot (slot_at (frame_of t.stack) i) ≡ box b
      → ((threads : List Point) → world_of new threads ≡ record (counted (world_of old threads) p) { boxes = change (λ y. w) old.cells.boxes b })
      → u ≡ settled code.instructions (t.place + 1) t.stack
      → Acts code names limits p r old t new u
  box_put i at b w h e g f z =
      acts_at code names limits p r old new t u (box_set i) at h done
      (λ threads k.
      ap (λ (ws : List Word). row (code_machine code.instructions) names limits p (process_of_person r t) (counted (world_of old threads) p) (store_want (place_of_slot (slot_at (frame_of t.stack) i)) ws)) e
      ∙ ap (λ (x : Place). store_row (code_machine code.instructions) names limits p (process_of_person r t) (counted (world_of old threads) p) x w) g
      ∙ ap (λ x. Some (with_thread x p ((code_machine code.instructions).go t done))) (sym (f threads)))
      (sym z)

  pub global_put : (g at : ℕ) (w : Word) → IsAt code names limits p old r t (global_set g) at → words 1 t.stack ≡ w ∷ []
      → ((threads : List Point) → world_of new threads ≡ record (counted (world_of old threads) p) { globals = change (λ y. Some w) old.globals.items g })
      → u ≡ settled code.instructions (t.place + 1) t.stack
      → Acts code names limits p r old t new u
  global_put g at w h e f z =
      acts_at code names limits p r old new t u (global_set g) at h done
      (λ threads k.
      ap (λ (ws : List Word). row (code_machine code.instructions) names limits p (process_of_person r t) (counted (world_of old threads) p) (store_want (global g) ws)) e
      ∙ ap (λ x. Some (with_thread x p ((code_machine code.instructions).go t done))) (sym (f threads)))
      (sym z)

  pub branched : (l at : ℕ) (w : Word) → IsAt code names limits p old r t (branch l) at → awaited (branch l) t.stack ≡ None → words 1 t.stack ≡ w ∷ []
      → ((threads : List Point) → world_of new threads ≡ counted (world_of old threads) p)
      → u ≡ settled code.instructions (if is_nil w then l else t.place + 1) (without_first 1 t.stack)
      → Acts code names limits p r old t new u
  branched l at w h n e f z =
      quiet_at code names limits p r old new t u (branch l) at h done
      (λ threads k.
      ap (λ (x : Want). row (code_machine code.instructions) names limits p (process_of_person r t) (counted (world_of old threads) p) x) (calm_want t.stack w at (λ v. branches) e n))
      f
      (calm_go code.instructions done t.place t.stack w (branch_go code.instructions (words 1 t.stack) l t.place) e n
      ∙ ap (λ (ws : List Word). branch_go code.instructions ws l t.place (without_first 1 t.stack)) e
      ∙ either_way (is_nil w)
      ∙ sym z)
    where
      either_way : (b : Bool) → (if b then settled code.instructions l (without_first 1 t.stack) else settled code.instructions (t.place + 1) (without_first 1 t.stack)) ≡ settled code.instructions (if b then l else t.place + 1) (without_first 1 t.stack)
      either_way true = refl
      either_way false = refl
