-- Ticks on catches and protects.
use Rattle.std.proofs.Common.{◌≡◌, ℕ, pred, ◌+◌, Bool, true, false, List, [], ◌∷◌, length, Option, Some, None, refl, sym, ap, ◌∙◌}
use Rattle.std.specs.Prelude.{drop as without_first}
use Rattle.std.specs.Option.{unwrap_or}
use Rattle.ql_base.specs.declared.limits.Limits.{Limits}
use Rattle.ql_world.specs.declared.word.Word.{Word}
use Rattle.ql_world.specs.declared.word.Slot.{Slot}
use Rattle.ql_world.specs.declared.world.Aim.{Aim}
use Rattle.ql_world.specs.declared.world.Aim.TheVariants.{Free as free, To as to, Die as die}
use Rattle.ql_world.specs.declared.world.Cleanup.{Cleanup}
use Rattle.ql_world.specs.declared.event.Event.TheVariants.{Opened as opened, Protect as protect, Begin as begin, Finish as finish}
use Rattle.ql_world.specs.Idle.{acting}
use Rattle.ql_world.specs.Word.{first_future}
use Rattle.ql_world.specs.World.{World, counted, with_event, with_thread}
use Rattle.ql_world.specs.Machine.{Machine, Answer, done, numbered, unwinds, opens}
use Rattle.ql_world.specs.Tick.{or_home, finish_answer, row}
use Rattle.ql_tree.specs.Tree.{new_catch}
use Rattle.ql_tree.specs.declared.person.Person.{Person}
use Rattle.ql_tree.specs.Persons.{process_of_person}
use Rattle.ql_code.specs.declared.code.Op.{Op}
use Rattle.ql_code.specs.declared.code.Op.TheVariants.{Protect as protect_op, Leave as leave, EndClean as end_clean}
use Rattle.ql_code.specs.declared.mark.Mark.{Mark}
use Rattle.ql_code.specs.declared.mark.Mark.TheVariants.{Catching as catching, Protecting as protecting, Cleaning as cleaning}
use Rattle.ql_code.specs.Code.{Code, Instruction}
use Rattle.ql_code.specs.Machine.{Point, Entry, Item, slot, mark, words, cleanups_on, innermost_on, one_want, unary_go, catch_go, leave_want, leave_go, clean_want, clean_go, finish_go, settled, unwind_point, op_want, op_go, code_machine}
use Rattle.ql_host.specs.Awaited.{awaited}
use Rattle.ql_host.specs.Marked.{catch_op}
use Rattle.ql_host.specs.declared.shared.Shared.{Shared}
use Rattle.ql_host.specs.World.{world_of, Acts, IsAt}
use Rattle.ql_host.proofs.RowTicks.{acts_at}
use Rattle.ql_host.proofs.Awaits.{calm_want, calm_go}

home_or : (o : Option ℕ) (home : ℕ) → or_home o home ≡ unwrap_or o home
home_or None home = refl
home_or (Some c) home = refl

-- this mark under a slot
pub marked_under : (st rest : List Item) (s : Slot) (k j : Mark) → st ≡ slot s ∷ (mark k ∷ rest) → k ≡ j → st ≡ slot s ∷ (mark j ∷ rest)
marked_under st rest s k j e z = e ∙ ap (λ x. slot s ∷ (mark x ∷ rest)) z

-- the opening of a catch, whether it waits or not
module _ (waits : Bool) (l : ℕ) (st : List Item) where
  catch_wants : (b : Bool) (at : ℕ) → op_want (catch_op b l) at st ≡ one_want (words 1 st) at (λ w. opens w b)
  catch_wants false at = refl
  catch_wants true at = refl

  catch_goes : (b : Bool) (code : List Instruction) (a : Answer Entry) (pc : ℕ) → op_go code (catch_op b l) a pc st ≡ unary_go code a pc st (catch_go code l a pc)
  catch_goes false code a pc = refl
  catch_goes true code a pc = refl

  catch_awaits : (b : Bool) → awaited (catch_op b l) st ≡ first_future (words 1 st)
  catch_awaits false = refl
  catch_awaits true = refl

module _ (code : Code) (names : List (List ℕ)) (limits : Limits) (p : ℕ) (r : Person) (old new : Shared) (t u : Point) where
  abbrev M : Machine Point Entry
  M = code_machine code.instructions

  abbrev before : List Point → World Point Entry
  before threads = counted (world_of old threads) p

  abbrev answer_for : Aim → Answer Entry
  answer_for = finish_answer M names limits p (process_of_person r t)

  -- a process that leaves for something unwinds
  leaves_still : (a : Aim) → (a ≡ free → ⊥) → answer_for a ≡ unwinds
  leaves_still free h = absurd (h refl)
  leaves_still (to c w) h = refl
  leaves_still die h = refl

  -- where its row comes to an answer and to a world, which is the new one
  pub told_at : (op : Op) (at : ℕ) → IsAt code names limits p old r t op at → (a : Answer Entry) (w : List Point → World Point Entry)
      → ((threads : List Point) → row M names limits p (process_of_person r t) (before threads) (op_want op at t.stack) ≡ Some (with_thread (w threads) p (M.go t a)))
      → ((threads : List Point) → world_of new threads ≡ w threads)
      → op_go code.instructions op a t.place t.stack ≡ u
      → Acts code names limits p r old t new u
  told_at op at h a w f z g =
      acts_at code names limits p r old new t u op at h a (λ threads c. f threads ∙ ap (λ x. Some (with_thread x p (M.go t a))) (sym (z threads))) g

  module _ (waits : Bool) (l : ℕ) (tag : Word) where
    -- the world in which it is open, with this catch round it
    abbrev with_catch : ℕ → List Point → World Point Entry
    with_catch d threads = with_event (record (before threads) { catches = new_catch p tag d waits ∷ old.tree.catches }) (opened p (length old.tree.catches) d)

    pub catch_opened : (at d : ℕ) → IsAt code names limits p old r t (catch_op waits l) at → words 1 t.stack ≡ tag ∷ [] → awaited (catch_op waits l) t.stack ≡ None
        → d ≡ unwrap_or (innermost_on t.stack) r.home
        → ((threads : List Point) → world_of new threads ≡ with_catch d threads)
        → u ≡ settled code.instructions (t.place + 1) (mark (catching (length old.tree.catches) l) ∷ without_first 1 t.stack)
        → Acts code names limits p r old t new u
    catch_opened at d h e n o z g =
        let calm : first_future (words 1 t.stack) ≡ None = sym (catch_awaits waits l t.stack waits) ∙ n in
        let k : or_home (innermost_on t.stack) r.home ≡ d = home_or (innermost_on t.stack) r.home ∙ sym o in
        told_at (catch_op waits l) at h (numbered (length old.tree.catches)) (with_catch d)
        (λ threads.
        ap (row M names limits p (process_of_person r t) (before threads)) (catch_wants waits l t.stack waits at ∙ calm_want t.stack tag at (λ w. opens w waits) e calm)
        ∙ ap (λ c. Some (with_thread (with_catch c threads) p (M.go t (numbered (length old.tree.catches))))) k)
        z
        (catch_goes waits l t.stack waits code.instructions (numbered (length old.tree.catches)) t.place
        ∙ (calm_go code.instructions (numbered (length old.tree.catches)) t.place t.stack tag (catch_go code.instructions l (numbered (length old.tree.catches)) t.place) e calm ∙ sym g))

  pub protect_begun : (l at : ℕ) → IsAt code names limits p old r t (protect_op l) at
      → ((threads : List Point) → world_of new threads ≡ with_event (record (before threads) { protects = old.protects + 1 }) (protect p (old.protects + 1)))
      → u ≡ settled code.instructions (t.place + 1) (mark (protecting (old.protects + 1) l) ∷ t.stack)
      → Acts code names limits p r old t new u
  protect_begun l at h z g =
      told_at (protect_op l) at h (numbered (old.protects + 1)) (λ threads. with_event (record (before threads) { protects = old.protects + 1 }) (protect p (old.protects + 1))) (λ threads. refl) z (sym g)

  pub protect_left : (n l at : ℕ) (s : Slot) (rest : List Item) → IsAt code names limits p old r t leave at → t.stack ≡ slot s ∷ (mark (protecting n l) ∷ rest)
      → ((threads : List Point) → world_of new threads ≡ with_event (before threads) (begin p n))
      → u ≡ settled code.instructions (t.place + 1) (mark (cleaning n (record { aim = free; floor = pred (length old.tree.catches) })) ∷ (slot s ∷ rest))
      → Acts code names limits p r old t new u
  protect_left n l at s rest h e z g =
      told_at leave at h (numbered (pred (length old.tree.catches))) (λ threads. with_event (before threads) (begin p n))
      (λ threads. ap (λ st. row M names limits p (process_of_person r t) (before threads) (leave_want st)) e)
      z (ap (leave_go code.instructions (numbered (pred (length old.tree.catches))) t.place) e ∙ sym g)

  cleanup_ended : (n at : ℕ) (c : Cleanup) (s : Slot) (rest : List Item) (a : Answer Entry) → IsAt code names limits p old r t end_clean at → t.stack ≡ slot s ∷ (mark (cleaning n c) ∷ rest)
      → answer_for (acting (without_first 1 (cleanups_on t.stack)) r.aim) ≡ a
      → ((threads : List Point) → world_of new threads ≡ with_event (before threads) (finish p n))
      → u ≡ finish_go code.instructions a t.place rest
      → Acts code names limits p r old t new u
  cleanup_ended n at c s rest a h e k z g =
      told_at end_clean at h a (λ threads. with_event (before threads) (finish p n))
      (λ threads.
      ap (λ st. row M names limits p (process_of_person r t) (before threads) (clean_want st)) e
      ∙ ap (λ b. Some (with_thread (with_event (before threads) (finish p n)) p (M.go t b))) k)
      z (ap (clean_go code.instructions a t.place) e ∙ sym g)

  module _ (n at : ℕ) (c : Cleanup) (s : Slot) (rest : List Item) (h : IsAt code names limits p old r t end_clean at) (e : t.stack ≡ slot s ∷ (mark (cleaning n c) ∷ rest))
      (z : (threads : List Point) → world_of new threads ≡ with_event (before threads) (finish p n)) where
    pub cleanup_passed : free ≡ acting (without_first 1 (cleanups_on t.stack)) r.aim → u ≡ settled code.instructions (t.place + 1) (without_first 2 t.stack) → Acts code names limits p r old t new u
    cleanup_passed k g = cleanup_ended n at c s rest done h e (ap answer_for (sym k)) z (g ∙ ap (λ st. settled code.instructions (t.place + 1) (without_first 2 st)) e)

    pub cleanup_unwound : (aim : Aim) → aim ≡ acting (without_first 1 (cleanups_on t.stack)) r.aim → (aim ≡ free → ⊥) → u ≡ unwind_point t.place (without_first 2 t.stack)
        → Acts code names limits p r old t new u
    cleanup_unwound aim k l g =
        cleanup_ended n at c s rest unwinds h e (ap answer_for (sym k) ∙ leaves_still aim l) z (g ∙ ap (λ st. unwind_point t.place (without_first 2 st)) e)
