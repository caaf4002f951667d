-- Ticks of a process that unwinds.
use Rattle.std.proofs.Common.{◌≡◌, ℕ, pred, Bool, true, false, List, [], ◌∷◌, length, Option, Some, None, refl, sym, ap, ◌∙◌, subst}
use Rattle.std.specs.Prelude.{if◌then◌else◌, drop as without_first}
use Rattle.ql_base.specs.declared.limits.Limits.{Limits}
use Rattle.ql_world.specs.declared.word.Word.{Word}
use Rattle.ql_world.specs.Word.{nil}
use Rattle.ql_world.specs.declared.word.Slot.TheVariants.{Val as plain}
use Rattle.ql_world.specs.declared.world.Aim.TheVariants.{Free as free}
use Rattle.ql_world.specs.declared.event.Event.TheVariants.{Begin as begin, Land as land, EndKilled as end_killed}
use Rattle.ql_world.specs.Idle.{acting, in_cleanup}
use Rattle.ql_world.specs.World.{World, change_numbered, counted, with_event, with_thread, with_aim, with_end, without_catch}
use Rattle.ql_world.specs.Machine.{Machine, Answer, done, got, numbered, unwinds}
use Rattle.ql_world.specs.Tick.{landing, leave_row, row}
use Rattle.ql_tree.specs.declared.person.Person.{Person}
use Rattle.ql_tree.specs.Persons.{process_of_person, joined}
use Rattle.ql_tree.specs.Joined.{joined-aim, joined-end}
use Rattle.ql_code.specs.declared.mark.Mark.{Mark}
use Rattle.ql_code.specs.declared.mark.Mark.TheVariants.{Catching as catching, Protecting as protecting, Cleaning as cleaning, Base as base}
use Rattle.ql_code.specs.Code.{Code}
use Rattle.ql_code.specs.Machine.{Point, Entry, Item, slot, mark, word, cleanups_on, aim_cleanup, settled, ended, unwind_point, unwinding_want, unwinding_go, want_in, go_in, code_machine}
use Rattle.ql_proc.specs.Looks.{mark_on}
use Rattle.ql_host.specs.declared.shared.Shared.{Shared}
use Rattle.ql_host.specs.World.{world_of, Acts}
use Rattle.ql_host.specs.Room.{with_room}
use Rattle.ql_host.specs.Unwinding.{IsUnwinding, landed}
use Rattle.ql_host.proofs.RowTicks.{acts}

-- the mark on top, and what is under it
pub topmost : (st : List Item) (k : Mark) → mark_on st ≡ Some k → st ≡ mark k ∷ without_first 1 st
topmost [] k e = absurd cc
topmost (slot s ∷ st) k e = absurd cc
topmost (mark j ∷ st) k e = let z : j ≡ k = cc in ap (λ x. mark x ∷ st) z

-- room that was taken changes nothing of that
pub unwinding_still : (names : List (List ℕ)) (limits : Limits) (r : Person) (old mid : Shared) → mid ≡ with_room old mid → (t : Point) → IsUnwinding names limits old r t → IsUnwinding names limits mid r t
unwinding_still names limits r old mid same t h =
    subst (λ m. IsUnwinding names limits m r t) (sym same)
    (record { fit = record { cells = h.fit.cells; procs = h.fit.procs; printed = h.fit.printed; ticks = h.fit.ticks; protects = h.fit.protects }; runs = h.runs; asked = h.asked })

module _ (code : Code) (names : List (List ℕ)) (limits : Limits) (p : ℕ) (r : Person) (old new : Shared) (t u : Point) (h : IsUnwinding names limits old r t) where
  abbrev M : Machine Point Entry
  M = code_machine code.instructions

  abbrev before : List Point → World Point Entry
  before threads = counted (world_of old threads) p

  abbrev its_row : List Point → List Item → Option (World Point Entry)
  its_row threads st = row M names limits p (process_of_person r t) (before threads) (unwinding_want st)

  -- what a process that unwinds wants, and how it goes on
  unwinding_wants : M.want t ≡ unwinding_want t.stack
  unwinding_wants = ap (λ s. want_in code.instructions s t.place t.stack) h.runs

  unwinding_goes : (a : Answer Entry) → M.go t a ≡ unwinding_go code.instructions a t.place t.stack
  unwinding_goes a = ap (λ s. go_in code.instructions s a t.place t.stack) h.runs

  -- With this mark on top: where its row comes to an answer and to a world, it goes on with that.
  module _ (k : Mark) (top : mark_on t.stack ≡ Some k) where
    abbrev rest : List Item
    rest = without_first 1 t.stack

    acts_unwinding : (a : Answer Entry) (w : List Point → World Point Entry) → ((threads : List Point) → its_row threads (mark k ∷ rest) ≡ Some (with_thread (w threads) p (M.go t a)))
        → ((threads : List Point) → world_of new threads ≡ w threads)
        → u ≡ unwinding_go code.instructions a t.place (mark k ∷ rest)
        → Acts code names limits p r old t new u
    acts_unwinding a w f z g =
        acts code names limits p r old new t u
        (λ threads c.
        ap (row M names limits p (process_of_person r t) (before threads)) (unwinding_wants ∙ ap unwinding_want (topmost t.stack k top))
        ∙ (f threads
        ∙ (ap (λ x. Some (with_thread x p (M.go t a))) (sym (z threads))
        ∙ ap (λ v. Some (with_thread (world_of new threads) p v)) (unwinding_goes a ∙ (ap (unwinding_go code.instructions a t.place) (topmost t.stack k top) ∙ sym g)))))

  pub unwinding_begun : (n l : ℕ) → mark_on t.stack ≡ Some (protecting n l)
      → ((threads : List Point) → world_of new threads ≡ with_event (before threads) (begin p n))
      → u ≡ settled code.instructions l (mark (cleaning n (record { aim = free; floor = pred (length old.tree.catches) })) ∷ (slot (plain nil) ∷ without_first 1 t.stack))
      → Acts code names limits p r old t new u
  unwinding_begun n l top z g =
      acts_unwinding (protecting n l) top (numbered (pred (length old.tree.catches))) (λ threads. with_event (before threads) (begin p n)) (λ threads. refl) z g

  module _ (c l : ℕ) (top : mark_on t.stack ≡ Some (catching c l)) where
    abbrev chosen : List Point → Option Word → Option (World Point Entry)
    chosen threads o = Some (leave_row M names limits p (process_of_person r t) (before threads) c o)

    pub unwinding_passed : landing (acting (cleanups_on t.stack) r.aim) c ≡ None
        → ((threads : List Point) → world_of new threads ≡ without_catch (before threads) c)
        → u ≡ unwind_point t.place (without_first 1 t.stack)
        → Acts code names limits p r old t new u
    unwinding_passed n z g = acts_unwinding (catching c l) top unwinds (λ threads. without_catch (before threads) c) (λ threads. ap (chosen threads) n) z g

    -- the catch is closed, and the processes are these
    abbrev closed_with : List Person → List Point → World Point Entry
    closed_with rs threads = record (without_catch (with_event (before threads) (land p c)) c) { procs = joined rs threads }

    landed_world : (b : Bool) (threads : List Point) → closed_with (landed p c b old.tree).persons threads
        ≡ (if b then without_catch (with_event (before threads) (land p c)) c else with_aim (without_catch (with_event (before threads) (land p c)) c) p free)
    landed_world true threads = refl
    landed_world false threads = ap (λ ps. record (without_catch (with_event (before threads) (land p c)) c) { procs = ps }) (joined-aim free old.tree.persons threads p)

    pub unwinding_landed : (x : Word) → landing (acting (cleanups_on t.stack) r.aim) c ≡ Some x
        → ((threads : List Point) → world_of new threads ≡ closed_with (landed p c (in_cleanup (cleanups_on t.stack)) old.tree).persons threads)
        → u ≡ settled code.instructions l (word x ∷ aim_cleanup free (without_first 1 t.stack))
        → Acts code names limits p r old t new u
    unwinding_landed x n z g =
        acts_unwinding (catching c l) top (got x)
        (λ threads. if in_cleanup (cleanups_on t.stack) then without_catch (with_event (before threads) (land p c)) c else with_aim (without_catch (with_event (before threads) (land p c)) c) p free)
        (λ threads. ap (chosen threads) n) (λ threads. z threads ∙ landed_world (in_cleanup (cleanups_on t.stack)) threads) g

  pub unwinding_ended : (j : Option ℕ) → mark_on t.stack ≡ Some (base j)
      → ((threads : List Point) → world_of new threads ≡ record (with_event (before threads) (end_killed p)) { procs = joined (change_numbered (λ r. record r { ended = true }) old.tree.persons p) threads })
      → u ≡ ended t.place
      → Acts code names limits p r old t new u
  unwinding_ended j top z g =
      acts_unwinding (base j) top done (λ threads. with_end (with_event (before threads) (end_killed p)) p) (λ threads. refl)
      (λ threads. z threads ∙ ap (λ ps. record (with_event (before threads) (end_killed p)) { procs = ps }) (joined-end old.tree.persons threads p))
      g
