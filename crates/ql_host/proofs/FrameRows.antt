-- Ticks on frames.
use Rattle.std.proofs.Common.{◌≡◌, ℕ, ◌+◌, Bool, true, false, List, [], ◌∷◌, length, Option, Some, refl, sym, ap, ◌∙◌}
use Rattle.std.specs.Prelude.{leb, if◌then◌else◌, drop as without_first}
use Rattle.ql_base.specs.declared.limits.Limits.{Limits}
use Rattle.ql_base.specs.declared.limits.LimitKind.TheVariants.{Cells}
use Rattle.ql_world.specs.declared.word.Word.{Word}
use Rattle.ql_world.specs.declared.word.Slot.{Slot}
use Rattle.ql_world.specs.declared.event.Stop.TheVariants.{Limit as limit}
use Rattle.ql_world.specs.Event.{with_tick}
use Rattle.ql_world.specs.World.{World, counted, marked, with_thread}
use Rattle.ql_world.specs.Machine.{Machine, Answer, done, bound}
use Rattle.ql_world.specs.Tick.{words_boxed, slots_of, with_boxes, bind_row, row}
use Rattle.ql_tree.specs.declared.person.Person.{Person}
use Rattle.ql_tree.specs.Persons.{process_of_person}
use Rattle.ql_code.specs.declared.code.Op.{Op}
use Rattle.ql_code.specs.declared.code.Op.TheVariants.{Bind as bind, Call as call, Return as return}
use Rattle.ql_code.specs.declared.mark.Mark.TheVariants.{Returning as returning}
use Rattle.ql_code.specs.Code.{Code, unmasked}
use Rattle.ql_code.specs.Machine.{Point, Entry, mark, word, words, top_mark, below_mark, return_want, return_to, push_slots, settled, op_want, op_go, code_machine}
use Rattle.ql_host.specs.History.{History}
use Rattle.ql_host.specs.declared.shared.Shared.{Shared}
use Rattle.ql_host.specs.World.{world_of, Acts, IsAt}
use Rattle.ql_host.specs.Boxes.{HasBoxes, MeetsLimit}
use Rattle.ql_host.proofs.RowTicks.{acts_at, quiet_at, stops_at}

-- a tick of process p was told
abbrev pub IsTicked : ℕ → History → History → Type 0
IsTicked p old new = new ≡ record old { events = with_tick p old.events; ticks = old.ticks + 1; spare = new.spare }

module _ (code : Code) (names : List (List ℕ)) (limits : Limits) (p : ℕ) (r : Person) (old : Shared) (t : Point) where
  abbrev M : Machine Point Entry
  M = code_machine code.instructions

  abbrev before : List Point → World Point Entry
  before threads = counted (world_of old threads) p

  -- Of an instruction that makes variables of these words.
  module _ (op : Op) (at : ℕ) (h : IsAt code names limits p old r t op at) (bs : List Bool) (xs : List Word) (answer : List Slot → Answer Entry)
      (e : (threads : List Point) → row M names limits p (process_of_person r t) (before threads) (op_want op at t.stack) ≡ Some (bind_row M names limits p (process_of_person r t) (before threads) bs xs answer)) where
    -- the row, once it is known whether there may be so many boxes
    abbrev chosen : List Point → Bool → Option (World Point Entry)
    chosen threads b =
        Some
        (if b
        then with_thread (with_boxes (before threads) (words_boxed bs xs)) p (M.go t (answer (slots_of bs xs (length old.cells.boxes))))
        else marked (before threads) (limit Cells))

    row_by : (threads : List Point) (b : Bool) → leb (old.cells.made + length (words_boxed bs xs)) old.cells.limit ≡ b
        → row M names limits p (process_of_person r t) (before threads) (op_want op at t.stack) ≡ chosen threads b
    row_by threads b k = e threads ∙ ap (chosen threads) (ap (leb (old.cells.made + length (words_boxed bs xs))) (sym h.fit.cells) ∙ k)

    pub variables_made : (m : Shared) (hist : History) (u : Point) (first : ℕ) → HasBoxes (words_boxed bs xs) old m first → IsTicked p m.history hist
        → op_go code.instructions op (answer (slots_of bs xs first)) t.place t.stack ≡ u
        → Acts code names limits p r old t (record m { history = hist }) u
    variables_made m hist u first b z g =
        acts_at code names limits p r old (record m { history = hist }) t u op at h (answer (slots_of bs xs (length old.cells.boxes)))
        (λ threads k.
        row_by threads true b.allowed
        ∙ ap (λ (w : World Point Entry). Some (with_thread w p (M.go t (answer (slots_of bs xs (length old.cells.boxes)))))) (sym (world threads)))
        (ap (λ n. op_go code.instructions op (answer (slots_of bs xs n)) t.place t.stack) (sym b.first) ∙ g)
      where
        world : (threads : List Point) → world_of (record m { history = hist }) threads ≡ with_boxes (before threads) (words_boxed bs xs)
        world threads = rw (z, b.same) refl

    pub variables_full : (new : Shared) → MeetsLimit (words_boxed bs xs) old new p → Acts code names limits p r old t new t
    variables_full new m = stops_at code names limits p r old new t op at h (limit Cells) (λ threads. row_by threads false m.full) m.met

  module _ (n mask at : ℕ) where
    pub bind_made : IsAt code names limits p old r t (bind n mask) at → (m : Shared) (hist : History) (u : Point) (first : ℕ)
        → HasBoxes (words_boxed (unmasked n mask) (words n t.stack)) old m first → IsTicked p m.history hist
        → u ≡ settled code.instructions (t.place + 1) (push_slots (slots_of (unmasked n mask) (words n t.stack) first) (without_first n t.stack))
        → Acts code names limits p r old t (record m { history = hist }) u
    bind_made h m hist u first b z g = variables_made (bind n mask) at h (unmasked n mask) (words n t.stack) bound (λ threads. refl) m hist u first b z (sym g)

    pub bind_full : IsAt code names limits p old r t (bind n mask) at → (new : Shared) → MeetsLimit (words_boxed (unmasked n mask) (words n t.stack)) old new p
        → Acts code names limits p r old t new t
    bind_full h = variables_full (bind n mask) at h (unmasked n mask) (words n t.stack) bound (λ threads. refl)

    module _ (l : ℕ) where
      pub call_made : IsAt code names limits p old r t (call l n mask) at → (m : Shared) (hist : History) (u : Point) (first : ℕ)
          → HasBoxes (words_boxed (unmasked n mask) (words n t.stack)) old m first → IsTicked p m.history hist
          → u ≡ settled code.instructions l (push_slots (slots_of (unmasked n mask) (words n t.stack) first) (mark (returning (t.place + 1)) ∷ without_first n t.stack))
          → Acts code names limits p r old t (record m { history = hist }) u
      call_made h m hist u first b z g = variables_made (call l n mask) at h (unmasked n mask) (words n t.stack) bound (λ threads. refl) m hist u first b z (sym g)

      pub call_full : IsAt code names limits p old r t (call l n mask) at → (new : Shared) → MeetsLimit (words_boxed (unmasked n mask) (words n t.stack)) old new p
          → Acts code names limits p r old t new t
      call_full h = variables_full (call l n mask) at h (unmasked n mask) (words n t.stack) bound (λ threads. refl)

  pub given_back : (back at : ℕ) (w : Word) → IsAt code names limits p old r t return at → top_mark t.stack ≡ Some (returning back) → words 1 t.stack ≡ w ∷ [] → (new : Shared) (u : Point)
      → ((threads : List Point) → world_of new threads ≡ before threads)
      → u ≡ settled code.instructions back (word w ∷ below_mark t.stack)
      → Acts code names limits p r old t new u
  given_back back at w h k e new u f g =
      quiet_at code names limits p r old new t u return at h done
      (λ threads c. ap (λ x. row M names limits p (process_of_person r t) (before threads) (return_want x (words 1 t.stack) at)) k)
      f
      (ap (λ x. return_to code.instructions x done (words 1 t.stack) t.place t.stack) k ∙ (ap (λ ws. return_to code.instructions (Some (returning back)) done ws t.place t.stack) e ∙ sym g))
