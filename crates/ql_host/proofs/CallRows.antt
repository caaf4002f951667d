-- Calls of the word under so many arguments.
use Rattle.std.proofs.Common.{◌≡◌, ℕ, zero, suc, ◌+◌, ◌==◌, Bool, true, false, not, ◌&&◌, List, [], ◌∷◌, ◌++◌, length, Option, Some, None, refl, sym, ap, ◌∙◌, subst, arith}
use Rattle.std.specs.Prelude.{option_to_list, if◌then◌else◌, drop as without_first}
use Rattle.std.proofs.lemmas.Bool.Decides.{nat_tests}
use Rattle.std.proofs.lemmas.List.{length-append}
use Rattle.ql_base.specs.declared.fault.RunFault.{RunFault}
use Rattle.ql_base.specs.declared.fault.RunFault.TheVariants.{WrongCount, NotFunction, InCleanup}
use Rattle.ql_base.specs.declared.limits.Limits.{Limits}
use Rattle.ql_world.specs.Word.{first_future}
use Rattle.ql_world.specs.declared.word.Word.{Word}
use Rattle.ql_world.specs.declared.word.Word.TheVariants.{Int as integer, Sym as symbol, Pair as pair, Fun as closure, Proc as process_closure, Fut as future}
use Rattle.ql_world.specs.declared.word.Slot.TheVariants.{Val as plain, Cell as boxed}
use Rattle.ql_world.specs.declared.event.Stop.TheVariants.{Fault as fault}
use Rattle.ql_world.specs.World.{World, numbered, counted, marked}
use Rattle.ql_world.specs.declared.world.Process.{Process}
use Rattle.ql_world.specs.Machine.{Machine, Want, funcalls, Answer, entered}
use Rattle.ql_world.specs.Touch.{await_or, is_process_closure, touched_in_call, function_want}
use Rattle.ql_world.specs.Idle.{in_cleanup}
use Rattle.ql_world.specs.Tick.{words_boxed, slots_of, errs, bind_row, enter_row, funcall_row, row}
use Rattle.ql_tree.specs.declared.person.Person.{Person}
use Rattle.ql_tree.specs.Persons.{process_of_person}
use Rattle.ql_code.specs.declared.mark.Mark.TheVariants.{Returning as returning}
use Rattle.ql_code.specs.Code.{Code, Instruction, unmasked}
use Rattle.ql_code.specs.Operands.{operands_of}
use Rattle.ql_code.specs.Machine.{Point, Entry, Item, slot, mark, words, cleanups_on, push_slots, settled, call_want, call_go, touch_go, funcall_go, op_want, op_go, code_machine}
use Rattle.ql_host.specs.Awaited.{awaited}
use Rattle.ql_host.specs.Called.{call_op, sent_to, process_closure_first}
use Rattle.ql_host.specs.declared.shared.Shared.{Shared}
use Rattle.ql_host.specs.History.{History}
use Rattle.ql_host.specs.World.{world_of, Acts, IsAt}
use Rattle.ql_host.specs.Boxes.{HasBoxes, MeetsLimit}
use Rattle.ql_host.proofs.RowTicks.{stops_at}
use Rattle.ql_host.proofs.FrameRows.{IsTicked, variables_made, variables_full}

-- fewer words are there too
pub fewer_words : (n : ℕ) (st : List Item) → length (words (suc n) st) ≡ suc n → length (words n st) ≡ n
fewer_words zero st h = refl
fewer_words (suc n) [] h = absurd (omega (arith, h))
fewer_words (suc n) (mark k ∷ st) h = absurd (omega (arith, h))
fewer_words (suc n) (slot (boxed b) ∷ st) h = absurd (omega (arith, h))
fewer_words (suc n) (slot (plain w) ∷ st) h =
    let l : length (words (suc n) st ++ w ∷ []) ≡ length (words (suc n) st) + 1 = length-append (words (suc n) st) (w ∷ []) in
    let k : length (words (suc n) st) ≡ suc n = omega (arith, l, h) in
    let m : length (words n st ++ w ∷ []) ≡ length (words n st) + 1 = length-append (words n st) (w ∷ []) in
    let i : length (words n st) ≡ n = fewer_words n st k in
    omega (arith, m, i)

-- the word under the others
module _ (n : ℕ) (st : List Item) (o : Option Word) (e : option_to_list o ++ words n st ≡ words (suc n) st) where
  pub word_found : (f : Word) → o ≡ Some f → words (suc n) st ≡ f ∷ words n st
  word_found f z = sym e ∙ ap (λ (x : Option Word). option_to_list x ++ words n st) z

  pub word_missing : length (words (suc n) st) ≡ suc n → o ≡ None → ⊥
  word_missing h z =
      let l : words n st ≡ words (suc n) st = sym (ap (λ (x : Option Word). option_to_list x ++ words n st) z) ∙ e in
      let k : length (words n st) ≡ length (words (suc n) st) = ap length l in
      let m : length (words n st) ≡ n = fewer_words n st h in
      omega (arith, k, m, h)

-- the function of a call, and its arguments
pub function_there : (used : Bool) (n : ℕ) (st : List Item) → length (words (operands_of (call_op used n)) st) ≡ operands_of (call_op used n) → length (words (suc n) st) ≡ suc n
function_there true n st e = e
function_there false n st e = e

pub unmasked_length : (n mask : ℕ) → length (unmasked n mask) ≡ n
unmasked_length zero mask = refl
unmasked_length (suc n) mask = ap suc (unmasked_length n _)

-- What is asked for and done with a function that is neither a future nor sent.

function_local : (cleans used : Bool) (f : Word) (ws : List Word) (at : ℕ) → (not cleans && is_process_closure f) ≡ false → function_want cleans used f ws at ≡ funcalls f ws at
function_local cleans used (integer z) ws at l = refl
function_local cleans used (symbol n) ws at l = refl
function_local cleans used (pair n) ws at l = refl
function_local cleans used (closure n) ws at l = refl
function_local true used (process_closure n) ws at l = refl
function_local false used (process_closure n) ws at l = absurd cc
function_local cleans used (future n) ws at l = refl

module _ (cleans : Bool) (f : Word) (l : (not cleans && is_process_closure f) ≡ false) where
  touched_local : (ws : List Word) → first_future (touched_in_call cleans (f ∷ ws)) ≡ first_future (f ∷ [])
  touched_local ws = ap (λ (b : Bool). first_future (if b then f ∷ ws else f ∷ [])) l

  call_wanted : (used : Bool) (ws : List Word) (at : ℕ) → first_future (f ∷ []) ≡ None → call_want cleans used (f ∷ ws) at ≡ funcalls f ws at
  call_wanted used ws at e =
      ap (λ (o : Option ℕ). await_or o at (function_want cleans used f ws at)) (touched_local ws ∙ e) ∙ function_local cleans used f ws at l

  call_gone : (code : List Instruction) (back : ℕ) (ws : List Word) (n : ℕ) (a : Answer Entry) (pc : ℕ) (st : List Item) → first_future (f ∷ []) ≡ None
      → call_go code cleans back (f ∷ ws) n a pc st ≡ funcall_go code back a pc (without_first n st)
  call_gone code back ws n a pc st e =
      ap (λ (o : Option ℕ). touch_go code o (f ∷ ws) a pc (without_first n st) (funcall_go code back a pc (without_first n st))) (touched_local ws ∙ e)

-- where a call goes back to
abbrev pub back_to : Bool → ℕ → ℕ
back_to used pc = if used then pc + 2 else pc + 1

pub wanted_by : (used : Bool) (n at : ℕ) (st : List Item) → op_want (call_op used n) at st ≡ call_want (in_cleanup (cleanups_on st)) used (words (suc n) st) at
wanted_by true n at st = refl
wanted_by false n at st = refl

pub gone_by : (code : List Instruction) (used : Bool) (n : ℕ) (a : Answer Entry) (pc : ℕ) (st : List Item)
    → op_go code (call_op used n) a pc st ≡ call_go code (in_cleanup (cleanups_on st)) (back_to used pc) (words (suc n) st) (suc n) a pc st
gone_by code true n a pc st = refl
gone_by code false n a pc st = refl

pub awaited_by : (used : Bool) (n : ℕ) (st : List Item) → awaited (call_op used n) st ≡ first_future (touched_in_call (in_cleanup (cleanups_on st)) (words (suc n) st))
awaited_by true n st = refl
awaited_by false n st = refl

unsent : (b : Bool) (f : Word) (ws : List Word) → (if b then None else process_closure_first (f ∷ ws)) ≡ None → (not b && is_process_closure f) ≡ false
unsent true f ws h = refl
unsent false (integer z) ws h = refl
unsent false (symbol n) ws h = refl
unsent false (pair n) ws h = refl
unsent false (closure n) ws h = refl
unsent false (process_closure n) ws h = absurd cc
unsent false (future n) ws h = refl

-- the function isn't sent, nor is it a future
module _ (n : ℕ) (st : List Item) (f : Word) (there : words (suc n) st ≡ f ∷ words n st) where
  not_sent : sent_to n st ≡ None → (not (in_cleanup (cleanups_on st)) && is_process_closure f) ≡ false
  not_sent h = unsent (in_cleanup (cleanups_on st)) f (words n st) (sym (ap (λ ws. if in_cleanup (cleanups_on st) then None else process_closure_first ws) there) ∙ h)

  not_awaited : (used : Bool) → sent_to n st ≡ None → awaited (call_op used n) st ≡ None → first_future (f ∷ []) ≡ None
  not_awaited used h e =
      sym (touched_local (in_cleanup (cleanups_on st)) f (not_sent h) (words n st))
      ∙ (ap (λ ws. first_future (touched_in_call (in_cleanup (cleanups_on st)) ws)) (sym there) ∙ (sym (awaited_by used n st) ∙ e))

never_sent : (b : Bool) → (b && false) ≡ false
never_sent true = refl
never_sent false = refl

-- a function that is neither a closure nor that of a process
no_function : {P K : Type 0} (m : Machine P K) (names : List (List ℕ)) (limits : Limits) (p : ℕ) (q : Process P) (w : World P K) (f : Word) (ws : List Word) (at : ℕ)
    → ((n : ℕ) → f ≡ closure n → ⊥) → ((n : ℕ) → f ≡ process_closure n → ⊥) → funcall_row m names limits p q w f ws at ≡ Some (errs m names limits p q w NotFunction at)
no_function m names limits p q w (integer z) ws at a b = refl
no_function m names limits p q w (symbol n) ws at a b = refl
no_function m names limits p q w (pair n) ws at a b = refl
no_function m names limits p q w (closure n) ws at a b = absurd (a n refl)
no_function m names limits p q w (process_closure n) ws at a b = absurd (b n refl)
no_function m names limits p q w (future n) ws at a b = refl

module _ (code : Code) (names : List (List ℕ)) (limits : Limits) (p : ℕ) (r : Person) (old : Shared) (t : Point) (used : Bool) (count at : ℕ) (h : IsAt code names limits p old r t (call_op used count) at) (f : Word)
    (there : words (suc count) t.stack ≡ f ∷ words count t.stack) where
  abbrev cleans : Bool
  cleans = in_cleanup (cleanups_on t.stack)

  wanted : (not cleans && is_process_closure f) ≡ false → first_future (f ∷ []) ≡ None → op_want (call_op used count) at t.stack ≡ funcalls f (words count t.stack) at
  wanted l e = wanted_by used count at t.stack ∙ (ap (λ ws. call_want cleans used ws at) there ∙ call_wanted cleans f l used (words count t.stack) at e)

  gone : (not cleans && is_process_closure f) ≡ false → first_future (f ∷ []) ≡ None → (a : Answer Entry)
      → op_go code.instructions (call_op used count) a t.place t.stack ≡ funcall_go code.instructions (back_to used t.place) a t.place (without_first (suc count) t.stack)
  gone l e a =
      gone_by code.instructions used count a t.place t.stack
      ∙ (ap (λ ws. call_go code.instructions cleans (back_to used t.place) ws (suc count) a t.place t.stack) there
      ∙ call_gone cleans f l code.instructions (back_to used t.place) (words count t.stack) (suc count) a t.place t.stack e)

  abbrev its_row : World Point Entry → Want → Option (World Point Entry)
  its_row = row (code_machine code.instructions) names limits p (process_of_person r t)

  pub refused : (not cleans && is_process_closure f) ≡ false → first_future (f ∷ []) ≡ None → (new : Shared) (kind : RunFault)
      → ((threads : List Point) → its_row (counted (world_of old threads) p) (funcalls f (words count t.stack) at) ≡ Some (marked (counted (world_of old threads) p) (fault kind p at)))
      → ((threads : List Point) → world_of new threads ≡ marked (counted (world_of old threads) p) (fault kind p at))
      → Acts code names limits p r old t new t
  refused l e new kind g m =
      stops_at code names limits p r old new t (call_op used count) at h (fault kind p at) (λ threads. ap (its_row (counted (world_of old threads) p)) (wanted l e) ∙ g threads) m

  pub refused_no_function : sent_to count t.stack ≡ None → awaited (call_op used count) t.stack ≡ None → ((n : ℕ) → f ≡ closure n → ⊥) → ((n : ℕ) → f ≡ process_closure n → ⊥) → (new : Shared)
      → ((threads : List Point) → world_of new threads ≡ marked (counted (world_of old threads) p) (fault NotFunction p at))
      → Acts code names limits p r old t new t
  refused_no_function l e a b new =
      refused (not_sent count t.stack f there l) (not_awaited count t.stack f there used l e) new NotFunction
      (λ threads. no_function (code_machine code.instructions) names limits p (process_of_person r t) (counted (world_of old threads) p) f (words count t.stack) at a b)

  pub refused_in_cleanup : (n : ℕ) → f ≡ process_closure n → sent_to count t.stack ≡ None → (new : Shared)
      → ((threads : List Point) → world_of new threads ≡ marked (counted (world_of old threads) p) (fault InCleanup p at))
      → Acts code names limits p r old t new t
  refused_in_cleanup n z l new =
      refused (not_sent count t.stack f there l) (ap (λ w. first_future (w ∷ [])) z) new InCleanup
      (λ threads. ap (λ w. funcall_row (code_machine code.instructions) names limits p (process_of_person r t) (counted (world_of old threads) p) w (words count t.stack) at) z)

  -- it is this closure
  module _ (n : ℕ) (z : f ≡ closure n) (k : Entry) (known : numbered old.cells.closures n ≡ Some k) where
    local : (not cleans && is_process_closure f) ≡ false
    local = ap (λ w. not cleans && is_process_closure w) z ∙ never_sent (not cleans)

    calm : first_future (f ∷ []) ≡ None
    calm = ap (λ w. first_future (w ∷ [])) z

    counts : length (words count t.stack) ≡ count
    counts = fewer_words count t.stack (function_there used count t.stack h.operands)

    -- as many arguments as parameters, or not
    abbrev answered : World Point Entry → Bool → Option (World Point Entry)
    answered w b =
        if b
        then Some (bind_row (code_machine code.instructions) names limits p (process_of_person r t) w (unmasked k.count k.mask) (words count t.stack) (entered k))
        else Some (marked w (fault WrongCount p at))

    entering : (w : World Point Entry) (b : Bool) → (count == k.count) ≡ b → w.closures ≡ old.cells.closures → its_row w (op_want (call_op used count) at t.stack) ≡ answered w b
    entering w b e c =
        ap (its_row w) (wanted local calm)
        ∙ (ap (λ f. funcall_row (code_machine code.instructions) names limits p (process_of_person r t) w f (words count t.stack) at) z
        ∙ (ap (λ o. enter_row (code_machine code.instructions) names limits p (process_of_person r t) w o (words count t.stack) at) (ap (λ ks. numbered ks n) c ∙ known)
        ∙ ap (answered w) (ap (λ (m : ℕ). m == length (unmasked k.count k.mask)) counts ∙ (ap (λ (m : ℕ). count == m) (unmasked_length k.count k.mask) ∙ e))))

    pub refused_count : (k.count ≡ count → ⊥) → (new : Shared)
        → ((threads : List Point) → world_of new threads ≡ marked (counted (world_of old threads) p) (fault WrongCount p at))
        → Acts code names limits p r old t new t
    refused_count a new m =
        let e : (count == k.count) ≡ false = grind (arith, nat_tests, a) in
        stops_at code names limits p r old new t (call_op used count) at h (fault WrongCount p at) (λ threads. entering (counted (world_of old threads) p) false e refl) m

    module _ (same : k.count ≡ count) where
      row_entered : (threads : List Point)
          → its_row (counted (world_of old threads) p) (op_want (call_op used count) at t.stack)
          ≡ Some (bind_row (code_machine code.instructions) names limits p (process_of_person r t) (counted (world_of old threads) p) (unmasked k.count k.mask) (words count t.stack) (entered k))
      row_entered threads =
          let e : (count == k.count) ≡ true = grind (arith, nat_tests, same) in
          entering (counted (world_of old threads) p) true e refl

      pub entered_closure : (m : Shared) (hist : History) (u : Point) (first : ℕ) (j : Entry) → HasBoxes (words_boxed (unmasked count k.mask) (words count t.stack)) old m first → IsTicked p m.history hist
          → numbered m.cells.closures n ≡ Some j
          → u ≡ settled code.instructions j.place (push_slots (slots_of (unmasked j.count j.mask) (words count t.stack) first ++ j.captured) (mark (returning (back_to used t.place)) ∷ without_first (suc count) t.stack))
          → Acts code names limits p r old t (record m { history = hist }) u
      entered_closure m hist u first j b i e g =
          let z : Some j ≡ Some k = sym e ∙ (ap (λ (h : Shared). numbered h.cells.closures n) b.same ∙ known) in
          let y : j ≡ k = cc in
          variables_made code names limits p r old t (call_op used count) at h (unmasked k.count k.mask) (words count t.stack) (entered k) row_entered m hist u first
          (subst (λ (c : ℕ). HasBoxes (words_boxed (unmasked c k.mask) (words count t.stack)) old m first) (sym same) b) i
          (gone local calm (entered k (slots_of (unmasked k.count k.mask) (words count t.stack) first))
          ∙ sym (subst (λ (x : Entry). u ≡ settled code.instructions x.place (push_slots (slots_of (unmasked x.count x.mask) (words count t.stack) first ++ x.captured) (mark (returning (back_to used t.place)) ∷ without_first (suc count) t.stack))) y g))

      pub entered_full : (new : Shared) → MeetsLimit (words_boxed (unmasked count k.mask) (words count t.stack)) old new p → Acts code names limits p r old t new t
      entered_full new l =
          variables_full code names limits p r old t (call_op used count) at h (unmasked k.count k.mask) (words count t.stack) (entered k) row_entered new
          (subst (λ (c : ℕ). MeetsLimit (words_boxed (unmasked c k.mask) (words count t.stack)) old new p) (sym same) l)

first_of : (o : Option Word) (ws : List Word) → (o ≡ None → ⊥) → process_closure_first (option_to_list o) ≡ process_closure_first (option_to_list o ++ ws)
first_of None ws h = absurd (h refl)
first_of (Some (integer z)) ws h = refl
first_of (Some (symbol n)) ws h = refl
first_of (Some (pair n)) ws h = refl
first_of (Some (closure n)) ws h = refl
first_of (Some (process_closure n)) ws h = refl
first_of (Some (future n)) ws h = refl

-- the process closure that no cleanup keeps a call from
pub sent_found : (n : ℕ) (st : List Item) (o : Option Word) → option_to_list o ++ words n st ≡ words (suc n) st → length (words (suc n) st) ≡ suc n
    → in_cleanup (cleanups_on st) ≡ false → process_closure_first (option_to_list o) ≡ sent_to n st
sent_found n st o e h c =
    first_of o (words n st) (word_missing n st o e h)
    ∙ (ap process_closure_first e ∙ sym (ap (λ (b : Bool). if b then None else process_closure_first (words (suc n) st)) c))
