-- A local step of a window is the machine's own step of every point that begins with it.
use Rattle.std.proofs.Common.{◌≡◌, ℕ, zero, suc, ◌+◌, Bool, true, false, if◌then◌else◌, List, [], ◌∷◌, ◌++◌, length, Option, Some, None, option_map, refl, sym, ap, ap₂, ◌∙◌, arith, length-append, eqb-true, option_and_then, slice_get}
use Rattle.std.specs.Prelude.{drop as without_first}
use Rattle.ql_world.specs.Word.{is_nil, first_future}
use Rattle.ql_world.specs.declared.word.Word.{Word}
use Rattle.ql_world.specs.declared.word.Word.TheVariants.{Int as integer, Sym as symbol, Pair as pair, Fun as closure, Proc as process_closure, Fut as future}
use Rattle.ql_world.specs.declared.word.Slot.{Slot}
use Rattle.ql_world.specs.declared.word.Slot.TheVariants.{Val as plain, Cell as boxed}
use Rattle.ql_world.specs.Operator.{operator_of, touches}
use Rattle.ql_world.specs.declared.operator.Operator.{Operator}
use Rattle.ql_world.specs.Machine.{Want, branches, returns, Answer, done, got, bound, Machine}
use Rattle.ql_world.specs.Tick.{slots_of}
use Rattle.ql_world.specs.Touch.{await_or, touched_by, compute_want}
use Rattle.ql_code.specs.Code.{Op, lit, local, box_get, global_get, box_set, global_set, branch, jump, drop, slide, bind, call, return, close, funcall, funcall_drop, touch, qlet, join, qlambda, catch, qcatch, exit, throw, protect, leave, end_clean, prim, cons, print, end, Instruction, unmasked}
use Rattle.ql_code.specs.Machine.{Mark, returning, catching, protecting, cleaning, base, Item, slot, mark, Entry, word, words, push, push_slots, slot_at, top_mark, below_mark, operand_count, one_want, return_want, prim_want, op_want, running_want, want_in, running_go, go_in, settled, held_word, one_go, touch_go, branch_go, return_to, prim_go, op_go, Point, State, unwinding, resting, over, point, code_machine, running}
use Rattle.ql_code.specs.LocalPath.{Seen, word_in, result_in, given, branched, returned, computed_by, local_op, Window, local_tick, local_step, local_steps}
use Rattle.ql_code.proofs.Within.{of_and_then, of_map, of_if, operands_over, untouched_over, frame_over, top_over, push_over, settle_over}
use Rattle.ql_code.specs.LocalLaws.{over_rest, own_step, own_steps, none_stored, bound_alone, alone}

-- variables without boxes

none_masked : (n : ℕ) → none_stored (unmasked n 0) ≡ true
none_masked zero = refl
none_masked (suc n) = none_masked n

push_plain : (n : ℕ) (ws : List Word) (st : List Item) → length ws ≡ n → push_slots (slots_of (unmasked n 0) ws 0) st ≡ push ws st
push_plain zero [] st e = refl
push_plain zero (w ∷ ws) st e = absurd (omega arith)
push_plain (suc n) [] st e = absurd (omega arith)
push_plain (suc n) (w ∷ ws) st e = push_plain n ws (word w ∷ st) (omega arith)

push_last : (ws : List Word) (w : Word) (st : List Item) → push (ws ++ w ∷ []) st ≡ word w ∷ push ws st
push_last [] w st = refl
push_last (v ∷ ws) w st = push_last ws w (word v ∷ st)

push_back : (n : ℕ) (st : List Item) → length (words n st) ≡ n → push (words n st) (without_first n st) ≡ st
push_back zero st e = refl
push_back (suc n) [] e = absurd (omega arith)
push_back (suc n) (slot (plain w) ∷ st) e =
    let less : length (words n st) ≡ n = omega (arith, length-append {A = Word}) in
    push_last (words n st) w (without_first n st) ∙ ap (λ xs. word w ∷ xs) (push_back n st less)
push_back (suc n) (slot (boxed b) ∷ st) e = absurd (omega arith)
push_back (suc n) (mark k ∷ st) e = absurd (omega arith)

-- a tick

module _ (code : List Instruction) (seen : Seen) (at pc : ℕ) (rest : List Item) where
  abbrev asked : Want → Option (Answer Entry)
  asked = alone seen

  -- an instruction asks nothing of the world, and goes on at this place with these items
  record Ticks (op : Op) (st : List Item) (x : ℕ × List Item) : Type 0 where
    answer : Answer Entry
    asks : asked (op_want op at (st ++ rest)) ≡ Some answer
    goes : op_go code op answer pc (st ++ rest) ≡ settled code x.0 (x.1 ++ rest)

  reaches : (y x : ℕ × List Item) → Some y ≡ Some x → settled code y.0 (y.1 ++ rest) ≡ settled code x.0 (x.1 ++ rest)
  reaches y x e = let same : y ≡ x = cc in ap (λ z. settled code z.0 (z.1 ++ rest)) same

  held_is : (o : Option Slot) (w : Word) → word_in o ≡ Some w → held_word code o ≡ w
  held_is None w e = absurd cc
  held_is (Some (plain v)) w e = cc
  held_is (Some (boxed b)) w e = absurd cc

  branch_asks : (ws : List Word) (l : ℕ) (st : List Item) (x : ℕ × List Item) → first_future ws ≡ None → branched l pc st ws ≡ Some x → (one_want ws at (λ w. branches) ≡ branches) × (one_go code ws done pc (st ++ rest) (branch_go code ws l pc (st ++ rest)) ≡ settled code x.0 (x.1 ++ rest))
  branch_asks [] l st x n e = absurd cc
  branch_asks (w ∷ (v ∷ ws)) l st x n e = absurd cc
  branch_asks (future f ∷ []) l st x n e = absurd cc
  branch_asks (symbol s ∷ []) l st x n e = (refl, to_branch (is_nil (symbol s)) ∙ reaches _ x e)
    where
      to_branch : (b : Bool) → (if b then settled code l (st ++ rest) else settled code (pc + 1) (st ++ rest)) ≡ settled code (if b then l else pc + 1) (st ++ rest)
      to_branch true = refl
      to_branch false = refl
  branch_asks (integer z ∷ []) l st x n e = (refl, reaches _ x e)
  branch_asks (pair k ∷ []) l st x n e = (refl, reaches _ x e)
  branch_asks (closure k ∷ []) l st x n e = (refl, reaches _ x e)
  branch_asks (process_closure k ∷ []) l st x n e = (refl, reaches _ x e)

  touched_none : (b : Bool) (ws : List Word) → first_future ws ≡ None → first_future (if b then ws else []) ≡ None
  touched_none true ws e = e
  touched_none false ws e = refl

  prim_ticks : (o : Option Operator) (st : List Item) (x : ℕ × List Item) → computed_by seen o pc st ≡ Some x →
      (w : Word) × (asked (prim_want o (words (operand_count o) (st ++ rest)) at) ≡ Some (got w)) × (prim_go code o (operand_count o) (words (operand_count o) (st ++ rest)) (got w) pc (st ++ rest) ≡ settled code x.0 (x.1 ++ rest))
  prim_ticks None st x e = absurd cc
  prim_ticks (Some o) st x e =
      let n = operand_count (Some o) in
      let r = of_and_then _ _ x e in
      let ws = r.0 in
      let u = untouched_over n st ws rest r.1 in
      let g = of_map _ (given (result_in seen o ws)) x r.2 in
      let w = g.0 in
      let free : first_future (touched_by (Some o) ws) ≡ None = touched_none (touches o) ws u.1 in
      let free_asks : asked (prim_want (Some o) ws at) ≡ Some (got w) = ap (λ f. asked (await_or f at (compute_want (Some o) ws at))) free ∙ ap (option_map got) g.1 in
      let gone : prim_go code (Some o) n ws (got w) pc (st ++ rest) ≡ settled code (pc + 1) (word w ∷ without_first n (st ++ rest)) = ap (λ f. touch_go code f ws (got w) pc (without_first n (st ++ rest)) (settled code (pc + 1) (word w ∷ without_first n (st ++ rest)))) free in
      (w, ap (λ vs. asked (prim_want (Some o) vs at)) u.0.over ∙ free_asks, ap (λ vs. prim_go code (Some o) n vs (got w) pc (st ++ rest)) u.0.over ∙ gone ∙ ap (λ s. settled code (pc + 1) (word w ∷ s)) u.0.others ∙ reaches _ x (ap Some g.2))

  return_ticks : (k : Option Mark) (st : List Item) (ws : List Word) (x : ℕ × List Item) → top_mark st ≡ k → words 1 (st ++ rest) ≡ ws → returned k (below_mark st) ws ≡ Some x →
      (return_want (top_mark (st ++ rest)) (words 1 (st ++ rest)) at ≡ returns) × (return_to code (top_mark (st ++ rest)) done (words 1 (st ++ rest)) pc (st ++ rest) ≡ settled code x.0 (x.1 ++ rest))
  return_ticks None st ws x t v e = absurd cc
  return_ticks (Some (catching c l)) st ws x t v e = absurd cc
  return_ticks (Some (protecting u l)) st ws x t v e = absurd cc
  return_ticks (Some (cleaning u c)) st ws x t v e = absurd cc
  return_ticks (Some (base j)) st ws x t v e = absurd cc
  return_ticks (Some (returning l)) st [] x t v e = absurd cc
  return_ticks (Some (returning l)) st (w ∷ (w' ∷ ws)) x t v e = absurd cc
  return_ticks (Some (returning l)) st (w ∷ []) x t v e =
      let o = top_over st (returning l) rest t in
      (ap₂ (λ k ws. return_want k ws at) o.0 v, ap₂ (λ k ws. return_to code k done ws pc (st ++ rest)) o.0 v ∙ ap (λ s. settled code l (word w ∷ s)) o.1 ∙ reaches _ x e)

  ticks : (op : Op) (st : List Item) (x : ℕ × List Item) → local_op seen op pc st ≡ Some x → Ticks op st x
  ticks (lit w) st x e = record { answer = done; asks = refl; goes = reaches _ x e }
  ticks (local i) st x e =
      let r = of_map _ _ x e in
      let f = of_and_then _ _ r.0 r.1 in
      record {
        answer = done;
        asks = refl;
        goes = ap (λ ss. settled code (pc + 1) (word (held_word code (slot_at ss i)) ∷ (st ++ rest))) (frame_over st f.0 rest f.1) ∙ ap (λ w. settled code (pc + 1) (word w ∷ (st ++ rest))) (held_is _ r.0 f.2) ∙ reaches _ x (ap Some r.2);
      }
  ticks (branch l) st x e =
      let r = of_and_then _ _ x e in
      let u = untouched_over 1 st r.0 rest r.1 in
      let b = branch_asks r.0 l (without_first 1 st) x u.1 r.2 in
      record {
        answer = done;
        asks = ap (λ ws. asked (one_want ws at (λ w. branches))) u.0.over ∙ ap (asked) b.0;
        goes = ap₂ (λ ws s. one_go code ws done pc s (branch_go code ws l pc s)) u.0.over u.0.others ∙ b.1;
      }
  ticks (prim s) st x e = let r = prim_ticks (operator_of s) st x e in record { answer = got r.0; asks = r.1; goes = r.2 }
  ticks (bind n mask) st x e =
      let i = of_if _ _ x e in
      let zero_is : mask ≡ 0 = eqb-true _ _ i.0 in
      let r = of_map _ _ x i.1 in
      let o = operands_over n st r.0 rest r.1 in
      let again : push r.0 (without_first n st ++ rest) ≡ st ++ rest = sym (push_over r.0 (without_first n st) rest) ∙ ap (λ xs. xs ++ rest) (ap (λ ws. push ws (without_first n st)) (sym o.here) ∙ push_back n st (ap length o.here ∙ o.count)) in
      record {
        answer = bound (slots_of (unmasked n 0) r.0 0);
        asks = ap₂ (λ m ws. asked (op_want (bind n m) at (st ++ rest))) zero_is o.over ∙ ap (λ ws. bound_alone (unmasked n 0) ws) o.over ∙ ap (λ b. if b then Some (bound (slots_of (unmasked n 0) r.0 0)) else None) (none_masked n);
        goes = push_plain_goes n r.0 o.count (pc + 1) (without_first n (st ++ rest)) ∙ ap (settled code (pc + 1)) (ap (push r.0) o.others ∙ again) ∙ reaches _ x (ap Some r.2);
      }
    where
      push_plain_goes : (n : ℕ) (ws : List Word) → length ws ≡ n → (next : ℕ) (s : List Item) → settled code next (push_slots (slots_of (unmasked n 0) ws 0) s) ≡ settled code next (push ws s)
      push_plain_goes n ws e next s = ap (settled code next) (push_plain n ws s e)
  ticks (call l n mask) st x e =
      let i = of_if _ _ x e in
      let zero_is : mask ≡ 0 = eqb-true _ _ i.0 in
      let r = of_map _ _ x i.1 in
      let o = operands_over n st r.0 rest r.1 in
      let m = mark (returning (pc + 1)) in
      record {
        answer = bound (slots_of (unmasked n 0) r.0 0);
        asks = ap (λ m. asked (op_want (call l n m) at (st ++ rest))) zero_is ∙ ap (λ ws. bound_alone (unmasked n 0) ws) o.over ∙ ap (λ b. if b then Some (bound (slots_of (unmasked n 0) r.0 0)) else None) (none_masked n);
        goes = ap (settled code l) (push_plain n r.0 (m ∷ without_first n (st ++ rest)) o.count ∙ ap (λ s. push r.0 (m ∷ s)) o.others ∙ sym (push_over r.0 (m ∷ without_first n st) rest)) ∙ reaches _ x (ap Some r.2);
      }
  ticks return st x e =
      let r = of_and_then _ _ x e in
      let o = operands_over 1 st r.0 rest r.1 in
      let k = return_ticks (top_mark st) st r.0 x refl o.over r.2 in
      record { answer = done; asks = ap (asked) k.0; goes = k.1 }
  ticks (box_get i) st x e = absurd cc
  ticks (global_get g) st x e = absurd cc
  ticks (box_set i) st x e = absurd cc
  ticks (global_set g) st x e = absurd cc
  ticks (jump l) st x e = absurd cc
  ticks drop st x e = absurd cc
  ticks (slide n) st x e = absurd cc
  ticks (close n m is l) st x e = absurd cc
  ticks (funcall n) st x e = absurd cc
  ticks (funcall_drop n) st x e = absurd cc
  ticks (touch n) st x e = absurd cc
  ticks (qlet is t b) st x e = absurd cc
  ticks join st x e = absurd cc
  ticks (qlambda n m is l) st x e = absurd cc
  ticks (catch l) st x e = absurd cc
  ticks (qcatch l) st x e = absurd cc
  ticks exit st x e = absurd cc
  ticks throw st x e = absurd cc
  ticks (protect l) st x e = absurd cc
  ticks leave st x e = absurd cc
  ticks end_clean st x e = absurd cc
  ticks cons st x e = absurd cc
  ticks print st x e = absurd cc
  ticks end st x e = absurd cc

-- windows

module _ (code : List Instruction) (seen : Seen) where
  abbrev m : Machine Point Entry
  m = code_machine code

  tick_frames : (rest : List Item) (s : State) (i : Option Instruction) (pc : ℕ) (st : List Item) (x : ℕ × List Item) → local_tick code seen s i pc st ≡ Some x →
      (answer : Answer Entry) × (s ≡ running) × (alone seen (running_want i (st ++ rest)) ≡ Some answer) × (running_go code i answer pc (st ++ rest) ≡ point x.0 (x.1 ++ rest) running)
  tick_frames rest unwinding i pc st x e = absurd cc
  tick_frames rest resting i pc st x e = absurd cc
  tick_frames rest over i pc st x e = absurd cc
  tick_frames rest running None pc st x e = absurd cc
  tick_frames rest running (Some i) pc st x e =
      let r = of_and_then _ _ x e in
      let t = ticks code seen i.at pc rest i.op st r.0 r.1 in
      (t.answer, refl, t.asks, t.goes ∙ settle_over code rest (length code) r.0.0 r.0.1 x r.2)

  pub record Frames (a b : Window) (rest : List Item) : Type 0 where
    pub answer : Answer Entry
    pub asks : alone seen (m.want (over_rest a rest)) ≡ Some answer
    pub goes : m.go (over_rest a rest) answer ≡ over_rest b rest
    pub runs : a.state ≡ running
    pub same_state : b.state ≡ a.state
    pub same_aim : b.aim ≡ a.aim

  -- A local step of a window is the step of the machine at each point that begins with it.
  pub step_frames : (a b : Window) (rest : List Item) → local_step code seen a ≡ Some b → Frames a b rest
  step_frames a b rest e =
      let r = of_map _ _ b e in
      let t = tick_frames rest a.state (slice_get code a.place) a.place a.items r.0 r.1 in
      let there = point r.0.0 (r.0.1 ++ rest) in
      record {
        answer = t.0;
        asks = ap (λ s. alone seen (want_in code s a.place (a.items ++ rest))) t.1 ∙ t.2;
        goes = ap (λ s. go_in code s t.0 a.place (a.items ++ rest)) t.1 ∙ t.3 ∙ ap there (sym t.1) ∙ ap (λ z. over_rest z rest) r.2;
        runs = t.1;
        same_state = ap (λ z. z.state) (sym r.2);
        same_aim = ap (λ z. z.aim) (sym r.2);
      }

  own_step_is : (a b : Window) (rest : List Item) → local_step code seen a ≡ Some b → own_step m seen (over_rest a rest) ≡ Some (over_rest b rest)
  own_step_is a b rest e = let f = step_frames a b rest e in ap (option_map (m.go (over_rest a rest))) f.asks ∙ ap Some f.goes

  -- Along a local path each point that begins with the first window comes to the one that begins with the last, over the
  -- same rest.
  pub path_frames : (n : ℕ) (a b : Window) (rest : List Item) → local_steps code seen n a ≡ Some b → own_steps m seen n (over_rest a rest) ≡ Some (over_rest b rest)
  path_frames zero a b rest e = let same : a ≡ b = cc in ap (λ z. Some (over_rest z rest)) same
  path_frames (suc n) a b rest e =
      let r = of_and_then (local_steps code seen n) (local_step code seen a) b e in
      ap (option_and_then (own_steps m seen n)) (own_step_is a r.0 rest r.1) ∙ path_frames n r.0 b rest r.2
