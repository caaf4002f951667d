-- The work of a window is so many ticks of its process in a run.
use Rattle.std.proofs.Common.{◌≡◌, ℕ, zero, suc, ◌+◌, ◌≤◌, ◌==◌, Bool, true, false, if◌then◌else◌, List, [], ◌∷◌, ◌++◌, replicate, Option, Some, None, option_and_then, refl, sym, ap, ap₂, ◌∙◌, ⊎_elim, arith, eq-eqb, eqb-true}
use Rattle.std.specs.List.{list_all}
use Rattle.ql_base.specs.declared.limits.Limits.{Limits}
use Rattle.ql_world.specs.declared.event.Event.{Event}
use Rattle.ql_world.specs.declared.event.Stop.{Stop}
use Rattle.ql_world.specs.declared.event.Stop.TheVariants.{Done as done}
use Rattle.ql_world.specs.declared.event.Event.TheVariants.{Turn as turn}
use Rattle.ql_world.specs.World.{World, numbered}
use Rattle.ql_world.specs.declared.world.Process.{Process}
use Rattle.ql_world.specs.Machine.{Machine}
use Rattle.ql_world.specs.Tick.{can_step, tick}
use Rattle.ql_world.specs.Run.{mark_or, stuck_or_spent, stop_of, run}
use Rattle.ql_code.specs.Code.{Instruction}
use Rattle.ql_code.specs.Machine.{Item, slot, mark, State, running, over, Point, point, Entry, code_machine}
use Rattle.ql_code.specs.LocalPath.{Window, topmost, beneath, window_of, Seen, local_step, local_steps}
use Rattle.ql_code.proofs.Within.{cases, of_and_then}
use Rattle.ql_code.specs.LocalLaws.{own_step, own_steps, Shows, over_rest, with_ticks, with_turn, worked, rest_of, thread_after}
use Rattle.ql_code.proofs.Frame.{path_frames, step_frames}
use Rattle.ql_code.proofs.Commit.{not_all, tick_alone, run_alone, numbered_unchanged}

-- a turn of so many ticks

own_turn : (p n m : ℕ) (es : List Event) → with_ticks p n (turn p m ∷ es) ≡ turn p (m + n) ∷ es
own_turn p zero m es = ap (λ k. turn p k ∷ es) (let z : m ≡ m + 0 = omega arith in z)
own_turn p (suc n) m es =
    let same : (p == p) ≡ true = eq-eqb p p refl in
    ap (λ b. with_ticks p n (if b then turn p (m + 1) ∷ es else turn p 1 ∷ (turn p m ∷ es))) same
    ∙ own_turn p n (m + 1) es
    ∙ ap (λ k. turn p k ∷ es) (let z : m + 1 + n ≡ m + suc n = omega arith in z)

new_turn : (p n : ℕ) (es : List Event) → with_ticks p n (turn p 1 ∷ es) ≡ turn p (suc n) ∷ es
new_turn p n es = own_turn p n 1 es ∙ ap (λ k. turn p k ∷ es) (let z : 1 + n ≡ suc n = omega arith in z)

-- n ticks are a turn of n
pub ticks_turn : (p n : ℕ) (es : List Event) → with_ticks p (suc n) es ≡ with_turn p (suc n) es
ticks_turn p n [] = new_turn p n []
ticks_turn p n (turn q m ∷ es) =
    ⊎_elim
    (λ (t : (p == q) ≡ true).
    let same : p ≡ q = eqb-true _ _ t in
    ap (λ b. with_ticks p n (if b then turn q (m + 1) ∷ es else turn p 1 ∷ (turn q m ∷ es))) t
    ∙ ap (λ r. with_ticks r n (turn q (m + 1) ∷ es)) same
    ∙ own_turn q n (m + 1) es
    ∙ ap (λ k. turn q k ∷ es) (let z : m + 1 + n ≡ m + suc n = omega arith in z)
    ∙ sym (ap (λ b. if b then turn q (m + suc n) ∷ es else turn p (suc n) ∷ (turn q m ∷ es)) t))
    (λ (t : (p == q) ≡ false).
    ap (λ b. with_ticks p n (if b then turn q (m + 1) ∷ es else turn p 1 ∷ (turn q m ∷ es))) t
    ∙ new_turn p n (turn q m ∷ es)
    ∙ sym (ap (λ b. if b then turn q (m + suc n) ∷ es else turn p (suc n) ∷ (turn q m ∷ es)) t))
    (cases (p == q))
ticks_turn p n (e ∷ es) = new_turn p n (e ∷ es)

-- windows

whole : (n : ℕ) (st : List Item) → topmost n st ++ beneath n st ≡ st
whole zero st = refl
whole (suc n) [] = refl
whole (suc n) (slot s ∷ st) = ap (λ xs. slot s ∷ xs) (whole (suc n) st)
whole (suc n) (mark k ∷ st) = ap (λ xs. mark k ∷ xs) (whole n st)

of_ended : (b : Bool) (s : State) → (if b then over else s) ≡ running → (b ≡ false) × (s ≡ running)
of_ended true s e = absurd cc
of_ended false s e = (refl, e)

module _ (code : List Instruction) (names : List (List ℕ)) (limits : Limits) (seen : Seen) where
  abbrev m : Machine Point Entry
  m = code_machine code

  begins : (q : Process Point) (s : State) → q.thread.state ≡ s → q.thread ≡ point q.thread.place (topmost 64 q.thread.stack ++ beneath 64 q.thread.stack) s
  begins q s e = ap₂ (λ st s. point q.thread.place st s) (sym (whole 64 q.thread.stack)) e

  path_state : (n : ℕ) (a b : Window) → local_steps code seen n a ≡ Some b → b.state ≡ a.state
  path_state zero a b e = let same : a ≡ b = cc in ap (λ z. z.state) (sym same)
  path_state (suc n) a b e =
      let r = of_and_then (local_steps code seen n) (local_step code seen a) b e in
      let f = step_frames code seen a r.0 [] r.1 in
      path_state n r.0 b r.2 ∙ f.same_state

  record Works (q : Process Point) (n : ℕ) (b : Window) : Type 0 where
    goes_on : q.ended ≡ false
    path : own_steps m seen n q.thread ≡ Some (thread_after q b)

  works : (n : ℕ) (q : Process Point) (b : Window) → local_steps code seen (suc n) (window_of q) ≡ Some b → Works q (suc n) b
  works n q b e =
      let r = of_and_then (local_steps code seen n) (local_step code seen (window_of q)) b e in
      let f = step_frames code seen (window_of q) r.0 (rest_of q) r.1 in
      let o = of_ended q.ended q.thread.state f.runs in
      let same_state : b.state ≡ q.thread.state = path_state (suc n) (window_of q) b e ∙ f.runs ∙ sym o.1 in
      let from : q.thread ≡ over_rest (window_of q) (rest_of q) = begins q (window_of q).state (o.1 ∙ sym f.runs) in
      record {
        goes_on = o.0;
        path = ap (own_steps m seen (suc n)) from ∙ path_frames code seen (suc n) (window_of q) b (rest_of q) e ∙ ap (λ s. Some (point b.place (b.items ++ rest_of q) s)) same_state;
      }

  not_marked : (w : World Point Entry) (p : ℕ) (q : Process Point) → numbered w.procs p ≡ Some q → q.ended ≡ false → stop_of m names limits w ≡ None → w.mark ≡ None
  not_marked w p q i g s =
      let runs : list_all (λ q. q.ended) w.procs ≡ false = not_all (λ q. q.ended) w.procs p q i g in
      of_mark w.mark (stuck_or_spent m names limits w) (sym (ap (λ b. if b then Some done else mark_or w.mark (stuck_or_spent m names limits w)) runs) ∙ s)
    where
      of_mark : (k other : Option Stop) → mark_or k other ≡ None → k ≡ None
      of_mark None other e = refl
      of_mark (Some stop) other e = absurd cc

  -- A local path from the window of process p, in a world in which the run hasn't stopped and the budget has room: the
  -- run along so many ticks of p is defined, and changes the place and the top of the stack of p, and nothing else but
  -- the count of ticks and the events.
  pub commits : (n : ℕ) (w : World Point Entry) (p : ℕ) (q : Process Point) (b : Window) →
      numbered w.procs p ≡ Some q →
      stop_of m names limits w ≡ None →
      Shows seen w.pairs →
      w.cells ≤ limits.cells →
      w.ticks + n ≤ limits.budget →
      local_steps code seen n (window_of q) ≡ Some b →
      run m names limits w (replicate n p) ≡ Some (worked w p n (thread_after q b))
  commits zero w p q b i s k c h e =
      let same : window_of q ≡ b = cc in
      let thread : q.thread ≡ thread_after q b = begins q q.thread.state refl ∙ ap (λ z. point z.place (z.items ++ rest_of q) q.thread.state) same in
      ap₂ (λ ps k. Some (record w { procs = ps; ticks = k }))
      (sym (numbered_unchanged (λ q'. record q' { thread = thread_after q b }) w.procs p q i (ap (λ t. record q { thread = t }) (sym thread))))
      (let z : w.ticks ≡ w.ticks + 0 = omega arith in z)
  commits (suc n) w p q b i s k c h e =
      let r = works n q b e in
      run_alone m names limits seen (suc n) w p q (thread_after q b) (record { is_there = i; goes_on = r.goes_on; shows = k; within = c }) (not_marked w p q i r.goes_on s) h r.path

  -- Where the window of process p has a local step, the process can step, and its tick is that step.
  pub next_is_local : (w : World Point Entry) (p : ℕ) (q : Process Point) (b : Window) →
      numbered w.procs p ≡ Some q →
      Shows seen w.pairs →
      w.cells ≤ limits.cells →
      local_step code seen (window_of q) ≡ Some b →
      (can_step m names limits p q w ≡ true) × (tick m names limits w p ≡ Some (worked w p 1 (thread_after q b)))
  next_is_local w p q b i k c e =
      let one : local_steps code seen 1 (window_of q) ≡ Some b = ap (option_and_then (λ z. Some z)) e in
      let r = works 0 q b one in
      let o = of_and_then (λ t. Some t) (own_step m seen q.thread) (thread_after q b) r.path in
      tick_alone m names limits seen w p q (thread_after q b) (record { is_there = i; goes_on = r.goes_on; shows = k; within = c }) (o.1 ∙ o.2)
