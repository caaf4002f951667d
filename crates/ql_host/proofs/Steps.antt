-- From the row of an instruction to the tick of a process among others.
use Rattle.std.proofs.Math.ListN.{get_or}
use Rattle.std.proofs.Common.{◌≡◌, Result, Ok, Err, OnOk, ◌≤◌, ◌<◌, ℕ, zero, suc, pred, Bool, true, false, not, ◌&&◌, List, [], ◌∷◌, ◌++◌, length, map, Option, Some, None, refl, sym, ap, ap₂, ◌∙◌, subst, append-nil, arith}
use Rattle.std.specs.Prelude.{slice_get, slice_set, option_map, is_some}
use Rattle.std.proofs.lemmas.List.{length-map}
use Rattle.std.proofs.lemmas.Option.{same_Some}
use Rattle.ql_world.specs.World.{ProcessClosure, Call, numbered, or_pending}
use Rattle.ql_world.specs.declared.world.Kind.{Kind}
use Rattle.ql_world.specs.declared.world.Kind.TheVariants.{Main as main, Child as child, Closure as serving}
use Rattle.ql_world.specs.declared.world.Process.{Process}
use Rattle.ql_world.specs.declared.word.Word.{Word}
use Rattle.ql_world.specs.Word.{first_future}
use Rattle.ql_world.specs.Machine.{Want, takes_call, replies}
use Rattle.ql_world.specs.Idle.{is_empty, is_pending}
use Rattle.ql_world.specs.Tick.{can_step, is_ready, tick}
use Rattle.ql_tree.specs.declared.person.Person.{Person}
use Rattle.ql_tree.specs.Persons.{process_of_person, joined}
use Rattle.ql_code.specs.Code.{Instruction, instruction}
use Rattle.ql_code.specs.declared.code.Op.{Op}
use Rattle.ql_code.specs.declared.code.Op.TheVariants as ops
use Rattle.ql_code.specs.declared.mark.Mark.TheVariants.{Base as base}
use Rattle.ql_code.specs.declared.mark.State.TheVariants.{Running as running, Resting as resting}
use Rattle.ql_code.specs.Machine.{Point, Entry, words, top_mark, return_want, want_in, running_want, code_machine}
use Rattle.ql_code.specs.Standing.{IsAsked}
use Rattle.ql_proc.specs.declared.process.Proc.{Proc}
use Rattle.ql_proc.specs.Points.{point_of}
use Rattle.ql_host.specs.declared.setting.Setting.{Setting}
use Rattle.ql_host.specs.declared.shared.Shared.{Shared}
use Rattle.ql_host.specs.World.{world_of, made_in, IsFit, Keeps}
use Rattle.ql_host.specs.Acting.{Takes, TakesAll, StandsAt, IsKept}
use Rattle.ql_host.specs.Among as among
use Rattle.ql_host.specs.Making.{StandsAmong, AreKept}
use Rattle.ql_host.specs.Acts.{world_in, CanAct, IsTurn, AreCounted, Ticks}
use Rattle.ql_host.specs.Awaited.{replied, awaited}
use Rattle.ql_host.specs.Ready.{waits_of}
use Rattle.ql_host.specs.Waiting.{is_there, served, has_call, has_current}
use Rattle.ql_host.specs.Resting.{RestsAt, IsAnswering}
use Rattle.ql_host.proofs.Awaits.{op_awaits, calm_want}
use Rattle.ql_host.proofs.Stepping.{process_found, there_is}
use Rattle.ql_host.proofs.RowTicks.{want_at}
use Rattle.ql_host.proofs.Making.{set_append, get_append, map_get, takes_all, makes_none, found, all_kept}

-- an operation and an offset make an instruction
pub here_is : (o : Option Instruction) (op : Op) (at : ℕ) → option_map (λ i. i.op) o ≡ Some op → option_map (λ i. i.at) o ≡ Some at → o ≡ Some (instruction op at)
here_is None op at e f = absurd cc
here_is (Some i) op at e f = ap₂ (λ x n. Some (instruction x n)) (same_Some i.op op e) (same_Some i.at at f)

past : {A : Type 0} (xs : List A) (i : ℕ) → length xs ≤ i → slice_get xs i ≡ None
past [] i e = refl
past (x ∷ xs) zero e = absurd (omega (arith, e))
past (x ∷ xs) (suc i) e = past xs i (omega (arith, e))

pub nothing : (o : Option ℕ) → is_some o ≡ false → o ≡ None
nothing None e = refl
nothing (Some x) e = absurd cc

second_true : (a b : Bool) → (a && b) ≡ true → b ≡ true
second_true true b e = e
second_true false b e = absurd cc

one_word : (ws : List Word) → length ws ≡ 1 → (w : Word) × (ws ≡ w ∷ [])
one_word [] e = absurd cc
one_word (w ∷ []) e = (w, refl)
one_word (w ∷ (v ∷ ws)) e = absurd (omega (arith, e))

second_false : (a b : Bool) → (a && not b) ≡ true → b ≡ false
second_false true true e = absurd cc
second_false true false e = refl
second_false false b e = absurd cc

pub both_ok : {A E X Y Z : Type 0} (result : Result A E) → (X → Y → Z) → OnOk result X → OnOk result Y → OnOk result Z
both_ok (Ok a) f x y = f x y
both_ok (Err e) f x y = record {}

there : {A : Type 0} (xs : List A) (i : ℕ) → i < length xs → (x : A) × (slice_get xs i ≡ Some x)
there [] i e = absurd (omega (arith, e))
there (x ∷ xs) zero e = (x, refl)
there (x ∷ xs) (suc i) e = there xs i (omega (arith, e))

-- threads past the persons make no difference, and where they make none there is one for each person
joined_more : (rs : List Person) (xs ys : List Point) → length rs ≤ length xs → joined rs (xs ++ ys) ≡ joined rs xs
joined_more [] xs ys e = refl
joined_more (r ∷ rs) [] ys e = absurd (omega (arith, e))
joined_more (r ∷ rs) (x ∷ xs) ys e = ap (λ qs. process_of_person r x ∷ qs) (joined_more rs xs ys (omega (arith, e)))

tail_same : {A : Type 0} (x y : A) (xs ys : List A) → x ∷ xs ≡ y ∷ ys → xs ≡ ys
tail_same x y xs ys e = ap (λ zs. without_head zs) e
  where
    without_head : {A : Type 0} → List A → List A
    without_head [] = []
    without_head (z ∷ zs) = zs

joined_few : (rs : List Person) (xs : List Point) (x : Point) → joined rs (xs ++ x ∷ []) ≡ joined rs xs → length rs ≤ length xs
joined_few [] xs x e = omega arith
joined_few (r ∷ rs) [] x e = absurd cc
joined_few (r ∷ rs) (y ∷ xs) x e =
    let k : length rs ≤ length xs = joined_few rs xs x (tail_same (process_of_person r y) (process_of_person r y) (joined rs (xs ++ x ∷ [])) (joined rs xs) e) in
    omega (arith, k)

pub set_long : {A : Type 0} (xs : List A) (i : ℕ) (y : A) → length (slice_set xs i y) ≡ length xs
set_long [] i y = refl
set_long (x ∷ xs) zero y = refl
set_long (x ∷ xs) (suc i) y = ap suc (set_long xs i y)

module _ (s : Setting) (p i : ℕ) (r : Person) (h : Shared) (ts : List Proc) (turn : IsTurn s p i r h ts) where
  -- it stands at its instruction
  pub stands_at : (t : Proc) (op : Op) (at : ℕ) → slice_get ts i ≡ Some t → t.state ≡ running → slice_get s.code.now.instructions t.place ≡ Some (instruction op at) → StandsAt s p r h t op at
  stands_at t op at g e here = record {
    fit = turn.fit;
    runs = e;
    here = here;
    asked = subst (λ (w : Want). IsAsked (made_in h) r.kind w) (want_at s.code.now s.names.now s.limits p (point_of t) op at e here) (turn.able t g).asked;
    operands = (turn.able t g).operands op at e here;
  }

  pub thread_at : (v : Proc) → v ≡ get_or ts i v → slice_get ts i ≡ Some v
  thread_at v e = found ts ts i v refl turn.within e

  pub same_thread : (t u : Proc) → slice_get ts i ≡ Some t → slice_get ts i ≡ Some u → t ≡ u
  same_thread t u g k = same_Some t u (sym g ∙ k)

  -- its place is one of its code
  pub never_past : (t : Proc) → slice_get ts i ≡ Some t → t.state ≡ running → length s.code.now.instructions ≤ t.place → ⊥
  never_past t g e b =
      subst (λ (w : Want). IsAsked (made_in h) r.kind w)
      (ap (λ v. want_in s.code.now.instructions v t.place t.stack.items) e ∙ ap (λ (o : Option Instruction). running_want o t.stack.items) (past s.code.now.instructions t.place b))
      (turn.able t g).asked

  -- the future that its instruction waits for isn't pending
  pub is_ready_for : (t : Proc) (op : Op) (at : ℕ) → slice_get ts i ≡ Some t → t.state ≡ running → slice_get s.code.now.instructions t.place ≡ Some (instruction op at)
      → (f : ℕ) → awaited op t.stack.items ≡ Some f → is_pending (or_pending (numbered h.futures.states f)) ≡ false
  is_ready_for t op at g e here f a =
      second_false (not r.ended) (is_pending (or_pending (numbered h.futures.states f)))
      (sym (ap (λ (w : Want). not r.ended && is_ready (code_machine s.code.now.instructions) s.names.now s.limits p (process_of_person r (point_of t)) (world_in h ts) w)
      (want_at s.code.now s.names.now s.limits p (point_of t) op at e here ∙ op_awaits op t.stack.items f at ((turn.able t g).operands op at e here) a))
      ∙ (turn.able t g).can)

  -- the same index has the same thread
  at_index : (j : ℕ) (t : Proc) → p ≡ suc j → slice_get ts j ≡ Some t → slice_get ts i ≡ Some t
  at_index j t e g = ap (slice_get ts) (ap pred (sym turn.number ∙ e)) ∙ g

  pub stands_among : (t : Proc) (op : Op) (at : ℕ) → slice_get ts i ≡ Some t → t.state ≡ running → slice_get s.code.now.instructions t.place ≡ Some (instruction op at) → StandsAmong s p r h ts op at
  stands_among t op at g e here j u k x =
      subst (λ v. StandsAt s p r h v op at) (same_Some t u (sym g ∙ at_index j u k x)) (stands_at t op at g e here)

  pub stands_there : (op : Op) (at : ℕ) → StandsAmong s p r h ts op at → among.StandsAmong s p r h ts op at
  stands_there op at f =
      let x : (t : Proc) × (slice_get ts i ≡ Some t) = there ts i turn.within in
      record { thread = x.0; there = ap (numbered ts) turn.number ∙ x.1; threads = turn.long; stands = f i x.0 turn.number x.1 }

  pub numbered_at : (t : Proc) → numbered ts p ≡ Some t → slice_get ts i ≡ Some t
  numbered_at t e = ap (numbered ts) (sym turn.number) ∙ e

  -- its tick, where its thread alone changes
  module _ (new : Shared) (us : List Proc) (t u : Proc) (g : slice_get ts i ≡ Some t) (z : us ≡ slice_set ts i u) where
    pub takes_alone : Takes s p r h t new u → TakesAll s p r h ts new us
    takes_alone k =
        takes_all s p r h new t u ts us [] i turn.number g (z ∙ sym (append-nil (slice_set ts i u)))
        (makes_none s.code.now s.names.now s.limits p r h new (point_of t) (point_of u) k)

    pub kept_alone : IsKept h t new u → AreKept h ts new us
    kept_alone k = all_kept h new ts us i t u g z k

    -- there is still one thread for each person
    pub long_alone : Takes s p r h t new u → Keeps h new → length us ≡ length new.tree.persons
    long_alone k keeps =
        let xs : List Point = map point_of ts in
        let x : Point = point_of t in
        let ys : List Point = slice_set xs i (point_of u) in
        let a : slice_get xs i ≡ Some x = map_get point_of ts i t g in
        let l : length xs ≡ length ts = length-map ts point_of in
        let n : length ts ≡ length h.tree.persons = turn.long in
        let same : world_of h (xs ++ x ∷ []) ≡ world_of h xs = ap (λ (qs : List (Process Point)). record (world_of h xs) { procs = qs }) (joined_more h.tree.persons xs (x ∷ []) (omega (arith, l, n))) in
        let m = code_machine s.code.now.instructions in
        let first : tick m s.names.now s.limits (world_of h xs) p ≡ Some (world_of new ys) = k xs i turn.number a turn.person (turn.able t g).can in
        let second : tick m s.names.now s.limits (world_of h (xs ++ x ∷ [])) p ≡ Some (world_of new (slice_set (xs ++ x ∷ []) i (point_of u))) =
        k (xs ++ x ∷ []) i turn.number (get_append xs (x ∷ []) i x a) turn.person (ap (can_step m s.names.now s.limits p (process_of_person r x)) same ∙ (turn.able t g).can)
        in
        let both : world_of new (slice_set (xs ++ x ∷ []) i (point_of u)) ≡ world_of new ys = same_Some _ _ (sym second ∙ ap (λ w. tick m s.names.now s.limits w p) same ∙ first) in
        let few : length new.tree.persons ≤ length ys =
        joined_few new.tree.persons ys x (sym (ap (joined new.tree.persons) (set_append xs (x ∷ []) i x (point_of u) a)) ∙ ap (λ w. w.procs) both)
        in
        let c : length ys ≡ length xs = set_long xs i (point_of u) in
        let d : length us ≡ length ts = ap length z ∙ set_long ts i u in
        let more : length h.tree.persons ≤ length new.tree.persons = keeps.persons in
        omega (arith, l, n, few, c, d, more)

  pub ticks_of : (new : Shared) (us : List Proc) → TakesAll s p r h ts new us → Ticks s p h ts new us
  ticks_of new us k =
      let x : (t : Proc) × (slice_get ts i ≡ Some t) = there ts i turn.within in
      k i x.0 turn.number x.1 turn.person turn.long (turn.able x.0 x.1).can

-- The process of a closure: a call of it is in progress, or waits.
module _ (h : Shared) (r : Person) where
  in_progress : (k : ℕ) (o : Option (ProcessClosure Entry)) → r.kind ≡ serving k → numbered h.calls.servers k ≡ o → has_current o ≡ true → IsAnswering h r
  in_progress k None e z x = absurd cc
  in_progress k (Some s) e z x = of_call s.current refl x
    where
      of_call : (c : Option Call) → s.current ≡ c → is_some c ≡ true → IsAnswering h r
      of_call None y x = absurd cc
      of_call (Some c) y x = record { number = k; server = s; call = c; serves = e; known = z; current = y }

  progress : (kind : Kind) → r.kind ≡ kind → served h.calls.servers has_current kind ≡ true → IsAnswering h r
  progress main e x = absurd cc
  progress (child f) e x = absurd cc
  progress (serving k) e x = in_progress k (numbered h.calls.servers k) e refl x

  module _ (s : Setting) (t : Proc) (fit : IsFit s.names.now s.limits h) (counted : AreCounted h) (rests : t.state ≡ resting) where
    in_queue : (k : ℕ) (o : Option (ProcessClosure Entry)) → r.kind ≡ serving k → numbered h.calls.servers k ≡ o → has_call o ≡ true → RestsAt s r h t
    in_queue k None e z x = absurd cc
    in_queue k (Some v) e z x = of_queue v.queue refl x
      where
        of_queue : (cs : List Call) → v.queue ≡ cs → not (is_empty cs) ≡ true → RestsAt s r h t
        of_queue [] y x = absurd cc
        of_queue (c ∷ cs) y x =
            record { fit = fit; rests = rests; number = k; server = v; next = c; later = cs; serves = e; known = z; queue = y; counts = counted k v c cs z y }

    waiting : (kind : Kind) → r.kind ≡ kind → served h.calls.servers has_call kind ≡ true → RestsAt s r h t
    waiting main e x = absurd cc
    waiting (child f) e x = absurd cc
    waiting (serving k) e x = in_queue k (numbered h.calls.servers k) e refl x

-- what a process that can step waits for is there
module _ (s : Setting) (p : ℕ) (r : Person) (h : Shared) (ts : List Proc) (t : Proc)
    (can : can_step (code_machine s.code.now.instructions) s.names.now s.limits p (process_of_person r (point_of t)) (world_in h ts) ≡ true)
  where
    is_there_for : (w : Want) → (code_machine s.code.now.instructions).want (point_of t) ≡ w
        → is_there (code_machine s.code.now.instructions) s.names.now s.limits p (process_of_person r (point_of t)) (world_in h ts) (waits_of w) ≡ true
    is_there_for w e =
        there_is (code_machine s.code.now.instructions) s.names.now s.limits p (process_of_person r (point_of t)) (world_in h ts) w
        ∙ second_true (not r.ended) (is_ready (code_machine s.code.now.instructions) s.names.now s.limits p (process_of_person r (point_of t)) (world_in h ts) w)
        (sym (ap (λ (v : Want). not r.ended && is_ready (code_machine s.code.now.instructions) s.names.now s.limits p (process_of_person r (point_of t)) (world_in h ts) v) e) ∙ can)

    pub rests_at : IsFit s.names.now s.limits h → AreCounted h → t.state ≡ resting → RestsAt s r h t
    rests_at fit counted e =
        waiting h r s t fit counted e r.kind refl (is_there_for takes_call (ap (λ v. want_in s.code.now.instructions v t.place t.stack.items) e))

    pub answers_at : (at : ℕ) → StandsAt s p r h t ops.Return at → awaited ops.Return t.stack.items ≡ None → (j : Option ℕ) → top_mark t.stack.items ≡ Some (base j) → IsAnswering h r
    answers_at at stands calm j top =
        let x : (w : Word) × (words 1 t.stack.items ≡ w ∷ []) = one_word (words 1 t.stack.items) stands.operands in
        progress h r r.kind refl
        (is_there_for (replies x.0)
        (want_at s.code.now s.names.now s.limits p (point_of t) ops.Return at stands.runs stands.here
        ∙ ap (λ k. return_want k (words 1 t.stack.items) at) top
        ∙ calm_want t.stack.items x.0 at replies x.1 (sym (ap (λ k. replied k (first_future (words 1 t.stack.items))) top) ∙ calm)))

-- a process that is there has its turn
pub turn_of : (s : Setting) (p i : ℕ) (r : Person) (h : Shared) (ts : List Proc) → CanAct s p h ts → p ≡ suc i → i < length ts → numbered h.tree.persons p ≡ Some r → IsTurn s p i r h ts
turn_of s p i r h ts can e b n = record {
  fit = can.fit;
  counted = can.counted;
  long = can.long;
  number = e;
  within = b;
  person = n;
  able = λ t g. can.able (process_of_person r (point_of t)) (process_found h.tree.persons ts p r t n (ap (numbered ts) e ∙ g));
}

pub absent : {A : Type 0} (o : Option A) → is_some o ≡ true → o ≡ None → ⊥
absent None e z = absurd cc
absent (Some x) e z = absurd cc

-- there is no thread with this number
pub no_thread_past : (ts : List Proc) (p : ℕ) → length ts < p → numbered ts p ≡ None
no_thread_past ts zero b = refl
no_thread_past ts (suc i) b = past ts i (omega (arith, b))
