-- Which processes can step.
use Rattle.std.proofs.Common.{◌≡◌, ◌≤◌, refl, sym, ap, ◌∙◌, ℕ, zero, suc, Bool, true, false, List, [], ◌∷◌, length, drop, Option, Some, None, arith}
use Rattle.std.specs.Prelude.{◌&&◌, not, map, slice_get, option_map, is_some, is_none}
use Rattle.std.proofs.lemmas.Option.{slice_get-map}
use Rattle.std.proofs.lemmas.List.{drop_all}
use Rattle.ql_base.specs.declared.limits.Limits.{Limits}
use Rattle.ql_world.specs.declared.world.FutState.{FutState}
use Rattle.ql_world.specs.declared.world.Kind.{Kind}
use Rattle.ql_world.specs.declared.world.Kind.TheVariants.{Main as main, Child as child, Closure as serving}
use Rattle.ql_world.specs.declared.world.Process.{Process}
use Rattle.ql_world.specs.World.{World, Call, ProcessClosure, numbered}
use Rattle.ql_world.specs.Within.{all_from}
use Rattle.ql_world.specs.Machine.{Machine, Want, awaits, takes_literal, reads, stores, branches, computes, prints, binds, calls, returns, closes, funcalls, chooses, makes, sends, takes_call, replies, opens, exits, throws, protects, begins, finishes, leaves, ends, last_form, with_word, unwound, rests}
use Rattle.ql_world.specs.Idle.{is_empty, waits_idly, is_idle_server}
use Rattle.ql_world.specs.Tick.{is_ready, of_server, has_queued, may_reply}
use Rattle.ql_tree.specs.declared.person.Person.{Person}
use Rattle.ql_tree.specs.Persons.{process_of_person, joined, process_at}
use Rattle.ql_tree.specs.Joined.{joined-numbered}
use Rattle.ql_code.specs.Machine.{Point, Entry}
use Rattle.ql_proc.specs.declared.process.Proc.{Proc}
use Rattle.ql_proc.specs.Points.{point_of}
use Rattle.ql_host.specs.declared.setting.Setting.{Setting}
use Rattle.ql_host.specs.declared.shared.Shared.{Shared}
use Rattle.ql_host.specs.Ready.{waits_of, machine, world, steps_in, steps}
use Rattle.ql_host.specs.Waiting.{is_there, served, has_call, has_current, waits_for_call, holds_at}

-- the thread with this number
numbered_point : (ts : List Proc) (p : ℕ) → numbered (map point_of ts) p ≡ option_map point_of (numbered ts p)
numbered_point ts zero = refl
numbered_point ts (suc i) = slice_get-map point_of ts i

no_thread : (o : Option Person) → process_at {P = Point} o None ≡ None
no_thread None = refl
no_thread (Some r) = refl

process_is : (rs : List Person) (ts : List Proc) (p : ℕ) → numbered (joined rs (map point_of ts)) p ≡ process_at (numbered rs p) (option_map point_of (numbered ts p))
process_is rs ts p = joined-numbered rs (map point_of ts) p ∙ ap (process_at (numbered rs p)) (numbered_point ts p)

-- a process is there where its person and its thread are
pub process_found : (rs : List Person) (ts : List Proc) (p : ℕ) (r : Person) (t : Proc) → numbered rs p ≡ Some r → numbered ts p ≡ Some t
    → numbered (joined rs (map point_of ts)) p ≡ Some (process_of_person r (point_of t))
process_found rs ts p r t e f = process_is rs ts p ∙ rw (e, f) refl

pub no_person : (rs : List Person) (ts : List Proc) (p : ℕ) → numbered rs p ≡ None → numbered (joined rs (map point_of ts)) p ≡ None
no_person rs ts p e = process_is rs ts p ∙ rw e refl

pub no_proc : (rs : List Person) (ts : List Proc) (p : ℕ) → numbered ts p ≡ None → numbered (joined rs (map point_of ts)) p ≡ None
no_proc rs ts p e = process_is rs ts p ∙ rw e (no_thread (numbered rs p))

-- past the last person there is no process
joined_short : (rs : List Person) (ts : List Point) → length (joined rs ts) ≤ length rs
joined_short [] ts = omega arith
joined_short (r ∷ rs) [] = omega arith
joined_short (r ∷ rs) (t ∷ ts) = omega (arith, joined_short rs ts)

pub past_all : (rs : List Person) (ts : List Point) (n : ℕ) → length rs ≤ n → drop n (joined rs ts) ≡ []
past_all rs ts n e = drop_all n (joined rs ts) (omega (arith, e, joined_short rs ts))

-- a scan over processes with numbers
module _ (f : ℕ → Process Point → Bool) where
  pub all_next : (n k : ℕ) (qs : List (Process Point)) → holds_at f k (slice_get qs n) ≡ true → all_from f k (drop n qs) ≡ all_from f (suc k) (drop (suc n) qs)
  all_next zero k [] h = refl
  all_next zero k (q ∷ qs) h = ap (λ b. b && all_from f (suc k) qs) h
  all_next (suc n) k [] h = refl
  all_next (suc n) k (q ∷ qs) h = all_next n k qs h

  pub not_all : (n k : ℕ) (qs : List (Process Point)) → holds_at f k (slice_get qs n) ≡ false → all_from f k (drop n qs) ≡ false
  not_all zero k [] h = absurd cc
  not_all zero k (q ∷ qs) h = ap (λ b. b && all_from f (suc k) qs) h
  not_all (suc n) k [] h = absurd cc
  not_all (suc n) k (q ∷ qs) h = not_all n k qs h

-- what a process waits for says whether it is ready
module _ (m : Machine Point Entry) (names : List (List ℕ)) (limits : Limits) (p : ℕ) (q : Process Point) (w : World Point Entry) where
  call_there : (o : Option (ProcessClosure Entry)) → has_queued m names limits p q o ≡ has_call o
  call_there None = refl
  call_there (Some s) = refl

  current_there : (o : Option (ProcessClosure Entry)) → may_reply m names limits p q o ≡ has_current o
  current_there None = refl
  current_there (Some s) = refl

  call_served : (kind : Kind) → of_server m names limits p q w (has_queued m names limits p q) kind ≡ served w.servers has_call kind
  call_served main = refl
  call_served (child f) = refl
  call_served (serving k) = call_there (numbered w.servers k)

  current_served : (kind : Kind) → of_server m names limits p q w (may_reply m names limits p q) kind ≡ served w.servers has_current kind
  current_served main = refl
  current_served (child f) = refl
  current_served (serving k) = current_there (numbered w.servers k)

  pub there_is : (want : Want) → is_there m names limits p q w (waits_of want) ≡ is_ready m names limits p q w want
  there_is (awaits f at) = refl
  there_is takes_literal = refl
  there_is (reads place at) = refl
  there_is (stores place x) = refl
  there_is branches = refl
  there_is (computes o xs at) = refl
  there_is (prints x) = refl
  there_is (binds bs xs) = refl
  there_is (calls bs xs) = refl
  there_is returns = refl
  there_is closes = refl
  there_is (funcalls x xs at) = refl
  there_is (chooses x) = refl
  there_is (makes x) = refl
  there_is (sends k xs used at) = refl
  there_is takes_call = sym (call_served q.kind)
  there_is (replies x) = sym (current_served q.kind)
  there_is (opens tag waits) = refl
  there_is (exits c) = refl
  there_is (throws tag x at) = refl
  there_is protects = refl
  there_is (begins u) = refl
  there_is (finishes u) = refl
  there_is (leaves c) = refl
  there_is (ends last_form) = refl
  there_is (ends (with_word x)) = refl
  there_is (ends unwound) = refl
  there_is rests = refl

-- and whether it waits idly
pub idly_is : (futures : List FutState) (eager : Bool) (turn : List ℕ) (want : Want) → waits_for_call futures eager turn (waits_of want) ≡ waits_idly futures eager turn want
idly_is futures eager turn (awaits f at) = refl
idly_is futures eager turn takes_literal = refl
idly_is futures eager turn (reads place at) = refl
idly_is futures eager turn (stores place x) = refl
idly_is futures eager turn branches = refl
idly_is futures eager turn (computes o xs at) = refl
idly_is futures eager turn (prints x) = refl
idly_is futures eager turn (binds bs xs) = refl
idly_is futures eager turn (calls bs xs) = refl
idly_is futures eager turn returns = refl
idly_is futures eager turn closes = refl
idly_is futures eager turn (funcalls x xs at) = refl
idly_is futures eager turn (chooses x) = refl
idly_is futures eager turn (makes x) = refl
idly_is futures eager turn (sends k xs used at) = refl
idly_is futures eager turn takes_call = refl
idly_is futures eager turn (replies x) = refl
idly_is futures eager turn (opens tag waits) = refl
idly_is futures eager turn (exits c) = refl
idly_is futures eager turn (throws tag x at) = refl
idly_is futures eager turn protects = refl
idly_is futures eager turn (begins u) = refl
idly_is futures eager turn (finishes u) = refl
idly_is futures eager turn (leaves c) = refl
idly_is futures eager turn (ends last_form) = refl
idly_is futures eager turn (ends (with_word x)) = refl
idly_is futures eager turn (ends unwound) = refl
idly_is futures eager turn rests = refl

no_call : (o : Option Call) → is_some o ≡ false → is_none o ≡ true
no_call None e = refl
no_call (Some c) e = absurd cc

no_queue : (cs : List Call) → length cs ≤ 0 → is_empty cs ≡ true
no_queue [] e = refl
no_queue (c ∷ cs) e = absurd (omega (arith, e))

-- a closure to which no call was sent
pub idle_server_is : (m : Machine Point Entry) (futures : List FutState) (want : Want) (servers : List (ProcessClosure Entry)) (k : ℕ) (s : ProcessClosure Entry)
    → numbered servers k ≡ Some s → is_some s.current ≡ false → length s.queue ≤ 0
    → waits_for_call futures s.eager s.turn (waits_of want) ≡ is_idle_server m futures want (numbered servers k)
idle_server_is m futures want servers k s e c q =
    idly_is futures s.eager s.turn want
    ∙ sym (ap (λ b. b && waits_idly futures s.eager s.turn want) (ap (λ b. b && is_empty s.queue) (no_call s.current c) ∙ no_queue s.queue q))
    ∙ sym (ap (is_idle_server m futures want) e)

module _ (s : Setting) (h : Shared) (ts : List Proc) (p : ℕ) where
  pub absent_rests : numbered (joined h.tree.persons (map point_of ts)) p ≡ None → false ≡ steps s h ts p
  absent_rests e = sym (ap (steps_in s (world s h ts) p) e)

  module _ (r : Person) (t : Proc) (person : numbered h.tree.persons p ≡ Some r) (thread : numbered ts p ≡ Some t) where
    found : steps s h ts p ≡ steps_in s (world s h ts) p (Some (process_of_person r (point_of t)))
    found = ap (steps_in s (world s h ts) p) (process_found h.tree.persons ts p r t person thread)

    abbrev ready_if : Bool → Bool
    ready_if b = not b && is_ready (machine s) s.names.now s.limits p (process_of_person r (point_of t)) (world s h ts) ((machine s).want (point_of t))

    pub ended_rests : r.ended ≡ true → false ≡ steps s h ts p
    ended_rests e = sym (found ∙ ap ready_if e)

    pub ready_steps : r.ended ≡ false
        → is_there (machine s) s.names.now s.limits p (process_of_person r (point_of t)) (world s h ts) (waits_of ((machine s).want (point_of t))) ≡ steps s h ts p
    ready_steps e =
        there_is (machine s) s.names.now s.limits p (process_of_person r (point_of t)) (world s h ts) ((machine s).want (point_of t))
        ∙ sym (found ∙ ap ready_if e)
