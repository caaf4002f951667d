-- Ticks that kill.
use Rattle.std.proofs.Common.{◌≡◌, refl, sym, ap, subst, ◌∙◌, ℕ, Bool, true, false, List, [], ◌∷◌, length, map, Option, Some, None, Result, Ok, Err, arith, ⊎_elim}
use Rattle.std.specs.Prelude.{◌==◌, ◌<◌, ◌&&◌, drop as without_first, if◌then◌else◌, MatchOption, OnOk, slice_get}
use Rattle.std.proofs.lemmas.Bool.{cases_Bool}
use Rattle.ql_world.specs.declared.event.Event.TheVariants.{Exit as exit_event, Throw as throw_event, EndOk as end_ok}
use Rattle.ql_world.specs.declared.event.Stop.TheVariants.{Fault as fault}
use Rattle.ql_base.specs.declared.fault.RunFault.TheVariants.{NoCatch}
use Rattle.ql_world.specs.declared.world.Aim.{Aim}
use Rattle.ql_world.specs.declared.world.Aim.TheVariants.{To as to}
use Rattle.ql_world.specs.declared.word.Word.{Word}
use Rattle.ql_world.specs.Word.{first_future}
use Rattle.ql_world.specs.Touch.{await_or}
use Rattle.ql_world.specs.Within.{tagged, has_tag}
use Rattle.ql_world.specs.declared.world.Process.{Process}
use Rattle.ql_world.specs.World.{World, catch_at, numbered, change_numbered, counted, marked, with_event, with_thread, with_end, without_catch}
use Rattle.ql_world.specs.declared.world.Catch.{Catch}
use Rattle.ql_world.specs.declared.word.Slot.{Slot}
use Rattle.ql_world.specs.Machine.{Machine, Want, exits, throws, rests, done, aimed}
use Rattle.ql_code.specs.declared.mark.Mark.TheVariants.{Returning as returning, Catching as catching, Protecting as protecting, Cleaning as cleaning, Base as base}
use Rattle.ql_world.specs.Idle.{in_cleanup, killed_within}
use Rattle.ql_world.specs.Tick.{can_step, row, exit_row, seen_catch, throw_row, thrown_row}
use Rattle.ql_calls.specs.Facts.{changed-twice}
use Rattle.ql_tree.specs.declared.person.Person.{Person}
use Rattle.ql_tree.specs.Persons.{process_of_person, joined}
use Rattle.ql_tree.specs.Joined.{joined-thread, joined-end}
use Rattle.ql_code.specs.declared.code.Op.{Op}
use Rattle.ql_code.specs.Machine.{Point, Entry, Item, slot, mark, words, ended, unwind_point, aim_cleanup, throw_want, touch_go, exit_want, op_want, code_machine}
use Rattle.ql_code.specs.declared.code.Op.TheVariants.{Throw as throw_op}
use Rattle.ql_proc.specs.declared.process.Proc.{Proc}
use Rattle.ql_proc.specs.Points.{point_of}
use Rattle.ql_host.specs.declared.setting.Setting.{Setting}
use Rattle.ql_host.specs.declared.shared.Shared.{Shared}
use Rattle.ql_host.specs.World.{world_of, IsAt}
use Rattle.ql_host.specs.Acting.{TakesAll}
use Rattle.ql_host.specs.Killing.{IsSameBut, owner_aimed}
use Rattle.ql_host.proofs.RowTicks.{row_tick, want_at, go_at}
use Rattle.ql_host.proofs.Rooms.{at_within}
use Rattle.ql_host.proofs.Stepping.{process_found}

module _ (s : Setting) (p : ℕ) (r : Person) (old new : Shared) (ts us : List Proc) (t : Proc) where
  abbrev M : Machine Point Entry
  M = code_machine s.code.now.instructions

  abbrev W : World Point Entry
  W = world_of old (map point_of ts)

  -- a tick of process p among others is its row
  pub acts_among : (op : Op) (at : ℕ) → numbered ts p ≡ Some t → IsAt s.code.now s.names.now s.limits p old r (point_of t) op at
      → (can_step M s.names.now s.limits p (process_of_person r (point_of t)) W ≡ true
      → row M s.names.now s.limits p (process_of_person r (point_of t)) (counted W p) (op_want op at (point_of t).stack) ≡ Some (world_of new (map point_of us)))
      → TakesAll s p r old ts new us
  acts_among op at e h f i v n g k l c =
      let there : slice_get ts i ≡ Some t = subst (λ x. numbered ts x ≡ Some t) n e in
      let both : Some v ≡ Some t = sym g ∙ there in
      let same : v ≡ t = cc in
      let can : can_step M s.names.now s.limits p (process_of_person r (point_of t)) W ≡ true = subst (λ x. can_step M s.names.now s.limits p (process_of_person r (point_of x)) W ≡ true) same c in
      row_tick s.code.now s.names.now s.limits p (process_of_person r (point_of t)) W (process_found old.tree.persons ts p r t k e) can
      ∙ ap (row M s.names.now s.limits p (process_of_person r (point_of t)) (counted W p)) (want_at s.code.now s.names.now s.limits p (point_of t) op at h.runs h.here)
      ∙ f can

-- a process gets a thread
pub given_thread : (h : Shared) (us vs : List Point) (p : ℕ) (u : Point) → vs ≡ change_numbered (λ v. u) us p → world_of h vs ≡ with_thread (world_of h us) p u
given_thread h us vs p u e =
    ap (world_of h) e
    ∙ ap (λ (qs : List (Process Point)). record (world_of h us) { procs = qs }) (joined-thread (λ (v : Point). u) h.tree.persons us p)

-- the end of a program, after its kill
abbrev pub ended_world : ℕ → World Point Entry → World Point Entry
ended_world p w = with_end (with_event (without_catch w 0) (end_ok p None)) p

thread_ended : (p : ℕ) (u : Point) (w : World Point Entry) → ended_world p (with_thread w p u) ≡ with_thread (ended_world p w) p u
thread_ended p u w =
    ap (λ (qs : List (Process Point)). record (with_event (without_catch w 0) (end_ok p None)) { procs = qs })
    (changed-twice (λ (q : Process Point). record q { thread = u }) (λ q. record q { ended = true }) w.procs p
    ∙ sym (changed-twice (λ (q : Process Point). record q { ended = true }) (λ q. record q { thread = u }) w.procs p))

pub last_is : (h new : Shared) (us vs : List Point) (p : ℕ) (u : Point) (k : World Point Entry) → IsSameBut p (world_of h us) k
    → ((threads : List Point) → world_of new threads ≡ ended_world p (world_of h threads))
    → vs ≡ change_numbered (λ v. u) us p
    → world_of new vs ≡ with_thread (ended_world p k) p u
last_is h new us vs p u k same f e =
    f vs
    ∙ ap (ended_world p) (given_thread h us vs p u e ∙ same u)
    ∙ thread_ended p u k

pub ended_after : (h : Shared) (threads : List Point) (p : ℕ)
    → record (with_event (without_catch (world_of h threads) 0) (end_ok p None)) { procs = joined (change_numbered (λ r. record r { ended = true }) h.tree.persons p) threads } ≡ ended_world p (world_of h threads)
ended_after h threads p = ap (λ (qs : List (Process Point)). record (with_event (without_catch (world_of h threads) 0) (end_ok p None)) { procs = qs }) (joined-end h.tree.persons threads p)

-- A process that exits has its catch under a slot.
pub catch_under : (st : List Item) (c : ℕ) → exit_want st ≡ exits c → (x : Slot) × (l : ℕ) × (rest : List Item) × (st ≡ slot x ∷ (mark (catching c l) ∷ rest))
catch_under [] c e = absurd cc
catch_under (mark k ∷ st) c e = absurd cc
catch_under (slot x ∷ []) c e = absurd cc
catch_under (slot x ∷ (slot y ∷ st)) c e = absurd cc
catch_under (slot x ∷ (mark (returning l) ∷ st)) c e = absurd cc
catch_under (slot x ∷ (mark (catching d l) ∷ st)) c e = let z : d ≡ c = cc in (x, l, st, ap (λ n. slot x ∷ (mark (catching n l) ∷ st)) z)
catch_under (slot x ∷ (mark (protecting u l) ∷ st)) c e = absurd cc
catch_under (slot x ∷ (mark (cleaning u k) ∷ st)) c e = absurd cc
catch_under (slot x ∷ (mark (base j) ∷ st)) c e = absurd cc

pub left_known : (o : Option ℕ) (c : ℕ) (want : Want) → MatchOption o (want ≡ rests) (λ d. want ≡ exits d) → o ≡ Some c → want ≡ exits c
left_known None c want h e = absurd cc
left_known (Some d) c want h e = let z : d ≡ c = cc in h ∙ ap exits z

-- a catch that was opened is there
pub catch_there : (ks : List Catch) (c : ℕ) → c < length ks → catch_at ks c ≡ None → ⊥
catch_there [] c h e = omega (arith, h)
catch_there (k ∷ ks) c h e =
    ⊎_elim
    (λ (t : (c == length ks) ≡ true). let z : Some k ≡ None = sym (ap (λ (b : Bool). if b then Some k else catch_at ks c) t) ∙ e in absurd cc)
    (λ (t : (c == length ks) ≡ false).
    let less : c < length ks = grind (arith, h, t) in
    catch_there ks c less (sym (ap (λ (b : Bool). if b then Some k else catch_at ks c) t) ∙ e))
    (cases_Bool (c == length ks))

pub left_is : (h new : Shared) (us vs : List Point) (p c : ℕ) (u : Point) (k : World Point Entry) → IsSameBut p (world_of h us) k
    → ((threads : List Point) → world_of new threads ≡ without_catch (world_of h threads) c)
    → vs ≡ change_numbered (λ v. u) us p
    → world_of new vs ≡ with_thread (without_catch k c) p u
left_is h new us vs p c u k same f e = f vs ∙ ap (λ w. without_catch w c) (given_thread h us vs p u e ∙ same u)

-- the row of an exit
module _ (s : Setting) (p : ℕ) (q : Process Point) (w : World Point Entry) where
  pub exit_is : (c : ℕ) (k : Catch) (want : Want) (u : Point) → want ≡ exits c → catch_at w.catches c ≡ Some k → (code_machine s.code.now.instructions).go q.thread done ≡ u
      → row (code_machine s.code.now.instructions) s.names.now s.limits p q w want
      ≡ Some (with_thread (without_catch (killed_within (code_machine s.code.now.instructions) (with_event w (exit_event p c)) c k.owner) c) p u)
  exit_is c k want u e f g =
      let m = code_machine s.code.now.instructions in
      ap (row m s.names.now s.limits p q w) e
      ∙ ap (exit_row m s.names.now s.limits p q w c) f
      ∙ ap (λ v. Some (with_thread (without_catch (killed_within m (with_event w (exit_event p c)) c k.owner) c) p v)) g

-- a process whose thread stays is within its code
pub thread_within : (s : Setting) (p : ℕ) (h : Shared) (r : Person) (op : Op) (at : ℕ) (ts us : List Proc) (t v : Proc) → IsAt s.code.now s.names.now s.limits p h r (point_of t) op at
    → numbered ts p ≡ Some t → numbered us p ≡ numbered ts p → numbered us p ≡ Some v → v.place < length s.code.now.instructions
thread_within s p h r op at ts us t v i e k f =
    let both : Some v ≡ Some t = sym f ∙ k ∙ e in
    let same : v ≡ t = cc in
    subst (λ (x : Proc). x.place < length s.code.now.instructions) (sym same) (at_within s.code.now s.names.now s.limits p h r (point_of t) op at i)

-- worlds that are the same but for the thread of no process are the same
pub same_all : (w v : World Point Entry) → IsSameBut 0 w v → w ≡ v
same_all w v h = h (ended 0)

-- a catch that is found is there
none_older : (k : Catch) (ks : List Catch) (c : ℕ) → catch_at (k ∷ ks) c ≡ None → catch_at ks c ≡ None
none_older k ks c e =
    ⊎_elim
    (λ (t : (c == length ks) ≡ true). let z : Some k ≡ None = sym (ap (λ (b : Bool). if b then Some k else catch_at ks c) t) ∙ e in absurd cc)
    (λ (t : (c == length ks) ≡ false). sym (ap (λ (b : Bool). if b then Some k else catch_at ks c) t) ∙ e)
    (cases_Bool (c == length ks))

found_at : (f : ℕ → Bool) (k : Catch) (ks : List Catch) (tag : Word) (d c : ℕ) → catch_at (k ∷ ks) c ≡ None
    → (tagged f ks tag d ≡ Some c → ⊥) → (tagged f ks tag k.enclosing ≡ Some c → ⊥)
    → (x y z : Bool) → (d == length ks) ≡ x → (if x then (if y then (if z then Some d else tagged f ks tag k.enclosing) else None) else tagged f ks tag d) ≡ Some c → ⊥
found_at f k ks tag d c n older out false y z h e = older e
found_at f k ks tag d c n older out true false z h e = absurd cc
found_at f k ks tag d c n older out true true false h e = out e
found_at f k ks tag d c n older out true true true h e =
    let same : d ≡ c = cc in
    let z : Some k ≡ None = sym (ap (λ (b : Bool). if b then Some k else catch_at ks d) h) ∙ ap (catch_at (k ∷ ks)) same ∙ n in
    absurd cc

pub found_there : (f : ℕ → Bool) (ks : List Catch) (tag : Word) (d c : ℕ) → tagged f ks tag d ≡ Some c → catch_at ks c ≡ None → ⊥
found_there f [] tag d c e n = absurd cc
found_there f (k ∷ ks) tag d c e n =
    found_at f k ks tag d c n
    (λ g. found_there f ks tag d c g (none_older k ks c n))
    (λ g. found_there f ks tag k.enclosing c g (none_older k ks c n))
    (d == length ks) (f d) (k.open_still && has_tag tag k.tag) refl e

pub known_two : (o : Option (Word × Word)) (a b : Word) (ws : List Word) → MatchOption o ((length ws == 2) ≡ false) (λ w. ws ≡ w.0 ∷ (w.1 ∷ [])) → o ≡ Some (a, b) → ws ≡ a ∷ (b ∷ [])
known_two o a b ws m e = subst (λ x. MatchOption x ((length ws == 2) ≡ false) (λ w. ws ≡ w.0 ∷ (w.1 ∷ []))) e m

pub on_ok : {A E X Y : Type 0} (r : Result A E) → OnOk r X → (X → Y) → OnOk r Y
on_ok (Ok a) x f = f x
on_ok (Err e) x f = x

-- what a throw wants, and how it goes on in a cleanup
pub throws_calmly : (ws : List Word) (tag x : Word) (at : ℕ) → ws ≡ tag ∷ (x ∷ []) → first_future ws ≡ None → throw_want ws at ≡ throws tag x at
throws_calmly ws tag x at e n = ap (λ v. throw_want v at) e ∙ ap (λ o. await_or o at (throws tag x at)) (sym (ap first_future e) ∙ n)

pub aimed_calmly : (s : Setting) (p : ℕ) (h : Shared) (r : Person) (t : Point) (at : ℕ) (a : Aim) → IsAt s.code.now s.names.now s.limits p h r t throw_op at → first_future (words 2 t.stack) ≡ None
    → (code_machine s.code.now.instructions).go t (aimed a) ≡ unwind_point t.place (aim_cleanup a (without_first 2 t.stack))
aimed_calmly s p h r t at a i n =
    let code = s.code.now.instructions in
    go_at s.code.now s.names.now s.limits p t throw_op at i.runs i.here (aimed a)
    ∙ ap (λ o. touch_go code o (words 2 t.stack) (aimed a) t.place (without_first 2 t.stack) (unwind_point t.place (aim_cleanup a (without_first 2 t.stack)))) n

-- the row of a throw
module _ (s : Setting) (p : ℕ) (q : Process Point) (w : World Point Entry) (tag x : Word) (at : ℕ) (want : Want) (is : want ≡ throws tag x at) where
  abbrev N : Machine Point Entry
  N = code_machine s.code.now.instructions

  pub nowhere_is : seen_catch N s.names.now s.limits p q w tag ≡ None → row N s.names.now s.limits p q w want ≡ Some (marked w (fault NoCatch p at))
  nowhere_is e = ap (row N s.names.now s.limits p q w) is ∙ ap (λ o. throw_row N s.names.now s.limits p q w o x at) e

  abbrev after_kill : ℕ → Catch → World Point Entry
  after_kill c k = killed_within N (with_event w (throw_event p c)) c k.owner

  pub throw_is : (c : ℕ) (k : Catch) (b : Bool) → seen_catch N s.names.now s.limits p q w tag ≡ Some c → catch_at w.catches c ≡ Some k → in_cleanup (N.cleanups q.thread) ≡ b
      → row N s.names.now s.limits p q w want ≡ Some (if b then with_thread (after_kill c k) p (N.go q.thread (aimed (to c x))) else owner_aimed N (after_kill c k) k.owner (to c x))
  throw_is c k b e f g =
      ap (row N s.names.now s.limits p q w) is
      ∙ ap (λ o. throw_row N s.names.now s.limits p q w o x at) e
      ∙ ap (λ o. thrown_row N s.names.now s.limits p q w c o x) f
      ∙ ap (λ d. Some (if d then with_thread (after_kill c k) p (N.go q.thread (aimed (to c x))) else owner_aimed N (after_kill c k) k.owner (to c x))) g
