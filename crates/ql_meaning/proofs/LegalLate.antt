-- No process is spawned within a catch after an exit of it or a throw to it.
use Rattle.std.proofs.Common.{◌≡◌, ◌≢◌, ◌⊎◌, ℕ, zero, suc, ◌+◌, ◌<◌, ◌≤◌, ◌==◌, Bool, true, false, not, List, [], ◌∷◌, ◌++◌, length, Option, Some, None, refl, sym, ap, ◌∙◌, subst, ⊎_elim, inl, inr, arith, eqb-true, ne_eqb}
use Rattle.std.proofs.lemmas.Bool.{ltb-true}
use Rattle.std.specs.Prelude.{if◌then◌else◌, ◌&&◌, ◌||◌, leb, map, is_none, slice_get}
use Rattle.ql_base.specs.declared.limits.Limits.{Limits}
use Rattle.ql_world.specs.Word.{is_nil, is_eager}
use Rattle.ql_world.specs.declared.word.Word.{Word}
use Rattle.ql_world.specs.declared.word.Word.TheVariants.{Fun as closure, Proc as process_closure}
use Rattle.ql_world.specs.declared.word.Slot.{Slot}
use Rattle.ql_world.specs.Operator.{computed}
use Rattle.ql_world.specs.declared.operator.Computed.{Computed as Result}
use Rattle.ql_world.specs.declared.operator.Computed.TheVariants.{Gives as gives, Fails as fails, Joins as joins}
use Rattle.ql_world.specs.declared.event.Mode.{Mode}
use Rattle.ql_world.specs.declared.event.Event.{Event}
use Rattle.ql_world.specs.declared.event.Event.TheVariants.{Turn as turn, Spawn as spawn, Opened as opened, Exit as exit, Throw as throw, Land as land, Kill as kill, Protect as protect, Begin as begin, Finish as finish, Send as send, Take as take, Reply as reply, EndOk as end_ok, EndKilled as end_killed, Stopped as stopped}
use Rattle.ql_world.specs.declared.event.Mode.TheVariants.{Let as binding, Call as called, Eager as eager}
use Rattle.ql_world.specs.World.{or_pending, Call, World, numbered, change_numbered, catch_at, closed, process_of, with_event, with_thread}
use Rattle.ql_world.specs.declared.world.FutState.{FutState as Future}
use Rattle.ql_world.specs.declared.world.FutState.TheVariants.{Pending as pending, Value as valued, Dead as dead}
use Rattle.ql_world.specs.declared.world.Aim.{Aim}
use Rattle.ql_world.specs.declared.world.Aim.TheVariants.{Free as free, To as to, Die as die}
use Rattle.ql_world.specs.declared.world.Catch.{Catch}
use Rattle.ql_world.specs.declared.world.Kind.{Kind}
use Rattle.ql_world.specs.declared.world.Kind.TheVariants.{Main as main, Child as child, Closure as serving}
use Rattle.ql_world.specs.declared.world.Process.{Process}
use Rattle.ql_world.specs.Within.{is_over, is_die, is_free, is_live, is_within, tagged}
use Rattle.ql_world.specs.Text.{value_text, short_text}
use Rattle.ql_world.specs.Machine.{Place, held, box, global, Ending, last_form, with_word, unwound, Want, awaits, takes_literal, reads, stores, branches, computes, prints, binds, calls, returns, closes, funcalls, chooses, makes, sends, takes_call, replies, opens, exits, throws, protects, begins, finishes, leaves, ends, rests, Answer, done, got, bound, entered, in_line, unwinds, aimed, Machine}
use Rattle.ql_world.specs.declared.world.Cleanup.{Cleanup}
use Rattle.ql_world.specs.Idle.{acting, in_cleanup, unwinds_at, killed_if_within, killed_among, killed_within}
use Rattle.ql_world.specs.Tick.{words_boxed, or_home, is_seen, landing, has_cells, has_procs, next_futures, with_child, with_children, with_server_made, with_next_call, await_row, of_box, of_global, variable_row, store_row, primitive_row, print_row, bind_row, close_row, enter_row, funcall_row, mode_row, turn_boxes, with_turn, with_owner_aimed, process_row, make_row, with_sent, send_row, taken_row, take_row, with_reply, reply_to, reply_row, open_row, exit_row, thrown_row, throw_row, land_row, leave_row, last_row, end_row, server_row, row}
use Rattle.ql_meaning.specs.Context.{Context}
use Rattle.ql_meaning.specs.Control.{Thread, Closure, finished, cleanups_on, innermost_on, want_of, core_machine}
use Rattle.ql_meaning.specs.Sane.{Mark, catch_mark, protect_mark, cleanup_mark, base_mark, Seen, seen, Server, without_turns, innermost_or, Stands, StandsAbove, Chained, cleanups_of, Among, Aims, Floors, marks_of, doing_of, is_unwinding, Sane, Based}
use Rattle.ql_meaning.proofs.Over.{Falling, catch_low, over_over, over_le, closed_cases, closed_length}
use Rattle.ql_meaning.proofs.Marks.{chained_open, over_innermost, stands_under, home_under, stands_in_line}
use Rattle.ql_meaning.proofs.Lists.{cases, apart, both_true, or_false, not_true, some_same, numbered_pushed, numbered_mapped, numbered_of_mapped, numbered_changed, numbered_of_changed}
use Rattle.ql_meaning.proofs.LegalLines.{opens_in, over_in, Knows}
use Rattle.ql_meaning.proofs.LegalKills.{over_is, abandoned_keeps}
use Rattle.ql_meaning.proofs.LegalWants.{Finished, is_finished_or, finished_where, cleanups_same, is_of_unwinding, is_of_base, works_for, none_runs, top_of_leave, top_of_end}
use Rattle.ql_meaning.proofs.LegalOver.{Found, found, passes}
use Rattle.ql_meaning.proofs.LegalFacts.{innermost_same, here, work, aim_free, live_here, bare_here, owner_alive}
use Rattle.ql_meaning.proofs.LegalLaws.{is_left, NoneLate}
use Rattle.ql_meaning.proofs.LegalGo.{FloorUnder, Under, is_gone, Fits, go_under, finish_goes}

-- catches that a process leaves for

aims_stand : (c : ℕ) (y : Word) (cs : List ℕ) (ms : List Mark) → Aims (to c y) cs ms → Among c cs ⊎ Stands c ms
aims_stand c y cs [] a = inl a
aims_stand c y cs (catch_mark d ∷ ms) a = ⊎_elim (λ t. ⊎_elim (λ e. inr (inl e)) (λ e. inl e) t) (λ t. inr (inr t)) (aims_stand c y (d ∷ cs) ms a)
aims_stand c y cs (protect_mark v ∷ ms) a = aims_stand c y cs ms a
aims_stand c y cs (cleanup_mark v k ∷ ms) a = ⊎_elim (λ t. absurd t) (λ t. inr t) (aims_stand c y [] ms a.1)
aims_stand c y cs (base_mark b ∷ ms) a = aims_stand c y cs ms a

some_cleanup : (c : ℕ) (ks : List Cleanup) → FloorUnder c ks → in_cleanup ks ≡ true
some_cleanup c [] u = absurd u
some_cleanup c (k ∷ ks) u = refl

floor_above : (ks : List Catch) (p h c : ℕ) (cs : List ℕ) (ms : List Mark) → Falling ks → Chained ks p h ms → Floors h cs ms → FloorUnder c (cleanups_of ms) → Stands c ms → StandsAbove c ms
floor_above ks p h c cs [] f k l u s = absurd s
floor_above ks p h c cs (catch_mark d ∷ ms) f k l u s = ⊎_elim (λ t. inl (t, some_cleanup c (cleanups_of ms) u)) (λ t. inr (floor_above ks p h c (d ∷ cs) ms f k.1 l u t)) s
floor_above ks p h c cs (protect_mark v ∷ ms) f k l u s = floor_above ks p h c cs ms f k l u s
floor_above ks p h c cs (cleanup_mark v j ∷ ms) f k l u s =
    ⊎_elim
    (λ (t : j.floor < c). let a = stands_under ks p h c ms f k s in let b = l.1.0 in absurd (omega (arith, a, b, t)))
    (λ t. floor_above ks p h c cs ms f k l.1.1 t s)
    u
floor_above ks p h c cs (base_mark b ∷ ms) f k l u s = floor_above ks p h c cs ms f k l u s

-- the floor of a running cleanup is not below the home
home_floor : (ks : List Catch) (p h : ℕ) (cs : List ℕ) (ms : List Mark) (j : Cleanup) (js : List Cleanup) → Falling ks → Chained ks p h ms → Floors h cs ms → cleanups_of ms ≡ j ∷ js → h ≤ j.floor
home_floor ks p h cs [] j js f k l e = absurd cc
home_floor ks p h cs (catch_mark d ∷ ms) j js f k l e = home_floor ks p h (d ∷ cs) ms j js f k.1 l e
home_floor ks p h cs (protect_mark v ∷ ms) j js f k l e = home_floor ks p h cs ms j js f k l e
home_floor ks p h cs (cleanup_mark v i ∷ ms) j js f k l e =
    let same : i ≡ j = first_same e in
    let a = home_under ks p h ms f k in let b = l.1.0 in
    subst (λ (z : Cleanup). h ≤ z.floor) same (omega (arith, a, b))
  where
    first_same : i ∷ cleanups_of ms ≡ j ∷ js → i ≡ j
    first_same e = cc
home_floor ks p h cs (base_mark b ∷ ms) j js f k l e = home_floor ks p h cs ms j js f k l e

at_changed : {A : Type 0} (g : A → A) (xs : List A) (n : ℕ) (y : A) → numbered (change_numbered g xs n) n ≡ Some y → (x : A) × (numbered xs n ≡ Some x) × (y ≡ g x)
at_changed g xs n y e = let o = numbered_of_changed g xs n n y e in (o.0, o.1, some_same (sym e ∙ numbered_changed g xs n o.0 o.1))

-- what holds of each catch that was left and is still open

abbrev pub IsLeaving : ℕ → Process Thread → Type 0
IsLeaving c r = (r.aim ≡ die) ⊎ (((d : ℕ) × (y : Word) × (r.aim ≡ to d y) × (d ≤ c)) ⊎ Under c r.thread.frames)

-- the same process with this thread
abbrev on_with : Thread → Process Thread → Process Thread
on_with t r = record r { thread = t }

-- a process whose thread runs a cleanup under the catch
under_leaves : (t : Thread) (ps : List (Process Thread)) (n c : ℕ) (r : Process Thread) → numbered (change_numbered (on_with t) ps n) n ≡ Some r → Under c t.frames → IsLeaving c r
under_leaves t ps n c r h un = let o = at_changed (on_with t) ps n r h in inr (inr (subst (λ (z : Process Thread). Under c z.thread.frames) (sym o.2) un))

-- a process that leaves for the catch from now on
aim_leaves : (g : Process Thread → Process Thread) (ps : List (Process Thread)) (n c : ℕ) (y : Word) (r : Process Thread) → ((z : Process Thread) → (g z).aim ≡ to c y) → numbered (change_numbered g ps n) n ≡ Some r → IsLeaving c r
aim_leaves g ps n c y r a h = let o = at_changed g ps n r h in inr (inl (c, y, ap (λ (z : Process Thread). z.aim) o.2 ∙ a o.0, omega arith))

pub record Late (es : List Event) (ps : List (Process Thread)) (cs : List Catch) : Type 0 where
  pub none : NoneLate (without_turns es)
  pub low : (c : ℕ) → is_left c (without_turns es) ≡ true → c < length cs
  -- its owner leaves for it or for one below, or for its end, or opened it in a cleanup that still runs
  pub leaving : (c : ℕ) (k : Catch) → is_left c (without_turns es) ≡ true → catch_at cs c ≡ Some k → k.open_still ≡ true → (0 < c) × ((r : Process Thread) → numbered ps k.owner ≡ Some r → IsLeaving c r)

-- with no catch left besides
moved : (es es' : List Event) (ps ps' : List (Process Thread)) (cs cs' : List Catch) → Late es ps cs → NoneLate (without_turns es') → ((c : ℕ) → is_left c (without_turns es') ≡ true → is_left c (without_turns es) ≡ true) → length cs ≤ length cs'
    → ((c : ℕ) (k' : Catch) → is_left c (without_turns es) ≡ true → catch_at cs' c ≡ Some k' → k'.open_still ≡ true → (k : Catch) × (catch_at cs c ≡ Some k) × (k.open_still ≡ true) × (k.owner ≡ k'.owner))
    → ((c : ℕ) (k : Catch) → is_left c (without_turns es) ≡ true → catch_at cs c ≡ Some k → k.open_still ≡ true → (j : Catch) → catch_at cs' c ≡ Some j → j.open_still ≡ true → (r' : Process Thread) → numbered ps' k.owner ≡ Some r' → (r : Process Thread) × (numbered ps k.owner ≡ Some r) × (IsLeaving c r → IsLeaving c r'))
    → Late es' ps' cs'
moved es es' ps ps' cs cs' l n e h o f = record {
  none = n;
  low = λ c x. let a = l.low c (e c x) in omega (arith, a, h);
  leaving = λ c k' x i w.
      let b = o c k' (e c x) i w in
      let was = l.leaving c b.0 (e c x) b.1 b.2 in
      (was.0, λ r' g. let t = f c b.0 (e c x) b.1 b.2 k' i w r' (subst (λ z. numbered ps' z ≡ Some r') (sym b.3) g) in t.2 (was.1 t.0 t.1));
}

module _ (es : List Event) (ps : List (Process Thread)) (cs : List Catch) (l : Late es ps cs) where
  -- a line that leaves no catch and spawns no process
  abbrev is_plain : Event → Bool
  is_plain (turn p n) = false
  is_plain (spawn p q h mode) = false
  is_plain (exit p c) = false
  is_plain (throw p c) = false
  is_plain e = true

  plainly : (e : Event) → is_plain e ≡ true → Late (e ∷ es) ps cs
  plainly (turn p n) s = absurd cc
  plainly (spawn p q h mode) s = absurd cc
  plainly (exit p c) s = absurd cc
  plainly (throw p c) s = absurd cc
  plainly (opened p c d) s = record { none = l.none; low = l.low; leaving = l.leaving }
  plainly (land p c) s = record { none = l.none; low = l.low; leaving = l.leaving }
  plainly (kill c q) s = record { none = l.none; low = l.low; leaving = l.leaving }
  plainly (protect p v) s = record { none = l.none; low = l.low; leaving = l.leaving }
  plainly (begin p v) s = record { none = l.none; low = l.low; leaving = l.leaving }
  plainly (finish p v) s = record { none = l.none; low = l.low; leaving = l.leaving }
  plainly (send p k n) s = record { none = l.none; low = l.low; leaving = l.leaving }
  plainly (take p k n) s = record { none = l.none; low = l.low; leaving = l.leaving }
  plainly (reply p k n text) s = record { none = l.none; low = l.low; leaving = l.leaving }
  plainly (end_ok p text) s = record { none = l.none; low = l.low; leaving = l.leaving }
  plainly (end_killed p) s = record { none = l.none; low = l.low; leaving = l.leaving }
  plainly (stopped why) s = record { none = l.none; low = l.low; leaving = l.leaving }

  -- a process changes
  altered : (g : Process Thread → Process Thread) (n : ℕ) → ((c : ℕ) (k : Catch) → is_left c (without_turns es) ≡ true → catch_at cs c ≡ Some k → k.open_still ≡ true → k.owner ≡ n → (r : Process Thread) → numbered ps n ≡ Some r → IsLeaving c r → IsLeaving c (g r)) → Late es (change_numbered g ps n) cs
  altered g n keep = moved es es ps (change_numbered g ps n) cs cs l l.none (λ c x. x) (omega arith) (λ c k x i w. (k, i, w, refl))
      (λ c k x i w j ji jw r' h.
      let o = numbered_of_changed g ps n k.owner r' h in (
        o.0,
        o.1,
        ⊎_elim
            (λ (t : (k.owner ≡ n) × (r' ≡ g o.0)). λ was. subst (IsLeaving c) (sym t.1) (keep c k x i w t.0 o.0 (subst (λ z. numbered ps z ≡ Some o.0) t.0 o.1) was))
            (λ (t : r' ≡ o.0). λ was. subst (IsLeaving c) (sym t) was)
            o.2,
      ))

  catch_shut : (e : ℕ) → Late es ps (closed cs e)
  catch_shut e = moved es es ps ps cs (closed cs e) l l.none (λ c x. x) (let s = closed_length cs e in omega (arith, s))
      (λ c k' x i w.
      let o = closed_cases cs e c k' i in
      ⊎_elim
      (λ (t : (c ≡ e) × (k' ≡ record o.0 { open_still = false })). let bad : true ≡ false = sym w ∙ ap (λ (z : Catch). z.open_still) t.1 in absurd cc)
      (λ (t : (c ≢ e) × (k' ≡ o.0)). (o.0, o.1, ap (λ (z : Catch). z.open_still) (sym t.1) ∙ w, ap (λ (z : Catch). z.owner) (sym t.1)))
      o.2)
      (λ c k x i w j ji jw r' h. (r', h, λ was. was))

  -- a process more; the owners of open catches are there
  grown : (q : Process Thread) → ((c : ℕ) (k : Catch) → 0 < c → catch_at cs c ≡ Some k → k.open_still ≡ true → (r : Process Thread) × (numbered ps k.owner ≡ Some r)) → Late es (ps ++ q ∷ []) cs
  grown q owned = moved es es ps (ps ++ q ∷ []) cs cs l l.none (λ c x. x) (omega arith) (λ c k x i w. (k, i, w, refl))
      (λ c k x i w j ji jw r' h.
      let r = owned c k (l.leaving c k x i w).0 i w in
      let same : r.0 ≡ r' = some_same (sym (numbered_pushed ps q k.owner r.0 r.1) ∙ h) in
      (r.0, r.1, λ was. subst (IsLeaving c) same was))

  -- a catch more
  opened_late : (k : Catch) → Late es ps (k ∷ cs)
  opened_late k = moved es es ps ps cs (k ∷ cs) l l.none (λ c x. x) (omega arith)
      (λ c k' x i w. let a = l.low c x in let n : (c == length cs) ≡ false = ne_eqb _ _ (λ z. omega (arith, a, z)) in (k', rw n at i, w, refl))
      (λ c k x i w j ji jw r' h. (r', h, λ was. was))

-- kills

pub record Spared (owner : ℕ) (es : List Event) (ps : List (Process Thread)) (cs : List Catch) (es' : List Event) (ps' : List (Process Thread)) (cs' : List Catch) : Type 0 where
  pub left : (c : ℕ) → is_left c (without_turns es') ≡ is_left c (without_turns es)
  pub none : NoneLate (without_turns es) → NoneLate (without_turns es')
  pub catches : cs' ≡ cs
  -- each process is as before, or was killed and is not the owner
  pub fate : (n : ℕ) (r' : Process Thread) → numbered ps' n ≡ Some r' → (r : Process Thread) × (numbered ps n ≡ Some r) × ((r' ≡ r) ⊎ ((n ≢ owner) × (r'.aim ≡ die)))

module _ (m : Machine Thread Closure) (c owner : ℕ) (w : World Thread Closure) where
  abbrev Sparing : List Event → List (Process Thread) → List Catch → Type 0
  Sparing es ps cs = Spared owner w.events w.procs w.catches es ps cs

  spare_one : (n : ℕ) (v : World Thread Closure) → Sparing v.events v.procs v.catches → (o : Option (Process Thread)) → numbered v.procs n ≡ o
      → Sparing (killed_if_within m v c owner n o).events (killed_if_within m v c owner n o).procs (killed_if_within m v c owner n o).catches
  spare_one n v s None e = s
  spare_one n v s (Some q) e =
      ⊎_elim
      (λ (t : (is_live q && (is_within v.catches q c && not (n == owner))) ≡ true).
      let other : n ≢ owner = apart n owner (not_true _ (both_true _ _ (both_true _ _ t).1).1) in
      let done : Sparing (kill c n ∷ v.events) (change_numbered (λ r. record r { aim = die; thread = unwinds_at m r.thread }) v.procs n) v.catches = record {
        left = s.left;
        none = s.none;
        catches = s.catches;
        fate = λ j r' h.
            let o = numbered_of_changed (λ (r : Process Thread). record r { aim = die; thread = unwinds_at m r.thread }) v.procs n j r' h in
            let f = s.fate j o.0 o.1 in (
              f.0,
              f.1,
              ⊎_elim
                  (λ (z : (j ≡ n) × (r' ≡ record o.0 { aim = die; thread = unwinds_at m o.0.thread })). inr ((λ y. other (sym z.0 ∙ y)), ap (λ (y : Process Thread). y.aim) z.1))
                  (λ (z : r' ≡ o.0). ⊎_elim (λ y. inl (z ∙ y)) (λ y. inr (y.0, ap (λ (a : Process Thread). a.aim) z ∙ y.1)) f.2)
                  o.2,
            );
      } in
      rw t (abandoned_keeps m Sparing (with_event (record v { procs = change_numbered (λ r. record r { aim = die; thread = unwinds_at m r.thread }) v.procs n }) (kill c n)) q.kind done))
      (λ (t : (is_live q && (is_within v.catches q c && not (n == owner))) ≡ false). rw t s)
      (cases (is_live q && (is_within v.catches q c && not (n == owner))))

  pub spare_all : (n : ℕ) → Sparing (killed_among m w c owner n).events (killed_among m w c owner n).procs (killed_among m w c owner n).catches
  spare_all zero = record { left = λ d. refl; none = λ h. h; catches = refl; fate = λ j r' h. (r', h, inl refl) }
  spare_all (suc n) = spare_one (suc n) (killed_among m w c owner n) (spare_all n) (numbered (killed_among m w c owner n).procs (suc n)) refl

-- the same lines as far as it matters here
retold : (es es' : List Event) (ps : List (Process Thread)) (cs : List Catch) → ((c : ℕ) → is_left c (without_turns es') ≡ is_left c (without_turns es)) → (NoneLate (without_turns es) → NoneLate (without_turns es')) → Late es ps cs → Late es' ps cs
retold es es' ps cs e n l = record { none = n l.none; low = λ c x. l.low c (sym (e c) ∙ x); leaving = λ c k x i w. l.leaving c k (sym (e c) ∙ x) i w }

-- one more catch was left
module _ (es : List Event) (ps : List (Process Thread)) (cs : List Catch) (l : Late es ps cs) (c : ℕ) (low : c < length cs) (new : (k : Catch) → catch_at cs c ≡ Some k → k.open_still ≡ true → (0 < c) × ((r : Process Thread) → numbered ps k.owner ≡ Some r → IsLeaving c r)) where
  left_more : (es' : List Event) → NoneLate (without_turns es') → ((d : ℕ) → is_left d (without_turns es') ≡ (if d == c then true else is_left d (without_turns es))) → Late es' ps cs
  left_more es' n e = record {
    none = n;
    low = λ d x. ⊎_elim
        (λ (t : (d == c) ≡ true). let same = eqb-true d c t in omega (arith, same, low))
        (λ (t : (d == c) ≡ false). l.low d (rw t at (sym (e d) ∙ x)))
        (cases (d == c));
    leaving = λ d k x i w. ⊎_elim
        (λ (t : (d == c) ≡ true).
        let same : c ≡ d = sym (eqb-true d c t) in
        subst (λ z. (0 < z) × ((r : Process Thread) → numbered ps k.owner ≡ Some r → IsLeaving z r)) same (new k (subst (λ z. catch_at cs z ≡ Some k) (sym same) i) w))
        (λ (t : (d == c) ≡ false). l.leaving d k (rw t at (sym (e d) ∙ x)) i w)
        (cases (d == c));
  }

-- after kills
spared_late : (owner : ℕ) (es es' fs : List Event) (ps ps' : List (Process Thread)) (cs cs' : List Catch) → Late es ps cs → Spared owner fs ps cs es' ps' cs' → Late es ps' cs
spared_late owner es es' fs ps ps' cs cs' l s = moved es es ps ps' cs cs l l.none (λ c x. x) (omega arith) (λ c k x i w. (k, i, w, refl))
    (λ c k x i w j ji jw r' h.
    let f = s.fate k.owner r' h in
    (f.0, f.1, λ was. ⊎_elim (λ (t : r' ≡ f.0). subst (IsLeaving c) (sym t) was) (λ t. inl t.1) f.2))

shut_now : (cs : List Catch) (c : ℕ) (k : Catch) → catch_at (closed cs c) c ≡ Some k → k.open_still ≡ true → ⊥
shut_now cs c k e w =
    let o = closed_cases cs c c k e in
    ⊎_elim
    (λ (t : (c ≡ c) × (k ≡ record o.0 { open_still = false })). let bad : true ≡ false = sym w ∙ ap (λ (z : Catch). z.open_still) t.1 in absurd cc)
    (λ t. absurd (t.0 refl))
    o.2

catch_there : (cs : List Catch) (c : ℕ) → c < length cs → (k : Catch) × (catch_at cs c ≡ Some k)
catch_there [] c l = absurd (omega (arith, l))
catch_there (j ∷ cs) c l =
    ⊎_elim
    (λ (t : (c == length cs) ≡ true). (j, rw t refl))
    (λ (t : (c == length cs) ≡ false). let n = apart _ _ t in let r = catch_there cs c (omega (arith, l, n)) in (r.0, rw t r.1))
    (cases (c == length cs))

module _ (x : Context) (names : List (List ℕ)) (limits : Limits) (u : World Thread Closure) (sane : Sane u) (knows : Knows u.events u.procs u.catches) (late : Late u.events u.procs u.catches) where
  abbrev m : Machine Thread Closure
  m = core_machine x

  abbrev news : List Event
  news = without_turns u.events

  abbrev marks : Process Thread → List Mark
  marks r = marks_of r.thread.control r.thread.frames

  -- the owner of an open catch, with the catch on its frames
  owner_there : (c : ℕ) (k : Catch) → 0 < c → catch_at u.catches c ≡ Some k → k.open_still ≡ true → (r : Process Thread) × (numbered u.procs k.owner ≡ Some r) × Stands c (marks r)
  owner_there c k l e w =
      let s = sane.catches.stands c k e w l in
      let r = numbered_of_mapped seen u.procs k.owner s.0 s.1 in
      (r.0, r.1, subst (λ (z : Seen). Stands c z.thread.marks) r.2 s.2)

  abbrev Free : Process Thread → Type 0
  Free r = (is_free r.aim ≡ true) × (cleanups_on r.thread.frames ≡ [])

  free_not_leaving : (c : ℕ) (r : Process Thread) → Free r → IsLeaving c r → ⊥
  free_not_leaving c r f h =
      ⊎_elim
      (λ (t : r.aim ≡ die). let bad : false ≡ true = sym (ap is_free t) ∙ f.0 in absurd cc)
      (λ t. ⊎_elim
      (λ (s : (d : ℕ) × (y : Word) × (r.aim ≡ to d y) × (d ≤ c)). let bad : false ≡ true = sym (ap is_free s.2) ∙ f.0 in absurd cc)
      (λ (s : Under c r.thread.frames). subst (FloorUnder c) f.1 s)
      t)
      h

  -- a process with a catch on its frames has not ended
  stands_at_work : (n c : ℕ) (r : Process Thread) → numbered u.procs n ≡ Some r → Stands c (marks r) → r.ended ≡ false
  stands_at_work n c r e s =
      ⊎_elim
      (λ (t : r.ended ≡ true). absurd (subst (Stands c) (sane.catches.bare n (seen r) (numbered_mapped seen u.procs n r e) t) s))
      (λ t. t)
      (cases r.ended)

  -- and it is not after its last top form
  unfinished_where_stands : (n c : ℕ) (r : Process Thread) → numbered u.procs n ≡ Some r → Stands c (marks r) → Finished r.thread.control → ⊥
  unfinished_where_stands n c r e s f =
      let w = sane.work n (seen r) (numbered_mapped seen u.procs n r e) (stands_at_work n c r e s) in
      let b : Based r.kind (marks_of finished r.thread.frames) = subst (λ z. Based r.kind (marks_of z r.thread.frames)) f w.based in
      subst (Stands c) b.1 (subst (λ z. Stands c (marks_of z r.thread.frames)) f s)

  -- the catch that a process leaves for stands on its frames, and no live process is within it
  aimed_stands : (n c d : ℕ) (y : Word) (r : Process Thread) → numbered u.procs n ≡ Some r → Stands c (marks r) → r.aim ≡ to d y → Stands d (marks r)
  aimed_stands n c d y r e s a =
      let aims : Aims r.aim [] (marks r) = sane.aims.aims n (seen r) (numbered_mapped seen u.procs n r e) in
      ⊎_elim (λ t. absurd t) (λ t. t) (aims_stand d y [] (marks r) (subst (λ z. Aims z [] (marks r)) a aims))

  -- no live process is within a catch that was left
  none_within : (c : ℕ) → is_left c news ≡ true → (i : ℕ) (s : Process Thread) → numbered u.procs i ≡ Some s → is_live (seen s) ≡ true → is_over u.catches c s.home ≡ true → ⊥
  none_within c x i s e live o =
      let k = catch_there u.catches c (late.low c x) in
      let is : numbered (map seen u.procs) i ≡ Some (seen s) = numbered_mapped seen u.procs i s e in
      let open_now : k.0.open_still ≡ true = sane.empty.closed i (seen s) c k.0 is live o k.1 in
      let l = late.leaving c k.0 x k.1 open_now in
      let r = owner_there c k.0 l.0 k.1 open_now in
      let ris : numbered (map seen u.procs) k.0.owner ≡ Some (seen r.0) = numbered_mapped seen u.procs k.0.owner r.0 r.1 in
      ⊎_elim
      (λ (t : r.0.aim ≡ die). not_both o (sane.aims.dying k.0.owner (seen r.0) c ris t r.2 i (seen s) is live))
      (λ t. ⊎_elim
      (λ (z : (d : ℕ) × (y : Word) × (r.0.aim ≡ to d y) × (d ≤ c)).
      let st = aimed_stands k.0.owner c z.0 z.1 r.0 r.1 r.2 z.2 in
      let line : is_over u.catches z.0 c ≡ true = stands_in_line u.catches k.0.owner r.0.home z.0 c (marks r.0) sane.homes.falling (sane.catches.chained k.0.owner (seen r.0) ris) st r.2 z.3 in
      not_both (over_over u.catches z.0 c s.home sane.homes.falling line o) (sane.aims.leaving k.0.owner (seen r.0) z.0 z.1 ris z.2 i (seen s) is live))
      (λ (z : Under c r.0.thread.frames).
      let above : StandsAbove c (marks r.0) = floor_above u.catches k.0.owner r.0.home c [] (marks r.0) sane.homes.falling (sane.catches.chained k.0.owner (seen r.0) ris) (sane.aims.floors k.0.owner (seen r.0) ris) (subst (FloorUnder c) (sym (cleanups_same r.0.thread.control r.0.thread.frames (unfinished_where_stands k.0.owner c r.0 r.1 r.2))) z) r.2 in
      not_both o (sane.empty.fresh k.0.owner (seen r.0) c ris above i (seen s) is))
      t)
      (l.1 r.0 r.1)
    where
      not_both : {b : Bool} → b ≡ true → b ≡ false → ⊥
      not_both s t = let bad : true ≡ false = sym s ∙ t in absurd cc

  module _ (p : ℕ) (q : Process Thread) (at : numbered u.procs p ≡ Some q) (at_work : q.ended ≡ false) where
    pub record Fresh (v : World Thread Closure) : Type 0 where
      pub is : Late v.events v.procs v.catches

    abbrev pub AllFresh : Option (World Thread Closure) → Type 0
    AllFresh None = Unit {0}
    AllFresh (Some v) = Fresh v

    -- a process that comes to its end has no catch on its frames
    no_catch : (ending : Ending) → want_of x q.thread.control q.thread.frames ≡ ends ending → (d : ℕ) (k : Catch) → is_left d news ≡ true → catch_at u.catches d ≡ Some k → k.open_still ≡ true → k.owner ≡ p → ⊥
    no_catch ending e d k l i o own =
        let there = owner_there d k (late.leaving d k l i o).0 i o in
        let st : Stands d (marks q) = subst (λ (z : Process Thread). Stands d (marks z)) (some_same (sym there.1 ∙ ap (λ z. numbered u.procs z) own ∙ at)) there.2 in
        let top = top_of_end x q.kind q.thread.control q.thread.frames ending e (work x u sane knows p q at at_work).based in
        subst (Stands d) top.1 st

    -- the process ends, and its thread is another
    ended_late : (ending : Ending) → want_of x q.thread.control q.thread.frames ≡ ends ending → (ps : List (Process Thread)) → Late u.events ps u.catches → (t : Thread) → Late u.events (change_numbered (λ r. record r { thread = t }) (change_numbered (λ r. record r { ended = true }) ps p) p) u.catches
    ended_late ending e ps h t =
        altered u.events _ u.catches (altered u.events ps u.catches h (λ r. record r { ended = true }) p (λ d k l i o own r g was. absurd (no_catch ending e d k l i o own))) (λ r. record r { thread = t }) p
        (λ d k l i o own r g was. absurd (no_catch ending e d k l i o own))

    last_late : want_of x q.thread.control q.thread.frames ≡ ends last_form → Fresh (last_row m names limits p q u)
    last_late e =
        let s : Spared p (exit p 0 ∷ u.events) u.procs u.catches (killed_within m (with_event u (exit p 0)) 0 p).events (killed_within m (with_event u (exit p 0)) 0 p).procs (killed_within m (with_event u (exit p 0)) 0 p).catches = spare_all m 0 p (with_event u (exit p 0)) (length u.procs) in
        let a : Late u.events (killed_within m (with_event u (exit p 0)) 0 p).procs u.catches = spared_late _ _ _ _ _ _ _ _ late s in
        let b = ended_late last_form e (killed_within m (with_event u (exit p 0)) 0 p).procs a (m.go q.thread done) in
        let d = catch_shut _ _ _ b 0 in
        let some : 0 < length (closed u.catches 0) = (let z = closed_length u.catches 0 in let r = sane.homes.made p (seen q) (here x u sane knows p q at at_work) in omega (arith, z, r)) in
        let f : Late (exit p 0 ∷ u.events) _ (closed u.catches 0) = left_more _ _ _ d 0 some (λ k' i w. absurd (shut_now u.catches 0 k' i w)) (exit p 0 ∷ u.events) late.none (λ z. refl) in
        let g : Late (killed_within m (with_event u (exit p 0)) 0 p).events _ (closed u.catches 0) = retold _ _ _ _ s.left s.none f in
        let h : Late (end_ok p None ∷ (killed_within m (with_event u (exit p 0)) 0 p).events) _ (closed u.catches 0) = plainly _ _ _ g (end_ok p None) refl in
        record { is = subst (λ (z : List Catch). Late (end_ok p None ∷ (killed_within m (with_event u (exit p 0)) 0 p).events) (change_numbered (λ r. record r { thread = m.go q.thread done }) (change_numbered (λ r. record r { ended = true }) (killed_within m (with_event u (exit p 0)) 0 p).procs p) p) (closed z 0)) (sym s.catches) h }

    module _ (nf : Finished q.thread.control → ⊥) where
      abbrev cleans : Bool
      cleans = in_cleanup (cleanups_on q.thread.frames)

      abbrev home : ℕ
      home = or_home (innermost_on q.thread.frames) q.home

      abbrev works : Type 0
      works = is_unwinding (doing_of q.thread.control) ≡ false

      free_here : cleanups_on q.thread.frames ≡ [] → works → Free q
      free_here n h = (aim_free x u sane knows p q at at_work nf n h, n)

      chained_here : Chained u.catches p q.home (marks q)
      chained_here = sane.catches.chained p (seen q) (here x u sane knows p q at at_work)

      -- a catch that was left is not round a process that is to spawn
      outside : cleanups_on q.thread.frames ≡ [] → works → (c : ℕ) → is_left c news ≡ true → over_in (opens_in news) c home ≡ false
      outside n h c l = deny (over_in (opens_in news) c home) (λ t.
          let o : is_over u.catches c home ≡ true = sym (over_is u.catches c home) ∙ ap (λ (os : List (ℕ × ℕ)). over_in os c home) (sym knows.opens) ∙ t in
          let o' : is_over u.catches c (innermost_or q.home (marks q)) ≡ true = subst (λ z. is_over u.catches c z ≡ true) (sym (innermost_same q.home q.thread.control q.thread.frames nf)) o in
          ⊎_elim
          (λ (s : Stands c (marks q)).
          let i = chained_open u.catches p q.home c (marks q) s chained_here in
          let was = late.leaving c i.1.kept l i.1.is i.1.open_still in
          free_not_leaving c q (free_here n h) (was.1 q (subst (λ z. numbered u.procs z ≡ Some q) (sym i.1.owner) at)))
          (λ (s : is_over u.catches c q.home ≡ true). none_within c l p q at (live_here x u sane knows p q at at_work nf n h) s)
          (over_innermost u.catches p q.home c (marks q) sane.homes.falling chained_here o'))
        where
          deny : (b : Bool) → (b ≡ true → ⊥) → b ≡ false
          deny true n = absurd (n refl)
          deny false n = refl

      alike : (v : World Thread Closure) → v.events ≡ u.events → v.procs ≡ u.procs → v.catches ≡ u.catches → Fresh v
      alike v e f g = record { is = subst (λ (z : List Event). Late z v.procs v.catches) (sym e) (subst (λ (z : List (Process Thread)). Late u.events z v.catches) (sym f) (subst (λ (z : List Catch). Late u.events u.procs z) (sym g) late)) }

      abbrev Unders : Thread → Type 0
      Unders t = (c : ℕ) → Under c q.thread.frames → Under c t.frames

      unders : (want : Want) → want_of x q.thread.control q.thread.frames ≡ want → is_gone want ≡ false → (a : Answer Closure) → Fits want a → Unders (m.go q.thread a)
      unders want e g a f c h = go_under x c q.kind q.thread.control q.thread.frames a (work x u sane knows p q at at_work).based (ap is_gone e ∙ g) (subst (λ z. Fits z a) (sym e) f) h

      on_thread : (v : World Thread Closure) → Fresh v → ((r : Process Thread) → numbered v.procs p ≡ Some r → (r ≡ q) ⊎ (r.aim ≡ die)) → (t : Thread) → Unders t → Fresh (with_thread v p t)
      on_thread v h mine t un = record {
        is = altered v.events v.procs v.catches h.is (λ r. record r { thread = t }) p
            (λ c k l i w o r e was. ⊎_elim
            (λ (s : r ≡ q). ⊎_elim (λ y. inl y) (λ y. ⊎_elim (λ z. inr (inl z)) (λ (z : Under c r.thread.frames). inr (inr (un c (subst (λ (a : Process Thread). Under c a.thread.frames) s z)))) y) was)
            (λ s. inl s)
            (mine r e));
      }

      still : (r : Process Thread) → numbered u.procs p ≡ Some r → (r ≡ q) ⊎ (r.aim ≡ die)
      still r e = inl (some_same (sym e ∙ at))

      goes_on : (v : World Thread Closure) (a : Answer Closure) → Unders (m.go q.thread a) → Fresh v → v.procs ≡ u.procs → Fresh (with_thread v p (m.go q.thread a))
      goes_on v a un h f = on_thread v h (λ r e. still r (ap (λ (z : List (Process Thread)). numbered z p) (sym f) ∙ e)) (m.go q.thread a) un

      quietly : (v : World Thread Closure) (a : Answer Closure) → Unders (m.go q.thread a) → v.events ≡ u.events → v.procs ≡ u.procs → v.catches ≡ u.catches → Fresh (with_thread v p (m.go q.thread a))
      quietly v a un e f g = goes_on v a un (alike v e f g) f

      choose : (b : Bool) (v w : World Thread Closure) → (b ≡ true → Fresh v) → (b ≡ false → Fresh w) → Fresh (if b then v else w)
      choose true v w f g = f refl
      choose false v w f g = g refl

      choose_some : (b : Bool) (v w : Option (World Thread Closure)) → (b ≡ true → AllFresh v) → (b ≡ false → AllFresh w) → AllFresh (if b then v else w)
      choose_some true v w f g = f refl
      choose_some false v w f g = g refl

      abbrev Goes : Type 0
      Goes = (a : Answer Closure) → Unders (m.go q.thread a)

      -- rows without lines

      awaits_row : (s : Future) (at : ℕ) → ((y : Word) → Unders (m.go q.thread (got y))) → AllFresh (await_row m names limits p q u s at)
      awaits_row pending at un = tt
      awaits_row (valued y) at un = quietly u (got y) (un y) refl refl refl
      awaits_row dead at un = alike _ refl refl refl

      module _ (un : Goes) where
        box_row : (o : Option Word) → AllFresh (of_box m names limits p q u o)
        box_row None = tt
        box_row (Some y) = quietly u (got y) (un _) refl refl refl

        global_row : (o : Option (Option Word)) (at : ℕ) → AllFresh (of_global m names limits p q u o at)
        global_row None at = tt
        global_row (Some None) at = alike _ refl refl refl
        global_row (Some (Some y)) at = quietly u (got y) (un _) refl refl refl

        reads_row : (place : Place) (at : ℕ) → AllFresh (variable_row m names limits p q u place at)
        reads_row held at = quietly u done (un _) refl refl refl
        reads_row (box n) at = box_row (slice_get u.boxes n)
        reads_row (global g) at = global_row (slice_get u.globals g) at

        stores_row : (place : Place) (y : Word) → AllFresh (store_row m names limits p q u place y)
        stores_row held y = tt
        stores_row (box n) y = quietly _ done (un _) refl refl refl
        stores_row (global g) y = quietly _ done (un _) refl refl refl

        computes_row : (o : Option Result) (at : ℕ) → AllFresh (primitive_row m names limits p q u o at)
        computes_row None at = tt
        computes_row (Some (gives y)) at = quietly u (got y) (un _) refl refl refl
        computes_row (Some (fails kind)) at = alike _ refl refl refl
        computes_row (Some (joins a b)) at = choose_some (has_cells limits u 1) _ _ (λ e. quietly _ _ (un _) refl refl refl) (λ e. alike _ refl refl refl)

        prints_row : (text : List ℕ) → Fresh (print_row m names limits p q u text)
        prints_row text = choose (leb (length u.output + length text) limits.output) _ _ (λ e. quietly _ done (un _) refl refl refl) (λ e. alike _ refl refl refl)

        binds_row : (bs : List Bool) (xs : List Word) (answer : List Slot → Answer Closure) → Fresh (bind_row m names limits p q u bs xs answer)
        binds_row bs xs answer = choose (has_cells limits u (length (words_boxed bs xs))) _ _ (λ e. quietly _ _ (un _) refl refl refl) (λ e. alike _ refl refl refl)

        closes_row : (o : Option Closure) → AllFresh (close_row m names limits p q u o)
        closes_row None = tt
        closes_row (Some k) = choose_some (has_cells limits u 1) _ _ (λ e. quietly _ _ (un _) refl refl refl) (λ e. alike _ refl refl refl)

        enters_row : (o : Option Closure) (xs : List Word) (at : ℕ) → AllFresh (enter_row m names limits p q u o xs at)
        enters_row None xs at = tt
        enters_row (Some k) xs at = choose_some (length xs == length (m.stored k)) _ _ (λ e. binds_row (m.stored k) xs (entered k)) (λ e. alike _ refl refl refl)

        funcalls_row : (y : Word) (xs : List Word) (at : ℕ) → AllFresh (funcall_row m names limits p q u y xs at)
        funcalls_row (closure n) xs at = enters_row (numbered u.closures n) xs at
        funcalls_row (process_closure n) xs at = alike _ refl refl refl
        funcalls_row y xs at = alike _ refl refl refl

      -- processes are made

      spawned_late : (es : List Event) (ps : List (Process Thread)) (cs : List Catch) → Late es ps cs → (r n h : ℕ) (mode : Mode) → ((c : ℕ) → is_left c (without_turns es) ≡ true → over_in (opens_in (without_turns es)) c h ≡ false) → Late (spawn r n h mode ∷ es) ps cs
      spawned_late es ps cs l r n h mode o = record { none = (o, l.none); low = l.low; leaving = l.leaving }

      abbrev Owned : World Thread Closure → Type 0
      Owned v = (c : ℕ) (k : Catch) → 0 < c → catch_at v.catches c ≡ Some k → k.open_still ≡ true → (r : Process Thread) × (numbered v.procs k.owner ≡ Some r)

      owned : Owned u
      owned c k l e w = let r = owner_there c k l e w in (r.0, r.1)

      children_row : (ts : List Thread) (v : World Thread Closure) → Fresh v → Owned v → ((r : Process Thread) → numbered v.procs p ≡ Some r → r ≡ q) → numbered v.procs p ≡ Some q → ((c : ℕ) → is_left c (without_turns v.events) ≡ true → over_in (opens_in (without_turns v.events)) c home ≡ false)
          → Fresh (with_children v p home ts) × ((r : Process Thread) → numbered (with_children v p home ts).procs p ≡ Some r → r ≡ q)
      children_row [] v h w me there o = (h, me)
      children_row (t ∷ ts) v h w me there o =
          children_row ts (with_child v p home t)
          (record { is = spawned_late v.events _ v.catches (grown v.events v.procs v.catches h.is _ w) p _ home binding o })
          (λ c k l e y. let r = w c k l e y in (r.0, numbered_pushed v.procs _ k.owner r.0 r.1))
          (λ r e. some_same (sym e ∙ numbered_pushed v.procs _ p q there))
          (numbered_pushed v.procs _ p q there)
          o

      chooses_row : (un : Goes) (y : Word) (ts : List Thread) → works → Fresh (mode_row m names limits p q u y ts)
      chooses_row un y ts w =
          choose (is_nil y || cleans) _ _ (λ e. quietly u in_line (un _) refl refl refl)
          (λ e. choose (has_procs limits u (length ts)) _ _
          (λ f.
          let c = children_row ts u (record { is = late }) owned (λ r g. some_same (sym g ∙ at)) at (outside (none_runs x _ (or_false _ _ e).1) w) in
          on_thread (with_children u p home ts) c.0 (λ r g. inl (c.1 r g)) _ (un _))
          (λ f. alike _ refl refl refl))

      made_row : (v : World Thread Closure) (k : Closure) (e : Bool) (fs : List ℕ) (t : Thread) (a : Answer Closure) → Unders (m.go q.thread a) → v.events ≡ u.events → v.procs ≡ u.procs → v.catches ≡ u.catches → cleans ≡ false → works
          → Fresh (with_thread (with_server_made v p home k e fs t) p (m.go q.thread a))
      made_row v k e fs t a un f g h n w =
          let first : Late u.events (v.procs ++ process_of home (serving (length v.servers + 1)) t ∷ []) v.catches =
          subst (λ (z : List (Process Thread)). Late u.events (z ++ process_of home (serving (length v.servers + 1)) t ∷ []) v.catches) (sym g)
          (subst (λ (z : List Catch). Late u.events (u.procs ++ process_of home (serving (length v.servers + 1)) t ∷ []) z) (sym h) (grown u.events u.procs u.catches late _ owned)) in
          let second : Fresh (with_server_made v p home k e fs t) =
          record { is = subst (λ (z : List Event). Late (spawn p (length v.procs + 1) home (if e then eager (length v.servers + 1) else called (length v.servers + 1)) ∷ z) (v.procs ++ process_of home (serving (length v.servers + 1)) t ∷ []) v.catches) (sym f) (spawned_late u.events _ v.catches first p _ home _ (outside (none_runs x _ n) w)) } in
          on_thread (with_server_made v p home k e fs t) second (λ r y. inl (some_same (sym y ∙ numbered_pushed v.procs _ p q (ap (λ (z : List (Process Thread)). numbered z p) g ∙ at)))) (m.go q.thread a) un

      makes_row : (un : Goes) (y : Word) (o : Option Closure) → works → AllFresh (make_row m names limits p q u y o)
      makes_row un y o w =
          choose_some (is_nil y || cleans) _ _ (λ e. closes_row un o) (λ e. processes o (or_false _ _ e).1)
        where
          processes : (o : Option Closure) → cleans ≡ false → AllFresh (process_row m names limits p q u (is_eager y) o)
          processes None n = tt
          processes (Some k) n =
              choose_some (has_procs limits u 1) _ _
              (λ e. choose (is_eager y) _ _
              (λ f. choose (has_cells limits u (length (turn_boxes m names limits p q u k))) _ _
              (λ g. made_row (with_turn m names limits p q u k) k true _ _ _ (un _) refl refl refl n w)
              (λ g. alike _ refl refl refl))
              (λ f. made_row u k false _ _ _ (un _) refl refl refl n w))
              (λ e. alike _ refl refl refl)

      -- calls

      sent_late : (futures : List Future) (k : ℕ) (s : Server) (c : Call) → Fresh (with_sent m names limits p q (record u { futures = futures }) k s c) × ((with_sent m names limits p q (record u { futures = futures }) k s c).procs ≡ u.procs)
      sent_late futures k s c = by_test (s.eager && is_none s.current) refl
        where
          sent_line : Late (send p k c.number ∷ u.events) u.procs u.catches
          sent_line = plainly u.events u.procs u.catches late (send p k c.number) refl

          by_test : (b : Bool) → (s.eager && is_none s.current) ≡ b → Fresh (with_sent m names limits p q (record u { futures = futures }) k s c) × ((with_sent m names limits p q (record u { futures = futures }) k s c).procs ≡ u.procs)
          by_test true t = rw t (record { is = plainly _ u.procs u.catches sent_line (take s.process k c.number) refl }, refl)
          by_test false t = rw t (record { is = sent_line }, refl)

      sends_row : (un : Goes) (k : ℕ) (o : Option Server) (xs : List Word) (used : Bool) (at : ℕ) → AllFresh (send_row m names limits p q u k o xs used at)
      sends_row un k None xs used at = tt
      sends_row un k (Some s) xs used at =
          choose_some (not (length xs == length (m.stored s.body))) _ _
          (λ t. alike _ refl refl refl)
          (λ t. choose_some s.dead _ _ (λ d. alike _ refl refl refl)
          (λ d. choose used _ _
          (λ b. let h = sent_late _ k s _ in goes_on _ _ (un _) h.0 h.1)
          (λ b. let h = sent_late u.futures k s _ in goes_on _ _ (un _) h.0 h.1)))

      -- a process that runs no cleanup may stand anywhere
      bare_unders : (t : Thread) → cleanups_on q.thread.frames ≡ [] → Unders t
      bare_unders t n c h = absurd (subst (FloorUnder c) n h)

      takes_row : (k : ℕ) (o : Option Server) → cleanups_on q.thread.frames ≡ [] → AllFresh (take_row m names limits p q u k o)
      takes_row k None n = tt
      takes_row k (Some s) n = taking s.queue
        where
          taking : (cs : List Call) → AllFresh (taken_row m names limits p q u k s cs)
          taking [] = tt
          taking (c ∷ cs) =
              choose_some (has_cells limits u (length (words_boxed (m.stored s.body) c.arguments))) _ _
              (λ t. record { is = altered_here (take p k c.number) refl _ })
              (λ t. alike _ refl refl refl)
            where
              altered_here : (e : Event) → is_plain u.events u.procs u.catches late e ≡ true → (t : Thread) → Late (e ∷ u.events) (change_numbered (λ r. record r { thread = t }) u.procs p) u.catches
              altered_here e s t = (on_thread (record u { events = e ∷ u.events }) (record { is = plainly u.events u.procs u.catches late e s }) still t (bare_unders t n)).is

      replies_row : (k : ℕ) (o : Option Server) (y : Word) → cleanups_on q.thread.frames ≡ [] → AllFresh (reply_row m names limits p q u k o y)
      replies_row k None y n = tt
      replies_row k (Some s) y n = replying s.current
        where
          first : (e : Event) → is_plain u.events u.procs u.catches late e ≡ true → (t : Thread) → Late (e ∷ u.events) (change_numbered (λ r. record r { thread = t }) u.procs p) u.catches
          first e s t = (on_thread (record u { events = e ∷ u.events }) (record { is = plainly u.events u.procs u.catches late e s }) still t (bare_unders t n)).is

          next : (v : World Thread Closure) (s' : Server) (cs : List Call) → Fresh v → Fresh (with_next_call v k s' cs)
          next v s' [] h = h
          next v s' (c ∷ cs) h = record { is = plainly v.events v.procs v.catches h.is (take s'.process k c.number) refl }

          replying : (o : Option Call) → AllFresh (reply_to m names limits p q u k s o y)
          replying None = tt
          replying (Some c) =
              choose s.eager _ _
              (λ t. choose (has_cells limits u (length (turn_boxes m names limits p q u s.body))) _ _
              (λ g. next _ (record s { current = None; turn = next_futures (with_reply m names limits p q u k s c y) (length (m.stored s.body)) }) s.queue (record { is = first (reply p k c.number (Some (short_text names u.pairs y))) refl _ }))
              (λ g. alike _ refl refl refl))
              (λ t. record { is = first (reply p k c.number (Some (short_text names u.pairs y))) refl _ })

      of_server : (f : ℕ → Option (World Thread Closure)) → ((k : ℕ) → AllFresh (f k)) → (kind : Kind) → AllFresh (server_row m names limits p q f kind)
      of_server f h main = tt
      of_server f h (child n) = tt
      of_server f h (serving k) = h k

      -- catches

      opens_row : (un : Goes) (tag : Word) (waits : Bool) → Fresh (open_row m names limits p q u tag waits)
      opens_row un tag waits =
          let k : Catch = record { owner = p; tag = Some tag; enclosing = home; waits = waits; open_still = true } in
          goes_on _ _ (un _) (record { is = plainly u.events u.procs _ (opened_late u.events u.procs u.catches late (record { owner = p; tag = Some tag; enclosing = home; waits = waits; open_still = true })) (opened p (length u.catches) home) refl }) refl

      -- p after the kills of its own exit or throw
      spared_here : (owner : ℕ) (fs es : List Event) (ps : List (Process Thread)) (cs : List Catch) → Spared owner fs u.procs u.catches es ps cs → (r : Process Thread) → numbered ps p ≡ Some r → (r ≡ q) ⊎ (r.aim ≡ die)
      spared_here owner fs es ps cs s r e =
          let f = s.fate p r e in
          ⊎_elim (λ (t : r ≡ f.0). inl (t ∙ some_same (sym f.1 ∙ at))) (λ t. inr t.1) f.2

      exits_row : (un : Goes) (c : ℕ) (o : Option Catch) → catch_at u.catches c ≡ o → AllFresh (exit_row m names limits p q u c o)
      exits_row un c None e = tt
      exits_row un c (Some k) e =
          let s : Spared k.owner (exit p c ∷ u.events) u.procs u.catches (killed_within m (with_event u (exit p c)) c k.owner).events (killed_within m (with_event u (exit p c)) c k.owner).procs (killed_within m (with_event u (exit p c)) c k.owner).catches = spare_all m c k.owner (with_event u (exit p c)) (length u.procs) in
          let a : Late u.events (killed_within m (with_event u (exit p c)) c k.owner).procs u.catches = spared_late _ _ _ _ _ _ _ _ late s in
          let b : Late u.events _ u.catches = (on_thread (record u { procs = (killed_within m (with_event u (exit p c)) c k.owner).procs }) (record { is = a }) (spared_here _ _ _ _ _ s) (m.go q.thread done) (un done)).is in
          let d : Late u.events _ (closed u.catches c) = catch_shut _ _ _ b c in
          let f : Late (exit p c ∷ u.events) _ (closed u.catches c) = left_more _ _ _ d c (let l = catch_low u.catches c k e in let z = closed_length u.catches c in omega (arith, l, z)) (λ k' i w. absurd (shut_now u.catches c k' i w)) (exit p c ∷ u.events) late.none (λ z. refl) in
          let g : Late (killed_within m (with_event u (exit p c)) c k.owner).events _ (closed u.catches c) = retold _ _ _ _ s.left s.none f in
          record { is = subst (λ (z : List Catch). Late (killed_within m (with_event u (exit p c)) c k.owner).events (change_numbered (λ r. record r { thread = m.go q.thread done }) (killed_within m (with_event u (exit p c)) c k.owner).procs p) (closed z c)) (sym s.catches) g }

      -- throws

      abbrev thrown : (c owner : ℕ) → World Thread Closure
      thrown c owner = killed_within m (with_event u (throw p c)) c owner

      spared_throw : (c owner : ℕ) → Spared owner (throw p c ∷ u.events) u.procs u.catches (thrown c owner).events (thrown c owner).procs (thrown c owner).catches
      spared_throw c owner = spare_all m c owner (with_event u (throw p c)) (length u.procs)

      module _ (tag : Word) (c : ℕ) (k : Catch) (ck : catch_at u.catches c ≡ Some k) (e : tagged (is_seen (cleanups_on q.thread.frames)) u.catches tag home ≡ Some c) where
        f_found : Found u.catches home c
        f_found = found (is_seen (cleanups_on q.thread.frames)) u.catches tag home c e

        positive : 0 < c
        positive = by_number c f_found.is
          where
            by_number : (d : ℕ) → catch_at u.catches d ≡ Some f_found.kept → 0 < d
            by_number zero i = let bad : None ≡ Some f_found.tag = sym (sane.homes.untagged f_found.kept i) ∙ f_found.tag_is in absurd cc
            by_number (suc d) i = omega arith

        open_there : k.open_still ≡ true
        open_there = subst (λ (z : Catch). z.open_still ≡ true) (some_same (sym f_found.is ∙ ck)) f_found.open_still

        over_inner : is_over u.catches c (innermost_or q.home (marks q)) ≡ true
        over_inner = subst (λ z. is_over u.catches c z ≡ true) (sym (innermost_same q.home q.thread.control q.thread.frames nf)) f_found.over

        -- a catch on the frames belongs to this process
        belongs : (d : ℕ) (j : Catch) → catch_at u.catches d ≡ Some j → Stands d (marks q) → j.owner ≡ p
        belongs d j i s = let o = chained_open u.catches p q.home d (marks q) s chained_here in ap (λ (z : Catch). z.owner) (some_same (sym i ∙ o.1.is)) ∙ o.1.owner

        -- In a cleanup it is one of the process itself, that was opened since the cleanup began.
        inner : (j : Cleanup) (js : List Cleanup) → cleanups_on q.thread.frames ≡ j ∷ js → (k.owner ≡ p) × (j.floor < c)
        inner j js n =
            let seen_c : is_seen (j ∷ js) c ≡ true = subst (λ (z : List Cleanup). is_seen z c ≡ true) n (passes (is_seen (cleanups_on q.thread.frames)) u.catches tag home c e) in
            let above : j.floor < c = ltb-true j.floor c seen_c in
            let hf = home_floor u.catches p q.home [] (marks q) j js sane.homes.falling chained_here (sane.aims.floors p (seen q) (here x u sane knows p q at at_work)) (cleanups_same q.thread.control q.thread.frames nf ∙ n) in (
              ⊎_elim
                  (λ s. belongs c k ck s)
                  (λ (s : is_over u.catches c q.home ≡ true). let l = over_le u.catches c q.home sane.homes.falling s in absurd (omega (arith, l, hf, above)))
                  (over_innermost u.catches p q.home c (marks q) sane.homes.falling chained_here over_inner),
              above,
            )

        throws_inside : (un : Goes) (y : Word) → cleans ≡ true → Fresh (with_thread (thrown c k.owner) p (m.go q.thread (aimed (to c y))))
        throws_inside un y t = by_cleanups (cleanups_on q.thread.frames) refl t
          where
            by_cleanups : (js : List Cleanup) → cleanups_on q.thread.frames ≡ js → in_cleanup js ≡ true → Fresh (with_thread (thrown c k.owner) p (m.go q.thread (aimed (to c y))))
            by_cleanups [] n t = absurd cc
            by_cleanups (j ∷ js) n t =
                let s = spared_throw c k.owner in
                let mine = inner j js n in
                let a : Late u.events (thrown c k.owner).procs u.catches = spared_late _ _ _ _ _ _ _ _ late s in
                let b : Late u.events (change_numbered (λ r. record r { thread = m.go q.thread (aimed (to c y)) }) (thrown c k.owner).procs p) u.catches = (on_thread (record u { procs = (thrown c k.owner).procs }) (record { is = a }) (spared_here _ _ _ _ _ s) (m.go q.thread (aimed (to c y))) (un (aimed (to c y)))).is in
                let f : Late (throw p c ∷ u.events) _ u.catches = left_more _ _ _ b c (catch_low u.catches c k ck)
                (λ k' i w. (
                  positive,
                  λ r' h.
                      let own : k'.owner ≡ p = ap (λ (z : Catch). z.owner) (some_same (sym i ∙ ck)) ∙ mine.0 in
                      let h' = subst (λ z. numbered (change_numbered (on_with (m.go q.thread (aimed (to c y)))) (thrown c k.owner).procs p) z ≡ Some r') own h in
                      under_leaves (m.go q.thread (aimed (to c y))) (thrown c k.owner).procs p c r' h' (un (aimed (to c y)) c (subst (FloorUnder c) (sym n) (inl mine.1))),
                ))
                (throw p c ∷ u.events) late.none (λ z. refl) in
                let g : Late (thrown c k.owner).events _ u.catches = retold _ _ _ _ s.left s.none f in
                record { is = subst (λ (z : List Catch). Late (thrown c k.owner).events (change_numbered (λ r. record r { thread = m.go q.thread (aimed (to c y)) }) (thrown c k.owner).procs p) z) (sym s.catches) g }

        under_unwound : (d : ℕ) (t : Thread) → Under d t.frames → Under d (unwinds_at m t).frames
        under_unwound d t h = let c : in_cleanup (cleanups_on t.frames) ≡ true = some_cleanup d (cleanups_on t.frames) h in rw c h

        -- the owner leaves for the lower one of two catches that were thrown to
        retarget : (y : Word) → works → cleans ≡ false → (r : Process Thread) → numbered u.procs k.owner ≡ Some r → (d : ℕ) → IsLeaving d r → IsLeaving d (record r { aim = to c y; thread = unwinds_at m r.thread })
        retarget y w t r rk d was =
            ⊎_elim
            (λ (z : r.aim ≡ die). let bad : true ≡ false = sym (ap is_die z) ∙ owner_alive x u sane knows p q at at_work nf tag c k r (none_runs x _ t) w e ck rk in absurd cc)
            (λ z. ⊎_elim
            (λ (z : (d' : ℕ) × (y' : Word) × (r.aim ≡ to d' y') × (d' ≤ d)).
            ⊎_elim
            (λ (l : d < c). let le = z.3 in absurd (lower z.0 z.1 z.2 (omega (arith, l, le))))
            (λ (l : c ≤ d). inr (inl (c, y, refl, l)))
            (by_order d c))
            (λ z. inr (inr (under_unwound d r.thread z)))
            z)
            was
          where
            by_order : (a b : ℕ) → (a < b) ⊎ (b ≤ a)
            by_order a b = grind arith

            ris : numbered (map seen u.procs) k.owner ≡ Some (seen r)
            ris = numbered_mapped seen u.procs k.owner r rk

            not_both : {b : Bool} → b ≡ true → b ≡ false → ⊥
            not_both s t = let bad : true ≡ false = sym s ∙ t in absurd cc

            lower : (c' : ℕ) (y' : Word) → r.aim ≡ to c' y' → c' < c → ⊥
            lower c' y' aim l =
                let there = owner_there c k positive ck open_there in
                let st : Stands c (marks r) = subst (λ (z : Process Thread). Stands c (marks z)) (some_same (sym there.1 ∙ rk)) there.2 in
                let st' : Stands c' (marks r) = aimed_stands k.owner c c' y' r rk st aim in
                let chain = sane.catches.chained k.owner (seen r) ris in
                let line : is_over u.catches c' c ≡ true = stands_in_line u.catches k.owner r.home c' c (marks r) sane.homes.falling chain st' st (omega (arith, l)) in
                let o : is_over u.catches c' (innermost_or q.home (marks q)) ≡ true = over_over u.catches c' c (innermost_or q.home (marks q)) sane.homes.falling line over_inner in
                let i = chained_open u.catches k.owner r.home c' (marks r) st' chain in
                ⊎_elim
                (λ (s : Stands c' (marks q)).
                let own : k.owner ≡ p = sym i.1.owner ∙ belongs c' i.1.kept i.1.is s in
                let me : r ≡ q = some_same (sym rk ∙ ap (λ z. numbered u.procs z) own ∙ at) in
                let f : is_free r.aim ≡ true = subst (λ (z : Process Thread). is_free z.aim ≡ true) (sym me) (free_here (none_runs x _ t) w).0 in
                not_both f (ap is_free aim))
                (λ (s : is_over u.catches c' q.home ≡ true). not_both s (sane.aims.leaving k.owner (seen r) c' y' ris aim p (seen q) (here x u sane knows p q at at_work) (live_here x u sane knows p q at at_work nf (none_runs x _ t) w)))
                (over_innermost u.catches p q.home c' (marks q) sane.homes.falling chained_here o)

        throws_outside : (y : Word) → works → cleans ≡ false → Fresh (with_owner_aimed m names limits p q (thrown c k.owner) k.owner (to c y))
        throws_outside y w t =
            let s = spared_throw c k.owner in
            let a : Late u.events (thrown c k.owner).procs u.catches = spared_late _ _ _ _ _ _ _ _ late s in
            let b : Late u.events (change_numbered (λ r. record r { aim = to c y; thread = unwinds_at m r.thread }) (thrown c k.owner).procs k.owner) u.catches =
            altered u.events (thrown c k.owner).procs u.catches a (λ r. record r { aim = to c y; thread = unwinds_at m r.thread }) k.owner
            (λ d k' l i o own r h was.
            let f = s.fate k.owner r h in
            ⊎_elim
            (λ (z : r ≡ f.0). subst (λ (v : Process Thread). IsLeaving d (record v { aim = to c y; thread = unwinds_at m v.thread })) (sym z) (retarget y w t f.0 f.1 d (subst (IsLeaving d) z was)))
            (λ z. absurd (z.0 refl))
            f.2) in
            let f : Late (throw p c ∷ u.events) (change_numbered (λ r. record r { aim = to c y; thread = unwinds_at m r.thread }) (thrown c k.owner).procs k.owner) u.catches = left_more _ _ _ b c (catch_low u.catches c k ck)
            (λ k' i o. (
              positive,
              λ r' h.
                  let own : k'.owner ≡ k.owner = ap (λ (z : Catch). z.owner) (some_same (sym i ∙ ck)) in
                  let h' = (subst (λ n. numbered (change_numbered (λ (r : Process Thread). record r { aim = to c y; thread = unwinds_at m r.thread }) (thrown c k.owner).procs k.owner) n ≡ Some r') own h) in
                  aim_leaves (λ (r : Process Thread). record r { aim = to c y; thread = unwinds_at m r.thread }) (thrown c k.owner).procs k.owner c y r' (λ z. refl) h',
            ))
            (throw p c ∷ u.events) late.none (λ z. refl) in
            let g : Late (thrown c k.owner).events _ u.catches = retold _ _ _ _ s.left s.none f in
            record { is = subst (λ (z : List Catch). Late (thrown c k.owner).events (change_numbered (λ r. record r { aim = to c y; thread = unwinds_at m r.thread }) (thrown c k.owner).procs k.owner) z) (sym s.catches) g }

      thrown_to : (un : Goes) (c : ℕ) (o : Option Catch) (y tag : Word) → catch_at u.catches c ≡ o → tagged (is_seen (cleanups_on q.thread.frames)) u.catches tag home ≡ Some c → works → AllFresh (thrown_row m names limits p q u c o y)
      thrown_to un c None y tag e f w = tt
      thrown_to un c (Some k) y tag e f w = choose cleans _ _ (λ t. throws_inside tag c k e f un y t) (λ t. throws_outside tag c k e f y w t)

      throws_row : (un : Goes) (o : Option ℕ) (y tag : Word) (at : ℕ) → tagged (is_seen (cleanups_on q.thread.frames)) u.catches tag home ≡ o → works → AllFresh (throw_row m names limits p q u o y at)
      throws_row un None y tag at e w = alike _ refl refl refl
      throws_row un (Some c) y tag at e w = thrown_to un c (catch_at u.catches c) y tag refl e w

      -- catches are left

      leaves_row : (un : Goes) (c : ℕ) (o : Option Word) → want_of x q.thread.control q.thread.frames ≡ leaves c → landing (acting (cleanups_on q.thread.frames) q.aim) c ≡ o → Fresh (leave_row m names limits p q u c o)
      leaves_row un c None w e = record { is = catch_shut u.events _ u.catches (quietly u unwinds (un unwinds) refl refl refl).is c }
      leaves_row un c (Some y) w e = by_test cleans refl
        where
          shut : Late (land p c ∷ u.events) u.procs (closed u.catches c)
          shut = catch_shut _ u.procs u.catches (plainly u.events u.procs u.catches late (land p c) refl) c

          -- no other catch that was left is on its frames
          last : cleanups_on q.thread.frames ≡ [] → (d : ℕ) (k : Catch) → is_left d news ≡ true → catch_at (closed u.catches c) d ≡ Some k → k.open_still ≡ true → k.owner ≡ p → ⊥
          last n d k l i o own =
              let z = closed_cases u.catches c d k i in
              ⊎_elim
              (λ (t : (d ≡ c) × (k ≡ record z.0 { open_still = false })). let bad : true ≡ false = sym o ∙ ap (λ (v : Catch). v.open_still) t.1 in absurd cc)
              (λ (t : (d ≢ c) × (k ≡ z.0)).
              let i' : catch_at u.catches d ≡ Some k = z.1 ∙ ap Some (sym t.1) in
              let was = late.leaving d k l i' o in
              let there = owner_there d k was.0 i' o in
              let me : there.0 ≡ q = some_same (sym there.1 ∙ ap (λ v. numbered u.procs v) own ∙ at) in
              let st : Stands d (marks q) = subst (λ (v : Process Thread). Stands d (marks v)) me there.2 in
              let top = top_of_leave x q.thread.control q.thread.frames c w in
              let under : d ≤ innermost_or q.home (marks q) = stands_under u.catches p q.home d (marks q) sane.homes.falling chained_here st in
              let low : d ≤ c = subst (λ (ms : List Mark). d ≤ innermost_or q.home ms) top.1 under in
              ⊎_elim
              (λ (v : q.aim ≡ die). not_die q.aim v (subst (λ (cs : List Cleanup). landing (acting cs q.aim) c ≡ Some y) n e))
              (λ v. ⊎_elim
              (λ (v : (d' : ℕ) × (y' : Word) × (q.aim ≡ to d' y') × (d' ≤ d)).
              let same : v.0 ≡ c = to_same v.0 v.1 (subst (λ a. landing a c ≡ Some y) v.2 (subst (λ (cs : List Cleanup). landing (acting cs q.aim) c ≡ Some y) n e)) in
              let le = v.3 in
              t.0 (omega (arith, low, same, le)))
              (λ (v : Under d q.thread.frames). subst (FloorUnder d) n v)
              v)
              (was.1 q (subst (λ v. numbered u.procs v ≡ Some q) (sym own) at)))
              z.2
            where
              not_die : (a : Aim) → a ≡ die → landing a c ≡ Some y → ⊥
              not_die free f g = absurd cc
              not_die (to d z) f g = let bad : false ≡ true = ap is_die f in absurd cc
              not_die die f g = absurd cc

              to_same : (d' : ℕ) (y' : Word) → landing (to d' y') c ≡ Some y → d' ≡ c
              to_same d' y' f = ⊎_elim (λ (t : (d' == c) ≡ true). eqb-true d' c t) (λ (t : (d' == c) ≡ false). let bad : None ≡ Some y = rw t at f in absurd cc) (cases (d' == c))

          by_test : (b : Bool) → cleans ≡ b → Fresh (land_row m names limits p q u c y)
          by_test true t = rw t (record { is = (on_thread (record u { events = land p c ∷ u.events; catches = closed u.catches c }) (record { is = shut }) still (m.go q.thread (got y)) (un (got y))).is })
          by_test false t =
              let n : cleanups_on q.thread.frames ≡ [] = none_runs x _ t in
              let a : Late (land p c ∷ u.events) (change_numbered (λ r. record r { aim = free }) u.procs p) (closed u.catches c) = altered _ u.procs _ shut (λ r. record r { aim = free }) p (λ d k l i o own r h was. absurd (last n d k l i o own)) in
              let b : Late (land p c ∷ u.events) (change_numbered (λ r. record r { thread = m.go q.thread (got y) }) (change_numbered (λ r. record r { aim = free }) u.procs p) p) (closed u.catches c) = altered _ _ _ a (λ r. record r { thread = m.go q.thread (got y) }) p (λ d k l i o own r h was. absurd (last n d k l i o own)) in
              rw t (record { is = b })

      -- finishes and ends

      finishes_row : (v : ℕ) (a : Answer Closure) → want_of x q.thread.control q.thread.frames ≡ finishes v → Fresh (with_thread (with_event u (finish p v)) p (m.go q.thread a))
      finishes_row v a e = record {
        is = altered (finish p v ∷ u.events) u.procs u.catches (plainly u.events u.procs u.catches late (finish p v) refl) (λ r. record r { thread = m.go q.thread a }) p
            (λ d k l i o own r h was.
            let me : r ≡ q = some_same (sym h ∙ at) in
            let lv = late.leaving d k l i o in
            let there = owner_there d k lv.0 i o in
            let st : Stands d (marks q) = subst (λ (z : Process Thread). Stands d (marks z)) (some_same (sym there.1 ∙ ap (λ z. numbered u.procs z) own ∙ at)) there.2 in
            ⊎_elim (λ z. inl z) (λ z. ⊎_elim (λ z. inr (inl z))
            (λ (z : Under d r.thread.frames). inr (inr (finish_goes x d q.kind q.thread.control q.thread.frames v a e (work x u sane knows p q at at_work).based (λ j ms t. under_floor d st j ms t) (subst (λ (y : Process Thread). Under d y.thread.frames) me z))))
            z) was);
      }
        where
          under_floor : (d : ℕ) → Stands d (marks q) → (j : Cleanup) (ms : List Mark) → marks q ≡ cleanup_mark v j ∷ ms → d ≤ j.floor
          under_floor d st j ms t =
              let k : Chained u.catches p q.home (cleanup_mark v j ∷ ms) = subst (Chained u.catches p q.home) t chained_here in
              let f : Floors q.home [] (cleanup_mark v j ∷ ms) = subst (Floors q.home []) t (sane.aims.floors p (seen q) (here x u sane knows p q at at_work)) in
              let s : Stands d (cleanup_mark v j ∷ ms) = subst (Stands d) t st in
              let a = stands_under u.catches p q.home d ms sane.homes.falling k s in let b = f.1.0 in omega (arith, a, b)

      ended_quietly : (ending : Ending) → want_of x q.thread.control q.thread.frames ≡ ends ending → (line : Event) → is_plain u.events u.procs u.catches late line ≡ true → (t : Thread)
          → Late (line ∷ u.events) (change_numbered (λ r. record r { thread = t }) (change_numbered (λ r. record r { ended = true }) u.procs p) p) u.catches
      ended_quietly ending e line s t = plainly_again line s
        where
          base : Late u.events (change_numbered (λ r. record r { thread = t }) (change_numbered (λ r. record r { ended = true }) u.procs p) p) u.catches
          base = ended_late ending e u.procs late t

          plainly_again : (line : Event) → is_plain u.events u.procs u.catches late line ≡ true → Late (line ∷ u.events) (change_numbered (λ r. record r { thread = t }) (change_numbered (λ r. record r { ended = true }) u.procs p) p) u.catches
          plainly_again line s = plainly u.events _ u.catches base line s

      ends_row : (kind : Kind) (ending : Ending) → want_of x q.thread.control q.thread.frames ≡ ends ending → AllFresh (end_row m names limits p q u kind ending)
      ends_row kind last_form w = absurd (nf (finished_where x q.thread.control q.thread.frames w))
      ends_row (child f) (with_word y) w = record { is = ended_quietly (with_word y) w _ refl _ }
      ends_row main (with_word y) w = tt
      ends_row (serving k) (with_word y) w = tt
      ends_row kind unwound w = record { is = ended_quietly unwound w _ refl _ }

      -- all rows

      all_go : (want : Want) → want_of x q.thread.control q.thread.frames ≡ want → is_gone want ≡ false → ((a : Answer Closure) → Fits want a) → Goes
      all_go want e g f a = unders want e g a (f a)

      abbrev working : (want : Want) → want_of x q.thread.control q.thread.frames ≡ want → is_of_unwinding want ≡ false → works
      working want e n = works_for x q.thread.control q.thread.frames (ap is_of_unwinding e ∙ n)

      pub rows : (want : Want) → want_of x q.thread.control q.thread.frames ≡ want → AllFresh (row m names limits p q u want)
      rows (awaits f at') e = awaits_row (or_pending (numbered u.futures f)) at' (λ y. unders (awaits f at') e refl (got y) tt)
      rows takes_literal e = quietly u done (all_go takes_literal e refl (λ a. tt) done) refl refl refl
      rows (reads place at') e = reads_row (all_go (reads place at') e refl (λ a. tt)) place at'
      rows (stores place y) e = stores_row (all_go (stores place y) e refl (λ a. tt)) place y
      rows branches e = quietly u done (all_go branches e refl (λ a. tt) done) refl refl refl
      rows (computes o ys at') e = computes_row (all_go (computes o ys at') e refl (λ a. tt)) (computed u.pairs o ys) at'
      rows (prints y) e = prints_row (all_go (prints y) e refl (λ a. tt)) (value_text names u.pairs y ++ 10 ∷ [])
      rows (binds bs ys) e = binds_row (all_go (binds bs ys) e refl (λ a. tt)) bs ys bound
      rows (calls bs ys) e = binds_row (all_go (calls bs ys) e refl (λ a. tt)) bs ys bound
      rows returns e = quietly u done (all_go returns e refl (λ a. tt) done) refl refl refl
      rows closes e = closes_row (all_go closes e refl (λ a. tt)) (m.closure q.thread)
      rows (funcalls y ys at') e = funcalls_row (all_go (funcalls y ys at') e refl (λ a. tt)) y ys at'
      rows (chooses y) e = chooses_row (all_go (chooses y) e refl (λ a. tt)) y (m.children q.thread) (working (chooses y) e refl)
      rows (makes y) e = makes_row (all_go (makes y) e refl (λ a. tt)) y (m.closure q.thread) (working (makes y) e refl)
      rows (sends k ys used at') e = sends_row (all_go (sends k ys used at') e refl (λ a. tt)) k (numbered u.servers k) ys used at'
      rows takes_call e = of_server _ (λ k. takes_row k (numbered u.servers k) (bare_here x u sane knows p q at at_work nf (ap is_of_base e))) q.kind
      rows (replies y) e = of_server _ (λ k. replies_row k (numbered u.servers k) y (bare_here x u sane knows p q at at_work nf (ap is_of_base e))) q.kind
      rows (opens tag waits) e = opens_row (all_go (opens tag waits) e refl (λ a. tt)) tag waits
      rows (exits c) e = exits_row (all_go (exits c) e refl (λ a. tt)) c (catch_at u.catches c) refl
      rows (throws tag y at') e = throws_row (all_go (throws tag y at') e refl (λ a. tt)) _ y tag at' refl (working (throws tag y at') e refl)
      rows protects e = goes_on _ _ (all_go protects e refl (λ a. tt) _) (record { is = plainly u.events u.procs u.catches late (protect p (u.protects + 1)) refl }) refl
      rows (begins v) e = goes_on _ _ (all_go (begins v) e refl (λ a. tt) _) (record { is = plainly u.events u.procs u.catches late (begin p v) refl }) refl
      rows (finishes v) e = finishes_row v _ e
      rows (leaves c) e = leaves_row (all_go (leaves c) e refl (λ a. tt)) c _ e refl
      rows (ends ending) e = ends_row q.kind ending e
      rows rests e = tt

    pub all_rows : (want : Want) → want_of x q.thread.control q.thread.frames ≡ want → AllFresh (row m names limits p q u want)
    all_rows want e =
        ⊎_elim
        (λ (f : Finished q.thread.control).
        let w : want_of x q.thread.control q.thread.frames ≡ ends last_form = ap (λ c. want_of x c q.thread.frames) f in
        subst (λ z. AllFresh (row m names limits p q u z)) (sym w ∙ e) (last_late w))
        (λ (nf : Finished q.thread.control → ⊥). rows nf want e)
        (is_finished_or q.thread.control)
