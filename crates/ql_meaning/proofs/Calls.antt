-- Rows by which calls are sent, taken and answered.
use Rattle.std.proofs.Common.{◌≡◌, ◌≢◌, ℕ, zero, suc, ◌+◌, ◌≤◌, ◌==◌, Bool, true, false, List, [], ◌∷◌, ◌++◌, length, Option, Some, None, refl, sym, ap, ◌∙◌, subst, ⊎_elim, inl, inr, arith, eq-eqb, ne_eqb}
use Rattle.std.specs.Prelude.{if◌then◌else◌, not, replicate, map, slice_get}
use Rattle.ql_world.specs.declared.word.Word.{Word}
use Rattle.ql_world.specs.declared.event.Event.{Event}
use Rattle.ql_world.specs.declared.event.Event.TheVariants.{Send as send, Take as take, Reply as reply}
use Rattle.ql_world.specs.World.{Call, numbered, change_numbered, numbers}
use Rattle.ql_world.specs.declared.world.FutState.{FutState as Future}
use Rattle.ql_world.specs.declared.world.FutState.TheVariants.{Pending as pending, Value as valued}
use Rattle.ql_world.specs.declared.world.Kind.TheVariants.{Closure as serving}
use Rattle.ql_world.specs.Within.{is_live}
use Rattle.ql_world.specs.Idle.{current_of}
use Rattle.ql_world.specs.Tick.{filled, answered}
use Rattle.ql_meaning.specs.Sane.{of_server, base_mark, Doing, works, rests, Seen, Server, Outline, Stands, Among, Aims, Floors, LowFloors, is_unwinding, WorkSane, sends, takes, replies, call_numbers, InProgress, CallsSane, ServersSane, Reason, of_reply, of_parameter, ReplyState, FuturesSane, SaneOutline}
use Rattle.ql_meaning.proofs.Lists.{not_both, same_or, one, put, put_cases, put_length, put_self, push_cases, numbered_longer, changed_length}
use Rattle.ql_meaning.proofs.Kept.{Each, each_put, all_put, QuietHomes, QuietProtects, SameHome, home_self, homes_kept, Alike, alike_self, catches_kept, empty_kept, nobody_kept, HoldsSame, holds_self, protects_kept, work_put, SameTold, told_self, point_told}
use Rattle.ql_meaning.proofs.Calm.{Nobody}
use Rattle.ql_meaning.proofs.Kill.{changed_here, changed_else}
use Rattle.ql_meaning.proofs.Serve.{server_kept, answers_kept, About}
use Rattle.ql_meaning.proofs.Joins.{length_push, among_numbers, numbers_length, replicate_length}

-- futures that get values

pub answered_else : (r : Option ℕ) (x : Word) (ss : List Future) (f : ℕ) → (r ≡ Some f → ⊥) → numbered (answered r x ss) f ≡ numbered ss f
answered_else None x ss f n = refl
answered_else (Some g) x ss f n = changed_else (λ s. valued x) ss g f (λ z. n (ap Some (sym z)))

pub answered_length : (r : Option ℕ) (x : Word) (ss : List Future) → length (answered r x ss) ≡ length ss
answered_length None x ss = refl
answered_length (Some g) x ss = changed_length (λ s. valued x) ss g

pub filled_length : (fs : List ℕ) (xs : List Word) (ss : List Future) → length (filled fs xs ss) ≡ length ss
filled_length [] xs ss = refl
filled_length (f ∷ fs) [] ss = refl
filled_length (f ∷ fs) (x ∷ xs) ss = filled_length fs xs (change_numbered (λ s. valued x) ss f) ∙ changed_length (λ s. valued x) ss f

pub filled_else : (fs : List ℕ) (xs : List Word) (ss : List Future) (f : ℕ) → (Among f fs → ⊥) → numbered (filled fs xs ss) f ≡ numbered ss f
filled_else [] xs ss f n = refl
filled_else (g ∷ fs) [] ss f n = refl
filled_else (g ∷ fs) (x ∷ xs) ss f n = filled_else fs xs (change_numbered (λ s. valued x) ss g) f (λ t. n (inr t)) ∙ changed_else (λ s. valued x) ss g f (λ t. n (inl t))

filled_after : (fs : List ℕ) (xs : List Word) (ss : List Future) (f : ℕ) (y : Word) → numbered ss f ≡ Some (valued y) → (z : Word) × (numbered (filled fs xs ss) f ≡ Some (valued z))
filled_after [] xs ss f y e = (y, e)
filled_after (g ∷ fs) [] ss f y e = (y, e)
filled_after (g ∷ fs) (x ∷ xs) ss f y e =
    ⊎_elim
    (λ (t : f ≡ g). filled_after fs xs (change_numbered (λ s. valued x) ss g) f x (subst (λ z. numbered (change_numbered (λ s. valued x) ss z) f ≡ Some (valued x)) t (changed_here (λ s. valued x) ss f (valued y) e)))
    (λ (t : ((f == g) ≡ false) × (f ≢ g)). filled_after fs xs (change_numbered (λ s. valued x) ss g) f y (changed_else (λ s. valued x) ss g f t.1 ∙ e))
    (same_or f g)

pub filled_here : (fs : List ℕ) (xs : List Word) (ss : List Future) (f : ℕ) (s : Future) → length fs ≡ length xs → Among f fs → numbered ss f ≡ Some s → (z : Word) × (numbered (filled fs xs ss) f ≡ Some (valued z))
filled_here [] xs ss f s l a e = absurd a
filled_here (g ∷ fs) [] ss f s l a e = absurd (omega arith)
filled_here (g ∷ fs) (x ∷ xs) ss f s l a e =
    ⊎_elim
    (λ (t : f ≡ g). filled_after fs xs (change_numbered (λ s. valued x) ss g) f x (subst (λ z. numbered (change_numbered (λ s. valued x) ss z) f ≡ Some (valued x)) t (changed_here (λ s. valued x) ss f s e)))
    (λ (t : ((f == g) ≡ false) × (f ≢ g)).
    filled_here fs xs (change_numbered (λ s. valued x) ss g) f s (omega (arith, l)) (⊎_elim (λ u. absurd (t.1 u)) (λ u. u) a) (changed_else (λ s. valued x) ss g f t.1 ∙ e))
    (same_or f g)

-- numbers of calls

pub numbers_push : (a n : ℕ) → numbers a (n + 1) ≡ numbers a n ++ (a + n) ∷ []
numbers_push a zero = let e : a + 0 ≡ a = omega arith in rw e refl
numbers_push a (suc n) =
    let e : suc n + 1 ≡ suc (n + 1) = omega arith in
    let f : a + 1 + n ≡ a + suc n = omega arith in
    rw e (ap (λ z. a ∷ z) (numbers_push (a + 1) n ∙ ap (λ z. numbers (a + 1) n ++ z ∷ []) f))

pub map_push : {A B : Type 0} (f : A → B) (xs : List A) (y : A) → map f (xs ++ y ∷ []) ≡ map f xs ++ f y ∷ []
map_push f [] y = refl
map_push f (x ∷ xs) y = ap (λ z. f x ∷ z) (map_push f xs y)

-- the calls of a queue whose numbers run from here on have no lower number
call_from : (cs : List Call) (a : ℕ) (i : ℕ) (c : Call) → call_numbers cs ≡ numbers a (length cs) → slice_get cs i ≡ Some c → a ≤ c.number
call_from [] a i c e g = absurd cc
call_from (d ∷ cs) a zero c e g = let is : d ≡ c = cc in let h : d.number ≡ a = cc in let k = ap (λ (z : Call). z.number) is in omega (arith, h, k)
call_from (d ∷ cs) a (suc i) c e g = let h : call_numbers cs ≡ numbers (a + 1) (length cs) = cc in let r = call_from cs (a + 1) i c h g in omega (arith, r)

pub queued_from : (cs : List Call) (a : ℕ) (i : ℕ) (c : Call) → call_numbers cs ≡ numbers a (length cs) → numbered cs i ≡ Some c → a ≤ c.number
queued_from cs a zero c e g = absurd cc
queued_from cs a (suc i) c e g = call_from cs a i c e g

-- the process of a process closure stays where it is, or is at rest or not

module _ (o : Outline) (s : SaneOutline o) (p : ℕ) (q : Seen) (at : numbered o.procs p ≡ Some q) (d : Doing) (work : q.ended ≡ false → WorkSane (record q { thread = record { marks = q.thread.marks; doing = d } })) (ss : List Server) (fs : List Future) (es : List Event) where
  abbrev r : Seen
  r = record q { thread = record { marks = q.thread.marks; doing = d } }

  abbrev v : Outline
  v = record { catches = o.catches; procs = put o.procs p r; servers = ss; futures = fs; protects = o.protects; events = es }

  alike : Alike o.catches p q r
  alike = record { home = refl; live = λ l. l; chained = λ k. k; stands = λ c t. t; stood = λ c t. t; above = λ c t. t; bare = λ e f. f e }

  each_alike : Each (Alike o.catches) o.procs (put o.procs p r)
  each_alike = each_put (Alike o.catches) o.procs p q r at alike (alike_self o.catches)

  nobody : (c : ℕ) → Nobody o c → Nobody v c
  nobody = nobody_kept o (put o.procs p r) ss fs o.protects es each_alike

  pub serve_kept : ServersSane v → FuturesSane v → QuietHomes o.events es → QuietProtects o.events es → SaneOutline v
  serve_kept servers futures homes protects = record {
    homes = homes_kept o v s.homes refl (each_put SameHome o.procs p q r at (record { home = refl; kind = refl }) home_self) homes.opens (λ c j e. (j, e, refl, refl));
    catches = catches_kept o (put o.procs p r) ss fs o.protects es each_alike s.catches (all_put (Alike o.catches) o.procs p q r at alike (alike_self o.catches));
    empty = empty_kept o (put o.procs p r) ss fs o.protects es each_alike s.empty;
    aims = record {
      dying = λ i x c e h m. nobody c (⊎_elim
          (λ (t : (i ≡ p) × (x ≡ r)). s.aims.dying p q c at (ap (λ (z : Seen). z.aim) (sym t.1) ∙ h) (subst (λ (z : Seen). Stands c z.thread.marks) t.1 m))
          (λ (t : (i ≢ p) × (numbered o.procs i ≡ Some x)). s.aims.dying i x c t.1 h m)
          (put_cases o.procs p i r x e));
      leaving = λ i x c w e h. nobody c (⊎_elim
          (λ (t : (i ≡ p) × (x ≡ r)). s.aims.leaving p q c w at (ap (λ (z : Seen). z.aim) (sym t.1) ∙ h))
          (λ (t : (i ≢ p) × (numbered o.procs i ≡ Some x)). s.aims.leaving i x c w t.1 h)
          (put_cases o.procs p i r x e));
      aims = λ i x e. ⊎_elim
          (λ (t : (i ≡ p) × (x ≡ r)). subst (λ (z : Seen). Aims z.aim [] z.thread.marks) (sym t.1) (s.aims.aims p q at))
          (λ (t : (i ≢ p) × (numbered o.procs i ≡ Some x)). s.aims.aims i x t.1)
          (put_cases o.procs p i r x e);
      floors = λ i x e. ⊎_elim
          (λ (t : (i ≡ p) × (x ≡ r)). subst (λ (z : Seen). Floors z.home [] z.thread.marks) (sym t.1) (s.aims.floors p q at))
          (λ (t : (i ≢ p) × (numbered o.procs i ≡ Some x)). s.aims.floors i x t.1)
          (put_cases o.procs p i r x e);
      low_floors = λ i x e. ⊎_elim
          (λ (t : (i ≡ p) × (x ≡ r)). subst (λ (z : Seen). LowFloors (length o.catches) z.thread.marks) (sym t.1) (s.aims.low_floors p q at))
          (λ (t : (i ≢ p) × (numbered o.procs i ≡ Some x)). s.aims.low_floors i x t.1)
          (put_cases o.procs p i r x e);
    };
    work = work_put o.procs p r s.work work;
    told = point_told o v s.told (put_length o.procs p r) refl (each_put SameTold o.procs p q r at (record { home = refl; dying = refl; ended = refl }) told_self) (λ c j e. (j, e, refl, refl)) homes;
    protects = protects_kept o v s.protects refl (each_put HoldsSame o.procs p q r at (record { holds = λ stage u h. h; held = λ stage u h. h; rising = λ h. h }) holds_self) (all_put HoldsSame o.procs p q r at (record { holds = λ stage u h. h; held = λ stage u h. h; rising = λ h. h }) holds_self) protects;
    servers = servers;
    futures = futures;
  }

-- counts

pub count_here : (k n : ℕ) → (if k == k then suc n else n) ≡ suc n
count_here k n = rw (eq-eqb k k refl) refl

pub count_else : (j k n : ℕ) → j ≢ k → (if j == k then suc n else n) ≡ n
count_else j k n h = rw (ne_eqb j k h) refl

-- a call is sent

module _ (o : Outline) (s : SaneOutline o) (k : ℕ) (a : Server) (place : numbered o.servers k ≡ Some a) (alive : a.dead ≡ false) (p : ℕ) (xs : List Word) (fits : length xs ≡ length a.body.parameters) where
  server : (q : Seen) × (numbered o.procs a.process ≡ Some q) × (q.kind ≡ serving k)
  server = s.servers.served k a place

  live : is_live server.0 ≡ true
  live = flip (is_live server.0) (sym alive ∙ s.servers.dead k a server.0 place server.1)
    where
      flip : (b : Bool) → false ≡ not b → b ≡ true
      flip true e = refl
      flip false e = absurd (not_both e refl)

  calls : CallsSane k a o.events
  calls = s.servers.calls k a place

  -- with a future for its reply, or none
  module _ (rep : Option ℕ) (fs1 : List Future) (rs : List Reason) (as_many : length rs ≡ length fs1) (mine : (f : ℕ) → rep ≡ Some f → (numbered (s.futures.reasons ++ rs) f ≡ Some (of_reply k (a.sent + 1))) × (numbered (o.futures ++ fs1) f ≡ Some pending)) where
    abbrev c : Call
    c = record { number = a.sent + 1; arguments = xs; reply = rep }

    abbrev reasons : List Reason
    reasons = s.futures.reasons ++ rs

    wide : (f : ℕ) (reason : Reason) (state : Future) → numbered s.futures.reasons f ≡ Some reason → numbered o.futures f ≡ Some state → (numbered reasons f ≡ Some reason) × (numbered (o.futures ++ fs1) f ≡ Some state)
    wide f reason state e g = (numbered_longer s.futures.reasons rs f reason e, numbered_longer o.futures fs1 f state g)

    as_many_all : length reasons ≡ length (o.futures ++ fs1)
    as_many_all = length_push s.futures.reasons rs ∙ (ap (λ z. z + length rs) s.futures.all ∙ (ap (λ z. length o.futures + z) as_many ∙ sym (length_push o.futures fs1)))

    -- and the queue keeps it
    module _ (not_now : a.eager ≡ true → a.current ≡ None → ⊥) where
      abbrev longer : Server
      longer = record a { sent = a.sent + 1; queue = a.queue ++ c ∷ [] }

      abbrev sent_events : List Event
      sent_events = send p k (a.sent + 1) ∷ o.events

      abbrev sent_on : Outline
      sent_on = record o { procs = put o.procs a.process server.0; servers = put o.servers k longer; futures = o.futures ++ fs1; events = sent_events }

      queue_assoc : (d : Option Call) → current_of d ++ (a.queue ++ c ∷ []) ≡ (current_of d ++ a.queue) ++ c ∷ []
      queue_assoc None = refl
      queue_assoc (Some d) = refl

      sent_calls : CallsSane k longer sent_events
      sent_calls = record {
        sent = (let e = calls.sent in (omega (arith, e) ∙ sym (count_here k (sends k o.events))));
        progress = calls.progress;
        queued = map_push (λ (z : Call). z.number) a.queue c ∙ (ap (λ z. z ++ (a.sent + 1) ∷ []) calls.queued ∙ (ap (λ z. numbers (takes k o.events + 1) (length a.queue) ++ z ∷ []) next ∙ (sym (numbers_push (takes k o.events + 1) (length a.queue)) ∙ ap (numbers (takes k o.events + 1)) (sym (length_push a.queue (c ∷ []))))));
        all = (let e = calls.all in let l = length_push a.queue (c ∷ []) in omega (arith, e, l));
      }
        where
          next : a.sent + 1 ≡ takes k o.events + 1 + length a.queue
          next = let e = calls.all in omega (arith, e)

      pub row_send_queued : SaneOutline (record o { servers = put o.servers k longer; futures = o.futures ++ fs1; events = sent_events })
      row_send_queued =
          subst (λ z. SaneOutline (record o { procs = z; servers = put o.servers k longer; futures = o.futures ++ fs1; events = sent_events })) (put_self o.procs a.process server.0 server.1)
          (serve_kept o s a.process server.0 server.1 server.0.thread.doing (s.work a.process server.0 server.1) (put o.servers k longer) (o.futures ++ fs1) sent_events
          (server_kept o a.process server.0 server.0 server.1 refl k a longer server.2 place refl refl o.catches (o.futures ++ fs1) o.protects sent_events s.servers
          (λ j h. (count_else j k (sends j o.events) h, (refl, refl)))
          (record {
            calls = sent_calls;
            resting = λ l d. s.servers.resting k a server.0 place server.1 l d;
            prompt = λ l e d. absurd (not_now e d);
            fitting = λ d i e. ⊎_elim (λ t. s.servers.fitting k a d i place t) (λ (t : (i ≡ length a.queue + 1) × (d ≡ c)). ap (λ (z : Call). length z.arguments) t.1 ∙ fits) (push_cases a.queue c d i e);
            full = s.servers.full k a place;
            plain = s.servers.plain k a place;
            dead = s.servers.dead k a server.0 place server.1;
            killed = λ e. s.servers.killed a.process server.0 k server.1 server.2 e;
          }))
          (answers_kept o a.process server.0 server.0 server.1 refl k a longer server.2 place refl refl o.catches (o.futures ++ fs1) o.protects sent_events s.futures reasons as_many_all
          (λ f reason state e g h. wide f reason state e g)
          (λ d f i e g. ⊎_elim
          (λ (t : numbered (current_of a.current ++ a.queue) i ≡ Some d).
          let u = s.futures.calls k a d f i place t g in
          let y = wide f (of_reply k d.number) u.state u.reason_is u.state_is in
          record { reason_is = y.0; state = u.state; state_is = y.1; good = u.good })
          (λ (t : (i ≡ length (current_of a.current ++ a.queue) + 1) × (d ≡ c)).
          let y = mine f (ap (λ (z : Call). z.reply) (sym t.1) ∙ g) in
          record { reason_is = y.0 ∙ ap (λ (z : Call). Some (of_reply k z.number)) (sym t.1); state = pending; state_is = y.1; good = subst (λ z. ReplyState z pending) (sym alive) refl })
          (push_cases (current_of a.current ++ a.queue) c d i (subst (λ z. numbered z i ≡ Some d) (queue_assoc a.current) e)))
          (λ f h.
          let u = s.futures.parameters k a f place h in
          let y = wide f (of_parameter k) u.state u.reason_is u.state_is in
          record { reason_is = y.0; state = u.state; state_is = y.1; good = u.good }))
          (record { opens = record { opened = λ c t. t; homes = λ t. t }; home = λ p. refl; catch = λ c. refl; killed = λ p. refl; ended = λ p. refl }) (record { begun = λ u. refl; finished = λ u. refl; protector = λ u. refl }))

    -- or an eager turn takes it at once
    module _ (eager : a.eager ≡ true) (idle : a.current ≡ None) where
      abbrev busy : Server
      busy = record a { sent = a.sent + 1; current = Some c }

      abbrev fs2 : List Future
      fs2 = filled a.turn xs (o.futures ++ fs1)

      abbrev taken_events : List Event
      taken_events = take a.process k (a.sent + 1) ∷ send p k (a.sent + 1) ∷ o.events

      empty : a.queue ≡ []
      empty = s.servers.prompt k a server.0 place server.1 live eager idle

      not_resting : server.0.thread.doing ≡ rests → ⊥
      not_resting d = not_both eager (s.servers.resting k a server.0 place server.1 live d).1

      same_taken : takes k o.events ≡ replies k o.events
      same_taken = subst (λ z. InProgress z (takes k o.events) (replies k o.events)) idle calls.progress

      taken_calls : CallsSane k busy taken_events
      taken_calls = record {
        sent = (let e = calls.sent in (omega (arith, e) ∙ sym (count_here k (sends k o.events))));
        progress = (number ∙ sym (count_here k (takes k o.events)), count_here k (takes k o.events) ∙ ap suc same_taken);
        queued = subst (λ z. call_numbers z ≡ numbers (takes k taken_events + 1) (length z)) (sym empty) refl;
        all = (let e = calls.all in let l = ap length empty in let t = count_here k (takes k o.events) in omega (arith, e, l, t));
      }
        where
          number : a.sent + 1 ≡ suc (takes k o.events)
          number = let e = calls.all in let l : length a.queue ≡ 0 = ap length empty in omega (arith, e, l)

      not_parameter : (f : ℕ) (reason : Reason) → numbered reasons f ≡ Some reason → (reason ≡ of_parameter k → ⊥) → Among f a.turn → ⊥
      not_parameter f reason e n h =
          let u = s.futures.parameters k a f place h in
          n (one e (numbered_longer s.futures.reasons rs f (of_parameter k) u.reason_is))

      reply_parameter : {i j m : ℕ} → of_reply i j ≡ of_parameter m → ⊥
      reply_parameter e = absurd cc

      pub row_send_taken : SaneOutline (record o { servers = put o.servers k busy; futures = filled a.turn xs (o.futures ++ fs1); events = taken_events })
      row_send_taken =
          subst (λ z. SaneOutline (record o { procs = z; servers = put o.servers k busy; futures = fs2; events = taken_events })) (put_self o.procs a.process server.0 server.1)
          (serve_kept o s a.process server.0 server.1 server.0.thread.doing (s.work a.process server.0 server.1) (put o.servers k busy) fs2 taken_events
          (server_kept o a.process server.0 server.0 server.1 refl k a busy server.2 place refl refl o.catches fs2 o.protects taken_events s.servers
          (λ j h. (count_else j k (sends j o.events) h, (count_else j k (takes j o.events) h, refl)))
          (record {
            calls = taken_calls;
            resting = λ l d. absurd (not_resting d);
            prompt = λ l e d. empty;
            fitting = λ d i e. s.servers.fitting k a d i place e;
            full = s.servers.full k a place;
            plain = s.servers.plain k a place;
            dead = s.servers.dead k a server.0 place server.1;
            killed = λ e. s.servers.killed a.process server.0 k server.1 server.2 e;
          }))
          (answers_kept o a.process server.0 server.0 server.1 refl k a busy server.2 place refl refl o.catches fs2 o.protects taken_events s.futures reasons (as_many_all ∙ sym (filled_length a.turn xs (o.futures ++ fs1)))
          (λ f reason state e g h.
          let y = wide f reason state e g in
          (y.0, filled_else a.turn xs (o.futures ++ fs1) f (not_parameter f reason y.0 (about_not reason h)) ∙ y.1))
          (λ d f i e g.
          let is : d ≡ c = first_is d i (subst (λ z. numbered (c ∷ z) i ≡ Some d) empty e) in
          let y = mine f (ap (λ (z : Call). z.reply) (sym is) ∙ g) in
          record {
            reason_is = y.0 ∙ ap (λ (z : Call). Some (of_reply k z.number)) (sym is);
            state = pending;
            state_is = filled_else a.turn xs (o.futures ++ fs1) f (not_parameter f (of_reply k (a.sent + 1)) y.0 (λ z. reply_parameter z)) ∙ y.1;
            good = subst (λ z. ReplyState z pending) (sym alive) refl;
          })
          (λ f h.
          let u = s.futures.parameters k a f place h in
          let y = wide f (of_parameter k) u.state u.reason_is u.state_is in
          let z = filled_here a.turn xs (o.futures ++ fs1) f u.state (s.servers.full k a place eager ∙ sym fits) h y.1 in
          record { reason_is = y.0; state = valued z.0; state_is = z.1; good = (z.0, refl) }))
          (record { opens = record { opened = λ c t. t; homes = λ t. t }; home = λ p. refl; catch = λ c. refl; killed = λ p. refl; ended = λ p. refl }) (record { begun = λ u. refl; finished = λ u. refl; protector = λ u. refl }))
        where
          first_is : (d : Call) (i : ℕ) → numbered (c ∷ []) i ≡ Some d → d ≡ c
          first_is d zero e = absurd cc
          first_is d (suc zero) e = cc
          first_is d (suc (suc i)) e = absurd cc

          about_not : (reason : Reason) → (About o a.process server.0 server.0 server.1 refl k a busy server.2 place refl refl o.catches fs2 o.protects taken_events reason → ⊥) → reason ≡ of_parameter k → ⊥
          about_not reason h e = h (subst (About o a.process server.0 server.0 server.1 refl k a busy server.2 place refl refl o.catches fs2 o.protects taken_events) (sym e) refl)

-- the process of a process closure takes and answers

module _ (o : Outline) (s : SaneOutline o) (p : ℕ) (q : Seen) (at : numbered o.procs p ≡ Some q) (going : q.ended ≡ false) (k : ℕ) (is : q.kind ≡ serving k) (a : Server) (place : numbered o.servers k ≡ Some a) (by : a.process ≡ p) (live : is_live q ≡ true) (marks : q.thread.marks ≡ base_mark of_server ∷ []) where
  calls' : CallsSane k a o.events
  calls' = s.servers.calls k a place

  at' : numbered o.procs a.process ≡ Some q
  at' = subst (λ i. numbered o.procs i ≡ Some q) (sym by) at

  alive' : a.dead ≡ false
  alive' = s.servers.dead k a q place at' ∙ ap not live

  free_now : is_unwinding q.thread.doing ≡ false → (d : Doing) → is_unwinding d ≡ false → WorkSane (record q { thread = record { marks = q.thread.marks; doing = d } })
  free_now e d f = let w = s.work p q at going in record { unwinding = f ∙ (sym e ∙ w.unwinding); based = w.based; resting = λ g. marks }

  -- a call of its own that is not the one in progress
  abbrev stood : Doing → Seen
  stood d = record q { thread = record { marks = q.thread.marks; doing = d } }

  module _ (at_rest : q.thread.doing ≡ rests) (c : Call) (cs : List Call) (queue : a.queue ≡ c ∷ cs) where
    abbrev served : Server
    served = record a { queue = cs; current = Some c }

    abbrev took : List Event
    took = take p k c.number ∷ o.events

    rested : (a.current ≡ None) × (a.eager ≡ false)
    rested = s.servers.resting k a q place at' live at_rest

    no_turn : a.turn ≡ []
    no_turn = s.servers.plain k a place rested.1

    taken_same : takes k o.events ≡ replies k o.events
    taken_same = subst (λ z. InProgress z (takes k o.events) (replies k o.events)) rested.0 calls'.progress

    numbers_are : call_numbers (c ∷ cs) ≡ numbers (takes k o.events + 1) (length (c ∷ cs))
    numbers_are = subst (λ z. call_numbers z ≡ numbers (takes k o.events + 1) (length z)) queue calls'.queued

    took_calls : CallsSane k served took
    took_calls = record {
      sent = calls'.sent;
      progress = (head ∙ (omega arith ∙ sym (count_here k (takes k o.events))), count_here k (takes k o.events) ∙ ap suc taken_same);
      queued = tail ∙ ap (λ z. numbers (z + 1) (length cs)) (omega arith ∙ sym (count_here k (takes k o.events)));
      all = (let e = calls'.all in let l = ap length queue in let t = count_here k (takes k o.events) in omega (arith, e, l, t));
    }
      where
        head : c.number ≡ takes k o.events + 1
        head = let e = numbers_are in cc

        tail : call_numbers cs ≡ numbers (takes k o.events + 1 + 1) (length cs)
        tail = let e = numbers_are in cc

    pub row_take : SaneOutline (record o { procs = put o.procs p (stood works); servers = put o.servers k served; events = took })
    row_take =
        serve_kept o s p q at works (λ e. free_now (ap is_unwinding at_rest) works refl) (put o.servers k served) o.futures took
        (server_kept o p q (stood works) at refl k a served is place by by o.catches o.futures o.protects took s.servers
        (λ j h. (refl, (count_else j k (takes j o.events) h, refl)))
        (record {
          calls = took_calls;
          resting = λ l d. absurd (no_rest d);
          prompt = λ l e d. absurd (not_both e rested.1);
          fitting = λ d i e. s.servers.fitting k a d (suc i) place (subst (λ z. numbered z (suc i) ≡ Some d) (sym queue) (deeper d i e));
          full = s.servers.full k a place;
          plain = s.servers.plain k a place;
          dead = s.servers.dead k a q place at';
          killed = λ e. absurd (not_both e going);
        }))
        (answers_kept o p q (stood works) at refl k a served is place by by o.catches o.futures o.protects took s.futures s.futures.reasons s.futures.all
        (λ f reason state e g h. (e, g))
        (λ d f i e g.
        let e' : numbered (current_of a.current ++ a.queue) i ≡ Some d = subst (λ (z : List Call × List Call). numbered (z.0 ++ z.1) i ≡ Some d) (λ j. (current_of (sym rested.0 j), sym queue j)) e in
        let u = s.futures.calls k a d f i place e' g in
        record { reason_is = u.reason_is; state = u.state; state_is = u.state_is; good = u.good })
        (λ f h. absurd (subst (Among f) no_turn h)))
        (record { opens = record { opened = λ c t. t; homes = λ t. t }; home = λ p. refl; catch = λ c. refl; killed = λ p. refl; ended = λ p. refl }) (record { begun = λ u. refl; finished = λ u. refl; protector = λ u. refl })
      where
        no_rest : works ≡ rests → ⊥
        no_rest z = absurd cc

        deeper : (d : Call) (i : ℕ) → numbered cs i ≡ Some d → numbered (c ∷ cs) (suc i) ≡ Some d
        deeper d zero e = absurd cc
        deeper d (suc i) e = e

  -- a reply

  module _ (at_work : q.thread.doing ≡ works) (c : Call) (busy : a.current ≡ Some c) (x : Word) (text : Option (List ℕ)) where
    abbrev said : List Event
    said = reply p k c.number text ∷ o.events

    abbrev fs3 : List Future
    fs3 = answered c.reply x o.futures

    in_progress : (c.number ≡ takes k o.events) × (takes k o.events ≡ suc (replies k o.events))
    in_progress = subst (λ z. InProgress z (takes k o.events) (replies k o.events)) busy calls'.progress

    -- the future of the reply was made for it
    reply_reason : (f : ℕ) → c.reply ≡ Some f → numbered s.futures.reasons f ≡ Some (of_reply k c.number)
    reply_reason f e = (s.futures.calls k a c f 1 place (subst (λ z. numbered (current_of z ++ a.queue) 1 ≡ Some c) (sym busy) refl) e).reason_is

    reply_else : (f : ℕ) (reason : Reason) → numbered s.futures.reasons f ≡ Some reason → (reason ≡ of_reply k c.number → ⊥) → numbered fs3 f ≡ numbered o.futures f
    reply_else f reason e n = answered_else c.reply x o.futures f (λ g. n (one e (reply_reason f g)))

    same_reply : {i j m n : ℕ} → of_reply i j ≡ of_reply m n → j ≡ n
    same_reply e = cc

    parameter_reply : {i m n : ℕ} → of_parameter i ≡ of_reply m n → ⊥
    parameter_reply e = absurd cc

    -- the calls in the queue still wait
    still_queued : (d : Call) (f i : ℕ) → numbered a.queue i ≡ Some d → d.reply ≡ Some f → (numbered s.futures.reasons f ≡ Some (of_reply k d.number)) × (numbered fs3 f ≡ Some pending)
    still_queued d f i e g =
        let e' : numbered (current_of a.current ++ a.queue) (suc i) ≡ Some d = subst (λ z. numbered (current_of z ++ a.queue) (suc i) ≡ Some d) (sym busy) (deeper i e) in
        let u = s.futures.calls k a d f (suc i) place e' g in
        let low = queued_from a.queue (takes k o.events + 1) i d calls'.queued e in
        let mine = in_progress.0 in
        (u.reason_is, reply_else f (of_reply k d.number) u.reason_is (λ z. let same = same_reply z in absurd (omega (arith, low, mine, same))) ∙ (u.state_is ∙ ap Some (subst (λ z. ReplyState z u.state) alive' u.good)))
      where
        deeper : (i : ℕ) → numbered a.queue i ≡ Some d → numbered (c ∷ a.queue) (suc i) ≡ Some d
        deeper zero e = absurd cc
        deeper (suc i) e = e

    module _ (plain : a.eager ≡ false) where
      abbrev answered_server : Server
      answered_server = record a { current = None }

      pub row_reply_plain : SaneOutline (record o { procs = put o.procs p (stood rests); servers = put o.servers k answered_server; futures = answered c.reply x o.futures; events = reply p k c.number text ∷ o.events })
      row_reply_plain =
          serve_kept o s p q at rests (λ e. free_now (ap is_unwinding at_work) rests refl) (put o.servers k answered_server) fs3 said
          (server_kept o p q (stood rests) at refl k a answered_server is place by by o.catches fs3 o.protects said s.servers
          (λ j h. (refl, (refl, count_else j k (replies j o.events) h)))
          (record {
            calls = record { sent = calls'.sent; progress = in_progress.1 ∙ sym (count_here k (replies k o.events)); queued = calls'.queued; all = calls'.all };
            resting = λ l d. (refl, plain);
            prompt = λ l e d. absurd (not_both e plain);
            fitting = λ d i e. s.servers.fitting k a d i place e;
            full = s.servers.full k a place;
            plain = s.servers.plain k a place;
            dead = s.servers.dead k a q place at';
            killed = λ e. absurd (not_both e going);
          }))
          (answers_kept o p q (stood rests) at refl k a answered_server is place by by o.catches fs3 o.protects said s.futures s.futures.reasons (s.futures.all ∙ sym (answered_length c.reply x o.futures))
          (λ f reason state e g h. (e, reply_else f reason e (λ z. h (subst (About o p q (stood rests) at refl k a answered_server is place by by o.catches fs3 o.protects said) (sym z) refl)) ∙ g))
          (λ d f i e g. let u = still_queued d f i e g in record { reason_is = u.0; state = pending; state_is = u.1; good = subst (λ z. ReplyState z pending) (sym alive') refl })
          (λ f h. absurd (subst (Among f) (s.servers.plain k a place plain) h)))
          (record { opens = record { opened = λ c t. t; homes = λ t. t }; home = λ p. refl; catch = λ c. refl; killed = λ p. refl; ended = λ p. refl }) (record { begun = λ u. refl; finished = λ u. refl; protector = λ u. refl })

    -- the next turn of an eager one, with so many new futures
    module _ (eager : a.eager ≡ true) (many : ℕ) (fits : many ≡ length a.body.parameters) where
      abbrev fs4 : List Future
      fs4 = fs3 ++ replicate many pending

      abbrev rs4 : List Reason
      rs4 = s.futures.reasons ++ replicate many (of_parameter k)

      abbrev turn : List ℕ
      turn = numbers (length (answered c.reply x o.futures) + 1) many

      all4 : length rs4 ≡ length fs4
      all4 =
          length_push s.futures.reasons (replicate many (of_parameter k))
          ∙ (ap (λ z. z + length (replicate many (of_parameter k))) (s.futures.all ∙ sym (answered_length c.reply x o.futures))
          ∙ (ap (λ z. length fs3 + z) (replicate_length many (of_parameter k) ∙ sym (replicate_length many pending))
          ∙ sym (length_push fs3 (replicate many pending))))

      new_parameter : (f : ℕ) → Among f turn → (numbered rs4 f ≡ Some (of_parameter k)) × (numbered fs4 f ≡ Some pending)
      new_parameter f h = (
        among_numbers s.futures.reasons (of_parameter k) many f (subst (λ z. Among f (numbers (z + 1) many)) (answered_length c.reply x o.futures ∙ sym s.futures.all) h),
        among_numbers fs3 pending many f h,
      )

      full_turn : length turn ≡ length a.body.parameters
      full_turn = numbers_length (length fs3 + 1) many ∙ fits

      wide4 : (f : ℕ) (reason : Reason) (state : Future) → numbered s.futures.reasons f ≡ Some reason → numbered fs3 f ≡ Some state → (numbered rs4 f ≡ Some reason) × (numbered fs4 f ≡ Some state)
      wide4 f reason state e g = (numbered_longer s.futures.reasons (replicate many (of_parameter k)) f reason e, numbered_longer fs3 (replicate many pending) f state g)

      module _ (none : a.queue ≡ []) where
        abbrev idle_server : Server
        idle_server = record a { current = None; turn = turn }

        pub row_reply_idle : SaneOutline (record o { procs = put o.procs p (stood works); servers = put o.servers k idle_server; futures = fs4; events = said })
        row_reply_idle =
            serve_kept o s p q at works (λ e. free_now (ap is_unwinding at_work) works refl) (put o.servers k idle_server) fs4 said
            (server_kept o p q (stood works) at refl k a idle_server is place by by o.catches fs4 o.protects said s.servers
            (λ j h. (refl, (refl, count_else j k (replies j o.events) h)))
            (record {
              calls = record { sent = calls'.sent; progress = in_progress.1 ∙ sym (count_here k (replies k o.events)); queued = calls'.queued; all = calls'.all };
              resting = λ l d. absurd (no_rest d);
              prompt = λ l e d. none;
              fitting = λ d i e. s.servers.fitting k a d i place e;
              full = λ e. full_turn;
              plain = λ e. absurd (not_both eager e);
              dead = s.servers.dead k a q place at';
              killed = λ e. absurd (not_both e going);
            }))
            (answers_kept o p q (stood works) at refl k a idle_server is place by by o.catches fs4 o.protects said s.futures rs4 all4
            (λ f reason state e g h. wide4 f reason state e (reply_else f reason e (λ z. h (subst (About o p q (stood works) at refl k a idle_server is place by by o.catches fs4 o.protects said) (sym z) refl)) ∙ g))
            (λ d f i e g. let u = still_queued d f i e g in let y = wide4 f (of_reply k d.number) pending u.0 u.1 in record { reason_is = y.0; state = pending; state_is = y.1; good = subst (λ z. ReplyState z pending) (sym alive') refl })
            (λ f h. let y = new_parameter f h in record { reason_is = y.0; state = pending; state_is = y.1; good = subst (λ z. ReplyState z pending) (sym alive') refl }))
            (record { opens = record { opened = λ c t. t; homes = λ t. t }; home = λ p. refl; catch = λ c. refl; killed = λ p. refl; ended = λ p. refl }) (record { begun = λ u. refl; finished = λ u. refl; protector = λ u. refl })
          where
            no_rest : works ≡ rests → ⊥
            no_rest z = absurd cc

      module _ (c2 : Call) (cs : List Call) (queue : a.queue ≡ c2 ∷ cs) where
        abbrev next_server : Server
        next_server = record a { current = Some c2; queue = cs; turn = turn }

        abbrev said_and_took : List Event
        said_and_took = take p k c2.number ∷ reply p k c.number text ∷ o.events

        abbrev fs5 : List Future
        fs5 = filled turn c2.arguments fs4

        numbers_are' : call_numbers (c2 ∷ cs) ≡ numbers (takes k o.events + 1) (length (c2 ∷ cs))
        numbers_are' = subst (λ z. call_numbers z ≡ numbers (takes k o.events + 1) (length z)) queue calls'.queued

        next_calls : CallsSane k next_server said_and_took
        next_calls = record {
          sent = calls'.sent;
          progress = (head ∙ (omega arith ∙ sym (count_here k (takes k o.events))), count_here k (takes k o.events) ∙ ap suc (in_progress.1 ∙ sym (count_here k (replies k o.events))));
          queued = tail ∙ ap (λ z. numbers (z + 1) (length cs)) (omega arith ∙ sym (count_here k (takes k o.events)));
          all = (let e = calls'.all in let l = ap length queue in let t = count_here k (takes k o.events) in omega (arith, e, l, t));
        }
          where
            head : c2.number ≡ takes k o.events + 1
            head = let e = numbers_are' in cc

            tail : call_numbers cs ≡ numbers (takes k o.events + 1 + 1) (length cs)
            tail = let e = numbers_are' in cc

        fits2 : length c2.arguments ≡ length a.body.parameters
        fits2 = s.servers.fitting k a c2 1 place (subst (λ z. numbered z 1 ≡ Some c2) (sym queue) refl)

        not_parameter' : (f : ℕ) (reason : Reason) → numbered rs4 f ≡ Some reason → (reason ≡ of_parameter k → ⊥) → Among f turn → ⊥
        not_parameter' f reason e n h = n (one e (new_parameter f h).0)

        pub row_reply_next : SaneOutline (record o { procs = put o.procs p (stood works); servers = put o.servers k next_server; futures = fs5; events = said_and_took })
        row_reply_next =
            serve_kept o s p q at works (λ e. free_now (ap is_unwinding at_work) works refl) (put o.servers k next_server) fs5 said_and_took
            (server_kept o p q (stood works) at refl k a next_server is place by by o.catches fs5 o.protects said_and_took s.servers
            (λ j h. (refl, (count_else j k (takes j o.events) h, count_else j k (replies j o.events) h)))
            (record {
              calls = next_calls;
              resting = λ l d. absurd (no_rest d);
              prompt = λ l e d. absurd (some_none d);
              fitting = λ d i e. s.servers.fitting k a d (suc i) place (subst (λ z. numbered z (suc i) ≡ Some d) (sym queue) (deeper d i e));
              full = λ e. full_turn;
              plain = λ e. absurd (not_both eager e);
              dead = s.servers.dead k a q place at';
              killed = λ e. absurd (not_both e going);
            }))
            (answers_kept o p q (stood works) at refl k a next_server is place by by o.catches fs5 o.protects said_and_took s.futures rs4 (all4 ∙ sym (filled_length turn c2.arguments fs4))
            (λ f reason state e g h.
            let y = wide4 f reason state e (reply_else f reason e (λ z. h (subst Is (sym z) refl)) ∙ g) in
            (y.0, filled_else turn c2.arguments fs4 f (not_parameter' f reason y.0 (λ z. h (subst Is (sym z) refl))) ∙ y.1))
            (λ d f i e g.
            let u = still_queued d f i (subst (λ z. numbered z i ≡ Some d) (sym queue) e) g in
            let y = wide4 f (of_reply k d.number) pending u.0 u.1 in
            record { reason_is = y.0; state = pending; state_is = filled_else turn c2.arguments fs4 f (not_parameter' f (of_reply k d.number) y.0 (λ z. parameter_reply (sym z))) ∙ y.1; good = subst (λ z. ReplyState z pending) (sym alive') refl })
            (λ f h.
            let y = new_parameter f h in
            let z = filled_here turn c2.arguments fs4 f pending (full_turn ∙ sym fits2) h y.1 in
            record { reason_is = y.0; state = valued z.0; state_is = z.1; good = (z.0, refl) }))
            (record { opens = record { opened = λ c t. t; homes = λ t. t }; home = λ p. refl; catch = λ c. refl; killed = λ p. refl; ended = λ p. refl }) (record { begun = λ u. refl; finished = λ u. refl; protector = λ u. refl })
          where
            Is : Reason → Type 0
            Is = About o p q (stood works) at refl k a next_server is place by by o.catches fs5 o.protects said_and_took

            no_rest : works ≡ rests → ⊥
            no_rest z = absurd cc

            some_none : {c : Call} → Some c ≡ None → ⊥
            some_none e = absurd cc

            deeper : (d : Call) (i : ℕ) → numbered cs i ≡ Some d → numbered (c2 ∷ cs) (suc i) ≡ Some d
            deeper d zero e = absurd cc
            deeper d (suc i) e = e
