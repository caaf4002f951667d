-- Rows that change one process closure, or the future of one child.
use Rattle.std.proofs.Common.{◌≡◌, ◌≢◌, ℕ, ◌<◌, true, false, List, [], ◌++◌, length, Some, None, sym, ap, ◌∙◌, subst, ⊎_elim, arith}
use Rattle.std.specs.Prelude.{not}
use Rattle.ql_world.specs.declared.event.Event.{Event}
use Rattle.ql_world.specs.World.{Call, numbered, change_numbered}
use Rattle.ql_world.specs.declared.world.FutState.{FutState as Future}
use Rattle.ql_world.specs.declared.world.Aim.TheVariants.{Die as die}
use Rattle.ql_world.specs.declared.world.Catch.{Catch}
use Rattle.ql_world.specs.declared.world.Kind.TheVariants.{Child as child, Closure as serving}
use Rattle.ql_world.specs.Within.{is_live, is_die}
use Rattle.ql_world.specs.Idle.{current_of}
use Rattle.ql_meaning.specs.Sane.{rests, Seen, Server, Outline, Among, sends, takes, replies, CallsSane, ServersSane, Reason, of_binding, of_reply, of_parameter, IsFuture, ChildState, ReplyState, ParameterState, FuturesSane}
use Rattle.ql_meaning.proofs.Lists.{one, put, put_at, put_else, put_cases, put_length, changed_length, numbered_low}
use Rattle.ql_meaning.proofs.Kept.{QuietCalls, calls_kept}
use Rattle.ql_meaning.proofs.Kill.{changed_here, changed_else}

pub serving_same : {a b : ℕ} → serving a ≡ serving b → a ≡ b
serving_same e = cc

pub child_same : {a b : ℕ} → child a ≡ child b → a ≡ b
child_same e = cc

module _ (o : Outline) (n : ℕ) (q r : Seen) (at : numbered o.procs n ≡ Some q) (kind : r.kind ≡ q.kind) where
  -- a process that serves nobody

  module _ (ks : List Catch) (fs : List Future) (u : ℕ) (es : List Event) (no_server : (k : ℕ) → q.kind ≡ serving k → ⊥) where
    abbrev v : Outline
    v = record { catches = ks; procs = put o.procs n r; servers = o.servers; futures = fs; protects = u; events = es }

    pub strangers_kept : ServersSane o → QuietCalls o.events es → ServersSane v
    strangers_kept s quiet = record {
      calls = λ k x e. calls_kept k x o.events es quiet (s.calls k x e);
      unmade = λ k h. let t = s.unmade k h in (quiet.sends k ∙ t.0, (quiet.takes k ∙ t.1.0, quiet.replies k ∙ t.1.1));
      served = λ k x e. let t = s.served k x e in (t.0, put_else o.procs n x.process r (apart k x e) ∙ t.1, t.2);
      serves = λ i x k e f. ⊎_elim
          (λ (t : (i ≡ n) × (x ≡ r)). absurd (no_server k (sym kind ∙ (ap (λ (z : Seen). z.kind) (sym t.1) ∙ f))))
          (λ (t : (i ≢ n) × (numbered o.procs i ≡ Some x)). s.serves i x k t.1 f)
          (put_cases o.procs n i r x e);
      resting = λ k x y e f l d. s.resting k x y e (old k x y e f) l d;
      prompt = λ k x y e f l d c. s.prompt k x y e (old k x y e f) l d c;
      fitting = s.fitting;
      full = s.full;
      plain = s.plain;
      dead = λ k x y e f. s.dead k x y e (old k x y e f);
      killed = λ i x k e f h. ⊎_elim
          (λ (t : (i ≡ n) × (x ≡ r)). absurd (no_server k (sym kind ∙ (ap (λ (z : Seen). z.kind) (sym t.1) ∙ f))))
          (λ (t : (i ≢ n) × (numbered o.procs i ≡ Some x)). s.killed i x k t.1 f h)
          (put_cases o.procs n i r x e);
    }
      where
        apart : (k : ℕ) (x : Server) → numbered o.servers k ≡ Some x → x.process ≢ n
        apart k x e z =
            let t = s.served k x e in
            let same : t.0 ≡ q = one t.1 (subst (λ i. numbered o.procs i ≡ Some q) (sym z) at) in
            no_server k (ap (λ (y : Seen). y.kind) (sym same) ∙ t.2)

        old : (k : ℕ) (x : Server) (y : Seen) → numbered o.servers k ≡ Some x → numbered (put o.procs n r) x.process ≡ Some y → numbered o.procs x.process ≡ Some y
        old k x y e f = sym (put_else o.procs n x.process r (apart k x e)) ∙ f

  -- the future of a child changes
  module _ (ks : List Catch) (u : ℕ) (es : List Event) (f : ℕ) (is : q.kind ≡ child f) (g : Future → Future) where
    abbrev w : Outline
    w = record { catches = ks; procs = put o.procs n r; servers = o.servers; futures = change_numbered g o.futures f; protects = u; events = es }

    pub child_kept : FuturesSane o → ((a : Future) → ChildState (is_die q.aim) q.ended a → ChildState (is_die r.aim) r.ended (g a)) → FuturesSane w
    child_kept s good = record {
      reasons = s.reasons;
      all = s.all ∙ sym (changed_length g o.futures f);
      children = λ i x h e k.
          ⊎_elim
          (λ (t : (i ≡ n) × (x ≡ r)).
          let same : h ≡ f = child_same (sym k ∙ (ap (λ (z : Seen). z.kind) t.1 ∙ (kind ∙ is))) in
          subst (λ (z : ℕ × ℕ × Seen). IsFuture w s.reasons z.0 (of_binding z.1) (ChildState (is_die z.2.aim) z.2.ended)) (λ z. (sym same z, sym t.0 z, sym t.1 z))
          (record { reason_is = mine.reason_is; state = g mine.state; state_is = changed_here g o.futures f mine.state mine.state_is; good = good mine.state mine.good }))
          (λ (t : (i ≢ n) × (numbered o.procs i ≡ Some x)).
          let c = s.children i x h t.1 k in
          still h (of_binding i) (λ z. t.0 (binding_same z)) (ChildState (is_die x.aim) x.ended) c)
          (put_cases o.procs n i r x e);
      calls = λ k x c h i e a b. still h (of_reply k c.number) (λ z. not_reply z) (ReplyState x.dead) (s.calls k x c h i e a b);
      parameters = λ k x h e a. still h (of_parameter k) (λ z. not_parameter z) (ParameterState x.current x.dead) (s.parameters k x h e a);
    }
      where
        mine : IsFuture o s.reasons f (of_binding n) (ChildState (is_die q.aim) q.ended)
        mine = s.children n q f at is

        binding_same : {a b : ℕ} → of_binding a ≡ of_binding b → a ≡ b
        binding_same e = cc

        not_reply : {a b c : ℕ} → of_reply a b ≡ of_binding c → ⊥
        not_reply e = absurd cc

        not_parameter : {a c : ℕ} → of_parameter a ≡ of_binding c → ⊥
        not_parameter e = absurd cc

        still : (h : ℕ) (reason : Reason) → reason ≢ of_binding n → (Is : Future → Type 0) → IsFuture o s.reasons h reason Is → IsFuture w s.reasons h reason Is
        still h reason apart Is c = record {
          reason_is = c.reason_is;
          state = c.state;
          state_is = changed_else g o.futures f h (λ z. apart (one c.reason_is (subst (λ i. numbered s.reasons i ≡ Some (of_binding n)) (sym z) mine.reason_is))) ∙ c.state_is;
          good = c.good;
        }

  -- the process of a process closure, which changes with it

  module _ (k : ℕ) (a b : Server) (is : q.kind ≡ serving k) (place : numbered o.servers k ≡ Some a) (by : a.process ≡ n) (still_by : b.process ≡ n) (ks : List Catch) (fs : List Future) (u : ℕ) (es : List Event) where
    abbrev x : Outline
    x = record { catches = ks; procs = put o.procs n r; servers = put o.servers k b; futures = fs; protects = u; events = es }

    -- what is to be shown of this process closure
    pub record ServerSane : Type 0 where
      pub calls : CallsSane k b es
      pub resting : is_live r ≡ true → r.thread.doing ≡ rests → (b.current ≡ None) × (b.eager ≡ false)
      pub prompt : is_live r ≡ true → b.eager ≡ true → b.current ≡ None → b.queue ≡ []
      pub fitting : (c : Call) (i : ℕ) → numbered b.queue i ≡ Some c → length c.arguments ≡ length b.body.parameters
      pub full : b.eager ≡ true → length b.turn ≡ length b.body.parameters
      pub plain : b.eager ≡ false → b.turn ≡ []
      pub dead : b.dead ≡ not (is_live r)
      pub killed : r.ended ≡ true → r.aim ≡ die

    pub server_kept : ServersSane o → ((j : ℕ) → j ≢ k → (sends j es ≡ sends j o.events) × ((takes j es ≡ takes j o.events) × (replies j es ≡ replies j o.events))) → ServerSane → ServersSane x
    server_kept s quiet t = record {
      calls = λ j y e. ⊎_elim
          (λ (c : (j ≡ k) × (y ≡ b)). subst (λ (z : ℕ × Server). CallsSane z.0 z.1 es) (λ z. (sym c.0 z, sym c.1 z)) t.calls)
          (λ (c : (j ≢ k) × (numbered o.servers j ≡ Some y)). else_calls j y c.0 (s.calls j y c.1))
          (put_cases o.servers k j b y e);
      unmade = λ j h.
          let h' : length o.servers < j = subst (λ z. z < j) (put_length o.servers k b) h in
          let low = (numbered_low o.servers k a place).1 in
          let d = s.unmade j h' in
          let e = quiet j (λ z. omega (arith, low, h', z)) in
          (e.0 ∙ d.0, (e.1.0 ∙ d.1.0, e.1.1 ∙ d.1.1));
      served = λ j y e. ⊎_elim
          (λ (c : (j ≡ k) × (y ≡ b)).
          (r, subst (λ z. numbered (put o.procs n r) z ≡ Some r) (sym (ap (λ (z : Server). z.process) c.1 ∙ still_by)) (put_at o.procs n q r at), kind ∙ (is ∙ ap serving (sym c.0))))
          (λ (c : (j ≢ k) × (numbered o.servers j ≡ Some y)).
          let d = s.served j y c.1 in (d.0, put_else o.procs n y.process r (apart j y c.0 c.1) ∙ d.1, d.2))
          (put_cases o.servers k j b y e);
      serves = λ i y j e f. ⊎_elim
          (λ (c : (i ≡ n) × (y ≡ r)).
          let same : j ≡ k = serving_same (sym f ∙ (ap (λ (z : Seen). z.kind) c.1 ∙ (kind ∙ is))) in
          (b, subst (λ z. numbered (put o.servers k b) z ≡ Some b) (sym same) (put_at o.servers k a b place), still_by ∙ sym c.0))
          (λ (c : (i ≢ n) × (numbered o.procs i ≡ Some y)).
          let d = s.serves i y j c.1 f in
          let j_apart : j ≢ k = λ z. c.0 (sym d.2 ∙ (ap (λ (z : Server). z.process) (one d.1 (subst (λ i. numbered o.servers i ≡ Some a) (sym z) place)) ∙ by)) in
          (d.0, put_else o.servers k j b j_apart ∙ d.1, d.2))
          (put_cases o.procs n i r y e);
      resting = λ j y z e f l d. ⊎_elim
          (λ (c : (j ≡ k) × (y ≡ b)). let g = mine y z c.1 f in subst (λ (i : Server). (i.current ≡ None) × (i.eager ≡ false)) (sym c.1) (t.resting (ap (λ (i : Seen). is_live i) (sym g) ∙ l) (ap (λ (i : Seen). i.thread.doing) (sym g) ∙ d)))
          (λ (c : (j ≢ k) × (numbered o.servers j ≡ Some y)). s.resting j y z c.1 (old j y z c.0 c.1 f) l d)
          (put_cases o.servers k j b y e);
      prompt = λ j y z e f l d g. ⊎_elim
          (λ (c : (j ≡ k) × (y ≡ b)). let h = mine y z c.1 f in subst (λ (i : Server). i.queue ≡ []) (sym c.1) (t.prompt (ap (λ (i : Seen). is_live i) (sym h) ∙ l) (ap (λ (i : Server). i.eager) (sym c.1) ∙ d) (ap (λ (i : Server). i.current) (sym c.1) ∙ g)))
          (λ (c : (j ≢ k) × (numbered o.servers j ≡ Some y)). s.prompt j y z c.1 (old j y z c.0 c.1 f) l d g)
          (put_cases o.servers k j b y e);
      fitting = λ j y c i e f. ⊎_elim
          (λ (d : (j ≡ k) × (y ≡ b)). subst (λ (z : Server). length c.arguments ≡ length z.body.parameters) (sym d.1) (t.fitting c i (subst (λ (z : Server). numbered z.queue i ≡ Some c) d.1 f)))
          (λ (d : (j ≢ k) × (numbered o.servers j ≡ Some y)). s.fitting j y c i d.1 f)
          (put_cases o.servers k j b y e);
      full = λ j y e f. ⊎_elim
          (λ (d : (j ≡ k) × (y ≡ b)). subst (λ (z : Server). length z.turn ≡ length z.body.parameters) (sym d.1) (t.full (ap (λ (i : Server). i.eager) (sym d.1) ∙ f)))
          (λ (d : (j ≢ k) × (numbered o.servers j ≡ Some y)). s.full j y d.1 f)
          (put_cases o.servers k j b y e);
      plain = λ j y e f. ⊎_elim
          (λ (d : (j ≡ k) × (y ≡ b)). subst (λ (z : Server). z.turn ≡ []) (sym d.1) (t.plain (ap (λ (i : Server). i.eager) (sym d.1) ∙ f)))
          (λ (d : (j ≢ k) × (numbered o.servers j ≡ Some y)). s.plain j y d.1 f)
          (put_cases o.servers k j b y e);
      dead = λ j y z e f. ⊎_elim
          (λ (c : (j ≡ k) × (y ≡ b)). let g = mine y z c.1 f in ap (λ (i : Server). i.dead) c.1 ∙ (t.dead ∙ ap (λ (i : Seen). not (is_live i)) (sym g)))
          (λ (c : (j ≢ k) × (numbered o.servers j ≡ Some y)). s.dead j y z c.1 (old j y z c.0 c.1 f))
          (put_cases o.servers k j b y e);
      killed = λ i y j e f h. ⊎_elim
          (λ (c : (i ≡ n) × (y ≡ r)). ap (λ (z : Seen). z.aim) c.1 ∙ t.killed (ap (λ (z : Seen). z.ended) (sym c.1) ∙ h))
          (λ (c : (i ≢ n) × (numbered o.procs i ≡ Some y)). s.killed i y j c.1 f h)
          (put_cases o.procs n i r y e);
    }
      where
        else_calls : (j : ℕ) (y : Server) → j ≢ k → CallsSane j y o.events → CallsSane j y es
        else_calls j y h c =
            let e = quiet j h in
            record { sent = c.sent ∙ sym e.0; progress = rw (e.1.0, e.1.1) c.progress; queued = rw e.1.0 c.queued; all = rw e.1.0 c.all }

        apart : (j : ℕ) (y : Server) → j ≢ k → numbered o.servers j ≡ Some y → y.process ≢ n
        apart j y h e z =
            let d = s.served j y e in
            let same : d.0 ≡ q = one d.1 (subst (λ i. numbered o.procs i ≡ Some q) (sym z) at) in
            h (serving_same (sym d.2 ∙ (ap (λ (i : Seen). i.kind) same ∙ is)))

        old : (j : ℕ) (y : Server) (z : Seen) → j ≢ k → numbered o.servers j ≡ Some y → numbered (put o.procs n r) y.process ≡ Some z → numbered o.procs y.process ≡ Some z
        old j y z h e f = sym (put_else o.procs n y.process r (apart j y h e)) ∙ f

        mine : (y : Server) (z : Seen) → y ≡ b → numbered (put o.procs n r) y.process ≡ Some z → z ≡ r
        mine y z c f = one f (subst (λ i. numbered (put o.procs n r) i ≡ Some r) (sym (ap (λ (i : Server). i.process) c ∙ still_by)) (put_at o.procs n q r at))

    -- a reason that is not about this process closure
    abbrev pub About : Reason → Type 0
    About (of_binding i) = ⊥
    About (of_reply j c) = j ≡ k
    About (of_parameter j) = j ≡ k

    pub answers_kept : (s : FuturesSane o) (reasons : List Reason) → length reasons ≡ length fs → ((f : ℕ) (reason : Reason) (state : Future) → numbered s.reasons f ≡ Some reason → numbered o.futures f ≡ Some state → (About reason → ⊥) → (numbered reasons f ≡ Some reason) × (numbered fs f ≡ Some state)) → ((c : Call) (f i : ℕ) → numbered (current_of b.current ++ b.queue) i ≡ Some c → c.reply ≡ Some f → IsFuture x reasons f (of_reply k c.number) (ReplyState b.dead)) → ((f : ℕ) → Among f b.turn → IsFuture x reasons f (of_parameter k) (ParameterState b.current b.dead)) → FuturesSane x
    answers_kept s reasons all keep calls parameters = record {
      reasons = reasons;
      all = all;
      children = λ i y f e h. ⊎_elim
          (λ (t : (i ≡ n) × (y ≡ r)). absurd (not_child (sym h ∙ (ap (λ (z : Seen). z.kind) t.1 ∙ (kind ∙ is)))))
          (λ (t : (i ≢ n) × (numbered o.procs i ≡ Some y)). still f (of_binding i) (λ z. z) (ChildState (is_die y.aim) y.ended) (s.children i y f t.1 h))
          (put_cases o.procs n i r y e);
      calls = λ j y c f i e h g. ⊎_elim
          (λ (t : (j ≡ k) × (y ≡ b)).
          subst (λ (z : ℕ × Server). IsFuture x reasons f (of_reply z.0 c.number) (ReplyState z.1.dead)) (λ z. (sym t.0 z, sym t.1 z))
          (calls c f i (subst (λ (z : Server). numbered (current_of z.current ++ z.queue) i ≡ Some c) t.1 h) g))
          (λ (t : (j ≢ k) × (numbered o.servers j ≡ Some y)). still f (of_reply j c.number) t.0 (ReplyState y.dead) (s.calls j y c f i t.1 h g))
          (put_cases o.servers k j b y e);
      parameters = λ j y f e h. ⊎_elim
          (λ (t : (j ≡ k) × (y ≡ b)).
          subst (λ (z : ℕ × Server). IsFuture x reasons f (of_parameter z.0) (ParameterState z.1.current z.1.dead)) (λ z. (sym t.0 z, sym t.1 z))
          (parameters f (subst (λ (z : Server). Among f z.turn) t.1 h)))
          (λ (t : (j ≢ k) × (numbered o.servers j ≡ Some y)). still f (of_parameter j) t.0 (ParameterState y.current y.dead) (s.parameters j y f t.1 h))
          (put_cases o.servers k j b y e);
    }
      where
        not_child : {c d : ℕ} → child c ≡ serving d → ⊥
        not_child e = absurd cc

        still : (f : ℕ) (reason : Reason) → (About reason → ⊥) → (Is : Future → Type 0) → IsFuture o s.reasons f reason Is → IsFuture x reasons f reason Is
        still f reason h Is c = let e = keep f reason c.state c.reason_is c.state_is h in record { reason_is = e.0; state = c.state; state_is = e.1; good = c.good }
