-- Lines end at the first line feed.
use Rattle.std.proofs.Common.{◌≡◌, refl, sym, ◌∙◌, ap, ℕ, ◌==◌, ◌<◌, ◌≤◌, Bool, true, false, not, List, [], ◌∷◌, ◌++◌, length, Option, Some, None, arith, eqb-true}
use Rattle.std.specs.Prelude.{codes}
use Rattle.std.specs.Fmt.{decimal}
use Rattle.std.proofs.lemmas.List.{append_assoc, length-append}
use Rattle.std.proofs.lemmas.Bool.Decides.{nat_tests}
use Rattle.ql_base.specs.declared.fault.RunFault.{RunFault}
use Rattle.ql_base.specs.declared.fault.RunFault.TheVariants.{Overflow, NotNumber, NotPair, DivZero, Unbound, NoCatch, DeadFuture, DeadClosure, WrongCount, NotFunction, InCleanup}
use Rattle.ql_base.specs.declared.limits.LimitKind.{LimitKind}
use Rattle.ql_base.specs.declared.limits.LimitKind.TheVariants.{Cells, Procs, Output}
use Rattle.ql_world.specs.declared.event.Stop.{Stop}
use Rattle.ql_world.specs.declared.event.Stop.TheVariants.{Done as done, Fault as fault, Limit as limit, Deadlock as deadlock, Budget as budget}
use Rattle.ql_world.specs.declared.event.Mode.{Mode}
use Rattle.ql_world.specs.declared.event.Mode.TheVariants.{Let as binding, Call as called, Eager as eager}
use Rattle.ql_world.specs.declared.event.Event.{Event}
use Rattle.ql_world.specs.declared.event.Event.TheVariants.{Turn as turn, Spawn as spawn, Opened as opened, Exit as exit, Throw as throw, Land as land, Kill as kill, Protect as protect, Begin as begin, Finish as finish, Send as send, Take as take, Reply as reply, EndOk as end_ok, EndKilled as end_killed, Stopped as stopped}
use Rattle.ql_world.specs.declared.event.Head.{Head}
use Rattle.ql_world.specs.Short.{ArePrinted}
use Rattle.ql_world.specs.Text.{and_numbers, and_text, mode_text, stop_text, fault_name, limit_name, line_of, head_text}
use Rattle.ql_journal.specs.Grammar.{Before, may_follow, ending, most_count, IsId, IsCount, HasText, hands_on, IsMode, IsStop, IsEvent, IsHead, NoneIsNext, BeginsWith}
use Rattle.ql_journal.specs.Reading.{strip, front, beyond, behind, next_line, field, event_of, next_event, four_counts, head_in, head_of}
use Rattle.ql_journal.proofs.Parts.{and_true, on_bind, only_if_ok, ended_ok}
use Rattle.ql_journal.proofs.Fields.{strip_sound, field_sound, field_again, StopsAt, lacks, lacks_append, decimal_lacks, front_of, beyond_of, cut_whole, beyond_stops}
use Rattle.ql_journal.proofs.Shapes.{event_of_sound}
use Rattle.ql_journal.proofs.Lines.{event_of_again}

-- no line has a line feed

abbrev AreCounts : List ℕ → Type 0
AreCounts [] = Unit {0}
AreCounts (n ∷ ns) = IsCount n × AreCounts ns

numbers_lack : (ns : List ℕ) → AreCounts ns → lacks 10 (and_numbers ns) ≡ true
numbers_lack [] h = refl
numbers_lack (n ∷ ns) h = lacks_append 10 (decimal n) (and_numbers ns) (decimal_lacks 10 n (omega arith) h.0) (numbers_lack ns h.1)

small : (n : ℕ) → IsId n → IsCount n
small n h = omega arith

printed_lack : (t : List ℕ) → ArePrinted t → lacks 10 t ≡ true
printed_lack [] h = refl
printed_lack (b ∷ t) h =
    let m : 32 ≤ b = h.0 in
    let c : not (b == 10) ≡ true = grind (arith, nat_tests) in
    and_true _ _ c (printed_lack t h.2)

text_lacks : (v : Bool) (x : Option (List ℕ)) → HasText v x → lacks 10 (and_text x) ≡ true
text_lacks true (Some t) h = printed_lack t h.printed
text_lacks true None h = refl
text_lacks false (Some t) h = absurd h
text_lacks false None h = refl

mode_lacks : (m : Mode) → IsMode m → lacks 10 (mode_text m) ≡ true
mode_lacks binding h = refl
mode_lacks (called k) h = numbers_lack (k ∷ []) (small k h, tt)
mode_lacks (eager k) h = numbers_lack (k ∷ []) (small k h, tt)

name_lacks : (k : RunFault) → lacks 10 (fault_name k) ≡ true
name_lacks Overflow = refl
name_lacks NotNumber = refl
name_lacks NotPair = refl
name_lacks DivZero = refl
name_lacks Unbound = refl
name_lacks NoCatch = refl
name_lacks DeadFuture = refl
name_lacks DeadClosure = refl
name_lacks WrongCount = refl
name_lacks NotFunction = refl
name_lacks InCleanup = refl

limit_lacks : (k : LimitKind) → lacks 10 (limit_name k) ≡ true
limit_lacks Cells = refl
limit_lacks Procs = refl
limit_lacks Output = refl

stop_lacks : (s : Stop) → IsStop s → lacks 10 (stop_text s) ≡ true
stop_lacks done h = refl
stop_lacks (fault k p at) h = lacks_append 10 (fault_name k) (and_numbers (p ∷ at ∷ [])) (name_lacks k) (numbers_lack (p ∷ at ∷ []) (small p h.0, (h.1, tt)))
stop_lacks (limit k) h = limit_lacks k
stop_lacks deadlock h = refl
stop_lacks budget h = refl

pub line_lacks : (v : Bool) (e : Event) → IsEvent v e → lacks 10 (line_of e) ≡ true
line_lacks v (turn p n) h = numbers_lack (p ∷ n ∷ []) (small p h.0, (h.2, tt))
line_lacks v (spawn p q c m) h = lacks_append 10 (and_numbers (p ∷ q ∷ c ∷ [])) (mode_text m) (numbers_lack (p ∷ q ∷ c ∷ []) (small p h.0, (small q h.1, (small c h.2, tt)))) (mode_lacks m h.3)
line_lacks v (opened p c d) h = numbers_lack (p ∷ c ∷ d ∷ []) (small p h.0, (small c h.1, (small d h.2, tt)))
line_lacks v (exit p c) h = numbers_lack (p ∷ c ∷ []) (small p h.0, (small c h.1, tt))
line_lacks v (throw p c) h = numbers_lack (p ∷ c ∷ []) (small p h.0, (small c h.1, tt))
line_lacks v (land p c) h = numbers_lack (p ∷ c ∷ []) (small p h.0, (small c h.1, tt))
line_lacks v (kill c q) h = numbers_lack (c ∷ q ∷ []) (small c h.0, (small q h.1, tt))
line_lacks v (protect p u) h = numbers_lack (p ∷ u ∷ []) (small p h.0, (h.1, tt))
line_lacks v (begin p u) h = numbers_lack (p ∷ u ∷ []) (small p h.0, (h.1, tt))
line_lacks v (finish p u) h = numbers_lack (p ∷ u ∷ []) (small p h.0, (h.1, tt))
line_lacks v (send p k n) h = numbers_lack (p ∷ k ∷ n ∷ []) (small p h.0, (small k h.1, (h.2, tt)))
line_lacks v (take q k n) h = numbers_lack (q ∷ k ∷ n ∷ []) (small q h.0, (small k h.1, (h.2, tt)))
line_lacks v (reply q k n x) h = lacks_append 10 (and_numbers (q ∷ k ∷ n ∷ [])) (and_text x) (numbers_lack (q ∷ k ∷ n ∷ []) (small q h.0, (small k h.1, (h.2, tt)))) (text_lacks v x h.3)
line_lacks v (end_ok p x) h = lacks_append 10 (and_numbers (p ∷ []) ++ codes " ok") (and_text x) (lacks_append 10 (and_numbers (p ∷ [])) (codes " ok") (numbers_lack (p ∷ []) (small p h.0, tt)) refl) (text_lacks (hands_on v p) x h.1)
line_lacks v (end_killed p) h = lacks_append 10 (and_numbers (p ∷ [])) (codes " killed") (numbers_lack (p ∷ []) (small p h, tt)) refl
line_lacks v (stopped s) h = stop_lacks s h

-- the next line

behind_sound : (l b : List ℕ) (x : List ℕ × List ℕ) → StopsAt 10 b → behind l b ≡ Some x → l ++ b ≡ x.0 ++ 10 ∷ x.1
behind_sound l [] x s h = absurd cc
behind_sound l (b ∷ t) x s h =
    let e : b ≡ 10 = eqb-true b 10 s in
    let f : (l, t) ≡ x = cc in
    rw (e, ← f) refl

pub next_line_sound : (t : List ℕ) (x : List ℕ × List ℕ) → next_line t ≡ Some x → t ≡ x.0 ++ 10 ∷ x.1
next_line_sound t x h = cut_whole 10 t ∙ behind_sound (front 10 t) (beyond 10 t) x (beyond_stops 10 t) h

pub next_line_again : (l u : List ℕ) → lacks 10 l ≡ true → next_line (l ++ 10 ∷ u) ≡ Some (l, u)
next_line_again l u h = rw (front_of 10 l (10 ∷ u) h refl, beyond_of 10 l (10 ∷ u) h refl) refl

-- the next event

pub next_sound : (v : Bool) (b : Before) (t : List ℕ) (y : Event × List ℕ) → next_event v b t ≡ Some y → IsEvent v y.0 × (may_follow b (ending y.0) ≡ true) × (t ≡ line_of y.0 ++ 10 ∷ y.1)
next_sound v b t y h =
    on_bind (next_line t) _ y h (λ x a g.
    on_bind (event_of v x.0) _ y g (λ e c k.
    let (m, f) = only_if_ok (may_follow b (ending e)) (e, x.1) y k in
    let (i, l) = event_of_sound v x.0 e c in
    rw (next_line_sound t x a, l, ← f) (i, m, refl)))

pub next_shorter : (v : Bool) (b : Before) (t : List ℕ) (y : Event × List ℕ) → next_event v b t ≡ Some y → length y.1 < length t
next_shorter v b t y h =
    let e : length t ≡ length (line_of y.0 ++ 10 ∷ y.1) = ap length (next_sound v b t y h).2 in
    omega (arith, length-append (line_of y.0) (10 ∷ y.1))

pub next_again : (v : Bool) (b : Before) (e : Event) (u : List ℕ) → IsEvent v e → may_follow b (ending e) ≡ true → next_event v b (line_of e ++ 10 ∷ u) ≡ Some (e, u)
next_again v b e u i m = rw (next_line_again (line_of e) u (line_lacks v e i), event_of_again v e i, m) refl

pub none_next : (v : Bool) (b : Before) (t : List ℕ) → next_event v b t ≡ None → NoneIsNext v b t
none_next v b t h e u i m k =
    let a : next_event v b t ≡ Some (e, u) = ap (λ (x : List ℕ). next_event v b x) k ∙ next_again v b e u i m in
    absurd cc

-- the head

abbrev pub head_line : Head → List ℕ
head_line h = codes "qlisp 2" ++ and_numbers (h.budget ∷ h.cells ∷ h.procs ∷ h.output ∷ [])

head_shape : (h : Head) (r : List ℕ) → head_text (Some h) ++ r ≡ head_line h ++ 10 ∷ r
head_shape h r = append_assoc (head_line h) (10 ∷ []) r

count_again : (n : ℕ) (r : List ℕ) → IsCount n → StopsAt 32 r → field most_count (32 ∷ decimal n ++ r) ≡ Some (n, r)
count_again n r h s = field_again most_count n r h h s

pub head_in_again : (h : Head) → IsHead (Some h) → head_in (head_line h) ≡ Some h
head_in_again h i =
    let (b, c, p, o) = i in
    rw (count_again h.budget (32 ∷ decimal h.cells ++ (32 ∷ decimal h.procs ++ (32 ∷ decimal h.output ++ []))) b refl, count_again h.cells (32 ∷ decimal h.procs ++ (32 ∷ decimal h.output ++ [])) c refl, count_again h.procs (32 ∷ decimal h.output ++ []) p refl, count_again h.output [] o tt) refl

head_of_line : (t l u : List ℕ) (h : Head) → next_line t ≡ Some (l, u) → head_in l ≡ Some h → head_of t ≡ Some (h, u)
unfolding head_of
head_of_line t l u h e f = rw (e, f) refl

pub head_again : (h : Head) (r : List ℕ) → IsHead (Some h) → head_of (head_text (Some h) ++ r) ≡ Some (h, r)
head_again h r i =
    let (b, c, p, o) = i in
    let l : lacks 10 (head_line h) ≡ true = numbers_lack (h.budget ∷ h.cells ∷ h.procs ∷ h.output ∷ []) (b, (c, (p, (o, tt)))) in
    ap head_of (head_shape h r) ∙ head_of_line (head_line h ++ 10 ∷ r) (head_line h) r h (next_line_again (head_line h) r l) (head_in_again h i)

pub head_in_sound : (t : List ℕ) (h : Head) → head_in t ≡ Some h → IsHead (Some h) × (t ≡ head_line h)
head_in_sound t h g =
    on_bind (strip (codes "qlisp 2") t) _ h g (λ t1 a g1.
    on_bind (four_counts t1) _ h g1 (λ y k g2.
    on_bind (field most_count t1) _ y k (λ b m k1.
    on_bind (field most_count b.1) _ y k1 (λ c n k2.
    on_bind (field most_count c.1) _ y k2 (λ p q k3.
    on_bind (field most_count p.1) _ y k3 (λ o r k4.
    let e : (b.0, c.0, p.0, o.0, o.1) ≡ y = cc in
    let (z, f) = ended_ok y.4 (record { budget = y.0; cells = y.1; procs = y.2; output = y.3 }) h g2 in
    let fb = field_sound most_count t1 b (omega arith) m in
    let fc = field_sound most_count b.1 c (omega arith) n in
    let fp = field_sound most_count c.1 p (omega arith) q in
    let fo = field_sound most_count p.1 o (omega arith) r in
    let w : o.1 ≡ [] = ap (λ (x : ℕ × ℕ × ℕ × ℕ × List ℕ). x.4) e ∙ z in
    rw (strip_sound (codes "qlisp 2") t t1 a, fb.1, fc.1, fp.1, fo.1, w, ← f, ← e) ((fb.0, fc.0, fp.0, fo.0), refl)))))))

pub head_sound : (t : List ℕ) (y : Head × List ℕ) → head_of t ≡ Some y → IsHead (Some y.0) × (t ≡ head_text (Some y.0) ++ y.1)
unfolding head_of
head_sound t y g =
    on_bind (next_line t) _ y g (λ x a g1.
    on_bind (head_in x.0) _ y g1 (λ h b k.
    let f : (h, x.1) ≡ y = cc in
    let (i, l) = head_in_sound x.0 h b in
    rw (next_line_sound t x a, l, ← f) (i, sym (head_shape h x.1))))

pub no_head : (t : List ℕ) → head_of t ≡ None → BeginsWith None t
no_head t h g r i k =
    let a : head_of t ≡ Some (g, r) = ap head_of k ∙ head_again g r i in
    absurd cc
