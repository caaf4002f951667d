-- What the parts of a line that were read say of the text.
use Rattle.std.proofs.Common.{◌≡◌, refl, sym, ◌∙◌, ap, ℕ, ◌==◌, ◌≤◌, Bool, true, false, ◌&&◌, List, [], ◌∷◌, ◌++◌, Option, Some, None, ⊎_elim, arith, if◌then◌else◌, eqb-true}
use Rattle.std.specs.Prelude.{codes}
use Rattle.std.specs.Fmt.{decimal}
use Rattle.std.proofs.lemmas.List.{append_assoc, append-nil}
use Rattle.std.proofs.lemmas.Bool.Decides.{nat_tests}
use Rattle.ql_base.specs.declared.fault.RunFault.{RunFault}
use Rattle.ql_base.specs.declared.limits.LimitKind.{LimitKind}
use Rattle.ql_base.specs.declared.fault.RunFault.TheVariants.{Overflow, NotNumber, NotPair, DivZero, Unbound, NoCatch, DeadFuture, DeadClosure, WrongCount, NotFunction, InCleanup}
use Rattle.ql_base.specs.declared.limits.LimitKind.TheVariants.{Cells, Procs, Output}
use Rattle.ql_world.specs.declared.event.Stop.{Stop}
use Rattle.ql_world.specs.declared.event.Stop.TheVariants.{Done as done, Fault as fault, Limit as limit, Deadlock as deadlock, Budget as budget}
use Rattle.ql_world.specs.declared.event.Mode.{Mode}
use Rattle.ql_world.specs.declared.event.Mode.TheVariants.{Let as binding, Call as called, Eager as eager}
use Rattle.ql_world.specs.declared.event.Event.{Event}
use Rattle.ql_world.specs.declared.event.Event.TheVariants.{Turn as turn, Spawn as spawn, Exit as exit, Throw as throw, Land as land, Kill as kill, Protect as protect, Begin as begin, Finish as finish, Send as send, Take as take, Reply as reply, EndOk as end_ok, EndKilled as end_killed, Stopped as stopped}
use Rattle.ql_world.specs.Text.{and_numbers, and_text, mode_text, stop_text, fault_name, limit_name, line_of}
use Rattle.ql_journal.specs.Grammar.{most_id, most_count, IsId, IsCount, HasText, hands_on, IsMode, IsStop, IsEvent}
use Rattle.ql_journal.specs.Reading.{◌>>=◌, either, only_if, ended, strip, is_word, front, beyond, field, one_id, two_ids, id_and_count, three_ids, two_ids_and_count, turn_of, mode_of, spawn_of, opened_of, catch_of, cleanup_of, text_of, is_short, call_of, end_of, fault_of, limit_of, limit_stop_of, fault_stop_of, stop_of, stopped_of, event_of}
use Rattle.ql_journal.proofs.Parts.{cases, both, on_either, on_bind, either_ok, only_if_ok, ended_ok, short}
use Rattle.ql_journal.proofs.Fields.{strip_sound, is_word_sound, field_sound, cut_whole}

-- the text of a process that ends
ended_line : (d x : List ℕ) → codes "end" ++ (32 ∷ d ++ (codes " ok" ++ x)) ≡ ((codes "end" ++ (32 ∷ d ++ [])) ++ codes " ok") ++ x
ended_line d x = simp append_assoc

-- words of a line and their numbers

pub one_id_sound : (w t : List ℕ) (k : ℕ) → one_id w t ≡ Some k → IsId k × (t ≡ w ++ and_numbers (k ∷ []))
one_id_sound w t k h =
    on_bind (strip w t) _ k h (λ t1 a h1.
    on_bind (field most_id t1) _ k h1 (λ x b h2.
    let (e, f) = ended_ok x.1 x.0 k h2 in
    let wa = strip_sound w t t1 a in
    let fb = field_sound most_id t1 x (omega arith) b in
    rw (wa, fb.1, e, ← f) (fb.0, refl)))

pub two_ids_sound : (w t : List ℕ) (y : ℕ × ℕ) → two_ids w t ≡ Some y → IsId y.0 × IsId y.1 × (t ≡ w ++ and_numbers (y.0 ∷ y.1 ∷ []))
two_ids_sound w t y h =
    on_bind (strip w t) _ y h (λ t1 a h1.
    on_bind (field most_id t1) _ y h1 (λ x b h2.
    on_bind (field most_id x.1) _ y h2 (λ z c h3.
    let (e, f) = ended_ok z.1 (x.0, z.0) y h3 in
    let wa = strip_sound w t t1 a in
    let fb = field_sound most_id t1 x (omega arith) b in
    let fc = field_sound most_id x.1 z (omega arith) c in
    rw (wa, fb.1, fc.1, e, ← f) (fb.0, fc.0, refl))))

pub id_and_count_sound : (w t : List ℕ) (y : ℕ × ℕ) → id_and_count w t ≡ Some y → IsId y.0 × IsCount y.1 × (t ≡ w ++ and_numbers (y.0 ∷ y.1 ∷ []))
id_and_count_sound w t y h =
    on_bind (strip w t) _ y h (λ t1 a h1.
    on_bind (field most_id t1) _ y h1 (λ x b h2.
    on_bind (field most_count x.1) _ y h2 (λ z c h3.
    let (e, f) = ended_ok z.1 (x.0, z.0) y h3 in
    let wa = strip_sound w t t1 a in
    let fb = field_sound most_id t1 x (omega arith) b in
    let fc = field_sound most_count x.1 z (omega arith) c in
    rw (wa, fb.1, fc.1, e, ← f) (fb.0, fc.0, refl))))

-- and, for three numbers, what follows

-- the numbers in front of what follows, with the groups of a line
grouped : (w a b c r : List ℕ) → w ++ (a ++ (b ++ (c ++ r))) ≡ w ++ (a ++ (b ++ (c ++ []))) ++ r
grouped w a b c r = simp append_assoc

pub three_ids_sound : (w t : List ℕ) (y : ℕ × ℕ × ℕ × List ℕ) → three_ids w t ≡ Some y → IsId y.0 × IsId y.1 × IsId y.2 × (t ≡ w ++ and_numbers (y.0 ∷ y.1 ∷ y.2 ∷ []) ++ y.3)
three_ids_sound w t y h =
    on_bind (strip w t) _ y h (λ t1 a h1.
    on_bind (field most_id t1) _ y h1 (λ x b h2.
    on_bind (field most_id x.1) _ y h2 (λ z c h3.
    on_bind (field most_id z.1) _ y h3 (λ u d h4.
    let f : (x.0, z.0, u.0, u.1) ≡ y = cc in
    let wa = strip_sound w t t1 a in
    let fb = field_sound most_id t1 x (omega arith) b in
    let fc = field_sound most_id x.1 z (omega arith) c in
    let fd = field_sound most_id z.1 u (omega arith) d in
    rw (wa, fb.1, fc.1, fd.1, ← f) (fb.0, fc.0, fd.0, grouped w (32 ∷ decimal x.0) (32 ∷ decimal z.0) (32 ∷ decimal u.0) u.1)))))

pub two_ids_and_count_sound : (w t : List ℕ) (y : ℕ × ℕ × ℕ × List ℕ) → two_ids_and_count w t ≡ Some y → IsId y.0 × IsId y.1 × IsCount y.2 × (t ≡ w ++ and_numbers (y.0 ∷ y.1 ∷ y.2 ∷ []) ++ y.3)
two_ids_and_count_sound w t y h =
    on_bind (strip w t) _ y h (λ t1 a h1.
    on_bind (field most_id t1) _ y h1 (λ x b h2.
    on_bind (field most_id x.1) _ y h2 (λ z c h3.
    on_bind (field most_count z.1) _ y h3 (λ u d h4.
    let f : (x.0, z.0, u.0, u.1) ≡ y = cc in
    let wa = strip_sound w t t1 a in
    let fb = field_sound most_id t1 x (omega arith) b in
    let fc = field_sound most_id x.1 z (omega arith) c in
    let fd = field_sound most_count z.1 u (omega arith) d in
    rw (wa, fb.1, fc.1, fd.1, ← f) (fb.0, fc.0, fd.0, grouped w (32 ∷ decimal x.0) (32 ∷ decimal z.0) (32 ∷ decimal u.0) u.1)))))

-- texts

pub text_sound : (texts : Bool) (t : List ℕ) (x : Option (List ℕ)) → text_of texts t ≡ Some x → HasText texts x × (t ≡ and_text x)
text_sound false t x h = let (e, f) = ended_ok t None x h in rw (e, ← f) (tt, refl)
text_sound true [] x h = absurd cc
text_sound true (b ∷ t) x h =
    let (c, f) = only_if_ok ((b == 32) && is_short t) (Some t) x h in
    let (d, g) = both (b == 32) (is_short t) c in
    let e : b ≡ 32 = eqb-true b 32 d in
    rw (e, ← f) (short t g, refl)

-- modes

pub mode_sound : (t : List ℕ) (m : Mode) → mode_of t ≡ Some m → IsMode m × (t ≡ mode_text m)
mode_sound t m h =
    ⊎_elim
    (λ (a : only_if (is_word (codes " let") t) binding ≡ Some m).
    let (e, f) = only_if_ok _ _ _ a in
    rw (is_word_sound (codes " let") t e, ← f) (tt, refl))
    (λ (b : either (one_id (codes " call") t >>= λ k. Some (called k)) (one_id (codes " eager") t >>= λ k. Some (eager k)) ≡ Some m).
    ⊎_elim
    (λ (a : (one_id (codes " call") t >>= λ k. Some (called k)) ≡ Some m).
    on_bind _ _ _ a (λ k e f.
    let (l, g) = one_id_sound (codes " call") t k e in
    let i : called k ≡ m = cc in
    rw (g, ← i) (l, refl)))
    (λ (a : (one_id (codes " eager") t >>= λ k. Some (eager k)) ≡ Some m).
    on_bind _ _ _ a (λ k e f.
    let (l, g) = one_id_sound (codes " eager") t k e in
    let i : eager k ≡ m = cc in
    rw (g, ← i) (l, refl)))
    (either_ok _ _ _ b))
    (either_ok _ _ _ h)

-- names

named_fault : (w t : List ℕ) (x k : RunFault) → fault_name x ≡ w → only_if (is_word w t) x ≡ Some k → t ≡ fault_name k
named_fault w t x k n h = let (e, f) = only_if_ok _ _ _ h in rw (← f, n) (is_word_sound w t e)

pub fault_sound : (t : List ℕ) (k : RunFault) → fault_of t ≡ Some k → t ≡ fault_name k
fault_sound t k h =
    on_either _ _ _ h (λ a. named_fault (codes "overflow") t Overflow k refl a) (λ h.
    on_either _ _ _ h (λ a. named_fault (codes "notnumber") t NotNumber k refl a) (λ h.
    on_either _ _ _ h (λ a. named_fault (codes "notpair") t NotPair k refl a) (λ h.
    on_either _ _ _ h (λ a. named_fault (codes "divzero") t DivZero k refl a) (λ h.
    on_either _ _ _ h (λ a. named_fault (codes "unbound") t Unbound k refl a) (λ h.
    on_either _ _ _ h (λ a. named_fault (codes "nocatch") t NoCatch k refl a) (λ h.
    on_either _ _ _ h (λ a. named_fault (codes "deadfuture") t DeadFuture k refl a) (λ h.
    on_either _ _ _ h (λ a. named_fault (codes "deadclosure") t DeadClosure k refl a) (λ h.
    on_either _ _ _ h (λ a. named_fault (codes "wrongcount") t WrongCount k refl a) (λ h.
    on_either _ _ _ h (λ a. named_fault (codes "notfunction") t NotFunction k refl a) (λ h.
    named_fault (codes "incleanup") t InCleanup k refl h))))))))))

named_limit : (w t : List ℕ) (x k : LimitKind) → limit_name x ≡ w → only_if (is_word w t) x ≡ Some k → t ≡ limit_name k
named_limit w t x k n h = let (e, f) = only_if_ok _ _ _ h in rw (← f, n) (is_word_sound w t e)

pub limit_sound : (t : List ℕ) (k : LimitKind) → limit_of t ≡ Some k → t ≡ limit_name k
limit_sound t k h =
    on_either _ _ _ h (λ a. named_limit (codes "cells") t Cells k refl a) (λ h.
    on_either _ _ _ h (λ a. named_limit (codes "procs") t Procs k refl a) (λ h.
    named_limit (codes "output") t Output k refl h))

-- stops

named_stop : (w t : List ℕ) (x s : Stop) → stop_text x ≡ w → IsStop x → only_if (is_word w t) x ≡ Some s → IsStop s × (t ≡ stop_text s)
named_stop w t x s n i h = let (e, f) = only_if_ok _ _ _ h in rw (← f, n) (i, is_word_sound w t e)

pub fault_stop_sound : (t : List ℕ) (s : Stop) → fault_stop_of t ≡ Some s → IsStop s × (t ≡ stop_text s)
fault_stop_sound t s h =
    on_bind (strip (codes " error ") t) _ s h (λ t1 a h1.
    on_bind (fault_of (front 32 t1)) _ s h1 (λ kind k h2.
    on_bind (field most_id (beyond 32 t1)) _ s h2 (λ x b h3.
    on_bind (field most_count x.1) _ s h3 (λ z c h4.
    let (e, f) = ended_ok z.1 (fault kind x.0 z.0) s h4 in
    let wa = strip_sound (codes " error ") t t1 a in
    let wk = fault_sound (front 32 t1) kind k in
    let fb = field_sound most_id (beyond 32 t1) x (omega arith) b in
    let fc = field_sound most_count x.1 z (omega arith) c in
    let g : t1 ≡ fault_name kind ++ (32 ∷ decimal x.0 ++ (32 ∷ decimal z.0 ++ [])) = cut_whole 32 t1 ∙ rw (wk, fb.1, fc.1, e) refl in
    rw (wa, ← f) ((fb.0, fc.0), ap (λ (u : List ℕ). codes " error " ++ u) g)))))

pub limit_stop_sound : (t : List ℕ) (k : LimitKind) → limit_stop_of t ≡ Some k → t ≡ stop_text (limit k)
limit_stop_sound t k h =
    on_bind (strip (codes " limit ") t) _ k h (λ t1 a h1.
    rw (strip_sound (codes " limit ") t t1 a) (ap (λ (u : List ℕ). codes " limit " ++ u) (limit_sound t1 k h1)))

limit_is : (k : LimitKind) (s : Stop) → (Some (limit k)) ≡ Some s → limit k ≡ s
limit_is k s h = cc

pub stop_sound : (t : List ℕ) (s : Stop) → stop_of t ≡ Some s → IsStop s × (t ≡ stop_text s)
stop_sound t s h =
    on_either _ _ _ h (λ a. named_stop (codes " done") t done s refl tt a) (λ h.
    on_either _ _ _ h (λ a. named_stop (codes " deadlock") t deadlock s refl tt a) (λ h.
    on_either _ _ _ h (λ a. named_stop (codes " budget") t budget s refl tt a) (λ h.
    on_either _ _ _ h
    (λ a. on_bind (limit_stop_of t) _ s a (λ k e f. let g : limit k ≡ s = limit_is k s f in rw (← g) (tt, limit_stop_sound t k e)))
    (λ h. fault_stop_sound t s h))))

-- events

abbrev pub IsLine : Bool → List ℕ → Event → Type 0
IsLine texts t e = IsEvent texts e × (t ≡ line_of e)

turn_sound : (v : Bool) (t : List ℕ) (y : ℕ × ℕ) (e : Event) → IsId y.0 → IsCount y.1 → t ≡ line_of (turn y.0 y.1) → (if y.1 == 0 then None else Some (turn y.0 y.1)) ≡ Some e → IsLine v t e
turn_sound v t y e i n k h =
    ⊎_elim
    (λ (c : (y.1 == 0) ≡ true). absurd (let g = rw c at h in cc))
    (λ (c : (y.1 == 0) ≡ false).
    let g = rw c at h in
    let f : turn y.0 y.1 ≡ e = cc in
    let m : 1 ≤ y.1 = grind (arith, nat_tests) in
    rw (← f) ((i, m, n), k))
    (cases (y.1 == 0))

pub turn_of_sound : (v : Bool) (t : List ℕ) (e : Event) → turn_of t ≡ Some e → IsLine v t e
turn_of_sound v t e h = on_bind (id_and_count (codes "turn") t) _ e h (λ y a g. let (i, n, k) = id_and_count_sound (codes "turn") t y a in turn_sound v t y e i n k g)

pub spawn_of_sound : (v : Bool) (t : List ℕ) (e : Event) → spawn_of t ≡ Some e → IsLine v t e
spawn_of_sound v t e h =
    on_bind (three_ids (codes "spawn") t) _ e h (λ y a g.
    on_bind (mode_of y.3) _ e g (λ mode m f.
    let (p, q, c, k) = three_ids_sound (codes "spawn") t y a in
    let (i, j) = mode_sound y.3 mode m in
    let s : spawn y.0 y.1 y.2 mode ≡ e = cc in
    rw (k, j, ← s) ((p, q, c, i), refl)))

pub opened_of_sound : (v : Bool) (t : List ℕ) (e : Event) → opened_of t ≡ Some e → IsLine v t e
opened_of_sound v t e h =
    on_bind (three_ids (codes "open") t) _ e h (λ y a g.
    let (p, q, c, k) = three_ids_sound (codes "open") t y a in
    let (l, s) = ended_ok y.3 _ e g in
    rw (k, l, ← s) ((p, q, c), append-nil _))

ids_sound : (v : Bool) (w t : List ℕ) (f : ℕ → ℕ → Event) (e : Event) → ((p c : ℕ) → IsId p → IsId c → IsEvent v (f p c)) → ((p c : ℕ) → line_of (f p c) ≡ w ++ and_numbers (p ∷ c ∷ [])) → (two_ids w t >>= λ x. Some (f x.0 x.1)) ≡ Some e → IsLine v t e
ids_sound v w t f e i l h =
    on_bind (two_ids w t) _ e h (λ y a g.
    let (p, c, k) = two_ids_sound w t y a in
    let s : f y.0 y.1 ≡ e = cc in
    rw (← s, l y.0 y.1) (i y.0 y.1 p c, k))

pub catch_of_sound : (v : Bool) (t : List ℕ) (e : Event) → catch_of t ≡ Some e → IsLine v t e
catch_of_sound v t e h =
    on_either _ _ _ h (λ a. ids_sound v (codes "exit") t exit e (λ p c i j. (i, j)) (λ p c. refl) a) (λ h.
    on_either _ _ _ h (λ a. ids_sound v (codes "throw") t throw e (λ p c i j. (i, j)) (λ p c. refl) a) (λ h.
    on_either _ _ _ h (λ a. ids_sound v (codes "land") t land e (λ p c i j. (i, j)) (λ p c. refl) a) (λ h.
    ids_sound v (codes "kill") t kill e (λ p c i j. (i, j)) (λ p c. refl) h)))

counted_sound : (v : Bool) (w t : List ℕ) (f : ℕ → ℕ → Event) (e : Event) → ((p u : ℕ) → IsId p → IsCount u → IsEvent v (f p u)) → ((p u : ℕ) → line_of (f p u) ≡ w ++ and_numbers (p ∷ u ∷ [])) → (id_and_count w t >>= λ x. Some (f x.0 x.1)) ≡ Some e → IsLine v t e
counted_sound v w t f e i l h =
    on_bind (id_and_count w t) _ e h (λ y a g.
    let (p, c, k) = id_and_count_sound w t y a in
    let s : f y.0 y.1 ≡ e = cc in
    rw (← s, l y.0 y.1) (i y.0 y.1 p c, k))

pub cleanup_of_sound : (v : Bool) (t : List ℕ) (e : Event) → cleanup_of t ≡ Some e → IsLine v t e
cleanup_of_sound v t e h =
    on_either _ _ _ h (λ a. counted_sound v (codes "protect") t protect e (λ p c i j. (i, j)) (λ p c. refl) a) (λ h.
    on_either _ _ _ h (λ a. counted_sound v (codes "begin") t begin e (λ p c i j. (i, j)) (λ p c. refl) a) (λ h.
    counted_sound v (codes "finish") t finish e (λ p c i j. (i, j)) (λ p c. refl) h))

call_sound : (v : Bool) (w t : List ℕ) (f : ℕ → ℕ → ℕ → Event) (e : Event) → ((p k n : ℕ) → IsId p → IsId k → IsCount n → IsEvent v (f p k n)) → ((p k n : ℕ) → line_of (f p k n) ≡ w ++ and_numbers (p ∷ k ∷ n ∷ [])) → (two_ids_and_count w t >>= λ x. ended x.3 (f x.0 x.1 x.2)) ≡ Some e → IsLine v t e
call_sound v w t f e i l h =
    on_bind (two_ids_and_count w t) _ e h (λ y a g.
    let (p, k, n, m) = two_ids_and_count_sound w t y a in
    let (z, s) = ended_ok y.3 (f y.0 y.1 y.2) e g in
    rw (← s, l y.0 y.1 y.2) (i y.0 y.1 y.2 p k n, m ∙ rw z (append-nil _)))

pub call_of_sound : (v : Bool) (t : List ℕ) (e : Event) → call_of v t ≡ Some e → IsLine v t e
call_of_sound v t e h =
    on_either _ _ _ h (λ a. call_sound v (codes "send") t send e (λ p k n a b c. (a, b, c)) (λ p k n. refl) a) (λ h.
    on_either _ _ _ h (λ a. call_sound v (codes "take") t take e (λ p k n a b c. (a, b, c)) (λ p k n. refl) a) (λ h.
    on_bind (two_ids_and_count (codes "reply") t) _ e h (λ y a g.
    on_bind (text_of v y.3) _ e g (λ text b f.
    let (p, k, n, m) = two_ids_and_count_sound (codes "reply") t y a in
    let (i, j) = text_sound v y.3 text b in
    let s : reply y.0 y.1 y.2 text ≡ e = cc in
    rw (m, j, ← s) ((p, k, n, i), refl)))))

handed_sound : (v : Bool) (p : ℕ) (r : List ℕ) (e : Event) → IsId p → (strip (codes " ok") r >>= λ t. text_of (hands_on v p) t >>= λ text. Some (end_ok p text)) ≡ Some e → IsEvent v e × (codes "end" ++ (32 ∷ decimal p ++ r) ≡ line_of e)
handed_sound v p r e i h =
    on_bind (strip (codes " ok") r) _ e h (λ t2 c g.
    on_bind (text_of (hands_on v p) t2) _ e g (λ text d k.
    let m = strip_sound (codes " ok") r t2 c in
    let (u, j) = text_sound (hands_on v p) t2 text d in
    let f : end_ok p text ≡ e = cc in
    rw (m, j, ← f) ((i, u), ended_line (decimal p) (and_text text))))

killed_sound : (v : Bool) (p : ℕ) (r : List ℕ) (e : Event) → IsId p → only_if (is_word (codes " killed") r) (end_killed p) ≡ Some e → IsEvent v e × (codes "end" ++ (32 ∷ decimal p ++ r) ≡ line_of e)
killed_sound v p r e i h =
    let (d, f) = only_if_ok (is_word (codes " killed") r) (end_killed p) e h in
    rw (is_word_sound (codes " killed") r d, ← f) (i, ap (λ (u : List ℕ). codes "end" ++ (32 ∷ u ++ codes " killed")) (sym (append-nil (decimal p))))

pub end_of_sound : (v : Bool) (t : List ℕ) (e : Event) → end_of v t ≡ Some e → IsLine v t e
end_of_sound v t e h =
    on_bind (strip (codes "end") t) _ e h (λ t1 a g.
    on_bind (field most_id t1) _ e g (λ x b k.
    let wa = strip_sound (codes "end") t t1 a in
    let fb = field_sound most_id t1 x (omega arith) b in
    rw (wa, fb.1) (on_either (only_if (is_word (codes " killed") x.1) (end_killed x.0)) _ e k (killed_sound v x.0 x.1 e fb.0) (handed_sound v x.0 x.1 e fb.0))))

pub stopped_of_sound : (v : Bool) (t : List ℕ) (e : Event) → stopped_of t ≡ Some e → IsLine v t e
stopped_of_sound v t e h =
    on_bind (strip (codes "stop") t) _ e h (λ t1 a g.
    on_bind (stop_of t1) _ e g (λ s b g.
    let wa = strip_sound (codes "stop") t t1 a in
    let (i, j) = stop_sound t1 s b in
    let f : stopped s ≡ e = cc in
    rw (wa, j, ← f) (i, refl)))

pub event_of_sound : (v : Bool) (t : List ℕ) (e : Event) → event_of v t ≡ Some e → IsLine v t e
unfolding event_of
event_of_sound v t e h =
    on_either _ _ _ h (λ a. turn_of_sound v t e a) (λ h.
    on_either _ _ _ h (λ a. spawn_of_sound v t e a) (λ h.
    on_either _ _ _ h (λ a. opened_of_sound v t e a) (λ h.
    on_either _ _ _ h (λ a. catch_of_sound v t e a) (λ h.
    on_either _ _ _ h (λ a. cleanup_of_sound v t e a) (λ h.
    on_either _ _ _ h (λ a. call_of_sound v t e a) (λ h.
    on_either _ _ _ h (λ a. end_of_sound v t e a) (λ h.
    stopped_of_sound v t e h)))))))
