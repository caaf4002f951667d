-- The reader, as functions on lists. The grammar is in Grammar, and does not cite these.
use Rattle.std.specs.Prelude.{◌≡◌, ℕ, ◌+◌, ◌-◌, ◌*◌, ◌==◌, leb, Bool, true, false, ◌&&◌, if◌then◌else◌, List, [], ◌∷◌, length, Option, Some, None, codes}
use Rattle.ql_base.specs.declared.fault.RunFault.{RunFault}
use Rattle.ql_base.specs.declared.fault.RunFault.TheVariants.{Overflow, NotNumber, NotPair, DivZero, Unbound, NoCatch, DeadFuture, DeadClosure, WrongCount, NotFunction, InCleanup}
use Rattle.ql_base.specs.declared.limits.LimitKind.{LimitKind}
use Rattle.ql_base.specs.declared.limits.LimitKind.TheVariants.{Cells, Procs, Output}
use Rattle.ql_world.specs.declared.event.Stop.{Stop}
use Rattle.ql_world.specs.declared.event.Stop.TheVariants.{Done as done, Fault as fault, Limit as limit, Deadlock as deadlock, Budget as budget}
use Rattle.ql_world.specs.declared.event.Mode.{Mode}
use Rattle.ql_world.specs.declared.event.Mode.TheVariants.{Let as binding, Call as called, Eager as eager}
use Rattle.ql_world.specs.declared.event.Event.{Event}
use Rattle.ql_world.specs.declared.event.Event.TheVariants.{Turn as turn, Spawn as spawn, Opened as opened, Exit as exit, Throw as throw, Land as land, Kill as kill, Protect as protect, Begin as begin, Finish as finish, Send as send, Take as take, Reply as reply, EndOk as end_ok, EndKilled as end_killed, Stopped as stopped}
use Rattle.ql_world.specs.declared.event.Head.{Head}
use Rattle.ql_journal.specs.Grammar.{Before, ending, may_follow, most_id, most_count, hands_on}

infixl 10 ◌>>=◌
abbrev pub ◌>>=◌ : {A B : Type 0} → Option A → (A → Option B) → Option B
None >>= f = None
(Some x) >>= f = f x

-- the first of two that is there
abbrev pub either : {A : Type 0} → Option A → Option A → Option A
either None y = y
either (Some x) y = Some x

abbrev pub only_if : {A : Type 0} → Bool → A → Option A
only_if b x = if b then Some x else None

abbrev pub ended : {A : Type 0} → List ℕ → A → Option A
ended [] x = Some x
ended (b ∷ t) x = None

-- what a function with a value by reference returned, seen by view
abbrev pub Gives : {X Y : Type 0} → (X → Y) → Option X → Option Y → Type 0
Gives view None read = read ≡ None
Gives view (Some x) read = read ≡ Some (view x)

-- what follows a word
abbrev pub strip : List ℕ → List ℕ → Option (List ℕ)
strip [] t = Some t
strip (a ∷ w) [] = None
strip (a ∷ w) (b ∷ t) = if a == b then strip w t else None

-- the whole word
abbrev pub is_word : List ℕ → List ℕ → Bool
is_word [] [] = true
is_word [] (b ∷ t) = false
is_word (a ∷ w) [] = false
is_word (a ∷ w) (b ∷ t) = (a == b) && is_word w t

-- the bytes before the first c, and those from there on
abbrev pub front : ℕ → List ℕ → List ℕ
front c [] = []
front c (b ∷ t) = if b == c then [] else b ∷ front c t

abbrev pub beyond : ℕ → List ℕ → List ℕ
beyond c [] = []
beyond c (b ∷ t) = if b == c then b ∷ t else beyond c t

-- a line, and what follows its line feed
abbrev pub behind : List ℕ → List ℕ → Option (List ℕ × List ℕ)
behind line [] = None
behind line (b ∷ t) = Some (line, t)

abbrev pub next_line : List ℕ → Option (List ℕ × List ℕ)
next_line t = behind (front 10 t) (beyond 10 t)

abbrev pub is_digit : ℕ → Bool
is_digit b = leb 48 b && leb b 57

abbrev pub one_more : ℕ → ℕ → ℕ
one_more n b = 10 * n + (b - 48)

-- the number that goes on with these digits, at most so great
abbrev pub digits_from : ℕ → ℕ → List ℕ → Option ℕ
digits_from most n [] = Some n
digits_from most n (b ∷ t) = if is_digit b && leb (one_more n b) most then digits_from most (one_more n b) t else None

abbrev pub number : ℕ → List ℕ → Option ℕ
number most [] = None
number most (b ∷ t) = if b == 48 then ended t 0 else digits_from most 0 (b ∷ t)

-- a space and a number, and what follows
unfoldable pub field : ℕ → List ℕ → Option (ℕ × List ℕ)
field most [] = None
field most (b ∷ t) = if b == 32 then (number most (front 32 t) >>= λ n. Some (n, beyond 32 t)) else None

abbrev pub one_id : List ℕ → List ℕ → Option ℕ
one_id w t = strip w t >>= λ t. field most_id t >>= λ k. ended k.1 k.0

abbrev pub two_ids : List ℕ → List ℕ → Option (ℕ × ℕ)
two_ids w t = strip w t >>= λ t. field most_id t >>= λ p. field most_id p.1 >>= λ c. ended c.1 (p.0, c.0)

abbrev pub id_and_count : List ℕ → List ℕ → Option (ℕ × ℕ)
id_and_count w t = strip w t >>= λ t. field most_id t >>= λ p. field most_count p.1 >>= λ n. ended n.1 (p.0, n.0)

abbrev pub three_ids : List ℕ → List ℕ → Option (ℕ × ℕ × ℕ × List ℕ)
three_ids w t = strip w t >>= λ t. field most_id t >>= λ p. field most_id p.1 >>= λ q. field most_id q.1 >>= λ c. Some (p.0, q.0, c.0, c.1)

abbrev pub two_ids_and_count : List ℕ → List ℕ → Option (ℕ × ℕ × ℕ × List ℕ)
two_ids_and_count w t = strip w t >>= λ t. field most_id t >>= λ p. field most_id p.1 >>= λ k. field most_count k.1 >>= λ n. Some (p.0, k.0, n.0, n.1)

abbrev pub turn_of : List ℕ → Option Event
turn_of t = id_and_count (codes "turn") t >>= λ x. if x.1 == 0 then None else Some (turn x.0 x.1)

abbrev pub mode_of : List ℕ → Option Mode
mode_of t = either (only_if (is_word (codes " let") t) binding) (either (one_id (codes " call") t >>= λ k. Some (called k)) (one_id (codes " eager") t >>= λ k. Some (eager k)))

abbrev pub spawn_of : List ℕ → Option Event
spawn_of t = three_ids (codes "spawn") t >>= λ x. mode_of x.3 >>= λ mode. Some (spawn x.0 x.1 x.2 mode)

abbrev pub opened_of : List ℕ → Option Event
opened_of t = three_ids (codes "open") t >>= λ x. ended x.3 (opened x.0 x.1 x.2)

abbrev pub catch_of : List ℕ → Option Event
catch_of t =
    either (two_ids (codes "exit") t >>= λ x. Some (exit x.0 x.1))
    (either (two_ids (codes "throw") t >>= λ x. Some (throw x.0 x.1))
    (either (two_ids (codes "land") t >>= λ x. Some (land x.0 x.1))
    (two_ids (codes "kill") t >>= λ x. Some (kill x.0 x.1))))

abbrev pub cleanup_of : List ℕ → Option Event
cleanup_of t =
    either (id_and_count (codes "protect") t >>= λ x. Some (protect x.0 x.1))
    (either (id_and_count (codes "begin") t >>= λ x. Some (begin x.0 x.1))
    (id_and_count (codes "finish") t >>= λ x. Some (finish x.0 x.1)))

abbrev pub are_printed : List ℕ → Bool
are_printed [] = true
are_printed (b ∷ t) = (leb 32 b && leb b 126) && are_printed t

abbrev pub is_short : List ℕ → Bool
is_short t = (leb 1 (length t) && leb (length t) 64) && are_printed t

-- a text where there is to be one
abbrev pub text_of : Bool → List ℕ → Option (Option (List ℕ))
text_of false t = ended t None
text_of true [] = None
text_of true (b ∷ t) = only_if ((b == 32) && is_short t) (Some t)

abbrev pub call_of : Bool → List ℕ → Option Event
call_of texts t =
    either (two_ids_and_count (codes "send") t >>= λ x. ended x.3 (send x.0 x.1 x.2))
    (either (two_ids_and_count (codes "take") t >>= λ x. ended x.3 (take x.0 x.1 x.2))
    (two_ids_and_count (codes "reply") t >>= λ x. text_of texts x.3 >>= λ text. Some (reply x.0 x.1 x.2 text)))

abbrev pub end_of : Bool → List ℕ → Option Event
end_of texts t = strip (codes "end") t >>= λ t. field most_id t >>= λ p.
    either (only_if (is_word (codes " killed") p.1) (end_killed p.0))
    (strip (codes " ok") p.1 >>= λ t. text_of (hands_on texts p.0) t >>= λ text. Some (end_ok p.0 text))

abbrev pub fault_of : List ℕ → Option RunFault
fault_of t =
    either (only_if (is_word (codes "overflow") t) Overflow)
    (either (only_if (is_word (codes "notnumber") t) NotNumber)
    (either (only_if (is_word (codes "notpair") t) NotPair)
    (either (only_if (is_word (codes "divzero") t) DivZero)
    (either (only_if (is_word (codes "unbound") t) Unbound)
    (either (only_if (is_word (codes "nocatch") t) NoCatch)
    (either (only_if (is_word (codes "deadfuture") t) DeadFuture)
    (either (only_if (is_word (codes "deadclosure") t) DeadClosure)
    (either (only_if (is_word (codes "wrongcount") t) WrongCount)
    (either (only_if (is_word (codes "notfunction") t) NotFunction)
    (only_if (is_word (codes "incleanup") t) InCleanup))))))))))

abbrev pub limit_of : List ℕ → Option LimitKind
limit_of t =
    either (only_if (is_word (codes "cells") t) Cells)
    (either (only_if (is_word (codes "procs") t) Procs)
    (only_if (is_word (codes "output") t) Output))

abbrev pub fault_stop_of : List ℕ → Option Stop
fault_stop_of t = strip (codes " error ") t >>= λ t. fault_of (front 32 t) >>= λ kind. field most_id (beyond 32 t) >>= λ p. field most_count p.1 >>= λ at. ended at.1 (fault kind p.0 at.0)

abbrev pub limit_stop_of : List ℕ → Option LimitKind
limit_stop_of t = strip (codes " limit ") t >>= λ t. limit_of t

abbrev pub stop_of : List ℕ → Option Stop
stop_of t =
    either (only_if (is_word (codes " done") t) done)
    (either (only_if (is_word (codes " deadlock") t) deadlock)
    (either (only_if (is_word (codes " budget") t) budget)
    (either (limit_stop_of t >>= λ kind. Some (limit kind))
    (fault_stop_of t))))

abbrev pub stopped_of : List ℕ → Option Event
stopped_of t = strip (codes "stop") t >>= λ t. stop_of t >>= λ stop. Some (stopped stop)

unfoldable pub event_of : Bool → List ℕ → Option Event
event_of texts t =
    either (turn_of t) (either (spawn_of t) (either (opened_of t) (either (catch_of t)
    (either (cleanup_of t) (either (call_of texts t) (either (end_of texts t) (stopped_of t)))))))

abbrev pub four_counts : List ℕ → Option (ℕ × ℕ × ℕ × ℕ × List ℕ)
four_counts t = field most_count t >>= λ b. field most_count b.1 >>= λ c. field most_count c.1 >>= λ p. field most_count p.1 >>= λ o. Some (b.0, c.0, p.0, o.0, o.1)

-- the next line's event, where it may follow, and what follows it
abbrev pub next_event : Bool → Before → List ℕ → Option (Event × List ℕ)
next_event texts before t = next_line t >>= λ x. event_of texts x.0 >>= λ e. only_if (may_follow before (ending e)) (e, x.1)

-- the head of a line
abbrev pub head_in : List ℕ → Option Head
head_in t = strip (codes "qlisp 2") t >>= λ t. four_counts t >>= λ x. ended x.4 (record { budget = x.0; cells = x.1; procs = x.2; output = x.3 })

unfoldable pub head_of : List ℕ → Option (Head × List ℕ)
head_of t = next_line t >>= λ x. head_in x.0 >>= λ h. Some (h, x.1)
