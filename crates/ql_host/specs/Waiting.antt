-- Waiting in parts. It serves proofs alone.
use Rattle.std.specs.Prelude.{ℕ, ◌==◌, Bool, true, false, not, ◌&&◌, ◌||◌, if◌then◌else◌, List, [], ◌∷◌, Option, Some, None, is_some}
use Rattle.ql_base.specs.declared.limits.Limits.{Limits}
use Rattle.ql_world.specs.declared.word.Word.{Word}
use Rattle.ql_world.specs.declared.word.Word.TheVariants.{Fut as future}
use Rattle.ql_world.specs.Word.{first_future}
use Rattle.ql_world.specs.World.{ProcessClosure, World, catch_at, numbered, or_pending}
use Rattle.ql_world.specs.declared.world.FutState.{FutState}
use Rattle.ql_world.specs.declared.world.Kind.{Kind}
use Rattle.ql_world.specs.declared.world.Kind.TheVariants.{Closure as serving}
use Rattle.ql_world.specs.declared.world.Process.{Process}
use Rattle.ql_world.specs.Machine.{Machine}
use Rattle.ql_world.specs.Within.{is_within}
use Rattle.ql_world.specs.Idle.{acting, is_empty, is_pending, is_number_among, is_clear, is_idle}
use Rattle.ql_world.specs.Tick.{landing, lets_go, may_leave}
use Rattle.ql_code.specs.Machine.{Point, Entry}
use Rattle.ql_host.specs.Ready.{Waits, never, for_nothing, for_future, for_call, to_reply, to_exit, to_leave, to_end}

-- for the future, if there is one, or else for the other
abbrev pub waits_or : Option ℕ → Waits → Waits
waits_or None other = other
waits_or (Some f) other = for_future f

-- a single word, which is touched, and then for the other
abbrev pub one_waits : List Word → Waits → Waits
one_waits (future f ∷ []) other = for_future f
one_waits (w ∷ []) other = other
one_waits ws other = never

-- a single word
abbrev pub word_waits : List Word → Waits
word_waits (w ∷ []) = for_nothing
word_waits ws = never

-- arguments of a process closure
abbrev pub send_waits : (cleans : Bool) → List Word → Waits
send_waits cleans ws = if cleans then for_nothing else waits_or (first_future ws) for_nothing

-- a call waits for the closure
abbrev pub has_call : Option (ProcessClosure Entry) → Bool
has_call None = false
has_call (Some s) = not (is_empty s.queue)

-- a call of the closure is in progress
abbrev pub has_current : Option (ProcessClosure Entry) → Bool
has_current None = false
has_current (Some s) = is_some s.current

-- of the process closure that a process serves
abbrev pub served : List (ProcessClosure Entry) → (Option (ProcessClosure Entry) → Bool) → Kind → Bool
served servers f (serving k) = f (numbered servers k)
served servers f kind = false

-- whether what a process waits for is there
module _ (m : Machine Point Entry) (names : List (List ℕ)) (limits : Limits) (p : ℕ) (q : Process Point) (w : World Point Entry) where
  abbrev pub is_there : Waits → Bool
  is_there never = false
  is_there for_nothing = true
  is_there (for_future f) = not (is_pending (or_pending (numbered w.futures f)))
  is_there for_call = served w.servers has_call q.kind
  is_there to_reply = served w.servers has_current q.kind
  is_there (to_exit c) = lets_go m names limits p q w true c (catch_at w.catches c)
  is_there (to_leave c) = may_leave m names limits p q w c (landing (acting (m.cleanups q.thread) q.aim) c)
  is_there to_end = is_clear m w true p 0

-- whether the process of a closure, to which no call was sent, waits for one
abbrev pub waits_for_call : List FutState → (eager : Bool) → (turn : List ℕ) → Waits → Bool
waits_for_call futures eager turn for_call = not eager
waits_for_call futures eager turn to_reply = eager
waits_for_call futures eager turn (for_future f) = eager && (is_number_among f turn && is_pending (or_pending (numbered futures f)))
waits_for_call futures eager turn waits = false

module _ (m : Machine Point Entry) (w : World Point Entry) (enough : Bool) where
  -- a process that needn't be waited for at catch c
  abbrev pub is_harmless : (c : ℕ) → Process Point → Bool
  is_harmless c q = not (is_within w.catches q c) || (q.ended || (enough && is_idle m w q))

  -- the same of process p, which leaves it
  abbrev pub is_away : (p c number : ℕ) → Process Point → Bool
  is_away p c i q = i == p || is_harmless c q

-- the process with this number, if it is there
abbrev pub holds_at : (ℕ → Process Point → Bool) → ℕ → Option (Process Point) → Bool
holds_at f i None = true
holds_at f i (Some q) = f i q
