-- A call is sent to a process closure.
use Rattle.std.specs.Prelude.{ℕ, Bool, true, false, if◌then◌else◌, List, [], ◌∷◌, ◌++◌, Option, Some, None}
use Rattle.ql_world.specs.Word.{nil}
use Rattle.ql_world.specs.declared.word.Word.{Word}
use Rattle.ql_world.specs.declared.word.Word.TheVariants.{Fut as future}
use Rattle.ql_world.specs.declared.world.FutState.{FutState}
use Rattle.ql_world.specs.declared.world.FutState.TheVariants.{Pending as pending}
use Rattle.ql_world.specs.declared.event.Event.TheVariants.{Send as send, Take as take}
use Rattle.ql_world.specs.World.{World, Call, ProcessClosure, with_event, with_server}
use Rattle.ql_world.specs.Tick.{filled, with_call}
use Rattle.ql_calls.specs.Sending.{takes_at_once}
use Rattle.ql_code.specs.Machine.{Point, Entry}

-- A call whose value is used has a future for its reply, which has this number. The future is the value, and nil where
-- there is none.
abbrev pub reply_for : (used : Bool) → ℕ → Option ℕ
reply_for true f = Some f
reply_for false f = None

abbrev pub value_for : Option ℕ → Word
value_for None = nil
value_for (Some f) = future f

abbrev pub with_reply_future : Option ℕ → List FutState → List FutState
with_reply_future None states = states
with_reply_future (Some f) states = states ++ pending ∷ []

-- Process p has sent this call to process closure k. It waits in the queue unless an eager turn takes it at once.
abbrev pub sent_world : (p k : ℕ) → World Point Entry → ProcessClosure Entry → Call → World Point Entry
sent_world p k w s c =
    if takes_at_once s
    then with_call (with_event w (send p k c.number)) k (record s { sent = c.number }) c
    else with_server (with_event w (send p k c.number)) k (record s { sent = c.number; queue = s.queue ++ c ∷ [] })

-- The call in progress of process closure k was taken by an eager turn: the futures of its parameters get the arguments.
abbrev pub taken_world : (k : ℕ) → World Point Entry → ProcessClosure Entry → Call → World Point Entry
taken_world k w s c = with_event (record w { futures = filled s.turn c.arguments w.futures }) (take s.process k c.number)
