-- The process of a process closure takes a call.
use Rattle.std.specs.Prelude.{◌≡◌, ℕ, List, ◌∷◌, length, Option, Some, None}
use Rattle.ql_base.specs.declared.limits.Limits.{Limits}
use Rattle.ql_world.specs.declared.world.Kind.TheVariants.{Closure as serving}
use Rattle.ql_world.specs.declared.word.Word.{Word}
use Rattle.ql_world.specs.declared.short.Short.{Short}
use Rattle.ql_world.specs.declared.event.Event.TheVariants.{Reply as replied}
use Rattle.ql_world.specs.World.{World, Call, ProcessClosure, numbered, change_numbered, with_event}
use Rattle.ql_world.specs.Tick.{answered}
use Rattle.ql_code.specs.declared.mark.State.TheVariants.{Resting as resting}
use Rattle.ql_code.specs.Machine.{Point, Entry}
use Rattle.ql_proc.specs.declared.process.Proc.{Proc}
use Rattle.ql_proc.specs.Points.{point_of}
use Rattle.ql_tree.specs.declared.person.Person.{Person}
use Rattle.ql_host.specs.declared.setting.Setting.{Setting}
use Rattle.ql_host.specs.declared.shared.Shared.{Shared}
use Rattle.ql_host.specs.World.{IsFit}

-- What is known of a process at rest that can take a call: that call waits at its closure, with as many arguments as there
-- are parameters.
pub record IsCalled (names : List (List ℕ)) (limits : Limits) (h : Shared) (r : Person) (t : Point) : Type 0 where
  pub fit : IsFit names limits h
  pub rests : t.state ≡ resting
  pub number : ℕ
  pub server : ProcessClosure Entry
  pub next : Call
  pub later : List Call
  pub serves : r.kind ≡ serving number
  pub known : numbered h.calls.servers number ≡ Some server
  pub queue : server.queue ≡ next ∷ later
  pub counts : length next.arguments ≡ server.body.count

abbrev pub RestsAt : Setting → Person → Shared → Proc → Type 0
RestsAt s r h t = IsCalled s.names.now s.limits h r (point_of t)

-- A call of the closure that it serves is in progress.
pub record IsAnswering (h : Shared) (r : Person) : Type 0 where
  pub number : ℕ
  pub server : ProcessClosure Entry
  pub call : Call
  pub serves : r.kind ≡ serving number
  pub known : numbered h.calls.servers number ≡ Some server
  pub current : server.current ≡ Some call

-- Process p has answered a call of process closure k with a word: the call has this number, its reply this future, and
-- the word this text.
abbrev pub answered_world : (p k number : ℕ) → (reply : Option ℕ) → Word → Short → World Point Entry → World Point Entry
answered_world p k number reply x text w =
    with_event (record w { futures = answered reply x w.futures; servers = change_numbered (λ s. record s { current = None }) w.servers k }) (replied p k number (Some text))
