-- What the processes of a run share.
use Rattle.std.specs.Prelude.{ℕ, zero, suc, ◌+◌, ◌==◌, Bool, true, false, if◌then◌else◌, List, [], ◌∷◌, length, Option, Some, None, slice_get}
use Rattle.ql_world.specs.Word.{Word}
use Rattle.ql_world.specs.Event.{Event, Stop, with_tick}
pub use Rattle.ql_world.specs.declared.world.FutState.{FutState as Future}
pub use Rattle.ql_world.specs.declared.world.FutState.TheVariants.{Pending as pending, Value as valued, Dead as dead}
pub use Rattle.ql_world.specs.declared.world.Aim.{Aim}
pub use Rattle.ql_world.specs.declared.world.Aim.TheVariants.{Free as free, To as to, Die as die}
pub use Rattle.ql_world.specs.declared.world.Catch.{Catch}
pub use Rattle.ql_world.specs.declared.world.Kind.{Kind}
pub use Rattle.ql_world.specs.declared.world.Kind.TheVariants.{Main as main, Child as child, Closure as serving}
pub use Rattle.ql_world.specs.declared.world.Process.{Process}

-- a future that was never made counts as pending
abbrev pub or_pending : Option Future → Future
or_pending None = pending
or_pending (Some s) = s

-- a call that was sent to a process closure
pub record Call : Type 0 where
  pub number : ℕ
  pub arguments : List Word
  -- the future that the reply goes to; none where the call is ignored
  pub reply : Option ℕ

-- K is what a closure holds.
pub record ProcessClosure (K : Type 0) : Type 0 where
  pub process : ℕ
  pub body : K
  pub eager : Bool
  -- how many calls were sent
  pub sent : ℕ
  -- the calls that wait, the oldest first
  pub queue : List Call
  -- the call in progress
  pub current : Option Call
  -- where it is eager, the futures for the parameters of its turn
  pub turn : List ℕ
  pub dead : Bool

pub record World (P K : Type 0) : Type 0 where
  pub pairs : List (Word × Word)
  pub boxes : List Word
  pub closures : List K
  pub futures : List Future
  -- the newest first, so that the number of a catch is how many are older
  pub catches : List Catch
  pub servers : List (ProcessClosure K)
  -- process 1 is the first
  pub procs : List (Process P)
  -- each with its word once it has one
  pub globals : List (Option Word)
  -- the bytes printed so far
  pub output : List ℕ
  -- the events so far, the newest first
  pub events : List Event
  pub ticks : ℕ
  -- how many pairs, boxes and closures ticks have made
  pub cells : ℕ
  pub protects : ℕ
  -- the error or the limit that the last tick met
  pub mark : Option Stop

module _ {A : Type 0} where
  abbrev pub change : (A → A) → List A → ℕ → List A
  change f [] n = []
  change f (x ∷ xs) zero = f x ∷ xs
  change f (x ∷ xs) (suc n) = x ∷ change f xs n

  -- the same with numbers from 1
  abbrev pub numbered : List A → ℕ → Option A
  numbered xs zero = None
  numbered xs (suc n) = slice_get xs n

  abbrev pub change_numbered : (A → A) → List A → ℕ → List A
  change_numbered f xs zero = xs
  change_numbered f xs (suc n) = change f xs n

-- so many numbers from this one on
abbrev pub numbers : ℕ → ℕ → List ℕ
numbers first zero = []
numbers first (suc n) = first ∷ numbers (first + 1) n

-- catch c, of catches of which the newest stands first
abbrev pub catch_at : List Catch → ℕ → Option Catch
catch_at [] c = None
catch_at (k ∷ ks) c = if c == length ks then Some k else catch_at ks c

-- the catches with catch c closed
abbrev pub closed : List Catch → ℕ → List Catch
closed [] c = []
closed (k ∷ ks) c = if c == length ks then record k { open_still = false } ∷ ks else k ∷ closed ks c

-- catch 0 is round the whole program
abbrev pub outermost : Catch
outermost = record { owner = 1; tag = None; enclosing = 0; waits = true; open_still = true }

abbrev pub process_of : {P : Type 0} → ℕ → Kind → P → Process P
process_of home kind t = record { home = home; kind = kind; aim = free; thread = t; ended = false }

abbrev pub without_values : ℕ → List (Option Word)
without_values zero = []
without_values (suc n) = None ∷ without_values n

-- before the first tick, with the quoted pairs and this many globals
abbrev pub opening : {P K : Type 0} → List (Word × Word) → ℕ → P → World P K
opening quoted globals t = record {
  pairs = quoted;
  boxes = [];
  closures = [];
  futures = [];
  catches = outermost ∷ [];
  servers = [];
  procs = process_of 0 main t ∷ [];
  globals = without_values globals;
  output = [];
  events = [];
  ticks = 0;
  cells = 0;
  protects = 0;
  mark = None;
}

module _ {P K : Type 0} where
  -- a tick of process p is counted
  abbrev pub counted : World P K → ℕ → World P K
  counted w p = record w { events = with_tick p w.events; ticks = w.ticks + 1 }

  abbrev pub marked : World P K → Stop → World P K
  marked w stop = record w { mark = Some stop }

  abbrev pub with_event : World P K → Event → World P K
  with_event w e = record w { events = e ∷ w.events }

  abbrev pub with_thread : World P K → ℕ → P → World P K
  with_thread w p t = record w { procs = change_numbered (λ q. record q { thread = t }) w.procs p }

  abbrev pub with_aim : World P K → ℕ → Aim → World P K
  with_aim w p a = record w { procs = change_numbered (λ q. record q { aim = a }) w.procs p }

  abbrev pub with_end : World P K → ℕ → World P K
  with_end w p = record w { procs = change_numbered (λ q. record q { ended = true }) w.procs p }

  abbrev pub with_future : World P K → ℕ → Future → World P K
  with_future w f state = record w { futures = change_numbered (λ s. state) w.futures f }

  abbrev pub with_server : World P K → ℕ → ProcessClosure K → World P K
  with_server w k s = record w { servers = change_numbered (λ t. s) w.servers k }

  abbrev pub without_catch : World P K → ℕ → World P K
  without_catch w c = record w { catches = closed w.catches c }
