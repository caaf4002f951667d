-- What every tick keeps: a sane world.
use Rattle.std.specs.Prelude.{◌≡◌, ◌⊎◌, ℕ, suc, ◌+◌, ◌==◌, ◌<◌, ◌≤◌, Bool, true, false, not, ◌||◌, if◌then◌else◌, List, [], ◌∷◌, ◌++◌, drop, length, map, Option, Some, None}
use Rattle.ql_world.specs.declared.word.Word.{Word}
use Rattle.ql_world.specs.declared.event.Event.TheVariants.{Begin as event_begin, Finish as event_finish, Protect as event_protect, Kill as event_kill, EndOk as event_end_ok, EndKilled as event_end_killed}
use Rattle.ql_world.specs.declared.event.Event.{Event}
use Rattle.ql_world.specs.declared.event.Event.TheVariants.{Turn as turn, Opened as opened, Spawn as spawn, Send as send, Take as take, Reply as reply}
use Rattle.ql_world.specs.World.{Call, ProcessClosure, World, numbered, numbers, catch_at}
use Rattle.ql_world.specs.declared.world.FutState.{FutState as Future}
use Rattle.ql_world.specs.declared.world.FutState.TheVariants.{Pending as pending, Value as valued, Dead as dead}
use Rattle.ql_world.specs.declared.world.Aim.{Aim}
use Rattle.ql_world.specs.declared.world.Aim.TheVariants.{Free as free, To as to, Die as die}
use Rattle.ql_world.specs.declared.world.Catch.{Catch}
use Rattle.ql_world.specs.declared.world.Kind.{Kind}
use Rattle.ql_world.specs.declared.world.Kind.TheVariants.{Main as main, Child as child, Closure as serving}
use Rattle.ql_world.specs.declared.world.Process.{Process}
use Rattle.ql_world.specs.Within.{is_free, is_die, is_live, is_within}
use Rattle.ql_world.specs.declared.world.Cleanup.{Cleanup}
use Rattle.ql_world.specs.Idle.{acting, in_cleanup, current_of}
use Rattle.ql_meaning.specs.Control.{Frame, then_tops, catching, protecting, cleaning, child_base, server_base, Control, unwinding, finished, at_rest, Thread, Closure}

-- what others see of a process

pub data Base : Type 0 where
  of_program : Base
  of_child : Base
  of_server : Base

-- what stands on the frames of a process, but for work that no other process can meet
pub data Mark : Type 0 where
  catch_mark : (catch : ℕ) → Mark
  protect_mark : (protect : ℕ) → Mark
  -- a running cleanup
  cleanup_mark : (protect : ℕ) → Cleanup → Mark
  base_mark : Base → Mark

pub data Doing : Type 0 where
  works : Doing
  unwinds : Doing
  -- it waits for a call
  rests : Doing

-- The innermost mark stands first.
pub record Standing : Type 0 where
  pub marks : List Mark
  pub doing : Doing

abbrev pub marks_on : List Frame → List Mark
marks_on [] = []
marks_on (catching c ∷ fs) = catch_mark c ∷ marks_on fs
marks_on (protecting u c env ∷ fs) = protect_mark u ∷ marks_on fs
marks_on (cleaning u w c ∷ fs) = cleanup_mark u c ∷ marks_on fs
marks_on (then_tops cs ∷ fs) = base_mark of_program ∷ marks_on fs
marks_on (child_base at ∷ fs) = base_mark of_child ∷ marks_on fs
marks_on (server_base at ∷ fs) = base_mark of_server ∷ marks_on fs
marks_on (f ∷ fs) = marks_on fs

-- After its last top form process 1 stands at its base, whether or not a frame is kept for it.
abbrev pub marks_of : Control → List Frame → List Mark
marks_of finished fs = base_mark of_program ∷ marks_on (drop 1 fs)
marks_of c fs = marks_on fs

abbrev pub doing_of : Control → Doing
doing_of unwinding = unwinds
doing_of at_rest = rests
doing_of c = works

abbrev pub standing : Thread → Standing
standing t = record { marks = marks_of t.control t.frames; doing = doing_of t.control }

abbrev pub Seen : Type 0
Seen = Process Standing

abbrev pub seen : Process Thread → Seen
seen q = record { home = q.home; kind = q.kind; aim = q.aim; thread = standing q.thread; ended = q.ended }

abbrev pub Server : Type 0
Server = ProcessClosure Closure

abbrev pub without_turns : List Event → List Event
without_turns [] = []
without_turns (turn p n ∷ es) = without_turns es
without_turns (e ∷ es) = e ∷ without_turns es

-- the part of a world that is kept in order
pub record Outline : Type 0 where
  pub catches : List Catch
  pub procs : List Seen
  pub servers : List Server
  pub futures : List Future
  pub protects : ℕ
  -- the newest first, without turns
  pub events : List Event

abbrev pub outline : World Thread Closure → Outline
outline w = record {
  catches = w.catches;
  procs = map seen w.procs;
  servers = w.servers;
  futures = w.futures;
  protects = w.protects;
  events = without_turns w.events;
}

-- catches and homes

abbrev pub WasOpened : ℕ → List Event → Type 0
WasOpened c [] = ⊥
WasOpened c (opened p d e ∷ es) = (c ≡ d) ⊎ WasOpened c es
WasOpened c (e ∷ es) = WasOpened c es

-- each process was spawned after its home was opened, or within catch 0
abbrev pub HomesOpened : List Event → Type 0
HomesOpened [] = Unit {0}
HomesOpened (spawn p q home mode ∷ es) = ((home ≡ 0) ⊎ WasOpened home es) × HomesOpened es
HomesOpened (e ∷ es) = HomesOpened es

pub record HomesSane (o : Outline) : Type 0 where
  -- an enclosing catch has a lower number than its catch
  pub falling : (c : ℕ) (k : Catch) → catch_at o.catches c ≡ Some k → 0 < c → k.enclosing < c
  -- no throw names catch 0
  pub untagged : (k : Catch) → catch_at o.catches 0 ≡ Some k → k.tag ≡ None
  -- the home of a process was made
  pub made : (p : ℕ) (q : Seen) → numbered o.procs p ≡ Some q → q.home < length o.catches
  pub opened : (c : ℕ) → 0 < c → c < length o.catches → WasOpened c o.events
  -- and opened before the process was spawned
  pub in_time : HomesOpened o.events
  -- there is one main process
  pub first : (p : ℕ) (q : Seen) → numbered o.procs p ≡ Some q → q.kind ≡ main → (p ≡ 1) × (q.home ≡ 0)

-- the innermost catch on the frames of a process, else its home
abbrev pub innermost_or : ℕ → List Mark → ℕ
innermost_or home [] = home
innermost_or home (catch_mark c ∷ ms) = c
innermost_or home (m ∷ ms) = innermost_or home ms

abbrev pub Stands : ℕ → List Mark → Type 0
Stands c [] = ⊥
Stands c (catch_mark d ∷ ms) = (c ≡ d) ⊎ Stands c ms
Stands c (m ∷ ms) = Stands c ms

-- catch c is open, belongs to process p, and is enclosed by catch d
pub record IsOpen (catches : List Catch) (p c d : ℕ) : Type 0 where
  pub kept : Catch
  pub is : catch_at catches c ≡ Some kept
  pub open_still : kept.open_still ≡ true
  pub owner : kept.owner ≡ p
  pub enclosing : kept.enclosing ≡ d
  pub inner : 0 < c

-- each catch on the frames of process p is open, and the next outer one there encloses it, or else the home
abbrev pub Chained : List Catch → (p home : ℕ) → List Mark → Type 0
Chained catches p home [] = Unit {0}
Chained catches p home (catch_mark c ∷ ms) = IsOpen catches p c (innermost_or home ms) × Chained catches p home ms
Chained catches p home (m ∷ ms) = Chained catches p home ms

pub record CatchesSane (o : Outline) : Type 0 where
  pub chained : (p : ℕ) (q : Seen) → numbered o.procs p ≡ Some q → Chained o.catches p q.home q.thread.marks
  -- each open catch but 0 stands on its owner's frames
  pub stands : (c : ℕ) (k : Catch) → catch_at o.catches c ≡ Some k → k.open_still ≡ true → 0 < c → (q : Seen) × (numbered o.procs k.owner ≡ Some q) × Stands c q.thread.marks
  -- an ended process has no frames
  pub bare : (p : ℕ) (q : Seen) → numbered o.procs p ≡ Some q → q.ended ≡ true → q.thread.marks ≡ []

-- who is within a catch

abbrev pub cleanups_of : List Mark → List Cleanup
cleanups_of [] = []
cleanups_of (cleanup_mark u k ∷ ms) = k ∷ cleanups_of ms
cleanups_of (m ∷ ms) = cleanups_of ms

-- catch c stands above a running cleanup
abbrev pub StandsAbove : ℕ → List Mark → Type 0
StandsAbove c [] = ⊥
StandsAbove c (catch_mark d ∷ ms) = ((c ≡ d) × (in_cleanup (cleanups_of ms) ≡ true)) ⊎ StandsAbove c ms
StandsAbove c (m ∷ ms) = StandsAbove c ms

pub record EmptySane (o : Outline) : Type 0 where
  -- within a closed catch no process is live
  pub closed : (p : ℕ) (q : Seen) (c : ℕ) (k : Catch) → numbered o.procs p ≡ Some q → is_live q ≡ true → is_within o.catches q c ≡ true → catch_at o.catches c ≡ Some k → k.open_still ≡ true
  -- within a catch that stands above a running cleanup there is no process at all
  pub fresh : (p : ℕ) (q : Seen) (c : ℕ) → numbered o.procs p ≡ Some q → StandsAbove c q.thread.marks → (r : ℕ) (s : Seen) → numbered o.procs r ≡ Some s → is_within o.catches s c ≡ false

-- aims

abbrev pub Among : ℕ → List ℕ → Type 0
Among c [] = ⊥
Among c (d ∷ ds) = (c ≡ d) ⊎ Among c ds

abbrev pub OwnAim : List ℕ → Aim → Type 0
OwnAim cs (to c x) = Among c cs
OwnAim cs a = Unit {0}

-- a cleanup itself never aims at the end of its process
abbrev pub InnerAim : List ℕ → Aim → Type 0
InnerAim cs (to c x) = Among c cs
InnerAim cs free = Unit {0}
InnerAim cs die = ⊥

-- The catch that a process leaves for stands below every running cleanup. That of a running cleanup stands between it
-- and the next one above. `cs` are the catches since the last running cleanup on the way down.
abbrev pub Aims : Aim → (cs : List ℕ) → List Mark → Type 0
Aims own cs [] = OwnAim cs own
Aims own cs (catch_mark c ∷ ms) = Aims own (c ∷ cs) ms
Aims own cs (cleanup_mark u k ∷ ms) = InnerAim cs k.aim × Aims own [] ms
Aims own cs (m ∷ ms) = Aims own cs ms

abbrev pub AllOver : ℕ → List ℕ → Type 0
AllOver n [] = Unit {0}
AllOver n (c ∷ cs) = (n < c) × AllOver n cs

-- Exactly the catches above a running cleanup have numbers above its floor. `cs` are those met on the way down.
abbrev pub Floors : (home : ℕ) → (cs : List ℕ) → List Mark → Type 0
Floors home cs [] = Unit {0}
Floors home cs (catch_mark c ∷ ms) = Floors home (c ∷ cs) ms
Floors home cs (cleanup_mark u k ∷ ms) = AllOver k.floor cs × ((innermost_or home ms ≤ k.floor) × Floors home cs ms)
Floors home cs (m ∷ ms) = Floors home cs ms

-- the floors of running cleanups are numbers of catches
abbrev pub LowFloors : (made : ℕ) → List Mark → Type 0
LowFloors made [] = Unit {0}
LowFloors made (cleanup_mark u k ∷ ms) = (k.floor < made) × LowFloors made ms
LowFloors made (m ∷ ms) = LowFloors made ms

pub record AimsSane (o : Outline) : Type 0 where
  -- where a process leaves for its end, no process is live within a catch on its frames
  pub dying : (p : ℕ) (q : Seen) (c : ℕ) → numbered o.procs p ≡ Some q → q.aim ≡ die → Stands c q.thread.marks → (r : ℕ) (s : Seen) → numbered o.procs r ≡ Some s → is_live s ≡ true → is_within o.catches s c ≡ false
  -- where it leaves for a catch, no process is live within that
  pub leaving : (p : ℕ) (q : Seen) (c : ℕ) (x : Word) → numbered o.procs p ≡ Some q → q.aim ≡ to c x → (r : ℕ) (s : Seen) → numbered o.procs r ≡ Some s → is_live s ≡ true → is_within o.catches s c ≡ false
  pub aims : (p : ℕ) (q : Seen) → numbered o.procs p ≡ Some q → Aims q.aim [] q.thread.marks
  pub floors : (p : ℕ) (q : Seen) → numbered o.procs p ≡ Some q → Floors q.home [] q.thread.marks
  pub low_floors : (p : ℕ) (q : Seen) → numbered o.procs p ≡ Some q → LowFloors (length o.catches) q.thread.marks

-- unwinding

abbrev pub is_unwinding : Doing → Bool
is_unwinding unwinds = true
is_unwinding d = false

abbrev pub FitsBase : Base → Kind → Type 0
FitsBase of_program main = Unit {0}
FitsBase of_child (child f) = Unit {0}
FitsBase of_server (serving k) = Unit {0}
FitsBase b kind = ⊥

-- the outermost mark, and no other, is the base of such a process
abbrev pub Based : Kind → List Mark → Type 0
Based kind [] = ⊥
Based kind (base_mark b ∷ ms) = FitsBase b kind × (ms ≡ [])
Based kind (m ∷ ms) = Based kind ms

-- this holds of each process that has not ended
pub record WorkSane (q : Seen) : Type 0 where
  -- it unwinds exactly where its acting aim is not free
  pub unwinding : is_unwinding q.thread.doing ≡ not (is_free (acting (cleanups_of q.thread.marks) q.aim))
  pub based : Based q.kind q.thread.marks
  -- at rest it stands at its base
  pub resting : q.thread.doing ≡ rests → q.thread.marks ≡ base_mark of_server ∷ []

-- protects

abbrev pub is_begun : ℕ → List Event → Bool
is_begun u [] = false
is_begun u (event_begin p v ∷ es) = u == v || is_begun u es
is_begun u (e ∷ es) = is_begun u es

abbrev pub is_finished : ℕ → List Event → Bool
is_finished u [] = false
is_finished u (event_finish p v ∷ es) = u == v || is_finished u es
is_finished u (e ∷ es) = is_finished u es

-- the process of a protect
abbrev pub protector : ℕ → List Event → Option ℕ
protector u [] = None
protector u (event_protect p v ∷ es) = if u == v then Some p else protector u es
protector u (e ∷ es) = protector u es

pub data Stage : Type 0 where
  waiting : Stage
  running : Stage

abbrev pub is_running : Stage → Bool
is_running waiting = false
is_running running = true

-- protect u stands on the frames, and its cleanup waits or runs
abbrev pub Holds : Stage → ℕ → List Mark → Type 0
Holds st u [] = ⊥
Holds waiting u (protect_mark v ∷ ms) = (u ≡ v) ⊎ Holds waiting u ms
Holds running u (cleanup_mark v k ∷ ms) = (u ≡ v) ⊎ Holds running u ms
Holds st u (m ∷ ms) = Holds st u ms

-- the numbers of all protects on the frames are lower than u
abbrev pub AllUnder : ℕ → List Mark → Type 0
AllUnder u [] = Unit {0}
AllUnder u (protect_mark v ∷ ms) = (v < u) × AllUnder u ms
AllUnder u (cleanup_mark v k ∷ ms) = (v < u) × AllUnder u ms
AllUnder u (m ∷ ms) = AllUnder u ms

-- the protect numbers on the frames rise from the base
abbrev pub Rising : List Mark → Type 0
Rising [] = Unit {0}
Rising (protect_mark u ∷ ms) = AllUnder u ms × Rising ms
Rising (cleanup_mark u k ∷ ms) = AllUnder u ms × Rising ms
Rising (m ∷ ms) = Rising ms

-- a protect on the frames of process p at this stage
pub record StageSane (o : Outline) (p u : ℕ) (stage : Stage) : Type 0 where
  pub low : u ≤ o.protects
  pub mine : protector u o.events ≡ Some p
  pub begun : is_begun u o.events ≡ is_running stage
  pub unfinished : is_finished u o.events ≡ false

-- process p holds protect u at some stage
pub record IsHeld (o : Outline) (u : ℕ) : Type 0 where
  pub process : ℕ
  pub by : Seen
  pub is : numbered o.procs process ≡ Some by
  pub stage : Stage
  pub holds : Holds stage u by.thread.marks

-- Each protect stands on a protect frame and has not begun, or on that of its running cleanup and has begun and not
-- finished, or on no frame and has begun and finished.
pub record ProtectsSane (o : Outline) : Type 0 where
  pub held : (p : ℕ) (q : Seen) (stage : Stage) (u : ℕ) → numbered o.procs p ≡ Some q → Holds stage u q.thread.marks → StageSane o p u stage
  pub placed : (u : ℕ) → 0 < u → u ≤ o.protects → IsHeld o u ⊎ ((is_begun u o.events ≡ true) × (is_finished u o.events ≡ true))
  pub rising : (p : ℕ) (q : Seen) → numbered o.procs p ≡ Some q → Rising q.thread.marks
  -- nothing is told of a protect that was not made
  pub unmade : (u : ℕ) → o.protects < u → (protector u o.events ≡ None) × ((is_begun u o.events ≡ false) × (is_finished u o.events ≡ false))

-- calls of process closures

abbrev pub sends : ℕ → List Event → ℕ
sends k [] = 0
sends k (send p j n ∷ es) = if k == j then suc (sends k es) else sends k es
sends k (e ∷ es) = sends k es

abbrev pub takes : ℕ → List Event → ℕ
takes k [] = 0
takes k (take p j n ∷ es) = if k == j then suc (takes k es) else takes k es
takes k (e ∷ es) = takes k es

abbrev pub replies : ℕ → List Event → ℕ
replies k [] = 0
replies k (reply p j n text ∷ es) = if k == j then suc (replies k es) else replies k es
replies k (e ∷ es) = replies k es

abbrev pub call_numbers : List Call → List ℕ
call_numbers = map (λ c. c.number)

-- the call in progress is the last one taken and has no reply
abbrev pub InProgress : Option Call → (taken answered : ℕ) → Type 0
InProgress None taken answered = taken ≡ answered
InProgress (Some c) taken answered = (c.number ≡ taken) × (taken ≡ suc answered)

pub record CallsSane (k : ℕ) (s : Server) (events : List Event) : Type 0 where
  pub sent : s.sent ≡ sends k events
  pub progress : InProgress s.current (takes k events) (replies k events)
  -- the queue holds the calls that were sent and not taken, in order
  pub queued : call_numbers s.queue ≡ numbers (takes k events + 1) (length s.queue)
  pub all : takes k events + length s.queue ≡ s.sent

pub record ServersSane (o : Outline) : Type 0 where
  pub calls : (k : ℕ) (s : Server) → numbered o.servers k ≡ Some s → CallsSane k s o.events
  -- nothing is told of a process closure that was not made
  pub unmade : (k : ℕ) → length o.servers < k → (sends k o.events ≡ 0) × ((takes k o.events ≡ 0) × (replies k o.events ≡ 0))
  -- it is served by its process
  pub served : (k : ℕ) (s : Server) → numbered o.servers k ≡ Some s → (q : Seen) × (numbered o.procs s.process ≡ Some q) × (q.kind ≡ serving k)
  pub serves : (p : ℕ) (q : Seen) (k : ℕ) → numbered o.procs p ≡ Some q → q.kind ≡ serving k → (s : Server) × (numbered o.servers k ≡ Some s) × (s.process ≡ p)
  -- a process at rest has no call in progress, and is no eager one
  pub resting : (k : ℕ) (s : Server) (q : Seen) → numbered o.servers k ≡ Some s → numbered o.procs s.process ≡ Some q → is_live q ≡ true → q.thread.doing ≡ rests → (s.current ≡ None) × (s.eager ≡ false)
  -- an eager turn without a call has an empty queue
  pub prompt : (k : ℕ) (s : Server) (q : Seen) → numbered o.servers k ≡ Some s → numbered o.procs s.process ≡ Some q → is_live q ≡ true → s.eager ≡ true → s.current ≡ None → s.queue ≡ []
  -- a call has a word for each parameter, and an eager turn a future
  pub fitting : (k : ℕ) (s : Server) (c : Call) (i : ℕ) → numbered o.servers k ≡ Some s → numbered s.queue i ≡ Some c → length c.arguments ≡ length s.body.parameters
  pub full : (k : ℕ) (s : Server) → numbered o.servers k ≡ Some s → s.eager ≡ true → length s.turn ≡ length s.body.parameters
  pub plain : (k : ℕ) (s : Server) → numbered o.servers k ≡ Some s → s.eager ≡ false → s.turn ≡ []
  -- it is dead exactly where its process is not live
  pub dead : (k : ℕ) (s : Server) (q : Seen) → numbered o.servers k ≡ Some s → numbered o.procs s.process ≡ Some q → s.dead ≡ not (is_live q)
  -- and its process ends only killed
  pub killed : (p : ℕ) (q : Seen) (k : ℕ) → numbered o.procs p ≡ Some q → q.kind ≡ serving k → q.ended ≡ true → q.aim ≡ die

-- futures

-- what a future was made for
pub data Reason : Type 0 where
  of_binding : (process : ℕ) → Reason
  of_reply : (closure call : ℕ) → Reason
  of_parameter : (closure : ℕ) → Reason

-- future f was made for this reason and is in a state
pub record IsFuture (o : Outline) (reasons : List Reason) (f : ℕ) (reason : Reason) (Is : Future → Type 0) : Type 0 where
  pub reason_is : numbered reasons f ≡ Some reason
  pub state : Future
  pub state_is : numbered o.futures f ≡ Some state
  pub good : Is state

abbrev pub IsPending : Future → Type 0
IsPending s = s ≡ pending

abbrev pub IsDead : Future → Type 0
IsDead s = s ≡ dead

abbrev pub HasValue : Future → Type 0
HasValue s = (x : Word) × (s ≡ valued x)

-- of a child: dead where it was killed, valued where it ended, else pending
abbrev pub ChildState : (dying ended : Bool) → Future → Type 0
ChildState true ended = IsDead
ChildState false true = HasValue
ChildState false false = IsPending

-- of a call without a reply
abbrev pub ReplyState : (is_dead : Bool) → Future → Type 0
ReplyState true = IsDead
ReplyState false = IsPending

-- of a parameter of an eager turn: it has its value where the turn has a call
abbrev pub ParameterState : Option Call → (is_dead : Bool) → Future → Type 0
ParameterState (Some c) is_dead = HasValue
ParameterState None is_dead = ReplyState is_dead

pub record FuturesSane (o : Outline) : Type 0 where
  pub reasons : List Reason
  pub all : length reasons ≡ length o.futures
  pub children : (p : ℕ) (q : Seen) (f : ℕ) → numbered o.procs p ≡ Some q → q.kind ≡ child f → IsFuture o reasons f (of_binding p) (ChildState (is_die q.aim) q.ended)
  pub calls : (k : ℕ) (s : Server) (c : Call) (f : ℕ) (i : ℕ) → numbered o.servers k ≡ Some s → numbered (current_of s.current ++ s.queue) i ≡ Some c → c.reply ≡ Some f → IsFuture o reasons f (of_reply k c.number) (ReplyState s.dead)
  pub parameters : (k : ℕ) (s : Server) (f : ℕ) → numbered o.servers k ≡ Some s → Among f s.turn → IsFuture o reasons f (of_parameter k) (ParameterState s.current s.dead)

-- what the journal tells of processes and catches

abbrev pub home_told : ℕ → List Event → Option ℕ
home_told p [] = None
home_told p (spawn a q home mode ∷ es) = if p == q then Some home else home_told p es
home_told p (e ∷ es) = home_told p es

-- the owner of a catch, and the enclosing one
abbrev pub catch_told : ℕ → List Event → Option (ℕ × ℕ)
catch_told c [] = None
catch_told c (opened p d e ∷ es) = if c == d then Some (p, e) else catch_told c es
catch_told c (e ∷ es) = catch_told c es

abbrev pub is_killed : ℕ → List Event → Bool
is_killed p [] = false
is_killed p (event_kill c q ∷ es) = p == q || is_killed p es
is_killed p (e ∷ es) = is_killed p es

abbrev pub has_ended : ℕ → List Event → Bool
has_ended p [] = false
has_ended p (event_end_ok q text ∷ es) = p == q || has_ended p es
has_ended p (event_end_killed q ∷ es) = p == q || has_ended p es
has_ended p (e ∷ es) = has_ended p es

pub record ToldSane (o : Outline) : Type 0 where
  -- the lines give the home of each process but 1, and owner and enclosing catch of each catch but 0
  pub homes : (p : ℕ) (q : Seen) → numbered o.procs p ≡ Some q → 1 < p → home_told p o.events ≡ Some q.home
  pub catches : (c : ℕ) (k : Catch) → catch_at o.catches c ≡ Some k → 0 < c → catch_told c o.events ≡ Some (k.owner, k.enclosing)
  -- a kill is told of exactly the processes that leave for their end
  pub killed : (p : ℕ) (q : Seen) → numbered o.procs p ≡ Some q → is_killed p o.events ≡ is_die q.aim
  pub ended : (p : ℕ) (q : Seen) → numbered o.procs p ≡ Some q → has_ended p o.events ≡ q.ended
  -- nothing is told of what was not made
  pub no_home : (p : ℕ) → (p ≤ 1) ⊎ (length o.procs < p) → home_told p o.events ≡ None
  pub no_process : (p : ℕ) → length o.procs < p → (is_killed p o.events ≡ false) × (has_ended p o.events ≡ false)
  pub no_catch : (c : ℕ) → (c ≡ 0) ⊎ (length o.catches ≤ c) → catch_told c o.events ≡ None

-- all of it

pub record SaneOutline (o : Outline) : Type 0 where
  pub homes : HomesSane o
  pub catches : CatchesSane o
  pub empty : EmptySane o
  pub aims : AimsSane o
  pub work : (p : ℕ) (q : Seen) → numbered o.procs p ≡ Some q → q.ended ≡ false → WorkSane q
  pub protects : ProtectsSane o
  pub servers : ServersSane o
  pub futures : FuturesSane o
  pub told : ToldSane o

abbrev pub Sane : World Thread Closure → Type 0
Sane w = SaneOutline (outline w)
