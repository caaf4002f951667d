-- The laws that every journal of a run meets. They speak of its lines alone: of what stands before a line, directly
-- after it, or anywhere.
use Rattle.std.specs.Prelude.{◌≡◌, ◌⊎◌, ℕ, suc, ◌==◌, ◌<◌, Bool, true, false, if◌then◌else◌, List, [], ◌∷◌, ◌++◌, map, Option}
use Rattle.ql_world.specs.declared.event.Mode.{Mode}
use Rattle.ql_world.specs.declared.event.Event.{Event}
use Rattle.ql_world.specs.declared.event.Event.TheVariants.{Turn as turn, Spawn as spawn, Opened as opened, Exit as exit, Throw as throw, Land as land, Kill as kill, Protect as protect, Begin as begin, Finish as finish, Send as send, Take as take, Reply as reply, EndOk as end_ok, EndKilled as end_killed, Stopped as stopped}
use Rattle.ql_world.specs.declared.event.Stop.TheVariants.{Done as done}

-- the line stands among these
abbrev pub IsAmong : Event → List Event → Type 0
IsAmong line [] = ⊥
IsAmong line (l ∷ ls) = (line ≡ l) ⊎ IsAmong line ls

-- At each line, with the lines before it and those after it.
abbrev pub AtEachLine : (List Event → Event → List Event → Type 0) → List Event → Type 0
AtEachLine Law lines = (before : List Event) (line : Event) (after : List Event) → lines ≡ before ++ line ∷ after → Law before line after

-- who is within which catch

-- Process 1 has home 0, and each other one the home with which it was spawned.
abbrev pub HasHome : List Event → (process home : ℕ) → Type 0
HasHome lines q h = ((q ≡ 1) × (h ≡ 0)) ⊎ ((p : ℕ) × (mode : Mode) × IsAmong (spawn p q h mode) lines)

-- Catch 0 belongs to process 1, and each other one to the process that opened it.
abbrev pub Owns : List Event → (process catch : ℕ) → Type 0
Owns lines p c = ((c ≡ 0) × (p ≡ 1)) ⊎ ((d : ℕ) × IsAmong (opened p c d) lines)

-- Catch c is over catch d where it is d, or over the one that encloses d.
pub data IsOver (lines : List Event) (c : ℕ) : ℕ → Type 0 where
  itself : (d : ℕ) → c ≡ d → IsOver lines c d
  over_enclosing : (p d e : ℕ) → IsAmong (opened p d e) lines → IsOver lines c e → IsOver lines c d

abbrev pub IsWithin : List Event → (process catch : ℕ) → Type 0
IsWithin lines q c = (h : ℕ) × HasHome lines q h × IsOver lines c h

abbrev pub HasKill : List Event → ℕ → Type 0
HasKill lines q = (c : ℕ) × IsAmong (kill c q) lines

abbrev pub HasEnd : List Event → ℕ → Type 0
HasEnd lines q = ((text : Option (List ℕ)) × IsAmong (end_ok q text) lines) ⊎ IsAmong (end_killed q) lines

abbrev pub Not : Type 0 → Type 0
Not A = A → ⊥

-- Directly after each exit of a catch and each throw to it stand, in rising order, the kills of exactly those
-- processes that are within it, are not its owner, and were neither killed nor ended before. No other kill stands.

-- `lines` are all lines of the journal, and `before` those before the exit or throw.
pub record IsDoomed (lines before : List Event) (c q : ℕ) : Type 0 where
  pub within : IsWithin lines q c
  pub foreign : Not (Owns lines q c)
  pub not_killed : Not (HasKill before q)
  pub not_ended : Not (HasEnd before q)

abbrev pub IsNumber : ℕ → List ℕ → Type 0
IsNumber q [] = ⊥
IsNumber q (r ∷ rs) = (q ≡ r) ⊎ IsNumber q rs

abbrev pub AllAbove : ℕ → List ℕ → Type 0
AllAbove q [] = Unit {0}
AllAbove q (r ∷ rs) = (q < r) × AllAbove q rs

abbrev pub Rises : List ℕ → Type 0
Rises [] = Unit {0}
Rises (q ∷ qs) = AllAbove q qs × Rises qs

abbrev pub starts_with_kill : List Event → Bool
starts_with_kill (kill c q ∷ ls) = true
starts_with_kill _ = false

-- the lines after an exit of c or a throw to c
pub record KillsFollow (lines before : List Event) (c : ℕ) (after : List Event) : Type 0 where
  pub doomed : List ℕ
  pub rest : List Event
  pub follow : after ≡ map (kill c) doomed ++ rest
  pub no_more : starts_with_kill rest ≡ false
  pub rise : Rises doomed
  pub each : (q : ℕ) → IsNumber q doomed → IsDoomed lines before c q
  pub all : (q : ℕ) → IsDoomed lines before c q → IsNumber q doomed

-- A kill stands directly after an exit or a throw, or after another kill, and nowhere else.
abbrev pub KillsAfter : List Event → List Event → Event → List Event → Type 0
KillsAfter lines before (exit p c) after = KillsFollow lines before c after
KillsAfter lines before (throw p c) after = KillsFollow lines before c after
KillsAfter lines before (kill c q) after = Unit {0}
KillsAfter lines before line after = starts_with_kill after ≡ false

pub record KillsLaw (lines : List Event) : Type 0 where
  pub not_first : starts_with_kill lines ≡ false
  pub after_each : AtEachLine (KillsAfter lines) lines

-- After a kill a process only cleans up, and it is killed once.

-- a cleanup of process q has begun, and has not finished
abbrev pub IsCleaning : List Event → ℕ → Type 0
IsCleaning before q = (u : ℕ) × IsAmong (begin q u) before × Not (IsAmong (finish q u) before)

-- After the kill of its process stands no `spawn`, `send`, `take`, `reply`, `end ok` and no second `kill`. An `open`,
-- `exit`, `throw`, `land` or `protect` stands only while a cleanup runs. All other lines may stand.
abbrev pub AfterKill : List Event → Event → Type 0
AfterKill before (spawn p q h mode) = Not (HasKill before p)
AfterKill before (send p k n) = Not (HasKill before p)
AfterKill before (take q k n) = Not (HasKill before q)
AfterKill before (reply q k n text) = Not (HasKill before q)
AfterKill before (end_ok p text) = Not (HasKill before p)
AfterKill before (kill c q) = Not (HasKill before q)
AfterKill before (opened p c d) = HasKill before p → IsCleaning before p
AfterKill before (exit p c) = HasKill before p → IsCleaning before p
AfterKill before (throw p c) = HasKill before p → IsCleaning before p
AfterKill before (land p c) = HasKill before p → IsCleaning before p
AfterKill before (protect p u) = HasKill before p → IsCleaning before p
AfterKill before (turn p n) = Unit {0}
AfterKill before (begin p u) = Unit {0}
AfterKill before (finish p u) = Unit {0}
AfterKill before (end_killed p) = Unit {0}
AfterKill before (stopped why) = Unit {0}

abbrev pub UnwindingLaw : List Event → Type 0
UnwindingLaw = AtEachLine (λ before line after. AfterKill before line)

-- Cleanups begin and finish once, those of one process the newest first, and all of them where the run ends by
-- done.

pub record BeginsWell (before : List Event) (p u : ℕ) : Type 0 where
  pub once : (q : ℕ) → Not (IsAmong (begin q u) before)
  pub protected : IsAmong (protect p u) before
  -- each newer protect of the process has finished
  pub in_order : (v : ℕ) → u < v → IsAmong (protect p v) before → IsAmong (finish p v) before

pub record FinishesWell (before : List Event) (p u : ℕ) : Type 0 where
  pub once : (q : ℕ) → Not (IsAmong (finish q u) before)
  pub begun : IsAmong (begin p u) before

abbrev pub CleanupLine : List Event → Event → Type 0
CleanupLine before (protect p u) = (q : ℕ) → Not (IsAmong (protect q u) before)
CleanupLine before (begin p u) = BeginsWell before p u
CleanupLine before (finish p u) = FinishesWell before p u
CleanupLine before line = Unit {0}

pub record CleanupsLaw (lines : List Event) : Type 0 where
  pub each : AtEachLine (λ before line after. CleanupLine before line) lines
  pub all_at_done : (before : List Event) → lines ≡ before ++ stopped done ∷ [] → (p u : ℕ) → IsAmong (protect p u) before → IsAmong (begin p u) before × IsAmong (finish p u) before

-- The calls of a process closure are sent, taken and answered one at a time in the order of their numbers.

-- how many calls of the closure were sent, taken and answered in these lines
abbrev pub sends : ℕ → List Event → ℕ
sends k [] = 0
sends k (send p j n ∷ ls) = if k == j then suc (sends k ls) else sends k ls
sends k (l ∷ ls) = sends k ls

abbrev pub takes : ℕ → List Event → ℕ
takes k [] = 0
takes k (take p j n ∷ ls) = if k == j then suc (takes k ls) else takes k ls
takes k (l ∷ ls) = takes k ls

abbrev pub replies : ℕ → List Event → ℕ
replies k [] = 0
replies k (reply p j n text ∷ ls) = if k == j then suc (replies k ls) else replies k ls
replies k (l ∷ ls) = replies k ls

abbrev pub IsSent : List Event → (closure call : ℕ) → Type 0
IsSent before k n = (p : ℕ) × IsAmong (send p k n) before

abbrev pub IsTaken : List Event → (closure call : ℕ) → Type 0
IsTaken before k n = (q : ℕ) × IsAmong (take q k n) before

abbrev pub IsAnswered : List Event → (closure call : ℕ) → Type 0
IsAnswered before k n = (q : ℕ) × (text : Option (List ℕ)) × IsAmong (reply q k n text) before

pub record TakenWell (before : List Event) (k n : ℕ) : Type 0 where
  pub in_order : n ≡ suc (takes k before)
  pub sent : IsSent before k n
  -- the call before it has its reply
  pub one_at_a_time : (m : ℕ) → n ≡ suc m → 0 < m → IsAnswered before k m

pub record AnsweredWell (before : List Event) (k n : ℕ) : Type 0 where
  pub in_order : n ≡ suc (replies k before)
  pub taken : IsTaken before k n

abbrev pub CallLine : List Event → Event → Type 0
CallLine before (send p k n) = n ≡ suc (sends k before)
CallLine before (take q k n) = TakenWell before k n
CallLine before (reply q k n text) = AnsweredWell before k n
CallLine before line = Unit {0}

abbrev pub CallsLaw : List Event → Type 0
CallsLaw = AtEachLine (λ before line after. CallLine before line)

-- all four

pub record Legal (lines : List Event) : Type 0 where
  pub kills : KillsLaw lines
  pub unwinding : UnwindingLaw lines
  pub cleanups : CleanupsLaw lines
  pub calls : CallsLaw lines
