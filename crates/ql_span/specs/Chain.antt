-- Work, span and the heaviest chain of a journal.
use Rattle.std.specs.Prelude.{◌≡◌, ◌⊎◌, ℕ, suc, ◌<◌, ◌≤◌, ◌==◌, ◌&&◌, if◌then◌else◌, List, [], ◌∷◌, Option, Some, None, is_none}
use Rattle.std.specs.List.{sum_by}
use Rattle.ql_world.specs.declared.event.Event.{Event}
use Rattle.ql_world.specs.declared.event.Event.TheVariants.{Turn as turn, Spawn as spawn, Opened as opened, Throw as throw, Kill as kill, Send as send, Take as take, Reply as reply, EndOk as end_ok}
use Rattle.ql_world.specs.declared.event.Mode.{Mode}
use Rattle.ql_world.specs.Event.{Journal}

-- Lines are numbered from 1, and a head line is line 1.
abbrev pub first_line : Journal → ℕ
first_line j = if is_none j.head then 1 else 2

-- what line i holds, where the list begins at line `first`
abbrev pub line_at : {A : Type 0} → (first : ℕ) → List A → (i : ℕ) → Option A
line_at first [] i = None
line_at first (a ∷ rest) i = if i == first then Some a else line_at (suc first) rest i

-- the process of an event that spawns q
abbrev pub spawner : (q : ℕ) → Event → Option ℕ
spawner q (spawn p child home mode) = if child == q then Some p else None
spawner q e = None

-- the process of an event that sends call n of process closure k
abbrev pub sender : (k n : ℕ) → Event → Option ℕ
sender k n (send p closure call) = if (closure == k) && (call == n) then Some p else None
sender k n e = None

-- the process of an event that opens catch c
abbrev pub owner : (c : ℕ) → Event → Option ℕ
owner c (opened p catch enclosing) = if catch == c then Some p else None
owner c e = None

-- list c is d, or stands before it in the order of lists
abbrev pub NotAfter : (c d : List ℕ) → Type 0
NotAfter [] d = Unit {0}
NotAfter (i ∷ c) [] = ⊥
NotAfter (i ∷ c) (j ∷ d) = (i < j) ⊎ ((i ≡ j) × NotAfter c d)

abbrev pub ticks_of : Option Event → ℕ
ticks_of (Some (turn p n)) = n
ticks_of o = 0

-- The events of a journal stand from line `first` on.
module _ (first : ℕ) (events : List Event) where
  -- line i holds this event
  abbrev pub IsAt : (i : ℕ) → Event → Type 0
  IsAt i e = line_at first events i ≡ Some e

  -- line i is a turn of process p
  abbrev pub IsOf : (i p : ℕ) → Type 0
  IsOf i p = (n : ℕ) × IsAt i (turn p n)

  -- line i is a turn
  abbrev pub IsTurn : (i : ℕ) → Type 0
  IsTurn i = (p : ℕ) × IsOf i p

  -- line `at` is an event of the turn at line i: it comes later, with no turn after line i up to it
  pub record IsEventOf (i at : ℕ) (e : Event) : Type 0 where
    pub later : i < at
    pub is : IsAt at e
    pub same : (k : ℕ) → i < k → k ≤ at → ¬ IsTurn k

  -- line k has a process by this reading
  abbrev pub Tells : (reading : Event → Option ℕ) → (k p : ℕ) → Type 0
  Tells reading k p = (e : Event) × (IsAt k e × (reading e ≡ Some p))

  -- p is the process of the last line before line `at` that has one by this reading
  pub record IsLast (reading : Event → Option ℕ) (at p : ℕ) : Type 0 where
    pub line : ℕ
    pub before : line < at
    pub tells : Tells reading line p
    pub last : (k q : ℕ) → line < k → k < at → ¬ Tells reading k q

  -- why the turn at line j is after the turn at line i
  pub data Reason (i j : ℕ) : Type 0 where
    -- both are of one process
    same : (p : ℕ) → IsOf i p → IsOf j p → Reason i j
    -- an event of i is `spawn P Q ..`, and j is of Q
    spawns : (at p q home : ℕ) (mode : Mode) → IsEventOf i at (spawn p q home mode) → IsOf j q → Reason i j
    -- an event of i is `send P K N`, and `take Q K N` is an event of j
    sends : (at p k n by q : ℕ) → IsEventOf i at (send p k n) → IsEventOf j by (take q k n) → Reason i j
    -- an event of i is `take Q K N`, and j is of Q
    takes : (at q k n : ℕ) → IsEventOf i at (take q k n) → IsOf j q → Reason i j
    -- an event of i is `kill C Q`, and j is of Q
    kills : (at c q : ℕ) → IsEventOf i at (kill c q) → IsOf j q → Reason i j
    -- an event of i is `end Q ok`, and j is of the process of the last line before it that spawns Q
    ends : (at q : ℕ) (text : Option (List ℕ)) (p : ℕ) → IsEventOf i at (end_ok q text) → IsLast (spawner q) at p → IsOf j p → Reason i j
    -- an event of i is `reply Q K N`, and j is of the process of the last line before it that sends call N of K
    replies : (at q k n : ℕ) (text : Option (List ℕ)) (p : ℕ) → IsEventOf i at (reply q k n text) → IsLast (sender k n) at p → IsOf j p → Reason i j
    -- an event of i is `throw P C`, and j is of the process of the last line before it that opens C
    throws : (at p c o : ℕ) → IsEventOf i at (throw p c) → IsLast (owner c) at o → IsOf j o → Reason i j

  -- for turns at line i and later at line j, there is a reason
  pub record After (i j : ℕ) : Type 0 where
    pub from : IsTurn i
    pub to : IsTurn j
    pub later : i < j
    pub reason : Reason i j

  -- lines of turns, each after the one before
  abbrev pub IsChain : List ℕ → Type 0
  IsChain [] = Unit {0}
  IsChain (i ∷ []) = IsTurn i
  IsChain (i ∷ j ∷ c) = After i j × IsChain (j ∷ c)

  -- the ticks that line i tells
  abbrev pub ticks_at : (i : ℕ) → ℕ
  ticks_at i = ticks_of (line_at first events i)

  abbrev pub weight : List ℕ → ℕ
  weight c = sum_by ticks_at c

  -- `work` is the sum of all ticks; `chain` is a chain of weight `span`, no chain weighs more, and among the heaviest
  -- it is the least in the order of lists
  pub record IsSpan (work span : ℕ) (chain : List ℕ) : Type 0 where
    pub all : work ≡ sum_by (λ e. ticks_of (Some e)) events
    pub chained : IsChain chain
    pub weighs : weight chain ≡ span
    pub heaviest : (c : List ℕ) → IsChain c → weight c ≤ span
    pub least : (c : List ℕ) → IsChain c → weight c ≡ span → NotAfter chain c

-- what is told of a journal
pub record Span : Type 0 where
  -- all ticks
  pub work : ℕ
  -- those of the chain
  pub span : ℕ
  pub chain : List ℕ

abbrev pub IsSpanOf : Journal → Span → Type 0
IsSpanOf j s = IsSpan (first_line j) j.events s.work s.span s.chain
