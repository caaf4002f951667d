-- What the lines of a journal tell of a run so far, read from the newest back, and what each line owes to those before.
use Rattle.std.specs.Prelude.{◌≡◌, ◌⊎◌, ℕ, suc, ◌==◌, ◌<◌, ◌≤◌, Bool, true, false, not, ◌&&◌, if◌then◌else◌, List, [], ◌∷◌, ◌++◌, length, map, drop, Option, Some, None, replicate}
use Rattle.ql_world.specs.declared.event.Event.{Event}
use Rattle.ql_world.specs.declared.event.Event.TheVariants.{Turn as turn, Spawn as spawn, Opened as opened, Exit as exit, Throw as throw, Land as land, Kill as kill, Protect as protect, Begin as begin, Finish as finish, Send as send, Take as take, Reply as reply, EndOk as end_ok, EndKilled as end_killed, Stopped as stopped}
use Rattle.ql_world.specs.declared.event.Stop.TheVariants.{Done as done}
use Rattle.ql_world.specs.declared.event.Stop.{Stop}
use Rattle.ql_world.specs.World.{numbered, change_numbered}
use Rattle.ql_world.specs.declared.world.Catch.{Catch}
use Rattle.ql_world.specs.declared.world.Process.{Process}
use Rattle.ql_world.specs.Within.{is_die}
use Rattle.ql_world.specs.Run.{those_from}
use Rattle.ql_meaning.specs.Sane.{without_turns, is_begun, is_finished, protector, sends, takes, replies}

-- who there is, and which catches

pub record Person : Type 0 where
  pub home : ℕ
  pub dead : Bool
  pub ended : Bool

abbrev pub newborn : ℕ → Person
newborn home = record { home = home; dead = false; ended = false }

abbrev pub with_death : Person → Person
with_death x = record x { dead = true }

abbrev pub with_end : Person → Person
with_end x = record x { ended = true }

abbrev pub persons_in : List Event → List Person
persons_in [] = newborn 0 ∷ []
persons_in (spawn p q home mode ∷ es) = persons_in es ++ newborn home ∷ []
persons_in (kill c q ∷ es) = change_numbered with_death (persons_in es) q
persons_in (end_ok p text ∷ es) = change_numbered with_end (persons_in es) p
persons_in (end_killed p ∷ es) = change_numbered with_end (persons_in es) p
persons_in (e ∷ es) = persons_in es

-- the owner and the enclosing catch of each, the newest first
abbrev pub opens_in : List Event → List (ℕ × ℕ)
opens_in [] = (1, 0) ∷ []
opens_in (opened p c d ∷ es) = (p, d) ∷ opens_in es
opens_in (e ∷ es) = opens_in es

abbrev pub person_of : {P : Type 0} → Process P → Person
person_of q = record { home = q.home; dead = is_die q.aim; ended = q.ended }

abbrev pub opening_of : Catch → ℕ × ℕ
opening_of k = (k.owner, k.enclosing)

abbrev pub over_in : List (ℕ × ℕ) → ℕ → ℕ → Bool
over_in [] c d = false
over_in (o ∷ os) c d = if d == length os then (if c == d then true else over_in os c o.1) else over_in os c d

abbrev pub owner_in : List (ℕ × ℕ) → ℕ → ℕ
owner_in [] c = 0
owner_in (o ∷ os) c = if c == length os then o.0 else owner_in os c

-- which kills are due

abbrev pub is_due : List (ℕ × ℕ) → (c owner n : ℕ) → Person → Bool
is_due os c owner n x = (not x.ended && not x.dead) && (over_in os c x.home && not (n == owner))

-- of those numbered from here on
abbrev pub due_from : List (ℕ × ℕ) → (c owner n : ℕ) → List Person → List ℕ
due_from os c owner n xs = those_from (is_due os c owner) n xs

abbrev pub all_due : ℕ → List Event → List (ℕ × ℕ)
all_due c es = map (λ q. (c, q)) (due_from (opens_in es) c (owner_in (opens_in es) c) 1 (persons_in es))

abbrev pub due : List Event → List (ℕ × ℕ)
due [] = []
due (exit p c ∷ es) = all_due c es
due (throw p c ∷ es) = all_due c es
due (kill c q ∷ es) = drop 1 (due es)
due (e ∷ es) = []

abbrev pub Calm : List Event → Type 0
Calm es = due es ≡ []

-- what each line owes to the past

-- process p was not killed
abbrev pub Alive : ℕ → List Event → Type 0
Alive p past = (x : Person) × (numbered (persons_in past) p ≡ Some x) × (x.dead ≡ false)

-- a cleanup of process p runs
abbrev pub Cleans : ℕ → List Event → Type 0
Cleans p past = (u : ℕ) × (protector u past ≡ Some p) × (is_begun u past ≡ true) × (is_finished u past ≡ false)

abbrev pub May : ℕ → List Event → Type 0
May p past = Alive p past ⊎ Cleans p past

pub record IsVictim (c q : ℕ) (past : List Event) : Type 0 where
  pub rest : List (ℕ × ℕ)
  pub is_next : due past ≡ (c, q) ∷ rest
  pub person : Person
  pub is : numbered (persons_in past) q ≡ Some person
  pub not_dead : person.dead ≡ false
  pub not_ended : person.ended ≡ false

pub record MayBegin (p u : ℕ) (past : List Event) : Type 0 where
  pub once : is_begun u past ≡ false
  pub mine : protector u past ≡ Some p
  pub newest : (v : ℕ) → u < v → protector v past ≡ Some p → is_finished v past ≡ true

pub record MayFinish (p u : ℕ) (past : List Event) : Type 0 where
  pub once : is_finished u past ≡ false
  pub mine : protector u past ≡ Some p
  pub begun : is_begun u past ≡ true

pub record MayTake (k n : ℕ) (past : List Event) : Type 0 where
  pub next : n ≡ suc (takes k past)
  pub sent : n ≤ sends k past
  pub answered : replies k past ≡ takes k past

pub record MayReply (k n : ℕ) (past : List Event) : Type 0 where
  pub next : n ≡ suc (replies k past)
  pub taken : n ≡ takes k past

abbrev pub AllCleaned : Stop → List Event → Type 0
AllCleaned done past = (u p : ℕ) → 0 < u → protector u past ≡ Some p → (is_begun u past ≡ true) × (is_finished u past ≡ true)
AllCleaned why past = Unit {0}

abbrev pub Fine : Event → List Event → Type 0
Fine (turn p n) past = Calm past
Fine (spawn p q home mode) past = Calm past × Alive p past × (q ≡ suc (length (persons_in past))) × (home < length (opens_in past))
Fine (opened p c d) past = Calm past × May p past × (c ≡ length (opens_in past)) × (d < c)
Fine (exit p c) past = Calm past × May p past
Fine (throw p c) past = Calm past × May p past
Fine (land p c) past = Calm past × May p past
Fine (kill c q) past = IsVictim c q past
Fine (protect p u) past = Calm past × May p past × (protector u past ≡ None) × (0 < u)
Fine (begin p u) past = Calm past × MayBegin p u past
Fine (finish p u) past = Calm past × MayFinish p u past
Fine (send p k n) past = Calm past × Alive p past × (n ≡ suc (sends k past))
Fine (take q k n) past = Calm past × Alive q past × MayTake k n past
Fine (reply q k n text) past = Calm past × Alive q past × MayReply k n past
Fine (end_ok p text) past = Calm past × Alive p past
Fine (end_killed p) past = Calm past × ((x : Person) × (numbered (persons_in past) p ≡ Some x))
Fine (stopped why) past = Calm past × AllCleaned why past

-- the processes that took the ticks, the newest first
abbrev pub spelled_by : List Event → List ℕ
spelled_by [] = []
spelled_by (turn p n ∷ es) = replicate n p ++ spelled_by es
spelled_by (e ∷ es) = spelled_by es

-- the mark of an error or a limit, or none
abbrev pub NotDone : Option Stop → Type 0
NotDone (Some done) = ⊥
NotDone o = Unit {0}

abbrev pub Each : List Event → Type 0
Each [] = Unit {0}
Each (e ∷ es) = Fine e (without_turns es) × Each es

-- the bridge: what the lines tell is what the world holds

pub record Knows {P : Type 0} (es : List Event) (ps : List (Process P)) (cs : List Catch) : Type 0 where
  pub persons : persons_in (without_turns es) ≡ map person_of ps
  pub opens : opens_in (without_turns es) ≡ map opening_of cs
  pub lines : Each es
  pub calm : Calm (without_turns es)
