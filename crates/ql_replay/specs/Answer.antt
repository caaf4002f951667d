-- What following a book to its end answers.
use Rattle.std.specs.Prelude.{◌≡◌, ℕ, ◌+◌, ◌≤◌, ◌<◌, List, [], ◌∷◌, ◌++◌, length, Option, Some, None, Result, Ok, Err, ◌⊎◌, Vec, ◌==◌, if◌then◌else◌}
use Rattle.ql_base.specs.Outside.{HasRisen}
use Rattle.ql_base.specs.declared.limits.Limits.{Limits}
use Rattle.ql_world.specs.Run.{Story}
use Rattle.ql_world.specs.declared.event.Head.{Head}
use Rattle.ql_replay.specs.Book.{head_in}
use Rattle.ql_replay.specs.FirstDiff.{FirstDiff}
use Rattle.ql_replay.specs.Law.{IsRight}
use Rattle.ql_replay.specs.Replay.{Verdict, same, differs}
use Rattle.ql_replay.specs.Page.{first_of, Takes, TakesSome, IsAtEnd, MayCome, Hands}
use Rattle.ql_replay.specs.Following.{feeds}
use Rattle.ql_replay.specs.declared.follow.Step.{Step}
use Rattle.ql_replay.specs.declared.follow.Step.TheVariants.{On, End, Differs as Parts, Fault}
use Rattle.ql_replay.specs.declared.verdict.Verdict.{Verdict as Told}
use Rattle.ql_replay.specs.declared.verdict.Verdict.TheVariants.{Same, Differs}
use Rattle.ql_replay.specs.declared.verdict.ReplayFault.{ReplayFault}
use Rattle.ql_replay.specs.declared.verdict.ReplayFault.TheVariants.{Book, Memory}

abbrev pub verdict_of : Told → Verdict
verdict_of (Same output) = same output.items
verdict_of (Differs line) = differs line

-- Where a book is one of the program's, it was read to its end.
abbrev pub IsReadOut : Told → (left : Option (List ℕ)) → Type 0
IsReadOut (Same output) left = left ≡ Some []
IsReadOut (Differs line) left = Unit {0}

-- the same of a book whether or not it tells its bytes
abbrev pub IsReadToEnd : Told → (left : Option (List ℕ)) → Type 0
IsReadToEnd (Same output) left = IsAtEnd left
IsReadToEnd (Differs line) left = Unit {0}

-- A fault of the book is tied to the count of faults. Else the count is as before.
abbrev pub AfterFaults : Result Told ReplayFault → (old new : ℕ) → Type 0
AfterFaults (Err Book) old new = HasRisen old new
AfterFaults answer old new = new ≡ old

-- The same of a step.
abbrev pub AfterStep : {E : Type 0} → Result Step E → (old new : ℕ) → Type 0
AfterStep (Ok Fault) old new = HasRisen old new
AfterStep answer old new = new ≡ old

-- The book ends here, and this is the verdict on it.
abbrev pub EndsWith : (verdict : Verdict) → Result Told ReplayFault → Type 0
EndsWith verdict (Ok v) = verdict ≡ verdict_of v
EndsWith verdict (Err Book) = ⊥
EndsWith verdict (Err (Memory e)) = Unit {0}

-- One function tells the verdict by the bytes that are still to come, of which the first stand in this line.
module _ (verdict : List ℕ → Verdict) (at : ℕ) where
  -- The answer after these bytes. It is the verdict whatever comes yet. After a fault of the book a line that differs
  -- comes after the lines that were taken whole.
  abbrev pub Answered : Result Told ReplayFault → (bytes : List ℕ) → (left : Option (List ℕ)) → Type 0
  Answered (Ok v) bytes left = ((more : List ℕ) → MayCome more left → verdict (bytes ++ more) ≡ verdict_of v) × IsReadToEnd v left
  Answered (Err Book) bytes left = (more : List ℕ) (k : ℕ) → verdict (bytes ++ more) ≡ differs k → at + feeds bytes ≤ k
  Answered (Err (Memory e)) bytes left = Unit {0}

  -- the answer on a book, of which the bytes of the page were read before
  pub record Answers (answer : Result Told ReplayFault) (page : List ℕ) (left left' : Option (List ℕ)) : Type 0 where
    pub read : List ℕ
    pub takes : Takes read left left'
    pub answered : Answered answer (page ++ read) left'

  -- The step along a book led to where the other function tells the verdict, or to an end.
  module _ (page : List ℕ) (left : Option (List ℕ)) (after : List ℕ → Verdict) (now : ℕ) (page' : List ℕ) (left' : Option (List ℕ)) where
    -- nothing was taken
    abbrev pub Stays : Type 0
    Stays = Hands [] page left [] left' × ((now ≡ at) × ((rest : List ℕ) → verdict rest ≡ after rest))

    abbrev pub StepsTo : {E : Type 0} → Result Step E → Type 0
    StepsTo (Ok On) =
        (b : ℕ) × (Hands (b ∷ []) page left page' left' × ((now ≡ at + feeds (b ∷ [])) × ((rest : List ℕ) → verdict (b ∷ rest) ≡ after rest)))
    StepsTo (Ok Parts) = (b : ℕ) × (Hands (b ∷ []) page left page' left' × ((rest : List ℕ) → verdict (b ∷ rest) ≡ differs now))
    StepsTo (Ok End) = Stays × IsAtEnd left'
    StepsTo (Ok Fault) = Stays
    StepsTo (Err e) = TakesSome left left'

-- the verdict is right, where there is one
abbrev pub IsRightOn : (tells : Limits → List ℕ → Option Story) → (bytes : List ℕ) → Result Told ReplayFault → Type 0
IsRightOn tells bytes (Ok v) = IsRight tells bytes (verdict_of v)
IsRightOn tells bytes (Err e) = Unit {0}

abbrev pub IsReadOutOn : Result Told ReplayFault → (left : Option (List ℕ)) → Type 0
IsReadOutOn (Ok v) left = IsReadOut v left
IsReadOutOn (Err e) left = Unit {0}

-- These of the bytes were taken, and the first line that differs isn't among the lines that were taken whole.
pub record IsCutOff (tells : Limits → List ℕ → Option Story) (bytes : List ℕ) (remains : Option (List ℕ)) : Type 0 where
  pub taken : List ℕ
  pub rest : List ℕ
  pub whole : bytes ≡ taken ++ rest
  pub left : remains ≡ Some rest
  pub later : (k : ℕ) → FirstDiff tells bytes (Some k) → feeds taken < k

-- So it is after a fault of the book.
abbrev pub IsNotPast : (tells : Limits → List ℕ → Option Story) → (bytes : List ℕ) → Result Told ReplayFault → (left : Option (List ℕ)) → Type 0
IsNotPast tells bytes (Err Book) left = IsCutOff tells bytes left
IsNotPast tells bytes answer left = Unit {0}

-- These bytes were taken of the book, whether or not it tells them, and of them, as of a whole book, the verdict is right.
-- After a fault of the book no line that was taken whole is the first that differs.
pub record AnswersTaken (tells : Limits → List ℕ → Option Story) (answer : Result Told ReplayFault) (left left' : Option (List ℕ)) : Type 0 where
  pub taken : List ℕ
  pub takes : Takes taken left left'
  pub right : IsRightOn tells taken answer
  pub early : IsNotPast tells taken answer (Some [])

-- The bytes before the first line feed, or so many that no head line is as long, or all.
abbrev pub IsOpening : (held : List ℕ) → (next : Option ℕ) → (left : Option (List ℕ)) → Type 0
IsOpening held None left = IsAtEnd left
IsOpening held (Some b) left = (b ≡ 10) ⊎ (200 ≤ length held)

-- what a first line with these bytes tells, where this comes next
abbrev pub head_before : (next : Option ℕ) → List ℕ → Option Head
head_before None held = None
head_before (Some b) held = if b == 10 then head_in held else None

-- These were the first bytes. After a fault no line was taken.
abbrev pub Opens : {A : Type 0} → Result (Vec ℕ A) ReplayFault → (page : List ℕ) → (left : Option (List ℕ)) → (page' : List ℕ) → (left' : Option (List ℕ)) → Type 0
Opens (Ok held) page left page' left' = Hands held.items page left page' left' × IsOpening held.items (first_of page') left'
Opens (Err Book) page left page' left' = (taken : List ℕ) × (Hands taken page left [] left' × (feeds taken ≡ 0))
Opens (Err (Memory e)) page left page' left' = TakesSome left left'

abbrev pub AfterOpening : {A : Type 0} → Result (Vec ℕ A) ReplayFault → (old new : ℕ) → Type 0
AfterOpening (Err Book) old new = HasRisen old new
AfterOpening answer old new = new ≡ old
