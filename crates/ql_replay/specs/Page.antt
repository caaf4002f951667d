-- The bytes of a book that were read and not taken yet, and those that it has left, where it tells them. What is said here
-- holds of every book.
use Rattle.std.specs.Prelude.{◌≡◌, ℕ, List, [], ◌∷◌, ◌++◌, ◌⊎◌, Option, Some, None}
use Rattle.ql_base.specs.Outside.{HasRisen}
use Rattle.ql_replay.specs.declared.page.Next.{Next}
use Rattle.ql_replay.specs.declared.page.Next.TheVariants.{Byte, End, Fault}

abbrev pub first_of : List ℕ → Option ℕ
first_of [] = None
first_of (b ∷ bs) = Some b

-- These bytes were next in the book, and the others are left, where it tells them.
abbrev pub Takes : List ℕ → Option (List ℕ) → Option (List ℕ) → Type 0
Takes bytes None None = Unit {0}
Takes bytes (Some old) (Some new) = old ≡ bytes ++ new
Takes bytes None (Some new) = ⊥
Takes bytes (Some old) None = ⊥

-- some bytes were next
abbrev pub TakesSome : Option (List ℕ) → Option (List ℕ) → Type 0
TakesSome left left' = (taken : List ℕ) × Takes taken left left'

-- no bytes are left, where the book tells them
abbrev pub IsAtEnd : Option (List ℕ) → Type 0
IsAtEnd None = Unit {0}
IsAtEnd (Some rest) = rest ≡ []

-- These bytes may come yet: none, or all that are left, where the book tells them.
abbrev pub MayCome : (more : List ℕ) → (left : Option (List ℕ)) → Type 0
MayCome more left = (more ≡ []) ⊎ (left ≡ Some more)

-- These bytes were handed on. They were the first of the page and of what was read for it.
pub record Hands (handed page : List ℕ) (left : Option (List ℕ)) (page' : List ℕ) (left' : Option (List ℕ)) : Type 0 where
  pub read : List ℕ
  pub takes : Takes read left left'
  pub parts : page ++ read ≡ handed ++ page'

-- Where none was left, these bytes were read. There are none only at the end.
abbrev pub Fills : (left : Option (List ℕ)) → (page : List ℕ) → (left' : Option (List ℕ)) → Type 0
Fills left page left' = Takes page left left' × (page ≡ [] → IsAtEnd left')

-- What comes next, of which nothing is handed on yet. At the end and after a fault no byte was left.
abbrev pub Peeks : Next → (page : List ℕ) → (left : Option (List ℕ)) → (page' : List ℕ) → (left' : Option (List ℕ)) → Type 0
Peeks (Byte b) page left page' left' = Hands [] page left page' left' × (first_of page' ≡ Some b)
Peeks End page left page' left' = Hands [] page left page' left' × ((page' ≡ []) × IsAtEnd left')
Peeks Fault page left page' left' = Hands [] page left page' left' × (page' ≡ [])

-- A fault is tied to the count of faults.
abbrev pub AfterPeek : Next → (old new : ℕ) → Type 0
AfterPeek Fault old new = HasRisen old new
AfterPeek next old new = new ≡ old
