-- The processes of a run, without their control, and its catches.
use Rattle.std.specs.Prelude.{ℕ, Bool, true, false, not, ◌&&◌, ◌||◌, ◌==◌, nat_lt, List, Option, Some, None}
use Rattle.ql_world.specs.declared.word.Word.{Word}
use Rattle.ql_world.specs.declared.world.Catch.{Catch}
use Rattle.ql_world.specs.declared.world.Kind.{Kind}
use Rattle.ql_world.specs.declared.world.Aim.TheVariants.{Free as free}
use Rattle.ql_world.specs.Within.{is_die, is_over}
pub use Rattle.ql_tree.specs.declared.person.Person.{Person}

pub record Tree : Type 0 where
  -- how many processes may be made
  pub limit : ℕ
  -- process 1 is the first
  pub persons : List Person
  -- the newest first
  pub catches : List Catch
  -- for how many more processes there is room, and for how many more catches
  pub spare : ℕ

-- a new process
abbrev pub new_person : ℕ → Kind → Person
new_person home kind = record { home = home; kind = kind; aim = free; ended = false }

-- a new catch
abbrev pub new_catch : (owner : ℕ) → Word → (enclosing : ℕ) → (waits : Bool) → Catch
new_catch owner tag enclosing waits = record { owner = owner; tag = Some tag; enclosing = enclosing; waits = waits; open_still = true }

-- it has neither ended nor been killed
abbrev pub lives : Person → Bool
lives r = not r.ended && not (is_die r.aim)

-- whether there is such a process, and it is live and within catch c
abbrev pub lives_within : List Catch → (c : ℕ) → Option Person → Bool
lives_within catches c None = false
lives_within catches c (Some r) = lives r && is_over catches c r.home

-- whether the number of a catch is above the floor, if there is one
abbrev pub is_above : Option ℕ → ℕ → Bool
is_above None = λ c. true
is_above (Some floor) = nat_lt floor

-- it is process p, or it isn't within catch c, or it has ended
abbrev pub is_done : List Catch → (p c number : ℕ) → Person → Bool
is_done catches p c number r = number == p || (not (is_over catches c r.home) || r.ended)
