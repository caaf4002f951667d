-- What a kill does.
use Rattle.std.specs.Prelude.{ℕ, suc, ◌==◌, Bool, not, ◌&&◌, if◌then◌else◌, List, [], ◌∷◌}
use Rattle.ql_world.specs.declared.world.Catch.{Catch}
use Rattle.ql_world.specs.declared.world.Aim.{Aim}
use Rattle.ql_world.specs.declared.world.Aim.TheVariants.{Die as die}
use Rattle.ql_world.specs.World.{change_numbered}
use Rattle.ql_world.specs.Within.{is_over}
use Rattle.ql_world.specs.Run.{those_from}
use Rattle.ql_tree.specs.Tree.{Person, lives}

abbrev pub aimed_at : Aim → Person → Person
aimed_at a r = record r { aim = a }

-- The process with this number is killed: it is live and within catch c, and not the owner.
abbrev pub is_killed : List Catch → (c owner number : ℕ) → Person → Bool
is_killed catches c owner number r = lives r && (is_over catches c r.home && not (number == owner))

-- the numbers of those that are killed, rising
abbrev pub killed_numbers : List Catch → (c owner : ℕ) → List Person → List ℕ
killed_numbers catches c owner rs = those_from (is_killed catches c owner) 1 rs

-- those that pass the test are changed; this is the number of the first
abbrev pub changed_from : {A : Type 0} → (ℕ → A → Bool) → (A → A) → ℕ → List A → List A
changed_from f g n [] = []
changed_from f g n (x ∷ xs) = (if f n x then g x else x) ∷ changed_from f g (suc n) xs

-- the processes after the kill
abbrev pub after_kill : List Catch → (c owner : ℕ) → List Person → List Person
after_kill catches c owner rs = changed_from (is_killed catches c owner) (aimed_at die) 1 rs

-- Those with these numbers are changed, one after another. It serves proofs alone.
abbrev pub changed_at_each : {A : Type 0} → (A → A) → List A → List ℕ → List A
changed_at_each g xs [] = xs
changed_at_each g xs (n ∷ ns) = changed_at_each g (change_numbered g xs n) ns
