-- Processes, made of what a tree keeps of them and of their control.
use Rattle.std.specs.Prelude.{List, [], ◌∷◌, Option, Some, None}
use Rattle.ql_world.specs.declared.world.Process.{Process}
use Rattle.ql_tree.specs.Tree.{Person}

module _ {P : Type 0} where
  abbrev pub process_of_person : Person → P → Process P
  process_of_person r t = record { home = r.home; kind = r.kind; aim = r.aim; thread = t; ended = r.ended }

  abbrev pub joined : List Person → List P → List (Process P)
  joined (r ∷ rs) (t ∷ ts) = process_of_person r t ∷ joined rs ts
  joined _ _ = []

  -- the process, where both are there
  abbrev pub process_at : Option Person → Option P → Option (Process P)
  process_at (Some r) (Some t) = Some (process_of_person r t)
  process_at _ _ = None
