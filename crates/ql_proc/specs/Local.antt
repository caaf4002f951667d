-- What a local tick leaves, for proofs.
use Rattle.std.specs.Prelude.{◌≡◌, ℕ, Bool, true, false, List, length, Option, Some, None, slice_get, option_and_then}
use Rattle.ql_code.specs.Code.{Instruction}
use Rattle.ql_code.specs.declared.mark.State.TheVariants.{Running as running}
use Rattle.ql_code.specs.Machine.{Item, Point}
use Rattle.ql_code.specs.LocalPath.{settle_in, local_tick}

-- where a tick ends that goes on at a place with these items, if it is local
abbrev pub tick_end : List Instruction → Option (ℕ × List Item) → Option (ℕ × List Item)
tick_end code next = option_and_then (λ x. settle_in code (length code) x.0 x.1) next

-- A process takes a tick that ends here, if it is local. Else it stays as it is.
abbrev pub Takes : Option (ℕ × List Item) → Bool → (old new : Point) → Type 0
Takes end true old new = (end ≡ Some (new.place, new.stack)) × (new.state ≡ running)
Takes end false old new = (end ≡ None) × (new ≡ old)

-- the same of the next tick of a process that runs
abbrev pub Steps : List Instruction → Bool → (old new : Point) → Type 0
Steps code taken old new = Takes (local_tick code None running (slice_get code old.place) old.place old.stack) taken old new
