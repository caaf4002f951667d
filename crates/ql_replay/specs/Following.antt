-- What single steps along a book do, as functions say it.
use Rattle.std.specs.Prelude.{◌≡◌, ℕ, zero, suc, ◌+◌, ◌*◌, ◌==◌, ◌≤◌, Bool, true, false, ◌||◌, if◌then◌else◌, List, [], ◌∷◌, length, Option, Some, None, is_some}
use Rattle.ql_world.specs.declared.event.Event.{Event}
use Rattle.ql_replay.specs.Book.{Line}
use Rattle.ql_replay.specs.Replay.{Host, same, differs, is_quiet, is_zero, stepped, turned, follow_past, ahead}

-- it was taken and led there, or there is none
abbrev pub Tells : {W : Type 0} → Bool → Option W → W → Type 0
Tells true o w = o ≡ Some w
Tells false o w = o ≡ None

-- what was found, if anything was; it is no longer than a line
abbrev pub Finds : Bool → Option (List ℕ) → List ℕ → Type 0
Finds true o text = (o ≡ Some text) × (length text ≤ 200)
Finds false o text = o ≡ None

-- how many of these bytes are line feeds
abbrev pub feeds : List ℕ → ℕ
feeds [] = 0
feeds (b ∷ bs) = if b == 10 then suc (feeds bs) else feeds bs

-- It rises with each byte that is taken.
abbrev pub rank : (at : ℕ) → (held : List ℕ) → ℕ
rank at held = 201 * at + length held

module _ {W : Type 0} (host : Host W) where
  -- one more tick of a turn that has so many
  abbrev pub more_turned : (count : ℕ) → W → ℕ → Option W
  more_turned n v p = if is_zero n || is_quiet (host.events v) then stepped host v p else None

  -- The process took so many ticks, of which only the last may have events; or it takes none.
  abbrev pub TakesTicks : (p count : ℕ) → (old new : W) → Type 0
  TakesTicks p zero w v = host.tick w p ≡ None
  TakesTicks p (suc n) w v = turned host w p (suc n) ≡ Some v

  -- The same in a turn that has so many ticks already.
  abbrev pub TakesMore : (p taken count : ℕ) → (old new : W) → Type 0
  TakesMore p taken zero w v = more_turned taken w p ≡ None
  TakesMore p taken (suc n) w v = ((is_zero taken || is_quiet (host.events w)) ≡ true) × (turned host w p (suc n) ≡ Some v)

module _ {W : Type 0} (host : Host W) (line : Event → List ℕ) (read : List ℕ → Option (ℕ × ℕ)) where
  -- The next byte of the book was taken, or the line in which it stands differs.
  abbrev pub TakesByte : Bool → (b : ℕ) → (old : W) (seen : ℕ) (held : List ℕ) (at : ℕ) → (new : W) (now_seen : ℕ) (now_held : List ℕ) (now_at : ℕ) → Type 0
  TakesByte true b w seen held at v n h a = (rest : List ℕ) → ahead host line read w seen held (b ∷ rest) at ≡ ahead host line read v n h rest a
  TakesByte false b w seen held at v n h a = (rest : List ℕ) → ahead host line read w seen held (b ∷ rest) at ≡ differs a

  -- The book ends here: it is whole, or it differs.
  abbrev pub EndsHere : Bool → W → (seen : ℕ) (held : List ℕ) (at : ℕ) → Type 0
  EndsHere true w seen held at = (ahead host line read w seen held [] at ≡ same (host.output w)) × (is_some (host.stop w) ≡ true)
  EndsHere false w seen held at = ahead host line read w seen held [] at ≡ differs at

  -- The next line of the book was taken, and it led to this state with so many lines seen, or it differs.
  abbrev pub Follows : (old : W) (seen : ℕ) (line : List ℕ) (new : W) → Option ℕ → Type 0
  Follows w seen l v None = (rest : List Line) (at : ℕ) → follow_past host line read w seen (Some l ∷ rest) at ≡ differs at
  Follows w seen l v (Some n) = (rest : List Line) (at : ℕ) → follow_past host line read w seen (Some l ∷ rest) at ≡ follow_past host line read v n rest (suc at)
