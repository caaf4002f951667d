-- What it means that a process stands in its place's shape.
use Rattle.std.specs.Prelude.{◌≡◌, ℕ, ◌<◌, ◌≤◌, List, [], ◌∷◌, ◌++◌, length, map, Option, Some, None, slice_get}
use Rattle.ql_world.specs.declared.word.Word.{Word}
use Rattle.ql_world.specs.declared.word.Word.TheVariants.{Int as integer, Sym as symbol, Pair as pair, Fun as closure, Proc as process_closure, Fut as future}
use Rattle.ql_world.specs.declared.word.Slot.{Slot}
use Rattle.ql_world.specs.declared.word.Slot.TheVariants.{Val as plain}
use Rattle.ql_world.specs.declared.word.Slot.TheVariants.{Cell as word_boxed}
use Rattle.ql_world.specs.declared.world.Kind.TheVariants.{Main as world_main, Child as world_child}
use Rattle.ql_world.specs.declared.world.Aim.{Aim}
use Rattle.ql_world.specs.declared.world.Aim.TheVariants.{Free as free, To as to, Die as die}
use Rattle.ql_world.specs.declared.world.Kind.{Kind}
use Rattle.ql_world.specs.declared.world.Kind.TheVariants.{Closure as serving}
use Rattle.ql_world.specs.Machine.{Place, held, box, global, last_form, with_word, Want, awaits, takes_literal, reads, stores, branches, computes, prints, binds, calls, returns, closes, funcalls, chooses, makes, sends, takes_call, replies, opens, exits, throws, protects, begins, finishes, leaves, ends, rests, Answer, done, got, numbered, bound, entered, in_line, spawned, unwinds, aimed}
use Rattle.ql_code.specs.Code.{Instruction, Code}
use Rattle.ql_code.specs.Machine as machine
use Rattle.ql_code.specs.Machine.{Mark, returning, base, Item, slot, mark, running, unwinding, resting, Point, Entry, operand_count, silent}
use Rattle.ql_code.specs.Sound.{Part, value, boxed, catching, protecting, cleaning, Shape, Start, main, body, child, part_of, over, variables}

-- how many of each were made
pub record Made : Type 0 where
  pub pairs : ℕ
  pub boxes : ℕ
  pub closures : ℕ
  pub futures : ℕ
  pub servers : ℕ
  pub catches : ℕ
  pub globals : ℕ

abbrev pub IsNumber : ℕ → ℕ → Type 0
IsNumber n most = (0 < n) × (n ≤ most)

module _ (m : Made) where
  -- a word names only what was made
  abbrev pub IsMade : Word → Type 0
  IsMade (integer z) = Unit {0}
  IsMade (symbol n) = Unit {0}
  IsMade (pair n) = n < m.pairs
  IsMade (closure n) = IsNumber n m.closures
  IsMade (process_closure n) = IsNumber n m.servers
  IsMade (future n) = IsNumber n m.futures

  abbrev pub AreMade : List Word → Type 0
  AreMade [] = Unit {0}
  AreMade (w ∷ ws) = IsMade w × AreMade ws

  abbrev pub IsAimMade : Aim → Type 0
  IsAimMade free = Unit {0}
  IsAimMade (to c w) = IsMade w
  IsAimMade die = Unit {0}

  abbrev pub IsSlot : Part → Slot → Type 0
  IsSlot value (plain w) = IsMade w
  IsSlot boxed (word_boxed n) = n < m.boxes
  IsSlot p s = ⊥

  abbrev pub AreSlots : List Part → List Slot → Type 0
  AreSlots [] [] = Unit {0}
  AreSlots (p ∷ ps) (s ∷ ss) = IsSlot p s × AreSlots ps ss
  AreSlots ps ss = ⊥

-- the bottom of a process of this kind, where its first frame is from this start
abbrev pub IsBottom : Kind → Start → Option ℕ → Type 0
IsBottom world_main main None = Unit {0}
IsBottom (world_child f) (child pc own) (Some j) = own ≡ j
IsBottom (serving k) (body pc) None = Unit {0}
IsBottom kind s j = ⊥

abbrev pub IsBody : Start → Type 0
IsBody (body pc) = Unit {0}
IsBody s = ⊥

abbrev pub IsMain : Kind → Type 0
IsMain world_main = Unit {0}
IsMain kind = ⊥

abbrev pub IsChild : Kind → Type 0
IsChild (world_child f) = Unit {0}
IsChild kind = ⊥

abbrev pub IsServing : Kind → Type 0
IsServing (serving k) = Unit {0}
IsServing kind = ⊥

-- what unwinding stops at
abbrev pub IsUnwound : List Item → Type 0
IsUnwound (mark (returning pc) ∷ st) = ⊥
IsUnwound (mark k ∷ st) = Unit {0}
IsUnwound st = ⊥

-- A process that unwinds isn't at a running cleanup.
abbrev pub IsOff : machine.State → List Item → Type 0
IsOff unwinding (mark (machine.cleaning u c) ∷ st) = ⊥
IsOff state st = Unit {0}

module _ (At : Start → ℕ → Shape → Type 0) (m : Made) where
  -- a part of a frame, over the others
  abbrev pub IsPart : Start → Part → Shape → Item → Type 0
  IsPart s value sh (slot x) = IsSlot m value x
  IsPart s boxed sh (slot x) = IsSlot m boxed x
  IsPart s catching sh (mark (machine.catching c l)) = (c < m.catches) × At s l (value ∷ sh)
  IsPart s protecting sh (mark (machine.protecting u l)) = At s l (cleaning ∷ (value ∷ sh))
  IsPart s cleaning sh (mark (machine.cleaning u c)) = IsAimMade m c.aim
  IsPart s p sh i = ⊥

  -- Of a process of this kind the stack has this shape on top, of a frame from this start, and under it the frames of
  -- the calls, each with the shape at which it goes on.
  abbrev pub Fits : Kind → Start → Shape → List Item → Type 0
  Fits kind s sh [] = ⊥
  Fits kind s (p ∷ sh) (i ∷ st) = IsPart s p sh i × Fits kind s sh st
  Fits kind s [] (mark (returning pc) ∷ st) = IsBody s × ((r : Start) × (sh : Shape) × At r pc (value ∷ sh) × Fits kind r sh st)
  Fits kind s [] (mark (base j) ∷ []) = IsBottom kind s j
  Fits kind s [] (i ∷ st) = ⊥

  -- a closure's slots are as its body has them
  abbrev pub IsEntry : Entry → Type 0
  IsEntry k = (ps : List Part) × AreSlots m ps k.captured × At (body k.place) k.place (over (variables k.count k.mask ++ ps) [])

  -- it is at an instruction that isn't silent
  pub record IsRunning (code : List Instruction) (kind : Kind) (pc : ℕ) (st : List Item) : Type 0 where
    pub start : Start
    pub shape : Shape
    pub here : At start pc shape
    pub fits : Fits kind start shape st
    pub next : Instruction
    pub stands : slice_get code pc ≡ Some next
    pub halts : silent next.op pc st ≡ None

  abbrev pub IsStandingIn : List Instruction → Kind → machine.State → ℕ → List Item → Type 0
  IsStandingIn code kind running pc st = IsRunning code kind pc st
  IsStandingIn code kind unwinding pc st = IsUnwound st × ((s : Start) × (sh : Shape) × Fits kind s sh st)
  IsStandingIn code kind resting pc st = IsServing kind × (st ≡ mark (base None) ∷ [])
  IsStandingIn code kind machine.over pc st = ⊥

  -- of a process that hasn't ended
  abbrev pub IsStanding : List Instruction → Kind → Point → Type 0
  IsStanding code kind p = IsStandingIn code kind p.state p.place p.stack

-- what a process of this kind may ask
module _ (m : Made) (kind : Kind) where
  abbrev pub IsPlace : Place → Type 0
  IsPlace held = Unit {0}
  IsPlace (box n) = n < m.boxes
  IsPlace (global g) = g < m.globals

  abbrev pub IsStore : Place → Type 0
  IsStore held = ⊥
  IsStore place = IsPlace place

  abbrev pub IsAsked : Want → Type 0
  IsAsked (awaits f at) = IsNumber f m.futures
  IsAsked (reads place at) = IsPlace place
  IsAsked (stores place w) = IsStore place × IsMade m w
  IsAsked (computes o ws at) = (length ws ≡ operand_count (Some o)) × AreMade m ws
  IsAsked (prints w) = IsMade m w
  IsAsked (binds bs ws) = (length ws ≡ length bs) × AreMade m ws
  IsAsked (calls bs ws) = (length ws ≡ length bs) × AreMade m ws
  IsAsked (funcalls w ws at) = IsMade m w × AreMade m ws
  IsAsked (chooses w) = IsMade m w
  IsAsked (makes w) = IsMade m w
  IsAsked (sends k ws used at) = IsNumber k m.servers × AreMade m ws
  IsAsked takes_call = IsServing kind
  IsAsked (replies w) = IsServing kind × IsMade m w
  IsAsked (opens w waits) = IsMade m w
  IsAsked (exits c) = c < m.catches
  IsAsked (throws tag w at) = IsMade m tag × IsMade m w
  IsAsked (leaves c) = c < m.catches
  IsAsked (ends last_form) = IsMain kind
  IsAsked (ends (with_word w)) = IsChild kind × IsMade m w
  IsAsked rests = ⊥
  IsAsked want = Unit {0}

abbrev pub AreFutures : Made → List ℕ → Type 0
AreFutures m [] = Unit {0}
AreFutures m (f ∷ fs) = IsNumber f m.futures × AreFutures m fs

-- which answers suit what was asked, where so many children may be spawned
module _ (At : Start → ℕ → Shape → Type 0) (m : Made) (children : ℕ) where
  abbrev pub Suits : Want → Answer Entry → Type 0
  Suits (awaits f at) (got w) = IsMade m w
  Suits takes_literal done = Unit {0}
  Suits (reads held at) done = Unit {0}
  Suits (reads (box n) at) (got w) = IsMade m w
  Suits (reads (global g) at) (got w) = IsMade m w
  Suits (stores place w) done = Unit {0}
  Suits branches done = Unit {0}
  Suits (computes o ws at) (got w) = IsMade m w
  Suits (prints w) done = Unit {0}
  Suits (binds bs ws) (bound ss) = AreSlots m (map part_of bs) ss
  Suits (calls bs ws) (bound ss) = AreSlots m (map part_of bs) ss
  Suits returns done = Unit {0}
  Suits closes (got w) = IsMade m w
  Suits (funcalls w ws at) (entered k ss) = IsEntry At m k × AreSlots m (variables k.count k.mask) ss
  Suits (chooses w) in_line = Unit {0}
  Suits (chooses w) (spawned eager fs) = (length fs ≡ children) × AreFutures m fs
  Suits (makes w) (got v) = IsMade m v
  Suits (sends k ws used at) (got w) = IsMade m w
  Suits (opens w waits) (numbered c) = c < m.catches
  Suits (exits c) done = Unit {0}
  Suits (throws tag w at) (aimed a) = IsAimMade m a
  Suits protects (numbered u) = Unit {0}
  Suits (begins u) (numbered floor) = Unit {0}
  Suits (finishes u) done = Unit {0}
  Suits (finishes u) unwinds = Unit {0}
  Suits (leaves c) (got w) = IsMade m w
  Suits (leaves c) unwinds = Unit {0}
  Suits want a = ⊥

-- What code names was made.
pub record Holds (code : Code) (m : Made) : Type 0 where
  pub quoted : length code.quoted ≤ m.pairs
  pub globals : code.globals ≤ m.globals
