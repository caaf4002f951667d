-- A world of sound code: what is made in it names only what was made, and its processes stand in their places' shapes.
use Rattle.std.specs.Prelude.{◌≡◌, ◌⊎◌, true, List, [], ◌∷◌, length, Option, Some, None}
use Rattle.ql_world.specs.declared.word.Word.{Word}
use Rattle.ql_world.specs.World.{Call, ProcessClosure, World}
use Rattle.ql_world.specs.declared.world.FutState.{FutState as Future}
use Rattle.ql_world.specs.declared.world.FutState.TheVariants.{Value as valued}
use Rattle.ql_world.specs.declared.world.Kind.{Kind}
use Rattle.ql_world.specs.declared.world.Kind.TheVariants.{Closure as serving}
use Rattle.ql_world.specs.declared.world.Process.{Process}
use Rattle.ql_code.specs.Code.{unmasked, Code}
use Rattle.ql_code.specs.Machine.{Point, Entry}
use Rattle.ql_code.specs.Sound.{Has, Sound}
use Rattle.ql_code.specs.Standing.{Made, IsNumber, IsMade, AreMade, IsAimMade, IsEntry, IsStanding, Holds}

abbrev pub made_of : World Point Entry → Made
made_of w = record {
  pairs = length w.pairs;
  boxes = length w.boxes;
  closures = length w.closures;
  futures = length w.futures;
  servers = length w.servers;
  catches = length w.catches;
  globals = length w.globals;
}

abbrev pub Each : {A : Type 0} → (A → Type 0) → List A → Type 0
Each P [] = Unit {0}
Each P (x ∷ xs) = P x × Each P xs

module _ (m : Made) where
  abbrev pub IsPairMade : Word × Word → Type 0
  IsPairMade p = IsMade m p.0 × IsMade m p.1

  abbrev pub IsFutureMade : Future → Type 0
  IsFutureMade (valued w) = IsMade m w
  IsFutureMade s = Unit {0}

  abbrev pub IsGlobalMade : Option Word → Type 0
  IsGlobalMade None = Unit {0}
  IsGlobalMade (Some w) = IsMade m w

  abbrev pub IsKindMade : Kind → Type 0
  IsKindMade (serving k) = IsNumber k m.servers
  IsKindMade kind = Unit {0}

  -- a call has as many arguments as its closure has parameters
  abbrev pub IsCallMade : Entry → Call → Type 0
  IsCallMade k c = AreMade m c.arguments × (length c.arguments ≡ length (unmasked k.count k.mask))

module _ (code : Code) (so : Sound code) where
  abbrev pub IsServer : Made → ProcessClosure Entry → Type 0
  IsServer m s = IsEntry (Has so.table) m s.body × Each (IsCallMade m s.body) s.queue

  abbrev pub IsProcess : Made → Process Point → Type 0
  IsProcess m q = IsAimMade m q.aim × IsKindMade m q.kind × ((q.ended ≡ true) ⊎ IsStanding (Has so.table) m code.instructions q.kind q.thread)

  pub record IsSoundIn (m : Made) (pairs : List (Word × Word)) (boxes : List Word) (closures : List Entry) (futures : List Future) (servers : List (ProcessClosure Entry)) (globals : List (Option Word)) (procs : List (Process Point)) : Type 0 where
    pub names : Holds code m
    pub pairs_are : Each (IsPairMade m) pairs
    pub boxes_are : Each (IsMade m) boxes
    pub closures_are : Each (IsEntry (Has so.table) m) closures
    pub futures_are : Each (IsFutureMade m) futures
    pub servers_are : Each (IsServer m) servers
    pub globals_are : Each (IsGlobalMade m) globals
    pub procs_are : Each (IsProcess m) procs

  abbrev pub IsSoundWorld : World Point Entry → Type 0
  IsSoundWorld w = IsSoundIn (made_of w) w.pairs w.boxes w.closures w.futures w.servers w.globals w.procs
