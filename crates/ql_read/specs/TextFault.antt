-- Where a text is at fault, and why. It speaks of what the text and its continuations spell, and of no reader.
use Rattle.std.specs.Prelude.{◌≡◌, ◌⊎◌, ◌≤◌, ◌<◌, ℕ, ◌+◌, ◌==◌, Bool, true, false, not, if◌then◌else◌, List, [], ◌∷◌, ◌++◌, length, take}
use Rattle.ql_base.specs.Refusal.{number_of}
use Rattle.ql_base.specs.declared.refusal.FaultKind.{FaultKind}
use Rattle.ql_base.specs.declared.refusal.FaultKind.TheVariants.{BadByte, StrayClose, BadDot, BadNumber, LongName, TooDeep, TooLong, Unfinished}
use Rattle.ql_forms.specs.Bytes.{Class, blank, opening, closing, mark, semicolon, dot, other, class, is_atom}
use Rattle.ql_forms.specs.Spelled.{Forms}
use Rattle.ql_forms.specs.Form as numbered
use Rattle.ql_forms.specs.Numbered.{Numbered}
use Rattle.ql_forms.specs.Spells.{is_numeric, Spells}

-- some continuation spells forms
abbrev pub CanGoOn : List ℕ → Type 0
CanGoOn b = (c : List ℕ) × (fs : Forms) × Spells (b ++ c) fs

-- n is the least offset such that no continuation of the bytes up to and with it spells forms
pub record FaultsAt (b : List ℕ) (n : ℕ) : Type 0 where
  pub there : n < length b
  pub before : (m : ℕ) → m < n → CanGoOn (take (m + 1) b)
  pub none_goes_on : CanGoOn (take (n + 1) b) → Prim.⊥

-- the number for a text of too many bytes
abbrev pub too_long : ℕ
too_long = number_of TooLong

-- the number for a text that ends too early
abbrev pub unfinished : ℕ
unfinished = number_of Unfinished

-- the atom bytes at the end of a text that goes on after these
abbrev pub atom_at_end : List ℕ → List ℕ → List ℕ
atom_at_end w [] = w
atom_at_end w (b ∷ t) = atom_at_end (if is_atom (class b) then w ++ b ∷ [] else []) t

abbrev pub is_gap : Class → Bool
is_gap blank = true
is_gap semicolon = true
is_gap _ = false

abbrev pub is_semicolon : Class → Bool
is_semicolon semicolon = true
is_semicolon _ = false

abbrev pub is_dot : Class → Bool
is_dot dot = true
is_dot _ = false

-- the last byte outside blanks and comments; the truth value says whether the text begins in a comment
abbrev pub last_byte : Bool → ℕ → List ℕ → ℕ
last_byte c l [] = l
last_byte true l (b ∷ t) = last_byte (not (b == 10)) l t
last_byte false l (b ∷ t) = last_byte (is_semicolon (class b)) (if is_gap (class b) then l else b) t

-- a form may stand next: a letter after a space may follow
abbrev pub FormMayFollow : List ℕ → Type 0
FormMayFollow p = CanGoOn (p ++ 32 ∷ 97 ∷ [])

-- at an atom byte: no form may stand here, or what stands here grows beyond a number or a name
abbrev pub atom_kind : List ℕ → FaultKind
atom_kind [] = BadDot
atom_kind (b ∷ w) = if is_numeric (b ∷ w) then BadNumber else LongName

-- at an opening parenthesis or a quote mark
abbrev pub OpeningKind : List ℕ → FaultKind → Type 0
OpeningKind p kind = ((kind ≡ TooDeep) × FormMayFollow p) ⊎ ((kind ≡ BadDot) × (FormMayFollow p → Prim.⊥))

-- the kind of a fault at a byte of this class after the bytes p
abbrev pub HasKind : List ℕ → Class → FaultKind → Type 0
HasKind p blank kind = Prim.⊥
HasKind p semicolon kind = Prim.⊥
HasKind p opening kind = OpeningKind p kind
HasKind p mark kind = OpeningKind p kind
HasKind p closing kind = kind ≡ (if is_dot (class (last_byte false 0 p)) then BadDot else StrayClose)
HasKind p dot kind = kind ≡ BadDot
HasKind p other kind = kind ≡ BadByte
HasKind p c kind = kind ≡ atom_kind (atom_at_end [] p)

-- the text's first byte at fault stands at n
pub record ByteFault (b : List ℕ) (n : ℕ) (kind : FaultKind) : Type 0 where
  pub least : FaultsAt b n
  pub front : List ℕ
  pub byte : ℕ
  pub rest : List ℕ
  pub parts : b ≡ front ++ byte ∷ rest
  pub place : n ≡ length front
  pub has_kind : HasKind front (class byte) kind

-- how many bytes a text has at most
abbrev pub limit : ℕ
limit = 1048576

-- no byte below the limit is at fault
abbrev pub NoneBelow : List ℕ → Type 0
NoneBelow b = (n : ℕ) → n < limit → FaultsAt b n → Prim.⊥

-- The fault of a text: the number of its kind, and its offset. The first byte at fault goes before the length,
-- and the length before an early end.
pub data TextFault : List ℕ → ℕ → ℕ → Type 0 where
  by_byte : {b : List ℕ} {n : ℕ} {kind : FaultKind} → n < limit → ByteFault b n kind → TextFault b (number_of kind) n
  by_length : {b : List ℕ} → NoneBelow b → limit < length b → TextFault b too_long limit
  by_end : {b : List ℕ} → NoneBelow b → length b ≤ limit → ((fs : Forms) → Spells b fs → Prim.⊥) → TextFault b unfinished (length b)

-- what becomes of a text
pub data Verdict (b : List ℕ) : Type 0 where
  refused : (kind at : ℕ) → TextFault b kind at → Verdict b
  accepted : (fs : Forms) → length b ≤ limit → Spells b fs → Verdict b

-- what may follow bytes with a fault of this kind: nothing follows an early end, and any bytes follow the others
abbrev pub MayFollow : ℕ → List ℕ → Type 0
MayFollow kind rest = kind ≡ unfinished → rest ≡ []

-- The bytes b have this fault and no other, and so has each text that goes on from them as it may.
pub record IsRefused (b : List ℕ) (kind at : ℕ) : Type 0 where
  pub kinds : (1 ≤ kind) × (kind ≤ unfinished)
  pub fault : (rest : List ℕ) → MayFollow kind rest → TextFault (b ++ rest) kind at
  pub only : (rest : List ℕ) → MayFollow kind rest → (k n : ℕ) → TextFault (b ++ rest) k n → (k ≡ kind) × (n ≡ at)
  pub place : at ≤ length b
  pub within : kind < unfinished → at < length b
  pub late : unfinished ≤ kind → at ≡ length b

-- The text spells these forms, by number among these names, and no others; it is short enough and has no fault.
pub record IsRead (b : List ℕ) (forms : numbered.Forms) (names : List (List ℕ)) : Type 0 where
  pub spelling : Forms
  pub spells : Spells b spelling
  pub numbered : Numbered spelling names forms
  pub short : length b ≤ limit
  pub no_fault : (k n : ℕ) → TextFault b k n → Prim.⊥
  pub only : (fs : Forms) → Spells b fs → fs ≡ spelling

-- No byte of this text is at fault, and they aren't too many: the text may at most end too early.
abbrev pub NoFaultIn : List ℕ → Type 0
NoFaultIn b = (kind at : ℕ) → TextFault b kind at → kind ≡ unfinished
