-- The lines of a book.
use Rattle.std.specs.Prelude.{◌≡◌, ℕ, ◌<◌, ◌≤◌, ◌^◌, ◌==◌, ◌&&◌, ◌||◌, Bool, false, nat_lt, leb, drop, slice_index_or, if◌then◌else◌, List, [], ◌∷◌, ◌++◌, length, Option, Some, None, codes}
use Rattle.std.specs.Str.{bytes_eq}
use Rattle.std.specs.Str.Parse.{digits_value}
use Rattle.ql_world.specs.declared.event.Stop.{Stop}
use Rattle.ql_world.specs.declared.event.Stop.TheVariants.{Fault as fault}
use Rattle.ql_world.specs.declared.event.Mode.{Mode}
use Rattle.ql_world.specs.declared.event.Mode.TheVariants.{Let as binding, Call as called, Eager as eager}
use Rattle.ql_world.specs.declared.event.Event.{Event}
use Rattle.ql_world.specs.declared.event.Event.TheVariants.{Turn as turn, Spawn as spawn, Opened as opened, Exit as exit, Throw as throw, Land as land, Kill as kill, Protect as protect, Begin as begin, Finish as finish, Send as send, Take as take, Reply as reply, EndOk as end_ok, EndKilled as end_killed, Stopped as stopped}
use Rattle.ql_world.specs.declared.event.Head.{Head}
use Rattle.ql_world.specs.Text.{and_numbers, line_of}

-- a line without its line feed; none stands for a last part without one, which equals no line
abbrev pub Line : Type 0
Line = Option (List ℕ)

-- a byte before a line
abbrev pub longer : ℕ → Line → Line
longer b None = None
longer b (Some l) = Some (b ∷ l)

-- a byte before the first of these lines; with no line after it, it is a last part
abbrev pub after_byte : ℕ → List Line → List Line
after_byte b [] = None ∷ []
after_byte b (l ∷ ls) = longer b l ∷ ls

-- Lines end at line feeds.
abbrev pub lines_in : List ℕ → List Line
lines_in [] = []
lines_in (b ∷ bs) = if b == 10 then Some [] ∷ lines_in bs else after_byte b (lines_in bs)

-- the text begins with these lines
abbrev pub TextBegins : List ℕ → List Line → Type 0
TextBegins text [] = Unit
TextBegins text (None ∷ ls) = ⊥
TextBegins text (Some l ∷ ls) = (rest : List ℕ) × ((text ≡ l ++ 10 ∷ rest) × TextBegins rest ls)

-- whether a text has a line feed
abbrev pub has_feed : List ℕ → Bool
has_feed [] = false
has_feed (b ∷ bs) = b == 10 || has_feed bs

-- Each of these names is one line, as every spelling of a symbol is.
abbrev pub AreOneLine : List (List ℕ) → Type 0
AreOneLine names = (n : ℕ) → has_feed (slice_index_or names n []) ≡ false

abbrev pub head_line : Head → List ℕ
head_line h = codes "qlisp 2" ++ and_numbers (h.budget ∷ h.cells ∷ h.procs ∷ h.output ∷ [])

-- numbers of 64 bits
pub record AreLow (h : Head) : Type 0 where
  pub budget : h.budget < 2 ^ 64
  pub cells : h.cells < 2 ^ 64
  pub procs : h.procs < 2 ^ 64
  pub output : h.output < 2 ^ 64

-- up to a space, and what stands after it
abbrev pub word_of : List ℕ → List ℕ
word_of [] = []
word_of (b ∷ bs) = if b == 32 then [] else b ∷ word_of bs

abbrev pub after_word : List ℕ → List ℕ
after_word [] = []
after_word (b ∷ bs) = if b == 32 then bs else after_word bs

-- the number that the first word spells, if it spells one
abbrev pub number_of : List ℕ → ℕ
number_of bs = digits_value 10 (word_of bs)

abbrev pub if_turn : List ℕ → (p n : ℕ) → Option (ℕ × ℕ)
if_turn line p n = if bytes_eq line (line_of (turn p n)) && (nat_lt p (2 ^ 32) && (leb 1 n && nat_lt n (2 ^ 64))) then Some (p, n) else None

-- the process and the count of a turn line
abbrev pub turn_in : List ℕ → Option (ℕ × ℕ)
turn_in line = let bs = drop 5 line in if_turn line (number_of bs) (number_of (after_word bs))

abbrev pub is_low : Head → Bool
is_low h = nat_lt h.budget (2 ^ 64) && (nat_lt h.cells (2 ^ 64) && (nat_lt h.procs (2 ^ 64) && nat_lt h.output (2 ^ 64)))

abbrev pub if_head : List ℕ → Head → Option Head
if_head line h = if bytes_eq line (head_line h) && is_low h then Some h else None

abbrev pub head_of_words : List ℕ → Head
head_of_words bs = record {
  budget = number_of bs;
  cells = number_of (after_word bs);
  procs = number_of (after_word (after_word bs));
  output = number_of (after_word (after_word (after_word bs)));
}

-- the numbers of a head line
abbrev pub head_in : List ℕ → Option Head
head_in line = if_head line (head_of_words (drop 8 line))

-- It reads turn lines, and nothing else.
pub record ReadsTurns (read : List ℕ → Option (ℕ × ℕ)) : Type 0 where
  pub says : (line : List ℕ) (p n : ℕ) → read line ≡ Some (p, n) → line ≡ line_of (turn p n)
  pub low : (line : List ℕ) (p n : ℕ) → read line ≡ Some (p, n) → (p < 2 ^ 32) × ((1 ≤ n) × (n < 2 ^ 64))
  pub reads : (p n : ℕ) → p < 2 ^ 32 → 1 ≤ n → n < 2 ^ 64 → read (line_of (turn p n)) ≡ Some (p, n)

-- It reads head lines, and nothing else.
pub record ReadsHeads (read : List ℕ → Option Head) : Type 0 where
  pub says : (line : List ℕ) (h : Head) → read line ≡ Some h → line ≡ head_line h
  pub low : (line : List ℕ) (h : Head) → read line ≡ Some h → AreLow h
  pub reads : (h : Head) → AreLow h → read (head_line h) ≡ Some h

-- these numbers have 64 bits
abbrev pub AllLow : List ℕ → Type 0
AllLow [] = Unit
AllLow (n ∷ ns) = (n < 2 ^ 64) × AllLow ns

abbrev pub IsShort : Option (List ℕ) → Type 0
IsShort None = Unit
IsShort (Some text) = length text ≤ 64

abbrev pub numbers_of_mode : Mode → List ℕ
numbers_of_mode binding = []
numbers_of_mode (called k) = k ∷ []
numbers_of_mode (eager k) = k ∷ []

abbrev pub numbers_of_stop : Stop → List ℕ
numbers_of_stop (fault kind p at) = p ∷ at ∷ []
numbers_of_stop s = []

-- the numbers of an event are of 64 bits, and its text is short
abbrev pub IsLow : Event → Type 0
IsLow (turn p n) = AllLow (p ∷ n ∷ [])
IsLow (spawn p q c m) = AllLow (p ∷ q ∷ c ∷ []) × AllLow (numbers_of_mode m)
IsLow (opened p c d) = AllLow (p ∷ c ∷ d ∷ [])
IsLow (exit p c) = AllLow (p ∷ c ∷ [])
IsLow (throw p c) = AllLow (p ∷ c ∷ [])
IsLow (land p c) = AllLow (p ∷ c ∷ [])
IsLow (kill c q) = AllLow (c ∷ q ∷ [])
IsLow (protect p u) = AllLow (p ∷ u ∷ [])
IsLow (begin p u) = AllLow (p ∷ u ∷ [])
IsLow (finish p u) = AllLow (p ∷ u ∷ [])
IsLow (send p k n) = AllLow (p ∷ k ∷ n ∷ [])
IsLow (take q k n) = AllLow (q ∷ k ∷ n ∷ [])
IsLow (reply q k n text) = AllLow (q ∷ k ∷ n ∷ []) × IsShort text
IsLow (end_ok p text) = AllLow (p ∷ []) × IsShort text
IsLow (end_killed p) = AllLow (p ∷ [])
IsLow (stopped s) = AllLow (numbers_of_stop s)
