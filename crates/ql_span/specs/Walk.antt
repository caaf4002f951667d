-- The heaviest chain, found by one walk along the lines and one walk back.
use Rattle.std.specs.Prelude.{ℕ, suc, ◌+◌, ◌==◌, Bool, false, ◌&&◌, ◌||◌, if◌then◌else◌, List, [], ◌∷◌, Option, Some, None, option_map, ltb}
use Rattle.std.specs.Option.{option_or}
use Rattle.std.specs.List.{list_any}
use Rattle.ql_world.specs.declared.event.Event.{Event}
use Rattle.ql_world.specs.declared.event.Event.TheVariants.{Turn as turn, Spawn as spawn, Throw as throw, Kill as kill, Send as send, Take as take, Reply as reply, EndOk as end_ok}
use Rattle.ql_world.specs.Event.{Journal}
pub use Rattle.ql_span.specs.declared.key.Key.{Key}
pub use Rattle.ql_span.specs.declared.key.Key.TheVariants.{Process as process, Call as call, Catch as catch}
pub use Rattle.ql_span.specs.declared.key.Mark.{Mark}
pub use Rattle.ql_span.specs.declared.key.Mark.TheVariants.{Turned as turned, Event as event}
use Rattle.ql_span.specs.Chain.{Span, first_line, spawner, sender, owner}

abbrev pub is_key : Key → Key → Bool
is_key (process p) (process q) = p == q
is_key (call k n) (call l m) = (k == l) && (n == m)
is_key (catch c) (catch d) = c == d
is_key a b = false

-- the process that an event tells for a key
abbrev pub teller : Key → Event → Option ℕ
teller (process q) e = spawner q e
teller (call k n) e = sender k n e
teller (catch c) e = owner c e

-- what is known of each key after one more event: the process of the last one that tells one
abbrev pub learned : Event → (Key → Option ℕ) → Key → Option ℕ
learned e known key = option_or (teller key e) (known key)

abbrev pub mark : (known : Key → Option ℕ) → Event → Mark
mark known (turn p n) = turned p n
mark known (spawn p q home mode) = event (Some (process q)) None
mark known (send p k n) = event (Some (call k n)) None
mark known (take q k n) = event (Some (process q)) (Some (call k n))
mark known (kill c q) = event (Some (process q)) None
mark known (end_ok q text) = event (option_map process (known (process q))) None
mark known (reply q k n text) = event (option_map process (known (call k n))) None
mark known (throw p c) = event (option_map process (known (catch c))) None
mark known e = event None None

abbrev pub marks : (known : Key → Option ℕ) → List Event → List Mark
marks known [] = []
marks known (e ∷ es) = mark known e ∷ marks (learned e known) es

-- the heaviest chain that begins at a line; line 0 is none
pub record Best : Type 0 where
  pub line : ℕ
  pub weight : ℕ
  pub chain : List ℕ

abbrev pub nothing : Best
nothing = record { line = 0; weight = 0; chain = [] }

-- by weight, and at the same weight by the first line
abbrev pub is_ahead : (b a : Best) → Bool
is_ahead b a = ltb a.weight b.weight || ((a.weight == b.weight) && ltb b.line a.line)

abbrev pub better : (a b : Best) → Best
better a b = if is_ahead b a then b else a

-- what the walk back keeps
pub record Kept : Type 0 where
  -- for each key the best of the turns that have it
  pub best : Key → Best
  -- the best at which the events before the first of these turns aim
  pub next : Best
  -- and the keys that these give the turn before them
  pub waiting : List Key
  pub top : Best
  pub work : ℕ

abbrev pub start : Kept
start = record { best = λ k. nothing; next = nothing; waiting = []; top = nothing; work = 0 }

-- a turn, with the best next
abbrev pub begun : (line count : ℕ) → Best → Best
begun line count b = record { line = line; weight = count + b.weight; chain = line ∷ b.chain }

abbrev pub noted : List Key → Best → (Key → Best) → Key → Best
noted keys b best key = if list_any (is_key key) keys then better b (best key) else best key

abbrev pub with_turn : (line p count : ℕ) → Kept → Best → Kept
with_turn line p count t b = record {
  best = noted (process p ∷ t.waiting) b t.best;
  next = nothing;
  waiting = [];
  top = better b t.top;
  work = count + t.work;
}

abbrev pub aimed : (Key → Best) → Option Key → Best → Best
aimed best None b = b
aimed best (Some key) b = better b (best key)

abbrev pub and_key : Option Key → List Key → List Key
and_key None keys = keys
and_key (Some key) keys = key ∷ keys

abbrev pub back : (line : ℕ) → Mark → Kept → Kept
back line (turned p n) t = with_turn line p n t (begun line n (better t.next (t.best (process p))))
back line (event aims has) t = record t { next = aimed t.best aims t.next; waiting = and_key has t.waiting }

-- from the last line to the first
abbrev pub walk : (first : ℕ) → List Mark → Kept
walk first [] = start
walk first (m ∷ ms) = back first m (walk (suc first) ms)

abbrev pub kept : Journal → Kept
kept j = walk (first_line j) (marks (λ k. None) j.events)

abbrev pub span_of : Journal → Span
span_of j = let t = kept j in record { work = t.work; span = t.top.weight; chain = t.top.chain }
