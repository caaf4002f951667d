-- The texts of words and journals.
use Rattle.std.specs.Prelude.{◌≡◌, ◌<◌, ◌≤◌, ℕ, zero, suc, leb, nat_lt, if◌then◌else◌, List, [], ◌∷◌, ◌++◌, length, Option, Some, None, slice_get, slice_index_or, decimal, codes}
use Rattle.std.specs.Fmt.{signed_decimal}
use Rattle.ql_base.specs.declared.fault.RunFault.{RunFault}
use Rattle.ql_base.specs.declared.fault.RunFault.TheVariants.{Overflow, NotNumber, NotPair, DivZero, Unbound, NoCatch, DeadFuture, DeadClosure, WrongCount, NotFunction, InCleanup}
use Rattle.ql_base.specs.declared.limits.LimitKind.{LimitKind}
use Rattle.ql_base.specs.declared.limits.LimitKind.TheVariants.{Cells, Procs, Output}
use Rattle.ql_world.specs.Word.{Word, integer, symbol, pair, closure, process_closure, future, is_nil}
use Rattle.ql_world.specs.Event.{Stop, done, fault, limit, deadlock, budget, Mode, binding, called, eager, Event, turn, spawn, opened, exit, throw, land, kill, protect, begin, finish, send, take, reply, end_ok, end_killed, stopped, Head, Journal}

abbrev pub space : ℕ
space = 32

abbrev pub number_text : List ℕ → ℕ → List ℕ
number_text kind n = codes "#<" ++ kind ++ space ∷ decimal n ++ codes ">"

module _ (names : List (List ℕ)) where
  -- of a word that is no pair; a program's symbols all have names
  abbrev pub plain_text : Word → List ℕ
  plain_text (integer z) = signed_decimal z
  plain_text (symbol n) = if nat_lt n (length names) then slice_index_or names n [] else number_text (codes "symbol") n
  plain_text (pair n) = []
  plain_text (closure n) = number_text (codes "function") n
  plain_text (process_closure n) = number_text (codes "process") n
  plain_text (future n) = number_text (codes "future") n

  abbrev pub end_text : Word → List ℕ
  end_text w = if is_nil w then codes ")" else codes " . " ++ plain_text w ++ codes ")"

  abbrev pub pair_text : (List ℕ) → (Word → List ℕ) → (Word → List ℕ) → Option (Word × Word) → List ℕ
  pair_text before item rest None = []
  pair_text before item rest (Some x) = before ++ item x.0 ++ rest x.1

  module _ (pairs : List (Word × Word)) where
    abbrev mutual
      -- A pair names only pairs before it, so as many steps inwards as there are pairs are enough.
      pub text_within : ℕ → Word → List ℕ
      text_within zero w = plain_text w
      text_within (suc n) (pair i) = pair_text (codes "(") (text_within n) (tail_within n) (slice_get pairs i)
      text_within (suc n) w = plain_text w

      -- what stands in a list after an item
      pub tail_within : ℕ → Word → List ℕ
      tail_within zero w = end_text w
      tail_within (suc n) (pair i) = pair_text (codes " ") (text_within n) (tail_within n) (slice_get pairs i)
      tail_within (suc n) w = end_text w

    abbrev pub value_text : Word → List ℕ
    value_text w = text_within (length pairs) w

    -- as it stands in a journal
    abbrev pub short_text : Word → List ℕ
    short_text w = if leb (length (value_text w)) 64 then value_text w else codes "#long"

-- a text of at most so many bytes
abbrev pub text_up_to : ℕ → List ℕ → Option (List ℕ)
text_up_to cap text = if leb (length text) cap then Some text else None

-- a word names a pair before this one, if any
abbrev pub IsBefore : ℕ → Word → Type 0
IsBefore n (pair i) = i < n
IsBefore n w = Unit {0}

-- it names a pair, but none before this one
abbrev pub IsPast : ℕ → Word → Type 0
IsPast n (pair i) = n ≤ i
IsPast n w = ⊥

-- A pair names only pairs before it.
abbrev pub AreOrdered : List (Word × Word) → Type 0
AreOrdered pairs = (i : ℕ) (x : Word × Word) → slice_get pairs i ≡ Some x → IsBefore i x.0 × IsBefore i x.1

abbrev pub fault_name : RunFault → List ℕ
fault_name Overflow = codes "overflow"
fault_name NotNumber = codes "notnumber"
fault_name NotPair = codes "notpair"
fault_name DivZero = codes "divzero"
fault_name Unbound = codes "unbound"
fault_name NoCatch = codes "nocatch"
fault_name DeadFuture = codes "deadfuture"
fault_name DeadClosure = codes "deadclosure"
fault_name WrongCount = codes "wrongcount"
fault_name NotFunction = codes "notfunction"
fault_name InCleanup = codes "incleanup"

abbrev pub limit_name : LimitKind → List ℕ
limit_name Cells = codes "cells"
limit_name Procs = codes "procs"
limit_name Output = codes "output"

-- words of a line, a space before each
abbrev pub and_numbers : List ℕ → List ℕ
and_numbers [] = []
and_numbers (n ∷ ns) = space ∷ decimal n ++ and_numbers ns

abbrev pub and_text : Option (List ℕ) → List ℕ
and_text None = []
and_text (Some text) = space ∷ text

abbrev pub mode_text : Mode → List ℕ
mode_text binding = codes " let"
mode_text (called k) = codes " call" ++ and_numbers (k ∷ [])
mode_text (eager k) = codes " eager" ++ and_numbers (k ∷ [])

abbrev pub stop_text : Stop → List ℕ
stop_text done = codes " done"
stop_text (fault kind p at) = codes " error " ++ fault_name kind ++ and_numbers (p ∷ at ∷ [])
stop_text (limit kind) = codes " limit " ++ limit_name kind
stop_text deadlock = codes " deadlock"
stop_text budget = codes " budget"

-- without its line feed
abbrev pub line_of : Event → List ℕ
line_of (turn p n) = codes "turn" ++ and_numbers (p ∷ n ∷ [])
line_of (spawn p q c mode) = codes "spawn" ++ and_numbers (p ∷ q ∷ c ∷ []) ++ mode_text mode
line_of (opened p c d) = codes "open" ++ and_numbers (p ∷ c ∷ d ∷ [])
line_of (exit p c) = codes "exit" ++ and_numbers (p ∷ c ∷ [])
line_of (throw p c) = codes "throw" ++ and_numbers (p ∷ c ∷ [])
line_of (land p c) = codes "land" ++ and_numbers (p ∷ c ∷ [])
line_of (kill c q) = codes "kill" ++ and_numbers (c ∷ q ∷ [])
line_of (protect p u) = codes "protect" ++ and_numbers (p ∷ u ∷ [])
line_of (begin p u) = codes "begin" ++ and_numbers (p ∷ u ∷ [])
line_of (finish p u) = codes "finish" ++ and_numbers (p ∷ u ∷ [])
line_of (send p k n) = codes "send" ++ and_numbers (p ∷ k ∷ n ∷ [])
line_of (take q k n) = codes "take" ++ and_numbers (q ∷ k ∷ n ∷ [])
line_of (reply q k n text) = codes "reply" ++ and_numbers (q ∷ k ∷ n ∷ []) ++ and_text text
line_of (end_ok p text) = codes "end" ++ and_numbers (p ∷ []) ++ codes " ok" ++ and_text text
line_of (end_killed p) = codes "end" ++ and_numbers (p ∷ []) ++ codes " killed"
line_of (stopped stop) = codes "stop" ++ stop_text stop

abbrev pub lines_of : List Event → List ℕ
lines_of [] = []
lines_of (e ∷ es) = line_of e ++ 10 ∷ lines_of es

abbrev pub head_text : Option Head → List ℕ
head_text None = []
head_text (Some h) = codes "qlisp 2" ++ and_numbers (h.budget ∷ h.cells ∷ h.procs ∷ h.output ∷ []) ++ 10 ∷ []

abbrev pub journal_text : Journal → List ℕ
journal_text j = head_text j.head ++ lines_of j.events
