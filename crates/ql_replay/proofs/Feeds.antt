-- Lines have no line feed in them.
use Rattle.std.proofs.Common.{◌≡◌, ℕ, zero, suc, ◌==◌, Bool, true, false, List, [], ◌∷◌, ◌++◌, length, Option, Some, None, refl, ⊎_elim, arith}
use Rattle.std.specs.Prelude.{not, leb, pos, negsuc, decimal, codes, slice_get, ◌/◌, ◌%◌, nat_lt}
use Rattle.std.specs.Fmt.{digits, digit_glyph, digits_onto}
use Rattle.std.proofs.lemmas.Bool.Decides.{nat_tests}
use Rattle.ql_base.specs.declared.fault.RunFault.{RunFault}
use Rattle.ql_base.specs.declared.fault.RunFault.TheVariants.{Overflow, NotNumber, NotPair, DivZero, Unbound, NoCatch, DeadFuture, DeadClosure, WrongCount, NotFunction, InCleanup}
use Rattle.ql_base.specs.declared.limits.LimitKind.{LimitKind}
use Rattle.ql_base.specs.declared.limits.LimitKind.TheVariants.{Cells, Procs, Output}
use Rattle.ql_world.specs.Word.{is_nil}
use Rattle.ql_world.specs.declared.word.Word.{Word}
use Rattle.ql_world.specs.declared.word.Word.TheVariants.{Int as integer, Sym as symbol, Pair as pair, Fun as closure, Proc as process_closure, Fut as future}
use Rattle.ql_world.specs.Event.{without_text}
use Rattle.ql_world.specs.declared.event.Stop.{Stop}
use Rattle.ql_world.specs.declared.event.Stop.TheVariants.{Done as done, Fault as fault, Limit as limit, Deadlock as deadlock, Budget as budget}
use Rattle.ql_world.specs.declared.event.Mode.{Mode}
use Rattle.ql_world.specs.declared.event.Mode.TheVariants.{Let as binding, Call as called, Eager as eager}
use Rattle.ql_world.specs.declared.event.Event.{Event}
use Rattle.ql_world.specs.declared.event.Event.TheVariants.{Turn as turn, Spawn as spawn, Opened as opened, Exit as exit, Throw as throw, Land as land, Kill as kill, Protect as protect, Begin as begin, Finish as finish, Send as send, Take as take, Reply as reply, EndOk as end_ok, EndKilled as end_killed, Stopped as stopped}
use Rattle.ql_world.specs.declared.event.Head.{Head}
use Rattle.ql_world.specs.Text.{space, number_text, plain_text, end_text, pair_text, text_within, tail_within, value_text, short_text, fault_name, limit_name, and_numbers, and_text, mode_text, stop_text, line_of}
use Rattle.ql_replay.specs.Book.{has_feed, AreOneLine, head_line}
use Rattle.ql_replay.specs.Replay.{plain_line}
use Rattle.ql_replay.proofs.Basics.{cases}

abbrev Clean : List ℕ → Type 0
Clean xs = has_feed xs ≡ false

pub clean_append : (xs ys : List ℕ) → has_feed xs ≡ false → has_feed ys ≡ false → has_feed (xs ++ ys) ≡ false
clean_append [] ys h k = k
clean_append (x ∷ xs) ys h k =
    ⊎_elim (λ (t : (x == 10) ≡ true). let bad : true ≡ false = rw t at h in absurd cc)
    (λ (t : (x == 10) ≡ false). let rest : has_feed xs ≡ false = rw t at h in rw t (clean_append xs ys rest k)) (cases (x == 10))

glyph_clean : (d : ℕ) → (digit_glyph false d == 10) ≡ false
glyph_clean d = grind (arith, nat_tests)

onto_clean : (k n : ℕ) (acc : List ℕ) → has_feed acc ≡ false → has_feed (digits_onto k 10 false n acc) ≡ false
onto_clean zero n acc h = h
onto_clean (suc k) n acc h =
    ⊎_elim (λ (t : (n / 10 == 0) ≡ true). rw (t, glyph_clean (n % 10)) h)
    (λ (t : (n / 10 == 0) ≡ false). rw t (onto_clean k (n / 10) (digit_glyph false (n % 10) ∷ acc) (rw (glyph_clean (n % 10)) h))) (cases (n / 10 == 0))

pub decimal_clean : (n : ℕ) → has_feed (decimal n) ≡ false
unfolding digits
decimal_clean n = onto_clean 64 n [] refl

pub numbers_clean : (ns : List ℕ) → has_feed (and_numbers ns) ≡ false
numbers_clean [] = refl
numbers_clean (n ∷ ns) = clean_append (decimal n) (and_numbers ns) (decimal_clean n) (numbers_clean ns)

number_clean : (kind : List ℕ) (n : ℕ) → has_feed kind ≡ false → has_feed (number_text kind n) ≡ false
number_clean kind n h = clean_append (kind ++ (space ∷ decimal n)) (codes ">") (clean_append kind (space ∷ decimal n) h (decimal_clean n)) refl

module _ (names : List (List ℕ)) (one : AreOneLine names) where
  plain_clean : (w : Word) → has_feed (plain_text names w) ≡ false
  plain_clean (integer (pos n)) = decimal_clean n
  plain_clean (integer (negsuc n)) = decimal_clean (suc n)
  plain_clean (symbol n) =
      ⊎_elim (λ (t : nat_lt n (length names) ≡ true). rw t (one n)) (λ (t : nat_lt n (length names) ≡ false). rw t (number_clean (codes "symbol") n refl)) (cases (nat_lt n (length names)))
  plain_clean (pair n) = refl
  plain_clean (closure n) = number_clean (codes "function") n refl
  plain_clean (process_closure n) = number_clean (codes "process") n refl
  plain_clean (future n) = number_clean (codes "future") n refl

  end_clean : (w : Word) → has_feed (end_text names w) ≡ false
  end_clean w =
      ⊎_elim (λ (t : is_nil w ≡ true). rw t refl)
      (λ (t : is_nil w ≡ false). rw t (clean_append (plain_text names w) (codes ")") (plain_clean w) refl)) (cases (is_nil w))

  pair_clean : (before : List ℕ) (item rest : Word → List ℕ) → has_feed before ≡ false → ((w : Word) → has_feed (item w) ≡ false) → ((w : Word) → has_feed (rest w) ≡ false)
      → (o : Option (Word × Word)) → has_feed (pair_text names before item rest o) ≡ false
  pair_clean before item rest b i r None = refl
  pair_clean before item rest b i r (Some x) = clean_append (before ++ item x.0) (rest x.1) (clean_append before (item x.0) b (i x.0)) (r x.1)

  module _ (pairs : List (Word × Word)) where
    mutual
      text_clean : (n : ℕ) (w : Word) → has_feed (text_within names pairs n w) ≡ false
      text_clean zero w = plain_clean w
      text_clean (suc n) (pair i) = pair_clean (codes "(") (text_within names pairs n) (tail_within names pairs n) refl (text_clean n) (tail_clean n) (slice_get pairs i)
      text_clean (suc n) (integer z) = plain_clean (integer z)
      text_clean (suc n) (symbol i) = plain_clean (symbol i)
      text_clean (suc n) (closure i) = plain_clean (closure i)
      text_clean (suc n) (process_closure i) = plain_clean (process_closure i)
      text_clean (suc n) (future i) = plain_clean (future i)

      tail_clean : (n : ℕ) (w : Word) → has_feed (tail_within names pairs n w) ≡ false
      tail_clean zero w = end_clean w
      tail_clean (suc n) (pair i) = pair_clean (codes " ") (text_within names pairs n) (tail_within names pairs n) refl (text_clean n) (tail_clean n) (slice_get pairs i)
      tail_clean (suc n) (integer z) = end_clean (integer z)
      tail_clean (suc n) (symbol i) = end_clean (symbol i)
      tail_clean (suc n) (closure i) = end_clean (closure i)
      tail_clean (suc n) (process_closure i) = end_clean (process_closure i)
      tail_clean (suc n) (future i) = end_clean (future i)

    pub short_clean : (w : Word) → has_feed (short_text names pairs w) ≡ false
    short_clean w =
        ⊎_elim (λ (t : leb (length (value_text names pairs w)) 64 ≡ true). rw t (text_clean (length pairs) w))
        (λ (t : leb (length (value_text names pairs w)) 64 ≡ false). rw t refl) (cases (leb (length (value_text names pairs w)) 64))

-- ---- lines

abbrev pub is_text_clean : Option (List ℕ) → Bool
is_text_clean None = true
is_text_clean (Some text) = not (has_feed text)

-- the text of an event is one line
abbrev pub is_clean : Event → Bool
is_clean (reply q k n text) = is_text_clean text
is_clean (end_ok p text) = is_text_clean text
is_clean e = true

and_text_clean : (text : Option (List ℕ)) → is_text_clean text ≡ true → has_feed (and_text text) ≡ false
and_text_clean None h = refl
and_text_clean (Some text) h = of_not (has_feed text) h
  where
    of_not : (b : Bool) → not b ≡ true → b ≡ false
    of_not true h = absurd cc
    of_not false h = refl

mode_clean : (m : Mode) → has_feed (mode_text m) ≡ false
mode_clean binding = refl
mode_clean (called k) = numbers_clean (k ∷ [])
mode_clean (eager k) = numbers_clean (k ∷ [])

fault_clean : (kind : RunFault) → has_feed (fault_name kind) ≡ false
fault_clean Overflow = refl
fault_clean NotNumber = refl
fault_clean NotPair = refl
fault_clean DivZero = refl
fault_clean Unbound = refl
fault_clean NoCatch = refl
fault_clean DeadFuture = refl
fault_clean DeadClosure = refl
fault_clean WrongCount = refl
fault_clean NotFunction = refl
fault_clean InCleanup = refl

limit_clean : (kind : LimitKind) → has_feed (limit_name kind) ≡ false
limit_clean Cells = refl
limit_clean Procs = refl
limit_clean Output = refl

stop_clean : (s : Stop) → has_feed (stop_text s) ≡ false
stop_clean done = refl
stop_clean (fault kind p at) = clean_append (fault_name kind) (and_numbers (p ∷ at ∷ [])) (fault_clean kind) (numbers_clean (p ∷ at ∷ []))
stop_clean (limit kind) = limit_clean kind
stop_clean deadlock = refl
stop_clean budget = refl

pub line_clean : (e : Event) → is_clean e ≡ true → has_feed (line_of e) ≡ false
line_clean (turn p n) h = numbers_clean (p ∷ n ∷ [])
line_clean (spawn p q c m) h = clean_append (and_numbers (p ∷ q ∷ c ∷ [])) (mode_text m) (numbers_clean (p ∷ q ∷ c ∷ [])) (mode_clean m)
line_clean (opened p c d) h = numbers_clean (p ∷ c ∷ d ∷ [])
line_clean (exit p c) h = numbers_clean (p ∷ c ∷ [])
line_clean (throw p c) h = numbers_clean (p ∷ c ∷ [])
line_clean (land p c) h = numbers_clean (p ∷ c ∷ [])
line_clean (kill c q) h = numbers_clean (c ∷ q ∷ [])
line_clean (protect p u) h = numbers_clean (p ∷ u ∷ [])
line_clean (begin p u) h = numbers_clean (p ∷ u ∷ [])
line_clean (finish p u) h = numbers_clean (p ∷ u ∷ [])
line_clean (send p k n) h = numbers_clean (p ∷ k ∷ n ∷ [])
line_clean (take q k n) h = numbers_clean (q ∷ k ∷ n ∷ [])
line_clean (reply q k n text) h = clean_append (and_numbers (q ∷ k ∷ n ∷ [])) (and_text text) (numbers_clean (q ∷ k ∷ n ∷ [])) (and_text_clean text h)
line_clean (end_ok p text) h =
    clean_append (and_numbers (p ∷ []) ++ codes " ok") (and_text text) (clean_append (and_numbers (p ∷ [])) (codes " ok") (numbers_clean (p ∷ [])) refl) (and_text_clean text h)
line_clean (end_killed p) h = clean_append (and_numbers (p ∷ [])) (codes " killed") (numbers_clean (p ∷ [])) refl
line_clean (stopped s) h = stop_clean s

without_clean : (e : Event) → is_clean (without_text e) ≡ true
without_clean (reply q k n text) = refl
without_clean (end_ok p text) = refl
without_clean e = refl

pub plain_line_clean : (e : Event) → has_feed (plain_line e) ≡ false
plain_line_clean e = line_clean (without_text e) (without_clean e)

pub head_line_clean : (h : Head) → has_feed (head_line h) ≡ false
head_line_clean h = numbers_clean (h.budget ∷ h.cells ∷ h.procs ∷ h.output ∷ [])
