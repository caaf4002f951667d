-- Lines of a journal are short.
use Rattle.std.proofs.Common.{◌≡◌, ℕ, ◌+◌, ◌*◌, ◌<◌, ◌≤◌, ◌^◌, Bool, true, false, List, [], ◌∷◌, ◌++◌, length, Option, Some, None, refl, sym, ap, subst, arith, length-append}
use Rattle.std.specs.Prelude.{decimal, codes, Result, Ok, Err, OnOk}
use Rattle.ql_journal.specs.Single.{as_told}
use Rattle.std.proofs.lemmas.Fmt.{length-decimal-le}
use Rattle.ql_base.specs.declared.fault.RunFault.{RunFault}
use Rattle.ql_base.specs.declared.fault.RunFault.TheVariants.{Overflow, NotNumber, NotPair, DivZero, Unbound, NoCatch, DeadFuture, DeadClosure, WrongCount, NotFunction, InCleanup}
use Rattle.ql_base.specs.declared.limits.LimitKind.{LimitKind}
use Rattle.ql_base.specs.declared.limits.LimitKind.TheVariants.{Cells, Procs, Output}
use Rattle.ql_world.specs.Event.{without_text}
use Rattle.ql_world.specs.declared.event.Stop.{Stop}
use Rattle.ql_world.specs.declared.event.Stop.TheVariants.{Done as done, Fault as fault, Limit as limit, Deadlock as deadlock, Budget as budget}
use Rattle.ql_world.specs.declared.event.Mode.{Mode}
use Rattle.ql_world.specs.declared.event.Mode.TheVariants.{Let as binding, Call as called, Eager as eager}
use Rattle.ql_world.specs.declared.event.Event.{Event}
use Rattle.ql_world.specs.declared.event.Event.TheVariants.{Turn as turn, Spawn as spawn, Opened as opened, Exit as exit, Throw as throw, Land as land, Kill as kill, Protect as protect, Begin as begin, Finish as finish, Send as send, Take as take, Reply as reply, EndOk as end_ok, EndKilled as end_killed, Stopped as stopped}
use Rattle.ql_world.specs.declared.event.Head.{Head}
use Rattle.ql_world.specs.Text.{fault_name, limit_name, and_numbers, and_text, mode_text, stop_text, line_of}
use Rattle.ql_replay.specs.Book.{head_line, AreLow, turn_in, head_in, AllLow, IsShort, numbers_of_mode, numbers_of_stop, IsLow}
use Rattle.ql_replay.specs.Replay.{plain_line}
use Rattle.ql_replay.specs.Law.{LongLinesDiffer}
use Rattle.ql_replay.proofs.Reading.{turn_in_reads, head_in_reads}

both_short : (xs ys : List ℕ) (i j k : ℕ) → length xs ≤ i → length ys ≤ j → i + j ≤ k → length (xs ++ ys) ≤ k
both_short xs ys i j k a b c = omega (arith, a, b, c, length-append {A = ℕ})

numbers_short : (ns : List ℕ) → AllLow ns → length (and_numbers ns) ≤ 21 * length ns
numbers_short [] h = omega arith
numbers_short (n ∷ ns) h =
    let a : length (decimal n) ≤ 20 = decimal_short n h.0 in
    let b : length (and_numbers ns) ≤ 21 * length ns = numbers_short ns h.1 in
    let c : length (decimal n ++ and_numbers ns) ≤ 20 + 21 * length ns = both_short (decimal n) (and_numbers ns) 20 (21 * length ns) (20 + 21 * length ns) a b (omega arith) in
    omega (arith, c)
  where
    decimal_short : (n : ℕ) → n < 2 ^ 64 → length (decimal n) ≤ 20
    decimal_short n l = length-decimal-le 20 n (omega arith) (omega (arith, l)) l

one : (p : ℕ) → AllLow (p ∷ []) → length (and_numbers (p ∷ [])) ≤ 21
one p h = let l = numbers_short (p ∷ []) h in l

two : (p q : ℕ) → AllLow (p ∷ q ∷ []) → length (and_numbers (p ∷ q ∷ [])) ≤ 42
two p q h = numbers_short (p ∷ q ∷ []) h

three : (p q r : ℕ) → AllLow (p ∷ q ∷ r ∷ []) → length (and_numbers (p ∷ q ∷ r ∷ [])) ≤ 63
three p q r h = numbers_short (p ∷ q ∷ r ∷ []) h

text_short : (o : Option (List ℕ)) → IsShort o → length (and_text o) ≤ 65
text_short None h = omega arith
text_short (Some text) h = let l : length text ≤ 64 = h in omega (arith, l)

mode_short : (m : Mode) → AllLow (numbers_of_mode m) → length (mode_text m) ≤ 40
mode_short binding h = omega arith
mode_short (called k) h = let l = one k h in omega (arith, l)
mode_short (eager k) h = let l = one k h in omega (arith, l)

fault_short : (kind : RunFault) → length (fault_name kind) ≤ 11
fault_short Overflow = omega arith
fault_short NotNumber = omega arith
fault_short NotPair = omega arith
fault_short DivZero = omega arith
fault_short Unbound = omega arith
fault_short NoCatch = omega arith
fault_short DeadFuture = omega arith
fault_short DeadClosure = omega arith
fault_short WrongCount = omega arith
fault_short NotFunction = omega arith
fault_short InCleanup = omega arith

limit_short : (kind : LimitKind) → length (limit_name kind) ≤ 6
limit_short Cells = omega arith
limit_short Procs = omega arith
limit_short Output = omega arith

stop_short : (s : Stop) → AllLow (numbers_of_stop s) → length (stop_text s) ≤ 70
stop_short done h = omega arith
stop_short (fault kind p at) h =
    let l = both_short (fault_name kind) (and_numbers (p ∷ at ∷ [])) 11 42 53 (fault_short kind) (two p at h) (omega arith) in
    omega (arith, l)
stop_short (limit kind) h = let l = limit_short kind in omega (arith, l)
stop_short deadlock h = omega arith
stop_short budget h = omega arith

pub line_short : (e : Event) → IsLow e → length (line_of e) ≤ 200
line_short (turn p n) h = let l = two p n h in omega (arith, l)
line_short (spawn p q c m) h = let l = both_short (and_numbers (p ∷ q ∷ c ∷ [])) (mode_text m) 63 40 103 (three p q c h.0) (mode_short m h.1) (omega arith) in omega (arith, l)
line_short (opened p c d) h = let l = three p c d h in omega (arith, l)
line_short (exit p c) h = let l = two p c h in omega (arith, l)
line_short (throw p c) h = let l = two p c h in omega (arith, l)
line_short (land p c) h = let l = two p c h in omega (arith, l)
line_short (kill c q) h = let l = two c q h in omega (arith, l)
line_short (protect p u) h = let l = two p u h in omega (arith, l)
line_short (begin p u) h = let l = two p u h in omega (arith, l)
line_short (finish p u) h = let l = two p u h in omega (arith, l)
line_short (send p k n) h = let l = three p k n h in omega (arith, l)
line_short (take q k n) h = let l = three q k n h in omega (arith, l)
line_short (reply q k n text) h = let l = both_short (and_numbers (q ∷ k ∷ n ∷ [])) (and_text text) 63 65 128 (three q k n h.0) (text_short text h.1) (omega arith) in omega (arith, l)
line_short (end_ok p text) h =
    let a = both_short (and_numbers (p ∷ [])) (codes " ok") 21 3 24 (one p h.0) (omega arith) (omega arith) in
    let l = both_short (and_numbers (p ∷ []) ++ codes " ok") (and_text text) 24 65 89 a (text_short text h.1) (omega arith) in
    omega (arith, l)
line_short (end_killed p) h = let l = both_short (and_numbers (p ∷ [])) (codes " killed") 21 7 28 (one p h) (omega arith) (omega arith) in omega (arith, l)
line_short (stopped s) h = let l = stop_short s h in omega (arith, l)

pub head_short : (h : Head) → AreLow h → length (head_line h) ≤ 200
head_short h low = let l = numbers_short (h.budget ∷ h.cells ∷ h.procs ∷ h.output ∷ []) (low.budget, (low.cells, (low.procs, (low.output, tt)))) in omega (arith, l)

too_long : (xs line : List ℕ) → length xs ≤ 200 → 200 < length line → xs ≡ line → ⊥
too_long xs line l h e = let f : length xs ≡ length line = ap length e in omega (arith, l, h, f)

without_low : (e : Event) → IsLow e → IsLow (without_text e)
without_low (reply q k n text) h = (h.0, tt)
without_low (end_ok p text) h = (h.0, tt)
without_low (turn p n) h = h
without_low (spawn p q c m) h = h
without_low (opened p c d) h = h
without_low (exit p c) h = h
without_low (throw p c) h = h
without_low (land p c) h = h
without_low (kill c q) h = h
without_low (protect p u) h = h
without_low (begin p u) h = h
without_low (finish p u) h = h
without_low (send p k n) h = h
without_low (take q k n) h = h
without_low (end_killed p) h = h
without_low (stopped s) h = h

pub long_lines_differ : LongLinesDiffer
long_lines_differ = record {
  turns = λ line h. no_turn line h (turn_in line) refl;
  heads = λ line h. no_head line h (head_in line) refl;
  events = λ line e h low. (too_long (line_of e) line (line_short e low) h, too_long (plain_line e) line (line_short (without_text e) (without_low e low)) h);
}
  where
    no_turn : (line : List ℕ) → 200 < length line → (o : Option (ℕ × ℕ)) → turn_in line ≡ o → turn_in line ≡ None
    no_turn line h None e = e
    no_turn line h (Some x) e =
        let s = turn_in_reads.says line x.0 x.1 e in
        let l = turn_in_reads.low line x.0 x.1 e in
        let a : x.0 < 2 ^ 32 = l.0 in
        let b : x.0 < 2 ^ 64 = omega (arith, a) in
        absurd (too_long (line_of (turn x.0 x.1)) line (line_short (turn x.0 x.1) (b, (l.1.1, tt))) h (sym s))

    no_head : (line : List ℕ) → 200 < length line → (o : Option Head) → head_in line ≡ o → head_in line ≡ None
    no_head line h None e = e
    no_head line h (Some g) e = absurd (too_long (head_line g) line (head_short g (head_in_reads.low line g e)) h (sym (head_in_reads.says line g e)))

told_short : (texts : Bool) (e : Event) → IsLow e → length (line_of (as_told texts e)) ≤ 200
told_short true e h = line_short e h
told_short false e h = line_short (without_text e) (without_low e h)

pub put_short : {T E : Type 0} (r : Result T E) (line : List ℕ) (texts : Bool) (e : Event) → IsLow e → OnOk r (line ≡ line_of (as_told texts e)) → OnOk r (length line ≤ 200)
put_short (Ok v) line texts e h k = subst (λ (l : List ℕ). length l ≤ 200) (sym k) (told_short texts e h)
put_short (Err x) line texts e h k = tt
