-- Each line of a journal is read as its event.
use Rattle.std.proofs.Common.{◌≡◌, refl, ◌∙◌, ap, ℕ, ◌==◌, Bool, true, false, List, [], ◌∷◌, ◌++◌, Option, Some, None, arith}
use Rattle.std.specs.Prelude.{codes}
use Rattle.std.specs.Fmt.{decimal}
use Rattle.std.proofs.lemmas.List.{append_assoc}
use Rattle.std.proofs.lemmas.Bool.Decides.{nat_tests}
use Rattle.ql_base.specs.declared.fault.RunFault.{RunFault}
use Rattle.ql_base.specs.declared.fault.RunFault.TheVariants.{Overflow, NotNumber, NotPair, DivZero, Unbound, NoCatch, DeadFuture, DeadClosure, WrongCount, NotFunction, InCleanup}
use Rattle.ql_base.specs.declared.limits.LimitKind.{LimitKind}
use Rattle.ql_base.specs.declared.limits.LimitKind.TheVariants.{Cells, Procs, Output}
use Rattle.ql_world.specs.declared.event.Stop.{Stop}
use Rattle.ql_world.specs.declared.event.Stop.TheVariants.{Done as done, Fault as fault, Limit as limit, Deadlock as deadlock, Budget as budget}
use Rattle.ql_world.specs.declared.event.Mode.{Mode}
use Rattle.ql_world.specs.declared.event.Mode.TheVariants.{Let as binding, Call as called, Eager as eager}
use Rattle.ql_world.specs.declared.event.Event.{Event}
use Rattle.ql_world.specs.declared.event.Event.TheVariants.{Turn as turn, Spawn as spawn, Opened as opened, Exit as exit, Throw as throw, Land as land, Kill as kill, Protect as protect, Begin as begin, Finish as finish, Send as send, Take as take, Reply as reply, EndOk as end_ok, EndKilled as end_killed, Stopped as stopped}
use Rattle.ql_world.specs.Text.{and_numbers, and_text, mode_text, fault_name, line_of}
use Rattle.ql_journal.specs.Grammar.{most_id, most_count, IsId, IsCount, HasText, hands_on, IsEvent}
use Rattle.ql_journal.specs.Reading.{field, text_of, fault_of, event_of}
use Rattle.ql_journal.proofs.Parts.{short_again}
use Rattle.ql_journal.proofs.Fields.{field_again, field_among, StopsAt, lacks, front_of, beyond_of}

id_again : (n : ℕ) (r : List ℕ) → IsId n → StopsAt 32 r → field most_id (32 ∷ decimal n ++ r) ≡ Some (n, r)
id_again n r h s = field_again most_id n r h (omega arith) s

count_again : (n : ℕ) (r : List ℕ) → IsCount n → StopsAt 32 r → field most_count (32 ∷ decimal n ++ r) ≡ Some (n, r)
count_again n r h s = field_again most_count n r h h s

id_among : (n : ℕ) (ns r : List ℕ) → IsId n → StopsAt 32 (and_numbers ns ++ r) → field most_id (and_numbers (n ∷ ns) ++ r) ≡ Some (n, and_numbers ns ++ r)
id_among n ns r h s = field_among most_id n ns r h (omega arith) s

count_among : (n : ℕ) (ns r : List ℕ) → IsCount n → StopsAt 32 (and_numbers ns ++ r) → field most_count (and_numbers (n ∷ ns) ++ r) ≡ Some (n, and_numbers ns ++ r)
count_among n ns r h s = field_among most_count n ns r h h s

turn_again : (v : Bool) (p n : ℕ) → IsEvent v (turn p n) → event_of v (line_of (turn p n)) ≡ Some (turn p n)
unfolding event_of
turn_again v p n h =
    let (i, m, c) = h in
    let z : (n == 0) ≡ false = grind (arith, nat_tests) in
    rw (id_again p (32 ∷ decimal n ++ []) i refl, count_again n [] c tt, z) refl

text_stops : (text : Option (List ℕ)) → StopsAt 32 (and_text text)
text_stops None = tt
text_stops (Some t) = refl

mode_stops : (m : Mode) → StopsAt 32 (mode_text m)
mode_stops binding = refl
mode_stops (called k) = refl
mode_stops (eager k) = refl

spawn_again : (v : Bool) (p q c : ℕ) (m : Mode) → IsEvent v (spawn p q c m) → event_of v (line_of (spawn p q c m)) ≡ Some (spawn p q c m)
unfolding event_of
spawn_again v p q c binding h =
    let (i, j, k, l) = h in
    rw (id_among p (q ∷ c ∷ []) (mode_text binding) i refl, id_among q (c ∷ []) (mode_text binding) j refl, id_among c [] (mode_text binding) k refl) refl
spawn_again v p q c (called n) h =
    let (i, j, k, l) = h in
    rw (id_among p (q ∷ c ∷ []) (mode_text (called n)) i refl, id_among q (c ∷ []) (mode_text (called n)) j refl, id_among c [] (mode_text (called n)) k refl, id_again n [] l tt) refl
spawn_again v p q c (eager n) h =
    let (i, j, k, l) = h in
    rw (id_among p (q ∷ c ∷ []) (mode_text (eager n)) i refl, id_among q (c ∷ []) (mode_text (eager n)) j refl, id_among c [] (mode_text (eager n)) k refl, id_again n [] l tt) refl

opened_again : (v : Bool) (p c d : ℕ) → IsEvent v (opened p c d) → event_of v (line_of (opened p c d)) ≡ Some (opened p c d)
unfolding event_of
opened_again v p c d h =
    let (i, j, k) = h in
    rw (id_again p (32 ∷ decimal c ++ (32 ∷ decimal d ++ [])) i refl, id_again c (32 ∷ decimal d ++ []) j refl, id_again d [] k tt) refl

exit_again : (v : Bool) (p c : ℕ) → IsEvent v (exit p c) → event_of v (line_of (exit p c)) ≡ Some (exit p c)
unfolding event_of
exit_again v p c h = let (i, j) = h in rw (id_again p (32 ∷ decimal c ++ []) i refl, id_again c [] j tt) refl

throw_again : (v : Bool) (p c : ℕ) → IsEvent v (throw p c) → event_of v (line_of (throw p c)) ≡ Some (throw p c)
unfolding event_of
throw_again v p c h = let (i, j) = h in rw (id_again p (32 ∷ decimal c ++ []) i refl, id_again c [] j tt) refl

land_again : (v : Bool) (p c : ℕ) → IsEvent v (land p c) → event_of v (line_of (land p c)) ≡ Some (land p c)
unfolding event_of
land_again v p c h = let (i, j) = h in rw (id_again p (32 ∷ decimal c ++ []) i refl, id_again c [] j tt) refl

kill_again : (v : Bool) (c q : ℕ) → IsEvent v (kill c q) → event_of v (line_of (kill c q)) ≡ Some (kill c q)
unfolding event_of
kill_again v c q h = let (i, j) = h in rw (id_again c (32 ∷ decimal q ++ []) i refl, id_again q [] j tt) refl

protect_again : (v : Bool) (p u : ℕ) → IsEvent v (protect p u) → event_of v (line_of (protect p u)) ≡ Some (protect p u)
unfolding event_of
protect_again v p u h = let (i, j) = h in rw (id_again p (32 ∷ decimal u ++ []) i refl, count_again u [] j tt) refl

begin_again : (v : Bool) (p u : ℕ) → IsEvent v (begin p u) → event_of v (line_of (begin p u)) ≡ Some (begin p u)
unfolding event_of
begin_again v p u h = let (i, j) = h in rw (id_again p (32 ∷ decimal u ++ []) i refl, count_again u [] j tt) refl

finish_again : (v : Bool) (p u : ℕ) → IsEvent v (finish p u) → event_of v (line_of (finish p u)) ≡ Some (finish p u)
unfolding event_of
finish_again v p u h = let (i, j) = h in rw (id_again p (32 ∷ decimal u ++ []) i refl, count_again u [] j tt) refl

send_again : (v : Bool) (p k n : ℕ) → IsEvent v (send p k n) → event_of v (line_of (send p k n)) ≡ Some (send p k n)
unfolding event_of
send_again v p k n h =
    let (i, j, c) = h in
    rw (id_again p (32 ∷ decimal k ++ (32 ∷ decimal n ++ [])) i refl, id_again k (32 ∷ decimal n ++ []) j refl, count_again n [] c tt) refl

take_again : (v : Bool) (p k n : ℕ) → IsEvent v (take p k n) → event_of v (line_of (take p k n)) ≡ Some (take p k n)
unfolding event_of
take_again v p k n h =
    let (i, j, c) = h in
    rw (id_again p (32 ∷ decimal k ++ (32 ∷ decimal n ++ [])) i refl, id_again k (32 ∷ decimal n ++ []) j refl, count_again n [] c tt) refl

pub text_again : (v : Bool) (text : Option (List ℕ)) → HasText v text → text_of v (and_text text) ≡ Some text
text_again true (Some t) h = rw (short_again t h) refl
text_again true None h = absurd h
text_again false (Some t) h = absurd h
text_again false None h = refl

reply_again : (v : Bool) (p k n : ℕ) (text : Option (List ℕ)) → IsEvent v (reply p k n text) → event_of v (line_of (reply p k n text)) ≡ Some (reply p k n text)
unfolding event_of
reply_again v p k n text h =
    let (i, j, c, l) = h in
    rw (id_among p (k ∷ n ∷ []) (and_text text) i refl, id_among k (n ∷ []) (and_text text) j refl, count_among n [] (and_text text) c (text_stops text), text_again v text l) refl

ended_again : (p : ℕ) (x : List ℕ) → IsId p → field most_id (((32 ∷ decimal p ++ []) ++ codes " ok") ++ x) ≡ Some (p, codes " ok" ++ x)
ended_again p x i =
    let e : ((decimal p ++ []) ++ codes " ok") ++ x ≡ decimal p ++ (codes " ok" ++ x) = simp append_assoc in
    ap (λ (y : List ℕ). field most_id (32 ∷ y)) e ∙ id_again p (codes " ok" ++ x) i refl

end_ok_again : (v : Bool) (p : ℕ) (text : Option (List ℕ)) → IsEvent v (end_ok p text) → event_of v (line_of (end_ok p text)) ≡ Some (end_ok p text)
unfolding event_of
end_ok_again v p text h = let (i, l) = h in rw (ended_again p (and_text text) i, text_again (hands_on v p) text l) refl

end_killed_again : (v : Bool) (p : ℕ) → IsEvent v (end_killed p) → event_of v (line_of (end_killed p)) ≡ Some (end_killed p)
unfolding event_of
end_killed_again v p h = rw (id_among p [] (codes " killed") h refl) refl

no_space : (k : RunFault) → lacks 32 (fault_name k) ≡ true
no_space Overflow = refl
no_space NotNumber = refl
no_space NotPair = refl
no_space DivZero = refl
no_space Unbound = refl
no_space NoCatch = refl
no_space DeadFuture = refl
no_space DeadClosure = refl
no_space WrongCount = refl
no_space NotFunction = refl
no_space InCleanup = refl

fault_again : (k : RunFault) → fault_of (fault_name k) ≡ Some k
fault_again Overflow = refl
fault_again NotNumber = refl
fault_again NotPair = refl
fault_again DivZero = refl
fault_again Unbound = refl
fault_again NoCatch = refl
fault_again DeadFuture = refl
fault_again DeadClosure = refl
fault_again WrongCount = refl
fault_again NotFunction = refl
fault_again InCleanup = refl

limit_again : (v : Bool) (k : LimitKind) → event_of v (line_of (stopped (limit k))) ≡ Some (stopped (limit k))
unfolding event_of
limit_again v Cells = refl
limit_again v Procs = refl
limit_again v Output = refl

stopped_again : (v : Bool) (s : Stop) → IsEvent v (stopped s) → event_of v (line_of (stopped s)) ≡ Some (stopped s)
unfolding event_of
stopped_again v done h = refl
stopped_again v (fault k p at) h =
    let (i, j) = h in
    rw (front_of 32 (fault_name k) (32 ∷ decimal p ++ (32 ∷ decimal at ++ [])) (no_space k) refl, beyond_of 32 (fault_name k) (32 ∷ decimal p ++ (32 ∷ decimal at ++ [])) (no_space k) refl, fault_again k, id_again p (32 ∷ decimal at ++ []) i refl, count_again at [] j tt) refl
stopped_again v (limit k) h = limit_again v k
stopped_again v deadlock h = refl
stopped_again v budget h = refl

pub event_of_again : (v : Bool) (e : Event) → IsEvent v e → event_of v (line_of e) ≡ Some e
event_of_again v (turn p n) h = turn_again v p n h
event_of_again v (spawn p q c m) h = spawn_again v p q c m h
event_of_again v (opened p c d) h = opened_again v p c d h
event_of_again v (exit p c) h = exit_again v p c h
event_of_again v (throw p c) h = throw_again v p c h
event_of_again v (land p c) h = land_again v p c h
event_of_again v (kill c q) h = kill_again v c q h
event_of_again v (protect p u) h = protect_again v p u h
event_of_again v (begin p u) h = begin_again v p u h
event_of_again v (finish p u) h = finish_again v p u h
event_of_again v (send p k n) h = send_again v p k n h
event_of_again v (take q k n) h = take_again v q k n h
event_of_again v (reply q k n text) h = reply_again v q k n text h
event_of_again v (end_ok p text) h = end_ok_again v p text h
event_of_again v (end_killed p) h = end_killed_again v p h
event_of_again v (stopped s) h = stopped_again v s h
