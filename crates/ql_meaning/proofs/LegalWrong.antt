-- Journals that wrong runs would write, each refused by its law.
use Rattle.std.proofs.Common.{◌≡◌, ℕ, true, false, List, [], ◌∷◌, ◌++◌, Option, None, refl, sym, ap, ◌∙◌, subst, ⊎_elim, inl, inr, arith}
use Rattle.std.specs.Prelude.{map}
use Rattle.ql_world.specs.declared.event.Event.{Event}
use Rattle.ql_world.specs.declared.event.Event.TheVariants.{Spawn as spawn, Opened as opened, Exit as exit, Kill as kill, Protect as protect, Begin as begin, Finish as finish, Send as send, Take as take, Reply as reply, EndOk as end_ok, EndKilled as end_killed, Stopped as stopped}
use Rattle.ql_world.specs.declared.event.Mode.TheVariants.{Let as binding, Call as called}
use Rattle.ql_world.specs.declared.event.Stop.TheVariants.{Done as done}
use Rattle.ql_meaning.specs.Legal.{IsAmong, HasEnd, HasHome, IsOver, itself, over_enclosing, IsDoomed, IsNumber, starts_with_kill, KillsFollow, KillsLaw, UnwindingLaw, CleanupsLaw, CallsLaw}

killed_among_them : (c q : ℕ) (qs : List ℕ) (rest : List Event) → IsNumber q qs → IsAmong (kill c q) (map (kill c) qs ++ rest)
killed_among_them c q [] rest n = absurd n
killed_among_them c q (r ∷ qs) rest n = ⊎_elim (λ t. inl (ap (kill c) t)) (λ t. inr (killed_among_them c q qs rest t)) n

-- an exit that kills only the children of its owner, and not theirs
abbrev stops_at_children : List Event
stops_at_children = opened 1 1 0 ∷ spawn 1 2 1 binding ∷ spawn 2 3 1 binding ∷ exit 1 1 ∷ kill 1 2 ∷ []

kills_go_down : KillsLaw stops_at_children → ⊥
kills_go_down law =
    let f : KillsFollow stops_at_children (opened 1 1 0 ∷ spawn 1 2 1 binding ∷ spawn 2 3 1 binding ∷ []) 1 (kill 1 2 ∷ []) = law.after_each (opened 1 1 0 ∷ spawn 1 2 1 binding ∷ spawn 2 3 1 binding ∷ []) (exit 1 1) (kill 1 2 ∷ []) refl in
    let doomed : IsDoomed stops_at_children (opened 1 1 0 ∷ spawn 1 2 1 binding ∷ spawn 2 3 1 binding ∷ []) 1 3 = record {
      within = (1, inr (2, binding, inr (inr (inl refl))), itself 1 refl);
      foreign = λ o. ⊎_elim (λ t. absurd cc) (λ (t : (d : ℕ) × IsAmong (opened 3 1 d) stops_at_children). ⊎_elim (λ e. absurd cc) (λ r. ⊎_elim (λ e. absurd cc) (λ r. ⊎_elim (λ e. absurd cc) (λ r. ⊎_elim (λ e. absurd cc) (λ r. ⊎_elim (λ e. absurd cc) (λ r. r) r) r) r) r) t.1) o;
      not_killed = λ (t : (c : ℕ) × IsAmong (kill c 3) (opened 1 1 0 ∷ spawn 1 2 1 binding ∷ spawn 2 3 1 binding ∷ [])). ⊎_elim (λ e. absurd cc) (λ r. ⊎_elim (λ e. absurd cc) (λ r. ⊎_elim (λ e. absurd cc) (λ r. r) r) r) t.1;
      not_ended = λ o. ⊎_elim
          (λ (t : (text : Option (List ℕ)) × IsAmong (end_ok 3 text) (opened 1 1 0 ∷ spawn 1 2 1 binding ∷ spawn 2 3 1 binding ∷ [])). ⊎_elim (λ e. absurd cc) (λ r. ⊎_elim (λ e. absurd cc) (λ r. ⊎_elim (λ e. absurd cc) (λ r. r) r) r) t.1)
          (λ (t : IsAmong (end_killed 3) (opened 1 1 0 ∷ spawn 1 2 1 binding ∷ spawn 2 3 1 binding ∷ [])). ⊎_elim (λ e. absurd cc) (λ r. ⊎_elim (λ e. absurd cc) (λ r. ⊎_elim (λ e. absurd cc) (λ r. r) r) r) t)
          o;
    } in
    let there : IsAmong (kill 1 3) (kill 1 2 ∷ []) = subst (IsAmong (kill 1 3)) (sym f.follow) (killed_among_them 1 3 f.doomed f.rest (f.all 3 doomed)) in
    ⊎_elim (λ (e : kill 1 3 ≡ kill 1 2). absurd cc) (λ r. r) there

-- an exit that kills a process spawned outside of its catch
abbrev kills_outside : List Event
kills_outside = spawn 1 2 0 (called 1) ∷ opened 1 1 0 ∷ exit 1 1 ∷ kill 1 2 ∷ []

foreign_ones_stay : KillsLaw kills_outside → ⊥
foreign_ones_stay law =
    let f : KillsFollow kills_outside (spawn 1 2 0 (called 1) ∷ opened 1 1 0 ∷ []) 1 (kill 1 2 ∷ []) = law.after_each (spawn 1 2 0 (called 1) ∷ opened 1 1 0 ∷ []) (exit 1 1) (kill 1 2 ∷ []) refl in
    by_doomed f.doomed f.rest f.follow f.no_more f.each
  where
    home_is : (h : ℕ) → HasHome kills_outside 2 h → h ≡ 0
    home_is h a = ⊎_elim (λ t. absurd cc) (λ t. ⊎_elim (λ e. cc) (λ r. ⊎_elim (λ e. absurd cc) (λ r. ⊎_elim (λ e. absurd cc) (λ r. ⊎_elim (λ e. absurd cc) (λ r. absurd r) r) r) r) t.2) a

    not_over : (d : ℕ) → d ≡ 0 → IsOver kills_outside 1 d → ⊥
    not_over d z (itself e s) = absurd cc
    not_over d z (over_enclosing p e g a o) = ⊎_elim (λ t. absurd cc) (λ r. ⊎_elim (λ t. absurd cc) (λ r. ⊎_elim (λ t. absurd cc) (λ r. ⊎_elim (λ t. absurd cc) (λ r. r) r) r) r) a

    by_doomed : (qs : List ℕ) (rest : List Event) → kill 1 2 ∷ [] ≡ map (kill 1) qs ++ rest → starts_with_kill rest ≡ false → ((q : ℕ) → IsNumber q qs → IsDoomed kills_outside (spawn 1 2 0 (called 1) ∷ opened 1 1 0 ∷ []) 1 q) → ⊥
    by_doomed [] rest e n each = let bad : true ≡ false = ap starts_with_kill e ∙ n in absurd cc
    by_doomed (q ∷ qs) rest e n each =
        let same : 2 ≡ q = cc in
        let d = each q (inl refl) in
        let w = subst (λ z. IsDoomed kills_outside (spawn 1 2 0 (called 1) ∷ opened 1 1 0 ∷ []) 1 z) (sym same) d in
        not_over w.within.0 (home_is w.within.0 w.within.1) w.within.2

-- a killed process that spawns
abbrev spawns_killed : List Event
spawns_killed = kill 0 2 ∷ spawn 2 3 0 binding ∷ []

killed_ones_clean : UnwindingLaw spawns_killed → ⊥
killed_ones_clean law = law (kill 0 2 ∷ []) (spawn 2 3 0 binding) [] refl (0, inl refl)

-- a cleanup that is begun anew
abbrev begins_anew : List Event
begins_anew = protect 1 1 ∷ begin 1 1 ∷ begin 1 1 ∷ []

cleanups_once : CleanupsLaw begins_anew → ⊥
cleanups_once law = (law.each (protect 1 1 ∷ begin 1 1 ∷ []) (begin 1 1) [] refl).once 1 (inr (inl refl))

-- the older of two cleanups first
abbrev begins_older : List Event
begins_older = protect 1 1 ∷ protect 1 2 ∷ begin 1 1 ∷ []

newer_cleanups_first : CleanupsLaw begins_older → ⊥
newer_cleanups_first law =
    let f : IsAmong (finish 1 2) (protect 1 1 ∷ protect 1 2 ∷ []) = (law.each (protect 1 1 ∷ protect 1 2 ∷ []) (begin 1 1) [] refl).in_order 2 (omega arith) (inr (inl refl)) in
    ⊎_elim (λ (e : finish 1 2 ≡ protect 1 1). absurd cc) (λ r. ⊎_elim (λ (e : finish 1 2 ≡ protect 1 2). absurd cc) (λ z. z) r) f

-- a run that is done while a cleanup waits
abbrev leaves_cleanup : List Event
leaves_cleanup = protect 1 1 ∷ stopped done ∷ []

all_cleanups_run : CleanupsLaw leaves_cleanup → ⊥
all_cleanups_run law =
    let b : IsAmong (begin 1 1) (protect 1 1 ∷ []) = (law.all_at_done (protect 1 1 ∷ []) refl 1 1 (inl refl)).0 in
    ⊎_elim (λ (e : begin 1 1 ≡ protect 1 1). absurd cc) (λ z. z) b

-- the newer of two calls first
abbrev takes_newer : List Event
takes_newer = send 1 1 1 ∷ send 1 1 2 ∷ take 2 1 2 ∷ []

calls_in_order : CallsLaw takes_newer → ⊥
calls_in_order law = let e : 2 ≡ 1 = (law (send 1 1 1 ∷ send 1 1 2 ∷ []) (take 2 1 2) [] refl).in_order in absurd (omega (arith, e))

-- the next call before the reply
abbrev takes_two : List Event
takes_two = send 1 1 1 ∷ send 1 1 2 ∷ take 2 1 1 ∷ take 2 1 2 ∷ []

one_call_at_a_time : CallsLaw takes_two → ⊥
one_call_at_a_time law =
    let a = (law (send 1 1 1 ∷ send 1 1 2 ∷ take 2 1 1 ∷ []) (take 2 1 2) [] refl).one_at_a_time 1 refl (omega arith) in
    let r : IsAmong (reply a.0 1 1 a.1) (send 1 1 1 ∷ send 1 1 2 ∷ take 2 1 1 ∷ []) = a.2 in
    ⊎_elim (λ (e : reply a.0 1 1 a.1 ≡ send 1 1 1). absurd cc) (λ r. ⊎_elim (λ (e : reply a.0 1 1 a.1 ≡ send 1 1 2). absurd cc) (λ r. ⊎_elim (λ (e : reply a.0 1 1 a.1 ≡ take 2 1 1). absurd cc) (λ z. z) r) r) r

-- a call that was never sent
abbrev takes_unsent : List Event
takes_unsent = take 2 1 1 ∷ []

only_sent_calls : CallsLaw takes_unsent → ⊥
only_sent_calls law = (law [] (take 2 1 1) [] refl).sent.1

-- a reply to a call that waits
abbrev answers_untaken : List Event
answers_untaken = send 1 1 1 ∷ reply 2 1 1 None ∷ []

only_taken_calls : CallsLaw answers_untaken → ⊥
only_taken_calls law =
    let t = (law (send 1 1 1 ∷ []) (reply 2 1 1 None) [] refl).taken in
    let r : IsAmong (take t.0 1 1) (send 1 1 1 ∷ []) = t.1 in
    ⊎_elim (λ (e : take t.0 1 1 ≡ send 1 1 1). absurd cc) (λ z. z) r

-- kills that stand alone
kill_needs_exit : KillsLaw (kill 0 2 ∷ []) → ⊥
kill_needs_exit law = let bad : true ≡ false = law.not_first in absurd cc

abbrev kills_after_spawn : List Event
kills_after_spawn = spawn 1 2 0 binding ∷ kill 0 2 ∷ []

spawn_kills_none : KillsLaw kills_after_spawn → ⊥
spawn_kills_none law = let bad : true ≡ false = law.after_each [] (spawn 1 2 0 binding) (kill 0 2 ∷ []) refl in absurd cc

-- a kill that takes back a process that has ended
abbrev kills_ended : List Event
kills_ended = opened 1 1 0 ∷ spawn 1 2 1 binding ∷ end_ok 2 None ∷ exit 1 1 ∷ kill 1 2 ∷ []

ended_ones_stay : KillsLaw kills_ended → ⊥
ended_ones_stay law =
    let f : KillsFollow kills_ended (opened 1 1 0 ∷ spawn 1 2 1 binding ∷ end_ok 2 None ∷ []) 1 (kill 1 2 ∷ []) = law.after_each (opened 1 1 0 ∷ spawn 1 2 1 binding ∷ end_ok 2 None ∷ []) (exit 1 1) (kill 1 2 ∷ []) refl in
    by_doomed f.doomed f.rest f.follow f.no_more f.each
  where
    by_doomed : (qs : List ℕ) (rest : List Event) → kill 1 2 ∷ [] ≡ map (kill 1) qs ++ rest → starts_with_kill rest ≡ false → ((q : ℕ) → IsNumber q qs → IsDoomed kills_ended (opened 1 1 0 ∷ spawn 1 2 1 binding ∷ end_ok 2 None ∷ []) 1 q) → ⊥
    by_doomed [] rest e n each = let bad : true ≡ false = ap starts_with_kill e ∙ n in absurd cc
    by_doomed (q ∷ qs) rest e n each =
        let same : 2 ≡ q = cc in
        (each q (inl refl)).not_ended (subst (λ z. HasEnd (opened 1 1 0 ∷ spawn 1 2 1 binding ∷ end_ok 2 None ∷ []) z) same (inl (None, inr (inr (inl refl)))))

-- after its kill a process is not killed again, does not end well, and opens catches in cleanups alone
killed_once : UnwindingLaw (kill 0 2 ∷ kill 1 2 ∷ []) → ⊥
killed_once law = law (kill 0 2 ∷ []) (kill 1 2) [] refl (0, inl refl)

killed_end_killed : UnwindingLaw (kill 0 2 ∷ end_ok 2 None ∷ []) → ⊥
killed_end_killed law = law (kill 0 2 ∷ []) (end_ok 2 None) [] refl (0, inl refl)

killed_open_none : UnwindingLaw (kill 0 2 ∷ opened 2 1 0 ∷ []) → ⊥
killed_open_none law =
    let c = law (kill 0 2 ∷ []) (opened 2 1 0) [] refl (0, inl refl) in
    let b : IsAmong (begin 2 c.0) (kill 0 2 ∷ []) = c.1 in
    ⊎_elim (λ (e : begin 2 c.0 ≡ kill 0 2). absurd cc) (λ z. z) b

killed_open_none_later : UnwindingLaw (kill 0 2 ∷ begin 2 1 ∷ finish 2 1 ∷ opened 2 1 0 ∷ []) → ⊥
killed_open_none_later law =
    let c = law (kill 0 2 ∷ begin 2 1 ∷ finish 2 1 ∷ []) (opened 2 1 0) [] refl (0, inl refl) in
    let b : IsAmong (begin 2 c.0) (kill 0 2 ∷ begin 2 1 ∷ finish 2 1 ∷ []) = c.1 in
    ⊎_elim
    (λ (e : begin 2 c.0 ≡ kill 0 2). absurd cc)
    (λ r. ⊎_elim
    (λ (e : begin 2 c.0 ≡ begin 2 1). let same : c.0 ≡ 1 = cc in c.2 (subst (λ z. IsAmong (finish 2 z) (kill 0 2 ∷ begin 2 1 ∷ finish 2 1 ∷ [])) (sym same) (inr (inr (inl refl)))))
    (λ r. ⊎_elim (λ (e : begin 2 c.0 ≡ finish 2 1). absurd cc) (λ z. z) r)
    r)
    b
