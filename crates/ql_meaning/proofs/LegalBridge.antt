-- What the lines so far tell is what the world holds.
use Rattle.std.proofs.Common.{◌≡◌, ◌⊎◌, ℕ, suc, ◌+◌, ◌<◌, ◌≤◌, ◌==◌, true, false, List, [], ◌∷◌, length, Option, Some, None, refl, sym, ap, ◌∙◌, subst, ⊎_elim, arith, eq-eqb, ne_eqb}
use Rattle.std.specs.Prelude.{if◌then◌else◌, map, option_map}
use Rattle.ql_base.specs.declared.limits.Limits.{Limits}
use Rattle.ql_expand.specs.Core.{Program}
use Rattle.ql_world.specs.declared.event.Event.{Event}
use Rattle.ql_world.specs.declared.event.Event.TheVariants.{Opened as opened, Protect as protect}
use Rattle.ql_world.specs.World.{Call, World, numbered, catch_at}
use Rattle.ql_world.specs.declared.world.Aim.{Aim}
use Rattle.ql_world.specs.declared.world.Aim.TheVariants.{Free as free, To as to, Die as die}
use Rattle.ql_world.specs.declared.world.Catch.{Catch}
use Rattle.ql_world.specs.declared.world.Process.{Process}
use Rattle.ql_world.specs.Within.{is_over, is_die, is_within}
use Rattle.ql_world.specs.Idle.{current_of}
use Rattle.ql_meaning.specs.Control.{Thread, Closure}
use Rattle.ql_meaning.specs.Legal.{IsAmong, Owns, IsWithin}
use Rattle.ql_meaning.specs.Sane.{without_turns, protector, is_begun, is_finished, InProgress, Sane}
use Rattle.ql_meaning.specs.Sane as saw
use Rattle.ql_meaning.specs.Bridge.{LinesTell}
use Rattle.ql_meaning.specs.Laws.{IsReached}
use Rattle.ql_meaning.proofs.Lists.{cases, some_same, numbered_mapped, numbered_of_mapped, map_length}
use Rattle.ql_meaning.proofs.LegalLines.{Person, persons_in, opens_in, person_of, opening_of, over_in, owner_in, Fine, Knows}
use Rattle.ql_meaning.proofs.LegalKills.{over_is, owner_is}
use Rattle.ql_meaning.proofs.Over.{catch_low}
use Rattle.ql_meaning.proofs.LegalAmong.{is_turn, among_news, among_all, EachNews, each_news, sends_now, takes_now, replies_now}
use Rattle.ql_meaning.proofs.LegalPast.{HasPerson, IsDead, IsEnded, HomeIs, killed_is_dead, dead_was_killed, ended_well_is_ended, ended_killed_is_ended, ended_has_end, at_home, has_home, home_low, over_told, over_tells, owner_tells, protect_told, protector_tells, begin_told, begun_tells}
use Rattle.ql_meaning.proofs.LegalLaws.{home_map, owns_map, over_map, kill_map, end_map}
use Rattle.ql_meaning.proofs.LegalRuns.{all_told, sane_along}

-- what is told of a catch
entry_in : List (ℕ × ℕ) → ℕ → Option (ℕ × ℕ)
entry_in [] c = None
entry_in (o ∷ os) c = if c == length os then Some o else entry_in os c

entry_is : (cs : List Catch) (c : ℕ) → entry_in (map opening_of cs) c ≡ option_map opening_of (catch_at cs c)
unfolding entry_in
entry_is [] c = refl
entry_is (k ∷ cs) c =
    let len : length (map opening_of cs) ≡ length cs = map_length opening_of cs in
    ⊎_elim
    (λ (t : (c == length cs) ≡ true). rw (len, t) refl)
    (λ (t : (c == length cs) ≡ false). rw (len, t) (entry_is cs c))
    (cases (c == length cs))

opened_entry : (es : List Event) (p c d : ℕ) → EachNews es → IsAmong (opened p c d) es → (entry_in (opens_in es) c ≡ Some (p, d)) × (c < length (opens_in es))
unfolding entry_in
opened_entry [] p c d k a = absurd a
opened_entry (e ∷ es) p c d k a =
    ⊎_elim
    (λ (t : opened p c d ≡ e). subst (λ z. (entry_in (opens_in (z ∷ es)) c ≡ Some (p, d)) × (c < length (opens_in (z ∷ es)))) t (now (subst (λ z. Fine z es) (sym t) k.0)))
    (λ t. beyond e (opened_entry es p c d k.1 t))
    a
  where
    now : Fine (opened p c d) es → (entry_in ((p, d) ∷ opens_in es) c ≡ Some (p, d)) × (c < suc (length (opens_in es)))
    now v = let is = v.2 in let t : (c == length (opens_in es)) ≡ true = eq-eqb _ _ is in (rw t refl, omega (arith, is))

    beyond : (e : Event) → (entry_in (opens_in es) c ≡ Some (p, d)) × (c < length (opens_in es)) → (entry_in (opens_in (e ∷ es)) c ≡ Some (p, d)) × (c < length (opens_in (e ∷ es)))
    beyond (opened r g h) o = let l = o.1 in let n : (c == length (opens_in es)) ≡ false = ne_eqb _ _ (λ z. omega (arith, l, z)) in (rw n o.0, omega (arith, l))
    beyond l o = o

die_is : (a : Aim) → is_die a ≡ true → a ≡ die
die_is free e = absurd cc
die_is (to c x) e = absurd cc
die_is die e = refl

module _ (w : World Thread Closure) (s : Sane w) (k : Knows w.events w.procs w.catches) where
  abbrev N : List Event
  N = without_turns w.events

  each : EachNews N
  each = each_news w.events k.lines

  up : (l : Event) → is_turn l ≡ false → IsAmong l N → IsAmong l w.events
  up l n a = among_all l w.events a

  down : (l : Event) → is_turn l ≡ false → IsAmong l w.events → IsAmong l N
  down l n a = among_news l w.events n a

  person_at : (n : ℕ) (q : Process Thread) → numbered w.procs n ≡ Some q → numbered (persons_in N) n ≡ Some (person_of q)
  person_at n q e = ap (λ (z : List Person). numbered z n) k.persons ∙ numbered_mapped person_of w.procs n q e

  at_person : (F : Person → Type 0) (n : ℕ) → HasPerson F n N → (q : Process Thread) × (numbered w.procs n ≡ Some q) × F (person_of q)
  at_person F n h =
      let o = numbered_of_mapped person_of w.procs n h.0 (ap (λ (z : List Person). numbered z n) (sym k.persons) ∙ h.1) in
      (o.0, o.1, subst F o.2 h.2)

  same_person : (F : Person → Type 0) (n : ℕ) (q : Process Thread) → numbered w.procs n ≡ Some q → HasPerson F n N → F (person_of q)
  same_person F n q e h = subst F (some_same (sym h.1 ∙ person_at n q e)) h.2

  over_same : (c d : ℕ) → over_in (opens_in N) c d ≡ is_over w.catches c d
  over_same c d = ap (λ (z : List (ℕ × ℕ)). over_in z c d) k.opens ∙ over_is w.catches c d

  opened_told : (p c d : ℕ) → IsAmong (opened p c d) w.events → (j : Catch) × (catch_at w.catches c ≡ Some j) × (j.owner ≡ p) × (j.enclosing ≡ d)
  opened_told p c d a =
      let e = (opened_entry N p c d each (down (opened p c d) refl a)).0 in
      of_catch (catch_at w.catches c) refl (sym (entry_is w.catches c) ∙ ap (λ (z : List (ℕ × ℕ)). entry_in z c) (sym k.opens) ∙ e)
    where
      of_catch : (o : Option Catch) → catch_at w.catches c ≡ o → option_map opening_of o ≡ Some (p, d) → (j : Catch) × (catch_at w.catches c ≡ Some j) × (j.owner ≡ p) × (j.enclosing ≡ d)
      of_catch None i e = absurd cc
      of_catch (Some j) i e = let same : (j.owner, j.enclosing) ≡ (p, d) = some_same e in (j, i, ap (λ z. z.0) same, ap (λ z. z.1) same)

  within_told : (n : ℕ) (q : Process Thread) (c : ℕ) → numbered w.procs n ≡ Some q → IsWithin w.events n c → is_within w.catches q c ≡ true
  within_told n q c e i =
      let h = at_home N n i.0 each (home_map w.events N down n i.0 i.1) in
      let home : q.home ≡ i.0 = same_person (HomeIs i.0) n q e h in
      let low : i.0 < length (opens_in N) = subst (λ z. z < length (opens_in N)) h.2 (home_low N n h.0 each h.1) in
      let o : over_in (opens_in N) c i.0 ≡ true = over_told N c i.0 each (over_map w.events N down c i.0 i.2) low in
      subst (λ z. is_over w.catches c z ≡ true) (sym home) (sym (over_same c i.0) ∙ o)

  within_tells : (n : ℕ) (q : Process Thread) (c : ℕ) → numbered w.procs n ≡ Some q → is_within w.catches q c ≡ true → IsWithin w.events n c
  within_tells n q c e i = (q.home, home_map N w.events up n q.home (has_home N n (person_of q) each (person_at n q e)), over_map N w.events up c q.home (over_tells N c q.home each (over_same c q.home ∙ i)))

  protect_tells : (u : ℕ) → 0 < u → u ≤ w.protects → (p : ℕ) × IsAmong (protect p u) w.events
  protect_tells u l h =
      ⊎_elim
      (λ t. let m = (s.protects.held t.process t.by t.stage u t.is t.holds).mine in (t.process, up _ refl (protector_tells N t.process u m)))
      (λ t. let b = begun_tells N u t.0 in let m = (begin_told N b.0 u each b.1).1 in (b.0, up _ refl (protector_tells N b.0 u m)))
      (s.protects.placed u l h)

  protect_made : (u p : ℕ) → IsAmong (protect p u) w.events → (0 < u) × (u ≤ w.protects)
  protect_made u p a =
      let t = protect_told N p u each (down (protect p u) refl a) in (
        t.1,
        ⊎_elim
            (λ (l : w.protects < u). let bad : Some p ≡ None = sym t.0 ∙ (s.protects.unmade u l).0 in absurd cc)
            (λ l. l)
            (by_order w.protects u),
      )
    where
      by_order : (a b : ℕ) → (a < b) ⊎ (b ≤ a)
      by_order a b = grind arith

  answers : (o : Option Call) (taken replied : ℕ) → InProgress o taken replied → replied + length (current_of o) ≡ taken
  answers None taken replied h = omega (arith, h)
  answers (Some c) taken replied h = let e = h.1 in omega (arith, e)

  pub lines_tell : LinesTell w
  lines_tell = record {
    homes = λ n q e. home_map N w.events up n q.home (has_home N n (person_of q) each (person_at n q e));
    spawned = λ n h a. at_person (HomeIs h) n (at_home N n h each (home_map w.events N down n h a));
    killed = λ n q e. ((λ a. die_is q.aim (same_person IsDead n q e (killed_is_dead N a.0 n each (down _ refl a.1)))), (λ d. kill_map N w.events up n (dead_was_killed N n (person_of q) (person_at n q e) (ap is_die d))));
    ended = λ n q e. ((λ a. same_person IsEnded n q e (⊎_elim (λ t. ended_well_is_ended N n t.0 each (down _ refl t.1)) (λ t. ended_killed_is_ended N n each (down _ refl t)) a)), (λ d. end_map N w.events up n (ended_has_end N n (person_of q) (person_at n q e) d)));
    owners = λ c j e. owns_map N w.events up j.owner c (subst (λ z. Owns N z c) (ap (λ (z : List (ℕ × ℕ)). owner_in z c) k.opens ∙ owner_is w.catches c j e) (owner_tells N c each (let l = catch_low w.catches c j e in let z : length (opens_in N) ≡ length w.catches = ap length k.opens ∙ map_length opening_of w.catches in omega (arith, l, z))));
    opens = opened_told;
    within = λ n q c e. ((λ i. within_told n q c e i), (λ i. within_tells n q c e i));
    protects = λ u. ((λ a. protect_made u a.0 a.1), (λ h. protect_tells u h.0 h.1));
    sent = λ j t e. sends_now j w.events ∙ sym (s.servers.calls j t e).sent;
    taken = λ j t e. ap (λ z. z + length t.queue) (takes_now j w.events) ∙ (s.servers.calls j t e).all;
    answered = λ j t e. ap (λ z. z + length (current_of t.current)) (replies_now j w.events) ∙ answers t.current (saw.takes j N) (saw.replies j N) (s.servers.calls j t e).progress ∙ sym (takes_now j w.events);
  }

pub all_lines_tell : (names : List (List ℕ)) (p : Program) (limits : Limits) (schedule : List ℕ) (w : World Thread Closure) → IsReached names p limits schedule w → LinesTell w
all_lines_tell names p limits schedule w r =
    let s = sane_along names p limits in
    lines_tell w (s schedule w r) (all_told names p limits s schedule w r).known
