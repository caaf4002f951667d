-- Ticks that are counted, and the kills after an exit or a throw.
use Rattle.std.proofs.Common.{◌≡◌, ◌≢◌, ℕ, zero, suc, ◌==◌, true, false, not, List, [], ◌∷◌, length, drop, Option, Some, None, refl, sym, ap, ◌∙◌, subst, ⊎_elim, eqb-true, ◌+◌, ◌++◌, arith}
use Rattle.std.specs.Prelude.{◌&&◌, map, slice_get, replicate}
use Rattle.ql_world.specs.Event.{with_tick}
use Rattle.ql_world.specs.declared.event.Event.{Event}
use Rattle.ql_world.specs.declared.event.Event.TheVariants.{Turn as turn, Kill as kill}
use Rattle.ql_world.specs.World.{ProcessClosure, World, change, numbered, change_numbered, catch_at, closed, with_event}
use Rattle.ql_world.specs.declared.world.Aim.TheVariants.{Die as die}
use Rattle.ql_world.specs.declared.world.Catch.{Catch}
use Rattle.ql_world.specs.declared.world.Kind.{Kind}
use Rattle.ql_world.specs.declared.world.Kind.TheVariants.{Main as main, Child as child, Closure as serving}
use Rattle.ql_world.specs.declared.world.Process.{Process}
use Rattle.ql_world.specs.Within.{is_over, is_live, is_within}
use Rattle.ql_world.specs.Machine.{Machine}
use Rattle.ql_world.specs.Idle.{unwinds_at, abandoned, abandoned_server, killed_if_within, killed_among}
use Rattle.ql_meaning.specs.Sane.{without_turns}
use Rattle.ql_meaning.proofs.Lists.{cases, apart, both_true, not_true, some_same, numbered_unchanged, map_changed, numbered_mapped, changed_length, map_length}
use Rattle.ql_meaning.proofs.LegalLines.{Person, with_death, persons_in, opens_in, person_of, opening_of, over_in, owner_in, is_due, due_from, due, Calm, IsVictim, Each, spelled_by}

-- turns

pub news_of_tick : (p : ℕ) (es : List Event) → without_turns (with_tick p es) ≡ without_turns es
news_of_tick p [] = refl
news_of_tick p (turn q n ∷ es) = ⊎_elim (λ (t : (p == q) ≡ true). rw t refl) (λ (t : (p == q) ≡ false). rw t refl) (cases (p == q))
news_of_tick p (e ∷ es) = refl

pub each_of_tick : (p : ℕ) (es : List Event) → Calm (without_turns es) → Each es → Each (with_tick p es)
each_of_tick p [] c k = (c, k)
each_of_tick p (turn q n ∷ es) c k = ⊎_elim (λ (t : (p == q) ≡ true). rw t (k.0, k.1)) (λ (t : (p == q) ≡ false). rw t (c, k)) (cases (p == q))
each_of_tick p (e ∷ es) c k = (c, k)

-- a tick more is spelled
pub spelled_of_tick : (p : ℕ) (es : List Event) → spelled_by (with_tick p es) ≡ p ∷ spelled_by es
spelled_of_tick p [] = refl
spelled_of_tick p (turn q n ∷ es) =
    ⊎_elim
    (λ (t : (p == q) ≡ true).
    let same : p ≡ q = eqb-true p q t in
    let more : n + 1 ≡ suc n = omega arith in
    let spelled : replicate (n + 1) q ++ spelled_by es ≡ q ∷ (replicate n q ++ spelled_by es) = ap (λ (z : ℕ). replicate z q ++ spelled_by es) more in
    rw t (spelled ∙ ap (λ z. z ∷ (replicate n q ++ spelled_by es)) (sym same)))
    (λ (t : (p == q) ≡ false). rw t refl)
    (cases (p == q))
spelled_of_tick p (e ∷ es) = refl

-- catches as the lines tell them

pub over_is : (cs : List Catch) (c d : ℕ) → over_in (map opening_of cs) c d ≡ is_over cs c d
over_is [] c d = refl
over_is (k ∷ cs) c d =
    let len : length (map opening_of cs) ≡ length cs = map_length opening_of cs in
    rw (len, over_is cs c k.enclosing, over_is cs c d) refl

pub owner_is : (cs : List Catch) (c : ℕ) (k : Catch) → catch_at cs c ≡ Some k → owner_in (map opening_of cs) c ≡ k.owner
owner_is [] c k e = absurd cc
owner_is (j ∷ cs) c k e =
    let len : length (map opening_of cs) ≡ length cs = map_length opening_of cs in
    ⊎_elim
    (λ (t : (c == length cs) ≡ true). let same : Some j ≡ Some k = rw t at e in rw (len, t) (ap (λ (z : Catch). z.owner) (some_same same)))
    (λ (t : (c == length cs) ≡ false). rw (len, t) (owner_is cs c k (rw t at e)))
    (cases (c == length cs))

pub opens_of_closed : (cs : List Catch) (c : ℕ) → map opening_of (closed cs c) ≡ map opening_of cs
opens_of_closed [] c = refl
opens_of_closed (k ∷ cs) c =
    ⊎_elim
    (λ (t : (c == length cs) ≡ true). rw t refl)
    (λ (t : (c == length cs) ≡ false). rw t (ap (λ os. opening_of k ∷ os) (opens_of_closed cs c)))
    (cases (c == length cs))

-- lists

module _ {A : Type 0} where
  drop_get : (xs : List A) (n : ℕ) (x : A) → slice_get xs n ≡ Some x → drop n xs ≡ x ∷ drop (suc n) xs
  drop_get [] n x e = absurd cc
  drop_get (y ∷ xs) zero x e = ap (λ z. z ∷ xs) (some_same e)
  drop_get (y ∷ xs) (suc n) x e = drop_get xs n x e

  drop_none : (xs : List A) (n : ℕ) → slice_get xs n ≡ None → drop n xs ≡ []
  drop_none [] zero e = refl
  drop_none [] (suc n) e = refl
  drop_none (y ∷ xs) zero e = absurd cc
  drop_none (y ∷ xs) (suc n) e = drop_none xs n e

  drop_one : (xs : List A) (n : ℕ) → drop 1 (drop n xs) ≡ drop (suc n) xs
  drop_one [] zero = refl
  drop_one [] (suc n) = refl
  drop_one (y ∷ xs) zero = refl
  drop_one (y ∷ xs) (suc n) = drop_one xs n

  drop_changed : (g : A → A) (xs : List A) (n : ℕ) → drop (suc n) (change g xs n) ≡ drop (suc n) xs
  drop_changed g [] n = refl
  drop_changed g (y ∷ xs) zero = refl
  drop_changed g (y ∷ xs) (suc n) = drop_changed g xs n

  drop_all : (xs : List A) → drop (length xs) xs ≡ []
  drop_all [] = refl
  drop_all (y ∷ xs) = drop_all xs

-- kills

-- after the first n processes were looked at
pub record Killing {P : Type 0} (c owner : ℕ) (cs0 : List Catch) (ps0 : List Person) (n : ℕ) (es : List Event) (ps : List (Process P)) (cs : List Catch) : Type 0 where
  pub persons : persons_in (without_turns es) ≡ map person_of ps
  pub opens : opens_in (without_turns es) ≡ map opening_of cs0
  pub catches : cs ≡ cs0
  pub lines : Each es
  pub left : due (without_turns es) ≡ map (λ q. (c, q)) (due_from (map opening_of cs0) c owner (suc n) (drop n ps0))
  pub rest : drop n (map person_of ps) ≡ drop n ps0
  pub kept : numbered (map person_of ps) owner ≡ numbered ps0 owner
  pub count : length ps ≡ length ps0

module _ {P K : Type 0} (m : Machine P K) where
  -- what waits for a killed process is no matter of processes, catches and events
  pub abandoned_keeps : (F : List Event → List (Process P) → List Catch → Type 0) (w : World P K) (kind : Kind) → F w.events w.procs w.catches → F (abandoned m w kind).events (abandoned m w kind).procs (abandoned m w kind).catches
  abandoned_keeps F w main h = h
  abandoned_keeps F w (child f) h = h
  abandoned_keeps F w (serving k) h = server (numbered w.servers k)
    where
      server : (o : Option (ProcessClosure K)) → F (abandoned_server m w k o).events (abandoned_server m w k o).procs (abandoned_server m w k o).catches
      server None = h
      server (Some s) = h

  module _ (c owner : ℕ) (cs0 : List Catch) (ps0 : List Person) where
    abbrev Is : ℕ → World P K → Type 0
    Is n w = Killing c owner cs0 ps0 n w.events w.procs w.catches

    one_killed : (n : ℕ) (w : World P K) → Is n w → (o : Option (Process P)) → numbered w.procs (suc n) ≡ o → Is (suc n) (killed_if_within m w c owner (suc n) o)
    one_killed n w k None e =
        let none : slice_get (map person_of w.procs) n ≡ None = no_mapped w.procs n e in
        let gone : drop n ps0 ≡ [] = sym k.rest ∙ drop_none _ n none in
        let gone_too : drop (suc n) ps0 ≡ [] = sym (drop_one ps0 n) ∙ ap (λ (z : List Person). drop 1 z) gone in
        record {
          persons = k.persons;
          opens = k.opens;
          catches = k.catches;
          lines = k.lines;
          left = k.left ∙ ap (λ (z : List Person). map (λ q. (c, q)) (due_from (map opening_of cs0) c owner (suc n) z)) gone ∙ sym (ap (λ (z : List Person). map (λ q. (c, q)) (due_from (map opening_of cs0) c owner (suc (suc n)) z)) gone_too);
          rest = sym (drop_one _ n) ∙ ap (λ (z : List Person). drop 1 z) k.rest ∙ drop_one _ n;
          kept = k.kept;
          count = k.count;
        }
      where
        no_mapped : (qs : List (Process P)) (n : ℕ) → slice_get qs n ≡ None → slice_get (map person_of qs) n ≡ None
        no_mapped [] n e = refl
        no_mapped (q ∷ qs) zero e = absurd cc
        no_mapped (q ∷ qs) (suc n) e = no_mapped qs n e
    one_killed n w k (Some q) e =
        let here : slice_get (map person_of w.procs) n ≡ Some (person_of q) = numbered_mapped person_of w.procs (suc n) q e in
        let split : drop n ps0 ≡ person_of q ∷ drop (suc n) ps0 = sym k.rest ∙ drop_get _ n _ here ∙ ap (λ (z : List Person). person_of q ∷ z) rest_too in
        let over : over_in (map opening_of cs0) c q.home ≡ is_over w.catches c q.home = subst (λ (z : List Catch). over_in (map opening_of z) c q.home ≡ is_over w.catches c q.home) k.catches (over_is w.catches c q.home) in
        ⊎_elim
        (λ (t : (is_live q && (is_within w.catches q c && not (suc n == owner))) ≡ true).
        let live : is_live q ≡ true = (both_true _ _ t).0 in
        let due_true : is_due (map opening_of cs0) c owner (suc n) (person_of q) ≡ true = rw over t in
        let next : due (without_turns w.events) ≡ (c, suc n) ∷ map (λ q. (c, q)) (due_from (map opening_of cs0) c owner (suc (suc n)) (drop (suc n) ps0)) =
        k.left ∙ ap (λ (z : List Person). map (λ q. (c, q)) (due_from (map opening_of cs0) c owner (suc n) z)) split ∙ (rw due_true refl) in
        let victim : IsVictim c (suc n) (without_turns w.events) = record {
          rest = map (λ q. (c, q)) (due_from (map opening_of cs0) c owner (suc (suc n)) (drop (suc n) ps0));
          is_next = next;
          person = person_of q;
          is = subst (λ (z : List Person). numbered z (suc n) ≡ Some (person_of q)) (sym k.persons) here;
          not_dead = not_true _ (both_true _ _ live).1;
          not_ended = not_true _ (both_true _ _ live).0;
        } in
        let other : owner ≢ suc n = λ z. apart (suc n) owner (not_true _ (both_true _ _ (both_true _ _ t).1).1) (sym z) in
        let changed : map person_of (change_numbered (λ r. record r { aim = die; thread = unwinds_at m r.thread }) w.procs (suc n)) ≡ change_numbered with_death (map person_of w.procs) (suc n) = map_changed person_of _ with_death (λ r. refl) w.procs (suc n) in
        let done : Is (suc n) (with_event (record w { procs = change_numbered (λ r. record r { aim = die; thread = unwinds_at m r.thread }) w.procs (suc n) }) (kill c (suc n))) = record {
          persons = ap (λ (z : List Person). change_numbered with_death z (suc n)) k.persons ∙ sym changed;
          opens = k.opens;
          catches = k.catches;
          lines = (victim, k.lines);
          left = ap (λ (z : List (ℕ × ℕ)). drop 1 z) next;
          rest = ap (λ (z : List Person). drop (suc n) z) changed ∙ drop_changed with_death (map person_of w.procs) n ∙ rest_too;
          kept = ap (λ (z : List Person). numbered z owner) changed ∙ numbered_unchanged with_death (map person_of w.procs) (suc n) owner other ∙ k.kept;
          count = changed_length _ w.procs (suc n) ∙ k.count;
        } in
        rw t (abandoned_keeps (Killing c owner cs0 ps0 (suc n)) _ q.kind done))
        (λ (t : (is_live q && (is_within w.catches q c && not (suc n == owner))) ≡ false).
        let due_false : is_due (map opening_of cs0) c owner (suc n) (person_of q) ≡ false = rw over t in
        let done : Is (suc n) w = record {
          persons = k.persons;
          opens = k.opens;
          catches = k.catches;
          lines = k.lines;
          left = k.left ∙ ap (λ (z : List Person). map (λ q. (c, q)) (due_from (map opening_of cs0) c owner (suc n) z)) split ∙ (rw due_false refl);
          rest = rest_too;
          kept = k.kept;
          count = k.count;
        } in
        rw t done)
        (cases (is_live q && (is_within w.catches q c && not (suc n == owner))))
      where
        rest_too : drop (suc n) (map person_of w.procs) ≡ drop (suc n) ps0
        rest_too = sym (drop_one _ n) ∙ ap (λ (z : List Person). drop 1 z) k.rest ∙ drop_one _ n

    pub all_killed : (n : ℕ) (w : World P K) → Is 0 w → Is n (killed_among m w c owner n)
    all_killed zero w k = k
    all_killed (suc n) w k = one_killed n (killed_among m w c owner n) (all_killed n w k) (numbered (killed_among m w c owner n).procs (suc n)) refl

  mark_of_abandoned : (w : World P K) (kind : Kind) → (abandoned m w kind).mark ≡ w.mark
  mark_of_abandoned w main = refl
  mark_of_abandoned w (child f) = refl
  mark_of_abandoned w (serving k) = server (numbered w.servers k)
    where
      server : (o : Option (ProcessClosure K)) → (abandoned_server m w k o).mark ≡ w.mark
      server None = refl
      server (Some s) = refl

  mark_of_one : (w : World P K) (c owner n : ℕ) (o : Option (Process P)) → (killed_if_within m w c owner n o).mark ≡ w.mark
  mark_of_one w c owner n None = refl
  mark_of_one w c owner n (Some q) =
      ⊎_elim
      (λ (t : (is_live q && (is_within w.catches q c && not (n == owner))) ≡ true). rw t (mark_of_abandoned _ q.kind))
      (λ (t : (is_live q && (is_within w.catches q c && not (n == owner))) ≡ false). rw t refl)
      (cases (is_live q && (is_within w.catches q c && not (n == owner))))

  pub mark_of_killed : (w : World P K) (c owner n : ℕ) → (killed_among m w c owner n).mark ≡ w.mark
  mark_of_killed w c owner zero = refl
  mark_of_killed w c owner (suc n) = mark_of_one (killed_among m w c owner n) c owner (suc n) (numbered (killed_among m w c owner n).procs (suc n)) ∙ mark_of_killed w c owner n

  spelled_of_abandoned : (w : World P K) (kind : Kind) → spelled_by (abandoned m w kind).events ≡ spelled_by w.events
  spelled_of_abandoned w main = refl
  spelled_of_abandoned w (child f) = refl
  spelled_of_abandoned w (serving k) = server (numbered w.servers k)
    where
      server : (o : Option (ProcessClosure K)) → spelled_by (abandoned_server m w k o).events ≡ spelled_by w.events
      server None = refl
      server (Some s) = refl

  spelled_of_one : (w : World P K) (c owner n : ℕ) (o : Option (Process P)) → spelled_by (killed_if_within m w c owner n o).events ≡ spelled_by w.events
  spelled_of_one w c owner n None = refl
  spelled_of_one w c owner n (Some q) =
      ⊎_elim
      (λ (t : (is_live q && (is_within w.catches q c && not (n == owner))) ≡ true). rw t (spelled_of_abandoned (with_event (record w { procs = change_numbered (λ r. record r { aim = die; thread = unwinds_at m r.thread }) w.procs n }) (kill c n)) q.kind))
      (λ (t : (is_live q && (is_within w.catches q c && not (n == owner))) ≡ false). rw t refl)
      (cases (is_live q && (is_within w.catches q c && not (n == owner))))

  pub spelled_of_killed : (w : World P K) (c owner n : ℕ) → spelled_by (killed_among m w c owner n).events ≡ spelled_by w.events
  spelled_of_killed w c owner zero = refl
  spelled_of_killed w c owner (suc n) = spelled_of_one (killed_among m w c owner n) c owner (suc n) (numbered (killed_among m w c owner n).procs (suc n)) ∙ spelled_of_killed w c owner n
