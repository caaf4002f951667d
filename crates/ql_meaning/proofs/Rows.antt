-- Rows of one process on the outline: protects, catches, throws.
use Rattle.std.proofs.Common.{◌≡◌, ◌≢◌, ◌⊎◌, ℕ, ◌+◌, ◌<◌, ◌≤◌, Bool, true, false, List, [], ◌∷◌, length, Some, refl, sym, ap, ◌∙◌, subst, ⊎_elim, inl, inr, arith}
use Rattle.std.specs.Prelude.{if◌then◌else◌, not, ◌&&◌, pred}
use Rattle.ql_world.specs.declared.word.Word.{Word}
use Rattle.ql_world.specs.declared.event.Event.{Event}
use Rattle.ql_world.specs.declared.event.Event.TheVariants.{Protect as protect, Begin as begin, Finish as finish, Land as land}
use Rattle.ql_world.specs.World.{numbered, closed}
use Rattle.ql_world.specs.declared.world.Aim.{Aim}
use Rattle.ql_world.specs.declared.world.Aim.TheVariants.{Free as free, To as to, Die as die}
use Rattle.ql_world.specs.Within.{is_over, is_live, is_within, is_die, is_free}
use Rattle.ql_world.specs.declared.world.Cleanup.{Cleanup}
use Rattle.ql_world.specs.Idle.{acting, in_cleanup}
use Rattle.ql_meaning.specs.Sane.{Mark, catch_mark, protect_mark, cleanup_mark, base_mark, Doing, works, unwinds, rests, Seen, Outline, innermost_or, Stands, Chained, cleanups_of, StandsAbove, Among, Aims, Floors, LowFloors, is_unwinding, Based, WorkSane, SaneOutline}
use Rattle.ql_meaning.proofs.Lists.{cases, not_both, put}
use Rattle.ql_meaning.proofs.Over.{over_over}
use Rattle.ql_meaning.proofs.Marks.{aim_marks, Near, chained_open, innermost_low, stands_under, home_over_frames, stands_in_line, aims_less, aims_free, aims_landed, aims_inner, aims_to, floors_less, aim_acts, aim_stands, aim_above, aim_chained, aim_floors, aim_low, aim_based, aim_holds, aim_rising}
use Rattle.ql_meaning.proofs.Kept.{QuietHomes, QuietProtects, QuietCalls, home_self, homes_kept, HoldsSame, holds_self, protects_kept, Kin, kin_self, servers_kept, futures_kept, told_self, point_told}
use Rattle.ql_meaning.proofs.Calm.{deny, Nobody, Calm, calm_kept, quiet_kept, popped, left_kept}
use Rattle.ql_meaning.proofs.Protects.{protect_made, protect_begun, protect_finished}
use Rattle.ql_meaning.proofs.Kill.{SaneBut, Dying, slain, stopped}

-- the process with other marks
abbrev pub stand : Seen → List Mark → Doing → Seen
stand q ms d = record q { thread = record { marks = ms; doing = d } }

pub works_rest : works ≡ rests → ⊥
works_rest z = absurd cc

pub unwinds_rest : unwinds ≡ rests → ⊥
unwinds_rest z = absurd cc

pub works_unwind : works ≡ unwinds → ⊥
works_unwind z = absurd cc

pub quiet_homes : (es : List Event) → QuietHomes es es
quiet_homes es = record { opens = record { opened = λ c t. t; homes = λ t. t }; home = λ p. refl; catch = λ c. refl; killed = λ p. refl; ended = λ p. refl }

pub quiet_protects : (es : List Event) → QuietProtects es es
quiet_protects es = record { begun = λ u. refl; finished = λ u. refl; protector = λ u. refl }

pub quiet_calls : (es : List Event) → QuietCalls es es
quiet_calls es = record { sends = λ k. refl; takes = λ k. refl; replies = λ k. refl }

-- an event that no point speaks of
module _ (o : Outline) (s : SaneOutline o) (es : List Event) where
  abbrev told : Outline
  told = record o { events = es }

  pub told_kept : QuietHomes o.events es → QuietProtects o.events es → QuietCalls o.events es → SaneOutline told
  told_kept homes protects calls = record {
    homes = homes_kept o told s.homes refl (λ p r e. (r, e, home_self p r)) homes.opens (λ c j e. (j, e, refl, refl));
    catches = record { chained = s.catches.chained; stands = s.catches.stands; bare = s.catches.bare };
    empty = record { closed = s.empty.closed; fresh = s.empty.fresh };
    aims = record { dying = s.aims.dying; leaving = s.aims.leaving; aims = s.aims.aims; floors = s.aims.floors; low_floors = s.aims.low_floors };
    work = s.work;
    protects = protects_kept o told s.protects refl (λ p r e. (r, e, holds_self p r)) (λ p r e. (r, e, holds_self p r)) protects;
    servers = servers_kept o o.catches o.procs o.protects es (λ p r e. (r, e, kin_self p r)) (λ p r e. (r, e, kin_self p r)) s.servers calls;
    futures = futures_kept o o.catches o.procs o.protects es (λ p r e. (r, e, kin_self p r)) (λ p r e. (r, e, kin_self p r)) s.futures;
    told = point_told o told s.told refl refl (λ p r e. (r, e, told_self p r)) (λ c j e. (j, e, refl, refl)) homes;
  }

module _ (o : Outline) (s : SaneOutline o) (p : ℕ) (q : Seen) (at : numbered o.procs p ≡ Some q) (going : q.ended ≡ false) where
  abbrev w : WorkSane q
  w = s.work p q at going

  kin : (ms : List Mark) (d : Doing) → (d ≡ rests → ⊥) → Kin p q (stand q ms d)
  kin ms d n = record { kind = refl; ended = refl; dying = refl; resting = λ e. absurd (n e) }

  -- protects

  pub row_protect : q.thread.doing ≡ works → SaneOutline (record o { procs = put o.procs p (stand q (protect_mark (o.protects + 1) ∷ q.thread.marks) works); protects = o.protects + 1; events = protect p (o.protects + 1) ∷ o.events })
  row_protect at_work =
      calm_kept o s p q at r calm (o.protects + 1) (protect p (o.protects + 1) ∷ o.events)
      (record { opens = record { opened = λ c t. t; homes = λ t. t }; home = λ p. refl; catch = λ c. refl; killed = λ p. refl; ended = λ p. refl })
      (record { sends = λ k. refl; takes = λ k. refl; replies = λ k. refl })
      (protect_made o s.protects p q at r refl)
    where
      r : Seen
      r = stand q (protect_mark (o.protects + 1) ∷ q.thread.marks) works

      calm : Calm o o.catches p q r
      calm = record {
        alike = record { home = refl; live = λ l. l; chained = λ k. k; stands = λ c t. t; stood = λ c t. t; above = λ c t. t; bare = λ e f. absurd (not_both e going) };
        kin = kin (protect_mark (o.protects + 1) ∷ q.thread.marks) works works_rest;
        going = going;
        dying = λ e. e;
        leaving = λ c x e. inl e;
        aims = s.aims.aims p q at;
        floors = s.aims.floors p q at;
        low = s.aims.low_floors p q at;
        work = record { unwinding = ap is_unwinding (sym at_work) ∙ w.unwinding; based = w.based; resting = λ e. absurd (works_rest e) };
      }

  module _ (u : ℕ) (ms : List Mark) (was : q.thread.marks ≡ protect_mark u ∷ ms) where
    abbrev begun : Cleanup
    begun = record { aim = free; floor = pred (length o.catches) }

    pub row_begin : SaneOutline (record o { procs = put o.procs p (stand q (cleanup_mark u begun ∷ ms) works); events = begin p u ∷ o.events })
    row_begin =
        calm_kept o s p q at r calm o.protects (begin p u ∷ o.events)
        (record { opens = record { opened = λ c t. t; homes = λ t. t }; home = λ p. refl; catch = λ c. refl; killed = λ p. refl; ended = λ p. refl })
        (record { sends = λ k. refl; takes = λ k. refl; replies = λ k. refl })
        (protect_begun o s.protects p q at r u ms was begun refl)
      where
        r : Seen
        r = stand q (cleanup_mark u begun ∷ ms) works

        chained : Chained o.catches p q.home (protect_mark u ∷ ms)
        chained = subst (Chained o.catches p q.home) was (s.catches.chained p q at)

        inner : innermost_or q.home ms < length o.catches
        inner = innermost_low o.catches p q.home ms (s.homes.made p q at) chained

        floor_high : innermost_or q.home ms ≤ pred (length o.catches)
        floor_high = let l = inner in omega (arith, l)

        floor_low : pred (length o.catches) < length o.catches
        floor_low = let l = inner in omega (arith, l)

        calm : Calm o o.catches p q r
        calm = record {
          alike = record {
            home = refl;
            live = λ l. l;
            chained = λ k. chained;
            stands = λ c t. subst (Stands c) was t;
            stood = λ c t. subst (Stands c) (sym was) t;
            above = λ c t. subst (StandsAbove c) (sym was) t;
            bare = λ e f. absurd (not_both e going);
          };
          kin = kin (cleanup_mark u begun ∷ ms) works works_rest;
          going = going;
          dying = λ e. e;
          leaving = λ c x e. inl e;
          aims = (tt, subst (Aims q.aim []) was (s.aims.aims p q at));
          floors = (tt, (floor_high, subst (Floors q.home []) was (s.aims.floors p q at)));
          low = (floor_low, subst (LowFloors (length o.catches)) was (s.aims.low_floors p q at));
          work = record { unwinding = refl; based = subst (Based q.kind) was w.based; resting = λ e. absurd (works_rest e) };
        }

  module _ (u : ℕ) (k : Cleanup) (ms : List Mark) (was : q.thread.marks ≡ cleanup_mark u k ∷ ms) (d : Doing) (goes_on : is_unwinding d ≡ not (is_free (acting (cleanups_of ms) q.aim))) (no_rest : d ≡ rests → ⊥) where
    pub row_finish : SaneOutline (record o { procs = put o.procs p (stand q ms d); events = finish p u ∷ o.events })
    row_finish =
        calm_kept o s p q at (stand q ms d) calm o.protects (finish p u ∷ o.events)
        (record { opens = record { opened = λ c t. t; homes = λ t. t }; home = λ p. refl; catch = λ c. refl; killed = λ p. refl; ended = λ p. refl })
        (record { sends = λ k. refl; takes = λ k. refl; replies = λ k. refl })
        (protect_finished o s.protects p q at (stand q ms d) u k ms was refl)
      where
        calm : Calm o o.catches p q (stand q ms d)
        calm = record {
          alike = record {
            home = refl;
            live = λ l. l;
            chained = λ k. subst (Chained o.catches p q.home) was k;
            stands = λ c t. subst (Stands c) was t;
            stood = λ c t. subst (Stands c) (sym was) t;
            above = λ c t. subst (StandsAbove c) (sym was) t;
            bare = λ e f. absurd (not_both e going);
          };
          kin = kin ms d no_rest;
          going = going;
          dying = λ e. e;
          leaving = λ c x e. inl e;
          aims = (subst (Aims q.aim []) was (s.aims.aims p q at)).1;
          floors = (subst (Floors q.home []) was (s.aims.floors p q at)).1.1;
          low = (subst (LowFloors (length o.catches)) was (s.aims.low_floors p q at)).1;
          work = record { unwinding = goes_on; based = subst (Based q.kind) was w.based; resting = λ e. absurd (no_rest e) };
        }

  -- a catch is left

  module _ (c : ℕ) (ms : List Mark) (was : q.thread.marks ≡ catch_mark c ∷ ms) where
    chained_was : Chained o.catches p q.home (catch_mark c ∷ ms)
    chained_was = subst (Chained o.catches p q.home) was (s.catches.chained p q at)

    -- nobody is live within a catch that the acting aim passes by or stops at
    nobody_in : is_free (acting (cleanups_of ms) q.aim) ≡ false → Nobody o c
    nobody_in n = by_cleanup (cases (in_cleanup (cleanups_of ms)))
      where
        by_own : (a : Aim) → q.aim ≡ a → in_cleanup (cleanups_of ms) ≡ false → is_free a ≡ false → Nobody o c
        by_own free e f g = absurd (not_both refl g)
        by_own die e f g = s.aims.dying p q c at e (subst (Stands c) (sym was) (inl refl))
        by_own (to d x) e f g = λ i y h l.
            let on : Among d (c ∷ []) ⊎ Stands d ms = own_stands (c ∷ []) ms (subst (λ z. Aims z [] (catch_mark c ∷ ms)) e (subst (Aims q.aim []) was (s.aims.aims p q at))) in
            let stands : Stands d (catch_mark c ∷ ms) = ⊎_elim (λ t. ⊎_elim (λ u. inl u) (λ u. absurd u) t) (λ t. inr t) on in
            let high : d ≤ c = stands_under o.catches p q.home d (catch_mark c ∷ ms) s.homes.falling chained_was stands in
            let over : is_over o.catches d c ≡ true = stands_in_line o.catches p q.home d c (catch_mark c ∷ ms) s.homes.falling chained_was stands (inl refl) high in
            deny _ (λ t. not_both (over_over o.catches d c y.home s.homes.falling over t) (s.aims.leaving p q d x at e i y h l))
          where
            own_stands : (cs : List ℕ) (ns : List Mark) → Aims (to d x) cs ns → Among d cs ⊎ Stands d ns
            own_stands cs [] a = inl a
            own_stands cs (catch_mark e ∷ ns) a = ⊎_elim (λ t. ⊎_elim (λ u. inr (inl u)) (λ u. inl u) t) (λ t. inr (inr t)) (own_stands (e ∷ cs) ns a)
            own_stands cs (protect_mark u ∷ ns) a = own_stands cs ns a
            own_stands cs (cleanup_mark u k ∷ ns) a = ⊎_elim (λ t. absurd t) (λ t. inr t) (own_stands [] ns a.1)
            own_stands cs (base_mark b ∷ ns) a = own_stands cs ns a

        acts_none : (ks : List Cleanup) → in_cleanup ks ≡ false → acting ks q.aim ≡ q.aim
        acts_none [] e = refl
        acts_none (k ∷ ks) e = absurd (not_both refl e)

        by_cleanup : (in_cleanup (cleanups_of ms) ≡ true) ⊎ (in_cleanup (cleanups_of ms) ≡ false) → Nobody o c
        by_cleanup = ⊎_elim
            (λ (t : in_cleanup (cleanups_of ms) ≡ true). λ i y h l. s.empty.fresh p q c at (subst (StandsAbove c) (sym was) (inl (refl, t))) i y h)
            (λ (t : in_cleanup (cleanups_of ms) ≡ false). by_own q.aim refl t (ap is_free (sym (acts_none (cleanups_of ms) t)) ∙ n))

    -- the process with its other marks
    module _ (a : Aim) (ns : List Mark) (d : Doing) (no_rest : d ≡ rests → ⊥) (chained : Chained (closed o.catches c) p q.home ms → Chained (closed o.catches c) p q.home ns) (stands : (e : ℕ) → Stands e ms → Stands e ns) (stood : (e : ℕ) → Stands e ns → Stands e ms) (above : (e : ℕ) → StandsAbove e ns → StandsAbove e ms) (same_dying : is_die a ≡ is_die q.aim) (dying : a ≡ die → q.aim ≡ die) (leaving : (e : ℕ) (x : Word) → a ≡ to e x → q.aim ≡ to e x) (aims : Aims a [] ns) (floors : Floors q.home [] ns) (low : LowFloors (length o.catches) ns) (unwinding : is_unwinding d ≡ not (is_free (acting (cleanups_of ns) a))) (based : Based q.kind ns) where
      abbrev moved : Seen
      moved = record q { aim = a; thread = record { marks = ns; doing = d } }

      calm_moved : Calm o (closed o.catches c) p (popped o s p q at c ms was) moved
      calm_moved = record {
        alike = record {
          home = refl;
          live = λ l. ap (λ z. not q.ended && not z) (sym same_dying) ∙ l;
          chained = chained;
          stands = stands;
          stood = stood;
          above = above;
          bare = λ e f. absurd (not_both e going);
        };
        kin = record { kind = refl; ended = refl; dying = same_dying; resting = λ e. absurd (no_rest e) };
        going = going;
        dying = dying;
        leaving = λ e x h. inl (leaving e x h);
        aims = aims;
        floors = floors;
        low = low;
        work = record { unwinding = unwinding; based = based; resting = λ e. absurd (no_rest e) };
      }

      pub row_moved : Nobody o c → HoldsSame p (popped o s p q at c ms was) moved → (es : List Event) → QuietHomes o.events es → QuietProtects o.events es → QuietCalls o.events es → SaneOutline (record o { catches = closed o.catches c; procs = put o.procs p moved; events = es })
      row_moved none holds es homes protects calls = left_kept o s p q at c ms was moved calm_moved es none holds homes protects calls

    floors_after : Floors q.home [] ms
    floors_after = floors_less (length o.catches) q.home (c ∷ []) [] ms (λ f l z. tt) low_after (subst (Floors q.home []) was (s.aims.floors p q at))
      where
        low_after : LowFloors (length o.catches) ms
        low_after = subst (LowFloors (length o.catches)) was (s.aims.low_floors p q at)

    low_after : LowFloors (length o.catches) ms
    low_after = subst (LowFloors (length o.catches)) was (s.aims.low_floors p q at)

    aims_was : Aims q.aim (c ∷ []) ms
    aims_was = subst (Aims q.aim []) was (s.aims.aims p q at)

    based_was : Based q.kind ms
    based_was = subst (Based q.kind) was w.based

    unwinding_was : is_unwinding q.thread.doing ≡ not (is_free (acting (cleanups_of ms) q.aim))
    unwinding_was = subst (λ z. is_unwinding q.thread.doing ≡ not (is_free (acting (cleanups_of z) q.aim))) was w.unwinding

    -- the catch is passed by, or left in normal course
    pub row_pass : (d : Doing) → (d ≡ rests → ⊥) → is_unwinding d ≡ is_unwinding q.thread.doing → ((x : Word) → acting (cleanups_of ms) q.aim ≡ to c x → ⊥) → Nobody o c → (es : List Event) → QuietHomes o.events es → QuietProtects o.events es → QuietCalls o.events es → SaneOutline (record o { catches = closed o.catches c; procs = put o.procs p (stand q ms d); events = es })
    row_pass d no_rest same other none es homes protects calls =
        row_moved q.aim ms d no_rest (λ k. k) (λ e t. t) (λ e t. t) (λ e t. t) refl (λ e. e) (λ e x h. h)
        (aims_less q.aim (c ∷ []) [] ms (λ e x h t. ⊎_elim (λ (u : e ≡ c). absurd (other x (subst (λ z. acting (cleanups_of ms) q.aim ≡ to z x) u h))) (λ u. u) t) aims_was)
        floors_after low_after (same ∙ unwinding_was) based_was none (record { holds = λ stage u h. h; held = λ stage u h. h; rising = λ h. h }) es homes protects calls

    pub row_leave : q.thread.doing ≡ unwinds → ((x : Word) → acting (cleanups_of ms) q.aim ≡ to c x → ⊥) → SaneOutline (record o { catches = closed o.catches c; procs = put o.procs p (stand q ms unwinds) })
    row_leave doing other = row_pass unwinds unwinds_rest (ap is_unwinding (sym doing)) other (nobody_in (not_free doing)) o.events (quiet_homes o.events) (quiet_protects o.events) (quiet_calls o.events)
      where
        not_free : q.thread.doing ≡ unwinds → is_free (acting (cleanups_of ms) q.aim) ≡ false
        not_free e = flip (is_free (acting (cleanups_of ms) q.aim)) (ap is_unwinding (sym e) ∙ unwinding_was)
          where
            flip : (b : Bool) → true ≡ not b → b ≡ false
            flip true z = absurd (not_both (sym z) refl)
            flip false z = refl

    abbrev landed_events : List Event
    landed_events = land p c ∷ o.events

    module _ (x : Word) (aimed : acting (cleanups_of ms) q.aim ≡ to c x) where
      nobody_landed : Nobody o c
      nobody_landed = nobody_in (ap is_free aimed)

      -- where it runs no cleanup, its own aim was that catch
      pub row_land : in_cleanup (cleanups_of ms) ≡ false → SaneOutline (record o { catches = closed o.catches c; procs = put o.procs p (record q { aim = free; thread = record { marks = ms; doing = works } }); events = land p c ∷ o.events })
      row_land none =
          row_moved free ms works works_rest (λ k. k) (λ e t. t) (λ e t. t) (λ e t. t) (sym (ap is_die own)) (λ e. absurd (not_free_die e)) (λ e y h. absurd (not_free_to e y h))
          (aims_free [] ms none)
          floors_after low_after (free_acts (cleanups_of ms) none) based_was nobody_landed (record { holds = λ stage u h. h; held = λ stage u h. h; rising = λ h. h }) landed_events
          (record { opens = record { opened = λ c t. t; homes = λ t. t }; home = λ p. refl; catch = λ c. refl; killed = λ p. refl; ended = λ p. refl }) (record { begun = λ u. refl; finished = λ u. refl; protector = λ u. refl }) (record { sends = λ k. refl; takes = λ k. refl; replies = λ k. refl })
        where
          acts_none : (ks : List Cleanup) → in_cleanup ks ≡ false → acting ks q.aim ≡ q.aim
          acts_none [] e = refl
          acts_none (k ∷ ks) e = absurd (not_both refl e)

          own : q.aim ≡ to c x
          own = sym (acts_none (cleanups_of ms) none) ∙ aimed

          not_free_die : free ≡ die → ⊥
          not_free_die e = absurd cc

          not_free_to : (e : ℕ) (y : Word) → free ≡ to e y → ⊥
          not_free_to e y h = absurd cc

          free_acts : (ks : List Cleanup) → in_cleanup ks ≡ false → false ≡ not (is_free (acting ks free))
          free_acts [] e = refl
          free_acts (k ∷ ks) e = absurd (not_both refl e)

      pub row_land_inside : in_cleanup (cleanups_of ms) ≡ true → SaneOutline (record o { catches = closed o.catches c; procs = put o.procs p (stand q (aim_marks free ms) works); events = land p c ∷ o.events })
      row_land_inside some =
          row_moved q.aim (aim_marks free ms) works works_rest (aim_chained free (closed o.catches c) p q.home ms)
          (λ e t. subst (λ z. z) (sym (aim_stands free e ms)) t) (λ e t. subst (λ z. z) (aim_stands free e ms) t) (λ e t. aim_above free e ms t) refl (λ e. e) (λ e y h. h)
          (aims_landed q.aim (c ∷ []) [] ms some aims_was)
          (aim_floors free q.home [] ms floors_after) (aim_low free (length o.catches) ms low_after)
          (ap (λ z. not (is_free z)) (sym (aim_acts free q.aim ms some))) (aim_based free q.kind ms based_was) nobody_landed
          (record { holds = λ stage u h. subst (λ z. z) (sym (aim_holds free stage u ms)) h; held = λ stage u h. subst (λ z. z) (aim_holds free stage u ms) h; rising = λ h. aim_rising free ms h }) landed_events
          (record { opens = record { opened = λ c t. t; homes = λ t. t }; home = λ p. refl; catch = λ c. refl; killed = λ p. refl; ended = λ p. refl }) (record { begun = λ u. refl; finished = λ u. refl; protector = λ u. refl }) (record { sends = λ k. refl; takes = λ k. refl; replies = λ k. refl })

  -- throws

  -- in a cleanup the process unwinds to a catch above it
  pub row_throw_inside : (c : ℕ) (x : Word) → in_cleanup (cleanups_of q.thread.marks) ≡ true → Near c q.thread.marks → SaneOutline (record o { procs = put o.procs p (stand q (aim_marks (to c x) q.thread.marks) unwinds) })
  row_throw_inside c x some near =
      quiet_kept o s p q at (stand q (aim_marks (to c x) q.thread.marks) unwinds) calm o.protects o.events refl
      (record { holds = λ stage u h. subst (λ z. z) (sym (aim_holds (to c x) stage u q.thread.marks)) h; held = λ stage u h. subst (λ z. z) (aim_holds (to c x) stage u q.thread.marks) h; rising = λ h. aim_rising (to c x) q.thread.marks h })
      (quiet_homes o.events) (quiet_protects o.events) (quiet_calls o.events)
    where
      calm : Calm o o.catches p q (stand q (aim_marks (to c x) q.thread.marks) unwinds)
      calm = record {
        alike = record {
          home = refl;
          live = λ l. l;
          chained = aim_chained (to c x) o.catches p q.home q.thread.marks;
          stands = λ e t. subst (λ z. z) (sym (aim_stands (to c x) e q.thread.marks)) t;
          stood = λ e t. subst (λ z. z) (aim_stands (to c x) e q.thread.marks) t;
          above = λ e t. aim_above (to c x) e q.thread.marks t;
          bare = λ e f. absurd (not_both e going);
        };
        kin = kin (aim_marks (to c x) q.thread.marks) unwinds unwinds_rest;
        going = going;
        dying = λ e. e;
        leaving = λ e y h. inl h;
        aims = aims_inner q.aim c x [] q.thread.marks some (inr near) (s.aims.aims p q at);
        floors = aim_floors (to c x) q.home [] q.thread.marks (s.aims.floors p q at);
        low = aim_low (to c x) (length o.catches) q.thread.marks (s.aims.low_floors p q at);
        work = record { unwinding = ap (λ z. not (is_free z)) (sym (aim_acts (to c x) q.aim q.thread.marks some)); based = aim_based (to c x) q.kind q.thread.marks w.based; resting = λ e. absurd (unwinds_rest e) };
      }

  -- the owner of a catch, which nobody is within any more, leaves for it
  pub row_aim : (c : ℕ) (x : Word) → Stands c q.thread.marks → (StandsAbove c q.thread.marks → ⊥) → is_die q.aim ≡ false → Nobody o c → SaneOutline (record o { procs = put o.procs p (record q { aim = to c x; thread = record { marks = q.thread.marks; doing = stopped q.thread.marks q.thread.doing } }) })
  row_aim c x stands low alive none =
      quiet_kept o s p q at r calm o.protects o.events refl
      (record { holds = λ stage u h. h; held = λ stage u h. h; rising = λ h. h })
      (quiet_homes o.events) (quiet_protects o.events) (quiet_calls o.events)
    where
      r : Seen
      r = record q { aim = to c x; thread = record { marks = q.thread.marks; doing = stopped q.thread.marks q.thread.doing } }

      not_die : to c x ≡ die → ⊥
      not_die e = absurd cc

      same_to : (e : ℕ) (y : Word) → to c x ≡ to e y → c ≡ e
      same_to e y h = cc

      rest : r.thread.doing ≡ rests → q.thread.doing ≡ rests
      rest e = ⊎_elim
          (λ (t : in_cleanup (cleanups_of q.thread.marks) ≡ true). subst (λ z. (if z then q.thread.doing else unwinds) ≡ rests) t e)
          (λ (t : in_cleanup (cleanups_of q.thread.marks) ≡ false). absurd (unwinds_rest (subst (λ z. (if z then q.thread.doing else unwinds) ≡ rests) t e)))
          (cases (in_cleanup (cleanups_of q.thread.marks)))

      by_cleanups : (ks : List Cleanup) → is_unwinding q.thread.doing ≡ not (is_free (acting ks q.aim)) → is_unwinding (if in_cleanup ks then q.thread.doing else unwinds) ≡ not (is_free (acting ks (to c x)))
      by_cleanups [] e = refl
      by_cleanups (k ∷ ks) e = e

      calm : Calm o o.catches p q r
      calm = record {
        alike = record {
          home = refl;
          live = λ l. ap (λ z. not q.ended && not z) alive ∙ l;
          chained = λ k. k;
          stands = λ e t. t;
          stood = λ e t. t;
          above = λ e t. t;
          bare = λ e f. f e;
        };
        kin = record { kind = refl; ended = refl; dying = sym alive; resting = rest };
        going = going;
        dying = λ e. absurd (not_die e);
        leaving = λ e y h. inr (subst (Nobody o) (same_to e y h) none);
        aims = aims_to q.aim c x [] q.thread.marks (inl stands) low (s.aims.aims p q at);
        floors = s.aims.floors p q at;
        low = s.aims.low_floors p q at;
        work = record { unwinding = by_cleanups (cleanups_of q.thread.marks) w.unwinding; based = w.based; resting = λ e. w.resting (rest e) };
      }

-- after the kills

module _ (o v : Outline) (s : SaneOutline o) (t : SaneBut v) (same : v.catches ≡ o.catches) (c owner : ℕ) (each : (i : ℕ) (z : Seen) → numbered v.procs i ≡ Some z → (y : Seen) × (numbered o.procs i ≡ Some y) × (((is_live y ≡ true) × ((is_over o.catches c y.home ≡ true) × ((i ≢ owner) × (z ≡ slain y)))) ⊎ (((is_live y ≡ true) → (is_over o.catches c y.home ≡ true) → i ≡ owner) × (z ≡ y)))) where
  slain_dead : (y : Seen) → is_live (slain y) ≡ true → ⊥
  slain_dead y l = dead_is y.ended l
    where
      dead_is : (b : Bool) → (not b && false) ≡ true → ⊥
      dead_is true e = not_both e refl
      dead_is false e = not_both e refl

  -- only the owner is live within the catch
  pub owner_alone : (i : ℕ) (z : Seen) → numbered v.procs i ≡ Some z → is_live z ≡ true → is_within v.catches z c ≡ true → i ≡ owner
  owner_alone i z e l h =
      let k = each i z e in
      ⊎_elim
      (λ (a : (is_live k.0 ≡ true) × ((is_over o.catches c k.0.home ≡ true) × ((i ≢ owner) × (z ≡ slain k.0)))). absurd (slain_dead k.0 (ap (λ (y : Seen). is_live y) (sym a.1.1.1) ∙ l)))
      (λ (a : ((is_live k.0 ≡ true) → (is_over o.catches c k.0.home ≡ true) → i ≡ owner) × (z ≡ k.0)).
      a.0 (ap (λ (y : Seen). is_live y) (sym a.1) ∙ l) (ap (λ (y : Seen). is_over o.catches c y.home) (sym a.1) ∙ (ap (λ ks. is_over ks c z.home) (sym same) ∙ h)))
      k.2

  pub killed_dying : ((d : ℕ) (z : Seen) → 0 < d → is_over v.catches c d ≡ true → numbered v.procs owner ≡ Some z → is_over v.catches d z.home ≡ false) → Dying v
  killed_dying apart i z d e a st j y f l =
      let k = each i z e in
      ⊎_elim
      (λ (b : (is_live k.0 ≡ true) × ((is_over o.catches c k.0.home ≡ true) × ((i ≢ owner) × (z ≡ slain k.0)))).
      let home : is_over v.catches c z.home ≡ true = ap (λ ks. is_over ks c z.home) same ∙ (ap (λ (g : Seen). is_over o.catches c g.home) b.1.1.1 ∙ b.1.0) in
      let over : is_over v.catches c d ≡ true = home_over_frames v.catches i z.home c d z.thread.marks t.homes.falling (t.catches.chained i z e) home st in
      let inner : 0 < d = (chained_open v.catches i z.home d z.thread.marks st (t.catches.chained i z e)).1.inner in
      deny _ (λ within.
      let is_owner : j ≡ owner = owner_alone j y f l (over_over v.catches c d y.home t.homes.falling over within) in
      not_both within (apart d y inner over (subst (λ g. numbered v.procs g ≡ Some y) is_owner f))))
      (λ (b : ((is_live k.0 ≡ true) → (is_over o.catches c k.0.home ≡ true) → i ≡ owner) × (z ≡ k.0)).
      let h = each j y f in
      let was : (y ≡ h.0) × (is_live h.0 ≡ true) = ⊎_elim
      (λ (g : (is_live h.0 ≡ true) × ((is_over o.catches c h.0.home ≡ true) × ((j ≢ owner) × (y ≡ slain h.0)))). absurd (slain_dead h.0 (ap (λ (r : Seen). is_live r) (sym g.1.1.1) ∙ l)))
      (λ (g : ((is_live h.0 ≡ true) → (is_over o.catches c h.0.home ≡ true) → j ≡ owner) × (y ≡ h.0)). (g.1, ap (λ (r : Seen). is_live r) (sym g.1) ∙ l))
      h.2 in
      ap (λ ks. is_over ks d y.home) same ∙ (ap (λ (r : Seen). is_over o.catches d r.home) was.0
      ∙ s.aims.dying i k.0 d k.1 (ap (λ (r : Seen). r.aim) (sym b.1) ∙ a) (subst (λ (r : Seen). Stands d r.thread.marks) b.1 st) j h.0 h.1 was.1))
      k.2
