-- The opening world of each program is sane, and so is each world of its runs.
use Rattle.std.proofs.Common.{◌≡◌, ℕ, zero, suc, ◌<◌, true, false, List, [], ◌∷◌, Some, None, refl, sym, ap, subst, arith}
use Rattle.ql_base.specs.declared.limits.Limits.{Limits}
use Rattle.ql_expand.specs.Core.{Program}
use Rattle.ql_world.specs.World.{World, catch_at, numbered, outermost}
use Rattle.ql_world.specs.declared.world.Catch.{Catch}
use Rattle.ql_world.specs.declared.world.Aim.TheVariants.{Free as free, To as to}
use Rattle.ql_world.specs.declared.world.Kind.TheVariants.{Main as main, Child as child, Closure as serving}
use Rattle.ql_world.specs.declared.word.Word.{Word}
use Rattle.ql_world.specs.Within.{is_die}
use Rattle.ql_world.specs.Run.{run}
use Rattle.ql_meaning.specs.Context.{context_of, tops_of}
use Rattle.ql_meaning.specs.Control.{Thread, Closure, core_machine}
use Rattle.ql_meaning.specs.Meaning.{program_world}
use Rattle.ql_meaning.specs.Sane.{of_program, base_mark, Standing, works, rests, Seen, Outline, Stands, Chained, StandsAbove, Aims, Floors, LowFloors, WorkSane, Stage, waiting, running, Holds, Rising, SaneOutline, Sane}
use Rattle.ql_meaning.proofs.Lists.{not_both, one}
use Rattle.ql_meaning.proofs.Over.{catch_low}
use Rattle.ql_meaning.proofs.Threads.{working, begin_stands}
use Rattle.ql_meaning.proofs.Ticks.{run_sane}

abbrev first_process : Standing → Seen
first_process st = record { home = 0; kind = main; aim = free; thread = st; ended = false }

abbrev first_outline : Standing → Outline
first_outline st = record { catches = outermost ∷ []; procs = first_process st ∷ []; servers = []; futures = []; protects = 0; events = [] }

abbrev at_base : Standing
at_base = working (base_mark of_program ∷ [])

no_more : (c : ℕ) (k : Catch) → catch_at (outermost ∷ []) c ≡ Some k → 0 < c → ⊥
no_more c k e l = let h = catch_low (outermost ∷ []) c k e in omega (arith, h, l)

the_catch : (c : ℕ) (k : Catch) → catch_at (outermost ∷ []) c ≡ Some k → k ≡ outermost
the_catch zero k e = cc
the_catch (suc c) k e = absurd (no_more (suc c) k e (omega arith))

only_one : (P : ℕ → Seen → Type 0) → P 1 (first_process at_base) → (p : ℕ) (q : Seen) → numbered (first_process at_base ∷ []) p ≡ Some q → P p q
only_one P h zero q e = absurd cc
only_one P h (suc zero) q e = subst (P 1) (one refl e) h
only_one P h (suc (suc p)) q e = absurd cc

no_server : {A : Type 0} (k : ℕ) (s : A) → numbered [] k ≡ Some s → ⊥
no_server zero s e = absurd cc
no_server (suc k) s e = absurd cc

none_held : (stage : Stage) (u : ℕ) → Holds stage u (base_mark of_program ∷ []) → ⊥
none_held waiting u h = h
none_held running u h = h

opening_outline : SaneOutline (first_outline at_base)
opening_outline = record {
  homes = record {
    falling = λ c k e l. absurd (no_more c k e l);
    untagged = λ k e. ap (λ (z : Catch). z.tag) (the_catch 0 k e);
    made = only_one (λ p q. q.home < 1) (omega arith);
    opened = λ c l h. absurd (omega (arith, l, h));
    in_time = tt;
    first = only_one (λ p q. q.kind ≡ main → (p ≡ 1) × (q.home ≡ 0)) (λ e. (refl, refl));
  };
  catches = record {
    chained = only_one (λ p q. Chained (outermost ∷ []) p q.home q.thread.marks) tt;
    stands = λ c k e h l. absurd (no_more c k e l);
    bare = only_one (λ p q. q.ended ≡ true → q.thread.marks ≡ []) (λ e. absurd (not_both e refl));
  };
  empty = record {
    closed = λ p q c k e l w h. ap (λ (z : Catch). z.open_still) (the_catch c k h);
    fresh = λ p q c e a r y f. absurd (only_one (λ p q. StandsAbove c q.thread.marks → ⊥) (λ z. z) p q e a);
  };
  aims = record {
    dying = λ p q c e d t r y f l. absurd (only_one (λ p q. Stands c q.thread.marks → ⊥) (λ z. z) p q e t);
    leaving = λ p q c w e d r y f l. absurd (only_one (λ p q. q.aim ≡ to c w → ⊥) (λ z. free_to c w z) p q e d);
    aims = only_one (λ p q. Aims q.aim [] q.thread.marks) tt;
    floors = only_one (λ p q. Floors q.home [] q.thread.marks) tt;
    low_floors = only_one (λ p q. LowFloors 1 q.thread.marks) tt;
  };
  work = only_one (λ p q. q.ended ≡ false → WorkSane q) (λ e. record { unwinding = refl; based = (tt, refl); resting = λ z. absurd (no_rest z) });
  protects = record {
    held = λ p q stage u e h. absurd (only_one (λ p q. Holds stage u q.thread.marks → ⊥) (none_held stage u) p q e h);
    placed = λ u l h. absurd (omega (arith, l, h));
    rising = only_one (λ p q. Rising q.thread.marks) tt;
    unmade = λ u l. (refl, (refl, refl));
  };
  servers = record {
    calls = λ k s e. absurd (no_server k s e);
    unmade = λ k l. (refl, (refl, refl));
    served = λ k s e. absurd (no_server k s e);
    serves = λ p q k e f. absurd (only_one (λ p q. q.kind ≡ serving k → ⊥) (λ z. main_serving z) p q e f);
    resting = λ k s q e f l d. absurd (no_server k s e);
    prompt = λ k s q e f l d c. absurd (no_server k s e);
    fitting = λ k s c i e f. absurd (no_server k s e);
    full = λ k s e f. absurd (no_server k s e);
    plain = λ k s e f. absurd (no_server k s e);
    dead = λ k s q e f. absurd (no_server k s e);
    killed = λ p q k e f h. absurd (only_one (λ p q. q.kind ≡ serving k → ⊥) (λ z. main_serving z) p q e f);
  };
  futures = record {
    reasons = [];
    all = refl;
    children = λ p q f e k. absurd (only_one (λ p q. q.kind ≡ child f → ⊥) (λ z. main_child z) p q e k);
    calls = λ k s c f i e g h. absurd (no_server k s e);
    parameters = λ k s f e a. absurd (no_server k s e);
  };
  told = record {
    homes = only_one (λ p q. 1 < p → None ≡ Some q.home) (λ l. absurd (omega (arith, l)));
    catches = λ c k e l. absurd (no_more c k e l);
    killed = only_one (λ p q. false ≡ is_die q.aim) refl;
    ended = only_one (λ p q. false ≡ q.ended) refl;
    no_home = λ p h. refl;
    no_process = λ p h. (refl, refl);
    no_catch = λ c h. refl;
  };
}
  where
    free_to : (c : ℕ) (w : Word) → free ≡ to c w → ⊥
    free_to c w z = absurd cc

    no_rest : works ≡ rests → ⊥
    no_rest z = absurd cc

    main_serving : {k : ℕ} → main ≡ serving k → ⊥
    main_serving z = absurd cc

    main_child : {f : ℕ} → main ≡ child f → ⊥
    main_child z = absurd cc

-- the opening world of a program is sane
pub opening_sane : (source : Program) → Sane (program_world source)
opening_sane source = subst (λ st. SaneOutline (first_outline st)) (sym (begin_stands (tops_of source))) opening_outline

-- and so is each world that a run of it comes to
pub runs_sane : (source : Program) (names : List (List ℕ)) (limits : Limits) (schedule : List ℕ) (v : World Thread Closure) → run (core_machine (context_of source)) names limits (program_world source) schedule ≡ Some v → Sane v
runs_sane source names limits schedule v e = run_sane source names limits schedule (program_world source) v (opening_sane source) e
