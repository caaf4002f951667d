-- Work that is committed into a run of code goes on with that run.
use Rattle.std.proofs.Common.{◌≡◌, ◌≢◌, ℕ, ◌+◌, ◌≤◌, if◌then◌else◌, List, [], ◌∷◌, ◌++◌, replicate, Some, None, is_none, option_and_then, ap, ◌∙◌}
use Rattle.ql_base.specs.declared.limits.Limits.{Limits}
use Rattle.ql_world.specs.World.{World, numbered}
use Rattle.ql_world.specs.declared.world.Process.{Process}
use Rattle.ql_world.specs.Machine.{Machine}
use Rattle.ql_world.specs.Tick.{tick}
use Rattle.ql_world.specs.Run.{stop_of, run}
use Rattle.ql_code.specs.Code.{Code}
use Rattle.ql_code.specs.Machine.{Point, Entry, code_machine, code_world}
use Rattle.ql_code.specs.LocalPath.{Window, window_of, Seen, local_steps}
use Rattle.ql_code.proofs.Within.{of_and_then, of_if}
use Rattle.ql_code.specs.LocalLaws.{Shows, worked, thread_after}
use Rattle.ql_code.proofs.Kills.{numbered_other}
use Rattle.ql_code.proofs.Windows.{commits}
use Rattle.ql_code.proofs.PairsGrow.{cells_fit}

module _ {P K : Type 0} (m : Machine P K) (names : List (List ℕ)) (limits : Limits) where
  pub run_on : (first rest : List ℕ) (w v : World P K) → run m names limits w first ≡ Some v → run m names limits w (first ++ rest) ≡ run m names limits v rest
  run_on [] rest w v e = let same : w ≡ v = cc in ap (λ z. run m names limits z rest) same
  run_on (p ∷ ps) rest w v e =
      let i = of_if (is_none (stop_of m names limits w)) _ v e in
      let t = of_and_then (λ u. run m names limits u ps) (tick m names limits w p) v i.1 in
      ap (λ b. if b then option_and_then (λ u. run m names limits u (ps ++ rest)) (tick m names limits w p) else None) i.0
      ∙ ap (option_and_then (λ u. run m names limits u (ps ++ rest))) t.1
      ∙ run_on ps rest t.0 v t.2

  -- the other processes are as they were
  pub others_stay : (w : World P K) (p n r : ℕ) (t : P) → r ≢ p → numbered (worked w p n t).procs r ≡ numbered w.procs r
  others_stay w p n r t d = numbered_other (λ q. record q { thread = t }) w.procs r p d

-- A run of code that has not stopped goes on along n local ticks of a process.
pub commits_on : (code : Code) (names : List (List ℕ)) (limits : Limits) (seen : Seen) (schedule : List ℕ) (n : ℕ) (w : World Point Entry) (p : ℕ) (q : Process Point) (b : Window) →
    run (code_machine code.instructions) names limits (code_world code) schedule ≡ Some w →
    stop_of (code_machine code.instructions) names limits w ≡ None →
    numbered w.procs p ≡ Some q →
    Shows seen w.pairs →
    w.ticks + n ≤ limits.budget →
    local_steps code.instructions seen n (window_of q) ≡ Some b →
    run (code_machine code.instructions) names limits (code_world code) (schedule ++ replicate n p) ≡ Some (worked w p n (thread_after q b))
commits_on code names limits seen schedule n w p q b r s i k h e =
    run_on (code_machine code.instructions) names limits schedule (replicate n p) (code_world code) w r
    ∙ commits code.instructions names limits seen n w p q b i s k (cells_fit code names limits schedule w r) h e
