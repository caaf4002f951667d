-- The tick that prints.
use Rattle.std.proofs.Common.{◌≡◌, ◌<◌, ℕ, ◌+◌, ◌-◌, Bool, true, false, List, [], ◌∷◌, ◌++◌, length, Some, None, refl, sym, ap, ◌∙◌, arith}
use Rattle.std.specs.Prelude.{leb, if◌then◌else◌}
use Rattle.std.proofs.lemmas.Bool.{le-leb, leb-true}
use Rattle.ql_base.specs.declared.limits.Limits.{Limits}
use Rattle.ql_base.specs.declared.limits.LimitKind.TheVariants.{Output as output_limit}
use Rattle.ql_world.specs.declared.word.Word.{Word}
use Rattle.ql_world.specs.declared.event.Stop.TheVariants.{Limit as limit}
use Rattle.ql_world.specs.Text.{value_text, text_up_to}
use Rattle.ql_world.specs.World.{counted, marked, with_thread}
use Rattle.ql_world.specs.Machine.{Want, prints, done}
use Rattle.ql_world.specs.Tick.{goes, row}
use Rattle.ql_tree.specs.declared.person.Person.{Person}
use Rattle.ql_tree.specs.Persons.{process_of_person}
use Rattle.ql_code.specs.declared.code.Op.TheVariants.{Print as print}
use Rattle.ql_code.specs.Code.{Code}
use Rattle.ql_code.specs.Machine.{Point, words, one_want, settled, code_machine}
use Rattle.ql_host.specs.declared.shared.Shared.{Shared}
use Rattle.ql_host.specs.Awaited.{awaited}
use Rattle.ql_host.specs.World.{world_of, Acts, IsAt}
use Rattle.ql_host.proofs.Awaits.{calm_want, calm_go}
use Rattle.ql_host.proofs.RowTicks.{acts_at, stops_at}

same_test : (a b : Bool) → (a ≡ true → b ≡ true) → (b ≡ true → a ≡ true) → a ≡ b
same_test true b f g = sym (f refl)
same_test false true f g = g refl
same_test false false f g = refl

-- What isn't empty fits into what is left where it fits after what is there.
fits_left : (n k most : ℕ) → 0 < k → leb (n + k) most ≡ leb k (most - n)
fits_left n k most h =
    same_test (leb (n + k) most) (leb k (most - n))
    (λ e. le-leb k (most - n) (omega (arith, leb-true (n + k) most e)))
    (λ e. le-leb (n + k) most (omega (arith, leb-true k (most - n) e, h)))

some_line : (text : List ℕ) → 0 < length (text ++ 10 ∷ [])
some_line [] = omega arith
some_line (b ∷ text) = omega arith

fits_then : (b : Bool) (x text : List ℕ) → Some x ≡ (if b then Some text else None) → (b ≡ true) × (x ≡ text)
fits_then true x text e = (refl, cc)
fits_then false x text e = absurd cc

fits_not : (b : Bool) (text : List ℕ) → None ≡ (if b then Some text else None) → b ≡ false
fits_not true text e = absurd cc
fits_not false text e = refl

module _ (code : Code) (names : List (List ℕ)) (limits : Limits) (p : ℕ) (r : Person) (old : Shared) (t : Point) (at : ℕ) (w : Word)
    (h : IsAt code names limits p old r t print at) (calm : awaited print t.stack ≡ None) (top : words 1 t.stack ≡ w ∷ [])
  where
    line : List ℕ
    line = value_text names old.cells.pairs w ++ 10 ∷ []

    print_test : (b : Bool) → leb (length line) (limits.output - length old.output.bytes) ≡ b → (threads : List Point)
        → row (code_machine code.instructions) names limits p (process_of_person r t) (counted (world_of old threads) p) (one_want (words 1 t.stack) at prints)
        ≡ Some (if b then goes (code_machine code.instructions) names limits p (process_of_person r t) (record (counted (world_of old threads) p) { output = old.output.bytes ++ line }) done else marked (counted (world_of old threads) p) (limit output_limit))
    unfolding line
    print_test b e threads =
        ap (λ (x : Want). row (code_machine code.instructions) names limits p (process_of_person r t) (counted (world_of old threads) p) x) (calm_want t.stack w at prints top calm)
        ∙ ap (λ (b : Bool). Some (if b then goes (code_machine code.instructions) names limits p (process_of_person r t) (record (counted (world_of old threads) p) { output = old.output.bytes ++ line }) done else marked (counted (world_of old threads) p) (limit output_limit)))
        (fits_left (length old.output.bytes) (length line) limits.output (some_line (value_text names old.cells.pairs w)) ∙ e)

    pub printed : (new : Shared) (u : Point) (text : List ℕ)
        → Some text ≡ text_up_to (limits.output - length old.output.bytes) (value_text names old.cells.pairs w ++ 10 ∷ [])
        → ((threads : List Point) → world_of new threads ≡ record (counted (world_of old threads) p) { output = old.output.bytes ++ text })
        → u ≡ settled code.instructions (t.place + 1) t.stack
        → Acts code names limits p r old t new u
    unfolding line
    printed new u text e f z =
        let fit = fits_then (leb (length line) (limits.output - length old.output.bytes)) text line e in
        acts_at code names limits p r old new t u print at h done
        (λ threads k.
        print_test true fit.0 threads
        ∙ ap (λ x. Some (with_thread x p ((code_machine code.instructions).go t done)))
        (ap (λ (l : List ℕ). record (counted (world_of old threads) p) { output = old.output.bytes ++ l }) (sym fit.1) ∙ sym (f threads)))
        (calm_go code.instructions done t.place t.stack w (λ rest. settled code.instructions (t.place + 1) t.stack) top calm ∙ sym z)

    pub unprinted : (new : Shared)
        → None ≡ text_up_to (limits.output - length old.output.bytes) (value_text names old.cells.pairs w ++ 10 ∷ [])
        → ((threads : List Point) → world_of new threads ≡ marked (counted (world_of old threads) p) (limit output_limit))
        → Acts code names limits p r old t new t
    unfolding line
    unprinted new e f =
        stops_at code names limits p r old new t print at h (limit output_limit)
        (λ threads. print_test false (fits_not (leb (length line) (limits.output - length old.output.bytes)) line e) threads)
        f
