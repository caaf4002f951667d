-- What is told of a small program and whose schedule it is, and the listing of a code, computed.
use Rattle.std.proofs.Common.{◌≡◌, ℕ, true, false, List, [], ◌∷◌, ◌++◌, Some, None, refl}
use Rattle.std.specs.Prelude.{pos, codes, replicate}
use Rattle.std.specs.Fmt.{digits}
use Rattle.ql_base.specs.Limits.{usual}
use Rattle.ql_base.specs.Names.{reserved}
use Rattle.ql_base.specs.Reserved.{number}
use Rattle.ql_base.specs.declared.reserved.Reserved.TheVariants.{Plus}
use Rattle.ql_forms.specs.Form.{integer, atom}
use Rattle.ql_expand.specs.Core as expanded
use Rattle.ql_expand.specs.Core.{named, binder, core, variable, call, no_cores, and_core, primitive, function, Program, program}
use Rattle.ql_world.specs.Run.{head_of}
use Rattle.ql_world.specs.declared.event.Event.TheVariants.{Turn, Exit, EndOk, Stopped}
use Rattle.ql_world.specs.declared.event.Stop.TheVariants.{Done}
use Rattle.ql_code.specs.Listing.{listing}
use Rattle.ql_meaning.specs.Meaning.{program_told, program_planned}
use Rattle.ql_compile.specs.Compile.{compiled}

-- (print (+ 1 2))
abbrev sum_printed : Program
sum_printed =
    program [] []
    (and_core (core 0 (expanded.print (core 7 (primitive (number Plus) (and_core (core 10 (expanded.constant (atom 10 (integer (pos 1)))))
    (and_core (core 12 (expanded.constant (atom 12 (integer (pos 2))))) no_cores)))))) no_cores)

sum_is_told : program_told reserved sum_printed usual (replicate 5 1) ≡ Some (record {
  output = codes "3\n";
  journal = record { head = Some (head_of usual); events = Turn 1 5 ∷ (Exit 1 0 ∷ (EndOk 1 None ∷ (Stopped Done ∷ []))) };
  stop = Done;
})
unfolding digits
sum_is_told = refl

-- one worker takes its only process
sum_is_planned : program_planned reserved sum_printed usual (replicate 5 1) ≡ true
unfolding digits
sum_is_planned = refl

nobody_else_is_picked : program_planned reserved sum_printed usual (2 ∷ []) ≡ false
nobody_else_is_picked = refl

-- (defun twice (n) (+ n n)) (print (twice 3))
abbrev twice : Program
twice =
    program
    (function 0 46 7 (binder 14 (named 47) ∷ []) (core 17 (primitive (number Plus) (and_core (core 20 (variable (named 47))) (and_core (core 22 (variable (named 47))) no_cores)))) ∷ [])
    []
    (and_core (core 26 (expanded.print (core 33 (call 46 34 (and_core (core 40 (expanded.constant (atom 40 (integer (pos 3))))) no_cores))))) no_cores)

abbrev twice_names : List (List ℕ)
twice_names = reserved ++ codes "twice" ∷ (codes "n" ∷ [])

twice_is_listed : listing twice_names (compiled twice)
    ≡ codes "0 lit 3 @40\n1 call 5 1 0 @33\n2 print @26\n3 drop @26\n4 end @0\n5 local 0 @20\n6 local 0 @22\n7 prim + @17\n8 return @0\n"
unfolding digits
twice_is_listed = refl
