-- How many there are of what a program lists.
use Rattle.std.proofs.Common.{◌≡◌, Option, Some, None, ℕ, ◌+◌, List, [], ◌∷◌, length, map, refl, ap, arith}
use Rattle.std.specs.Prelude.{option_map}
use Rattle.ql_expand.specs.View.{binders_of, bounds_of, cores_of}
use Rattle.ql_expand.specs.Core.{Bounds, no_bounds, and_bound, Cores, Function}
use Rattle.ql_expand.specs.declared.core_form.Binder.{Binder}
use Rattle.ql_expand.specs.declared.core_form.Bound.{Bound}
use Rattle.ql_expand.specs.declared.core_form.Core.{Core}
use Rattle.ql_scope.specs.Scope.{binders_in}
use Rattle.ql_meaning.specs.Context.{Context}
use Rattle.ql_code.specs.declared.code.FunEntry.{FunEntry}
use Rattle.ql_code.specs.declared.code.Op.TheVariants.{Call as call}
use Rattle.ql_compile.specs.Compile.{call_op, count, entry_of, places_from, size, size_of_function, starts_of}

pub count_is : (cs : List Core) → count (cores_of cs) ≡ length cs
count_is [] = refl
count_is (c ∷ cs) = let rest = count_is cs in omega (arith, rest)

pub bounds_length : (bs : List Bound) → length (binders_in (bounds_of bs)) ≡ length bs
bounds_length [] = refl
bounds_length (b ∷ bs) = let rest = bounds_length bs in omega (arith, rest)

pub starts_length : (pc : ℕ) (bs : Bounds) → length (starts_of pc bs) ≡ length (binders_in bs)
starts_length pc no_bounds = refl
starts_length pc (and_bound b c bs) = let rest = starts_length (pc + size c + 1) bs in omega (arith, rest)

-- each function has a place
pub functions_placed : (pc : ℕ) (fs : List Function) → map (λ (f : Function × ℕ). f.0) (places_from pc fs) ≡ fs
functions_placed pc [] = refl
functions_placed pc (f ∷ fs) = ap (λ gs. f ∷ gs) (functions_placed (pc + size_of_function f) fs)

-- a call of the function that a table has
pub call_is : (x : Context) (o : Option (Function × ℕ)) (e : FunEntry) (cs : Cores) (n : ℕ) → option_map (entry_of x) o ≡ Some e → n ≡ count cs → call e.place n e.mask ≡ call_op x o cs
call_is x None e cs n h k = absurd cc
call_is x (Some f) e cs n h k = let same : e ≡ entry_of x f = cc in rw (same, k) refl

pub binders_length : (ps : List Binder) → length (binders_of ps) ≡ length ps
binders_length [] = refl
binders_length (p ∷ ps) = let rest = binders_length ps in omega (arith, rest)
