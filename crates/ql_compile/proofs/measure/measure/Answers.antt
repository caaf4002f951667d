use Rattle.std.proofs.Common.{◌≡◌, ◌∙◌, ℕ, ap, subst, arith, map}
use Rattle.ql_expand.specs.Core.{Function}
use Rattle.ql_expand.specs.ProgramView.{program_of}
use Rattle.ql_expand.specs.View.{cores_of, function_of}
use Rattle.ql_compile.specs.Compile.{compiled, places_from}
use Rattle.ql_compile.specs.Laws.{IsTooLong}
use Rattle.ql_compile.proofs.Measuring.{as_long, base_is, over_told, short_told, whole_counted}
use Rattle.ql_compile.proofs.measure.measure.Goals as goal

pub returns-in-None-clause-places : goal.returns-in-None-clause-places
returns-in-None-clause-places c =
    let p = c.args.program.now in
    let fs = map function_of p.functions in
    let tops = rw c.as_slice.ensures at c.tops.ensures in
    let counts = rw c.as_slice-2.ensures at c.in-Ok.ensures.count in
    let places = rw c.as_slice-2.ensures at c.in-Ok.ensures.places in
    let whole = whole_counted _ _ _ _ fs p.globals (cores_of p.body) tops c.step.ensures counts in
    let base = base_is _ _ fs p.globals (cores_of p.body) tops c.step.ensures (short_told (program_of p) _ whole c.in-None.is) in
    places (ap (λ m. m.over) base.0) base.1 ∙ ap (λ n. map (λ (f : Function × ℕ). f.1) (places_from n fs)) (ap (λ m. m.count) base.0)

pub returns-in-None-clause-short : goal.returns-in-None-clause-short
returns-in-None-clause-short c =
    let p = c.args.program.now in
    let tops = rw c.as_slice.ensures at c.tops.ensures in
    let counts = rw c.as_slice-2.ensures at c.in-Ok.ensures.count in
    let whole = whole_counted _ _ _ _ (map function_of p.functions) p.globals (cores_of p.body) tops c.step.ensures counts in
    let short = short_told (program_of p) _ whole c.in-None.is in
    let long = as_long (program_of p) in
    omega (arith, short, long)

pub returns-in-Some-clause-too_long : goal.returns-in-Some-clause-too_long
returns-in-Some-clause-too_long c at e =
    let p = c.args.program.now in
    let tops = rw c.as_slice.ensures at c.tops.ensures in
    let counts = rw c.as_slice-2.ensures at c.in-Ok.ensures.count in
    let whole = whole_counted _ _ _ _ (map function_of p.functions) p.globals (cores_of p.body) tops c.step.ensures counts in
    let same : c.in-Some.at.0 ≡ at = cc in
    subst (λ n. IsTooLong (compiled (program_of p)) n) same (over_told (program_of p) _ c.in-Some.at whole c.in-Some.is)
