-- The innermost running cleanup among marks.
use Rattle.std.proofs.Common.{◌≡◌, refl, sym, ap, subst, ◌∙◌, ℕ, suc, ◌-◌, ◌<◌, ◌≤◌, List, ◌∷◌, ◌++◌, length, take, drop, reverse, arith, slice_index_or, set}
use Rattle.ql_world.specs.declared.world.Aim.{Aim}
use Rattle.ql_world.specs.declared.world.Cleanup.{Cleanup}
use Rattle.ql_code.specs.declared.mark.Mark.TheVariants.{Cleaning}
use Rattle.ql_proc.specs.declared.stack.Marker.{Marker}
use Rattle.ql_proc.specs.Stacked.{aimed}
use Rattle.ql_proc.proofs.Lists.{At, at-of, reverse-taken, reverse-set, more}

aimed-first : (a : Aim) (m : Marker) (ms : List Marker) (u : ℕ) (c : Cleanup) → m.mark ≡ Cleaning u c
    → aimed a (m ∷ ms) ≡ record { mark = Cleaning u (record { aim = a; floor = c.floor }); height = m.height; base = m.base; cleaning = m.cleaning; catching = m.catching } ∷ ms
aimed-first a m ms u c e = rw e refl

pub aimed-here : (a : Aim) (ms old : List Marker) (at : ℕ) (d : Marker) (u : ℕ) (c : Cleanup) → 0 < at → at ≤ length ms → (slice_index_or ms (at - 1) d).mark ≡ Cleaning u c
    → reverse (drop at ms) ++ aimed a (reverse (take at ms)) ≡ old
    → reverse (set ms (at - 1) (record { mark = Cleaning u (record { aim = a; floor = c.floor }); height = (slice_index_or ms (at - 1) d).height; base = (slice_index_or ms (at - 1) d).base; cleaning = (slice_index_or ms (at - 1) d).cleaning; catching = (slice_index_or ms (at - 1) d).catching })) ≡ old
aimed-here a ms old at d u c h k e g =
    let n = at - 1 in
    let here : At ms n = at-of ms n (omega (arith, h, k)) in
    let f : reverse (drop (suc n) ms) ++ aimed a (reverse (take (suc n) ms)) ≡ old = subst (λ (m : ℕ). reverse (drop m ms) ++ aimed a (reverse (take m ms)) ≡ old) (more at h) g in
    let i : here.item.mark ≡ Cleaning u c = rw (here.read d) at e in
    rw (here.read d)
    (reverse-set ms n (record { mark = Cleaning u (record { aim = a; floor = c.floor }); height = here.item.height; base = here.item.base; cleaning = here.item.cleaning; catching = here.item.catching }) (omega (arith, h, k))
    ∙ (ap (λ (x : List Marker). reverse (drop (suc n) ms) ++ x) (sym (ap (aimed a) (reverse-taken n ms here) ∙ aimed-first a here.item (reverse (take n ms)) u c i)) ∙ f))
