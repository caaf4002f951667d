-- Each text is refused or spells forms.
use Rattle.std.proofs.Common.{◌≡◌, ℕ, zero, suc, ◌+◌, ◌<◌, ◌≤◌, List, [], ◌∷◌, ◌++◌, length, take, Option, Some, None, refl, sym, ap, ◌∙◌, subst, arith, append_assoc, ⊎_elim}
use Rattle.std.proofs.lemmas.Bool.{cases_lt}
use Rattle.ql_forms.specs.Spelled.{Forms}
use Rattle.ql_forms.specs.Spells.{Spells}
use Rattle.ql_read.specs.TextFault.{CanGoOn, FaultsAt}
use Rattle.ql_read.specs.Scan.{State, between, in_comment, in_atom, after_dot, bad, scan, start, fault_of}
use Rattle.ql_base.specs.Refusal.{number_of}
use Rattle.ql_read.specs.TextFault.{limit, NoneBelow, too_long, unfinished, by_byte, by_length, by_end, Verdict, refused, accepted}
use Rattle.ql_read.proofs.Complete.{run, complete}
use Rattle.ql_read.proofs.Sound.{sound}
use Rattle.ql_read.proofs.GoesOn.{can_go_on}
use Rattle.ql_read.proofs.FaultKinds.{text_fault}

take_rest : (n : ℕ) (b : List ℕ) → (r : List ℕ) × (take n b ++ r ≡ b)
take_rest zero b = (b, refl)
take_rest (suc n) [] = ([], refl)
take_rest (suc n) (x ∷ b) = let (r, e) = take_rest n b in (r, ap (λ y. x ∷ y) e)

-- a front of what can go on can
pub front_can : (n : ℕ) (b : List ℕ) → CanGoOn b → CanGoOn (take n b)
front_can n b (c, fs, h) = let (r, e) = take_rest n b in (r ++ c, fs, subst (λ x. Spells x fs) (ap (λ x. x ++ c) (sym e) ∙ append_assoc (take n b) r c) h)

pub none_in : (b : List ℕ) → fault_of (scan start b) ≡ None → NoneBelow b
none_in b h = λ n lt f. f.none_goes_on (front_can (n + 1) b (can_go_on b h))

-- the least fault is one
pub none_before : (b : List ℕ) (m : ℕ) → FaultsAt b m → limit ≤ m → NoneBelow b
none_before b m f le = λ n lt g. g.none_goes_on (f.before n (omega (arith, lt, le)))

judge_end : (b : List ℕ) (o : Option Forms) → NoneBelow b → length b ≤ limit → run start b ≡ o → Verdict b
judge_end b (Some fs) h le e = accepted fs le (sound b fs e)
judge_end b None h le e = refused unfinished (length b) (by_end h le (λ fs i. let c : run start b ≡ Some fs = complete b fs i in absurd (cc)))

judge_length : (b : List ℕ) → NoneBelow b → Verdict b
judge_length b h = ⊎_elim
    (λ (lt : limit < length b). refused too_long limit (by_length h lt))
    (λ (le : length b ≤ limit). judge_end b (run start b) h le refl)
    (cases_lt limit (length b))

judge_scan : (b : List ℕ) (s : State) → scan start b ≡ s → Verdict b
judge_scan b (bad at kind) e = ⊎_elim
    (λ (lt : at < limit). refused (number_of kind) at (by_byte lt (text_fault b at kind e)))
    (λ (le : limit ≤ at). judge_length b (let f = text_fault b at kind e in none_before b at f.least le))
    (cases_lt at limit)
judge_scan b (between o k) e = judge_length b (none_in b (rw e refl))
judge_scan b (in_comment o k) e = judge_length b (none_in b (rw e refl))
judge_scan b (in_atom o at v k) e = judge_length b (none_in b (rw e refl))
judge_scan b (after_dot o k) e = judge_length b (none_in b (rw e refl))

pub judge : (b : List ℕ) → Verdict b
judge b = judge_scan b (scan start b) refl
