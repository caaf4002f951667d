-- The functions of a program by their names, and their entries.
use Rattle.std.proofs.Common.{◌≡◌, ◌∙◌, ℕ, ◌+◌, min, ◌≤◌, ◌<◌, ◌⊎◌, inl, inr, Bool, true, false, ◌==◌, if◌then◌else◌, List, [], ◌∷◌, ◌++◌, append_assoc, drop, length, map, Option, Some, None, refl, ap, sym, arith}
use Rattle.std.specs.Prelude.{option_map}
use Rattle.std.proofs.lemmas.Bool.{cases_lt}
use Rattle.std.proofs.lemmas.List.{drop_all, length-map}
use Rattle.ql_expand.specs.Core as core
use Rattle.ql_expand.specs.ProgramView.{program_of}
use Rattle.ql_expand.specs.View.{cores_of, function_of}
use Rattle.ql_expand.specs.declared.core_form.Function.{Function}
use Rattle.ql_expand.specs.declared.program.Program.{Program}
use Rattle.ql_meaning.specs.Context.{Context, is_called}
use Rattle.ql_code.specs.declared.code.FunEntry.{FunEntry}
use Rattle.ql_compile.specs.Compile.{Places, entry_of, place_called, places_from, places_of, size_of_function, size_of_tops}
use Rattle.ql_compile.specs.Named.{entry_named, with_places}

no_entries : (fs : List Function) (n : ℕ) → entry_named fs [] n ≡ None
no_entries [] n = refl
no_entries (f ∷ fs) n = refl

-- One of two lists ends at the lesser length.
pub one_ends : (a b k : ℕ) → k ≡ min a b → (a ≤ k) ⊎ (b ≤ k)
one_ends a b k e = by (cases_lt a b)
  where
    by : (a < b) ⊎ (b ≤ a) → (a ≤ k) ⊎ (b ≤ k)
    by (inl h) = inl (omega (arith, e, h))
    by (inr h) = inr (omega (arith, e, h))

-- Where either list ends, no name is left.
pub none_named : (fs : List Function) (es : List FunEntry) (k n : ℕ) → (length fs ≤ k) ⊎ (length es ≤ k) → entry_named (drop k fs) (drop k es) n ≡ None
none_named fs es k n (inl h) = ap (λ gs. entry_named gs (drop k es) n) (drop_all k fs h)
none_named fs es k n (inr h) = ap (λ gs. entry_named (drop k fs) gs n) (drop_all k es h) ∙ no_entries (drop k fs) n

mapped_if : {X Y : Type 0} (f : X → Y) (t : Bool) (x : X) (r : Option X) → option_map f (if t then Some x else r) ≡ (if t then Some (f x) else option_map f r)
mapped_if f true x r = refl
mapped_if f false x r = refl

-- The entries of the functions of these places are found by their names.
pub named_is : (x : Context) (places : Places) (fs : List Function) (n : ℕ) → map (λ (p : core.Function × ℕ). p.0) places ≡ map function_of fs
    → entry_named fs (map (entry_of x) places) n ≡ option_map (entry_of x) (place_called places n)
named_is x [] [] n e = refl
named_is x [] (f ∷ fs) n e = refl
named_is x (p ∷ ps) [] n e = absurd cc
named_is x (p ∷ ps) (f ∷ fs) n e =
    let here : p.0 ≡ function_of f = cc in
    let rest : map (λ (q : core.Function × ℕ). q.0) ps ≡ map function_of fs = cc in
    ap (λ r. if f.name == n then Some (entry_of x p) else r) (named_is x ps fs n rest)
    ∙ (ap (λ q. if is_called n q then Some (entry_of x p) else option_map (entry_of x) (place_called ps n)) (sym here)
    ∙ sym (mapped_if (entry_of x) (is_called n p.0) p (place_called ps n)))

-- Entries in order.

pub placed : (pc : ℕ) (fs : List core.Function) → with_places fs (map (λ (p : core.Function × ℕ). p.1) (places_from pc fs)) ≡ places_from pc fs
placed pc [] = refl
placed pc (f ∷ fs) = ap (λ ps. (f, pc) ∷ ps) (placed (pc + size_of_function f) fs)

as_many_places : (pc : ℕ) (fs : List core.Function) → length (places_from pc fs) ≡ length fs
as_many_places pc [] = refl
as_many_places pc (f ∷ fs) = omega (arith, as_many_places (pc + size_of_function f) fs)

pub each_has_place : (p : Program) (ns : List ℕ) → ns ≡ map (λ (f : core.Function × ℕ). f.1) (places_of (program_of p)) → length ns ≡ length p.functions
each_has_place p ns e =
    let fs = map function_of p.functions in
    let begin = size_of_tops (cores_of p.body) + 1 in
    ap length e ∙ (length-map (places_from begin fs) (λ (f : core.Function × ℕ). f.1) ∙ (as_many_places begin fs ∙ length-map p.functions function_of))

-- One more entry is made.
pub entries_next : (x : Context) (f : core.Function) (n : ℕ) (fs : List core.Function) (ns : List ℕ) (old new whole : List FunEntry) (e : FunEntry)
    → e ≡ entry_of x (f, n) → new ≡ old ++ e ∷ [] → old ++ map (entry_of x) (with_places (f ∷ fs) (n ∷ ns)) ≡ whole
    → new ++ map (entry_of x) (with_places fs ns) ≡ whole
entries_next x f n fs ns old new whole e made pushed all =
    let rest = map (entry_of x) (with_places fs ns) in
    ap (λ es. es ++ rest) pushed ∙ (append_assoc old (e ∷ []) rest ∙ (ap (λ d. old ++ d ∷ rest) made ∙ all))
