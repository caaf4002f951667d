-- Compiled code is sound, of each program that the checks let through.
use Rattle.std.proofs.Common.{◌≡◌, ℕ, suc, ◌+◌, ◌<◌, ◌≤◌, ◌==◌, Bool, true, false, List, [], ◌∷◌, ◌++◌, length, map, Option, Some, None, refl, subst, arith, length-append, eq-eqb}
use Rattle.std.specs.Prelude.{◌&&◌, if◌then◌else◌, is_some, leb, option_map}
use Rattle.std.proofs.lemmas.Bool.{leb-true, lt-ltb, ltb-true}
use Rattle.ql_forms.specs.Form as form
use Rattle.ql_forms.specs.Form.{Form, atom, list, Forms, none, more, Tail, proper, dotted, Atom}
use Rattle.ql_expand.specs.Core as core
use Rattle.ql_expand.specs.Core.{Name, named, hidden, Binder, Core, Node, constant, variable, setq, conditional, progn, binding, primitive, lambda, defvar, Cores, no_cores, and_core, Function, function, Program, program}
use Rattle.ql_scope.specs.Stored.{inside, stored_in, stored_in_cores, stored_in_functions}
use Rattle.ql_world.specs.declared.word.Word.{Word}
use Rattle.ql_world.specs.declared.word.Word.TheVariants.{Int as integer, Sym as symbol, Pair as pair, Fun as closure, Proc as process_closure, Fut as future}
use Rattle.ql_meaning.specs.Context.{Context, Pairs, Datum, Quotes, place_of, or_zero, atom_word, tail_word, quoted, quoted_items, with_pair, quotes_after, word_at, constant_word, stored_among, parameters_of, function_called, is_called, context_of, functions_of, globals_of, tops_of, all_data}
use Rattle.ql_code.specs.Code.{Code, mask_of}
use Rattle.ql_code.specs.declared.code.FunEntry.{FunEntry}
use Rattle.ql_compile.specs.Compile.{Scope, free, place_called, places_from, places_of, entry_of, size_of_function, size_of_tops, compiled, with_variables}
use Rattle.ql_code.specs.Sound.{is_constant, is_entry, are_constant, is_constant_pair, Sound, IsValid}
use Rattle.ql_compile.proofs.Compilable.{is_global, is_seen, has_parameters, is_right, are_right, are_right_functions, is_compilable}
use Rattle.ql_compile.proofs.Sized.{is_sized, is_sized_top, are_sized_tops, are_sized_functions, is_sized_program}
use Rattle.ql_compile.proofs.Fine.{IsGlobal, IsCalled, Fine}
use Rattle.ql_compile.proofs.FineOf as fine_of
use Rattle.ql_compile.proofs.FineOf.{both_true, Agrees, Contains, fine}
use Rattle.ql_compile.proofs.CompiledIsStrict.{compiled_is_valid}
use Rattle.ql_compile.proofs.CompiledIsSound.{FineTops, FineFunctions, FineProgram}

-- a word stays a constant where there are more pairs
constant_more : (n k : ℕ) (w : Word) → n ≤ k → is_constant n w ≡ true → is_constant k w ≡ true
constant_more n k (integer z) l e = refl
constant_more n k (symbol i) l e = refl
constant_more n k (pair i) l e = let a = ltb-true i n e in lt-ltb i k (omega (arith, a, l))
constant_more n k (closure i) l e = absurd cc
constant_more n k (process_closure i) l e = absurd cc
constant_more n k (future f) l e = absurd cc

constant_push : (n : ℕ) (ps : Pairs) (p : Word × Word) → are_constant n ps ≡ true → is_constant_pair (n + length ps) p ≡ true → are_constant n (ps ++ p ∷ []) ≡ true
constant_push n [] p e f = let z : n + 0 ≡ n = omega arith in let g : is_constant_pair n p ≡ true = subst (λ k. is_constant_pair k p ≡ true) z f in rw g refl
constant_push n (q ∷ ps) p e f =
    let b = both_true (is_constant_pair n q) (are_constant (n + 1) ps) e in
    let z : n + length (q ∷ ps) ≡ n + 1 + length ps = omega arith in
    rw (b.0) (constant_push (n + 1) ps p b.1 (subst (λ k. is_constant_pair k p ≡ true) z f))

-- pairs with all before them, and a word of theirs
record Quoted (ps : Pairs) (r : Pairs × Word) : Type 0 where
  all : are_constant 0 r.0 ≡ true
  longer : length ps ≤ length r.0
  word : is_constant (length r.0) r.1 ≡ true

atom_constant : (n : ℕ) (a : Atom) → is_constant n (atom_word a) ≡ true
atom_constant n (form.integer z) = refl
atom_constant n (form.symbol i) = refl

tail_constant : (n : ℕ) (t : Tail) → is_constant n (tail_word t) ≡ true
tail_constant n proper = refl
tail_constant n (dotted a) = atom_constant n a

paired : (ps : Pairs) (a : Word) (d : Pairs × Word) (n : ℕ) → n ≤ length d.0 → is_constant n a ≡ true → Quoted ps d → Quoted ps (with_pair a d)
paired ps a d n l e q =
    let k : is_constant_pair (0 + length d.0) (a, d.1) ≡ true =
    (let z : length d.0 ≡ 0 + length d.0 = omega arith in let c = constant_more n (length d.0) a l e in let w = q.word in subst (λ i. is_constant_pair i (a, d.1) ≡ true) z (rw (c, w) refl)) in
    let long : length (d.0 ++ (a, d.1) ∷ []) ≡ length d.0 + 1 = length-append d.0 ((a, d.1) ∷ []) in
    let m = q.longer in
    record { all = constant_push 0 d.0 (a, d.1) q.all k; longer = omega (arith, long, m); word = lt-ltb (length d.0) (length (d.0 ++ (a, d.1) ∷ [])) (omega (arith, long)) }

mutual
  quoted_is : (f : Form) (ps : Pairs) → are_constant 0 ps ≡ true → Quoted ps (quoted f ps)
  quoted_is (atom at a) ps e = record { all = e; longer = omega arith; word = atom_constant (length ps) a }
  quoted_is (list at fs t) ps e = items_are fs t ps e

  items_are : (fs : Forms) (t : Tail) (ps : Pairs) → are_constant 0 ps ≡ true → Quoted ps (quoted_items fs t ps)
  items_are none t ps e = record { all = e; longer = omega arith; word = tail_constant (length ps) t }
  items_are (more f fs) t ps e =
      let a = quoted_is f ps e in
      let b = items_are fs t (quoted f ps).0 a.all in
      paired ps (quoted f ps).1 (quoted_items fs t (quoted f ps).0) (length (quoted f ps).0) b.longer a.word
      (record { all = b.all; longer = (let m = a.longer in let n = b.longer in omega (arith, m, n)); word = b.word })

record QuotesAre (ps : Pairs) (q : Quotes) : Type 0 where
  all : are_constant 0 q.0 ≡ true
  longer : length ps ≤ length q.0
  words : (at : ℕ) → is_constant (length q.0) (word_at q.1 at) ≡ true

word_if : (n : ℕ) (b : Bool) (w v : Word) → is_constant n w ≡ true → is_constant n v ≡ true → is_constant n (if b then w else v) ≡ true
word_if n true w v h k = h
word_if n false w v h k = k

quotes_are : (ds : List Datum) (ps : Pairs) → are_constant 0 ps ≡ true → QuotesAre ps (quotes_after ds ps)
quotes_are [] ps e = record { all = e; longer = omega arith; words = λ at. refl }
quotes_are (d ∷ ds) ps e =
    let a = quoted_is d.1 ps e in
    let b = quotes_are ds (quoted d.1 ps).0 a.all in
    let l = a.longer in let m = b.longer in
    record {
      all = b.all;
      longer = omega (arith, l, m);
      words = λ at. word_if (length (quotes_after ds (quoted d.1 ps).0).0) (d.0 == at) (quoted d.1 ps).1 (word_at (quotes_after ds (quoted d.1 ps).0).1 at)
          (constant_more (length (quoted d.1 ps).0) (length (quotes_after ds (quoted d.1 ps).0).0) (quoted d.1 ps).1 m a.word) (b.words at);
    }

-- a call's function has an entry
abbrev Entered : Context → List FunEntry → Option (Function × ℕ) → ℕ → Type 0
Entered x es None n = ⊥
Entered x es (Some f) n = is_entry es f.1 n (mask_of (stored_among x (parameters_of f.0))) ≡ true

entered_more : (x : Context) (e : FunEntry) (es : List FunEntry) (o : Option (Function × ℕ)) (n : ℕ) → Entered x es o n → Entered x (e ∷ es) o n
entered_more x e es None n h = absurd h
entered_more x e es (Some f) n h = fine_of.or_true (e.place == f.1 && (e.params == n && e.mask == mask_of (stored_among x (parameters_of f.0)))) (is_entry es f.1 n (mask_of (stored_among x (parameters_of f.0)))) h

entered_if : (x : Context) (b : Bool) (f : Function) (pc : ℕ) (es : List FunEntry) (o : Option Function) (q : Option (Function × ℕ)) (n : ℕ) → (has_parameters o n ≡ true → Entered x es q n) → has_parameters (if b then Some f else o) n ≡ true
    → Entered x (entry_of x (f, pc) ∷ es) (if b then Some (f, pc) else q) n
entered_if x true f pc es o q n k h =
    let m = mask_of (stored_among x (parameters_of f)) in
    rw (eq-eqb pc pc refl, h, eq-eqb m m refl) refl
entered_if x false f pc es o q n k h = entered_more x (entry_of x (f, pc)) es q n (k h)

entered_is : (x : Context) (pc : ℕ) (fs : List Function) (w n : ℕ) → has_parameters (function_called fs w) n ≡ true → Entered x (map (entry_of x) (places_from pc fs)) (place_called (places_from pc fs) w) n
entered_is x pc [] w n h = absurd cc
entered_is x pc (f ∷ fs) w n h =
    entered_if x (is_called w f) f pc (map (entry_of x) (places_from (pc + size_of_function f) fs)) (function_called fs w) (place_called (places_from (pc + size_of_function f) fs) w) n
    (λ e. entered_is x (pc + size_of_function f) fs w n e) h

place_below : (globals : List ℕ) (w : ℕ) → is_some (place_of globals w) ≡ true → or_zero (place_of globals w) < length globals
place_below [] w e = absurd cc
place_below (g ∷ gs) w e = below (g == w) (place_of gs w) (place_below gs w) e
  where
    below : (b : Bool) (o : Option ℕ) → (is_some o ≡ true → or_zero o < length gs) → is_some (if b then Some 0 else option_map (λ i. i + 1) o) ≡ true → or_zero (if b then Some 0 else option_map (λ i. i + 1) o) < suc (length gs)
    below true o f e = omega arith
    below false None f e = absurd cc
    below false (Some i) f e = let k = f refl in omega (arith, k)

module _ (p : Program) where
  abbrev k : Code
  k = compiled p

  abbrev x : Context
  x = context_of p

  constants : (f : Form) → is_constant (length k.quoted) (constant_word x f) ≡ true
  constants (atom at a) = atom_constant (length k.quoted) a
  constants (list at fs t) = (quotes_are (all_data p) [] refl).words at

  called : (w n : ℕ) → has_parameters (function_called (functions_of p) w) n ≡ true → IsCalled k x (places_of p) (place_called (places_of p) w) n
  called w n h = of_entered (place_called (places_of p) w) (entered_is x (size_of_tops (tops_of p) + 1) (functions_of p) w n h)
    where
      of_entered : (o : Option (Function × ℕ)) → Entered x (map (entry_of x) (places_of p)) o n → IsCalled k x (places_of p) o n
      of_entered None h = h
      of_entered (Some f) h = h

  of_global : (y : Name) → is_global (globals_of p) y ≡ true → IsGlobal k x (places_of p) y
  of_global (named w) e = lt-ltb (or_zero (place_of (globals_of p) w)) (length (globals_of p)) (place_below (globals_of p) w e)
  of_global (hidden n) e = absurd cc

  fine_core : (above : List Binder) (sc : Scope) (c : Core) → is_right (functions_of p) (globals_of p) above c ≡ true → is_sized c ≡ true → Agrees x (places_of p) (free c) sc above → Contains x (places_of p) (stored_in above c) → Fine k x (places_of p) sc c
  fine_core = fine k x (places_of p) (functions_of p) (globals_of p) constants called of_global

  nothing_bound : (xs : List Name) → Agrees x (places_of p) xs [] []
  nothing_bound xs y i = tt

  fine_top : (c : Core) → is_right (functions_of p) (globals_of p) [] c ≡ true → is_sized_top c ≡ true → Contains x (places_of p) (stored_in [] c) → Fine k x (places_of p) [] c
  fine_top (core.core at (defvar l o c)) r z s =
      let rs = both_true (is_seen (globals_of p) [] (named l)) (is_right (functions_of p) (globals_of p) [] c) r in
      (of_global (named l) rs.0, fine_core [] [] c rs.1 z (nothing_bound (free c)) s)
  fine_top (core.core at n) r z s = fine_core [] [] (core.core at n) r z (nothing_bound (free (core.core at n))) s

  fine_tops : (cs : Cores) → are_right (functions_of p) (globals_of p) [] cs ≡ true → are_sized_tops cs ≡ true → Contains x (places_of p) (stored_in_cores [] cs) → FineTops k x (places_of p) cs
  fine_tops no_cores r z s = tt
  fine_tops (and_core c cs) r z s =
      let rs = both_true (is_right (functions_of p) (globals_of p) [] c) (are_right (functions_of p) (globals_of p) [] cs) r in
      let zs = both_true (is_sized_top c) (are_sized_tops cs) z in (
        fine_top c rs.0 zs.0 (fine_of.front x (places_of p) (stored_in [] c) (stored_in_cores [] cs) s),
        fine_tops cs rs.1 zs.1 (fine_of.back x (places_of p) (stored_in [] c) (stored_in_cores [] cs) s),
      )

  fine_functions : (fs : List Function) → are_right_functions (functions_of p) (globals_of p) fs ≡ true → are_sized_functions fs ≡ true → Contains x (places_of p) (stored_in_functions fs) → FineFunctions k x (places_of p) fs
  fine_functions [] r z s = tt
  fine_functions (function at l o ps c ∷ fs) r z s =
      let rs = both_true (is_right (functions_of p) (globals_of p) (inside ps []) c) (are_right_functions (functions_of p) (globals_of p) fs) r in
      let zs = both_true (leb (length ps) 16 && is_sized c) (are_sized_functions fs) z in
      let zt = both_true (leb (length ps) 16) (is_sized c) zs.0 in (
        (
          leb-true (length ps) 16 zt.0,
          fine_core (inside ps []) (with_variables ps (stored_among x ps) []) c rs.0 zt.1 (fine_of.agrees_inner x (places_of p) (free c) ps [] [] (nothing_bound _)) (fine_of.front x (places_of p) (stored_in (inside ps []) c) (stored_in_functions fs) s),
        ),
        fine_functions fs rs.1 zs.1 (fine_of.back x (places_of p) (stored_in (inside ps []) c) (stored_in_functions fs) s),
      )

  fine_program : is_compilable p ≡ true → is_sized_program p ≡ true → Contains x (places_of p) (stored_in_functions (functions_of p)) → Contains x (places_of p) (stored_in_cores [] (tops_of p)) → FineProgram p
  fine_program r z s u =
      let rs = both_true (are_right_functions (functions_of p) (globals_of p) (functions_of p)) (are_right (functions_of p) (globals_of p) [] (tops_of p)) r in
      let zs = both_true (are_sized_functions (functions_of p)) (are_sized_tops (tops_of p)) z in
      record { tops = fine_tops (tops_of p) rs.1 zs.1 u; functions = fine_functions (functions_of p) rs.0 zs.0 s; quoted = (quotes_are (all_data p) [] refl).all }

-- The code of each program that the checks of names and counts let through is sound, and more.
pub code_is_valid : (p : Program) → is_compilable p ≡ true → is_sized_program p ≡ true → IsValid (compiled p)
code_is_valid (program fs globals cs) r z =
    let p = program fs globals cs in
    compiled_is_valid p (fine_program p r z
    (λ b i. fine_of.binder_left b (stored_in_functions fs) (stored_in_cores [] cs) i)
    (λ b i. fine_of.binder_right b (stored_in_functions fs) (stored_in_cores [] cs) i))

pub code_is_sound : (p : Program) → is_compilable p ≡ true → is_sized_program p ≡ true → Sound (compiled p)
code_is_sound p r z = (code_is_valid p r z).sound
