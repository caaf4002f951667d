-- How instructions are counted, and that these are those of the code.
use Rattle.std.proofs.Common.{◌≡◌, ◌∙◌, ℕ, zero, suc, ◌+◌, ◌≤◌, ◌<◌, ◌⊎◌, inl, inr, true, false, nat_lt, List, [], ◌∷◌, ◌++◌, length, map, Option, Some, None, refl, ap, sym, arith, length-append, append_assoc, get_or}
use Rattle.std.specs.Prelude.{option_map, slice_get}
use Rattle.std.proofs.lemmas.List.{length-map, map-append}
use Rattle.std.proofs.lemmas.Option.{slice_get-map, slice_get_cases}
use Rattle.std.proofs.lemmas.Bool.Decides.{nat_tests}
use Rattle.ql_base.specs.declared.numbers.Offset.{Offset}
use Rattle.ql_expand.specs.Core as core
use Rattle.ql_expand.specs.Core.{Core, Node, constant, variable, setq, conditional, progn, binding, primitive, lambda, defvar, Cores, no_cores, and_core, Bounds, no_bounds, and_bound, Function, function, Program, program}
use Rattle.ql_expand.specs.View.{core_of, cores_of}
use Rattle.ql_expand.specs.declared.core_form.Core as declared
use Rattle.ql_scope.specs.Scope.{binders_in}
use Rattle.ql_meaning.specs.Context.{Context, context_of, offset_of, stored_among}
use Rattle.ql_code.specs.Code.{Instruction}
use Rattle.ql_compile.specs.Laws.{IsTooLong}
use Rattle.ql_compile.specs.Compile.{compiled, Scope, Places, size, size_of_values, size_of_joined, size_of_tops, code, code_of_node, code_of_cores, code_of_forms, code_of_values, code_of_joined, code_of_tops, code_of_functions, body_scope, with_variables, instructions_of, places_from, places_of}
use Rattle.ql_compile.specs.Measure.{counted, offsets_of, offsets_of_cores, offsets_of_forms, offsets_of_functions, offsets_of_joined, offsets_of_node, offsets_of_tops, offsets_of_values, with_one}
use Rattle.ql_compile.specs.declared.measure.Meter.{Meter}
use Rattle.ql_compile.proofs.Sizes.{long}

-- Counting.

pub counted_append : (m : Meter) (xs ys : List ℕ) → counted m (xs ++ ys) ≡ counted (counted m xs) ys
counted_append m [] ys = refl
counted_append m (x ∷ xs) ys = counted_append (with_one m x) xs ys

-- Of what is left, a first part is counted, and maybe one instruction more.
pub counted_next : (m n w : Meter) (xs ys : List ℕ) → n ≡ counted m xs → counted m (xs ++ ys) ≡ w → counted n ys ≡ w
counted_next m n w xs ys e whole = ap (λ k. counted k ys) e ∙ (sym (counted_append m xs ys) ∙ whole)

pub counted_step : (m n k w : Meter) (xs ys : List ℕ) (at : ℕ) → n ≡ counted m xs → k ≡ counted n (at ∷ []) → counted m (xs ++ at ∷ ys) ≡ w → counted k ys ≡ w
counted_step m n k w xs ys at e f whole = ap (λ k. counted k ys) f ∙ counted_next m n w xs (at ∷ ys) e whole

-- where one more form comes, the one before it has a drop
pub forms_more : (at : ℕ) (c l : declared.Core) (cs : List declared.Core) → offsets_of_forms at (cores_of (c ∷ cs ++ l ∷ [])) ≡ offsets_of (core_of c) ++ offset_of (core_of c) ∷ offsets_of_forms at (cores_of (cs ++ l ∷ []))
forms_more at c l [] = refl
forms_more at c l (d ∷ cs) = refl

one_within : (m : Meter) (at : ℕ) → m.count < 65535 → with_one m at ≡ record m { count = m.count + 1 }
one_within m at h = let t : nat_lt m.count 65535 ≡ true = grind (arith, nat_tests) in rw t refl

one_over : (m : Meter) (at : ℕ) → m.count ≡ 65535 → m.over ≡ None → with_one m at ≡ record m { over = Some (record { 0 = at }) }
one_over m at h e = let t : nat_lt m.count 65535 ≡ false = grind (arith, nat_tests) in rw (t, e) refl

-- As many as there may be are counted.
pub within : (m : Meter) (os : List ℕ) → m.over ≡ None → m.count + length os ≤ 65535 → counted m os ≡ record { count = m.count + length os; over = None }
within m [] e h = let none : m.count ≡ m.count + 0 = omega arith in λ i. record { count = none i; over = e i }
within m (at ∷ os) e h =
    let more : m.count + 1 + length os ≡ m.count + length (at ∷ os) = omega arith in
    ap (λ k. counted k os) (one_within m at (omega arith))
    ∙ (within (record m { count = m.count + 1 }) os e (omega arith) ∙ ap (λ n. record { count = n; over = None }) more)

stays : (m : Meter) (os : List ℕ) (o : Offset) → m.count ≡ 65535 → m.over ≡ Some o → (counted m os).over ≡ Some o
stays m [] o h e = e
stays m (at ∷ os) o h e =
    let t : nat_lt m.count 65535 ≡ false = grind (arith, nat_tests) in
    let same : with_one m at ≡ record m { over = Some o } = rw (t, e) refl in
    ap (λ k. (counted k os).over) same ∙ stays (record m { over = Some o }) os o h refl

abbrev as_offset : ℕ → Offset
as_offset n = record { 0 = n }

-- The first that is too many is the one that there is no room for.
pub over_is : (m : Meter) (os : List ℕ) (room : ℕ) → m.over ≡ None → m.count + room ≡ 65535 → (counted m os).over ≡ option_map as_offset (slice_get os room)
over_is m [] room e h = e
over_is m (at ∷ os) zero e h =
    let full : m.count ≡ 65535 = omega arith in
    ap (λ k. (counted k os).over) (one_over m at full e) ∙ stays (record m { over = Some (record { 0 = at }) }) os (record { 0 = at }) full refl
over_is m (at ∷ os) (suc room) e h =
    ap (λ k. (counted k os).over) (one_within m at (omega arith)) ∙ over_is (record m { count = m.count + 1 }) os room e (omega arith)

-- The instructions of the code.

abbrev pub ats : List Instruction → List ℕ
ats is = map (λ i. i.at) is

both : (is js : List Instruction) (os ps : List ℕ) → ats is ≡ os → ats js ≡ ps → ats (is ++ js) ≡ os ++ ps
both is js os ps e f = map-append (λ (i : Instruction). i.at) is js ∙ (ap (λ xs. xs ++ ats js) e ∙ ap (λ xs. os ++ xs) f)

then : (at : ℕ) (os ps : List ℕ) → os ≡ ps → at ∷ os ≡ at ∷ ps
then at os ps e = ap (λ xs. at ∷ xs) e

module _ (x : Context) (places : Places) where
  mutual
    pub ats_of : (sc : Scope) (pc : ℕ) (c : Core) → ats (code x places sc pc c) ≡ offsets_of c
    ats_of sc pc (core.core at n) = ats_of_node sc pc at n

    ats_of_node : (sc : Scope) (pc at : ℕ) (n : Node) → ats (code_of_node x places sc pc at n) ≡ offsets_of_node at n
    ats_of_node sc pc at (constant f) = refl
    ats_of_node sc pc at (variable y) = refl
    ats_of_node sc pc at (setq y o c) = both _ _ _ _ (ats_of sc pc c) refl
    ats_of_node sc pc at (conditional a b c) =
        both _ _ _ _ (ats_of sc pc a) (then at _ _ (both _ _ _ _ (ats_of sc (pc + size a + 1) b) (then at _ _ (ats_of sc (pc + size a + 1 + size b + 1) c))))
    ats_of_node sc pc at (progn cs) = ats_of_forms sc pc at cs
    ats_of_node sc pc at (binding bs c) =
        both _ _ _ _ (ats_of_values sc pc bs)
        (then at _ _ (both _ _ _ _ (ats_of (with_variables (binders_in bs) (stored_among x (binders_in bs)) sc) (pc + size_of_values bs + 1) c) refl))
    ats_of_node sc pc at (primitive o cs) = both _ _ _ _ (ats_of_cores sc pc cs) refl
    ats_of_node sc pc at (core.print c) = both _ _ _ _ (ats_of sc pc c) refl
    ats_of_node sc pc at (core.call f o cs) = both _ _ _ _ (ats_of_cores sc pc cs) refl
    ats_of_node sc pc at (core.funcall true c cs) = both _ _ _ _ (ats_of sc pc c) (both _ _ _ _ (ats_of_cores (None ∷ sc) (pc + size c) cs) refl)
    ats_of_node sc pc at (core.funcall false c cs) = both _ _ _ _ (ats_of sc pc c) (both _ _ _ _ (ats_of_cores (None ∷ sc) (pc + size c) cs) refl)
    ats_of_node sc pc at (lambda ps c) = then at _ _ (both _ _ _ _ (ats_of (body_scope x sc ps c) (pc + 1) c) refl)
    ats_of_node sc pc at (core.qlet p bs c) =
        both _ _ _ _ (ats_of sc pc p) (then at _ _ (both _ _ _ _ (ats_of_joined sc (pc + size p + 1) bs) (then at _ _ (then at _ _ (then at _ _
        (both _ _ _ _ (ats_of (with_variables (binders_in bs) (stored_among x (binders_in bs)) sc) (pc + size p + 1 + size_of_joined bs + 1 + 2) c) refl))))))
    ats_of_node sc pc at (core.qlambda p ps c) =
        both _ _ _ _ (ats_of sc pc p) (then at _ _ (both _ _ _ _ (ats_of (body_scope x sc ps c) (pc + size p + 1) c) refl))
    ats_of_node sc pc at (core.catch a b) = both _ _ _ _ (ats_of sc pc a) (then at _ _ (both _ _ _ _ (ats_of sc (pc + size a + 1) b) refl))
    ats_of_node sc pc at (core.qcatch a b) = both _ _ _ _ (ats_of sc pc a) (then at _ _ (both _ _ _ _ (ats_of sc (pc + size a + 1) b) refl))
    ats_of_node sc pc at (core.throw a b) = both _ _ _ _ (ats_of sc pc a) (both _ _ _ _ (ats_of (None ∷ sc) (pc + size a) b) refl)
    ats_of_node sc pc at (core.protect a b) =
        then at _ _ (both _ _ _ _ (ats_of sc (pc + 1) a) (then at _ _ (both _ _ _ _ (ats_of (None ∷ sc) (pc + 1 + size a + 1) b) refl)))
    ats_of_node sc pc at (defvar l o c) = both _ _ _ _ (ats_of sc pc c) refl

    ats_of_cores : (sc : Scope) (pc : ℕ) (cs : Cores) → ats (code_of_cores x places sc pc cs) ≡ offsets_of_cores cs
    ats_of_cores sc pc no_cores = refl
    ats_of_cores sc pc (and_core c cs) = both _ _ _ _ (ats_of sc pc c) (ats_of_cores (None ∷ sc) (pc + size c) cs)

    ats_of_values : (sc : Scope) (pc : ℕ) (bs : Bounds) → ats (code_of_values x places sc pc bs) ≡ offsets_of_values bs
    ats_of_values sc pc no_bounds = refl
    ats_of_values sc pc (and_bound b c bs) = both _ _ _ _ (ats_of sc pc c) (ats_of_values (None ∷ sc) (pc + size c) bs)

    ats_of_joined : (sc : Scope) (pc : ℕ) (bs : Bounds) → ats (code_of_joined x places sc pc bs) ≡ offsets_of_joined bs
    ats_of_joined sc pc no_bounds = refl
    ats_of_joined sc pc (and_bound b c bs) = both _ _ _ _ (ats_of sc pc c) (then (offset_of c) _ _ (ats_of_joined (None ∷ sc) (pc + size c + 1) bs))

    ats_of_forms : (sc : Scope) (pc at : ℕ) (cs : Cores) → ats (code_of_forms x places sc pc at cs) ≡ offsets_of_forms at cs
    ats_of_forms sc pc at no_cores = refl
    ats_of_forms sc pc at (and_core c no_cores) = ats_of sc pc c
    ats_of_forms sc pc at (and_core c (and_core d ds)) = both _ _ _ _ (ats_of sc pc c) (then (offset_of c) _ _ (ats_of_forms sc (pc + size c + 1) at (and_core d ds)))

  ats_of_tops : (pc : ℕ) (cs : Cores) → ats (code_of_tops x places pc cs) ≡ offsets_of_tops cs
  ats_of_tops pc no_cores = refl
  ats_of_tops pc (and_core c cs) = both _ _ _ _ (ats_of [] pc c) (then (offset_of c) _ _ (ats_of_tops (pc + size c + 1) cs))

  ats_of_functions : (pc : ℕ) (fs : List Function) → ats (code_of_functions x places (places_from pc fs)) ≡ offsets_of_functions fs
  ats_of_functions pc [] = refl
  ats_of_functions pc (function at l o ps c ∷ fs) =
      both _ _ _ _ (both _ _ _ _ (ats_of (with_variables ps (stored_among x ps) []) pc c) refl) (ats_of_functions (pc + (size c + 1)) fs)
      ∙ append_assoc (offsets_of c) (at ∷ []) (offsets_of_functions fs)

-- the context of no program
abbrev nowhere : Context
nowhere = record { functions = []; globals = []; stored = []; quotes = [] }

pub offsets_long : (c : Core) → length (offsets_of c) ≡ size c
offsets_long c =
    let is = code nowhere [] [] 0 c in
    ap length (sym (ats_of nowhere [] [] 0 c)) ∙ (length-map is (λ (i : Instruction). i.at) ∙ long nowhere [] [] 0 c)

pub tops_long : (cs : Cores) → length (offsets_of_tops cs) ≡ size_of_tops cs
tops_long no_cores = refl
tops_long (and_core c cs) = omega (arith, length-append {A = ℕ}, offsets_long c, tops_long cs)

-- the offsets of a program's instructions
abbrev pub offsets_of_program : Program → List ℕ
offsets_of_program (program fs globals cs) = offsets_of_tops cs ++ 0 ∷ offsets_of_functions fs

pub ats_of_program : (x : Context) (p : Program) → ats (instructions_of x (places_of p) p) ≡ offsets_of_program p
ats_of_program x (program fs globals cs) =
    let places = places_of (program fs globals cs) in
    both _ _ _ _ (ats_of_tops x places 0 cs) (then 0 _ _ (ats_of_functions x places (size_of_tops cs + 1) fs))

-- Where functions begin.

-- These places, with those of the functions that are left, are all.
pub record Going (m : Meter) (fs : List Function) (places whole : List ℕ) : Type 0 where
  pub none_over : m.over ≡ None
  pub few : m.count + length (offsets_of_functions fs) ≤ 65535
  pub all : places ++ map (λ (f : Function × ℕ). f.1) (places_from m.count fs) ≡ whole

pub functions_next : (m n k : Meter) (at l o : ℕ) (ps : List core.Binder) (c : Core) (fs : List Function) (old new whole : List ℕ)
    → n ≡ counted m (offsets_of c) → k ≡ counted n (at ∷ []) → new ≡ old ++ m.count ∷ []
    → Going m (function at l o ps c ∷ fs) old whole → Going k fs new whole
functions_next m n k at l o ps c fs old new whole e f pushed g =
    let long = length-append (offsets_of c) (at ∷ offsets_of_functions fs) in
    let here = length-append (offsets_of c) (at ∷ []) in
    let sized = offsets_long c in
    let few = g.few in
    let body : m.count + length (offsets_of c ++ at ∷ []) ≤ 65535 = omega (arith, long, here, few) in
    let next : m.count + length (offsets_of c ++ at ∷ []) ≡ m.count + (size c + 1) = omega (arith, here, sized) in
    let is : k ≡ record { count = m.count + (size c + 1); over = None } =
    f ∙ (ap (λ j. counted j (at ∷ [])) e ∙ (sym (counted_append m (offsets_of c) (at ∷ [])) ∙ (within m (offsets_of c ++ at ∷ []) g.none_over body ∙ ap (λ j. record { count = j; over = None }) next))) in
    let count : k.count ≡ m.count + (size c + 1) = ap (λ j. j.count) is in
    record {
      none_over = ap (λ j. j.over) is;
      few = omega (arith, long, sized, few, count);
      all = ap (λ xs. xs ++ map (λ (q : Function × ℕ). q.1) (places_from k.count fs)) pushed
          ∙ (ap (λ j. (old ++ m.count ∷ []) ++ map (λ (q : Function × ℕ). q.1) (places_from j fs)) count
          ∙ (append_assoc old (m.count ∷ []) (map (λ (q : Function × ℕ). q.1) (places_from (m.count + (size c + 1)) fs)) ∙ g.all));
    }

-- The whole program.

-- All steps count the instructions of the program.
pub whole_counted : (m a b c : Meter) (fs : List Function) (globals : List ℕ) (cs : Cores)
    → a ≡ counted m (offsets_of_tops cs) → b ≡ counted a (0 ∷ []) → c ≡ counted b (offsets_of_functions fs) → c ≡ counted m (offsets_of_program (program fs globals cs))
whole_counted m a b c fs globals cs e f g =
    g ∙ (ap (λ k. counted k (offsets_of_functions fs)) f ∙ (ap (λ k. counted k (0 ∷ offsets_of_functions fs)) e ∙ sym (counted_append m (offsets_of_tops cs) (0 ∷ offsets_of_functions fs))))

-- The code is too long, and where.
pub over_told : (p : Program) (c : Meter) (at : Offset) → c ≡ counted (record { count = 0; over = None }) (offsets_of_program p) → c.over ≡ Some at → IsTooLong (compiled p) at.0
over_told p c at e over =
    let os = offsets_of_program p in
    let is = instructions_of (context_of p) (places_of p) p in
    let found : option_map as_offset (slice_get os 65535) ≡ Some at =
    sym (over_is (record { count = 0; over = None }) os 65535 refl refl) ∙ (ap (λ m. m.over) (sym e) ∙ over) in
    sym (slice_get-map (λ (i : Instruction). i.at) is 65535) ∙ (ap (λ xs. slice_get xs 65535) (ats_of_program (context_of p) p) ∙ opened_offset (slice_get os 65535) at found)
  where
    opened_offset : (o : Option ℕ) (at : Offset) → option_map as_offset o ≡ Some at → o ≡ Some at.0
    opened_offset None at e = cc
    opened_offset (Some n) at e = ap (option_map (λ (q : Offset). q.0)) e

some_none : {X : Type 0} (o : Option X) (x : X) → o ≡ Some x → o ≡ None → ⊥
some_none None x p q = cc
some_none (Some y) x p q = cc

no_more : {X : Type 0} (xs : List X) (n : ℕ) → slice_get xs n ≡ None → length xs ≤ n
no_more {X = X} xs n e = by (slice_get_cases xs n).1
  where
    by : ((x : X) × (n < length xs) × (slice_get xs n ≡ Some x) × (get_or xs n x ≡ x)) ⊎ ((length xs ≤ n) × (slice_get xs n ≡ None)) → length xs ≤ n
    by (inl h) = absurd (some_none (slice_get xs n) h.0 h.2 e)
    by (inr h) = h.0

-- The code is short.
pub short_told : (p : Program) (c : Meter) → c ≡ counted (record { count = 0; over = None }) (offsets_of_program p) → c.over ≡ None → length (offsets_of_program p) ≤ 65535
short_told p c e over =
    no_more (offsets_of_program p) 65535 (closed_offset (slice_get (offsets_of_program p) 65535) (sym (over_is (record { count = 0; over = None }) (offsets_of_program p) 65535 refl refl) ∙ (ap (λ m. m.over) (sym e) ∙ over)))
  where
    closed_offset : (o : Option ℕ) → option_map as_offset o ≡ None → o ≡ None
    closed_offset None e = refl
    closed_offset (Some n) e = absurd cc

pub as_long : (p : Program) → length (compiled p).instructions ≡ length (offsets_of_program p)
as_long p = sym (length-map (compiled p).instructions (λ (i : Instruction). i.at)) ∙ ap length (ats_of_program (context_of p) p)

-- The functions begin after the top forms and the end.
pub base_is : (a b : Meter) (fs : List Function) (globals : List ℕ) (cs : Cores)
    → a ≡ counted (record { count = 0; over = None }) (offsets_of_tops cs) → b ≡ counted a (0 ∷ []) → length (offsets_of_program (program fs globals cs)) ≤ 65535
    → (b ≡ record { count = size_of_tops cs + 1; over = None }) × (b.count + length (offsets_of_functions fs) ≤ 65535)
base_is a b fs globals cs e f h =
    let tops = offsets_of_tops cs in
    let long = length-append tops (0 ∷ offsets_of_functions fs) in
    let base = length-append tops (0 ∷ []) in
    let sized = tops_long cs in
    let few : 0 + length (tops ++ 0 ∷ []) ≤ 65535 = omega (arith, long, base, h) in
    let next : 0 + length (tops ++ 0 ∷ []) ≡ size_of_tops cs + 1 = omega (arith, base, sized) in
    let is : b ≡ record { count = size_of_tops cs + 1; over = None } =
    f ∙ (ap (λ k. counted k (0 ∷ [])) e ∙ (sym (counted_append (record { count = 0; over = None }) tops (0 ∷ []))
    ∙ (within (record { count = 0; over = None }) (tops ++ 0 ∷ []) refl few ∙ ap (λ n. record { count = n; over = None }) next))) in
    let count : b.count ≡ size_of_tops cs + 1 = ap (λ k. k.count) is in
    (is, omega (arith, long, sized, h, count))
