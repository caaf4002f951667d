-- Steps of the emitter under other slots, and in loops.
use Rattle.std.proofs.Common.{◌≡◌, ℕ, zero, suc, ◌+◌, ◌==◌, Result, Bool, true, false, List, [], ◌∷◌, ◌++◌, length, drop, Some, None, refl, ap, sym, ◌∙◌, arith, add-one, append_assoc, append-nil, length-append, length-drop, ◌-◌}
use Rattle.std.specs.Prelude.{OnOk, nat_lt}
use Rattle.std.proofs.lemmas.Bool.Decides.{nat_tests}
use Rattle.std.proofs.lemmas.Result.{on_ok_weaker}
use Rattle.ql_expand.specs.Core.{Binder, Core, Cores, no_cores, and_core, Bounds, and_bound, Function, function}
use Rattle.ql_expand.specs.View.{core_of, cores_of}
use Rattle.ql_expand.specs.declared.core_form.Core.{Core as CoreValue}
use Rattle.ql_meaning.specs.Context.{name_of, offset_of, stored_among}
use Rattle.ql_code.specs.Code.{Instruction, instruction}
use Rattle.ql_code.specs.declared.code.Op.TheVariants.{Bind as bind, Drop as drop_op, End as end, Join as join, Return as return, Slide as slide}
use Rattle.ql_compile.specs.Compile.{Scope, body_scope, captured, caught_slots, code, code_of_cores, code_of_forms, code_of_functions, code_of_joined, code_of_tops, code_of_values, mask, places_from, size, size_of_function, size_of_tops, starts_of, with_variables}
use Rattle.ql_compile.specs.Emitting.{Binds, Emits, closing, closure_code, context_in, core_code, cores_code, dropped, followed, forms_code, function_code, functions_code, joined_code, just, places_in, tops_code, under_code, values_code, within}
use Rattle.ql_compile.specs.declared.emit.Emitter.{Emitter}
use Rattle.ql_compile.proofs.Emitting.{and_then, emits_then, hole, with_output}
use Rattle.ql_compile.proofs.Sizes.{long}

-- variables stand above what was there
pub above_variables : (bs : List Binder) (ss : List Bool) (sc : Scope) → with_variables bs ss sc ≡ with_variables bs ss [] ++ sc
above_variables [] ss sc = refl
above_variables (b ∷ bs) [] sc = refl
above_variables (b ∷ bs) (s ∷ ss) sc =
    above_variables bs ss (Some (name_of b, s) ∷ sc)
    ∙ (sym (append_assoc (with_variables bs ss []) (Some (name_of b, s) ∷ []) sc)
    ∙ ap (λ up. up ++ sc) (sym (above_variables bs ss (Some (name_of b, s) ∷ []))))

-- a core under other slots, after other instructions
pub inside_then : (a b c : Emitter) (X : List Instruction) (V : Scope) (C : Core) → b ≡ within (followed a X) V → Emits b c (core_code C)
    → c ≡ within (followed a (X ++ code (context_in a) (places_in a) V (length a.output + length X) C)) V
inside_then a b c X V C x y =
    y ∙ (ap (λ e. followed e (core_code C e)) x
    ∙ (ap (λ n. within (followed (followed a X) (code (context_in a) (places_in a) V n C)) V) (length-append a.output X)
    ∙ ap (λ is. within (with_output a is) V) (append_assoc a.output X (code (context_in a) (places_in a) V (length a.output + length X) C))))

pub under_codes : {T E : Type 0} (r : Result T E) (at : ℕ) (bs : List Binder) (C : Core) (n outer : ℕ) (a b c d : Emitter)
    → n ≡ length bs → outer ≡ length a.frame → Binds a b at bs → Emits b c (core_code C)
    → ((above below : Scope) → c.frame ≡ above ++ below → outer ≡ length below → OnOk r (d ≡ within (followed c (instruction (slide n) at ∷ [])) below))
    → OnOk r (Emits a d (under_code at bs C))
under_codes r at bs C n outer a b c d hn ho ea eb slid =
    let ss = stored_among (context_in a) bs in
    let V = with_variables bs ss a.frame in
    let i : Instruction = instruction (bind (length bs) (mask (context_in a) bs)) at in
    let M = code (context_in a) (places_in a) V (length a.output + 1) C in
    let c1 : c ≡ within (followed a (i ∷ M)) V = inside_then a b c (i ∷ []) V C ea eb in
    let split : c.frame ≡ with_variables bs ss [] ++ a.frame = ap (λ e. e.frame) c1 ∙ above_variables bs ss a.frame in
    on_ok_weaker r (λ (last : d ≡ within (followed c (instruction (slide n) at ∷ [])) a.frame).
    last ∙ (ap (λ e. within (followed e (instruction (slide n) at ∷ [])) a.frame) c1
    ∙ (ap (λ m. followed (followed a (i ∷ M)) (instruction (slide m) at ∷ [])) hn
    ∙ ap (with_output a) (append_assoc a.output (i ∷ M) (instruction (slide (length bs)) at ∷ [])))))
    (slid (with_variables bs ss []) a.frame split ho)

pub closure_codes : {T E : Type 0} (r : Result T E) (at : ℕ) (q : Bool) (ps : List Binder) (C : Core) (n place : ℕ) (slots : List ℕ) (outer : Scope) (a b c d : Emitter)
    → n ≡ length ps → place ≡ length a.output → outer ≡ a.frame → slots ≡ caught_slots (captured (context_in a) a.frame ps C)
    → b ≡ within (followed a (hole at ∷ [])) (body_scope (context_in a) a.frame ps C) → Emits b c (core_code C)
    → ((before after : List Instruction) (i : Instruction) → c.output ≡ before ++ i ∷ after → place ≡ length before
    → OnOk r (d ≡ within (with_output c (before ++ instruction (closing q n (mask (context_in c) ps) slots (length c.output + 1)) i.at ∷ (after ++ instruction return at ∷ []))) outer))
    → OnOk r (Emits a d (closure_code at q ps C))
closure_codes r at q ps C n place slots outer a b c d hn hp ho hs ea eb closed =
    let x = context_in a in
    let V = body_scope x a.frame ps C in
    let M = code x (places_in a) V (length a.output + 1) C in
    let m : length M ≡ size C = long x (places_in a) V (length a.output + 1) C in
    let rest : List Instruction = M ++ instruction return at ∷ [] in
    let c1 : c ≡ within (followed a (hole at ∷ M)) V = inside_then a b c (hole at ∷ []) V C ea eb in
    let split : c.output ≡ a.output ++ hole at ∷ M = ap (λ e. e.output) c1 in
    let next : length (a.output ++ hole at ∷ M) + 1 ≡ length a.output + 1 + size C + 1 = omega (arith, m, length-append {A = Instruction}) in
    on_ok_weaker r (λ (last : d ≡ within (with_output c (a.output ++ instruction (closing q n (mask (context_in c) ps) slots (length c.output + 1)) at ∷ rest)) outer).
    last ∙ (ap (λ e. within (with_output e (a.output ++ instruction (closing q n (mask (context_in e) ps) slots (length e.output + 1)) at ∷ rest)) outer) c1
    ∙ (ap (λ sc. within (with_output a (a.output ++ instruction (closing q n (mask x ps) slots (length (a.output ++ hole at ∷ M) + 1)) at ∷ rest)) sc) ho
    ∙ (ap (λ k. followed a (instruction (closing q k (mask x ps) slots (length (a.output ++ hole at ∷ M) + 1)) at ∷ rest)) hn
    ∙ (ap (λ s. followed a (instruction (closing q (length ps) (mask x ps) s (length (a.output ++ hole at ∷ M) + 1)) at ∷ rest)) hs
    ∙ ap (λ k. followed a (instruction (closing q (length ps) (mask x ps) (caught_slots (captured x a.frame ps C)) k) at ∷ rest)) next)))))
    (closed a.output M (hole at) split hp)

-- code above an operand, which is let go after it
pub above_codes : (G : Emitter → List Instruction) (a c : Emitter) (pushed kept : Scope) (outer : ℕ) → outer ≡ length a.frame → pushed ≡ None ∷ a.frame → Emits (within a pushed) c G
    → ((above below : Scope) → c.frame ≡ above ++ below → outer ≡ length below → kept ≡ below) → within c kept ≡ followed a (G (within a (None ∷ a.frame)))
above_codes G a c pushed kept outer ho hp ec keep =
    let c1 : c ≡ followed (within a (None ∷ a.frame)) (G (within a (None ∷ a.frame))) = ec ∙ ap (λ sc. followed (within a sc) (G (within a sc))) hp in
    let back : kept ≡ a.frame = keep (None ∷ []) a.frame (ap (λ e. e.frame) c1) ho in
    ap (within c) back ∙ ap (λ e. within e a.frame) c1

-- so many operands above a frame
abbrev pub operands : ℕ → Scope → Scope
operands zero sc = sc
operands (suc n) sc = None ∷ operands n sc

operands_above : (n : ℕ) (sc : Scope) → operands n sc ≡ operands n [] ++ sc
operands_above zero sc = refl
operands_above (suc n) sc = ap (λ up. None ∷ up) (operands_above n sc)

pub operands_more : (n : ℕ) (sc pushed above : Scope) → above ≡ operands n sc → pushed ≡ None ∷ above → pushed ≡ operands (n + 1) sc
operands_more n sc pushed above h p = p ∙ (ap (λ up. None ∷ up) h ∙ ap (λ k. operands k sc) (sym (add-one n)))

-- one more of a list is done
pub rest_one : (G H : Emitter → List Instruction) (a b d w : Emitter) (K : List Instruction) → d ≡ within (followed b K) (None ∷ b.frame)
    → H b ≡ K ++ G (within (followed b K) (None ∷ b.frame)) → followed (within b a.frame) (H b) ≡ w → followed (within d a.frame) (G d) ≡ w
rest_one G H a b d w K ed h whole =
    ap (λ e. followed (within e a.frame) (G e)) ed
    ∙ (ap (λ is. within (with_output b is) a.frame) (append_assoc b.output K (G (within (followed b K) (None ∷ b.frame))))
    ∙ (ap (followed (within b a.frame)) (sym h) ∙ whole))

-- all are done
pub rest_none : (a b w : Emitter) (n outer : ℕ) (kept : Scope) → b.frame ≡ operands n a.frame → outer ≡ length a.frame
    → ((above below : Scope) → b.frame ≡ above ++ below → outer ≡ length below → kept ≡ below) → followed (within b a.frame) [] ≡ w → within b kept ≡ w
rest_none a b w n outer kept h ho keep whole =
    let back : kept ≡ a.frame = keep (operands n []) a.frame (h ∙ operands_above n a.frame) ho in
    ap (within b) back ∙ (sym (ap (λ is. within (with_output b is) a.frame) (append-nil b.output)) ∙ whole)

pub pushed_is : (b c : Emitter) (K : List Instruction) (pushed : Scope) → c ≡ followed b K → pushed ≡ None ∷ c.frame → within c pushed ≡ within (followed b K) (None ∷ b.frame)
pushed_is b c K pushed ec ep = ap (within c) ep ∙ ap (λ e. within e (None ∷ e.frame)) ec

pub cores_split : (b : Emitter) (C : Core) (cs : Cores) → cores_code (and_core C cs) b ≡ core_code C b ++ cores_code cs (within (followed b (core_code C b)) (None ∷ b.frame))
cores_split b C cs =
    let K = core_code C b in
    let k : length K ≡ size C = long (context_in b) (places_in b) b.frame (length b.output) C in
    let place : length b.output + size C ≡ length (b.output ++ K) = omega (arith, k, length-append {A = Instruction}) in
    ap (λ n. K ++ code_of_cores (context_in b) (places_in b) (None ∷ b.frame) n cs) place

pub values_split : (b : Emitter) (B : Binder) (C : Core) (bs : Bounds) → values_code (and_bound B C bs) b ≡ core_code C b ++ values_code bs (within (followed b (core_code C b)) (None ∷ b.frame))
values_split b B C bs =
    let K = core_code C b in
    let k : length K ≡ size C = long (context_in b) (places_in b) b.frame (length b.output) C in
    let place : length b.output + size C ≡ length (b.output ++ K) = omega (arith, k, length-append {A = Instruction}) in
    ap (λ n. K ++ code_of_values (context_in b) (places_in b) (None ∷ b.frame) n bs) place

-- a value and its join
abbrev pub one_joined : Core → Emitter → List Instruction
one_joined C e = core_code C e ++ instruction join (offset_of C) ∷ []

joined_length : (b : Emitter) (C : Core) → length (b.output ++ one_joined C b) ≡ length b.output + size C + 1
joined_length b C = let k : length (core_code C b) ≡ size C = long (context_in b) (places_in b) b.frame (length b.output) C in omega (arith, k, length-append {A = Instruction})

pub joined_split : (b : Emitter) (B : Binder) (C : Core) (bs : Bounds) → joined_code (and_bound B C bs) b ≡ one_joined C b ++ joined_code bs (within (followed b (one_joined C b)) (None ∷ b.frame))
joined_split b B C bs =
    let K = core_code C b in
    let j : Instruction = instruction join (offset_of C) in
    ap (λ n. K ++ j ∷ code_of_joined (context_in b) (places_in b) (None ∷ b.frame) n bs) (sym (joined_length b C))
    ∙ sym (append_assoc K (j ∷ []) (code_of_joined (context_in b) (places_in b) (None ∷ b.frame) (length (b.output ++ one_joined C b)) bs))

pub starts_split : (b d : Emitter) (B : Binder) (C : Core) (bs : Bounds) (old new whole : List ℕ) → d ≡ within (followed b (one_joined C b)) (None ∷ b.frame)
    → new ≡ old ++ length b.output ∷ [] → old ++ starts_of (length b.output) (and_bound B C bs) ≡ whole → new ++ starts_of (length d.output) bs ≡ whole
starts_split b d B C bs old new whole ed en h =
    let place : length d.output ≡ length b.output + size C + 1 = ap (λ e. length e.output) ed ∙ joined_length b C in
    ap (λ n. new ++ starts_of n bs) place
    ∙ (ap (λ s. s ++ starts_of (length b.output + size C + 1) bs) en ∙ (append_assoc old (length b.output ∷ []) (starts_of (length b.output + size C + 1) bs) ∙ h))

-- the code of the forms that are left, of which there may be none
abbrev pub forms_left : ℕ → List CoreValue → Emitter → List Instruction
forms_left at [] e = []
forms_left at (c ∷ cs) e = forms_code at (cores_of (c ∷ cs)) e

pub some_left : (at : ℕ) (cs : List CoreValue) (e : Emitter) → (length cs == 0) ≡ false → forms_left at cs e ≡ forms_code at (cores_of cs) e
some_left at [] e h = absurd cc
some_left at (c ∷ cs) e h = refl

abbrev pub some : List CoreValue → Bool
some [] = false
some (c ∷ cs) = true

pub some_more : (cs : List CoreValue) (k : ℕ) → nat_lt k (length cs) ≡ some (drop k cs)
some_more cs k = by (drop k cs) (length-drop k cs)
  where
    by : (ds : List CoreValue) → length ds ≡ length cs - k → nat_lt k (length cs) ≡ some ds
    by [] h = grind (arith, nat_tests)
    by (d ∷ ds) h = grind (arith, nat_tests)

pub form_one : (at : ℕ) (C : CoreValue) (cs : List CoreValue) (b c d w : Emitter) (more : Bool) → more ≡ some cs → Emits b c (core_code (core_of C)) → d ≡ followed c (dropped more (offset_of (core_of C)))
    → followed b (forms_left at (C ∷ cs) b) ≡ w → followed d (forms_left at cs d) ≡ w
form_one at C [] b c d w more hm ec ed whole =
    let none : dropped more (offset_of (core_of C)) ≡ [] = ap (λ t. dropped t (offset_of (core_of C))) hm in
    let d1 : d ≡ followed c [] = ed ∙ ap (followed c) none in
    ap (λ e. followed e []) d1 ∙ (ap (with_output c) (append-nil (c.output ++ []) ∙ append-nil c.output) ∙ (ec ∙ whole))
form_one at C (D ∷ cs) b c d w more hm ec ed whole =
    let K = core_code (core_of C) b in
    let i : Instruction = instruction drop_op (offset_of (core_of C)) in
    let one : dropped more (offset_of (core_of C)) ≡ i ∷ [] = ap (λ t. dropped t (offset_of (core_of C))) hm in
    let d1 : d ≡ followed b (K ++ i ∷ []) = and_then b c d K (i ∷ []) ec (ed ∙ ap (followed c) one) in
    let k : length K ≡ size (core_of C) = long (context_in b) (places_in b) b.frame (length b.output) (core_of C) in
    let place : length (b.output ++ (K ++ i ∷ [])) ≡ length b.output + size (core_of C) + 1 = omega (arith, k, length-append {A = Instruction}) in
    let F = λ (n : ℕ). code_of_forms (context_in b) (places_in b) b.frame n at (cores_of (D ∷ cs)) in
    ap (λ e. followed e (forms_left at (D ∷ cs) e)) d1
    ∙ (ap (with_output b) (append_assoc b.output (K ++ i ∷ []) (F (length (b.output ++ (K ++ i ∷ [])))) ∙ ap (λ is. b.output ++ is) (append_assoc K (i ∷ []) (F (length (b.output ++ (K ++ i ∷ []))))))
    ∙ (ap (λ n. followed b (K ++ i ∷ F n)) place ∙ whole))

-- a top form and a drop of its value
pub top_one : (C : Core) (cs : Cores) (b c d w : Emitter) → b.frame ≡ [] → Emits b c (core_code C) → Emits c d (just drop_op (offset_of C)) → followed b (tops_code (and_core C cs) b) ≡ w → followed d (tops_code cs d) ≡ w
top_one C cs b c d w hf ec ed whole =
    let x = context_in b in
    let p = places_in b in
    let K = code x p [] (length b.output) C in
    let i : Instruction = instruction drop_op (offset_of C) in
    let c1 : c ≡ followed b K = ec ∙ ap (λ sc. followed b (code x p sc (length b.output) C)) hf in
    let d1 : d ≡ followed b (K ++ i ∷ []) = and_then b c d K (i ∷ []) c1 ed in
    let k : length K ≡ size C = long x p [] (length b.output) C in
    let place : length (b.output ++ (K ++ i ∷ [])) ≡ length b.output + size C + 1 = omega (arith, k, length-append {A = Instruction}) in
    let F = λ (n : ℕ). code_of_tops x p n cs in
    ap (λ e. followed e (tops_code cs e)) d1
    ∙ (ap (with_output b) (append_assoc b.output (K ++ i ∷ []) (F (length (b.output ++ (K ++ i ∷ [])))) ∙ ap (λ is. b.output ++ is) (append_assoc K (i ∷ []) (F (length (b.output ++ (K ++ i ∷ []))))))
    ∙ (ap (λ n. followed b (K ++ i ∷ F n)) place ∙ whole))

function_length : (f : Function) (b : Emitter) → length (function_code f b) ≡ size_of_function f
function_length (function at l o ps C) b =
    let k : length (code (context_in b) (places_in b) (with_variables ps (stored_among (context_in b) ps) []) (length b.output) C) ≡ size C =
    long (context_in b) (places_in b) (with_variables ps (stored_among (context_in b) ps) []) (length b.output) C in
    omega (arith, k, length-append {A = Instruction})

pub function_one : (f : Function) (fs : List Function) (b d w : Emitter) → Emits b d (function_code f) → followed b (functions_code (f ∷ fs) b) ≡ w → followed d (functions_code fs d) ≡ w
function_one f fs b d w ed whole =
    let K = function_code f b in
    let k : length K ≡ size_of_function f = function_length f b in
    let place : length (b.output ++ K) ≡ length b.output + size_of_function f = omega (arith, k, length-append {A = Instruction}) in
    let F = λ (n : ℕ). code_of_functions (context_in b) (places_in b) (places_from n fs) in
    ap (λ e. followed e (functions_code fs e)) ed
    ∙ (ap (with_output b) (append_assoc b.output K (F (length (b.output ++ K))))
    ∙ (ap (λ n. followed b (K ++ F n)) place ∙ whole))

pub nothing_left : (b w : Emitter) → followed b [] ≡ w → b ≡ w
nothing_left b w h = sym (ap (with_output b) (append-nil b.output)) ∙ h

-- the body of a function under its parameters
pub function_codes : (at l o : ℕ) (ps : List Binder) (C : Core) (a c d : Emitter) (pushed kept : Scope) (outer : ℕ) → a.frame ≡ [] → outer ≡ length a.frame
    → pushed ≡ with_variables ps (stored_among (context_in a) ps) a.frame → Emits (within a pushed) c (core_code C) → Emits c d (just return at)
    → ((above below : Scope) → d.frame ≡ above ++ below → outer ≡ length below → kept ≡ below)
    → within d kept ≡ followed a (function_code (function at l o ps C) a)
function_codes at l o ps C a c d pushed kept outer hf ho hp ec ed keep =
    let x = context_in a in
    let ss = stored_among x ps in
    let V = with_variables ps ss [] in
    let K = code x (places_in a) V (length a.output) C in
    let hv : pushed ≡ V = hp ∙ ap (with_variables ps ss) hf in
    let c1 : c ≡ within (followed a K) V = ec ∙ ap (λ sc. followed (within a sc) (core_code C (within a sc))) hv in
    let d1 : d ≡ within (followed (followed a K) (instruction return at ∷ [])) V = ed ∙ ap (λ e. followed e (instruction return at ∷ [])) c1 in
    let back : kept ≡ [] = keep V [] (ap (λ e. e.frame) d1 ∙ sym (append-nil V)) (ho ∙ ap (λ sc. length sc) hf) in
    ap (within d) (back ∙ sym hf) ∙ (ap (λ e. within e a.frame) d1 ∙ ap (with_output a) (append_assoc a.output K (instruction return at ∷ [])))

tops_length : (e : Emitter) (pc : ℕ) (cs : Cores) → length (code_of_tops (context_in e) (places_in e) pc cs) ≡ size_of_tops cs
tops_length e pc no_cores = refl
tops_length e pc (and_core C cs) =
    let k = long (context_in e) (places_in e) [] pc C in
    let rest = tops_length e (pc + size C + 1) cs in
    omega (arith, k, rest, length-append {A = Instruction})

-- the whole code
pub whole_code : (cs : Cores) (fs : List Function) (a b c d : Emitter) → a.output ≡ [] → Emits a b (tops_code cs) → Emits b c (just end 0) → Emits c d (functions_code fs)
    → d.output ≡ code_of_tops (context_in a) (places_in a) 0 cs ++ instruction end 0 ∷ code_of_functions (context_in a) (places_in a) (places_from (size_of_tops cs + 1) fs)
whole_code cs fs a b c d none ea eb ec =
    let x = context_in a in
    let p = places_in a in
    let T = tops_code cs a in
    let i : Instruction = instruction end 0 in
    let c1 : c ≡ followed a (T ++ i ∷ []) = and_then a b c T (i ∷ []) ea eb in
    let d1 : d ≡ followed a ((T ++ i ∷ []) ++ functions_code fs (followed a (T ++ i ∷ []))) = emits_then (functions_code fs) a c d (T ++ i ∷ []) c1 ec in
    let tops = code_of_tops x p 0 cs in
    let k : length tops ≡ size_of_tops cs = tops_length a 0 cs in
    let place : length (tops ++ i ∷ []) ≡ size_of_tops cs + 1 = omega (arith, k, length-append {A = Instruction}) in
    let F = λ (n : ℕ). code_of_functions x p (places_from n fs) in
    ap (λ e. e.output) d1
    ∙ (ap (λ o. o ++ ((code_of_tops x p (length o) cs ++ i ∷ []) ++ F (length (o ++ (code_of_tops x p (length o) cs ++ i ∷ []))))) none
    ∙ (append_assoc tops (i ∷ []) (F (length (tops ++ i ∷ []))) ∙ ap (λ n. tops ++ i ∷ F n) place))
