-- One step of the emitter after another.
use Rattle.std.proofs.Common.{◌≡◌, ℕ, ◌+◌, Result, Bool, true, false, List, [], ◌∷◌, ◌++◌, length, None, refl, ap, sym, ◌∙◌, subst, arith, append_assoc, length-append}
use Rattle.std.specs.Prelude.{OnOk}
use Rattle.std.proofs.lemmas.Result.{on_ok_weaker}
use Rattle.ql_expand.specs.Core as core
use Rattle.ql_expand.specs.Core.{Binder, Core, Node, conditional, binding, primitive, lambda, Cores, no_cores, and_core, Bounds, no_bounds, and_bound, Function, function}
use Rattle.ql_scope.specs.Scope.{binders_in}
use Rattle.ql_meaning.specs.Context.{stored_among}
use Rattle.ql_code.specs.Code.{Instruction, instruction}
use Rattle.ql_code.specs.declared.code.Op.{Op}
use Rattle.ql_code.specs.declared.code.Op.TheVariants.{Bind as bind, Branch as branch, End as end, EndClean as end_clean, Exit as exit, Jump as jump, Leave as leave, Protect as protect, Qlet as qlet, Return as return, Slide as slide, Throw as throw, Touch as touch}
use Rattle.ql_compile.specs.Compile.{body_scope, captured, caught_slots, code, code_of_cores, code_of_joined, mask, size, size_of_joined, size_of_values, starts_of, with_variables}
use Rattle.ql_compile.specs.Emitting.{Closes, Emits, Fills, Gathers, called, closing, closure_code, context_in, core_code, cores_code, followed, joined_code, just, node_code, places_in, under_code, values_code, within}
use Rattle.ql_compile.specs.declared.emit.Emitter.{Emitter}
use Rattle.ql_compile.proofs.Counts.{starts_length}
use Rattle.ql_compile.proofs.Sizes.{long, long_joined, long_values}

abbrev pub with_output : Emitter → List Instruction → Emitter
with_output e is = record e { output = is }

pub and_then : (a b c : Emitter) (X Y : List Instruction) → b ≡ followed a X → c ≡ followed b Y → c ≡ followed a (X ++ Y)
and_then a b c X Y x y = y ∙ (ap (λ e. followed e Y) x ∙ ap (with_output a) (append_assoc a.output X Y))

pub emits_then : (G : Emitter → List Instruction) (a b c : Emitter) (X : List Instruction) → b ≡ followed a X → c ≡ followed b (G b) → c ≡ followed a (X ++ G (followed a X))
emits_then G a b c X x y = and_then a b c X (G (followed a X)) x (y ∙ ap (λ e. followed b (G e)) x)

pub same_code : (a c : Emitter) (X Y : List Instruction) → X ≡ Y → c ≡ followed a X → c ≡ followed a Y
same_code a c X Y e x = x ∙ ap (followed a) e

pub far : (a b : Emitter) (X : List Instruction) → b ≡ followed a X → length b.output ≡ length a.output + length X
far a b X x = ap (λ e. length e.output) x ∙ length-append a.output X

-- code at a place that is reckoned another way
pub core_then : (a b c : Emitter) (X : List Instruction) (pc : ℕ) (C : Core) → pc ≡ length a.output + length X → b ≡ followed a X → Emits b c (core_code C)
    → c ≡ followed a (X ++ code (context_in a) (places_in a) a.frame pc C)
core_then a b c X pc C h x y =
    let here : length (a.output ++ X) ≡ pc = length-append a.output X ∙ sym h in
    same_code a c (X ++ core_code C (followed a X)) (X ++ code (context_in a) (places_in a) a.frame pc C)
    (ap (λ n. X ++ code (context_in a) (places_in a) a.frame n C) here) (emits_then (core_code C) a b c X x y)

-- the same above an operand
pub above_then : (a b c : Emitter) (X : List Instruction) (pc : ℕ) (C : Core) → pc ≡ length a.output + length X → b ≡ followed a X → Emits b c (λ e. core_code C (within e (None ∷ e.frame)))
    → c ≡ followed a (X ++ code (context_in a) (places_in a) (None ∷ a.frame) pc C)
above_then a b c X pc C h x y =
    let here : length (a.output ++ X) ≡ pc = length-append a.output X ∙ sym h in
    same_code a c (X ++ code (context_in a) (places_in a) (None ∷ a.frame) (length (a.output ++ X)) C) (X ++ code (context_in a) (places_in a) (None ∷ a.frame) pc C)
    (ap (λ n. X ++ code (context_in a) (places_in a) (None ∷ a.frame) n C) here) (emits_then (λ e. core_code C (within e (None ∷ e.frame))) a b c X x y)

-- an instruction that was left out is put into its place
pub patched : (a g h : Emitter) (X Y Z : List Instruction) (i : Instruction) (place : ℕ) (op : Op) → g ≡ followed a (X ++ i ∷ Y) → place ≡ length a.output + length X
    → (g.output ≡ (a.output ++ X) ++ i ∷ Y → place ≡ length (a.output ++ X) → h ≡ record g { output = (a.output ++ X) ++ instruction op i.at ∷ Z })
    → h ≡ followed a (X ++ instruction op i.at ∷ Z)
patched a g h X Y Z i place op x p fill =
    let split : g.output ≡ (a.output ++ X) ++ i ∷ Y = ap (λ e. e.output) x ∙ sym (append_assoc a.output X (i ∷ Y)) in
    fill split (p ∙ sym (length-append a.output X))
    ∙ (ap (λ e. with_output e ((a.output ++ X) ++ instruction op i.at ∷ Z)) x ∙ ap (with_output a) (append_assoc a.output X (instruction op i.at ∷ Z)))

abbrev pub hole : ℕ → Instruction
hole at = instruction end at

pub conditional_code : (at : ℕ) (A B C : Core) (a b c d e f g h : Emitter) (u v : ℕ)
    → Emits a b (core_code A) → u ≡ length b.output → Emits b c (just end at) → Emits c d (core_code B) → v ≡ length d.output → Emits d e (just end at)
    → Fills e f u (branch (length e.output)) → Emits f g (core_code C) → Fills g h v (jump (length g.output))
    → Emits a h (node_code at (conditional A B C))
conditional_code at A B C a b c d e f g h u v ea hu eb ec hv ed fe ef fg =
    let pc = length a.output in
    let x = context_in a in
    let p = places_in a in
    let sc = a.frame in
    let K = code x p sc pc A in
    let M = code x p sc (pc + size A + 1) B in
    let N = code x p sc (pc + size A + 1 + size B + 1) C in
    let k : length K ≡ size A = long x p sc pc A in
    let m : length M ≡ size B = long x p sc (pc + size A + 1) B in
    let n : length N ≡ size C = long x p sc (pc + size A + 1 + size B + 1) C in
    let i : Instruction = hole at in
    let br : Instruction = instruction (branch (pc + size A + 1 + size B + 1)) at in
    let jp : Instruction = instruction (jump (pc + size A + 1 + size B + 1 + size C)) at in
    let c1 : c ≡ followed a (K ++ i ∷ []) = and_then a b c K (i ∷ []) ea eb in
    let d1 : d ≡ followed a ((K ++ i ∷ []) ++ M) = core_then a c d (K ++ i ∷ []) (pc + size A + 1) B (omega (arith, k, length-append {A = Instruction})) c1 ec in
    let e1 : e ≡ followed a (((K ++ i ∷ []) ++ M) ++ i ∷ []) = and_then a d e ((K ++ i ∷ []) ++ M) (i ∷ []) d1 ed in
    let e2 : e ≡ followed a (K ++ i ∷ (M ++ i ∷ [])) = same_code a e _ _ (append_assoc (K ++ i ∷ []) M (i ∷ []) ∙ append_assoc K (i ∷ []) (M ++ i ∷ [])) e1 in
    let el : length e.output ≡ pc + size A + 1 + size B + 1 = let l = far a e _ e2 in omega (arith, l, k, m, length-append {A = Instruction}) in
    let ul : u ≡ pc + length K = hu ∙ far a b K ea in
    let vl : v ≡ pc + length (K ++ br ∷ M) = let l = far a d _ d1 in omega (arith, l, hv, length-append {A = Instruction}) in
    let f1 : f ≡ followed a (K ++ br ∷ (M ++ i ∷ [])) = patched a e f K (M ++ i ∷ []) (M ++ i ∷ []) i u (branch (pc + size A + 1 + size B + 1)) e2 ul (subst (λ q. Fills e f u (branch q)) el fe (a.output ++ K) (M ++ i ∷ []) i) in
    let g1 : g ≡ followed a ((K ++ br ∷ (M ++ i ∷ [])) ++ N) = core_then a f g (K ++ br ∷ (M ++ i ∷ [])) (pc + size A + 1 + size B + 1) C (omega (arith, k, m, length-append {A = Instruction})) f1 ef in
    let g2 : g ≡ followed a ((K ++ br ∷ M) ++ i ∷ N) = same_code a g _ _ (simp append_assoc) g1 in
    let gl : length g.output ≡ pc + size A + 1 + size B + 1 + size C = let l = far a g _ g2 in omega (arith, l, k, m, n, length-append {A = Instruction}) in
    let h1 : h ≡ followed a ((K ++ br ∷ M) ++ jp ∷ N) = patched a g h (K ++ br ∷ M) N N i v (jump (pc + size A + 1 + size B + 1 + size C)) g2 vl (subst (λ q. Fills g h v (jump q)) gl fg (a.output ++ (K ++ br ∷ M)) N i) in
    same_code a h _ _ (append_assoc K (br ∷ M) (jp ∷ N)) h1

-- the last step, which may fail
pub more_then : {T E : Type 0} (r : Result T E) (a b c : Emitter) (X Y : List Instruction) → b ≡ followed a X → OnOk r (c ≡ followed b Y) → OnOk r (c ≡ followed a (X ++ Y))
more_then r a b c X Y x y = on_ok_weaker r (and_then a b c X Y x) y

pub emits_more : {T E : Type 0} (r : Result T E) (G : Emitter → List Instruction) (a b c : Emitter) (X : List Instruction) → b ≡ followed a X → OnOk r (c ≡ followed b (G b)) → OnOk r (c ≡ followed a (X ++ G (followed a X)))
emits_more r G a b c X x y = on_ok_weaker r (emits_then G a b c X x) y

pub binding_code : (at : ℕ) (bs : Bounds) (C : Core) (a b c : Emitter) → Emits a b (values_code bs) → Emits b c (under_code at (binders_in bs) C) → Emits a c (node_code at (binding bs C))
binding_code at bs C a b c ea eb =
    let x = context_in a in
    let V = values_code bs a in
    let v : length V ≡ size_of_values bs = long_values x (places_in a) a.frame (length a.output) bs in
    let place : length (a.output ++ V) ≡ length a.output + size_of_values bs = omega (arith, v, length-append {A = Instruction}) in
    emits_then (under_code at (binders_in bs) C) a b c V ea eb
    ∙ ap (λ n. followed a (V ++ instruction (bind (length (binders_in bs)) (mask x (binders_in bs))) at
    ∷ (code x (places_in a) (with_variables (binders_in bs) (stored_among x (binders_in bs)) a.frame) (n + 1) C ++ instruction (slide (length (binders_in bs))) at ∷ []))) place

pub funcall_code : (at : ℕ) (i : Bool) (C : Core) (cs : Cores) (a b c d : Emitter) → Emits a b (core_code C) → Emits b c (λ e. cores_code cs (within e (None ∷ e.frame))) → Emits c d (λ e. called i at cs)
    → Emits a d (node_code at (core.funcall i C cs))
funcall_code at i C cs a b c d ea eb ec = by i d ec
  where
    K : List Instruction
    K = core_code C a

    L : List Instruction
    L = code_of_cores (context_in a) (places_in a) (None ∷ a.frame) (length a.output + size C) cs

    place : length (a.output ++ K) ≡ length a.output + size C
    place = let k : length K ≡ size C = long (context_in a) (places_in a) a.frame (length a.output) C in omega (arith, k, length-append {A = Instruction})

    both : c ≡ followed a (K ++ L)
    both = emits_then (λ e. cores_code cs (within e (None ∷ e.frame))) a b c K ea eb ∙ ap (λ n. followed a (K ++ code_of_cores (context_in a) (places_in a) (None ∷ a.frame) n cs)) place

    by : (i : Bool) (d : Emitter) → Emits c d (λ e. called i at cs) → Emits a d (node_code at (core.funcall i C cs))
    by true d ed = same_code a d _ _ (append_assoc K L (called true at cs)) (and_then a c d (K ++ L) (called true at cs) both ed)
    by false d ed = same_code a d _ _ (append_assoc K L (called false at cs)) (and_then a c d (K ++ L) (called false at cs) both ed)

pub qlambda_code : (at : ℕ) (P : Core) (ps : List Binder) (C : Core) (a b c : Emitter) → Emits a b (core_code P) → Emits b c (closure_code at true ps C) → Emits a c (node_code at (core.qlambda P ps C))
qlambda_code at P ps C a b c ea eb =
    let x = context_in a in
    let K = core_code P a in
    let k : length K ≡ size P = long x (places_in a) a.frame (length a.output) P in
    let place : length (a.output ++ K) ≡ length a.output + size P = omega (arith, k, length-append {A = Instruction}) in
    emits_then (closure_code at true ps C) a b c K ea eb
    ∙ ap (λ n. followed a (K ++ instruction (closing true (length ps) (mask x ps) (caught_slots (captured x a.frame ps C)) (n + 1 + size C + 1)) at
    ∷ (code x (places_in a) (body_scope x a.frame ps C) (n + 1) C ++ instruction return at ∷ []))) place

-- a catch of one kind or the other
pub caught_code : (op : ℕ → Op) (at : ℕ) (A B : Core) (a b c d e : Emitter) (u : ℕ)
    → Emits a b (core_code A) → u ≡ length b.output → Emits b c (just end at) → Emits c d (core_code B) → Closes d e u (op (length d.output + 1)) (instruction exit at)
    → e ≡ followed a (code (context_in a) (places_in a) a.frame (length a.output) A ++ instruction (op (length a.output + size A + 1 + size B + 1)) at
    ∷ (code (context_in a) (places_in a) a.frame (length a.output + size A + 1) B ++ instruction exit at ∷ []))
caught_code op at A B a b c d e u ea hu eb ec de =
    let pc = length a.output in
    let x = context_in a in
    let p = places_in a in
    let K = code x p a.frame pc A in
    let M = code x p a.frame (pc + size A + 1) B in
    let k : length K ≡ size A = long x p a.frame pc A in
    let m : length M ≡ size B = long x p a.frame (pc + size A + 1) B in
    let i : Instruction = hole at in
    let c1 : c ≡ followed a (K ++ i ∷ []) = and_then a b c K (i ∷ []) ea eb in
    let d1 : d ≡ followed a ((K ++ i ∷ []) ++ M) = core_then a c d (K ++ i ∷ []) (pc + size A + 1) B (omega (arith, k, length-append {A = Instruction})) c1 ec in
    let d2 : d ≡ followed a (K ++ i ∷ M) = same_code a d _ _ (append_assoc K (i ∷ []) M) d1 in
    let dl : length d.output + 1 ≡ pc + size A + 1 + size B + 1 = let l = far a d _ d2 in omega (arith, l, k, m, length-append {A = Instruction}) in
    let ul : u ≡ pc + length K = hu ∙ far a b K ea in
    patched a d e K M (M ++ instruction exit at ∷ []) i u (op (pc + size A + 1 + size B + 1)) d2 ul (subst (λ q. Closes d e u (op q) (instruction exit at)) dl de (a.output ++ K) M i)

pub throw_code : (at : ℕ) (A B : Core) (a b c d : Emitter) → Emits a b (core_code A) → Emits b c (λ e. core_code B (within e (None ∷ e.frame))) → Emits c d (just throw at) → Emits a d (node_code at (core.throw A B))
throw_code at A B a b c d ea eb ec =
    let pc = length a.output in
    let K = core_code A a in
    let M = code (context_in a) (places_in a) (None ∷ a.frame) (pc + size A) B in
    let k : length K ≡ size A = long (context_in a) (places_in a) a.frame pc A in
    let c1 : c ≡ followed a (K ++ M) = above_then a b c K (pc + size A) B (omega (arith, k)) ea eb in
    same_code a d _ _ (append_assoc K M (instruction throw at ∷ [])) (and_then a c d (K ++ M) (instruction throw at ∷ []) c1 ec)

pub protect_code : (at : ℕ) (A B : Core) (a b c d e f : Emitter) (u : ℕ)
    → u ≡ length a.output → Emits a b (just end at) → Emits b c (core_code A) → Closes c d u (protect (length c.output + 1)) (instruction leave at)
    → Emits d e (λ e. core_code B (within e (None ∷ e.frame))) → Emits e f (just end_clean at)
    → Emits a f (node_code at (core.protect A B))
protect_code at A B a b c d e f u hu ea eb cd de ef =
    let pc = length a.output in
    let x = context_in a in
    let p = places_in a in
    let M = code x p a.frame (pc + 1) A in
    let N = code x p (None ∷ a.frame) (pc + 1 + size A + 1) B in
    let m : length M ≡ size A = long x p a.frame (pc + 1) A in
    let i : Instruction = hole at in
    let pr : Instruction = instruction (protect (pc + 1 + size A + 1)) at in
    let lv : Instruction = instruction leave at in
    let c1 : c ≡ followed a (i ∷ M) = core_then a b c (i ∷ []) (pc + 1) A refl ea eb in
    let cl : length c.output + 1 ≡ pc + 1 + size A + 1 = let l = far a c _ c1 in omega (arith, l, m) in
    let ul : u ≡ pc + length {A = Instruction} [] = omega (arith, hu) in
    let d1 : d ≡ followed a (pr ∷ (M ++ lv ∷ [])) = patched a c d [] M (M ++ lv ∷ []) i u (protect (pc + 1 + size A + 1)) c1 ul (subst (λ q. Closes c d u (protect q) lv) cl cd (a.output ++ []) M i) in
    let e1 : e ≡ followed a ((pr ∷ (M ++ lv ∷ [])) ++ N) = above_then a d e (pr ∷ (M ++ lv ∷ [])) (pc + 1 + size A + 1) B (omega (arith, m, length-append {A = Instruction})) d1 de in
    same_code a f _ _ (simp append_assoc) (and_then a e f ((pr ∷ (M ++ lv ∷ [])) ++ N) (instruction end_clean at ∷ []) e1 ef)

pub qlet_code : (at : ℕ) (P : Core) (bs : Bounds) (C : Core) (a b c d e f : Emitter) (u : ℕ) (starts : List ℕ)
    → Emits a b (core_code P) → u ≡ length b.output → Emits b c (just end at)
    → starts ≡ starts_of (length c.output) bs → Emits c d (joined_code bs) → Gathers d e at u starts → Emits e f (under_code at (binders_in bs) C)
    → Emits a f (node_code at (core.qlet P bs C))
qlet_code at P bs C a b c d e f u starts ea hu eb hs ec de ef =
    let pc = length a.output in
    let x = context_in a in
    let p = places_in a in
    let n = length (binders_in bs) in
    let t = pc + size P + 1 + size_of_joined bs + 1 in
    let K = code x p a.frame pc P in
    let J = code_of_joined x p a.frame (pc + size P + 1) bs in
    let k : length K ≡ size P = long x p a.frame pc P in
    let j : length J ≡ size_of_joined bs = long_joined x p a.frame (pc + size P + 1) bs in
    let i : Instruction = hole at in
    let q : Instruction = instruction (qlet (starts_of (pc + size P + 1) bs) t (t + 1)) at in
    let jp : Instruction = instruction (jump (t + 1)) at in
    let to : Instruction = instruction (touch n) at in
    let c1 : c ≡ followed a (K ++ i ∷ []) = and_then a b c K (i ∷ []) ea eb in
    let cl : length c.output ≡ pc + size P + 1 = let l = far a c _ c1 in omega (arith, l, k, length-append {A = Instruction}) in
    let place : length (a.output ++ (K ++ i ∷ [])) ≡ pc + size P + 1 = omega (arith, k, length-append {A = Instruction}) in
    let d1 : d ≡ followed a ((K ++ i ∷ []) ++ J) = emits_then (joined_code bs) a c d (K ++ i ∷ []) c1 ec ∙ ap (λ m. followed a ((K ++ i ∷ []) ++ code_of_joined x p a.frame m bs)) place in
    let d2 : d ≡ followed a (K ++ i ∷ J) = same_code a d _ _ (append_assoc K (i ∷ []) J) d1 in
    let dl : length d.output + 1 ≡ t = let l = far a d _ d2 in omega (arith, l, k, j, length-append {A = Instruction}) in
    let st : starts ≡ starts_of (pc + size P + 1) bs = hs ∙ ap (λ m. starts_of m bs) cl in
    let sl : length starts ≡ n = ap (λ s. length s) hs ∙ starts_length (length c.output) bs in
    let ul : u ≡ pc + length K = hu ∙ far a b K ea in
    let e1 : e ≡ followed a (K ++ q ∷ (J ++ jp ∷ (to ∷ []))) =
    patched a d e K J (J ++ jp ∷ (to ∷ [])) i u (qlet (starts_of (pc + size P + 1) bs) t (t + 1)) d2 ul (λ split here.
    de (a.output ++ K) J i split here
    ∙ (ap (λ m. with_output d ((a.output ++ K) ++ instruction (qlet starts m (m + 1)) at ∷ (J ++ instruction (jump (m + 1)) at ∷ (instruction (touch (length starts)) at ∷ [])))) dl
    ∙ (ap (λ m. with_output d ((a.output ++ K) ++ instruction (qlet starts t (t + 1)) at ∷ (J ++ jp ∷ (instruction (touch m) at ∷ [])))) sl
    ∙ ap (λ s. with_output d ((a.output ++ K) ++ instruction (qlet s t (t + 1)) at ∷ (J ++ jp ∷ (to ∷ [])))) st))) in
    let W : List Instruction = K ++ q ∷ (J ++ jp ∷ (to ∷ [])) in
    let wl : length (a.output ++ W) + 1 ≡ t + 2 = omega (arith, k, j, length-append {A = Instruction}) in
    let U : List Instruction = instruction (bind n (mask x (binders_in bs))) at ∷ (code x p (with_variables (binders_in bs) (stored_among x (binders_in bs)) a.frame) (t + 2) C ++ instruction (slide n) at ∷ []) in
    let f1 : f ≡ followed a (W ++ U) = emits_then (under_code at (binders_in bs) C) a e f W e1 ef
    ∙ ap (λ m. followed a (W ++ instruction (bind n (mask x (binders_in bs))) at ∷ (code x p (with_variables (binders_in bs) (stored_among x (binders_in bs)) a.frame) m C ++ instruction (slide n) at ∷ []))) wl in
    same_code a f _ _ (append_assoc K (q ∷ (J ++ jp ∷ (to ∷ []))) U ∙ ap (λ is. K ++ q ∷ is) (append_assoc J (jp ∷ (to ∷ [])) U)) f1
