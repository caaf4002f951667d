-- A word for the frames: past the silent instructions the code stands where the control does.
use Rattle.std.proofs.Common.{◌≡◌, ℕ, zero, suc, ◌+◌, ◌<◌, ◌≤◌, ◌==◌, Bool, true, false, List, [], ◌∷◌, ◌++◌, length, Option, Some, None, refl, sym, ap, ◌∙◌, subst, ⊎_elim, arith, length-append, append_assoc, eq-eqb, ne_eqb}
use Rattle.std.specs.Prelude.{slice_get}
use Rattle.std.proofs.lemmas.Option.{slice_get_within}
use Rattle.ql_expand.specs.Core as core
use Rattle.ql_expand.specs.Core.{Name, named, hidden, Core, Node, constant, variable, setq, conditional, progn, binding, primitive, lambda, defvar, Cores, no_cores, and_core, Bounds, no_bounds, and_bound, Function}
use Rattle.ql_scope.specs.Scope.{binders_in}
use Rattle.ql_world.specs.declared.word.Word.{Word}
use Rattle.ql_world.specs.declared.word.Word.TheVariants.{Int as integer, Sym as symbol, Pair as pair, Fun as closure, Proc as process_closure, Fut as future}
use Rattle.ql_world.specs.declared.word.Slot.TheVariants.{Val as plain}
use Rattle.ql_meaning.specs.Context.{Context, offset_of}
use Rattle.ql_meaning.specs.Control.{Bindings, Frame, replied, Control, given, Thread, thread, begin, next_operand, give}
use Rattle.ql_code.specs.Code.{Instruction, instruction}
use Rattle.ql_code.specs.declared.code.Op.TheVariants.{Jump as jump, Touch as touch}
use Rattle.ql_compile.specs.Compile.{Scope, free, free_in_cores, count, size, Places, read_op, write_op, call_op, primitive_op, code}
use Rattle.ql_code.specs.declared.mark.Mark.TheVariants as marks
use Rattle.ql_code.specs.Machine.{Item, slot, mark, word, words, push, frame_of, top_mark, joins_at, silent, slid, Point, point, settle, settled}
use Rattle.ql_code.specs.declared.mark.Mark.{Mark}
use Rattle.ql_code.specs.declared.mark.State.{State}
use Rattle.ql_code.specs.declared.mark.Mark.TheVariants.{Base as base}
use Rattle.ql_code.specs.declared.mark.State.TheVariants.{Running as running}
use Rattle.ql_compile.proofs.Right.{AreRight}
use Rattle.ql_compile.proofs.Cases.{cases}
use Rattle.ql_compile.proofs.Scopes.{sees_none}
use Rattle.ql_compile.proofs.Sizes.{HasAt, front, back, long, joined, joined_size}
use Rattle.ql_compile.proofs.Stacks.{same_over, without_over, push_last, words_pushed}
use Rattle.ql_compile.proofs.Relation.{Beyond, arity, Fits, After, Operands, Tops, Rest, jumping, sliding, operand, joins, forms, tops, touching, waiting, Waits, returns, exits, leaves, cleans, child, server, At, at_literal, at_read, at_close, at_guard, at_act, at_touch, at_bind, at_given, at_reply, at_end, Follow}
use Rattle.ql_compile.proofs.Descends.{sub_left, sub_right, part, fits_more, Settled, descends, descends_forms}

module _ (x : Context) (places : Places) where
  read_quiet : (o : Option (ℕ × Bool)) (y : Name) (pc : ℕ) (st : List Item) → silent (read_op x o y) pc st ≡ None
  read_quiet (Some (i, true)) y pc st = refl
  read_quiet (Some (i, false)) y pc st = refl
  read_quiet None (named w) pc st = refl
  read_quiet None (hidden n) pc st = refl

  write_quiet : (o : Option (ℕ × Bool)) (y : Name) (pc : ℕ) (st : List Item) → silent (write_op x o y) pc st ≡ None
  write_quiet (Some v) y pc st = refl
  write_quiet None (named w) pc st = refl
  write_quiet None (hidden n) pc st = refl

  call_quiet : (o : Option (Function × ℕ)) (cs : Cores) (pc : ℕ) (st : List Item) → silent (call_op x o cs) pc st ≡ None
  call_quiet None cs pc st = refl
  call_quiet (Some f) cs pc st = refl

  prim_quiet : (s pc : ℕ) (st : List Item) → silent (primitive_op x s) pc st ≡ None
  prim_quiet s pc st = ⊎_elim (λ (t : (s == 19) ≡ true). rw t refl) (λ (t : (s == 19) ≡ false). rw t refl) (cases (s == 19))

  module _ (ops : List Instruction) where
    abbrev R : List Frame → ℕ → List Item → Type 0
    R = Rest x places ops

    abbrev F : Thread → Point → Type 0
    F = Follow x places ops

    abbrev S : Thread → ℕ → List Item → Type 0
    S = Settled x places ops

    -- the next instruction is not silent
    abbrev Quiet : ℕ → List Item → Type 0
    Quiet pc st = (i : Instruction) × (slice_get ops pc ≡ Some i) × (silent i.op pc st ≡ None)

    quiet_node : (at : ℕ) (n : Node) (env : Bindings) (pc r : ℕ) (below st : List Item) → After x places ops at n env pc r below → Quiet pc st
    quiet_node at (constant f) env pc r below st a = absurd a.right
    quiet_node at (variable y) env pc r below st a = absurd a.right
    quiet_node at (setq y o c) env pc r below st a = (_, a.has.0, write_quiet _ y pc st)
    quiet_node at (conditional b c d) env pc r below st a = (_, a.has.0, refl)
    quiet_node at (progn cs) env pc r below st a = absurd a.right
    quiet_node at (binding bs c) env pc r below st a = (_, a.has.0, refl)
    quiet_node at (primitive o cs) env pc r below st a = (_, a.has.0, prim_quiet o pc st)
    quiet_node at (core.print c) env pc r below st a = (_, a.has.0, refl)
    quiet_node at (core.call w o cs) env pc r below st a = (_, a.has.0, call_quiet _ cs pc st)
    quiet_node at (core.funcall true c cs) env pc r below st a = (_, a.has.0, refl)
    quiet_node at (core.funcall false c cs) env pc r below st a = (_, a.has.0, refl)
    quiet_node at (lambda ps c) env pc r below st a = absurd a.right
    quiet_node at (core.qlet p bs c) env pc r below st a = (_, a.has.0, refl)
    quiet_node at (core.qlambda p ps c) env pc r below st a = (_, a.has.0, refl)
    quiet_node at (core.catch b c) env pc r below st a = (_, a.has.0, refl)
    quiet_node at (core.qcatch b c) env pc r below st a = (_, a.has.0, refl)
    quiet_node at (core.throw b c) env pc r below st a = (_, a.has.0, refl)
    quiet_node at (core.protect b c) env pc r below st a = absurd a.right
    quiet_node at (defvar w o c) env pc r below st a = (_, a.has.0, write_quiet _ (named w) pc st)

    quiet_waits : (w : Word) (fs : List Frame) (pc : ℕ) (st : List Item) → Waits x places ops fs pc st → Quiet pc (word w ∷ st)
    quiet_waits w fs pc st (returns _ below n at l g o t) = (_, g, refl)
    quiet_waits w fs pc st (exits c _ below at l g e t) = (_, g, refl)
    quiet_waits w fs pc st (leaves u c env _ below at l r g e k t) = (_, g, refl)
    quiet_waits w fs pc st (cleans u v k _ below at g t) = (_, g, refl)
    quiet_waits w fs pc st (child at n g o) =
        let top = same_over top_mark (λ s st. refl) n st _ o in
        let e : (pc == pc) ≡ true = eq-eqb pc pc refl in
        (_, g, rw (top, e) refl)
    quiet_waits w fs pc st (server at n g o) = (_, g, refl)

    quiet : (c : Control) (fs : List Frame) (pc : ℕ) (st : List Item) → At x places ops c fs running pc st → Quiet pc st
    quiet c fs pc st (at_literal f at g t) = (_, g, refl)
    quiet c fs pc st (at_read at y env sc g m t) = (_, g, read_quiet _ y pc st)
    quiet c fs pc st (at_close k sc q s t) = (_, s.has.0, refl)
    quiet c fs pc st (at_guard a b env sc at q s t) = (_, s.has.0, refl)
    quiet c fs pc st (at_act at n env ws below r e k a t) = quiet_node at n env pc r below st a
    quiet c fs pc st (at_touch at bs d env ws below f r u g e k a t) =
        let w : words (length (binders_in bs)) st ≡ ws = ap (words (length (binders_in bs))) e ∙ words_pushed ws _ below k in
        (_, g, rw (w, u) refl)
    quiet c fs pc st (at_bind at bs d env ws u a) = quiet _ fs pc st a
    quiet c fs pc st (at_given w below t) = quiet_waits w fs pc below t
    quiet c fs pc st (at_reply f at below g t) = (_, g, refl)
    quiet c fs pc st (at_end at g) = (_, g, refl)

    stays : (n pc : ℕ) (st : List Item) → Quiet pc st → settle ops n pc st ≡ point pc st running
    stays zero pc st q = refl
    stays (suc n) pc st q = rw (q.1, q.2) refl

    -- after silent instructions, if any
    abbrev pub Settles : Thread → ℕ → List Item → Type 0
    Settles t pc st = (n : ℕ) → length ops ≤ n + pc → F t (settle ops n pc st)

    pub stay : (t : Thread) (pc : ℕ) (st : List Item) → S t pc st → Settles t pc st
    stay t pc st a n l = subst (F t) (sym (stays n pc st (quiet t.control t.frames pc st a))) a

    pub pass : (t : Thread) (pc q : ℕ) (st u : List Item) (i : Instruction) → slice_get ops pc ≡ Some i → silent i.op pc st ≡ Some (q, u) → pc < q
        → Settles t q u → Settles t pc st
    pass t pc q st u i g e k s zero l = let w : pc < length ops = slice_get_within ops pc i g in absurd (omega (arith, w, l))
    pass t pc q st u i g e k s (suc n) l = rw (g, e) (s n (omega (arith, k, l)))

    pub all_settled : (t : Thread) (pc : ℕ) (st : List Item) → Settles t pc st → F t (settled ops pc st)
    all_settled t pc st s = s (length ops) (omega arith)

    next : (w : Word) (at : ℕ) (n : Node) (ws : List Word) (cs : Cores) (env : Bindings) (fs : List Frame) (pc : ℕ) (st below : List Item) (q r : ℕ)
        → st ≡ push ws below → Operands x places ops cs env pc q st → length ws + 1 + count cs ≡ arity n → After x places ops at n env q r below → R fs r below
        → S (next_operand (core.core at n) (ws ++ w ∷ []) cs env fs) pc (word w ∷ st)
    next w at n ws no_cores env fs pc st below q r e o k a t =
        let here : q ≡ pc = omega (arith, o.is_last) in
        at_act at n env (ws ++ w ∷ []) below r (ap (λ u. word w ∷ u) e ∙ sym (push_last ws w below)) (omega (arith, k, length-append ws (w ∷ [])))
        (subst (λ p. After x places ops at n env p r below) here a) t
    next w at n ws (and_core c cs) env fs pc st below q r e o k a t =
        let f = fits_more x places (plain w) o.fits in
        let l = o.is_last in
        descends x places ops c env _ (None ∷ o.sc) pc (pc + size c) (word w ∷ st) (front ops pc _ _ o.has) o.right.0
        (part x places (sub_left (free c) (free_in_cores cs)) (omega (arith, l)) f) refl
        (operand at n (ws ++ w ∷ []) cs env fs below q r (ap (λ u. word w ∷ u) e ∙ sym (push_last ws w below))
        (record {
          sc = None ∷ o.sc;
          has = back ops pc _ _ (size c) (long x places (None ∷ o.sc) pc c) o.has;
          right = o.right.1;
          fits = part x places (sub_right (free c) (free_in_cores cs)) (omega (arith, l)) f;
          is_last = omega (arith, l);
        }) (omega (arith, k, length-append ws (w ∷ []))) a t)

    not_joined : (m : Option Mark) (pc q : ℕ) → pc < q → Beyond m q → joins_at pc m ≡ false
    not_joined None pc q l b = refl
    not_joined (Some (marks.Returning r)) pc q l b = refl
    not_joined (Some (marks.Catching c r)) pc q l b = refl
    not_joined (Some (marks.Protecting u r)) pc q l b = refl
    not_joined (Some (marks.Cleaning u k)) pc q l b = refl
    not_joined (Some (base None)) pc q l b = refl
    not_joined (Some (base (Some j))) pc q l b = ne_eqb _ _ (λ e. omega (arith, l, b, e))

    -- the values of a `qlet` that are got in order, each behind a join
    pub in_order : (at : ℕ) (bs : Bounds) (d : Core) (ws : List Word) (cs : Cores) (env : Bindings) (fs : List Frame) (sc : Scope) (pc : ℕ) (st below : List Item) (q r : ℕ)
        → st ≡ push ws below → HasAt ops pc (joined x places sc pc cs ++ instruction (jump q) at ∷ []) → AreRight x.functions cs → Fits x places (free_in_cores cs) env sc st q
        → q ≡ pc + joined_size cs + 2 → length ws + count cs ≡ arity (binding bs d) → After x places ops at (binding bs d) env q r below → R fs r below
        → Settles (next_operand (core.core at (binding bs d)) ws cs env fs) pc st
    in_order at bs d ws no_cores env fs sc pc st below q r e h y f l k a t =
        pass _ pc q st st _ h.0 refl (omega (arith, l)) (stay _ q st (at_act at (binding bs d) env ws below r e (omega (arith, k)) a t))
    in_order at bs d ws (and_core c cs) env fs sc pc st below q r e h y f l k a t =
        let g = subst (HasAt ops pc) (append_assoc (code x places sc pc c) _ _) h in
        let rest = back ops pc _ _ (size c) (long x places sc pc c) g in
        stay _ pc st
        (descends x places ops c env _ sc pc (pc + size c) st (front ops pc _ _ g) y.0 (part x places (sub_left (free c) (free_in_cores cs)) (omega (arith, l)) f) refl
        (joins at bs d ws cs env fs below q r e
        (record { sc = sc; join_at = offset_of c; here = rest.0; has = rest.1; right = y.1; fits = part x places (sub_right (free c) (free_in_cores cs)) (omega arith) f; is_last = omega (arith, l) })
        (omega (arith, k)) a t))

    touched_given : (w : Word) (at : ℕ) (fs : List Frame) (pc : ℕ) (st : List Item) → slice_get ops pc ≡ Some (instruction (touch 1) at) → R fs (pc + 1) st
        → Settles (give w fs) (pc + 1) (word w ∷ st) → Settles (give w (replied at ∷ fs)) pc (word w ∷ st)
    touched_given (future f) at fs pc st g t s = stay _ pc _ (at_reply f at st g t)
    touched_given (integer z) at fs pc st g t s = pass _ pc _ _ _ _ g refl (omega arith) s
    touched_given (symbol z) at fs pc st g t s = pass _ pc _ _ _ _ g refl (omega arith) s
    touched_given (pair z) at fs pc st g t s = pass _ pc _ _ _ _ g refl (omega arith) s
    touched_given (closure z) at fs pc st g t s = pass _ pc _ _ _ _ g refl (omega arith) s
    touched_given (process_closure z) at fs pc st g t s = pass _ pc _ _ _ _ g refl (omega arith) s

    waits_given : (w : Word) (fs : List Frame) (pc : ℕ) (st : List Item) → Waits x places ops fs pc st → give w fs ≡ thread (given w) fs
    waits_given w fs pc st (returns _ below n at l g o t) = refl
    waits_given w fs pc st (exits c _ below at l g e t) = refl
    waits_given w fs pc st (leaves u c env _ below at l r g e k t) = refl
    waits_given w fs pc st (cleans u v k _ below at g t) = refl
    waits_given w fs pc st (child at n g o) = refl
    waits_given w fs pc st (server at n g o) = refl

    -- the top forms
    pub begins : (cs : Cores) (pc : ℕ) → Tops x places ops cs pc → S (begin cs) pc (mark (base None) ∷ [])
    begins no_cores pc t = at_end t.end_at t.has.0
    begins (and_core c cs) pc t =
        let h = subst (HasAt ops pc) (append_assoc (code x places [] pc c) _ _) t.has in
        let rest = back ops pc _ _ (size c) (long x places [] pc c) h in
        descends x places ops c [] _ [] pc (pc + size c) _ (front ops pc _ _ h) t.right.0
        (record { sees = sees_none x.globals (free c) (λ y i. t.globals y (sub_left (free c) (free_in_cores cs) y i)); long = refl; beyond = tt }) refl
        (tops cs (offset_of c) rest.0 (record { end_at = t.end_at; has = rest.1; right = t.right.1; globals = λ y i. t.globals y (sub_right (free c) (free_in_cores cs) y i) }))

    pub gives : (w : Word) (fs : List Frame) (pc : ℕ) (st : List Item) → R fs pc st → Settles (give w fs) pc (word w ∷ st)
    gives w fs pc st (jumping l at g k t) = pass _ pc l _ _ _ g refl k (gives w fs l st t)
    gives w fs pc st (sliding below n at g o t) = pass _ pc _ _ _ _ g (rw (without_over n st below o) refl) (omega arith) (gives w fs (pc + 1) below t)
    gives w fs pc st (operand at n ws cs env gs below q r e o k a t) = stay _ pc _ (next w at n ws cs env gs pc st below q r e o k a t)
    gives w fs pc st (joins at bs d ws cs env gs below q r e o k a t) =
        let l = o.is_last in
        let no = not_joined (top_mark st) pc q (omega (arith, l)) o.fits.beyond in
        pass _ pc _ _ _ _ o.here (rw no refl) (omega arith)
        (in_order at bs d (ws ++ w ∷ []) cs env gs (None ∷ o.sc) (pc + 1) (word w ∷ st) below q r (ap (λ u. word w ∷ u) e ∙ sym (push_last ws w below)) o.has o.right
        (fits_more x places (plain w) o.fits) l (omega (arith, k, length-append ws (w ∷ []))) a t)
    gives w fs pc st (forms cs env gs q f t) =
        pass _ pc _ _ _ _ f.here refl (omega arith) (stay _ _ _ (descends_forms x places ops 0 f.at cs env gs f.sc (pc + 1) q st f.has f.right f.fits f.is_last t))
    gives w fs pc st (tops cs at g t) = pass _ pc _ _ _ _ g refl (omega arith) (stay _ _ _ (begins cs (pc + 1) t))
    gives w fs pc st (touching at gs g t) = touched_given w at gs pc st g t (gives w gs (pc + 1) st t)
    gives w fs pc st (waiting t) = subst (λ u. Settles u pc (word w ∷ st)) (sym (waits_given w fs pc st t)) (stay (thread (given w) fs) pc _ (at_given w st t))
