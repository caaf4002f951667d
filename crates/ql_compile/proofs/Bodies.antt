-- Bodies: of a binding, a function, a closure, a catch, a cleanup and a child.
use Rattle.std.proofs.Common.{◌≡◌, ℕ, zero, suc, ◌+◌, ◌-◌, Bool, true, false, List, [], ◌∷◌, ◌++◌, length, map, Option, Some, None, refl, sym, ap, ◌∙◌, subst, arith, append_assoc}
use Rattle.std.specs.Prelude.{slice_get, replicate}
use Rattle.std.specs.List.{AllZip}
use Rattle.ql_expand.specs.Core.{Name, Binder, Core, binding, Bounds, no_bounds, and_bound, Function, function}
use Rattle.ql_scope.specs.Scope.{binders_in}
use Rattle.ql_world.specs.Word.{nil}
use Rattle.ql_world.specs.declared.word.Word.{Word}
use Rattle.ql_world.specs.declared.word.Slot.{Slot}
use Rattle.ql_world.specs.declared.word.Slot.TheVariants.{Val as plain}
use Rattle.ql_world.specs.declared.world.Cleanup.{Cleanup}
use Rattle.ql_world.specs.Tick.{slots_of}
use Rattle.ql_meaning.specs.Context.{Context, offset_of, stored_among, parameters_of, body_of}
use Rattle.ql_meaning.specs.Control.{Bindings, bind_all, Closure, Frame, returning, cleaning, child_base, descend, children_of}
use Rattle.ql_code.specs.Code.{Instruction, instruction, unmasked}
use Rattle.ql_code.specs.declared.code.Op.TheVariants.{Return as return, Join as join}
use Rattle.ql_compile.specs.Compile.{Scope, without_all, with_variables, free, free_in_values, size, size_of_joined, starts_of, Places, captured, body_scope, code, code_of_joined}
use Rattle.ql_code.specs.declared.mark.Mark.TheVariants as marks
use Rattle.ql_code.specs.Machine.{Item, slot, mark, word, push, push_slots, frame_of, top_mark, slots_at, Point, Entry, settled, child_stack, children_from}
use Rattle.ql_code.specs.declared.mark.Mark.{Mark}
use Rattle.ql_code.specs.declared.mark.State.{State}
use Rattle.ql_code.specs.declared.mark.Mark.TheVariants.{Base as base}
use Rattle.ql_code.specs.declared.mark.State.TheVariants.{Running as running}
use Rattle.ql_compile.proofs.Right.{IsRight, AreRightValues}
use Rattle.ql_compile.proofs.Scopes.{Sees, sees_bound, sees_none, Suited, stacked, long_bound}
use Rattle.ql_compile.proofs.Caught.{closure_frame, closure_long, sees_caught}
use Rattle.ql_compile.proofs.Sizes.{HasAt, front, back, long}
use Rattle.ql_compile.proofs.Stacks.{Over, here, slots_over, nils_over, pushed_over, same_pushed, frame_pushed}
use Rattle.ql_compile.proofs.Relation.{Beyond, Fits, After, Clean, Rest, sliding, waiting, returns, cleans, child, Follow, Same, Stood}
use Rattle.ql_compile.proofs.Descends.{sub_left, sub_right, part, fits_more, Settled, descends}
use Rattle.ql_compile.proofs.Gives.{stay, all_settled}
use Rattle.ql_compile.proofs.Wants.{many, unmask}

pub suited : (bs : List Binder) (ts : List Bool) (ws : List Word) (i : ℕ) → length ts ≡ length bs → length ws ≡ length ts → Suited bs ts (slots_of ts ws i)
suited [] [] ws i e k = tt
suited [] (t ∷ ts) ws i e k = absurd (omega (arith, e))
suited (b ∷ bs) [] ws i e k = absurd (omega (arith, e))
suited (b ∷ bs) (t ∷ ts) [] i e k = absurd (omega (arith, k))
suited (b ∷ bs) (true ∷ ts) (w ∷ ws) i e k = (refl, suited bs ts ws (i + 1) (omega (arith, e)) (omega (arith, k)))
suited (b ∷ bs) (false ∷ ts) (w ∷ ws) i e k = (refl, suited bs ts ws i (omega (arith, e)) (omega (arith, k)))

pub suited_long : (bs : List Binder) (ts : List Bool) (ss : List Slot) → Suited bs ts ss → length ss ≡ length bs
suited_long [] [] [] u = refl
suited_long [] [] (s ∷ ss) u = absurd u
suited_long [] (t ∷ ts) ss u = absurd u
suited_long (b ∷ bs) [] ss u = absurd u
suited_long (b ∷ bs) (t ∷ ts) [] u = absurd u
suited_long (b ∷ bs) (t ∷ ts) (s ∷ ss) u = ap suc (suited_long bs ts ss u.1)

abbrev pub nones : ℕ → Scope → Scope
nones zero sc = sc
nones (suc n) sc = None ∷ nones n sc

frame_of_slots : (ss : List Slot) (j : Option ℕ) → frame_of (map slot ss ++ mark (base j) ∷ []) ≡ ss
frame_of_slots [] j = refl
frame_of_slots (s ∷ ss) j = ap (λ l. s ∷ l) (frame_of_slots ss j)

top_of_slots : (ss : List Slot) (j : Option ℕ) → top_mark (map slot ss ++ mark (base j) ∷ []) ≡ Some (base j)
top_of_slots [] j = refl
top_of_slots (s ∷ ss) j = top_of_slots ss j

module _ (x : Context) (places : Places) (ops : List Instruction) where
  abbrev R : List Frame → ℕ → List Item → Type 0
  R = Rest x places ops

  -- a binding's body, from behind its bind
  pub bound_body : (at : ℕ) (bs : Bounds) (c : Core) (env : Bindings) (fs : List Frame) (pc r : ℕ) (below : List Item) (ss : List Slot)
      → Suited (binders_in bs) (stored_among x (binders_in bs)) ss → After x places ops at (binding bs c) env pc r below → R fs r below
      → Settled x places ops (descend c (bind_all (binders_in bs) ss env) fs) (pc + 1) (push_slots ss below)
  bound_body at bs c env fs pc r below ss u a t =
      let ps = binders_in bs in
      let l = a.is_last in
      let f : Fits x places (free c) (bind_all ps ss env) (with_variables ps (stored_among x ps) a.sc) (push_slots ss below) r = record {
        sees = subst (Sees x.globals (free c) (bind_all ps ss env) (with_variables ps (stored_among x ps) a.sc)) (sym (frame_pushed ss below))
            (sees_bound x.globals env a.sc (frame_of below) (free c) ps (stored_among x ps) ss u a.fits.long a.fits.sees);
        long = long_bound x.globals ps (stored_among x ps) ss u a.sc (frame_of below) a.fits.long ∙ ap length (sym (frame_pushed ss below));
        beyond = subst (λ m. Beyond m r) (sym (same_pushed top_mark (λ s st. refl) ss below)) a.fits.beyond;
      } in
      let e : length ss + 0 ≡ length ps = omega (arith, suited_long ps _ ss u) in
      let end : pc + 1 + size c + 1 ≡ r = omega (arith, l) in
      descends x places ops c (bind_all ps ss env) fs (with_variables ps (stored_among x ps) a.sc) (pc + 1) (pc + 1 + size c) (push_slots ss below)
      (front ops _ _ _ a.has.1) a.right
      (part x places (λ y i. i) (omega (arith, l)) f) refl
      (sliding below (length ps) at (back ops _ _ _ (size c) (long x places _ (pc + 1) c) a.has.1).0 (subst (λ k. Over k (push_slots ss below) below) e (pushed_over ss 0 below below here))
      (subst (λ k. R fs k below) (sym end) t))

  -- a function's body
  pub called_body : (w : ℕ) (g : Function) (fs : List Frame) (next : ℕ) (below : List Item) (ss : List Slot) (h : Stood x places ops w g)
      → Suited (parameters_of g) (stored_among x (parameters_of g)) ss → R fs next below
      → Settled x places ops (descend (body_of g) (bind_all (parameters_of g) ss []) (returning ∷ fs)) h.place (push_slots ss (mark (marks.Returning next) ∷ below))
  called_body w (function at v o ps c) fs next below ss h u t =
      let st = mark (marks.Returning next) ∷ below in
      let f : Fits x places (free c) (bind_all ps ss []) (with_variables ps (stored_among x ps) []) (push_slots ss st) (h.place + size c) = record {
        sees = subst (Sees x.globals (free c) (bind_all ps ss []) (with_variables ps (stored_among x ps) [])) (sym (frame_pushed ss st))
            (sees_bound x.globals [] [] [] (free c) ps (stored_among x ps) ss u refl (sees_none x.globals (without_all ps (free c)) h.right.1));
        long = long_bound x.globals ps (stored_among x ps) ss u [] [] refl ∙ ap length (sym (frame_pushed ss st));
        beyond = subst (λ m. Beyond m (h.place + size c)) (sym (same_pushed top_mark (λ s st. refl) ss st)) tt;
      } in
      descends x places ops c (bind_all ps ss []) (returning ∷ fs) _ h.place (h.place + size c) (push_slots ss st) (front ops _ _ _ h.has) h.right.0 f refl
      (waiting (returns fs below _ at next (back ops _ _ _ (size c) (long x places _ h.place c) h.has).0 (pushed_over ss 0 st st here) t))

  pub same_stored : (k : Closure) (l : Entry) → Same x places ops k l → stored_among x k.parameters ≡ unmasked l.count l.mask
  same_stored k l h = sym (rw (h.count, h.mask) (unmask (stored_among x k.parameters) _ (many x k.parameters)))

  -- a closure's body, over a mark
  pub entered_body : (k : Closure) (l : Entry) (h : Same x places ops k l) (fs : List Frame) (st : List Item) (ss : List Slot)
      → Suited k.parameters (stored_among x k.parameters) ss → frame_of st ≡ [] → Beyond (top_mark st) (l.place + size k.body)
      → (slice_get ops (l.place + size k.body) ≡ Some (instruction return k.at) → (n : ℕ) → Over n (push_slots (ss ++ l.captured) st) st
      → R fs (l.place + size k.body) (push_slots (ss ++ l.captured) st))
      → Settled x places ops (descend k.body (bind_all k.parameters ss k.env) fs) l.place (push_slots (ss ++ l.captured) st)
  entered_body k l h fs st ss u empty beyond t =
      let ps = k.parameters in
      let top = push_slots (ss ++ l.captured) st in
      let cs = captured x h.sc ps k.body in
      let is_frame : frame_of top ≡ closure_frame h.ss cs ss = frame_pushed (ss ++ l.captured) st ∙ (ap (stacked (ss ++ l.captured)) empty ∙ ap (λ c. stacked (ss ++ c) []) h.captured) in
      let f : Fits x places (free k.body) (bind_all ps ss k.env) (body_scope x h.sc ps k.body) top (l.place + size k.body) = record {
        sees = subst (Sees x.globals (free k.body) (bind_all ps ss k.env) (body_scope x h.sc ps k.body)) (sym is_frame)
            (sees_caught x.globals (free k.body) ps (stored_among x ps) ss u k.env h.sc h.ss h.sees);
        long = closure_long x.globals (free k.body) ps (stored_among x ps) ss u k.env h.sc h.ss ∙ ap length (sym is_frame);
        beyond = subst (λ m. Beyond m (l.place + size k.body)) (sym (same_pushed top_mark (λ s st. refl) (ss ++ l.captured) st)) beyond;
      } in
      descends x places ops k.body _ fs _ l.place (l.place + size k.body) top (front ops _ _ _ h.has) h.right f refl
      (t (back ops _ _ _ (size k.body) (long x places _ l.place k.body) h.has).0 _ (pushed_over (ss ++ l.captured) 0 st st here))

  -- over the mark of a catch or a protect
  pub marked : {xs : List Name} {env : Bindings} {sc : Scope} {st : List Item} {q : ℕ} (p : ℕ) (k : Mark) → frame_of (mark k ∷ st) ≡ frame_of st → Beyond (Some k) p
      → Fits x places xs env sc st q → Fits x places xs env sc (mark k ∷ st) p
  marked {xs = xs} {env = env} {sc = sc} p k e b f =
      record { sees = subst (Sees x.globals xs env sc) (sym e) f.sees; long = f.long ∙ ap length (sym e); beyond = b }

  -- a cleanup
  pub cleaned : (u : ℕ) (w : Word) (c : Core) (env : Bindings) (k : Cleanup) (fs : List Frame) (l r : ℕ) (below : List Item)
      → Clean x places ops c env l r below → R fs r below
      → Settled x places ops (descend c env (cleaning u w k ∷ fs)) l (mark (marks.Cleaning u k) ∷ (word w ∷ below))
  cleaned u w c env k fs l r below h t =
      let e : r ≡ l + size c + 1 = h.is_last in
      descends x places ops c env _ (None ∷ h.sc) l (l + size c) _ (front ops _ _ _ h.has) h.right
      (marked (l + size c) (marks.Cleaning u k) refl tt (fits_more x places (plain w) h.fits)) refl
      (waiting (cleans u w k fs below h.at (back ops _ _ _ (size c) (long x places _ l c) h.has).0 (subst (λ p. R fs p below) e t)))

  -- a child, whose stack has so many nils on a copy of the frame
  nils_fit : (n : ℕ) {xs : List Name} {env : Bindings} {sc : Scope} {st : List Item} {q : ℕ} → Fits x places xs env sc st q
      → Fits x places xs env (nones n sc) (replicate n (word nil) ++ st) q
  nils_fit zero f = f
  nils_fit (suc n) f = fits_more x places (plain nil) (nils_fit n f)

  one_child : (c : Core) (env : Bindings) (sc : Scope) (n m pc j : ℕ) (ss : List Slot) → m ≡ n → j ≡ pc + size c
      → HasAt ops pc (code x places (nones n sc) pc c) → slice_get ops (pc + size c) ≡ Some (instruction join (offset_of c)) → IsRight x.functions c
      → Sees x.globals (free c) env sc ss → length sc ≡ length ss → Follow x places ops (descend c env (child_base (offset_of c) ∷ [])) (settled ops pc (child_stack m j ss))
  one_child c env sc n m pc j ss same is_j h g r s len =
      let p = pc + size c in
      let st = map slot ss ++ mark (base (Some p)) ∷ [] in
      let f : Fits x places (free c) env sc st p = record {
        sees = subst (Sees x.globals (free c) env sc) (sym (frame_of_slots ss (Some p))) s;
        long = len ∙ ap length (sym (frame_of_slots ss (Some p)));
        beyond = subst (λ k. Beyond k p) (sym (top_of_slots ss (Some p))) (omega arith);
      } in
      let grouped = append_assoc (replicate n (word nil)) (map slot ss) (mark (base (Some p)) ∷ []) in
      rw (same, is_j)
      (subst (λ u. Follow x places ops (descend c env (child_base (offset_of c) ∷ [])) (settled ops pc u)) (sym grouped)
      (all_settled x places ops _ pc _ (stay x places ops _ pc _
      (descends x places ops c env _ (nones n sc) pc p _ h r (nils_fit n f) refl
      (waiting (child (offset_of c) (n + length ss) g (nils_over n (length ss) st (mark (base (Some p)) ∷ []) (slots_over ss (mark (base (Some p)) ∷ [])))))))))

  pub children_alike : (bs : Bounds) (env : Bindings) (sc : Scope) (n m pc t : ℕ) (ss : List Slot) → m ≡ n → t ≡ pc + size_of_joined bs + 1
      → HasAt ops pc (code_of_joined x places (nones n sc) pc bs) → AreRightValues x.functions bs → Sees x.globals (free_in_values bs) env sc ss → length sc ≡ length ss
      → AllZip (Follow x places ops) (children_of x bs env) (children_from ops m (starts_of pc bs) t ss)
  children_alike no_bounds env sc n m pc t ss same e h r s len = tt
  children_alike (and_bound b c no_bounds) env sc n m pc t ss same e h r s len = (
    one_child c env sc n m pc (t - 2) ss same (omega (arith, e)) (front ops _ _ _ h) (back ops _ _ _ (size c) (long x places _ pc c) h).0 r.0
        (λ y i. s y (sub_left (free c) [] y i)) len,
    tt,
  )
  children_alike (and_bound b c (and_bound d k bs)) env sc n m pc t ss same e h r s len =
      let rest = back ops _ _ _ (size c) (long x places _ pc c) h in (
        one_child c env sc n m pc (pc + size c + 1 - 1) ss same (omega arith) (front ops _ _ _ h) rest.0 r.0
            (λ y i. s y (sub_left (free c) (free_in_values (and_bound d k bs)) y i)) len,
        children_alike (and_bound d k bs) env sc (suc n) (m + 1) (pc + size c + 1) t ss (omega (arith, same)) (omega (arith, e)) rest.1 r.1
            (λ y i. s y (sub_right (free c) (free_in_values (and_bound d k bs)) y i)) len,
      )

  pub as_many_children : (bs : Bounds) (env : Bindings) → length (children_of x bs env) ≡ length (binders_in bs)
  as_many_children no_bounds env = refl
  as_many_children (and_bound b c bs) env = ap suc (as_many_children bs env)
