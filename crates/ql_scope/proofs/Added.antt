-- Stretches of a walk, one after another.
use Rattle.std.proofs.Common.{◌≡◌, ℕ, ◌+◌, suc, ◌<◌, List, [], ◌∷◌, ◌++◌, length, take, drop, map, append-nil, length-append, Option, None, refl, ap, sym, ◌∙◌, get_or, add-one, drop-cons, append_assoc}
use Rattle.std.specs.Prelude.{Result, OnOk}
use Rattle.std.proofs.lemmas.List.{take_more, map-append}
use Rattle.std.proofs.lemmas.Result.{on_ok_weaker}
use Rattle.ql_base.specs.Refusal.{first_of, first_appended, least}
use Rattle.ql_base.specs.declared.refusal.Fault.{Fault}
use Rattle.ql_expand.specs.Core.{Binder, Core, Cores, Function, lambda, program}
use Rattle.ql_scope.specs.Scope.{core_faults, cores_faults, functions_faults, head_of, program_faults, repeated_functions, repeated_globals, top, node_faults, list_faults, binder_faults, binders_faults, names_at, name_at, under}
use Rattle.ql_scope.specs.Stored.{stored_binders, stored_in, stored_in_cores, stored_in_functions, stored_in_node, inside}
use Rattle.ql_scope.specs.CheckWalk.{Walk, Seen, Adds, above, place_in, seen_under, with_binders}
use Rattle.ql_scope.proofs.Above.{inside_append, names_append, back}
use Rattle.ql_scope.proofs.Collected.{with_more}

pub adds_nothing : (w : Walk) → Adds w w (λ s. []) (λ s. [])
adds_nothing w = record { first = refl; stored = refl; seen = refl }

pub adds_then : (a b c : Walk) (F G : Seen → List Fault) (H K : Seen → List Binder) → Adds a b F H → Adds b c G K → Adds a c (λ s. F s ++ G s) (λ s. H s ++ K s)
adds_then a b c F G H K x y = record {
  first = y.first ∙ (ap (λ s. first_of b.first (G s)) x.seen ∙ (ap (λ f. first_of f (G a.seen)) x.first ∙ sym (first_appended a.first (F a.seen) (G a.seen))));
  stored = y.stored ∙ (ap (λ s. with_binders b.stored (K s)) x.seen ∙ (ap (λ bs. with_binders bs (K a.seen)) x.stored ∙ sym (with_more a.stored (H a.seen) (K a.seen))));
  seen = y.seen ∙ x.seen;
}

pub then_more : {T E : Type 0} (r : Result T E) (a b c : Walk) (F G : Seen → List Fault) (H K : Seen → List Binder)
    → Adds a b F H → OnOk r (Adds b c G K) → OnOk r (Adds a c (λ s. F s ++ G s) (λ s. H s ++ K s))
then_more r a b c F G H K x y = on_ok_weaker r (λ (z : Adds b c G K). adds_then a b c F G H K x z) y

abbrev with_row : Seen → List Binder → Seen
with_row s bs = record s { row = bs }

-- A body under binders.
pub under_binders : (bs : List Binder) (body : Core) (a b c d : Walk)
    → b.first ≡ first_of a.first (list_faults (place_in a.seen) bs) → b.stored ≡ a.stored → b.seen ≡ seen_under bs a.seen
    → Adds b c (λ s. core_faults (place_in s) body) (λ s. stored_in (above s) body)
    → d ≡ record c { seen = record c.seen { row = take (length a.seen.row) c.seen.row } }
    → Adds a d (λ s. node_faults (place_in s) 0 (lambda bs body)) (λ s. stored_in_node (above s) (lambda bs body))
under_binders bs body a b c d first stored seen x left =
    let inner : c.seen ≡ seen_under bs a.seen = x.seen ∙ seen in
    record {
      first = ap (λ w. w.first) left ∙ (x.first ∙ (ap (λ s. first_of b.first (core_faults (place_in s) body)) seen
          ∙ (ap (λ ns. first_of b.first (core_faults (record (place_in a.seen) { variables = ns }) body)) (names_append a.seen.row bs)
          ∙ (ap (λ f. first_of f (core_faults (under bs (place_in a.seen)) body)) first
          ∙ sym (first_appended a.first (list_faults (place_in a.seen) bs) (core_faults (under bs (place_in a.seen)) body))))));
      stored = ap (λ w. w.stored) left ∙ (x.stored ∙ (ap (λ s. with_binders b.stored (stored_in (above s) body)) seen
          ∙ (ap (λ up. with_binders b.stored (stored_in up body)) (inside_append a.seen.row bs []) ∙ ap (λ st. with_binders st (stored_in (inside bs (above a.seen)) body)) stored)));
      seen = ap (λ w. w.seen) left ∙ (ap (λ s. with_row s (take (length a.seen.row) s.row)) inner ∙ ap (with_row a.seen) (back a.seen.row bs));
    }

pub adds_same : (a b : Walk) (F : Seen → List Fault) (H K : Seen → List Binder) → Adds a b F H → H a.seen ≡ K a.seen → Adds a b F K
adds_same a b F H K x e = record { first = x.first; stored = x.stored ∙ ap (with_binders a.stored) e; seen = x.seen }

-- One more binder of a list is gone under.
pub bound_one : (outer : ℕ) (a b c : Walk) (done done' rest rest' : List Binder) (x : Binder) (whole : Option Fault)
    → b.stored ≡ a.stored → b.seen ≡ seen_under done a.seen → first_of b.first (binders_faults a.seen.globals (names_at done) (length done) rest) ≡ whole
    → c.stored ≡ b.stored → c.seen ≡ seen_under (x ∷ []) b.seen
    → ((before listed : List Binder) → b.seen.row ≡ before ++ listed → outer ≡ length before → c.first ≡ first_of b.first (binder_faults b.seen.globals (names_at listed) (length listed) x))
    → outer ≡ length a.seen.row → done' ≡ done ++ x ∷ [] → rest ≡ x ∷ rest'
    → (c.stored ≡ a.stored) × ((c.seen ≡ seen_under done' a.seen) × (first_of c.first (binders_faults a.seen.globals (names_at done') (length done') rest') ≡ whole))
bound_one outer a b c done done' rest rest' x whole stored seen first same under found place more split =
    let names : names_at (done ++ x ∷ []) ≡ names_at done ++ name_at x = names_append done (x ∷ []) ∙ ap (λ ns. names_at done ++ ns) (append-nil (name_at x)) in
    let count : length (done ++ x ∷ []) ≡ length done + 1 = length-append done (x ∷ []) in
    let globals = a.seen.globals in
    let here : c.first ≡ first_of b.first (binder_faults globals (names_at done) (length done) x) =
    found a.seen.row done (ap (λ s. s.row) seen) place ∙ ap (λ s. first_of b.first (binder_faults s.globals (names_at done) (length done) x)) seen in (
      same ∙ stored,
      (
        under ∙ (ap (seen_under (x ∷ [])) seen ∙ (ap (with_row a.seen) (append_assoc a.seen.row done (x ∷ [])) ∙ ap (λ d. seen_under d a.seen) (sym more))),
        ap (λ d. first_of c.first (binders_faults globals (names_at d) (length d) rest')) more
            ∙ (ap (λ ns. first_of c.first (binders_faults globals ns (length (done ++ x ∷ [])) rest')) names
            ∙ (ap (λ n. first_of c.first (binders_faults globals (names_at done ++ name_at x) n rest')) count
            ∙ (ap (λ f. first_of f (binders_faults globals (names_at done ++ name_at x) (length done + 1) rest')) here
            ∙ (sym (first_appended b.first (binder_faults globals (names_at done) (length done) x) (binders_faults globals (names_at done ++ name_at x) (length done + 1) rest'))
            ∙ (ap (λ bs. first_of b.first (binders_faults globals (names_at done) (length done) bs)) (sym split) ∙ first))))),
      ),
    )

-- One more name of functions or globals is looked for among those before it.
pub name_one : (f g h : Option Fault) (old new : List Binder) (names : List ℕ) (faults : List Fault) (rest : List ℕ → List Fault)
    → g ≡ first_of f faults → names_at new ≡ names_at old ++ names → first_of f (faults ++ rest (names_at old ++ names)) ≡ h → first_of g (rest (names_at new)) ≡ h
name_one f g h old new names faults rest found more whole =
    ap (λ ns. first_of g (rest ns)) more ∙ (ap (λ x. first_of x (rest (names_at old ++ names))) found ∙ (sym (first_appended f faults (rest (names_at old ++ names))) ∙ whole))

-- All steps find the first fault and the stored variables of the whole program.
pub whole_is : (fs : List Function) (globals : List ℕ) (cs : Cores) (e f : Option Fault) (a b c : Walk)
    → e ≡ first_of None (repeated_functions [] fs) → f ≡ first_of e (repeated_globals [] cs)
    → a ≡ record { seen = record { functions = map head_of fs; globals = globals; row = [] }; first = f; stored = [] }
    → Adds a b (λ s. functions_faults (place_in s) fs) (λ s. stored_in_functions fs)
    → Adds b c (λ s. cores_faults (place_in s) cs) (λ s. stored_in_cores (above s) cs)
    → (c.first ≡ least (program_faults (program fs globals cs))) × (c.stored ≡ with_binders [] (stored_binders (program fs globals cs)))
whole_is fs globals cs e f a b c ofs ogs start x y =
    let z = adds_then a b c (λ s. functions_faults (place_in s) fs) (λ s. cores_faults (place_in s) cs) (λ s. stored_in_functions fs) (λ s. stored_in_cores (above s) cs) x y in
    let rest = functions_faults (top fs globals) fs ++ cores_faults (top fs globals) cs in (
      z.first ∙ (ap (λ w. first_of w.first (functions_faults (place_in w.seen) fs ++ cores_faults (place_in w.seen) cs)) start
          ∙ (ap (λ k. first_of k rest) ogs ∙ (sym (first_appended e (repeated_globals [] cs) rest)
          ∙ (ap (λ k. first_of k (repeated_globals [] cs ++ rest)) ofs ∙ sym (first_appended None (repeated_functions [] fs) (repeated_globals [] cs ++ rest)))))),
      z.stored ∙ ap (λ w. with_binders w.stored (stored_in_functions fs ++ stored_in_cores (above w.seen) cs)) start,
    )

pub map_more : {X Y : Type 0} (F : X → Y) (xs : List X) (i : ℕ) (x : X) → i < length xs → x ≡ get_or xs i x → map F (take (i + 1) xs) ≡ map F (take i xs) ++ F x ∷ []
map_more F xs i x h e = ap (map F) (take_more xs i x h) ∙ (map-append F (take i xs) (get_or xs i x ∷ []) ∙ ap (λ y. map F (take i xs) ++ F y ∷ []) (sym e))

pub drop_is : {X : Type 0} (xs : List X) (i : ℕ) (x : X) → i < length xs → x ≡ get_or xs i x → drop i xs ≡ x ∷ drop (i + 1) xs
drop_is xs i x h e = rw (add-one, drop-cons xs i x) (ap (λ y. y ∷ drop (suc i) xs) (sym e))
