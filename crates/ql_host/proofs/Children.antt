-- The children that a tick makes.
use Rattle.std.proofs.Common.{◌≡◌, ◌<◌, ℕ, zero, suc, ◌+◌, ◌-◌, List, [], ◌∷◌, ◌++◌, length, Some, refl, sym, ap, ◌∙◌, append_assoc, arith}
use Rattle.std.specs.Prelude.{slice_get, drop, take}
use Rattle.std.proofs.lemmas.Option.{none-some, same_Some, slice_get-get_or}
use Rattle.std.proofs.Math.ListN.{get_or}
use Rattle.ql_world.specs.declared.word.Slot.{Slot}
use Rattle.ql_world.specs.declared.world.FutState.TheVariants.{Pending as pending}
use Rattle.ql_world.specs.declared.world.Kind.TheVariants.{Child as child}
use Rattle.ql_world.specs.declared.world.Process.{Process}
use Rattle.ql_world.specs.declared.event.Event.TheVariants.{Spawn as spawn}
use Rattle.ql_world.specs.declared.event.Mode.TheVariants.{Let as binding}
use Rattle.ql_world.specs.World.{process_of}
use Rattle.ql_world.specs.Tick.{with_child, with_children}
use Rattle.ql_tree.specs.Tree.{new_person}
use Rattle.ql_tree.specs.Persons.{joined}
use Rattle.ql_tree.specs.Joined.{joined-append, joined-length}
use Rattle.ql_code.specs.Code.{Instruction}
use Rattle.ql_code.specs.declared.mark.State.TheVariants.{Running as running}
use Rattle.ql_code.specs.Machine.{Point, point, settled, child_stack, children_from}
use Rattle.ql_host.specs.declared.shared.Shared.{Shared}
use Rattle.ql_host.specs.World.{world_of}
use Rattle.ql_host.specs.Making.{join_before, Grows}

module _ (code : List Instruction) (touched : ℕ) (ss : List Slot) where
  children_on : (m n : ℕ) (starts : List ℕ) (l : ℕ) → slice_get starts n ≡ Some l
      → children_from code m (drop n starts) touched ss ≡ settled code l (child_stack m (join_before (slice_get starts (suc n)) touched) ss) ∷ children_from code (m + 1) (drop (suc n) starts) touched ss
  children_on m n [] l e = absurd (none-some l e)
  children_on m zero (k ∷ []) l e = ap (λ i. settled code i (child_stack m (touched - 2) ss) ∷ []) (same_Some k l e)
  children_on m zero (k ∷ (j ∷ starts)) l e = ap (λ i. settled code i (child_stack m (j - 1) ss) ∷ children_from code (m + 1) (j ∷ starts) touched ss) (same_Some k l e)
  children_on m (suc n) (k ∷ starts) l e = children_on m n starts l e

  -- the child with this number, and those after it
  pub children_next : (n : ℕ) (starts : List ℕ) (l : ℕ) (c : Point) → slice_get starts n ≡ Some l
      → c ≡ settled code l (child_stack n (join_before (slice_get starts (n + 1)) touched) ss)
      → children_from code n (drop n starts) touched ss ≡ c ∷ children_from code (n + 1) (drop (n + 1) starts) touched ss
  children_next n starts l c e f =
      let z : suc n ≡ n + 1 = omega arith in
      children_on n n starts l e
      ∙ ap (λ k. settled code l (child_stack n (join_before (slice_get starts k) touched) ss) ∷ children_from code (n + 1) (drop k starts) touched ss) z
      ∙ ap (λ d. d ∷ children_from code (n + 1) (drop (n + 1) starts) touched ss) (sym f)

  -- as many as there are starts
  pub children_length : (m : ℕ) (starts : List ℕ) → length (children_from code m starts touched ss) ≡ length starts
  children_length m [] = refl
  children_length m (k ∷ []) = refl
  children_length m (k ∷ (j ∷ starts)) = ap suc (children_length (m + 1) (j ∷ starts))

pub child_added : (old : Shared) (p home f q : ℕ) (threads : List Point) (t : Point) → f ≡ length old.futures.states + 1 → q ≡ length old.tree.persons + 1 → length threads ≡ length old.tree.persons
    → record (world_of old threads) {
      futures = old.futures.states ++ pending ∷ [];
      procs = joined (old.tree.persons ++ new_person home (child f) ∷ []) (threads ++ t ∷ []);
      events = spawn p q home binding ∷ old.history.events;
    } ≡ with_child (world_of old threads) p home t
child_added old p home f q threads t d e l =
    ap (λ (ps : List (Process Point)). record (world_of old threads) { futures = old.futures.states ++ pending ∷ []; procs = ps; events = spawn p q home binding ∷ old.history.events })
    (joined-append old.tree.persons threads (new_person home (child f)) t (sym l))
    ∙ ap (λ g. record (world_of old threads) { futures = old.futures.states ++ pending ∷ []; procs = joined old.tree.persons threads ++ process_of home (child g) t ∷ []; events = spawn p q home binding ∷ old.history.events }) d
    ∙ ap (λ r. record (world_of old threads) { futures = old.futures.states ++ pending ∷ []; procs = joined old.tree.persons threads ++ process_of home (child (length old.futures.states + 1)) t ∷ []; events = spawn p r home binding ∷ old.history.events })
    (e ∙ ap (λ n. n + 1) (sym (joined-length old.tree.persons threads (sym l) ∙ l)))

drop_at : {A : Type 0} (xs : List A) (n : ℕ) (x : A) → slice_get xs n ≡ Some x → drop n xs ≡ x ∷ drop (suc n) xs
drop_at [] n x e = absurd (none-some x e)
drop_at (y ∷ xs) zero x e = ap (λ z. z ∷ xs) (same_Some y x e)
drop_at (y ∷ xs) (suc n) x e = drop_at xs n x e

take_at : {A : Type 0} (xs : List A) (n : ℕ) (x : A) → slice_get xs n ≡ Some x → take (suc n) xs ≡ take n xs ++ x ∷ []
take_at [] n x e = absurd (none-some x e)
take_at (y ∷ xs) zero x e = ap (λ z. z ∷ []) (same_Some y x e)
take_at (y ∷ xs) (suc n) x e = ap (λ zs. y ∷ zs) (take_at xs n x e)

take_length : {A : Type 0} (xs : List A) (n : ℕ) (x : A) → slice_get xs n ≡ Some x → length (take n xs) ≡ n
take_length [] n x e = absurd (none-some x e)
take_length (y ∷ xs) zero x e = refl
take_length (y ∷ xs) (suc n) x e = ap suc (take_length xs n x e)

length_append : {A : Type 0} (xs ys : List A) → length (xs ++ ys) ≡ length xs + length ys
length_append [] ys = omega arith
length_append (x ∷ xs) ys = let e : length (xs ++ ys) ≡ length xs + length ys = length_append xs ys in omega (arith, e)

-- one more of the children is made
pub children_made : (start old new : Shared) (p home n : ℕ) (ts : List Point) → n < length ts → length old.tree.persons ≡ length start.tree.persons + n
    → ((threads : List Point) → length threads ≡ length start.tree.persons → with_children (world_of old (threads ++ take n ts)) p home (drop n ts) ≡ with_children (world_of start threads) p home ts)
    → ((threads : List Point) (c : Point) → length threads ≡ length old.tree.persons → world_of new (threads ++ c ∷ []) ≡ with_child (world_of old threads) p home c)
    → (threads : List Point) → length threads ≡ length start.tree.persons
    → with_children (world_of new (threads ++ take (n + 1) ts)) p home (drop (n + 1) ts) ≡ with_children (world_of start threads) p home ts
children_made start old new p home n ts b l f g threads k =
    let t : Point = get_or ts n (point 0 [] running) in
    let e : slice_get ts n ≡ Some t = slice_get-get_or ts n (point 0 [] running) b in
    let z : n + 1 ≡ suc n = omega arith in
    let j : length (threads ++ take n ts) ≡ length old.tree.persons = length_append threads (take n ts) ∙ ap (λ m. length threads + m) (take_length ts n t e) ∙ ap (λ m. m + n) k ∙ sym l in
    ap (λ m. with_children (world_of new (threads ++ take m ts)) p home (drop m ts)) z
    ∙ ap (λ us. with_children (world_of new us) p home (drop (suc n) ts)) (ap (λ us. threads ++ us) (take_at ts n t e) ∙ sym (append_assoc threads (take n ts) (t ∷ [])))
    ∙ ap (λ w. with_children w p home (drop (suc n) ts)) (g (threads ++ take n ts) t j)
    ∙ ap (λ us. with_children (world_of old (threads ++ take n ts)) p home us) (sym (drop_at ts n t e))
    ∙ f threads k

pub grows_on : (start old new : Shared) → Grows start old → Grows old new → Grows start new
grows_on start old new g h = record { cells = h.cells ∙ g.cells; procs = h.procs ∙ g.procs; head = h.head ∙ g.head; ticks = h.ticks ∙ g.ticks; protects = h.protects ∙ g.protects }
