-- What holds of process closures as they change. Each is a proved fact, for the proofs of those who keep them.
use Rattle.std.specs.Prelude.{◌≡◌, refl, ℕ, zero, suc, List, [], ◌∷◌, ◌++◌, map, Some, slice_get}
use Rattle.std.specs.List.{flat_map}
use Rattle.std.proofs.Common.{ap, sym, ◌∙◌, append_assoc}
use Rattle.std.proofs.lemmas.Option.{none-some, same_Some}
use Rattle.ql_world.specs.World.{Call, ProcessClosure, change, numbered, change_numbered}
use Rattle.ql_world.specs.Idle.{current_of, replies_of, reply_of, unanswered}
use Rattle.ql_calls.specs.Unanswered.{reply_places}

module _ {A : Type 0} where
  change-at : (f : A → A) (xs : List A) (i : ℕ) (x : A) → slice_get xs i ≡ Some x → slice_get (change f xs i) i ≡ Some (f x)
  change-at f [] i x e = absurd (none-some x e)
  change-at f (y ∷ xs) zero x e = ap (λ z. Some (f z)) (same_Some y x e)
  change-at f (y ∷ xs) (suc i) x e = change-at f xs i x e

  -- what became of the one that is changed
  pub changed-at : (f : A → A) (xs : List A) (k : ℕ) (x : A) → numbered xs k ≡ Some x → numbered (change_numbered f xs k) k ≡ Some (f x)
  changed-at f xs zero x e = absurd (none-some x e)
  changed-at f xs (suc i) x e = change-at f xs i x e

  change-as : (f : A → A) (xs : List A) (i : ℕ) (x : A) → slice_get xs i ≡ Some x → change f xs i ≡ change (λ y. f x) xs i
  change-as f [] i x e = refl
  change-as f (y ∷ xs) zero x e = ap (λ z. f z ∷ xs) (same_Some y x e)
  change-as f (y ∷ xs) (suc i) x e = ap (λ ys. y ∷ ys) (change-as f xs i x e)

  -- to change it is to put what becomes of it in its place
  pub changed-as : (f : A → A) (xs : List A) (k : ℕ) (x : A) → numbered xs k ≡ Some x → change_numbered f xs k ≡ change_numbered (λ y. f x) xs k
  changed-as f xs zero x e = refl
  changed-as f xs (suc i) x e = change-as f xs i x e

  change-twice : (f g : A → A) (xs : List A) (i : ℕ) → change g (change f xs i) i ≡ change (λ x. g (f x)) xs i
  change-twice f g [] i = refl
  change-twice f g (x ∷ xs) zero = refl
  change-twice f g (x ∷ xs) (suc i) = ap (λ ys. x ∷ ys) (change-twice f g xs i)

  -- one change after another
  pub changed-twice : (f g : A → A) (xs : List A) (k : ℕ) → change_numbered g (change_numbered f xs k) k ≡ change_numbered (λ x. g (f x)) xs k
  changed-twice f g xs zero = refl
  changed-twice f g xs (suc i) = change-twice f g xs i

turn-places : (fs : List ℕ) → flat_map reply_of (map Some fs) ≡ fs
turn-places [] = refl
turn-places (f ∷ fs) = ap (λ gs. f ∷ gs) (turn-places fs)

call-places : (cs : List Call) (fs : List ℕ) → flat_map reply_of (map (λ c. c.reply) cs ++ map Some fs) ≡ replies_of cs ++ fs
call-places [] fs = turn-places fs
call-places (c ∷ cs) fs = ap (λ gs. reply_of c.reply ++ gs) (call-places cs fs) ∙ sym (append_assoc (reply_of c.reply) (replies_of cs) fs)

-- the futures at the places, in order, are those that nobody will answer
pub places-hold : {K : Type 0} (s : ProcessClosure K) → flat_map reply_of (reply_places s) ≡ unanswered s
places-hold s = call-places (current_of s.current ++ s.queue) s.turn
