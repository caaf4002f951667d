-- Ticks in which processes are made.
use Rattle.std.proofs.Common.{◌≡◌, ◌<◌, ℕ, Result, Ok, Err, OnErr, zero, suc, pred, true, List, [], ◌∷◌, ◌++◌, length, map, Some, None, refl, sym, ap, ◌∙◌, subst, append-nil}
use Rattle.std.specs.Prelude.{slice_get, slice_set}
use Rattle.std.proofs.lemmas.List.{length-map}
use Rattle.std.proofs.lemmas.Option.{none-some, same_Some, slice_get-get_or}
use Rattle.std.proofs.Math.ListN.{get_or}
use Rattle.ql_base.specs.declared.limits.Limits.{Limits}
use Rattle.ql_world.specs.World.{counted, marked, with_thread}
use Rattle.ql_world.specs.declared.event.Stop.{Stop}
use Rattle.ql_world.specs.Machine.{Machine, Answer}
use Rattle.ql_world.specs.Tick.{can_step, row, tick}
use Rattle.ql_tree.specs.declared.person.Person.{Person}
use Rattle.ql_tree.specs.Persons.{process_of_person}
use Rattle.ql_code.specs.Code.{Code}
use Rattle.ql_code.specs.declared.code.Op.{Op}
use Rattle.ql_code.specs.Machine.{Point, Entry, op_want, op_go, code_machine}
use Rattle.ql_proc.specs.declared.process.Proc.{Proc}
use Rattle.ql_proc.specs.Points.{point_of}
use Rattle.ql_host.specs.declared.setting.Setting.{Setting}
use Rattle.ql_host.specs.declared.shared.Shared.{Shared}
use Rattle.ql_host.specs.World.{world_of, Acts, IsAt}
use Rattle.ql_host.specs.Acting.{TakesAll, IsKept}
use Rattle.ql_host.specs.Room.{with_room}
use Rattle.ql_host.specs.Making.{ActsMaking, Makes, AreKept}
use Rattle.ql_host.proofs.RowTicks.{row_tick, process_there, moved, want_at, go_at}

module _ {A : Type 0} where
  pub set_append : (xs ys : List A) (i : ℕ) (x y : A) → slice_get xs i ≡ Some x → slice_set (xs ++ ys) i y ≡ slice_set xs i y ++ ys
  set_append [] ys i x y e = absurd (none-some x e)
  set_append (z ∷ xs) ys zero x y e = refl
  set_append (z ∷ xs) ys (suc i) x y e = ap (λ zs. z ∷ zs) (set_append xs ys i x y e)

  pub get_append : (xs ys : List A) (i : ℕ) (x : A) → slice_get xs i ≡ Some x → slice_get (xs ++ ys) i ≡ Some x
  get_append [] ys i x e = absurd (none-some x e)
  get_append (z ∷ xs) ys zero x e = e
  get_append (z ∷ xs) ys (suc i) x e = get_append xs ys i x e

  pub set_same : (xs : List A) (i : ℕ) (x : A) → slice_get xs i ≡ Some x → slice_set xs i x ≡ xs
  set_same [] i x e = absurd (none-some x e)
  set_same (y ∷ xs) zero x e = ap (λ z. z ∷ xs) (sym (same_Some y x e))
  set_same (y ∷ xs) (suc i) x e = ap (λ ys. y ∷ ys) (set_same xs i x e)

module _ {A B : Type 0} (f : A → B) where
  map_append : (xs ys : List A) → map f (xs ++ ys) ≡ map f xs ++ map f ys
  map_append [] ys = refl
  map_append (x ∷ xs) ys = ap (λ zs. f x ∷ zs) (map_append xs ys)

  pub map_set : (xs : List A) (i : ℕ) (y : A) → map f (slice_set xs i y) ≡ slice_set (map f xs) i (f y)
  map_set [] i y = refl
  map_set (x ∷ xs) zero y = refl
  map_set (x ∷ xs) (suc i) y = ap (λ zs. f x ∷ zs) (map_set xs i y)

  pub map_get : (xs : List A) (i : ℕ) (x : A) → slice_get xs i ≡ Some x → slice_get (map f xs) i ≡ Some (f x)
  map_get [] i x e = absurd (none-some x e)
  map_get (y ∷ xs) zero x e = ap (λ z. Some (f z)) (same_Some y x e)
  map_get (y ∷ xs) (suc i) x e = map_get xs i x e

module _ (code : Code) (names : List (List ℕ)) (limits : Limits) (p : ℕ) where
  abbrev M : Machine Point Entry
  M = code_machine code.instructions

  -- Of a process at an instruction: where its row comes to an answer in this world, it goes on with that.
  pub makes_at : (r : Person) (old new : Shared) (t u : Point) (op : Op) (at : ℕ) → IsAt code names limits p old r t op at → (a : Answer Entry) (made : List Point)
      → ((threads : List Point) → length threads ≡ length old.tree.persons
      → row M names limits p (process_of_person r t) (counted (world_of old threads) p) (op_want op at t.stack) ≡ Some (with_thread (world_of new (threads ++ made)) p (M.go t a)))
      → op_go code.instructions op a t.place t.stack ≡ u
      → ActsMaking code names limits p r old t new u made
  makes_at r old new t u op at h a made f g threads i e s n l c =
      row_tick code names limits p (process_of_person r t) (world_of old threads) (process_there code names limits p old r t threads i e s n) c
      ∙ ap (row M names limits p (process_of_person r t) (counted (world_of old threads) p)) (want_at code names limits p t op at h.runs h.here)
      ∙ f threads l
      ∙ ap (λ v. Some (with_thread (world_of new (threads ++ made)) p v)) (go_at code names limits p t op at h.runs h.here a ∙ g)
      ∙ ap Some (sym (moved code names limits p new (threads ++ made) i u e))
      ∙ ap (λ ts. Some (world_of new ts)) (set_append threads made i t u s)

  -- Where the row errs or meets a limit, the tick is counted, and the run is marked.
  pub stops_making : (r : Person) (old new : Shared) (t : Point) (op : Op) (at : ℕ) → IsAt code names limits p old r t op at → (stop : Stop)
      → ((threads : List Point) → length threads ≡ length old.tree.persons
      → row M names limits p (process_of_person r t) (counted (world_of old threads) p) (op_want op at t.stack) ≡ Some (marked (counted (world_of old threads) p) stop))
      → ((threads : List Point) → world_of new threads ≡ marked (counted (world_of old threads) p) stop)
      → ActsMaking code names limits p r old t new t []
  stops_making r old new t op at h stop f g threads i e s n l c =
      row_tick code names limits p (process_of_person r t) (world_of old threads) (process_there code names limits p old r t threads i e s n) c
      ∙ ap (row M names limits p (process_of_person r t) (counted (world_of old threads) p)) (want_at code names limits p t op at h.runs h.here)
      ∙ f threads l
      ∙ ap Some (sym (g threads))
      ∙ ap (λ ts. Some (world_of new ts)) (sym (append-nil (slice_set threads i t) ∙ set_same threads i t s))

  -- a tick that makes none
  pub makes_none : (r : Person) (old new : Shared) (t u : Point) → Acts code names limits p r old t new u → ActsMaking code names limits p r old t new u []
  makes_none r old new t u h threads i e s n l c =
      h threads i e s n c ∙ ap (λ ts. Some (world_of new ts)) (sym (append-nil (slice_set threads i u)))

-- From one process and the new ones to all processes.
module _ (s : Setting) (p : ℕ) (r : Person) (old new : Shared) where
  pub takes_all : (t u : Proc) (ts us made : List Proc) (j : ℕ) → p ≡ suc j → slice_get ts j ≡ Some t → us ≡ slice_set ts j u ++ made → Makes s p r old t new u made
      → TakesAll s p r old ts new us
  takes_all t u ts us made j e g z h i v k x n l c =
      subst (λ w. slice_get ts j ≡ Some w → can_step (code_machine s.code.now.instructions) s.names.now s.limits p (process_of_person r (point_of w)) (world_of old (map point_of ts)) ≡ true
      → tick (code_machine s.code.now.instructions) s.names.now s.limits (world_of old (map point_of ts)) p ≡ Some (world_of new (map point_of us)))
      (same_Some t v (sym g ∙ ap (slice_get ts) (ap pred (sym e ∙ k)) ∙ x))
      (λ q d. h (map point_of ts) j e (map_get point_of ts j t g) n (length-map ts point_of ∙ l) d
      ∙ ap (λ (ws : List Point). Some (world_of new ws)) (sym (ap (map point_of) z ∙ map_append point_of (slice_set ts j u) made ∙ ap (λ ws. ws ++ map point_of made) (map_set point_of ts j u))))
      (ap (slice_get ts) (ap pred (sym e ∙ k)) ∙ x) c

  -- there is no such process
  pub takes_absent : (ts us : List Proc) (j : ℕ) → p ≡ suc j → slice_get ts j ≡ None → TakesAll s p r old ts new us
  takes_absent ts us j e g i v k x n l c = absurd (none-some v (sym g ∙ ap (slice_get ts) (ap pred (sym e ∙ k)) ∙ x))

-- what a process does after room was taken, it does from before
pub made_from_room : (code : Code) (names : List (List ℕ)) (limits : Limits) (p : ℕ) (r : Person) (old mid : Shared) → mid ≡ with_room old mid → (new : Shared) (t u : Point) (made : List Point)
    → ActsMaking code names limits p r mid t new u made → ActsMaking code names limits p r old t new u made
made_from_room code names limits p r old mid same new t u made h = subst (λ m. ActsMaking code names limits p r m t new u made) same h

-- what stands at a place
pub found : {A : Type 0} (xs ys : List A) (i : ℕ) (x : A) → ys ≡ xs → i < length xs → x ≡ get_or ys i x → slice_get xs i ≡ Some x
found xs ys i x e b v = slice_get-get_or xs i x b ∙ ap Some (ap (λ zs. get_or zs i x) (sym e) ∙ sym v)

-- where only room of one process has changed, nothing but room of all has
pub all_kept : (old new : Shared) (ts us : List Proc) (j : ℕ) (t u : Proc) → slice_get ts j ≡ Some t → us ≡ slice_set ts j u → IsKept old t new u → AreKept old ts new us
all_kept old new ts us j t u g z h = (
  h.0,
  (
    ap (map point_of) z
        ∙ map_set point_of ts j u
        ∙ ap (slice_set (map point_of ts) j) (ap point_of h.1.0)
        ∙ set_same (map point_of ts) j (point_of t) (map_get point_of ts j t g),
    h.1.1,
  ),
)

pub on_err : {A E : Type 0} (result : Result A E) (X : Type 0) → X → OnErr result X
on_err (Ok x) X h = record {}
on_err (Err e) X h = h
