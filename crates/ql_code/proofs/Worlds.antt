-- What a change of a sound world leaves.
use Rattle.std.proofs.Common.{◌≡◌, ℕ, zero, suc, ◌+◌, ◌≤◌, ◌==◌, Bool, true, false, List, [], ◌∷◌, ◌++◌, length, Option, Some, None, refl, ap, ◌∙◌, subst, ⊎_elim, inl, inr, arith, length-append}
use Rattle.std.specs.Prelude.{◌&&◌, not, if◌then◌else◌, slice_get}
use Rattle.ql_world.specs.declared.word.Word.{Word}
use Rattle.ql_world.specs.declared.event.Event.TheVariants.{Kill as kill}
use Rattle.ql_world.specs.declared.world.Kind.TheVariants.{Main as world_main, Child as world_child}
use Rattle.ql_world.specs.World.{ProcessClosure, World, change, numbered, change_numbered, closed, with_event}
use Rattle.ql_world.specs.declared.world.FutState.{FutState as Future}
use Rattle.ql_world.specs.declared.world.FutState.TheVariants.{Pending as pending, Value as valued, Dead as dead}
use Rattle.ql_world.specs.declared.world.Aim.{Aim}
use Rattle.ql_world.specs.declared.world.Aim.TheVariants.{Die as die}
use Rattle.ql_world.specs.declared.world.Catch.{Catch}
use Rattle.ql_world.specs.declared.world.Kind.{Kind}
use Rattle.ql_world.specs.declared.world.Kind.TheVariants.{Closure as serving}
use Rattle.ql_world.specs.declared.world.Process.{Process}
use Rattle.ql_world.specs.Within.{is_live, is_within}
use Rattle.ql_world.specs.Idle.{in_cleanup, killed, all_killed, unanswered, unwinds_at, abandoned_server, abandoned, killed_process, killed_if_within, killed_among, killed_within}
use Rattle.ql_world.specs.Machine.{Machine}
use Rattle.ql_code.specs.Code.{Code}
use Rattle.ql_code.specs.Machine.{Point, Entry, code_machine}
use Rattle.ql_code.specs.Sound.{Has, Sound}
use Rattle.ql_code.specs.Standing.{Made, IsMade, IsAimMade, IsEntry, IsStanding, Holds}
use Rattle.ql_code.specs.SoundWorld.{made_of, Each, IsPairMade, IsFutureMade, IsGlobalMade, IsKindMade, IsCallMade, IsServer, IsProcess, IsSoundIn, IsSoundWorld}
use Rattle.ql_code.proofs.Grows.{Grows, grows_self, grows_on, number_more, made_more, are_made_more, aim_more, entry_more, standing_more}
use Rattle.ql_code.proofs.GoesOn.{unwound_stands}

module _ {A : Type 0} where
  pub each_more : (P Q : A → Type 0) (xs : List A) → ((x : A) → P x → Q x) → Each P xs → Each Q xs
  each_more P Q [] f h = tt
  each_more P Q (x ∷ xs) f h = (f x h.0, each_more P Q xs f h.1)

  pub each_append : (P : A → Type 0) (xs ys : List A) → Each P xs → Each P ys → Each P (xs ++ ys)
  each_append P [] ys h k = k
  each_append P (x ∷ xs) ys h k = (h.0, each_append P xs ys h.1 k)

  pub each_at : (P : A → Type 0) (xs : List A) (n : ℕ) (x : A) → slice_get xs n ≡ Some x → Each P xs → P x
  each_at P [] n x e h = absurd cc
  each_at P (y ∷ xs) zero x e h = let k : y ≡ x = cc in subst P k h.0
  each_at P (y ∷ xs) (suc n) x e h = each_at P xs n x e h.1

  pub each_numbered : (P : A → Type 0) (xs : List A) (n : ℕ) (x : A) → numbered xs n ≡ Some x → Each P xs → P x
  each_numbered P xs zero x e h = absurd cc
  each_numbered P xs (suc n) x e h = each_at P xs n x e h

  -- one element is changed
  each_change : (P : A → Type 0) (f : A → A) (xs : List A) (n : ℕ) → ((x : A) → slice_get xs n ≡ Some x → P x → P (f x)) → Each P xs → Each P (change f xs n)
  each_change P f [] n g h = tt
  each_change P f (x ∷ xs) zero g h = (g x refl h.0, h.1)
  each_change P f (x ∷ xs) (suc n) g h = (h.0, each_change P f xs n g h.1)

  pub each_change_numbered : (P : A → Type 0) (f : A → A) (xs : List A) (n : ℕ) → ((x : A) → numbered xs n ≡ Some x → P x → P (f x)) → Each P xs → Each P (change_numbered f xs n)
  each_change_numbered P f xs zero g h = h
  each_change_numbered P f xs (suc n) g h = each_change P f xs n g h

  change_long : (f : A → A) (xs : List A) (n : ℕ) → length (change f xs n) ≡ length xs
  change_long f [] n = refl
  change_long f (x ∷ xs) zero = refl
  change_long f (x ∷ xs) (suc n) = ap suc (change_long f xs n)

  pub change_numbered_long : (f : A → A) (xs : List A) (n : ℕ) → length (change_numbered f xs n) ≡ length xs
  change_numbered_long f xs zero = refl
  change_numbered_long f xs (suc n) = change_long f xs n

  pub each_change_at : (P : A → Type 0) (f : A → A) (xs : List A) (n : ℕ) → ((x : A) → P (f x)) → Each P xs → Each P (change f xs n)
  each_change_at P f xs n g h = each_change P f xs n (λ x e k. g x) h

  pub long_change : (f : A → A) (xs : List A) (n : ℕ) → length (change f xs n) ≡ length xs
  long_change f xs n = change_long f xs n

  pub get_more : (xs ys : List A) (n : ℕ) (x : A) → slice_get xs n ≡ Some x → slice_get (xs ++ ys) n ≡ Some x
  get_more [] ys n x e = absurd cc
  get_more (y ∷ xs) ys zero x e = e
  get_more (y ∷ xs) ys (suc n) x e = get_more xs ys n x e

long_if : (b : Bool) (x y : Catch) (xs ys : List Catch) → length ys ≡ length xs → length (if b then x ∷ xs else y ∷ ys) ≡ suc (length xs)
long_if true x y xs ys e = refl
long_if false x y xs ys e = ap suc e

closed_long : (ks : List Catch) (c : ℕ) → length (closed ks c) ≡ length ks
closed_long [] c = refl
closed_long (k ∷ ks) c = long_if (c == length ks) (record k { open_still = false }) k ks (closed ks c) (closed_long ks c)

-- the processes that were there are of their kinds
abbrev pub SameKinds : List (Process Point) → List (Process Point) → Type 0
SameKinds ps qs = (i : ℕ) (q : Process Point) → numbered ps i ≡ Some q → (r : Process Point) × (numbered qs i ≡ Some r) × (r.kind ≡ q.kind)

pub kinds_self : (ps : List (Process Point)) → SameKinds ps ps
kinds_self ps i q e = (q, e, refl)

kinds_on : (ps qs rs : List (Process Point)) → SameKinds ps qs → SameKinds qs rs → SameKinds ps rs
kinds_on ps qs rs f g i q e = let a = f i q e in let b = g i a.0 a.1 in (b.0, b.1, b.2 ∙ a.2)

kinds_push : (ps qs : List (Process Point)) → SameKinds ps (ps ++ qs)
kinds_push ps qs zero q e = absurd cc
kinds_push ps qs (suc i) q e = (q, get_more ps qs i q e, refl)

get_change : (f : Process Point → Process Point) → ((q : Process Point) → (f q).kind ≡ q.kind) → (ps : List (Process Point)) (n i : ℕ) (q : Process Point) → slice_get ps i ≡ Some q → (r : Process Point) × (slice_get (change f ps n) i ≡ Some r) × (r.kind ≡ q.kind)
get_change f k [] n i q e = absurd cc
get_change f k (p ∷ ps) zero zero q e = let z : p ≡ q = cc in (f p, refl, k p ∙ ap (λ (r : Process Point). r.kind) z)
get_change f k (p ∷ ps) zero (suc i) q e = (q, e, refl)
get_change f k (p ∷ ps) (suc n) zero q e = (q, e, refl)
get_change f k (p ∷ ps) (suc n) (suc i) q e = get_change f k ps n i q e

kinds_change : (f : Process Point → Process Point) → ((q : Process Point) → (f q).kind ≡ q.kind) → (ps : List (Process Point)) (n : ℕ) → SameKinds ps (change_numbered f ps n)
kinds_change f k ps zero i q e = (q, e, refl)
kinds_change f k ps (suc n) zero q e = absurd cc
kinds_change f k ps (suc n) (suc i) q e = get_change f k ps n i q e

module _ (code : Code) (so : Sound code) where
  abbrev W : Type 0
  W = World Point Entry

  kind_more : (m k : Made) (g : Grows m k) (q : Kind) → IsKindMade m q → IsKindMade k q
  kind_more m k g world_main h = tt
  kind_more m k g (world_child f) h = tt
  kind_more m k g (serving s) h = number_more m k g s m.servers k.servers g.servers h

  future_more : (m k : Made) (g : Grows m k) (s : Future) → IsFutureMade m s → IsFutureMade k s
  future_more m k g pending h = tt
  future_more m k g (valued w) h = made_more m k g w h
  future_more m k g dead h = tt

  global_more : (m k : Made) (g : Grows m k) (o : Option Word) → IsGlobalMade m o → IsGlobalMade k o
  global_more m k g None h = tt
  global_more m k g (Some w) h = made_more m k g w h

  more_boxes : (m k : Made) (g : Grows m k) (xs : List Word) → Each (IsMade m) xs → Each (IsMade k) xs
  more_boxes m k g xs h = each_more (IsMade m) (IsMade k) xs (made_more m k g) h

  more_futures : (m k : Made) (g : Grows m k) (xs : List Future) → Each (IsFutureMade m) xs → Each (IsFutureMade k) xs
  more_futures m k g xs h = each_more (IsFutureMade m) (IsFutureMade k) xs (future_more m k g) h

  more_globals : (m k : Made) (g : Grows m k) (xs : List (Option Word)) → Each (IsGlobalMade m) xs → Each (IsGlobalMade k) xs
  more_globals m k g xs h = each_more (IsGlobalMade m) (IsGlobalMade k) xs (global_more m k g) h

  more_servers : (m k : Made) (g : Grows m k) (xs : List (ProcessClosure Entry)) → Each (IsServer code so m) xs → Each (IsServer code so k) xs
  more_servers m k g xs h = each_more (IsServer code so m) (IsServer code so k) xs
      (λ c h. (entry_more m k g (Has so.table) c.body h.0, each_more (IsCallMade m c.body) (IsCallMade k c.body) c.queue (λ d i. (are_made_more m k g d.arguments i.0, i.1)) h.1)) h

  -- all of it where more is made
  more : (m k : Made) (g : Grows m k) (ps : List (Word × Word)) (bs : List Word) (cs : List Entry) (fs : List Future) (ss : List (ProcessClosure Entry)) (gs : List (Option Word)) (qs : List (Process Point))
      → IsSoundIn code so m ps bs cs fs ss gs qs → IsSoundIn code so k ps bs cs fs ss gs qs
  more m k g ps bs cs fs ss gs qs s = record {
    names = (let a = s.names in record { quoted = omega (arith, a, g); globals = omega (arith, a, g) });
    pairs_are = each_more (IsPairMade m) (IsPairMade k) ps (λ p h. (made_more m k g p.0 h.0, made_more m k g p.1 h.1)) s.pairs_are;
    boxes_are = more_boxes m k g bs s.boxes_are;
    closures_are = each_more (IsEntry (Has so.table) m) (IsEntry (Has so.table) k) cs (entry_more m k g (Has so.table)) s.closures_are;
    futures_are = more_futures m k g fs s.futures_are;
    servers_are = more_servers m k g ss s.servers_are;
    globals_are = more_globals m k g gs s.globals_are;
    procs_are = each_more (IsProcess code so m) (IsProcess code so k) qs
        (λ q h. (aim_more m k g q.aim h.0, kind_more m k g q.kind h.1, ⊎_elim (λ (e : q.ended ≡ true). inl e) (λ (a : IsStanding (Has so.table) m code.instructions q.kind q.thread). inr (standing_more m k g (Has so.table) code.instructions q.kind q.thread a)) h.2)) s.procs_are;
  }

  -- a world that is sound too, with more made and the same processes
  abbrev pub Onward : W → W → Type 0
  Onward w v = IsSoundWorld code so v × Grows (made_of w) (made_of v) × SameKinds w.procs v.procs

  pub stay : (w : W) → IsSoundWorld code so w → Onward w w
  stay w s = (s, grows_self (made_of w), kinds_self w.procs)

  pub then_on : (w u v : W) → Onward w u → (IsSoundWorld code so u → Onward u v) → Onward w v
  then_on w u v a f = let b = f a.0 in (b.0, grows_on (made_of w) (made_of u) (made_of v) a.1 b.1, kinds_on w.procs u.procs v.procs a.2 b.2)

  grown : (w v : W) → Grows (made_of w) (made_of v) → IsSoundWorld code so w → IsSoundIn code so (made_of v) w.pairs w.boxes w.closures w.futures w.servers w.globals w.procs
  grown w v g s = more (made_of w) (made_of v) g w.pairs w.boxes w.closures w.futures w.servers w.globals w.procs s

  pub grows_pairs : (w : W) (xs : List (Word × Word)) → Grows (made_of w) (made_of (record w { pairs = w.pairs ++ xs }))
  grows_pairs w xs =
      let l : length (w.pairs ++ xs) ≡ length w.pairs + length xs = length-append w.pairs xs in
      record { pairs = omega (arith, l); boxes = omega arith; closures = omega arith; futures = omega arith; servers = omega arith; catches = omega arith; globals = omega arith }

  pub push_pairs : (w : W) (xs : List (Word × Word)) → Each (IsPairMade (made_of (record w { pairs = w.pairs ++ xs }))) xs → IsSoundWorld code so w → Onward w (record w { pairs = w.pairs ++ xs })
  push_pairs w xs f s =
      let l : length (w.pairs ++ xs) ≡ length w.pairs + length xs = length-append w.pairs xs in
      let g : Grows (made_of w) (made_of (record w { pairs = w.pairs ++ xs })) = record { pairs = omega (arith, l); boxes = omega arith; closures = omega arith; futures = omega arith; servers = omega arith; catches = omega arith; globals = omega arith } in
      let t = grown w (record w { pairs = w.pairs ++ xs }) g s in
      (record { names = t.names; pairs_are = each_append (IsPairMade (made_of (record w { pairs = w.pairs ++ xs }))) w.pairs xs t.pairs_are f; boxes_are = t.boxes_are; closures_are = t.closures_are; futures_are = t.futures_are; servers_are = t.servers_are; globals_are = t.globals_are; procs_are = t.procs_are }, g, kinds_self w.procs)

  pub grows_boxes : (w : W) (xs : List Word) → Grows (made_of w) (made_of (record w { boxes = w.boxes ++ xs }))
  grows_boxes w xs =
      let l : length (w.boxes ++ xs) ≡ length w.boxes + length xs = length-append w.boxes xs in
      record { pairs = omega arith; boxes = omega (arith, l); closures = omega arith; futures = omega arith; servers = omega arith; catches = omega arith; globals = omega arith }

  pub push_boxes : (w : W) (xs : List Word) → Each (IsMade (made_of (record w { boxes = w.boxes ++ xs }))) xs → IsSoundWorld code so w → Onward w (record w { boxes = w.boxes ++ xs })
  push_boxes w xs f s =
      let l : length (w.boxes ++ xs) ≡ length w.boxes + length xs = length-append w.boxes xs in
      let g : Grows (made_of w) (made_of (record w { boxes = w.boxes ++ xs })) = record { pairs = omega arith; boxes = omega (arith, l); closures = omega arith; futures = omega arith; servers = omega arith; catches = omega arith; globals = omega arith } in
      let t = grown w (record w { boxes = w.boxes ++ xs }) g s in
      (record { names = t.names; pairs_are = t.pairs_are; boxes_are = each_append (IsMade (made_of (record w { boxes = w.boxes ++ xs }))) w.boxes xs t.boxes_are f; closures_are = t.closures_are; futures_are = t.futures_are; servers_are = t.servers_are; globals_are = t.globals_are; procs_are = t.procs_are }, g, kinds_self w.procs)

  pub grows_closures : (w : W) (xs : List Entry) → Grows (made_of w) (made_of (record w { closures = w.closures ++ xs }))
  grows_closures w xs =
      let l : length (w.closures ++ xs) ≡ length w.closures + length xs = length-append w.closures xs in
      record { pairs = omega arith; boxes = omega arith; closures = omega (arith, l); futures = omega arith; servers = omega arith; catches = omega arith; globals = omega arith }

  pub push_closures : (w : W) (xs : List Entry) → Each (IsEntry (Has so.table) (made_of (record w { closures = w.closures ++ xs }))) xs → IsSoundWorld code so w → Onward w (record w { closures = w.closures ++ xs })
  push_closures w xs f s =
      let l : length (w.closures ++ xs) ≡ length w.closures + length xs = length-append w.closures xs in
      let g : Grows (made_of w) (made_of (record w { closures = w.closures ++ xs })) = record { pairs = omega arith; boxes = omega arith; closures = omega (arith, l); futures = omega arith; servers = omega arith; catches = omega arith; globals = omega arith } in
      let t = grown w (record w { closures = w.closures ++ xs }) g s in
      (record { names = t.names; pairs_are = t.pairs_are; boxes_are = t.boxes_are; closures_are = each_append (IsEntry (Has so.table) (made_of (record w { closures = w.closures ++ xs }))) w.closures xs t.closures_are f; futures_are = t.futures_are; servers_are = t.servers_are; globals_are = t.globals_are; procs_are = t.procs_are }, g, kinds_self w.procs)

  pub grows_futures : (w : W) (xs : List Future) → Grows (made_of w) (made_of (record w { futures = w.futures ++ xs }))
  grows_futures w xs =
      let l : length (w.futures ++ xs) ≡ length w.futures + length xs = length-append w.futures xs in
      record { pairs = omega arith; boxes = omega arith; closures = omega arith; futures = omega (arith, l); servers = omega arith; catches = omega arith; globals = omega arith }

  pub push_futures : (w : W) (xs : List Future) → Each (IsFutureMade (made_of (record w { futures = w.futures ++ xs }))) xs → IsSoundWorld code so w → Onward w (record w { futures = w.futures ++ xs })
  push_futures w xs f s =
      let l : length (w.futures ++ xs) ≡ length w.futures + length xs = length-append w.futures xs in
      let g : Grows (made_of w) (made_of (record w { futures = w.futures ++ xs })) = record { pairs = omega arith; boxes = omega arith; closures = omega arith; futures = omega (arith, l); servers = omega arith; catches = omega arith; globals = omega arith } in
      let t = grown w (record w { futures = w.futures ++ xs }) g s in
      (record { names = t.names; pairs_are = t.pairs_are; boxes_are = t.boxes_are; closures_are = t.closures_are; futures_are = each_append (IsFutureMade (made_of (record w { futures = w.futures ++ xs }))) w.futures xs t.futures_are f; servers_are = t.servers_are; globals_are = t.globals_are; procs_are = t.procs_are }, g, kinds_self w.procs)

  pub grows_servers : (w : W) (xs : List (ProcessClosure Entry)) → Grows (made_of w) (made_of (record w { servers = w.servers ++ xs }))
  grows_servers w xs =
      let l : length (w.servers ++ xs) ≡ length w.servers + length xs = length-append w.servers xs in
      record { pairs = omega arith; boxes = omega arith; closures = omega arith; futures = omega arith; servers = omega (arith, l); catches = omega arith; globals = omega arith }

  pub push_servers : (w : W) (xs : List (ProcessClosure Entry)) → Each (IsServer code so (made_of (record w { servers = w.servers ++ xs }))) xs → IsSoundWorld code so w → Onward w (record w { servers = w.servers ++ xs })
  push_servers w xs f s =
      let l : length (w.servers ++ xs) ≡ length w.servers + length xs = length-append w.servers xs in
      let g : Grows (made_of w) (made_of (record w { servers = w.servers ++ xs })) = record { pairs = omega arith; boxes = omega arith; closures = omega arith; futures = omega arith; servers = omega (arith, l); catches = omega arith; globals = omega arith } in
      let t = grown w (record w { servers = w.servers ++ xs }) g s in
      (record { names = t.names; pairs_are = t.pairs_are; boxes_are = t.boxes_are; closures_are = t.closures_are; futures_are = t.futures_are; servers_are = each_append (IsServer code so (made_of (record w { servers = w.servers ++ xs }))) w.servers xs t.servers_are f; globals_are = t.globals_are; procs_are = t.procs_are }, g, kinds_self w.procs)

  pub change_boxes : (w : W) (f : Word → Word) (n : ℕ) → ((x : Word) → slice_get w.boxes n ≡ Some x → IsMade (made_of w) x → IsMade (made_of w) (f x)) → IsSoundWorld code so w → Onward w (record w { boxes = change f w.boxes n })
  change_boxes w f n h s =
      let l : length (change f w.boxes n) ≡ length w.boxes = change_long f w.boxes n in
      let g : Grows (made_of w) (made_of (record w { boxes = change f w.boxes n })) = record { pairs = omega arith; boxes = omega (arith, l); closures = omega arith; futures = omega arith; servers = omega arith; catches = omega arith; globals = omega arith } in
      let b : Grows (made_of (record w { boxes = change f w.boxes n })) (made_of w) = record { pairs = omega arith; boxes = omega (arith, l); closures = omega arith; futures = omega arith; servers = omega arith; catches = omega arith; globals = omega arith } in
      let u = each_change (IsMade (made_of w)) f w.boxes n h s.boxes_are in
      let t = more (made_of w) (made_of (record w { boxes = change f w.boxes n })) g w.pairs w.boxes w.closures w.futures w.servers w.globals w.procs s in
      (record { names = t.names; pairs_are = t.pairs_are; boxes_are = more_boxes (made_of w) (made_of (record w { boxes = change f w.boxes n })) g (change f w.boxes n) u; closures_are = t.closures_are; futures_are = t.futures_are; servers_are = t.servers_are; globals_are = t.globals_are; procs_are = t.procs_are }, g, kinds_self w.procs)

  pub change_globals : (w : W) (f : (Option Word) → (Option Word)) (n : ℕ) → ((x : (Option Word)) → slice_get w.globals n ≡ Some x → IsGlobalMade (made_of w) x → IsGlobalMade (made_of w) (f x)) → IsSoundWorld code so w → Onward w (record w { globals = change f w.globals n })
  change_globals w f n h s =
      let l : length (change f w.globals n) ≡ length w.globals = change_long f w.globals n in
      let g : Grows (made_of w) (made_of (record w { globals = change f w.globals n })) = record { pairs = omega arith; boxes = omega arith; closures = omega arith; futures = omega arith; servers = omega arith; catches = omega arith; globals = omega (arith, l) } in
      let b : Grows (made_of (record w { globals = change f w.globals n })) (made_of w) = record { pairs = omega arith; boxes = omega arith; closures = omega arith; futures = omega arith; servers = omega arith; catches = omega arith; globals = omega (arith, l) } in
      let u = each_change (IsGlobalMade (made_of w)) f w.globals n h s.globals_are in
      let t = more (made_of w) (made_of (record w { globals = change f w.globals n })) g w.pairs w.boxes w.closures w.futures w.servers w.globals w.procs s in
      (record { names = t.names; pairs_are = t.pairs_are; boxes_are = t.boxes_are; closures_are = t.closures_are; futures_are = t.futures_are; servers_are = t.servers_are; globals_are = more_globals (made_of w) (made_of (record w { globals = change f w.globals n })) g (change f w.globals n) u; procs_are = t.procs_are }, g, kinds_self w.procs)

  pub change_futures : (w : W) (f : Future → Future) (n : ℕ) → ((x : Future) → numbered w.futures n ≡ Some x → IsFutureMade (made_of w) x → IsFutureMade (made_of w) (f x)) → IsSoundWorld code so w → Onward w (record w { futures = change_numbered f w.futures n })
  change_futures w f n h s =
      let l : length (change_numbered f w.futures n) ≡ length w.futures = change_numbered_long f w.futures n in
      let g : Grows (made_of w) (made_of (record w { futures = change_numbered f w.futures n })) = record { pairs = omega arith; boxes = omega arith; closures = omega arith; futures = omega (arith, l); servers = omega arith; catches = omega arith; globals = omega arith } in
      let b : Grows (made_of (record w { futures = change_numbered f w.futures n })) (made_of w) = record { pairs = omega arith; boxes = omega arith; closures = omega arith; futures = omega (arith, l); servers = omega arith; catches = omega arith; globals = omega arith } in
      let u = each_change_numbered (IsFutureMade (made_of w)) f w.futures n h s.futures_are in
      let t = more (made_of w) (made_of (record w { futures = change_numbered f w.futures n })) g w.pairs w.boxes w.closures w.futures w.servers w.globals w.procs s in
      (record { names = t.names; pairs_are = t.pairs_are; boxes_are = t.boxes_are; closures_are = t.closures_are; futures_are = more_futures (made_of w) (made_of (record w { futures = change_numbered f w.futures n })) g (change_numbered f w.futures n) u; servers_are = t.servers_are; globals_are = t.globals_are; procs_are = t.procs_are }, g, kinds_self w.procs)

  pub change_servers : (w : W) (f : (ProcessClosure Entry) → (ProcessClosure Entry)) (n : ℕ) → ((x : (ProcessClosure Entry)) → numbered w.servers n ≡ Some x → IsServer code so (made_of w) x → IsServer code so (made_of w) (f x)) → IsSoundWorld code so w → Onward w (record w { servers = change_numbered f w.servers n })
  change_servers w f n h s =
      let l : length (change_numbered f w.servers n) ≡ length w.servers = change_numbered_long f w.servers n in
      let g : Grows (made_of w) (made_of (record w { servers = change_numbered f w.servers n })) = record { pairs = omega arith; boxes = omega arith; closures = omega arith; futures = omega arith; servers = omega (arith, l); catches = omega arith; globals = omega arith } in
      let b : Grows (made_of (record w { servers = change_numbered f w.servers n })) (made_of w) = record { pairs = omega arith; boxes = omega arith; closures = omega arith; futures = omega arith; servers = omega (arith, l); catches = omega arith; globals = omega arith } in
      let u = each_change_numbered (IsServer code so (made_of w)) f w.servers n h s.servers_are in
      let t = more (made_of w) (made_of (record w { servers = change_numbered f w.servers n })) g w.pairs w.boxes w.closures w.futures w.servers w.globals w.procs s in
      (record { names = t.names; pairs_are = t.pairs_are; boxes_are = t.boxes_are; closures_are = t.closures_are; futures_are = t.futures_are; servers_are = more_servers (made_of w) (made_of (record w { servers = change_numbered f w.servers n })) g (change_numbered f w.servers n) u; globals_are = t.globals_are; procs_are = t.procs_are }, g, kinds_self w.procs)

  pub set_catches : (w : W) (ks : List Catch) → length w.catches ≤ length ks → IsSoundWorld code so w → Onward w (record w { catches = ks })
  set_catches w ks l s = let g : Grows (made_of w) (made_of (record w { catches = ks })) = record { pairs = omega arith; boxes = omega arith; closures = omega arith; futures = omega arith; servers = omega arith; catches = omega (arith, l); globals = omega arith } in (grown w (record w { catches = ks }) g s, g, kinds_self w.procs)

  pub close_catch : (w : W) (c : ℕ) → IsSoundWorld code so w → Onward w (record w { catches = closed w.catches c })
  close_catch w c s = set_catches w (closed w.catches c) (let e = closed_long w.catches c in omega (arith, e)) s

  pub push_processes : (w : W) (qs : List (Process Point)) → Each (IsProcess code so (made_of w)) qs → IsSoundWorld code so w → Onward w (record w { procs = w.procs ++ qs })
  push_processes w qs h s = (record { names = s.names; pairs_are = s.pairs_are; boxes_are = s.boxes_are; closures_are = s.closures_are; futures_are = s.futures_are; servers_are = s.servers_are; globals_are = s.globals_are; procs_are = each_append (IsProcess code so (made_of w)) w.procs qs s.procs_are h }, grows_self (made_of w), kinds_push w.procs qs)

  pub change_processes : (w : W) (f : Process Point → Process Point) (n : ℕ) → ((q : Process Point) → (f q).kind ≡ q.kind) → ((q : Process Point) → numbered w.procs n ≡ Some q → IsProcess code so (made_of w) q → IsProcess code so (made_of w) (f q)) → IsSoundWorld code so w
      → Onward w (record w { procs = change_numbered f w.procs n })
  change_processes w f n k h s = (record { names = s.names; pairs_are = s.pairs_are; boxes_are = s.boxes_are; closures_are = s.closures_are; futures_are = s.futures_are; servers_are = s.servers_are; globals_are = s.globals_are; procs_are = each_change_numbered (IsProcess code so (made_of w)) f w.procs n h s.procs_are }, grows_self (made_of w), kinds_change f k w.procs n)

  pub set_futures : (w : W) (fs : List Future) → length fs ≡ length w.futures → Each (IsFutureMade (made_of w)) fs → IsSoundWorld code so w → Onward w (record w { futures = fs })
  set_futures w fs l h s =
      let g : Grows (made_of w) (made_of (record w { futures = fs })) = record { pairs = omega arith; boxes = omega arith; closures = omega arith; futures = omega (arith, l); servers = omega arith; catches = omega arith; globals = omega arith } in
      let t = grown w (record w { futures = fs }) g s in
      (record { names = t.names; pairs_are = t.pairs_are; boxes_are = t.boxes_are; closures_are = t.closures_are; futures_are = more_futures (made_of w) (made_of (record w { futures = fs })) g fs h; servers_are = t.servers_are; globals_are = t.globals_are; procs_are = t.procs_are }, g, kinds_self w.procs)

  killed_made : (m : Made) (s : Future) → IsFutureMade m s → IsFutureMade m (killed s)
  killed_made m pending h = tt
  killed_made m (valued w) h = h
  killed_made m dead h = tt

  all_killed_long : (fs : List ℕ) (ss : List Future) → length (all_killed fs ss) ≡ length ss
  all_killed_long [] ss = refl
  all_killed_long (f ∷ fs) ss = all_killed_long fs (change_numbered killed ss f) ∙ change_numbered_long killed ss f

  all_killed_made : (m : Made) (fs : List ℕ) (ss : List Future) → Each (IsFutureMade m) ss → Each (IsFutureMade m) (all_killed fs ss)
  all_killed_made m [] ss h = h
  all_killed_made m (f ∷ fs) ss h = all_killed_made m fs (change_numbered killed ss f) (each_change_numbered (IsFutureMade m) killed ss f (λ s e i. killed_made m s i) h)

  abbrev M : Machine Point Entry
  M = code_machine code.instructions

  stands_if : (m : Made) (kind : Kind) (names : Holds code m) (b : Bool) (t : Point) → IsStanding (Has so.table) m code.instructions kind t → IsStanding (Has so.table) m code.instructions kind (if b then t else M.unwound t)
  stands_if m kind names true t h = h
  stands_if m kind names false t h = unwound_stands code so m kind names t h

  -- a process gets an aim, and unwinds unless it runs a cleanup
  pub aimed_process : (m : Made) (names : Holds code m) (a : Aim) (q : Process Point) → IsAimMade m a → IsProcess code so m q → IsProcess code so m (record q { aim = a; thread = unwinds_at M q.thread })
  aimed_process m names a q i h =
      (i, h.1, ⊎_elim (λ (e : q.ended ≡ true). inl e) (λ (t : IsStanding (Has so.table) m code.instructions q.kind q.thread). inr (stands_if m q.kind names (in_cleanup (M.cleanups q.thread)) q.thread t)) h.2)

  abandon_server : (w : W) (k : ℕ) (o : Option (ProcessClosure Entry)) → IsSoundWorld code so w → Onward w (abandoned_server M w k o)
  abandon_server w k None s = stay w s
  abandon_server w k (Some c) s =
      then_on w (record w { futures = all_killed (unanswered c) w.futures }) (abandoned_server M w k (Some c))
      (set_futures w (all_killed (unanswered c) w.futures) (all_killed_long (unanswered c) w.futures) (all_killed_made (made_of w) (unanswered c) w.futures s.futures_are) s)
      (λ t. change_servers (record w { futures = all_killed (unanswered c) w.futures }) (λ c. record c { dead = true }) k (λ c e h. h) t)

  abandon : (w : W) (kind : Kind) → IsSoundWorld code so w → Onward w (abandoned M w kind)
  abandon w world_main s = stay w s
  abandon w (world_child f) s = change_futures w killed f (λ x e h. killed_made (made_of w) x h) s
  abandon w (serving k) s = abandon_server w k (numbered w.servers k) s

  kill_process : (w : W) (c n : ℕ) (q : Process Point) → IsSoundWorld code so w → Onward w (killed_process M w c n q)
  kill_process w c n q s =
      let u : W = with_event (record w { procs = change_numbered (λ q. record q { aim = die; thread = unwinds_at M q.thread }) w.procs n }) (kill c n) in
      then_on w u (killed_process M w c n q)
      (change_processes w (λ q. record q { aim = die; thread = unwinds_at M q.thread }) n (λ q. refl) (λ q e h. aimed_process (made_of w) s.names die q tt h) s)
      (λ t. abandon u q.kind t)

  kill_if : (w : W) (c n : ℕ) (q : Process Point) (b : Bool) → IsSoundWorld code so w → Onward w (if b then killed_process M w c n q else w)
  kill_if w c n q true s = kill_process w c n q s
  kill_if w c n q false s = stay w s

  kill_within : (w : W) (c owner n : ℕ) (o : Option (Process Point)) → IsSoundWorld code so w → Onward w (killed_if_within M w c owner n o)
  kill_within w c owner n None s = stay w s
  kill_within w c owner n (Some q) s = kill_if w c n q (is_live q && (is_within w.catches q c && not (n == owner))) s

  kill_among : (w : W) (c owner n : ℕ) → IsSoundWorld code so w → Onward w (killed_among M w c owner n)
  kill_among w c owner zero s = stay w s
  kill_among w c owner (suc n) s =
      let u = killed_among M w c owner n in
      then_on w u (killed_among M w c owner (suc n)) (kill_among w c owner n s) (λ t. kill_within u c owner (suc n) (numbered u.procs (suc n)) t)

  -- a kill
  pub kill_all : (w : W) (c owner : ℕ) → IsSoundWorld code so w → Onward w (killed_within M w c owner)
  kill_all w c owner s = kill_among w c owner (length w.procs) s
