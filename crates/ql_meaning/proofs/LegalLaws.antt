-- From what each line owes to the past, to the laws over the whole journal.
use Rattle.std.proofs.Common.{◌≡◌, ℕ, zero, suc, ◌+◌, ◌<◌, ◌≤◌, ◌==◌, Bool, true, false, List, [], ◌∷◌, ◌++◌, length, drop, Option, Some, None, refl, sym, ap, ◌∙◌, subst, ⊎_elim, inl, inr, arith, eq-eqb, eqb-true, ne_eqb}
use Rattle.std.proofs.lemmas.List.{reverse-reverse, append-nil}
use Rattle.std.specs.Prelude.{if◌then◌else◌, map, reverse, slice_get}
use Rattle.ql_world.specs.declared.event.Mode.{Mode}
use Rattle.ql_world.specs.declared.event.Event.{Event}
use Rattle.ql_world.specs.declared.event.Event.TheVariants.{Turn as turn, Spawn as spawn, Opened as opened, Exit as exit, Throw as throw, Land as land, Kill as kill, Protect as protect, Begin as begin, Finish as finish, Send as send, Take as take, Reply as reply, EndOk as end_ok, EndKilled as end_killed, Stopped as stopped}
use Rattle.ql_world.specs.declared.event.Stop.TheVariants.{Done as done}
use Rattle.ql_world.specs.World.{numbered}
use Rattle.ql_world.specs.Run.{those_from}
use Rattle.ql_meaning.specs.Legal.{IsAmong, HasHome, Owns, IsOver, itself, over_enclosing, HasKill, HasEnd, Not, IsDoomed, IsNumber, AllAbove, Rises, starts_with_kill, KillsFollow, KillsAfter, KillsLaw, IsCleaning, AfterKill, UnwindingLaw, CleanupLine, CleanupsLaw, CallLine, CallsLaw, Legal}
use Rattle.ql_meaning.specs.Sane.{without_turns, protector, is_begun, is_finished}
use Rattle.ql_meaning.proofs.Lists.{not_both, nothing_there, cases, both_true, not_true, some_same}
use Rattle.ql_meaning.proofs.LegalLines.{Person, persons_in, opens_in, over_in, owner_in, is_due, due_from, all_due, due, Calm, Alive, Cleans, May, Fine, Each}
use Rattle.ql_meaning.proofs.LegalAmong.{split_back, reverse_onto_past, is_turn, news_before, before_news, news_are_before, news_append, among_news, among_all, among_reverse, among_back, sends_before, takes_before, replies_before, each_from, EachNews, each_news}
use Rattle.ql_meaning.proofs.LegalPast.{HasPerson, IsEnded, HomeIs, killed_is_dead, dead_was_killed, ended_well_is_ended, ended_killed_is_ended, ended_has_end, at_home, has_home, home_low, over_low, over_newer, over_later, over_told, over_tells, owner_told, owner_tells, protect_told, protector_tells, begin_told, begun_tells, finish_told, finished_tells, sent_tells, taken_tells, answered_tells}

-- a person is one
one : (x y : Person) (q : ℕ) (es : List Event) → numbered (persons_in es) q ≡ Some x → numbered (persons_in es) q ≡ Some y → x ≡ y
one x y q es e f = some_same (sym e ∙ f)

alive_unkilled : (before : List Event) (p : ℕ) → EachNews (news_before before) → Alive p (news_before before) → Not (HasKill before p)
alive_unkilled before p k a h =
    let d = killed_is_dead (news_before before) h.0 p k (before_news (kill h.0 p) before refl h.1) in
    let same : d.0 ≡ a.0 = one d.0 a.0 p (news_before before) d.1 a.1 in
    let bad : true ≡ false = sym d.2 ∙ ap (λ (z : Person). z.dead) same ∙ a.2 in absurd cc

cleans_cleaning : (before : List Event) (p : ℕ) → EachNews (news_before before) → Cleans p (news_before before) → IsCleaning before p
cleans_cleaning before p k c =
    let b = begun_tells (news_before before) c.0 c.2 in
    let mine : b.0 ≡ p = some_same (sym (begin_told (news_before before) b.0 c.0 k b.1).1 ∙ c.1) in (
      c.0,
      news_are_before _ before (subst (λ z. IsAmong (begin z c.0) (news_before before)) mine b.1),
      λ f.
          let bad : true ≡ false = sym (finish_told (news_before before) p c.0 k (before_news (finish p c.0) before refl f)).0 ∙ c.3 in absurd cc,
    )

may_after : (before : List Event) (p : ℕ) → EachNews (news_before before) → May p (news_before before) → HasKill before p → IsCleaning before p
may_after before p k m h = ⊎_elim (λ a. absurd (alive_unkilled before p k a h)) (λ c. cleans_cleaning before p k c) m

-- (u)

unwinding_line : (before : List Event) (line : Event) → EachNews (news_before before) → Fine line (news_before before) → AfterKill before line
unwinding_line before (spawn p q h mode) k f = alive_unkilled before p k f.1
unwinding_line before (send p j n) k f = alive_unkilled before p k f.1
unwinding_line before (take q j n) k f = alive_unkilled before q k f.1
unwinding_line before (reply q j n text) k f = alive_unkilled before q k f.1
unwinding_line before (end_ok p text) k f = alive_unkilled before p k f.1
unwinding_line before (kill c q) k f = alive_unkilled before q k (f.person, f.is, f.not_dead)
unwinding_line before (opened p c d) k f = may_after before p k f.1
unwinding_line before (exit p c) k f = may_after before p k f.1
unwinding_line before (throw p c) k f = may_after before p k f.1
unwinding_line before (land p c) k f = may_after before p k f.1
unwinding_line before (protect p v) k f = may_after before p k f.1
unwinding_line before (turn p n) k f = tt
unwinding_line before (begin p v) k f = tt
unwinding_line before (finish p v) k f = tt
unwinding_line before (end_killed p) k f = tt
unwinding_line before (stopped why) k f = tt

-- (l)

finished_by : (before : List Event) (p v : ℕ) → EachNews (news_before before) → is_finished v (news_before before) ≡ true → protector v (news_before before) ≡ Some p → IsAmong (finish p v) before
finished_by before p v k e m =
    let f = finished_tells (news_before before) v e in
    let mine : f.0 ≡ p = some_same (sym (finish_told (news_before before) f.0 v k f.1).1 ∙ m) in
    news_are_before _ before (subst (λ z. IsAmong (finish z v) (news_before before)) mine f.1)

begun_by : (before : List Event) (p v : ℕ) → EachNews (news_before before) → is_begun v (news_before before) ≡ true → protector v (news_before before) ≡ Some p → IsAmong (begin p v) before
begun_by before p v k e m =
    let f = begun_tells (news_before before) v e in
    let mine : f.0 ≡ p = some_same (sym (begin_told (news_before before) f.0 v k f.1).1 ∙ m) in
    news_are_before _ before (subst (λ z. IsAmong (begin z v) (news_before before)) mine f.1)

cleanup_line : (before : List Event) (line : Event) → EachNews (news_before before) → Fine line (news_before before) → CleanupLine before line
cleanup_line before (protect p v) k f = λ q a. let bad : Some q ≡ None = sym (protect_told (news_before before) q v k (before_news (protect q v) before refl a)).0 ∙ f.2 in absurd cc
cleanup_line before (begin p v) k f = record {
  once = λ q a. let bad : true ≡ false = sym (begin_told (news_before before) q v k (before_news (begin q v) before refl a)).0 ∙ f.1.once in absurd cc;
  protected = news_are_before _ before (protector_tells (news_before before) p v f.1.mine);
  in_order = λ n l a.
      let mine = (protect_told (news_before before) p n k (before_news (protect p n) before refl a)).0 in
      finished_by before p n k (f.1.newest n l mine) mine;
}
cleanup_line before (finish p v) k f = record {
  once = λ q a. let bad : true ≡ false = sym (finish_told (news_before before) q v k (before_news (finish q v) before refl a)).0 ∙ f.1.once in absurd cc;
  begun = begun_by before p v k f.1.begun f.1.mine;
}
cleanup_line before line k f = tt

-- (c)

call_line : (before : List Event) (line : Event) → EachNews (news_before before) → Fine line (news_before before) → CallLine before line
call_line before (send p j n) k f = f.2 ∙ ap suc (sym (sends_before j before))
call_line before (take q j n) k f =
    let next = f.2.next in let sent = f.2.sent in let answered = f.2.answered in
    let s = sent_tells (news_before before) j n k (omega (arith, next)) sent in
    record {
      in_order = next ∙ ap suc (sym (takes_before j before));
      sent = (s.0, news_are_before _ before s.1);
      one_at_a_time = λ m e l.
          let a = answered_tells (news_before before) j m k l (omega (arith, e, next, answered)) in
          (a.0, a.1, news_are_before _ before a.2);
    }
call_line before (reply q j n text) k f =
    let next = f.2.next in let taken = f.2.taken in
    let t = taken_tells (news_before before) j n k (omega (arith, next)) (omega (arith, taken)) in
    record {
      in_order = next ∙ ap suc (sym (replies_before j before));
      taken = (t.0, news_are_before _ before t.1);
    }
call_line before line k f = tt

-- who is due

those_above : (f : ℕ → Person → Bool) (n m : ℕ) (xs : List Person) → m < n → AllAbove m (those_from f n xs)
those_above f n m [] l = tt
those_above f n m (x ∷ xs) l =
    ⊎_elim
    (λ (t : f n x ≡ true). rw t (l, those_above f (suc n) m xs (omega (arith, l))))
    (λ (t : f n x ≡ false). rw t (those_above f (suc n) m xs (omega (arith, l))))
    (cases (f n x))

those_rise : (f : ℕ → Person → Bool) (n : ℕ) (xs : List Person) → Rises (those_from f n xs)
those_rise f n [] = tt
those_rise f n (x ∷ xs) =
    ⊎_elim
    (λ (t : f n x ≡ true). rw t (those_above f (suc n) n xs (omega arith), those_rise f (suc n) xs))
    (λ (t : f n x ≡ false). rw t (those_rise f (suc n) xs))
    (cases (f n x))

those_are : (f : ℕ → Person → Bool) (n q : ℕ) (xs : List Person) → IsNumber q (those_from f n xs) → (i : ℕ) × (x : Person) × (slice_get xs i ≡ Some x) × (q ≡ n + i) × (f q x ≡ true)
those_are f n q [] h = absurd h
those_are f n q (x ∷ xs) h =
    ⊎_elim
    (λ (t : f n x ≡ true).
    ⊎_elim
    (λ (v : q ≡ n). (0, x, refl, omega (arith, v), subst (λ z. f z x ≡ true) (sym v) t))
    (λ v. let r = those_are f (suc n) q xs v in let e = r.3 in (suc r.0, r.1, r.2, omega (arith, e), r.4))
    (rw t at h))
    (λ (t : f n x ≡ false). let r = those_are f (suc n) q xs (rw t at h) in let e = r.3 in (suc r.0, r.1, r.2, omega (arith, e), r.4))
    (cases (f n x))

are_those : (f : ℕ → Person → Bool) (n i : ℕ) (x : Person) (xs : List Person) → slice_get xs i ≡ Some x → f (n + i) x ≡ true → IsNumber (n + i) (those_from f n xs)
are_those f n i x [] e t = absurd cc
are_those f n zero x (y ∷ xs) e t =
    let same : y ≡ x = some_same e in
    let z : n + 0 ≡ n = omega arith in
    let t' : f n y ≡ true = subst (λ (w : Person). f n w ≡ true) (sym same) (subst (λ (w : ℕ). f w x ≡ true) z t) in
    rw t' (inl z)
are_those f n (suc i) x (y ∷ xs) e t =
    let z : n + suc i ≡ suc n + i = omega arith in
    let r : IsNumber (n + suc i) (those_from f (suc n) xs) = subst (λ w. IsNumber w (those_from f (suc n) xs)) (sym z) (are_those f (suc n) i x xs e (subst (λ (w : ℕ). f w x ≡ true) z t)) in
    ⊎_elim
    (λ (v : f n y ≡ true). rw v (inr r))
    (λ (v : f n y ≡ false). rw v r)
    (cases (f n y))

due_is : (os : List (ℕ × ℕ)) (c owner q : ℕ) (xs : List Person) → IsNumber q (due_from os c owner 1 xs) → (x : Person) × (numbered xs q ≡ Some x) × (is_due os c owner q x ≡ true)
due_is os c owner q xs h = let r = those_are (is_due os c owner) 1 q xs h in let e : q ≡ suc r.0 = (let f = r.3 in omega (arith, f)) in (r.1, ap (numbered xs) e ∙ r.2, r.4)

is_due_there : (os : List (ℕ × ℕ)) (c owner q : ℕ) (x : Person) (xs : List Person) → numbered xs q ≡ Some x → is_due os c owner q x ≡ true → IsNumber q (due_from os c owner 1 xs)
is_due_there os c owner zero x xs e t = absurd cc
is_due_there os c owner (suc i) x xs e t =
    let z : 1 + i ≡ suc i = omega arith in
    subst (λ w. IsNumber w (due_from os c owner 1 xs)) z (are_those (is_due os c owner) 1 i x xs e (subst (λ (w : ℕ). is_due os c owner w x ≡ true) (sym z) t))

-- later lines

-- a catch was left by an exit or a throw
abbrev pub is_left : ℕ → List Event → Bool
is_left c [] = false
is_left c (exit p d ∷ es) = if c == d then true else is_left c es
is_left c (throw p d ∷ es) = if c == d then true else is_left c es
is_left c (e ∷ es) = is_left c es

-- no process is spawned within a catch that was left
abbrev pub NoneLate : List Event → Type 0
NoneLate [] = Unit {0}
NoneLate (spawn p q h mode ∷ es) = ((c : ℕ) → is_left c es ≡ true → over_in (opens_in es) c h ≡ false) × NoneLate es
NoneLate (e ∷ es) = NoneLate es

left_later : (e : Event) (es : List Event) (c : ℕ) → is_left c es ≡ true → is_left c (e ∷ es) ≡ true
left_later (exit p d) es c h = ⊎_elim (λ (t : (c == d) ≡ true). rw t refl) (λ (t : (c == d) ≡ false). rw t h) (cases (c == d))
left_later (throw p d) es c h = ⊎_elim (λ (t : (c == d) ≡ true). rw t refl) (λ (t : (c == d) ≡ false). rw t h) (cases (c == d))
left_later l es c h = h

left_still : (new past : List Event) (c : ℕ) → is_left c past ≡ true → is_left c (new ++ past) ≡ true
left_still [] past c h = h
left_still (e ∷ new) past c h = left_later e (new ++ past) c (left_still new past c h)

opens_later : (e : Event) (es : List Event) → length (opens_in es) ≤ length (opens_in (e ∷ es))
opens_later (opened p c d) es = omega arith
opens_later l es = omega arith

over_later_same : (e : Event) (es : List Event) (c d : ℕ) → d < length (opens_in es) → over_in (opens_in (e ∷ es)) c d ≡ over_in (opens_in es) c d
over_later_same (opened p g f) es c d l = over_newer (p, f) (opens_in es) c d l
over_later_same e es c d l = refl

owner_later_same : (e : Event) (es : List Event) (c : ℕ) → c < length (opens_in es) → owner_in (opens_in (e ∷ es)) c ≡ owner_in (opens_in es) c
owner_later_same (opened p g f) es c l = let n : (c == length (opens_in es)) ≡ false = ne_eqb _ _ (λ z. omega (arith, l, z)) in rw n refl
owner_later_same e es c l = refl

opens_still : (new past : List Event) → length (opens_in past) ≤ length (opens_in (new ++ past))
opens_still [] past = omega arith
opens_still (e ∷ new) past = let a = opens_still new past in let b = opens_later e (new ++ past) in omega (arith, a, b)

over_still : (new past : List Event) (c d : ℕ) → d < length (opens_in past) → over_in (opens_in (new ++ past)) c d ≡ over_in (opens_in past) c d
over_still [] past c d l = refl
over_still (e ∷ new) past c d l = let a = opens_still new past in over_later_same e (new ++ past) c d (omega (arith, a, l)) ∙ over_still new past c d l

owner_still : (new past : List Event) (c : ℕ) → c < length (opens_in past) → owner_in (opens_in (new ++ past)) c ≡ owner_in (opens_in past) c
owner_still [] past c l = refl
owner_still (e ∷ new) past c l = let a = opens_still new past in owner_later_same e (new ++ past) c (omega (arith, a, l)) ∙ owner_still new past c l

each_of_rest : (new past : List Event) → EachNews (new ++ past) → EachNews past
each_of_rest [] past k = k
each_of_rest (e ∷ new) past k = each_of_rest new past k.1

home_later : (e : Event) (es : List Event) (q h : ℕ) → HasHome es q h → HasHome (e ∷ es) q h
home_later e es q h a = ⊎_elim (λ t. inl t) (λ t. inr (t.0, t.1, inr t.2)) a

home_still : (new past : List Event) (q h : ℕ) → HasHome past q h → HasHome (new ++ past) q h
home_still [] past q h a = a
home_still (e ∷ new) past q h a = home_later e (new ++ past) q h (home_still new past q h a)

over_tells_still : (new past : List Event) (c d : ℕ) → IsOver past c d → IsOver (new ++ past) c d
over_tells_still [] past c d o = o
over_tells_still (e ∷ new) past c d o = over_later e (new ++ past) c d (over_tells_still new past c d o)

-- who is within a catch that was left was there before
early : (new past : List Event) (c q h : ℕ) → EachNews (new ++ past) → NoneLate (new ++ past) → is_left c past ≡ true → HasHome (new ++ past) q h → over_in (opens_in (new ++ past)) c h ≡ true → HasHome past q h
early [] past c q h k n l a o = a
early (e ∷ new) past c q h k n l a o = here (λ k n a o. early new past c q h k n l a o) e k n a o
  where
    -- over among the older catches
    lower : (e : Event) → EachNews (new ++ past) → HasHome (new ++ past) q h → over_in (opens_in (e ∷ (new ++ past))) c h ≡ true → over_in (opens_in (new ++ past)) c h ≡ true
    lower e k a o =
        let x = at_home (new ++ past) q h k a in
        let low : h < length (opens_in (new ++ past)) = subst (λ z. z < length (opens_in (new ++ past))) x.2 (home_low (new ++ past) q x.0 k x.1) in
        sym (over_later_same e (new ++ past) c h low) ∙ o

    keep : (EachNews (new ++ past) → NoneLate (new ++ past) → HasHome (new ++ past) q h → over_in (opens_in (new ++ past)) c h ≡ true → HasHome past q h) → (e : Event) → EachNews (new ++ past) → NoneLate (new ++ past) → HasHome (new ++ past) q h → over_in (opens_in (e ∷ (new ++ past))) c h ≡ true → HasHome past q h
    keep again e k n a o = again k n a (lower e k a o)

    apart_from : (e : Event) → ((p : ℕ) (mode : Mode) → spawn p q h mode ≡ e → ⊥) → HasHome (e ∷ (new ++ past)) q h → HasHome (new ++ past) q h
    apart_from e d a = ⊎_elim (λ t. inl t) (λ (t : (p : ℕ) × (mode : Mode) × IsAmong (spawn p q h mode) (e ∷ (new ++ past))). ⊎_elim (λ s. absurd (d t.0 t.1 s)) (λ s. inr (t.0, t.1, s)) t.2) a

    here : (EachNews (new ++ past) → NoneLate (new ++ past) → HasHome (new ++ past) q h → over_in (opens_in (new ++ past)) c h ≡ true → HasHome past q h) → (e : Event) → EachNews (e ∷ (new ++ past)) → NoneLate (e ∷ (new ++ past)) → HasHome (e ∷ (new ++ past)) q h → over_in (opens_in (e ∷ (new ++ past))) c h ≡ true → HasHome past q h
    here again (spawn p r g mode) k n a o =
        ⊎_elim
        (λ t. keep again (spawn p r g mode) k.1 n.1 (inl t) o)
        (λ (t : (p' : ℕ) × (mode' : Mode) × IsAmong (spawn p' q h mode') (spawn p r g mode ∷ (new ++ past))).
        ⊎_elim
        (λ (s : spawn t.0 q h t.1 ≡ spawn p r g mode).
        let same : h ≡ g = cc in
        let bad : over_in (opens_in (new ++ past)) c g ≡ false = n.0 c (left_still new past c l) in
        let worse : true ≡ false = sym (subst (λ z. over_in (opens_in (new ++ past)) c z ≡ true) same o) ∙ bad in absurd cc)
        (λ s. keep again (spawn p r g mode) k.1 n.1 (inr (t.0, t.1, s)) o)
        t.2)
        a
    here again (turn p m) k n a o = keep again (turn p m) k.1 n (apart_from _ (λ p' m' s. absurd cc) a) o
    here again (opened p g f) k n a o = keep again (opened p g f) k.1 n (apart_from _ (λ p' m' s. absurd cc) a) o
    here again (exit p d) k n a o = keep again (exit p d) k.1 n (apart_from _ (λ p' m' s. absurd cc) a) o
    here again (throw p d) k n a o = keep again (throw p d) k.1 n (apart_from _ (λ p' m' s. absurd cc) a) o
    here again (land p d) k n a o = keep again (land p d) k.1 n (apart_from _ (λ p' m' s. absurd cc) a) o
    here again (kill d r) k n a o = keep again (kill d r) k.1 n (apart_from _ (λ p' m' s. absurd cc) a) o
    here again (protect p v) k n a o = keep again (protect p v) k.1 n (apart_from _ (λ p' m' s. absurd cc) a) o
    here again (begin p v) k n a o = keep again (begin p v) k.1 n (apart_from _ (λ p' m' s. absurd cc) a) o
    here again (finish p v) k n a o = keep again (finish p v) k.1 n (apart_from _ (λ p' m' s. absurd cc) a) o
    here again (send p j m) k n a o = keep again (send p j m) k.1 n (apart_from _ (λ p' m' s. absurd cc) a) o
    here again (take p j m) k n a o = keep again (take p j m) k.1 n (apart_from _ (λ p' m' s. absurd cc) a) o
    here again (reply p j m text) k n a o = keep again (reply p j m text) k.1 n (apart_from _ (λ p' m' s. absurd cc) a) o
    here again (end_ok p text) k n a o = keep again (end_ok p text) k.1 n (apart_from _ (λ p' m' s. absurd cc) a) o
    here again (end_killed p) k n a o = keep again (end_killed p) k.1 n (apart_from _ (λ p' m' s. absurd cc) a) o
    here again (stopped why) k n a o = keep again (stopped why) k.1 n (apart_from _ (λ p' m' s. absurd cc) a) o

-- other lists of the same lines

module _ (ls bs : List Event) (same : (l : Event) → is_turn l ≡ false → IsAmong l ls → IsAmong l bs) where
  pub home_map : (q h : ℕ) → HasHome ls q h → HasHome bs q h
  home_map q h a = ⊎_elim (λ t. inl t) (λ (t : (p : ℕ) × (mode : Mode) × IsAmong (spawn p q h mode) ls). inr (t.0, t.1, same (spawn t.0 q h t.1) refl t.2)) a

  pub owns_map : (p c : ℕ) → Owns ls p c → Owns bs p c
  owns_map p c a = ⊎_elim (λ t. inl t) (λ (t : (d : ℕ) × IsAmong (opened p c d) ls). inr (t.0, same (opened p c t.0) refl t.1)) a

  pub over_map : (c d : ℕ) → IsOver ls c d → IsOver bs c d
  over_map c d (itself h s) = itself h s
  over_map c d (over_enclosing p h f a r) = over_enclosing p h f (same (opened p h f) refl a) (over_map c f r)

  pub kill_map : (q : ℕ) → HasKill ls q → HasKill bs q
  kill_map q a = (a.0, same (kill a.0 q) refl a.1)

  pub end_map : (q : ℕ) → HasEnd ls q → HasEnd bs q
  end_map q a = ⊎_elim (λ (t : (text : Option (List ℕ)) × IsAmong (end_ok q text) ls). inl (t.0, same (end_ok q t.0) refl t.1)) (λ t. inr (same (end_killed q) refl t)) a

-- (k)

heads : (a b c d : ℕ) (xs ys : List (ℕ × ℕ)) → (a, b) ∷ xs ≡ (c, d) ∷ ys → (a ≡ c) × (b ≡ d)
heads a b c d xs ys e = let same : (a, b) ≡ (c, d) = ap first_of e in (ap (λ z. z.0) same, ap (λ z. z.1) same)
  where
    first_of : List (ℕ × ℕ) → ℕ × ℕ
    first_of [] = (a, b)
    first_of (z ∷ zs) = z

-- Where these kills are due, they follow, and no other one.
follow : (after : List Event) (past : List Event) (c : ℕ) (qs : List ℕ) → Each (reverse after ++ past) → Calm (without_turns (reverse after ++ past)) → due (without_turns past) ≡ map (λ q. (c, q)) qs
    → (rest : List Event) × (after ≡ map (kill c) qs ++ rest) × (starts_with_kill rest ≡ false)
follow [] past c [] k m d = ([], refl, refl)
follow [] past c (q ∷ qs) k m d = absurd (nothing_there (c, q) (map (λ r. (c, r)) qs) (sym m ∙ d))
follow (a ∷ after) past c qs k m d = by_line (follow after) a qs fine k' m' d
  where
    k' : Each (reverse after ++ a ∷ past)
    k' = subst Each (reverse_onto_past a after past) k

    m' : Calm (without_turns (reverse after ++ a ∷ past))
    m' = subst (λ z. Calm (without_turns z)) (reverse_onto_past a after past) m

    fine : Fine a (without_turns past)
    fine = (each_from (reverse after) a past k').0

    other : (a : Event) (qs : List ℕ) → starts_with_kill (a ∷ after) ≡ false → Calm (without_turns past) → due (without_turns past) ≡ map (λ q. (c, q)) qs → (rest : List Event) × (a ∷ after ≡ map (kill c) qs ++ rest) × (starts_with_kill rest ≡ false)
    other a [] n m d = (a ∷ after, refl, n)
    other a (q ∷ qs) n m d = absurd (nothing_there (c, q) (map (λ r. (c, r)) qs) (sym m ∙ d))

    by_line : ((past : List Event) (c : ℕ) (qs : List ℕ) → Each (reverse after ++ past) → Calm (without_turns (reverse after ++ past)) → due (without_turns past) ≡ map (λ q. (c, q)) qs → (rest : List Event) × (after ≡ map (kill c) qs ++ rest) × (starts_with_kill rest ≡ false)) → (a : Event) (qs : List ℕ) → Fine a (without_turns past) → Each (reverse after ++ a ∷ past) → Calm (without_turns (reverse after ++ a ∷ past)) → due (without_turns past) ≡ map (λ q. (c, q)) qs → (rest : List Event) × (a ∷ after ≡ map (kill c) qs ++ rest) × (starts_with_kill rest ≡ false)
    by_line again (kill e r) [] f k m d = let bad : [] ≡ (e, r) ∷ f.rest = sym d ∙ f.is_next in absurd cc
    by_line again (kill e r) (q ∷ qs) f k m d =
        let same : (e, r) ∷ f.rest ≡ (c, q) ∷ map (λ z. (c, z)) qs = sym f.is_next ∙ d in
        let first : (e ≡ c) × (r ≡ q) = heads e r c q f.rest (map (λ z. (c, z)) qs) same in
        let next = again (kill e r ∷ past) c qs k m (ap (λ (z : List (ℕ × ℕ)). drop 1 z) d) in
        (next.0, ap (λ z. kill z r ∷ after) first.0 ∙ ap (λ z. kill c z ∷ after) first.1 ∙ ap (λ z. kill c q ∷ z) next.1, next.2)
    by_line again (spawn p r h mode) qs f k m d = other (spawn p r h mode) qs refl f.0 d
    by_line again (opened p g h) qs f k m d = other (opened p g h) qs refl f.0 d
    by_line again (exit p g) qs f k m d = other (exit p g) qs refl f.0 d
    by_line again (throw p g) qs f k m d = other (throw p g) qs refl f.0 d
    by_line again (land p g) qs f k m d = other (land p g) qs refl f.0 d
    by_line again (protect p v) qs f k m d = other (protect p v) qs refl f.0 d
    by_line again (begin p v) qs f k m d = other (begin p v) qs refl f.0 d
    by_line again (finish p v) qs f k m d = other (finish p v) qs refl f.0 d
    by_line again (send p j n) qs f k m d = other (send p j n) qs refl f.0 d
    by_line again (take p j n) qs f k m d = other (take p j n) qs refl f.0 d
    by_line again (reply p j n text) qs f k m d = other (reply p j n text) qs refl f.0 d
    by_line again (end_ok p text) qs f k m d = other (end_ok p text) qs refl f.0 d
    by_line again (end_killed p) qs f k m d = other (end_killed p) qs refl f.0 d
    by_line again (stopped why) qs f k m d = other (stopped why) qs refl f.0 d
    by_line again (turn p n) qs f k m d = other (turn p n) qs refl f d

-- a leave of c with the lines before and after it
module _ (es : List Event) (k : Each es) (m : Calm (without_turns es)) (none : NoneLate (without_turns es)) (before : List Event) (line : Event) (after : List Event) (split : reverse es ≡ before ++ line ∷ after) where
  abbrev N : List Event
  N = news_before before

  back : es ≡ reverse after ++ line ∷ reverse before
  back = split_back es before line after split

  each_here : Fine line N × Each (reverse before)
  each_here = each_from (reverse after) line (reverse before) (subst Each back k)

  pub fine_here : Fine line N
  fine_here = each_here.0

  pub news_here : EachNews N
  news_here = each_news (reverse before) each_here.1

  in_news : (l : Event) → is_turn l ≡ false → IsAmong l (reverse es) → IsAmong l (without_turns es)
  in_news l n a = among_news l es n (among_back l es a)

  in_all : (l : Event) → is_turn l ≡ false → IsAmong l (without_turns es) → IsAmong l (reverse es)
  in_all l n a = among_reverse l es (among_all l es a)

  -- what follows where these kills are due, and no others
  pub following : (c : ℕ) (qs : List ℕ) → due (without_turns (line ∷ reverse before)) ≡ map (λ q. (c, q)) qs → (rest : List Event) × (after ≡ map (kill c) qs ++ rest) × (starts_with_kill rest ≡ false)
  following c qs d = follow after (line ∷ reverse before) c qs (subst Each back k) (subst (λ z. Calm (without_turns z)) back m) d

  module _ (c : ℕ) (not_turn : without_turns (line ∷ reverse before) ≡ line ∷ N) (leaves : is_left c (line ∷ N) ≡ true) (no_home : (q h : ℕ) → HasHome (line ∷ N) q h → HasHome N q h) (same_opens : opens_in (line ∷ N) ≡ opens_in N) where
    abbrev later : List Event
    later = without_turns (reverse after)

    all_news : without_turns es ≡ later ++ line ∷ N
    all_news = ap without_turns back ∙ news_append (reverse after) (line ∷ reverse before) ∙ ap (λ (z : List Event). later ++ z) not_turn

    each_all : EachNews (later ++ line ∷ N)
    each_all = subst EachNews all_news (each_news es k)

    none_all : NoneLate (later ++ line ∷ N)
    none_all = subst NoneLate all_news none

    up : (l : Event) → is_turn l ≡ false → IsAmong l (later ++ line ∷ N) → IsAmong l (reverse es)
    up l n a = in_all l n (subst (IsAmong l) (sym all_news) a)

    down : (l : Event) → is_turn l ≡ false → IsAmong l (reverse es) → IsAmong l (later ++ line ∷ N)
    down l n a = subst (IsAmong l) all_news (in_news l n a)

    abbrev owner : ℕ
    owner = owner_in (opens_in N) c

    abbrev doomed : List ℕ
    doomed = due_from (opens_in N) c owner 1 (persons_in N)

    -- catches as the journal tells them in the end, and as it told them then
    over_then : (d : ℕ) → d < length (opens_in N) → over_in (opens_in (later ++ line ∷ N)) c d ≡ over_in (opens_in N) c d
    over_then d l = over_still later (line ∷ N) c d (subst (λ (z : List (ℕ × ℕ)). d < length z) (sym same_opens) l) ∙ ap (λ (z : List (ℕ × ℕ)). over_in z c d) same_opens

    owner_then : c < length (opens_in N) → owner_in (opens_in (later ++ line ∷ N)) c ≡ owner
    owner_then l = owner_still later (line ∷ N) c (subst (λ (z : List (ℕ × ℕ)). c < length z) (sym same_opens) l) ∙ ap (λ (z : List (ℕ × ℕ)). owner_in z c) same_opens

    each_doomed : (q : ℕ) → IsNumber q doomed → IsDoomed (reverse es) before c q
    each_doomed q h =
        let d = due_is (opens_in N) c owner q (persons_in N) h in
        let x : Person = d.0 in
        let not_ended : d.0.ended ≡ false = not_true _ (both_true _ _ (both_true _ _ d.2).0).0 in
        let not_dead : d.0.dead ≡ false = not_true _ (both_true _ _ (both_true _ _ d.2).0).1 in
        let over : over_in (opens_in N) c d.0.home ≡ true = (both_true _ _ (both_true _ _ d.2).1).0 in
        let other : (q == owner) ≡ false = not_true _ (both_true _ _ (both_true _ _ d.2).1).1 in
        let home : HasHome N q d.0.home = has_home N q d.0 news_here d.1 in
        let low : d.0.home < length (opens_in N) = home_low N q d.0 news_here d.1 in
        let over_all : over_in (opens_in (later ++ line ∷ N)) c d.0.home ≡ true = over_then d.0.home low ∙ over in
        record {
          within = (d.0.home, home_map (later ++ line ∷ N) (reverse es) up q d.0.home (home_still later (line ∷ N) q d.0.home (home_later line N q d.0.home home)), over_map (later ++ line ∷ N) (reverse es) up c d.0.home (over_tells (later ++ line ∷ N) c d.0.home each_all over_all));
          foreign = λ o.
              let told : owner_in (opens_in (later ++ line ∷ N)) c ≡ q = owner_told (later ++ line ∷ N) q c each_all (owns_map (reverse es) (later ++ line ∷ N) down q c o) in
              let same : q ≡ owner = sym told ∙ owner_then (over_low (opens_in N) c d.0.home over) in
              not_both (eq-eqb q owner same) other;
          not_killed = alive_unkilled before q news_here (d.0, d.1, not_dead);
          not_ended = λ e.
              let p : HasPerson IsEnded q N = ⊎_elim (λ t. ended_well_is_ended N q t.0 news_here (before_news (end_ok q t.0) before refl t.1)) (λ t. ended_killed_is_ended N q news_here (before_news (end_killed q) before refl t)) e in
              let same : p.0 ≡ d.0 = one p.0 d.0 q N p.1 d.1 in
              not_both p.2 (ap (λ (z : Person). z.ended) same ∙ not_ended);
        }

    all_doomed : (q : ℕ) → IsDoomed (reverse es) before c q → IsNumber q doomed
    all_doomed q d =
        let h : ℕ = d.within.0 in
        let home : HasHome (later ++ line ∷ N) q d.within.0 = home_map (reverse es) (later ++ line ∷ N) down q d.within.0 d.within.1 in
        let over : IsOver (later ++ line ∷ N) c d.within.0 = over_map (reverse es) (later ++ line ∷ N) down c d.within.0 d.within.2 in
        let there : HasPerson (HomeIs d.within.0) q (later ++ line ∷ N) = at_home (later ++ line ∷ N) q d.within.0 each_all home in
        let low : d.within.0 < length (opens_in (later ++ line ∷ N)) = subst (λ z. z < length (opens_in (later ++ line ∷ N))) there.2 (home_low (later ++ line ∷ N) q there.0 each_all there.1) in
        let over_all : over_in (opens_in (later ++ line ∷ N)) c d.within.0 ≡ true = over_told (later ++ line ∷ N) c d.within.0 each_all over low in
        let home_now : HasHome N q d.within.0 = no_home q d.within.0 (early later (line ∷ N) c q d.within.0 each_all none_all leaves home over_all) in
        let now : HasPerson (HomeIs d.within.0) q N = at_home N q d.within.0 news_here home_now in
        let low_now : d.within.0 < length (opens_in N) = subst (λ z. z < length (opens_in N)) now.2 (home_low N q now.0 news_here now.1) in
        let over_now : over_in (opens_in N) c d.within.0 ≡ true = sym (over_then d.within.0 low_now) ∙ over_all in
        let over_home : over_in (opens_in N) c now.0.home ≡ true = subst (λ z. over_in (opens_in N) c z ≡ true) (sym now.2) over_now in
        let not_dead : now.0.dead ≡ false = deny _ (λ t. d.not_killed (kill_map N before (λ l n a. news_are_before l before a) q (dead_was_killed N q now.0 now.1 t))) in
        let not_ended : now.0.ended ≡ false = deny _ (λ t. d.not_ended (end_map N before (λ l n a. news_are_before l before a) q (ended_has_end N q now.0 now.1 t))) in
        let other : (q == owner) ≡ false = deny _ (λ t. d.foreign (owns_map (later ++ line ∷ N) (reverse es) up q c (owns_still (later ++ line ∷ N) (eqb-true q owner t) (over_low (opens_in N) c d.within.0 over_now)))) in
        is_due_there (opens_in N) c owner q now.0 (persons_in N) now.1 (rw (not_dead, not_ended, over_home, other) refl)
      where
        deny : (b : Bool) → (b ≡ true → ⊥) → b ≡ false
        deny true n = absurd (n refl)
        deny false n = refl

        owns_still : (ls : List Event) → q ≡ owner → c < length (opens_in N) → Owns (later ++ line ∷ N) q c
        owns_still ls e l =
            let low : c < length (opens_in (later ++ line ∷ N)) = (let a = opens_still later (line ∷ N) in let b : length (opens_in (line ∷ N)) ≡ length (opens_in N) = ap length same_opens in omega (arith, a, b, l)) in
            subst (λ z. Owns (later ++ line ∷ N) z c) (owner_then l ∙ sym e) (owner_tells (later ++ line ∷ N) c each_all low)

    pub kills_follow : due (line ∷ N) ≡ all_due c N → KillsFollow (reverse es) before c after
    kills_follow d =
        let f = following c doomed (ap due not_turn ∙ d) in
        record {
          doomed = doomed;
          rest = f.0;
          follow = f.1;
          no_more = f.2;
          rise = those_rise (is_due (opens_in N) c owner) 1 (persons_in N);
          each = each_doomed;
          all = all_doomed;
        }

  -- after a line that is no exit, throw or kill
  pub none_follow : due (without_turns (line ∷ reverse before)) ≡ [] → starts_with_kill after ≡ false
  none_follow d = let f = following 0 [] d in subst (λ z. starts_with_kill z ≡ false) (sym f.1) f.2

-- all four laws

module _ (es : List Event) (k : Each es) (m : Calm (without_turns es)) (none : NoneLate (without_turns es)) where
  kills_line : (before : List Event) (line : Event) (after : List Event) → reverse es ≡ before ++ line ∷ after → Fine line (news_before before) → KillsAfter (reverse es) before line after
  kills_line before (exit p c) after s f = kills_follow es k m none before (exit p c) after s c refl (let t : (c == c) ≡ true = eq-eqb c c refl in rw t refl) (λ q h a. ⊎_elim (λ t. inl t) (λ (t : (r : ℕ) × (mode : Mode) × IsAmong (spawn r q h mode) (exit p c ∷ news_before before)). ⊎_elim (λ z. absurd cc) (λ z. inr (t.0, t.1, z)) t.2) a) refl refl
  kills_line before (throw p c) after s f = kills_follow es k m none before (throw p c) after s c refl (let t : (c == c) ≡ true = eq-eqb c c refl in rw t refl) (λ q h a. ⊎_elim (λ t. inl t) (λ (t : (r : ℕ) × (mode : Mode) × IsAmong (spawn r q h mode) (throw p c ∷ news_before before)). ⊎_elim (λ z. absurd cc) (λ z. inr (t.0, t.1, z)) t.2) a) refl refl
  kills_line before (kill c q) after s f = tt
  kills_line before (turn p n) after s f = none_follow es k m none before (turn p n) after s f
  kills_line before (spawn p r h mode) after s f = none_follow es k m none before (spawn p r h mode) after s refl
  kills_line before (opened p g h) after s f = none_follow es k m none before (opened p g h) after s refl
  kills_line before (land p g) after s f = none_follow es k m none before (land p g) after s refl
  kills_line before (protect p v) after s f = none_follow es k m none before (protect p v) after s refl
  kills_line before (begin p v) after s f = none_follow es k m none before (begin p v) after s refl
  kills_line before (finish p v) after s f = none_follow es k m none before (finish p v) after s refl
  kills_line before (send p j n) after s f = none_follow es k m none before (send p j n) after s refl
  kills_line before (take p j n) after s f = none_follow es k m none before (take p j n) after s refl
  kills_line before (reply p j n text) after s f = none_follow es k m none before (reply p j n text) after s refl
  kills_line before (end_ok p text) after s f = none_follow es k m none before (end_ok p text) after s refl
  kills_line before (end_killed p) after s f = none_follow es k m none before (end_killed p) after s refl
  kills_line before (stopped why) after s f = none_follow es k m none before (stopped why) after s refl

  no_first_kill : starts_with_kill (reverse es) ≡ false
  no_first_kill =
      let same : reverse (reverse es) ++ [] ≡ es = append-nil _ ∙ reverse-reverse es in
      let f = follow (reverse es) [] 0 [] (subst Each (sym same) k) (subst (λ z. Calm (without_turns z)) (sym same) m) refl in
      subst (λ z. starts_with_kill z ≡ false) (sym f.1) f.2

  pub kills_law : KillsLaw (reverse es)
  kills_law = record { not_first = no_first_kill; after_each = λ before line after s. kills_line before line after s (fine_here es k m none before line after s) }

  pub unwinding_law : UnwindingLaw (reverse es)
  unwinding_law = λ before line after s. unwinding_line before line (news_here es k m none before line after s) (fine_here es k m none before line after s)

  pub cleanups_law : CleanupsLaw (reverse es)
  cleanups_law = record {
    each = λ before line after s. cleanup_line before line (news_here es k m none before line after s) (fine_here es k m none before line after s);
    all_at_done = λ before s p u a.
        let news = news_here es k m none before (stopped done) [] s in
        let told = protect_told (news_before before) p u news (before_news (protect p u) before refl a) in
        let c = (fine_here es k m none before (stopped done) [] s).1 u p told.1 told.0 in
        (begun_by before p u news c.0 told.0, finished_by before p u news c.1 told.0);
  }

  pub calls_law : CallsLaw (reverse es)
  calls_law = λ before line after s. call_line before line (news_here es k m none before line after s) (fine_here es k m none before line after s)

  pub legal : Legal (reverse es)
  legal = record { kills = kills_law; unwinding = unwinding_law; cleanups = cleanups_law; calls = calls_law }
