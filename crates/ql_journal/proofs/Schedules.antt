-- The schedule that events spell.
use Rattle.std.proofs.Common.{◌≡◌, refl, sym, ◌∙◌, ap, ℕ, zero, suc, ◌+◌, ◌==◌, Bool, true, false, List, [], ◌∷◌, ◌++◌, arith, if◌then◌else◌, eqb-true, reverse}
use Rattle.std.proofs.lemmas.List.{append_assoc, append-nil, reverse-append, reverse-reverse}
use Rattle.std.specs.Prelude.{replicate, Result, Ok, Err, OnOk}
use Rattle.ql_world.specs.declared.event.Event.{Event}
use Rattle.ql_world.specs.declared.event.Event.TheVariants.{Turn as turn, Spawn as spawn, Opened as opened, Exit as exit, Throw as throw, Land as land, Kill as kill, Protect as protect, Begin as begin, Finish as finish, Send as send, Take as take, Reply as reply, EndOk as end_ok, EndKilled as end_killed, Stopped as stopped}
use Rattle.ql_world.specs.declared.event.Entry.{Entry}
use Rattle.ql_world.specs.declared.event.Entry.TheVariants.{Tick as tick}
use Rattle.ql_world.specs.Event.{with_tick, entry_of, entries}
use Rattle.ql_journal.specs.Growing.{pushed}

-- entries

replicate_sum : (m n : ℕ) (x : Entry) → replicate (m + n) x ≡ replicate m x ++ replicate n x
replicate_sum zero n x = let e : zero + n ≡ n = omega arith in rw e refl
replicate_sum (suc m) n x = let e : suc m + n ≡ suc (m + n) = omega arith in rw e (ap (λ (xs : List Entry). x ∷ xs) (replicate_sum m n x))

entries_append : (es fs : List Event) → entries (es ++ fs) ≡ entries es ++ entries fs
entries_append [] fs = refl
entries_append (e ∷ es) fs = rw (entries_append es fs) (sym (append_assoc (entry_of e) (entries es) (entries fs)))

entries_last : (rs : List Event) (e : Event) → entries (reverse (e ∷ rs)) ≡ entries (reverse rs) ++ entry_of e
entries_last rs e =
    ap entries (reverse-append (e ∷ []) rs)
    ∙ (entries_append (reverse rs) (e ∷ []) ∙ ap (λ (x : List Entry). entries (reverse rs) ++ x) (append-nil (entry_of e)))

joined_entries : (p n q m : ℕ) (rs : List Event) (b : Bool) → (p == q) ≡ b
    → entries (reverse (if b then turn q (m + n) ∷ rs else turn p n ∷ (turn q m ∷ rs))) ≡ entries (reverse (turn q m ∷ rs)) ++ entry_of (turn p n)
joined_entries p n q m rs true h =
    let e : p ≡ q = eqb-true p q h in
    rw e (entries_last rs (turn q (m + n))
    ∙ (ap (λ (x : List Entry). entries (reverse rs) ++ x) (replicate_sum m n (tick q))
    ∙ (sym (append_assoc (entries (reverse rs)) (replicate m (tick q)) (replicate n (tick q)))
    ∙ ap (λ (x : List Entry). x ++ replicate n (tick q)) (sym (entries_last rs (turn q m))))))
joined_entries p n q m rs false h = entries_last (turn q m ∷ rs) (turn p n)

entries_turn : (p n : ℕ) (rs : List Event) → entries (reverse (pushed (turn p n) rs)) ≡ entries (reverse rs) ++ entry_of (turn p n)
entries_turn p n [] = entries_last [] (turn p n)
entries_turn p n (turn q m ∷ rs) = joined_entries p n q m rs (p == q) refl
entries_turn p n (spawn a b c d ∷ rs) = entries_last (spawn a b c d ∷ rs) (turn p n)
entries_turn p n (opened a b c ∷ rs) = entries_last (opened a b c ∷ rs) (turn p n)
entries_turn p n (exit a b ∷ rs) = entries_last (exit a b ∷ rs) (turn p n)
entries_turn p n (throw a b ∷ rs) = entries_last (throw a b ∷ rs) (turn p n)
entries_turn p n (land a b ∷ rs) = entries_last (land a b ∷ rs) (turn p n)
entries_turn p n (kill a b ∷ rs) = entries_last (kill a b ∷ rs) (turn p n)
entries_turn p n (protect a b ∷ rs) = entries_last (protect a b ∷ rs) (turn p n)
entries_turn p n (begin a b ∷ rs) = entries_last (begin a b ∷ rs) (turn p n)
entries_turn p n (finish a b ∷ rs) = entries_last (finish a b ∷ rs) (turn p n)
entries_turn p n (send a b c ∷ rs) = entries_last (send a b c ∷ rs) (turn p n)
entries_turn p n (take a b c ∷ rs) = entries_last (take a b c ∷ rs) (turn p n)
entries_turn p n (reply a b c d ∷ rs) = entries_last (reply a b c d ∷ rs) (turn p n)
entries_turn p n (end_ok a b ∷ rs) = entries_last (end_ok a b ∷ rs) (turn p n)
entries_turn p n (end_killed a ∷ rs) = entries_last (end_killed a ∷ rs) (turn p n)
entries_turn p n (stopped a ∷ rs) = entries_last (stopped a ∷ rs) (turn p n)

entries_pushed : (e : Event) (rs : List Event) → entries (reverse (pushed e rs)) ≡ entries (reverse rs) ++ entry_of e
entries_pushed (turn p n) rs = entries_turn p n rs
entries_pushed (spawn a b c d) rs = entries_last rs (spawn a b c d)
entries_pushed (opened a b c) rs = entries_last rs (opened a b c)
entries_pushed (exit a b) rs = entries_last rs (exit a b)
entries_pushed (throw a b) rs = entries_last rs (throw a b)
entries_pushed (land a b) rs = entries_last rs (land a b)
entries_pushed (kill a b) rs = entries_last rs (kill a b)
entries_pushed (protect a b) rs = entries_last rs (protect a b)
entries_pushed (begin a b) rs = entries_last rs (begin a b)
entries_pushed (finish a b) rs = entries_last rs (finish a b)
entries_pushed (send a b c) rs = entries_last rs (send a b c)
entries_pushed (take a b c) rs = entries_last rs (take a b c)
entries_pushed (reply a b c d) rs = entries_last rs (reply a b c d)
entries_pushed (end_ok a b) rs = entries_last rs (end_ok a b)
entries_pushed (end_killed a) rs = entries_last rs (end_killed a)
entries_pushed (stopped a) rs = entries_last rs (stopped a)

pub entries_grow : (e : Event) (es fs : List Event) → reverse fs ≡ pushed e (reverse es) → entries fs ≡ entries es ++ entry_of e
entries_grow e es fs h =
    ap entries (sym (reverse-reverse fs))
    ∙ (ap (λ (x : List Event). entries (reverse x)) h
    ∙ (entries_pushed e (reverse es) ∙ ap (λ (x : List Event). entries x ++ entry_of e) (reverse-reverse es)))

pub entries_grow_ok : {T E : Type 0} (r : Result T E) (e : Event) (es fs : List Event) → OnOk r (reverse fs ≡ pushed e (reverse es)) → OnOk r (entries fs ≡ entries es ++ entry_of e)
entries_grow_ok (Ok x) e es fs h = entries_grow e es fs h
entries_grow_ok (Err x) e es fs h = tt

-- a tick is a turn of one

pub one_tick : (p : ℕ) (es : List Event) → pushed (turn p 1) es ≡ with_tick p es
one_tick p [] = refl
one_tick p (turn q n ∷ es) = refl
one_tick p (spawn a b c d ∷ es) = refl
one_tick p (opened a b c ∷ es) = refl
one_tick p (exit a b ∷ es) = refl
one_tick p (throw a b ∷ es) = refl
one_tick p (land a b ∷ es) = refl
one_tick p (kill a b ∷ es) = refl
one_tick p (protect a b ∷ es) = refl
one_tick p (begin a b ∷ es) = refl
one_tick p (finish a b ∷ es) = refl
one_tick p (send a b c ∷ es) = refl
one_tick p (take a b c ∷ es) = refl
one_tick p (reply a b c d ∷ es) = refl
one_tick p (end_ok a b ∷ es) = refl
one_tick p (end_killed a ∷ es) = refl
one_tick p (stopped a ∷ es) = refl
