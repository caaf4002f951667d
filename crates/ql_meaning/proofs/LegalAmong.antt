-- Lines among lines, in either order and with or without turns.
use Rattle.std.proofs.Common.{◌≡◌, ℕ, suc, ◌+◌, ◌==◌, Bool, true, false, List, [], ◌∷◌, ◌++◌, refl, sym, ap, ◌∙◌, subst, ⊎_elim, inl, inr, arith, append_assoc}
use Rattle.std.proofs.lemmas.List.{reverse-reverse, reverse-append}
use Rattle.std.specs.Prelude.{if◌then◌else◌, reverse}
use Rattle.ql_world.specs.declared.event.Event.{Event}
use Rattle.ql_world.specs.declared.event.Event.TheVariants.{Turn as turn, Send as send, Take as take, Reply as reply}
use Rattle.ql_meaning.specs.Legal.{IsAmong}
use Rattle.ql_meaning.specs.Legal as law
use Rattle.ql_meaning.specs.Sane.{without_turns}
use Rattle.ql_meaning.specs.Sane as saw
use Rattle.ql_meaning.proofs.Lists.{cases}
use Rattle.ql_meaning.proofs.LegalLines.{Fine, Each}

-- turned round

reverse_cons : (e : Event) (es : List Event) → reverse (e ∷ es) ≡ reverse es ++ e ∷ []
reverse_cons e es = reverse-append (e ∷ []) es

pub reverse_onto_past : (e : Event) (es past : List Event) → reverse (e ∷ es) ++ past ≡ reverse es ++ e ∷ past
reverse_onto_past e es past = ap (λ (z : List Event). z ++ past) (reverse_cons e es) ∙ append_assoc (reverse es) (e ∷ []) past

-- the lines before a line, read back from it
pub split_back : (es before : List Event) (line : Event) (after : List Event) → reverse es ≡ before ++ line ∷ after → es ≡ reverse after ++ line ∷ reverse before
split_back es before line after e = sym (reverse-reverse es) ∙ ap reverse e ∙ reverse-append before (line ∷ after) ∙ reverse_onto_past line after (reverse before)

among_left : (l : Event) (xs ys : List Event) → IsAmong l xs → IsAmong l (xs ++ ys)
among_left l [] ys h = absurd h
among_left l (x ∷ xs) ys h = ⊎_elim (λ t. inl t) (λ t. inr (among_left l xs ys t)) h

pub among_right : (l : Event) (xs ys : List Event) → IsAmong l ys → IsAmong l (xs ++ ys)
among_right l [] ys h = h
among_right l (x ∷ xs) ys h = inr (among_right l xs ys h)

pub among_reverse : (l : Event) (xs : List Event) → IsAmong l xs → IsAmong l (reverse xs)
among_reverse l [] h = absurd h
among_reverse l (x ∷ xs) h = subst (IsAmong l) (sym (reverse_cons x xs)) (⊎_elim (λ t. among_right l (reverse xs) (x ∷ []) (inl t)) (λ t. among_left l (reverse xs) (x ∷ []) (among_reverse l xs t)) h)

pub among_back : (l : Event) (xs : List Event) → IsAmong l (reverse xs) → IsAmong l xs
among_back l xs h = subst (IsAmong l) (reverse-reverse xs) (among_reverse l (reverse xs) h)

-- without turns

abbrev pub is_turn : Event → Bool
is_turn (turn p n) = true
is_turn e = false

pub among_news : (l : Event) (es : List Event) → is_turn l ≡ false → IsAmong l es → IsAmong l (without_turns es)
among_news l [] n h = absurd h
among_news l (turn p m ∷ es) n h = ⊎_elim (λ (t : l ≡ turn p m). let bad : false ≡ true = sym n ∙ ap is_turn t in absurd cc) (λ t. among_news l es n t) h
among_news l (e ∷ es) n h = ⊎_elim (λ t. inl t) (λ t. inr (among_news l es n t)) h

pub among_all : (l : Event) (es : List Event) → IsAmong l (without_turns es) → IsAmong l es
among_all l [] h = absurd h
among_all l (turn p m ∷ es) h = inr (among_all l es h)
among_all l (e ∷ es) h = ⊎_elim (λ t. inl t) (λ t. inr (among_all l es t)) h

abbrev pub news_before : List Event → List Event
news_before before = without_turns (reverse before)

pub before_news : (l : Event) (before : List Event) → is_turn l ≡ false → IsAmong l before → IsAmong l (news_before before)
before_news l before n h = among_news l (reverse before) n (among_reverse l before h)

pub news_are_before : (l : Event) (before : List Event) → IsAmong l (news_before before) → IsAmong l before
news_are_before l before h = among_back l before (among_all l (reverse before) h)

pub news_append : (xs ys : List Event) → without_turns (xs ++ ys) ≡ without_turns xs ++ without_turns ys
news_append [] ys = refl
news_append (turn p m ∷ xs) ys = news_append xs ys
news_append (e ∷ xs) ys = ap (λ z. e ∷ z) (news_append xs ys)

-- counts

abbrev count : (Event → Bool) → List Event → ℕ
count f [] = 0
count f (e ∷ es) = if f e then suc (count f es) else count f es

count_append : (f : Event → Bool) (xs ys : List Event) → count f (xs ++ ys) ≡ count f xs + count f ys
count_append f [] ys = omega arith
count_append f (x ∷ xs) ys =
    let r = count_append f xs ys in
    ⊎_elim
    (λ (t : f x ≡ true). rw t (omega (arith, r)))
    (λ (t : f x ≡ false). rw t r)
    (cases (f x))

count_reverse : (f : Event → Bool) (xs : List Event) → count f (reverse xs) ≡ count f xs
count_reverse f [] = refl
count_reverse f (x ∷ xs) =
    let a : count f (reverse (x ∷ xs)) ≡ count f (reverse xs) + count f (x ∷ []) = ap (count f) (reverse_cons x xs) ∙ count_append f (reverse xs) (x ∷ []) in
    let b = count_append f (x ∷ []) xs in
    let r = count_reverse f xs in
    omega (arith, a, b, r)

abbrev is_send : ℕ → Event → Bool
is_send k (send p j n) = k == j
is_send k e = false

abbrev is_take : ℕ → Event → Bool
is_take k (take p j n) = k == j
is_take k e = false

abbrev is_reply : ℕ → Event → Bool
is_reply k (reply p j n text) = k == j
is_reply k e = false

sends_counted : (k : ℕ) (es : List Event) → law.sends k es ≡ count (is_send k) es
sends_counted k [] = refl
sends_counted k (send p j n ∷ es) = rw (sends_counted k es) refl
sends_counted k (e ∷ es) = sends_counted k es

takes_counted : (k : ℕ) (es : List Event) → law.takes k es ≡ count (is_take k) es
takes_counted k [] = refl
takes_counted k (take p j n ∷ es) = rw (takes_counted k es) refl
takes_counted k (e ∷ es) = takes_counted k es

replies_counted : (k : ℕ) (es : List Event) → law.replies k es ≡ count (is_reply k) es
replies_counted k [] = refl
replies_counted k (reply p j n text ∷ es) = rw (replies_counted k es) refl
replies_counted k (e ∷ es) = replies_counted k es

sends_seen : (k : ℕ) (es : List Event) → saw.sends k (without_turns es) ≡ count (is_send k) es
sends_seen k [] = refl
sends_seen k (send p j n ∷ es) = rw (sends_seen k es) refl
sends_seen k (e ∷ es) = sends_seen k es

takes_seen : (k : ℕ) (es : List Event) → saw.takes k (without_turns es) ≡ count (is_take k) es
takes_seen k [] = refl
takes_seen k (take p j n ∷ es) = rw (takes_seen k es) refl
takes_seen k (e ∷ es) = takes_seen k es

replies_seen : (k : ℕ) (es : List Event) → saw.replies k (without_turns es) ≡ count (is_reply k) es
replies_seen k [] = refl
replies_seen k (reply p j n text ∷ es) = rw (replies_seen k es) refl
replies_seen k (e ∷ es) = replies_seen k es

pub sends_before : (k : ℕ) (before : List Event) → law.sends k before ≡ saw.sends k (news_before before)
sends_before k before = sends_counted k before ∙ sym (count_reverse (is_send k) before) ∙ sym (sends_seen k (reverse before))

pub takes_before : (k : ℕ) (before : List Event) → law.takes k before ≡ saw.takes k (news_before before)
takes_before k before = takes_counted k before ∙ sym (count_reverse (is_take k) before) ∙ sym (takes_seen k (reverse before))

pub replies_before : (k : ℕ) (before : List Event) → law.replies k before ≡ saw.replies k (news_before before)
replies_before k before = replies_counted k before ∙ sym (count_reverse (is_reply k) before) ∙ sym (replies_seen k (reverse before))

-- in the order of the world
pub sends_now : (k : ℕ) (es : List Event) → law.sends k es ≡ saw.sends k (without_turns es)
sends_now k es = sends_counted k es ∙ sym (sends_seen k es)

pub takes_now : (k : ℕ) (es : List Event) → law.takes k es ≡ saw.takes k (without_turns es)
takes_now k es = takes_counted k es ∙ sym (takes_seen k es)

pub replies_now : (k : ℕ) (es : List Event) → law.replies k es ≡ saw.replies k (without_turns es)
replies_now k es = replies_counted k es ∙ sym (replies_seen k es)

-- each line

pub each_from : (xs : List Event) (line : Event) (ys : List Event) → Each (xs ++ line ∷ ys) → Fine line (without_turns ys) × Each ys
each_from [] line ys k = k
each_from (x ∷ xs) line ys k = each_from xs line ys k.1

-- the same of lines without turns
abbrev pub EachNews : List Event → Type 0
EachNews [] = Unit {0}
EachNews (e ∷ es) = Fine e es × EachNews es

pub each_news : (es : List Event) → Each es → EachNews (without_turns es)
each_news [] k = tt
each_news (turn p n ∷ es) k = each_news es k.1
each_news (e ∷ es) k = (k.0, each_news es k.1)
