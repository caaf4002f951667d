-- What following a book keeps, byte by byte.
use Rattle.std.proofs.Common.{◌≡◌, ℕ, ◌+◌, ◌≤◌, ◌==◌, true, false, List, [], ◌∷◌, ◌++◌, Option, refl, sym, ap, ◌∙◌, subst, ⊎_elim, arith, append_assoc}
use Rattle.std.specs.Prelude.{Result, Ok, Err}
use Rattle.ql_replay.specs.Book.{has_feed}
use Rattle.ql_replay.specs.Replay.{Verdict, differs}
use Rattle.ql_replay.specs.Page.{TakesSome, IsAtEnd, MayCome, Hands}
use Rattle.ql_replay.specs.Following.{feeds}
use Rattle.ql_replay.specs.Answer.{verdict_of, IsReadToEnd, EndsWith, Answered, Answers, Stays, StepsTo, AfterStep}
use Rattle.ql_replay.specs.declared.follow.Step.{Step}
use Rattle.ql_replay.specs.declared.follow.Step.TheVariants.{On, End, Differs as Parts, Fault}
use Rattle.ql_replay.specs.declared.verdict.Verdict.{Verdict as Told}
use Rattle.ql_replay.specs.declared.verdict.Verdict.TheVariants.{Same, Differs}
use Rattle.ql_replay.specs.declared.verdict.ReplayFault.{ReplayFault}
use Rattle.ql_replay.specs.declared.verdict.ReplayFault.TheVariants.{Book, Memory}
use Rattle.std.specs.declared.alloc.AllocError.{AllocError}
use Rattle.ql_replay.proofs.Basics.{cases}
use Rattle.ql_replay.proofs.Handing.{takes_both, nothing_comes, hands_nothing, all_parts, hands_both, hands_still}
use Rattle.ql_replay.proofs.Texts.{clean_rest}

pub feeds_append : (xs ys : List ℕ) → feeds (xs ++ ys) ≡ feeds xs + feeds ys
feeds_append [] ys = omega arith
feeds_append (x ∷ xs) ys =
    let i = feeds_append xs ys in
    ⊎_elim (λ (t : (x == 10) ≡ true). rw t (omega (arith, i))) (λ (t : (x == 10) ≡ false). rw t i) (cases (x == 10))

pub no_feeds : (xs : List ℕ) → has_feed xs ≡ false → feeds xs ≡ 0
no_feeds [] h = refl
no_feeds (x ∷ xs) h = let c = clean_rest x xs h in let t : (x == 10) ≡ false = c.0 in rw t (no_feeds xs c.1)

-- at the end every verdict stands
pub read_to_end : (v : Told) (left : Option (List ℕ)) → IsAtEnd left → IsReadToEnd v left
read_to_end (Same output) left end = end
read_to_end (Differs line) left end = tt

-- So much was handed on, and this is the answer.
module _ (f : List ℕ → Verdict) (at : ℕ) (t page : List ℕ) (left : Option (List ℕ)) (page' : List ℕ) (left' : Option (List ℕ)) (h : Hands t page left page' left') where
  pub settled : (v : Told) → ((more : List ℕ) → MayCome more left' → f (t ++ (page' ++ more)) ≡ verdict_of v) → IsReadToEnd v left' → Answers f at (Ok v) page left left'
  settled v said end = record {
    read = h.read;
    takes = h.takes;
    answered = (λ more c. ap f (append_assoc page h.read more ∙ all_parts t page left page' left' h more) ∙ said more c, end);
  }

  pub stopped : (e : AllocError) → Answers f at (Err (Memory e)) page left left'
  stopped e = record { read = h.read; takes = h.takes; answered = tt }

-- The book ends here.
module _ (f : List ℕ → Verdict) (at : ℕ) (t page : List ℕ) (left left' : Option (List ℕ)) (h : Hands t page left [] left') where
  pub ended : IsAtEnd left' → (v : Verdict) → f (t ++ []) ≡ v → (r : Result Told ReplayFault) → EndsWith v r → Answers f at r page left left'
  ended end v e (Ok w) s =
      settled f at t page left [] left' h w (λ more c. ap (λ (z : List ℕ). f (t ++ z)) (nothing_comes left' more end c) ∙ (e ∙ s)) (read_to_end w left' end)
  ended end v e (Err Book) s = absurd s
  ended end v e (Err (Memory x)) s = stopped f at t page left [] left' h x

  pub faulted : ((more : List ℕ) (k : ℕ) → f (t ++ more) ≡ differs k → at + feeds t ≤ k) → Answers f at (Err Book) page left left'
  faulted late =
      let all : page ++ h.read ≡ t ++ [] = h.parts in
      let n : feeds (page ++ h.read) ≡ feeds t + 0 = ap feeds all ∙ feeds_append t [] in
      record {
        read = h.read;
        takes = h.takes;
        answered = λ more k d.
            let l = late more k (sym (ap f (append_assoc page h.read more ∙ all_parts t page left [] left' h more)) ∙ d) in omega (arith, l, n);
      }

module _ (f : List ℕ → Verdict) (at : ℕ) (page0 : List ℕ) (left0 : Option (List ℕ)) where
  -- so much was taken, and the other function tells the verdict by what is still to come
  pub record Holding (g : List ℕ → Verdict) (now : ℕ) (page : List ℕ) (left : Option (List ℕ)) : Type 0 where
    pub taken : List ℕ
    pub hands : Hands taken page0 left0 page left
    pub count : now ≡ at + feeds taken
    pub verdict : (rest : List ℕ) → f (taken ++ rest) ≡ g rest

  pub begins : Holding f at page0 left0
  begins = record { taken = []; hands = hands_nothing page0 left0; count = omega arith; verdict = λ rest. refl }

  pub no_memory : (g : List ℕ → Verdict) (now : ℕ) (page : List ℕ) (left left' : Option (List ℕ)) → Holding g now page left → (e : AllocError) → TakesSome left left'
      → Answers f at (Err (Memory e)) page0 left0 left'
  no_memory g now page left left' h e s =
      record { read = h.hands.read ++ s.0; takes = takes_both h.hands.read s.0 left0 left left' h.hands.takes s.1; answered = tt }

  module _ (g : List ℕ → Verdict) (now : ℕ) (page : List ℕ) (left : Option (List ℕ)) (h : Holding g now page left)
      (after : List ℕ → Verdict) (then : ℕ) (page' : List ℕ) (left' : Option (List ℕ)) where
    abbrev To : Step → Type 0
    To s = StepsTo g now page left after then page' left' {E = AllocError} (Ok s)

    -- the byte that a step took
    took : (b : ℕ) → Hands (b ∷ []) page left page' left' → Hands (h.taken ++ b ∷ []) page0 left0 page' left'
    took b k = hands_both h.taken page0 left0 page left h.hands (b ∷ []) page' left' k

    goes : To On → Holding after then page' left'
    goes s =
        let b = s.0 in
        let n : then ≡ now + feeds (b ∷ []) = s.1.1.0 in
        let c = h.count in
        let m = feeds_append h.taken (b ∷ []) in
        record {
          taken = h.taken ++ b ∷ [];
          hands = took b s.1.0;
          count = omega (arith, n, c, m);
          verdict = λ rest. ap f (append_assoc h.taken (b ∷ []) rest) ∙ (h.verdict (b ∷ rest) ∙ s.1.1.1 rest);
        }

    pub goes_on : (s : Step) → s ≡ On → To s → Holding after then page' left'
    goes_on s e k = goes (subst To e k)

    parts : To Parts → Answers f at (Ok (Differs then)) page0 left0 left'
    parts s =
        let b = s.0 in
        settled f at (h.taken ++ b ∷ []) page0 left0 page' left' (took b s.1.0) (Differs then)
        (λ more c. ap f (append_assoc h.taken (b ∷ []) (page' ++ more)) ∙ (h.verdict (b ∷ (page' ++ more)) ∙ s.1.1 (page' ++ more))) tt

    pub differs_there : (s : Step) → s ≡ Parts → To s → Answers f at (Ok (Differs then)) page0 left0 left'
    differs_there s e k = parts (subst To e k)

    -- so much was handed on where a step took nothing
    so_far : Stays g now page left after then page' left' → Hands h.taken page0 left0 [] left'
    so_far s = hands_still h.taken page0 left0 page left h.hands [] left' s.0

    ends : To End → (r : Result Told ReplayFault) → EndsWith (after []) r → Answers f at r page0 left0 left'
    ends s r e = ended f at h.taken page0 left0 left' (so_far s.0) s.1 (after []) (h.verdict [] ∙ s.0.1.1 []) r e

    pub ends_there : (s : Step) → s ≡ End → To s → (r : Result Told ReplayFault) → EndsWith (after []) r → Answers f at r page0 left0 left'
    ends_there s e k = ends (subst To e k)

    faults : ((rest : List ℕ) (k : ℕ) → after rest ≡ differs k → then ≤ k) → To Fault → Answers f at (Err Book) page0 left0 left'
    faults late s =
        let n : then ≡ now = s.1.0 in
        let c = h.count in
        faulted f at h.taken page0 left0 left' (so_far s)
        (λ more k d. let l : then ≤ k = late more k (sym (h.verdict more ∙ s.1.1 more) ∙ d) in omega (arith, l, n, c))

    pub faults_there : (s : Step) → s ≡ Fault → ((rest : List ℕ) (k : ℕ) → after rest ≡ differs k → then ≤ k) → To s → Answers f at (Err Book) page0 left0 left'
    faults_there s e late k = faults late (subst To e k)

-- what is said of what comes behind a front is said of all
module _ (f g : List ℕ → Verdict) (at now : ℕ) (front page : List ℕ) (left : Option (List ℕ)) (page' : List ℕ) (left' left'' : Option (List ℕ)) (h : Hands front page left page' left')
    (count : now ≡ at + feeds front) (same_verdict : (more : List ℕ) → f (front ++ (page' ++ more)) ≡ g (page' ++ more)) where
  pub moved : (r : Result Told ReplayFault) → Answers g now r page' left' left'' → Answers f at r page left left''
  moved r a = record { read = h.read ++ a.read; takes = takes_both h.read a.read left left' left'' h.takes a.takes; answered = there r a.answered }
    where
      all_is : page ++ (h.read ++ a.read) ≡ front ++ (page' ++ a.read)
      all_is = all_parts front page left page' left' h a.read

      alike : (more : List ℕ) → f ((page ++ (h.read ++ a.read)) ++ more) ≡ g ((page' ++ a.read) ++ more)
      alike more =
          ap (λ (z : List ℕ). f (z ++ more)) all_is
          ∙ (ap f (append_assoc front (page' ++ a.read) more ∙ ap (λ (z : List ℕ). front ++ z) (append_assoc page' a.read more))
          ∙ (same_verdict (a.read ++ more) ∙ ap g (sym (append_assoc page' a.read more))))

      there : (r : Result Told ReplayFault) → Answered g now r (page' ++ a.read) left'' → Answered f at r (page ++ (h.read ++ a.read)) left''
      there (Ok v) x = (λ more c. alike more ∙ x.0 more c, x.1)
      there (Err (Memory e)) x = tt
      there (Err Book) x = λ more k d.
          let l = x more k (sym (alike more) ∙ d) in
          let n : feeds (page ++ (h.read ++ a.read)) ≡ feeds front + feeds (page' ++ a.read) = ap feeds all_is ∙ feeds_append front (page' ++ a.read) in
          omega (arith, l, n, count)

pub faults_kept : (E : Type 0) (s : Step) (old new : ℕ) → s ≡ On → AfterStep {E = E} (Ok s) old new → new ≡ old
faults_kept E s old new e h = subst (λ z. AfterStep {E = E} (Ok z) old new) e h
