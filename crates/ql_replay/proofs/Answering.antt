-- From the verdict on the bytes of a book to what is answered.
use Rattle.std.proofs.Common.{◌≡◌, ℕ, zero, suc, ◌+◌, ◌≤◌, ◌<◌, ◌==◌, false, List, [], ◌∷◌, ◌++◌, Option, Some, None, refl, sym, ap, ◌∙◌, subst, inl, inr, arith, append-nil}
use Rattle.std.specs.Prelude.{Result, Ok, Err}
use Rattle.std.proofs.lemmas.Bool.Decides.{nat_tests}
use Rattle.ql_world.specs.Short.{ArePrinted}
use Rattle.ql_code.specs.Code.{Code}
use Rattle.ql_code.specs.Machine.{code_told}
use Rattle.ql_host.specs.Host.{AreNames}
use Rattle.ql_replay.specs.Book.{has_feed, AreOneLine}
use Rattle.ql_replay.specs.Replay.{Verdict, same, differs, replayed}
use Rattle.ql_replay.specs.FirstDiff.{FirstDiff}
use Rattle.ql_replay.specs.Law.{IsOne, IsRight, line_of_verdict}
use Rattle.ql_replay.specs.Following.{feeds}
use Rattle.ql_replay.specs.Page.{Hands}
use Rattle.ql_replay.specs.Answer.{verdict_of, Answered, Answers, AnswersTaken, IsReadOut, IsReadToEnd, IsRightOn, IsReadOutOn, IsNotPast, Opens}
use Rattle.ql_replay.specs.declared.verdict.Verdict.{Verdict as Told}
use Rattle.ql_replay.specs.declared.verdict.Verdict.TheVariants.{Same, Differs}
use Rattle.ql_replay.specs.declared.verdict.ReplayFault.{ReplayFault}
use Rattle.ql_replay.specs.declared.verdict.ReplayFault.TheVariants.{Book, Memory}
use Rattle.ql_replay.proofs.Handing.{told_rest}
use Rattle.ql_replay.proofs.Holding.{no_feeds, faulted, moved}
use Rattle.ql_replay.proofs.Late.{replayed_late}

-- A name that can be printed is one line.
printed_clean : (name : List ℕ) → ArePrinted name → has_feed name ≡ false
printed_clean [] h = refl
printed_clean (b ∷ bs) h =
    let l : 32 ≤ b = h.0 in
    let t : (b == 10) ≡ false = grind (arith, nat_tests) in
    rw t (printed_clean bs h.2)

pub names_are_lines : (names : List (List ℕ)) → AreNames names → AreOneLine names
names_are_lines [] h n = refl
names_are_lines (x ∷ names) h zero = printed_clean x h.1
names_are_lines (x ∷ names) h (suc n) = names_are_lines names h.2 n

module _ (names : List (List ℕ)) (code : Code) (right : (book : List ℕ) → IsRight (code_told names code) book (replayed names code book)) where
  abbrev Is : Result Told ReplayFault → Option (List ℕ) → Option (List ℕ) → Type 0
  Is r left left' = Answers (replayed names code) 1 r [] left left'

  differs_there : (v : Verdict) (k : ℕ) → line_of_verdict v ≡ Some k → v ≡ differs k
  differs_there (same out) k e = absurd cc
  differs_there (differs i) k e = let s : i ≡ k = cc in ap differs s

  -- After a fault the first line that differs isn't among those that were taken whole.
  not_past : IsOne → (taken rest bytes : List ℕ) → bytes ≡ taken ++ rest → ((more : List ℕ) (k : ℕ) → replayed names code (taken ++ more) ≡ differs k → 1 + feeds taken ≤ k)
      → (k : ℕ) → FirstDiff (code_told names code) bytes (Some k) → feeds taken < k
  not_past one taken rest bytes e late k d =
      let f : line_of_verdict (replayed names code bytes) ≡ Some k = one (code_told names code) bytes _ _ (right bytes).first d in
      let g : replayed names code (taken ++ rest) ≡ differs k = ap (replayed names code) (sym e) ∙ differs_there (replayed names code bytes) k f in
      let l : 1 + feeds taken ≤ k = late rest k g in
      omega (arith, l)

  module _ (bytes : List ℕ) (left left' : Option (List ℕ)) (told : left ≡ Some bytes) where
    pub is_right_on : (r : Result Told ReplayFault) → Is r left left' → IsRightOn (code_told names code) bytes r
    is_right_on (Ok v) h =
        let x = told_rest h.read bytes left left' h.takes told in
        let e : replayed names code bytes ≡ verdict_of v = ap (replayed names code) x.1.1 ∙ h.answered.0 x.0 (inr x.1.0) in
        subst (IsRight (code_told names code) bytes) e (right bytes)
    is_right_on (Err e) h = tt

    pub is_read_out : (r : Result Told ReplayFault) → Is r left left' → IsReadOutOn r left'
    is_read_out (Ok v) h = let x = told_rest h.read bytes left left' h.takes told in read_out v left' x.0 x.1.0 h.answered.1
      where
        read_out : (v : Told) (left' : Option (List ℕ)) (rest : List ℕ) → left' ≡ Some rest → IsReadToEnd v left' → IsReadOut v left'
        read_out (Same output) None rest e end = absurd cc
        read_out (Same output) (Some x) rest e end = ap Some end
        read_out (Differs line) left' rest e end = tt
    is_read_out (Err e) h = tt

    pub is_not_past : IsOne → (r : Result Told ReplayFault) → Is r left left' → IsNotPast (code_told names code) bytes r left'
    is_not_past one (Ok v) h = tt
    is_not_past one (Err (Memory x)) h = tt
    is_not_past one (Err Book) h =
        let x = told_rest h.read bytes left left' h.takes told in
        record { taken = h.read; rest = x.0; whole = x.1.1; left = x.1.0; later = not_past one h.read x.0 bytes x.1.1 h.answered }

  -- of every book
  pub answers_taken : IsOne → (r : Result Told ReplayFault) (left left' : Option (List ℕ)) → Is r left left' → AnswersTaken (code_told names code) r left left'
  answers_taken one r left left' h = record { taken = h.read; takes = h.takes; right = right_on r h.answered; early = early_on r h.answered }
    where
      right_on : (r : Result Told ReplayFault) → Answered (replayed names code) 1 r h.read left' → IsRightOn (code_told names code) h.read r
      right_on (Ok v) a =
          let e : replayed names code h.read ≡ verdict_of v = ap (replayed names code) (sym (append-nil h.read)) ∙ a.0 [] (inl refl) in
          subst (IsRight (code_told names code) h.read) e (right h.read)
      right_on (Err e) a = tt

      early_on : (r : Result Told ReplayFault) → Answered (replayed names code) 1 r h.read left' → IsNotPast (code_told names code) h.read r (Some [])
      early_on (Ok v) a = tt
      early_on (Err (Memory x)) a = tt
      early_on (Err Book) a =
          let e : h.read ≡ h.read ++ [] = sym (append-nil h.read) in
          record { taken = h.read; rest = []; whole = e; left = refl; later = not_past one h.read [] h.read e a }

module _ (names : List (List ℕ)) (code : Code) where
  -- a fault before the first line has ended, or want of memory
  pub opened_err : (A : Type 0) (page page' : List ℕ) (left left' : Option (List ℕ)) (x : ReplayFault) → Opens {A = A} (Err x) page left page' left' → Answers (replayed names code) 1 (Err x) page left left'
  opened_err A page page' left left' Book h = faulted (replayed names code) 1 h.0 page left left' h.1.0 (λ more k d. let l = replayed_late names code (h.0 ++ more) k d in let n = h.1.1 in omega (arith, l, n))
  opened_err A page page' left left' (Memory e) h = record { read = h.0; takes = h.1; answered = tt }

  -- the answer after the first bytes
  pub opened_ok : (held page page' : List ℕ) (left left' left'' : Option (List ℕ)) (r : Result Told ReplayFault) → has_feed held ≡ false → Hands held page left page' left'
      → Answers (λ rest. replayed names code (held ++ rest)) 1 r page' left' left'' → Answers (replayed names code) 1 r page left left''
  opened_ok held page page' left left' left'' r clean h x =
      let z = no_feeds held clean in
      moved (replayed names code) (λ rest. replayed names code (held ++ rest)) 1 1 held page left page' left' left'' h (omega (arith, z)) (λ more. refl) r x
