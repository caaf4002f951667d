-- A book whose opening was read.
use Rattle.std.proofs.Common.{◌≡◌, ℕ, ◌==◌, true, false, Bool, List, [], ◌∷◌, ◌++◌, drop, length, ◌≤◌, ◌⊎◌, Option, Some, None, refl, sym, ap, ◌∙◌, subst, arith, append-nil, eq-eqb}
use Rattle.std.specs.Prelude.{Result, Ok, Err, Vec, IsErr, is_some, not, alloc_error}
use Rattle.std.specs.Result.{IsErrAnd}
use Rattle.ql_base.specs.declared.limits.Limits.{Limits}
use Rattle.ql_base.specs.Limits.{usual}
use Rattle.ql_world.specs.declared.event.Head.{Head}
use Rattle.ql_world.specs.World.{World}
use Rattle.ql_code.specs.Code.{Code}
use Rattle.ql_code.specs.Machine.{Point, Entry, code_machine, code_world}
use Rattle.ql_replay.specs.Book.{head_in, turn_in, has_feed}
use Rattle.ql_replay.specs.FirstDiff.{limits_of}
use Rattle.ql_replay.specs.Replay.{Verdict, ahead, host_of, is_usable, plain_verdict, headed_verdict, replayed}
use Rattle.ql_replay.specs.Page.{IsAtEnd, first_of, TakesSome, Hands, Peeks}
use Rattle.ql_replay.specs.Answer.{Answers, EndsWith, IsOpening, Opens, head_before}
use Rattle.ql_replay.specs.Running.{Run, host_in, line_in}
use Rattle.ql_replay.specs.declared.verdict.Verdict.{Verdict as Told}
use Rattle.ql_replay.specs.declared.verdict.Verdict.TheVariants.{Differs}
use Rattle.ql_replay.specs.declared.verdict.ReplayFault.{ReplayFault}
use Rattle.ql_replay.specs.declared.verdict.ReplayFault.TheVariants.{Memory}
use Rattle.ql_replay.specs.declared.page.Next.{Next}
use Rattle.ql_replay.specs.declared.page.Next.TheVariants.{Byte, End, Fault}
use Rattle.ql_replay.proofs.Basics.{if_some, same_number}
use Rattle.ql_replay.proofs.Pages.{none_first, some_first}
use Rattle.ql_replay.proofs.Handing.{hands_nothing, hands_one, hands_still, hands_none_left}
use Rattle.ql_replay.proofs.Holding.{moved, settled, ended}
use Rattle.ql_replay.proofs.Openings.{headed_is, unusable_is, plain_is, unended}

-- ---- the run before its first tick

module _ (r : Run) (code : Code) (names : List (List ℕ)) (limits : Limits) (texts : Bool) (c : r.host.code ≡ code) (n : r.host.names ≡ names) (l : r.host.limits ≡ limits) (w : r.host.world ≡ code_world code) (t : r.texts ≡ texts) where
  begun : (held rest : List ℕ) (at : ℕ)
      → ahead (host_in r) (line_in r.texts) turn_in r.host.world 0 held rest at
      ≡ ahead (host_of (code_machine code.instructions) names limits) (line_in texts) turn_in (code_world code) 0 held rest at
  begun held rest at =
      ap (λ (z : World Point Entry). ahead (host_in r) (line_in r.texts) turn_in z 0 held rest at) w
      ∙ (ap (λ (z : Bool). ahead (host_in r) (line_in z) turn_in (code_world code) 0 held rest at) t
      ∙ (ap (λ (z : Code). ahead (host_of (code_machine z.instructions) r.host.names r.host.limits) (line_in texts) turn_in (code_world code) 0 held rest at) c
      ∙ (ap (λ (z : List (List ℕ)). ahead (host_of (code_machine code.instructions) z r.host.limits) (line_in texts) turn_in (code_world code) 0 held rest at) n
      ∙ ap (λ (z : Limits). ahead (host_of (code_machine code.instructions) names z) (line_in texts) turn_in (code_world code) 0 held rest at) l)))

module _ (r : Run) (code : Code) (names : List (List ℕ)) (h : Head) (c : r.host.code ≡ code) (n : r.host.names ≡ names) (l : r.host.limits ≡ limits_of h) (w : r.host.world ≡ code_world code) (t : r.texts ≡ true)
    (usable : is_usable h ≡ true) where
  headed_there : (rest : List ℕ) → headed_verdict names code h rest ≡ ahead (host_in r) (line_in r.texts) turn_in r.host.world 0 [] rest 2
  headed_there rest = rw usable (sym (begun r code names (limits_of h) true c n l w t [] rest 2))

  pub headed_answers : (held : List ℕ) → held ≡ [] → (result : Result Told ReplayFault) (page : List ℕ) (left left' : Option (List ℕ))
      → Answers (λ rest. ahead (host_in r) (line_in r.texts) turn_in r.host.world 0 held rest 2) 2 result page left left' → Answers (λ rest. headed_verdict names code h rest) 2 result page left left'
  headed_answers held e result page left left' x =
      moved (λ rest. headed_verdict names code h rest) (λ rest. ahead (host_in r) (line_in r.texts) turn_in r.host.world 0 held rest 2) 2 2 [] page left page left left' (hands_nothing page left) (omega arith)
      (λ more. headed_there (page ++ more) ∙ ap (λ (z : List ℕ). ahead (host_in r) (line_in r.texts) turn_in r.host.world 0 z (page ++ more) 2) (sym e)) result x

module _ (r : Run) (code : Code) (names : List (List ℕ)) (c : r.host.code ≡ code) (n : r.host.names ≡ names) (l : r.host.limits ≡ usual) (w : r.host.world ≡ code_world code) (t : r.texts ≡ false) (held : List ℕ) where
  pub plain_there : (rest : List ℕ) → plain_verdict names code (held ++ rest) ≡ ahead (host_in r) (line_in r.texts) turn_in r.host.world 0 held rest 1
  plain_there rest = sym (begun r code names usual false c n l w t held rest 1)

-- the same verdict by another function, on all that may come
pub same_answers : (f g : List ℕ → Verdict) (at now : ℕ) → now ≡ at → ((rest : List ℕ) → f rest ≡ g rest) → (result : Result Told ReplayFault) (page : List ℕ) (left left' : Option (List ℕ))
    → Answers g now result page left left' → Answers f at result page left left'
same_answers f g at now e same result page left left' x =
    moved f g at now [] page left page left left' (hands_nothing page left) (omega (arith, e)) (λ more. same (page ++ more)) result x

-- ---- after the opening

module _ (names : List (List ℕ)) (code : Code) (held page : List ℕ) (left left' : Option (List ℕ))
    (clean : has_feed held ≡ false) (opening : IsOpening held (first_of page) left) where
  abbrev Is : Result Told ReplayFault → Type 0
  Is result = Answers (λ rest. replayed names code (held ++ rest)) 1 result page left left'

  module _ (feed : first_of page ≡ Some 10) (h : Head) (head : head_in held ≡ Some h) where
    pub is_headed : (result : Result Told ReplayFault) (after : List ℕ) → after ≡ drop 1 page → Answers (λ rest. headed_verdict names code h rest) 2 result after left left'
        → Is result
    is_headed result after e answers =
        moved (λ rest. replayed names code (held ++ rest)) (λ rest. headed_verdict names code h rest) 1 2 (10 ∷ []) page left after left left'
        (hands_one [] page left page left (hands_nothing page left) 10 after feed e) (omega arith) (λ more. headed_is names code held (after ++ more) clean h head) result answers

    pub is_unusable : is_usable h ≡ false → Answers (λ rest. replayed names code (held ++ rest)) 1 (Ok (Differs 1)) page left left
    is_unusable u =
        let x = some_first page 10 feed in
        settled (λ rest. replayed names code (held ++ rest)) 1 [] page left page left (hands_nothing page left) (Differs 1)
        (λ more c. ap (λ (z : List ℕ). replayed names code (held ++ (z ++ more))) x.1 ∙ unusable_is names code held (x.0 ++ more) clean h head u) tt

  -- It goes on without a head line.
  pub is_headless : (result : Result Told ReplayFault) (b : ℕ) → first_of page ≡ Some b → (first_of page ≡ Some 10 → head_in held ≡ None)
      → Answers (λ rest. plain_verdict names code (held ++ rest)) 1 result page left left' → Is result
  is_headless result b some none answers =
      let x = some_first page b some in
      let o : (b ≡ 10) ⊎ (200 ≤ length held) = subst (λ (n : Option ℕ). IsOpening held n left) some opening in
      let n : b ≡ 10 → head_in held ≡ None = λ e. none (some ∙ ap Some e) in
      moved (λ rest. replayed names code (held ++ rest)) (λ rest. plain_verdict names code (held ++ rest)) 1 1 [] page left page left left' (hands_nothing page left) (omega arith)
      (λ more. ap (λ (z : List ℕ). replayed names code (held ++ (z ++ more))) x.1
      ∙ (plain_is names code held b (x.0 ++ more) clean o n ∙ ap (λ (z : List ℕ). plain_verdict names code (held ++ (z ++ more))) (sym x.1))) result answers

  -- It has ended, and is read no more.
  pub is_ended : (result : Result Told ReplayFault) → first_of page ≡ None → EndsWith (replayed names code held) result
      → Answers (λ rest. replayed names code (held ++ rest)) 1 result page left left
  is_ended result none s =
      let n = none_first page none in
      let end : IsAtEnd left = subst (λ (o : Option ℕ). IsOpening held o left) none opening in
      ended (λ rest. replayed names code (held ++ rest)) 1 [] page left left (hands_none_left [] page left page left (hands_nothing page left) n) end (replayed names code held)
      (ap (replayed names code) (append-nil held)) result s

pub some_before : (next : Option ℕ) (held : List ℕ) (h : Head) → head_before next held ≡ Some h → (next ≡ Some 10) × (head_in held ≡ Some h)
some_before None held h e = absurd cc
some_before (Some b) held h e =
    let x = if_some (b == 10) (head_in held) h e in
    (ap Some (same_number b 10 x.0), x.1)

pub none_before : (next : Option ℕ) (held : List ℕ) → head_before next held ≡ None → next ≡ Some 10 → head_in held ≡ None
none_before None held e t = absurd cc
none_before (Some b) held e t = let s : b ≡ 10 = cc in let u : (b == 10) ≡ true = eq-eqb b 10 s in rw u at e

-- where no other bytes come
module _ (names : List (List ℕ)) (code : Code) where
  pub alone : (held : List ℕ) (v : Verdict) (result : Result Told ReplayFault) → has_feed held ≡ false → plain_verdict names code (held ++ []) ≡ v → EndsWith v result → EndsWith (replayed names code held) result
  alone held v result clean e s =
      let there : replayed names code held ≡ v = unended names code held clean ∙ (ap (plain_verdict names code) (sym (append-nil held)) ∙ e) in
      subst (λ z. EndsWith z result) (sym there) s

-- what a look at the next byte told
pub some_next : (next : Option ℕ) (ends : Bool) → is_some next ≡ not ends → ends ≡ false → (b : ℕ) × (next ≡ Some b)
some_next None false is e = absurd cc
some_next None true is e = absurd cc
some_next (Some b) ends is e = (b, refl)

pub none_next : (next : Option ℕ) (ends : Bool) → is_some next ≡ not ends → ends ≡ true → next ≡ None
none_next None ends is e = refl
none_next (Some b) true is e = absurd cc
none_next (Some b) false is e = absurd cc

-- ---- the opening

-- no memory for one byte more
pub opens_memory : {A : Type 0} (result : Result (Vec ℕ A) ReplayFault) (page : List ℕ) (left : Option (List ℕ)) (page' : List ℕ) (left' : Option (List ℕ))
    → IsErr result × IsErrAnd result (λ e. e ≡ Memory alloc_error) → TakesSome left left' → Opens result page left page' left'
opens_memory (Ok held) page left page' left' h s = let no = h.0 in absurd cc
opens_memory {A} (Err e) page left page' left' h s = subst (λ x. Opens {A = A} (Err x) page left page' left') (sym h.1) s

module _ (held page0 : List ℕ) (left0 : Option (List ℕ)) (page : List ℕ) (left : Option (List ℕ)) (page' : List ℕ) (left' : Option (List ℕ))
    (h : Hands held page0 left0 page left) where
  -- A byte is next that is no part of the opening.
  pub opens_before : (b : ℕ) → Hands [] page left page' left' × (first_of page' ≡ Some b) → (b ≡ 10) ⊎ (200 ≤ length held)
      → Hands held page0 left0 page' left' × IsOpening held (first_of page') left'
  opens_before b p o = (hands_still held page0 left0 page left h page' left' p.0, subst (λ (n : Option ℕ). IsOpening held n left') (sym p.1) o)

  -- The book has ended.
  pub opens_whole : (n : Next) → Peeks n page left page' left' → ((b : ℕ) → n ≡ Byte b → Prim.⊥) → (n ≡ Fault → Prim.⊥)
      → Hands held page0 left0 page' left' × IsOpening held (first_of page') left'
  opens_whole (Byte b) p none well = absurd (none b refl)
  opens_whole End p none well =
      (hands_still held page0 left0 page left h page' left' p.0, subst (λ (z : List ℕ). IsOpening held (first_of z) left') (sym p.1.0) p.1.1)
  opens_whole Fault p none well = absurd (well refl)
