-- The answer of following a book is the first line that no run goes on with.
use Rattle.std.proofs.Common.{◌≡◌, ℕ, suc, ◌+◌, ◌<◌, ◌≤◌, true, false, List, [], ◌∷◌, ◌++◌, map, length, take, Option, Some, None, refl, sym, ap, ◌∙◌, subst, ⊎_elim, arith}
use Rattle.std.specs.Prelude.{is_none, is_some, option_and_then}
use Rattle.std.specs.Str.{bytes_eq}
use Rattle.std.proofs.lemmas.Slice.Eq.{bytes_eq-Decides}
use Rattle.ql_world.specs.declared.event.Event.{Event}
use Rattle.ql_world.specs.declared.event.Event.TheVariants.{Turn as turn}
use Rattle.ql_replay.specs.Book.{Line}
use Rattle.ql_replay.specs.Replay.{Host, Verdict, same, differs, due, of_turn, next, on_next, follow}
use Rattle.ql_replay.proofs.Basics.{cases, if_some, none_of, none_or_some, then_some}
use Rattle.ql_replay.proofs.Turns.{Laws, IsWhole, whole_facts, whole_after}
use Rattle.ql_replay.proofs.Ends.{Ends, stops, turns, Stops, Goes, ends_cases, ends_somehow}

-- the lines of a text begin with these lines of a book
abbrev pub Begins : List (List ℕ) → List Line → Type 0
Begins ds [] = Unit
Begins ds (None ∷ ks) = ⊥
Begins [] (Some k ∷ ks) = ⊥
Begins (d ∷ ds) (Some k ∷ ks) = (d ≡ k) × Begins ds ks

-- P says which beginnings of a book can be followed, and E what the output is where the whole book can.
module _ (P : List Line → Type 0) (E : List Line → List ℕ → Type 0) where
  -- the first i lines can be followed, and not one more; nor is the book whole
  pub record Differs (book : List Line) (i : ℕ) : Type 0 where
    pub low : i ≤ length book
    pub so_far : P (take i book)
    pub not_on : i < length book → P (take (suc i) book) → ⊥
    pub not_whole : (out : List ℕ) → E book out → ⊥

  abbrev pub IsAnswer : (book : List Line) (at : ℕ) → Verdict → Type 0
  IsAnswer book at (same out) = E book out
  IsAnswer book at (differs k) = (i : ℕ) × ((k ≡ at + i) × Differs book i)

-- one line on
pub passes : (P Q : List Line → Type 0) (E F : List Line → List ℕ → Type 0) (x : Line) (book : List Line) (at : ℕ)
    → ((ks : List Line) → P ks → Q (x ∷ ks)) → ((ks : List Line) → Q (x ∷ ks) → P ks)
    → ((out : List ℕ) → E book out → F (x ∷ book) out) → ((out : List ℕ) → F (x ∷ book) out → E book out)
    → (v : Verdict) → IsAnswer P E book (suc at) v → IsAnswer Q F (x ∷ book) at v
passes P Q E F x book at to from whole back (same out) h = whole out h
passes P Q E F x book at to from whole back (differs k) h =
    let d = h.1.1 in
    let l : h.0 ≤ length book = d.low in
    let e : k ≡ suc at + h.0 = h.1.0 in
    let n : k ≡ at + suc h.0 = omega (arith, e) in
    let m : suc h.0 ≤ length (x ∷ book) = omega (arith, l) in (
      suc h.0,
      (
        n,
        record {
          low = m;
          so_far = to (take h.0 book) d.so_far;
          not_on = λ (i : suc h.0 < length (x ∷ book)). λ p. d.not_on (omega (arith, i)) (from (take (suc h.0) book) p);
          not_whole = λ out w. d.not_whole out (back out w);
        },
      ),
    )

pub stuck : (P : List Line → Type 0) (E : List Line → List ℕ → Type 0) (x : Line) (book : List Line) (at : ℕ) → P [] → (P (x ∷ []) → ⊥) → ((out : List ℕ) → E (x ∷ book) out → P (x ∷ []))
    → IsAnswer P E (x ∷ book) at (differs at)
stuck P E x book at p n w =
    let e : at ≡ at + 0 = omega arith in
    let l : 0 ≤ length (x ∷ book) = omega arith in
    (0, (e, record { low = l; so_far = p; not_on = λ _ q. n q; not_whole = λ out h. n (w out h) }))

pub ended : (P : List Line → Type 0) (E : List Line → List ℕ → Type 0) (at : ℕ) → P [] → ((out : List ℕ) → E [] out → ⊥) → IsAnswer P E [] at (differs at)
ended P E at p w =
    let e : at ≡ at + 0 = omega arith in
    let l : 0 ≤ 0 = omega arith in
    (0, (e, record { low = l; so_far = p; not_on = λ (i : 0 < 0). absurd (omega (arith, i)); not_whole = w }))

begins_self : (ds : List (List ℕ)) (x : Line) (ks : List Line) → x ∷ ks ≡ map Some ds → Begins ds (x ∷ [])
begins_self [] x ks h = absurd cc
begins_self (d ∷ ds) x ks h = let e : x ≡ Some d = cc in rw e (refl, tt)

module _ {W : Type 0} (host : Host W) (line : Event → List ℕ) (read : List ℕ → Option (ℕ × ℕ)) where
  -- of a run that goes on from here and tells these lines before
  abbrev pub Possible : W → List (List ℕ) → List Line → Type 0
  Possible w ds ks = (more : List (List ℕ)) × ((out : List ℕ) × (Ends host line read w more out × Begins (ds ++ more) ks))

  abbrev pub Exact : W → List (List ℕ) → List Line → List ℕ → Type 0
  Exact w ds ks out = (more : List (List ℕ)) × (Ends host line read w more out × (ks ≡ map Some (ds ++ more)))

  exact_begins : (w : W) (ds : List (List ℕ)) (x : Line) (ks : List Line) (out : List ℕ) → Exact w ds (x ∷ ks) out → Possible w ds (x ∷ [])
  exact_begins w ds x ks out h = (h.0, (out, (h.1.0, begins_self (ds ++ h.0) x ks h.1.1)))

  module _ (Good : W → Type 0) (left : W → ℕ) (laws : Laws host Good left)
      (says : (l : List ℕ) (p n : ℕ) → read l ≡ Some (p, n) → l ≡ line (turn p n))
      (reads : (w v : W) (p n : ℕ) → Good w → of_turn host w p n ≡ Some v → read (line (turn p n)) ≡ Some (p, n)) where
    possible : (w : W) (ds : List (List ℕ)) → Good w → IsWhole host line read w → Possible w ds []
    possible w ds g whole = let x = ends_somehow host line read Good left laws w g whole in (x.0, (x.1.0, (x.1.1, tt)))

    next_is : (w v : W) (p n : ℕ) → Good w → host.stop w ≡ None → of_turn host w p n ≡ Some v → next host line read w (line (turn p n)) ≡ Some v
    next_is w v p n g r t = let e = reads w v p n g t in rw (r, e) t

    pub record Next (w : W) (l : List ℕ) (v : W) : Type 0 where
      pub process : ℕ
      pub count : ℕ
      pub runs : host.stop w ≡ None
      pub turns : of_turn host w process count ≡ Some v
      pub is : l ≡ line (turn process count)

    next_facts : (w v : W) (l : List ℕ) → next host line read w l ≡ Some v → Next w l v
    next_facts w v l h =
        let x = if_some (is_none (host.stop w)) (option_and_then (λ x. of_turn host w x.0 x.1) (read l)) v h in
        let y = then_some (λ x. of_turn host w x.0 x.1) (read l) v x.1 in
        record { process = y.0.0; count = y.0.1; runs = none_of (host.stop w) x.0; turns = y.1.1; is = says l y.0.0 y.0.1 y.1.0 }

    -- a run goes on with a line only by a turn that the line tells
    goes_by : (w : W) (l : List ℕ) (ks : List Line) → Good w → Possible w [] (Some l ∷ ks) → (v : W) × ((next host line read w l ≡ Some v) × Possible v (due host line read v) ks)
    goes_by w l ks g h =
        ⊎_elim (λ (s : Stops host line read w h.0 h.1.0). absurd (subst (λ (z : List (List ℕ)). Begins z (Some l ∷ ks)) s.none h.1.1.1))
        (λ (s : Goes host line read w h.0 h.1.0).
        let b : Begins (line (turn s.process s.count) ∷ (due host line read s.after ++ s.later)) (Some l ∷ ks) = subst (λ (z : List (List ℕ)). Begins z (Some l ∷ ks)) s.is h.1.1.1 in
        (s.after, (subst (λ z. next host line read w z ≡ Some s.after) b.0 (next_is w s.after s.process s.count g s.runs s.turns), (s.later, (h.1.0, (s.ends, b.1))))))
        (ends_cases host line read w h.0 h.1.0 h.1.1.0)

    exact_by : (w : W) (l : List ℕ) (ks : List Line) (out : List ℕ) → Good w → Exact w [] (Some l ∷ ks) out → (v : W) × ((next host line read w l ≡ Some v) × Exact v (due host line read v) ks out)
    exact_by w l ks out g h =
        ⊎_elim (λ (s : Stops host line read w h.0 out). let e : Some l ∷ ks ≡ map Some h.0 = h.1.1 in let n : h.0 ≡ [] = s.none in absurd (nothing l ks h.0 n e))
        (λ (s : Goes host line read w h.0 out).
        let e : Some l ∷ ks ≡ map Some (line (turn s.process s.count) ∷ (due host line read s.after ++ s.later)) = h.1.1 ∙ ap (map Some) s.is in
        let b : line (turn s.process s.count) ≡ l = cc in
        let c : ks ≡ map Some (due host line read s.after ++ s.later) = cc in
        (s.after, (subst (λ z. next host line read w z ≡ Some s.after) b (next_is w s.after s.process s.count g s.runs s.turns), (s.later, (s.ends, c)))))
        (ends_cases host line read w h.0 out h.1.0)
      where
        nothing : (l : List ℕ) (ks : List Line) (more : List (List ℕ)) → more ≡ [] → Some l ∷ ks ≡ map Some more → ⊥
        nothing l ks [] n e = absurd cc
        nothing l ks (m ∷ more) n e = absurd cc

    empty_ends : (w : W) (out : List ℕ) → host.stop w ≡ None → Exact w [] [] out → ⊥
    empty_ends w out r h =
        ⊎_elim (λ (s : Stops host line read w h.0 out). let a = s.stopped in absurd cc)
        (λ (s : Goes host line read w h.0 out).
        let e : [] ≡ map Some (line (turn s.process s.count) ∷ (due host line read s.after ++ s.later)) = h.1.1 ∙ ap (map Some) s.is in absurd cc)
        (ends_cases host line read w h.0 out h.1.0)

    pub follow_right : (book : List Line) (w : W) (ds : List (List ℕ)) (at : ℕ) → Good w → IsWhole host line read w
        → IsAnswer (Possible w ds) (Exact w ds) book at (follow host line read w ds book at)
    follow_right [] w [] at g whole =
        ⊎_elim (λ (s : is_some (host.stop w) ≡ true). rw s ([], (stops w s, refl)))
        (λ (r : host.stop w ≡ None). rw r (ended (Possible w []) (Exact w []) at (possible w [] g whole) (λ out h. empty_ends w out r h)))
        (none_or_some (host.stop w))
    follow_right [] w (d ∷ ds) at g whole =
        ended (Possible w (d ∷ ds)) (Exact w (d ∷ ds)) at (possible w (d ∷ ds) g whole) (λ out h. let e : [] ≡ Some d ∷ map Some (ds ++ h.0) = h.1.1 in absurd cc)
    follow_right (None ∷ ls) w [] at g whole =
        stuck (Possible w []) (Exact w []) None ls at (possible w [] g whole) (λ h. h.1.1.1) (λ out h. exact_begins w [] None ls out h)
    follow_right (None ∷ ls) w (d ∷ ds) at g whole =
        stuck (Possible w (d ∷ ds)) (Exact w (d ∷ ds)) None ls at (possible w (d ∷ ds) g whole) (λ h. h.1.1.1) (λ out h. exact_begins w (d ∷ ds) None ls out h)
    follow_right (Some l ∷ ls) w [] at g whole = by_next (λ v h k. follow_right ls v (due host line read v) (suc at) h k) (next host line read w l) refl
      where
        by_next : ((v : W) → Good v → IsWhole host line read v → IsAnswer (Possible v (due host line read v)) (Exact v (due host line read v)) ls (suc at) (follow host line read v (due host line read v) ls (suc at)))
            → (o : Option W) → next host line read w l ≡ o
            → IsAnswer (Possible w []) (Exact w []) (Some l ∷ ls) at (on_next host line read at (λ v. follow host line read v (due host line read v) ls (suc at)) o)
        by_next again None e =
            stuck (Possible w []) (Exact w []) (Some l) ls at (possible w [] g whole)
            (λ h. let x = goes_by w l [] g h in let f : next host line read w l ≡ Some x.0 = x.1.0 in absurd cc) (λ out h. exact_begins w [] (Some l) ls out h)
        by_next again (Some v) e =
            let f = next_facts w v l e in
            let k = whole_facts host line read Good left laws w v f.process f.count g f.turns in
            passes (Possible v (due host line read v)) (Possible w []) (Exact v (due host line read v)) (Exact w []) (Some l) ls at
            (λ ks h. (line (turn f.process f.count) ∷ (due host line read v ++ h.0), (h.1.0, (turns w v f.process f.count h.0 h.1.0 f.runs f.turns h.1.1.0, (sym f.is, h.1.1.1)))))
            (λ ks h. let x = goes_by w l ks g h in let b : next host line read w l ≡ Some x.0 = x.1.0 in let c : x.0 ≡ v = cc in subst (λ u. Possible u (due host line read u) ks) c x.1.1)
            (λ out h. (
              line (turn f.process f.count) ∷ (due host line read v ++ h.0),
              (
                turns w v f.process f.count h.0 out f.runs f.turns h.1.0,
                let a : l ≡ line (turn f.process f.count) = f.is in let b : ls ≡ map Some (due host line read v ++ h.0) = h.1.1 in cc,
              ),
            ))
            (λ out h. let x = exact_by w l ls out g h in let b : next host line read w l ≡ Some x.0 = x.1.0 in let c : x.0 ≡ v = cc in subst (λ u. Exact u (due host line read u) ls out) c x.1.1)
            (follow host line read v (due host line read v) ls (suc at))
            (again v k.facts.good (whole_after host line read Good left laws w v f.process f.count k))
    follow_right (Some l ∷ ls) w (d ∷ ds) at g whole =
        ⊎_elim (λ (t : bytes_eq d l ≡ true).
        let e : d ≡ l = (bytes_eq-Decides d l).0 t in
        rw t (passes (Possible w ds) (Possible w (d ∷ ds)) (Exact w ds) (Exact w (d ∷ ds)) (Some l) ls at
        (λ ks h. (h.0, (h.1.0, (h.1.1.0, (e, h.1.1.1)))))
        (λ ks h. (h.0, (h.1.0, (h.1.1.0, h.1.1.1.1))))
        (λ out h. (h.0, (h.1.0, let b : ls ≡ map Some (ds ++ h.0) = h.1.1 in cc)))
        (λ out h. (h.0, (h.1.0, let b : Some l ∷ ls ≡ Some d ∷ map Some (ds ++ h.0) = h.1.1 in cc)))
        (follow host line read w ds ls (suc at)) (follow_right ls w ds (suc at) g whole)))
        (λ (t : bytes_eq d l ≡ false).
        rw t (stuck (Possible w (d ∷ ds)) (Exact w (d ∷ ds)) (Some l) ls at (possible w (d ∷ ds) g whole)
        (λ h. let e : bytes_eq d l ≡ true = (bytes_eq-Decides d l).1 h.1.1.1.0 in absurd cc) (λ out h. exact_begins w (d ∷ ds) (Some l) ls out h)))
        (cases (bytes_eq d l))
