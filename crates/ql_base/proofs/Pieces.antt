-- What is left of bytes once a front of them was given.
use Rattle.std.proofs.Common.{◌≡◌, ℕ, ◌<◌, ◌≤◌, List, [], ◌∷◌, ◌++◌, length, take, drop, min, sym, ap, ◌∙◌, arith}
use Rattle.std.proofs.lemmas.List.{take-append-drop, length-take-le}
use Rattle.std.proofs.Math.Seq.{drop-nil}

-- where a piece may have a byte, an empty front was all that was left
nothing_left : (rest : List ℕ) (n piece room : ℕ) → 1 ≤ piece → n ≡ min (min (length rest) piece) room → take n rest ≡ [] → 0 < room → drop n rest ≡ []
nothing_left [] n piece room p e f r = drop-nil n
nothing_left (x ∷ rest) n piece room p e f r =
    let m : n ≤ length (x ∷ rest) = omega arith in
    let len : length (take n (x ∷ rest)) ≡ n = length-take-le n (x ∷ rest) m in
    let none : n ≡ 0 = sym len ∙ ap length f in
    absurd (omega arith)

-- a front that is empty only where there is nothing or no room is what was next
pub front_is_next : (bytes buf : List ℕ) (at n piece room : ℕ) → 1 ≤ piece → n ≡ min (min (length (drop at bytes)) piece) room → take n buf ≡ take n (drop at bytes) → (drop at bytes ≡ take n buf ++ drop n (drop at bytes)) × (take n buf ≡ [] → 0 < room → drop n (drop at bytes) ≡ [])
front_is_next bytes buf at n piece room p e t = (
  sym (take-append-drop n (drop at bytes)) ∙ ap (λ k. k ++ drop n (drop at bytes)) (sym t),
  λ f r. nothing_left (drop at bytes) n piece room p e (sym t ∙ f) r,
)
