-- The leftmost of the words on top of a stack, and what a call waits for.
use Rattle.std.proofs.Common.{◌≡◌, ◌-◌, ◌==◌, refl, sym, ap, ◌∙◌, ℕ, zero, suc, Bool, true, false, List, [], ◌∷◌, ◌++◌, length, Option, Some, None, arith, ⊎_elim, inl, inr, length-append}
use Rattle.std.specs.Prelude.{◌⊎◌, option_to_list}
use Rattle.ql_world.specs.declared.word.Word.{Word}
use Rattle.ql_world.specs.declared.word.Word.TheVariants.{Proc as process_closure}
use Rattle.ql_world.specs.declared.word.Slot.TheVariants.{Val as plain, Cell as boxed}
use Rattle.ql_world.specs.Word.{first_future}
use Rattle.ql_world.specs.Machine.{Want, sends}
use Rattle.ql_world.specs.Touch.{await_or}
use Rattle.ql_code.specs.Machine.{Item, slot, mark, words, call_want}
use Rattle.ql_proc.specs.Looks.{IsFirst}
use Rattle.ql_proc.specs.Slots.{HasWords}
use Rattle.ql_host.specs.Ready.{waits_of, for_nothing}
use Rattle.ql_host.specs.Waiting.{waits_or, send_waits}

-- one word fewer is there too
pub fewer : (n : ℕ) (st : List Item) → HasWords (suc n) st → HasWords n st
fewer zero st h = refl
fewer (suc n) [] h = absurd (omega (arith, h))
fewer (suc n) (mark k ∷ st) h = absurd (omega (arith, h))
fewer (suc n) (slot (boxed b) ∷ st) h = absurd (omega (arith, h))
fewer (suc n) (slot (plain w) ∷ st) h =
    let inner : HasWords (suc n) st = omega (arith, h, length-append (words (suc n) st) (w ∷ [])) in
    let e : HasWords n st = fewer n st inner in
    omega (arith, e, length-append (words n st) (w ∷ []))

pub not_fewer : (n : ℕ) (st : List Item) → HasWords (suc n) st → words n st ≡ words (suc n) st → ⊥
not_fewer n st h e =
    let l : length (words n st) ≡ length (words (suc n) st) = ap length e in
    omega (arith, h, fewer n st h, l)

smaller : (a b : ℕ) → (suc a == suc b) ≡ false → (a == b) ≡ false
smaller a b h = grind (arith, h)

-- where some of them aren't words, one more is none
pub no_more : (n : ℕ) (st : List Item) → (length (words n st) == n) ≡ false → words (suc n) st ≡ words n st
no_more zero st h = absurd cc
no_more (suc n) [] h = refl
no_more (suc n) (mark k ∷ st) h = refl
no_more (suc n) (slot (boxed b) ∷ st) h = refl
no_more (suc n) (slot (plain w) ∷ st) h =
    let l : length (words n st ++ w ∷ []) ≡ suc (length (words n st)) = omega (arith, length-append (words n st) (w ∷ [])) in
    ap (λ ws. ws ++ w ∷ []) (no_more n st (smaller (length (words n st)) n (rw l at h)))

pub one_down : (n : ℕ) (st : List Item) (ws : List Word) → (length (words n st) == n) ≡ false → words (suc n) st ≡ ws → words (suc (n - 1)) st ≡ ws
one_down zero st ws h e = absurd cc
one_down (suc n) st ws h e =
    let s : suc (suc n - 1) ≡ suc n = omega arith in
    ap (λ k. words k st) s ∙ sym (no_more (suc n) st h) ∙ e

-- the word under all but one is the leftmost
pub lowest_is : (n : ℕ) (st : List Item) (o : Option Word) → HasWords (suc n) st → option_to_list o ++ words n st ≡ words (suc n) st → IsFirst o (words (suc n) st)
lowest_is n st None h e = absurd (omega (arith, h, fewer n st h, ap length e))
lowest_is n st (Some w) h e = (words n st, sym e)

await_waits : (o : Option ℕ) (at : ℕ) (want : Want) → waits_of want ≡ for_nothing → waits_or o for_nothing ≡ waits_of (await_or o at want)
await_waits None at want e = sym e
await_waits (Some f) at want e = refl

-- one more word, or none
more_words : (n : ℕ) (st : List Item) → (words (suc n) st ≡ words n st) ⊎ ((w : Word) × (words (suc n) st ≡ w ∷ words n st))
more_words zero [] = inl refl
more_words zero (mark k ∷ st) = inl refl
more_words zero (slot (boxed b) ∷ st) = inl refl
more_words zero (slot (plain w) ∷ st) = inr (w, refl)
more_words (suc n) [] = inl refl
more_words (suc n) (mark k ∷ st) = inl refl
more_words (suc n) (slot (boxed b) ∷ st) = inl refl
more_words (suc n) (slot (plain w) ∷ st) =
    ⊎_elim
    (λ (e : words (suc n) st ≡ words n st). inl (ap (λ ws. ws ++ w ∷ []) e))
    (λ (e : (v : Word) × (words (suc n) st ≡ v ∷ words n st)). inr (e.0, ap (λ ws. ws ++ w ∷ []) e.1))
    (more_words n st)

future_in_rest : (n k : ℕ) (st : List Item) (rest : List Word) → words (suc n) st ≡ process_closure k ∷ rest → first_future (words n st) ≡ first_future rest
future_in_rest n k st rest e =
    ⊎_elim
    (λ (s : words (suc n) st ≡ words n st). ap first_future (sym s ∙ e))
    (λ (s : (w : Word) × (words (suc n) st ≡ w ∷ words n st)). let z : s.0 ∷ words n st ≡ process_closure k ∷ rest = sym s.1 ∙ e in let r : words n st ≡ rest = cc in ap first_future r)
    (more_words n st)

-- what a call of a process closure waits for
pub sends_waits : (cleans : Bool) (n k : ℕ) (st : List Item) (rest : List Word) → words (suc n) st ≡ process_closure k ∷ rest → (used : Bool) (at : ℕ)
    → send_waits cleans (words n st) ≡ waits_of (call_want cleans used (words (suc n) st) at)
sends_waits true n k st rest e used at = ap (λ ws. waits_of (call_want true used ws at)) (sym e)
sends_waits false n k st rest e used at =
    ap (λ o. waits_or o for_nothing) (future_in_rest n k st rest e)
    ∙ await_waits (first_future rest) at (sends k rest used at) refl
    ∙ ap (λ ws. waits_of (call_want false used ws at)) (sym e)
