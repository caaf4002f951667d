-- Turns of eager process closures.
use Rattle.std.proofs.Common.{◌≡◌, ◌<◌, ℕ, zero, suc, ◌+◌, ◌-◌, List, [], ◌∷◌, ◌++◌, length, map, refl, sym, ap, ◌∙◌, append_assoc, arith}
use Rattle.std.proofs.lemmas.List.{length-map}
use Rattle.ql_world.specs.World.{numbers}
use Rattle.ql_world.specs.declared.word.Word.{Word}
use Rattle.ql_world.specs.declared.word.Word.TheVariants.{Fut as future}
use Rattle.ql_world.specs.Tick.{words_boxed}
use Rattle.ql_code.specs.Code.{unmasked}
use Rattle.ql_host.specs.declared.turns.Turn.{Turn}
use Rattle.ql_host.specs.Turns.{IsTurn}

-- one more of so many numbers
pub numbers_next : (first count n : ℕ) → n < count → numbers (first + n) (count - n) ≡ (first + n) ∷ numbers (first + (n + 1)) (count - (n + 1))
numbers_next first count n h =
    let e : count - n ≡ suc (count - (n + 1)) = omega (arith, h) in
    let f : first + (n + 1) ≡ first + n + 1 = omega arith in
    rw (e, f) refl

pub numbers_more : (first count n : ℕ) (made : List ℕ) → n < count → made ++ numbers (first + n) (count - n) ≡ numbers first count
    → (made ++ (first + n) ∷ []) ++ numbers (first + (n + 1)) (count - (n + 1)) ≡ numbers first count
numbers_more first count n made h e =
    append_assoc made ((first + n) ∷ []) (numbers (first + (n + 1)) (count - (n + 1)))
    ∙ ap (λ is. made ++ is) (sym (numbers_next first count n h))
    ∙ e

pub numbers_length : (first n : ℕ) → length (numbers first n) ≡ n
numbers_length first zero = refl
numbers_length first (suc n) = ap suc (numbers_length (first + 1) n)

pub is_turn : (first count mask : ℕ) (turn : Turn) → turn.futures.items ≡ numbers first count → turn.words.items ≡ map future turn.futures.items
    → turn.stored.items ≡ words_boxed (unmasked (length turn.words.items) mask) turn.words.items → IsTurn first count mask turn
is_turn first count mask turn f w s =
    let e : turn.words.items ≡ map future (numbers first count) = w ∙ ap (λ is. map future is) f in
    record {
      futures = f;
      words = e;
      stored = s
          ∙ ap (λ (ws : List Word). words_boxed (unmasked (length ws) mask) ws) e
          ∙ ap (λ n. words_boxed (unmasked n mask) (map future (numbers first count))) (length-map (numbers first count) future ∙ numbers_length first count);
    }

-- one word, and one future, for each parameter
pub turn_words : (first count mask : ℕ) (turn : Turn) → IsTurn first count mask turn → length turn.words.items ≡ count
turn_words first count mask turn h = ap length h.words ∙ length-map (numbers first count) future ∙ numbers_length first count

pub turn_futures : (first count mask : ℕ) (turn : Turn) → IsTurn first count mask turn → length turn.futures.items ≡ count
turn_futures first count mask turn h = ap length h.futures ∙ numbers_length first count
