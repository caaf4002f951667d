-- The lines of a generated program, written one after another.
use Rattle.std.proofs.Common.{◌≡◌, ℕ, suc, ◌+◌, ◌-◌, ◌≤◌, List, ◌++◌, sym, ap, ◌∙◌, arith, append_assoc}
use Rattle.ql_vectors.specs.declared.block.Block.{Block}
use Rattle.ql_vectors.specs.GenText.{next_state, block_of, line, lines}

-- what stands in the text and the lines that are left are one text, also after the next line
pub next_line : (x y i size : ℕ) (b : Block) (text new all : List ℕ) → i ≤ size → text ++ lines x i (size + 1 - i) ≡ all
    → y ≡ next_state x → b ≡ block_of y → new ≡ text ++ line b i
    → new ++ lines y (i + 1) (size + 1 - (i + 1)) ≡ all
next_line x y i size b text new all in_range h y_is b_is new_is =
    let left : ℕ = size + 1 - (i + 1) in
    let more : size + 1 - i ≡ suc left = omega (arith, in_range) in
    let z : ℕ = next_state x in
    let written : new ≡ text ++ line (block_of z) i = new_is ∙ ap (λ c. text ++ line c i) (b_is ∙ ap block_of y_is) in
    ap (λ w. new ++ lines w (i + 1) left) y_is
    ∙ ap (λ t. t ++ lines z (i + 1) left) written
    ∙ append_assoc text (line (block_of z) i) (lines z (i + 1) left)
    ∙ ap (λ n. text ++ lines x i n) (sym more)
    ∙ h
