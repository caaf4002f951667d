-- How long a generated program is.
use Rattle.std.proofs.Common.{ℕ, zero, suc, ◌+◌, ◌*◌, ◌≤◌, ◌<◌, ◌++◌, length, arith, length-append}
use Rattle.std.proofs.lemmas.Fmt.{length-decimal-le}
use Rattle.std.specs.Prelude.{decimal}
use Rattle.ql_vectors.specs.declared.block.Block.{Block}
use Rattle.ql_vectors.specs.declared.block.Block.TheVariants.{Variable, Awaited, Future, Thrown}
use Rattle.ql_vectors.specs.GenText.{next_state, block_of, line, lines, gen_text, head, last}

line_is_short : (b : Block) (i : ℕ) → i < 10000 → length (line b i) ≤ 64
line_is_short Variable i h = let d = length-decimal-le 4 i (omega arith) (omega (arith, h)) (omega (arith, h)) in omega (arith, d, length-append (decimal i))
line_is_short Awaited i h = let d = length-decimal-le 4 i (omega arith) (omega (arith, h)) (omega (arith, h)) in omega (arith, d, length-append (decimal i))
line_is_short Future i h = let d = length-decimal-le 4 i (omega arith) (omega (arith, h)) (omega (arith, h)) in omega (arith, d, length-append (decimal i))
line_is_short Thrown i h = let d = length-decimal-le 4 i (omega arith) (omega (arith, h)) (omega (arith, h)) in omega (arith, d, length-append (decimal i))

lines_are_short : (x i n : ℕ) → i + n ≤ 10000 → length (lines x i n) ≤ 64 * n
lines_are_short x i zero h = omega arith
lines_are_short x i (suc n) h =
    let y : ℕ = next_state x in
    omega (arith, h, length-append (line (block_of y) i) (lines y (i + 1) n), line_is_short (block_of y) i (omega (arith, h)), lines_are_short y (i + 1) n (omega (arith, h)))

pub text_is_short : (seed size : ℕ) → size ≤ 3000 → length (gen_text seed size) ≤ 1048576
text_is_short seed size h =
    omega (arith, h, length-append head (lines seed 1 size ++ last), length-append (lines seed 1 size) last, lines_are_short seed 1 size (omega (arith, h)))
