-- The program that a seed and a size generate: three lines that declare an accumulator and a function, a line for each
-- block, and a line that prints the sum.
use Rattle.std.specs.Prelude.{ℕ, zero, suc, ◌+◌, ◌*◌, ◌/◌, ◌%◌, ◌^◌, List, [], ◌++◌, codes, decimal}
use Rattle.ql_vectors.specs.declared.block.Block.{Block}
use Rattle.ql_vectors.specs.declared.block.Block.TheVariants.{Variable, Awaited, Future, Thrown}

abbrev pub head : List ℕ
head =
    codes "(defvar total 0)\n"
    ++ codes "(defvar acc (qlambda t (n) (setq total (+ total n))))\n"
    ++ codes "(defun fib (n) (if (< n 2) n (+ (fib (- n 1)) (fib (- n 2)))))\n"

abbrev pub last : List ℕ
last = codes "(print total)\n"

-- the state after another
abbrev pub next_state : ℕ → ℕ
next_state x = (x * 6364136223846793005 + 1442695040888963407) % 2 ^ 64

-- the block with a number below 4, and the last one for any other
abbrev pub numbered : ℕ → Block
numbered zero = Variable
numbered (suc zero) = Awaited
numbered (suc (suc zero)) = Future
numbered (suc (suc (suc n))) = Thrown

-- the block that a state below 2 ^ 64 chooses
abbrev pub block_of : ℕ → Block
block_of x = numbered (x / 2 ^ 62)

-- the line of a block that sends i
abbrev pub line : Block → (i : ℕ) → List ℕ
line Variable i = codes "(funcall acc (let ((a " ++ decimal i ++ codes ")) a))\n"
line Awaited i = codes "(funcall acc (qlet t ((a (fib 5)) (b " ++ decimal i ++ codes ")) (+ b (- a 5))))\n"
line Future i = codes "(funcall acc (qlet 'eager ((a " ++ decimal i ++ codes ")) (+ a 0)))\n"
line Thrown i = codes "(funcall acc (catch 'k (qlet t ((a (throw 'k " ++ decimal i ++ codes "))) a)))\n"

-- the lines of the next n blocks after the state x, the first of which sends i
abbrev pub lines : (x i n : ℕ) → List ℕ
lines x i zero = []
lines x i (suc n) = line (block_of (next_state x)) i ++ lines (next_state x) (i + 1) n

abbrev pub gen_text : (seed size : ℕ) → List ℕ
gen_text seed size = head ++ lines seed 1 size ++ last
