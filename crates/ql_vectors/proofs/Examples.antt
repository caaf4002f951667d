-- Generated programs, computed.
use Rattle.std.proofs.Common.{◌≡◌, ◌∷◌, [], ◌++◌, refl, arith}
use Rattle.std.proofs.lemmas.Fmt.{decimal_digit}
use Rattle.std.specs.Prelude.{codes, decimal}
use Rattle.ql_vectors.specs.GenText.{gen_text, head, last}

one_block : gen_text 0 1 ≡ head ++ codes "(funcall acc (let ((a 1)) a))\n" ++ last
one_block =
    let one : decimal 1 ≡ 49 ∷ [] = decimal_digit 1 (omega arith) in
    rw one refl

each_block :
    gen_text 6 4 ≡
    head
    ++ codes "(funcall acc (let ((a 1)) a))\n"
    ++ codes "(funcall acc (qlet 'eager ((a 2)) (+ a 0)))\n"
    ++ codes "(funcall acc (catch 'k (qlet t ((a (throw 'k 3))) a)))\n"
    ++ codes "(funcall acc (qlet t ((a (fib 5)) (b 4)) (+ b (- a 5))))\n"
    ++ last
each_block =
    let one : decimal 1 ≡ 49 ∷ [] = decimal_digit 1 (omega arith) in
    let two : decimal 2 ≡ 50 ∷ [] = decimal_digit 2 (omega arith) in
    let three : decimal 3 ≡ 51 ∷ [] = decimal_digit 3 (omega arith) in
    let four : decimal 4 ≡ 52 ∷ [] = decimal_digit 4 (omega arith) in
    rw (one, two, three, four) refl
