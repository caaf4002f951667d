-- The reserved words: each with its number and its letters.
use Rattle.std.specs.Prelude.{ℕ, List, [], ◌∷◌, codes}
use Rattle.ql_base.specs.declared.reserved.Reserved.{Reserved}
use Rattle.ql_base.specs.declared.reserved.Reserved.TheVariants.{Nil, True, Quote, Eager, Defun, Defvar, Lambda, Qlambda, Setq, If, Progn, Let, Qlet, Catch, Qcatch, Throw, UnwindProtect, Funcall, Print, Cons, Car, Cdr, Eq, Null, Not, Atom, Consp, Numberp, Symbolp, Plus, Minus, Times, Truncate, Rem, Equal, Less, Greater, AtMost, AtLeast, Cond, And, Or, When, Unless, LetStar, List as ListWord}

-- all of them, in the order of their numbers
abbrev pub all : List Reserved
all =
    Nil ∷ True ∷ Quote ∷ Eager ∷ Defun ∷ Defvar ∷ Lambda ∷ Qlambda ∷ Setq ∷ If ∷ Progn ∷ Let ∷ Qlet ∷ Catch ∷ Qcatch ∷
    Throw ∷ UnwindProtect ∷ Funcall ∷ Print ∷ Cons ∷ Car ∷ Cdr ∷ Eq ∷ Null ∷ Not ∷ Atom ∷ Consp ∷ Numberp ∷ Symbolp ∷
    Plus ∷ Minus ∷ Times ∷ Truncate ∷ Rem ∷ Equal ∷ Less ∷ Greater ∷ AtMost ∷ AtLeast ∷ Cond ∷ And ∷ Or ∷ When ∷
    Unless ∷ LetStar ∷ ListWord ∷ []

abbrev pub number : Reserved → ℕ
number Nil = 0
number True = 1
number Quote = 2
number Eager = 3
number Defun = 4
number Defvar = 5
number Lambda = 6
number Qlambda = 7
number Setq = 8
number If = 9
number Progn = 10
number Let = 11
number Qlet = 12
number Catch = 13
number Qcatch = 14
number Throw = 15
number UnwindProtect = 16
number Funcall = 17
number Print = 18
number Cons = 19
number Car = 20
number Cdr = 21
number Eq = 22
number Null = 23
number Not = 24
number Atom = 25
number Consp = 26
number Numberp = 27
number Symbolp = 28
number Plus = 29
number Minus = 30
number Times = 31
number Truncate = 32
number Rem = 33
number Equal = 34
number Less = 35
number Greater = 36
number AtMost = 37
number AtLeast = 38
number Cond = 39
number And = 40
number Or = 41
number When = 42
number Unless = 43
number LetStar = 44
number ListWord = 45

abbrev pub letters : Reserved → List ℕ
letters Nil = codes "nil"
letters True = codes "t"
letters Quote = codes "quote"
letters Eager = codes "eager"
letters Defun = codes "defun"
letters Defvar = codes "defvar"
letters Lambda = codes "lambda"
letters Qlambda = codes "qlambda"
letters Setq = codes "setq"
letters If = codes "if"
letters Progn = codes "progn"
letters Let = codes "let"
letters Qlet = codes "qlet"
letters Catch = codes "catch"
letters Qcatch = codes "qcatch"
letters Throw = codes "throw"
letters UnwindProtect = codes "unwind-protect"
letters Funcall = codes "funcall"
letters Print = codes "print"
letters Cons = codes "cons"
letters Car = codes "car"
letters Cdr = codes "cdr"
letters Eq = codes "eq"
letters Null = codes "null"
letters Not = codes "not"
letters Atom = codes "atom"
letters Consp = codes "consp"
letters Numberp = codes "numberp"
letters Symbolp = codes "symbolp"
letters Plus = codes "+"
letters Minus = codes "-"
letters Times = codes "*"
letters Truncate = codes "truncate"
letters Rem = codes "rem"
letters Equal = codes "="
letters Less = codes "<"
letters Greater = codes ">"
letters AtMost = codes "<="
letters AtLeast = codes ">="
letters Cond = codes "cond"
letters And = codes "and"
letters Or = codes "or"
letters When = codes "when"
letters Unless = codes "unless"
letters LetStar = codes "let*"
letters ListWord = codes "list"
