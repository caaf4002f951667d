-- What the words at the head of a list are, and what parts they want.
use Rattle.std.specs.Prelude.{ℕ, Bool, true, false, Option, Some, None, slice_get}
use Rattle.ql_base.specs.Reserved.{all}
use Rattle.ql_base.specs.declared.reserved.Reserved.{Reserved}
use Rattle.ql_base.specs.declared.reserved.Reserved.TheVariants as words
use Rattle.ql_expand.specs.declared.operator.Operator.{Operator}
use Rattle.ql_expand.specs.declared.operator.Operator.TheVariants.{Constant, Quote, Defun, Defvar, Lambda, Qlambda, Setq, If, Progn, Let, Qlet, Catch, Qcatch, Throw, Protect, Funcall, Print, Unary, Binary, Sum, Difference, Product, Not, AtMost, AtLeast, Cond, And, Or, When, Unless, LetStar, List as ListOf, Call}
use Rattle.ql_expand.specs.declared.operator.Reading.{Reading}
use Rattle.ql_expand.specs.declared.operator.Reading.TheVariants.{Nothing, Datum, Forms, SugarForms, Operands, Assignment, Global, Bindings, SugarBindings, FormAndBindings, Parameters, FormAndParameters, Definition, Clauses}

-- what each reserved word is
abbrev pub reserved_operator : Reserved → Operator
reserved_operator words.Nil = Constant
reserved_operator words.True = Constant
reserved_operator words.Quote = Quote
reserved_operator words.Eager = Call
reserved_operator words.Defun = Defun
reserved_operator words.Defvar = Defvar
reserved_operator words.Lambda = Lambda
reserved_operator words.Qlambda = Qlambda
reserved_operator words.Setq = Setq
reserved_operator words.If = If
reserved_operator words.Progn = Progn
reserved_operator words.Let = Let
reserved_operator words.Qlet = Qlet
reserved_operator words.Catch = Catch
reserved_operator words.Qcatch = Qcatch
reserved_operator words.Throw = Throw
reserved_operator words.UnwindProtect = Protect
reserved_operator words.Funcall = Funcall
reserved_operator words.Print = Print
reserved_operator words.Cons = Binary
reserved_operator words.Car = Unary
reserved_operator words.Cdr = Unary
reserved_operator words.Eq = Binary
reserved_operator words.Null = Unary
reserved_operator words.Not = Not
reserved_operator words.Atom = Unary
reserved_operator words.Consp = Unary
reserved_operator words.Numberp = Unary
reserved_operator words.Symbolp = Unary
reserved_operator words.Plus = Sum
reserved_operator words.Minus = Difference
reserved_operator words.Times = Product
reserved_operator words.Truncate = Binary
reserved_operator words.Rem = Binary
reserved_operator words.Equal = Binary
reserved_operator words.Less = Binary
reserved_operator words.Greater = Binary
reserved_operator words.AtMost = AtMost
reserved_operator words.AtLeast = AtLeast
reserved_operator words.Cond = Cond
reserved_operator words.And = And
reserved_operator words.Or = Or
reserved_operator words.When = When
reserved_operator words.Unless = Unless
reserved_operator words.LetStar = LetStar
reserved_operator words.List = ListOf

-- what the word with this number is; one that isn't reserved is a function
abbrev pub operator_or_call : Option Reserved → Operator
operator_or_call None = Call
operator_or_call (Some word) = reserved_operator word

unfoldable pub operator_of : ℕ → Operator
operator_of n = operator_or_call (slice_get all n)

abbrev pub reading_of : Operator → Reading
reading_of Constant = Nothing
reading_of Quote = Datum
reading_of Defun = Definition
reading_of Defvar = Global
reading_of Lambda = Parameters
reading_of Qlambda = FormAndParameters
reading_of Setq = Assignment
reading_of If = Forms 2 (Some 3)
reading_of Progn = Forms 0 None
reading_of Let = Bindings
reading_of Qlet = FormAndBindings
reading_of Catch = Forms 1 None
reading_of Qcatch = Forms 1 None
reading_of Throw = Forms 2 (Some 2)
reading_of Protect = Forms 2 None
reading_of Funcall = Forms 1 None
reading_of Print = Forms 1 (Some 1)
reading_of Unary = Forms 1 (Some 1)
reading_of Binary = Forms 2 (Some 2)
reading_of Sum = Operands 0
reading_of Difference = Operands 1
reading_of Product = Operands 0
reading_of Not = SugarForms 1 (Some 1)
reading_of AtMost = SugarForms 2 (Some 2)
reading_of AtLeast = SugarForms 2 (Some 2)
reading_of Cond = Clauses
reading_of And = SugarForms 0 None
reading_of Or = SugarForms 0 None
reading_of When = SugarForms 1 None
reading_of Unless = SugarForms 1 None
reading_of LetStar = SugarBindings
reading_of ListOf = SugarForms 0 None
reading_of Call = Forms 0 None

-- It is a primitive of two operands in core, and of any number of them in a source.
abbrev pub is_arithmetic : Operator → Bool
is_arithmetic Sum = true
is_arithmetic Difference = true
is_arithmetic Product = true
is_arithmetic _ = false

-- It is a primitive of two operands in core.
abbrev pub takes_two : Operator → Bool
takes_two Binary = true
takes_two o = is_arithmetic o

-- the word is `nil` or `t`
abbrev pub is_constant : Operator → Bool
is_constant Constant = true
is_constant _ = false

-- the word can name a function
abbrev pub is_call : Operator → Bool
is_call Call = true
is_call _ = false
