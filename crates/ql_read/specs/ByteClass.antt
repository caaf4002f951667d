-- The class that a value stands for.
use Rattle.ql_forms.specs.Bytes.{Class, blank, letter, digit, plus, minus, opening, closing, mark, semicolon, dot, other}
use Rattle.ql_read.specs.declared.byte_class.ByteClass.{ByteClass}
use Rattle.ql_read.specs.declared.byte_class.ByteClass.TheVariants.{Blank, Semicolon, Closing, Dot, Start, Other}
use Rattle.ql_read.specs.declared.byte_class.FormStart.{FormStart}
use Rattle.ql_read.specs.declared.byte_class.FormStart.TheVariants.{Letter, Digit, Plus, Minus, Opening, Mark}

abbrev pub start_told : FormStart → Class
start_told Letter = letter
start_told Digit = digit
start_told Plus = plus
start_told Minus = minus
start_told Opening = opening
start_told Mark = mark

abbrev pub class_told : ByteClass → Class
class_told Blank = blank
class_told Semicolon = semicolon
class_told Closing = closing
class_told Dot = dot
class_told (Start s) = start_told s
class_told Other = other
