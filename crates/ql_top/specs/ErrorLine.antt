-- The line that is written of a status, none where all went well.
use Rattle.std.specs.Prelude.{ℕ, List, [], ◌∷◌, ◌++◌, codes}
use Rattle.std.specs.Borrow.{Bor}
use Rattle.std.specs.Fmt.{decimal}
use Rattle.ql_world.specs.Text.{fault_name, limit_name}
use Rattle.ql_top.specs.declared.status.Status.{Status}
use Rattle.ql_top.specs.declared.status.Status.TheVariants.{Done, Refused, Words, Fault, Budget, Deadlock, Limit, NoMemory, ReadFault, WriteFault, Differs}
use Rattle.ql_top.specs.Texts.{refusal_name}

-- texts one after another
abbrev pub joined : List (Bor (List ℕ)) → List ℕ
joined [] = []
joined (p ∷ ps) = p.now ++ joined ps

abbrev pub error_line : Status → List ℕ
error_line Done = []
error_line (Refused kind at) = codes "ql: refused " ++ refusal_name kind ++ codes " at " ++ decimal at ++ codes "\n"
error_line Words = codes "ql: bad words\n"
error_line (Fault kind p at) = codes "ql: error " ++ fault_name kind ++ codes " in " ++ decimal p.0 ++ codes " at " ++ decimal at ++ codes "\n"
error_line Budget = codes "ql: budget spent\n"
error_line Deadlock = codes "ql: deadlock\n"
error_line (Limit kind) = codes "ql: limit " ++ limit_name kind ++ codes "\n"
error_line NoMemory = codes "ql: no memory\n"
error_line ReadFault = codes "ql: read fault\n"
error_line WriteFault = codes "ql: write fault\n"
error_line (Differs line) = codes "ql: differs at line " ++ decimal line ++ codes "\n"
