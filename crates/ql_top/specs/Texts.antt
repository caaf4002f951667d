-- Names in the lines that are written.
use Rattle.std.specs.Prelude.{ℕ, ◌==◌, if◌then◌else◌, List, codes}

-- the name of a kind of refusal
unfoldable pub refusal_name : ℕ → List ℕ
refusal_name kind =
    if kind == 1 then codes "badbyte"
    else (if kind == 2 then codes "strayclose"
    else (if kind == 3 then codes "baddot"
    else (if kind == 4 then codes "badnumber"
    else (if kind == 5 then codes "longname"
    else (if kind == 6 then codes "toodeep"
    else (if kind == 7 then codes "toolong"
    else (if kind == 8 then codes "unfinished"
    else (if kind == 10 then codes "badtop"
    else (if kind == 11 then codes "reservedname"
    else (if kind == 12 then codes "unbound"
    else (if kind == 13 then codes "nofunction"
    else (if kind == 14 then codes "twice"
    else (if kind == 15 then codes "wrongcount"
    else (if kind == 17 then codes "shadow"
    else (if kind == 18 then codes "toomany"
    else (if kind == 19 then codes "codetoolong"
    else (if kind == 20 then codes "badline"
    else (if kind == 21 then codes "nostop"
    else (if kind == 22 then codes "bigbook"
    else codes "badshape")))))))))))))))))))
