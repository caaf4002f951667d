-- Worked journals and some made at random, with the answers of an interpreter that was written apart from this.
use Rattle.std.proofs.Common.{◌≡◌, ℕ, List, [], ◌∷◌, None, refl}
use Rattle.ql_world.specs.declared.event.Event.{Event}
use Rattle.ql_world.specs.declared.event.Event.TheVariants.{Turn as turn, Spawn as spawn, Opened as opened, Exit as exit, Throw as throw, Land as land, Kill as kill, Protect as protect, Begin as begin, Finish as finish, Send as send, Take as take, Reply as reply, EndOk as end_ok, EndKilled as end_killed, Stopped as stopped}
use Rattle.ql_world.specs.declared.event.Mode.TheVariants.{Let as binding, Call as called, Eager as eager}
use Rattle.ql_world.specs.declared.event.Stop.TheVariants.{Done as done}
use Rattle.ql_span.specs.Chain.{Span}
use Rattle.ql_span.specs.Walk.{walk, marks}

abbrev found : ℕ → List Event → Span
found first es = let t = walk first (marks (λ k. None) es) in record { work = t.work; span = t.top.weight; chain = t.top.chain }

-- two processes side by side
row_0 : found 1 (turn 1 2 ∷ spawn 1 2 0 binding ∷ spawn 1 3 0 binding ∷ turn 2 256 ∷ turn 3 256 ∷ turn 2 256 ∷ turn 3 256 ∷ turn 2 256 ∷ turn 3 256 ∷ turn 2 256 ∷ turn 3 256 ∷ turn 2 256 ∷ turn 3 256 ∷ turn 2 256 ∷ turn 3 256 ∷ turn 2 233 ∷ end_ok 2 None ∷ turn 3 233 ∷ end_ok 3 None ∷ turn 1 8 ∷ exit 1 0 ∷ end_ok 1 None ∷ stopped done ∷ [])
    ≡ record { work = 3548; span = 1779; chain = 1 ∷ 4 ∷ 6 ∷ 8 ∷ 10 ∷ 12 ∷ 14 ∷ 16 ∷ 20 ∷ [] }
row_0 = refl

-- one process alone
row_1 : found 1 (turn 1 5 ∷ exit 1 0 ∷ end_ok 1 None ∷ stopped done ∷ [])
    ≡ record { work = 5; span = 5; chain = 1 ∷ [] }
row_1 = refl

-- no turn
row_2 : found 1 (stopped done ∷ [])
    ≡ record { work = 0; span = 0; chain = [] }
row_2 = refl

-- a throw that kills
row_3 : found 2 (turn 1 2 ∷ opened 1 1 0 ∷ turn 1 2 ∷ spawn 1 2 1 binding ∷ spawn 1 3 1 binding ∷ spawn 1 4 1 binding ∷ turn 2 256 ∷ turn 3 3 ∷ throw 3 1 ∷ kill 1 2 ∷ kill 1 3 ∷ kill 1 4 ∷ turn 3 1 ∷ end_killed 3 ∷ turn 4 1 ∷ end_killed 4 ∷ turn 1 1 ∷ land 1 1 ∷ turn 1 1 ∷ turn 2 1 ∷ end_killed 2 ∷ turn 1 1 ∷ exit 1 0 ∷ end_ok 1 None ∷ stopped done ∷ [])
    ≡ record { work = 269; span = 261; chain = 2 ∷ 4 ∷ 8 ∷ 21 ∷ [] }
row_3 = refl

-- cleanups
row_4 : found 1 (turn 1 2 ∷ opened 1 1 0 ∷ turn 1 2 ∷ spawn 1 2 1 binding ∷ spawn 1 3 1 binding ∷ turn 2 2 ∷ opened 2 2 1 ∷ turn 2 1 ∷ protect 2 1 ∷ turn 2 1 ∷ turn 3 4 ∷ turn 2 2 ∷ throw 2 2 ∷ turn 2 1 ∷ begin 2 1 ∷ turn 2 1 ∷ turn 3 1 ∷ throw 3 1 ∷ kill 1 2 ∷ kill 1 3 ∷ turn 3 1 ∷ end_killed 3 ∷ turn 1 1 ∷ land 1 1 ∷ turn 1 1 ∷ turn 2 2 ∷ finish 2 1 ∷ turn 2 2 ∷ end_killed 2 ∷ turn 1 1 ∷ exit 1 0 ∷ end_ok 1 None ∷ stopped done ∷ [])
    ≡ record { work = 25; span = 16; chain = 1 ∷ 3 ∷ 6 ∷ 8 ∷ 10 ∷ 12 ∷ 14 ∷ 16 ∷ 26 ∷ 28 ∷ [] }
row_4 = refl

-- calls of a process closure
row_5 : found 2 (turn 1 4 ∷ opened 1 1 0 ∷ turn 1 2 ∷ spawn 1 2 1 (called 1) ∷ turn 1 4 ∷ send 1 1 1 ∷ turn 1 3 ∷ send 1 1 2 ∷ turn 1 3 ∷ send 1 1 3 ∷ turn 1 1 ∷ turn 2 1 ∷ take 2 1 1 ∷ turn 2 5 ∷ reply 2 1 1 None ∷ turn 2 1 ∷ take 2 1 2 ∷ turn 2 5 ∷ reply 2 1 2 None ∷ turn 2 1 ∷ take 2 1 3 ∷ turn 2 5 ∷ reply 2 1 3 None ∷ turn 1 1 ∷ exit 1 1 ∷ kill 1 2 ∷ turn 1 2 ∷ turn 2 1 ∷ end_killed 2 ∷ turn 1 1 ∷ exit 1 0 ∷ end_ok 1 None ∷ stopped done ∷ [])
    ≡ record { work = 40; span = 32; chain = 2 ∷ 4 ∷ 6 ∷ 13 ∷ 15 ∷ 17 ∷ 19 ∷ 21 ∷ 23 ∷ 25 ∷ 28 ∷ 31 ∷ [] }
row_5 = refl

-- a process closure that starts at once
row_6 : found 1 (turn 1 2 ∷ spawn 1 2 0 (eager 1) ∷ turn 1 4 ∷ send 1 1 1 ∷ take 2 1 1 ∷ turn 2 6 ∷ reply 2 1 1 None ∷ turn 2 3 ∷ turn 1 2 ∷ exit 1 0 ∷ kill 0 2 ∷ end_ok 1 None ∷ turn 2 1 ∷ end_killed 2 ∷ stopped done ∷ [])
    ≡ record { work = 18; span = 16; chain = 1 ∷ 3 ∷ 6 ∷ 8 ∷ 13 ∷ [] }
row_6 = refl

-- made at random
row_7 : found 1 (send 2 1 3 ∷ spawn 1 2 2 binding ∷ throw 1 0 ∷ turn 1 1 ∷ kill 0 1 ∷ throw 3 2 ∷ turn 1 1 ∷ take 1 1 2 ∷ take 3 1 2 ∷ turn 3 3 ∷ turn 1 3 ∷ kill 2 3 ∷ turn 3 2 ∷ reply 2 1 3 None ∷ turn 1 3 ∷ opened 1 1 0 ∷ send 3 1 2 ∷ turn 2 1 ∷ stopped done ∷ [])
    ≡ record { work = 14; span = 8; chain = 4 ∷ 7 ∷ 10 ∷ 13 ∷ 18 ∷ [] }
row_7 = refl

-- made at random
row_8 : found 2 (turn 2 2 ∷ turn 3 1 ∷ reply 3 1 2 None ∷ send 3 1 2 ∷ send 2 1 3 ∷ turn 3 2 ∷ throw 3 1 ∷ reply 2 1 1 None ∷ turn 1 2 ∷ turn 2 1 ∷ send 2 1 2 ∷ turn 2 3 ∷ turn 1 2 ∷ reply 2 1 3 None ∷ send 2 1 1 ∷ turn 1 3 ∷ turn 2 3 ∷ stopped done ∷ [])
    ≡ record { work = 19; span = 9; chain = 2 ∷ 11 ∷ 13 ∷ 18 ∷ [] }
row_8 = refl

-- made at random
row_9 : found 1 (turn 3 2 ∷ spawn 2 1 2 binding ∷ turn 3 3 ∷ turn 2 2 ∷ turn 3 2 ∷ turn 1 1 ∷ stopped done ∷ [])
    ≡ record { work = 10; span = 7; chain = 1 ∷ 3 ∷ 5 ∷ [] }
row_9 = refl

-- made at random
row_10 : found 2 (turn 1 3 ∷ turn 2 3 ∷ turn 1 3 ∷ turn 3 2 ∷ send 3 1 2 ∷ turn 2 2 ∷ turn 1 3 ∷ turn 2 2 ∷ kill 0 1 ∷ spawn 3 2 0 binding ∷ stopped done ∷ [])
    ≡ record { work = 18; span = 9; chain = 2 ∷ 4 ∷ 8 ∷ [] }
row_10 = refl

-- made at random
row_11 : found 1 (turn 3 1 ∷ take 2 1 3 ∷ turn 1 3 ∷ kill 2 3 ∷ kill 1 1 ∷ turn 2 2 ∷ end_ok 1 None ∷ turn 3 2 ∷ send 2 1 1 ∷ turn 1 2 ∷ turn 3 3 ∷ send 2 1 3 ∷ kill 2 1 ∷ turn 1 2 ∷ throw 2 2 ∷ turn 3 1 ∷ take 1 1 1 ∷ opened 2 0 0 ∷ take 2 1 1 ∷ turn 3 3 ∷ spawn 2 1 0 binding ∷ turn 2 3 ∷ stopped done ∷ [])
    ≡ record { work = 22; span = 12; chain = 3 ∷ 8 ∷ 11 ∷ 16 ∷ 20 ∷ [] }
row_11 = refl

-- made at random
row_12 : found 2 (throw 2 2 ∷ opened 1 1 0 ∷ take 3 1 2 ∷ opened 3 0 0 ∷ take 3 1 1 ∷ turn 3 3 ∷ turn 1 2 ∷ send 3 1 3 ∷ end_ok 1 None ∷ turn 1 3 ∷ kill 1 1 ∷ opened 2 2 0 ∷ end_ok 1 None ∷ throw 1 0 ∷ stopped done ∷ [])
    ≡ record { work = 8; span = 5; chain = 8 ∷ 11 ∷ [] }
row_12 = refl

-- made at random
row_13 : found 1 (turn 2 1 ∷ end_ok 2 None ∷ reply 1 1 3 None ∷ turn 1 2 ∷ turn 2 1 ∷ throw 1 2 ∷ kill 1 2 ∷ turn 1 3 ∷ turn 2 3 ∷ turn 3 1 ∷ stopped done ∷ [])
    ≡ record { work = 11; span = 5; chain = 1 ∷ 5 ∷ 9 ∷ [] }
row_13 = refl

-- made at random
row_14 : found 2 (turn 3 2 ∷ send 1 1 1 ∷ turn 2 1 ∷ throw 1 0 ∷ take 3 1 2 ∷ reply 3 1 3 None ∷ turn 1 3 ∷ kill 2 2 ∷ turn 1 2 ∷ turn 3 2 ∷ spawn 2 3 0 binding ∷ end_ok 1 None ∷ turn 1 2 ∷ opened 3 1 0 ∷ spawn 1 2 1 binding ∷ kill 0 1 ∷ throw 1 0 ∷ end_ok 3 None ∷ stopped done ∷ [])
    ≡ record { work = 12; span = 7; chain = 8 ∷ 10 ∷ 14 ∷ [] }
row_14 = refl

-- made at random
row_15 : found 1 (take 2 1 1 ∷ turn 2 1 ∷ end_ok 1 None ∷ turn 1 1 ∷ end_ok 2 None ∷ opened 3 0 0 ∷ turn 2 2 ∷ spawn 3 2 0 binding ∷ take 2 1 1 ∷ turn 2 1 ∷ turn 3 3 ∷ take 1 1 2 ∷ stopped done ∷ [])
    ≡ record { work = 8; span = 4; chain = 2 ∷ 7 ∷ 10 ∷ [] }
row_15 = refl

-- made at random
row_16 : found 2 (end_ok 2 None ∷ take 1 1 3 ∷ reply 3 1 3 None ∷ take 2 1 1 ∷ turn 3 3 ∷ take 3 1 3 ∷ kill 0 3 ∷ turn 1 1 ∷ spawn 1 2 1 binding ∷ kill 2 3 ∷ turn 1 2 ∷ send 3 1 3 ∷ opened 1 2 0 ∷ turn 1 2 ∷ turn 3 2 ∷ turn 2 1 ∷ turn 3 2 ∷ kill 2 3 ∷ turn 1 2 ∷ stopped done ∷ [])
    ≡ record { work = 15; span = 7; chain = 6 ∷ 16 ∷ 18 ∷ [] }
row_16 = refl

-- made at random
row_17 : found 1 (take 3 1 2 ∷ turn 1 2 ∷ turn 3 1 ∷ end_ok 3 None ∷ turn 2 1 ∷ send 3 1 1 ∷ send 1 1 2 ∷ kill 1 2 ∷ send 1 1 1 ∷ turn 3 2 ∷ end_ok 1 None ∷ opened 3 0 0 ∷ take 2 1 2 ∷ turn 2 3 ∷ reply 2 1 2 None ∷ stopped done ∷ [])
    ≡ record { work = 9; span = 6; chain = 3 ∷ 10 ∷ 14 ∷ [] }
row_17 = refl

-- made at random
row_18 : found 2 (throw 1 1 ∷ turn 1 3 ∷ turn 3 2 ∷ turn 1 2 ∷ turn 3 1 ∷ turn 2 2 ∷ end_ok 2 None ∷ throw 1 1 ∷ spawn 1 2 1 binding ∷ kill 2 3 ∷ opened 1 1 0 ∷ stopped done ∷ [])
    ≡ record { work = 10; span = 5; chain = 3 ∷ 5 ∷ [] }
row_18 = refl

-- made at random
row_19 : found 1 (take 2 1 2 ∷ turn 2 2 ∷ kill 1 3 ∷ turn 3 3 ∷ turn 1 3 ∷ opened 2 0 0 ∷ kill 0 2 ∷ turn 1 2 ∷ end_ok 2 None ∷ throw 1 2 ∷ stopped done ∷ [])
    ≡ record { work = 10; span = 5; chain = 2 ∷ 4 ∷ [] }
row_19 = refl

-- made at random
row_20 : found 2 (turn 3 1 ∷ turn 2 1 ∷ turn 3 2 ∷ kill 1 1 ∷ turn 3 2 ∷ turn 2 1 ∷ spawn 2 3 1 binding ∷ turn 3 2 ∷ take 1 1 1 ∷ turn 3 1 ∷ opened 3 2 0 ∷ turn 1 1 ∷ end_ok 1 None ∷ throw 3 2 ∷ end_ok 1 None ∷ end_ok 3 None ∷ turn 3 1 ∷ turn 2 2 ∷ stopped done ∷ [])
    ≡ record { work = 14; span = 10; chain = 2 ∷ 4 ∷ 6 ∷ 9 ∷ 13 ∷ 19 ∷ [] }
row_20 = refl

-- made at random
row_21 : found 1 (kill 1 3 ∷ end_ok 1 None ∷ turn 1 2 ∷ end_ok 3 None ∷ turn 2 2 ∷ turn 1 3 ∷ turn 2 2 ∷ send 1 1 1 ∷ turn 1 2 ∷ kill 1 1 ∷ turn 2 1 ∷ kill 0 2 ∷ turn 3 1 ∷ kill 0 1 ∷ turn 3 1 ∷ stopped done ∷ [])
    ≡ record { work = 14; span = 7; chain = 3 ∷ 6 ∷ 9 ∷ [] }
row_21 = refl

-- made at random
row_22 : found 2 (turn 2 3 ∷ take 3 1 1 ∷ turn 1 3 ∷ end_ok 3 None ∷ opened 2 1 0 ∷ turn 1 1 ∷ turn 2 2 ∷ throw 1 0 ∷ turn 2 2 ∷ stopped done ∷ [])
    ≡ record { work = 11; span = 7; chain = 2 ∷ 8 ∷ 10 ∷ [] }
row_22 = refl
