use Rattle.std.proofs.Common.{◌≡◌, sym, suc, ◌-◌, arith, subst}
use Rattle.ql_code.specs.Machine.{words}
use Rattle.ql_proc.specs.Looks.{IsFirst}
use Rattle.ql_proc.specs.Slots.{HasWords}
use Rattle.ql_host.proofs.Leftmost.{fewer, lowest_is}
use Rattle.ql_host.proofs.waits.lowest.Goals as goal

pub word_under-requires : goal.word_under-requires
word_under-requires c =
    let st = c.args.proc.now.stack.items in
    let s : c.args.count ≡ suc (c.args.count - 1) = omega arith in
    fewer (c.args.count - 1) st (subst (λ n. HasWords n st) s c.requires)

pub returns : goal.returns
returns c =
    let st = c.args.proc.now.stack.items in
    let s : c.args.count ≡ suc (c.args.count - 1) = omega arith in
    subst (λ n. IsFirst c.word_under.result (words n st)) (sym s) (lowest_is (c.args.count - 1) st c.word_under.result (subst (λ n. HasWords n st) s c.requires) c.word_under.ensures)
