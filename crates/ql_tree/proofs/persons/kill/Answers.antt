use Rattle.std.proofs.Common.{◌≡◌, ap, ◌∙◌, ◌++◌, drop, reverse, arith}
use Rattle.std.proofs.lemmas.List.{drop_at}
use Rattle.ql_world.specs.declared.world.Aim.TheVariants.{Die as die}
use Rattle.ql_tree.specs.Kill.{aimed_at, is_killed, killed_numbers, changed_at_each}
use Rattle.ql_tree.proofs.Kills.{killed-each}
use Rattle.ql_tree.proofs.persons.kill.Goals as goal

pub returns-in-Ok-clause-ok : goal.returns-in-Ok-clause-ok
returns-in-Ok-clause-ok c =
    let before = c.args.killed.now.items in
    let test = is_killed (reverse c.args.catches.now) c.args.c c.args.owner in
    let numbers = killed_numbers (reverse c.args.catches.now) c.args.c c.args.owner c.args.persons.now in
    let all : c.deref.result.now ≡ before ++ numbers = c.deref.ensures.value ∙ c.in-Ok.ensures.ok in
    let new : drop c.len-from.result c.deref.result.now ≡ numbers = ap (drop c.len-from.result) all ∙ drop_at before numbers c.len-from.result (omega arith) in
    c.kill_each.ensures.killed
    ∙ ap (changed_at_each (aimed_at die) c.args.persons.now) new
    ∙ killed-each test (aimed_at die) c.args.persons.now
