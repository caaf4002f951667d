use Rattle.std.proofs.Common.{◌∙◌, sym}
use Rattle.std.proofs.lemmas.Result.{on_ok_weaker}
use Rattle.ql_world.proofs.Texts.{item_done, rest_done, later_done, plain_done, end_done}
use Rattle.ql_world.proofs.text.put_part.Goals as goal

pub returns-in_ok-push-in-Some-clause-same : goal.returns-in_ok-push-in-Some-clause-same
returns-in_ok-push-in-Some-clause-same c =
    on_ok_weaker c.put_later.result
    (item_done c.args.names.now c.args.pairs.now c.requires.ordered c.args.text.now.items c.push.new.self.items c.args.todo.now.items c.put_later.new.todo.items c.args.part c.in-Item.w c.in-Some.i _ c.in-Item.is c.requires.there (sym c.pair.ensures ∙ c.in-Some.is) c.pair_at-pair.ensures c.in_ok-push-in-Some.ensures.items)
    c.put_later.ensures

pub returns-in_ok-push-in-Some-clause-all_there : goal.returns-in_ok-push-in-Some-clause-all_there
returns-in_ok-push-in-Some-clause-all_there c =
    on_ok_weaker c.put_later.result (later_done c.args.names.now c.args.pairs.now c.requires.ordered c.args.todo.now.items c.put_later.new.todo.items c.in-Some.i _ c.pair_at-pair.ensures c.requires.all_there) c.put_later.ensures

pub returns-in-None-clause-same : goal.returns-in-None-clause-same
returns-in-None-clause-same c =
    on_ok_weaker c.put_plain.result
    (plain_done c.args.names.now c.args.pairs.now c.requires.ordered c.args.text.now.items c.put_plain.new.text.items _ c.args.part c.in-Item.w c.in-Item.is (sym c.pair.ensures ∙ c.in-None.is))
    c.put_plain.ensures

pub returns-in_ok-push-in-Some-pair-clause-same : goal.returns-in_ok-push-in-Some-pair-clause-same
returns-in_ok-push-in-Some-pair-clause-same c =
    on_ok_weaker c.put_later-in-Some-pair.result
    (rest_done c.args.names.now c.args.pairs.now c.requires.ordered c.args.text.now.items c.push-in-Some-pair.new.self.items c.args.todo.now.items c.put_later-in-Some-pair.new.todo.items c.args.part c.in-Rest.w c.in-Some-pair.i _ c.in-Rest.is c.requires.there (sym c.pair-in-Rest.ensures ∙ c.in-Some-pair.is) c.pair_at-pair-in-Some-pair.ensures c.in_ok-push-in-Some-pair.ensures.items)
    c.put_later-in-Some-pair.ensures

pub returns-in_ok-push-in-Some-pair-clause-all_there : goal.returns-in_ok-push-in-Some-pair-clause-all_there
returns-in_ok-push-in-Some-pair-clause-all_there c =
    on_ok_weaker c.put_later-in-Some-pair.result (later_done c.args.names.now c.args.pairs.now c.requires.ordered c.args.todo.now.items c.put_later-in-Some-pair.new.todo.items c.in-Some-pair.i _ c.pair_at-pair-in-Some-pair.ensures c.requires.all_there) c.put_later-in-Some-pair.ensures

pub returns-in-None-pair-clause-same : goal.returns-in-None-pair-clause-same
returns-in-None-pair-clause-same c =
    on_ok_weaker c.put_end.result
    (end_done c.args.names.now c.args.pairs.now c.requires.ordered c.args.text.now.items c.put_end.new.text.items _ c.args.part c.in-Rest.w c.in-Rest.is (sym c.pair-in-Rest.ensures ∙ c.in-None-pair.is))
    c.put_end.ensures
