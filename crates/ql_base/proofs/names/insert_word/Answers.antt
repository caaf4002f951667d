use Rattle.std.proofs.Common.{map, ap, ◌∙◌}
use Rattle.ql_base.proofs.Places.{insert_is}
use Rattle.ql_base.proofs.names.insert_word.Goals as goal

pub returns : goal.returns
returns c =
    ap (map (λ t. t.items)) c.in_ok-insert.ensures.keys
    ∙ insert_is (λ t. t.items) c.args.texts.now.keys c.in_ok-from_slice.field-0 c.args.word.now c.in_ok-from_slice.ensures.items
