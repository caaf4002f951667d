use Rattle.std.proofs.Common.{◌∙◌, ap, ◌++◌}
use Rattle.ql_code.specs.Listing.{listing}
use Rattle.ql_top.proofs.Telling.{writes_list}
use Rattle.ql_top.proofs.top.texts_of_list.Goals as goal

pub returns-in-Ok-clause-texts : goal.returns-in-Ok-clause-texts
returns-in-Ok-clause-texts c forms p made same = record {
  program = p;
  makes = made;
  writes = writes_list c.args.names.now forms p c.args.code.now c.write_listing.new.to.items
      (c.in-Ok.ensures.ok ∙ ap (λ t. t ++ listing c.args.names.now c.args.code.now) c.new-output.ensures.items) same;
}
