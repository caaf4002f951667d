use Rattle.std.proofs.lemmas.Result.{on_ok_weaker}
use Rattle.ql_proc.specs.Points.{point_of}
use Rattle.ql_host.proofs.CallRows.{fewer_words, function_there, word_found, word_missing, refused_no_function, refused_in_cleanup}
use Rattle.ql_host.proofs.ticks.frames.funcall.Goals as goal

pub word_under-requires : goal.word_under-requires
word_under-requires c = fewer_words c.args.count c.args.proc.now.stack.items (function_there c.args.used c.args.count c.args.proc.now.stack.items c.requires.here.operands)

pub returns-in_default-clause-takes : goal.returns-in_default-clause-takes
returns-in_default-clause-takes c =
    absurd (word_missing c.args.count c.args.proc.now.stack.items _ c.word_under.ensures (function_there c.args.used c.args.count c.args.proc.now.stack.items c.requires.here.operands) c.in_default.is)

pub returns-in_default-clause-keeps : goal.returns-in_default-clause-keeps
returns-in_default-clause-keeps c =
    absurd (word_missing c.args.count c.args.proc.now.stack.items _ c.word_under.ensures (function_there c.args.used c.args.count c.args.proc.now.stack.items c.requires.here.operands) c.in_default.is)

pub returns-in-Proc-clause-takes : goal.returns-in-Proc-clause-takes
returns-in-Proc-clause-takes c =
    let s = c.args.s in
    rw (c.refuse.ensures.proc)
    (on_ok_weaker c.refuse.result
    (refused_in_cleanup s.code.now s.names.now s.limits c.args.p c.args.person c.args.shared.now (point_of c.args.proc.now) c.args.used c.args.count c.args.at c.requires.here c.in-Some.function
    (word_found c.args.count c.args.proc.now.stack.items _ c.word_under.ensures c.in-Some.function c.in-Some.is) c.in-Proc.field-0 c.in-Proc.is c.requires.local c.refuse.new.shared)
    c.refuse.ensures.marked)

pub returns-in_default-function : goal.returns-in_default-function
returns-in_default-function c =
    let s = c.args.s in
    let q = c.refuse-in_default-function in
    record {
      takes =
          rw (q.ensures.proc)
          (on_ok_weaker q.result
          (refused_no_function s.code.now s.names.now s.limits c.args.p c.args.person c.args.shared.now (point_of c.args.proc.now) c.args.used c.args.count c.args.at c.requires.here c.in-Some.function
          (word_found c.args.count c.args.proc.now.stack.items _ c.word_under.ensures c.in-Some.function c.in-Some.is) c.requires.local c.requires.calm c.in_default-function.not-Fun c.in_default-function.not-Proc q.new.shared)
          q.ensures.marked);
      keeps = q.ensures.keeps;
      kept = q.ensures.kept;
    }
