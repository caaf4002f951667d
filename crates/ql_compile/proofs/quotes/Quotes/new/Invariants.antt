use Rattle.std.proofs.Common.{◌≡◌, ℕ, ◌++◌, drop}
use Rattle.ql_expand.specs.ProgramView.{program_of}
use Rattle.ql_meaning.specs.Context.{quotes_after, quotes_of, word_at}
use Rattle.ql_compile.specs.Quoting.{data_at}
use Rattle.ql_compile.proofs.quotes.Quotes.new.Given as goal

-- the quotes so far and those of the rest are all
abbrev pub invariant-loop-form : goal.invariant-loop-form
invariant-loop-form l =
    let rest = quotes_after (data_at (drop l.form-index l.form-items)) l.quotes.pairs.items in
    record {
      pairs : rest.0 ≡ (quotes_of (program_of l.program)).0;
      words : (q : ℕ) → word_at (l.quotes.words.entries ++ rest.1) q ≡ word_at (quotes_of (program_of l.program)).1 q;
    }
