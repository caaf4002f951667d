use Rattle.ql_replay.proofs.Reading.{turn_in_reads, head_in_reads}
use Rattle.ql_replay.proofs.laws.lines_are_read.Goals as goal

pub returns : goal.returns
returns c = record { turns = turn_in_reads; heads = head_in_reads }
