use Rattle.std.proofs.Common.{◌≡◌, ℕ, List, Some}
use Rattle.ql_top.specs.PlainWords.{IsPlain, check, show, list, run, gen, trial, replay, span}
use Rattle.ql_top.specs.Words.{asked}
use Rattle.ql_top.specs.declared.words.Command.{Command}
use Rattle.ql_top.proofs.PlainEnds.{check_asks, show_asks, list_asks, run_asks, gen_asks, trial_asks, replay_asks, span_asks}
use Rattle.ql_top.proofs.laws.plain_words_ask.Goals as goal

plain_asks : (words : List (List ℕ)) (command : Command) → IsPlain words command → asked words ≡ Some command
plain_asks words command check = check_asks
plain_asks words command show = show_asks
plain_asks words command list = list_asks
plain_asks words command (run given) = run_asks _ _ given
plain_asks words command (gen is_seed is_size) = gen_asks _ _ _ _ is_seed is_size
plain_asks words command (trial is_seed is_size given) = trial_asks _ _ _ _ is_seed is_size _ _ given
plain_asks words command replay = replay_asks
plain_asks words command span = span_asks

pub returns : goal.returns
returns c = plain_asks
