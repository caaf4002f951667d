use Rattle.ql_code.proofs.Operands.{asked_along, operands_along, tick_along}
use Rattle.ql_code.proofs.laws.runs_are_sound.Goals as goal

pub returns : goal.returns
returns c = record {
  ticks = λ code names limits schedule w p q h. tick_along code h.sound names limits schedule w p q h.reached h.there h.can;
  asked = λ code names limits schedule w p q h. asked_along code h.sound names limits schedule w p q h.reached h.there h.can;
  operands = λ code names limits schedule w p q h. operands_along code h.sound names limits schedule w p q h.reached h.there h.can;
}
