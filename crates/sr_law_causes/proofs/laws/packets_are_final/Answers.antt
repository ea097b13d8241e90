use Rattle.sr_law_causes.proofs.Plainly.{final_lines}
use Rattle.sr_law_causes.proofs.laws.packets_are_final.Goals as goal

pub returns : goal.returns
returns c = final_lines
