use Rattle.std.proofs.Common.{ℕ, List, subst}
use Rattle.std.specs.List.{All}
use Rattle.std.proofs.lemmas.List.{take_all}
use Rattle.std.proofs.lemmas.List.Elements.{All-more}
use Rattle.sr_frame.specs.declared.skip.Skip.{Skip}
use Rattle.sr_text.specs.Ranges.{IsSkipped}
use Rattle.sr_text.proofs.laws.skips_ranges.Goals as goal

pub loop-skip-preserved : goal.loop-skip-preserved
loop-skip-preserved c = All-more IsSkipped c.args.skips.now c.loop-skip.skip-index _ c.loop-skip-test.true c.loop-skip.invariant c.skip_range.ensures

pub returns : goal.returns
returns c = subst (λ (l : List (ℕ × Skip)). All IsSkipped l) (take_all c.loop-skip.skip-index c.args.skips.now c.loop-skip-test.false) c.loop-skip.invariant
