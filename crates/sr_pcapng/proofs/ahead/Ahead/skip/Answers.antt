use Rattle.std.proofs.Common.{drop, ◌∙◌, arith}
use Rattle.sr_io.specs.Window.{Pending}
use Rattle.sr_pcapng.proofs.Filling.{skips_more, skips_part}
use Rattle.sr_pcapng.proofs.ahead.Ahead.skip.Goals as goal

pub loop-at-preserved : goal.loop-at-preserved
loop-at-preserved g c = record {
  within = let took = c.in_ok-n.ensures.within in omega arith;
  rest = λ xs h. skips_more c.loop-at.at c.in_ok-n.n xs (Pending c.pass_some.new.self (g.S.Source.known c.pass_some.new.source).left) (c.in_ok-n.ensures.bytes (drop c.loop-at.at xs) (c.loop-at.invariant.rest xs h)).0;
  still = c.in_ok-n.ensures.faults.still (λ e. absurd (cc e)) ∙ c.loop-at.invariant.still;
}

pub returns-then-n-eq0-clause-bytes : goal.returns-then-n-eq0-clause-bytes
returns-then-n-eq0-clause-bytes g c = λ xs h.
    let took = c.in_ok-n.ensures.bytes (drop c.loop-at.at xs) (c.loop-at.invariant.rest xs h) in
    skips_part c.loop-at.at c.in_ok-n.n c.args.size xs (Pending c.pass_some.new.self (g.S.Source.known c.pass_some.new.source).left) (omega arith) (took.1 c.if-n-eq0.true) took.0
