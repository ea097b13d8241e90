use Rattle.std.proofs.Common.{drop, inr, sym, subst, ◌∙◌}
use Rattle.sr_io.specs.Window.{WindowView, Pending}
use Rattle.sr_pcapng.proofs.Blocks.{closed_err, closed_ok}
use Rattle.sr_pcapng.proofs.Filling.{looked}
use Rattle.sr_pcapng.proofs.block.close.Goals as goal

pub returns-in-Some-clause-closes : goal.returns-in-Some-clause-closes
returns-in-Some-clause-closes g c = λ xs h.
    let past = c.in_ok-skip.ensures.bytes xs h in
    let l = looked c.ready.new.self (g.S.Source.known c.ready.new.source).left (drop c.args.more xs) 4 c.in_ok-ready.ensures.filled (c.ready.ensures.pending (drop c.args.more xs) past) in
    inr (closed_err c.args.endian c.args.offset c.args.size c.args.more xs _ c.in-Some.why (c.front.ensures ∙ l.0) (sym c.in-Some.ensures.exact))

pub returns-in-None-clause-closes : goal.returns-in-None-clause-closes
returns-in-None-clause-closes g c = λ xs h.
    let past = c.in_ok-skip.ensures.bytes xs h in
    let told = (g.S.Source.known c.ready.new.source).left in
    let l = looked c.ready.new.self told (drop c.args.more xs) 4 c.in_ok-ready.ensures.filled (c.ready.ensures.pending (drop c.args.more xs) past) in
    record {
      rest = drop 4 (drop c.args.more xs);
      told = subst (λ (v : WindowView). Pending v told (drop 4 (drop c.args.more xs))) (sym c.pass.ensures) l.1;
      same = closed_ok c.args.endian c.args.offset c.args.size c.args.more xs _ (c.front.ensures ∙ l.0) (sym c.in-None.ensures.exact);
    }
