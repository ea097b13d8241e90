use Rattle.std.proofs.Common.{take, drop, Ok, Err, inr, ap, sym, subst, ◌∙◌}
use Rattle.std.proofs.lemmas.Result.{err_from_is_err_and}
use Rattle.sr_io.specs.Window.{Pending}
use Rattle.sr_pcapng.specs.Options.{option_of}
use Rattle.sr_pcapng.specs.Reading.{Steps}
use Rattle.sr_pcapng.specs.declared.option_head.OptionHead.{OptionHead}
use Rattle.sr_pcapng.proofs.options.step.Goals as goal

pub returns-in_err-option_head-clause-steps : goal.returns-in_err-option_head-clause-steps
returns-in_err-option_head-clause-steps g c = λ xs h.
    let read = c.in_ok-n.ensures.bytes xs h in
    let r = err_from_is_err_and c.from_residual-in_err-option_head.result c.from_residual-in_err-option_head.ensures.1 in
    let head = option_of c.args.endian c.args.offset c.args.room in
    subst (λ z. Steps z (head (take 4 xs)) c.args.resolution (drop 4 xs) (Pending c.fill.new.self (g.S.Source.known c.fill.new.source).left)) (sym (r.1 ∙ ap (λ y. Err y) r.2))
    (inr (ap head (sym read.1) ∙ sym c.in_err-option_head.ensures.option))

pub returns-in-Last-clause-steps : goal.returns-in-Last-clause-steps
returns-in-Last-clause-steps g c = λ xs h.
    let read = c.in_ok-n.ensures.bytes xs h in
    let head = option_of c.args.endian c.args.offset c.args.room in
    (ap head (sym read.1) ∙ sym c.in_ok-option_head.ensures.option ∙ ap (λ (o : OptionHead). Ok o) c.in-Last.is, read.2)

pub returns-in_ok-read_value-in-Value-clause-steps : goal.returns-in_ok-read_value-in-Value-clause-steps
returns-in_ok-read_value-in-Value-clause-steps g c = λ xs h.
    let read = c.in_ok-n.ensures.bytes xs h in
    let head = option_of c.args.endian c.args.offset c.args.room in
    let keeps = c.in_ok-read_value-in-Value.ensures.keeps (drop 4 xs) read.2 in
    record {
      tells = c.in-Value.tells;
      value = ap head (sym read.1) ∙ sym c.in_ok-option_head.ensures.option ∙ ap (λ (o : OptionHead). Ok o) c.in-Value.is;
      keeps = keeps.0;
      told = keeps.1;
    }
