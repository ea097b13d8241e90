use Rattle.std.proofs.Common.{◌≡◌, [], ◌∷◌, ◌++◌, codes, ap, sym, ◌∙◌, subst}
use Rattle.std.specs.Fmt.{decimal}
use Rattle.sr_io.specs.Sink.{Writes}
use Rattle.sr_io.specs.declared.sink.Put.TheVariants.{All}
use Rattle.sr_run.specs.Audit.{lawful_text}
use Rattle.sr_run.proofs.Writing.{then_flushed}
use Rattle.sr_run.proofs.audit.print_lawful.Goals as goal

pub returns : goal.returns
unfolding lawful_text
returns g c =
    let known = g.K.Sink.known in
    let text = lawful_text c.args.count in
    let number : c.put_u64.new.self ≡ decimal c.args.count ++ 10 ∷ [] = c.put_u64.ensures.text ∙ ap (λ t. decimal c.args.count ++ t) c.new-text.ensures in
    let whole : c.bytes.result.now ≡ text = c.bytes.ensures ∙ c.word.ensures.text ∙ ap (λ t. codes "lawful " ++ t) number in
    let all = subst (λ p. Writes p (known c.args.sink.now) (known c.write.new.self) c.bytes.result.now) (sym c.in_ok-ok.ensures) c.write.ensures in
    let written = subst (λ t. Writes All (known c.args.sink.now) (known c.write.new.self) t) whole all in
    subst (λ p. Writes p (known c.args.sink.now) (known c.flush.new.self) text) (sym c.ok-2.ensures) (then_flushed c.flush.result text written c.flush.ensures)
