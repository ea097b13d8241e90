use Rattle.std.proofs.Common.{◌≡◌, ◌++◌, codes, ap, ◌∙◌, subst}
use Rattle.std.specs.Fmt.{decimal}
use Rattle.sr_io.specs.Sink.{Writes}
use Rattle.sr_io.specs.declared.sink.Put.TheVariants.{All}
use Rattle.sr_run.specs.Demo.{summary_text}
use Rattle.sr_run.proofs.Writing.{then_flushed}
use Rattle.sr_run.proofs.demo.print_summary.Goals as goal

pub returns-in-All : goal.returns-in-All
unfolding summary_text
returns-in-All g c =
    let known = g.K.Sink.known in
    let d = c.args.shown.now in
    let text = summary_text d.packets d.opened d.switched in
    let last : c.word.new.self ≡ codes "\nlawful yes\n" = c.word.ensures.text ∙ ap (λ t. codes "\nlawful yes" ++ t) c.new-text.ensures in
    let third : c.word-2.new.self ≡ codes "\nswitched " ++ (decimal d.switched ++ codes "\nlawful yes\n") =
    c.word-2.ensures.text ∙ ap (λ t. codes "\nswitched " ++ t) (c.put_u64.ensures.text ∙ ap (λ t. decimal d.switched ++ t) last) in
    let second : c.word-3.new.self ≡ codes "\nopened " ++ (decimal d.opened ++ (codes "\nswitched " ++ (decimal d.switched ++ codes "\nlawful yes\n"))) =
    c.word-3.ensures.text ∙ ap (λ t. codes "\nopened " ++ t) (c.put_u64-2.ensures.text ∙ ap (λ t. decimal d.opened ++ t) third) in
    let whole : c.bytes.result.now ≡ text =
    c.bytes.ensures
    ∙ (c.word-4.ensures.text ∙ ap (λ t. codes "packets " ++ t) (c.put_u64-3.ensures.text ∙ ap (λ t. decimal d.packets ++ t) second)) in
    let written = subst (λ t. Writes All (known c.args.sink.now) (known c.write.new.self) t) whole c.in-All.ensures in
    then_flushed c.flush.result text written c.flush.ensures
