use Rattle.std.proofs.Common.{◌++◌, codes, subst, ap, ◌∙◌}
use Rattle.sr_io.specs.Sink.{Writes}
use Rattle.sr_run.specs.Status.{status_text, capture_words}
use Rattle.sr_run.proofs.status.capture_text.Goals as goal

pub returns : goal.returns
unfolding status_text
returns g c =
    let words = c.put_capture.ensures.text ∙ ap (capture_words c.args.why) c.new-text.ensures in
    let text = c.bytes.ensures ∙ c.word.ensures.text ∙ ap (λ t. codes "silkroad: capture: " ++ t) words in
    subst (λ t. Writes c.write.result (g.K.Sink.known c.args.sink.now) (g.K.Sink.known c.write.new.self) t) text c.write.ensures
