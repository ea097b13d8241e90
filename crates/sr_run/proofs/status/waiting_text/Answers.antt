use Rattle.std.proofs.Common.{◌++◌, codes, subst, ap, ◌∙◌}
use Rattle.sr_io.specs.Sink.{Writes}
use Rattle.sr_text.specs.Fields.{key_text}
use Rattle.sr_run.specs.Status.{status_text}
use Rattle.sr_run.proofs.status.waiting_text.Goals as goal

pub returns : goal.returns
unfolding status_text
returns g c =
    let key = c.put_key.ensures.text ∙ ap (key_text c.args.key.now) c.new-text.ensures in
    let text = c.bytes.ensures ∙ c.word.ensures.text ∙ ap (λ t. codes "silkroad: waiting for " ++ t) key in
    subst (λ t. Writes c.write.result (g.K.Sink.known c.args.sink.now) (g.K.Sink.known c.write.new.self) t) text c.write.ensures
