use Rattle.std.proofs.Common.{◌≡◌, ◌++◌, codes, subst, ◌∙◌}
use Rattle.std.specs.Prelude.{string_bytes}
use Rattle.sr_io.proofs.Writing.{writes_front, writes_then}
use Rattle.sr_io.specs.Sink.{Writes}
use Rattle.sr_io.specs.declared.sink.Put.TheVariants.{All, Failed}
use Rattle.sr_script.specs.Why.{word_of}
use Rattle.sr_run.specs.Status.{path_words, status_text}
use Rattle.sr_run.proofs.status.script_text.Goals as goal

pub returns-in-All : goal.returns-in-All
unfolding status_text
returns-in-All g c =
    let known = g.K.Sink.known in
    let refusal = c.args.refusal.now in
    let word : c.as_bytes.result.now ≡ word_of refusal.why = c.as_bytes.ensures.value ∙ c.word.ensures in
    let path : c.as_bytes-in-All.result.now ≡ string_bytes refusal.path = c.as_bytes-in-All.ensures.value in
    let front = subst (λ w. Writes All (known c.args.sink.now) (known c.write_both.new.sink) (codes "silkroad: script: " ++ w)) word c.in-All.ensures in
    let back = subst (λ p. Writes c.path_text.result (known c.write_both.new.sink) (known c.path_text.new.sink) (path_words p)) path c.path_text.ensures in
    writes_then c.path_text.result (codes "silkroad: script: " ++ word_of refusal.why) (path_words (string_bytes refusal.path)) front back

pub returns-in-Failed : goal.returns-in-Failed
unfolding status_text
returns-in-Failed g c =
    let known = g.K.Sink.known in
    let refusal = c.args.refusal.now in
    let word : c.as_bytes.result.now ≡ word_of refusal.why = c.as_bytes.ensures.value ∙ c.word.ensures in
    let front = subst (λ w. Writes Failed (known c.args.sink.now) (known c.write_both.new.sink) (codes "silkroad: script: " ++ w)) word c.in-Failed.ensures in
    writes_front (codes "silkroad: script: " ++ word_of refusal.why) (path_words (string_bytes refusal.path)) front
