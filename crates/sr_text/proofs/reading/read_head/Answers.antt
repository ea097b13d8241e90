use Rattle.std.proofs.Common.{refl, ap, ◌∙◌}
use Rattle.sr_text.specs.LineText.{head_text}
use Rattle.sr_text.specs.Fronts.{after_word}
use Rattle.sr_text.proofs.Growing.{no_head, head_here}
use Rattle.sr_text.proofs.reading.read_head.Goals as goal

pub returns-in-None-clause-bytes : goal.returns-in-None-clause-bytes
returns-in-None-clause-bytes g c = λ xs p.
    (refl, no_head c.fill.new.self _ xs c.in_ok-fill.ensures.filled (c.in-None.ensures ∙ ap (after_word head_text) c.unread.ensures) (c.fill.ensures.reads.pending xs p))

pub returns-clause-bytes : goal.returns-clause-bytes
returns-clause-bytes g c = λ xs p.
    head_here c.fill.new.self c.pass.new.self _ xs _ (c.in-Some.ensures ∙ ap (after_word head_text) c.unread.ensures) c.pass.ensures (c.fill.ensures.reads.pending xs p)
