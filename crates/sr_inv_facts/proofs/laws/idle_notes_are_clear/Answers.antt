use Rattle.std.proofs.Common.{ap, ◌∙◌}
use Rattle.sr_inv_facts.specs.InWords.{note_of}
use Rattle.sr_inv_facts.proofs.laws.idle_notes_are_clear.Goals as goal

pub returns : goal.returns
returns c = λ s i p v q e. i.words.note p v q ∙ ap note_of e
