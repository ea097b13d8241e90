use Rattle.sr_text.specs.LineText.{log_text}
use Rattle.sr_text.proofs.Growing.{reads_back}
use Rattle.sr_text.proofs.reading.read_lines.Goals as goal

pub returns-clause-printed : goal.returns-clause-printed
returns-clause-printed g c = λ ss ls log limit e.
    reads_back _ _ c.read_log.result ss ls _ log limit (c.read_log.ensures.text (log_text ss ls) e) c.read_log.ensures.read
