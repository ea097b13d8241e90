use Rattle.std.proofs.Common.{cond, None, ap, ◌∙◌}
use Rattle.sr_shadow.specs.Book.{holder_of}
use Rattle.sr_shadow.specs.Entry.{is_at}
use Rattle.sr_shadow.proofs.holders.Holders.vacate.Goals as goal

pub returns-in-Some-clause-held : goal.returns-in-Some-clause-held
returns-in-Some-clause-held c = λ old new step h. c.put.ensures.held old new (λ other. step other ∙ ap (λ place. cond (is_at other place) None (holder_of other old)) c.in-Some.is) h
