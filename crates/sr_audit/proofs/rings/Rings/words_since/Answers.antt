use Rattle.std.proofs.Common.{sym, subst, ap, ◌∙◌}
use Rattle.std.specs.Option.{option_copied}
use Rattle.sr_audit.specs.Rings.{TellsPipe}
use Rattle.sr_audit.proofs.Ringing.{told_words}
use Rattle.sr_audit.proofs.rings.Rings.words_since.Goals as goal

pub returns-in-Some : goal.returns-in-Some
returns-in-Some c before size fall t =
    let told = subst (TellsPipe c.args.pipe before) (sym c.get.ensures.value ∙ ap option_copied c.in-Some.is) (t size fall c.args.pipe) in
    c.words_since.ensures ∙ told_words c.args.pipe c.in-Some.ring.now before c.args.tick told

pub returns-in-None : goal.returns-in-None
returns-in-None c before size fall t =
    let told = subst (TellsPipe c.args.pipe before) (sym c.get.ensures.value ∙ ap option_copied c.in-None.is) (t size fall c.args.pipe) in
    c.words_since-in-None.ensures ∙ told_words c.args.pipe c.new.result before c.args.tick (told c.new.result c.new.ensures)
