use Rattle.std.proofs.Common.{sym, ap, ◌∙◌}
use Rattle.std.specs.Option.{option_copied}
use Rattle.sr_audit.proofs.Known.{known_told, known_untold}
use Rattle.sr_audit.proofs.downs.Downs.knows.Goals as goal

pub returns-in-Some : goal.returns-in-Some
returns-in-Some c before fall t =
    c.was_before.ensures
    ∙ known_told before c.args.server c.args.tick c.in-Some.known.now fall (sym (t.each c.args.server) ∙ sym c.get.ensures.value ∙ ap option_copied c.in-Some.is)

pub returns-in-None : goal.returns-in-None
returns-in-None c before fall t =
    known_untold before c.args.server c.args.tick fall (sym (t.each c.args.server) ∙ sym c.get.ensures.value ∙ ap option_copied c.in-None.is)
