use Rattle.sr_shadow.proofs.Places.{put_inside, put_outside}
use Rattle.sr_shadow.proofs.holders.Holders.put.Goals as goal

pub returns-in-Some-clause-held : goal.returns-in-Some-clause-held
returns-in-Some-clause-held c = λ old new step h.
    put_inside c.args.layout.now c.args.place c.in-Some.at c.args.holder _ old new c.words_stand_apart.ensures.apart c.in-Some.ensures.0 c.in-Some.ensures.1 step h

pub returns-in-None-clause-held : goal.returns-in-None-clause-held
returns-in-None-clause-held c = λ old new step h. put_outside c.args.layout.now.shape c.args.place c.args.holder _ old new c.in-None.ensures step h
