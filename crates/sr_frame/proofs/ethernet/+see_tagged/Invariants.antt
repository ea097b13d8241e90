use Rattle.sr_frame.proofs.ethernet.+see_tagged.Given as goal

abbrev pub decreases-see_tagged : goal.decreases-see_tagged
decreases-see_tagged l = l.tags
