use Rattle.std.proofs.Common.{subst}
use Rattle.sr_base.specs.Layout.{IsLayout}
use Rattle.sr_words.proofs.Beginning.{begins}
use Rattle.sr_words.proofs.switch.Switch.new.Goals as goal

pub of_words-requires : goal.of_words-requires
of_words-requires c =
    begins c.args.config.now c.list.result.now c.in_ok-words.words.words c.layout-2.result.now c.in_ok-words.words.layout c.pools.result.now
    (subst IsLayout c.layout.ensures c.layout_ranges.ensures) c.layout-2.ensures c.fits.ensures c.pools.ensures c.list.ensures.words
    c.in_ok-words.ensures.layout c.list.ensures.length c.in_ok-words.ensures.words
