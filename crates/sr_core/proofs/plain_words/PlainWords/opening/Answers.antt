use Rattle.std.proofs.Common.{◌∙◌, ◌<◌, ◌+◌, ap, arith, length}
use Rattle.sr_base.specs.WordName.{words_of}
use Rattle.sr_core.specs.FirstPools.{listed}
use Rattle.sr_core.proofs.FirstPools.{listed_at, pools_begin, pools_go_on}
use Rattle.sr_core.proofs.plain_words.PlainWords.opening.Goals as goal

pub loop-vip-init : goal.loop-vip-init
loop-vip-init c =
    let same = ap (λ w. w.layout) c.in_ok-words.ensures in (
      c.put.ensures.layout ∙ same,
      pools_begin c.args.layout.now c.in_ok-words.words.layout c.put.new.self.layout c.in_ok-words.words.words c.put.new.self.words
          (words_of c.args.layout.now) _ (listed c.args.first.now) same c.put.ensures.layout
          (ap (λ w. w.words) c.in_ok-words.ensures) (ap (λ n. n + 1) c.vips.ensures) c.put.ensures.words,
    )

pub loop-vip-preserved : goal.loop-vip-preserved
loop-vip-preserved c =
    let within : c.loop-vip.vip < length c.args.first.now = omega (arith, c.loop-vip-test.true, c.vips-vip-end.ensures, c.requires.vips) in (
      c.give.ensures.layout ∙ c.loop-vip.invariant.0,
      pools_go_on c.args.layout.now c.loop-vip.words.layout c.give.new.self.layout c.loop-vip.words.words c.give.new.self.words
          (listed c.args.first.now) c.loop-vip.vip c.loop-vip.invariant.0 c.give.ensures.layout
          (c.give.ensures.words (listed c.args.first.now)
          (listed_at c.args.first.now c.loop-vip.vip c.index-first-vip.result within c.index-first-vip.is))
          c.loop-vip.invariant.1,
    )
