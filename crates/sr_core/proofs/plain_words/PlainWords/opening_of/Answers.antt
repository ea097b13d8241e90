use Rattle.std.proofs.Common.{◌≡◌, ◌∙◌, ◌+◌, [], ap, arith, subst, sym}
use Rattle.sr_base.specs.Fitting.{IsPoolOf}
use Rattle.sr_base.specs.WordName.{words_of}
use Rattle.sr_core.specs.FirstPools.{first_words}
use Rattle.sr_core.specs.PlainWords.{ShowsWords}
use Rattle.sr_law.specs.Pools.{pool_of}
use Rattle.sr_machine.specs.Config.{Config}
use Rattle.sr_machine.specs.Opening.{first_pool}
use Rattle.sr_core.proofs.FirstPools.{all_pools, first_fits, pools_begin}
use Rattle.sr_core.proofs.plain_words.PlainWords.opening_of.Goals as goal

pub loop-vip-init : goal.loop-vip-init
loop-vip-init c =
    let k : Config = record { layout = c.args.layout.now; pools = c.args.pools.now; changes = [] } in
    let same = ap (λ w. w.layout) c.in_ok-words.ensures in (
      c.put.ensures.layout ∙ same,
      pools_begin c.args.layout.now c.in_ok-words.words.layout c.put.new.self.layout c.in_ok-words.words.words c.put.new.self.words
          (words_of c.args.layout.now) _ (first_pool k) same c.put.ensures.layout
          (ap (λ w. w.words) c.in_ok-words.ensures) (ap (λ n. n + 1) c.vips.ensures) c.put.ensures.words,
    )

pub give-requires-clause-pool : goal.give-requires-clause-pool
give-requires-clause-pool c =
    subst (λ l. IsPoolOf l c.in-Some.pool.now) (sym c.loop-vip.invariant.0)
    (first_fits (IsPoolOf c.args.layout.now) 0 c.requires.0 c.requires.1 c.loop-vip.vip c.in-Some.pool.now c.requires.2.pools
    (ap (λ ps. pool_of ps c.loop-vip.vip 1) (sym c.requires.3) ∙ sym c.in-Some.ensures))

pub returns-clause-words : goal.returns-clause-words
returns-clause-words c = λ changes.
    let k : Config = record { layout = c.args.layout.now; pools = c.args.pools.now; changes = changes } in
    let last : c.loop-vip.vip ≡ c.args.layout.now.vips = omega (arith, c.loop-vip-test.false, c.loop-vip.auto, c.vips-vip-end.ensures) in
    all_pools k c.loop-vip.words.words
    (subst (λ n. ShowsWords k.layout c.loop-vip.words.words (first_words k.layout (first_pool k) n)) last c.loop-vip.invariant.1)
