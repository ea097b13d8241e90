use Rattle.std.proofs.Common.{◌∙◌, subst}
use Rattle.sr_core.specs.FirstPools.{with_members}
use Rattle.sr_core.specs.PlainWords.{ShowsWords}
use Rattle.sr_core.proofs.FirstPools.{member_more, shows_same}
use Rattle.sr_machine.specs.Names.{rewritten}
use Rattle.sr_machine.specs.declared.name.Name.TheVariants.{Member}
use Rattle.sr_core.proofs.plain_words.PlainWords.put_members.Goals as goal

pub loop-index-preserved : goal.loop-index-preserved
loop-index-preserved c = (
  c.put.ensures.layout ∙ c.loop-index.invariant.0,
  λ words shows.
      let before = with_members words c.args.vip c.args.pool.now c.loop-index.index in
      let put = c.put.ensures.words before (c.loop-index.invariant.1 words shows) in
      let named = subst (λ x. ShowsWords c.put.new.self.layout c.put.new.self.words
      (rewritten before (Member c.args.vip 0 c.loop-index.index) x)) c.at.ensures put in
      shows_same c.put.new.self.layout c.put.new.self.words _ _ (member_more words c.args.vip c.args.pool.now c.loop-index.index) named,
)
