use Rattle.std.proofs.Common.{◌≡◌, ◌∙◌, subst}
use Rattle.sr_core.specs.FirstPools.{first_words}
use Rattle.sr_core.specs.PlainWords.{ShowsWords}
use Rattle.sr_core.proofs.FirstPools.{head_of, pool_more, shows_same}
use Rattle.sr_machine.specs.Names.{rewritten}
use Rattle.sr_machine.specs.Opening.{opening_head}
use Rattle.sr_machine.specs.declared.name.Name.TheVariants.{Head}
use Rattle.sr_core.proofs.plain_words.PlainWords.give.Goals as goal

pub returns-clause-words : goal.returns-clause-words
returns-clause-words c = λ f e shows.
    let l = c.args.self.now.layout in
    let before = first_words l f c.args.vip in
    let size : c.pack.result ≡ opening_head c.args.pool.now =
    c.pack.ensures.value ∙ head_of c.args.pool.now c.size.result c.size.ensures.value c.size.ensures.some in
    let headed = subst (λ x. ShowsWords c.put.new.self.layout c.put.new.self.words (rewritten before (Head c.args.vip 0) x)) size
    (c.put.ensures.words before shows) in
    shows_same c.put_members.new.self.layout c.put_members.new.self.words _ _
    (pool_more l f c.args.vip c.args.pool.now e) (c.put_members.ensures.words _ headed)
