use Rattle.std.proofs.Common.{◌≡◌, ◌*◌, arith, length}
use Rattle.sr_marks.proofs.Keeping.{counting_none, counting_more, counting_all}
use Rattle.sr_marks.proofs.level.Level.of.Goals as goal

pub loop-word-init : goal.loop-word-init
loop-word-init c = counting_none c.in_ok-counts.counts.items c.args.flags.now c.in_ok-counts.ensures.items

pub loop-word-preserved : goal.loop-word-preserved
loop-word-preserved c = counting_more c.loop-word.counts.items c.push.new.self.items c.args.flags.now c.loop-word.word c.count_in.result c.loop-word.invariant c.count_in.ensures c.in_ok-push.ensures.items

pub returns : goal.returns
returns c =
    let last : 64 * c.loop-word.word ≡ length c.args.flags.now = omega (arith, c.words-words.ensures.all, c.loop-word-test.false, c.loop-word.auto.word-end) in
    counting_all c.loop-word.counts.items c.args.flags.now c.loop-word.word c.loop-word.invariant last
