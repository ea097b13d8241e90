use Rattle.std.proofs.Common.{◌*◌, length, ap, ◌∙◌, replicate, false, arith, sym}
use Rattle.std.proofs.lemmas.List.{length-replicate}
use Rattle.sr_marks.proofs.Tiering.{summing_none, summing_more, summing_all}
use Rattle.sr_marks.proofs.tiers.summary.Goals as goal

pub loop-word-init : goal.loop-word-init
loop-word-init c =
    let size = ap length c.in_ok-above.ensures ∙ length-replicate (64 * c.div_ceil.result) false in
    summing_none c.in_ok-above.above c.args.below.now (length c.in_ok-above.above) (c.in_ok-above.ensures ∙ ap (λ n. replicate n false) (sym size))

pub put-requires : goal.put-requires
put-requires c =
    let size = ap length c.in_ok-above.ensures ∙ length-replicate (64 * c.div_ceil.result) false in
    omega (arith, c.div_ceil.ensures, c.loop-word.invariant.sized)

pub loop-word-preserved : goal.loop-word-preserved
loop-word-preserved c =
    let size = ap length c.in_ok-above.ensures ∙ length-replicate (64 * c.div_ceil.result) false in
    summing_more c.loop-word.above c.put.new.self c.args.below.now _ c.loop-word.word c.some_in.result c.loop-word.invariant (omega (arith, c.div_ceil.ensures)) c.some_in.ensures c.put.ensures

pub returns : goal.returns
returns c =
    let size = ap length c.in_ok-above.ensures ∙ length-replicate (64 * c.div_ceil.result) false in
    let sized = c.loop-word.invariant.sized in
    let all = c.words-words.ensures.all in
    (summing_all c.loop-word.above c.args.below.now _ c.loop-word.word c.loop-word.invariant (omega (arith, c.loop-word-test.false)) (omega (arith, c.div_ceil.ensures)), omega (arith, c.div_ceil.ensures))
