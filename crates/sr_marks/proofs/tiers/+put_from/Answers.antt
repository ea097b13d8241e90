use Rattle.std.proofs.Common.{◌≡◌, ◌+◌, ◌/◌, ◌<◌, ◌≢◌, [], false, length, get_or, set, length-set, ap, sym, ◌∙◌, arith}
use Rattle.std.proofs.lemmas.List.{get_or-set_other}
use Rattle.sr_marks.specs.Words.{some_in}
use Rattle.sr_marks.proofs.Tiering.{tier-read, put-behind, put-written, put-still, put-last, alike}
use Rattle.sr_marks.proofs.tiers.+put_from.Goals as goal
use Rattle.sr_marks.proofs.tiers.+put_from.Goals.{else-i-len-via-then-i-len+else-get-some, else-i-len-via-else-i-len}

pub put_from-requires : goal.put_from-requires
put_from-requires t c =
    let tiers = c.args.tiers.now.items in
    let put : set tiers c.args.i c.put.new.self ≡ set tiers c.args.i (set (get_or tiers c.args.i []) c.args.at c.args.mark) = ap (λ ms. set tiers c.args.i ms) (c.put.ensures ∙ ap (λ ms. set ms c.args.at c.args.mark) (tier-read tiers c.args.i c.index_mut.result.now c.requires.tier c.index_mut.ensures.value)) in
    let long = length-set tiers c.args.i c.put.new.self in
    let above : c.args.i + 1 ≢ c.args.i = omega arith in
    let same = ap length (get_or-set_other tiers c.args.i (c.args.i + 1) c.put.new.self [] above) in
    let more : c.args.i + 1 < length tiers = omega (arith, c.if-i-len.true, c.len.ensures) in
    let fits = (c.requires.summed.each c.args.i (omega arith) more).fits in
    (omega (arith, c.decreases), (put-behind c.args.i c.args.at tiers (set tiers c.args.i c.put.new.self) c.args.mark c.requires.summed put more, (omega arith, omega (arith, c.requires.within))))

pub returns-then-get-some-clause-summed : goal.returns-then-get-some-clause-summed
returns-then-get-some-clause-summed t c =
    let tiers = c.args.tiers.now.items in
    let put : set tiers c.args.i c.put.new.self ≡ set tiers c.args.i (set (get_or tiers c.args.i []) c.args.at c.args.mark) = ap (λ ms. set tiers c.args.i ms) (c.put.ensures ∙ ap (λ ms. set ms c.args.at c.args.mark) (tier-read tiers c.args.i c.index_mut.result.now c.requires.tier c.index_mut.ensures.value)) in
    let next = set tiers c.args.i c.put.new.self in
    let long = length-set tiers c.args.i c.put.new.self in
    let more : c.args.i + 1 < length tiers = omega (arith, c.if-i-len.true, c.len.ensures) in
    let answer = c.some_in-some.ensures ∙ ap (λ ms. some_in (c.args.at / 64) ms) (tier-read next c.args.i c.index.result.now (omega (arith, c.requires.tier)) c.index.ensures) in
    put-written c.args.i c.args.at tiers next c.put_from.new.tiers.items c.args.mark c.requires.summed c.requires.within put more c.put_from.ensures.summed (c.put_from.ensures.written ∙ ap (λ s. set (get_or next (c.args.i + 1) []) (c.args.at / 64) s) answer) (c.put_from.ensures.others c.args.i (omega arith))

pub returns-else-i-len-clause-summed : goal.returns-else-i-len-clause-summed
returns-else-i-len-clause-summed t c =
    let tiers = c.args.tiers.now.items in
    let put : set tiers c.args.i c.put.new.self ≡ set tiers c.args.i (set (get_or tiers c.args.i []) c.args.at c.args.mark) = ap (λ ms. set tiers c.args.i ms) (c.put.ensures ∙ ap (λ ms. set ms c.args.at c.args.mark) (tier-read tiers c.args.i c.index_mut.result.now c.requires.tier c.index_mut.ensures.value)) in
    let next = set tiers c.args.i c.put.new.self in
    let long = length-set tiers c.args.i c.put.new.self in
    let answer = c.some_in-some.ensures ∙ ap (λ ms. some_in (c.args.at / 64) ms) (tier-read next c.args.i c.index.result.now (omega (arith, c.requires.tier)) c.index.ensures) in
    elim c.else-i-len.branch [
      | else-i-len-via-then-i-len+else-get-some w ↦
          let more : c.args.i + 1 < length tiers = omega (arith, w.if-i-len.true, c.len.ensures) in
          let read = ap (λ ms. get_or ms (c.args.at / 64) false) (tier-read next (c.args.i + 1) w.index-then-i-len.result.now (omega arith) w.index-then-i-len.ensures) in
          put-still c.args.i c.args.at tiers next c.args.mark c.requires.summed put more (sym read ∙ (sym w.get.ensures ∙ (alike w.get.result c.some_in-some.result w.if-get-some.false ∙ answer)))
      | else-i-len-via-else-i-len w ↦ put-last c.args.i c.args.at tiers (set tiers c.args.i c.put.new.self) c.args.mark c.requires.summed put c.requires.tier (omega (arith, w.if-i-len.false, c.len.ensures))
    ]
