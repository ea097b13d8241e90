use Rattle.std.proofs.Common.{◌+◌, ◌*◌, ◌/◌, ◌<◌, [], get_or, length, ap, sym, ◌∙◌, arith}
use Rattle.sr_marks.specs.Marks.{next_set}
use Rattle.sr_marks.specs.Words.{up_to_word_end}
use Rattle.sr_marks.proofs.Tiering.{tier-read, next-front, next-past, next-none, next-word_within, next-word, none_of}
use Rattle.sr_marks.proofs.tiers.+next_from.Goals as goal

pub returns-then-from-len : goal.returns-then-from-len
returns-then-from-len t c =
    let here = tier-read c.args.tiers.now.items c.args.i c.index-tier.result.now c.requires.within c.index-tier.ensures in
    sym (ap (next_set c.args.from) (sym here) ∙ next-past c.args.from c.index-tier.result.now (omega (arith, c.len.ensures)))

pub returns-in-Some : goal.returns-in-Some
returns-in-Some t c =
    let here = tier-read c.args.tiers.now.items c.args.i c.index-tier.result.now c.requires.within c.index-tier.ensures in
    sym (ap (next_set c.args.from) (sym here) ∙ next-front c.args.from (64 * (c.args.from / 64 + 1)) c.in-Some.at c.index-tier.result.now (sym c.next_in_word.ensures ∙ c.in-Some.is))

pub next_from-requires : goal.next_from-requires
next_from-requires t c = (omega (arith, c.decreases, c.requires.within), (c.requires.summed, omega (arith, c.requires.within)))

pub overflow_mul-word : goal.overflow_mul-word
overflow_mul-word t c =
    let tiers = c.args.tiers.now.items in
    let more : c.args.i + 1 < length tiers = omega (arith, c.requires.within) in
    let here = ap length (tier-read tiers c.args.i c.index-tier.result.now c.requires.within c.index-tier.ensures) in
    let within = next-word_within _ c.in-Some-next_from.word (get_or tiers c.args.i []) (get_or tiers (c.args.i + 1) []) (c.requires.summed.each c.args.i (omega arith) more) (sym c.next_from.ensures ∙ c.in-Some-next_from.is) in
    omega (arith, c.len.ensures, c.len.type_inv)

pub next_in_word-requires-in-Some-next_from : goal.next_in_word-requires-in-Some-next_from
next_in_word-requires-in-Some-next_from t c =
    let tiers = c.args.tiers.now.items in
    let more : c.args.i + 1 < length tiers = omega (arith, c.requires.within) in
    let here = ap length (tier-read tiers c.args.i c.index-tier.result.now c.requires.within c.index-tier.ensures) in
    let within = next-word_within _ c.in-Some-next_from.word (get_or tiers c.args.i []) (get_or tiers (c.args.i + 1) []) (c.requires.summed.each c.args.i (omega arith) more) (sym c.next_from.ensures ∙ c.in-Some-next_from.is) in
    omega arith

pub returns-in-Some-next_from : goal.returns-in-Some-next_from
returns-in-Some-next_from t c =
    let tiers = c.args.tiers.now.items in
    let more : c.args.i + 1 < length tiers = omega (arith, c.requires.within) in
    let here = tier-read tiers c.args.i c.index-tier.result.now c.requires.within c.index-tier.ensures in
    let word = c.in-Some-next_from.word in
    c.next_in_word-in-Some-next_from.ensures ∙ (ap (λ ms. next_set (64 * word) (up_to_word_end (64 * word) ms)) here ∙ next-word c.args.from word (get_or tiers c.args.i []) (get_or tiers (c.args.i + 1) []) (c.requires.summed.each c.args.i (omega arith) more) (ap (λ ms. next_set c.args.from (up_to_word_end c.args.from ms)) (sym here) ∙ (sym c.next_in_word.ensures ∙ none_of c.next_in_word.result c.in_default.not-Some)) (sym c.next_from.ensures ∙ c.in-Some-next_from.is))

pub returns-in-None : goal.returns-in-None
returns-in-None t c =
    let tiers = c.args.tiers.now.items in
    let more : c.args.i + 1 < length tiers = omega (arith, c.requires.within) in
    let here = tier-read tiers c.args.i c.index-tier.result.now c.requires.within c.index-tier.ensures in
    sym (next-none c.args.from (get_or tiers c.args.i []) (get_or tiers (c.args.i + 1) []) (c.requires.summed.each c.args.i (omega arith) more) (ap (λ ms. next_set c.args.from (up_to_word_end c.args.from ms)) (sym here) ∙ (sym c.next_in_word.ensures ∙ none_of c.next_in_word.result c.in_default.not-Some)) (sym c.next_from.ensures ∙ c.in-None.is))
