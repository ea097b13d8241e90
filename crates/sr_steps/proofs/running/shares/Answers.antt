use Rattle.std.proofs.Common.{◌∙◌, ◌==◌, ◌++◌, [], ◌∷◌, ap, arith, filter, map, sym}
use Rattle.std.specs.List.{range_with_len}
use Rattle.std.proofs.lemmas.List.FromFn.{map-range_with_len_more}
use Rattle.sr_hash.specs.Uses.{pipe_number}
use Rattle.sr_picks.specs.Run.{packets_in}
use Rattle.sr_steps.proofs.running.shares.Goals as goal

pub loop-pipe-preserved : goal.loop-pipe-preserved
loop-pipe-preserved c =
    c.in_ok-push.ensures.items
    ∙ ap (λ ss. ss ++ c.new.result ∷ []) c.loop-pipe.invariant
    ∙ ap (λ s. map (λ i. filter (λ p. pipe_number p.key c.args.pipes == i) (packets_in c.args.packets.now c.args.round.now)) (range_with_len 0 c.loop-pipe.pipe) ++ s ∷ [])
    (c.new.ensures ∙ c.in_ok-packets_on.ensures)
    ∙ sym (map-range_with_len_more (λ i. filter (λ p. pipe_number p.key c.args.pipes == i) (packets_in c.args.packets.now c.args.round.now)) 0 c.loop-pipe.pipe c.loop-pipe.pipe (omega arith))
