-- The lines of a state at rest are those of a whole run.
use Rattle.std.proofs.Common.{◌≡◌, ◌&&◌, nat_le, true, List, length, sym, ap, ◌∙◌, arith}
use Rattle.std.proofs.lemmas.Bool.Decides.{nat_tests}
use Rattle.std.specs.List.{list_all}
use Rattle.sr_base.specs.declared.packet.Packet.{Packet}
use Rattle.sr_inv_facts.specs.Invariant.{Invariant}
use Rattle.sr_inv_final.proofs.Answering.{answers_held, helds_answered}
use Rattle.sr_inv_final.proofs.SamePackets.{packets_are_told}
use Rattle.sr_inv_final.specs.Laws.{FinalHolds}
use Rattle.sr_inv_final.specs.Reached.{entered_in}
use Rattle.sr_inv_final.specs.Rest.{IsAtRest, setup_with}
use Rattle.sr_inv_order.proofs.Grouped.{pools_count}
use Rattle.sr_inv_order.proofs.Rising.{and_true}
use Rattle.sr_law.specs.Final.{all_held_answered, answer_is_held, meets_final, packets_of, same_packets}
use Rattle.sr_machine.proofs.Kept.{reached_config}
use Rattle.sr_machine.specs.Config.{Config}
use Rattle.sr_machine.specs.Core.{Core, printed}

-- there are as many lines as virtual addresses
pools_within : (k : Config) (s : Core) → s.config ≡ k → Invariant s → nat_le (length k.pools) (length (printed s)) ≡ true
pools_within k s made i =
    let pools = ap (λ c. length c.pools) (sym made) ∙ pools_count s.config i.shape.config in
    let enough = i.update.changes.enough in
    grind (arith, nat_tests, pools, enough)

-- they are those of a whole run of the packets that they tell of
pub final_of : (k : Config) (s : Core) (packets : List Packet) → s.config ≡ k → Invariant s → IsAtRest s
    → same_packets (packets_of (printed s)) packets ≡ true → meets_final (setup_with k packets) (printed s) ≡ true
unfolding meets_final
final_of k s packets made i rest told =
    let all = printed s in
    let pools = nat_le (length k.pools) (length all) in
    let helds = all_held_answered all all in
    and_true ((pools && same_packets (packets_of all) packets) && helds) (list_all (answer_is_held all) all)
    (and_true (pools && same_packets (packets_of all) packets) helds
    (and_true pools (same_packets (packets_of all) packets) (pools_within k s made i) told) (helds_answered s i rest))
    (answers_held s i rest)

pub final : FinalHolds
final k s r i rest =
    final_of k s (entered_in r.events) (reached_config k s (r.events, r.leads)) i rest (packets_are_told k s r i.ticks rest.idle)
