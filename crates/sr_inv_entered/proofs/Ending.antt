-- A run round by round lets in the packets that it is given, whoever acts next.
use Rattle.std.proofs.Common.{◌≡◌, ℕ, ◌+◌, ◌<◌, ◌^◌, List, [], length, sum_by, sym, refl, ap, ◌∙◌, subst, arith}
use Rattle.std.proofs.lemmas.List.{length-map}
use Rattle.std.specs.List.{AllByRecursion}
use Rattle.sr_base.specs.Layout.{IsLayout}
use Rattle.sr_base.specs.declared.packet.Packet.{Packet}
use Rattle.sr_inv_entered.proofs.Rounding.{packets_of_rounds, rounds_from, rounds_stand}
use Rattle.sr_inv_entered.proofs.Standing.{IsStill, Stands, opening_stands, still_stands}
use Rattle.sr_inv_entered.specs.Entered.{AreTakable, MayEnter, PicksAreFinal, PicksAreReached, PicksEnterAll, given}
use Rattle.sr_inv_final.proofs.Ending.{final_of}
use Rattle.sr_inv_final.proofs.Entering.{came, times}
use Rattle.sr_inv_final.proofs.SamePackets.{came_as_entered, same_by_times, told_as_came}
use Rattle.sr_inv_final.specs.Reached.{IsReached, entered_in}
use Rattle.sr_inv_lawful.proofs.Reached.{reached_more}
use Rattle.sr_inv_rest.proofs.Resting.{acts_rest}
use Rattle.sr_inv_runs.proofs.Carried.{run_keeps, settled_keeps}
use Rattle.sr_inv_runs.proofs.Picked.{acts_keep}
use Rattle.sr_inv_runs.specs.Runs.{ArePackets}
use Rattle.sr_law.specs.Final.{packets_of}
use Rattle.sr_machine.proofs.Kept.{reached_config}
use Rattle.sr_machine.specs.Config.{Config}
use Rattle.sr_machine.specs.Core.{Core, opening, printed}
use Rattle.sr_machine.specs.declared.settled.Settled.{Settled}
use Rattle.sr_picks.proofs.Acts.{run_acts}
use Rattle.sr_picks.proofs.Runs.{acts_run_reached}
use Rattle.sr_picks.specs.Run.{RunsByActs}
use Rattle.sr_rounds.proofs.Windows.{the_rounds}
use Rattle.sr_rounds.specs.Rounds.{rounds_of}
use Rattle.sr_rounds.specs.declared.timed.Timed.{Timed}

-- this packet came as often as it is given
pub came_as_given : (k : Config) (packet : Packet) (packets : List Timed) (r : Settled) (t : Core) → IsLayout k.layout
    → AreTakable k packets
    → RunsByActs k packets r t
    → sum_by (came packet) t.pipes ≡ times packet (given packets)
came_as_given k packet packets r t l a h =
    let rounds = rounds_of k.layout.shape.window_ms packets in
    let the = the_rounds k.layout.shape.window_ms packets in
    let ys = packets_of_rounds packets rounds in
    let same : ys ≡ given packets = rounds_from k.layout.shape.window_ms packets 0 rounds the.all the.each in
    let long : length ys ≡ length packets = ap length same ∙ length-map packets (λ (p : Timed). p.packet) in
    let few : 0 + length ys < 2 ^ 32 = let few = a.few in omega (arith, long, few) in
    let may = subst (AllByRecursion (MayEnter k)) (sym same) a.each in
    let all = 0 + length ys in
    let own = 0 + times packet ys in
    let stands : Stands k packet all own h.state =
    rounds_stand k packet l.pipes.0 packets rounds 0 0 (opening k) h.state (opening_stands k packet) may few h.rounds in
    let ends : Stands k packet all own t =
    settled_keeps (Stands k packet all own) IsStill (still_stands k packet all own) tt tt h.settles.0 h.state t r stands h.settles.1 in
    let often = ap (times packet) same in
    omega (arith, ends.own, often)

pub enter_all : PicksEnterAll
enter_all k seed packets r t l a h reached =
    same_by_times (entered_in reached.events) (given packets)
    (λ x. sym (came_as_entered x k t reached) ∙ came_as_given k x packets r t l a (run_acts k seed packets r t h))

-- its lines tell of these packets
pub picks_final : PicksAreFinal
picks_final k seed packets r t f are a h =
    let acts = run_acts k seed packets r t h in
    let i = (acts_keep k packets r t f are acts).0 in
    let config = reached_config k t (acts_run_reached k packets r t acts) in
    let rest = acts_rest k packets r t f are acts in
    let own = λ (x : Packet). told_as_came x t i.ticks rest.idle ∙ came_as_given k x packets r t f.layout a acts in
    final_of k t (given packets) config i rest (same_by_times (packets_of (printed t)) (given packets) own)

-- some events reach the state
pub acts_reached : (k : Config) (packets : List Timed) (r : Settled) (t : Core) → ArePackets packets → RunsByActs k packets r t → IsReached k t
acts_reached k packets r t are h =
    let first : IsReached k (opening k) = record { events = []; leads = refl; packets = tt } in
    run_keeps (IsReached k) (reached_more k) k packets r t are first h

pub are_reached : PicksAreReached
are_reached k seed packets r t are h = acts_reached k packets r t are (run_acts k seed packets r t h)
