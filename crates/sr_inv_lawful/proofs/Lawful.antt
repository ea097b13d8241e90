-- The lines of a state at rest are lawful for the packets that its pipes have lines of.
use Rattle.std.proofs.Common.{◌≡◌, ◌∙◌, true, List, reverse, sym, refl, ap, subst}
use Rattle.std.proofs.lemmas.List.{reverse-reverse}
use Rattle.sr_base.specs.declared.packet.Packet.{Packet}
use Rattle.sr_inv.proofs.Joined.{reached_meets}
use Rattle.sr_inv_facts.specs.Fitted.{IsPacket}
use Rattle.sr_inv_facts.specs.InCauses.{setup_of}
use Rattle.sr_inv_facts.specs.Readings.{EachPipe}
use Rattle.sr_inv_final.proofs.Ending.{final_of}
use Rattle.sr_inv_final.proofs.Entering.{times, told_sum}
use Rattle.sr_inv_final.proofs.SamePackets.{idle_came, same_by_times, told_as_came}
use Rattle.sr_inv_final.specs.Reached.{IsReached}
use Rattle.sr_inv_final.specs.Rest.{setup_with}
use Rattle.sr_inv_lawful.proofs.Reached.{reached_more}
use Rattle.sr_inv_lawful.specs.Lawful.{HaveHandled, RestedAreLawful, SettledAreLawful}
use Rattle.sr_inv_rest.proofs.Resting.{settled_rests}
use Rattle.sr_inv_runs.proofs.Carried.{settled_keeps}
use Rattle.sr_inv_runs.proofs.Idle.{settled_leaves}
use Rattle.sr_inv_runs.proofs.Lines.{lines_keep}
use Rattle.sr_inv_runs.specs.Runs.{LinesKeepClauses}
use Rattle.sr_law.specs.Cause.{meets_cause}
use Rattle.sr_law.specs.Final.{meets_final, packets_of}
use Rattle.sr_law.specs.Groups.{keeps_groups}
use Rattle.sr_law.specs.Lawful.{IsLawful, NoLineBreaks, broken}
use Rattle.sr_law.specs.Number.{meets_number}
use Rattle.sr_law.specs.Order.{meets_order}
use Rattle.sr_law.specs.Ranges.{in_range}
use Rattle.sr_law.specs.Retire.{EndingPacket, endings_of, meets_retire}
use Rattle.sr_law.specs.declared.line.Line.{Line}
use Rattle.sr_machine.proofs.Kept.{reached_config}
use Rattle.sr_machine.specs.Config.{Config}
use Rattle.sr_machine.specs.Core.{lines_of, pipe_lines, printed}
use Rattle.sr_machine.specs.Keeping.{Brings}
use Rattle.sr_machine.specs.Pipe.{is_idle}
use Rattle.sr_machine.specs.declared.pipe_view.PipeView.{PipeView}

-- no clause of a line asks which packets are given
whoever_came : (k : Config) (packets : List Packet) (endings : List EndingPacket) (before : List Line) (line : Line)
    → broken (setup_with k packets) endings before line ≡ broken (setup_of k) endings before line
unfolding broken meets_order keeps_groups in_range meets_number meets_cause meets_retire
whoever_came k packets endings before line = refl

lawful_lines : (k : Config) (packets : List Packet) (newest lines : List Line) → reverse lines ≡ newest
    → NoLineBreaks (setup_of k) (endings_of newest) lines
    → meets_final (setup_with k packets) newest ≡ true
    → IsLawful (setup_with k packets) lines
lawful_lines k packets newest lines e unbroken final = (
  λ i line there.
      let none = subst (λ ls. NoLineBreaks (setup_of k) (endings_of ls) lines) (sym e) unbroken in
      whoever_came k packets _ _ line ∙ none i line there,
  ap (meets_final (setup_with k packets)) e ∙ final,
)

pub rested_lawful : RestedAreLawful
rested_lawful k s packets f reached rest handled =
    let i = reached_meets k f reached.events s reached.packets reached.leads in
    let config = reached_config k s (reached.events, reached.leads) in
    let told : (x : Packet) → times x (packets_of (printed s)) ≡ times x packets = λ x.
    told_as_came x s i.ticks rest.idle
    ∙ (sym (idle_came x s.pipes rest.idle) ∙ (sym (told_sum x (pipe_lines s.pipes)) ∙ handled x)) in
    lawful_lines k packets (printed s) (lines_of s) (reverse-reverse (printed s))
    (subst (λ c. LinesKeepClauses c s) config (lines_keep s i rest.idle)).unbroken
    (final_of k s packets config i rest (same_by_times (packets_of (printed s)) packets told))

pub settled_lawful : SettledAreLawful
settled_lawful k s t r packets f reached idle leisure handled settles =
    let pipes = settled_leaves settles.0 s t r settles.1 in
    let there : IsReached k t = settled_keeps (IsReached k) (Brings IsPacket) (reached_more k) tt tt settles.0 s t r reached settles.1 in
    let i = reached_meets k f there.events t there.packets there.leads in
    let still = subst (EachPipe (λ p v. is_idle v.stage ≡ true)) (sym pipes) idle in
    rested_lawful k t packets f there (settled_rests s t r leisure settles i still)
    (subst (λ (vs : List PipeView). (x : Packet) → times x (packets_of (pipe_lines vs)) ≡ times x packets) (sym pipes) handled)
