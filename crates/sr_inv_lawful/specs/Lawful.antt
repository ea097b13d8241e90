-- When the lines of a machine are lawful.
use Rattle.std.specs.Prelude.{◌≡◌, List, count_by}
use Rattle.sr_base.specs.declared.packet.Packet.{Packet}
use Rattle.sr_inv_facts.specs.Fitted.{IsFitted}
use Rattle.sr_inv_final.specs.Reached.{IsReached}
use Rattle.sr_inv_final.specs.Rest.{AreIdle, IsAtRest, setup_with}
use Rattle.sr_inv_rest.specs.Laws.{AtLeisure}
use Rattle.sr_law.specs.Final.{packets_of, same_packet}
use Rattle.sr_law.specs.Lawful.{IsLawful}
use Rattle.sr_machine.specs.Config.{Config}
use Rattle.sr_machine.specs.Core.{Core, lines_of, pipe_lines}
use Rattle.sr_machine.specs.Settling.{Settles}
use Rattle.sr_machine.specs.declared.settled.Settled.{Settled}

-- the pipes have lines of these packets and of no others, of each as often as it is there
abbrev pub HaveHandled : List Packet → Core → Type 0
HaveHandled packets s =
    (packet : Packet) → count_by (same_packet packet) (packets_of (pipe_lines s.pipes)) ≡ count_by (same_packet packet) packets

-- the lines of a state at rest are lawful for the packets that its pipes have lines of, by whatever events it is reached
abbrev pub RestedAreLawful : Type 0
RestedAreLawful =
    (k : Config) (s : Core) (packets : List Packet) → IsFitted k → IsReached k s → IsAtRest s → HaveHandled packets s
    → IsLawful (setup_with k packets) (lines_of s)

-- and so are those after turns until nothing is left to do, where these began with the pipes idle and the controller at leisure
abbrev pub SettledAreLawful : Type 0
SettledAreLawful =
    (k : Config) (s t : Core) (r : Settled) (packets : List Packet) → IsFitted k → IsReached k s → AreIdle s → AtLeisure s → HaveHandled packets s
    → Settles s r t → IsLawful (setup_with k packets) (lines_of t)
