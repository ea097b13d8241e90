-- Final: each packet has one final line, its own or the answer to it. This is a fact of the whole list, which is given here with its
-- newest line first, as the lines before a line are.
use Rattle.std.specs.Prelude.{ℕ, ◌+◌, Bool, true, false, ◌&&◌, ◌==◌, nat_lt, nat_le, List, [], ◌∷◌, ◌++◌, length, Option, Some, None, option_to_list, count_by}
use Rattle.std.specs.List.{list_any, list_all}
use Rattle.sr_base.specs.Key.{KeyView, same_key}
use Rattle.sr_base.specs.declared.kind.Kind.{Kind}
use Rattle.sr_base.specs.declared.kind.Kind.TheVariants.{Opener, Carry, Ending}
use Rattle.sr_base.specs.declared.packet.Packet.{Packet}
use Rattle.sr_law.specs.declared.line.Line.{Line}
use Rattle.sr_law.specs.declared.line.Line.TheVariants.{Packet as PacketLine, Answer}
use Rattle.sr_law.specs.declared.verdict.Verdict.TheVariants.{Held}
use Rattle.sr_law.specs.Full.{held_count}
use Rattle.sr_law.specs.Setup.{SetupView}

-- the packet that a line tells of
abbrev pub packet_by : Line → Option Packet
packet_by (PacketLine number entered out pipe key kind verdict) = Some (record { number = number; key = key; kind = kind })
packet_by line = None

-- the packets that the lines tell of
abbrev pub packets_of : List Line → List Packet
packets_of [] = []
packets_of (line ∷ before) = option_to_list (packet_by line) ++ packets_of before

-- two kinds are one
abbrev pub same_kind : Kind → Kind → Bool
same_kind Opener Opener = true
same_kind Carry Carry = true
same_kind Ending Ending = true
same_kind a b = false

-- two packets are one
abbrev pub same_packet : Packet → Packet → Bool
same_packet a b = (a.number == b.number) && same_key a.key b.key && same_kind a.kind b.kind

-- a packet is there as often in one list as in the other
unfoldable pub is_as_often : List Packet → List Packet → Packet → Bool
is_as_often xs ys packet = count_by (same_packet packet) xs == count_by (same_packet packet) ys

-- two lists have the same packets
abbrev pub same_packets : List Packet → List Packet → Bool
same_packets xs ys = list_all (is_as_often xs ys) xs && list_all (is_as_often xs ys) ys

-- the line is an answer to the nth held opener of this pipe
abbrev pub answers : ℕ → ℕ → Line → Bool
answers pipe nth (Answer out at n key verdict) = (at == pipe) && (n == nth)
answers pipe nth line = false

-- and it is one for this key, after the opener had entered; the pipe may note that it was out later than that
abbrev pub answers_rightly : ℕ → ℕ → KeyView → ℕ → Line → Bool
answers_rightly pipe nth key entered (Answer out at n of_key verdict) = (at == pipe) && (n == nth) && same_key of_key key && nat_lt entered out
answers_rightly pipe nth key entered line = false

-- there is one such answer, and it is right
unfoldable pub is_answered : List Line → ℕ → ℕ → KeyView → ℕ → Bool
is_answered all pipe nth key entered = (count_by (answers pipe nth) all == 1) && list_any (answers_rightly pipe nth key entered) all

-- a held opener, the next of its pipe after these lines, has its answer
abbrev pub held_is_answered : List Line → Line → List Line → Bool
held_is_answered all (PacketLine number entered out pipe key kind (Held why)) before = is_answered all pipe (1 + held_count pipe before) key entered
held_is_answered all line before = true

-- each held opener has its answer
abbrev pub all_held_answered : List Line → List Line → Bool
all_held_answered all [] = true
all_held_answered all (line ∷ before) = held_is_answered all line before && all_held_answered all before

-- an answer is to an opener that was held
abbrev pub answer_is_held : List Line → Line → Bool
answer_is_held all (Answer out pipe nth key verdict) = nat_le 1 nth && nat_le nth (held_count pipe all)
answer_is_held all line = true

-- the first lines are there; the packets are those of the setup, each as often as there; and answers and held openers pair
unfoldable pub meets_final : SetupView → List Line → Bool
meets_final setup all =
    nat_le (length setup.pools) (length all) && same_packets (packets_of all) setup.packets && all_held_answered all all && list_all (answer_is_held all) all
