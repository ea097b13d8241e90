-- What a lawful list means for versions and packets, in plain words. Lists are in printed order.
use Rattle.std.specs.Prelude.{◌≡◌, ◌≢◌, ℕ, ◌+◌, ◌≤◌, true, Bool, false, List, Some, None, count_by, slice_get}
use Rattle.std.specs.List.{AllByRecursion, list_any}
use Rattle.sr_base.specs.Key.{KeyView}
use Rattle.sr_base.specs.declared.kind.Kind.{Kind}
use Rattle.sr_base.specs.declared.packet.Packet.{Packet}
use Rattle.sr_law.specs.Final.{answers, answers_rightly, packet_by, same_packet}
use Rattle.sr_law.specs.Full.{held_count}
use Rattle.sr_law.specs.Given.{last_given}
use Rattle.sr_law.specs.Opening.{opening}
use Rattle.sr_law.specs.Ticks.{lines_before}
use Rattle.sr_law.specs.declared.giving.Giving.{Giving}
use Rattle.sr_law.specs.declared.line.Line.{Line}
use Rattle.sr_law.specs.declared.line.Line.TheVariants.{Given, Packet as PacketLine}
use Rattle.sr_law.specs.declared.opening.Opening.{Opening}
use Rattle.sr_law.specs.declared.verdict.HeldBy.{HeldBy}
use Rattle.sr_law.specs.declared.verdict.Verdict.TheVariants.{Held}

-- ---- versions

-- nothing holds the version: it isn't the one that the virtual address was given last, and no open connection of it was opened with it
pub record IsFree (before : List Line) (vip version : ℕ) : Type 0 where
  pub last : (giving : Giving) → last_given before vip ≡ Some giving → giving.version ≢ version
  pub held : (key : KeyView) (o : Opening) → key.vip ≡ vip → opening before key ≡ Some o → o.version ≢ version

-- after the first lines, as many as there are virtual addresses, a version is given only when nothing holds it
abbrev pub VersionsAreFree : ℕ → List Line → Type 0
VersionsAreFree vips lines =
    (i out vip version pool : ℕ) → vips ≤ i → slice_get lines i ≡ Some (Given out vip version pool)
    → IsFree (lines_before i lines) vip version

-- ---- packets

-- the line tells of this packet
abbrev pub tells_of : Packet → Line → Bool
tells_of packet line = elim (packet_by line) as (λ o. Bool) [
  | None ↦ false
  | Some told ↦ same_packet packet told
]

-- this opener, the nth of its pipe that was held, has one answer, which is its own: of its key, and after it entered
pub record IsAnswered (lines : List Line) (pipe nth : ℕ) (key : KeyView) (entered : ℕ) : Type 0 where
  pub once : count_by (answers pipe nth) lines ≡ 1
  pub own : list_any (answers_rightly pipe nth key entered) lines ≡ true

-- each of these packets is there once
abbrev pub AreOnce : List Packet → Type 0
AreOnce packets = AllByRecursion (λ packet. count_by (same_packet packet) packets ≡ 1) packets

-- one line tells of each
abbrev pub EachHasOneLine : List Packet → List Line → Type 0
EachHasOneLine packets lines = AllByRecursion (λ packet. count_by (tells_of packet) lines ≡ 1) packets

-- where the line says that the packet is held, there is one answer to it; so that each packet has one final line
abbrev pub HeldHaveOneAnswer : List Line → Type 0
HeldHaveOneAnswer lines =
    (i number entered out pipe : ℕ) (key : KeyView) (kind : Kind) (why : HeldBy)
    → slice_get lines i ≡ Some (PacketLine number entered out pipe key kind (Held why))
    → IsAnswered lines pipe (1 + held_count pipe (lines_before i lines)) key entered
