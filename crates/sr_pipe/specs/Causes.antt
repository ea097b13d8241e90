-- Why a packet was held, sent nowhere, or found its ring full: exactly by the words that were loaded for it.
use Rattle.std.specs.Prelude.{◌≡◌, ◌&&◌, not, Bool, true, false}
use Rattle.sr_base.specs.Layout.{LayoutView}
use Rattle.sr_base.specs.declared.packet.Packet.{Packet}
use Rattle.sr_law.specs.declared.verdict.HeldBy.TheVariants.{Clash, Hold, Transit}
use Rattle.sr_law.specs.declared.verdict.Verdict.{Verdict}
use Rattle.sr_law.specs.declared.verdict.Verdict.TheVariants.{Held, Down, Full}
use Rattle.sr_machine.specs.Stages.{is_opener, key_bits}
use Rattle.sr_pipe.specs.Told.{Told, all_set, is_holding, is_transit, says_down, says_empty, says_full, vip_says}

-- ---- the kind of a verdict

abbrev pub is_clash : Verdict → Bool
is_clash (Held Clash) = true
is_clash v = false

abbrev pub is_hold : Verdict → Bool
is_hold (Held Hold) = true
is_hold v = false

abbrev pub is_transit_held : Verdict → Bool
is_transit_held (Held Transit) = true
is_transit_held v = false

abbrev pub is_down : Verdict → Bool
is_down (Down server version pool) = true
is_down v = false

abbrev pub is_full : Verdict → Bool
is_full Full = true
is_full v = false

-- ---- its cause

pub record HasCause (l : LayoutView) (packet : Packet) (t : Told) (v : Verdict) : Type 0 where
  -- held for a clash exactly where an opener's row or cell matched, reserved or live, and the ring's cell was 0
  pub clash : is_clash v ≡ (is_opener packet.kind && (t.matched && says_empty t.cell))
  -- held in Holding exactly where an opener matched nothing, its virtual address said Holding, and the ring's cell was 0
  pub hold : is_hold v ≡ (is_opener packet.kind && (not t.matched && (vip_says is_holding t.vip && says_empty t.cell)))
  -- held by the transit filter exactly where an opener matched nothing, its virtual address said Transit, its three places of the
  -- filter were set, and the ring's cell was 0
  pub transit : is_transit_held v
      ≡ (is_opener packet.kind && (not t.matched && (vip_says is_transit t.vip
      && (all_set (key_bits l packet.key) t.filter && says_empty t.cell))))
  -- its server is down exactly where the down word said so, which is loaded where a version was chosen
  pub down : is_down v ≡ says_down t.down
  -- no room exactly where an opener that isn't Down found another word than 0 in the ring's cell
  pub full : is_full v ≡ (is_opener packet.kind && (not (says_down t.down) && says_full t.cell))
