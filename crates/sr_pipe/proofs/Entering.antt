-- A packet enters on an idle pipe.
use Rattle.std.proofs.Common.{◌≡◌, ◌+◌, ◌^◌, ◌<◌, ◌&&◌, nat_lt, Bool, true, false, length, Some, None, refl, if◌then◌else◌, arith}
use Rattle.std.proofs.lemmas.Bool.Decides.{nat_tests}
use Rattle.sr_base.specs.Layout.{LayoutView}
use Rattle.sr_base.specs.declared.packet.Packet.{Packet}
use Rattle.sr_core.specs.HeldPipe.{HeldPipe}
use Rattle.sr_machine.specs.Boards.{Beside, CanBeTold, told_packet}
use Rattle.sr_machine.specs.Config.{Config}
use Rattle.sr_machine.specs.Pipe.{entered, is_idle}
use Rattle.sr_machine.specs.declared.pipe_view.PipeView.{PipeView}
use Rattle.sr_machine.specs.declared.view.View.{View}
use Rattle.sr_machine.specs.declared.view.View.TheVariants.{OfPipe}
use Rattle.sr_pipe.specs.Handling.{with_packet}
use Rattle.sr_pipe.specs.Known.{IsFor}

entered_if : (a b c : Bool) (w : PipeView) → a ≡ true → b ≡ true → c ≡ true → (if a && (b && c) then Some w else None) ≡ Some w
entered_if true true true w p q r = refl
entered_if true true false w p q r = cc
entered_if true false c w p q r = cc
entered_if false b c w p q r = cc

pub enters : (l : LayoutView) (packet : Packet) (v : PipeView) → is_idle v.stage ≡ true → packet.key.vip < l.vips
    → length v.lines + 1 < 2 ^ 32 → entered l packet v ≡ Some (with_packet packet v)
enters l packet v i a b =
    entered_if (is_idle v.stage) (nat_lt packet.key.vip l.vips) (nat_lt (length v.lines + 1) (2 ^ 32)) (with_packet packet v) i
    (grind (arith, nat_tests)) (grind (arith, nat_tests))

-- so its board can be told
pub can_enter : (fits : Config → View → Type 0) (beside : Beside) (pipe : HeldPipe) (packet : Packet) → is_idle pipe.view.stage ≡ true
    → packet.key.vip < pipe.layout.vips → length pipe.view.lines + 1 < 2 ^ 32 → IsFor fits beside pipe
    → CanBeTold fits (told_packet packet)
can_enter fits beside pipe packet i a b h =
    (h.view.0, OfPipe pipe.view, OfPipe (with_packet packet pipe.view), h.view.2, told)
  where
    of : (l : LayoutView) → h.view.0.layout ≡ l → entered l packet pipe.view ≡ Some (with_packet packet pipe.view)
        → told_packet packet h.view.0 (OfPipe pipe.view) ≡ Some (OfPipe (with_packet packet pipe.view))
    of l e t = rw (e, t)

    told : told_packet packet h.view.0 (OfPipe pipe.view) ≡ Some (OfPipe (with_packet packet pipe.view))
    told = of pipe.layout h.view.1 (enters pipe.layout packet pipe.view i a b)
