-- A pipe with its board, between packets, and what becomes of both as it handles packets.
use Rattle.std.specs.Prelude.{◌≡◌, ℕ, ◌==◌, ◌&&◌, ◌++◌, Bool, true, false, List, [], ◌∷◌, map}
use Rattle.std.specs.List.{filter}
use Rattle.sr_base.specs.Layout.{LayoutView}
use Rattle.sr_base.specs.declared.packet.Packet.{Packet}
use Rattle.sr_hash.specs.Uses.{pipe_number}
use Rattle.sr_law.specs.Final.{packets_of}
use Rattle.sr_machine.specs.Boards.{Beside}
use Rattle.sr_machine.specs.Config.{Config}
use Rattle.sr_machine.specs.Pipe.{has_vip, is_idle}
use Rattle.sr_machine.specs.declared.view.View.{View}
use Rattle.sr_machine.specs.declared.view.View.TheVariants.{OfPipe}
use Rattle.sr_pipe.specs.Known.{IsFor}
use Rattle.sr_rounds.specs.declared.timed.Timed.{Timed}
use Rattle.sr_threads.specs.declared.worker.Worker.{Worker}
use Rattle.sr_words.specs.Besides.{beside_of}
use Rattle.sr_words.specs.Steps.{FitsSeat}

-- the views that its board fits
abbrev pub Fits : Worker → Config → View → Type 0
Fits w k x = FitsSeat w.board.words.now.key w.board.seat.me.0 w.board.heard k x

-- what its board belongs to
abbrev pub beside : Worker → Beside
beside w = beside_of w.board.layout w.board.seat.table_id w.board.seat.me.0

-- It can take a packet: it has none in hand, and the board is the pipe's.
pub record IsReady (l : LayoutView) (w : Worker) : Type 0 where
  pub layout : w.pipe.layout ≡ l
  pub idle : is_idle w.pipe.view.stage ≡ true
  pub board : IsFor (Fits w) (beside w) w.pipe

-- The pipe has handled these packets, one after another, and the board fits what the pipe knows then. Where a packet found no room, it says so.
pub record Worked (w : Worker) (packets : List Packet) (v : Worker) : Type 0 where
  pub layout : v.pipe.layout ≡ w.pipe.layout
  pub idle : is_idle v.pipe.view.stage ≡ true
  pub board : IsFor (Fits v) (beside v) v.pipe
  pub belongs : beside v ≡ beside w
  pub fits : (k : Config) → k.layout ≡ w.pipe.layout → Fits w k (OfPipe w.pipe.view) → Fits v k (OfPipe v.pipe.view)
  pub number : v.pipe.view.number ≡ w.pipe.view.number
  pub handled : v.short ≡ false
      → (w.short ≡ false) × (packets_of v.pipe.view.lines ≡ packets_of w.pipe.view.lines ++ packets)

-- the packets of this pipe: those whose keys name it, where the layout has their virtual address
abbrev pub is_own : LayoutView → ℕ → Packet → Bool
is_own l pipe packet = (pipe_number packet.key l.shape.pipes == pipe) && has_vip l packet

abbrev pub share_in : LayoutView → ℕ → List Timed → List Packet
share_in l pipe packets = filter (is_own l pipe) (map (λ t. t.packet) packets)

-- ---- all pipes

abbrev pub AllReady : LayoutView → List Worker → Type 0
AllReady l [] = Unit {0}
AllReady l (w ∷ ws) = IsReady l w × AllReady l ws

-- each has handled its own of these packets
abbrev pub AllWorked : LayoutView → List Timed → List Worker → List Worker → Type 0
AllWorked l packets [] [] = Unit {0}
AllWorked l packets [] (v ∷ vs) = ⊥
AllWorked l packets (w ∷ ws) [] = ⊥
AllWorked l packets (w ∷ ws) (v ∷ vs) = Worked w (share_in l w.pipe.view.number packets) v × AllWorked l packets ws vs
