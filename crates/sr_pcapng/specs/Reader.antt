-- What a reader knows, and what its calls do.
use Rattle.std.specs.Prelude.{◌≡◌, ◌⊎◌, ℕ, ◌+◌, List, [], Option, Some, None, Result, Ok, Err}
use Rattle.sr_io.specs.Window.{WindowView, Pending}
use Rattle.sr_pcapng.specs.declared.ng_next.NgNext.{NgNext}
use Rattle.sr_pcapng.specs.declared.ng_next.NgNext.TheVariants as next
use Rattle.sr_pcapng.specs.declared.stop.Stop.{Stop}
use Rattle.sr_pcapng.specs.declared.stop.Stop.TheVariants as stop
use Rattle.sr_pcapng.specs.declared.packet_head.PacketHead.{PacketHead}
use Rattle.sr_pcapng.specs.Next.{Place, Arrival, next_from}

-- a reader as the place where it reads on, the captured bytes of the packet that it answered last, if that was its last answer, the window with
-- the bytes that aren't used yet, and the answer that it gives from now on, if there is one
pub record ReaderView : Type 0 where
  pub place : Place
  pub bytes : List ℕ
  pub window : WindowView
  pub ended : Option NgNext

-- what comes next at a place
abbrev pub next_at : Place → List ℕ → Result Arrival Stop
next_at place bytes = next_from place.room place.offset place.section bytes

-- Of the packet that comes next the captured bytes are there, and the reader goes on at the block after it, whose bytes are still to be read.
pub record Arrives (ms link at : ℕ) (definition : Result Arrival Stop) (reader : ReaderView) (left : Option (List ℕ)) : Type 0 where
  pub captured : ℕ
  pub rest : List ℕ
  pub told : Pending reader.window left rest
  pub same : definition
      ≡ Ok (record {
        packet = record { head = record { ms = ms; link = link; captured = captured }; bytes = reader.bytes };
        offset = at;
        place = reader.place;
        rest = rest;
      })

-- What comes next was answered. At the end the source has no byte left.
abbrev pub Answers : NgNext → Result Arrival Stop → ReaderView → Option (List ℕ) → Type 0
Answers (next.Whole ms link at) definition reader left = Arrives ms link at definition reader left
Answers next.ReadFault definition reader left = Unit {0}
Answers next.End definition reader left = (definition ≡ Err stop.End) × (left ≡ Some [])
Answers (next.Truncated at) definition reader left = definition ≡ Err (stop.Truncated at)
Answers (next.TooLong at size) definition reader left = definition ≡ Err (stop.TooLong at size)
Answers (next.Block at) definition reader left = definition ≡ Err (stop.Block at)
Answers next.Magic definition reader left = definition ≡ Err stop.Magic
Answers next.Major definition reader left = definition ≡ Err stop.Major
Answers (next.TooMany at) definition reader left = definition ≡ Err (stop.TooMany at)

-- the reader answers this from now on, and has no bytes
abbrev pub HasEnded : NgNext → ReaderView → Type 0
HasEnded why reader = (reader.ended ≡ Some why) × (reader.bytes ≡ [])

-- Each answer but a packet is the last one, and has no bytes.
abbrev pub Ends : NgNext → ReaderView → Type 0
Ends (next.Whole ms link at) reader = reader.ended ≡ None
Ends next.End reader = HasEnded next.End reader
Ends (next.Truncated at) reader = HasEnded (next.Truncated at) reader
Ends next.ReadFault reader = HasEnded next.ReadFault reader
Ends (next.TooLong at size) reader = HasEnded (next.TooLong at size) reader
Ends (next.Block at) reader = HasEnded (next.Block at) reader
Ends next.Magic reader = HasEnded next.Magic reader
Ends next.Major reader = HasEnded next.Major reader
Ends (next.TooMany at) reader = HasEnded (next.TooMany at) reader

-- A block was read: one that carries no packet, so that the next packet comes at the place after it, or one that carries one.
pub record PassesOver (old : ReaderView) (xs : List ℕ) (new : ReaderView) (left : Option (List ℕ)) : Type 0 where
  pub rest : List ℕ
  pub told : Pending new.window left rest
  pub same : next_at old.place xs ≡ next_at new.place rest

abbrev pub Steps : Result (Option PacketHead) Stop → ReaderView → List ℕ → ReaderView → Option (List ℕ) → Type 0
Steps (Ok (Some head)) old xs new left = Arrives head.ms head.link old.place.offset (next_at old.place xs) new left
Steps (Ok None) old xs new left = PassesOver old xs new left
Steps (Err why) old xs new left = ((why ≡ stop.ReadFault) ⊎ (next_at old.place xs ≡ Err why)) × (why ≡ stop.End → left ≡ Some [])

-- what any source allows: a block was counted, and there are bytes only of a packet
abbrev pub Keeps : Result (Option PacketHead) Stop → ReaderView → ReaderView → Type 0
Keeps (Ok (Some head)) old new = new.ended ≡ old.ended
Keeps (Ok None) old new = (new.ended ≡ old.ended) × (new.bytes ≡ []) × (new.place.room + 1 ≡ old.place.room)
Keeps (Err why) old new = (new.ended ≡ old.ended) × (new.bytes ≡ [])
