-- On track: a packet of a key that is registered or learned with a version goes by that version, or is held, by what is left for it to load: whatever it finds
-- says that version.
use Rattle.std.specs.Prelude.{◌≡◌, ℕ, ◌<◌, Bool, true, false, ◌⊎◌, List, [], ◌∷◌, Some}
use Rattle.sr_base.specs.Key.{KeyView}
use Rattle.sr_base.specs.Layout.{LayoutView}
use Rattle.sr_base.specs.declared.kind.Kind.TheVariants.{Opener}
use Rattle.sr_base.specs.declared.place.Place.{Place}
use Rattle.sr_base.specs.declared.vip_word.Phase.{Phase}
use Rattle.sr_base.specs.declared.vip_word.Phase.TheVariants.{Steady, Recording, Holding, Transit}
use Rattle.sr_inv_facts.specs.Flying.{OnLeg}
use Rattle.sr_inv_facts.specs.Readings.{EachPipe, SomeLearn, bit_words, entry_words, is_set_in, ring_words}
use Rattle.sr_law.specs.Opening.{opening}
use Rattle.sr_law.specs.declared.line.Line.{Line}
use Rattle.sr_law.specs.declared.opening.Opening.{Opening}
use Rattle.sr_law.specs.declared.verdict.Verdict.{Verdict}
use Rattle.sr_machine.specs.Core.{Core, printed}
use Rattle.sr_machine.specs.Reads.{says}
use Rattle.sr_machine.specs.Stages.{is_opener, key_bits}
use Rattle.sr_machine.specs.declared.flight.Flight.{Flight}
use Rattle.sr_machine.specs.declared.leg.Leg.{Leg}
use Rattle.sr_machine.specs.declared.leg.Leg.TheVariants.{Look, Hit, Filter, Chosen, Judged}
use Rattle.sr_machine.specs.declared.pipe_view.PipeView.{PipeView}
use Rattle.sr_machine.specs.declared.said.Said.{Said}
use Rattle.sr_shadow.specs.Book.{entry_for}
use Rattle.sr_shadow.specs.declared.entry.Entry.{Entry}
use Rattle.sr_machine.specs.declared.said.Said.TheVariants as said
use Rattle.sr_law.specs.declared.verdict.Verdict.TheVariants as verdict

-- ---- where a packet goes if no word changes

-- an opener is held where another packet has a version
abbrev pub HeldIf : Bool → Type 0 → Type 0
HeldIf true P = Unit {0}
HeldIf false P = P

-- a place of the filter is set, or it is clear and the packet goes by the next version
abbrev pub GoesBit : Bool → Type 0 → Flight → ℕ → Type 0
GoesBit true rest f n = rest
GoesBit false rest f n = f.vip.next ≡ n

-- the filter is looked at: where each place is set it goes by the current version, and else by the next
abbrev pub GoesBits : (ℕ → ℕ) → Flight → ℕ → List ℕ → Type 0
GoesBits bits f n [] = HeldIf (is_opener f.packet.kind) (f.vip.cur ≡ n)
GoesBits bits f n (bit ∷ rest) = GoesBit (is_set_in bits bit) (GoesBits bits f n rest) f n

-- nothing was found: the phase decides
abbrev pub GoesMissed : LayoutView → (ℕ → ℕ) → Flight → ℕ → Phase → Type 0
GoesMissed l bits f n Steady = f.vip.cur ≡ n
GoesMissed l bits f n Recording = f.vip.cur ≡ n
GoesMissed l bits f n Holding = HeldIf (is_opener f.packet.kind) (f.vip.cur ≡ n)
GoesMissed l bits f n Transit = GoesBits bits f n (key_bits l f.packet.key)

-- a place says something
abbrev pub GoesSaid : Bool → ℕ → Said → Type 0 → Type 0
GoesSaid opener n said.Nothing rest = rest
GoesSaid opener n said.Reserved rest = HeldIf opener rest
GoesSaid opener n (said.Live version) rest = HeldIf opener (version ≡ n)

-- the places are looked at one after another
abbrev pub GoesPlaces : LayoutView → (Place → ℕ) → (ℕ → ℕ) → Flight → ℕ → List Place → Type 0
GoesPlaces l entries bits f n [] = GoesMissed l bits f n f.vip.phase
GoesPlaces l entries bits f n (place ∷ rest) =
    GoesSaid (is_opener f.packet.kind) n (says l place f.packet.key (entries place)) (GoesPlaces l entries bits f n rest)

-- a verdict that names a version names this one
abbrev pub GoesVerdict : ℕ → Verdict → Type 0
GoesVerdict n (verdict.To server version pool) = version ≡ n
GoesVerdict n (verdict.Down server version pool) = version ≡ n
GoesVerdict n v = Unit {0}

abbrev pub GoesBy : LayoutView → (Place → ℕ) → (ℕ → ℕ) → ℕ → Flight → Leg → Type 0
GoesBy l entries bits n f (Look place rest) = GoesPlaces l entries bits f n (place ∷ rest)
GoesBy l entries bits n f (Hit place version) = HeldIf (is_opener f.packet.kind) (version ≡ n)
GoesBy l entries bits n f (Filter bit rest) = GoesBits bits f n (bit ∷ rest)
GoesBy l entries bits n f (Chosen version load) = version ≡ n
GoesBy l entries bits n f (Judged v last) = GoesVerdict n v

-- ---- who goes so

-- the key has this version: by its entry, or by a report in a ring
abbrev pub IsKnown : LayoutView → (ℕ → ℕ → ℕ) → List Entry → KeyView → ℕ → Type 0
IsKnown l ring book key n = ((e : Entry) × (entry_for key book ≡ Some e) × (e.version ≡ n)) ⊎ SomeLearn l ring key n

-- an opener, or a packet that entered after its connection was opened
abbrev pub IsOnDuty : List Line → Flight → Type 0
IsOnDuty lines f = (f.packet.kind ≡ Opener) ⊎ ((o : Opening) × (opening lines f.packet.key ≡ Some o) × (o.out < f.entered))

pub record TrackHolds (l : LayoutView) (entries : Place → ℕ) (bits : ℕ → ℕ) (ring : ℕ → ℕ → ℕ) (pipes : List PipeView) (book : List Entry) (lines : List Line) : Type 0 where
  pub track : EachPipe (λ p v. OnLeg v.stage (λ f leg. (n : ℕ) → IsKnown l ring book f.packet.key n → IsOnDuty lines f
      → GoesBy l entries bits n f leg)) pipes

pub record OnTrack (s : Core) : Type 0 where
  pub track : TrackHolds s.config.layout (entry_words s.words) (bit_words s.words) (ring_words s.words) s.pipes s.controller.book.entries (printed s)
