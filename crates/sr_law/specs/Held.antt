-- Cause, in part: why an opener was held. These causes are this project's own, but for the filter (SilkRoad, SIGCOMM 2017: TransitTable).
use Rattle.std.specs.Prelude.{ℕ, Bool, false, not, ◌&&◌, ◌||◌, ◌==◌, nat_lt, if◌then◌else◌, List, [], ◌∷◌, Option, Some, None}
use Rattle.std.specs.List.{list_any, list_all}
use Rattle.std.specs.Option.{option_or}
use Rattle.sr_base.specs.Key.{KeyView, same_key}
use Rattle.sr_base.specs.Place.{same_place}
use Rattle.sr_base.specs.declared.shape.Shape.{Shape}
use Rattle.sr_base.specs.declared.place.Place.{Place}
use Rattle.sr_base.specs.declared.place.Place.TheVariants.{Slot, Row}
use Rattle.sr_base.specs.declared.kind.Kind.TheVariants.{Opener}
use Rattle.sr_law.specs.declared.line.Line.{Line}
use Rattle.sr_law.specs.declared.line.Line.TheVariants.{Packet, Recorded, Hold, Switched, Finished, Reserved, Cleared}
use Rattle.sr_law.specs.declared.verdict.Verdict.TheVariants.{To}
use Rattle.sr_law.specs.declared.giving.Giving.{Giving}
use Rattle.sr_hash.specs.Uses.{bloom_places_of}
use Rattle.sr_law.specs.Given.{last_given, has_pool}
use Rattle.sr_law.specs.Keys.{clashes_in}

-- a packet of this key matches the other key's entry at this place: in a row it is the same key, in a slot the two clash
abbrev pub matches_entry : Shape → KeyView → KeyView → Place → Bool
matches_entry shape c key (Slot way bucket cell) = clashes_in shape way key c
matches_entry shape c key (Row row) = same_key key c

-- strictly between two ticks
abbrev pub is_between : ℕ → ℕ → ℕ → Bool
is_between low high tick = nat_lt low tick && nat_lt tick high

-- the entry of this key at this place was cleared between two ticks
abbrev pub clears_between : KeyView → Place → ℕ → ℕ → Line → Bool
clears_between key place low high (Cleared out cleared at) = same_key cleared key && same_place at place && is_between low high out
clears_between key place low high line = false

-- the line reserves a place for an entry that this key matches, and the entry isn't cleared before this tick
abbrev pub reserves_against : Shape → List Line → KeyView → ℕ → Line → Bool
reserves_against shape before c start (Reserved out key place) = matches_entry shape c key place && not (list_any (clears_between key place out start) before)
reserves_against shape before c start line = false

-- an opener may be held by a clash: an entry that it matches may have stood in the tables at its start
abbrev pub may_clash : Shape → List Line → KeyView → ℕ → Bool
may_clash shape before c start = list_any (reserves_against shape before c start) before

-- the tick of a line that lets no opener of this virtual address through
abbrev pub hold_tick : Line → ℕ → Option ℕ
hold_tick (Hold out held) vip = if held == vip then Some out else None
hold_tick line vip = None

-- the tick of the last such line
abbrev pub last_hold : List Line → ℕ → Option ℕ
last_hold [] vip = None
last_hold (line ∷ before) vip = option_or (hold_tick line vip) (last_hold before vip)

-- the virtual address was switched, or its update was finished, between two ticks
abbrev pub switches_between : ℕ → ℕ → ℕ → Line → Bool
switches_between vip low high (Switched out to pool) = (to == vip) && is_between low high out
switches_between vip low high line = false

abbrev pub finishes_between : ℕ → ℕ → ℕ → Line → Bool
finishes_between vip low high (Finished out to) = (to == vip) && is_between low high out
finishes_between vip low high line = false

-- since the last Hold line there was no such line before the start
abbrev pub not_switched : List Line → ℕ → ℕ → Option ℕ → Bool
not_switched before vip start None = false
not_switched before vip start (Some tick) = not (list_any (switches_between vip tick start) before)

abbrev pub not_finished : List Line → ℕ → ℕ → Option ℕ → Bool
not_finished before vip start None = false
not_finished before vip start (Some tick) = not (list_any (finishes_between vip tick start) before)

-- an opener may be held in Hold: an update holds its virtual address, and the switch wasn't made before its start
abbrev pub may_hold : List Line → ℕ → ℕ → Bool
may_hold before vip start = not_switched before vip start (last_hold before vip)

-- the line begins to record openers of this virtual address
abbrev pub records : ℕ → Line → Bool
records vip (Recorded out to) = to == vip
records vip line = false

-- what the virtual address was last given before its last Recorded line: the pool that the update switches to
abbrev pub recorded_giving : List Line → ℕ → Option Giving
recorded_giving [] vip = None
recorded_giving (line ∷ before) vip = if records vip line then last_given before vip else recorded_giving before vip

-- the line is of an opener of this virtual address that was sent to another pool than this one, and so may have set this filter place
abbrev pub sets_place : ℕ → ℕ → Option Giving → ℕ → Line → Bool
sets_place bits vip giving place (Packet number entered out pipe key Opener (To server version pool)) =
    (key.vip == vip) && not (has_pool giving pool) && list_any (λ p. p == place) (bloom_places_of key bits)
sets_place bits vip giving place line = false

-- some line since the last Recorded line of the virtual address may have set this filter place
abbrev pub is_set : ℕ → ℕ → Option Giving → ℕ → List Line → Bool
is_set bits vip giving place [] = false
is_set bits vip giving place (line ∷ before) = if records vip line then false else (sets_place bits vip giving place line || is_set bits vip giving place before)

-- each filter place of the key may have been set, since the last Recorded line of its virtual address
abbrev pub in_filter : Shape → List Line → KeyView → Bool
in_filter shape before c =
    list_all (λ place. is_set shape.filter_bits c.vip (recorded_giving before c.vip) place before) (bloom_places_of c shape.filter_bits)

-- an opener may be held in Transit: an update of its virtual address wasn't finished before its start, and the filter may hold it
unfoldable pub may_transit : Shape → List Line → KeyView → ℕ → Bool
may_transit shape before c start =
    not_finished before c.vip start (last_hold before c.vip) && list_any (records c.vip) before && in_filter shape before c
