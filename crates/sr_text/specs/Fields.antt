-- The text of a line's fields. Each takes the text that follows it.
use Rattle.std.specs.Prelude.{ℕ, ◌/◌, ◌%◌, List, ◌∷◌, ◌++◌, codes}
use Rattle.std.specs.Fmt.{decimal}
use Rattle.sr_base.specs.Key.{KeyView}
use Rattle.sr_base.specs.declared.kind.Kind.{Kind}
use Rattle.sr_base.specs.declared.kind.Kind.TheVariants.{Opener, Carry, Ending}
use Rattle.sr_base.specs.declared.place.Place.{Place}
use Rattle.sr_base.specs.declared.place.Place.TheVariants.{Slot, Row}
use Rattle.sr_law.specs.declared.verdict.HeldBy.TheVariants.{Clash, Hold, Transit}
use Rattle.sr_law.specs.declared.verdict.Verdict.{Verdict}
use Rattle.sr_law.specs.declared.verdict.Verdict.TheVariants.{To, Held, Down, Full, NoPlace}

-- a number in decimal, and a space
abbrev pub field : ℕ → List ℕ → List ℕ
field n rest = decimal n ++ 32 ∷ rest

-- a number in decimal, and a dot
abbrev pub dotted : ℕ → List ℕ → List ℕ
dotted n rest = decimal n ++ 46 ∷ rest

-- an IPv4 address: its four bytes, the highest first
unfoldable pub address_text : ℕ → List ℕ → List ℕ
address_text ip rest = dotted (ip / 16777216) (dotted (ip / 65536 % 256) (dotted (ip / 256 % 256) (decimal (ip % 256) ++ rest)))

-- a virtual address's number, a slash, the client's address, a colon, its port
unfoldable pub key_text : KeyView → List ℕ → List ℕ
key_text key rest = decimal key.vip ++ 47 ∷ address_text key.ip (58 ∷ (decimal key.port ++ rest))

-- what a packet is to its connection
abbrev pub kind_text : Kind → List ℕ → List ℕ
kind_text Opener rest = codes "open" ++ rest
kind_text Carry rest = codes "data" ++ rest
kind_text Ending rest = codes "end" ++ rest

-- w and the way, b and the bucket, c and the cell; or f and the row
abbrev pub place_text : Place → List ℕ → List ℕ
place_text (Slot way bucket cell) rest = 119 ∷ (decimal way ++ 98 ∷ (decimal bucket ++ 99 ∷ (decimal cell ++ rest)))
place_text (Row row) rest = 102 ∷ (decimal row ++ rest)

-- server, version, pool
abbrev pub choice_text : ℕ → ℕ → ℕ → List ℕ → List ℕ
choice_text server version pool rest = field server (field version (decimal pool ++ rest))

-- What became of a packet: where it went; by what it was held; where it would have gone but the server is down; no room for its key; no place.
unfoldable pub verdict_text : Verdict → List ℕ → List ℕ
verdict_text (To server version pool) rest = codes "to " ++ choice_text server version pool rest
verdict_text (Held Clash) rest = codes "held clash" ++ rest
verdict_text (Held Hold) rest = codes "held hold" ++ rest
verdict_text (Held Transit) rest = codes "held transit" ++ rest
verdict_text (Down server version pool) rest = codes "down " ++ choice_text server version pool rest
verdict_text Full rest = codes "full" ++ rest
verdict_text NoPlace rest = codes "noplace" ++ rest
