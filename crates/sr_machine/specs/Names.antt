-- The names of the words, and words as a function of their names.
use Rattle.std.specs.Prelude.{ℕ, Bool, true, false, ◌&&◌, ◌==◌, if◌then◌else◌}
use Rattle.sr_base.specs.Place.{same_place}
use Rattle.sr_base.specs.declared.place.Place.TheVariants.{Slot, Row}
use Rattle.sr_base.specs.declared.word_name.WordName.{WordName}
use Rattle.sr_base.specs.declared.word_name.WordName.TheVariants as word
use Rattle.sr_machine.specs.declared.name.Name.{Name}
use Rattle.sr_machine.specs.declared.name.Name.TheVariants.{Tick, Note, Ring, Entry, Hit, Vip, Head, Member, Down, Filter}

-- two names are one
abbrev pub same_name : Name → Name → Bool
same_name Tick Tick = true
same_name (Note pipe) (Note other) = pipe == other
same_name (Ring pipe cell) (Ring other at) = (pipe == other) && (cell == at)
same_name (Entry place) (Entry other) = same_place place other
same_name (Hit place) (Hit other) = same_place place other
same_name (Vip vip) (Vip other) = vip == other
same_name (Head vip version) (Head other at) = (vip == other) && (version == at)
same_name (Member vip version index) (Member other at i) = (vip == other) && ((version == at) && (index == i))
same_name (Down server) (Down other) = server == other
same_name (Filter index) (Filter other) = index == other
same_name name other = false

-- the words with another number at one name
abbrev pub rewritten : (Name → ℕ) → Name → ℕ → Name → ℕ
rewritten words name x other = if same_name name other then x else words other

-- the name by which a layout places the word
abbrev pub word_name : Name → WordName
word_name Tick = word.Tick
word_name (Note pipe) = word.Note pipe
word_name (Ring pipe cell) = word.Ring pipe cell
word_name (Entry (Slot way bucket cell)) = word.Slot way bucket cell
word_name (Entry (Row row)) = word.Full row
word_name (Hit place) = word.Hit place
word_name (Vip vip) = word.Vip vip
word_name (Head vip version) = word.Head vip version
word_name (Member vip version index) = word.Member vip version index
word_name (Down server) = word.Down server
word_name (Filter index) = word.Filter index

-- and the name here of such a name
abbrev pub name_for : WordName → Name
name_for word.Tick = Tick
name_for (word.Note pipe) = Note pipe
name_for (word.Ring pipe cell) = Ring pipe cell
name_for (word.Slot way bucket cell) = Entry (Slot way bucket cell)
name_for (word.Full row) = Entry (Row row)
name_for (word.Hit place) = Hit place
name_for (word.Vip vip) = Vip vip
name_for (word.Head vip version) = Head vip version
name_for (word.Member vip version index) = Member vip version index
name_for (word.Down server) = Down server
name_for (word.Filter index) = Filter index
