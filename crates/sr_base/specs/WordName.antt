-- Which words a layout has, and where each stands among them.
--
-- The order is for caches of 64 bytes, eight words.
--  * The cells of the connection table come first, so that a bucket's four are one run of 32 bytes from a multiple of 32 on; then the rows
--    of full keys, so that a key's group of four is such a run too. Pipes load both for each packet, and only an insertion or a retirement
--    stores there.
--  * The hit words follow in the same order, a store for a packet that is found, away from the words that each packet loads.
--  * The tick word, which every thread changes, stands between the hit words of the full-key rows, few of which are hit, and the filter,
--    which is used in an update alone: what stands beside it is hardly ever wanted.
--  * A pipe's note is directly before its own ring, for both are that pipe's to store; the end of a ring, which is seldom reached, parts
--    them from what other threads store or load.
--  * Last what each packet loads and only an update or a server's end stores: the words of the virtual addresses, each version's head with
--    its servers in one run, the down words.
use Rattle.std.specs.Prelude.{◌≡◌, ◌≢◌, ℕ, ◌+◌, ◌-◌, ◌*◌, ◌/◌, ◌<◌, ◌≤◌, max, List, length, slice_index, slice_set}
use Rattle.sr_base.specs.Layout.{LayoutView}
use Rattle.sr_base.specs.declared.place.Place.{Place}
use Rattle.sr_base.specs.declared.place.Place.TheVariants as place
use Rattle.sr_base.specs.declared.shape.Shape.{Shape}
use Rattle.sr_base.specs.declared.word_name.WordName.{WordName}
use Rattle.sr_base.specs.declared.word_name.WordName.TheVariants.{Tick, Note, Ring, Slot, Full, Hit, Vip, Head, Member, Down, Filter}

-- how many words the filter has, of 64 bits each
abbrev pub filter_words : Shape → ℕ
filter_words s = max 1 (s.filter_bits / 64)

-- the tables have this cell or row
abbrev pub HasPlace : Shape → Place → Type 0
HasPlace s (place.Slot way bucket cell) = (1 ≤ way) × (way ≤ 2) × (bucket < s.buckets) × (cell < 4)
HasPlace s (place.Row row) = row < s.full_rows

-- a virtual address of the layout, and a version of it
abbrev pub HasVersion : LayoutView → ℕ → ℕ → Type 0
HasVersion l vip version = (vip < l.vips) × (version < l.shape.versions)

-- the layout has a word of this name
abbrev pub HasWord : LayoutView → WordName → Type 0
HasWord l Tick = Unit {0}
HasWord l (Note pipe) = pipe < l.shape.pipes
HasWord l (Ring pipe cell) = (pipe < l.shape.pipes) × (cell < l.shape.ring)
HasWord l (Slot way bucket cell) = HasPlace l.shape (place.Slot way bucket cell)
HasWord l (Full row) = HasPlace l.shape (place.Row row)
HasWord l (Hit at) = HasPlace l.shape at
HasWord l (Vip vip) = vip < l.vips
HasWord l (Head vip version) = HasVersion l vip version
HasWord l (Member vip version index) = HasVersion l vip version × (index < l.shape.pool_max)
HasWord l (Down server) = server < l.servers
HasWord l (Filter index) = index < filter_words l.shape

-- the cells of both ways
abbrev pub cells_of : Shape → ℕ
cells_of s = 8 * s.buckets

-- the cells and the rows
abbrev pub entries_of : Shape → ℕ
entries_of s = cells_of s + s.full_rows

-- where the words of one kind begin
abbrev pub tick_place : Shape → ℕ
tick_place s = 2 * entries_of s

abbrev pub filter_start : Shape → ℕ
filter_start s = tick_place s + 1

abbrev pub pipes_start : Shape → ℕ
pipes_start s = filter_start s + filter_words s

abbrev pub vips_start : Shape → ℕ
vips_start s = pipes_start s + s.pipes * (1 + s.ring)

abbrev pub pools_start : LayoutView → ℕ
pools_start l = vips_start l.shape + l.vips

abbrev pub down_start : LayoutView → ℕ
down_start l = pools_start l + l.vips * l.shape.versions * (1 + l.shape.pool_max)

-- how many words there are
abbrev pub words_of : LayoutView → ℕ
words_of l = down_start l + l.servers

-- where a cell or a row is among them all
abbrev pub entry_number : Shape → Place → ℕ
entry_number s (place.Slot way bucket cell) = ((way - 1) * s.buckets + bucket) * 4 + cell
entry_number s (place.Row row) = cells_of s + row

-- where a pipe's words begin
abbrev pub pipe_start : Shape → ℕ → ℕ
pipe_start s pipe = pipes_start s + pipe * (1 + s.ring)

-- where the words of a version of a pool begin
abbrev pub pool_start : LayoutView → ℕ → ℕ → ℕ
pool_start l vip version = pools_start l + (vip * l.shape.versions + version) * (1 + l.shape.pool_max)

-- where a name's word stands
abbrev pub place_of : LayoutView → WordName → ℕ
place_of l Tick = tick_place l.shape
place_of l (Note pipe) = pipe_start l.shape pipe
place_of l (Ring pipe cell) = pipe_start l.shape pipe + (1 + cell)
place_of l (Slot way bucket cell) = entry_number l.shape (place.Slot way bucket cell)
place_of l (Full row) = entry_number l.shape (place.Row row)
place_of l (Hit at) = entries_of l.shape + entry_number l.shape at
place_of l (Vip vip) = vips_start l.shape + vip
place_of l (Head vip version) = pool_start l vip version
place_of l (Member vip version index) = pool_start l vip version + (1 + index)
place_of l (Down server) = down_start l + server
place_of l (Filter index) = filter_start l.shape + index

-- in a list of words, the number at a name
abbrev pub word_at : LayoutView → List ℕ → WordName → ℕ
word_at l words name = slice_index words (place_of l name)

-- and the list with another number there
abbrev pub with_word : LayoutView → List ℕ → WordName → ℕ → List ℕ
with_word l words name x = slice_set words (place_of l name) x

-- the place of every name is below the number of words
abbrev pub PlacesBelow : LayoutView → Type 0
PlacesBelow l = (name : WordName) → HasWord l name → place_of l name < words_of l

-- different names have different places
abbrev pub NamesApart : LayoutView → Type 0
NamesApart l = (a b : WordName) → HasWord l a → HasWord l b → place_of l a ≡ place_of l b → a ≡ b

-- each place below the number of words is that of a name
abbrev pub EachPlaceNamed : LayoutView → Type 0
EachPlaceNamed l = (n : ℕ) → n < words_of l → (name : WordName) × HasWord l name × (place_of l name ≡ n)

-- a store at a name is found there
abbrev pub StoresStand : LayoutView → Type 0
StoresStand l = (words : List ℕ) (name : WordName) (x : ℕ) → HasWord l name → words_of l ≤ length words → word_at l (with_word l words name x) name ≡ x

-- a store at one name leaves the number at every other name
abbrev pub StoresApart : LayoutView → Type 0
StoresApart l = (words : List ℕ) (a b : WordName) (x : ℕ) → HasWord l a → HasWord l b → b ≢ a → word_at l (with_word l words a x) b ≡ word_at l words b

-- each bit of the filter stands in a word that the layout has
abbrev pub FilterBitsHaveWords : LayoutView → Type 0
FilterBitsHaveWords l = (bit : ℕ) → bit < l.shape.filter_bits → HasWord l (Filter (bit / 64))
