-- The name of the word at each place. So different names have different places, and each place below the number of words is that of a name.
use Rattle.std.proofs.Common.{◌≡◌, ℕ, ◌+◌, ◌-◌, ◌*◌, ◌/◌, ◌%◌, ◌<◌, zero, suc, true, false, nat_lt, if◌then◌else◌, refl, sym, ap, subst, ◌∙◌, inl, inr, add_assoc, mul_comm, lit<, arith}
use Rattle.std.proofs.lemmas.Bool.{cases_lt}
use Rattle.std.proofs.lemmas.Bool.Decides.{nat_tests}
use Rattle.std.proofs.lemmas.List.{get_or-set_other, get_or-set_same}
use Rattle.std.proofs.lemmas.Nat.{mul-add-lt, div-mul-add, mod-mul-add, div_below, mod_below, div-add-mod'}
use Rattle.sr_base.proofs.Ranges.{pool_fits}
use Rattle.sr_base.specs.Layout.{LayoutView}
use Rattle.sr_base.specs.WordName.{filter_words, HasPlace, HasVersion, HasWord, cells_of, entries_of, tick_place, filter_start, pipes_start, vips_start, pools_start, down_start, entry_number, pipe_start, pool_start, place_of, NamesApart, PlacesBelow, EachPlaceNamed, StoresStand, StoresApart}
use Rattle.sr_base.specs.declared.place.Place.{Place}
use Rattle.sr_base.specs.declared.place.Place.TheVariants as place
use Rattle.sr_base.specs.declared.shape.Shape.{Shape}
use Rattle.sr_base.specs.declared.word_name.WordName.{WordName}
use Rattle.sr_base.specs.declared.word_name.WordName.TheVariants.{Tick, Note, Ring, Slot, Full, Hit, Vip, Head, Member, Down, Filter}

-- the cell or the row of a number
abbrev cell_at : ℕ → ℕ → Place
cell_at buckets n = place.Slot (1 + n / 4 / buckets) (n / 4 % buckets) (n % 4)

abbrev entry_at : Shape → ℕ → Place
entry_at s n = if nat_lt n (cells_of s) then cell_at s.buckets n else place.Row (n - cells_of s)

-- the name of the word of a cell or a row
abbrev entry_word : Place → WordName
entry_word (place.Slot way bucket cell) = Slot way bucket cell
entry_word (place.Row row) = Full row

-- a pipe's words, and those of a version of a pool
abbrev pipe_word : ℕ → ℕ → WordName
pipe_word pipe zero = Note pipe
pipe_word pipe (suc cell) = Ring pipe cell

abbrev pool_word : ℕ → ℕ → ℕ → WordName
pool_word vip version zero = Head vip version
pool_word vip version (suc index) = Member vip version index

abbrev pipe_word_at : Shape → ℕ → WordName
pipe_word_at s n = pipe_word (n / (1 + s.ring)) (n % (1 + s.ring))

abbrev pool_word_at : LayoutView → ℕ → WordName
pool_word_at l n = let row = n / (1 + l.shape.pool_max) in pool_word (row / l.shape.versions) (row % l.shape.versions) (n % (1 + l.shape.pool_max))

-- the first so many of some names, and the next ones counted from there
part : ℕ → (ℕ → WordName) → (ℕ → WordName) → ℕ → WordName
part size here next n = if nat_lt n size then here n else next (n - size)

-- the names from one place on, from the last to the first
abbrev at_pools : LayoutView → ℕ → WordName
at_pools l = part (l.vips * l.shape.versions * (1 + l.shape.pool_max)) (pool_word_at l) (λ n. Down n)

abbrev at_vips : LayoutView → ℕ → WordName
at_vips l = part l.vips (λ n. Vip n) (at_pools l)

abbrev at_pipes : LayoutView → ℕ → WordName
at_pipes l = part (l.shape.pipes * (1 + l.shape.ring)) (pipe_word_at l.shape) (at_vips l)

abbrev at_filter : LayoutView → ℕ → WordName
at_filter l = part (filter_words l.shape) (λ n. Filter n) (at_pipes l)

abbrev at_tick : LayoutView → ℕ → WordName
at_tick l = part 1 (λ n. Tick) (at_filter l)

abbrev at_hits : LayoutView → ℕ → WordName
at_hits l = part (entries_of l.shape) (λ n. Hit (entry_at l.shape n)) (at_tick l)

-- the name of the word at a place
pub name_at : LayoutView → ℕ → WordName
name_at l = part (entries_of l.shape) (λ n. entry_word (entry_at l.shape n)) (at_hits l)

part-here : (size : ℕ) (here next : ℕ → WordName) (n : ℕ) → n < size → part size here next n ≡ here n
unfolding part
part-here size here next n h = let e : nat_lt n size ≡ true = grind (arith, nat_tests) in rw e refl

part-next : (size : ℕ) (here next : ℕ → WordName) (n : ℕ) → part size here next (size + n) ≡ next n
unfolding part
part-next size here next n =
    let e : nat_lt (size + n) size ≡ false = grind (arith, nat_tests) in
    let d : size + n - size ≡ n = omega arith in
    rw (e, d) refl

-- a number of rows of one width
row_lt : (a w b h : ℕ) → a < h → b < w → a * w + b < h * w
row_lt a w b h p q = rw (mul_comm h w) (mul-add-lt a w b h p q)

-- entries by number
entry_lt : (s : Shape) (p : Place) → HasPlace s p → entry_number s p < entries_of s
entry_lt s (place.Slot way bucket cell) h =
    let row = row_lt (way - 1) s.buckets bucket 2 (omega arith) h.2 in
    omega arith
entry_lt s (place.Row row) h = omega arith

entry_at-entry_number : (s : Shape) (p : Place) → HasPlace s p → entry_at s (entry_number s p) ≡ p
entry_at-entry_number s (place.Slot way bucket cell) h =
    let n = ((way - 1) * s.buckets + bucket) * 4 + cell in
    let row = row_lt (way - 1) s.buckets bucket 2 (omega arith) h.2 in
    let below : nat_lt n (cells_of s) ≡ true = grind (arith, nat_tests) in
    let quarter : n / 4 ≡ (way - 1) * s.buckets + bucket = div-mul-add ((way - 1) * s.buckets + bucket) 4 cell h.3 in
    let last : n % 4 ≡ cell = mod-mul-add ((way - 1) * s.buckets + bucket) 4 cell h.3 in
    let first : 1 + ((way - 1) * s.buckets + bucket) / s.buckets ≡ way = omega (arith, div-mul-add (way - 1) s.buckets bucket h.2) in
    let middle : ((way - 1) * s.buckets + bucket) % s.buckets ≡ bucket = mod-mul-add (way - 1) s.buckets bucket h.2 in
    rw (below, quarter, last, first, middle) refl
entry_at-entry_number s (place.Row row) h =
    let above : nat_lt (cells_of s + row) (cells_of s) ≡ false = grind (arith, nat_tests) in
    let less : cells_of s + row - cells_of s ≡ row = omega arith in
    rw (above, less) refl

-- the names from each place on
from_hits : (l : LayoutView) (n : ℕ) → name_at l (entries_of l.shape + n) ≡ at_hits l n
unfolding name_at
from_hits l n = part-next (entries_of l.shape) _ _ n

from_tick : (l : LayoutView) (n : ℕ) → name_at l (tick_place l.shape + n) ≡ at_tick l n
from_tick l n =
    let e : tick_place l.shape + n ≡ entries_of l.shape + (entries_of l.shape + n) = omega arith in
    ap (name_at l) e ∙ from_hits l _ ∙ part-next (entries_of l.shape) _ _ n

from_filter : (l : LayoutView) (n : ℕ) → name_at l (filter_start l.shape + n) ≡ at_filter l n
from_filter l n = ap (name_at l) (add_assoc (tick_place l.shape) 1 n) ∙ from_tick l _ ∙ part-next 1 _ _ n

from_pipes : (l : LayoutView) (n : ℕ) → name_at l (pipes_start l.shape + n) ≡ at_pipes l n
from_pipes l n = ap (name_at l) (add_assoc (filter_start l.shape) (filter_words l.shape) n) ∙ from_filter l _ ∙ part-next (filter_words l.shape) _ _ n

from_vips : (l : LayoutView) (n : ℕ) → name_at l (vips_start l.shape + n) ≡ at_vips l n
from_vips l n = ap (name_at l) (add_assoc (pipes_start l.shape) (l.shape.pipes * (1 + l.shape.ring)) n) ∙ from_pipes l _ ∙ part-next (l.shape.pipes * (1 + l.shape.ring)) _ _ n

from_pools : (l : LayoutView) (n : ℕ) → name_at l (pools_start l + n) ≡ at_pools l n
from_pools l n = ap (name_at l) (add_assoc (vips_start l.shape) l.vips n) ∙ from_vips l _ ∙ part-next l.vips _ _ n

from_down : (l : LayoutView) (n : ℕ) → name_at l (down_start l + n) ≡ Down n
from_down l n =
    let size = l.vips * l.shape.versions * (1 + l.shape.pool_max) in
    ap (name_at l) (add_assoc (pools_start l) size n) ∙ from_pools l _ ∙ part-next size _ _ n

-- a pipe's word, by its place among them all
pipe_word_of : (l : LayoutView) (pipe cell : ℕ) → pipe < l.shape.pipes → cell < 1 + l.shape.ring
    → name_at l (pipe_start l.shape pipe + cell) ≡ pipe_word pipe cell
pipe_word_of l pipe cell p q =
    let w = 1 + l.shape.ring in
    let row : (pipe * w + cell) / w ≡ pipe = div-mul-add pipe w cell q in
    let column : (pipe * w + cell) % w ≡ cell = mod-mul-add pipe w cell q in
    ap (name_at l) (add_assoc (pipes_start l.shape) (pipe * w) cell) ∙ from_pipes l _
    ∙ part-here (l.shape.pipes * w) _ _ _ (row_lt pipe w cell l.shape.pipes p q)
    ∙ ap (λ x. pipe_word x ((pipe * w + cell) % w)) row ∙ ap (λ x. pipe_word pipe x) column

-- a word of a version of a pool, by its place among them all
pool_word_of : (l : LayoutView) (vip version index : ℕ) → HasVersion l vip version → index < 1 + l.shape.pool_max
    → name_at l (pool_start l vip version + index) ≡ pool_word vip version index
pool_word_of l vip version index h q =
    let w = 1 + l.shape.pool_max in
    let m = vip * l.shape.versions + version in
    let row : (m * w + index) / w ≡ m = div-mul-add m w index q in
    let column : (m * w + index) % w ≡ index = mod-mul-add m w index q in
    let first : m / l.shape.versions ≡ vip = div-mul-add vip l.shape.versions version h.1 in
    let second : m % l.shape.versions ≡ version = mod-mul-add vip l.shape.versions version h.1 in
    let below = row_lt vip l.shape.versions version l.vips h.0 h.1 in
    ap (name_at l) (add_assoc (pools_start l) (m * w) index) ∙ from_pools l _
    ∙ part-here (l.vips * l.shape.versions * w) _ _ _ (row_lt m w index (l.vips * l.shape.versions) below q)
    ∙ ap (λ x. pool_word (x / l.shape.versions) (x % l.shape.versions) ((m * w + index) % w)) row
    ∙ ap (λ x. pool_word (m / l.shape.versions) (m % l.shape.versions) x) column
    ∙ ap (λ x. pool_word x (m % l.shape.versions) index) first
    ∙ ap (λ x. pool_word vip x index) second

-- the word of an entry
entry_word_of : (l : LayoutView) (p : Place) → HasPlace l.shape p → name_at l (entry_number l.shape p) ≡ entry_word p
unfolding name_at
entry_word_of l p h = part-here (entries_of l.shape) _ _ _ (entry_lt l.shape p h) ∙ ap entry_word (entry_at-entry_number l.shape p h)

hit_word_of : (l : LayoutView) (p : Place) → HasPlace l.shape p → name_at l (entries_of l.shape + entry_number l.shape p) ≡ Hit p
hit_word_of l p h =
    from_hits l _ ∙ part-here (entries_of l.shape) _ _ _ (entry_lt l.shape p h)
    ∙ ap (λ x. Hit x) (entry_at-entry_number l.shape p h)

pub name_at-place_of : (l : LayoutView) (name : WordName) → HasWord l name → name_at l (place_of l name) ≡ name
name_at-place_of l Tick h = let e : tick_place l.shape ≡ tick_place l.shape + 0 = omega arith in ap (name_at l) e ∙ from_tick l 0 ∙ part-here 1 _ _ 0 (lit< tt)
name_at-place_of l (Note pipe) h =
    let e : pipe_start l.shape pipe ≡ pipe_start l.shape pipe + 0 = omega arith in
    ap (name_at l) e ∙ pipe_word_of l pipe 0 h (omega arith)
name_at-place_of l (Ring pipe cell) h =
    let e : pipe_start l.shape pipe + (1 + cell) ≡ pipe_start l.shape pipe + suc cell = omega arith in
    ap (name_at l) e ∙ pipe_word_of l pipe (suc cell) h.0 (omega arith)
name_at-place_of l (Slot way bucket cell) h = entry_word_of l (place.Slot way bucket cell) h
name_at-place_of l (Full row) h = entry_word_of l (place.Row row) h
name_at-place_of l (Hit p) h = hit_word_of l p h
name_at-place_of l (Vip vip) h = from_vips l vip ∙ part-here l.vips _ _ vip h
name_at-place_of l (Head vip version) h =
    let e : pool_start l vip version ≡ pool_start l vip version + 0 = omega arith in
    ap (name_at l) e ∙ pool_word_of l vip version 0 h (omega arith)
name_at-place_of l (Member vip version index) h =
    let e : pool_start l vip version + (1 + index) ≡ pool_start l vip version + suc index = omega arith in
    ap (name_at l) e ∙ pool_word_of l vip version (suc index) h.0 (omega arith)
name_at-place_of l (Down server) h = from_down l server
name_at-place_of l (Filter index) h = from_filter l index ∙ part-here (filter_words l.shape) _ _ index h

pub names_apart : (l : LayoutView) → NamesApart l
names_apart l a b p q e = sym (name_at-place_of l a p) ∙ ap (name_at l) e ∙ name_at-place_of l b q

pub places_below : (l : LayoutView) → PlacesBelow l
places_below l Tick h = omega arith
places_below l (Note pipe) h = let row = row_lt pipe (1 + l.shape.ring) 0 l.shape.pipes h (omega arith) in omega arith
places_below l (Ring pipe cell) h = let row = row_lt pipe (1 + l.shape.ring) (1 + cell) l.shape.pipes h.0 (omega arith) in omega arith
places_below l (Slot way bucket cell) h = let entry = entry_lt l.shape (place.Slot way bucket cell) h in omega arith
places_below l (Full row) h = omega arith
places_below l (Hit p) h = let entry = entry_lt l.shape p h in omega arith
places_below l (Vip vip) h = omega arith
places_below l (Head vip version) h = let row = pool_fits vip version l.vips l.shape.versions (1 + l.shape.pool_max) h.0 h.1 in omega arith
places_below l (Member vip version index) h = let row = pool_fits vip version l.vips l.shape.versions (1 + l.shape.pool_max) h.0.0 h.0.1 in omega arith
places_below l (Down server) h = omega arith
places_below l (Filter index) h = omega arith

pub stores_stand : (l : LayoutView) → StoresStand l
stores_stand l words name x h q = get_or-set_same words (place_of l name) x 0 (let below = places_below l name h in omega arith)

pub stores_apart : (l : LayoutView) → StoresApart l
stores_apart l words a b x p q differ = get_or-set_other words (place_of l a) (place_of l b) x 0 (λ e. differ (names_apart l b a q p e))

-- from this place on, so many names of the layout stand in order
abbrev Named : LayoutView → ℕ → ℕ → (ℕ → WordName) → Type 0
Named l start size names = (n : ℕ) → n < size → HasWord l (names n) × (place_of l (names n) ≡ start + n)

-- the same for one name
abbrev Stands : LayoutView → ℕ → WordName → Type 0
Stands l n name = HasWord l name × (place_of l name ≡ n)

joined : (l : LayoutView) (start size rest : ℕ) (here next : ℕ → WordName) → Named l start size here → Named l (start + size) rest next
    → Named l start (size + rest) (part size here next)
joined l start size rest here next a b n h =
    elim (cases_lt n size) [
      | inl p ↦ let is = part-here size here next n p in subst (λ name. Stands l (start + n) name) (sym is) (a n p)
      | inr p ↦
          let k = n - size in
          let e : size + k ≡ n = omega arith in
          let is : part size here next n ≡ next k = ap (part size here next) (sym e) ∙ part-next size here next k in
          let m : start + size + k ≡ start + n = omega arith in
          subst (λ name. Stands l (start + n) name) (sym is) (subst (λ x. Stands l x (next k)) m (b k (omega arith)))
    ]

-- a number below so many rows, as its row and column
row_of : (n w h : ℕ) → n < h * w → 0 < w → (n / w < h) × (n % w < w) × (n / w * w + n % w ≡ n)
row_of n w h p q = (div_below n w h q p, mod_below n w q, div-add-mod' n w)

-- a product with a part of 0 has no number below it
factor : (n h w : ℕ) → n < h * w → 0 < w
factor n h zero p = absurd (omega arith)
factor n h (suc w) p = omega arith

entry_stands : (s : Shape) (n : ℕ) → n < entries_of s → HasPlace s (entry_at s n) × (entry_number s (entry_at s n) ≡ n)
entry_stands s n h =
    elim (cases_lt n (cells_of s)) [
      | inl p ↦
          let below : nat_lt n (cells_of s) ≡ true = grind (arith, nat_tests) in
          let q = n / 4 in
          let cut : q * 4 + n % 4 ≡ n = div-add-mod' n 4 in
          let quarter : q < 2 * s.buckets = omega arith in
          let row = row_of q s.buckets 2 quarter (factor q 2 s.buckets quarter) in
          let way : 1 + q / s.buckets - 1 ≡ q / s.buckets = omega arith in
          rw below ((omega arith, omega arith, row.1, omega arith), rw (way, row.2) cut)
      | inr p ↦
          let above : nat_lt n (cells_of s) ≡ false = grind (arith, nat_tests) in
          rw above (omega arith, omega arith)
    ]

entry_words : (l : LayoutView) → Named l 0 (entries_of l.shape) (λ n. entry_word (entry_at l.shape n))
entry_words l n h =
    let has : (p : Place) → HasPlace l.shape p → HasWord l (entry_word p) = λ p. elim p as (λ p. HasPlace l.shape p → HasWord l (entry_word p)) [ place.Slot way bucket cell ↦ λ q. q | place.Row row ↦ λ q. q ] in
    let at : (p : Place) → place_of l (entry_word p) ≡ entry_number l.shape p = λ p. elim p as (λ p. place_of l (entry_word p) ≡ entry_number l.shape p) [ place.Slot way bucket cell ↦ refl | place.Row row ↦ refl ] in
    let e = entry_stands l.shape n h in
    (has _ e.0, at _ ∙ e.1 ∙ omega arith)

hit_words : (l : LayoutView) → Named l (entries_of l.shape) (entries_of l.shape) (λ n. Hit (entry_at l.shape n))
hit_words l n h = let e = entry_stands l.shape n h in (e.0, ap (λ x. entries_of l.shape + x) e.1)

pipe_stands : (l : LayoutView) (pipe cell : ℕ) → pipe < l.shape.pipes → cell < 1 + l.shape.ring → Stands l (pipe_start l.shape pipe + cell) (pipe_word pipe cell)
pipe_stands l pipe zero p q = (p, omega arith)
pipe_stands l pipe (suc cell) p q = ((p, omega arith), omega arith)

pipe_words : (l : LayoutView) → Named l (pipes_start l.shape) (l.shape.pipes * (1 + l.shape.ring)) (pipe_word_at l.shape)
pipe_words l n h =
    let w = 1 + l.shape.ring in
    let row = row_of n w l.shape.pipes h (omega arith) in
    let m : pipe_start l.shape (n / w) + n % w ≡ pipes_start l.shape + n = omega (arith, row.2) in
    subst (λ x. Stands l x (pipe_word_at l.shape n)) m (pipe_stands l (n / w) (n % w) row.0 row.1)

pool_stands : (l : LayoutView) (vip version index : ℕ) → HasVersion l vip version → index < 1 + l.shape.pool_max
    → Stands l (pool_start l vip version + index) (pool_word vip version index)
pool_stands l vip version zero h q = (h, omega arith)
pool_stands l vip version (suc index) h q = ((h, omega arith), omega arith)

pool_words : (l : LayoutView) → Named l (pools_start l) (l.vips * l.shape.versions * (1 + l.shape.pool_max)) (pool_word_at l)
pool_words l n h =
    let w = 1 + l.shape.pool_max in
    let row = row_of n w (l.vips * l.shape.versions) h (omega arith) in
    let head = row_of (n / w) l.shape.versions l.vips row.0 (factor (n / w) l.vips l.shape.versions row.0) in
    let m : pool_start l (n / w / l.shape.versions) (n / w % l.shape.versions) + n % w ≡ pools_start l + n = rw head.2 (omega (arith, row.2)) in
    subst (λ x. Stands l x (pool_word_at l n)) m (pool_stands l _ _ (n % w) (head.0, head.1) row.1)

-- all of them, from the last to the first
named_pools : (l : LayoutView) → Named l (pools_start l) (l.vips * l.shape.versions * (1 + l.shape.pool_max) + l.servers) (at_pools l)
named_pools l = joined l _ _ _ _ _ (pool_words l) (λ n h. (h, refl))

named_vips : (l : LayoutView) → Named l (vips_start l.shape) (l.vips + (l.vips * l.shape.versions * (1 + l.shape.pool_max) + l.servers)) (at_vips l)
named_vips l = joined l _ _ _ _ _ (λ n h. (h, refl)) (named_pools l)

named_pipes : (l : LayoutView) → Named l (pipes_start l.shape) (l.shape.pipes * (1 + l.shape.ring) + (l.vips + (l.vips * l.shape.versions * (1 + l.shape.pool_max) + l.servers))) (at_pipes l)
named_pipes l = joined l _ _ _ _ _ (pipe_words l) (named_vips l)

named_filter : (l : LayoutView) → Named l (filter_start l.shape) (filter_words l.shape + (l.shape.pipes * (1 + l.shape.ring) + (l.vips + (l.vips * l.shape.versions * (1 + l.shape.pool_max) + l.servers)))) (at_filter l)
named_filter l = joined l _ _ _ _ _ (λ n h. (h, refl)) (named_pipes l)

pub each_place_named : (l : LayoutView) → EachPlaceNamed l
each_place_named l n h =
    let e = entries_of l.shape in
    let rest = filter_words l.shape + (l.shape.pipes * (1 + l.shape.ring) + (l.vips + (l.vips * l.shape.versions * (1 + l.shape.pool_max) + l.servers))) in
    let filter : Named l (e + e + 1) rest (at_filter l) = λ n h. let f = named_filter l n h in (f.0, f.1 ∙ omega arith) in
    let tick : Named l (e + e) (1 + rest) (at_tick l) = joined l (e + e) 1 rest _ _ (λ n h. (tt, omega arith)) filter in
    let hits : Named l (0 + e) (e + (1 + rest)) (at_hits l) = λ n h. let f = joined l e e (1 + rest) _ _ (hit_words l) tick n h in (f.0, f.1 ∙ omega arith) in
    let all = joined l 0 e (e + (1 + rest)) _ _ (entry_words l) hits in
    let here = all n (omega arith) in
    (_, here.0, here.1 ∙ omega arith)
