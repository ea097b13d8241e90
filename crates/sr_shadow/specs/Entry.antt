-- An entry of the book, and what becomes of it.
use Rattle.std.specs.Prelude.{ℕ, ◌+◌, min, Bool, true, false, cond, ◌&&◌, ◌||◌, ◌==◌, nat_le, not, is_some, is_none, if◌then◌else◌, Option, Some, None}
use Rattle.sr_base.specs.Key.{KeyView, same_key}
use Rattle.sr_base.specs.Place.{same_place}
use Rattle.sr_base.specs.declared.place.Place.{Place}
use Rattle.sr_base.specs.declared.place.Place.TheVariants.{Slot, Row}
use Rattle.sr_shadow.specs.declared.entry.Entry.{Entry}

-- the place, if there is one, is this one
abbrev pub is_at : Place → Option Place → Bool
is_at place None = false
is_at place (Some held) = same_place place held

-- the place is a slot
abbrev pub is_slot : Place → Bool
is_slot (Slot way bucket cell) = true
is_slot (Row row) = false

-- a row of the full-key table
abbrev pub is_row : Option Place → Bool
is_row None = false
is_row (Some (Slot way bucket cell)) = false
is_row (Some (Row row)) = true

-- the entry is this key's
abbrev pub is_of : KeyView → Entry → Bool
is_of key e = same_key key e.key

-- the key has no Live place
abbrev pub is_pending : Entry → Bool
is_pending e = is_none e.place

-- the key has a Live place
abbrev pub is_placed : Entry → Bool
is_placed e = is_some e.place

-- the key's Live place isn't a row of the full-key table: it is a slot, or there is none yet
abbrev pub is_outside : Entry → Bool
is_outside e = not (is_row e.place)

-- the place, if there is one, is a slot of this way
abbrev pub is_slot_in : ℕ → Option Place → Bool
is_slot_in way None = false
is_slot_in way (Some (Slot at bucket cell)) = at == way
is_slot_in way (Some (Row row)) = false

-- the key's Live place is a slot of this way
abbrev pub stands_in : ℕ → Entry → Bool
stands_in way e = is_slot_in way e.place

-- the entry has this place, as the Live one or as the one that it is about to leave
abbrev pub holds : Place → Entry → Bool
holds place e = is_at place e.place || is_at place e.also

-- how many times the entry has this place: twice where it is both
abbrev pub times_held : Place → Entry → ℕ
times_held place e = cond (is_at place e.place) 1 0 + cond (is_at place e.also) 1 0

-- the key has this virtual address, and this version of its pool
abbrev pub has_version : ℕ → ℕ → Entry → Bool
has_version vip version e = (e.key.vip == vip) && (e.version == version)

-- a new entry
abbrev pub fresh : KeyView → ℕ → ℕ → Entry
fresh key version taken = record { key = key; version = version; place = None; also = None; taken = taken; closed = false; quiet = None }

-- a Close was taken for it
abbrev pub closed : Entry → Entry
closed e = record e { closed = true }

-- it is Live at a place; the one before is still held
abbrev pub settled : Place → Entry → Entry
settled place e = record e { place = Some place; also = e.place; quiet = None }

-- it holds its Live place alone
abbrev pub left_other : Entry → Entry
left_other e = record e { also = None }

-- the quiet sweeps in a row after one more, which the place was hit before or wasn't; the first one counts none
abbrev pub quiet_after : Bool → Option ℕ → ℕ
quiet_after hit None = 0
quiet_after hit (Some n) = if hit then 0 else min 255 (n + 1)

-- a sweep went by its place, which was hit before or wasn't
abbrev pub swept : Bool → Entry → Entry
swept hit e = record e { quiet = Some (quiet_after hit e.quiet) }

-- so many quiet sweeps end a connection: the number of lives, or one where a Close was taken for it
abbrev pub is_over : ℕ → Bool → Option ℕ → Bool
is_over lives closed None = false
is_over lives closed (Some quiet) = nat_le lives quiet || (closed && nat_le 1 quiet)

-- the entry may be retired: it has a Live place, and was quiet long enough
abbrev pub may_retire : ℕ → Entry → Bool
may_retire lives e = is_placed e && is_over lives e.closed e.quiet
