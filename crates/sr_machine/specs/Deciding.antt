-- What the controller reads off its own view.
use Rattle.std.specs.Prelude.{ℕ, ◌^◌, ◌&&◌, ◌||◌, nat_eq, nat_lt, not, sum_by, Bool, false, List, [], slice_index, slice_index_or, slice_set, is_some, unwrap_or, option_map, Option, Some, None, if◌then◌else◌}
use Rattle.std.specs.List.{list_any}
use Rattle.sr_base.specs.Key.{KeyView}
use Rattle.sr_base.specs.declared.place.Place.{Place}
use Rattle.sr_base.specs.declared.place.Place.TheVariants.{Slot, Row}
use Rattle.sr_base.specs.declared.shape.Shape.{Shape}
use Rattle.sr_base.specs.declared.vip_word.Phase.{Phase}
use Rattle.sr_base.specs.declared.vip_word.Phase.TheVariants.{Steady, Recording, Holding, Transit}
use Rattle.sr_base.specs.declared.vip_word.VipWord.{VipWord}
use Rattle.sr_law.specs.Pools.{pool_of, server_of}
use Rattle.sr_law.specs.declared.verdict.Verdict.{Verdict}
use Rattle.sr_law.specs.declared.verdict.Verdict.TheVariants.{NoPlace}
use Rattle.sr_shadow.specs.Book.{entry_for, is_clashing, is_registered}
use Rattle.sr_shadow.specs.Plan.{with_key}
use Rattle.sr_shadow.specs.declared.entry.Entry.{Entry}
use Rattle.sr_machine.specs.Config.{Config}
use Rattle.sr_machine.specs.Reads.{steady}
use Rattle.sr_machine.specs.Stages.{verdict_by}
use Rattle.sr_machine.specs.declared.controller_view.ControllerView.{ControllerView}
use Rattle.sr_machine.specs.declared.put.Aim.{Aim}
use Rattle.sr_machine.specs.declared.put.Aim.TheVariants as aim
use Rattle.sr_machine.specs.declared.put.Put.{Put}
use Rattle.sr_machine.specs.declared.reply.Reply.{Reply}
use Rattle.sr_machine.specs.declared.ring_count.RingCount.{RingCount}
use Rattle.sr_machine.specs.declared.pool_update.PoolUpdate.{PoolUpdate}

-- ---- versions

-- what the word of a virtual address holds
abbrev pub vip_at : List VipWord → ℕ → VipWord
vip_at vips vip = slice_index_or vips vip (steady 0)

-- the version that an opener of the virtual address learns, if it isn't held
abbrev pub learned_in : Phase → ℕ → ℕ → ℕ
learned_in Steady cur next = cur
learned_in Recording cur next = cur
learned_in Holding cur next = cur
learned_in Transit cur next = next

abbrev pub learned : List VipWord → ℕ → ℕ
learned vips vip = let w = vip_at vips vip in learned_in w.phase w.cur w.next

-- the version of a key: that of its entry, or else the one that it would learn
abbrev pub version_for : List VipWord → List Entry → KeyView → ℕ
version_for vips entries key = unwrap_or (option_map (λ e. e.version) (entry_for key entries)) (learned vips key.vip)

-- the pool that a number names; 0 for none
abbrev pub named_at : List (List ℕ) → ℕ → ℕ → ℕ
named_at named vip version = slice_index (slice_index_or named vip []) version

-- a number names a pool from now on
abbrev pub with_named : ℕ → ℕ → ℕ → List (List ℕ) → List (List ℕ)
with_named vip version pool named = slice_set named vip (slice_set (slice_index_or named vip []) version pool)

-- ---- servers

-- the servers of the pool that an update gives
abbrev pub update_pool : Config → PoolUpdate → List ℕ
update_pool k u = unwrap_or (pool_of k.pools u.vip u.pool) []

abbrev pub is_down : List ℕ → ℕ → Bool
is_down down server = list_any (nat_eq server) down

-- the server of a key under a version
abbrev pub server_for : Config → List (List ℕ) → KeyView → ℕ → ℕ
server_for k named key version = unwrap_or (server_of k.pools (named_at named key.vip version) key) 0

-- the answer to an opener of the key under a version
abbrev pub verdict_under : Config → List (List ℕ) → List ℕ → KeyView → ℕ → Verdict
verdict_under k named down key version =
    let server = server_for k named key version in
    verdict_by (is_down down server) server version (named_at named key.vip version)

abbrev pub verdict_of : Config → List (List ℕ) → List ℕ → KeyView → Option ℕ → Verdict
verdict_of k named down key None = NoPlace
verdict_of k named down key (Some version) = verdict_under k named down key version

-- ---- whether a reserved entry is withdrawn

-- Where a held opener's key is registered nowhere and the server that it would learn is down, the opener is answered so, and its
-- key isn't placed.
abbrev pub reply_if : Bool → Reply → Option Reply
reply_if down reply = if down then Some reply else None

abbrev pub dead_reply : Config → ControllerView → Aim → Option Reply
dead_reply k c (aim.Held h) =
    reply_if (not (is_registered h.key c.book.entries) && is_down c.down (server_for k c.named h.key (learned c.vips h.key.vip)))
    (record { held = h; version = Some (learned c.vips h.key.vip) })
dead_reply k c a = None

-- the keys with which the one of a put must not clash: the registered ones, and in a move the planned one
abbrev pub rivals_of : Aim → List Entry → List Entry
rivals_of (aim.Move from planned) entries = with_key planned entries
rivals_of a entries = entries

-- in a slot of this way another registered key outside the full-key table clashes with the key
abbrev pub is_contested : Shape → Place → KeyView → List Entry → Bool
is_contested shape (Slot way bucket cell) key entries = is_clashing shape way key entries
is_contested shape (Row row) key entries = false

unfoldable pub is_withdrawn : Config → ControllerView → Put → Bool
is_withdrawn k c put =
    is_contested k.layout.shape put.place put.key (rivals_of put.aim c.book.entries) || is_some (dead_reply k c put.aim)

-- ---- bounds

-- how many words were taken from all rings
abbrev pub words_taken : List RingCount → ℕ
words_taken rings = sum_by (λ r. r.words) rings

-- fewer than 2^56 ticks were drawn, and fewer than 2^56 words taken
abbrev pub in_bounds : ControllerView → Bool
in_bounds c = nat_lt c.drawn (2 ^ 56) && nat_lt (words_taken c.rings) (2 ^ 56)

-- what was taken from the ring of a pipe
abbrev pub ring_count : List RingCount → ℕ → RingCount
ring_count rings pipe = slice_index_or rings pipe (record { words = 0; punts = 0 })
