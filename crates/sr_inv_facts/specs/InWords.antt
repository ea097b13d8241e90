-- Words: each shared word is what the views say. The tick counts what was drawn, a note is its pipe's tick, the tables are the book's and the
-- job's, a virtual address's word is the controller's, heads and servers are those of the pool that a version names, the filter is cleared
-- where no update uses it, and a ring holds the reports that were stored and not taken.
use Rattle.std.specs.Prelude.{◌≡◌, ℕ, ◌+◌, ◌*◌, ◌%◌, ◌<◌, ◌≤◌, Bool, false, not, ◌&&◌, ◌⊎◌, List, length, if◌then◌else◌, ◌==◌, slice_index, Some, None, sum_by, Option, unwrap_or, option_map}
use Rattle.sr_base.specs.Layout.{LayoutView}
use Rattle.sr_base.specs.Place.{same_place}
use Rattle.sr_base.specs.RingWord.{IsRingWord, packed_ring}
use Rattle.sr_base.specs.RowHead.{packed_head}
use Rattle.sr_base.specs.VipWord.{packed_vip}
use Rattle.sr_base.specs.WordName.{filter_words}
use Rattle.sr_base.specs.declared.place.Place.{Place}
use Rattle.sr_base.specs.declared.ring_word.RingWord.{RingWord}
use Rattle.sr_base.specs.declared.vip_word.VipWord.{VipWord}
use Rattle.sr_inv_facts.specs.Readings.{EachPipe, ring_words}
use Rattle.sr_law.specs.Pools.{pool_of}
use Rattle.sr_machine.specs.Config.{Config}
use Rattle.sr_machine.specs.Core.{Core}
use Rattle.sr_machine.specs.Deciding.{is_down, named_at, ring_count, update_pool, vip_at}
use Rattle.sr_machine.specs.Reads.{live_word, reserved_word, steady}
use Rattle.sr_machine.specs.declared.controller_view.ControllerView.{ControllerView}
use Rattle.sr_machine.specs.declared.job.Job.{Job}
use Rattle.sr_machine.specs.declared.name.Name.{Name}
use Rattle.sr_machine.specs.declared.pipe_view.PipeView.{PipeView}
use Rattle.sr_machine.specs.declared.pool_update.PoolUpdate.{PoolUpdate}
use Rattle.sr_machine.specs.declared.put.Put.{Put}
use Rattle.sr_machine.specs.declared.stage.Stage.{Stage}
use Rattle.sr_machine.specs.declared.stage.Stage.TheVariants.{Idle, Note, Vip, Fly, Leave}
use Rattle.sr_machine.specs.declared.wait.Wait.{Wait}
use Rattle.sr_shadow.specs.Book.{holder_entry}
use Rattle.sr_shadow.specs.declared.entry.Entry.{Entry}
use Rattle.sr_update.specs.Numbers.{is_free, state_of}
use Rattle.sr_update.specs.declared.number_state.NumberState.{NumberState}
use Rattle.sr_machine.specs.declared.draw.Draw.TheVariants as draw
use Rattle.sr_machine.specs.declared.store.Store.TheVariants as store
use Rattle.sr_machine.specs.declared.wait.Wait.TheVariants as wait
use Rattle.sr_machine.specs.declared.why.Why.TheVariants as why
use Rattle.sr_machine.specs.declared.job.Job.TheVariants as job
use Rattle.sr_machine.specs.declared.name.Name.TheVariants as name

-- ---- the tick and the notes

-- the ticks of a pipe that are in none of its lines: that of a packet that entered and isn't out
abbrev pub stage_ticks : Stage → ℕ
stage_ticks (Note packet entered) = 1
stage_ticks (Vip packet entered) = 1
stage_ticks (Fly f leg) = 1
stage_ticks stage = 0

-- the ticks that a pipe drew
abbrev pub ticks_of : PipeView → ℕ
ticks_of v = stage_ticks v.stage + 2 * length v.lines

abbrev pub pipe_ticks : List PipeView → ℕ
pipe_ticks pipes = sum_by ticks_of pipes

-- what a pipe's note holds
abbrev pub note_of : Stage → ℕ
note_of (Vip packet entered) = entered
note_of (Fly f leg) = f.entered
note_of (Leave f) = f.entered
note_of stage = 0

-- a packet is in hand
abbrev pub is_busy : Stage → ℕ
is_busy Idle = 0
is_busy (Leave f) = 0
is_busy stage = 1

-- ---- the tables

-- the word of the entry that holds a place, if one does
abbrev pub held_word : LayoutView → Place → List Entry → Option ℕ
held_word l place entries = option_map (λ e. live_word l place e.key e.version) (holder_entry place entries)

-- the word of a put's place, if this is its place
abbrev pub put_word : LayoutView → Place → Put → ℕ
put_word l place p = if same_place p.place place then reserved_word l p.place p.key else 0

abbrev pub judged_place : LayoutView → Place → Wait → ℕ
judged_place l place (wait.Judge p) = put_word l place p
judged_place l place w = 0

-- the word of a place that no entry holds: reserved for a put, of a connection that is over and isn't emptied yet, or empty
abbrev pub job_word : LayoutView → Place → Job → ℕ
job_word l place (job.Draw (draw.Grace w)) = judged_place l place w
job_word l place (job.Pass grace pipe w) = judged_place l place w
job_word l place (job.Drain pipe count w) = judged_place l place w
job_word l place (job.Store (store.Judge p)) = put_word l place p
job_word l place (job.Store (store.Empty key at (why.Retired version))) =
    if same_place at place then live_word l at key version else 0
job_word l place j = 0

-- the word of a place
abbrev pub table_word : LayoutView → List Entry → Job → Place → ℕ
table_word l entries j place = unwrap_or (held_word l place entries) (job_word l place j)

-- ---- servers

-- the server that is told to be down with the next store
abbrev pub is_downing : Job → ℕ → Bool
is_downing (job.Store (store.Down server)) x = server == x
is_downing j x = false

-- what the word of a server holds
abbrev pub down_word : List ℕ → Job → ℕ → ℕ
down_word down j server = if is_down down server && not (is_downing j server) then 1 else 0

-- ---- versions

-- the words of a version are those of this pool
pub record HoldsPool (k : Config) (words : Name → ℕ) (vip version number : ℕ) : Type 0 where
  pub pool : List ℕ
  pub there : pool_of k.pools vip number ≡ Some pool
  pub head : words (name.Head vip version) ≡ packed_head (record { size = length pool; pool = number })
  pub members : (i : ℕ) → i < length pool → words (name.Member vip version i) ≡ slice_index pool i

-- the words of the version that is being written, as far as they are
abbrev pub MembersWritten : Config → (Name → ℕ) → PoolUpdate → ℕ → Type 0
MembersWritten k words u count =
    (i : ℕ) → i < count → words (name.Member u.vip u.given i) ≡ slice_index (update_pool k u) i

abbrev pub HeadWritten : Config → (Name → ℕ) → PoolUpdate → Type 0
HeadWritten k words u =
    words (name.Head u.vip u.given) ≡ packed_head (record { size = length (update_pool k u); pool = u.pool })

abbrev pub Written : Config → (Name → ℕ) → Job → Type 0
Written k words (job.Store (store.Member u index)) = MembersWritten k words u index
Written k words (job.Store (store.Head u)) = MembersWritten k words u (length (update_pool k u))
Written k words (job.Draw (draw.Given u)) = MembersWritten k words u (length (update_pool k u)) × HeadWritten k words u
Written k words j = Unit {0}

-- ---- the filter

-- the words of the filter that were cleared by now
abbrev pub ClearedBelow : Job → ℕ → Type 0
ClearedBelow (job.Store (store.Filter u index)) i = i < index
ClearedBelow j i = ⊥

-- a word of the filter is clear: no update is under way, its first phase isn't stored yet, or the word was cleared after it
abbrev pub IsCleared : Option PoolUpdate → List VipWord → Job → ℕ → Type 0
IsCleared None vips j i = Unit {0}
IsCleared (Some u) vips j i = (vip_at vips u.vip ≡ steady u.replaced) ⊎ ClearedBelow j i

-- ---- rings

-- the word is one that reports something of the layout's keys
pub record IsReport (l : LayoutView) (x : ℕ) : Type 0 where
  pub report : RingWord
  pub is_word : IsRingWord report
  pub vip : report.key.vip < l.vips
  pub value : x ≡ packed_ring report

-- A ring holds the reports that its pipe has stored and the controller hasn't taken, each in the cell of its number; the other cells
-- are empty.
pub record HoldsReports (l : LayoutView) (ring : ℕ → ℕ) (taken pushed : ℕ) : Type 0 where
  pub least : taken ≤ pushed
  pub most : pushed ≤ taken + l.shape.ring
  pub there : (n : ℕ) → taken ≤ n → n < pushed → IsReport l (ring (n % l.shape.ring))
  pub empty : (n : ℕ) → pushed ≤ n → n < taken + l.shape.ring → ring (n % l.shape.ring) ≡ 0

-- ---- all of them

pub record WordsHold (k : Config) (words : Name → ℕ) (c : ControllerView) : Type 0 where
  pub table : (place : Place) → words (name.Entry place) ≡ table_word k.layout c.book.entries c.job place
  pub vip : (vip : ℕ) → words (name.Vip vip) ≡ packed_vip (vip_at c.vips vip)
  pub down : (server : ℕ) → words (name.Down server) ≡ down_word c.down c.job server
  pub version : (vip version : ℕ) (is : NumberState) → state_of vip version c.numbers ≡ Some is → is_free is ≡ false
      → HoldsPool k words vip version (named_at c.named vip version)
  pub written : Written k words c.job
  pub filter : (i : ℕ) → i < filter_words k.layout.shape → IsCleared c.update c.vips c.job i → words (name.Filter i) ≡ 0

pub record InWords (s : Core) : Type 0 where
  pub tick : s.words name.Tick ≡ (1 + s.config.layout.vips + s.controller.drawn) + pipe_ticks s.pipes
  pub note : EachPipe (λ p v. s.words (name.Note p) ≡ note_of v.stage) s.pipes
  pub ring : EachPipe (λ p v. HoldsReports s.config.layout (ring_words s.words p) (ring_count s.controller.rings p).words v.pushed) s.pipes
  pub others : WordsHold s.config s.words s.controller
