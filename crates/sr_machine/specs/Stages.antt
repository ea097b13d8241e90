-- A packet's steps: which one is next, and what comes after it by the word that it answers.
use Rattle.std.specs.Prelude.{ℕ, ◌%◌, ◌==◌, ◌&&◌, ◌++◌, Bool, true, false, List, [], ◌∷◌, map, Option, Some, None, if◌then◌else◌}
use Rattle.sr_base.specs.Key.{KeyView}
use Rattle.sr_base.specs.Layout.{LayoutView}
use Rattle.sr_base.specs.RingWord.{packed_ring}
use Rattle.sr_base.specs.declared.kind.Kind.{Kind}
use Rattle.sr_base.specs.declared.kind.Kind.TheVariants.{Opener, Carry, Ending}
use Rattle.sr_base.specs.declared.packet.Packet.{Packet}
use Rattle.sr_base.specs.declared.place.Place.{Place}
use Rattle.sr_base.specs.declared.place.Place.TheVariants.{Row}
use Rattle.sr_base.specs.declared.ring_word.RingKind.TheVariants.{Learn, Punt, Close}
use Rattle.sr_base.specs.declared.ring_word.RingWord.{RingWord}
use Rattle.sr_base.specs.declared.vip_word.Phase.{Phase}
use Rattle.sr_base.specs.declared.vip_word.Phase.TheVariants.{Steady, Recording, Holding, Transit}
use Rattle.sr_hash.specs.Uses.{bloom_places_of, selected}
use Rattle.sr_law.specs.declared.verdict.HeldBy.{HeldBy}
use Rattle.sr_law.specs.declared.verdict.HeldBy.TheVariants as by
use Rattle.sr_law.specs.declared.verdict.Verdict.{Verdict}
use Rattle.sr_law.specs.declared.verdict.Verdict.TheVariants as verdict
use Rattle.sr_shadow.specs.Plan.{key_rows, key_slots}
use Rattle.sr_machine.specs.Reads.{read_vip, says, read_head, read_server, read_flag, has_bit, filter_word, filter_bit}
use Rattle.sr_machine.specs.declared.flight.Flight.{Flight}
use Rattle.sr_machine.specs.declared.leg.Last.{Last}
use Rattle.sr_machine.specs.declared.leg.Last.TheVariants as last
use Rattle.sr_machine.specs.declared.leg.Leg.{Leg}
use Rattle.sr_machine.specs.declared.leg.Leg.TheVariants.{Look, Hit, Filter, Chosen, Judged}
use Rattle.sr_machine.specs.declared.leg.Load.{Load}
use Rattle.sr_machine.specs.declared.leg.Load.TheVariants as load
use Rattle.sr_machine.specs.declared.name.Name.{Name}
use Rattle.sr_machine.specs.declared.name.Name.TheVariants as name
use Rattle.sr_machine.specs.declared.op.Op.{Op}
use Rattle.sr_machine.specs.declared.op.Op.TheVariants.{Loads, Stores, Adds, Ors}
use Rattle.sr_machine.specs.declared.said.Said.{Said}
use Rattle.sr_machine.specs.declared.said.Said.TheVariants as said
use Rattle.sr_machine.specs.declared.stage.Stage.{Stage}
use Rattle.sr_machine.specs.declared.stage.Stage.TheVariants.{Idle, Enter, Note, Vip, Fly, Leave}

-- ---- what a packet looks at

abbrev pub is_opener : Kind → Bool
is_opener Opener = true
is_opener kind = false

-- the places of a key in the order in which they are loaded: the rows of its group, then the cells of its two buckets
abbrev pub key_places : LayoutView → KeyView → List Place
key_places l key = map Row (key_rows l.shape key) ++ key_slots l.shape key

-- its places of the transit filter
abbrev pub key_bits : LayoutView → KeyView → List ℕ
key_bits l key = bloom_places_of key l.shape.filter_bits

-- ---- what comes after a load

-- where a version is found an opener is held, and another packet has it
abbrev pub held_or : Flight → HeldBy → ℕ → Leg
held_or f by version = if is_opener f.packet.kind then Judged (verdict.Held by) last.Ring else Chosen version load.Head

-- the transit filter is looked at from here on; where all its places are set an opener is held, and another packet has the
-- current version
abbrev pub filtering : Flight → List ℕ → Leg
filtering f [] = held_or f by.Transit f.vip.cur
filtering f (bit ∷ rest) = Filter bit rest

-- no entry was found: the phase decides
abbrev pub missed_in : LayoutView → Flight → Phase → Leg
missed_in l f Steady = Chosen f.vip.cur load.Head
missed_in l f Recording = Chosen f.vip.cur load.Head
missed_in l f Holding = held_or f by.Hold f.vip.cur
missed_in l f Transit = filtering f (key_bits l f.packet.key)

abbrev pub missed : LayoutView → Flight → Leg
missed l f = missed_in l f f.vip.phase

-- entries are looked at from here on
abbrev pub looking : LayoutView → Flight → List Place → Leg
looking l f [] = missed l f
looking l f (place ∷ rest) = Look place rest

-- what a place said: a live entry is found; a reserved one holds an opener, and is nothing to another packet
abbrev pub looked : LayoutView → Flight → Place → List Place → Said → Leg
looked l f place rest said.Nothing = looking l f rest
looked l f place rest said.Reserved =
    if is_opener f.packet.kind then Judged (verdict.Held by.Clash) last.Ring else looking l f rest
looked l f place rest (said.Live version) = Hit place version

-- a clear bit gives the next version
abbrev pub filtered : Flight → List ℕ → Bool → Leg
filtered f rest set = if set then filtering f rest else Chosen f.vip.next load.Head

-- the verdict by a server that is down or isn't
abbrev pub verdict_by : Bool → ℕ → ℕ → ℕ → Verdict
verdict_by down server version pool = if down then verdict.Down server version pool else verdict.To server version pool

-- which packets with a version have something to report: an opener whose server isn't down, and an ending one
abbrev pub last_by : Kind → Bool → Last
last_by Opener down = if down then last.Out else last.Ring
last_by Carry down = last.Out
last_by Ending down = last.Ring

-- the version was chosen, and the next word of it loaded
abbrev pub loaded : LayoutView → Flight → ℕ → Load → ℕ → Leg
loaded l f version load.Head x = Chosen version (load.Member (read_head l x))
loaded l f version (load.Member head) x = Chosen version (load.Down head.pool (read_server l x))
loaded l f version (load.Down pool server) x =
    Judged (verdict_by (read_flag x) server version pool) (last_by f.packet.kind (read_flag x))

-- ---- the report

abbrev pub is_to : Verdict → Bool
is_to (verdict.To server version pool) = true
is_to v = false

-- an opener that goes to a server is recorded in the filter, where its virtual address said Recording
abbrev pub is_recording : Phase → Bool
is_recording Recording = true
is_recording phase = false

abbrev pub is_recorded : Flight → Verdict → Bool
is_recorded f v = is_opener f.packet.kind && (is_to v && is_recording f.vip.phase)

-- places of the filter are set from here on
abbrev pub marking : List ℕ → Last
marking [] = last.Push
marking (bit ∷ rest) = last.Mark bit rest

-- the cell was found empty or full
abbrev pub last_at : LayoutView → Flight → Verdict → Bool → Last
last_at l f v empty = if empty then (if is_recorded f v then marking (key_bits l f.packet.key) else last.Push) else last.Out

-- an opener that finds its cell full is sent nowhere
abbrev pub verdict_at : Flight → Verdict → Bool → Verdict
verdict_at f v empty = if empty then v else (if is_opener f.packet.kind then verdict.Full else v)

-- an opener reports what version it has learned, or that it was held; an ending packet that it went by
abbrev pub report_by : KeyView → Kind → Verdict → RingWord
report_by key Opener (verdict.To server version pool) = record { kind = Learn; version = version; key = key }
report_by key Opener v = record { kind = Punt; version = 0; key = key }
report_by key kind v = record { kind = Close; version = 0; key = key }

abbrev pub report_of : Flight → Verdict → ℕ
report_of f v = packed_ring (report_by f.packet.key f.packet.kind v)

-- ---- the next step

-- the cell of a ring for a word of this number
abbrev pub ring_cell : LayoutView → ℕ → ℕ → Name
ring_cell l pipe n = name.Ring pipe (n % l.shape.ring)

abbrev pub load_op : KeyView → ℕ → Load → Op
load_op key version load.Head = Loads (name.Head key.vip version)
load_op key version (load.Member head) = Loads (name.Member key.vip version (selected head.size key))
load_op key version (load.Down pool server) = Loads (name.Down server)

abbrev pub last_op : LayoutView → ℕ → ℕ → Flight → Verdict → Last → Op
last_op l pipe pushed f v last.Ring = Loads (ring_cell l pipe pushed)
last_op l pipe pushed f v (last.Mark bit rest) = Ors (name.Filter (filter_word bit)) (filter_bit bit)
last_op l pipe pushed f v last.Push = Stores (ring_cell l pipe pushed) (report_of f v)
last_op l pipe pushed f v last.Out = Adds name.Tick 1

abbrev pub leg_op : LayoutView → ℕ → ℕ → Flight → Leg → Op
leg_op l pipe pushed f (Look place rest) = Loads (name.Entry place)
leg_op l pipe pushed f (Hit place version) = Stores (name.Hit place) 1
leg_op l pipe pushed f (Filter bit rest) = Loads (name.Filter (filter_word bit))
leg_op l pipe pushed f (Chosen version next) = load_op f.packet.key version next
leg_op l pipe pushed f (Judged v next) = last_op l pipe pushed f v next

-- the next step of a pipe of this number that has pushed so many reports; an idle pipe has none
abbrev pub stage_op : LayoutView → ℕ → ℕ → Stage → Option Op
stage_op l pipe pushed Idle = None
stage_op l pipe pushed (Enter packet) = Some (Adds name.Tick 1)
stage_op l pipe pushed (Note packet entered) = Some (Stores (name.Note pipe) entered)
stage_op l pipe pushed (Vip packet entered) = Some (Loads (name.Vip packet.key.vip))
stage_op l pipe pushed (Fly f leg) = Some (leg_op l pipe pushed f leg)
stage_op l pipe pushed (Leave f) = Some (Stores (name.Note pipe) 0)

-- ---- the stage after it

abbrev pub last_after : LayoutView → Flight → Verdict → Last → ℕ → Stage
last_after l f v last.Ring x = Fly f (Judged (verdict_at f v (x == 0)) (last_at l f v (x == 0)))
last_after l f v (last.Mark bit rest) x = Fly f (Judged v (marking rest))
last_after l f v last.Push x = Fly f (Judged v last.Out)
last_after l f v last.Out x = Leave f

abbrev pub leg_after : LayoutView → Flight → Leg → ℕ → Stage
leg_after l f (Look place rest) x = Fly f (looked l f place rest (says l place f.packet.key x))
leg_after l f (Hit place version) x = Fly f (held_or f by.Clash version)
leg_after l f (Filter bit rest) x = Fly f (filtered f rest (has_bit bit x))
leg_after l f (Chosen version next) x = Fly f (loaded l f version next x)
leg_after l f (Judged v next) x = last_after l f v next x

-- a packet that has loaded the word of its virtual address
abbrev pub begun_flight : LayoutView → Packet → ℕ → ℕ → Flight
begun_flight l packet entered x = record { packet = packet; entered = entered; vip = read_vip l x }

abbrev pub stage_after : LayoutView → Stage → ℕ → Stage
stage_after l Idle x = Idle
stage_after l (Enter packet) x = Note packet x
stage_after l (Note packet entered) x = Vip packet entered
stage_after l (Vip packet entered) x =
    let f = begun_flight l packet entered x in Fly f (looking l f (key_places l packet.key))
stage_after l (Fly f leg) x = leg_after l f leg x
stage_after l (Leave f) x = Idle
