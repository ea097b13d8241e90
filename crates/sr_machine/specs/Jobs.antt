-- What the controller knows after a step, field by field.
use Rattle.std.specs.Prelude.{ℕ, ◌+◌, ◌++◌, Bool, List, [], ◌∷◌, drop, slice_set, Option, Some, None, if◌then◌else◌}
use Rattle.sr_base.specs.declared.vip_word.Phase.TheVariants.{Recording}
use Rattle.sr_base.specs.declared.vip_word.VipWord.{VipWord}
use Rattle.sr_law.specs.declared.line.Line.{Line}
use Rattle.sr_shadow.specs.Book.{with_left, with_retired, with_settled, with_swept, with_taken}
use Rattle.sr_machine.specs.Config.{Config}
use Rattle.sr_machine.specs.Deciding.{is_withdrawn, ring_count, version_for, with_named}
use Rattle.sr_machine.specs.Draws.{draw_job, draw_line, sweeping, with_line}
use Rattle.sr_update.specs.Numbers.{NumberRows, with_state}
use Rattle.sr_machine.specs.Reads.{read_flag}
use Rattle.sr_machine.specs.Stages.{ring_cell}
use Rattle.sr_machine.specs.Stores.{is_last_filter, phase_word, store_job, store_name, store_value}
use Rattle.sr_machine.specs.Taking.{ended_by, taking}
use Rattle.sr_machine.specs.Waiting.{drain_job, is_wait_done, look_job, pass_job}
use Rattle.sr_shadow.specs.declared.book.Book.{Book}
use Rattle.sr_machine.specs.declared.controller_view.ControllerView.{ControllerView}
use Rattle.sr_machine.specs.declared.draw.Draw.TheVariants as draw
use Rattle.sr_machine.specs.declared.held_opener.HeldOpener.{HeldOpener}
use Rattle.sr_machine.specs.declared.job.Job.{Job}
use Rattle.sr_machine.specs.declared.job.Job.TheVariants.{Free, Draw, Store, Pass, Drain, Look, Hit}
use Rattle.sr_machine.specs.declared.name.Name.TheVariants as name
use Rattle.sr_update.specs.declared.number_state.NumberState.TheVariants as state
use Rattle.sr_machine.specs.declared.op.Op.{Op}
use Rattle.sr_machine.specs.declared.op.Op.TheVariants.{Adds, Loads, Stores, Swaps}
use Rattle.sr_machine.specs.declared.put.Put.{Put}
use Rattle.sr_machine.specs.declared.ring_count.RingCount.{RingCount}
use Rattle.sr_machine.specs.declared.store.Store.TheVariants as store
use Rattle.sr_machine.specs.declared.pool_update.PoolUpdate.{PoolUpdate}
use Rattle.sr_machine.specs.declared.wait.Wait.{Wait}
use Rattle.sr_machine.specs.declared.wait.Wait.TheVariants as wait

-- ---- the step

abbrev pub job_op : Config → ControllerView → Job → Option Op
job_op k c Free = None
job_op k c (Draw d) = Some (Adds name.Tick 1)
job_op k c (Store s) = Some (Stores (store_name s) (store_value k c s))
job_op k c (Pass grace pipe w) = Some (Loads (name.Note pipe))
job_op k c (Drain pipe count w) = Some (Swaps (ring_cell k.layout pipe (ring_count c.rings pipe).words) 0)
job_op k c (Look pipe) = Some (Swaps (ring_cell k.layout pipe (ring_count c.rings pipe).words) 0)
job_op k c (Hit from ms key place taken) = Some (Swaps (name.Hit place) 0)

-- ---- the book, the rings, the held openers

-- a key that is made live is registered, if it wasn't, and settled there
abbrev pub judged_book : Bool → Put → ℕ → Book → Book
judged_book withdrawn p version book = record book {
  entries = if withdrawn then book.entries else (with_settled p.key p.place (with_taken p.key version book)).entries;
  taken = if withdrawn then book.taken else (with_taken p.key version book).taken;
}

abbrev pub book_next : Config → ControllerView → Job → ℕ → Book
book_next k c (Draw (draw.Retired key place version)) x = with_retired key c.book
book_next k c (Store (store.Judge p)) x = judged_book (is_withdrawn k c p) p (version_for c.vips c.book.entries p.key) c.book
book_next k c (Store (store.Empty key place w)) x = with_left key c.book
book_next k c (Drain pipe count w) x = (taking k c (ended_by (Drain pipe count w)) pipe x).book
book_next k c (Look pipe) x = (taking k c None pipe x).book
book_next k c (Hit from ms key place taken) x = with_swept key (read_flag x) c.book
book_next k c j x = c.book

abbrev pub rings_next : Config → ControllerView → Job → ℕ → List RingCount
rings_next k c (Drain pipe count w) x = (taking k c (ended_by (Drain pipe count w)) pipe x).rings
rings_next k c (Look pipe) x = (taking k c None pipe x).rings
rings_next k c j x = c.rings

abbrev pub held_next : Config → ControllerView → Job → ℕ → List HeldOpener
held_next k c (Draw (draw.Answer r)) x = drop 1 c.held
held_next k c (Drain pipe count w) x = (taking k c (ended_by (Drain pipe count w)) pipe x).held
held_next k c (Look pipe) x = (taking k c None pipe x).held
held_next k c j x = c.held

-- ---- numbers and phases

-- a number that was waited for is free
abbrev pub released : Bool → Wait → NumberRows → NumberRows
released done (wait.Release vip version) numbers = if done then with_state vip version state.Free numbers else numbers
released done w numbers = numbers

-- the replaced number of an update that is over drains
abbrev pub drained : Bool → PoolUpdate → NumberRows → NumberRows
drained done u numbers = if done then with_state u.vip u.replaced state.Draining numbers else numbers

abbrev pub numbers_next : Config → ControllerView → Job → ℕ → NumberRows
numbers_next k c (Draw (draw.Given u)) x = with_state u.vip u.given state.Current c.numbers
numbers_next k c (Store (store.Filter u index)) x = drained (is_last_filter k.layout index) u c.numbers
numbers_next k c (Drain pipe count w) x = released (is_wait_done k.layout pipe count x) w c.numbers
numbers_next k c j x = c.numbers

abbrev pub named_next : ControllerView → Job → List (List ℕ)
named_next c (Draw (draw.Given u)) = with_named u.vip u.given u.pool c.named
named_next c j = c.named

abbrev pub vips_next : ControllerView → Job → List VipWord
vips_next c (Store (store.Vip u p)) = slice_set c.vips u.vip (phase_word u p)
vips_next c j = c.vips

abbrev pub update_next : Config → ControllerView → Job → Option PoolUpdate
update_next k c (Store (store.Filter u index)) = if is_last_filter k.layout index then None else c.update
update_next k c j = c.update

-- the end of an update's first drain
abbrev pub marked : Bool → Wait → ℕ → ℕ → ℕ
marked done (wait.Comes u Recording) taken mark = if done then taken else mark
marked done w taken mark = mark

abbrev pub mark_next : Config → ControllerView → Job → ℕ → ℕ
mark_next k c (Drain pipe count w) x =
    marked (is_wait_done k.layout pipe count x) w (book_next k c (Drain pipe count w) x).taken c.mark
mark_next k c j x = c.mark

-- ---- servers, sweeps, ticks, lines

abbrev pub down_next : ControllerView → Job → List ℕ
down_next c (Draw (draw.TakenDown server)) = c.down ++ server ∷ []
down_next c j = c.down

abbrev pub sweeps_next : ControllerView → Job → ℕ
sweeps_next c (Draw (draw.Swept from ms)) = c.sweeps + 1
sweeps_next c j = c.sweeps

abbrev pub swept_next : ControllerView → Job → ℕ
swept_next c (Draw (draw.Swept from ms)) = ms
swept_next c j = c.swept_ms

abbrev pub drawn_next : ControllerView → Job → ℕ
drawn_next c (Draw d) = c.drawn + 1
drawn_next c j = c.drawn

abbrev pub lines_next : Config → ControllerView → Job → ℕ → List Line
lines_next k c (Draw d) x = with_line c.lines (draw_line k c d x)
lines_next k c j x = c.lines

-- ---- the next job

abbrev pub job_next : Config → ControllerView → Job → ℕ → Job
job_next k c Free x = Free
job_next k c (Draw d) x = draw_job c d x
job_next k c (Store s) x = store_job k c s
job_next k c (Pass grace pipe w) x = pass_job k.layout grace pipe w x
job_next k c (Drain pipe count w) x = drain_job k.layout c.vips (book_next k c (Drain pipe count w) x).entries pipe count w x
job_next k c (Look pipe) x = look_job k.layout pipe x
job_next k c (Hit from ms key place taken) x =
    sweeping (book_next k c (Hit from ms key place taken) x).entries from ms (taken + 1)

-- ---- the whole view

abbrev pub job_after : Config → ControllerView → Job → ℕ → ControllerView
job_after k c j x = record c {
  book = book_next k c j x;
  rings = rings_next k c j x;
  held = held_next k c j x;
  numbers = numbers_next k c j x;
  named = named_next c j;
  vips = vips_next c j;
  down = down_next c j;
  update = update_next k c j;
  mark = mark_next k c j x;
  sweeps = sweeps_next c j;
  swept_ms = swept_next c j;
  job = job_next k c j x;
  drawn = drawn_next c j;
  lines = lines_next k c j x;
}
