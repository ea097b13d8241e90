-- What the controller does with a word that it takes from a ring.
use Rattle.std.specs.Prelude.{ℕ, ◌+◌, ◌^◌, ◌==◌, ◌++◌, nat_lt, Bool, false, List, [], ◌∷◌, slice_set, Option, Some, None, if◌then◌else◌}
use Rattle.sr_base.specs.Key.{KeyView, same_key}
use Rattle.sr_base.specs.declared.ring_word.RingKind.{RingKind}
use Rattle.sr_base.specs.declared.ring_word.RingKind.TheVariants.{Learn, Punt, Close}
use Rattle.sr_base.specs.declared.ring_word.RingWord.{RingWord}
use Rattle.sr_shadow.specs.Book.{with_closed, with_taken}
use Rattle.sr_machine.specs.Config.{Config}
use Rattle.sr_machine.specs.Deciding.{ring_count}
use Rattle.sr_update.specs.Numbers.{NumberRows, is_current, state_of}
use Rattle.sr_machine.specs.Reads.{read_report}
use Rattle.sr_shadow.specs.declared.book.Book.{Book}
use Rattle.sr_machine.specs.declared.controller_view.ControllerView.{ControllerView}
use Rattle.sr_machine.specs.declared.held_opener.HeldOpener.{HeldOpener}
use Rattle.sr_machine.specs.declared.job.Job.{Job}
use Rattle.sr_machine.specs.declared.job.Job.TheVariants as job
use Rattle.sr_update.specs.declared.number_state.NumberState.{NumberState}
use Rattle.sr_machine.specs.declared.ring_count.RingCount.{RingCount}
use Rattle.sr_machine.specs.declared.wait.Wait.TheVariants.{Retire}

-- What a taken word changes.
pub record Taken : Type 0 where
  pub rings : List RingCount
  pub held : List HeldOpener
  pub book : Book

-- the key whose retirement the controller waits for: a report that its connection ended is of the one that is over
abbrev pub ended_by : Job → Option KeyView
ended_by (job.Drain pipe count (Retire key)) = Some key
ended_by j = None

abbrev pub is_ended : KeyView → Option KeyView → Bool
is_ended key None = false
is_ended key (Some ended) = same_key key ended

-- the number may still be learned
abbrev pub is_current_at : Option NumberState → Bool
is_current_at None = false
is_current_at (Some state) = is_current state

-- this report counts as that of a held opener: fewer than 2^32 - 1 were taken from its ring
abbrev pub is_punt : RingKind → ℕ → Bool
is_punt Punt punts = nat_lt (punts + 1) (2 ^ 32)
is_punt kind punts = false

abbrev pub holds_opener : Option RingWord → ℕ → Bool
holds_opener None punts = false
holds_opener (Some w) punts = is_punt w.kind punts

-- a word was taken from the ring of a pipe
abbrev pub count_after : Bool → RingCount → RingCount
count_after punt r = record { words = r.words + 1; punts = if punt then r.punts + 1 else r.punts }

-- the report of a held opener comes to the held ones
abbrev pub held_after : ℕ → ℕ → List HeldOpener → Option RingWord → List HeldOpener
held_after pipe punts held None = held
held_after pipe punts held (Some w) =
    if is_punt w.kind punts then (held ++ record { pipe = pipe; nth = punts + 1; key = w.key } ∷ []) else held

-- a learned key is registered; a registered key whose connection ended is marked so
abbrev pub book_by : NumberRows → Option KeyView → Book → KeyView → ℕ → RingKind → Book
book_by numbers ended book key version Learn =
    if is_current_at (state_of key.vip version numbers) then with_taken key version book else book
book_by numbers ended book key version Punt = book
book_by numbers ended book key version Close = if is_ended key ended then book else with_closed key book

abbrev pub book_after : NumberRows → Option KeyView → Book → Option RingWord → Book
book_after numbers ended book None = book
book_after numbers ended book (Some w) = book_by numbers ended book w.key w.version w.kind

-- the word of a pipe's ring by what it reports; what is no report counts as taken and changes nothing else
abbrev pub taken_report : ControllerView → Option KeyView → ℕ → Option RingWord → Taken
taken_report c ended pipe report =
    let r = ring_count c.rings pipe in
    record {
      rings = slice_set c.rings pipe (count_after (holds_opener report r.punts) r);
      held = held_after pipe r.punts c.held report;
      book = book_after c.numbers ended c.book report;
    }

-- nothing was taken
abbrev pub untaken : ControllerView → Taken
untaken c = record { rings = c.rings; held = c.held; book = c.book }

-- a swap of a ring's cell answered this: 0 is no word
unfoldable pub taking : Config → ControllerView → Option KeyView → ℕ → ℕ → Taken
taking k c ended pipe x = if x == 0 then untaken c else taken_report c ended pipe (read_report k.layout x)
