-- What a turn's steps leave: a job that is set, room for the next ones, and ticks that are still to be had.
use Rattle.std.proofs.Common.{◌≡◌, ℕ, ◌+◌, ◌≤◌, ◌==◌, Bool, true, false, List, Option, Some, None, refl, sym, ap, ◌∙◌, arith, if◌then◌else◌}
use Rattle.std.proofs.lemmas.Bool.{true≢false}
use Rattle.sr_acts.specs.Rooms.{added}
use Rattle.sr_acts.specs.Starts.{is_free}
use Rattle.sr_base.specs.Layout.{LayoutView}
use Rattle.sr_base.specs.declared.vip_word.Phase.{Phase}
use Rattle.sr_base.specs.declared.vip_word.Phase.TheVariants.{Steady, Recording, Holding, Transit}
use Rattle.sr_ctl.specs.Needs.{is_look, kept, makes_room, needed, replied_needs}
use Rattle.sr_machine.specs.Begins.{Begins, refuses, takes_down, holds, finishes, changes, answers, places_held, has_no_place, places, retires, sweeps, releases, looks}
use Rattle.sr_machine.specs.Bounds.{cleared_left, comes_left, draw_left, store_left, vip_left}
use Rattle.sr_machine.proofs.Following.{first_begins, goes}
use Rattle.sr_base.specs.declared.vip_word.VipWord.{VipWord}
use Rattle.sr_shadow.specs.declared.entry.Entry.{Entry}
use Rattle.sr_machine.specs.Config.{Config}
use Rattle.sr_machine.specs.Deciding.{dead_reply}
use Rattle.sr_machine.specs.Goes.{Goes, stays_free, waits, refused, taken_down, given, comes, reserved, placed, cleared, retired, answered, sweep_begins, sweep_empty, swept, downed, member_next, member_last, head, phase_stored, filter_next, filter_last, reserve_stored, judged_live, judged_withdrawn, emptied, pass_stays, pass_next, pass_last, drain_stays, drain_next, drain_last, look_next, look_last, look_took, hit_next, hit_last}
use Rattle.sr_machine.specs.Jobs.{book_next, drawn_next, job_next, rings_next}
use Rattle.sr_machine.specs.Starting.{Start, first_act, start_by}
use Rattle.sr_machine.specs.Reads.{read_report}
use Rattle.sr_machine.specs.Taking.{taken_report, taking, untaken}
use Rattle.sr_machine.specs.Turning.{most_steps, turn_at}
use Rattle.sr_machine.specs.declared.controller_view.ControllerView.{ControllerView}
use Rattle.sr_machine.specs.declared.draw.Draw.{Draw}
use Rattle.sr_machine.specs.declared.draw.Draw.TheVariants as draw
use Rattle.sr_machine.specs.declared.job.Job.{Job}
use Rattle.sr_machine.specs.declared.job.Job.TheVariants as job
use Rattle.sr_machine.specs.declared.put.Aim.{Aim}
use Rattle.sr_machine.specs.declared.put.Aim.TheVariants as aim
use Rattle.sr_machine.specs.declared.reply.Reply.{Reply}
use Rattle.sr_machine.specs.declared.store.Store.{Store}
use Rattle.sr_machine.specs.declared.store.Store.TheVariants as store
use Rattle.sr_machine.specs.declared.turn.Turn.{Turn}
use Rattle.sr_machine.specs.declared.wait.Wait.{Wait}
use Rattle.sr_machine.specs.declared.wait.Wait.TheVariants as wait
use Rattle.sr_machine.specs.declared.why.Why.{Why}
use Rattle.sr_machine.specs.declared.why.Why.TheVariants as why
use Rattle.sr_machine.specs.Waiting.{all_passed, has_next, live_job, waited_job}

-- the ticks that a turn draws yet, at most; one more for what draws none
abbrev pub ticks_left : Job → ℕ
ticks_left job.Free = 0
ticks_left (job.Draw d) = draw_left d
ticks_left (job.Store s) = store_left s
ticks_left (job.Pass grace pipe w) = 1
ticks_left (job.Drain pipe count w) = 1
ticks_left (job.Look pipe) = 1
ticks_left (job.Hit from ms key place taken) = 1

replied_most : (o : Option Reply) → replied_needs o ≤ 2
replied_most None = omega arith
replied_most (Some r) = omega arith

cleared_most : (w : Why) → (1 ≤ cleared_left w) × (cleared_left w ≤ 2)
cleared_most (why.Withdrawn reply) = (omega arith, omega arith)
cleared_most why.Source = (omega arith, omega arith)
cleared_most (why.Retired version) = (omega arith, omega arith)

comes_most : (p : Phase) → (1 ≤ comes_left p) × (comes_left p ≤ 3) × (1 ≤ vip_left p) × (vip_left p ≤ 3)
comes_most Steady = (omega arith, omega arith, omega arith, omega arith)
comes_most Recording = (omega arith, omega arith, omega arith, omega arith)
comes_most Holding = (omega arith, omega arith, omega arith, omega arith)
comes_most Transit = (omega arith, omega arith, omega arith, omega arith)

draw_most : (d : Draw) → (1 ≤ draw_left d) × (draw_left d ≤ 4)
draw_most (draw.Grace w) = (omega arith, omega arith)
draw_most (draw.Refused change) = (omega arith, omega arith)
draw_most (draw.TakenDown server) = (omega arith, omega arith)
draw_most (draw.Given u) = (omega arith, omega arith)
draw_most (draw.Comes u p) = let h = comes_most p in (h.0, omega (arith, h.1))
draw_most (draw.Reserved p) = (omega arith, omega arith)
draw_most (draw.Placed p) = (omega arith, omega arith)
draw_most (draw.Cleared key place w) = let h = cleared_most w in (h.0, omega (arith, h.1))
draw_most (draw.Retired key place version) = (omega arith, omega arith)
draw_most (draw.Answer r) = (omega arith, omega arith)
draw_most (draw.From ms) = (omega arith, omega arith)
draw_most (draw.Swept from ms) = (omega arith, omega arith)

store_most : (s : Store) → (1 ≤ store_left s) × (store_left s ≤ 4)
store_most (store.Down server) = (omega arith, omega arith)
store_most (store.Member u index) = (omega arith, omega arith)
store_most (store.Head u) = (omega arith, omega arith)
store_most (store.Vip u p) = let h = comes_most p in (h.2, omega (arith, h.3))
store_most (store.Filter u index) = (omega arith, omega arith)
store_most (store.Reserved p) = (omega arith, omega arith)
store_most (store.Judge p) = (omega arith, omega arith)
store_most (store.Empty key place w) = let h = cleared_most w in (omega (arith, h.0), omega (arith, h.1))

-- ---- where a turn begins

-- a job that is set, for which there are ticks
pub record IsSet (j : Job) : Type 0 where
  pub set : is_free j ≡ false
  pub some : 1 ≤ ticks_left j
  pub most : ticks_left j ≤ 4

set_draw : (d : Draw) → IsSet (job.Draw d)
set_draw d = record { set = refl; some = (draw_most d).0; most = (draw_most d).1 }

set_store : (s : Store) → IsSet (job.Store s)
set_store s = record { set = refl; some = (store_most s).0; most = (store_most s).1 }

first_set : (k : Config) (c : ControllerView) (s : Start) → Begins k c s → IsSet s.job
first_set k c s (refuses g rest a b) = set_draw (draw.Refused g.position)
first_set k c s (takes_down o rest a b) = set_draw (draw.TakenDown o.server)
first_set k c s (holds u a b d) = set_draw (draw.Comes u Holding)
first_set k c s (finishes u a b d) = set_store (store.Vip u Steady)
first_set k c s (changes g rest number a b d e) = record { set = refl; some = omega arith; most = omega arith }
first_set k c s (answers h rest e a b) = record { set = refl; some = omega arith; most = omega arith }
first_set k c s (places_held h rest p a b d) = set_draw (draw.Reserved p)
first_set k c s (has_no_place h rest a b d) = record { set = refl; some = omega arith; most = omega arith }
first_set k c s (places e p a b d) = set_draw (draw.Reserved p)
first_set k c s (retires e place a b) = set_draw (draw.Retired e.key place e.version)
first_set k c s (sweeps ms a b) = set_draw (draw.From ms)
first_set k c s (releases vip version a) = set_draw (draw.Grace (wait.Release vip version))
first_set k c s (looks a) = record { set = refl; some = omega arith; most = omega arith }

pub start_set : (k : Config) (c : ControllerView) (j : Job) → IsSet (start_by k c j).job
start_set k c job.Free = first_set k c (first_act k c) (first_begins k c)
start_set k c (job.Draw d) = set_draw d
start_set k c (job.Store s) = set_store s
start_set k c (job.Pass grace pipe w) = record { set = refl; some = omega arith; most = omega arith }
start_set k c (job.Drain pipe count w) = record { set = refl; some = omega arith; most = omega arith }
start_set k c (job.Look pipe) = record { set = refl; some = omega arith; most = omega arith }
start_set k c (job.Hit from ms key place taken) = record { set = refl; some = omega arith; most = omega arith }

-- the room that is made suffices for whatever begins
first_room : (k : Config) (c : ControllerView) (s : Start) → Begins k c s → needed k.layout s.job ≤ most_steps k.layout + 1
first_room k c s (refuses g rest a b) = omega arith
first_room k c s (takes_down o rest a b) = omega arith
first_room k c s (holds u a b d) = omega arith
first_room k c s (finishes u a b d) = omega arith
first_room k c s (changes g rest number a b d e) = omega arith
first_room k c s (answers h rest e a b) = omega arith
first_room k c s (places_held h rest p a b d) = omega arith
first_room k c s (has_no_place h rest a b d) = omega arith
first_room k c s (places e p a b d) = omega arith
first_room k c s (retires e place a b) = omega arith
first_room k c s (sweeps ms a b) = omega arith
first_room k c s (releases vip version a) = omega arith
first_room k c s (looks a) = omega arith

-- and so does what was kept
pub start_room : (k : Config) (c : ControllerView) (j : Job) (room : ℕ) → is_look j ≡ false
    → (makes_room j ≡ true → most_steps k.layout + 1 ≤ room) → kept j ≤ room → needed k.layout (start_by k c j).job ≤ room
start_room k c job.Free room look made kept = let h = made refl in omega (arith, h, first_room k c (first_act k c) (first_begins k c))
start_room k c (job.Draw d) room look made kept = kept
start_room k c (job.Store s) room look made kept = kept
start_room k c (job.Pass grace pipe w) room look made kept = kept
start_room k c (job.Drain pipe count w) room look made kept = let h = made refl in omega (arith, h)
start_room k c (job.Look pipe) room look made kept = cc
start_room k c (job.Hit from ms key place taken) room look made kept = kept

-- ---- a step that doesn't end the turn

abbrev pub is_pass : Job → Bool
is_pass (job.Pass grace pipe w) = true
is_pass j = false

pub record GoesOn (l : LayoutView) (c : ControllerView) (j next : Job) : Type 0 where
  pub set : is_free next ≡ false
  pub some : 1 ≤ ticks_left next
  pub pass : is_pass next ≡ false
  pub room : needed l next + added j ≤ needed l j
  pub ticks : drawn_next c j + ticks_left next ≤ c.drawn + ticks_left j

-- a look that doesn't end the turn found an empty cell, and a pipe is next
pub look_goes_on : (empty more : Bool) (rest took : Turn) → (if empty then (if more then None else Some rest) else Some took) ≡ None
    → (empty ≡ true) × (more ≡ true)
look_goes_on true true rest took e = (refl, refl)
look_goes_on true false rest took e = cc
look_goes_on false more rest took e = cc

module _ (k : Config) (c : ControllerView) (x : ℕ) where
  goes_on : (j next : Job) → Goes k c x j next → is_free j ≡ false → turn_at k c j x ≡ None → GoesOn k.layout c j next
  goes_on j next stays_free h e = cc
  goes_on j next (taken_down server) h e = record { set = refl; some = omega arith; pass = refl; room = omega arith; ticks = omega arith }
  goes_on j next (given u) h e = record { set = refl; some = omega arith; pass = refl; room = omega arith; ticks = omega arith }
  goes_on j next (comes u Steady) h e = record { set = refl; some = omega arith; pass = refl; room = omega arith; ticks = omega arith }
  goes_on j next (comes u Recording) h e = record { set = refl; some = omega arith; pass = refl; room = omega arith; ticks = omega arith }
  goes_on j next (comes u Holding) h e = record { set = refl; some = omega arith; pass = refl; room = omega arith; ticks = omega arith }
  goes_on j next (comes u Transit) h e = record { set = refl; some = omega arith; pass = refl; room = omega arith; ticks = omega arith }
  goes_on j next (reserved p) h e = record { set = refl; some = omega arith; pass = refl; room = omega arith; ticks = omega arith }
  goes_on j next (placed p) h e = record { set = refl; some = omega arith; pass = refl; room = omega arith; ticks = omega arith }
  goes_on j next (cleared key place (why.Withdrawn reply)) h e = cc
  goes_on j next (cleared key place why.Source) h e = cc
  goes_on j next (cleared key place (why.Retired version)) h e =
      record { set = refl; some = omega arith; pass = refl; room = omega arith; ticks = omega arith }
  goes_on j next (retired key place version) h e = record { set = refl; some = omega arith; pass = refl; room = omega arith; ticks = omega arith }
  goes_on j next (phase_stored u Steady) h e = record { set = refl; some = omega arith; pass = refl; room = omega arith; ticks = omega arith }
  goes_on j next (phase_stored u Recording) h e = record { set = refl; some = omega arith; pass = refl; room = omega arith; ticks = omega arith }
  goes_on j next (phase_stored u Holding) h e = record { set = refl; some = omega arith; pass = refl; room = omega arith; ticks = omega arith }
  goes_on j next (phase_stored u Transit) h e = record { set = refl; some = omega arith; pass = refl; room = omega arith; ticks = omega arith }
  goes_on j next (reserve_stored p) h e = record { set = refl; some = omega arith; pass = refl; room = omega arith; ticks = omega arith }
  goes_on j next (judged_live p a) h e = record { set = refl; some = omega arith; pass = refl; room = omega arith; ticks = omega arith }
  goes_on j next (judged_withdrawn p a) h e =
      let r = replied_most (dead_reply k c p.aim) in
      record { set = refl; some = omega arith; pass = refl; room = omega (arith, r); ticks = omega arith }
  goes_on j next (emptied key place w) h e =
      record { set = refl; some = (cleared_most w).0; pass = refl; room = omega arith; ticks = omega arith }
  goes_on j next (look_next pipe a b) h e = record { set = refl; some = omega arith; pass = refl; room = grind (arith, b); ticks = omega arith }
  goes_on j next (look_last pipe a b) h e = absurd (true≢false (sym (look_goes_on (x == 0) (has_next k.layout pipe) _ _ e).1 ∙ b))
  goes_on j next (look_took pipe a) h e = absurd (true≢false (sym (look_goes_on (x == 0) (has_next k.layout pipe) _ _ e).0 ∙ a))
  goes_on j next g h e = cc

  pub step_goes_on : (j : Job) → is_free j ≡ false → turn_at k c j x ≡ None → GoesOn k.layout c j (job_next k c j x)
  step_goes_on j h e = goes_on j (job_next k c j x) (goes k c x j) h e

  -- and takes no word
  pub no_word : (j : Job) → turn_at k c j x ≡ None → rings_next k c j x ≡ c.rings
  unfolding taking
  no_word job.Free e = refl
  no_word (job.Draw d) e = refl
  no_word (job.Store s) e = refl
  no_word (job.Pass grace pipe w) e = refl
  no_word (job.Drain pipe count w) e = cc
  no_word (job.Look pipe) e =
      ap (λ b. (if b then untaken c else taken_report c None pipe (read_report k.layout x)).rings)
      (look_goes_on (x == 0) (has_next k.layout pipe) _ _ e).0
  no_word (job.Hit from ms key place taken) e = refl

-- ---- the step that ends it

pub record EndsAt (l : LayoutView) (j next : Job) : Type 0 where
  pub look : is_look next ≡ false
  pub room : kept next + added j ≤ needed l j

passed_ends : (l : LayoutView) (g pipe : ℕ) (w : Wait) → EndsAt l (job.Pass g pipe w) (all_passed w)
passed_ends l g pipe (wait.Judge p) = record { look = refl; room = omega arith }
passed_ends l g pipe (wait.Live p) = record { look = refl; room = omega arith }
passed_ends l g pipe (wait.Retire key) = record { look = refl; room = omega arith }
passed_ends l g pipe (wait.Comes u Steady) = record { look = refl; room = omega arith }
passed_ends l g pipe (wait.Comes u Recording) = record { look = refl; room = omega arith }
passed_ends l g pipe (wait.Comes u Holding) = record { look = refl; room = omega arith }
passed_ends l g pipe (wait.Comes u Transit) = record { look = refl; room = omega arith }
passed_ends l g pipe (wait.Release vip version) = record { look = refl; room = omega arith }

waited_ends : (l : LayoutView) (pipe count : ℕ) (vips : List VipWord) (entries : List Entry) (w : Wait)
    → EndsAt l (job.Drain pipe count w) (waited_job vips entries w)
waited_ends l pipe count vips entries (wait.Judge p) = record { look = refl; room = omega arith }
waited_ends l pipe count vips entries (wait.Live p) = at p.aim
  where
    at : (a : Aim) → EndsAt l (job.Drain pipe count (wait.Live p)) (live_job vips entries p a)
    at aim.Pending = record { look = refl; room = omega arith }
    at (aim.Held h) = record { look = refl; room = omega arith }
    at (aim.Move from planned) = record { look = refl; room = omega arith }
waited_ends l pipe count vips entries (wait.Retire key) = record { look = refl; room = omega arith }
waited_ends l pipe count vips entries (wait.Comes u Steady) = record { look = refl; room = omega arith }
waited_ends l pipe count vips entries (wait.Comes u Recording) = record { look = refl; room = omega arith }
waited_ends l pipe count vips entries (wait.Comes u Holding) = record { look = refl; room = omega arith }
waited_ends l pipe count vips entries (wait.Comes u Transit) = record { look = refl; room = omega arith }
waited_ends l pipe count vips entries (wait.Release vip version) = record { look = refl; room = omega arith }

look_more : (empty more : Bool) (rest took t : Turn) → (if empty then (if more then None else Some rest) else Some took) ≡ Some t
    → empty ≡ true → more ≡ true → ⊥
look_more true true rest took t e a b = cc
look_more true false rest took t e a b = cc
look_more false more rest took t e a b = cc

module _ (k : Config) (c : ControllerView) (x : ℕ) (t : Turn) where
  ends_at : (j next : Job) → Goes k c x j next → turn_at k c j x ≡ Some t → EndsAt k.layout j next
  ends_at j next stays_free e = cc
  ends_at j next (waits w) e = record { look = refl; room = omega arith }
  ends_at j next (refused change) e = record { look = refl; room = omega arith }
  ends_at j next (cleared key place (why.Withdrawn None)) e = record { look = refl; room = omega arith }
  ends_at j next (cleared key place (why.Withdrawn (Some r))) e = record { look = refl; room = omega arith }
  ends_at j next (cleared key place why.Source) e = record { look = refl; room = omega arith }
  ends_at j next (cleared key place (why.Retired version)) e = cc
  ends_at j next (answered r) e = record { look = refl; room = omega arith }
  ends_at j next (sweep_begins ms w place h) e = record { look = refl; room = omega arith }
  ends_at j next (sweep_empty ms h) e = record { look = refl; room = omega arith }
  ends_at j next (swept from ms) e = record { look = refl; room = omega arith }
  ends_at j next (downed server) e = record { look = refl; room = omega arith }
  ends_at j next (member_next u index h) e = record { look = refl; room = omega arith }
  ends_at j next (member_last u index h) e = record { look = refl; room = omega arith }
  ends_at j next (head u) e = record { look = refl; room = omega arith }
  ends_at j next (filter_next u index h) e = record { look = refl; room = omega arith }
  ends_at j next (filter_last u index h) e = record { look = refl; room = omega arith }
  ends_at j next (pass_stays g pipe w h) e = record { look = refl; room = omega arith }
  ends_at j next (pass_next g pipe w h i) e = record { look = refl; room = omega arith }
  ends_at j next (pass_last g pipe w h i) e = passed_ends k.layout g pipe w
  ends_at j next (drain_stays pipe count w h) e = record { look = refl; room = omega arith }
  ends_at j next (drain_next pipe count w h i) e = record { look = refl; room = omega arith }
  ends_at j next (drain_last pipe count w h i) e =
      waited_ends k.layout pipe count c.vips (book_next k c (job.Drain pipe count w) x).entries w
  ends_at j next (look_next pipe a b) e = absurd (look_more (x == 0) (has_next k.layout pipe) _ _ t e a b)
  ends_at j next (look_last pipe a b) e = record { look = refl; room = omega arith }
  ends_at j next (look_took pipe a) e = record { look = refl; room = omega arith }
  ends_at j next (hit_next from ms key place taken w at h) e = record { look = refl; room = omega arith }
  ends_at j next (hit_last from ms key place taken h) e = record { look = refl; room = omega arith }
  ends_at j next g e = cc

  pub step_ends : (j : Job) → turn_at k c j x ≡ Some t → EndsAt k.layout j (job_next k c j x)
  step_ends j e = ends_at j (job_next k c j x) (goes k c x j) e
