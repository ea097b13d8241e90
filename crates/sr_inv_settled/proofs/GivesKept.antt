-- Every event keeps what the lines tell of changes of pools.
use Rattle.std.proofs.Common.{◌≡◌, ℕ, zero, suc, ◌+◌, ◌<◌, ◌≤◌, Bool, true, false, not, ◌&&◌, nat_lt, ◌==◌, List, [], ◌∷◌, ◌++◌, length, map, reverse, is_none, if◌then◌else◌, Some, None, Option, option_to_list, sym, refl, ap, ◌∙◌, subst, append_assoc, append-nil, true≢false, arith}
use Rattle.std.proofs.lemmas.Bool.{and_parts}
use Rattle.std.proofs.lemmas.Bool.Decides.{nat_tests}
use Rattle.sr_base.specs.declared.vip_word.Phase.TheVariants.{Steady, Recording, Holding, Transit}
use Rattle.sr_inv.proofs.Joined.{invariant_begun}
use Rattle.sr_inv_causes.proofs.Refusals.{all_used}
use Rattle.sr_inv_facts.proofs.Beginning.{begun_by}
use Rattle.sr_inv_facts.proofs.Lists.{all_more, all_then}
use Rattle.sr_inv_facts.proofs.OpeningLines.{opened_lines, opening_printed}
use Rattle.sr_inv_facts.proofs.Plain.{OfPlain, plain_cleared, plain_passed, plain_phase, plain_vip, plain_waited}
use Rattle.sr_inv_facts.proofs.Printing.{job_tells, pipe_silent, prints, stage_prints, tells}
use Rattle.sr_inv_facts.specs.Fitted.{IsPacket}
use Rattle.sr_inv_facts.specs.InCauses.{setup_of}
use Rattle.sr_inv_facts.specs.InUpdate.{AllTaken, NothingFree}
use Rattle.sr_inv_facts.specs.Invariant.{Invariant}
use Rattle.sr_inv_facts.specs.Laws.{OpensWith}
use Rattle.sr_inv_order.proofs.Grouped.{pools_count}
use Rattle.sr_inv_order.proofs.Rising.{and_true}
use Rattle.sr_inv_settled.proofs.Giving.{first_told, given_told, told_more, told_same}
use Rattle.sr_inv_settled.specs.Told.{GivesKept, GivesTold, HaveCome, IsFirstDue, IsMadeBy, IsRefusedAs, IsTaken, due_of}
use Rattle.sr_inv_update.proofs.Changes.{change_fits}
use Rattle.sr_law.specs.Cause.{all_in_use}
use Rattle.sr_law.specs.Settled.{gives_settled}
use Rattle.sr_law.specs.declared.line.Line.{Line}
use Rattle.sr_machine.proofs.Following.{goes}
use Rattle.sr_machine.specs.Begins.{Begins}
use Rattle.sr_machine.specs.Config.{Config}
use Rattle.sr_machine.specs.Core.{Core, newest_first, pipe_lines, printed}
use Rattle.sr_machine.specs.Draws.{draw_line, phase_line}
use Rattle.sr_machine.specs.Goes.{Goes}
use Rattle.sr_machine.specs.Jobs.{book_next, job_next, job_op, lines_next, numbers_next}
use Rattle.sr_machine.specs.Keeping.{AfterJob, AfterStage, Keeps, begun_core}
use Rattle.sr_machine.specs.Opening.{opening_controller, opening_line}
use Rattle.sr_machine.specs.Ops.{op_answer, op_name}
use Rattle.sr_machine.specs.Pipe.{pipe_op}
use Rattle.sr_machine.specs.Starting.{Start, update_to, with_start}
use Rattle.sr_machine.specs.Stores.{is_last_member}
use Rattle.sr_machine.specs.Telling.{full_change, is_at_leisure, is_no_earlier, may_refuse}
use Rattle.sr_machine.specs.declared.controller_view.ControllerView.{ControllerView}
use Rattle.sr_machine.specs.declared.draw.Draw.{Draw}
use Rattle.sr_machine.specs.declared.job.Job.{Job}
use Rattle.sr_machine.specs.declared.leg.Leg.TheVariants.{Judged}
use Rattle.sr_machine.specs.declared.op.Op.{Op}
use Rattle.sr_machine.specs.declared.pipe_view.PipeView.{PipeView}
use Rattle.sr_machine.specs.declared.pool_update.PoolUpdate.{PoolUpdate}
use Rattle.sr_machine.specs.declared.stage.Stage.{Stage}
use Rattle.sr_machine.specs.declared.stage.Stage.TheVariants.{Enter, Fly}
use Rattle.sr_shadow.specs.declared.entry.Entry.{Entry}
use Rattle.sr_update.specs.Numbers.{NumberRows, first_drained, least_free, opening_rows}
use Rattle.sr_update.specs.Updates.{gives_after, has_come}
use Rattle.sr_update.specs.declared.give_change.GiveChange.{GiveChange}
use Rattle.sr_machine.specs.Begins as begin
use Rattle.sr_machine.specs.Goes as go
use Rattle.sr_machine.specs.declared.draw.Draw.TheVariants as draw
use Rattle.sr_machine.specs.declared.job.Job.TheVariants as job
use Rattle.sr_machine.specs.declared.leg.Last.TheVariants as last
use Rattle.sr_machine.specs.declared.name.Name.TheVariants as name
use Rattle.sr_machine.specs.declared.store.Store.TheVariants as store
use Rattle.sr_machine.specs.declared.wait.Wait.TheVariants as wait
use Rattle.sr_law.specs.declared.line.Line.TheVariants as line

-- ---- jobs that have no change in hand

abbrev IsOther : Job → Type 0
IsOther (job.Draw (draw.Refused position)) = ⊥
IsOther (job.Draw (draw.Given u)) = ⊥
IsOther (job.Store (store.Member u index)) = ⊥
IsOther (job.Store (store.Head u)) = ⊥
IsOther j = Unit {0}

plain_other : OfPlain IsOther
plain_other = record {
  free = tt;
  comes = λ u p. tt;
  coming = λ u p. tt;
  retiring = λ key. tt;
  answer = λ r. tt;
  phase = λ u p. tt;
  filter = λ u. tt;
  source = λ key from. tt;
  judge = λ p. tt;
  drain = λ w. tt;
}

other_goes : (k : Config) (c : ControllerView) (x : ℕ) (j m : Job) → Goes k c x j m → IsOther j → IsOther m
other_goes k c x j m (go.given u) h = absurd h
other_goes k c x j m (go.head u) h = absurd h
other_goes k c x j m (go.member_next u index e) h = absurd h
other_goes k c x j m (go.member_last u index e) h = absurd h
other_goes k c x j m (go.comes u p) h = plain_phase IsOther plain_other u p
other_goes k c x j m (go.cleared key place w) h = plain_cleared IsOther plain_other key w
other_goes k c x j m (go.phase_stored u p) h = plain_vip IsOther plain_other u p
other_goes k c x j m (go.pass_stays g pipe w e) h = h
other_goes k c x j m (go.pass_last g pipe w e n) h = plain_passed IsOther plain_other w
other_goes k c x j m (go.drain_last pipe count w e n) h =
    plain_waited IsOther plain_other c.vips (book_next k c (job.Drain pipe count w) x).entries w
other_goes k c x j m (go.stays_free) h = h
other_goes k c x j m g h = tt

pub other_taken : (k : Config) (numbers : NumberRows) (es : List Entry) (j : Job) (taken : List GiveChange) → IsOther j
    → IsTaken k numbers es j taken
    → taken ≡ []
other_taken k numbers es (job.Draw (draw.Refused position)) taken o h = absurd o
other_taken k numbers es (job.Draw (draw.Given u)) taken o h = absurd o
other_taken k numbers es (job.Store (store.Member u index)) taken o h = absurd o
other_taken k numbers es (job.Store (store.Head u)) taken o h = absurd o
other_taken k numbers es j taken o h = h

none_taken : (k : Config) (numbers : NumberRows) (es : List Entry) (j : Job) → IsOther j → IsTaken k numbers es j []
none_taken k numbers es (job.Draw (draw.Refused position)) o = absurd o
none_taken k numbers es (job.Draw (draw.Given u)) o = absurd o
none_taken k numbers es (job.Store (store.Member u index)) o = absurd o
none_taken k numbers es (job.Store (store.Head u)) o = absurd o
none_taken k numbers es j o = refl

-- ---- a step of the controller

module _ (k : Config) (c : ControllerView) (x : ℕ) (lines : List Line) where
  abbrev Was : Job → Type 0
  Was j = GivesTold k c.clock lines c.numbers c.book.entries c.gives c.refusing j

  abbrev Is : Job → Type 0
  Is j =
      GivesTold k c.clock (tells k c j x ++ lines) (numbers_next k c j x) (book_next k c j x).entries c.gives c.refusing (job_next k c j x)

  abbrev Told : List Line → List GiveChange → Type 0
  Told ls made = gives_settled (setup_of k) [] (map due_of made) (reverse ls) ≡ true

  -- a line that neither gives nor refuses
  other_told : (d : Draw) (made : List GiveChange) → IsOther (job.Draw d) → Told lines made
      → Told (option_to_list (draw_line k c d x) ++ lines) made
  other_told (draw.Refused position) made o h = absurd o
  other_told (draw.Given u) made o h = absurd o
  other_told (draw.Grace w) made o h = h
  other_told (draw.From ms) made o h = h
  other_told (draw.Comes u Steady) made o h = told_same (setup_of k) lines (phase_line u x Steady) made refl h
  other_told (draw.Comes u Recording) made o h = told_same (setup_of k) lines (phase_line u x Recording) made refl h
  other_told (draw.Comes u Holding) made o h = told_same (setup_of k) lines (phase_line u x Holding) made refl h
  other_told (draw.Comes u Transit) made o h = told_same (setup_of k) lines (phase_line u x Transit) made refl h
  other_told (draw.TakenDown server) made o h = told_same (setup_of k) lines _ made refl h
  other_told (draw.Reserved p) made o h = told_same (setup_of k) lines _ made refl h
  other_told (draw.Placed p) made o h = told_same (setup_of k) lines _ made refl h
  other_told (draw.Cleared key place w) made o h = told_same (setup_of k) lines _ made refl h
  other_told (draw.Retired key place version) made o h = told_same (setup_of k) lines _ made refl h
  other_told (draw.Answer r) made o h = told_same (setup_of k) lines _ made refl h
  other_told (draw.Swept from ms) made o h = told_same (setup_of k) lines _ made refl h

  others_told : (j : Job) (made : List GiveChange) → IsOther j → Told lines made → Told (tells k c j x ++ lines) made
  others_told (job.Draw d) made o h = other_told d made o h
  others_told j made o h = h

  other_step : (j : Job) → IsOther j → Was j → Is j
  other_step j o h =
      let none : h.taken ≡ [] = other_taken k c.numbers c.book.entries j h.taken o h.aim in
      record {
        made =
            h.made;
        taken = [];
        all = h.all ∙ ap (λ t. h.made ++ (t ++ c.gives)) none;
        due = subst (λ t. HaveCome c.clock (h.made ++ t)) none h.due;
        aim = none_taken k (numbers_next k c j x) (book_next k c j x).entries (job_next k c j x)
            (other_goes k c x j (job_next k c j x) (goes k c x j) o);
        told = others_told j h.made o h.told;
        first = h.first;
      }

  -- the change that was taken is told of, and the controller has another job
  told_step : (j : Job) (h : Was j) (l : Line) → tells k c j x ≡ l ∷ [] → IsOther (job_next k c j x)
      → gives_settled (setup_of k) lines (map due_of h.taken) (l ∷ []) ≡ true
      → Is j
  told_step j h l prints_it o one = record {
    made = h.made ++ h.taken;
    taken = [];
    all = h.all ∙ sym (append_assoc h.made h.taken c.gives);
    due = subst (HaveCome c.clock) (sym (append-nil (h.made ++ h.taken))) h.due;
    aim = none_taken k (numbers_next k c j x) (book_next k c j x).entries (job_next k c j x) o;
    told = subst (λ ls. Told (ls ++ lines) (h.made ++ h.taken)) (sym prints_it) (told_more (setup_of k) lines l h.made h.taken one h.told);
    first = h.first;
  }

  given_step : (u : PoolUpdate) → nat_lt (length lines) (length k.pools) ≡ false → Was (job.Draw (draw.Given u)) → Is (job.Draw (draw.Given u))
  given_step u late h = told_step (job.Draw (draw.Given u)) h (line.Given x u.vip u.given u.pool) refl tt (at h.aim)
    where
      at : IsMadeBy u h.taken → gives_settled (setup_of k) lines (map due_of h.taken) (line.Given x u.vip u.given u.pool ∷ []) ≡ true
      at a =
          subst (λ t. gives_settled (setup_of k) lines (map due_of t) (line.Given x u.vip u.given u.pool ∷ []) ≡ true) (sym a.one)
          (subst (λ v. gives_settled (setup_of k) lines (due_of a.change ∷ []) (line.Given x v u.given u.pool ∷ []) ≡ true) a.vip
          (subst (λ p. gives_settled (setup_of k) lines (due_of a.change ∷ []) (line.Given x a.change.vip u.given p ∷ []) ≡ true) a.pool
          (given_told (setup_of k) lines x u.given a.change late)))

  refused_step : (position : ℕ)
      → ((g : GiveChange) → g.vip < k.layout.vips → AllTaken k.layout.shape.versions c.numbers c.book.entries g.vip
      → all_in_use lines g.vip k.layout.shape.versions ≡ true)
      → Was (job.Draw (draw.Refused position)) → Is (job.Draw (draw.Refused position))
  refused_step position used h = told_step (job.Draw (draw.Refused position)) h (line.Refused x position) refl tt (at h.aim)
    where
      at : IsRefusedAs k c.numbers c.book.entries position h.taken
          → gives_settled (setup_of k) lines (map due_of h.taken) (line.Refused x position ∷ []) ≡ true
      at a =
          let here : (a.change.position == position) ≡ true = grind (arith, nat_tests, a.position_is) in
          subst (λ t. gives_settled (setup_of k) lines (map due_of t) (line.Refused x position ∷ []) ≡ true) (sym a.one)
          (and_true _ _ (and_true _ _ here (used a.change a.below a.full)) refl)

  -- the change is in hand as before
  same_step : (j : Job) (h : Was j) → tells k c j x ≡ [] → IsTaken k (numbers_next k c j x) (book_next k c j x).entries (job_next k c j x) h.taken
      → Is j
  same_step j h silent aim = record {
    made = h.made;
    taken = h.taken;
    all = h.all;
    due = h.due;
    aim = aim;
    told = subst (λ ls. Told (ls ++ lines) h.made) (sym silent) h.told;
    first = h.first;
  }

  member_step : (u : PoolUpdate) (index : ℕ) → Was (job.Store (store.Member u index)) → Is (job.Store (store.Member u index))
  member_step u index h = same_step (job.Store (store.Member u index)) h refl (at (is_last_member k u index))
    where
      at : (b : Bool) → IsTaken k c.numbers c.book.entries (job.Store (if b then store.Head u else store.Member u (index + 1))) h.taken
      at true = h.aim
      at false = h.aim

module _ (s : Core) (i : Invariant s) (x : ℕ) where
  late : nat_lt (length (printed s)) (length s.config.pools) ≡ false
  late =
      let count = pools_count s.config i.shape.config in
      let enough = i.update.changes.enough in
      grind (arith, nat_tests, count, enough)

  step : (j : Job) → s.controller.job ≡ j → Was s.config s.controller x (printed s) j → Is s.config s.controller x (printed s) j
  step (job.Draw (draw.Refused position)) e h =
      refused_step s.config s.controller x (printed s) position
      (λ g b f. all_used s i position e g.vip b f s.config.layout.shape.versions (omega arith)) h
  step (job.Draw (draw.Given u)) e h = given_step s.config s.controller x (printed s) u late h
  step (job.Store (store.Member u index)) e h = member_step s.config s.controller x (printed s) u index h
  step (job.Store (store.Head u)) e h = same_step s.config s.controller x (printed s) (job.Store (store.Head u)) h refl h.aim
  step j e h = other_step s.config s.controller x (printed s) j tt h

module _ (s : Core) (i : Invariant s) (h : GivesKept s) where
  abbrev After : ℕ → Job → List Line → Type 0
  After x j lines =
      GivesTold s.config s.controller.clock lines (numbers_next s.config s.controller j x) (book_next s.config s.controller j x).entries s.controller.gives s.controller.refusing (job_next s.config s.controller j x)

  own : (x : ℕ) (j : Job) → s.controller.job ≡ j → After x j (tells s.config s.controller j x ++ printed s)
  own x j e = step s i x j e (subst (Was s.config s.controller x (printed s)) e h)

  lift : (j : Job) (o : Option Op) → ((x : ℕ) → lines_next s.config s.controller j x ≡ s.controller.lines) → ((x : ℕ) → After x j (printed s))
      → AfterJob GivesKept s j o
  lift j None e f = tt
  lift j (Some o) e f =
      let x = op_answer o (s.words (op_name o)) in
      subst (After x j) (ap (λ ls. newest_first (pipe_lines s.pipes ++ ls)) (sym (e x))) (f x)

  job_kept : (j : Job) → s.controller.job ≡ j → AfterJob GivesKept s j (job_op s.config s.controller j)
  job_kept (job.Draw d) e =
      subst (After (s.words name.Tick) (job.Draw d)) (sym (job_tells s (job.Draw d) i.ticks)) (own (s.words name.Tick) (job.Draw d) e)
  job_kept j e = lift j (job_op s.config s.controller j) (λ x. refl) (λ x. own x j e)

-- ---- a pipe's line

module _ (s : Core) (h : GivesKept s) where
  abbrev Now : List Line → Type 0
  Now lines =
      GivesTold s.config s.controller.clock lines s.controller.numbers s.controller.book.entries s.controller.gives s.controller.refusing s.controller.job

  line_kept : (n : ℕ) (at : Stage) (x : ℕ) → Now (prints n at x ++ printed s)
  line_kept n (Fly f (Judged w last.Out)) x = record {
    made = h.made;
    taken = h.taken;
    all = h.all;
    due = h.due;
    aim = h.aim;
    told = told_same (setup_of s.config) (printed s) _ h.made refl h.told;
    first = h.first;
  }
  line_kept n at x = h

  stage_kept : (p : ℕ) (v : PipeView) (at : Stage) (now : List Line) (o : Option Op) → Now now → AfterStage (λ t. printed t ≡ now) s p v at o
      → AfterStage GivesKept s p v at o
  stage_kept p v at now None a e = tt
  stage_kept p v at now (Some o) a e = subst Now (sym e) a

-- ---- what is begun

module _ (s : Core) (i : Invariant s) (h : GivesKept s) where
  abbrev Of : ControllerView → Type 0
  Of c = GivesTold s.config c.clock (printed s) c.numbers c.book.entries c.gives c.refusing c.job

  -- where a change is to be refused no update is under way
  abbrev Begun : ControllerView → Type 0
  Begun c = (c.refusing ≡ true → c.update ≡ None) → Of c

  module _ (free : s.controller.job ≡ job.Free) where
    none : h.taken ≡ []
    none = other_taken s.config s.controller.numbers s.controller.book.entries job.Free h.taken tt (subst (λ j. IsTaken s.config s.controller.numbers s.controller.book.entries j h.taken) free h.aim)

    whole : gives_after [] s.config.changes ≡ h.made ++ s.controller.gives
    whole = h.all ∙ ap (λ t. h.made ++ (t ++ s.controller.gives)) none

    had_come : HaveCome s.controller.clock h.made
    had_come = subst (HaveCome s.controller.clock) (append-nil h.made) (subst (λ t. HaveCome s.controller.clock (h.made ++ t)) none h.due)

    -- the first change is taken
    takes_first : (g : GiveChange) (rest : List GiveChange) (j : Job) (refusing : Bool) → s.controller.gives ≡ g ∷ rest
        → has_come g.at_ms s.controller.clock ≡ true
        → IsTaken s.config s.controller.numbers s.controller.book.entries j (g ∷ [])
        → (refusing ≡ true → IsFirstDue s.controller.clock rest)
        → GivesTold s.config s.controller.clock (printed s) s.controller.numbers s.controller.book.entries rest refusing j
    takes_first g rest j refusing e come aim first = record {
      made = h.made;
      taken = g ∷ [];
      all = whole ∙ ap (λ gs. h.made ++ gs) e;
      due = all_more (λ g. has_come g.at_ms s.controller.clock ≡ true) h.made (g ∷ []) had_come (come, tt);
      aim = aim;
      told = h.told;
      first = first;
    }

    -- another job is begun
    others : (j : Job) → IsOther j → GivesTold s.config s.controller.clock (printed s) s.controller.numbers s.controller.book.entries s.controller.gives s.controller.refusing j
    others j o = record {
      made = h.made;
      taken = [];
      all = whole;
      due = subst (HaveCome s.controller.clock) (sym (append-nil h.made)) had_come;
      aim = none_taken s.config s.controller.numbers s.controller.book.entries j o;
      told = h.told;
      first = h.first;
    }

    starts : (t : Start) → Begins s.config s.controller t → Begun (with_start s.controller t)
    starts t (begin.refuses g rest r e) = λ f.
        let come : has_come g.at_ms s.controller.clock ≡ true = subst (IsFirstDue s.controller.clock) e (h.first r) in
        let full : AllTaken s.config.layout.shape.versions s.controller.numbers s.controller.book.entries g.vip =
        subst (NothingFree s.config.layout.shape.versions s.controller.numbers s.controller.book.entries) e (i.update.changes.may_refuse r).full in
        takes_first g rest (job.Draw (draw.Refused g.position)) false e come
        (record {
          change = g;
          one = refl;
          position_is = refl;
          below = (change_fits s.config i.shape.config g rest s.controller.gives i.shape.controller.gives e).0;
          full = full;
        })
        (λ t. absurd (true≢false (sym t)))
    starts t (begin.changes g rest number n e come free_is) = λ f.
        takes_first g rest (job.Store (store.Member (update_to s.controller g number) 0)) s.controller.refusing e come
        (record { change = g; one = refl; vip = refl; pool = refl })
        (λ t. absurd (cc (f t)))
    starts t (begin.takes_down o rest q r) = λ f. others (job.Draw (draw.TakenDown o.server)) tt
    starts t (begin.holds u q r g) = λ f. others (job.Draw (draw.Comes u Holding)) tt
    starts t (begin.finishes u q r g) = λ f. others (job.Store (store.Vip u Steady)) tt
    starts t (begin.answers o rest e r g) = λ f. others (job.Draw (draw.Answer (record { held = o; version = Some e.version }))) tt
    starts t (begin.places_held o rest q r g d) = λ f. others (job.Draw (draw.Reserved q)) tt
    starts t (begin.has_no_place o rest r g d) = λ f. others (job.Draw (draw.Answer (record { held = o; version = None }))) tt
    starts t (begin.places e q r g d) = λ f. others (job.Draw (draw.Reserved q)) tt
    starts t (begin.retires e place r g) = λ f. others (job.Draw (draw.Retired e.key place e.version)) tt
    starts t (begin.sweeps ms r g) = λ f. others (job.Draw (draw.From ms)) tt
    starts t (begin.releases vip n r) = λ f. others (job.Draw (draw.Grace (wait.Release vip n))) tt
    starts t (begin.looks r) = λ f. others (job.Look 0) tt

  begins_kept : GivesKept (begun_core s)
  begins_kept =
      begun_by s.config s.controller Begun (λ f. h) starts (λ t. ((invariant_begun s i).update.changes.may_refuse t).none)

-- ---- what the controller is told

pub come_later : (clock : Option ℕ) (ms at_ms : ℕ) → is_no_earlier clock ms ≡ true → has_come at_ms clock ≡ true → has_come at_ms (Some ms) ≡ true
come_later None ms at_ms q h = cc
come_later (Some now) ms at_ms q h = grind (arith, nat_tests)

first_later : (clock : Option ℕ) (ms : ℕ) (gives : List GiveChange) → is_no_earlier clock ms ≡ true → IsFirstDue clock gives
    → IsFirstDue (Some ms) gives
first_later clock ms [] q h = h
first_later clock ms (g ∷ rest) q h = come_later clock ms g.at_ms q h

clock_kept : (s : Core) (ms : ℕ) → is_no_earlier s.controller.clock ms ≡ true → GivesKept s
    → GivesKept (record s { controller = record s.controller { clock = Some ms } })
clock_kept s ms q h = record {
  made = h.made;
  taken = h.taken;
  all = h.all;
  due = all_then (λ g. has_come g.at_ms s.controller.clock ≡ true) (λ g. has_come g.at_ms (Some ms) ≡ true)
      (λ g c. come_later s.controller.clock ms g.at_ms q c) (h.made ++ h.taken) h.due;
  aim = h.aim;
  told = h.told;
  first = λ t. first_later s.controller.clock ms s.controller.gives q (h.first t);
}

-- a change that may be refused is due
full_first : (clock : Option ℕ) (numbers : NumberRows) (gives : List GiveChange) → not (is_none (full_change clock numbers gives)) ≡ true
    → IsFirstDue clock gives
full_first clock numbers [] e = cc
full_first clock numbers (g ∷ rest) e = at (has_come g.at_ms clock) (is_none (least_free g.vip numbers)) e
  where
    at : (b n : Bool) → not (is_none (if b && n then Some g else None)) ≡ true → b ≡ true
    at true n q = refl
    at false n q = cc

refusal_kept : (s : Core) → may_refuse s.controller ≡ true → GivesKept s
    → GivesKept (record s { controller = record s.controller { refusing = true } })
refusal_kept s q h = record {
  made = h.made;
  taken = h.taken;
  all = h.all;
  due = h.due;
  aim = h.aim;
  told = h.told;
  first = λ t.
      let c = s.controller in
      let e = not (is_none (full_change c.clock c.numbers c.gives)) in
      let d = is_none (first_drained c.numbers c.book.entries) && e in
      let b = is_at_leisure c.job && d in
      let a = is_none c.update && b in
      let drained = is_none (first_drained c.numbers c.book.entries) in
      full_first c.clock c.numbers c.gives
      (and_parts drained e (and_parts (is_at_leisure c.job) d (and_parts (is_none c.update) b (and_parts (not c.refusing) a q).1).1).1).1;
}

pub gives_keep : Keeps IsPacket Invariant GivesKept
gives_keep = record {
  stages = λ s p v at q e i h.
      stage_kept s h p v at (prints v.number at (s.words name.Tick) ++ printed s) (pipe_op s.config.layout v at) (line_kept s h v.number at (s.words name.Tick)) (stage_prints s p v at i.ticks q);
  begins = begins_kept;
  jobs = λ s j e b i h. job_kept s i h j e;
  enters = λ s p v packet q r u n a i h. subst (Now s h) (sym (pipe_silent s p v (record v { stage = Enter packet }) q refl s.words)) h;
  clocks = λ s ms q i h. clock_kept s ms q h;
  refusals = λ s q i h. refusal_kept s q h;
}

-- ---- the opening

opened_count : (n : ℕ) → length (opened_lines n) ≡ n
opened_count zero = refl
opened_count (suc n) = ap suc (opened_count n)

opened_told : (k : Config) (n : ℕ) → n ≤ length k.pools → gives_settled (setup_of k) [] [] (reverse (opened_lines n)) ≡ true
opened_told k zero h = refl
opened_told k (suc n) h =
    told_same (setup_of k) (opened_lines n) (opening_line n) []
    (first_told (setup_of k) (opened_lines n) (n + 1) n (grind (arith, nat_tests, opened_count n, h)))
    (opened_told k n (omega (arith, h)))

pub gives_open : OpensWith GivesKept
unfolding opening_controller
gives_open k f =
    subst (λ ls. GivesTold k None ls (opening_rows k.layout) [] (gives_after [] k.changes) false job.Free) (sym (opening_printed k)) (record {
      made =
          [];
      taken = [];
      all = refl;
      due = tt;
      aim = refl;
      told = opened_told k k.layout.vips (omega (arith, pools_count k f));
      first = λ t. absurd (true≢false (sym t));
    })
