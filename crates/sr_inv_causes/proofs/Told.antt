-- Every event keeps that each verdict that is printed has its cause.
use Rattle.std.proofs.Common.{◌≡◌, ℕ, ◌&&◌, ◌||◌, not, Bool, true, false, List, [], ◌∷◌, slice_get, is_some, Some, None, Option, option_map, if◌then◌else◌, sym, refl, ap, ◌∙◌, subst}
use Rattle.std.specs.Option.{option_or}
use Rattle.sr_base.specs.Key.{KeyView}
use Rattle.sr_base.specs.Place.{same_place}
use Rattle.sr_base.specs.declared.kind.Kind.{Kind}
use Rattle.sr_base.specs.declared.kind.Kind.TheVariants.{Opener, Carry, Ending}
use Rattle.sr_base.specs.declared.place.Place.{Place}
use Rattle.sr_base.specs.declared.place.Place.TheVariants.{Row}
use Rattle.sr_base.specs.declared.vip_word.Phase.TheVariants.{Holding, Transit}
use Rattle.sr_inv_causes.proofs.Refusals.{refusal_told}
use Rattle.sr_inv_causes.proofs.Transits.{transit_told}
use Rattle.sr_inv_causes.specs.Caused.{CausesTold}
use Rattle.sr_inv_clauses.proofs.Choices.{answer_at, leg_at}
use Rattle.sr_inv_clauses.proofs.Drawn.{EachDraw, drawn_by, each_phase}
use Rattle.sr_inv_clauses.proofs.Learned.{flight_at}
use Rattle.sr_inv_clauses.proofs.Opens.{opens_each}
use Rattle.sr_inv_facts.specs.Fitted.{IsPacket}
use Rattle.sr_inv_facts.specs.Flying.{OnLeg}
use Rattle.sr_inv_facts.specs.InCauses.{LegCaused, VerdictCaused, setup_of}
use Rattle.sr_inv_facts.specs.InFlight.{WordKnown}
use Rattle.sr_inv_facts.specs.InJobs.{AnswerNames, IsGroupHeld, book_taking, job_taking, seen}
use Rattle.sr_inv_facts.specs.InShape.{MayBeOut, StageFits}
use Rattle.sr_inv_facts.specs.InSweeps.{is_live_taking}
use Rattle.sr_inv_facts.specs.Invariant.{Invariant}
use Rattle.sr_inv_facts.specs.Laws.{OpensWith}
use Rattle.sr_inv_order.proofs.Joined.{each_part}
use Rattle.sr_inv_order.proofs.Lines.{lines_keep}
use Rattle.sr_inv_order.proofs.Placing.{taken_at}
use Rattle.sr_inv_order.proofs.Rising.{and_true, not_false}
use Rattle.sr_law.specs.Cause.{answer_cause, is_opener, meets_cause, packet_cause}
use Rattle.sr_law.specs.Full.{may_be_full}
use Rattle.sr_law.specs.Held.{may_clash, may_hold}
use Rattle.sr_law.specs.Rows.{is_group_full, is_live, live_after}
use Rattle.sr_law.specs.Taken.{now_placed, taken, taken_after}
use Rattle.sr_law.specs.TakenDown.{is_down as told_down, is_known_down}
use Rattle.sr_law.specs.declared.line.Line.{Line}
use Rattle.sr_law.specs.declared.taking.Taking.{Taking}
use Rattle.sr_law.specs.declared.verdict.HeldBy.{HeldBy}
use Rattle.sr_law.specs.declared.verdict.Verdict.{Verdict}
use Rattle.sr_machine.specs.Config.{Config}
use Rattle.sr_machine.specs.Core.{Core, printed}
use Rattle.sr_machine.specs.Deciding.{is_down, named_at, server_for, verdict_of}
use Rattle.sr_machine.specs.Keeping.{Keeps}
use Rattle.sr_machine.specs.Stages.{verdict_by}
use Rattle.sr_machine.specs.declared.flight.Flight.{Flight}
use Rattle.sr_machine.specs.declared.job.Job.{Job}
use Rattle.sr_machine.specs.declared.leg.Leg.TheVariants.{Judged}
use Rattle.sr_machine.specs.declared.pipe_view.PipeView.{PipeView}
use Rattle.sr_machine.specs.declared.reply.Reply.{Reply}
use Rattle.sr_machine.specs.declared.stage.Stage.TheVariants.{Fly}
use Rattle.sr_shadow.specs.Book.{entry_for, holder_of}
use Rattle.sr_shadow.specs.declared.entry.Entry.{Entry}
use Rattle.sr_machine.specs.declared.draw.Draw.TheVariants as draw
use Rattle.sr_machine.specs.declared.job.Job.TheVariants as job
use Rattle.sr_machine.specs.declared.leg.Last.TheVariants as last
use Rattle.sr_law.specs.declared.line.Line.TheVariants as line
use Rattle.sr_machine.specs.declared.name.Name.TheVariants as name
use Rattle.sr_law.specs.declared.verdict.Verdict.TheVariants as verdict
use Rattle.sr_law.specs.declared.verdict.HeldBy.TheVariants as by

-- ---- a place that is taken and placed

taken_live : (lines : List Line) (place : Place) → is_live_taking (taken lines place) ≡ true → is_live lines place ≡ true
taken_live [] place h = cc
taken_live (l ∷ before) place h = at l h (taken_live before place)
  where
    older : Option Taking
    older = taken before place

    reserved : (b : Bool) (t : Taking) → t.placed ≡ false
        → is_live_taking (if b then Some t else taken before place) ≡ true
        → (is_live_taking (taken before place) ≡ true → is_live before place ≡ true) → is_live before place ≡ true
    reserved true t n g more = cc
    reserved false t n g more = more g

    placed : (b : Bool) → is_live_taking (if b then option_map now_placed (taken before place) else taken before place) ≡ true
        → (is_live_taking (taken before place) ≡ true → is_live before place ≡ true) → (b || is_live before place) ≡ true
    placed true g more = refl
    placed false g more = more g

    cleared : (b : Bool) → is_live_taking (if b then None else taken before place) ≡ true
        → (is_live_taking (taken before place) ≡ true → is_live before place ≡ true) → (not b && is_live before place) ≡ true
    cleared true g more = cc
    cleared false g more = more g

    at : (m : Line) → is_live_taking (taken_after m place (taken before place)) ≡ true
        → (is_live_taking (taken before place) ≡ true → is_live before place ≡ true) → live_after m place (is_live before place) ≡ true
    at (line.Reserved out key where_to) g more = reserved (same_place where_to place) (record { key = key; placed = false }) refl g more
    at (line.Placed out key where_to) g more = placed (same_place where_to place) g more
    at (line.Cleared out key where_to) g more = cleared (same_place where_to place) g more
    at m g more = more g

module _ (s : Core) (i : Invariant s) where
  -- ---- a packet

  caused_at : (p : ℕ) (v : PipeView) → slice_get s.pipes p ≡ Some v → (f : Flight) (w : Verdict) → v.stage ≡ Fly f (Judged w last.Out)
      → VerdictCaused s.config.layout.shape (printed s) p f.packet.key f.entered w
  caused_at p v q f w e = subst (λ a. OnLeg a (LegCaused s.config.layout.shape (printed s) p)) e (i.causes.causes.flights p v q)

  may_be_out : (p : ℕ) (v : PipeView) → slice_get s.pipes p ≡ Some v → (f : Flight) (w : Verdict) → v.stage ≡ Fly f (Judged w last.Out)
      → MayBeOut f.packet.kind w
  may_be_out p v q f w e = (subst (StageFits s.config.layout) e (i.shape.pipes.stage p v q)).1.1

  held_opener : (kind : Kind) (why : HeldBy) → MayBeOut kind (verdict.Held why) → is_opener kind ≡ true
  held_opener Opener why h = refl
  held_opener Carry why h = absurd h
  held_opener Ending why h = absurd h

  full_opener : (kind : Kind) → MayBeOut kind verdict.Full → is_opener kind ≡ true
  full_opener Opener h = refl
  full_opener Carry h = absurd h
  full_opener Ending h = absurd h

  no_place : (kind : Kind) → MayBeOut kind verdict.NoPlace → (P : Type 0) → P
  no_place Opener h P = absurd h
  no_place Carry h P = absurd h
  no_place Ending h P = absurd h

  packet_told : (p : ℕ) (v : PipeView) → slice_get s.pipes p ≡ Some v → (f : Flight) (w : Verdict) → v.stage ≡ Fly f (Judged w last.Out)
      → packet_cause s.config.layout.shape (printed s) f.entered v.number f.packet.key f.packet.kind w ≡ true
  packet_told p v q f (verdict.To server version number) e =
      not_false (is_known_down (printed s) server f.entered) (caused_at p v q f (verdict.To server version number) e)
  packet_told p v q f (verdict.Down server version number) e = caused_at p v q f (verdict.Down server version number) e
  packet_told p v q f (verdict.Held by.Clash) e =
      and_true (is_opener f.packet.kind) (may_clash s.config.layout.shape (printed s) f.packet.key f.entered)
      (held_opener f.packet.kind by.Clash (may_be_out p v q f (verdict.Held by.Clash) e)) (caused_at p v q f (verdict.Held by.Clash) e)
  packet_told p v q f (verdict.Held by.Hold) e =
      let phase : f.vip.phase ≡ Holding = (leg_at s i p v q f (verdict.Held by.Hold) e).held in
      let known : WordKnown (printed s) f.packet.key.vip f.entered Holding =
      subst (WordKnown (printed s) f.packet.key.vip f.entered) phase (flight_at s i p v q f (Judged (verdict.Held by.Hold) last.Out) e).known in
      and_true (is_opener f.packet.kind) (may_hold (printed s) f.packet.key.vip f.entered)
      (held_opener f.packet.kind by.Hold (may_be_out p v q f (verdict.Held by.Hold) e)) known
  packet_told p v q f (verdict.Held by.Transit) e =
      let leg = leg_at s i p v q f (verdict.Held by.Transit) e in
      let flight = flight_at s i p v q f (Judged (verdict.Held by.Transit) last.Out) e in
      let known : WordKnown (printed s) f.packet.key.vip f.entered Transit =
      subst (WordKnown (printed s) f.packet.key.vip f.entered) leg.held flight.known in
      and_true (is_opener f.packet.kind) _ (held_opener f.packet.kind by.Transit (may_be_out p v q f (verdict.Held by.Transit) e))
      (transit_told s i p f flight.word leg.held known leg.set.0)
  packet_told p v q f verdict.Full e =
      and_true (is_opener f.packet.kind) (may_be_full s.config.layout.shape (printed s) v.number f.entered)
      (full_opener f.packet.kind (may_be_out p v q f verdict.Full e))
      (subst (λ n. may_be_full s.config.layout.shape (printed s) n f.entered ≡ true) (sym (i.shape.pipes.number p v q)) (caused_at p v q f verdict.Full e))
  packet_told p v q f verdict.NoPlace e = no_place f.packet.kind (may_be_out p v q f verdict.NoPlace e) _

  -- ---- an answer

  -- where the job takes no place, a row that an entry holds is live by the lines
  row_live : (j : Job) → s.controller.job ≡ j → (row : ℕ) → job_taking j (Row row) ≡ None
      → is_some (holder_of (Row row) s.controller.book.entries) ≡ true
      → is_live (printed s) (Row row) ≡ true
  row_live j e row free h =
      taken_live (printed s) (Row row)
      (ap is_live_taking (taken_at s i j e (Row row) ∙ ap (λ o. option_or o (book_taking s.controller.book.entries (Row row))) free) ∙ at (holder_of (Row row) s.controller.book.entries) h)
    where
      at : (o : Option KeyView) → is_some o ≡ true → is_live_taking (option_map (λ key. record { key = key; placed = true }) o) ≡ true
      at None g = cc
      at (Some key) g = refl

  -- so a group whose rows are all held is full by them
  pub group_full : (j : Job) → s.controller.job ≡ j → ((place : Place) → job_taking j place ≡ None) → (key : KeyView)
      → IsGroupHeld s.config.layout.shape s.controller.book.entries key
      → is_group_full s.config.layout.shape (printed s) key ≡ true
  unfolding is_group_full
  group_full j e free key h =
      and_true _ _ (and_true _ _ (and_true _ _ (row_live j e _ (free _) h.0) (row_live j e _ (free _) h.1.0)) (row_live j e _ (free _) h.1.1.0))
      (row_live j e _ (free _) h.1.1.1.0)

  group_told : (r : Reply) → s.controller.job ≡ job.Draw (draw.Answer r)
      → AnswerNames s.config (seen s.controller) r (entry_for r.held.key s.controller.book.entries) None
      → is_group_full s.config.layout.shape (printed s) r.held.key ≡ true
  group_told r e names = at (entry_for r.held.key s.controller.book.entries) names
    where
      at : (o : Option Entry) → AnswerNames s.config (seen s.controller) r o None
          → is_group_full s.config.layout.shape (printed s) r.held.key ≡ true
      at (Some n) h = cc
      at None h = group_full (job.Draw (draw.Answer r)) e (λ place. refl) r.held.key h

  answer_told : (r : Reply) → s.controller.job ≡ job.Draw (draw.Answer r)
      → answer_cause s.config.layout.shape (printed s) r.held.key (verdict_of s.config s.controller.named s.controller.down r.held.key r.version) ≡ true
  answer_told r e = at r.version refl
    where
      by_down : (version : ℕ) (b : Bool) → told_down (printed s) (server_for s.config s.controller.named r.held.key version) ≡ b
          → answer_cause s.config.layout.shape (printed s) r.held.key (verdict_by b (server_for s.config s.controller.named r.held.key version) version (named_at s.controller.named r.held.key.vip version)) ≡ true
      by_down version true d = d
      by_down version false d = not_false (told_down (printed s) (server_for s.config s.controller.named r.held.key version)) d

      at : (o : Option ℕ) → r.version ≡ o
          → answer_cause s.config.layout.shape (printed s) r.held.key (verdict_of s.config s.controller.named s.controller.down r.held.key r.version) ≡ true
      at None q =
          subst (λ o. answer_cause s.config.layout.shape (printed s) r.held.key (verdict_of s.config s.controller.named s.controller.down r.held.key o) ≡ true)
          (sym q)
          (group_told r e (subst (AnswerNames s.config (seen s.controller) r (entry_for r.held.key s.controller.book.entries)) q (answer_at s i r e).names))
      at (Some version) q =
          subst (λ o. answer_cause s.config.layout.shape (printed s) r.held.key (verdict_of s.config s.controller.named s.controller.down r.held.key o) ≡ true)
          (sym q)
          (by_down version (is_down s.controller.down (server_for s.config s.controller.named r.held.key version)) (i.jobs.holds.downs (server_for s.config s.controller.named r.held.key version)))

  drawn_told : EachDraw s (λ l. meets_cause (setup_of s.config) (printed s) l ≡ true)
  unfolding meets_cause
  drawn_told = record {
    refused = λ n e. refusal_told s i n e;
    taken_down = λ n e. refl;
    given = λ u e. refl;
    comes = λ u p e.
        each_phase (λ l. meets_cause (setup_of s.config) (printed s) l ≡ true) u (s.words name.Tick) refl refl refl refl p;
    reserved = λ p e. refl;
    placed = λ p e. refl;
    cleared = λ key place w e. refl;
    retired = λ key place version e. refl;
    answer = λ r e. answer_told r e;
    swept = λ from ms e. refl;
  }

abbrev pub IsCaused : Config → List Line → Line → Type 0
IsCaused k before l = meets_cause (setup_of k) before l ≡ true

pub told_keep : Keeps IsPacket Invariant CausesTold
unfolding meets_cause
told_keep = lines_keep IsCaused (record {
  packet = λ s i p v q f w e. packet_told s i p v q f w e;
  drawn = λ s i d e l q. drawn_by s (IsCaused s.config (printed s)) (drawn_told s i) d e l q;
})

pub told_part : (s : Core) → Invariant s → CausesTold s
told_part s i = each_part (setup_of s.config) _ (IsCaused s.config) (λ before l m. m.cause) (printed s) i.causes.causes.clauses

pub told_open : OpensWith CausesTold
unfolding meets_cause
told_open k f = opens_each IsCaused (λ k f n h. refl) k f
