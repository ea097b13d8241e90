-- Steps of pipes keep that packets of a settled entry find it, and leave a hit.
use Rattle.sr_base.proofs.Sameness.{same_place-self}
use Rattle.sr_base.specs.Key.{KeyView}
use Rattle.sr_base.specs.Layout.{LayoutView}
use Rattle.sr_base.specs.Place.{same_place}
use Rattle.sr_base.specs.declared.kind.Kind.{Kind}
use Rattle.sr_base.specs.declared.kind.Kind.TheVariants.{Carry, Ending, Opener}
use Rattle.sr_base.specs.declared.place.Place.{Place}
use Rattle.sr_hash.specs.Uses.{is_place_of}
use Rattle.sr_inv_facts.proofs.Lists.{all_in, all_then, all_to_in, of_some}
use Rattle.sr_inv_facts.proofs.Pipes.{each_turns}
use Rattle.sr_inv_facts.proofs.Printing.{stage_prints}
use Rattle.sr_inv_facts.specs.Flying.{IfOther, OnLeg}
use Rattle.sr_inv_facts.specs.InShape.{EntryFits, MayBeOut, StageFits}
use Rattle.sr_inv_facts.specs.InSweeps.{EntrySettled, FlightSettled, Found, IsFrom, LegSettled, LineSettled, SettledAre, SettledAt, base_of, since}
use Rattle.sr_inv_facts.specs.Invariant.{Invariant}
use Rattle.sr_inv_facts.specs.Readings.{EachPipe, In, IsEnd, hit_words}
use Rattle.sr_inv_matching.proofs.KeyPlaces.{place_looked}
use Rattle.sr_inv_matching.proofs.Stepping.{look_answers}
use Rattle.sr_inv_quiet.proofs.FindsOwn.{finds_own, place_says}
use Rattle.sr_inv_quiet.proofs.SettledTurns.{base_same, leg_turns, other_then}
use Rattle.sr_inv_sweeps.proofs.ClosingJobs.{AtOp}
use Rattle.sr_law.specs.Retire.{numbered_sweep}
use Rattle.sr_law.specs.declared.line.Line.{Line}
use Rattle.sr_law.specs.declared.verdict.HeldBy.{HeldBy}
use Rattle.sr_law.specs.declared.verdict.Verdict.{Verdict}
use Rattle.sr_machine.specs.Core.{Core, printed}
use Rattle.sr_machine.specs.Keeping.{AfterStage}
use Rattle.sr_machine.specs.Ops.{op_answer, op_name, op_words}
use Rattle.sr_machine.specs.Pipe.{packet_line, pipe_after, pipe_op}
use Rattle.sr_machine.specs.Reads.{read_flag, says}
use Rattle.sr_machine.specs.Stages.{begun_flight, held_or, is_opener, key_places, last_after, last_at, last_by, leg_after, loaded, looked, looking, stage_after, verdict_at, verdict_by}
use Rattle.sr_machine.specs.declared.flight.Flight.{Flight}
use Rattle.sr_machine.specs.declared.leg.Last.{Last}
use Rattle.sr_machine.specs.declared.leg.Leg.{Leg}
use Rattle.sr_machine.specs.declared.leg.Load.{Load}
use Rattle.sr_machine.specs.declared.op.Op.{Op}
use Rattle.sr_machine.specs.declared.pipe_view.PipeView.{PipeView}
use Rattle.sr_machine.specs.declared.said.Said.{Said}
use Rattle.sr_machine.specs.declared.stage.Stage.{Stage}
use Rattle.sr_shadow.specs.Plan.{moved}
use Rattle.sr_shadow.specs.declared.entry.Entry.{Entry}
use Rattle.std.proofs.Common.{Bool, IfSome, List, None, Option, Some, [], ap, false, if◌then◌else◌, inl, inr, refl, slice_get, slice_set, subst, sym, true, ℕ, ◌<◌, ◌==◌, ◌∙◌, ◌∷◌, ◌≡◌, ◌⊎◌}
use Rattle.std.specs.List.{AllByRecursion}
use Rattle.sr_machine.specs.declared.leg.Leg.TheVariants as leg
use Rattle.sr_machine.specs.declared.leg.Last.TheVariants as last
use Rattle.sr_machine.specs.declared.leg.Load.TheVariants as load
use Rattle.sr_machine.specs.declared.stage.Stage.TheVariants as stage
use Rattle.sr_machine.specs.declared.said.Said.TheVariants as said
use Rattle.sr_machine.specs.declared.name.Name.TheVariants as name
use Rattle.sr_law.specs.declared.verdict.Verdict.TheVariants as verdict
use Rattle.sr_law.specs.declared.verdict.HeldBy.TheVariants as by
use Rattle.sr_law.specs.declared.line.Line.TheVariants as line

-- ---- a packet that is no opener

module _ (l : LayoutView) (hits : Place → ℕ) (base : Option ℕ) (place : Place) (e : Entry) (f : Flight) (other : is_opener f.packet.kind ≡ false) where
  abbrev Settled : Leg → Type 0
  Settled a = LegSettled hits base place e f.entered a

  looking_settled : (rest : List Place) → In place rest → Settled (looking l f rest)
  looking_settled [] h = absurd h
  looking_settled (at ∷ rest) h = h

  held_settled : (reason : HeldBy) (n : ℕ) → Found hits base place e f.entered n → Settled (held_or f reason n)
  held_settled reason n h = at (is_opener f.packet.kind) other
    where
      at : (b : Bool) → b ≡ false → Settled (if b then leg.Judged (verdict.Held reason) last.Ring else leg.Chosen n load.Head)
      at true q = cc
      at false q = h

  looked_settled : (at : Place) (rest : List Place) (t : Said) → In place (at ∷ rest) → (place ≡ at → t ≡ said.Live e.version)
      → ((n : ℕ) → t ≡ said.Live n → (at ≡ place) × (n ≡ e.version)) → Settled (looked l f at rest t)
  looked_settled at rest said.Nothing h own finds = looking_settled rest (on h)
    where
      on : (place ≡ at) ⊎ In place rest → In place rest
      on (inl q) = absurd (apart (own q))
        where
          apart : said.Nothing ≡ said.Live e.version → ⊥
          apart z = cc
      on (inr m) = m
  looked_settled at rest said.Reserved h own finds = two (is_opener f.packet.kind) other
    where
      on : (place ≡ at) ⊎ In place rest → In place rest
      on (inl q) = absurd (apart (own q))
        where
          apart : said.Reserved ≡ said.Live e.version → ⊥
          apart z = cc
      on (inr m) = m

      two : (b : Bool) → b ≡ false → Settled (if b then leg.Judged (verdict.Held by.Clash) last.Ring else looking l f rest)
      two true q = cc
      two false q = looking_settled rest (on h)
  looked_settled at rest (said.Live n) h own finds = finds n refl

  loaded_settled : (n : ℕ) (next : Load) (x : ℕ) → Found hits base place e f.entered n → Settled (loaded l f n next x)
  loaded_settled n load.Head x h = h
  loaded_settled n (load.Member row) x h = h
  loaded_settled n (load.Down pool server) x h = at (read_flag x) (last_by f.packet.kind (read_flag x))
    where
      at : (b : Bool) (next : Last) → Settled (leg.Judged (verdict_by b server n pool) next)
      at true next = h
      at false next = h

  ring_settled : (v : Verdict) (empty : Bool) (next : Last) → Settled (leg.Judged v last.Ring) → Settled (leg.Judged (verdict_at f v empty) next)
  ring_settled v true next h = h
  ring_settled v false next h = at (is_opener f.packet.kind) other
    where
      at : (b : Bool) → b ≡ false → Settled (leg.Judged (if b then verdict.Full else v) next)
      at true q = cc
      at false q = h

-- a packet of a settled entry goes on so
abbrev Goes : LayoutView → (Place → ℕ) → Option ℕ → ℕ → Place → Entry → Stage → Type 0
Goes l hits base from place e a = OnLeg a (FlightSettled hits base from place e)

module _ (s : Core) (i : Invariant s) (p : ℕ) (v : PipeView) (q : slice_get s.pipes p ≡ Some v) where
  abbrev l : LayoutView
  l = s.config.layout

  module _ (after : Place → ℕ) (base : Option ℕ) (e : Entry) (m : In e s.controller.book.entries) (also : e.also ≡ None) (place : Place) (d : e.place ≡ Some place) where
    -- what a step of a packet of its key comes to
    leg_settled : (f : Flight) (a : Leg) (x : ℕ) → v.stage ≡ stage.Fly f a → is_opener f.packet.kind ≡ false → f.packet.key ≡ e.key
        → ((at : Place) (rest : List Place) → a ≡ leg.Look at rest → x ≡ s.words (name.Entry at))
        → ((n : ℕ) → a ≡ leg.Hit place n → after place ≡ 1)
        → LegSettled after base place e f.entered a → OnLeg (leg_after l f a x) (λ g z. LegSettled after base place e f.entered z)
    leg_settled f (leg.Look at rest) x g other own loads hit h =
        looked_settled l after base place e f other at rest (says l at f.packet.key x) h
        (λ same. told at same) (λ n t. finds_own s i e m also place d at rest n ends h (sym (said_at) ∙ t))
      where
        said_at : says l at f.packet.key x ≡ says l at e.key (s.words (name.Entry at))
        said_at = ap (says l at f.packet.key) (loads at rest refl) ∙ ap (λ k. says l at k (s.words (name.Entry at))) own

        told : (z : Place) → place ≡ at → says l at f.packet.key x ≡ said.Live e.version
        told z same =
            said_at ∙ subst (λ w. says l w e.key (s.words (name.Entry w)) ≡ said.Live e.version) same (place_says s i e m also place d)

        ends : IsEnd (at ∷ rest) (key_places l e.key)
        ends = subst (λ k. IsEnd (at ∷ rest) (key_places l k)) own (subst (StageFits l) g (i.shape.pipes.stage p v q)).1
    leg_settled f (leg.Hit at n) x g other own loads hit h =
        held_settled l after base place e f other by.Clash n (h.1, λ z. hit n (ap (λ w. leg.Hit w n) h.0))
    leg_settled f (leg.Filter bit rest) x g other own loads hit h = absurd h
    leg_settled f (leg.Chosen n next) x g other own loads hit h = loaded_settled l after base place e f other n next x h
    leg_settled f (leg.Judged w last.Ring) x g other own loads hit h = ring_settled l after base place e f other w (x == 0) (last_at l f w (x == 0)) h
    leg_settled f (leg.Judged w (last.Mark bit rest)) x g other own loads hit h = h
    leg_settled f (leg.Judged w last.Push) x g other own loads hit h = h
    leg_settled f (leg.Judged w last.Out) x g other own loads hit h = tt

    leg_goes : (from : ℕ) (f : Flight) (a : Leg) (x : ℕ) → v.stage ≡ stage.Fly f a
        → ((at : Place) (rest : List Place) → a ≡ leg.Look at rest → x ≡ s.words (name.Entry at))
        → ((n : ℕ) → a ≡ leg.Hit place n → after place ≡ 1)
        → FlightSettled after base from place e f a → OnLeg (leg_after l f a x) (FlightSettled after base from place e)
    leg_goes from f a x g loads hit h =
        lift (leg_after l f a x) (keeps f a x)
        (other_then f.packet.kind _ (f.packet.key ≡ e.key → from < f.entered → OnLeg (leg_after l f a x) (λ g z. LegSettled after base place e f.entered z))
        (λ other t own late. leg_settled f a x g other own loads hit (t own late)) h)
      where
        IsOf : Flight → Stage → Type 0
        IsOf f (stage.Fly g z) = g ≡ f
        IsOf f a = Unit {0}

        last_keeps : (f : Flight) (w : Verdict) (next : Last) (x : ℕ) → IsOf f (last_after s.config.layout f w next x)
        last_keeps f w last.Ring x = refl
        last_keeps f w (last.Mark bit rest) x = refl
        last_keeps f w last.Push x = refl
        last_keeps f w last.Out x = tt

        keeps : (f : Flight) (a : Leg) (x : ℕ) → IsOf f (leg_after s.config.layout f a x)
        keeps f (leg.Look at rest) x = refl
        keeps f (leg.Hit at n) x = refl
        keeps f (leg.Filter bit rest) x = refl
        keeps f (leg.Chosen n next) x = refl
        keeps f (leg.Judged w next) x = last_keeps f w next x

        lift : (z : Stage) → IsOf f z → IfOther f.packet.kind (f.packet.key ≡ e.key → from < f.entered → OnLeg z (λ g y. LegSettled after base place e f.entered y))
            → OnLeg z (FlightSettled after base from place e)
        lift (stage.Fly g y) same t = subst (λ w. FlightSettled after base from place e w y) (sym same) t
        lift stage.Idle same t = tt
        lift (stage.Enter packet) same t = tt
        lift (stage.Note packet entered) same t = tt
        lift (stage.Vip packet entered) same t = tt
        lift (stage.Leave g) same t = tt

    -- so each packet of the pipe
    stage_goes : (from : ℕ) (a : Stage) (x : ℕ) → v.stage ≡ a
        → ((f : Flight) (at : Place) (rest : List Place) → a ≡ stage.Fly f (leg.Look at rest) → x ≡ s.words (name.Entry at))
        → ((f : Flight) (n : ℕ) → a ≡ stage.Fly f (leg.Hit place n) → after place ≡ 1)
        → OnLeg a (FlightSettled after base from place e) → OnLeg (stage_after l a x) (FlightSettled after base from place e)
    stage_goes from stage.Idle x g loads hit h = tt
    stage_goes from (stage.Enter packet) x g loads hit h = tt
    stage_goes from (stage.Note packet entered) x g loads hit h = tt
    stage_goes from (stage.Vip packet entered) x g loads hit h =
        let f = begun_flight l packet entered x in
        let fits : is_place_of l.shape e.key place ≡ true =
        of_some (λ p. is_place_of l.shape e.key p ≡ true) e.place place (all_in (EntryFits l) s.controller.book.entries e i.shape.book.entries m).place d in
        begins (begun_flight l packet entered x) (λ own. subst (λ k. In place (key_places l k)) (sym own) (place_looked l e.key place fits))
      where
        start : (f : Flight) (places : List Place) → In place places → LegSettled after base place e f.entered (looking l f places)
        start f [] h = absurd h
        start f (at ∷ rest) h = h

        by : (kind : Kind) (P : Type 0) → P → IfOther kind P
        by Opener P h = tt
        by Carry P h = h
        by Ending P h = h

        begins : (f : Flight) → (f.packet.key ≡ e.key → In place (key_places l f.packet.key))
            → FlightSettled after base from place e f (looking l f (key_places l f.packet.key))
        begins f inside =
            by f.packet.kind (f.packet.key ≡ e.key → from < f.entered → LegSettled after base place e f.entered (looking l f (key_places l f.packet.key)))
            (λ own late. start f (key_places l f.packet.key) (inside own))
    stage_goes from (stage.Fly f a) x g loads hit h =
        leg_goes from f a x g (λ at rest z. loads f at rest (ap (stage.Fly f) z)) (λ n z. hit f n (ap (stage.Fly f) z)) h
    stage_goes from (stage.Leave f) x g loads hit h = tt

  -- ---- all of it after a step

  -- hits stay hit
  module _ (after : Place → ℕ) (up : (place : Place) → hit_words s.words place ≡ 1 → after place ≡ 1) where
    flight_up : (base : Option ℕ) (from : ℕ) (place : Place) (e : Entry) (g : Flight) (a : Leg) → FlightSettled (hit_words s.words) base from place e g a
        → FlightSettled after base from place e g a
    flight_up base from place e g a h =
        other_then g.packet.kind _ (g.packet.key ≡ e.key → from < g.entered → LegSettled after base place e g.entered a)
        (λ o t own late. leg_turns (hit_words s.words) after base base place e e refl g.entered (λ z b. up place (z b)) a (t own late)) h

    stage_up : (base : Option ℕ) (from : ℕ) (place : Place) (e : Entry) (a : Stage) → OnLeg a (FlightSettled (hit_words s.words) base from place e)
        → OnLeg a (FlightSettled after base from place e)
    stage_up base from place e (stage.Fly g a) h = flight_up base from place e g a h
    stage_up base from place e a h = tt

    line_up : (base : Option ℕ) (from : ℕ) (place : Place) (e : Entry) (m : Line) → LineSettled (hit_words s.words) base from place e m
        → LineSettled after base from place e m
    line_up base from place e (line.Packet number entered out pipe key kind w) h =
        other_then kind _ (key ≡ e.key → from < entered → IsFrom base entered → after place ≡ 1) (λ o t own late b. up place (t own late b)) h
    line_up base from place e m h = tt

    -- a settled entry after the step
    entry_after : (a : Stage) (w : PipeView) (x : ℕ) (now : List Line) → v.stage ≡ a → w.stage ≡ stage_after l a x
        → ((f : Flight) (at : Place) (rest : List Place) → a ≡ stage.Fly f (leg.Look at rest) → x ≡ s.words (name.Entry at))
        → ((f : Flight) (place : Place) (n : ℕ) → a ≡ stage.Fly f (leg.Hit place n) → after place ≡ 1)
        → ((key : KeyView) → since now key ≡ since (printed s) key) → ((n : ℕ) → numbered_sweep now n ≡ numbered_sweep (printed s) n)
        → ((base : Option ℕ) (from : ℕ) (place : Place) (e : Entry) → OnLeg a (FlightSettled (hit_words s.words) base from place e)
        → AllByRecursion (LineSettled (hit_words s.words) base from place e) (printed s) → AllByRecursion (LineSettled (hit_words s.words) base from place e) now)
        → (e : Entry) → In e s.controller.book.entries
        → EntrySettled after (slice_set s.pipes p w) now s.controller.sweeps s.controller.job e
    entry_after a w x now g ws loads hit moved swept_so lines e m also still = at e.place refl
      where
        was : (place : Place) → e.place ≡ Some place → SettledAt (hit_words s.words) s.pipes (printed s) (base_of (printed s) s.controller.sweeps s.controller.job e) e place
        was place d =
            of_some (SettledAt (hit_words s.words) s.pipes (printed s) (base_of (printed s) s.controller.sweeps s.controller.job e) e) e.place place
            (all_in (EntrySettled (hit_words s.words) s.pipes (printed s) s.controller.sweeps s.controller.job) s.controller.book.entries e i.sweeps.sweeps.settled m also still) d

        new : (place : Place) → e.place ≡ Some place → (base : Option ℕ) (from : ℕ)
            → SettledAt (hit_words s.words) s.pipes (printed s) base e place → from ≡ since (printed s) e.key
            → EachPipe (λ n u. OnLeg u.stage (FlightSettled after base from place e)) (slice_set s.pipes p w) × AllByRecursion (LineSettled after base from place e) now
        new place d base from h same =
            let flights : EachPipe (λ n u. OnLeg u.stage (FlightSettled (hit_words s.words) base from place e)) s.pipes =
            subst (λ n. EachPipe (λ p v. OnLeg v.stage (FlightSettled (hit_words s.words) base n place e)) s.pipes) (sym same) h.flights in
            let own : OnLeg a (FlightSettled (hit_words s.words) base from place e) =
            subst (λ z. OnLeg z (FlightSettled (hit_words s.words) base from place e)) g (flights p v q) in (
              each_turns s.pipes p v w q (λ n u. OnLeg u.stage (FlightSettled (hit_words s.words) base from place e)) (λ n u. OnLeg u.stage (FlightSettled after base from place e)) flights
                  (subst (λ z. OnLeg z (FlightSettled after base from place e)) (sym ws) (stage_goes after base e m also place d from a x g loads (λ f n z. hit f place n z) (stage_up base from place e a own)))
                  (λ n u apart there t. stage_up base from place e u.stage t),
              all_then (LineSettled (hit_words s.words) base from place e) (LineSettled after base from place e) (line_up base from place e) now
                  (lines base from place e own (subst (λ n. AllByRecursion (LineSettled (hit_words s.words) base n place e) (printed s)) (sym same) h.told)),
            )

        at : (o : Option Place) → e.place ≡ o → IfSome o (SettledAt after (slice_set s.pipes p w) now (base_of now s.controller.sweeps s.controller.job e) e)
        at None d = tt
        at (Some place) d =
            let t = new place d (base_of (printed s) s.controller.sweeps s.controller.job e) (since now e.key) (was place d) (moved e.key) in
            let z : base_of now s.controller.sweeps s.controller.job e ≡ base_of (printed s) s.controller.sweeps s.controller.job e =
            base_same (printed s) now s.controller.sweeps s.controller.job s.controller.job e refl swept_so in
            subst (λ b. SettledAt after (slice_set s.pipes p w) now b e place) (sym z) (record { flights = t.0; told = t.1 })

  settled_step : (a : Stage) (o : Option Op) (now : List Line) → v.stage ≡ a → pipe_op l v a ≡ o
      → AtOp o (λ o. (place : Place) → hit_words s.words place ≡ 1 → hit_words (op_words s.words o) place ≡ 1)
      → AtOp o (λ o. (f : Flight) (place : Place) (n : ℕ) → a ≡ stage.Fly f (leg.Hit place n) → hit_words (op_words s.words o) place ≡ 1)
      → ((key : KeyView) → since now key ≡ since (printed s) key) → ((n : ℕ) → numbered_sweep now n ≡ numbered_sweep (printed s) n)
      → ((base : Option ℕ) (from : ℕ) (place : Place) (e : Entry) → OnLeg a (FlightSettled (hit_words s.words) base from place e)
      → AllByRecursion (LineSettled (hit_words s.words) base from place e) (printed s) → AllByRecursion (LineSettled (hit_words s.words) base from place e) now)
      → AfterStage (λ t. printed t ≡ now) s p v a o
      → AfterStage SettledAre s p v a o
  settled_step a None now g r up hit moved swept_so lines printed_so = tt
  settled_step a (Some o) now g r up hit moved swept_so lines printed_so =
      let x = op_answer o (s.words (op_name o)) in
      let w = pipe_after l v a x in
      subst (λ ls. AllByRecursion (EntrySettled (hit_words (op_words s.words o)) (slice_set s.pipes p w) ls s.controller.sweeps s.controller.job) s.controller.book.entries) (sym printed_so)
      (all_to_in _ s.controller.book.entries (λ e m. entry_after (hit_words (op_words s.words o)) up a w x now g refl (λ f at rest z. look_answers s.words l v a o r f at rest z) hit moved swept_so lines e m))

  -- a packet that leaves without a version is an opener
  out_told : (f : Flight) (w : Verdict) → v.stage ≡ stage.Fly f (leg.Judged w last.Out) → (base : Option ℕ) (from : ℕ) (place : Place) (e : Entry)
      → FlightSettled (hit_words s.words) base from place e f (leg.Judged w last.Out)
      → LineSettled (hit_words s.words) base from place e (packet_line v.number f w (s.words name.Tick))
  out_told f w g base from place e h =
      other_then f.packet.kind _ (f.packet.key ≡ e.key → from < f.entered → IsFrom base f.entered → hit_words s.words place ≡ 1)
      (λ o t own late. by f.packet.kind w o (subst (StageFits l) g (i.shape.pipes.stage p v q)).1.1 (t own late)) h
    where
      by : (kind : Kind) (w : Verdict) → is_opener kind ≡ false → MayBeOut kind w → LegSettled (hit_words s.words) base place e f.entered (leg.Judged w last.Out)
          → IsFrom base f.entered → hit_words s.words place ≡ 1
      by kind (verdict.To server version pool) o m t = t.1
      by kind (verdict.Down server version pool) o m t = t.1
      by Opener w o m t = cc
      by Carry w o m t = absurd m
      by Ending w o m t = absurd m

  pub settled_stage : (a : Stage) → v.stage ≡ a → AfterStage SettledAre s p v a (pipe_op l v a)
  settled_stage stage.Idle g = tt
  settled_stage (stage.Fly f (leg.Hit at n)) g =
      settled_step (stage.Fly f (leg.Hit at n)) (pipe_op l v (stage.Fly f (leg.Hit at n))) (printed s) g refl
      (λ place h. up place (same_place at place) h)
      (λ f place n z. here place (same_place at place) (ap (λ w. same_place at w) (place_of z) ∙ same_place-self at))
      (λ key. refl) (λ n. refl) (λ base from place e h t. t) (stage_prints s p v (stage.Fly f (leg.Hit at n)) i.ticks q)
    where
      up : (place : Place) (b : Bool) → s.words (name.Hit place) ≡ 1 → (if b then 1 else s.words (name.Hit place)) ≡ 1
      up place true h = refl
      up place false h = h

      here : (place : Place) (b : Bool) → b ≡ true → (if b then 1 else s.words (name.Hit place)) ≡ 1
      here place true h = refl
      here place false h = cc

      place_of : {g : Flight} {z : Place} {m : ℕ} → stage.Fly f (leg.Hit at n) ≡ stage.Fly g (leg.Hit z m) → z ≡ at
      place_of h = cc
  settled_stage (stage.Fly f (leg.Judged w last.Out)) g =
      settled_step (stage.Fly f (leg.Judged w last.Out)) (pipe_op l v (stage.Fly f (leg.Judged w last.Out))) (packet_line v.number f w (s.words name.Tick) ∷ printed s) g refl
      (λ place h. h) (λ f place n z. cc)
      (λ key. refl) (λ n. refl) (λ base from place e h t. (out_told f w g base from place e h, t)) (stage_prints s p v (stage.Fly f (leg.Judged w last.Out)) i.ticks q)
  settled_stage (stage.Fly f (leg.Chosen n load.Head)) g =
      settled_step (stage.Fly f (leg.Chosen n load.Head)) (pipe_op l v (stage.Fly f (leg.Chosen n load.Head))) (printed s) g refl (λ place h. h) (λ f place n z. cc)
      (λ key. refl) (λ n. refl) (λ base from place e h t. t) (stage_prints s p v (stage.Fly f (leg.Chosen n load.Head)) i.ticks q)
  settled_stage a g =
      settled_step a (pipe_op l v a) (printed s) g refl (λ place h. h) (λ f place n z. cc) (λ key. refl) (λ n. refl) (λ base from place e h t. t) (stage_prints s p v a i.ticks q)
