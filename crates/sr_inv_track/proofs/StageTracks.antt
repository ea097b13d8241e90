-- A pipe's steps keep packets on track.
use Rattle.std.proofs.Common.{◌≡◌, ℕ, ◌⊎◌, ◌≢◌, List, ◌++◌, slice_get, slice_set, Some, None, Option, sym, refl, ap, ◌∙◌, subst, inl, inr}
use Rattle.std.specs.List.{AllByRecursion}
use Rattle.std.proofs.lemmas.Option.{same_Some}
use Rattle.sr_base.specs.Key.{KeyView}
use Rattle.sr_base.specs.Layout.{LayoutView}
use Rattle.sr_base.specs.declared.kind.Kind.{Kind}
use Rattle.sr_base.specs.declared.kind.Kind.TheVariants.{Opener, Carry, Ending}
use Rattle.sr_base.specs.declared.place.Place.{Place}
use Rattle.sr_base.specs.declared.ring_word.RingKind.TheVariants.{Learn}
use Rattle.sr_base.specs.declared.vip_word.Phase.{Phase}
use Rattle.sr_base.specs.declared.vip_word.Phase.TheVariants.{Steady, Recording, Holding, Transit}
use Rattle.sr_inv_facts.proofs.Pipes.{each_turns}
use Rattle.sr_inv_facts.proofs.Printing.{prints}
use Rattle.sr_inv_facts.specs.Doing.{word_before}
use Rattle.sr_inv_facts.specs.Flying.{OnFlight, OnLeg}
use Rattle.sr_inv_facts.specs.InFlight.{ChoosesBy, FlightHolds, HasWord, LegHolds}
use Rattle.sr_inv_facts.specs.InFilter.{phase_at}
use Rattle.sr_inv_facts.specs.InOpenings.{IsReported}
use Rattle.sr_inv_facts.specs.InShape.{LegFits, StageFits}
use Rattle.sr_inv_facts.specs.Invariant.{Invariant}
use Rattle.sr_inv_facts.specs.OnTrack.{GoesBy, GoesVerdict, IsKnown, IsOnDuty}
use Rattle.sr_inv_facts.specs.Readings.{EachPipe, bit_words, entry_words, ring_words}
use Rattle.sr_inv_flight.proofs.LoadedWords.{vip_loaded}
use Rattle.sr_inv_matching.proofs.Reports.{RingsAre, Stores, own_report}
use Rattle.sr_inv_matching.proofs.Stepping.{entered_drawn, stage_entries}
use Rattle.sr_inv_matching.proofs.UnmatchedKept.{leg_then}
use Rattle.sr_inv_matching.proofs.Unmatching.{opener_has}
use Rattle.sr_inv_track.proofs.Agreeing.{opener_agrees, words_agree}
use Rattle.sr_inv_track.proofs.Duty.{duty_before}
use Rattle.sr_inv_track.proofs.Going.{Answered, goes_looking, own_goes}
use Rattle.sr_inv_track.proofs.Known.{first_goes}
use Rattle.sr_inv_track.proofs.Missing.{Before, before, updated, word_phase}
use Rattle.sr_inv_track.proofs.Passing.{bits_go}
use Rattle.sr_law.specs.Opening.{opening}
use Rattle.sr_law.specs.Ticks.{out_of}
use Rattle.sr_law.specs.declared.line.Line.{Line}
use Rattle.sr_law.specs.declared.opening.Opening.{Opening}
use Rattle.sr_machine.specs.Core.{Core, printed}
use Rattle.sr_machine.specs.Deciding.{vip_at}
use Rattle.sr_machine.specs.Keeping.{AfterStage}
use Rattle.sr_machine.specs.Ops.{op_answer, op_name, op_words}
use Rattle.sr_machine.specs.Pipe.{pipe_after, pipe_op}
use Rattle.sr_machine.specs.Reads.{read_report, read_vip}
use Rattle.sr_machine.specs.Stages.{begun_flight, key_places, leg_after, looking, stage_after}
use Rattle.sr_machine.specs.declared.flight.Flight.{Flight}
use Rattle.sr_machine.specs.declared.leg.Leg.{Leg}
use Rattle.sr_machine.specs.declared.leg.Leg.TheVariants.{Look, Hit, Filter, Chosen, Judged}
use Rattle.sr_machine.specs.declared.name.Name.{Name}
use Rattle.sr_machine.specs.declared.op.Op.{Op}
use Rattle.sr_machine.specs.declared.pipe_view.PipeView.{PipeView}
use Rattle.sr_machine.specs.declared.pool_update.PoolUpdate.{PoolUpdate}
use Rattle.sr_machine.specs.declared.stage.Stage.{Stage}
use Rattle.sr_machine.specs.declared.stage.Stage.TheVariants.{Idle, Enter, Note, Vip, Fly, Leave}
use Rattle.sr_shadow.specs.Book.{entry_for}
use Rattle.sr_shadow.specs.declared.entry.Entry.{Entry}
use Rattle.sr_shadow.proofs.Splits.{registered_none}
use Rattle.sr_machine.specs.declared.leg.Last.TheVariants as last
use Rattle.sr_machine.specs.declared.leg.Load.TheVariants as load
use Rattle.sr_machine.specs.declared.name.Name.TheVariants as name
use Rattle.sr_law.specs.declared.verdict.Verdict.TheVariants as verdict

-- what the family says of a packet
abbrev pub Tracked : LayoutView → (Place → ℕ) → (ℕ → ℕ) → (ℕ → ℕ → ℕ) → List Entry → List Line → Flight → Leg → Type 0
Tracked l w bits ring book lines f leg =
    (n : ℕ) → IsKnown l ring book f.packet.key n → IsOnDuty lines f → GoesBy l w bits n f leg

abbrev pub Tracks : Core → Type 0
Tracks s =
    EachPipe (λ p v. OnLeg v.stage (Tracked s.config.layout (entry_words s.words) (bit_words s.words) (ring_words s.words) s.controller.book.entries (printed s))) s.pipes

-- ---- which words of the filter a pipe writes

abbrev IsMark : Stage → Type 0
IsMark (Fly f (Judged v (last.Mark bit rest))) = Unit {0}
IsMark at = ⊥

abbrev SameBits : (Name → ℕ) → Op → Type 0
SameBits words o = bit_words (op_words words o) ≡ bit_words words

stage_bits : (words : Name → ℕ) (l : LayoutView) (v : PipeView) (at : Stage) (o : Op) → pipe_op l v at ≡ Some o → SameBits words o ⊎ IsMark at
stage_bits words l v Idle o e = absurd cc
stage_bits words l v (Enter packet) o e = inl (subst (SameBits words) (same_Some _ o e) refl)
stage_bits words l v (Note packet n) o e = inl (subst (SameBits words) (same_Some _ o e) refl)
stage_bits words l v (Vip packet n) o e = inl (subst (SameBits words) (same_Some _ o e) refl)
stage_bits words l v (Leave f) o e = inl (subst (SameBits words) (same_Some _ o e) refl)
stage_bits words l v (Fly f (Look place rest)) o e = inl (subst (SameBits words) (same_Some _ o e) refl)
stage_bits words l v (Fly f (Hit place n)) o e = inl (subst (SameBits words) (same_Some _ o e) refl)
stage_bits words l v (Fly f (Filter bit rest)) o e = inl (subst (SameBits words) (same_Some _ o e) refl)
stage_bits words l v (Fly f (Chosen n load.Head)) o e = inl (subst (SameBits words) (same_Some _ o e) refl)
stage_bits words l v (Fly f (Chosen n (load.Member head))) o e = inl (subst (SameBits words) (same_Some _ o e) refl)
stage_bits words l v (Fly f (Chosen n (load.Down pool server))) o e = inl (subst (SameBits words) (same_Some _ o e) refl)
stage_bits words l v (Fly f (Judged u last.Ring)) o e = inl (subst (SameBits words) (same_Some _ o e) refl)
stage_bits words l v (Fly f (Judged u (last.Mark bit rest))) o e = inr tt
stage_bits words l v (Fly f (Judged u last.Push)) o e = inl (subst (SameBits words) (same_Some _ o e) refl)
stage_bits words l v (Fly f (Judged u last.Out)) o e = inl (subst (SameBits words) (same_Some _ o e) refl)

-- what a leg loads is what the words say
leg_answers : (words : Name → ℕ) (l : LayoutView) (v : PipeView) (f : Flight) (leg : Leg) (o : Op) → pipe_op l v (Fly f leg) ≡ Some o
    → Answered (entry_words words) (bit_words words) leg (op_answer o (words (op_name o)))
leg_answers words l v f (Look place rest) o e = ap (λ z. op_answer z (words (op_name z))) (sym (same_Some _ o e))
leg_answers words l v f (Filter bit rest) o e = ap (λ z. op_answer z (words (op_name z))) (sym (same_Some _ o e))
leg_answers words l v f (Hit place n) o e = tt
leg_answers words l v f (Chosen n next) o e = tt
leg_answers words l v f (Judged u next) o e = tt

-- the lines of a step are out at the next tick
prints_out : (number : ℕ) (at : Stage) (x : ℕ) → AllByRecursion (λ l. out_of l ≡ x) (prints number at x)
prints_out number (Fly f (Judged v last.Out)) x = (refl, tt)
prints_out number at x = tt

pub other_kind : (kind : Kind) → (kind ≡ Opener) ⊎ (kind ≡ Opener → ⊥)
other_kind Opener = inl refl
other_kind Carry = inr (λ e. cc)
other_kind Ending = inr (λ e. cc)

module _ (s : Core) (i : Invariant s) where
  abbrev l : LayoutView
  l = s.config.layout

  abbrev es : List Entry
  es = s.controller.book.entries

  abbrev w : Place → ℕ
  w = entry_words s.words

  abbrev bits : ℕ → ℕ
  bits = bit_words s.words

  abbrev ring : ℕ → ℕ → ℕ
  ring = ring_words s.words

  -- ---- what holds of a packet in flight

  pub loaded_word : (p : ℕ) (v : PipeView) (f : Flight) (leg : Leg) → slice_get s.pipes p ≡ Some v → v.stage ≡ Fly f leg
      → HasWord s.controller.vips s.controller.job p f
  loaded_word p v f leg q e =
      (subst (λ z. OnFlight z (FlightHolds s.controller.vips s.controller.job (printed s) p)) e (i.flight.flights p v q)).word

  pub leg_holds : (p : ℕ) (v : PipeView) (f : Flight) (leg : Leg) → slice_get s.pipes p ≡ Some v → v.stage ≡ Fly f leg
      → LegHolds s.config bits s.controller.named s.controller.numbers s.controller.rings s.controller.job p v.pushed f leg
  leg_holds p v f leg q e =
      subst (λ z. OnLeg z (LegHolds s.config bits s.controller.named s.controller.numbers s.controller.rings s.controller.job p v.pushed)) e (i.flight.legs p v q)

  pub leg_fits : (p : ℕ) (v : PipeView) (f : Flight) (leg : Leg) → slice_get s.pipes p ≡ Some v → v.stage ≡ Fly f leg → LegFits l f leg
  leg_fits p v f leg q e = (subst (StageFits l) e (i.shape.pipes.stage p v q)).1

  pub on_track : (p : ℕ) (v : PipeView) (f : Flight) (leg : Leg) → slice_get s.pipes p ≡ Some v → v.stage ≡ Fly f leg
      → Tracked l w bits ring es (printed s) f leg
  on_track p v f leg q e = subst (λ z. OnLeg z (Tracked l w bits ring es (printed s))) e (i.track.track.track p v q)

  -- ---- no packet has loaded Transit while one is recorded

  -- a packet that loaded a phase but Steady: the update is in it, or in the next
  abbrev Follows : Phase → Phase → Type 0
  Follows Steady now = Unit {0}
  Follows Recording now = (now ≡ Recording) ⊎ (now ≡ Holding)
  Follows Holding now = (now ≡ Holding) ⊎ (now ≡ Transit)
  Follows Transit now = (now ≡ Transit) ⊎ (now ≡ Steady)

  pub record InPhase (phase : Phase) : Type 0 where
    pub update : PoolUpdate
    pub is : s.controller.update ≡ Some update
    pub follows : Follows phase (phase_at s.controller.vips update)

  now_follows : (p : Phase) → Follows p p
  now_follows Steady = tt
  now_follows Recording = inl refl
  now_follows Holding = inl refl
  now_follows Transit = inl refl

  before_follows : (u : PoolUpdate) (q : Phase) → Follows (word_before u q).phase q
  before_follows u Steady = inr refl
  before_follows u Recording = tt
  before_follows u Holding = inr refl
  before_follows u Transit = inr refl

  pub in_phase : (p : ℕ) (f : Flight) → HasWord s.controller.vips s.controller.job p f → f.vip.phase ≢ Steady → InPhase f.vip.phase
  in_phase p f (inl a) apart =
      let u = updated s i f.packet.key.vip (λ t. apart (ap (λ z. z.phase) a ∙ t)) in
      record {
        update = u.update;
        is = u.is;
        follows =
            subst (Follows f.vip.phase) (ap (λ z. z.phase) a ∙ ap (λ v. (vip_at s.controller.vips v).phase) u.own) (now_follows f.vip.phase);
      }
  in_phase p f (inr h) apart = by (before s i s.controller.job p f.entered f.packet.key.vip f.vip i.update.update.phase h)
    where
      by : Before s.controller.update s.controller.vips f.packet.key.vip f.vip → InPhase f.vip.phase
      by b = record {
        update = b.update_is;
        is = b.now.0;
        follows =
            subst (λ z. Follows z (phase_at s.controller.vips b.update_is)) (ap (λ z. z.phase) (sym b.word))
            (subst (Follows (word_before b.update_is b.phase).phase) (sym (ap (λ z. z.phase) b.now.1 ∙ word_phase b.update_is b.phase)) (before_follows b.update_is b.phase));
      }

  apart_phases : (a b : Phase) (p q : Phase) → a ≡ Recording → b ≡ Transit → Follows a p → Follows b q → p ≡ q → ⊥
  apart_phases a b p q e f h k same =
      by (subst (λ z. Follows z p) e h) (subst (λ z. Follows z q) f k)
    where
      by : (p ≡ Recording) ⊎ (p ≡ Holding) → (q ≡ Transit) ⊎ (q ≡ Steady) → ⊥
      by (inl x) (inl y) = absurd cc
      by (inl x) (inr y) = absurd cc
      by (inr x) (inl y) = absurd cc
      by (inr x) (inr y) = absurd cc

  no_transit : (p q : ℕ) (f g : Flight) → HasWord s.controller.vips s.controller.job p f → HasWord s.controller.vips s.controller.job q g
      → f.vip.phase ≡ Recording → g.vip.phase ≡ Transit → ⊥
  no_transit p q f g a b e t =
      let x = in_phase p f a (λ z. recording_else (sym e ∙ z)) in
      let y = in_phase q g b (λ z. transit_else (sym t ∙ z)) in
      apart_phases f.vip.phase g.vip.phase (phase_at s.controller.vips x.update) (phase_at s.controller.vips y.update) e t x.follows y.follows
      (ap (phase_at s.controller.vips) (same_Some x.update y.update (sym x.is ∙ y.is)))
    where
      recording_else : Recording ≡ Steady → ⊥
      recording_else z = cc

      transit_else : Transit ≡ Steady → ⊥
      transit_else z = cc

  module _ (p : ℕ) (v : PipeView) (q : slice_get s.pipes p ≡ Some v) where
    -- the pipe stores a report that an opener of the key learned the version
    pub record Pushes (key : KeyView) (n : ℕ) : Type 0 where
      pub flight : Flight
      pub server : ℕ
      pub pool : ℕ
      pub stage : v.stage ≡ Fly flight (Judged (verdict.To server n pool) last.Push)
      pub opener : flight.packet.kind ≡ Opener
      pub own : flight.packet.key ≡ key

    -- what is known after the step was known before it, or is what it stores
    known_back : (o : Op) → ((n c : ℕ) → (op_words s.words o (name.Ring n c) ≡ s.words (name.Ring n c)) ⊎ Stores s i p v q n c (op_words s.words o (name.Ring n c)))
        → (key : KeyView) (n : ℕ) → IsKnown l (ring_words (op_words s.words o)) es key n → IsKnown l ring es key n ⊎ Pushes key n
    known_back o are key n (inl k) = inl (inl k)
    known_back o are key n (inr (pipe, c, read)) = at (are pipe c)
      where
        at : (op_words s.words o (name.Ring pipe c) ≡ s.words (name.Ring pipe c)) ⊎ Stores s i p v q pipe c (op_words s.words o (name.Ring pipe c))
            → IsKnown l ring es key n ⊎ Pushes key n
        at (inl same) = inl (inr (pipe, c, ap (read_report l) (sym same) ∙ read))
        at (inr st) =
            inr (own_report s i p v q pipe c (op_words s.words o (name.Ring pipe c)) (record { kind = Learn; version = n; key = key }) st read Pushes (λ f server m pool e k.
            record { flight = f; server = server; pool = pool; stage = e; opener = k; own = refl }))

    -- another packet of the key goes by what is stored
    pushed_track : (r : ℕ) (u : PipeView) (g : Flight) (leg : Leg) (n : ℕ) → slice_get s.pipes r ≡ Some u → u.stage ≡ Fly g leg → Pushes g.packet.key n
        → IsOnDuty (printed s) g → GoesBy l w bits n g leg
    pushed_track r u g leg n d e b duty = at (other_kind g.packet.kind)
      where
        f : Flight
        f = b.flight

        chosen : ChoosesBy f.vip n
        chosen = opener_has f.packet.kind _ b.opener (leg_holds p v f (Judged (verdict.To b.server n b.pool) last.Push) q b.stage).choice

        -- the key is known by the version that is stored
        known : (m : ℕ) → IsKnown l ring es g.packet.key m → n ≡ m
        known m k =
            on_track p v f (Judged (verdict.To b.server n b.pool) last.Push) q b.stage m (subst (λ z. IsKnown l ring es z m) (sym b.own) k) (inl b.opener)

        by_known : (m : ℕ) → IsKnown l ring es g.packet.key m → GoesBy l w bits n g leg
        by_known m k = subst (λ z. GoesBy l w bits z g leg) (sym (known m k)) (on_track r u g leg d e m k duty)

        opened : (o : Opening) → opening (printed s) g.packet.key ≡ Some o → (x : Option Entry) → entry_for g.packet.key es ≡ x → GoesBy l w bits n g leg
        opened o h (Some x) z = by_known x.version (inl (x, z, refl))
        opened o h None z =
            let reported : IsReported l ring s.controller.named g.packet.key (Some o) =
            subst (IsReported l ring s.controller.named g.packet.key) h (i.openings.openings.reported g.packet.key (registered_none g.packet.key es z)) in
            by_known o.version (inr reported.0)

        on_duty : (g.packet.kind ≡ Opener → ⊥) → IsOnDuty (printed s) g → GoesBy l w bits n g leg
        on_duty other (inl o) = absurd (other o)
        on_duty other (inr (o, h, less)) = opened o h (entry_for g.packet.key es) refl

        at : (g.packet.kind ≡ Opener) ⊎ (g.packet.kind ≡ Opener → ⊥) → GoesBy l w bits n g leg
        at (inl o) =
            opener_agrees s i w bits g n o
            (words_agree s i p r f g n (ap (λ k. k.vip) b.own) (loaded_word p v f (Judged (verdict.To b.server n b.pool) last.Push) q b.stage) (loaded_word r u g leg d e) chosen) leg
            (leg_fits r u g leg d e) (leg_holds r u g leg d e).choice
        at (inr other) = on_duty other duty

    -- ---- its own packet

    -- the packet of the pipe goes by what is known after the step, or has just stored it
    abbrev Ready : Flight → Leg → (KeyView → ℕ → Type 0) → List Line → Type 0
    Ready f leg Known lines = (n : ℕ) → Known f.packet.key n → IsOnDuty lines f → GoesBy l w bits n f leg ⊎ Pushes f.packet.key n

    module _ (Known : KeyView → ℕ → Type 0) (lines : List Line) (f : Flight) (x : ℕ) where
      abbrev Now : (ℕ → ℕ) → Flight → Leg → Type 0
      Now b g next = (n : ℕ) → Known g.packet.key n → IsOnDuty lines g → GoesBy l w b n g next

      pushed_is : (leg : Leg) → v.stage ≡ Fly f leg → (n : ℕ) (b : Pushes f.packet.key n) → leg ≡ Judged (verdict.To b.server n b.pool) last.Push
      pushed_is leg e n b = let z : Fly f leg ≡ Fly b.flight (Judged (verdict.To b.server n b.pool) last.Push) = sym e ∙ b.stage in cc z

      -- of a packet that isn't at its push
      abbrev IsElse : Leg → Type 0
      IsElse (Judged v last.Push) = ⊥
      IsElse leg = Unit {0}

      goes_else : (leg : Leg) → v.stage ≡ Fly f leg → IsElse leg → (n : ℕ) → GoesBy l w bits n f leg ⊎ Pushes f.packet.key n → GoesBy l w bits n f leg
      goes_else leg e other n (inl g) = g
      goes_else leg e other n (inr b) = absurd (subst IsElse (pushed_is leg e n b) other)

      own_leg : (leg : Leg) → v.stage ≡ Fly f leg → Answered w bits leg x → Ready f leg Known lines → OnLeg (leg_after l f leg x) (Now bits)
      own_leg (Look place rest) e a h = λ n k d. own_goes l w bits f n (Look place rest) x a (goes_else (Look place rest) e tt n (h n k d))
      own_leg (Hit place m) e a h = λ n k d. own_goes l w bits f n (Hit place m) x a (goes_else (Hit place m) e tt n (h n k d))
      own_leg (Filter bit rest) e a h = λ n k d. own_goes l w bits f n (Filter bit rest) x a (goes_else (Filter bit rest) e tt n (h n k d))
      own_leg (Chosen m next) e a h = λ n k d. own_goes l w bits f n (Chosen m next) x a (goes_else (Chosen m next) e tt n (h n k d))
      own_leg (Judged u last.Ring) e a h = λ n k d. own_goes l w bits f n (Judged u last.Ring) x a (goes_else (Judged u last.Ring) e tt n (h n k d))
      own_leg (Judged u (last.Mark bit rest)) e a h = λ n k d. goes_else (Judged u (last.Mark bit rest)) e tt n (h n k d)
      own_leg (Judged u last.Push) e a h = λ n k d. by n (h n k d)
        where
          by : (n : ℕ) → GoesBy l w bits n f (Judged u last.Push) ⊎ Pushes f.packet.key n → GoesVerdict n u
          by n (inl g) = g
          by n (inr b) =
              let same : u ≡ verdict.To b.server n b.pool = cc (pushed_is (Judged u last.Push) e n b) in subst (GoesVerdict n) (sym same) refl
      own_leg (Judged u last.Out) e a h = tt

      -- what is marked doesn't matter to it
      own_marked : (now : ℕ → ℕ) (leg : Leg) → IsMark (Fly f leg) → OnLeg (leg_after l f leg x) (Now bits) → OnLeg (leg_after l f leg x) (Now now)
      own_marked now (Judged u (last.Mark bit rest)) m h = h
      own_marked now (Judged u last.Ring) m h = absurd m
      own_marked now (Judged u last.Push) m h = absurd m
      own_marked now (Judged u last.Out) m h = absurd m
      own_marked now (Look place rest) m h = absurd m
      own_marked now (Hit place n) m h = absurd m
      own_marked now (Filter bit rest) m h = absurd m
      own_marked now (Chosen n next) m h = absurd m

    -- ---- all packets

    -- an opener that is recorded loaded Recording
    marks_recording : (at : Stage) → v.stage ≡ at → IsMark at → (f : Flight) × (leg : Leg) × (v.stage ≡ Fly f leg) × (f.vip.phase ≡ Recording)
    marks_recording (Fly f (Judged u (last.Mark bit rest))) e m =
        (f, Judged u (last.Mark bit rest), e, (leg_fits p v f (Judged u (last.Mark bit rest)) q e).1.recording)
    marks_recording (Fly f (Judged u last.Ring)) e m = absurd m
    marks_recording (Fly f (Judged u last.Push)) e m = absurd m
    marks_recording (Fly f (Judged u last.Out)) e m = absurd m
    marks_recording (Fly f (Look place rest)) e m = absurd m
    marks_recording (Fly f (Hit place n)) e m = absurd m
    marks_recording (Fly f (Filter bit rest)) e m = absurd m
    marks_recording (Fly f (Chosen n next)) e m = absurd m
    marks_recording Idle e m = absurd m
    marks_recording (Enter packet) e m = absurd m
    marks_recording (Note packet n) e m = absurd m
    marks_recording (Vip packet n) e m = absurd m
    marks_recording (Leave f) e m = absurd m

    module _ (at : Stage) (e : v.stage ≡ at) (o : Op) (g : pipe_op l v at ≡ Some o)
        (are : (n c : ℕ) → (op_words s.words o (name.Ring n c) ≡ s.words (name.Ring n c)) ⊎ Stores s i p v q n c (op_words s.words o (name.Ring n c))) where
      abbrev x : ℕ
      x = op_answer o (s.words (op_name o))

      abbrev now_bits : ℕ → ℕ
      now_bits = bit_words (op_words s.words o)

      abbrev now_ring : ℕ → ℕ → ℕ
      now_ring = ring_words (op_words s.words o)

      abbrev new : List Line
      new = prints v.number at (s.words name.Tick)

      duty_back : (r : ℕ) (u : PipeView) (f : Flight) (leg : Leg) → slice_get s.pipes r ≡ Some u → u.stage ≡ Fly f leg
          → IsOnDuty (new ++ printed s) f → IsOnDuty (printed s) f
      duty_back r u f leg d k duty =
          duty_before (s.words name.Tick) new (printed s) f (prints_out v.number at (s.words name.Tick)) (entered_drawn s i.ticks r u f leg d k).1 duty

      other_bits : (r : ℕ) (u : PipeView) (f : Flight) (leg : Leg) (n : ℕ) → slice_get s.pipes r ≡ Some u → u.stage ≡ Fly f leg
          → GoesBy l w bits n f leg → GoesBy l w now_bits n f leg
      other_bits r u f leg n d k h = by (stage_bits s.words l v at o g)
        where
          by : SameBits s.words o ⊎ IsMark at → GoesBy l w now_bits n f leg
          by (inl same) = subst (λ b. GoesBy l w b n f leg) (sym same) h
          by (inr m) =
              let y = marks_recording at e m in
              bits_go l f n w bits now_bits leg (λ z. no_transit p r y.0 f (loaded_word p v y.0 y.1 q y.2) (loaded_word r u f leg d k) y.3 z) (leg_fits r u f leg d k) h

      others : (r : ℕ) (u : PipeView) (f : Flight) (leg : Leg) → slice_get s.pipes r ≡ Some u → u.stage ≡ Fly f leg
          → Tracked l w bits ring es (printed s) f leg → Tracked l w now_bits now_ring es (new ++ printed s) f leg
      others r u f leg d k h n known duty = by (known_back o are f.packet.key n known)
        where
          on : IsOnDuty (printed s) f
          on = duty_back r u f leg d k duty

          by : IsKnown l ring es f.packet.key n ⊎ Pushes f.packet.key n → GoesBy l w now_bits n f leg
          by (inl y) = other_bits r u f leg n d k (h n y on)
          by (inr b) = other_bits r u f leg n d k (pushed_track r u f leg n d k b on)

      own_ready : (f : Flight) (leg : Leg) → v.stage ≡ Fly f leg → Ready f leg (IsKnown l now_ring es) (new ++ printed s)
      own_ready f leg k n known duty = by (known_back o are f.packet.key n known)
        where
          by : IsKnown l ring es f.packet.key n ⊎ Pushes f.packet.key n → GoesBy l w bits n f leg ⊎ Pushes f.packet.key n
          by (inl y) = inl (on_track p v f leg q k n y (duty_back p v f leg q k duty))
          by (inr b) = inr b

    own_stage : (at : Stage) (e : v.stage ≡ at) (o : Op) (g : pipe_op l v at ≡ Some o)
        (are : (n c : ℕ) → (op_words s.words o (name.Ring n c) ≡ s.words (name.Ring n c)) ⊎ Stores s i p v q n c (op_words s.words o (name.Ring n c)))
        → OnLeg (stage_after l at (op_answer o (s.words (op_name o))))
        (Tracked l w (bit_words (op_words s.words o)) (ring_words (op_words s.words o)) es (prints v.number at (s.words name.Tick) ++ printed s))
    own_stage Idle e o g are = tt
    own_stage (Enter packet) e o g are = tt
    own_stage (Note packet n) e o g are = tt
    own_stage (Leave f) e o g are = tt
    own_stage (Vip packet n) e o g are = λ m known duty. by m (known_back o are packet.key m known)
      where
        f : Flight
        f = begun_flight l packet n (op_answer o (s.words (op_name o)))

        word : f.vip ≡ vip_at s.controller.vips packet.key.vip
        word = ap (λ z. read_vip l (op_answer z (s.words (op_name z)))) (sym (same_Some _ o g)) ∙ vip_loaded s i packet.key.vip

        same_bits : SameBits s.words o ⊎ IsMark (Vip packet n) → SameBits s.words o
        same_bits (inl same) = same
        same_bits (inr mark) = absurd mark

        by : (m : ℕ) → IsKnown l ring es packet.key m ⊎ Pushes packet.key m → GoesBy l w (bit_words (op_words s.words o)) m f (looking l f (key_places l packet.key))
        by m (inl k) =
            subst (λ b. GoesBy l w b m f (looking l f (key_places l packet.key))) (sym (same_bits (stage_bits s.words l v (Vip packet n) o g)))
            (goes_looking l w bits f m (key_places l packet.key) (first_goes s i f m word k))
        by m (inr b) = let z : Vip packet n ≡ Fly b.flight (Judged (verdict.To b.server m b.pool) last.Push) = sym e ∙ b.stage in absurd (cc z)
    own_stage (Fly f leg) e o g are = by (stage_bits s.words l v (Fly f leg) o g)
      where
        h : OnLeg (leg_after l f leg (op_answer o (s.words (op_name o))))
            (Now (IsKnown l (ring_words (op_words s.words o)) es) (prints v.number (Fly f leg) (s.words name.Tick) ++ printed s) f (op_answer o (s.words (op_name o))) bits)
        h =
            own_leg (IsKnown l (ring_words (op_words s.words o)) es) (prints v.number (Fly f leg) (s.words name.Tick) ++ printed s) f (op_answer o (s.words (op_name o))) leg e
            (leg_answers s.words l v f leg o g) (own_ready (Fly f leg) e o g are f leg e)

        by : SameBits s.words o ⊎ IsMark (Fly f leg)
            → OnLeg (leg_after l f leg (op_answer o (s.words (op_name o))))
            (Tracked l w (bit_words (op_words s.words o)) (ring_words (op_words s.words o)) es (prints v.number (Fly f leg) (s.words name.Tick) ++ printed s))
        by (inl same) =
            subst (λ b. OnLeg (leg_after l f leg (op_answer o (s.words (op_name o)))) (Tracked l w b (ring_words (op_words s.words o)) es (prints v.number (Fly f leg) (s.words name.Tick) ++ printed s)))
            (sym same) h
        by (inr m) =
            own_marked (IsKnown l (ring_words (op_words s.words o)) es) (prints v.number (Fly f leg) (s.words name.Tick) ++ printed s) f (op_answer o (s.words (op_name o))) (bit_words (op_words s.words o)) leg m h

    pub stage_tracks : (at : Stage) → v.stage ≡ at → (o : Option Op) → pipe_op l v at ≡ o → AfterStage (RingsAre s i p v q) s p v at o
        → AfterStage (λ t. printed t ≡ prints v.number at (s.words name.Tick) ++ printed s) s p v at o
        → AfterStage Tracks s p v at o
    stage_tracks at e None g are lines = tt
    stage_tracks at e (Some o) g are lines =
        let new : List Line = prints v.number at (s.words name.Tick) ++ printed s in
        let now_bits = bit_words (op_words s.words o) in
        let now_ring = ring_words (op_words s.words o) in
        let after = pipe_after l v at (op_answer o (s.words (op_name o))) in
        subst (λ z. EachPipe (λ r u. OnLeg u.stage (Tracked l (entry_words (op_words s.words o)) now_bits now_ring es z)) (slice_set s.pipes p after)) (sym lines)
        (subst (λ z. EachPipe (λ r u. OnLeg u.stage (Tracked l z now_bits now_ring es new)) (slice_set s.pipes p after)) (sym (stage_entries s.words l v at o g))
        (each_turns s.pipes p v after q (λ r u. OnLeg u.stage (Tracked l w bits ring es (printed s))) (λ r u. OnLeg u.stage (Tracked l w now_bits now_ring es new)) i.track.track.track
        (own_stage at e o g are)
        (λ r u apart d h.
        leg_then u.stage (Tracked l w bits ring es (printed s)) (Tracked l w now_bits now_ring es new) (λ f leg k h. others at e o g are r u f leg d k h) h)))
