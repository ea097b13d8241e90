-- A packet that found its cell of the ring empty has that cell until its report is stored.
use Rattle.std.proofs.Common.{◌≡◌, ℕ, ◌+◌, ◌%◌, ◌<◌, ◌≤◌, Bool, true, false, ◌≢◌, ◌⊎◌, List, [], ◌∷◌, length, if◌then◌else◌, ◌==◌, slice_get, Some, None, Option, sym, refl, ap, ◌∙◌, subst, inl, inr, arith}
use Rattle.std.proofs.lemmas.Bool.{cases_eq, cases_lt}
use Rattle.std.proofs.lemmas.Bool.Decides.{nat_tests}
use Rattle.std.proofs.Math.Nat.{add-mod_right}
use Rattle.std.proofs.lemmas.Option.{slice_get_within}
use Rattle.sr_base.specs.Layout.{LayoutView}
use Rattle.sr_inv_facts.proofs.Lists.{ranged_at}
use Rattle.sr_inv_facts.proofs.Pipes.{each_set, each_then}
use Rattle.sr_inv_facts.proofs.Takes.{take_none, take_other, take_own}
use Rattle.sr_inv_facts.proofs.Taking.{none_reported}
use Rattle.sr_inv_facts.specs.Fitted.{IsPacket}
use Rattle.sr_inv_facts.specs.Flying.{OnLeg}
use Rattle.sr_inv_facts.specs.InFlight.{CellsFree, LegFree, LegHolds}
use Rattle.sr_inv_facts.specs.InShape.{LegFits, StageFits}
use Rattle.sr_inv_facts.specs.InWords.{HoldsReports}
use Rattle.sr_inv_facts.specs.Invariant.{Invariant}
use Rattle.sr_inv_facts.specs.Laws.{OpensWith}
use Rattle.sr_inv_facts.specs.Readings.{bit_words, ring_words}
use Rattle.sr_inv_flight.proofs.Steps.{Finds, OnOp, filtered_finds, found_or, leg_then, looked_finds, looking_finds}
use Rattle.sr_law.specs.declared.verdict.Verdict.{Verdict}
use Rattle.sr_machine.specs.Config.{Config}
use Rattle.sr_machine.specs.Core.{Core, opening}
use Rattle.sr_machine.specs.Deciding.{ring_count}
use Rattle.sr_machine.specs.Jobs.{job_op, rings_next}
use Rattle.sr_machine.specs.Keeping.{AfterJob, AfterStage, Keeps}
use Rattle.sr_machine.specs.Opening.{opening_pipes}
use Rattle.sr_machine.specs.Ops.{op_answer, op_name}
use Rattle.sr_machine.specs.Pipe.{fresh_pipe, pipe_after, pipe_op, pushed_after}
use Rattle.sr_machine.proofs.Written.{report_read}
use Rattle.sr_machine.specs.Reads.{has_bit, read_flag, read_report, says}
use Rattle.sr_machine.specs.Stages.{begun_flight, is_recorded, key_bits, key_places, last_at, last_by, leg_after, loaded, marking, ring_cell, stage_after, verdict_at}
use Rattle.sr_machine.specs.Taking.{ended_by, taking}
use Rattle.sr_machine.specs.declared.controller_view.ControllerView.{ControllerView}
use Rattle.sr_base.specs.Key.{KeyView}
use Rattle.sr_base.specs.declared.kind.Kind.{Kind}
use Rattle.sr_base.specs.declared.kind.Kind.TheVariants.{Opener, Carry, Ending}
use Rattle.sr_machine.specs.declared.flight.Flight.{Flight}
use Rattle.sr_machine.specs.declared.job.Job.{Job}
use Rattle.sr_machine.specs.declared.leg.Last.{Last}
use Rattle.sr_machine.specs.declared.leg.Leg.{Leg}
use Rattle.sr_machine.specs.declared.leg.Leg.TheVariants.{Look, Hit, Filter, Chosen, Judged}
use Rattle.sr_machine.specs.declared.leg.Load.{Load}
use Rattle.sr_machine.specs.declared.op.Op.{Op}
use Rattle.sr_machine.specs.declared.pipe_view.PipeView.{PipeView}
use Rattle.sr_machine.specs.declared.stage.Stage.{Stage}
use Rattle.sr_machine.specs.declared.stage.Stage.TheVariants.{Idle, Enter, Note, Vip, Fly, Leave}
use Rattle.sr_law.specs.declared.verdict.HeldBy.TheVariants as by
use Rattle.sr_law.specs.declared.verdict.Verdict.TheVariants as verdict
use Rattle.sr_machine.specs.declared.job.Job.TheVariants as job
use Rattle.sr_machine.specs.declared.leg.Last.TheVariants as last
use Rattle.sr_machine.specs.declared.leg.Load.TheVariants as load
use Rattle.sr_machine.specs.declared.stage.Stage.TheVariants as stage

-- ---- an empty cell is a free one

-- a ring whose next cell is empty has room
pub has_room : (l : LayoutView) (ring : ℕ → ℕ) (taken pushed : ℕ) → HoldsReports l ring taken pushed → 0 < l.shape.ring
    → ring (pushed % l.shape.ring) ≡ 0
    → pushed < taken + l.shape.ring
has_room l ring taken pushed h some empty = at (cases_lt pushed (taken + l.shape.ring))
  where
    at : (pushed < taken + l.shape.ring) ⊎ (taken + l.shape.ring ≤ pushed) → pushed < taken + l.shape.ring
    at (inl b) = b
    at (inr b) =
        let full : pushed ≡ taken + l.shape.ring = omega (arith, h.most) in
        let same : pushed % l.shape.ring ≡ taken % l.shape.ring = ap (λ n. n % l.shape.ring) full ∙ add-mod_right taken l.shape.ring in
        let r = h.there taken (omega arith) (omega arith) in
        let none : ring (taken % l.shape.ring) ≡ 0 = ap ring (sym same) ∙ empty in
        absurd (none_reported l 0 r.report refl (ap (read_report l) (sym none ∙ r.value) ∙ report_read l r.report r.is_word r.vip))

-- ---- a packet's step

-- where a leg needs no cell
early : (ring taken pushed : ℕ) (f : Flight) → Finds f (LegFree ring taken pushed)
early ring taken pushed f =
    record { look = λ place rest. tt; filter = λ bit rest. tt; held = λ why. tt; current = tt }

-- the step at the ring finds room where it finds the cell empty
abbrev FindsRoom : ℕ → ℕ → ℕ → Leg → ℕ → Type 0
FindsRoom ring taken pushed (Judged v last.Ring) x = (x == 0) ≡ true → pushed < taken + ring
FindsRoom ring taken pushed leg x = Unit {0}

module _ (l : LayoutView) (ring taken pushed : ℕ) (f : Flight) where
  loaded_free : (n : ℕ) (next : Load) (x : ℕ) → LegFree ring taken pushed (loaded l f n next x)
  loaded_free n load.Head x = tt
  loaded_free n (load.Member head) x = tt
  loaded_free n (load.Down pool server) x = at f.packet.kind (read_flag x)
    where
      at : (kind : Kind) (b : Bool) → LegFree ring taken pushed (Judged verdict.Full (last_by kind b))
      at Opener true = tt
      at Opener false = tt
      at Carry b = tt
      at Ending b = tt

  marking_free : (v : Verdict) (rest : List ℕ) → pushed < taken + ring → LegFree ring taken pushed (Judged v (marking rest))
  marking_free v [] h = h
  marking_free v (bit ∷ rest) h = h

  ring_free : (v w : Verdict) (empty : Bool) → (empty ≡ true → pushed < taken + ring) → LegFree ring taken pushed (Judged v (last_at l f w empty))
  ring_free v w true h = at (is_recorded f w)
    where
      at : (b : Bool) → LegFree ring taken pushed (Judged v (if b then marking (key_bits l f.packet.key) else last.Push))
      at true = marking_free v (key_bits l f.packet.key) (h refl)
      at false = h refl
  ring_free v w false h = tt

  last_free : (v : Verdict) (next : Last) (x : ℕ) → FindsRoom ring taken pushed (Judged v next) x → LegFree ring taken pushed (Judged v next)
      → OnLeg (leg_after l f (Judged v next) x) (λ g leg. LegFree ring taken (pushed_after (Fly f (Judged v next)) pushed) leg)
  last_free v last.Ring x r h = ring_free (verdict_at f v (x == 0)) v (x == 0) r
  last_free v (last.Mark bit rest) x r h = marking_free v rest h
  last_free v last.Push x r h = tt
  last_free v last.Out x r h = tt

  leg_free : (leg : Leg) (x : ℕ) → LegFits l f leg → FindsRoom ring taken pushed leg x → LegFree ring taken pushed leg
      → OnLeg (leg_after l f leg x) (λ g after. LegFree ring taken (pushed_after (Fly f leg) pushed) after)
  leg_free (Look place rest) x g r h =
      looked_finds l f (LegFree ring taken pushed) (early ring taken pushed f) place rest (says l place f.packet.key x) (λ n e. tt)
  leg_free (Hit place n) x g r h = found_or l f (LegFree ring taken pushed) (early ring taken pushed f) by.Clash n tt
  leg_free (Filter bit rest) x g r h =
      filtered_finds l f (LegFree ring taken pushed) (early ring taken pushed f) rest (has_bit bit x) (λ e. tt)
  leg_free (Chosen n next) x g r h = loaded_free n next x
  leg_free (Judged v next) x g r h = last_free v next x r h

-- ---- a pipe's step

module _ (s : Core) (i : Invariant s) (p : ℕ) (v : PipeView) (q : slice_get s.pipes p ≡ Some v) where
  abbrev ring : ℕ
  ring = s.config.layout.shape.ring

  abbrev taken : ℕ
  taken = (ring_count s.controller.rings p).words

  -- its next cell is empty where its step finds it so
  empty_room : (s.words (ring_cell s.config.layout v.number v.pushed) == 0) ≡ true → v.pushed < taken + ring
  empty_room e =
      let own : v.number ≡ p = i.shape.pipes.number p v q in
      let empty : s.words (ring_cell s.config.layout p v.pushed) ≡ 0 =
      ap (λ n. s.words (ring_cell s.config.layout n v.pushed)) (sym own) ∙ grind (arith, nat_tests) in
      has_room s.config.layout (ring_words s.words p) taken v.pushed (i.words.ring p v q) (omega (arith, i.shape.config.layout.ring.0)) empty

  step_room : (at : Stage) → OnOp (pipe_op s.config.layout v at) (λ o. OnLeg at (λ f leg. FindsRoom ring taken v.pushed leg (op_answer o (s.words (op_name o)))))
  step_room Idle = tt
  step_room (Fly f (Judged w last.Ring)) = empty_room
  step_room (Fly f (Chosen n load.Head)) = tt
  step_room at = tt

  stage_kept : (at : Stage) (o : Option Op) → v.stage ≡ at → CellsFree s
      → OnOp o (λ o. OnLeg at (λ f leg. FindsRoom ring taken v.pushed leg (op_answer o (s.words (op_name o)))))
      → AfterStage CellsFree s p v at o
  stage_kept at None e h g = tt
  stage_kept at (Some o) e h g =
      let l = s.config.layout in
      let x = op_answer o (s.words (op_name o)) in
      each_set s.pipes p v (pipe_after l v at x) q
      (λ n u. OnLeg u.stage (λ f leg. LegFree ring (ring_count s.controller.rings n).words u.pushed leg)) h
      (own at e (subst (λ z. OnLeg z (λ f leg. LegFree ring taken v.pushed leg)) e (h p v q)) g)
    where
      own : (at : Stage) → v.stage ≡ at → OnLeg at (λ f leg. LegFree ring taken v.pushed leg)
          → OnLeg at (λ f leg. FindsRoom ring taken v.pushed leg (op_answer o (s.words (op_name o))))
          → OnLeg (stage_after s.config.layout at (op_answer o (s.words (op_name o)))) (λ f leg. LegFree ring taken (pushed_after at v.pushed) leg)
      own (Fly f leg) e k r =
          leg_free s.config.layout ring taken v.pushed f leg (op_answer o (s.words (op_name o)))
          (subst (StageFits s.config.layout) e (i.shape.pipes.stage p v q)).1 r k
      own (Vip packet t) e k r =
          let f = begun_flight s.config.layout packet t (op_answer o (s.words (op_name o))) in
          looking_finds s.config.layout f (LegFree ring taken v.pushed) (early ring taken v.pushed f) (key_places s.config.layout packet.key)
      own Idle e k r = tt
      own (Enter packet) e k r = tt
      own (Note packet t) e k r = tt
      own (Leave f) e k r = tt

-- ---- the controller's step

-- more words were taken
more_taken : (ring taken later pushed : ℕ) → taken ≤ later → (leg : Leg) → LegFree ring taken pushed leg → LegFree ring later pushed leg
more_taken ring taken later pushed b (Judged v last.Ring) h = tt
more_taken ring taken later pushed b (Judged v (last.Mark bit rest)) h = omega (arith, b, h)
more_taken ring taken later pushed b (Judged v last.Push) h = omega (arith, b, h)
more_taken ring taken later pushed b (Judged v last.Out) h = tt
more_taken ring taken later pushed b leg h = tt

-- a take lowers no count
take_rises : (k : Config) (c : ControllerView) (ended : Option KeyView) (pipe x n : ℕ) → n < length c.rings
    → (ring_count c.rings n).words ≤ (ring_count (taking k c ended pipe x).rings n).words
take_rises k c ended pipe x n b = at (cases_eq x 0) (cases_eq n pipe)
  where
    at : (x ≡ 0) ⊎ (x ≢ 0) → (n ≡ pipe) ⊎ (n ≢ pipe) → (ring_count c.rings n).words ≤ (ring_count (taking k c ended pipe x).rings n).words
    at (inl e) w = omega (arith, ap (λ t. (ring_count t.rings n).words) (take_none k c ended pipe x e))
    at (inr e) (inr other) = omega (arith, ap (λ r. r.words) (take_other k c ended pipe x n other))
    at (inr e) (inl same) =
        subst (λ m. (ring_count c.rings m).words ≤ (ring_count (taking k c ended pipe x).rings m).words) (sym same)
        (let own : (ring_count (taking k c ended pipe x).rings pipe).words ≡ (ring_count c.rings pipe).words + 1 =
        ap (λ r. r.words) (take_own k c ended pipe x e (omega (arith, b, same))) in
        omega (arith, own))

rings_rise : (k : Config) (c : ControllerView) (j : Job) (x n : ℕ) → n < length c.rings
    → (ring_count c.rings n).words ≤ (ring_count (rings_next k c j x) n).words
rings_rise k c (job.Drain pipe count w) x n b = take_rises k c (ended_by (job.Drain pipe count w)) pipe x n b
rings_rise k c (job.Look pipe) x n b = take_rises k c None pipe x n b
rings_rise k c j x n b = omega arith

job_kept : (s : Core) (j : Job) (o : Option Op) → Invariant s → CellsFree s → AfterJob CellsFree s j o
job_kept s j None i h = tt
job_kept s j (Some o) i h =
    let x = op_answer o (s.words (op_name o)) in
    let ring = s.config.layout.shape.ring in
    each_then (λ p v. OnLeg v.stage (λ f leg. LegFree ring (ring_count s.controller.rings p).words v.pushed leg))
    (λ p v. OnLeg v.stage (λ f leg. LegFree ring (ring_count (rings_next s.config s.controller j x) p).words v.pushed leg)) s.pipes
    (λ p v r m.
    let b : p < length s.controller.rings = omega (arith, slice_get_within s.pipes p v r, i.shape.pipes.count, i.shape.controller.rings) in
    leg_then v.stage (λ f leg. LegFree ring (ring_count s.controller.rings p).words v.pushed leg)
    (λ f leg. LegFree ring (ring_count (rings_next s.config s.controller j x) p).words v.pushed leg)
    (λ f leg e k.
    more_taken ring (ring_count s.controller.rings p).words (ring_count (rings_next s.config s.controller j x) p).words v.pushed
    (rings_rise s.config s.controller j x p b) leg k) m) h

-- ---- every event

pub cells_keep : Keeps IsPacket Invariant CellsFree
cells_keep = record {
  stages = λ s p v at q e i h. stage_kept s i p v q at (pipe_op s.config.layout v at) e h (step_room s i p v q at);
  begins = λ s i h. h;
  jobs = λ s j q b i h. job_kept s j (job_op s.config s.controller j) i h;
  enters = λ s p v packet q r u n a i h.
      each_set s.pipes p v (record v { stage = stage.Enter packet }) q
      (λ n u. OnLeg u.stage (λ f leg. LegFree s.config.layout.shape.ring (ring_count s.controller.rings n).words u.pushed leg)) h tt;
  clocks = λ s ms q i h. h;
  refusals = λ s q i h. h;
}

pub cells_part : (s : Core) → Invariant s → CellsFree s
cells_part s i p v q =
    leg_then v.stage (LegHolds s.config (bit_words s.words) s.controller.named s.controller.numbers s.controller.rings s.controller.job p v.pushed)
    (λ f leg. LegFree s.config.layout.shape.ring (ring_count s.controller.rings p).words v.pushed leg) (λ f leg e h. h.cell)
    (i.flight.legs p v q)

pub cells_open : OpensWith CellsFree
unfolding opening_pipes
cells_open k f p v e =
    subst (λ u. OnLeg u.stage (λ f leg. LegFree k.layout.shape.ring (ring_count (opening k).controller.rings p).words u.pushed leg))
    (sym (ranged_at fresh_pipe 0 k.layout.shape.pipes p v e)) tt
