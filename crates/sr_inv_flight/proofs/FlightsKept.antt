-- The parts of what is said of packets in flight are all of it.
use Rattle.std.proofs.Common.{◌≡◌, ℕ, true, slice_set, Some, None, Option}
use Rattle.sr_inv_facts.specs.Fitted.{IsPacket}
use Rattle.sr_inv_facts.specs.Flying.{OnFlight, OnLeg, OnNumber}
use Rattle.sr_inv_facts.specs.InFlight.{CellsFree, ChoicesHold, Chooses, FiltersSet, FlightHolds, HasWord, InFlight, LegFree, LegHolds, LegSet, LegTells, NumbersUsed, OverKeyed, PhasesKnown, ReleasesPassed, ServersTold, Unreleased, WordKnown, WordsLoaded}
use Rattle.sr_inv_facts.specs.InUpdate.{is_used}
use Rattle.sr_inv_facts.specs.Invariant.{Invariant}
use Rattle.sr_inv_facts.specs.Laws.{OpensWith}
use Rattle.sr_inv_facts.specs.Readings.{bit_words}
use Rattle.sr_inv_flight.proofs.Cells.{cells_keep, cells_open, cells_part}
use Rattle.sr_inv_flight.proofs.Choosing.{choices_keep, choices_open, choices_part}
use Rattle.sr_inv_flight.proofs.FilterPlaces.{filters_keep, filters_open, filters_part}
use Rattle.sr_inv_flight.proofs.KnownPhases.{known_keep, known_open, known_part}
use Rattle.sr_inv_flight.proofs.LoadedServers.{servers_keep, servers_open, servers_part}
use Rattle.sr_inv_flight.proofs.LoadedWords.{words_keep, words_open, words_part, words_put}
use Rattle.sr_inv_flight.proofs.OverKeys.{over_keep, over_open, over_part}
use Rattle.sr_inv_flight.proofs.ReleasesPass.{releases_keep, releases_open, releases_part, releases_put}
use Rattle.sr_inv_flight.proofs.UsedNumbers.{used_keep, used_open, used_part}
use Rattle.sr_machine.specs.Core.{Core, opening, printed}
use Rattle.sr_machine.specs.Deciding.{ring_count}
use Rattle.sr_machine.specs.Jobs.{job_op}
use Rattle.sr_machine.specs.Keeping.{AfterJob, AfterStage, Keeps, begun_core, job_core, stage_core}
use Rattle.sr_machine.specs.Pipe.{pipe_op}
use Rattle.sr_machine.specs.declared.job.Job.{Job}
use Rattle.sr_machine.specs.declared.pipe_view.PipeView.{PipeView}
use Rattle.sr_machine.specs.declared.stage.Stage.{Stage}
use Rattle.sr_machine.specs.declared.stage.Stage.TheVariants.{Enter, Fly}
use Rattle.sr_machine.specs.declared.op.Op.{Op}
use Rattle.sr_inv_facts.specs.Putting.{put_core}
use Rattle.sr_machine.specs.declared.put.Put.{Put}
use Rattle.sr_machine.specs.declared.job.Job.TheVariants.{Free}

record Parts (s : Core) : Type 0 where
  words : WordsLoaded s
  known : PhasesKnown s
  choices : ChoicesHold s
  filters : FiltersSet s
  servers : ServersTold s
  cells : CellsFree s
  used : NumbersUsed s
  releases : ReleasesPassed s
  over : OverKeyed s

-- the parts of each packet
whole : (s : Core) → Parts s → InFlight s
whole s h = record { flights = λ p v q. flight p v v.stage (h.words p v q) (h.known p v q); legs = λ p v q. leg p v v.stage (h.choices p v q) (h.filters p v q) (h.servers p v q) (h.cells p v q) (h.used p v q) (h.releases p v q); over = h.over }
  where
    flight : (p : ℕ) (v : PipeView) (at : Stage) → OnFlight at (HasWord s.controller.vips s.controller.job p)
        → OnFlight at (λ f. WordKnown (printed s) f.packet.key.vip f.entered f.vip.phase)
        → OnFlight at (FlightHolds s.controller.vips s.controller.job (printed s) p)
    flight p v (Fly f leg) a b = record { word = a; known = b }
    flight p v at a b = tt

    leg : (p : ℕ) (v : PipeView) (at : Stage) → OnLeg at Chooses → OnLeg at (LegSet s.config.layout (bit_words s.words))
        → OnLeg at (λ f leg. LegTells s.config s.controller.named f.packet.key leg)
        → OnLeg at (λ f leg. LegFree s.config.layout.shape.ring (ring_count s.controller.rings p).words v.pushed leg)
        → OnLeg at (λ f leg. OnNumber leg (λ version. is_used s.controller.numbers f.packet.key.vip version ≡ true))
        → OnLeg at (Unreleased s.controller.job p)
        → OnLeg at (LegHolds s.config (bit_words s.words) s.controller.named s.controller.numbers s.controller.rings s.controller.job p v.pushed)
    leg p v (Fly f at) a b c d e g =
        record { choice = a.choice; held = a.held; set = b; server = c; cell = d; used = e; release = g }
    leg p v at a b c d e g = tt

parts : (s : Core) → Invariant s → Parts s
parts s i = record {
  words = words_part s i;
  known = known_part s i;
  choices = choices_part s i;
  filters = filters_part s i;
  servers = servers_part s i;
  cells = cells_part s i;
  used = used_part s i;
  releases = releases_part s i;
  over = over_part s i;
}

stage_whole : (s : Core) (p : ℕ) (v : PipeView) (at : Stage) (o : Option Op) → AfterStage WordsLoaded s p v at o → AfterStage PhasesKnown s p v at o
    → AfterStage ChoicesHold s p v at o → AfterStage FiltersSet s p v at o → AfterStage ServersTold s p v at o → AfterStage CellsFree s p v at o
    → AfterStage NumbersUsed s p v at o → AfterStage ReleasesPassed s p v at o → AfterStage OverKeyed s p v at o
    → AfterStage InFlight s p v at o
stage_whole s p v at None a b c d e f g h k = tt
stage_whole s p v at (Some o) a b c d e f g h k =
    whole (stage_core s p v at o) (record { words = a; known = b; choices = c; filters = d; servers = e; cells = f; used = g; releases = h; over = k })

job_whole : (s : Core) (j : Job) (o : Option Op) → AfterJob WordsLoaded s j o → AfterJob PhasesKnown s j o → AfterJob ChoicesHold s j o
    → AfterJob FiltersSet s j o → AfterJob ServersTold s j o → AfterJob CellsFree s j o → AfterJob NumbersUsed s j o
    → AfterJob ReleasesPassed s j o → AfterJob OverKeyed s j o
    → AfterJob InFlight s j o
job_whole s j None a b c d e f g h k = tt
job_whole s j (Some o) a b c d e f g h k =
    whole (job_core s j o) (record { words = a; known = b; choices = c; filters = d; servers = e; cells = f; used = g; releases = h; over = k })

pub flights_keep : Keeps IsPacket Invariant InFlight
flights_keep = record {
  stages = λ s p v at q e i h.
      stage_whole s p v at (pipe_op s.config.layout v at) (words_keep.stages s p v at q e i (words_part s i)) (known_keep.stages s p v at q e i (known_part s i))
      (choices_keep.stages s p v at q e i (choices_part s i)) (filters_keep.stages s p v at q e i (filters_part s i))
      (servers_keep.stages s p v at q e i (servers_part s i)) (cells_keep.stages s p v at q e i (cells_part s i))
      (used_keep.stages s p v at q e i (used_part s i)) (releases_keep.stages s p v at q e i (releases_part s i))
      (over_keep.stages s p v at q e i (over_part s i));
  begins = λ s i h. whole (begun_core s) (record {
    words = words_keep.begins s i (words_part s i);
    known = known_keep.begins s i (known_part s i);
    choices = choices_keep.begins s i (choices_part s i);
    filters = filters_keep.begins s i (filters_part s i);
    servers = servers_keep.begins s i (servers_part s i);
    cells = cells_keep.begins s i (cells_part s i);
    used = used_keep.begins s i (used_part s i);
    releases = releases_keep.begins s i (releases_part s i);
    over = over_keep.begins s i (over_part s i);
  });
  jobs = λ s j q b i h.
      job_whole s j (job_op s.config s.controller j) (words_keep.jobs s j q b i (words_part s i)) (known_keep.jobs s j q b i (known_part s i))
      (choices_keep.jobs s j q b i (choices_part s i)) (filters_keep.jobs s j q b i (filters_part s i))
      (servers_keep.jobs s j q b i (servers_part s i)) (cells_keep.jobs s j q b i (cells_part s i))
      (used_keep.jobs s j q b i (used_part s i)) (releases_keep.jobs s j q b i (releases_part s i))
      (over_keep.jobs s j q b i (over_part s i));
  enters = λ s p v packet q r u n a i h. whole (record s { pipes = slice_set s.pipes p (record v { stage = Enter packet }) }) (record {
    words = words_keep.enters s p v packet q r u n a i (words_part s i);
    known = known_keep.enters s p v packet q r u n a i (known_part s i);
    choices = choices_keep.enters s p v packet q r u n a i (choices_part s i);
    filters = filters_keep.enters s p v packet q r u n a i (filters_part s i);
    servers = servers_keep.enters s p v packet q r u n a i (servers_part s i);
    cells = cells_keep.enters s p v packet q r u n a i (cells_part s i);
    used = used_keep.enters s p v packet q r u n a i (used_part s i);
    releases = releases_keep.enters s p v packet q r u n a i (releases_part s i);
    over = over_keep.enters s p v packet q r u n a i (over_part s i);
  });
  clocks = λ s ms q i h. record { flights = h.flights; legs = h.legs; over = h.over };
  refusals = λ s q i h. record { flights = h.flights; legs = h.legs; over = h.over };
}

pub flights_put : (s : Core) (p : Put) → s.controller.job ≡ Free → Invariant s → InFlight (put_core s p)
flights_put s p free i = whole (put_core s p) (record {
  words = words_put s p free i;
  known = known_part s i;
  choices = choices_part s i;
  filters = filters_part s i;
  servers = servers_part s i;
  cells = cells_part s i;
  used = used_part s i;
  releases = releases_put s p (releases_part s i);
  over = tt;
})

pub flights_part : (s : Core) → Invariant s → InFlight s
flights_part s i = i.flight

pub flights_open : OpensWith InFlight
flights_open k f = whole (opening k) (record {
  words = words_open k f;
  known = known_open k f;
  choices = choices_open k f;
  filters = filters_open k f;
  servers = servers_open k f;
  cells = cells_open k f;
  used = used_open k f;
  releases = releases_open k f;
  over = over_open k f;
})
