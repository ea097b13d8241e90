-- Every event keeps the whole invariant, and so every run does.
use Rattle.std.proofs.Common.{◌≡◌, false, List, [], ◌∷◌, Some, None, Option, option_and_then, refl, subst}
use Rattle.std.proofs.lemmas.Option.{same_Some}
use Rattle.std.specs.List.{AllByRecursion}
use Rattle.sr_inv.proofs.Causes.{causes_begun, causes_event, causes_open, causes_put}
use Rattle.sr_inv_facts.proofs.Keeping.{begun_keeps, events_keep}
use Rattle.sr_inv_facts.specs.Fitted.{IsFitted, IsPacket}
use Rattle.sr_inv_facts.specs.InFilter.{InFilter}
use Rattle.sr_inv_facts.specs.InFlight.{InFlight}
use Rattle.sr_inv_facts.specs.InHeld.{InHeld}
use Rattle.sr_inv_facts.specs.InJobs.{InJobs, PutHolds}
use Rattle.sr_inv_facts.specs.InMatching.{IsClearPut}
use Rattle.sr_inv_facts.specs.InShape.{InShape}
use Rattle.sr_inv_facts.specs.InTicks.{InTicks}
use Rattle.sr_inv_facts.specs.InUpdate.{ChangesKept, PhasesHold, VersionsKept}
use Rattle.sr_inv_facts.specs.InWords.{InWords}
use Rattle.sr_inv_facts.specs.Invariant.{Invariant}
use Rattle.sr_inv_facts.specs.Laws.{BegunKeeps, EventsKeep, OpensWith}
use Rattle.sr_inv_filter.proofs.FilterKept.{filter_keep, filter_open, filter_part, filter_put}
use Rattle.sr_inv_flight.proofs.FlightsKept.{flights_keep, flights_open, flights_part, flights_put}
use Rattle.sr_inv_held.proofs.HeldsKept.{helds_keep, helds_open}
use Rattle.sr_inv_jobs.proofs.JobsKept.{jobs_keep, jobs_put}
use Rattle.sr_inv_jobs.proofs.JobsOpen.{jobs_open}
use Rattle.sr_inv_matching.proofs.MatchingKept.{matching_begun, matching_events, matching_opens, matching_put}
use Rattle.sr_inv_openings.proofs.OpeningsKept.{openings_begun, openings_event, openings_open, openings_put}
use Rattle.sr_inv_quiet.proofs.SweepsKept.{sweeps_begun, sweeps_event, sweeps_open, sweeps_put}
use Rattle.sr_inv_shape.proofs.ShapesKept.{shapes_keep, shapes_put}
use Rattle.sr_inv_shape.proofs.ShapesOpen.{shapes_open}
use Rattle.sr_inv_track.proofs.TrackKept.{track_begun, track_events, track_opens}
use Rattle.sr_inv_update.proofs.ChangeEvents.{changes_keep, changes_open, changes_put}
use Rattle.sr_inv_update.proofs.PhasesKept.{phases_keep, phases_open, phases_put}
use Rattle.sr_inv_update.proofs.VersionEvents.{versions_keep, versions_open, versions_put}
use Rattle.sr_inv_words.proofs.TicksKept.{ticks_keep, ticks_put}
use Rattle.sr_inv_words.proofs.TicksOpen.{ticks_open}
use Rattle.sr_inv_words.proofs.WordsKept.{words_keep, words_put}
use Rattle.sr_inv_words.proofs.WordsOpen.{words_open}
use Rattle.sr_machine.specs.Config.{Config}
use Rattle.sr_machine.specs.Core.{Core, opening, run, step_event}
use Rattle.sr_machine.specs.Keeping.{Brings}
use Rattle.sr_machine.specs.declared.event.Event.{Event}
use Rattle.sr_machine.specs.declared.job.Job.TheVariants.{Free}
use Rattle.sr_inv_facts.specs.Putting.{put_core}
use Rattle.sr_machine.specs.declared.put.Put.{Put}

filter_begun : BegunKeeps InFilter
filter_begun = begun_keeps InFilter filter_part filter_keep

filter_event : EventsKeep InFilter
filter_event = events_keep InFilter filter_part filter_keep

pub invariant_open : OpensWith Invariant
invariant_open k f = record {
  shape = shapes_open k f;
  words = words_open k f;
  ticks = ticks_open k f;
  update = record { update = phases_open k f; versions = versions_open k f; changes = changes_open k f };
  jobs = jobs_open k f;
  flight = flights_open k f;
  matching = matching_opens k f;
  filter = filter_open k f;
  openings = openings_open k f;
  track = track_opens k f;
  held = helds_open k f;
  sweeps = sweeps_open k f;
  causes = causes_open k f;
}

pub invariant_begun : BegunKeeps Invariant
invariant_begun s i = record {
  shape = begun_keeps InShape (λ s i. i.shape) shapes_keep s i;
  words = begun_keeps InWords (λ s i. i.words) words_keep s i;
  ticks = begun_keeps InTicks (λ s i. i.ticks) ticks_keep s i;
  update = record {
    update = begun_keeps PhasesHold (λ s i. i.update.update) phases_keep s i;
    versions = begun_keeps VersionsKept (λ s i. i.update.versions) versions_keep s i;
    changes = begun_keeps ChangesKept (λ s i. i.update.changes) changes_keep s i;
  };
  jobs = begun_keeps InJobs (λ s i. i.jobs) jobs_keep s i;
  flight = begun_keeps InFlight flights_part flights_keep s i;
  matching = matching_begun s i;
  filter = filter_begun s i;
  openings = openings_begun s i;
  track = track_begun s i;
  held = begun_keeps InHeld (λ s i. i.held) helds_keep s i;
  sweeps = sweeps_begun s i;
  causes = causes_begun s i;
}

pub invariant_event : EventsKeep Invariant
invariant_event s t e h a q = record {
  shape = events_keep InShape (λ s i. i.shape) shapes_keep s t e h a q;
  words = events_keep InWords (λ s i. i.words) words_keep s t e h a q;
  ticks = events_keep InTicks (λ s i. i.ticks) ticks_keep s t e h a q;
  update = record {
    update = events_keep PhasesHold (λ s i. i.update.update) phases_keep s t e h a q;
    versions = events_keep VersionsKept (λ s i. i.update.versions) versions_keep s t e h a q;
    changes = events_keep ChangesKept (λ s i. i.update.changes) changes_keep s t e h a q;
  };
  jobs = events_keep InJobs (λ s i. i.jobs) jobs_keep s t e h a q;
  flight = events_keep InFlight flights_part flights_keep s t e h a q;
  matching = matching_events s t e h a q;
  filter = filter_event s t e h a q;
  openings = openings_event s t e h a q;
  track = track_events s t e h a q;
  held = events_keep InHeld (λ s i. i.held) helds_keep s t e h a q;
  sweeps = sweeps_event s t e h a q;
  causes = causes_event s t e h a q;
}

-- ---- a put, whoever chose its place

pub put_meets : (s : Core) (p : Put) → s.controller.job ≡ Free → s.controller.refusing ≡ false
    → PutHolds s.config.layout.shape s.controller.book.entries s.controller.held p
    → IsClearPut s.config.layout.shape s.controller.book.entries p
    → Invariant s
    → Invariant (put_core s p)
put_meets s p free calm put clear i = record {
  shape = shapes_put s p free i.shape;
  words = words_put s p free i.words;
  ticks = ticks_put s p free i.ticks;
  update = record {
    update = phases_put s p free i.update.update;
    versions = versions_put s p free i;
    changes = changes_put s p free calm i;
  };
  jobs = jobs_put s p free put i;
  flight = flights_put s p free i;
  matching = matching_put s p free clear i;
  filter = filter_put s p free i;
  openings = openings_put s p free i;
  track = record { track = record { track = i.track.track.track } };
  held = record { held = i.held.held };
  sweeps = sweeps_put s p free i;
  causes = causes_put s p i;
}

-- ---- runs

-- an event leads from a state that meets it to one that does
pub event_meets : (s t : Core) (e : Event) → Invariant s → Brings IsPacket e → step_event e s ≡ Some t → Invariant t
event_meets s t e i a q = invariant_event s t e (record { now = i; begun = invariant_begun s i }) a q

-- so do more of them
pub run_meets : (events : List Event) (s t : Core) → AllByRecursion (Brings IsPacket) events → run events s ≡ Some t → Invariant s
    → Invariant t
run_meets [] s t a q i = subst Invariant (same_Some s t q) i
run_meets (e ∷ rest) s t a q i = by (step_event e s) refl q (λ u. run_meets rest u t a.1)
  where
    by : (o : Option Core) → step_event e s ≡ o → option_and_then (run rest) o ≡ Some t
        → ((u : Core) → run rest u ≡ Some t → Invariant u → Invariant t)
        → Invariant t
    by None r g more = cc
    by (Some u) r g more = more u g (event_meets s u e i a.0 r)

pub reached_meets : (k : Config) → IsFitted k → (events : List Event) (s : Core) → AllByRecursion (Brings IsPacket) events
    → run events (opening k) ≡ Some s
    → Invariant s
reached_meets k f events s a q = run_meets events (opening k) s a q (invariant_open k f)
