-- Every event keeps that packets are on track.
use Rattle.std.proofs.Common.{◌≡◌, ℕ, List, slice_set, None, sym, refl, subst, inl, inr}
use Rattle.sr_inv_facts.proofs.Lists.{ranged_at}
use Rattle.sr_inv_facts.proofs.Pipes.{each_set}
use Rattle.sr_inv_facts.proofs.Printing.{job_tells, pipe_silent, stage_prints}
use Rattle.sr_inv_facts.proofs.Taking.{takes}
use Rattle.sr_inv_facts.specs.Fitted.{IsPacket}
use Rattle.sr_inv_facts.specs.Flying.{OnLeg}
use Rattle.sr_inv_facts.specs.InJobs.{JobHolds, seen}
use Rattle.sr_inv_facts.specs.InShape.{JobFits}
use Rattle.sr_inv_facts.specs.Invariant.{Invariant}
use Rattle.sr_inv_facts.specs.Laws.{BegunKeeps, EventsKeep, OpensWith}
use Rattle.sr_inv_facts.specs.OnTrack.{IsKnown, OnTrack}
use Rattle.sr_base.specs.Key.{KeyView}
use Rattle.sr_law.specs.declared.line.Line.{Line}
use Rattle.sr_shadow.specs.Book.{with_changed}
use Rattle.sr_inv_facts.specs.Readings.{EachPipe, bit_words, entry_words, ring_words}
use Rattle.sr_inv_facts.proofs.Keeping.{begun_keeps, events_keep}
use Rattle.sr_inv_matching.proofs.Reports.{rings_job, rings_stage}
use Rattle.sr_inv_track.proofs.JobTracks.{cleared_else, frame, knows_changed, knows_self, knows_take, knows_without}
use Rattle.sr_inv_track.proofs.LiveTracks.{judged_tracks}
use Rattle.sr_inv_track.proofs.StageTracks.{Tracked, Tracks, stage_tracks}
use Rattle.sr_inv_track.proofs.StoreTracks.{emptied_tracks, free_unstood, reserved_tracks, source_unstood}
use Rattle.sr_machine.specs.Core.{Core, opening, printed}
use Rattle.sr_machine.specs.Deciding.{is_withdrawn}
use Rattle.sr_machine.specs.Jobs.{job_op}
use Rattle.sr_machine.specs.Keeping.{AfterJob, Keeps}
use Rattle.sr_machine.specs.Opening.{opening_pipes}
use Rattle.sr_machine.specs.Pipe.{fresh_pipe, pipe_op}
use Rattle.sr_machine.specs.Reads.{read_flag}
use Rattle.sr_machine.specs.Taking.{ended_by}
use Rattle.sr_machine.specs.declared.job.Job.{Job}
use Rattle.sr_machine.specs.declared.pipe_view.PipeView.{PipeView}
use Rattle.sr_shadow.specs.Entry.{left_other, swept}
use Rattle.sr_machine.specs.declared.draw.Draw.TheVariants as draw
use Rattle.sr_machine.specs.declared.job.Job.TheVariants as job
use Rattle.sr_machine.specs.declared.stage.Stage.TheVariants as stage
use Rattle.sr_machine.specs.declared.store.Store.TheVariants as store
use Rattle.sr_machine.specs.declared.why.Why.TheVariants as why

module _ (s : Core) (i : Invariant s) where
  holds : (j : Job) → s.controller.job ≡ j → JobHolds s.config (seen s.controller) (printed s) j
  holds j e = subst (JobHolds s.config (seen s.controller) (printed s)) e i.jobs.holds.stands

  -- an entry that leaves a place keeps its version
  left_known : (of key : KeyView) (n : ℕ) → IsKnown s.config.layout (ring_words s.words) (with_changed left_other of s.controller.book.entries) key n
      → IsKnown s.config.layout (ring_words s.words) s.controller.book.entries key n
  left_known of key n (inl (x, found, v)) =
      subst (IsKnown s.config.layout (ring_words s.words) s.controller.book.entries key) v (knows_changed s i left_other (λ e. refl) (λ e. refl) of key x found)
  left_known of key n (inr learn) = inr learn

  job_kept : (j : Job) → s.controller.job ≡ j → AfterJob Tracks s j (job_op s.config s.controller j)
  job_kept job.Free e = tt
  job_kept (job.Drain pipe count wt) e =
      frame s i (job.Drain pipe count wt) (job_op s.config s.controller (job.Drain pipe count wt)) (job_tells s (job.Drain pipe count wt) i.ticks) (rings_job s (job.Drain pipe count wt)) refl (inl refl)
      (knows_take s i (ended_by (job.Drain pipe count wt)) pipe _ _ (takes s.config s.controller (ended_by (job.Drain pipe count wt)) pipe _).book)
  job_kept (job.Look pipe) e =
      frame s i (job.Look pipe) (job_op s.config s.controller (job.Look pipe)) (job_tells s (job.Look pipe) i.ticks) (rings_job s (job.Look pipe)) refl (inl refl)
      (knows_take s i None pipe _ _ (takes s.config s.controller None pipe _).book)
  job_kept (job.Hit from ms key at n) e =
      frame s i (job.Hit from ms key at n) (job_op s.config s.controller (job.Hit from ms key at n)) (job_tells s (job.Hit from ms key at n) i.ticks) (rings_job s (job.Hit from ms key at n)) refl (inl refl)
      (knows_changed s i (swept (read_flag _)) (λ e. refl) (λ e. refl) key)
  job_kept (job.Draw (draw.Retired key at n)) e =
      frame s i (job.Draw (draw.Retired key at n)) (job_op s.config s.controller (job.Draw (draw.Retired key at n))) (job_tells s (job.Draw (draw.Retired key at n)) i.ticks) (rings_job s (job.Draw (draw.Retired key at n))) refl (inl refl)
      (knows_without s i key)
  job_kept (job.Store (store.Filter u index)) e =
      frame s i (job.Store (store.Filter u index)) (job_op s.config s.controller (job.Store (store.Filter u index))) (job_tells s (job.Store (store.Filter u index)) i.ticks) (rings_job s (job.Store (store.Filter u index))) refl
      (inr (cleared_else s i u index e)) (knows_self s i)
  job_kept (job.Store (store.Reserved y)) e = reserved_tracks s i y e
  job_kept (job.Store (store.Judge y)) e = judged_tracks s i y e (is_withdrawn s.config s.controller y) refl
  job_kept (job.Store (store.Empty key at why.Source)) e =
      let h = holds (job.Store (store.Empty key at why.Source)) e in
      emptied_tracks s i at (job.Store (store.Empty key at why.Source)) e (λ p entered key z. z) (source_unstood s i at key h.0 h.1 h.3) _ (left_known key)
  job_kept (job.Store (store.Empty key at (why.Retired n))) e =
      let h = holds (job.Store (store.Empty key at (why.Retired n))) e in
      emptied_tracks s i at (job.Store (store.Empty key at (why.Retired n))) e (λ p entered key z. z) (free_unstood s i at h.0.free) _ (left_known key)
  job_kept (job.Store (store.Empty key at (why.Withdrawn r))) e = absurd (subst (JobFits s.config.layout) e i.shape.controller.job)
  job_kept j e =
      frame s i j (job_op s.config s.controller j) (job_tells s j i.ticks) (rings_job s j) refl (inl refl) (knows_self s i)

pub tracks_keep : Keeps IsPacket Invariant Tracks
tracks_keep = record {
  stages = λ s p v at q e i h.
      stage_tracks s i p v q at e (pipe_op s.config.layout v at) refl (rings_stage s i p v q at e) (stage_prints s p v at i.ticks q);
  begins = λ s i h. h;
  jobs = λ s j q b i h. job_kept s i j q;
  enters = λ s p v packet q r u n a i h.
      let w : PipeView = record v { stage = stage.Enter packet } in
      let P : List Line → ℕ → PipeView → Type 0 =
      λ z p v. OnLeg v.stage (Tracked s.config.layout (entry_words s.words) (bit_words s.words) (ring_words s.words) s.controller.book.entries z) in
      subst (λ z. EachPipe (P z) (slice_set s.pipes p w)) (sym (pipe_silent s p v w q refl s.words)) (each_set s.pipes p v w q (P (printed s)) h tt);
  clocks = λ s ms q i h. h;
  refusals = λ s q i h. h;
}

pub tracks_open : OpensWith Tracks
unfolding opening_pipes
tracks_open k f p v e =
    let s = opening k in
    subst (λ u. OnLeg u.stage (Tracked s.config.layout (entry_words s.words) (bit_words s.words) (ring_words s.words) s.controller.book.entries (printed s)))
    (sym (ranged_at fresh_pipe 0 k.layout.shape.pipes p v e)) tt

-- ---- the family

pub track_opens : OpensWith OnTrack
track_opens k f = record { track = record { track = tracks_open k f } }

pub track_begun : BegunKeeps OnTrack
track_begun s i = record { track = record { track = begun_keeps Tracks (λ s i. i.track.track.track) tracks_keep s i } }

pub track_events : EventsKeep OnTrack
track_events s t e h a q = record { track = record { track = events_keep Tracks (λ s i. i.track.track.track) tracks_keep s t e h a q } }
