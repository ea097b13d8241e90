-- What each slot and row holds, by the book and the job.
use Rattle.std.proofs.Common.{◌≡◌, ℕ, Bool, true, false, ◌≢◌, if◌then◌else◌, sym, refl, ap, ◌∙◌, subst}
use Rattle.sr_base.proofs.Sameness.{same_place-self, same_place-true}
use Rattle.sr_base.specs.Layout.{LayoutView}
use Rattle.sr_base.specs.Place.{same_place}
use Rattle.sr_base.specs.declared.place.Place.{Place}
use Rattle.sr_inv_facts.proofs.Books.{found_key}
use Rattle.sr_inv_facts.specs.Doing.{OnReserved}
use Rattle.sr_inv_facts.specs.InJobs.{JobHolds, seen}
use Rattle.sr_inv_facts.specs.InWords.{job_word}
use Rattle.sr_inv_facts.specs.Invariant.{Invariant}
use Rattle.sr_inv_facts.specs.Readings.{entry_words}
use Rattle.sr_inv_matching.proofs.Saying.{held_word_is, reserved_is, unheld_word_is}
use Rattle.sr_inv_table.specs.Standing.{IsUntouched, OnEmptied, TableHolds}
use Rattle.sr_machine.specs.Core.{Core, printed}
use Rattle.sr_machine.specs.Reads.{live_word, reserved_word}
use Rattle.sr_machine.specs.declared.job.Job.{Job}
use Rattle.sr_machine.specs.declared.draw.Draw.TheVariants as draw
use Rattle.sr_machine.specs.declared.job.Job.TheVariants as job
use Rattle.sr_machine.specs.declared.store.Store.TheVariants as store
use Rattle.sr_machine.specs.declared.wait.Wait.TheVariants as wait
use Rattle.sr_machine.specs.declared.why.Why.TheVariants as why

module _ (s : Core) (i : Invariant s) where
  abbrev l : LayoutView
  l = s.config.layout

  abbrev w : Place → ℕ
  w = entry_words s.words

  -- what the job stands on
  stands : (j : Job) → s.controller.job ≡ j → JobHolds s.config (seen s.controller) (printed s) j
  stands j e = subst (JobHolds s.config (seen s.controller) (printed s)) e i.jobs.holds.stands

  reserved : (j : Job) → s.controller.job ≡ j → OnReserved j (λ q. w q.place ≡ reserved_word l q.place q.key)
  reserved (job.Draw (draw.Grace (wait.Judge q))) e = reserved_is s i q (job.Draw (draw.Grace (wait.Judge q))) e (stands (job.Draw (draw.Grace (wait.Judge q))) e).0 refl
  reserved (job.Pass g n (wait.Judge q)) e = reserved_is s i q (job.Pass g n (wait.Judge q)) e (stands (job.Pass g n (wait.Judge q)) e).0 refl
  reserved (job.Drain n c (wait.Judge q)) e = reserved_is s i q (job.Drain n c (wait.Judge q)) e (stands (job.Drain n c (wait.Judge q)) e).0 refl
  reserved (job.Store (store.Judge q)) e = reserved_is s i q (job.Store (store.Judge q)) e (stands (job.Store (store.Judge q)) e).0 refl
  reserved j e = tt

  over : (j : Job) → s.controller.job ≡ j → OnEmptied j (λ key place version. w place ≡ live_word l place key version)
  over (job.Store (store.Empty key place (why.Retired version))) e =
      let j = job.Store (store.Empty key place (why.Retired version)) in
      unheld_word_is s i place j e (stands j e).0.free ∙ ap (λ b. if b then live_word l place key version else 0) (same_place-self place)
  over j e = tt

  apart_word : (at place : Place) (x : ℕ) → place ≢ at → (if same_place at place then x else 0) ≡ 0
  apart_word at place x apart = by (same_place at place) refl
    where
      by : (b : Bool) → same_place at place ≡ b → (if b then x else 0) ≡ 0
      by true e = absurd (apart (sym (same_place-true at place e)))
      by false e = refl

  untouched : (place : Place) (j : Job) → IsUntouched j place → job_word l place j ≡ 0
  untouched place (job.Draw (draw.Grace (wait.Judge q))) h = apart_word q.place place (reserved_word l q.place q.key) h.0
  untouched place (job.Pass g n (wait.Judge q)) h = apart_word q.place place (reserved_word l q.place q.key) h.0
  untouched place (job.Drain n c (wait.Judge q)) h = apart_word q.place place (reserved_word l q.place q.key) h.0
  untouched place (job.Store (store.Judge q)) h = apart_word q.place place (reserved_word l q.place q.key) h.0
  untouched place (job.Store (store.Empty key at (why.Retired version))) h = apart_word at place (live_word l at key version) h.1
  untouched place j h = refl

pub table : (s : Core) → Invariant s → TableHolds s
table s i = record {
  live = λ key e place q h.
      held_word_is s i key e place q h
      ∙ ap (λ k. live_word s.config.layout place k e.version) (sym (found_key key s.controller.book.entries e q));
  reserved = reserved s i s.controller.job refl;
  over = over s i s.controller.job refl;
  empty = λ place none h.
      unheld_word_is s i place s.controller.job refl none ∙ untouched s i place s.controller.job h;
}
