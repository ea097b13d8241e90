-- No sweep goes by an entry that stands nowhere: every event keeps it.
use Rattle.sr_base.proofs.Sameness.{same_key-true}
use Rattle.sr_base.specs.Key.{KeyView}
use Rattle.sr_base.specs.declared.place.Place.{Place}
use Rattle.sr_inv_facts.proofs.Books.{changed_all}
use Rattle.sr_inv_facts.proofs.Lists.{all_filtered, all_in, all_more, all_to_in}
use Rattle.sr_inv_facts.proofs.Taking.{TakesBook, takes}
use Rattle.sr_inv_facts.specs.Fitted.{IsPacket}
use Rattle.sr_inv_facts.specs.InJobs.{JobHolds, seen}
use Rattle.sr_inv_facts.specs.InSweeps.{UnplacedAre, UnplacedFresh}
use Rattle.sr_inv_facts.specs.Invariant.{Invariant}
use Rattle.sr_inv_facts.specs.Laws.{OpensWith}
use Rattle.sr_inv_facts.specs.Readings.{In}
use Rattle.sr_inv_matching.proofs.Members.{in_own}
use Rattle.sr_machine.specs.Core.{Core, printed}
use Rattle.sr_machine.specs.Deciding.{is_withdrawn, version_for}
use Rattle.sr_machine.specs.Jobs.{book_next, job_op, judged_book}
use Rattle.sr_machine.specs.Keeping.{AfterJob, AfterStage, Keeps}
use Rattle.sr_machine.specs.Opening.{opening_controller}
use Rattle.sr_machine.specs.Ops.{op_answer, op_name}
use Rattle.sr_machine.specs.Pipe.{pipe_op}
use Rattle.sr_machine.specs.Reads.{read_flag}
use Rattle.sr_machine.specs.Taking.{ended_by, taking}
use Rattle.sr_machine.specs.declared.job.Job.{Job}
use Rattle.sr_machine.specs.declared.op.Op.{Op}
use Rattle.sr_machine.specs.declared.pipe_view.PipeView.{PipeView}
use Rattle.sr_machine.specs.declared.put.Put.{Put}
use Rattle.sr_machine.specs.declared.stage.Stage.{Stage}
use Rattle.sr_shadow.specs.Book.{entry_for, is_registered, with_changed, with_taken}
use Rattle.sr_shadow.specs.Entry.{closed, fresh, is_of, left_other, settled, swept}
use Rattle.sr_shadow.specs.declared.book.Book.{Book}
use Rattle.sr_shadow.specs.declared.entry.Entry.{Entry}
use Rattle.std.proofs.Common.{Bool, List, None, Option, Some, [], ap, false, if◌then◌else◌, not, refl, subst, sym, true, ℕ, ◌++◌, ◌∙◌, ◌∷◌, ◌≡◌}
use Rattle.std.proofs.lemmas.Option.{same_Some}
use Rattle.std.specs.List.{AllByRecursion}
use Rattle.sr_machine.specs.declared.draw.Draw.TheVariants as draw
use Rattle.sr_machine.specs.declared.store.Store.TheVariants as store
use Rattle.sr_machine.specs.declared.job.Job.TheVariants as job
use Rattle.sr_machine.specs.declared.name.Name.TheVariants as name
use Rattle.sr_inv_facts.proofs.Taking as takes_book

module _ (s : Core) (i : Invariant s) where
  abbrev es : List Entry
  es = s.controller.book.entries

  -- a change of an entry that keeps its place and its quiet sweeps
  changed_unplaced : (change : Entry → Entry) (key : KeyView) (fs : List Entry) → ((e : Entry) → (change e).place ≡ e.place)
      → ((e : Entry) → (change e).quiet ≡ e.quiet) → AllByRecursion UnplacedFresh fs → AllByRecursion UnplacedFresh (with_changed change key fs)
  changed_unplaced change key fs stands quiets a =
      changed_all UnplacedFresh UnplacedFresh change key (λ e q h n. quiets e ∙ h (sym (stands e) ∙ n)) (λ e q h. h) fs a

  -- a key that was not registered
  more_unplaced : (fs : List Entry) (key : KeyView) (version taken : ℕ) → AllByRecursion UnplacedFresh fs
      → AllByRecursion UnplacedFresh (fs ++ fresh key version taken ∷ [])
  more_unplaced fs key version taken a = all_more UnplacedFresh fs (fresh key version taken ∷ []) a ((λ n. refl), tt)

  was : AllByRecursion UnplacedFresh s.controller.book.entries
  was = i.sweeps.sweeps.unplaced

  take_unplaced : (ended : Option KeyView) (pipe x : ℕ) → AllByRecursion UnplacedFresh (taking s.config s.controller ended pipe x).book.entries
  take_unplaced ended pipe x = by _ (takes s.config s.controller ended pipe x).book
    where
      by : (d : Book) → TakesBook s.config.layout s.controller.numbers ended x s.controller.book d → AllByRecursion UnplacedFresh d.entries
      by d (takes_book.same_book u) = was
      by d (takes_book.learned_book w q r t n) = more_unplaced es w.key w.version s.controller.book.taken was
      by d (takes_book.closed_book w q r t) = changed_unplaced closed w.key es (λ e. refl) (λ e. refl) was

  judged_unplaced : (p : Put) (version : ℕ) (b : Bool) → AllByRecursion UnplacedFresh (judged_book b p version s.controller.book).entries
  judged_unplaced p version true = was
  judged_unplaced p version false =
      changed_all UnplacedFresh UnplacedFresh (settled p.place) p.key (λ e q h n. refl) (λ e q h. h) (with_taken p.key version s.controller.book).entries
      (at (is_registered p.key es))
    where
      at : (b : Bool) → AllByRecursion UnplacedFresh (if b then es else (es ++ fresh p.key version s.controller.book.taken ∷ []))
      at true = was
      at false = more_unplaced es p.key version s.controller.book.taken was

  -- a sweep goes by an entry that stands somewhere
  swept_unplaced : (from ms : ℕ) (key : KeyView) (place : Place) (number : ℕ) (hit : Bool) → s.controller.job ≡ job.Hit from ms key place number
      → AllByRecursion UnplacedFresh (with_changed (swept hit) key es)
  swept_unplaced from ms key place number hit q =
      changed_all (λ e. UnplacedFresh e × In e es) UnplacedFresh (swept hit) key own (λ e t h. h.0) es (all_to_in _ es (λ e m. (all_in UnplacedFresh es e was m, m)))
    where
      stands : (e : Entry) × (entry_for key es ≡ Some e) × (e.place ≡ Some place) × (e.taken ≡ number)
      stands = subst (JobHolds s.config (seen s.controller) (printed s)) q i.jobs.holds.stands

      own : (e : Entry) → is_of key e ≡ true → UnplacedFresh e × In e es → UnplacedFresh (swept hit e)
      own e t h n =
          let found : entry_for key es ≡ Some e = ap (λ z. entry_for z es) (same_key-true key e.key t) ∙ in_own es e i.shape.book.distinct h.1 in
          let same : stands.0 ≡ e = same_Some stands.0 e (sym stands.1 ∙ found) in
          absurd (none_some (sym n ∙ (ap (λ z. z.place) (sym same) ∙ stands.2)))
        where
          none_some : None ≡ Some place → ⊥
          none_some z = cc

  plain_unplaced : (j : Job) (o : Option Op) → ((x : ℕ) → AllByRecursion UnplacedFresh (book_next s.config s.controller j x).entries) → AfterJob UnplacedAre s j o
  plain_unplaced j None h = tt
  plain_unplaced j (Some o) h = h (op_answer o (s.words (op_name o)))

  unplaced_job : (j : Job) → s.controller.job ≡ j → AfterJob UnplacedAre s j (job_op s.config s.controller j)
  unplaced_job (job.Draw (draw.Retired key place version)) q = all_filtered UnplacedFresh (λ e. not (is_of key e)) es was
  unplaced_job (job.Store (store.Judge p)) q = judged_unplaced p (version_for s.controller.vips es p.key) (is_withdrawn s.config s.controller p)
  unplaced_job (job.Store (store.Empty key place w)) q = changed_unplaced left_other key es (λ e. refl) (λ e. refl) was
  unplaced_job (job.Drain pipe count w) q = take_unplaced (ended_by (job.Drain pipe count w)) pipe _
  unplaced_job (job.Look pipe) q = take_unplaced None pipe _
  unplaced_job (job.Hit from ms key place number) q = swept_unplaced from ms key place number (read_flag (s.words (name.Hit place))) q
  unplaced_job j q = plain_unplaced j (job_op s.config s.controller j) (λ x. was)

unplaced_stage : (s : Core) (p : ℕ) (v : PipeView) (a : Stage) (o : Option Op) → UnplacedAre s → AfterStage UnplacedAre s p v a o
unplaced_stage s p v a None h = tt
unplaced_stage s p v a (Some o) h = h

pub unplaced_keep : Keeps IsPacket Invariant UnplacedAre
unplaced_keep = record {
  stages = λ s p v a q e i f. unplaced_stage s p v a (pipe_op s.config.layout v a) f;
  begins = λ s i f. f;
  jobs = λ s j q b i f. unplaced_job s i j q;
  enters = λ s p v packet q r u n a i f. f;
  clocks = λ s ms q i f. f;
  refusals = λ s q i f. f;
}

pub unplaced_part : (s : Core) → Invariant s → UnplacedAre s
unplaced_part s i = i.sweeps.sweeps.unplaced

pub unplaced_open : OpensWith UnplacedAre
unfolding opening_controller
unplaced_open k f = tt
