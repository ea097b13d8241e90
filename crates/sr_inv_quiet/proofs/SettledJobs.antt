-- Steps of a controller keep that packets of a settled entry find it, and left a hit.
use Rattle.sr_base.specs.Key.{KeyView}
use Rattle.sr_base.specs.declared.place.Place.{Place}
use Rattle.sr_inv_facts.proofs.Books.{changed_all}
use Rattle.sr_inv_facts.proofs.Lists.{all_in, all_more, all_to_in, of_some}
use Rattle.sr_inv_facts.proofs.Printing.{line_out, tells}
use Rattle.sr_inv_facts.proofs.Taking.{TakesBook, takes}
use Rattle.sr_inv_facts.specs.InJobs.{JobHolds, seen}
use Rattle.sr_inv_facts.specs.InShape.{JobFits}
use Rattle.sr_inv_facts.specs.InSweeps.{EntrySettled, IsFrom, LineSettled, SettledAt, base_by, base_of, is_unsettled, rounds, since}
use Rattle.sr_inv_facts.specs.Invariant.{Invariant}
use Rattle.sr_inv_facts.specs.Readings.{In, hit_words}
use Rattle.sr_inv_matching.proofs.Members.{member_other}
use Rattle.sr_inv_order.proofs.OrderOpens.{before}
use Rattle.sr_inv_quiet.proofs.QuietJobs.{IsNewly, IsStill, IsTold, draw_told}
use Rattle.sr_inv_quiet.proofs.QuietTurns.{IsOffSweep, NoSweep, calm_numbered, calm_since, goes_none, off_none, rounds_none}
use Rattle.sr_inv_quiet.proofs.SettledTurns.{base_same, none_told, settled_newly, settled_turns}
use Rattle.sr_law.specs.declared.line.Line.{Line}
use Rattle.sr_machine.proofs.Following.{goes}
use Rattle.sr_machine.specs.Core.{Core, printed}
use Rattle.sr_machine.specs.Deciding.{dead_reply}
use Rattle.sr_machine.specs.Draws.{draw_line}
use Rattle.sr_machine.specs.Jobs.{job_next, judged_book}
use Rattle.sr_machine.specs.Stores.{judged_draw}
use Rattle.sr_machine.specs.Taking.{taking}
use Rattle.sr_machine.specs.declared.draw.Draw.{Draw}
use Rattle.sr_machine.specs.declared.job.Job.{Job}
use Rattle.sr_machine.specs.declared.put.Put.{Put}
use Rattle.sr_machine.specs.declared.why.Why.{Why}
use Rattle.sr_shadow.specs.Book.{is_registered, with_changed, with_taken}
use Rattle.sr_shadow.specs.Entry.{closed, fresh, is_of, left_other, settled}
use Rattle.sr_shadow.specs.declared.book.Book.{Book}
use Rattle.sr_shadow.specs.declared.entry.Entry.{Entry}
use Rattle.std.proofs.Common.{Bool, IfSome, List, None, Option, Some, [], ap, false, if◌then◌else◌, inl, inr, option_to_list, refl, subst, sym, true, true≢false, ℕ, ◌++◌, ◌<◌, ◌∙◌, ◌∷◌, ◌≡◌, ◌≤◌, ◌⊎◌}
use Rattle.std.specs.List.{AllByRecursion}
use Rattle.sr_machine.specs.declared.draw.Draw.TheVariants as draw
use Rattle.sr_machine.specs.declared.store.Store.TheVariants as store
use Rattle.sr_machine.specs.declared.why.Why.TheVariants as why
use Rattle.sr_machine.specs.declared.job.Job.TheVariants as job
use Rattle.sr_machine.specs.declared.name.Name.TheVariants as name
use Rattle.sr_inv_facts.proofs.Taking as takes_book

-- nothing that is told of an entry has changed
pub record Twin (e f : Entry) : Type 0 where
  pub key : f.key ≡ e.key
  pub version : f.version ≡ e.version
  pub place : f.place ≡ e.place
  pub also : f.also ≡ e.also
  pub taken : f.taken ≡ e.taken
  pub quiet : f.quiet ≡ e.quiet

pub twin_self : (e : Entry) → Twin e e
twin_self e = record { key = refl; version = refl; place = refl; also = refl; taken = refl; quiet = refl }

twin_closed : (e : Entry) → Twin e (closed e)
twin_closed e = record { key = refl; version = refl; place = refl; also = refl; taken = refl; quiet = refl }

twin_base : (lines : List Line) (sweeps : ℕ) (j : Job) (e f : Entry) → Twin e f → base_of lines sweeps j f ≡ base_of lines sweeps j e
twin_base lines sweeps j e f t =
    ap (λ n. base_by lines (rounds sweeps j n) f.quiet) t.taken ∙ ap (base_by lines (rounds sweeps j e.taken)) t.quiet

module _ (s : Core) (i : Invariant s) where
  abbrev es : List Entry
  es = s.controller.book.entries

  abbrev hits : Place → ℕ
  hits = hit_words s.words

  -- what is said of a settled entry now
  pub settled_now : (j : Job) → s.controller.job ≡ j → (e : Entry) → In e s.controller.book.entries → e.also ≡ None → is_unsettled j e.key ≡ false
      → (place : Place) → e.place ≡ Some place
      → SettledAt (hit_words s.words) s.pipes (printed s) (base_of (printed s) s.controller.sweeps j e) e place
  settled_now j q e m also still place d =
      of_some (SettledAt (hit_words s.words) s.pipes (printed s) (base_of (printed s) s.controller.sweeps j e) e) e.place place
      (subst (λ z. EntrySettled (hit_words s.words) s.pipes (printed s) s.controller.sweeps z e) q
      (all_in (EntrySettled (hit_words s.words) s.pipes (printed s) s.controller.sweeps s.controller.job) es e i.sweeps.sweeps.settled m) also still) d

  -- a fact of each entry that has a place
  placed_so : (o : Option Place) (P : Place → Type 0) → ((place : Place) → o ≡ Some place → P place) → IfSome o P
  placed_so None P h = tt
  placed_so (Some place) P h = h place refl

  -- an entry goes on where it stands
  pub entry_goes : (after : Place → ℕ) (extra : List Line) (next : ℕ) (j m : Job) → s.controller.job ≡ j → (e f : Entry) → In e s.controller.book.entries
      → f.key ≡ e.key → f.version ≡ e.version → f.place ≡ e.place → f.also ≡ e.also → is_unsettled j e.key ≡ false
      → since (extra ++ printed s) f.key ≡ since (printed s) e.key
      → ((base : Option ℕ) (place : Place) → AllByRecursion (LineSettled after base (since (extra ++ printed s) f.key) place f) extra)
      → ((place : Place) → e.place ≡ Some place → (n : ℕ) → n < s.words name.Tick
      → (IsFrom (base_of (printed s) s.controller.sweeps j e) n → hit_words s.words place ≡ 1)
      → IsFrom (base_of (extra ++ printed s) next m f) n → after place ≡ 1)
      → EntrySettled after s.pipes (extra ++ printed s) next m f
  entry_goes after extra next j m q e f inside keys versions stands others still same new turn also still_after =
      placed_so f.place (SettledAt after s.pipes (extra ++ printed s) (base_of (extra ++ printed s) next m f) f) (λ place d.
      settled_turns s i (hit_words s.words) after (base_of (printed s) s.controller.sweeps j e) (base_of (extra ++ printed s) next m f) place e f keys versions
      (turn place (sym stands ∙ d)) extra same (new (base_of (extra ++ printed s) next m f) place)
      (settled_now j q e inside (sym others ∙ also) still place (sym stands ∙ d)))

  -- where nothing is printed, and no sweep is under way
  pub silent_goes : (j m : Job) → s.controller.job ≡ j → NoSweep j → NoSweep m → (e f : Entry) → In e s.controller.book.entries → Twin e f → is_unsettled j e.key ≡ false
      → EntrySettled (hit_words s.words) s.pipes (printed s) s.controller.sweeps m f
  silent_goes j m q before after e f inside t still =
      entry_goes (hit_words s.words) [] s.controller.sweeps j m q e f inside t.key t.version t.place t.also still (ap (since (printed s)) t.key) (λ base place. tt)
      (λ place d n low h b. h (subst (λ z. IsFrom z n) same b))
    where
      same : base_of (printed s) s.controller.sweeps m f ≡ base_of (printed s) s.controller.sweeps j e
      same =
          twin_base (printed s) s.controller.sweeps m e f t
          ∙ base_same (printed s) (printed s) s.controller.sweeps j m e (rounds_none s.controller.sweeps e.taken m after ∙ sym (rounds_none s.controller.sweeps e.taken j before)) (λ n. refl)

  -- ---- a job that is no part of a sweep

  no_line_still : (x : ℕ) (d : Draw) (key : KeyView) → draw_line s.config s.controller d x ≡ None → is_unsettled (job.Draw d) key ≡ false
  no_line_still x (draw.Placed p) key g = cc
  no_line_still x (draw.Cleared of place w) key g = cc
  no_line_still x d key g = refl

  off_after : (j : Job) → IsOffSweep j → (x : ℕ) → NoSweep (job_next s.config s.controller j x)
  off_after j off x = goes_none s.config s.controller x j (job_next s.config s.controller j x) (goes s.config s.controller x j) off

  -- an entry after a line of the controller
  line_goes : (d : Draw) → s.controller.job ≡ job.Draw d → IsOffSweep (job.Draw d) → (l : Line) → draw_line s.config s.controller d (s.words name.Tick) ≡ Some l
      → (e : Entry) → In e es
      → EntrySettled (hit_words s.words) s.pipes (l ∷ printed s) s.controller.sweeps (job_next s.config s.controller (job.Draw d) (s.words name.Tick)) e
  line_goes d q off l g e inside = at (draw_told s i (s.words name.Tick) d q off l g e inside)
    where
      m : Job
      m = job_next s.config s.controller (job.Draw d) (s.words name.Tick)

      at : IsTold (job.Draw d) l (printed s) e
          → EntrySettled (hit_words s.words) s.pipes (l ∷ printed s) s.controller.sweeps (job_next s.config s.controller (job.Draw d) (s.words name.Tick)) e
      at t = by t.told
        where
          by : IsNewly l (printed s) e ⊎ IsStill (job.Draw d) l (printed s) e
              → EntrySettled (hit_words s.words) s.pipes (l ∷ printed s) s.controller.sweeps (job_next s.config s.controller (job.Draw d) (s.words name.Tick)) e
          by (inl n) = λ also still.
              placed_so e.place (SettledAt (hit_words s.words) s.pipes (l ∷ printed s) (base_of (l ∷ printed s) s.controller.sweeps (job_next s.config s.controller (job.Draw d) (s.words name.Tick)) e) e) (λ place f.
              settled_newly s i (hit_words s.words) l (base_of (l ∷ printed s) s.controller.sweeps (job_next s.config s.controller (job.Draw d) (s.words name.Tick)) e) e place t.own
              (subst (λ z. z ≤ since (l ∷ printed s) e.key) (line_out s.config s.controller d (s.words name.Tick) l g) n.late))
          by (inr c) =
              entry_goes (hit_words s.words) (l ∷ []) s.controller.sweeps (job.Draw d) (job_next s.config s.controller (job.Draw d) (s.words name.Tick)) q e e inside refl refl refl refl c.settled_so
              (calm_since l (printed s) e.key c.calm)
              (λ base place. (none_told (hit_words s.words) base (since (l ∷ printed s) e.key) place e l t.own, tt))
              (λ place f n low h b. h (subst (λ z. IsFrom z n) same b))
            where
              same : base_of (l ∷ printed s) s.controller.sweeps (job_next s.config s.controller (job.Draw d) (s.words name.Tick)) e ≡ base_of (printed s) s.controller.sweeps (job.Draw d) e
              same =
                  base_same (printed s) (l ∷ printed s) s.controller.sweeps (job.Draw d) (job_next s.config s.controller (job.Draw d) (s.words name.Tick)) e
                  (rounds_none s.controller.sweeps e.taken (job_next s.config s.controller (job.Draw d) (s.words name.Tick)) (off_after (job.Draw d) off (s.words name.Tick)) ∙ sym (rounds_none s.controller.sweeps e.taken (job.Draw d) (off_none (job.Draw d) off)))
                  (λ n. calm_numbered l (printed s) n c.calm.sweep)

  -- each entry after a draw
  pub draw_goes : (d : Draw) → s.controller.job ≡ job.Draw d → IsOffSweep (job.Draw d)
      → AllByRecursion (EntrySettled (hit_words s.words) s.pipes (tells s.config s.controller (job.Draw d) (s.words name.Tick) ++ printed s) s.controller.sweeps (job_next s.config s.controller (job.Draw d) (s.words name.Tick))) es
  draw_goes d q off = by (draw_line s.config s.controller d (s.words name.Tick)) refl
    where
      by : (o : Option Line) → draw_line s.config s.controller d (s.words name.Tick) ≡ o
          → AllByRecursion (EntrySettled (hit_words s.words) s.pipes (option_to_list o ++ printed s) s.controller.sweeps (job_next s.config s.controller (job.Draw d) (s.words name.Tick))) es
      by None g =
          all_to_in _ es (λ e m. silent_goes (job.Draw d) (job_next s.config s.controller (job.Draw d) (s.words name.Tick)) q (off_none (job.Draw d) off) (off_after (job.Draw d) off (s.words name.Tick)) e e m (twin_self e) (no_line_still (s.words name.Tick) d e.key g))
      by (Some l) g = all_to_in _ es (λ e m. line_goes d q off l g e m)

  -- each entry after a step that draws nothing
  pub still_goes : (j : Job) (x : ℕ) → s.controller.job ≡ j → IsOffSweep j → ((key : KeyView) → is_unsettled j key ≡ false)
      → AllByRecursion (EntrySettled (hit_words s.words) s.pipes (printed s) s.controller.sweeps (job_next s.config s.controller j x)) es
  still_goes j x q off still =
      all_to_in _ es (λ e m. silent_goes j (job_next s.config s.controller j x) q (off_none j off) (off_after j off x) e e m (twin_self e) (still e.key))

  -- ---- the book

  -- a take
  pub take_goes : (j : Job) (x : ℕ) (ended : Option KeyView) (pipe y : ℕ) → s.controller.job ≡ j → IsOffSweep j → ((key : KeyView) → is_unsettled j key ≡ false)
      → AllByRecursion (EntrySettled (hit_words s.words) s.pipes (printed s) s.controller.sweeps (job_next s.config s.controller j x)) (taking s.config s.controller ended pipe y).book.entries
  take_goes j x ended pipe y q off still = by _ (takes s.config s.controller ended pipe y).book
    where
      old : AllByRecursion (EntrySettled (hit_words s.words) s.pipes (printed s) s.controller.sweeps (job_next s.config s.controller j x)) es
      old = still_goes j x q off still

      turn : (e f : Entry) → In e es → Twin e f → EntrySettled (hit_words s.words) s.pipes (printed s) s.controller.sweeps (job_next s.config s.controller j x) f
      turn e f m t = silent_goes j (job_next s.config s.controller j x) q (off_none j off) (off_after j off x) e f m t (still e.key)

      by : (d : Book) → TakesBook s.config.layout s.controller.numbers ended y s.controller.book d
          → AllByRecursion (EntrySettled (hit_words s.words) s.pipes (printed s) s.controller.sweeps (job_next s.config s.controller j x)) d.entries
      by d (takes_book.same_book u) = old
      by d (takes_book.learned_book w r k t n) =
          all_more (EntrySettled (hit_words s.words) s.pipes (printed s) s.controller.sweeps (job_next s.config s.controller j x)) es (fresh w.key w.version s.controller.book.taken ∷ []) old ((λ also still. tt), tt)
      by d (takes_book.closed_book w r k t) =
          changed_all (λ e. In e es) (EntrySettled (hit_words s.words) s.pipes (printed s) s.controller.sweeps (job_next s.config s.controller j x)) closed w.key
          (λ e g m. turn e (closed e) m (twin_closed e)) (λ e g m. turn e e m (twin_self e)) es (all_to_in (λ e. In e es) es (λ e m. m))

  -- a put is made live, or given up
  pub judged_goes : (p : Put) (b : Bool) (version : ℕ) → s.controller.job ≡ job.Store (store.Judge p)
      → AllByRecursion (EntrySettled (hit_words s.words) s.pipes (printed s) s.controller.sweeps (job.Draw (judged_draw b p (dead_reply s.config s.controller p.aim)))) (judged_book b p version s.controller.book).entries
  judged_goes p true version q =
      all_to_in _ es (λ e m. silent_goes (job.Store (store.Judge p)) (job.Draw (draw.Cleared p.key p.place (why.Withdrawn (dead_reply s.config s.controller p.aim)))) q
      (record { running = refl; past = λ n. refl }) (record { running = refl; past = λ n. refl }) e e m (twin_self e) refl)
  judged_goes p false version q =
      changed_all After After (settled p.place) p.key (λ e t h also still. absurd (true≢false (sym t ∙ still))) (λ e t h. h) (with_taken p.key version s.controller.book).entries
      (by (is_registered p.key es))
    where
      After : Entry → Type 0
      After e = EntrySettled (hit_words s.words) s.pipes (printed s) s.controller.sweeps (job.Draw (draw.Placed p)) e

      old : AllByRecursion (λ e. EntrySettled (hit_words s.words) s.pipes (printed s) s.controller.sweeps (job.Draw (draw.Placed p)) e) es
      old =
          all_to_in _ es (λ e m. silent_goes (job.Store (store.Judge p)) (job.Draw (draw.Placed p)) q (record { running = refl; past = λ n. refl }) (record { running = refl; past = λ n. refl }) e e m (twin_self e) refl)

      by : (b : Bool) → AllByRecursion (λ e. EntrySettled (hit_words s.words) s.pipes (printed s) s.controller.sweeps (job.Draw (draw.Placed p)) e) (if b then es else (es ++ fresh p.key version s.controller.book.taken ∷ []))
      by true = old
      by false =
          all_more (λ e. EntrySettled (hit_words s.words) s.pipes (printed s) s.controller.sweeps (job.Draw (draw.Placed p)) e) es (fresh p.key version s.controller.book.taken ∷ []) old ((λ also still. tt), tt)

  -- a place is emptied
  pub emptied_goes : (key : KeyView) (place : Place) (w : Why) → s.controller.job ≡ job.Store (store.Empty key place w)
      → AllByRecursion (EntrySettled (hit_words s.words) s.pipes (printed s) s.controller.sweeps (job.Draw (draw.Cleared key place w))) (with_changed left_other key es)
  emptied_goes key place w q =
      changed_all (λ e. In e es) (EntrySettled (hit_words s.words) s.pipes (printed s) s.controller.sweeps (job.Draw (draw.Cleared key place w))) left_other key (own w q)
      (λ e t m. silent_goes (job.Store (store.Empty key place w)) (job.Draw (draw.Cleared key place w)) q (record { running = refl; past = λ n. refl }) (record { running = refl; past = λ n. refl }) e e m (twin_self e) refl)
      es (all_to_in (λ e. In e es) es (λ e m. m))
    where
      own : (w : Why) → s.controller.job ≡ job.Store (store.Empty key place w) → (e : Entry) → is_of key e ≡ true → In e es
          → EntrySettled (hit_words s.words) s.pipes (printed s) s.controller.sweeps (job.Draw (draw.Cleared key place w)) (left_other e)
      own why.Source q e t m = λ also still. absurd (true≢false (sym t ∙ still))
      own (why.Retired version) q e t m =
          let none : is_registered key es ≡ false = (subst (JobHolds s.config (seen s.controller) (printed s)) q i.jobs.holds.stands).1 in
          absurd (true≢false (sym t ∙ member_other key es e none m))
      own (why.Withdrawn r) q e t m = absurd (subst (JobFits s.config.layout) q i.shape.controller.job)
