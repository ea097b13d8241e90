-- The controller's view stays in range, field by field.
use Rattle.std.proofs.Common.{◌≡◌, ℕ, ◌<◌, ◌≤◌, Bool, true, false, not, [], ◌++◌, length, None, sym, refl, ap, ◌∙◌, subst, append-nil, arith}
use Rattle.std.proofs.lemmas.List.{length-set}
use Rattle.std.specs.List.{AllByRecursion}
use Rattle.sr_base.proofs.Sameness.{same_key-true}
use Rattle.sr_base.specs.Key.{KeyView}
use Rattle.sr_base.specs.Layout.{IsLayout}
use Rattle.sr_base.specs.declared.place.Place.{Place}
use Rattle.sr_base.specs.declared.vip_word.Phase.{Phase}
use Rattle.sr_base.specs.declared.vip_word.Phase.TheVariants.{Steady, Recording, Holding, Transit}
use Rattle.sr_hash.specs.Uses.{is_place_of}
use Rattle.sr_inv_facts.proofs.Books.{distinct_filtered, taken_filtered}
use Rattle.sr_inv_facts.proofs.Lists.{all_filtered, all_set, dropped}
use Rattle.sr_inv_facts.proofs.Ranges.{PutFits, version_below}
use Rattle.sr_inv_facts.specs.InShape.{BookFits, ControllerFits, EntryFits, JobFits, OpenerFits, RowsFit, WordFits, downing, servers_of}
use Rattle.sr_inv_facts.specs.InUpdate.{UpdateFits}
use Rattle.sr_inv_shape.proofs.FittingJobs.{job_fits, none_downed, rows_set}
use Rattle.sr_inv_shape.proofs.FittingTakes.{changed_fits, take_fits, taken_fits, taken_grows}
use Rattle.sr_law.proofs.Supported.{more}
use Rattle.sr_machine.proofs.Following.{goes}
use Rattle.sr_machine.specs.Config.{Config}
use Rattle.sr_machine.specs.Deciding.{is_withdrawn, version_for}
use Rattle.sr_machine.specs.Jobs.{book_next, down_next, drained, held_next, job_after, job_next, judged_book, mark_next, marked, named_next, numbers_next, released, rings_next, vips_next}
use Rattle.sr_machine.specs.Opening.{outages_in}
use Rattle.sr_machine.specs.Reads.{read_flag}
use Rattle.sr_machine.specs.Stores.{is_last_filter, phase_word}
use Rattle.sr_machine.specs.Taking.{ended_by}
use Rattle.sr_machine.specs.Waiting.{is_wait_done}
use Rattle.sr_machine.specs.declared.controller_view.ControllerView.{ControllerView}
use Rattle.sr_machine.specs.declared.job.Job.{Job}
use Rattle.sr_machine.specs.declared.pool_update.PoolUpdate.{PoolUpdate}
use Rattle.sr_machine.specs.declared.put.Put.{Put}
use Rattle.sr_machine.specs.declared.wait.Wait.{Wait}
use Rattle.sr_shadow.specs.Book.{with_left, with_retired, with_settled, with_swept, with_taken}
use Rattle.sr_shadow.specs.Entry.{left_other, settled, swept, is_of}
use Rattle.sr_shadow.specs.declared.book.Book.{Book}
use Rattle.sr_update.specs.declared.number_state.NumberState.TheVariants as state
use Rattle.sr_machine.specs.declared.draw.Draw.TheVariants as draw
use Rattle.sr_machine.specs.declared.store.Store.TheVariants as store
use Rattle.sr_machine.specs.declared.wait.Wait.TheVariants as wait
use Rattle.sr_machine.specs.declared.job.Job.TheVariants as job

module _ (k : Config) (i : IsLayout k.layout) (c : ControllerView) (b : BookFits k.layout c.book) (h : ControllerFits k c) where
  -- ---- the book

  settled_fits : (key : KeyView) (place : Place) (book : Book) → is_place_of k.layout.shape key place ≡ true → BookFits k.layout book
      → BookFits k.layout (with_settled key place book)
  settled_fits key place book own f =
      changed_fits k.layout (settled place) key book (λ e. refl) (λ e. refl) (λ e q g. record {
        key =
            g.key;
        vip = g.vip;
        version = g.version;
        place = subst (λ n. is_place_of k.layout.shape n place ≡ true) (same_key-true key e.key q) own;
        also = g.place;
      }) f

  judged_fits : (p : Put) → PutFits k.layout p → (w : Bool) (n : ℕ) → n < k.layout.shape.versions
      → BookFits k.layout (judged_book w p n c.book)
  judged_fits p f true n m = b
  judged_fits p f false n m =
      settled_fits p.key p.place (with_taken p.key n c.book) f.place (taken_fits k.layout p.key n c.book f.key.is_key f.key.vip m b)

  judged_grows : (p : Put) (w : Bool) (n : ℕ) → c.book.taken ≤ (judged_book w p n c.book).taken
  judged_grows p true n = omega arith
  judged_grows p false n = taken_grows p.key n c.book

  left_fits : (key : KeyView) → BookFits k.layout (with_left key c.book)
  left_fits key =
      changed_fits k.layout left_other key c.book (λ e. refl) (λ e. refl) (λ e q g. record {
        key =
            g.key;
        vip = g.vip;
        version = g.version;
        place = g.place;
        also = tt;
      }) b

  swept_fits : (key : KeyView) (hit : Bool) → BookFits k.layout (with_swept key hit c.book)
  swept_fits key hit =
      changed_fits k.layout (swept hit) key c.book (λ e. refl) (λ e. refl) (λ e q g. record {
        key =
            g.key;
        vip = g.vip;
        version = g.version;
        place = g.place;
        also = g.also;
      }) b

  retired_fits : (key : KeyView) → BookFits k.layout (with_retired key c.book)
  retired_fits key = record {
    entries = all_filtered (EntryFits k.layout) (λ e. not (is_of key e)) c.book.entries b.entries;
    distinct = distinct_filtered (λ e. not (is_of key e)) c.book.entries b.distinct;
    rising = taken_filtered (λ e. not (is_of key e)) 0 c.book.taken c.book.entries b.rising;
  }

  -- what a job that puts, takes or updates needs
  abbrev pub NeedsFit : Job → Type 0
  NeedsFit (job.Store (store.Judge p)) = PutFits k.layout p
  NeedsFit (job.Store (store.Vip u p)) = UpdateFits k u
  NeedsFit (job.Drain pipe count w) = pipe < k.layout.shape.pipes
  NeedsFit (job.Look pipe) = pipe < k.layout.shape.pipes
  NeedsFit j = Unit {0}

  pub book_fits : (j : Job) (x : ℕ) → NeedsFit j → BookFits k.layout (book_next k c j x)
  book_fits (job.Draw (draw.Retired key place n)) x f = retired_fits key
  book_fits (job.Store (store.Judge p)) x f =
      judged_fits p f (is_withdrawn k c p) (version_for c.vips c.book.entries p.key) (version_below k i c b h p.key)
  book_fits (job.Store (store.Empty key place w)) x f = left_fits key
  book_fits (job.Drain pipe count w) x f = (take_fits k c b h (ended_by (job.Drain pipe count w)) pipe x f).book
  book_fits (job.Look pipe) x f = (take_fits k c b h None pipe x f).book
  book_fits (job.Hit from ms key place n) x f = swept_fits key (read_flag x)
  book_fits j x f = b

  -- ---- the other fields

  held_next_fits : (j : Job) (x : ℕ) → NeedsFit j → AllByRecursion (OpenerFits k.layout) (held_next k c j x)
  held_next_fits (job.Draw (draw.Answer r)) x f = dropped (OpenerFits k.layout) c.held h.held
  held_next_fits (job.Drain pipe count w) x f = (take_fits k c b h (ended_by (job.Drain pipe count w)) pipe x f).held
  held_next_fits (job.Look pipe) x f = (take_fits k c b h None pipe x f).held
  held_next_fits j x f = h.held

  rings_next_fits : (j : Job) (x : ℕ) → NeedsFit j → length (rings_next k c j x) ≡ k.layout.shape.pipes
  rings_next_fits (job.Drain pipe count w) x f = (take_fits k c b h (ended_by (job.Drain pipe count w)) pipe x f).rings
  rings_next_fits (job.Look pipe) x f = (take_fits k c b h None pipe x f).rings
  rings_next_fits j x f = h.rings

  vips_length : (j : Job) → length (vips_next c j) ≡ k.layout.vips
  vips_length (job.Store (store.Vip u p)) = length-set c.vips u.vip (phase_word u p) ∙ h.vips
  vips_length j = h.vips

  phase_word_fits : (u : PoolUpdate) → UpdateFits k u → (p : Phase) → WordFits k.layout (phase_word u p)
  phase_word_fits u f Steady = record { cur = f.given; next = f.given; fits = refl }
  phase_word_fits u f Recording = record { cur = f.replaced; next = f.given; fits = tt }
  phase_word_fits u f Holding = record { cur = f.replaced; next = f.given; fits = tt }
  phase_word_fits u f Transit = record { cur = f.replaced; next = f.given; fits = tt }

  vips_words : (j : Job) → NeedsFit j → AllByRecursion (WordFits k.layout) (vips_next c j)
  vips_words (job.Store (store.Vip u p)) f = all_set (WordFits k.layout) c.vips u.vip (phase_word u p) h.words (phase_word_fits u f p)
  vips_words j f = h.words

  released_fits : (done : Bool) (w : Wait) → RowsFit k.layout (released done w c.numbers)
  released_fits true (wait.Release vip n) = rows_set k.layout c.numbers vip n state.Free h.numbers
  released_fits false (wait.Release vip n) = h.numbers
  released_fits done w = h.numbers

  drained_fits : (done : Bool) (u : PoolUpdate) → RowsFit k.layout (drained done u c.numbers)
  drained_fits true u = rows_set k.layout c.numbers u.vip u.replaced state.Draining h.numbers
  drained_fits false u = h.numbers

  numbers_fits : (j : Job) (x : ℕ) → RowsFit k.layout (numbers_next k c j x)
  numbers_fits (job.Draw (draw.Given u)) x = rows_set k.layout c.numbers u.vip u.given state.Current h.numbers
  numbers_fits (job.Store (store.Filter u index)) x = drained_fits (is_last_filter k.layout index) u
  numbers_fits (job.Drain pipe count w) x = released_fits (is_wait_done k.layout pipe count x) w
  numbers_fits j x = h.numbers

  named_fits : (j : Job) → RowsFit k.layout (named_next c j)
  named_fits (job.Draw (draw.Given u)) = rows_set k.layout c.named u.vip u.given u.pool h.named
  named_fits j = h.named

  marked_fits : (done : Bool) (w : Wait) (taken : ℕ) → c.book.taken ≤ taken → marked done w taken c.mark ≤ taken
  marked_fits true (wait.Comes u Recording) taken g = omega arith
  marked_fits false (wait.Comes u Recording) taken g = omega (arith, h.mark)
  marked_fits done w taken g = omega (arith, h.mark)

  mark_fits : (j : Job) (x : ℕ) → NeedsFit j → mark_next k c j x ≤ (book_next k c j x).taken
  mark_fits (job.Drain pipe count w) x f =
      marked_fits (is_wait_done k.layout pipe count x) w (book_next k c (job.Drain pipe count w) x).taken (take_fits k c b h (ended_by (job.Drain pipe count w)) pipe x f).grows
  mark_fits (job.Look pipe) x f = omega (arith, h.mark, (take_fits k c b h None pipe x f).grows)
  mark_fits (job.Store (store.Judge p)) x f =
      omega (arith, h.mark, judged_grows p (is_withdrawn k c p) (version_for c.vips c.book.entries p.key))
  mark_fits (job.Draw (draw.Retired key place n)) x f = h.mark
  mark_fits (job.Store (store.Empty key place w)) x f = h.mark
  mark_fits j x f = h.mark

  down_is : (j : Job) → down_next c j ≡ c.down ++ downing j
  down_is (job.Draw (draw.TakenDown server)) = refl
  down_is j = sym (append-nil c.down)

  outages_fit : (j m : Job) → c.job ≡ j → downing m ≡ []
      → servers_of (outages_in k.changes) ≡ (down_next c j ++ downing m) ++ servers_of c.outages
  outages_fit j m q n =
      let more : down_next c j ++ downing m ≡ c.down ++ downing c.job =
      ap (λ xs. down_next c j ++ xs) n ∙ (append-nil (down_next c j) ∙ (down_is j ∙ ap (λ r. c.down ++ downing r) (sym q))) in
      h.outages ∙ ap (λ xs. xs ++ servers_of c.outages) (sym more)

  -- the view after a step
  pub controller_fits : (j : Job) (x : ℕ) → c.job ≡ j → NeedsFit j → ControllerFits k (job_after k c j x)
  controller_fits j x q f = record {
    vips = vips_length j;
    words = vips_words j f;
    numbers = numbers_fits j x;
    named = named_fits j;
    rings = rings_next_fits j x f;
    held = held_next_fits j x f;
    mark = mark_fits j x f;
    gives = h.gives;
    outages = outages_fit j (job_next k c j x) q (none_downed k c x j (job_next k c j x) (goes k c x j));
    job = job_fits k i c x j (job_next k c j x) (goes k c x j) (subst (JobFits k.layout) q h.job);
  }
