-- A key that is just made live has no quiet sweep.
use Rattle.std.proofs.Common.{◌≡◌, ℕ, Bool, true, false, not, ◌⊎◌, List, [], ◌∷◌, ◌++◌, if◌then◌else◌, Some, None, Option, sym, refl, ap, ◌∙◌, inl, inr, true≢false}
use Rattle.std.specs.List.{AllByRecursion}
use Rattle.sr_base.specs.Key.{KeyView, same_key}
use Rattle.sr_base.specs.declared.vip_word.Phase.{Phase}
use Rattle.sr_base.specs.declared.vip_word.Phase.TheVariants.{Steady, Recording, Holding, Transit}
use Rattle.sr_base.specs.declared.vip_word.VipWord.{VipWord}
use Rattle.sr_inv_facts.proofs.Books.{changed_all}
use Rattle.sr_inv_facts.proofs.Lists.{all_filtered, all_more, all_of}
use Rattle.sr_inv_facts.proofs.Taking.{TakesBook, takes}
use Rattle.sr_inv_facts.specs.InSweeps.{is_fresh, is_put_by}
use Rattle.sr_machine.specs.Config.{Config}
use Rattle.sr_machine.specs.Draws.{cleared_job, phase_job}
use Rattle.sr_machine.specs.Goes.{Goes}
use Rattle.sr_machine.specs.Jobs.{book_next}
use Rattle.sr_machine.specs.Reads.{read_flag}
use Rattle.sr_machine.specs.Stores.{vip_draw}
use Rattle.sr_machine.specs.Taking.{Taken, ended_by, taking}
use Rattle.sr_machine.specs.Waiting.{all_passed, live_job, passed_phase, waited_job, waited_phase}
use Rattle.sr_machine.specs.declared.controller_view.ControllerView.{ControllerView}
use Rattle.sr_machine.specs.declared.job.Job.{Job}
use Rattle.sr_machine.specs.declared.pool_update.PoolUpdate.{PoolUpdate}
use Rattle.sr_machine.specs.declared.put.Aim.{Aim}
use Rattle.sr_machine.specs.declared.put.Put.{Put}
use Rattle.sr_machine.specs.declared.wait.Wait.{Wait}
use Rattle.sr_machine.specs.declared.why.Why.{Why}
use Rattle.sr_shadow.specs.Book.{is_registered, with_changed, with_settled, with_swept, with_taken}
use Rattle.sr_shadow.specs.Entry.{fresh, closed, settled, is_of, left_other}
use Rattle.sr_shadow.specs.declared.book.Book.{Book}
use Rattle.sr_shadow.specs.declared.entry.Entry.{Entry}
use Rattle.sr_inv_facts.proofs.Taking as takes_book
use Rattle.sr_machine.specs.Goes as go
use Rattle.sr_machine.specs.declared.draw.Draw.TheVariants as draw
use Rattle.sr_machine.specs.declared.store.Store.TheVariants as store
use Rattle.sr_machine.specs.declared.wait.Wait.TheVariants as wait
use Rattle.sr_machine.specs.declared.why.Why.TheVariants as why
use Rattle.sr_machine.specs.declared.put.Aim.TheVariants as aim
use Rattle.sr_machine.specs.declared.job.Job.TheVariants as job

-- the key is about to be made live, or given up
abbrev pub Judges : Job → KeyView → Type 0
Judges (job.Store (store.Judge p)) key = same_key p.key key ≡ true
Judges j key = ⊥

-- so it is after the step, if it was before, or if the key is made live with it
abbrev Comes : Job → Job → KeyView → Type 0
Comes j m key = is_fresh m key ≡ true → (is_fresh j key ≡ true) ⊎ Judges j key

module _ (key : KeyView) where
  phase_unfresh : (u : PoolUpdate) (p : Phase) → is_fresh (phase_job u p) key ≡ false
  phase_unfresh u Steady = refl
  phase_unfresh u Recording = refl
  phase_unfresh u Holding = refl
  phase_unfresh u Transit = refl

  vip_unfresh : (u : PoolUpdate) (p : Phase) → is_fresh (job.Draw (vip_draw u p)) key ≡ false
  vip_unfresh u Steady = refl
  vip_unfresh u Recording = refl
  vip_unfresh u Holding = refl
  vip_unfresh u Transit = refl

  cleared_unfresh : (of : KeyView) (w : Why) → is_fresh (cleared_job of w) key ≡ false
  cleared_unfresh of (why.Withdrawn None) = refl
  cleared_unfresh of (why.Withdrawn (Some r)) = refl
  cleared_unfresh of why.Source = refl
  cleared_unfresh of (why.Retired version) = refl

  passed_phase_unfresh : (u : PoolUpdate) (p : Phase) → is_fresh (passed_phase u p) key ≡ false
  passed_phase_unfresh u Steady = refl
  passed_phase_unfresh u Recording = refl
  passed_phase_unfresh u Holding = refl
  passed_phase_unfresh u Transit = refl

  passed_fresh : (w : Wait) → is_fresh (all_passed w) key ≡ is_put_by key w
  passed_fresh (wait.Comes u p) = passed_phase_unfresh u p
  passed_fresh w = refl

  waited_phase_unfresh : (u : PoolUpdate) (p : Phase) → is_fresh (waited_phase u p) key ≡ false
  waited_phase_unfresh u Steady = refl
  waited_phase_unfresh u Recording = refl
  waited_phase_unfresh u Holding = refl
  waited_phase_unfresh u Transit = refl

  live_fresh : (vips : List VipWord) (es : List Entry) (p : Put) (a : Aim) → is_fresh (live_job vips es p a) key ≡ true → same_key p.key key ≡ true
  live_fresh vips es p aim.Pending h = cc
  live_fresh vips es p (aim.Held o) h = cc
  live_fresh vips es p (aim.Move from planned) h = h

  waited_fresh : (vips : List VipWord) (es : List Entry) (w : Wait) → is_fresh (waited_job vips es w) key ≡ true → is_put_by key w ≡ true
  waited_fresh vips es (wait.Live p) h = live_fresh vips es p p.aim h
  waited_fresh vips es (wait.Comes u p) h = sym (waited_phase_unfresh u p) ∙ h
  waited_fresh vips es w h = cc

  module _ (k : Config) (c : ControllerView) (x : ℕ) where
    pub goes_fresh : (j m : Job) → Goes k c x j m → Comes j m key
    goes_fresh j m (go.waits w) h = inl h
    goes_fresh j m (go.comes u p) h = absurd (true≢false (sym h ∙ phase_unfresh u p))
    goes_fresh j m (go.placed p) h = inl h
    goes_fresh j m (go.cleared of place w) h = absurd (true≢false (sym h ∙ cleared_unfresh of w))
    goes_fresh j m (go.phase_stored u p) h = absurd (true≢false (sym h ∙ vip_unfresh u p))
    goes_fresh j m (go.judged_live p e) h = inr h
    goes_fresh j m (go.emptied of place why.Source) h = inl h
    goes_fresh j m (go.emptied of place (why.Retired version)) h = absurd (true≢false (sym h))
    goes_fresh j m (go.emptied of place (why.Withdrawn r)) h = absurd (true≢false (sym h))
    goes_fresh j m (go.pass_stays g pipe w e) h = inl h
    goes_fresh j m (go.pass_next g pipe w e n) h = inl h
    goes_fresh j m (go.pass_last g pipe w a b) h = inl (sym (passed_fresh w) ∙ h)
    goes_fresh j m (go.drain_stays pipe count w e) h = inl h
    goes_fresh j m (go.drain_next pipe count w e n) h = inl h
    goes_fresh j m (go.drain_last pipe count w a b) h = inl (waited_fresh c.vips _ w h)
    goes_fresh j m g h = absurd (true≢false (sym h))

-- ---- the book

abbrev pub FreshAre : Job → List Entry → Type 0
FreshAre j es = AllByRecursion (λ e. is_fresh j e.key ≡ true → e.quiet ≡ None) es

-- a change that keeps keys and quiet sweeps
changed_fresh : (j : Job) (change : Entry → Entry) (key : KeyView) (es : List Entry) → ((e : Entry) → (change e).key ≡ e.key)
    → ((e : Entry) → (change e).quiet ≡ e.quiet) → FreshAre j es → FreshAre j (with_changed change key es)
changed_fresh j change key es keys quiets a =
    changed_all (λ e. is_fresh j e.key ≡ true → e.quiet ≡ None) (λ e. is_fresh j e.key ≡ true → e.quiet ≡ None) change key
    (λ e q h f. quiets e ∙ h (sym (ap (is_fresh j) (keys e)) ∙ f)) (λ e q h. h) es a

taken_fresh : (j : Job) (key : KeyView) (version : ℕ) (book : Book) → FreshAre j book.entries → FreshAre j (with_taken key version book).entries
taken_fresh j key version book a = at (is_registered key book.entries)
  where
    at : (b : Bool) → FreshAre j (if b then book.entries else (book.entries ++ fresh key version book.taken ∷ []))
    at true = a
    at false =
        all_more (λ e. is_fresh j e.key ≡ true → e.quiet ≡ None) book.entries (fresh key version book.taken ∷ []) a ((λ f. refl), tt)

module _ (k : Config) (c : ControllerView) (j : Job) (a : FreshAre j c.book.entries) where
  take_fresh : (ended : Option KeyView) (pipe x : ℕ) → FreshAre j (taking k c ended pipe x).book.entries
  take_fresh ended pipe x = at (taking k c ended pipe x) (takes k c ended pipe x).book
    where
      by : (b : Book) → TakesBook k.layout c.numbers ended x c.book b → FreshAre j b.entries
      by b (takes_book.same_book u) = a
      by b (takes_book.learned_book w r q s n) =
          all_more (λ e. is_fresh j e.key ≡ true → e.quiet ≡ None) c.book.entries (fresh w.key w.version c.book.taken ∷ []) a ((λ f. refl), tt)
      by b (takes_book.closed_book w r q s) = changed_fresh j closed w.key c.book.entries (λ e. refl) (λ e. refl) a

      at : (t : Taken) → TakesBook k.layout c.numbers ended x c.book t.book → FreshAre j t.book.entries
      at t h = by t.book h

-- jobs that make no key live
abbrev pub IsOffJudge : Job → Type 0
IsOffJudge (job.Store (store.Judge p)) = ⊥
IsOffJudge j = Unit {0}

pub book_fresh : (k : Config) (c : ControllerView) (j : Job) (x : ℕ) → IsOffJudge j → FreshAre j c.book.entries
    → FreshAre j (book_next k c j x).entries
book_fresh k c (job.Draw (draw.Retired key place version)) x off a =
    all_filtered (λ e. is_fresh (job.Draw (draw.Retired key place version)) e.key ≡ true → e.quiet ≡ None) (λ e. not (is_of key e)) c.book.entries a
book_fresh k c (job.Store (store.Judge p)) x off a = absurd off
book_fresh k c (job.Store (store.Empty key place w)) x off a =
    changed_fresh (job.Store (store.Empty key place w)) left_other key c.book.entries (λ e. refl) (λ e. refl) a
book_fresh k c (job.Drain pipe count w) x off a = take_fresh k c (job.Drain pipe count w) a (ended_by (job.Drain pipe count w)) pipe x
book_fresh k c (job.Look pipe) x off a = take_fresh k c (job.Look pipe) a None pipe x
book_fresh k c (job.Hit from ms key place taken) x off a =
    all_of (λ e. false ≡ true → e.quiet ≡ None) (λ e f. absurd (true≢false (sym f))) (with_swept key (read_flag x) c.book).entries
book_fresh k c j x off a = a

-- a key that is made live
pub judged_fresh : (p : Put) (version : ℕ) (book : Book)
    → FreshAre (job.Draw (draw.Placed p)) (with_settled p.key p.place (with_taken p.key version book)).entries
judged_fresh p version book =
    changed_all (λ e. Unit {0}) (λ e. same_key p.key e.key ≡ true → e.quiet ≡ None) (settled p.place) p.key (λ e q u f. refl)
    (λ e q u f. absurd (true≢false (sym f ∙ q))) (with_taken p.key version book).entries (all_of (λ e. Unit {0}) (λ e. tt) (with_taken p.key version book).entries)
