-- What a put and a live put stand on goes on to stand as words are taken.
use Rattle.std.proofs.Common.{◌≡◌, ℕ, Bool, true, false, List, [], ◌∷◌, if◌then◌else◌, Some, None, Option, sym, refl, ap, ◌∙◌, true≢false}
use Rattle.std.specs.List.{AllByRecursion}
use Rattle.sr_base.proofs.Sameness.{same_key-true}
use Rattle.sr_base.specs.Key.{KeyView, same_key}
use Rattle.sr_base.specs.Layout.{LayoutView}
use Rattle.sr_base.specs.declared.place.Place.{Place}
use Rattle.sr_inv_facts.proofs.Books.{changed_all}
use Rattle.sr_inv_facts.proofs.Entries.{Succeeds, succeeds_take}
use Rattle.sr_inv_facts.proofs.Lists.{all_more}
use Rattle.sr_inv_facts.proofs.Taking.{TakesBook, same_book, learned_book, closed_book, takes}
use Rattle.sr_inv_facts.specs.Doing.{OnJudge, OnLived}
use Rattle.sr_inv_facts.specs.InJobs.{StandsAt, leaving, leaving_by, leaving_lived}
use Rattle.sr_machine.specs.Config.{Config}
use Rattle.sr_machine.specs.Taking.{ended_by, taking}
use Rattle.sr_machine.specs.declared.controller_view.ControllerView.{ControllerView}
use Rattle.sr_machine.specs.declared.job.Job.{Job}
use Rattle.sr_machine.specs.declared.job.Job.TheVariants as job
use Rattle.sr_machine.specs.declared.put.Aim.{Aim}
use Rattle.sr_machine.specs.declared.put.Aim.TheVariants as aim
use Rattle.sr_machine.specs.declared.put.Put.{Put}
use Rattle.sr_machine.specs.declared.wait.Wait.{Wait}
use Rattle.sr_machine.specs.declared.wait.Wait.TheVariants as wait
use Rattle.sr_shadow.specs.Book.{is_registered}
use Rattle.sr_shadow.specs.Entry.{closed, fresh}
use Rattle.sr_shadow.specs.declared.book.Book.{Book}
use Rattle.sr_shadow.specs.declared.entry.Entry.{Entry}
use Rattle.sr_standing.proofs.Judging.{registered_some}
use Rattle.sr_standing.specs.Standing.{AimStands, PutStands, Standing}
use Rattle.sr_update.specs.Numbers.{NumberRows}

-- only a registered key leaves a place, so that one that comes doesn't
pub also_taken : (l : LayoutView) (numbers : NumberRows) (ended : Option KeyView) (x : ℕ) (b d : Book) (j : Job)
    → ((key : KeyView) → is_registered key b.entries ≡ false → leaving j key ≡ None)
    → TakesBook l numbers ended x b d → AllByRecursion (λ e. e.also ≡ leaving j e.key) b.entries
    → AllByRecursion (λ e. e.also ≡ leaving j e.key) d.entries
also_taken l numbers ended x b d j quiet (same_book u) a = a
also_taken l numbers ended x b d j quiet (learned_book w q r s f) a =
    all_more (λ e. e.also ≡ leaving j e.key) b.entries (fresh w.key w.version b.taken ∷ []) a (sym (quiet w.key f), tt)
also_taken l numbers ended x b d j quiet (closed_book w q r s) a =
    changed_all (λ e. e.also ≡ leaving j e.key) (λ e. e.also ≡ leaving j e.key) closed w.key (λ e q a. a) (λ e q a. a) b.entries a

module _ (es : List Entry) where
  quiet_aim : (p : Put) (a : Aim) (key : KeyView) → is_registered p.key es ≡ true → is_registered key es ≡ false → leaving_by key p a ≡ None
  quiet_aim p aim.Pending key r e = refl
  quiet_aim p (aim.Held o) key r e = refl
  quiet_aim p (aim.Move from planned) key r e = at (same_key p.key key) refl
    where
      at : (b : Bool) → same_key p.key key ≡ b → (if b then Some from else None) ≡ None
      at true q = absurd (true≢false (sym r ∙ (ap (λ z. is_registered z es) (same_key-true p.key key q) ∙ e)))
      at false q = refl

  -- a key that isn't registered leaves no place in a wait
  pub quiet_wait : (w : Wait) → OnLived w (λ p. StandsAt p.key p.place es) → (key : KeyView) → is_registered key es ≡ false
      → leaving_lived key w ≡ None
  quiet_wait (wait.Live p) h key e = quiet_aim p p.aim key (registered_some p.key es h.0 h.1) e
  quiet_wait (wait.Judge p) h key e = refl
  quiet_wait (wait.Retire of) h key e = refl
  quiet_wait (wait.Comes u p) h key e = refl
  quiet_wait (wait.Release vip n) h key e = refl

pub stands_follows : (key : KeyView) (place : Place) (es fs : List Entry) → Succeeds es fs → StandsAt key place es → StandsAt key place fs
stands_follows key place es fs f (e, q, r) =
    let a = f.stays key e q in (a.0, a.1, a.2.place ∙ r)

module _ (es fs : List Entry) (f : Succeeds es fs) where
  aim_follows : (key : KeyView) (a : Aim) → AimStands es key a → AimStands fs key a
  aim_follows key aim.Pending m = f.unplaced key m
  aim_follows key (aim.Held h) m = f.unplaced key m
  aim_follows key (aim.Move from planned) m = stands_follows key from es fs f m

  put_goes_on : (p : Put) → PutStands es p → PutStands fs p
  put_goes_on p m = record { free = f.holders p.place ∙ m.free; aim = aim_follows p.key p.aim m.aim }

  judge_goes_on : (w : Wait) → OnJudge w (PutStands es) → OnJudge w (PutStands fs)
  judge_goes_on (wait.Judge p) h = put_goes_on p h
  judge_goes_on (wait.Live p) h = tt
  judge_goes_on (wait.Retire key) h = tt
  judge_goes_on (wait.Comes u p) h = tt
  judge_goes_on (wait.Release vip n) h = tt

  lived_goes_on : (w : Wait) → OnLived w (λ p. StandsAt p.key p.place es) → OnLived w (λ p. StandsAt p.key p.place fs)
  lived_goes_on (wait.Judge p) h = tt
  lived_goes_on (wait.Live p) h = stands_follows p.key p.place es fs f h
  lived_goes_on (wait.Retire key) h = tt
  lived_goes_on (wait.Comes u p) h = tt
  lived_goes_on (wait.Release vip n) h = tt

module _ (k : Config) (c : ControllerView) (x : ℕ) where
  follows_take : (ended : Option KeyView) (pipe : ℕ) → Succeeds c.book.entries (taking k c ended pipe x).book.entries
  follows_take ended pipe =
      succeeds_take k.layout c.numbers ended x c.book (taking k c ended pipe x).book (takes k c ended pipe x).book

  -- a wait goes on over what was taken
  pub drain_stands : (pipe count : ℕ) (w : Wait) → Standing c.book.entries (job.Drain pipe count w)
      → Standing (taking k c (ended_by (job.Drain pipe count w)) pipe x).book.entries (job.Drain pipe count w)
  drain_stands pipe count w h =
      let ended = ended_by (job.Drain pipe count w) in
      let f = follows_take ended pipe in
      record {
        also = also_taken k.layout c.numbers ended x c.book (taking k c ended pipe x).book (job.Drain pipe count w) (quiet_wait c.book.entries w h.live) (takes k c ended pipe x).book h.also;
        put = judge_goes_on c.book.entries (taking k c ended pipe x).book.entries f w h.put;
        live = lived_goes_on c.book.entries (taking k c ended pipe x).book.entries f w h.live;
        hit = tt;
      }

  -- and so does a look
  pub look_stands : (pipe at : ℕ) → Standing c.book.entries (job.Look at) → Standing (taking k c None pipe x).book.entries (job.Look at)
  look_stands pipe at h = record {
    also = also_taken k.layout c.numbers None x c.book (taking k c None pipe x).book (job.Look at) (λ key e. refl) (takes k c None pipe x).book h.also;
    put = tt;
    live = tt;
    hit = tt;
  }
