-- What is said of the opening of a registered key goes on, where its entry stays as it is and its opener isn't out.
use Rattle.sr_base.specs.Key.{KeyView}
use Rattle.sr_base.specs.declared.vip_word.VipWord.{VipWord}
use Rattle.sr_inv_facts.specs.Flying.{SomeLeaving}
use Rattle.sr_inv_facts.specs.InOpenings.{EntryOpened, IsAwaited, IsToBeAnswered, LivesFor}
use Rattle.sr_inv_openings.proofs.Speaking.{leaves}
use Rattle.sr_law.specs.declared.opening.Opening.{Opening}
use Rattle.sr_machine.specs.Config.{Config}
use Rattle.sr_machine.specs.Deciding.{is_down, learned, named_at, server_for}
use Rattle.sr_machine.specs.Goes.{Goes, placed}
use Rattle.sr_machine.specs.Waiting.{all_passed}
use Rattle.sr_machine.specs.declared.controller_view.ControllerView.{ControllerView}
use Rattle.sr_machine.specs.declared.job.Job.{Job}
use Rattle.sr_machine.specs.declared.pipe_view.PipeView.{PipeView}
use Rattle.sr_machine.specs.declared.wait.Wait.{Wait}
use Rattle.sr_shadow.specs.declared.entry.Entry.{Entry}
use Rattle.std.proofs.Common.{Bool, List, None, Option, Some, [], ap, cond, false, filter, inl, inr, is_none, is_some, refl, subst, sym, true, ℕ, ◌∙◌, ◌∷◌, ◌≡◌}
use Rattle.std.specs.List.{AllByRecursion}
use Rattle.sr_machine.specs.declared.draw.Draw.TheVariants as draw
use Rattle.sr_machine.specs.declared.wait.Wait.TheVariants as wait
use Rattle.sr_machine.specs.declared.job.Job.TheVariants as job
use Rattle.sr_machine.specs.Goes as go

-- an entry has the key, the version and the place of another one
pub record Alike (e f : Entry) : Type 0 where
  pub key : f.key ≡ e.key
  pub version : f.version ≡ e.version
  pub place : f.place ≡ e.place

pub alike_self : (e : Entry) → Alike e e
alike_self e = record { key = refl; version = refl; place = refl }

module _ (k : Config) (vips next_vips : List VipWord) (named next_named : List (List ℕ)) (down next_down : List ℕ) (j m : Job) (pipes after : List PipeView) where
  -- a key's opening for other jobs and pipes
  pub entry_turns : (e f : Entry) → Alike e f
      → (SomeLeaving pipes e.key e.version → SomeLeaving after e.key e.version)
      → (IsToBeAnswered k vips named down j e → IsToBeAnswered k next_vips next_named next_down m e)
      → named_at next_named e.key.vip e.version ≡ named_at named e.key.vip e.version → (O : Option Opening)
      → EntryOpened k vips named down j pipes e O → EntryOpened k next_vips next_named next_down m after f O
  entry_turns e f a leaves answers names None (inl h) =
      inl (ap is_none a.place ∙ h.0, subst (λ z. SomeLeaving after z f.version) (sym a.key) (subst (SomeLeaving after e.key) (sym a.version) (leaves h.1)))
  entry_turns e f a leaves answers names None (inr h) =
      let w = answers h in
      inr (record {
        placed = ap is_some a.place ∙ w.placed;
        awaited = subst (IsAwaited m) (sym a.key) w.awaited;
        newest = a.version ∙ (w.newest ∙ ap (λ z. learned next_vips z.vip) (sym a.key));
        up = ap (λ z. is_down next_down (server_for k next_named z f.version)) a.key ∙ (ap (λ z. is_down next_down (server_for k next_named e.key z)) a.version ∙ w.up);
      })
  entry_turns e f a leaves answers names (Some o) h = record {
    version = h.version ∙ sym a.version;
    pool = h.pool ∙ (sym names ∙ (ap (λ z. named_at next_named z.vip e.version) (sym a.key) ∙ ap (λ z. named_at next_named f.key.vip z) (sym a.version)));
  }

-- ---- entries of a book

-- what holds of each entry that passes a test
pub all_passing : {X : Type 0} (P Q : X → Type 0) (test : X → Bool) → ((x : X) → test x ≡ true → P x → Q x) → (xs : List X) → AllByRecursion P xs
    → AllByRecursion Q (filter test xs)
all_passing P Q test turn [] a = tt
all_passing P Q test turn (x ∷ xs) a = at (test x) refl (all_passing P Q test turn xs a.1)
  where
    at : (b : Bool) → test x ≡ b → AllByRecursion Q (filter test xs) → AllByRecursion Q (cond b (x ∷ filter test xs) (filter test xs))
    at true q rest = (turn x q a.0, rest)
    at false q rest = rest

-- ---- which held openers are about to be answered

-- a job that takes no word and answers nothing
abbrev pub IsOffEnd : Job → Type 0
IsOffEnd (job.Drain pipe count w) = ⊥
IsOffEnd (job.Draw (draw.Answer r)) = ⊥
IsOffEnd j = Unit {0}

module _ (k : Config) (c : ControllerView) (x : ℕ) (key : KeyView) where
  passed_awaited : (w : Wait) → LivesFor key w → IsAwaited (all_passed w) key
  passed_awaited (wait.Live p) h = h
  passed_awaited (wait.Judge p) h = absurd h
  passed_awaited (wait.Retire of) h = absurd h
  passed_awaited (wait.Comes u p) h = absurd h
  passed_awaited (wait.Release vip n) h = absurd h

  pub goes_awaited : (j m : Job) → Goes k c x j m → IsOffEnd j → IsAwaited j key → IsAwaited m key
  goes_awaited j m (go.waits w) off h = h
  goes_awaited j m (go.placed p) off h = h
  goes_awaited j m (go.answered r) off h = absurd off
  goes_awaited j m (go.pass_stays g pipe w a) off h = h
  goes_awaited j m (go.pass_next g pipe w a b) off h = h
  goes_awaited j m (go.pass_last g pipe w a b) off h = passed_awaited w h
  goes_awaited j m (go.drain_stays pipe count w a) off h = absurd off
  goes_awaited j m (go.drain_next pipe count w a b) off h = absurd off
  goes_awaited j m (go.drain_last pipe count w a b) off h = absurd off
  goes_awaited j m g off h = absurd h
