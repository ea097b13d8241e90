-- The words of a version, and a pipe's stores, which are on other words.
use Rattle.std.proofs.Common.{◌≡◌, ℕ, ◌<◌, filter, refl, ◌∙◌}
use Rattle.sr_base.specs.WordName.{filter_words}
use Rattle.sr_base.specs.declared.place.Place.{Place}
use Rattle.sr_inv_facts.specs.InWords.{HoldsPool, IsCleared, WordsHold, Written}
use Rattle.sr_machine.specs.Config.{Config}
use Rattle.sr_machine.specs.Deciding.{named_at}
use Rattle.sr_machine.specs.Names.{rewritten}
use Rattle.sr_machine.specs.declared.controller_view.ControllerView.{ControllerView}
use Rattle.sr_machine.specs.declared.job.Job.{Job}
use Rattle.sr_machine.specs.declared.name.Name.{Name}
use Rattle.sr_machine.specs.declared.draw.Draw.TheVariants as draw
use Rattle.sr_machine.specs.declared.store.Store.TheVariants as store
use Rattle.sr_machine.specs.declared.job.Job.TheVariants as job
use Rattle.sr_machine.specs.declared.name.Name.TheVariants as name

-- where the words of a version are as they were, they are its pool's still
pub pool_same : (k : Config) (words after : Name → ℕ) (vip version number : ℕ) → after (name.Head vip version) ≡ words (name.Head vip version)
    → ((n : ℕ) → after (name.Member vip version n) ≡ words (name.Member vip version n)) → HoldsPool k words vip version number
    → HoldsPool k after vip version number
pool_same k words after vip version number head members h = record {
  pool = h.pool;
  there = h.there;
  head = head ∙ h.head;
  members = λ n b. members n ∙ h.members n b;
}

-- and as far as they are written
pub written_same : (k : Config) (words after : Name → ℕ) → ((vip version : ℕ) → after (name.Head vip version) ≡ words (name.Head vip version))
    → ((vip version n : ℕ) → after (name.Member vip version n) ≡ words (name.Member vip version n)) → (j : Job) → Written k words j
    → Written k after j
written_same k words after head members (job.Store (store.Member u index)) h = λ n b. members u.vip u.given n ∙ h n b
written_same k words after head members (job.Store (store.Head u)) h = λ n b. members u.vip u.given n ∙ h n b
written_same k words after head members (job.Draw (draw.Given u)) h =
    ((λ n b. members u.vip u.given n ∙ h.0 n b), head u.vip u.given ∙ h.1)
written_same k words after head members j h = tt

-- the words that pipes write
abbrev pub IsPipes : Name → Type 0
IsPipes name.Tick = Unit {0}
IsPipes (name.Note pipe) = Unit {0}
IsPipes (name.Ring pipe cell) = Unit {0}
IsPipes (name.Hit place) = Unit {0}
IsPipes (name.Filter index) = Unit {0}
IsPipes a = ⊥

-- the words of the filter are cleared where they must be
abbrev pub FilterIs : Config → (Name → ℕ) → ControllerView → Type 0
FilterIs k words c =
    (n : ℕ) → n < filter_words k.layout.shape → IsCleared c.update c.vips c.job n → words (name.Filter n) ≡ 0

module _ (k : Config) (words : Name → ℕ) (c : ControllerView) (h : WordsHold k words c) where
  by_fields : (after : Name → ℕ) → ((place : Place) → after (name.Entry place) ≡ words (name.Entry place))
      → ((vip : ℕ) → after (name.Vip vip) ≡ words (name.Vip vip)) → ((server : ℕ) → after (name.Down server) ≡ words (name.Down server))
      → ((vip version : ℕ) → after (name.Head vip version) ≡ words (name.Head vip version))
      → ((vip version n : ℕ) → after (name.Member vip version n) ≡ words (name.Member vip version n)) → FilterIs k after c
      → WordsHold k after c
  by_fields after table vip down head member filter = record {
    table = λ place. table place ∙ h.table place;
    vip = λ n. vip n ∙ h.vip n;
    down = λ n. down n ∙ h.down n;
    version = λ v n is e f.
        pool_same k words after v n (named_at c.named v n) (head v n) (member v n) (h.version v n is e f);
    written = written_same k words after head member c.job h.written;
    filter = filter;
  }

  -- a pipe's store
  pub words_other : (a : Name) (x : ℕ) → IsPipes a → FilterIs k (rewritten words a x) c → WordsHold k (rewritten words a x) c
  words_other name.Tick x is f = by_fields _ (λ p. refl) (λ n. refl) (λ n. refl) (λ v n. refl) (λ v n m. refl) f
  words_other (name.Note pipe) x is f = by_fields _ (λ p. refl) (λ n. refl) (λ n. refl) (λ v n. refl) (λ v n m. refl) f
  words_other (name.Ring pipe cell) x is f = by_fields _ (λ p. refl) (λ n. refl) (λ n. refl) (λ v n. refl) (λ v n m. refl) f
  words_other (name.Hit place) x is f = by_fields _ (λ p. refl) (λ n. refl) (λ n. refl) (λ v n. refl) (λ v n m. refl) f
  words_other (name.Filter index) x is f = by_fields _ (λ p. refl) (λ n. refl) (λ n. refl) (λ v n. refl) (λ v n m. refl) f
  words_other a x is f = absurd is
