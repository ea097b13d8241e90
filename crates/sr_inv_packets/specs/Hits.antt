-- Hits: what a packet that used an entry has left at its place.
use Rattle.std.specs.Prelude.{◌≡◌, ℕ, ◌<◌, false, ◌≢◌, Some, None}
use Rattle.sr_base.specs.Key.{KeyView}
use Rattle.sr_base.specs.declared.kind.Kind.{Kind}
use Rattle.sr_base.specs.declared.kind.Kind.TheVariants.{Opener}
use Rattle.sr_base.specs.declared.place.Place.{Place}
use Rattle.sr_inv_facts.specs.InSweeps.{IsFrom, base_of, is_unsettled, since}
use Rattle.sr_inv_facts.specs.Invariant.{Invariant}
use Rattle.sr_inv_facts.specs.Readings.{In}
use Rattle.sr_law.specs.declared.verdict.Verdict.{Verdict}
use Rattle.sr_machine.specs.Core.{Core, printed}
use Rattle.sr_shadow.specs.Book.{entry_for}
use Rattle.sr_shadow.specs.declared.entry.Entry.{Entry}
use Rattle.sr_law.specs.declared.line.Line.TheVariants as line
use Rattle.sr_machine.specs.declared.name.Name.TheVariants as name

-- the key's entry stands at this place, and the lines tell so: its Placed line is drawn, and the Cleared line of the place that it left
pub record IsPlaced (s : Core) (key : KeyView) (e : Entry) (place : Place) : Type 0 where
  pub found : entry_for key s.controller.book.entries ≡ Some e
  pub stands : e.place ≡ Some place
  pub left : e.also ≡ None
  pub told : is_unsettled s.controller.job key ≡ false

-- The packet entered after the last of these lines of the key, and not before the end of the sweep since which the entry was quiet, if one has gone by
-- it since it stands there.
pub record IsSince (s : Core) (key : KeyView) (e : Entry) (entered : ℕ) : Type 0 where
  pub placed : since (printed s) key < entered
  pub swept : IsFrom (base_of (printed s) s.controller.sweeps s.controller.job e) entered

abbrev pub LeaveHits : Type 0
LeaveHits =
    (s : Core) → Invariant s → (key : KeyView) (e : Entry) (place : Place) → IsPlaced s key e place
    → (number entered out pipe : ℕ) (kind : Kind) (v : Verdict) → In (line.Packet number entered out pipe key kind v) (printed s)
    → kind ≢ Opener → IsSince s key e entered
    → s.words (name.Hit place) ≡ 1
