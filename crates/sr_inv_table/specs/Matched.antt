-- Which places speak to which keys.
use Rattle.std.specs.Prelude.{◌≡◌, ℕ, true, Some}
use Rattle.sr_base.specs.Key.{KeyView}
use Rattle.sr_base.specs.declared.place.Place.{Place}
use Rattle.sr_hash.specs.Uses.{is_place_of}
use Rattle.sr_inv_facts.specs.Readings.{SpeaksLive}
use Rattle.sr_inv_table.specs.Learning.{IsLearned}
use Rattle.sr_machine.specs.Core.{Core}
use Rattle.sr_machine.specs.Reads.{says}
use Rattle.sr_shadow.specs.Book.{entry_for}
use Rattle.sr_shadow.specs.Entry.{holds, is_outside}
use Rattle.sr_shadow.specs.declared.entry.Entry.{Entry}
use Rattle.sr_machine.specs.declared.name.Name.TheVariants as name

-- a key with a Live place has no report of it as learned in a ring, and no opener that may learn it
abbrev pub PlacedAreSettled : Core → Type 0
PlacedAreSettled s =
    (key : KeyView) (e : Entry) (place : Place) → entry_for key s.controller.book.entries ≡ Some e → e.place ≡ Some place
    → (n : ℕ) → IsLearned s key n → ⊥

-- the word at this place, which is one of the key's, says to a packet of the key that an entry is live there
abbrev pub IsMatched : Core → KeyView → Place → Type 0
IsMatched s key place =
    (is_place_of s.config.layout.shape key place ≡ true)
    × SpeaksLive (says s.config.layout place key (s.words (name.Entry place)))

-- No live place matches a key that is about to be learned; and of a key that is registered outside the full-key table, none does that its
-- own entry doesn't hold.
pub record NoOtherMatches (s : Core) : Type 0 where
  pub learned : (key : KeyView) (n : ℕ) → IsLearned s key n → (place : Place) → IsMatched s key place → ⊥
  pub registered : (key : KeyView) (e : Entry) → entry_for key s.controller.book.entries ≡ Some e → is_outside e ≡ true
      → (place : Place) → IsMatched s key place → holds place e ≡ true
