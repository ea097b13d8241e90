-- What is known of an entry that may move.
use Rattle.std.specs.Prelude.{◌≡◌, ◌&&◌, Bool, true, false, cond, List, Option, Some, None}
use Rattle.std.specs.List.{list_any}
use Rattle.sr_base.specs.Key.{KeyView, same_key}
use Rattle.sr_base.specs.declared.place.Place.{Place}
use Rattle.sr_shadow.specs.Book.{entry_for}
use Rattle.sr_shadow.specs.Entry.{is_at, is_of, is_outside, is_placed}
use Rattle.sr_shadow.specs.declared.entry.Entry.{Entry}

-- it is its key's entry, outside the full-key table, and another key's than the one that is planned
pub record IsMover (key : KeyView) (e : Entry) (es : List Entry) : Type 0 where
  pub own : entry_for e.key es ≡ Some e
  pub outside : is_outside e ≡ true
  pub other : same_key e.key key ≡ false

-- the holder is nobody, or this key
abbrev pub is_nobody_else : Option KeyView → KeyView → Bool
is_nobody_else None key = true
is_nobody_else (Some holder) key = same_key key holder

-- an entry, where this is its Live place
abbrev pub if_at : Place → Option Entry → Option Entry
if_at place None = None
if_at place (Some e) = cond (is_at place e.place) (Some e) None

-- no entry of the key has a Live place
abbrev pub NonePlaced : KeyView → List Entry → Type 0
NonePlaced key es = list_any (λ e. is_of key e && is_placed e) es ≡ false
