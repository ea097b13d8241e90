-- What `Shadow` is seen as: the layout that it was made of, the book, and the key, if any, for whose entry room was made.
use Rattle.std.specs.Prelude.{ℕ, ◌<◌, MatchOption, Bool, false, if◌then◌else◌, Option, None, Some}
use Rattle.sr_base.specs.Key.{KeyView, same_key}
use Rattle.sr_base.specs.Layout.{LayoutView}
use Rattle.sr_shadow.specs.Book.{empty_book, with_new}
use Rattle.sr_shadow.specs.declared.book.Book.{Book}

pub record ShadowView : Type 0 where
  pub layout : LayoutView
  pub book : Book
  pub ready : Option KeyView

-- the empty book of a layout
abbrev pub opened : LayoutView → ShadowView
opened layout = record { layout = layout; book = empty_book; ready = None }

-- room is made for the key's entry
abbrev pub reserved_for : KeyView → ShadowView → ShadowView
reserved_for key shadow = record shadow { ready = Some key }

-- room was made for this key
abbrev pub is_ready : KeyView → Option KeyView → Bool
is_ready key None = false
is_ready key (Some ready) = same_key key ready

-- where room was made for a key there is some
abbrev pub HasRoom : Option KeyView → ℕ → Type 0
HasRoom ready room = MatchOption ready (Unit {0}) (λ key. 0 < room)

-- the room that is left once a key is taken: the key's own is used, another key's stays
abbrev pub ready_after : KeyView → Option KeyView → Option KeyView
ready_after key ready = if is_ready key ready then None else ready

-- something became of the book alone
abbrev pub with_book : (Book → Book) → ShadowView → ShadowView
with_book change shadow = record shadow { book = change shadow.book }

-- the key is registered, as the last entry
abbrev pub with_entered : KeyView → ℕ → ShadowView → ShadowView
with_entered key version shadow = record shadow { book = with_new key version shadow.book; ready = ready_after key shadow.ready }
