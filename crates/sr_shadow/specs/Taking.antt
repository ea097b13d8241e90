-- What taking a key answers, and what it leaves.
use Rattle.std.specs.Prelude.{◌≡◌, ◌≢◌, ℕ, true, false, Some, Result, Ok, Err}
use Rattle.std.specs.declared.alloc.AllocError.{AllocError}
use Rattle.sr_base.specs.Key.{KeyView}
use Rattle.sr_shadow.specs.Book.{is_registered}
use Rattle.sr_shadow.specs.ShadowView.{ShadowView, with_entered}
use Rattle.sr_shadow.specs.declared.took.Took.{Took}
use Rattle.sr_shadow.specs.declared.took.Took.TheVariants.{New, Same}

-- New exactly where the key isn't registered, Same exactly where it is; want of memory only for a new key that no room was made for
abbrev pub Takes : Result Took AllocError → KeyView → ℕ → ShadowView → ShadowView → Type 0
Takes (Ok New) key version old new = (is_registered key old.book.entries ≡ false) × (new ≡ with_entered key version old)
Takes (Ok Same) key version old new = (is_registered key old.book.entries ≡ true) × (new ≡ old)
Takes (Err e) key version old new = (is_registered key old.book.entries ≡ false) × (old.ready ≢ Some key) × (new ≡ old)
