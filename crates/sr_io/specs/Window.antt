-- The bytes of a source that were read and aren't used yet.
use Rattle.std.specs.Prelude.{◌≡◌, ℕ, ◌≤◌, ◌⊎◌, Bool, true, false, List, [], ◌++◌, length, take, drop, Option, Some}

-- the bytes that were used last, which are still there; those that aren't used yet; how many there is room for; and whether the source told its
-- end
pub record WindowView : Type 0 where
  pub used : List ℕ
  pub unread : List ℕ
  pub room : ℕ
  pub over : Bool

-- nothing was read
abbrev pub new_window : ℕ → WindowView
new_window room = record { used = []; unread = []; room = room; over = false }

-- the first n bytes were used
abbrev pub passed : ℕ → WindowView → WindowView
passed n w = record { used = take n w.unread; unread = drop n w.unread; room = w.room; over = w.over }

-- the first n bytes were used, and none is kept
abbrev pub passed_over : ℕ → WindowView → WindowView
passed_over n w = record { used = []; unread = drop n w.unread; room = w.room; over = w.over }

-- the bytes of a window that aren't used yet, and then those that the source has left, are these: what is still to be read
pub record Pending (w : WindowView) (left : Option (List ℕ)) (bytes : List ℕ) : Type 0 where
  pub rest : List ℕ
  pub told : left ≡ Some rest
  pub whole : bytes ≡ w.unread ++ rest
  pub none : w.over ≡ true → rest ≡ []

-- there are so many bytes, or all that come
abbrev pub IsFilled : WindowView → ℕ → Type 0
IsFilled w least = (least ≤ length w.unread) ⊎ (w.over ≡ true)

-- There may be more bytes behind those that a window had. What is still to be read, where the source tells it, stays the same.
pub record ReadsOn (old : WindowView) (before : Option (List ℕ)) (new : WindowView) (after : Option (List ℕ)) : Type 0 where
  pub pending : (bytes : List ℕ) → Pending old before bytes → Pending new after bytes
  pub front : take (length old.unread) new.unread ≡ old.unread
  pub used : new.used ≡ old.used
  pub room : new.room ≡ old.room
