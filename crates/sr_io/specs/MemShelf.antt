-- A shelf in memory, some calls of which are to fail.
use Rattle.std.specs.Prelude.{ℕ, List, [], ◌∷◌, Option, Some, None, Result, Ok, Err, if◌then◌else◌}
use Rattle.std.specs.Str.{bytes_eq}
use Rattle.sr_io.specs.declared.shelf.FetchRefusal.{FetchRefusal}
use Rattle.sr_io.specs.declared.shelf.FetchRefusal.TheVariants.{TooLong, Failed, Memory}
use Rattle.sr_io.specs.Calls.{CallsView, fails_next, after_call, after_fault}
use Rattle.sr_io.specs.SureShelf.{fetched_of}

-- the names with their texts, and the calls
pub record MemShelfView : Type 0 where
  pub files : List (List ℕ × List ℕ)
  pub calls : CallsView

-- the text of the first file of this name
abbrev pub text_of : List (List ℕ × List ℕ) → List ℕ → Option (List ℕ)
text_of [] name = None
text_of (file ∷ files) name = if bytes_eq file.0 name then Some file.1 else text_of files name

-- a call that is to fail fails
abbrev pub mem_fetched_of : MemShelfView → List ℕ → ℕ → Result (List ℕ) FetchRefusal
mem_fetched_of s name limit = if fails_next s.calls then Err Failed else fetched_of (text_of s.files name) limit

-- one more call, with this answer
abbrev pub calls_after_fetch : {V : Type 0} → CallsView → Result V FetchRefusal → CallsView
calls_after_fetch c (Ok v) = after_call c
calls_after_fetch c (Err TooLong) = after_call c
calls_after_fetch c (Err Failed) = after_fault c
calls_after_fetch c (Err Memory) = after_call c

abbrev pub after_fetch : {V : Type 0} → MemShelfView → Result V FetchRefusal → MemShelfView
after_fetch s result = record s { calls = calls_after_fetch s.calls result }
