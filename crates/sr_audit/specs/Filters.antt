-- The filter of each virtual address since its last Recorded line: the places that openers may have set, and the pool that they weren't sent to.
use Rattle.std.specs.Prelude.{◌≡◌, ℕ, Bool, true, false, not, ◌&&◌, ◌||◌, ◌==◌, List, Option, Some, None, MatchOption}
use Rattle.std.specs.BTreeMap.{get}
use Rattle.std.specs.BTreeSet.{contains}
use Rattle.std.specs.List.{list_any, list_all}
use Rattle.std.specs.Ordering.{nat_cmp}
use Rattle.sr_base.specs.Key.{KeyView}
use Rattle.sr_hash.specs.Uses.{bloom_places_of}
use Rattle.sr_law.specs.declared.line.Line.{Line}
use Rattle.sr_law.specs.Given.{has_pool}
use Rattle.sr_law.specs.Held.{records, recorded_giving, is_set}
use Rattle.sr_audit.specs.declared.filters.Filter.{Filter}
use Rattle.sr_audit.specs.declared.filters.Filters.{Filters}

-- one of the key's filter places is this one
abbrev pub has_place : ℕ → KeyView → ℕ → Bool
has_place bits key place = list_any (λ p. p == place) (bloom_places_of key bits)

-- each of them is set
abbrev pub has_places : ℕ → Filter → KeyView → Bool
has_places bits filter key = list_all (λ place. contains nat_cmp filter.places place) (bloom_places_of key bits)

-- the filter has its pool still, and the key's places more where `sets` is true
pub record MayHaveSet (bits : ℕ) (key : KeyView) (sets : Bool) (old new : Filter) : Type 0 where
  pub giving : new.giving ≡ old.giving
  pub places : (place : ℕ) → contains nat_cmp new.places place ≡ ((sets && has_place bits key place) || contains nat_cmp old.places place)

-- what becomes of a virtual address's filter when an opener of this key is sent to a pool, where that is one of this virtual address
abbrev pub Sends : ℕ → KeyView → ℕ → Bool → Option Filter → Option Filter → Type 0
Sends bits key pool is_own None new = new ≡ None
Sends bits key pool is_own (Some old) new = MatchOption new ⊥ (MayHaveSet bits key (is_own && not (has_pool old.giving pool)) old)

-- the filter of a virtual address is that of these lines
pub record TellsFilter (bits vip : ℕ) (filter : Filter) (before : List Line) : Type 0 where
  pub recorded : list_any (records vip) before ≡ true
  pub giving : filter.giving ≡ recorded_giving before vip
  pub places : (place : ℕ) → contains nat_cmp filter.places place ≡ is_set bits vip filter.giving place before

-- there is one where these lines have a Recorded line of the virtual address
abbrev pub TellsRecorded : ℕ → ℕ → List Line → Option Filter → Type 0
TellsRecorded bits vip before None = list_any (records vip) before ≡ false
TellsRecorded bits vip before (Some filter) = TellsFilter bits vip filter before

-- the index is that of these lines
abbrev pub TellsFilters : ℕ → Filters → List Line → Type 0
TellsFilters bits index before = (vip : ℕ) → TellsRecorded bits vip before (get nat_cmp index.map vip)
