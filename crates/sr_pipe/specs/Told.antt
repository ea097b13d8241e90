-- What the words said that were loaded in a packet's steps.
use Rattle.std.specs.Prelude.{ℕ, ◌==◌, ◌&&◌, ◌||◌, not, Bool, true, false, List, [], ◌∷◌, Option, Some, None}
use Rattle.sr_base.specs.Key.{KeyView}
use Rattle.sr_base.specs.Layout.{LayoutView}
use Rattle.sr_base.specs.declared.vip_word.Phase.{Phase}
use Rattle.sr_base.specs.declared.vip_word.Phase.TheVariants.{Holding, Transit}
use Rattle.sr_base.specs.declared.vip_word.VipWord.{VipWord}
use Rattle.sr_core.specs.Making.{Made}
use Rattle.sr_machine.specs.Reads.{has_bit, read_flag, read_vip, says}
use Rattle.sr_machine.specs.declared.name.Name.TheVariants.{Entry, Vip, Filter, Down, Ring}
use Rattle.sr_machine.specs.declared.op.Op.{Op}
use Rattle.sr_machine.specs.declared.op.Op.TheVariants.{Loads}
use Rattle.sr_machine.specs.declared.said.Said.{Said}
use Rattle.sr_machine.specs.declared.said.Said.TheVariants.{Nothing, Reserved, Live}

pub record Told : Type 0 where
  -- a row or a cell was taken for the key's, reserved or live
  pub matched : Bool
  -- what the virtual address's word said
  pub vip : Option VipWord
  -- the words of the transit filter, in order
  pub filter : List ℕ
  -- the down word of a server
  pub down : Option ℕ
  -- the cell of the ring
  pub cell : Option ℕ

-- nothing was loaded
abbrev pub untold : Told
untold = record { matched = false; vip = None; filter = []; down = None; cell = None }

abbrev pub is_match : Said → Bool
is_match Nothing = false
is_match Reserved = true
is_match (Live version) = true

-- what a step adds to what those after it told
abbrev pub told_more : LayoutView → KeyView → Op → ℕ → Told → Told
told_more l key (Loads (Entry place)) x t = record t { matched = is_match (says l place key x) || t.matched }
told_more l key (Loads (Vip vip)) x t = record t { vip = Some (read_vip l x) }
told_more l key (Loads (Filter index)) x t = record t { filter = x ∷ t.filter }
told_more l key (Loads (Down server)) x t = record t { down = Some x }
told_more l key (Loads (Ring pipe cell)) x t = record t { cell = Some x }
told_more l key op x t = t

abbrev pub told_by : LayoutView → KeyView → List Made → Told
told_by l key [] = untold
told_by l key (m ∷ rest) = told_more l key m.op m.answer (told_by l key rest)

-- ---- what of it decides

abbrev pub is_holding : Phase → Bool
is_holding Holding = true
is_holding phase = false

abbrev pub is_transit : Phase → Bool
is_transit Transit = true
is_transit phase = false

-- the virtual address's word said a phase of this kind
abbrev pub vip_says : (Phase → Bool) → Option VipWord → Bool
vip_says test None = false
vip_says test (Some w) = test w.phase

-- each of these places of the transit filter was set in the word loaded for it
abbrev pub all_set : List ℕ → List ℕ → Bool
all_set [] words = true
all_set (bit ∷ rest) [] = false
all_set (bit ∷ rest) (x ∷ words) = has_bit bit x && all_set rest words

-- a down word was loaded and says that the server is down
abbrev pub says_down : Option ℕ → Bool
says_down None = false
says_down (Some x) = read_flag x

-- the cell was loaded and was 0
abbrev pub says_empty : Option ℕ → Bool
says_empty None = false
says_empty (Some x) = x == 0

-- the cell was loaded and wasn't 0
abbrev pub says_full : Option ℕ → Bool
says_full None = false
says_full (Some x) = not (x == 0)
