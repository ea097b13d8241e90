-- Updates: what an update is, which phase each of its steps belongs to, which versions are in use and for what, and what the changes that are still
-- to be made may give.
use Rattle.std.specs.List.{AllByRecursion, list_any}
use Rattle.std.specs.Prelude.{◌≡◌, ℕ, ◌<◌, ◌≤◌, Bool, true, false, not, ◌≢◌, ◌⊎◌, ◌↔◌, List, [], ◌∷◌, length, is_some, IfSome, if◌then◌else◌, ◌==◌, Some, None, Option}
use Rattle.sr_base.specs.WordName.{filter_words}
use Rattle.sr_base.specs.declared.vip_word.Phase.{Phase}
use Rattle.sr_base.specs.declared.vip_word.Phase.TheVariants.{Steady, Recording, Holding, Transit}
use Rattle.sr_base.specs.declared.vip_word.VipWord.{VipWord}
use Rattle.sr_inv_facts.specs.Doing.{OnRelease}
use Rattle.sr_law.specs.Given.{last_given, last_version}
use Rattle.sr_law.specs.Groups.{after_gives, last_of_update, was_given, was_given_past, was_held, was_recorded, was_switched, is_over}
use Rattle.sr_law.specs.Order.{refused_past}
use Rattle.sr_law.specs.Pools.{pool_of}
use Rattle.sr_law.specs.declared.giving.Giving.{Giving}
use Rattle.sr_law.specs.declared.line.Line.{Line}
use Rattle.sr_machine.specs.Config.{Config}
use Rattle.sr_machine.specs.Core.{Core, printed}
use Rattle.sr_machine.specs.Deciding.{learned, named_at, update_pool, vip_at}
use Rattle.sr_machine.specs.Reads.{steady}
use Rattle.sr_machine.specs.Stores.{phase_word}
use Rattle.sr_machine.specs.declared.job.Job.{Job}
use Rattle.sr_machine.specs.declared.pool_update.PoolUpdate.{PoolUpdate}
use Rattle.sr_machine.specs.declared.wait.Wait.{Wait}
use Rattle.sr_shadow.specs.Book.{count_of}
use Rattle.sr_shadow.specs.declared.entry.Entry.{Entry}
use Rattle.sr_update.specs.Numbers.{NumberRows, is_free, state_of}
use Rattle.sr_update.specs.Waits.{first_before_finish, first_before_hold}
use Rattle.sr_update.specs.declared.give_change.GiveChange.{GiveChange}
use Rattle.sr_update.specs.declared.number_state.NumberState.{NumberState}
use Rattle.sr_update.specs.declared.number_state.NumberState.TheVariants.{Free, Current, Draining}
use Rattle.sr_machine.specs.declared.draw.Draw.TheVariants as draw
use Rattle.sr_machine.specs.declared.store.Store.TheVariants as store
use Rattle.sr_machine.specs.declared.wait.Wait.TheVariants as wait
use Rattle.sr_machine.specs.declared.why.Why.TheVariants as why
use Rattle.sr_machine.specs.declared.job.Job.TheVariants as job
use Rattle.sr_law.specs.declared.line.Line.TheVariants as line

-- ---- the update and its phase

-- it gives a pool that there is to a virtual address of the layout, by another version than the one that it replaces
pub record UpdateFits (k : Config) (u : PoolUpdate) : Type 0 where
  pub vip : u.vip < k.layout.vips
  pub replaced : u.replaced < k.layout.shape.versions
  pub given : u.given < k.layout.shape.versions
  pub other : u.replaced ≢ u.given
  pub pool : is_some (pool_of k.pools u.vip u.pool) ≡ true

-- the word of an update's virtual address is that of the update in some phase
abbrev pub IsWordOf : PoolUpdate → VipWord → Type 0
IsWordOf u w = (w ≡ steady u.replaced) ⊎ ((p : Phase) × (w ≡ phase_word u p))

-- no update, or another virtual address than the update's
abbrev pub IsAside : Option PoolUpdate → ℕ → Type 0
IsAside None vip = Unit {0}
IsAside (Some u) vip = vip ≢ u.vip

-- this update is under way, and its virtual address has this word
abbrev pub At : Option PoolUpdate → List VipWord → PoolUpdate → VipWord → Type 0
At update vips u w = (update ≡ Some u) × (vip_at vips u.vip ≡ w)

-- before its first phase; in a phase
abbrev pub AtFirst : Option PoolUpdate → List VipWord → PoolUpdate → Type 0
AtFirst update vips u = At update vips u (steady u.replaced)

abbrev pub AtPhase : Option PoolUpdate → List VipWord → PoolUpdate → Phase → Type 0
AtPhase update vips u p = At update vips u (phase_word u p)

-- no step of an update is next: none is under way, or it is in a phase in which keys are placed
abbrev pub IsPlacing : PoolUpdate → VipWord → Type 0
IsPlacing u w = (w ≡ phase_word u Recording) ⊎ (w ≡ phase_word u Transit)

abbrev pub AtRest : Option PoolUpdate → List VipWord → Type 0
AtRest None vips = Unit {0}
AtRest (Some u) vips = IsPlacing u (vip_at vips u.vip)

-- the phase in which a wait for it stands
abbrev pub WaitAt : Option PoolUpdate → List VipWord → Wait → Type 0
WaitAt update vips (wait.Comes u p) = AtPhase update vips u p
WaitAt update vips w = AtRest update vips

-- each step of an update belongs to a phase; all other jobs to none
abbrev pub JobAt : Config → Option PoolUpdate → List VipWord → Job → Type 0
JobAt k update vips (job.Draw (draw.Given u)) = AtFirst update vips u
JobAt k update vips (job.Draw (draw.Comes u Recording)) = AtFirst update vips u
JobAt k update vips (job.Draw (draw.Comes u Holding)) = AtPhase update vips u Recording
JobAt k update vips (job.Draw (draw.Comes u Transit)) = AtPhase update vips u Transit
JobAt k update vips (job.Draw (draw.Comes u Steady)) = AtPhase update vips u Steady
JobAt k update vips (job.Draw (draw.Grace w)) = WaitAt update vips w
JobAt k update vips (job.Pass grace pipe w) = WaitAt update vips w
JobAt k update vips (job.Drain pipe count w) = WaitAt update vips w
JobAt k update vips (job.Store (store.Member u index)) = AtFirst update vips u × (index < length (update_pool k u))
JobAt k update vips (job.Store (store.Head u)) = AtFirst update vips u
JobAt k update vips (job.Store (store.Vip u Recording)) = AtFirst update vips u
JobAt k update vips (job.Store (store.Vip u Holding)) = AtPhase update vips u Recording
JobAt k update vips (job.Store (store.Vip u Transit)) = AtPhase update vips u Holding
JobAt k update vips (job.Store (store.Vip u Steady)) = AtPhase update vips u Transit
JobAt k update vips (job.Store (store.Filter u index)) = AtPhase update vips u Steady × (index < filter_words k.layout.shape)
JobAt k update vips j = AtRest update vips

-- ---- versions

-- the Given line of an update is still to be drawn
abbrev pub is_ungiven : Job → Bool
is_ungiven (job.Store (store.Member u index)) = true
is_ungiven (job.Store (store.Head u)) = true
is_ungiven (job.Draw (draw.Given u)) = true
is_ungiven j = false

-- the version that a virtual address has, in an update the one that is replaced
abbrev pub standing : Option PoolUpdate → List VipWord → ℕ → ℕ
standing None vips vip = (vip_at vips vip).cur
standing (Some u) vips vip = if vip == u.vip then u.replaced else (vip_at vips vip).cur

-- it is the one that an update has given to this virtual address
abbrev pub IsNew : Option PoolUpdate → Job → ℕ → ℕ → Type 0
IsNew None j vip version = ⊥
IsNew (Some u) j vip version = (is_ungiven j ≡ false) × (vip ≡ u.vip) × (version ≡ u.given)

-- the version that a virtual address was given last
abbrev pub newest : Option PoolUpdate → List VipWord → Job → ℕ → ℕ
newest None vips j vip = (vip_at vips vip).cur
newest (Some u) vips j vip =
    if vip == u.vip then (if is_ungiven j then u.replaced else u.given) else (vip_at vips vip).cur

-- the number isn't free
abbrev pub is_used_by : Option NumberState → Bool
is_used_by None = false
is_used_by (Some is) = not (is_free is)

abbrev pub is_used : NumberRows → ℕ → ℕ → Bool
is_used numbers vip version = is_used_by (state_of vip version numbers)

-- the pool of a giving, 0 for none
abbrev pub pool_given : Option Giving → ℕ
pool_given None = 0
pool_given (Some g) = g.pool

-- of an update while its Given line is still to be drawn
abbrev pub OnUngiven : Option PoolUpdate → Job → (PoolUpdate → Type 0) → Type 0
OnUngiven None j P = Unit {0}
OnUngiven (Some u) j P = is_ungiven j ≡ true → P u

-- and of one whose line was drawn
abbrev pub OnGiven : Option PoolUpdate → Job → (PoolUpdate → Type 0) → Type 0
OnGiven None j P = Unit {0}
OnGiven (Some u) j P = is_ungiven j ≡ false → P u

-- the line switches no virtual address to a pool above the one that its version named by this names
abbrev pub SwitchesUpTo : (ℕ → ℕ) → Line → Type 0
SwitchesUpTo pool (line.Switched out vip to) = to ≤ pool vip
SwitchesUpTo pool l = Unit {0}

-- ---- what a job has waited for

abbrev pub JobWaited : List Entry → NumberRows → ℕ → Job → Type 0
JobWaited entries numbers mark (job.Draw (draw.Comes u Holding)) = first_before_hold u.vip mark entries ≡ None
JobWaited entries numbers mark (job.Store (store.Vip u Holding)) = first_before_hold u.vip mark entries ≡ None
JobWaited entries numbers mark (job.Store (store.Vip u Steady)) = first_before_finish u.vip u.replaced entries ≡ None
JobWaited entries numbers mark (job.Store (store.Empty key place (why.Retired version))) =
    is_used numbers key.vip version ≡ true
JobWaited entries numbers mark j =
    OnRelease j (λ vip version. (state_of vip version numbers ≡ Some Draining) × (count_of vip version entries ≡ 0))

-- ---- changes

-- each version of a virtual address is Current, or Draining with an entry
abbrev pub AllTaken : ℕ → NumberRows → List Entry → ℕ → Type 0
AllTaken versions numbers entries vip =
    (n : ℕ) → n < versions
    → (state_of vip n numbers ≡ Some Current) ⊎ ((state_of vip n numbers ≡ Some Draining) × (1 ≤ count_of vip n entries))

-- no update is under way, and no version is free for the first change
abbrev pub NothingFree : ℕ → NumberRows → List Entry → List GiveChange → Type 0
NothingFree versions numbers entries [] = ⊥
NothingFree versions numbers entries (g ∷ rest) = AllTaken versions numbers entries g.vip

abbrev pub IsAtLeisure : Job → Type 0
IsAtLeisure job.Free = Unit {0}
IsAtLeisure (job.Look pipe) = Unit {0}
IsAtLeisure j = ⊥

pub record MayBeRefused (versions : ℕ) (update : Option PoolUpdate) (numbers : NumberRows) (entries : List Entry) (gives : List GiveChange) (j : Job) : Type 0 where
  pub none : update ≡ None
  pub leisure : IsAtLeisure j
  pub full : NothingFree versions numbers entries gives

pub record IsRefused (k : Config) (update : Option PoolUpdate) (numbers : NumberRows) (entries : List Entry) (gives : List GiveChange) (change : ℕ) : Type 0 where
  pub none : update ≡ None
  pub vip : ℕ
  pub below : vip < k.layout.vips
  pub full : AllTaken k.layout.shape.versions numbers entries vip
  pub later : AllByRecursion (λ g. change < g.position) gives

-- of the change whose refusal is about to be printed
abbrev pub OnRefused : Job → (ℕ → Type 0) → Type 0
OnRefused (job.Draw (draw.Refused change)) P = P change
OnRefused j P = Unit {0}

-- a change gives a pool after all that its virtual address was given, and wasn't refused
pub record IsToCome (lines : List Line) (g : GiveChange) : Type 0 where
  pub pool : list_any (was_given_past g.vip g.pool) lines ≡ false
  pub position : list_any (refused_past g.position) lines ≡ false

-- ---- the open group of update lines

-- what the last line of an update is, by the phase and the job
abbrev pub group_first : PoolUpdate → Job → Option Line → Bool
group_first u (job.Draw (draw.Comes w Recording)) = was_given u.vip
group_first u (job.Store (store.Vip w Recording)) = was_recorded u.vip
group_first u j = is_over

abbrev pub group_recording : PoolUpdate → Job → Option Line → Bool
group_recording u (job.Store (store.Vip w Holding)) = was_held u.vip
group_recording u j = was_recorded u.vip

abbrev pub group_transit : PoolUpdate → Job → Option Line → Bool
group_transit u (job.Draw (draw.Comes w Transit)) = was_held u.vip
group_transit u j = was_switched u.vip

abbrev pub group_steady : PoolUpdate → Job → Option Line → Bool
group_steady u (job.Draw (draw.Comes w Steady)) = was_switched u.vip
group_steady u j = is_over

-- in Steady the update is either not begun, with its old version, or all but over
abbrev pub group_of_phase : PoolUpdate → VipWord → Job → Phase → Option Line → Bool
group_of_phase u w j Steady = if w.cur == u.given then group_steady u j else group_first u j
group_of_phase u w j Recording = group_recording u j
group_of_phase u w j Holding = was_held u.vip
group_of_phase u w j Transit = group_transit u j

abbrev pub group_by : Option PoolUpdate → List VipWord → Job → Option Line → Bool
group_by None vips j = is_over
group_by (Some u) vips j = group_of_phase u (vip_at vips u.vip) j (vip_at vips u.vip).phase

-- ---- all of it

pub record UpdateHolds (k : Config) (update : Option PoolUpdate) (vips : List VipWord) (j : Job) : Type 0 where
  pub fits : IfSome update (UpdateFits k)
  pub word : IfSome update (λ u. IsWordOf u (vip_at vips u.vip))
  pub others : (vip : ℕ) → IsAside update vip → (vip_at vips vip).phase ≡ Steady
  pub phase : JobAt k update vips j

pub record VersionsHold (k : Config) (lines : List Line) (update : Option PoolUpdate) (vips : List VipWord) (numbers : NumberRows) (named : List (List ℕ)) (entries : List Entry) (mark : ℕ) (j : Job) : Type 0 where
  pub current : (vip version : ℕ) → vip < k.layout.vips → version < k.layout.shape.versions
      → (state_of vip version numbers ≡ Some Current) ↔ ((version ≡ standing update vips vip) ⊎ IsNew update j vip version)
  pub ungiven : OnUngiven update j (λ u. state_of u.vip u.given numbers ≡ Some Free)
  pub given : OnGiven update j (λ u. named_at named u.vip u.given ≡ u.pool)
  pub pool : (vip version : ℕ) → named_at named vip version ≡ pool_given (last_version lines vip version)
  pub some : (vip version : ℕ) → is_used numbers vip version ≡ true → 1 ≤ named_at named vip version
  pub last : (vip : ℕ) → vip < k.layout.vips
      → last_given lines vip ≡ Some (record {
        version =
            newest update vips j vip;
        pool = named_at named vip (newest update vips j vip);
      })
  pub rises : IfSome update (λ u. named_at named u.vip u.replaced < u.pool)
  pub newer : AllByRecursion (SwitchesUpTo (λ vip. named_at named vip (learned vips vip))) lines
  pub used : AllByRecursion (λ e. is_used numbers e.key.vip e.version ≡ true) entries
  pub waited : JobWaited entries numbers mark j

pub record ChangesHold (k : Config) (lines : List Line) (update : Option PoolUpdate) (vips : List VipWord) (numbers : NumberRows) (entries : List Entry) (gives : List GiveChange) (refusing : Bool) (j : Job) : Type 0 where
  pub may_refuse : refusing ≡ true → MayBeRefused k.layout.shape.versions update numbers entries gives j
  pub refused : OnRefused j (IsRefused k update numbers entries gives)
  pub unrefused : OnRefused j (λ change. list_any (refused_past change) lines ≡ false)
  pub to_come : AllByRecursion (IsToCome lines) gives
  pub new : OnUngiven update j (λ u. list_any (was_given_past u.vip u.pool) lines ≡ false)
  pub after : OnUngiven update j (λ u. AllByRecursion (λ g. g.vip ≡ u.vip → u.pool < g.pool) gives)
  pub enough : k.layout.vips ≤ length lines
  pub group : group_by update vips j (last_of_update (after_gives k.layout.vips lines)) ≡ true

pub record InUpdate (s : Core) : Type 0 where
  pub update : UpdateHolds s.config s.controller.update s.controller.vips s.controller.job
  pub versions : VersionsHold s.config (printed s) s.controller.update s.controller.vips s.controller.numbers s.controller.named s.controller.book.entries s.controller.mark s.controller.job
  pub changes : ChangesHold s.config (printed s) s.controller.update s.controller.vips s.controller.numbers s.controller.book.entries s.controller.gives s.controller.refusing s.controller.job

-- its first part alone: the update and its phase
abbrev pub PhasesHold : Core → Type 0
PhasesHold s = UpdateHolds s.config s.controller.update s.controller.vips s.controller.job

-- its second part alone: the versions
abbrev pub VersionsKept : Core → Type 0
VersionsKept s = VersionsHold s.config (printed s) s.controller.update s.controller.vips s.controller.numbers s.controller.named s.controller.book.entries s.controller.mark s.controller.job

-- its third part alone: the changes and the open group of lines
abbrev pub ChangesKept : Core → Type 0
ChangesKept s =
    ChangesHold s.config (printed s) s.controller.update s.controller.vips s.controller.numbers s.controller.book.entries s.controller.gives s.controller.refusing s.controller.job
