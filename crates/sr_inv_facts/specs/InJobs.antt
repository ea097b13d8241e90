-- Jobs and places: no place is held twice, what a job puts, empties, retires or answers stands as it must in the book, and by the printed lines a
-- place is taken exactly by who holds it in the book or is about to.
use Rattle.std.specs.List.{AllByRecursion}
use Rattle.std.specs.Option.{option_or}
use Rattle.std.specs.Prelude.{◌≡◌, ℕ, Bool, true, false, not, List, [], ◌∷◌, is_some, IfSome, if◌then◌else◌, Some, None, Option, option_map}
use Rattle.sr_base.specs.Key.{KeyView, same_key}
use Rattle.sr_base.specs.Place.{same_place}
use Rattle.sr_base.specs.declared.place.Place.{Place}
use Rattle.sr_base.specs.declared.place.Place.TheVariants.{Row}
use Rattle.sr_base.specs.declared.shape.Shape.{Shape}
use Rattle.sr_base.specs.declared.vip_word.VipWord.{VipWord}
use Rattle.sr_hash.specs.Uses.{is_place_of}
use Rattle.sr_inv_facts.specs.Doing.{OnLive, OnPut}
use Rattle.sr_law.specs.Taken.{taken}
use Rattle.sr_law.specs.TakenDown.{is_down as told_down}
use Rattle.sr_law.specs.declared.line.Line.{Line}
use Rattle.sr_law.specs.declared.taking.Taking.{Taking}
use Rattle.sr_machine.specs.Config.{Config}
use Rattle.sr_machine.specs.Core.{Core, printed}
use Rattle.sr_machine.specs.Deciding.{learned, is_down, server_for}
use Rattle.sr_machine.specs.declared.controller_view.ControllerView.{ControllerView}
use Rattle.sr_machine.specs.declared.held_opener.HeldOpener.{HeldOpener}
use Rattle.sr_machine.specs.declared.job.Job.{Job}
use Rattle.sr_machine.specs.declared.put.Aim.{Aim}
use Rattle.sr_machine.specs.declared.put.Put.{Put}
use Rattle.sr_machine.specs.declared.reply.Reply.{Reply}
use Rattle.sr_machine.specs.declared.wait.Wait.{Wait}
use Rattle.sr_machine.specs.declared.why.Why.{Why}
use Rattle.sr_shadow.specs.Book.{HeldOnce, entry_for, is_registered, holder_of}
use Rattle.sr_shadow.specs.Entry.{may_retire, is_slot, is_placed}
use Rattle.sr_shadow.specs.Plan.{key_rows}
use Rattle.sr_shadow.specs.declared.entry.Entry.{Entry}
use Rattle.sr_machine.specs.declared.draw.Draw.TheVariants as draw
use Rattle.sr_machine.specs.declared.store.Store.TheVariants as store
use Rattle.sr_machine.specs.declared.wait.Wait.TheVariants as wait
use Rattle.sr_machine.specs.declared.why.Why.TheVariants as why
use Rattle.sr_machine.specs.declared.put.Aim.TheVariants as aim
use Rattle.sr_machine.specs.declared.job.Job.TheVariants as job
use Rattle.sr_law.specs.declared.line.Line.TheVariants as line

-- ---- a key that moves

-- the place that a moving key's entry is about to leave
abbrev pub leaving_by : KeyView → Put → Aim → Option Place
leaving_by key p (aim.Move from planned) = if same_key p.key key then Some from else None
leaving_by key p a = None

abbrev pub leaving_lived : KeyView → Wait → Option Place
leaving_lived key (wait.Live p) = leaving_by key p p.aim
leaving_lived key w = None

abbrev pub leaving : Job → KeyView → Option Place
leaving (job.Draw (draw.Placed p)) key = leaving_by key p p.aim
leaving (job.Draw (draw.Grace w)) key = leaving_lived key w
leaving (job.Pass grace pipe w) key = leaving_lived key w
leaving (job.Drain pipe count w) key = leaving_lived key w
leaving (job.Store (store.Empty of place why.Source)) key = if same_key of key then Some place else None
leaving j key = None

-- ---- what a job does

-- what a job's fact is said of
pub record Seen : Type 0 where
  pub entries : List Entry
  pub held : List HeldOpener
  pub vips : List VipWord
  pub named : List (List ℕ)
  pub down : List ℕ

abbrev pub seen : ControllerView → Seen
seen c = record { entries = c.book.entries; held = c.held; vips = c.vips; named = c.named; down = c.down }

-- this held opener is the first
abbrev pub IsFirst : HeldOpener → List HeldOpener → Type 0
IsFirst h held = (rest : List HeldOpener) × (held ≡ h ∷ rest)

-- the key's entry stands at this place
abbrev pub StandsAt : KeyView → Place → List Entry → Type 0
StandsAt key place entries = (e : Entry) × (entry_for key entries ≡ Some e) × (e.place ≡ Some place)

-- the key has no Live place: it isn't registered, or is pending
abbrev pub HasNoPlace : KeyView → List Entry → Type 0
HasNoPlace key entries = IfSome (entry_for key entries) (λ e. e.place ≡ None)

-- what a put is for: a pending key; the first held opener, whose key isn't placed; an entry that moves from a slot to a slot
abbrev pub AimHolds : List Entry → List HeldOpener → Put → Aim → Type 0
AimHolds entries held p aim.Pending = (e : Entry) × (entry_for p.key entries ≡ Some e) × (e.place ≡ None)
AimHolds entries held p (aim.Held h) = IsFirst h held × (p.key ≡ h.key) × HasNoPlace p.key entries
AimHolds entries held p (aim.Move from planned) =
    StandsAt p.key from entries × (is_slot from ≡ true) × (is_slot p.place ≡ true)

-- a put's place is one of its key, and held by nobody
pub record PutHolds (shape : Shape) (entries : List Entry) (held : List HeldOpener) (p : Put) : Type 0 where
  pub own : is_place_of shape p.key p.place ≡ true
  pub free : holder_of p.place entries ≡ None
  pub aim : AimHolds entries held p p.aim

-- what a live put was for
abbrev pub LiveAim : List HeldOpener → Put → Aim → Type 0
LiveAim held p aim.Pending = Unit {0}
LiveAim held p (aim.Held h) = IsFirst h held × (p.key ≡ h.key)
LiveAim held p (aim.Move from planned) = is_slot from ≡ true

-- a put that was made live stands at its place
pub record LiveHolds (entries : List Entry) (held : List HeldOpener) (p : Put) : Type 0 where
  pub stands : StandsAt p.key p.place entries
  pub aim : LiveAim held p p.aim

-- nobody holds a place of this key
pub record IsLeft (shape : Shape) (entries : List Entry) (key : KeyView) (place : Place) : Type 0 where
  pub own : is_place_of shape key place ≡ true
  pub free : holder_of place entries ≡ None

-- a key that isn't registered would go to a server that is down: this is the answer to the first held opener, which is its
pub record IsDead (k : Config) (c : Seen) (r : Reply) (version : ℕ) : Type 0 where
  pub first : IsFirst r.held c.held
  pub unregistered : is_registered r.held.key c.entries ≡ false
  pub next : version ≡ learned c.vips r.held.key.vip
  pub down : is_down c.down (server_for k c.named r.held.key version) ≡ true

-- each row of the key's group is held
abbrev pub IsGroupHeld : Shape → List Entry → KeyView → Type 0
IsGroupHeld shape entries key = AllByRecursion (λ row. is_some (holder_of (Row row) entries) ≡ true) (key_rows shape key)

-- The answer to the first held opener: a registered key's names its version; one that isn't registered finds no place, or its
-- server is down.
abbrev pub AnswerNames : Config → Seen → Reply → Option Entry → Option ℕ → Type 0
AnswerNames k c r (Some e) version = version ≡ Some e.version
AnswerNames k c r None None = IsGroupHeld k.layout.shape c.entries r.held.key
AnswerNames k c r None (Some version) = IsDead k c r version

pub record AnswerHolds (k : Config) (c : Seen) (r : Reply) : Type 0 where
  pub first : IsFirst r.held c.held
  pub names : AnswerNames k c r (entry_for r.held.key c.entries) r.version

-- why a place was emptied
abbrev pub ClearedHolds : Config → Seen → KeyView → Why → Type 0
ClearedHolds k c key (why.Withdrawn None) = Unit {0}
ClearedHolds k c key (why.Withdrawn (Some r)) = IfSome r.version (λ version. IsDead k c r version) × (is_some r.version ≡ true)
ClearedHolds k c key why.Source = Unit {0}
ClearedHolds k c key (why.Retired version) = is_registered key c.entries ≡ false

-- an entry that is retired stands there, and may be
pub record RetiredHolds (k : Config) (entries : List Entry) (key : KeyView) (place : Place) (version : ℕ) : Type 0 where
  pub entry : Entry
  pub found : entry_for key entries ≡ Some entry
  pub stands : entry.place ≡ Some place
  pub with_version : entry.version ≡ version
  pub over : may_retire k.layout.shape.lives entry ≡ true

-- the last line of the controller took this server down
abbrev pub JustDowned : List Line → ℕ → Type 0
JustDowned [] server = ⊥
JustDowned (line.Packet number entered out pipe key kind v ∷ before) server = JustDowned before server
JustDowned (line.TakenDown out down ∷ before) server = down ≡ server
JustDowned (l ∷ before) server = ⊥

-- what each job stands on
abbrev pub JobHolds : Config → Seen → List Line → Job → Type 0
JobHolds k c lines (job.Store (store.Down server)) = (is_down c.down server ≡ true) × JustDowned lines server
JobHolds k c lines (job.Store (store.Empty key place why.Source)) =
    (e : Entry) × (entry_for key c.entries ≡ Some e) × (is_placed e ≡ true) × (e.also ≡ Some place)
JobHolds k c lines (job.Store (store.Empty key place (why.Retired version))) =
    IsLeft k.layout.shape c.entries key place × (is_registered key c.entries ≡ false)
JobHolds k c lines (job.Draw (draw.Cleared key place w)) =
    IsLeft k.layout.shape c.entries key place × ClearedHolds k c key w
JobHolds k c lines (job.Draw (draw.Retired key place version)) = RetiredHolds k c.entries key place version
JobHolds k c lines (job.Draw (draw.Answer r)) = AnswerHolds k c r
JobHolds k c lines (job.Hit from ms key place number) =
    (e : Entry) × (entry_for key c.entries ≡ Some e) × (e.place ≡ Some place) × (e.taken ≡ number)
JobHolds k c lines j =
    OnPut j (PutHolds k.layout.shape c.entries c.held) × OnLive j (LiveHolds c.entries c.held)

-- ---- who has a place by the lines

-- who is about to have a place, or still has it though no entry does
abbrev pub taking_at : Place → KeyView → Bool → Place → Option Taking
taking_at at key is_live place = if same_place at place then Some (record { key = key; placed = is_live }) else None

abbrev pub is_given_up : Why → Bool
is_given_up (why.Withdrawn reply) = true
is_given_up w = false

abbrev pub judge_taking : Wait → Place → Option Taking
judge_taking (wait.Judge p) place = taking_at p.place p.key false place
judge_taking w place = None

abbrev pub job_taking : Job → Place → Option Taking
job_taking (job.Store (store.Reserved p)) place = taking_at p.place p.key false place
job_taking (job.Draw (draw.Grace w)) place = judge_taking w place
job_taking (job.Pass grace pipe w) place = judge_taking w place
job_taking (job.Drain pipe count w) place = judge_taking w place
job_taking (job.Store (store.Judge p)) place = taking_at p.place p.key false place
job_taking (job.Draw (draw.Placed p)) place = taking_at p.place p.key false place
job_taking (job.Store (store.Empty key at (why.Retired version))) place = taking_at at key true place
job_taking (job.Draw (draw.Cleared key at w)) place = taking_at at key (not (is_given_up w)) place
job_taking j place = None

-- who has a place in the book
abbrev pub book_taking : List Entry → Place → Option Taking
book_taking entries place = option_map (λ key. record { key = key; placed = true }) (holder_of place entries)

-- ---- all of it

pub record JobsHold (k : Config) (c : Seen) (j : Job) (lines : List Line) : Type 0 where
  pub once : HeldOnce c.entries
  pub also : AllByRecursion (λ e. e.also ≡ leaving j e.key) c.entries
  pub stands : JobHolds k c lines j
  pub places : (place : Place) → taken lines place ≡ option_or (job_taking j place) (book_taking c.entries place)
  pub downs : (server : ℕ) → told_down lines server ≡ is_down c.down server

pub record InJobs (s : Core) : Type 0 where
  pub holds : JobsHold s.config (seen s.controller) s.controller.job (printed s)
