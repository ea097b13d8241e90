-- What the controller's next step names is of the layout.
use Rattle.std.specs.Prelude.{◌≡◌, ℕ, ◌+◌, ◌^◌, ◌<◌, ◌≤◌, IsSome}
use Rattle.sr_base.specs.WordName.{HasPlace, filter_words}
use Rattle.sr_base.specs.declared.place.Place.TheVariants.{Row}
use Rattle.sr_base.specs.declared.shape.Shape.{Shape}
use Rattle.sr_law.specs.Pools.{pool_of}
use Rattle.sr_machine.specs.Config.{Config}
use Rattle.sr_machine.specs.declared.draw.Draw.{Draw}
use Rattle.sr_machine.specs.declared.draw.Draw.TheVariants as draw
use Rattle.sr_machine.specs.declared.job.Job.{Job}
use Rattle.sr_machine.specs.declared.job.Job.TheVariants as job
use Rattle.sr_machine.specs.declared.pool_update.PoolUpdate.{PoolUpdate}
use Rattle.sr_machine.specs.declared.put.Aim.{Aim}
use Rattle.sr_machine.specs.declared.put.Aim.TheVariants as aim
use Rattle.sr_machine.specs.declared.put.Put.{Put}
use Rattle.sr_machine.specs.declared.store.Store.{Store}
use Rattle.sr_machine.specs.declared.store.Store.TheVariants as store
use Rattle.sr_machine.specs.declared.wait.Wait.{Wait}
use Rattle.sr_machine.specs.declared.wait.Wait.TheVariants as wait
use Rattle.sr_shadow.specs.declared.plan.Plan.{Plan}
use Rattle.sr_shadow.specs.declared.plan.Plan.TheVariants as plan
use Rattle.sr_update.specs.declared.give_change.GiveChange.{GiveChange}

-- ---- changes

-- a change of a pool names a virtual address and one of its pools
pub record FitsGive (k : Config) (g : GiveChange) : Type 0 where
  pub vip : g.vip < k.layout.vips
  pub bits : g.pool < 2 ^ 48
  pub pool : IsSome (pool_of k.pools g.vip g.pool)

-- so does an update, with two versions
pub record FitsUpdate (k : Config) (u : PoolUpdate) : Type 0 where
  pub vip : u.vip < k.layout.vips
  pub replaced : u.replaced < k.layout.shape.versions
  pub given : u.given < k.layout.shape.versions
  pub bits : u.pool < 2 ^ 48
  pub pool : IsSome (pool_of k.pools u.vip u.pool)

-- ---- jobs

-- the places of a plan and of a put are the tables'
abbrev pub FitsPlan : Shape → Plan → Type 0
FitsPlan s (plan.Slot place) = HasPlace s place
FitsPlan s (plan.Move other from to last) = HasPlace s from × HasPlace s to
FitsPlan s (plan.FullKey row) = HasPlace s (Row row)
FitsPlan s plan.NoRoom = Unit {0}

abbrev pub FitsAim : Shape → Aim → Type 0
FitsAim s aim.Pending = Unit {0}
FitsAim s (aim.Held h) = Unit {0}
FitsAim s (aim.Move from planned) = HasPlace s from

abbrev pub FitsPut : Shape → Put → Type 0
FitsPut s p = HasPlace s p.place × FitsAim s p.aim

abbrev pub FitsWait : Config → Wait → Type 0
FitsWait k (wait.Judge p) = FitsPut k.layout.shape p
FitsWait k (wait.Live p) = FitsPut k.layout.shape p
FitsWait k (wait.Retire key) = Unit {0}
FitsWait k (wait.Comes u p) = FitsUpdate k u
FitsWait k (wait.Release vip version) = (vip < k.layout.vips) × (version < k.layout.shape.versions)

abbrev pub FitsDraw : Config → Draw → Type 0
FitsDraw k (draw.Grace w) = FitsWait k w
FitsDraw k (draw.Refused change) = Unit {0}
FitsDraw k (draw.TakenDown server) = server < k.layout.servers
FitsDraw k (draw.Given u) = FitsUpdate k u
FitsDraw k (draw.Comes u p) = FitsUpdate k u
FitsDraw k (draw.Reserved p) = FitsPut k.layout.shape p
FitsDraw k (draw.Placed p) = FitsPut k.layout.shape p
FitsDraw k (draw.Cleared key place w) = Unit {0}
FitsDraw k (draw.Retired key place version) = HasPlace k.layout.shape place
FitsDraw k (draw.Answer r) = Unit {0}
FitsDraw k (draw.From ms) = Unit {0}
FitsDraw k (draw.Swept from ms) = Unit {0}

abbrev pub FitsStore : Config → Store → Type 0
FitsStore k (store.Down server) = server < k.layout.servers
FitsStore k (store.Member u index) = FitsUpdate k u × (index < k.layout.shape.pool_max)
FitsStore k (store.Head u) = FitsUpdate k u
FitsStore k (store.Vip u p) = FitsUpdate k u
FitsStore k (store.Filter u index) = FitsUpdate k u × (index < filter_words k.layout.shape)
FitsStore k (store.Reserved p) = FitsPut k.layout.shape p
FitsStore k (store.Judge p) = FitsPut k.layout.shape p
FitsStore k (store.Empty key place w) = HasPlace k.layout.shape place

abbrev pub FitsJob : Config → Job → Type 0
FitsJob k job.Free = Unit {0}
FitsJob k (job.Draw d) = FitsDraw k d
FitsJob k (job.Store s) = FitsStore k s
FitsJob k (job.Pass grace pipe w) = (pipe < k.layout.shape.pipes) × FitsWait k w
FitsJob k (job.Drain pipe count w) = (pipe < k.layout.shape.pipes) × (count < k.layout.shape.ring) × FitsWait k w
FitsJob k (job.Look pipe) = pipe < k.layout.shape.pipes
FitsJob k (job.Hit from ms key place taken) = HasPlace k.layout.shape place × (taken < 2 ^ 60)

-- ---- counts

-- a key that is being put may come to be registered by the store that makes it live
abbrev pub owed_wait : Wait → ℕ
owed_wait (wait.Judge p) = 1
owed_wait w = 0

abbrev pub owed_draw : Draw → ℕ
owed_draw (draw.Grace w) = owed_wait w
owed_draw d = 0

abbrev pub owed_store : Store → ℕ
owed_store (store.Reserved p) = 1
owed_store (store.Judge p) = 1
owed_store s = 0

abbrev pub owed : Job → ℕ
owed (job.Draw d) = owed_draw d
owed (job.Store s) = owed_store s
owed (job.Pass grace pipe w) = owed_wait w
owed (job.Drain pipe count w) = owed_wait w
owed j = 0

-- what is counted is counted by ticks and by words
pub record AreCounted (drawn words sweeps taken : ℕ) (j : Job) : Type 0 where
  pub most_drawn : drawn ≤ 2 ^ 56
  pub most_words : words ≤ 2 ^ 56
  pub most_sweeps : sweeps ≤ drawn
  pub most_taken : taken + owed j ≤ drawn + words

-- what a free controller begins fits, and owes nothing
abbrev pub FitsFirst : Config → Job → Type 0
FitsFirst k j = FitsJob k j × (owed j ≡ 0)
