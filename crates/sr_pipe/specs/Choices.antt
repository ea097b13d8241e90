-- What a packet finds and chooses on its way, as the machine's legs.
use Rattle.std.specs.Prelude.{◌<◌, List}
use Rattle.sr_base.specs.Layout.{LayoutView}
use Rattle.sr_base.specs.WordName.{HasPlace}
use Rattle.sr_base.specs.declared.place.Place.{Place}
use Rattle.sr_law.specs.declared.verdict.HeldBy.TheVariants.{Clash}
use Rattle.sr_law.specs.declared.verdict.Verdict.TheVariants as verdict
use Rattle.sr_machine.specs.Stages.{looking}
use Rattle.sr_machine.specs.declared.flight.Flight.{Flight}
use Rattle.sr_machine.specs.declared.leg.Last.TheVariants as last
use Rattle.sr_machine.specs.declared.leg.Leg.{Leg}
use Rattle.sr_machine.specs.declared.leg.Leg.TheVariants.{Chosen, Hit, Judged}
use Rattle.sr_machine.specs.declared.leg.Load.TheVariants as load
use Rattle.sr_pipe.specs.declared.choice.Choice.{Choice}
use Rattle.sr_pipe.specs.declared.choice.Choice.TheVariants as choice
use Rattle.sr_pipe.specs.declared.found.Found.{Found}
use Rattle.sr_pipe.specs.declared.found.Found.TheVariants as found

-- what a packet does next that found this, with these places of its key to look at yet
abbrev pub found_leg : LayoutView → Flight → List Place → Found → Leg
found_leg l f rest found.Nothing = looking l f rest
found_leg l f rest found.Reserved = Judged (verdict.Held Clash) last.Ring
found_leg l f rest (found.Live place version) = Hit place version

-- a place and a version that were found are the layout's
abbrev pub FoundFits : LayoutView → Found → Type 0
FoundFits l found.Nothing = Unit {0}
FoundFits l found.Reserved = Unit {0}
FoundFits l (found.Live place version) = HasPlace l.shape place × (version < l.shape.versions)

-- what a packet does next that made this choice
abbrev pub choice_leg : Choice → Leg
choice_leg (choice.Held by) = Judged (verdict.Held by) last.Ring
choice_leg (choice.Goes version) = Chosen version load.Head

-- a version that was chosen is the layout's
abbrev pub ChoiceFits : LayoutView → Choice → Type 0
ChoiceFits l (choice.Held by) = Unit {0}
ChoiceFits l (choice.Goes version) = version < l.shape.versions
