-- Which views an actor of a plain board has.
use Rattle.std.specs.Prelude.{◌≡◌, ◌<◌}
use Rattle.sr_base.specs.Layout.{LayoutView}
use Rattle.sr_machine.specs.Config.{Config}
use Rattle.sr_machine.specs.declared.actor.Actor.{Actor}
use Rattle.sr_machine.specs.declared.actor.Actor.TheVariants.{Pipe, Controller}
use Rattle.sr_machine.specs.declared.view.View.{View}
use Rattle.sr_machine.specs.declared.view.View.TheVariants.{OfPipe, OfController}

-- it is the actor's
abbrev pub IsOf : Actor → View → Type 0
IsOf (Pipe p) (OfPipe v) = v.number ≡ p
IsOf (Pipe p) (OfController c) = ⊥
IsOf Controller (OfPipe v) = ⊥
IsOf Controller (OfController c) = Unit {0}

-- every view of the actor, of a machine of this layout
abbrev pub FitsActor : LayoutView → Actor → Config → View → Type 0
FitsActor l actor k v = (k.layout ≡ l) × IsOf actor v

-- a pipe is one of the layout
abbrev pub HasActor : LayoutView → Actor → Type 0
HasActor l (Pipe p) = p < l.shape.pipes
HasActor l Controller = Unit {0}
