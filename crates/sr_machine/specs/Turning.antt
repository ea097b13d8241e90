-- A turn of the controller: what it begins, and its steps up to the one that ends an act, with what it answers.
use Rattle.std.specs.Prelude.{ℕ, ◌==◌, max, find, Bool, List, [], ◌∷◌, option_map, option_and_then, Option, Some, None, if◌then◌else◌, zero, suc}
use Rattle.sr_shadow.specs.Entry.{is_pending}
use Rattle.sr_shadow.specs.declared.entry.Entry.{Entry}
use Rattle.sr_base.specs.Layout.{LayoutView}
use Rattle.sr_machine.specs.Config.{Config}
use Rattle.sr_machine.specs.Controller.{begun_after, controller_op}
use Rattle.sr_machine.specs.Core.{Core, made}
use Rattle.sr_machine.specs.Ops.{op_answer, op_name}
use Rattle.sr_machine.specs.Starting.{begun}
use Rattle.sr_machine.specs.Telling.{full_change}
use Rattle.sr_machine.specs.Waiting.{has_next, is_under_way, is_wait_done}
use Rattle.sr_machine.specs.declared.act.Act.{Act}
use Rattle.sr_machine.specs.declared.act.Act.TheVariants as act
use Rattle.sr_machine.specs.declared.actor.Actor.TheVariants as actor
use Rattle.sr_machine.specs.declared.controller_view.ControllerView.{ControllerView}
use Rattle.sr_machine.specs.declared.draw.Draw.{Draw}
use Rattle.sr_machine.specs.declared.draw.Draw.TheVariants as draw
use Rattle.sr_machine.specs.declared.job.Job.{Job}
use Rattle.sr_machine.specs.declared.job.Job.TheVariants as job
use Rattle.sr_machine.specs.declared.op.Op.{Op}
use Rattle.sr_update.specs.declared.give_change.GiveChange.{GiveChange}
use Rattle.sr_machine.specs.declared.put.Aim.{Aim}
use Rattle.sr_machine.specs.declared.put.Aim.TheVariants as aim
use Rattle.sr_machine.specs.declared.store.Store.{Store}
use Rattle.sr_machine.specs.declared.store.Store.TheVariants as store
use Rattle.sr_machine.specs.declared.turn.Turn.{Turn}
use Rattle.sr_machine.specs.declared.turn.Turn.TheVariants.{Did, NotYet, NoRoom, VersionsFull, Idle}
use Rattle.sr_machine.specs.declared.view.View.TheVariants.{OfController}
use Rattle.sr_machine.specs.declared.wait.Wait.{Wait}
use Rattle.sr_machine.specs.declared.wait.Wait.TheVariants as wait
use Rattle.sr_machine.specs.declared.why.Why.{Why}
use Rattle.sr_machine.specs.declared.why.Why.TheVariants as why

-- ---- which steps end an act

abbrev pub live_act : Aim → Act
live_act aim.Pending = act.Committed
live_act (aim.Held h) = act.Committed
live_act (aim.Move from planned) = act.Moved

abbrev pub grace_act : Wait → Act
grace_act (wait.Judge p) = act.Reserved
grace_act (wait.Live p) = live_act p.aim
grace_act (wait.Retire key) = act.Retired
grace_act (wait.Comes u p) = act.Phase
grace_act (wait.Release vip version) = act.Phase

abbrev pub cleared_act : Why → Option Act
cleared_act (why.Withdrawn reply) = Some act.Withdrawn
cleared_act why.Source = Some act.Cleared
cleared_act (why.Retired version) = None

abbrev pub draw_act : Draw → Option Act
draw_act (draw.Grace w) = Some (grace_act w)
draw_act (draw.Refused change) = Some act.Refused
draw_act (draw.TakenDown server) = None
draw_act (draw.Given u) = None
draw_act (draw.Comes u p) = None
draw_act (draw.Reserved p) = None
draw_act (draw.Placed p) = None
draw_act (draw.Cleared key place w) = cleared_act w
draw_act (draw.Retired key place version) = None
draw_act (draw.Answer r) = Some act.Answered
draw_act (draw.From ms) = Some act.Swept
draw_act (draw.Swept from ms) = Some act.Swept

abbrev pub store_act : Store → Option Act
store_act (store.Down server) = Some act.Downed
store_act (store.Member u index) = Some act.Wrote
store_act (store.Head u) = Some act.Wrote
store_act (store.Vip u p) = None
store_act (store.Filter u index) = Some act.Wrote
store_act (store.Reserved p) = None
store_act (store.Judge p) = None
store_act (store.Empty key place w) = None

-- a drain's step: a word was taken, or the ring was empty; the one that ends a release frees the number
abbrev pub drain_act : Bool → Wait → ℕ → Act
drain_act done (wait.Release vip version) x = if done then act.Released else (if x == 0 then act.Drained else act.Took)
drain_act done w x = if x == 0 then act.Drained else act.Took

-- nothing is to be done: what is waited for, if anything is
abbrev pub rest_by : Option Entry → Option GiveChange → Turn
rest_by (Some e) full = NoRoom e.key
rest_by None (Some g) = VersionsFull g.vip
rest_by None None = Idle

abbrev pub rest_of : ControllerView → Turn
rest_of c = rest_by (find is_pending c.book.entries) (full_change c.clock c.numbers c.gives)

-- what a step that answered this ends, if it ends an act
abbrev pub turn_at : Config → ControllerView → Job → ℕ → Option Turn
turn_at k c job.Free x = None
turn_at k c (job.Draw d) x = option_map Did (draw_act d)
turn_at k c (job.Store s) x = option_map Did (store_act s)
turn_at k c (job.Pass grace pipe w) x = Some (if is_under_way grace x then NotYet pipe x else Did act.Passed)
turn_at k c (job.Drain pipe count w) x = Some (Did (drain_act (is_wait_done k.layout pipe count x) w x))
turn_at k c (job.Look pipe) x =
    if x == 0 then (if has_next k.layout pipe then None else Some (rest_of c)) else Some (Did act.Took)
turn_at k c (job.Hit from ms key place taken) x = Some (Did act.Swept)

-- ---- a turn, by what its steps answered

-- the turn ends with the last of these answers, or it isn't over or had fewer
abbrev pub ends_with : ControllerView → Option Turn → List ℕ → Option (Turn × ControllerView) → Option (Turn × ControllerView)
ends_with c (Some t) [] rest = Some (t, c)
ends_with c (Some t) (x ∷ xs) rest = None
ends_with c None xs rest = rest

-- what a controller that has begun answers, and knows then, where its steps answered these
abbrev pub turn_from : Config → ControllerView → List ℕ → Option (Turn × ControllerView)
turn_from k c [] = None
turn_from k c (x ∷ xs) = ends_with (begun_after k c x) (turn_at k c c.job x) xs (turn_from k (begun_after k c x) xs)

-- the same of any controller
abbrev pub turn_by : Config → ControllerView → List ℕ → Option (Turn × ControllerView)
turn_by k c answers = turn_from k (begun k c) answers

-- ---- a turn of the whole machine

-- the step was made, and ends the turn or doesn't
abbrev pub over_or : Core → Option Turn → Option (Turn × Core) → Option (Turn × Core)
over_or s (Some t) rest = Some (t, s)
over_or s None rest = rest

-- the state after the controller's step
abbrev pub controlled : Core → Op → Core
controlled s o = made s actor.Controller (OfController s.controller) o

-- what the step ends
abbrev pub turn_of_op : Core → Op → Option Turn
turn_of_op s o = let c = begun s.config s.controller in turn_at s.config c c.job (op_answer o (s.words (op_name o)))

-- a turn of so many steps at most: what it answers, and the state then
abbrev pub turned_in : ℕ → Core → Option (Turn × Core)
turned_in zero s = None
turned_in (suc n) s =
    option_and_then (λ o. over_or (controlled s o) (turn_of_op s o) (turned_in n (controlled s o)))
    (controller_op s.config s.controller)

-- the most steps that a turn makes
abbrev pub most_steps : LayoutView → ℕ
most_steps l = max 4 l.shape.pipes

abbrev pub turned : Core → Option (Turn × Core)
turned s = turned_in (most_steps s.config.layout) s
