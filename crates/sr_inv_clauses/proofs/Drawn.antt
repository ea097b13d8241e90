-- The lines that the controller prints, as a list of cases.
use Rattle.std.proofs.Common.{◌≡◌, ℕ, ◌+◌, Some, subst}
use Rattle.std.proofs.lemmas.Option.{same_Some}
use Rattle.sr_base.specs.Key.{KeyView}
use Rattle.sr_base.specs.declared.place.Place.{Place}
use Rattle.sr_base.specs.declared.vip_word.Phase.{Phase}
use Rattle.sr_base.specs.declared.vip_word.Phase.TheVariants.{Steady, Recording, Holding, Transit}
use Rattle.sr_law.specs.declared.line.Line.{Line}
use Rattle.sr_machine.specs.Core.{Core}
use Rattle.sr_machine.specs.Draws.{answer_line, draw_line, phase_line}
use Rattle.sr_machine.specs.declared.draw.Draw.{Draw}
use Rattle.sr_machine.specs.declared.pool_update.PoolUpdate.{PoolUpdate}
use Rattle.sr_machine.specs.declared.put.Put.{Put}
use Rattle.sr_machine.specs.declared.reply.Reply.{Reply}
use Rattle.sr_machine.specs.declared.why.Why.{Why}
use Rattle.sr_machine.specs.declared.draw.Draw.TheVariants as draw
use Rattle.sr_machine.specs.declared.job.Job.TheVariants as job
use Rattle.sr_law.specs.declared.line.Line.TheVariants as line
use Rattle.sr_machine.specs.declared.name.Name.TheVariants as name

-- what is owed for each line
pub record EachDraw (s : Core) (P : Line → Type 0) : Type 0 where
  pub refused : (n : ℕ) → s.controller.job ≡ job.Draw (draw.Refused n) → P (line.Refused (s.words name.Tick) n)
  pub taken_down : (n : ℕ) → s.controller.job ≡ job.Draw (draw.TakenDown n) → P (line.TakenDown (s.words name.Tick) n)
  pub given : (u : PoolUpdate) → s.controller.job ≡ job.Draw (draw.Given u) → P (line.Given (s.words name.Tick) u.vip u.given u.pool)
  pub comes : (u : PoolUpdate) (p : Phase) → s.controller.job ≡ job.Draw (draw.Comes u p) → P (phase_line u (s.words name.Tick) p)
  pub reserved : (p : Put) → s.controller.job ≡ job.Draw (draw.Reserved p) → P (line.Reserved (s.words name.Tick) p.key p.place)
  pub placed : (p : Put) → s.controller.job ≡ job.Draw (draw.Placed p) → P (line.Placed (s.words name.Tick) p.key p.place)
  pub cleared : (key : KeyView) (place : Place) (w : Why) → s.controller.job ≡ job.Draw (draw.Cleared key place w)
      → P (line.Cleared (s.words name.Tick) key place)
  pub retired : (key : KeyView) (place : Place) (version : ℕ) → s.controller.job ≡ job.Draw (draw.Retired key place version)
      → P (line.Retired (s.words name.Tick) key)
  pub answer : (r : Reply) → s.controller.job ≡ job.Draw (draw.Answer r) → P (answer_line s.config s.controller r (s.words name.Tick))
  pub swept : (from ms : ℕ) → s.controller.job ≡ job.Draw (draw.Swept from ms)
      → P (line.Swept (s.controller.sweeps + 1) from (s.words name.Tick) ms)

-- so it holds of the line that is drawn
pub drawn_by : (s : Core) (P : Line → Type 0) → EachDraw s P → (d : Draw) → s.controller.job ≡ job.Draw d → (l : Line)
    → draw_line s.config s.controller d (s.words name.Tick) ≡ Some l
    → P l
drawn_by s P h (draw.Grace w) e l q = cc
drawn_by s P h (draw.From ms) e l q = cc
drawn_by s P h (draw.Refused n) e l q = subst P (same_Some _ l q) (h.refused n e)
drawn_by s P h (draw.TakenDown n) e l q = subst P (same_Some _ l q) (h.taken_down n e)
drawn_by s P h (draw.Given u) e l q = subst P (same_Some _ l q) (h.given u e)
drawn_by s P h (draw.Comes u p) e l q = subst P (same_Some _ l q) (h.comes u p e)
drawn_by s P h (draw.Reserved p) e l q = subst P (same_Some _ l q) (h.reserved p e)
drawn_by s P h (draw.Placed p) e l q = subst P (same_Some _ l q) (h.placed p e)
drawn_by s P h (draw.Cleared key place w) e l q = subst P (same_Some _ l q) (h.cleared key place w e)
drawn_by s P h (draw.Retired key place version) e l q = subst P (same_Some _ l q) (h.retired key place version e)
drawn_by s P h (draw.Answer r) e l q = subst P (same_Some _ l q) (h.answer r e)
drawn_by s P h (draw.Swept from ms) e l q = subst P (same_Some _ l q) (h.swept from ms e)

-- a fact of the lines of a phase, where each of them has it
pub each_phase : (P : Line → Type 0) (u : PoolUpdate) (t : ℕ) → P (phase_line u t Steady)
    → P (phase_line u t Recording)
    → P (phase_line u t Holding)
    → P (phase_line u t Transit)
    → (p : Phase) → P (phase_line u t p)
each_phase P u t a b c d Steady = a
each_phase P u t a b c d Recording = b
each_phase P u t a b c d Holding = c
each_phase P u t a b c d Transit = d
