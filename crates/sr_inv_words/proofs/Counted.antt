-- How often a tick stands in the views, as they change.
use Rattle.std.proofs.Common.{◌≡◌, ℕ, ◌+◌, ◌≤◌, Bool, true, false, ◌&&◌, List, [], ◌∷◌, ◌++◌, if◌then◌else◌, nat_lt, ◌==◌, Some, None, Option, refl, arith}
use Rattle.std.proofs.lemmas.Bool.Decides.{nat_tests}
use Rattle.std.proofs.lemmas.List.Sums.{sum_by_push}
use Rattle.sr_base.specs.declared.place.Place.{Place}
use Rattle.sr_base.specs.declared.vip_word.Phase.{Phase}
use Rattle.sr_base.specs.declared.vip_word.Phase.TheVariants.{Steady, Recording, Holding, Transit}
use Rattle.sr_inv_facts.proofs.Plain.{OfPlain, plain_cleared, plain_passed, plain_phase, plain_vip, plain_waited}
use Rattle.sr_inv_facts.specs.InTicks.{same, below, job_times, line_times, lines_times}
use Rattle.sr_law.specs.declared.line.Line.{Line}
use Rattle.sr_machine.specs.Config.{Config}
use Rattle.sr_machine.specs.Draws.{answer_line, draw_job, draw_line, hit_job, phase_line, sweep_job, sweeping, with_line}
use Rattle.sr_machine.specs.Goes.{Goes}
use Rattle.sr_machine.specs.Jobs.{book_next}
use Rattle.sr_machine.specs.declared.controller_view.ControllerView.{ControllerView}
use Rattle.sr_machine.specs.declared.draw.Draw.{Draw}
use Rattle.sr_machine.specs.declared.job.Job.{Job}
use Rattle.sr_machine.specs.declared.pool_update.PoolUpdate.{PoolUpdate}
use Rattle.sr_shadow.specs.Book.{placed_from}
use Rattle.sr_shadow.specs.declared.entry.Entry.{Entry}
use Rattle.sr_machine.specs.Goes as go
use Rattle.sr_machine.specs.declared.draw.Draw.TheVariants as draw
use Rattle.sr_machine.specs.declared.job.Job.TheVariants as job
use Rattle.sr_law.specs.declared.line.Line.TheVariants as line

-- the tick that is drawn next is counted from then on
pub grows : (t n : ℕ) → 1 ≤ n → below t n + same t n ≤ below t (n + 1)
grows t n some = at (t == n) (nat_lt 0 t) (nat_lt t n) (nat_lt t (n + 1)) refl refl refl refl
  where
    at : (e z a b : Bool) → (t == n) ≡ e → nat_lt 0 t ≡ z → nat_lt t n ≡ a → nat_lt t (n + 1) ≡ b
        → (if z && a then 1 else 0) + (if e then 1 else 0) ≤ (if z && b then 1 else 0)
    at true true true b p q r h = absurd (grind (arith, nat_tests))
    at true true false true p q r h = omega arith
    at true true false false p q r h = absurd (grind (arith, nat_tests))
    at true false a b p q r h = absurd (grind (arith, nat_tests))
    at false true true true p q r h = omega arith
    at false true true false p q r h = absurd (grind (arith, nat_tests))
    at false true false true p q r h = omega arith
    at false true false false p q r h = omega arith
    at false false a b p q r h = omega arith

-- a line more
pub line_more : (t : ℕ) (lines : List Line) (l : Line) → lines_times t (lines ++ l ∷ []) ≡ lines_times t lines + line_times t l
line_more t lines l = sum_by_push (line_times t) lines l

-- ---- jobs

none_timed : (t : ℕ) → OfPlain (λ j. job_times t j ≡ 0)
none_timed t = record {
  free = refl;
  comes = λ u p. refl;
  coming = λ u p. refl;
  retiring = λ key. refl;
  answer = λ r. refl;
  phase = λ u p. refl;
  filter = λ u. refl;
  source = λ key from. refl;
  judge = λ p. refl;
  drain = λ w. refl;
}

-- a sweep has its first tick
pub sweep_times : (t : ℕ) (es : List Entry) (from ms n : ℕ) → job_times t (sweeping es from ms n) ≡ same t from
sweep_times t es from ms n = at (placed_from n es)
  where
    by : (e : Entry) (o : Option Place) → job_times t (hit_job from ms e o) ≡ same t from
    by e None = refl
    by e (Some place) = refl

    at : (o : Option Entry) → job_times t (sweep_job from ms o) ≡ same t from
    at None = refl
    at (Some e) = by e e.place

-- jobs that draw
abbrev pub IsDraw : Job → Type 0
IsDraw (job.Draw d) = Unit {0}
IsDraw j = ⊥

module _ (t : ℕ) (k : Config) (c : ControllerView) (x : ℕ) where
  phase_times : (u : PoolUpdate) (p : Phase) → line_times t (phase_line u x p) ≡ same t x
  phase_times u Steady = omega arith
  phase_times u Recording = omega arith
  phase_times u Holding = omega arith
  phase_times u Transit = omega arith

  -- a draw adds its tick
  pub draw_times : (d : Draw)
      → job_times t (draw_job c d x) + lines_times t (with_line c.lines (draw_line k c d x))
      ≤ (job_times t (job.Draw d) + lines_times t c.lines) + same t x
  draw_times (draw.Grace w) = omega arith
  draw_times (draw.Refused change) = omega (arith, line_more t c.lines (line.Refused x change))
  draw_times (draw.TakenDown server) = omega (arith, line_more t c.lines (line.TakenDown x server))
  draw_times (draw.Given u) = omega (arith, line_more t c.lines (line.Given x u.vip u.given u.pool))
  draw_times (draw.Comes u p) =
      omega (arith, line_more t c.lines (phase_line u x p), phase_times u p, plain_phase (λ j. job_times t j ≡ 0) (none_timed t) u p)
  draw_times (draw.Reserved p) = omega (arith, line_more t c.lines (line.Reserved x p.key p.place))
  draw_times (draw.Placed p) = omega (arith, line_more t c.lines (line.Placed x p.key p.place))
  draw_times (draw.Cleared key place w) =
      omega (arith, line_more t c.lines (line.Cleared x key place), plain_cleared (λ j. job_times t j ≡ 0) (none_timed t) key w)
  draw_times (draw.Retired key place version) = omega (arith, line_more t c.lines (line.Retired x key))
  draw_times (draw.Answer r) = omega (arith, line_more t c.lines (answer_line k c r x))
  draw_times (draw.From ms) = omega (arith, sweep_times t c.book.entries x ms 0)
  draw_times (draw.Swept from ms) = omega (arith, line_more t c.lines (line.Swept (c.sweeps + 1) from x ms))

  -- no other step does
  pub goes_times : (j m : Job) → Goes k c x j m → (IsDraw j → ⊥) → job_times t m ≤ job_times t j
  goes_times j m (go.waits w) off = absurd (off tt)
  goes_times j m (go.refused n) off = absurd (off tt)
  goes_times j m (go.comes u p) off = absurd (off tt)
  goes_times j m (go.cleared key place w) off = absurd (off tt)
  goes_times j m (go.sweep_begins ms e place s) off = absurd (off tt)
  goes_times j m (go.sweep_empty ms e) off = absurd (off tt)
  goes_times j m (go.swept from ms) off = absurd (off tt)
  goes_times j m (go.phase_stored u p) off = omega (arith, plain_vip (λ j. job_times t j ≡ 0) (none_timed t) u p)
  goes_times j m (go.pass_last g pipe w a b) off = omega (arith, plain_passed (λ j. job_times t j ≡ 0) (none_timed t) w)
  goes_times j m (go.drain_last pipe count w a b) off =
      omega (arith, plain_waited (λ j. job_times t j ≡ 0) (none_timed t) c.vips (book_next k c (job.Drain pipe count w) x).entries w)
  goes_times j m g off = omega arith
