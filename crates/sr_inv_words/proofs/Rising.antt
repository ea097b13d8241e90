-- Lines of a view, and one more.
use Rattle.std.proofs.Common.{◌≡◌, ℕ, zero, suc, ◌+◌, ◌<◌, ◌≤◌, Bool, true, false, List, [], ◌∷◌, ◌++◌, if◌then◌else◌, ◌==◌, slice_get, slice_set, Some, Option, sym, refl, ap, ◌∙◌, subst, arith}
use Rattle.std.proofs.lemmas.List.Sums.{sum_by-cons}
use Rattle.std.proofs.lemmas.Option.{same_Some}
use Rattle.std.specs.List.{AllByRecursion}
use Rattle.sr_base.specs.Key.{KeyView}
use Rattle.sr_base.specs.declared.vip_word.Phase.{Phase}
use Rattle.sr_base.specs.declared.vip_word.Phase.TheVariants.{Steady, Recording, Holding, Transit}
use Rattle.sr_inv_facts.proofs.Lists.{all_back, all_front}
use Rattle.sr_inv_facts.proofs.Plain.{OfPlain, plain_cleared, plain_passed, plain_phase, plain_vip, plain_waited}
use Rattle.sr_inv_facts.specs.InTicks.{AllOutBefore, OnSweep, Rise}
use Rattle.sr_inv_words.proofs.Counted.{IsDraw}
use Rattle.sr_law.specs.Ticks.{is_controller, out_of}
use Rattle.sr_law.specs.declared.line.Line.{Line}
use Rattle.sr_machine.specs.Config.{Config}
use Rattle.sr_machine.specs.Core.{pipe_lines}
use Rattle.sr_machine.specs.Deciding.{ring_count, words_taken}
use Rattle.sr_machine.specs.Draws.{draw_line, phase_line}
use Rattle.sr_machine.specs.Goes.{Goes}
use Rattle.sr_machine.specs.Reads.{read_report}
use Rattle.sr_machine.specs.Taking.{count_after, holds_opener, taken_report, taking, untaken}
use Rattle.sr_machine.specs.declared.controller_view.ControllerView.{ControllerView}
use Rattle.sr_machine.specs.declared.draw.Draw.{Draw}
use Rattle.sr_machine.specs.declared.job.Job.{Job}
use Rattle.sr_machine.specs.declared.pipe_view.PipeView.{PipeView}
use Rattle.sr_machine.specs.declared.pool_update.PoolUpdate.{PoolUpdate}
use Rattle.sr_machine.specs.declared.ring_count.RingCount.{RingCount}
use Rattle.sr_machine.specs.Goes as go
use Rattle.sr_machine.specs.declared.draw.Draw.TheVariants as draw

-- the lines of a pipe are among all
pub lines_among : (P : Line → Type 0) (pipes : List PipeView) (p : ℕ) (v : PipeView) → slice_get pipes p ≡ Some v
    → AllByRecursion P (pipe_lines pipes) → AllByRecursion P v.lines
lines_among P [] p v q a = cc
lines_among P (u ∷ rest) zero v q a =
    subst (λ w. AllByRecursion P w.lines) (same_Some u v q) (all_front P u.lines (pipe_lines rest) a)
lines_among P (u ∷ rest) (suc p) v q a = lines_among P rest p v q (all_back P u.lines (pipe_lines rest) a)

-- lines that rise, and one that is out after them
pub rise_more : (low : ℕ) (lines : List Line) (l : Line) → Rise low lines → AllOutBefore (out_of l) lines → low < out_of l
    → Rise low (lines ++ l ∷ [])
rise_more low [] l r a h = (h, tt)
rise_more low (x ∷ lines) l r a h = (r.0, rise_more (out_of x) lines l r.1 a.1 a.0)

-- ---- a sweep

pub none_sweeps : (P : ℕ → Type 0) → OfPlain (λ j. OnSweep j P)
none_sweeps P = record {
  free = tt;
  comes = λ u p. tt;
  coming = λ u p. tt;
  retiring = λ key. tt;
  answer = λ r. tt;
  phase = λ u p. tt;
  filter = λ u. tt;
  source = λ key from. tt;
  judge = λ p. tt;
  drain = λ w. tt;
}

module _ (k : Config) (c : ControllerView) (x : ℕ) (P : ℕ → Type 0) where
  -- the tick of a sweep is drawn, or stays
  pub goes_sweep : (j m : Job) → Goes k c x j m → (IsDraw j → P x) → OnSweep j P → OnSweep m P
  goes_sweep j m (go.comes u p) now h = plain_phase (λ j. OnSweep j P) (none_sweeps P) u p
  goes_sweep j m (go.cleared key place w) now h = plain_cleared (λ j. OnSweep j P) (none_sweeps P) key w
  goes_sweep j m (go.sweep_begins ms e place s) now h = now tt
  goes_sweep j m (go.sweep_empty ms e) now h = now tt
  goes_sweep j m (go.phase_stored u p) now h = plain_vip (λ j. OnSweep j P) (none_sweeps P) u p
  goes_sweep j m (go.pass_last g pipe w a b) now h = plain_passed (λ j. OnSweep j P) (none_sweeps P) w
  goes_sweep j m (go.drain_last pipe count w a b) now h = plain_waited (λ j. OnSweep j P) (none_sweeps P) c.vips _ w
  goes_sweep j m (go.hit_next from ms key place n e at s) now h = h
  goes_sweep j m (go.hit_last from ms key place n e) now h = h
  goes_sweep j m g now h = tt

-- ---- a line of the controller

phase_own : (u : PoolUpdate) (p : Phase) (x : ℕ) → is_controller (phase_line u x p) ≡ true
phase_own u Steady x = refl
phase_own u Recording x = refl
phase_own u Holding x = refl
phase_own u Transit x = refl

pub line_own : (k : Config) (c : ControllerView) (d : Draw) (x : ℕ) (l : Line) → draw_line k c d x ≡ Some l → is_controller l ≡ true
line_own k c (draw.Grace w) x l e = cc
line_own k c (draw.Comes u p) x l e = ap is_controller (sym (same_Some (phase_line u x p) l e)) ∙ phase_own u p x
line_own k c (draw.From ms) x l e = cc
line_own k c (draw.Refused n) x l e = ap is_controller (sym (same_Some _ l e))
line_own k c d x l e = ap is_controller (sym (same_Some _ l e))

-- ---- words taken

count_more : (b : Bool) (r : RingCount) → (count_after b r).words ≡ r.words + 1
count_more b r = refl

-- at most one word is taken at a time
pub taken_more : (rings : List RingCount) (p : ℕ) (b : Bool)
    → words_taken (slice_set rings p (count_after b (ring_count rings p))) ≤ words_taken rings + 1
taken_more [] p b = omega arith
taken_more (r ∷ rings) zero b =
    omega (arith, sum_by-cons (λ r. r.words) (count_after b r) rings, sum_by-cons (λ r. r.words) r rings)
taken_more (r ∷ rings) (suc p) b =
    omega (arith, taken_more rings p b, sum_by-cons (λ r. r.words) r (slice_set rings p (count_after b (ring_count rings p))), sum_by-cons (λ r. r.words) r rings)

pub take_more : (k : Config) (c : ControllerView) (ended : Option KeyView) (pipe x : ℕ)
    → words_taken (taking k c ended pipe x).rings ≤ words_taken c.rings + 1
unfolding taking
take_more k c ended pipe x = at (x == 0)
  where
    at : (t : Bool) → words_taken (if t then untaken c else taken_report c ended pipe (read_report k.layout x)).rings ≤ words_taken c.rings + 1
    at true = omega arith
    at false = taken_more c.rings pipe (holds_opener (read_report k.layout x) (ring_count c.rings pipe).punts)
