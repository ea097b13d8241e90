-- A pipe's steps keep the rings, and the words that it doesn't write.
use Rattle.std.proofs.Common.{◌≡◌, ℕ, ◌%◌, ◌<◌, Bool, true, false, ◌&&◌, List, if◌then◌else◌, ◌==◌, slice_get, slice_set, Some, sym, refl, subst, arith}
use Rattle.std.proofs.lemmas.Bool.Decides.{nat_tests}
use Rattle.sr_base.specs.Key.{IsKey, KeyView}
use Rattle.sr_base.specs.Layout.{IsLayout, LayoutView}
use Rattle.sr_base.specs.RingWord.{packed_ring}
use Rattle.sr_base.specs.declared.kind.Kind.{Kind}
use Rattle.sr_base.specs.declared.kind.Kind.TheVariants.{Opener}
use Rattle.sr_base.specs.declared.ring_word.RingKind.TheVariants.{Learn, Punt, Close}
use Rattle.sr_inv_facts.proofs.Pipes.{each_set, each_turns}
use Rattle.sr_inv_facts.specs.Flying.{OnFlight, OnLeg}
use Rattle.sr_inv_facts.specs.InFlight.{FlightHolds, LegHolds}
use Rattle.sr_inv_facts.specs.InShape.{StageFits, VerdictFits}
use Rattle.sr_inv_facts.specs.InWords.{HoldsReports, IsReport, WordsHold}
use Rattle.sr_inv_facts.specs.Invariant.{Invariant}
use Rattle.sr_inv_facts.specs.Readings.{EachPipe, bit_words, ring_words}
use Rattle.sr_inv_words.proofs.Marking.{recording_uncleared}
use Rattle.sr_inv_words.proofs.PoolWords.{FilterIs, words_other}
use Rattle.sr_inv_facts.proofs.Windows.{reports_same, window_push}
use Rattle.sr_law.specs.declared.verdict.Verdict.{Verdict}
use Rattle.sr_machine.specs.Core.{Core, printed}
use Rattle.sr_machine.specs.Deciding.{ring_count}
use Rattle.sr_machine.specs.Keeping.{AfterStage, stage_core}
use Rattle.sr_machine.specs.Names.{rewritten}
use Rattle.sr_machine.specs.Pipe.{pipe_op}
use Rattle.sr_machine.specs.Reads.{filter_word}
use Rattle.sr_machine.specs.Stages.{report_of, ring_cell, report_by}
use Rattle.sr_machine.specs.declared.flight.Flight.{Flight}
use Rattle.sr_machine.specs.declared.leg.Leg.TheVariants.{Look, Hit, Filter, Chosen, Judged}
use Rattle.sr_machine.specs.declared.op.Op.TheVariants.{Stores}
use Rattle.sr_machine.specs.declared.pipe_view.PipeView.{PipeView}
use Rattle.sr_machine.specs.declared.stage.Stage.{Stage}
use Rattle.sr_machine.specs.declared.stage.Stage.TheVariants.{Idle, Enter, Note, Vip, Fly, Leave}
use Rattle.sr_machine.specs.declared.leg.Last.TheVariants as last
use Rattle.sr_machine.specs.declared.leg.Load.TheVariants as load
use Rattle.sr_law.specs.declared.verdict.Verdict.TheVariants as verdict
use Rattle.sr_machine.specs.declared.name.Name.TheVariants as name

-- what a packet reports is a report
pub is_report : (l : LayoutView) → IsLayout l → (key : KeyView) → IsKey key → key.vip < l.vips → (kind : Kind) (w : Verdict) → VerdictFits l w
    → IsReport l (packed_ring (report_by key kind w))
is_report l i key h b Opener (verdict.To server version pool) f = record {
  report = record { kind = Learn; version = version; key = key };
  is_word = record { key = h; version = omega (arith, f.1, i.versions.1); tells = tt };
  vip = b;
  value = refl;
}
is_report l i key h b Opener w f = record {
  report = record { kind = Punt; version = 0; key = key };
  is_word = record { key = h; version = omega arith; tells = refl };
  vip = b;
  value = refl;
}
is_report l i key h b kind w f = record {
  report = record { kind = Close; version = 0; key = key };
  is_word = record { key = h; version = omega arith; tells = refl };
  vip = b;
  value = refl;
}

abbrev pub RingsHold : Core → Type 0
RingsHold s =
    EachPipe (λ p v. HoldsReports s.config.layout (ring_words s.words p) (ring_count s.controller.rings p).words v.pushed) s.pipes

abbrev pub OthersHold : Core → Type 0
OthersHold s = WordsHold s.config s.words s.controller

module _ (s : Core) (i : Invariant s) (p : ℕ) (v : PipeView) (q : slice_get s.pipes p ≡ Some v) where
  pub ring_same : (w : PipeView) → w.pushed ≡ v.pushed
      → EachPipe (λ n u. HoldsReports s.config.layout (ring_words s.words n) (ring_count s.controller.rings n).words u.pushed) (slice_set s.pipes p w)
  ring_same w same =
      each_set s.pipes p v w q (λ n u. HoldsReports s.config.layout (ring_words s.words n) (ring_count s.controller.rings n).words u.pushed)
      i.words.ring
      (subst (HoldsReports s.config.layout (ring_words s.words p) (ring_count s.controller.rings p).words) (sym same) (i.words.ring p v q))

  own_leg : (a : Stage) → v.stage ≡ a → OnLeg a (LegHolds s.config (bit_words s.words) s.controller.named s.controller.numbers s.controller.rings s.controller.job p v.pushed)
  own_leg a e = subst (λ z. OnLeg z (LegHolds s.config (bit_words s.words) s.controller.named s.controller.numbers s.controller.rings s.controller.job p v.pushed)) e (i.flight.legs p v q)

  own_fits : (a : Stage) → v.stage ≡ a → StageFits s.config.layout a
  own_fits a e = subst (StageFits s.config.layout) e (i.shape.pipes.stage p v q)

  -- a report is stored in the next cell
  ring_pushed : (f : Flight) (w : Verdict) → v.stage ≡ Fly f (Judged w last.Push)
      → RingsHold (stage_core s p v (Fly f (Judged w last.Push)) (Stores (ring_cell s.config.layout v.number v.pushed) (report_of f w)))
  ring_pushed f w e =
      each_turns s.pipes p v _ q
      (λ n u. HoldsReports s.config.layout (ring_words s.words n) (ring_count s.controller.rings n).words u.pushed)
      (λ n u. HoldsReports s.config.layout (ring_words (rewritten s.words (ring_cell s.config.layout v.number v.pushed) (report_of f w)) n) (ring_count s.controller.rings n).words u.pushed)
      i.words.ring
      (window_push s.config.layout (ring_words s.words p) _ (ring_count s.controller.rings p).words v.pushed (i.words.ring p v q) (report_of f w)
      (own_leg (Fly f (Judged w last.Push)) e).cell
      (is_report s.config.layout i.shape.config.layout f.packet.key (own_fits (Fly f (Judged w last.Push)) e).0.packet.key (own_fits (Fly f (Judged w last.Push)) e).0.packet.vip f.packet.kind w (own_fits (Fly f (Judged w last.Push)) e).1.0)
      (λ c. own c (v.number == p) (grind (arith, nat_tests, i.shape.pipes.number p v q)) ((v.pushed % s.config.layout.shape.ring) == c)))
      (λ n u ne r h.
      reports_same s.config.layout (ring_words s.words n) _ (ring_count s.controller.rings n).words u.pushed h
      (λ c. apart n c (v.number == n) (grind (arith, nat_tests, i.shape.pipes.number p v q)) ((v.pushed % s.config.layout.shape.ring) == c)))
    where
      own : (c : ℕ) (t : Bool) → t ≡ true → (b : Bool)
          → (if t && b then report_of f w else s.words (name.Ring p c)) ≡ (if b then report_of f w else s.words (name.Ring p c))
      own c true e b = refl
      own c false e b = cc

      apart : (n c : ℕ) (t : Bool) → t ≡ false → (b : Bool)
          → (if t && b then report_of f w else s.words (name.Ring n c)) ≡ s.words (name.Ring n c)
      apart n c true e b = cc
      apart n c false e b = refl

  pub ring_stage : (a : Stage) → v.stage ≡ a → AfterStage RingsHold s p v a (pipe_op s.config.layout v a)
  ring_stage Idle e = tt
  ring_stage (Fly f (Judged w last.Push)) e = ring_pushed f w e
  ring_stage (Fly f (Chosen n load.Head)) e = ring_same _ refl
  ring_stage a e = ring_same _ refl

  -- an opener that records itself
  marked : (f : Flight) (w : Verdict) (bit : ℕ) (rest : List ℕ) (x : ℕ) → v.stage ≡ Fly f (Judged w (last.Mark bit rest))
      → FilterIs s.config (rewritten s.words (name.Filter (filter_word bit)) x) s.controller
  marked f w bit rest x e n b c =
      absurd (recording_uncleared s.config s.controller.update s.controller.vips s.controller.job i.update.update.phase i.update.update.others p f.entered f.packet.key.vip n f.vip
      (own_fits (Fly f (Judged w (last.Mark bit rest))) e).1.1.recording
      (subst (λ z. OnFlight z (FlightHolds s.controller.vips s.controller.job (printed s) p)) e (i.flight.flights p v q)).word c)

  pub others_stage : (a : Stage) → v.stage ≡ a → AfterStage OthersHold s p v a (pipe_op s.config.layout v a)
  others_stage Idle e = tt
  others_stage (Enter packet) e = words_other s.config s.words s.controller i.words.others name.Tick _ tt i.words.others.filter
  others_stage (Note packet entered) e = words_other s.config s.words s.controller i.words.others (name.Note v.number) _ tt i.words.others.filter
  others_stage (Vip packet entered) e = i.words.others
  others_stage (Fly f (Look place rest)) e = i.words.others
  others_stage (Fly f (Hit place n)) e = words_other s.config s.words s.controller i.words.others (name.Hit place) _ tt i.words.others.filter
  others_stage (Fly f (Filter bit rest)) e = i.words.others
  others_stage (Fly f (Chosen n load.Head)) e = i.words.others
  others_stage (Fly f (Chosen n (load.Member head))) e = i.words.others
  others_stage (Fly f (Chosen n (load.Down pool server))) e = i.words.others
  others_stage (Fly f (Judged w last.Ring)) e = i.words.others
  others_stage (Fly f (Judged w (last.Mark bit rest))) e =
      words_other s.config s.words s.controller i.words.others (name.Filter (filter_word bit)) _ tt (marked f w bit rest _ e)
  others_stage (Fly f (Judged w last.Push)) e =
      words_other s.config s.words s.controller i.words.others (ring_cell s.config.layout v.number v.pushed) _ tt i.words.others.filter
  others_stage (Fly f (Judged w last.Out)) e = words_other s.config s.words s.controller i.words.others name.Tick _ tt i.words.others.filter
  others_stage (Leave f) e = words_other s.config s.words s.controller i.words.others (name.Note v.number) _ tt i.words.others.filter
