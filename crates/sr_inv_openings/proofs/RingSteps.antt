-- What a store of a report, and a take, make of the reports in rings.
use Rattle.sr_base.specs.Key.{IsKey, KeyView}
use Rattle.sr_base.specs.Layout.{IsLayout, LayoutView}
use Rattle.sr_base.specs.RingWord.{IsRingWord}
use Rattle.sr_base.specs.declared.kind.Kind.{Kind}
use Rattle.sr_base.specs.declared.kind.Kind.TheVariants.{Carry, Ending, Opener}
use Rattle.sr_base.specs.declared.ring_word.RingKind.TheVariants.{Learn}
use Rattle.sr_base.specs.declared.ring_word.RingWord.{RingWord}
use Rattle.sr_inv_facts.proofs.Taking.{none_reported}
use Rattle.sr_inv_facts.specs.Flying.{OnLeg}
use Rattle.sr_inv_facts.specs.InFlight.{LegHolds}
use Rattle.sr_inv_facts.specs.InShape.{StageFits, VerdictFits}
use Rattle.sr_inv_facts.specs.Invariant.{Invariant}
use Rattle.sr_inv_facts.specs.Readings.{SomeLearn, bit_words, ring_words}
use Rattle.sr_law.specs.declared.verdict.Verdict.{Verdict}
use Rattle.sr_machine.proofs.Written.{report_read}
use Rattle.sr_machine.specs.Core.{Core}
use Rattle.sr_machine.specs.Reads.{read_report}
use Rattle.sr_machine.specs.Stages.{report_by, report_of, ring_cell}
use Rattle.sr_machine.specs.declared.flight.Flight.{Flight}
use Rattle.sr_machine.specs.declared.name.Name.{Name}
use Rattle.sr_machine.specs.declared.op.Op.{Op}
use Rattle.sr_machine.specs.declared.pipe_view.PipeView.{PipeView}
use Rattle.std.proofs.Common.{Bool, None, Option, Some, ap, arith, false, if◌then◌else◌, inl, inr, refl, slice_get, subst, sym, true, ℕ, ◌%◌, ◌&&◌, ◌<◌, ◌==◌, ◌∙◌, ◌≡◌, ◌⊎◌}
use Rattle.std.proofs.lemmas.Bool.Decides.{nat_tests}
use Rattle.std.proofs.lemmas.Option.{same_Some}
use Rattle.sr_machine.specs.declared.leg.Leg.TheVariants as leg
use Rattle.sr_machine.specs.declared.leg.Last.TheVariants as last
use Rattle.sr_machine.specs.declared.stage.Stage.TheVariants as stage
use Rattle.sr_machine.specs.declared.name.Name.TheVariants as name
use Rattle.sr_law.specs.declared.verdict.Verdict.TheVariants as verdict

-- of the step that there is
abbrev pub AtOp : Option Op → (Op → Type 0) → Type 0
AtOp None P = Unit {0}
AtOp (Some o) P = P o

-- a report of a key of the layout is one
report_is : (l : LayoutView) → IsLayout l → (key : KeyView) (kind : Kind) (u : Verdict) → IsKey key → VerdictFits l u → IsRingWord (report_by key kind u)
report_is l i key Opener (verdict.To server version pool) k h =
    record { key = k; version = omega (arith, h.1, i.versions.1); tells = tt }
report_is l i key Opener u k h = record { key = k; version = omega arith; tells = refl }
report_is l i key Carry u k h = record { key = k; version = omega arith; tells = refl }
report_is l i key Ending u k h = record { key = k; version = omega arith; tells = refl }

report_vip : (key : KeyView) (kind : Kind) (u : Verdict) → (report_by key kind u).key ≡ key
report_vip key Opener (verdict.To server version pool) = refl
report_vip key Opener u = refl
report_vip key Carry u = refl
report_vip key Ending u = refl

-- a report that tells what was learned is that of an opener that was sent
pub record TellsLearn (key : KeyView) (kind : Kind) (u : Verdict) (w : RingWord) : Type 0 where
  pub server : ℕ
  pub pool : ℕ
  pub sent : u ≡ verdict.To server w.version pool
  pub opener : kind ≡ Opener
  pub own : w.key ≡ key

pub tells_learn : (key : KeyView) (kind : Kind) (u : Verdict) (w : RingWord) → w ≡ report_by key kind u → w.kind ≡ Learn → TellsLearn key kind u w
tells_learn key Opener (verdict.To server version pool) w e k = record {
  server = server;
  pool = pool;
  sent = ap (λ n. verdict.To server n pool) (sym (ap (λ z. z.version) e));
  opener = refl;
  own = ap (λ z. z.key) e;
}
tells_learn key Opener u w e k = cc
tells_learn key Carry u w e k = cc
tells_learn key Ending u w e k = cc

-- ---- a report is stored

module _ (s : Core) (i : Invariant s) (p : ℕ) (v : PipeView) (q : slice_get s.pipes p ≡ Some v) (f : Flight) (u : Verdict) (e : v.stage ≡ stage.Fly f (leg.Judged u last.Push)) where
  abbrev l : LayoutView
  l = s.config.layout

  abbrev cell : ℕ
  cell = v.pushed % s.config.layout.shape.ring

  abbrev pub pushed_ring : ℕ → ℕ → ℕ
  pushed_ring n c = if (v.number == n) && ((v.pushed % s.config.layout.shape.ring) == c) then report_of f u else s.words (name.Ring n c)

  -- its cell was empty
  cell_empty : s.words (name.Ring v.number (v.pushed % s.config.layout.shape.ring)) ≡ 0
  cell_empty =
      let room = (subst (λ z. OnLeg z (LegHolds s.config (bit_words s.words) s.controller.named s.controller.numbers s.controller.rings s.controller.job p v.pushed)) e (i.flight.legs p v q)).cell in
      ap (λ n. s.words (name.Ring n (v.pushed % s.config.layout.shape.ring))) (i.shape.pipes.number p v q)
      ∙ (i.words.ring p v q).empty v.pushed (omega arith) room

  fits : StageFits l (stage.Fly f (leg.Judged u last.Push))
  fits = subst (StageFits l) e (i.shape.pipes.stage p v q)

  -- it is read again
  pub pushed_reads : read_report l (report_of f u) ≡ Some (report_by f.packet.key f.packet.kind u)
  pushed_reads =
      report_read l (report_by f.packet.key f.packet.kind u) (report_is l i.shape.config.layout f.packet.key f.packet.kind u fits.0.packet.key fits.1.0)
      (subst (λ z. z.vip < l.vips) (sym (report_vip f.packet.key f.packet.kind u)) fits.0.packet.vip)

  -- every other report stays
  pub pushed_keeps : (n c : ℕ) (w : RingWord) → read_report l (s.words (name.Ring n c)) ≡ Some w → read_report l (pushed_ring n c) ≡ Some w
  pushed_keeps n c w read = at (v.number == n) ((v.pushed % s.config.layout.shape.ring) == c) refl refl
    where
      at : (a b : Bool) → (v.number == n) ≡ a → ((v.pushed % s.config.layout.shape.ring) == c) ≡ b
          → read_report l (if a && b then report_of f u else s.words (name.Ring n c)) ≡ Some w
      at true true x y =
          let one : v.number ≡ n = grind (arith, nat_tests) in
          let two : v.pushed % s.config.layout.shape.ring ≡ c = grind (arith, nat_tests) in
          let none : s.words (name.Ring n c) ≡ 0 = ap (λ z. s.words (name.Ring z c)) (sym one) ∙ (ap (λ z. s.words (name.Ring v.number z)) (sym two) ∙ cell_empty) in
          absurd (none_reported l (s.words (name.Ring n c)) w (grind (arith, nat_tests)) read)
      at true false x y = read
      at false b x y = read

  pub learn_pushed : (key : KeyView) (version : ℕ) → SomeLearn l (ring_words s.words) key version → SomeLearn l pushed_ring key version
  learn_pushed key version (n, c, read) = (n, c, pushed_keeps n c (record { kind = Learn; version = version; key = key }) read)

  -- a report is one that was there, or the one that was stored
  pub pushed_from : (n c : ℕ) (w : RingWord) → read_report l (pushed_ring n c) ≡ Some w
      → (read_report l (s.words (name.Ring n c)) ≡ Some w) ⊎ (w ≡ report_by f.packet.key f.packet.kind u)
  pushed_from n c w read = at ((v.number == n) && ((v.pushed % s.config.layout.shape.ring) == c)) read
    where
      at : (b : Bool) → read_report l (if b then report_of f u else s.words (name.Ring n c)) ≡ Some w
          → (read_report l (s.words (name.Ring n c)) ≡ Some w) ⊎ (w ≡ report_by f.packet.key f.packet.kind u)
      at true r = inr (same_Some w (report_by f.packet.key f.packet.kind u) (sym r ∙ pushed_reads))
      at false r = inl r

  -- and it is there
  pub pushed_here : read_report l (pushed_ring v.number (v.pushed % s.config.layout.shape.ring)) ≡ Some (report_by f.packet.key f.packet.kind u)
  pushed_here = at (v.number == v.number) (cell == cell) (grind (arith, nat_tests)) (grind (arith, nat_tests))
    where
      at : (a b : Bool) → a ≡ true → b ≡ true
          → read_report l (if a && b then report_of f u else s.words (name.Ring v.number (v.pushed % s.config.layout.shape.ring))) ≡ Some (report_by f.packet.key f.packet.kind u)
      at true true x y = pushed_reads
      at true false x y = cc
      at false b x y = cc

-- ---- a word is taken

module _ (l : LayoutView) (words : Name → ℕ) (pipe taken : ℕ) where
  abbrev pub taken_ring : ℕ → ℕ → ℕ
  taken_ring n c = if (pipe == n) && ((taken % l.shape.ring) == c) then 0 else words (name.Ring n c)

  -- what is left was there
  pub left_was : (n c : ℕ) (w : RingWord) → read_report l (taken_ring n c) ≡ Some w → read_report l (words (name.Ring n c)) ≡ Some w
  left_was n c w read = at ((pipe == n) && ((taken % l.shape.ring) == c)) read
    where
      at : (b : Bool) → read_report l (if b then 0 else words (name.Ring n c)) ≡ Some w → read_report l (words (name.Ring n c)) ≡ Some w
      at true r = absurd (none_reported l 0 w refl r)
      at false r = r

  -- a report is left, or was taken
  pub left_or_taken : (n c : ℕ) (w : RingWord) → read_report l (words (name.Ring n c)) ≡ Some w
      → (read_report l (taken_ring n c) ≡ Some w) ⊎ (read_report l (words (ring_cell l pipe taken)) ≡ Some w)
  left_or_taken n c w read = at (pipe == n) ((taken % l.shape.ring) == c) refl refl
    where
      at : (a b : Bool) → (pipe == n) ≡ a → ((taken % l.shape.ring) == c) ≡ b
          → (read_report l (if a && b then 0 else words (name.Ring n c)) ≡ Some w) ⊎ (read_report l (words (ring_cell l pipe taken)) ≡ Some w)
      at true true x y =
          let one : n ≡ pipe = grind (arith, nat_tests) in
          let two : c ≡ taken % l.shape.ring = grind (arith, nat_tests) in
          inr (subst (λ z. read_report l (words (name.Ring pipe z)) ≡ Some w) two (subst (λ z. read_report l (words (name.Ring z c)) ≡ Some w) one read))
      at true false x y = inl read
      at false b x y = inl read

  pub learn_left : (key : KeyView) (version : ℕ) → SomeLearn l (ring_words words) key version
      → SomeLearn l taken_ring key version ⊎ (read_report l (words (ring_cell l pipe taken)) ≡ Some (record { kind = Learn; version = version; key = key }))
  learn_left key version (n, c, read) = by (left_or_taken n c (record { kind = Learn; version = version; key = key }) read)
    where
      by : (read_report l (taken_ring n c) ≡ Some (record { kind = Learn; version = version; key = key })) ⊎ (read_report l (words (ring_cell l pipe taken)) ≡ Some (record { kind = Learn; version = version; key = key }))
          → SomeLearn l taken_ring key version ⊎ (read_report l (words (ring_cell l pipe taken)) ≡ Some (record { kind = Learn; version = version; key = key }))
      by (inl r) = inl (n, c, r)
      by (inr r) = inr r
