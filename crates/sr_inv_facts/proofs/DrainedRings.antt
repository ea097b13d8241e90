-- What holds of the reports behind a drain holds of those behind it as it goes on, and of all once it is over.
use Rattle.std.proofs.Common.{◌≡◌, ℕ, ◌+◌, ◌-◌, ◌*◌, ◌/◌, ◌%◌, ◌<◌, ◌≤◌, Bool, true, false, ◌||◌, ◌≢◌, ◌⊎◌, List, if◌then◌else◌, ◌==◌, refl, ap, ◌∙◌, subst, inl, inr, Some, arith, div-add-mod'}
use Rattle.std.proofs.lemmas.Bool.{cases_lt}
use Rattle.std.proofs.lemmas.Bool.Decides.{nat_tests}
use Rattle.std.proofs.lemmas.Nat.{mod-mul-add, mod_below}
use Rattle.sr_base.specs.Layout.{LayoutView}
use Rattle.sr_base.specs.declared.ring_word.RingWord.{RingWord}
use Rattle.sr_inv_facts.proofs.RingTakes.{Moved, moved}
use Rattle.sr_inv_facts.proofs.Taking.{none_reported}
use Rattle.sr_inv_facts.specs.InShape.{JobFits}
use Rattle.sr_inv_facts.specs.Invariant.{Invariant}
use Rattle.sr_inv_facts.specs.Readings.{EachBehind, EachReport, IsBehind, ring_words}
use Rattle.sr_machine.specs.Core.{Core}
use Rattle.sr_machine.specs.Deciding.{ring_count}
use Rattle.sr_machine.specs.Names.{rewritten, same_name}
use Rattle.sr_machine.specs.Reads.{read_report}
use Rattle.sr_machine.specs.Stages.{ring_cell}
use Rattle.sr_machine.specs.Taking.{ended_by, taking}
use Rattle.sr_machine.specs.Waiting.{has_next, is_ring_done}
use Rattle.sr_machine.specs.declared.name.Name.{Name}
use Rattle.sr_machine.specs.declared.ring_count.RingCount.{RingCount}
use Rattle.sr_machine.specs.declared.wait.Wait.{Wait}
use Rattle.sr_machine.specs.declared.job.Job.TheVariants as job
use Rattle.sr_machine.specs.declared.name.Name.TheVariants as name

-- each cell of a ring stands somewhere from the controller's place on
cell_index : (ring taken c : ℕ) → c < ring → (m : ℕ) × (m < ring) × ((taken + m) % ring ≡ c)
cell_index ring taken c b = at (cases_lt c (taken % ring))
  where
    whole : taken / ring * ring + taken % ring ≡ taken
    whole = div-add-mod' taken ring

    low : taken % ring < ring
    low = mod_below taken ring (omega arith)

    at : (c < taken % ring) ⊎ (taken % ring ≤ c) → (m : ℕ) × (m < ring) × ((taken + m) % ring ≡ c)
    at (inl h) =
        let m : ℕ = (ring - taken % ring) + c in
        let sum : taken + m ≡ (taken / ring + 1) * ring + c = omega (arith, whole, low) in
        (m, omega (arith, low), ap (λ z. z % ring) sum ∙ mod-mul-add (taken / ring + 1) ring c b)
    at (inr h) =
        let m : ℕ = c - taken % ring in
        let sum : taken + m ≡ taken / ring * ring + c = omega (arith, whole, low) in
        (m, omega arith, ap (λ z. z % ring) sum ∙ mod-mul-add (taken / ring) ring c b)

-- a ring that isn't empty is done with when all its cells were taken
done_full : (l : LayoutView) (count x : ℕ) → is_ring_done l count x ≡ true → x ≢ 0 → count + 1 ≡ l.shape.ring
done_full l count x done full = at (x == 0) ((count + 1) == l.shape.ring) refl refl done
  where
    at : (a z : Bool) → (x == 0) ≡ a → ((count + 1) == l.shape.ring) ≡ z → (a || z) ≡ true → count + 1 ≡ l.shape.ring
    at true z p q d = absurd (full (grind (arith, nat_tests)))
    at false true p q d = grind (arith, nat_tests)
    at false false p q d = cc

module _ (s : Core) (i : Invariant s) (pipe count : ℕ) (w : Wait) (e : s.controller.job ≡ job.Drain pipe count w) (P : RingWord → Type 0) (old : EachBehind s.config.layout s.controller.rings (ring_words s.words) pipe count P) where
  abbrev l : LayoutView
  l = s.config.layout

  abbrev cell : Name
  cell = ring_cell l pipe (ring_count s.controller.rings pipe).words

  abbrev x : ℕ
  x = s.words cell

  abbrev t : ℕ → ℕ → ℕ
  t = ring_words (rewritten s.words cell 0)

  abbrev rings : List RingCount
  rings = (taking s.config s.controller (ended_by (job.Drain pipe count w)) pipe x).rings

  within : pipe < l.shape.pipes
  within = (subst (JobFits l) e i.shape.controller.job).0

  -- a report behind the drain as it goes on was behind it
  by_place : (n m : ℕ) (r : RingWord) → n < l.shape.pipes → m < l.shape.ring → (n ≢ pipe → n < pipe)
      → (n ≡ pipe → x ≢ 0 → l.shape.ring ≤ (m + 1) + count) → Moved s i pipe within n m r
      → P r
  by_place n m r b c other own (inl h) = old n m b c (inl (other h.0)) r h.1
  by_place n m r b c other own (inr h) = old pipe (m + 1) within h.2 (inr (refl, own h.0 h.1)) r h.3

  pub behind_stays : EachBehind l rings t pipe (count + 1) P
  behind_stays = λ n k b d behind r read.
      by_place n k r b d (λ apart. other n k apart behind) (λ same full. own n k d same behind)
      (moved s i pipe within (ended_by (job.Drain pipe count w)) n k d r read)
    where
      other : (n k : ℕ) → n ≢ pipe → IsBehind l pipe (count + 1) n k → n < pipe
      other n k apart (inl h) = h
      other n k apart (inr h) = absurd (apart h.0)

      own : (n k : ℕ) → k < l.shape.ring → n ≡ pipe → IsBehind l pipe (count + 1) n k → l.shape.ring ≤ (k + 1) + count
      own n k d same (inl h) = absurd (omega arith)
      own n k d same (inr h) = omega (arith, h.1)

  pub behind_next : is_ring_done l count x ≡ true → EachBehind l rings t (pipe + 1) 0 P
  behind_next a = λ n k b d behind r read.
      by_place n k r b d (λ apart. other n k d apart behind) (λ same full. omega (arith, done_full l count x a full))
      (moved s i pipe within (ended_by (job.Drain pipe count w)) n k d r read)
    where
      other : (n k : ℕ) → k < l.shape.ring → n ≢ pipe → IsBehind l (pipe + 1) 0 n k → n < pipe
      other n k d apart (inl h) = omega arith
      other n k d apart (inr h) = absurd (omega (arith, h.1))

  pub behind_all : is_ring_done l count x ≡ true → has_next l pipe ≡ false → EachReport l t P
  behind_all a last = λ n k r read. at n k r read (cases_lt n l.shape.pipes) (cases_lt k l.shape.ring)
    where
      end : l.shape.pipes ≤ pipe + 1
      end = grind (arith, nat_tests)

      far : (n k : ℕ) (r : RingWord) → read_report l (t n k) ≡ Some r → (l.shape.pipes ≤ n) ⊎ (l.shape.ring ≤ k) → ⊥
      far n k r read h = none_reported l (t n k) r (none (same_name cell (name.Ring n k))) read
        where
          none : (b : Bool) → ((if b then 0 else s.words (name.Ring n k)) == 0) ≡ true
          none true = refl
          none false = let z : s.words (name.Ring n k) ≡ 0 = i.matching.matching.beyond n k h in grind (arith, nat_tests)

      at : (n k : ℕ) (r : RingWord) → read_report l (t n k) ≡ Some r → (n < l.shape.pipes) ⊎ (l.shape.pipes ≤ n)
          → (k < l.shape.ring) ⊎ (l.shape.ring ≤ k) → P r
      at n k r read (inr h) d = absurd (far n k r read (inl h))
      at n k r read (inl b) (inr h) = absurd (far n k r read (inr h))
      at n k r read (inl b) (inl d) =
          let f = cell_index l.shape.ring (ring_count rings n).words k d in
          by_place n f.0 r b f.1 (λ apart. omega (arith, end)) (λ same full. omega (arith, done_full l count x a full))
          (moved s i pipe within (ended_by (job.Drain pipe count w)) n f.0 f.1 r (ap (λ z. read_report l (t n z)) f.2 ∙ read))
