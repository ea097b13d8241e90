-- How many words of each ring were taken after a take.
use Rattle.std.proofs.Common.{◌≡◌, ℕ, ◌<◌, Bool, true, false, ◌≢◌, List, length, if◌then◌else◌, ◌==◌, slice_set, Option, refl, ap, ◌∙◌, arith, get_or-set_other, get_or-set_same}
use Rattle.std.proofs.lemmas.Bool.Decides.{nat_tests}
use Rattle.sr_base.specs.Key.{KeyView}
use Rattle.sr_machine.specs.Config.{Config}
use Rattle.sr_machine.specs.Deciding.{ring_count}
use Rattle.sr_machine.specs.Reads.{read_report}
use Rattle.sr_machine.specs.Taking.{count_after, holds_opener, taken_report, taking, untaken}
use Rattle.sr_machine.specs.declared.controller_view.ControllerView.{ControllerView}
use Rattle.sr_machine.specs.declared.ring_count.RingCount.{RingCount}

-- the count of a ring after a write to the counts
pub count_here : (rings : List RingCount) (p : ℕ) (r : RingCount) → p < length rings → ring_count (slice_set rings p r) p ≡ r
count_here rings p r h = get_or-set_same rings p r (record { words = 0; punts = 0 }) h

pub count_else : (rings : List RingCount) (p n : ℕ) (r : RingCount) → n ≢ p → ring_count (slice_set rings p r) n ≡ ring_count rings n
count_else rings p n r h = get_or-set_other rings p n r (record { words = 0; punts = 0 }) h

module _ (k : Config) (c : ControllerView) (ended : Option KeyView) (pipe x : ℕ) where
  -- an empty cell changes nothing
  pub take_none : x ≡ 0 → taking k c ended pipe x ≡ untaken c
  unfolding taking
  take_none e = at (x == 0) (grind (arith, nat_tests))
    where
      at : (t : Bool) → t ≡ true → (if t then untaken c else taken_report c ended pipe (read_report k.layout x)) ≡ untaken c
      at true q = refl
      at false q = cc

  -- another cell's word is taken
  pub take_some : x ≢ 0 → taking k c ended pipe x ≡ taken_report c ended pipe (read_report k.layout x)
  unfolding taking
  take_some e = at (x == 0) (grind (arith, nat_tests))
    where
      at : (t : Bool) → t ≡ false
          → (if t then untaken c else taken_report c ended pipe (read_report k.layout x)) ≡ taken_report c ended pipe (read_report k.layout x)
      at true q = cc
      at false q = refl

  -- the counts of other rings
  pub take_other : (n : ℕ) → n ≢ pipe → ring_count (taking k c ended pipe x).rings n ≡ ring_count c.rings n
  take_other n h = at (x == 0) refl
    where
      at : (t : Bool) → (x == 0) ≡ t → ring_count (taking k c ended pipe x).rings n ≡ ring_count c.rings n
      at true q = ap (λ t. ring_count t.rings n) (take_none (grind (arith, nat_tests)))
      at false q =
          ap (λ t. ring_count t.rings n) (take_some (grind (arith, nat_tests))) ∙ count_else c.rings pipe n _ h

  -- and of its own
  pub take_own : x ≢ 0 → pipe < length c.rings
      → ring_count (taking k c ended pipe x).rings pipe
      ≡ count_after (holds_opener (read_report k.layout x) (ring_count c.rings pipe).punts) (ring_count c.rings pipe)
  take_own e h = ap (λ t. ring_count t.rings pipe) (take_some e) ∙ count_here c.rings pipe _ h
