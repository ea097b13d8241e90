-- The parts of the family joined.
use Rattle.sr_inv_facts.proofs.Keeping.{begun_keeps, events_keep}
use Rattle.sr_inv_facts.specs.InMatching.{DrainsAreApart, InMatching, LearnedAreUnspoken, OwnAreFound, PlacedAreFound, PutsAreClear, RingsEnd, UnmatchedLook, IsClearPut}
use Rattle.sr_inv_facts.specs.Laws.{BegunKeeps, EventsKeep, OpensWith}
use Rattle.sr_inv_matching.proofs.ClearKept.{clear_keep, clear_open}
use Rattle.sr_inv_matching.proofs.DrainsKept.{apart_keep, apart_open}
use Rattle.sr_inv_matching.proofs.LearnedKept.{ends_keep, ends_open, unspoken_keep, unspoken_open}
use Rattle.sr_inv_matching.proofs.LooksKept.{found_keep, found_open, found_put}
use Rattle.sr_inv_matching.proofs.OwnKept.{own_keep, own_open}
use Rattle.sr_inv_matching.proofs.UnmatchedKept.{unmatched_keep, unmatched_open, unmatched_put}
use Rattle.sr_inv_facts.specs.Putting.{put_core}
use Rattle.sr_machine.specs.declared.put.Put.{Put}
use Rattle.sr_inv_facts.specs.Invariant.{Invariant}
use Rattle.sr_machine.specs.Core.{Core}
use Rattle.sr_machine.specs.declared.job.Job.TheVariants.{Free}
use Rattle.std.proofs.Common.{◌≡◌}

pub matching_opens : OpensWith InMatching
matching_opens k f = record {
  matching =
      record {
        unmatched = unmatched_open k f;
        looks = found_open k f;
        judged = apart_open k f;
        unlearned = unspoken_open k f;
        own = own_open k f;
        clear = clear_open k f;
        beyond = ends_open k f;
      };
}

pub matching_begun : BegunKeeps InMatching
matching_begun s i = record {
  matching =
      record {
        unmatched = begun_keeps UnmatchedLook (λ s i. i.matching.matching.unmatched) unmatched_keep s i;
        looks = begun_keeps PlacedAreFound (λ s i. i.matching.matching.looks) found_keep s i;
        judged = begun_keeps DrainsAreApart (λ s i. i.matching.matching.judged) apart_keep s i;
        unlearned = begun_keeps LearnedAreUnspoken (λ s i. i.matching.matching.unlearned) unspoken_keep s i;
        own = begun_keeps OwnAreFound (λ s i. i.matching.matching.own) own_keep s i;
        clear = begun_keeps PutsAreClear (λ s i. i.matching.matching.clear) clear_keep s i;
        beyond = begun_keeps RingsEnd (λ s i. i.matching.matching.beyond) ends_keep s i;
      };
}

-- a put begins whose key, if it isn't registered and goes into a slot, is clear
pub matching_put : (s : Core) (p : Put) → s.controller.job ≡ Free → IsClearPut s.config.layout.shape s.controller.book.entries p
    → Invariant s
    → InMatching (put_core s p)
matching_put s p free clear i = record {
  matching =
      record {
        unmatched = unmatched_put s p free i;
        looks = found_put s p free i;
        judged = tt;
        unlearned = i.matching.matching.unlearned;
        own = i.matching.matching.own;
        clear = clear;
        beyond = i.matching.matching.beyond;
      };
}

pub matching_events : EventsKeep InMatching
matching_events s t e h a q = record {
  matching =
      record {
        unmatched = events_keep UnmatchedLook (λ s i. i.matching.matching.unmatched) unmatched_keep s t e h a q;
        looks = events_keep PlacedAreFound (λ s i. i.matching.matching.looks) found_keep s t e h a q;
        judged = events_keep DrainsAreApart (λ s i. i.matching.matching.judged) apart_keep s t e h a q;
        unlearned = events_keep LearnedAreUnspoken (λ s i. i.matching.matching.unlearned) unspoken_keep s t e h a q;
        own = events_keep OwnAreFound (λ s i. i.matching.matching.own) own_keep s t e h a q;
        clear = events_keep PutsAreClear (λ s i. i.matching.matching.clear) clear_keep s t e h a q;
        beyond = events_keep RingsEnd (λ s i. i.matching.matching.beyond) ends_keep s t e h a q;
      };
}
