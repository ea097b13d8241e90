-- The parts of the family of openings, each alone.
use Rattle.sr_inv_facts.specs.Doing.{OnAnswer}
use Rattle.sr_inv_facts.specs.Flying.{OnLeg}
use Rattle.sr_inv_facts.specs.InOpenings.{EntryOpened, IfUnregistered, IsLearned, IsReported, LegPushed, NothingLearned}
use Rattle.sr_inv_facts.specs.Readings.{EachLearn, EachPipe, ring_words}
use Rattle.sr_base.specs.Key.{KeyView}
use Rattle.sr_law.specs.Opening.{opening}
use Rattle.sr_machine.specs.Core.{Core, printed}
use Rattle.sr_shadow.specs.Book.{is_registered}
use Rattle.std.specs.List.{AllByRecursion}
use Rattle.std.proofs.Common.{◌≡◌, false}

-- an opener that was sent and isn't out has its report in a ring, or its key is registered
abbrev pub PushedAre : Core → Type 0
PushedAre s =
    EachPipe (λ p v. OnLeg v.stage (LegPushed s.config.layout (ring_words s.words) s.controller.book.entries)) s.pipes

-- each report in a ring tells the version of an opening, or of an opener that isn't out yet
abbrev pub LearnedAre : Core → Type 0
LearnedAre s = EachLearn s.config.layout (ring_words s.words) (IsLearned (printed s) s.pipes)

-- each registered key is open with its entry's version, or about to be opened so
abbrev pub EntriesOpened : Core → Type 0
EntriesOpened s =
    AllByRecursion (λ e. EntryOpened s.config s.controller.vips s.controller.named s.controller.down s.controller.job s.pipes e (opening (printed s) e.key))
    s.controller.book.entries

-- a key that is open and isn't registered has its report in a ring
abbrev pub ReportedAre : Core → Type 0
ReportedAre s =
    (key : KeyView) → is_registered key s.controller.book.entries ≡ false
    → IsReported s.config.layout (ring_words s.words) s.controller.named key (opening (printed s) key)

-- of a key that isn't registered and whose server is down nothing is learned, once its opener is to be answered so
abbrev pub DeadAreSilent : Core → Type 0
DeadAreSilent s =
    OnAnswer s.controller.job
    (λ r. IfUnregistered s.controller.book.entries r (NothingLearned s.config.layout (ring_words s.words) s.pipes r.held.key))
