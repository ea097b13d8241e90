-- The order of the lines is a part of the clauses that they meet.
use Rattle.std.proofs.Common.{◌≡◌, true, List, [], ◌∷◌}
use Rattle.sr_inv_facts.specs.InCauses.{AllMeet, setup_of}
use Rattle.sr_inv_facts.specs.Invariant.{Invariant}
use Rattle.sr_inv_order.specs.Meeting.{EachLine, OrderKept}
use Rattle.sr_law.specs.Lawful.{MeetsClauses}
use Rattle.sr_law.specs.Order.{meets_order}
use Rattle.sr_law.specs.Retire.{EndingPacket}
use Rattle.sr_law.specs.Setup.{SetupView}
use Rattle.sr_law.specs.declared.line.Line.{Line}
use Rattle.sr_machine.specs.Core.{Core, printed}

-- what each line meets of its clauses
pub each_part : (setup : SetupView) (endings : List EndingPacket) (P : List Line → Line → Type 0)
    → ((before : List Line) (l : Line) → MeetsClauses setup endings before l → P before l) → (lines : List Line)
    → AllMeet setup endings lines
    → EachLine P lines
each_part setup endings P part [] a = tt
each_part setup endings P part (l ∷ before) a = (part before l a.0, each_part setup endings P part before a.1)

pub order_part : (s : Core) → Invariant s → OrderKept s
order_part s i =
    each_part (setup_of s.config) _ (λ before l. meets_order (setup_of s.config) before l ≡ true) (λ before l m. m.order) (printed s) i.causes.causes.clauses
