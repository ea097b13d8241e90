-- Every event keeps that verdicts have causes and that the lines break no clause.
use Rattle.std.proofs.Common.{◌≡◌, true, List, [], ◌∷◌}
use Rattle.sr_inv_causes.proofs.Told.{told_keep, told_open, told_part}
use Rattle.sr_inv_causes.specs.Caused.{CausesTold}
use Rattle.sr_inv_clauses.proofs.FreeNumbers.{number_keep, number_open, number_part}
use Rattle.sr_inv_clauses.proofs.NewerPools.{newer_keep, newer_open, newer_part}
use Rattle.sr_inv_clauses.proofs.Opens.{servers_open}
use Rattle.sr_inv_clauses.proofs.SamePools.{same_keep, same_open, same_part}
use Rattle.sr_inv_clauses.proofs.Servers.{servers_keep, servers_part}
use Rattle.sr_inv_clauses.specs.Clauses.{NumbersFree, PoolsNewer, PoolsSame, ServersRight}
use Rattle.sr_inv_facts.proofs.Keeping.{begun_keeps, events_keep}
use Rattle.sr_inv_facts.specs.InCauses.{AllMeet, InCauses, endings_in, setup_of}
use Rattle.sr_inv_facts.specs.Laws.{BegunKeeps, EventsKeep, OpensWith}
use Rattle.sr_inv_order.proofs.Joined.{order_part}
use Rattle.sr_inv_order.proofs.OrderOpens.{order_opens}
use Rattle.sr_inv_order.proofs.Ordered.{order_keep}
use Rattle.sr_inv_order.specs.Meeting.{EachLine, OrderKept}
use Rattle.sr_inv_retired.proofs.RetirementsKept.{retirements_keep, retirements_open, retirements_part}
use Rattle.sr_inv_retired.specs.Retirements.{RetirementsKept}
use Rattle.sr_inv_verdicts.proofs.DowningKept.{downing_keep, downing_open, downing_part}
use Rattle.sr_inv_verdicts.proofs.ReportsKept.{reports_keep, reports_open, reports_part}
use Rattle.sr_inv_verdicts.proofs.VerdictsKept.{verdicts_keep, verdicts_open, verdicts_part}
use Rattle.sr_inv_verdicts.specs.Caused.{DowningUnknown, FlightsCaused, ReportsTold}
use Rattle.sr_law.specs.Cause.{meets_cause}
use Rattle.sr_law.specs.Newer.{meets_newer}
use Rattle.sr_law.specs.Number.{meets_number}
use Rattle.sr_law.specs.Order.{meets_order}
use Rattle.sr_law.specs.Retire.{EndingPacket, meets_retire}
use Rattle.sr_law.specs.Same.{meets_same}
use Rattle.sr_law.specs.Server.{meets_server}
use Rattle.sr_law.specs.Setup.{SetupView}
use Rattle.sr_law.specs.declared.line.Line.{Line}
use Rattle.sr_machine.specs.Core.{Core, opening, printed}
use Rattle.sr_machine.specs.Keeping.{begun_core}
use Rattle.sr_inv_facts.specs.Putting.{put_core}
use Rattle.sr_machine.specs.declared.put.Put.{Put}
use Rattle.sr_inv_facts.specs.Invariant.{Invariant}

-- each line meets all clauses where it meets each
pub record EachClause (setup : SetupView) (endings : List EndingPacket) (lines : List Line) : Type 0 where
  pub order : EachLine (λ before l. meets_order setup before l ≡ true) lines
  pub server : EachLine (λ before l. meets_server setup.pools before l ≡ true) lines
  pub same : EachLine (λ before l. meets_same before l ≡ true) lines
  pub newer : EachLine (λ before l. meets_newer before l ≡ true) lines
  pub number : EachLine (λ before l. meets_number setup before l ≡ true) lines
  pub cause : EachLine (λ before l. meets_cause setup before l ≡ true) lines
  pub retire : EachLine (λ before l. meets_retire setup endings before l ≡ true) lines

pub all_meet : (setup : SetupView) (endings : List EndingPacket) (lines : List Line) → EachClause setup endings lines → AllMeet setup endings lines
all_meet setup endings [] c = tt
all_meet setup endings (l ∷ before) c = (
  record {
    order = c.order.0;
    server = c.server.0;
    same = c.same.0;
    newer = c.newer.0;
    number = c.number.0;
    cause = c.cause.0;
    retire = c.retire.0;
  },
  all_meet setup endings before (record {
    order = c.order.1;
    server = c.server.1;
    same = c.same.1;
    newer = c.newer.1;
    number = c.number.1;
    cause = c.cause.1;
    retire = c.retire.1;
  }),
)

joined : (s : Core) → FlightsCaused s → DowningUnknown s → ReportsTold s
    → EachClause (setup_of s.config) (endings_in s.pipes (printed s)) (printed s)
    → InCauses s
joined s f d r c = record {
  causes = record {
    flights = f;
    clauses = all_meet (setup_of s.config) (endings_in s.pipes (printed s)) (printed s) c;
    downing = d;
    reports = r;
  };
}

pub causes_open : OpensWith InCauses
causes_open k f =
    joined (opening k) (verdicts_open k f) (downing_open k f) (reports_open k f) (record {
      order = order_opens k f;
      server = servers_open k f;
      same = same_open k f;
      newer = newer_open k f;
      number = number_open k f;
      cause = told_open k f;
      retire = retirements_open k f;
    })

pub causes_begun : BegunKeeps InCauses
causes_begun s i =
    joined (begun_core s) (begun_keeps FlightsCaused verdicts_part verdicts_keep s i) (begun_keeps DowningUnknown downing_part downing_keep s i)
    (begun_keeps ReportsTold reports_part reports_keep s i) (record {
      order = begun_keeps OrderKept order_part order_keep s i;
      server = begun_keeps ServersRight servers_part servers_keep s i;
      same = begun_keeps PoolsSame same_part same_keep s i;
      newer = begun_keeps PoolsNewer newer_part newer_keep s i;
      number = begun_keeps NumbersFree number_part number_keep s i;
      cause = begun_keeps CausesTold told_part told_keep s i;
      retire = begun_keeps RetirementsKept retirements_part retirements_keep s i;
    })

pub causes_put : (s : Core) (p : Put) → Invariant s → InCauses (put_core s p)
causes_put s p i =
    joined (put_core s p) (verdicts_part s i) tt (reports_part s i) (record {
      order = order_part s i;
      server = servers_part s i;
      same = same_part s i;
      newer = newer_part s i;
      number = number_part s i;
      cause = told_part s i;
      retire = retirements_part s i;
    })

pub causes_event : EventsKeep InCauses
causes_event s t e h a q =
    joined t (events_keep FlightsCaused verdicts_part verdicts_keep s t e h a q) (events_keep DowningUnknown downing_part downing_keep s t e h a q)
    (events_keep ReportsTold reports_part reports_keep s t e h a q) (record {
      order = events_keep OrderKept order_part order_keep s t e h a q;
      server = events_keep ServersRight servers_part servers_keep s t e h a q;
      same = events_keep PoolsSame same_part same_keep s t e h a q;
      newer = events_keep PoolsNewer newer_part newer_keep s t e h a q;
      number = events_keep NumbersFree number_part number_keep s t e h a q;
      cause = events_keep CausesTold told_part told_keep s t e h a q;
      retire = events_keep RetirementsKept retirements_part retirements_keep s t e h a q;
    })
