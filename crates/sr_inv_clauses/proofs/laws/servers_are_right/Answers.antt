use Rattle.sr_inv_clauses.proofs.Opens.{servers_open}
use Rattle.sr_inv_clauses.proofs.Servers.{servers_keep, servers_part}
use Rattle.sr_inv_clauses.specs.Clauses.{ServersRight}
use Rattle.sr_inv_facts.proofs.Keeping.{begun_keeps, events_keep}
use Rattle.sr_inv_clauses.proofs.laws.servers_are_right.Goals as goal

pub returns-clause-opening : goal.returns-clause-opening
returns-clause-opening c = servers_open

pub returns-clause-begun : goal.returns-clause-begun
returns-clause-begun c = begun_keeps ServersRight servers_part servers_keep

pub returns-clause-event : goal.returns-clause-event
returns-clause-event c = events_keep ServersRight servers_part servers_keep
