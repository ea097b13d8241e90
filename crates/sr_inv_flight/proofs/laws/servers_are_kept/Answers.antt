use Rattle.sr_inv_facts.proofs.Keeping.{begun_keeps, events_keep}
use Rattle.sr_inv_facts.specs.InFlight.{ServersTold}
use Rattle.sr_inv_flight.proofs.LoadedServers.{servers_keep, servers_open, servers_part}
use Rattle.sr_inv_flight.proofs.laws.servers_are_kept.Goals as goal

pub returns-clause-opening : goal.returns-clause-opening
returns-clause-opening c = servers_open

pub returns-clause-begun : goal.returns-clause-begun
returns-clause-begun c = begun_keeps ServersTold servers_part servers_keep

pub returns-clause-event : goal.returns-clause-event
returns-clause-event c = events_keep ServersTold servers_part servers_keep
