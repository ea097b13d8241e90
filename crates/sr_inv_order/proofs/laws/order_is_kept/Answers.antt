use Rattle.sr_inv_facts.proofs.Keeping.{begun_keeps, events_keep}
use Rattle.sr_inv_order.proofs.Joined.{order_part}
use Rattle.sr_inv_order.proofs.OrderOpens.{order_opens}
use Rattle.sr_inv_order.proofs.Ordered.{order_keep}
use Rattle.sr_inv_order.specs.Meeting.{OrderKept}
use Rattle.sr_inv_order.proofs.laws.order_is_kept.Goals as goal

pub returns-clause-opening : goal.returns-clause-opening
returns-clause-opening c = order_opens

pub returns-clause-begun : goal.returns-clause-begun
returns-clause-begun c = begun_keeps OrderKept order_part order_keep

pub returns-clause-event : goal.returns-clause-event
returns-clause-event c = events_keep OrderKept order_part order_keep
