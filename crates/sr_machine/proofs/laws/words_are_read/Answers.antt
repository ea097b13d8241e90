use Rattle.sr_machine.proofs.Written.{empty_says, head_read, live_says, report_read, reserved_says, vip_read}
use Rattle.sr_machine.proofs.laws.words_are_read.Goals as goal

pub returns-clause-live : goal.returns-clause-live
returns-clause-live c = live_says

pub returns-clause-reserved : goal.returns-clause-reserved
returns-clause-reserved c = reserved_says

pub returns-clause-empty : goal.returns-clause-empty
returns-clause-empty c = empty_says

pub returns-clause-vip : goal.returns-clause-vip
returns-clause-vip c = vip_read

pub returns-clause-head : goal.returns-clause-head
returns-clause-head c = head_read

pub returns-clause-report : goal.returns-clause-report
returns-clause-report c = report_read
