use Rattle.std.proofs.Common.{◌<◌, subst, sym, arith}
use Rattle.sr_pcapng.proofs.Time.{units_positive, time_none}
use Rattle.sr_pcapng.proofs.interface.Interface.quotient.Goals as goal

pub nonzero_div-time : goal.nonzero_div-time
nonzero_div-time c = subst (λ n. 0 < n) (sym c.in-Some.ensures.1) (units_positive c.args.self.resolution)

pub returns-in-None : goal.returns-in-None
returns-in-None c = time_none c.args.time _ (omega arith) (omega (arith, c.in-None.ensures))
