-- The state in which the controller has begun a put, whoever chose its place.
use Rattle.sr_machine.specs.Core.{Core}
use Rattle.sr_machine.specs.Starting.{with_job, with_start}
use Rattle.sr_machine.specs.declared.draw.Draw.TheVariants.{Reserved}
use Rattle.sr_machine.specs.declared.job.Job.TheVariants.{Draw}
use Rattle.sr_machine.specs.declared.put.Put.{Put}

abbrev pub put_core : Core → Put → Core
put_core s p = record s { controller = with_start s.controller (with_job s.controller (Draw (Reserved p))) }
