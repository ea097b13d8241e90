-- A put that begins keeps the whole invariant, whoever chose its place.
use Rattle.sr_inv.proofs.Joined.{put_meets}
use Rattle.sr_inv_facts.specs.Invariant.{Invariant}
use Rattle.sr_inv_facts.specs.Putting.{put_core}
use Rattle.sr_inv_put.proofs.Holding.{puts}
use Rattle.sr_inv_put.specs.MayPut.{MayBeginPut}
use Rattle.sr_machine.specs.Core.{Core}
use Rattle.sr_machine.specs.declared.put.Put.{Put}

pub puts_keep : (s : Core) (p : Put) → Invariant s → MayBeginPut s p → Invariant (put_core s p)
puts_keep s p i m =
    let both = puts s.config.layout.shape s.controller.book.entries s.controller.held p m.may in
    put_meets s p m.free m.calm both.0 both.1 i
