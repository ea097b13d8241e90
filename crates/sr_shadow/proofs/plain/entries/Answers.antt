use Rattle.std.proofs.Common.{sym}
use Rattle.sr_shadow.proofs.Listing.{entry_next}
use Rattle.sr_shadow.proofs.plain.entries.Goals as goal

pub loop-i-preserved : goal.loop-i-preserved
loop-i-preserved c =
    entry_next c.loop-i.es.items c.push.new.self.items c.args.shadow.now.book.entries c.loop-i.i c.in-Some.entry.now c.loop-i.invariant (sym c.in-Some.ensures) c.in_ok-push-in-Some.ensures.items
