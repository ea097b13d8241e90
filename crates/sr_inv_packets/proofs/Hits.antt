-- A packet that used an entry has left a hit at its place.
use Rattle.std.proofs.Common.{◌≡◌, ℕ, ◌<◌, ◌≢◌, false, Option, refl, subst}
use Rattle.sr_base.specs.declared.kind.Kind.{Kind}
use Rattle.sr_base.specs.declared.kind.Kind.TheVariants.{Opener, Carry, Ending}
use Rattle.sr_inv_facts.proofs.Books.{found_key}
use Rattle.sr_inv_facts.proofs.Lists.{all_in, of_some}
use Rattle.sr_inv_facts.specs.Flying.{IfOther}
use Rattle.sr_inv_facts.specs.InSweeps.{EntrySettled, IsFrom, LineSettled, SettledAt, base_of, is_unsettled, since}
use Rattle.sr_inv_facts.specs.Readings.{hit_words}
use Rattle.sr_inv_packets.specs.Hits.{LeaveHits}
use Rattle.sr_machine.specs.Core.{printed}
use Rattle.sr_shadow.specs.Entry.{is_of}
use Rattle.sr_update.proofs.Dues.{all_find}
use Rattle.sr_law.specs.declared.line.Line.TheVariants as line
use Rattle.sr_machine.specs.declared.name.Name.TheVariants as name

other_has : (kind : Kind) (P : Type 0) → kind ≢ Opener → IfOther kind P → P
other_has Opener P n h = absurd (n refl)
other_has Carry P n h = h
other_has Ending P n h = h

pub leave_hits : LeaveHits
leave_hits s i key e place h number entered out pipe kind v there other later =
    other_has kind (key ≡ e.key → since (printed s) e.key < entered → IsFrom base entered → s.words (name.Hit place) ≡ 1) other told same
    (subst (λ k. since (printed s) k < entered) same later.placed) later.swept
  where
    same : key ≡ e.key
    same = found_key key s.controller.book.entries e h.found

    base : Option ℕ
    base = base_of (printed s) s.controller.sweeps s.controller.job e

    settled : EntrySettled (hit_words s.words) s.pipes (printed s) s.controller.sweeps s.controller.job e
    settled =
        all_find (EntrySettled (hit_words s.words) s.pipes (printed s) s.controller.sweeps s.controller.job) (is_of key)
        s.controller.book.entries e i.sweeps.sweeps.settled h.found

    at : SettledAt (hit_words s.words) s.pipes (printed s) base e place
    at =
        of_some (SettledAt (hit_words s.words) s.pipes (printed s) base e) e.place place
        (settled h.left (subst (λ k. is_unsettled s.controller.job k ≡ false) same h.told)) h.stands

    told : LineSettled (hit_words s.words) base (since (printed s) e.key) place e (line.Packet number entered out pipe key kind v)
    told =
        all_in (LineSettled (hit_words s.words) base (since (printed s) e.key) place e) (printed s)
        (line.Packet number entered out pipe key kind v) at.told there
