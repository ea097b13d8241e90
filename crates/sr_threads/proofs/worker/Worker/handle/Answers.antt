use Rattle.std.proofs.Common.{◌≡◌, ◌<◌, Bool, true, [], ◌∷◌, refl, sym, ap, subst, if◌then◌else◌, arith}
use Rattle.std.proofs.lemmas.Bool.{lt-ltb}
use Rattle.sr_base.specs.declared.packet.Packet.{Packet}
use Rattle.sr_machine.specs.Pipe.{has_vip}
use Rattle.sr_threads.proofs.Laps.{ready_then, worked_one, worked_still, worked_then}
use Rattle.sr_threads.specs.Working.{IsReady, Worked}
use Rattle.sr_threads.specs.declared.worker.Worker.{Worker}
use Rattle.sr_threads.proofs.worker.Worker.handle.Goals as goal

pub returns : goal.returns
returns g c =
    let w : Worker = c.args.self.now in
    let mid : Worker = record { board = c.args.self.now.board; pipe = c.reserve.new.self; short = c.args.self.now.short } in
    let v : Worker = record { board = c.handle.new.board; pipe = c.handle.new.self; short = c.args.self.now.short } in
    let room : Worked w [] mid =
    worked_still c.args.layout.now w mid c.requires [] refl c.reserve.ensures.layout c.reserve.ensures.view (λ s. (s, refl)) in
    let ready : IsReady c.args.layout.now mid = ready_then c.args.layout.now w mid [] c.requires room in
    let test = c.if-packet-vips.false in
    let is = ap (λ (p : Packet). p.key.vip) c.packet.view_is in
    let vips = c.vips.ensures in
    let less : c.args.packet.key.vip < c.args.layout.now.vips = omega (arith, is, vips, test) in
    let has : has_vip c.args.layout.now c.args.packet ≡ true = lt-ltb c.args.packet.key.vip c.args.layout.now.vips less in
    subst (λ (b : Bool). Worked w (if b then c.args.packet ∷ [] else []) v) (sym has)
    (worked_then w mid v [] (c.args.packet ∷ []) room
    (worked_one c.args.layout.now mid v ready c.args.packet c.handle.result _ _ refl refl c.handle.ensures.layout c.handle.ensures.idle
    c.handle.ensures.board c.handle.ensures.beside refl c.handle.ensures.handled))
