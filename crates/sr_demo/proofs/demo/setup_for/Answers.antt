use Rattle.std.proofs.Common.{◌≡◌, ℕ, List, length, ap, ◌∙◌, arith}
use Rattle.sr_base.specs.declared.packet.Packet.{Packet}
use Rattle.sr_base.specs.declared.shape.Shape.{Shape}
use Rattle.sr_law.specs.Pools.{VipPools, pools_from}
use Rattle.sr_law.specs.Setup.{SetupView}
use Rattle.sr_demo.proofs.demo.setup_for.Goals as goal

setup_with : Shape → ℕ → List VipPools → List Packet → SetupView
setup_with shape servers pools packets = record { shape = shape; servers = servers; pools = pools; packets = packets }

same_setup : (shape : Shape) (m n : ℕ) (p q : List VipPools) (xs ys : List Packet) → m ≡ n → p ≡ q → xs ≡ ys → setup_with shape m p xs ≡ setup_with shape n q ys
same_setup shape m n p q xs ys a b c =
    ap (λ k. setup_with shape k p xs) a ∙ ap (λ k. setup_with shape n k xs) b ∙ ap (setup_with shape n q) c

pub returns : goal.returns
unfolding setup_with
returns c =
    let s = c.args.script.now in
    let pools = c.in_ok-pools.ensures ∙ ap (λ f. pools_from 0 f c.deref-2.result.now) c.deref.ensures.value ∙ ap (pools_from 0 s.first.items) c.deref-2.ensures.value in
    let sized : s.servers.len ≡ length s.servers.items = let ok = s.servers.ok.0 in omega (arith, ok) in
    same_setup s.shape _ _ _ _ _ _ (c.len.ensures ∙ sized) pools c.in_ok-packets.ensures
