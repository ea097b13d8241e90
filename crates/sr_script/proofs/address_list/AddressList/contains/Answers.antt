use Rattle.std.proofs.Common.{List, ap, ◌∙◌}
use Rattle.std.specs.List.{list_any}
use Rattle.sr_script.specs.Spelled.{Address, same_address}
use Rattle.sr_script.proofs.address_list.AddressList.contains.Goals as goal

pub returns : goal.returns
returns c = c.contains.ensures ∙ c.self.invariant c.args.address.now ∙ ap (λ (list : List Address). list_any (λ b. same_address b c.args.address.now) list) c.self.view_is
