-- The text of the script is a script: that of the definition.
use Rattle.std.proofs.Common.{◌≡◌, ◌∙◌, inl, inr, Option, Some, None, Ok, Err, option_map, refl, sym, ap}
use Rattle.std.proofs.lemmas.Option.{same_Some}
use Rattle.std.specs.Prelude.{IsUtf8}
use Rattle.toml.specs.Data.{Members}
use Rattle.toml.specs.Parse.{parse_document}
use Rattle.toml.proofs.OnLiterals.{toml_on_literals}
use Rattle.sr_decimal.specs.Front.{number_front}
use Rattle.sr_demo.specs.Script.{demo_script}
use Rattle.sr_demo.specs.declared.script.TheConstants.{SCRIPT}
use Rattle.sr_script.specs.Address.{address_of, part_front, port_of}
use Rattle.sr_script.specs.Fault.{Fault, each_after}
use Rattle.sr_script.specs.Script.{HasFault, IsScriptText, IsTree}
use Rattle.sr_script.specs.Spelled.{Spelled}
use Rattle.sr_script.specs.Walk.{change_in, change_table, change_values, changes_of, down_in, due_in, give_in, given_vip, new_address, new_server, only_known, pool_in, pool_values, script_in, server_values, servers_of, shape_in, shape_number, shape_of, take_down_in, vip_address, vip_in, vip_table, vip_values, vips_in, vips_of, what_in}

-- the reader and the walk through the tree, on the text
known : option_map script_in (parse_document SCRIPT.now) ≡ Some (Ok demo_script)
unfolding toml_on_literals number_front part_front port_of address_of each_after only_known shape_number shape_in shape_of new_address server_values servers_of new_server pool_values pool_in vip_address vip_table vip_in vip_values vips_in vips_of down_in given_vip take_down_in give_in what_in due_in change_table change_in change_values changes_of script_in
known = refl

-- so whatever tree the text has, this is its script
read_so : (t : Members) → IsTree SCRIPT.now t → script_in t ≡ Ok demo_script
read_so t is = same_Some _ _ (ap (option_map script_in) (sym is.read) ∙ known)

has_tree : IsUtf8 SCRIPT.now → (t : Members) × IsTree SCRIPT.now t
has_tree utf8 = at (parse_document SCRIPT.now) refl known
  where
    at : (o : Option Members) → parse_document SCRIPT.now ≡ o → option_map script_in o ≡ Some (Ok demo_script) → (t : Members) × IsTree SCRIPT.now t
    at None e k = cc
    at (Some t) e k = (t, record { utf8 = utf8; read = e })

pub script_read : (s : Spelled) → IsScriptText SCRIPT.now s → s ≡ demo_script
script_read s (t, is, read) = let so : Ok s ≡ Ok demo_script = sym read ∙ read_so t is in cc

pub no_fault : (fault : Fault) → IsUtf8 SCRIPT.now → HasFault SCRIPT.now fault → ⊥
no_fault fault utf8 (inl (t, is, bad)) = let so : Err fault ≡ Ok demo_script = sym bad ∙ read_so t is in cc
no_fault fault utf8 (inr (none, not_toml)) = let tree = has_tree utf8 in none tree.0 tree.1
