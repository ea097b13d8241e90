-- The walk gives a script exactly where the tree meets the schema, and then the one that it spells.
use Rattle.std.proofs.Common.{◌≡◌, length, Ok, sym, subst}
use Rattle.toml.specs.Data.{Members}
use Rattle.sr_script.specs.declared.section.Section.TheVariants.{Top}
use Rattle.sr_script.specs.Judge.{keys_of}
use Rattle.sr_script.specs.Spelled.{Spelled, top_keys}
use Rattle.sr_script.specs.Walk.{only_known, shape_of, servers_of, vips_of, changes_of, script_in}
use Rattle.sr_script.specs.Schema.{Spells}
use Rattle.sr_script.proofs.LawWords.{chain, ok_same, known_to, known_from}
use Rattle.sr_script.proofs.LawShape.{shape_to, shape_from}
use Rattle.sr_script.proofs.LawLists.{servers_to, servers_from, vips_to, vips_from}
use Rattle.sr_script.proofs.LawChanges.{changes_to, changes_from}

-- what the walk gives is what the tree spells
pub walk_spells : (t : Members) (s : Spelled) → script_in t ≡ Ok s → Spells t s
unfolding script_in
walk_spells t s h =
    chain (only_known Top top_keys (keys_of t)) _ s h (λ _ known h. chain (shape_of t) _ s h (λ shape e_shape h. chain (servers_of t) _ s h (λ servers e_servers h.
    chain (vips_of shape.pool_max (length servers) t) _ s h (λ vips e_vips h. chain (changes_of shape.pool_max (length servers) (length vips.0) t) _ s h (λ changes e_changes made.
    subst (Spells t) (sym (ok_same (record { shape = shape; vips = vips.0; servers = servers; first = vips.1; changes = changes }) s made))
    (record {
      keys = known_to Top top_keys (keys_of t) known;
      shape = shape_to t shape e_shape;
      servers = servers_to t servers e_servers;
      vips = vips_to shape.pool_max (length servers) t vips e_vips;
      changes = changes_to shape.pool_max (length servers) (length vips.0) t changes e_changes;
    }))))))

-- what a tree spells is what the walk gives
pub spells_walk : (t : Members) (s : Spelled) → Spells t s → script_in t ≡ Ok s
unfolding script_in
spells_walk t s h =
    rw (
      known_from Top top_keys (keys_of t) h.keys,
      shape_from t s.shape h.shape,
      servers_from t s.servers h.servers,
      vips_from s.shape.pool_max (length s.servers) t h.vips.0 h.vips.1,
      ← h.vips.2,
      ← h.vips.3,
      changes_from s.shape.pool_max (length s.servers) (length s.vips) t s.changes h.changes,
    )
