use Rattle.std.proofs.Common.{◌≡◌, ◌∷◌, length, reverse, sym, ap, subst, ◌∙◌}
use Rattle.std.proofs.lemmas.List.{length-reverse}
use Rattle.std.proofs.lemmas.Result.{on_ok_weaker}
use Rattle.sr_audit.specs.Filters.{TellsFilters}
use Rattle.sr_audit.proofs.audit.Audit.absorb.Goals as goal

pub returns : goal.returns
returns c =
    let own : c.setup.inside.shape ≡ c.args.setup.now.shape = ap (λ s. s.shape) c.setup.view_is in
    let before = reverse c.args.before.now in
    let size : length before ≡ length c.args.before.now = length-reverse c.args.before.now in
    on_ok_weaker c.absorb-19.result (λ places t. record {
      vips = c.absorb.ensures.vips ∙ t.vips;
      update = c.absorb.ensures.kept before size t.update;
      versions = c.absorb-2.ensures before t.versions;
      refused = c.absorb-3.ensures before t.refused;
      sweep = c.absorb-4.ensures before t.sweep;
      filters = subst (λ s. TellsFilters s.filter_bits c.absorb-5.new.self (c.args.line.now ∷ before)) own
          (c.in_ok-absorb.ensures before t.givings (subst (λ s. TellsFilters s.filter_bits c.args.self.now.filters before) (sym own) t.filters));
      givings = c.in_ok-absorb-2.ensures before t.givings;
      switches = c.in_ok-absorb-3.ensures before t.switches;
      holders = c.in_ok-absorb-4.ensures before t.connections t.holders;
      connections = c.in_ok-absorb-5.ensures before t.connections;
      downs = c.in_ok-absorb-6.ensures before t.downs;
      holds = c.in_ok-absorb-7.ensures before t.holds;
      given = c.in_ok-absorb-8.ensures before t.given;
      rows = c.in_ok-absorb-9.ensures before t.rows;
      rings = c.in_ok-absorb-10.ensures before t.rings;
      sweeps = c.in_ok-absorb-11.ensures before t.sweeps;
      placed = c.in_ok-absorb-12.ensures before t.placed;
      retired = c.in_ok-absorb-13.ensures before t.retired;
      used = c.in_ok-absorb-14.ensures t.used;
      places = places before t.places;
    }) c.absorb-19.ensures
