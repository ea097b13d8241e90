use Rattle.std.proofs.Common.{length, ap, ◌∙◌}
use Rattle.sr_audit.proofs.audit.Audit.new.Goals as goal

pub returns : goal.returns
returns c = record {
  vips = c.new.ensures.vips ∙ c.vips.ensures ∙ ap (λ s. length s.pools) c.setup.view_is;
  update = c.new.ensures.tells;
  givings = c.new-2.ensures;
  versions = c.in_ok-new.ensures;
  switches = c.new-4.ensures;
  connections = c.new-5.ensures;
  holders = c.new-6.ensures;
  downs = c.new-7.ensures;
  holds = c.new-8.ensures;
  filters = c.new-9.ensures c.args.setup.now.shape.filter_bits;
  places = c.new-10.ensures;
  rings = c.new-11.ensures;
  given = c.new-12.ensures;
  refused = c.new-13.ensures;
  rows = c.new-14.ensures;
  sweep = c.new-15.ensures;
  sweeps = c.new-16.ensures;
  placed = c.new-17.ensures;
  retired = c.new-18.ensures;
  used = c.new-19.ensures;
}
