use Rattle.std.proofs.Common.{◌∙◌, ap, map, replicate, subst, sym}
use Rattle.sr_machine.specs.declared.job.Job.TheVariants.{Free}
use Rattle.sr_standing.specs.Standing.{Standing}
use Rattle.std.specs.List.{range_with_len}
use Rattle.sr_base.specs.Layout.{LayoutView}
use Rattle.sr_base.specs.declared.shape.Shape.{Shape}
use Rattle.sr_machine.specs.Opening.{opening_line, outages_in}
use Rattle.sr_machine.specs.Reads.{steady}
use Rattle.sr_shadow.specs.declared.book.Book.{Book}
use Rattle.sr_update.specs.Numbers.{opening_rows}
use Rattle.sr_update.specs.Updates.{UpdatesView, gives_after}
use Rattle.sr_acts.proofs.Opening.{fresh_rings, named_rows, opened, opening_is}
use Rattle.sr_acts.proofs.controller_machine.ControllerMachine.new.Goals as goal

pub invariant_of-result : goal.invariant_of-result
invariant_of-result c =
    let p = opened c.args.config c.fits.ensures c.in_ok-updates.updates.gives c.in_ok-outages.outages c.in_ok-rings.rings.items c.in_ok-book.book.book.taken
    (ap (λ (u : UpdatesView). u.gives) c.in_ok-updates.ensures ∙ ap (gives_after _) c.changes.ensures)
    (c.in_ok-outages.ensures ∙ ap outages_in c.changes-2.ensures)
    (c.in_ok-rings.ensures ∙ ap (λ (s : Shape). fresh_rings s.pipes) c.shape.ensures ∙ ap (λ (l : LayoutView). fresh_rings l.shape.pipes) c.layout.ensures)
    (ap (λ (b : Book). b.taken) c.in_ok-book.ensures.book) in (
      c.in_ok-book.ensures.layout ∙ c.layout.ensures,
      c.in_ok-versions.ensures.layout ∙ c.layout.ensures,
      p.0,
      p.1,
      p.2,
      p.3,
      p.4,
      p.5,
      subst (λ (b : Book). Standing b.entries Free) (sym c.in_ok-book.ensures.book) (record { also = tt; put = tt; live = tt; hit = tt }),
    )

pub returns-clause-view : goal.returns-clause-view
returns-clause-view c =
    opening_is c.args.config _ _ _ _ _ _ _ _ _ _ _
    (ap (λ (u : UpdatesView). u.gives) c.in_ok-updates.ensures ∙ ap (gives_after _) c.changes.ensures)
    (c.in_ok-outages.ensures ∙ ap outages_in c.changes-2.ensures)
    (ap (λ (u : UpdatesView). u.clock) c.in_ok-updates.ensures)
    c.in_ok-book.ensures.book
    (c.in_ok-rings.ensures ∙ ap (λ (s : Shape). fresh_rings s.pipes) c.shape.ensures ∙ ap (λ (l : LayoutView). fresh_rings l.shape.pipes) c.layout.ensures)
    c.new-5.ensures
    (c.in_ok-versions.ensures.numbers ∙ ap opening_rows c.layout.ensures)
    (c.in_ok-versions.ensures.named ∙ ap named_rows c.layout.ensures)
    (c.in_ok-versions.ensures.vips ∙ ap (λ (l : LayoutView). replicate l.vips (steady 0)) c.layout.ensures)
    c.new-6.ensures.items
    (c.in_ok-lines.ensures ∙ ap (λ n. map opening_line (range_with_len 0 n)) c.vips.ensures
    ∙ ap (λ (l : LayoutView). map opening_line (range_with_len 0 l.vips)) c.layout.ensures)
