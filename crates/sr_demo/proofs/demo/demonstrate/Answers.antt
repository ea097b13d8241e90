use Rattle.std.proofs.Common.{count_by, length, reverse, sym, ap, ◌∙◌, subst, arith}
use Rattle.sr_audit.specs.Counts.{is_switch, openings_in}
use Rattle.sr_demo.proofs.Shown.{counted, lawful, limits, shown, vips_few}
use Rattle.sr_demo.specs.Captured.{IsMade}
use Rattle.sr_law.specs.Lawful.{IsLawful}
use Rattle.sr_played.specs.Captured.{setup_for}
use Rattle.sr_script.specs.Script.{spelled}
use Rattle.sr_scripted.specs.Played.{Replays}
use Rattle.sr_demo.proofs.demo.demonstrate.Goals as goal

pub read_made-requires-clause-vips : goal.read_made-requires-clause-vips
read_made-requires-clause-vips g c =
    let few = vips_few (spelled c.in_ok-script.script) c.in_ok-script.ensures.script in
    let all = ap length c.deref.ensures.value in omega (arith, few, all)

pub judge-requires-clause-limits : goal.judge-requires-clause-limits
judge-requires-clause-limits g c =
    let s = spelled c.in_ok-script.script in
    limits s c.in_ok-captured.captured.packets.items c.in_ok-setup.setup c.in_ok-script.ensures.fitting c.in_ok-script.ensures.script
    (c.in_ok-setup.ensures ∙ ap (setup_for s) c.deref-2.ensures.value)

pub judge-requires-clause-lawful : goal.judge-requires-clause-lawful
judge-requires-clause-lawful g c =
    let s = spelled c.in_ok-script.script in
    let captured = c.in_ok-captured.captured in
    let played = c.in_ok-played.played in
    subst (λ ls. IsLawful c.in_ok-setup.setup ls) (sym c.deref-4.ensures.value)
    (lawful c.args.number c.args.packets captured played.lines.items played.awaited s c.in_ok-setup.setup c.in_ok-script.ensures.script
    (c.in_ok-setup.ensures ∙ ap (setup_for s) c.deref-2.ensures.value)
    c.in_ok-script.ensures.fitting
    (subst (λ vips. IsMade c.args.number c.args.packets vips captured) c.deref.ensures.value c.in_ok-captured.ensures)
    (subst (λ ps. Replays s ps played.lines.items played.awaited) c.deref-3.ensures.value c.in_ok-played.ensures))

pub overflow_add-result : goal.overflow_add-result
overflow_add-result g c =
    let captured = c.in_ok-captured.captured in
    let all = counted c.args.number c.args.packets c.deref.result.now captured c.in_ok-captured.ensures in
    let kept = captured.packets.ok.0 in
    let skips = captured.skips.ok.0 in
    let packets = c.len.ensures in
    let skipped = c.len-2.ensures in
    omega (arith, all, kept, skips, packets, skipped, c.requires.1)

pub returns : goal.returns
returns g c =
    let s = spelled c.in_ok-script.script in
    let captured = c.in_ok-captured.captured in
    let played = c.in_ok-played.played in
    let all = counted c.args.number c.args.packets c.deref.result.now captured c.in_ok-captured.ensures in
    let kept = captured.packets.ok.0 in
    let skips = captured.skips.ok.0 in
    let packets = c.len.ensures in
    let skipped = c.len-2.ensures in
    record {
      lines = played.lines.items;
      run = shown c.args.number c.args.packets captured played.lines.items played.awaited s c.requires.1 c.in_ok-script.ensures.script c.in_ok-script.ensures.fitting
          (subst (λ vips. IsMade c.args.number c.args.packets vips captured) c.deref.ensures.value c.in_ok-captured.ensures)
          (subst (λ ps. Replays s ps played.lines.items played.awaited) c.deref-3.ensures.value c.in_ok-played.ensures);
      records_counted = omega (arith, all, kept, skips, packets, skipped);
      openings_counted = c.in_ok-opened.ensures ∙ ap (λ ls. openings_in (reverse ls)) c.deref-5.ensures.value;
      switches_counted = c.count_switches.ensures ∙ ap (count_by is_switch) c.deref-6.ensures.value;
    }
