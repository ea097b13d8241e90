-- What a demonstration's lines are, from its parts: the script, what was read of the capture, and its run.
use Rattle.std.proofs.Common.{◌≡◌, ℕ, ◌+◌, ◌≤◌, List, None, Option, length, sym, ap, ◌∙◌, subst, arith}
use Rattle.sr_base.specs.Key.{KeyView}
use Rattle.sr_base.specs.Limit.{limit_of}
use Rattle.sr_capture.specs.Clock.{new_clock}
use Rattle.sr_capture.specs.declared.captured.Captured.{Captured}
use Rattle.sr_demo.proofs.Counted.{all_counted}
use Rattle.sr_demo.proofs.Twelve.{twelve}
use Rattle.sr_demo.specs.Captured.{IsMade}
use Rattle.sr_demo.specs.Demo.{IsDemonstrated}
use Rattle.sr_demo.specs.Script.{demo_script}
use Rattle.sr_gen.specs.Capture.{capture_of as made_of, most_packets}
use Rattle.sr_law.specs.Lawful.{IsLawful}
use Rattle.sr_law.specs.Setup.{SetupView}
use Rattle.sr_law.specs.declared.line.Line.{Line}
use Rattle.sr_played.proofs.Playing.{played}
use Rattle.sr_played.specs.Captured.{setup_for}
use Rattle.sr_rounds.specs.declared.timed.Timed.{Timed}
use Rattle.sr_script.specs.Fitting.{IsFitting}
use Rattle.sr_script.specs.Spelled.{Spelled}
use Rattle.sr_scripted.specs.Played.{Replays}

-- what the lines are judged by has a layout's numbers
demo_limits : (packets : List Timed) → IsFitting demo_script → let s = setup_for demo_script packets in limit_of s.shape (length s.pools) s.servers ≡ None
demo_limits packets fits = fits.layout

pub limits : (s : Spelled) (packets : List Timed) (setup : SetupView) → IsFitting s → s ≡ demo_script → setup ≡ setup_for s packets
    → limit_of setup.shape (length setup.pools) setup.servers ≡ None
limits s packets setup fits script is =
    let whole : setup ≡ setup_for demo_script packets = is ∙ ap (λ k. setup_for k packets) script in
    subst (λ (k : SetupView). limit_of k.shape (length k.pools) k.servers ≡ None) (sym whole) (demo_limits packets (subst IsFitting script fits))

module _ (number packets : ℕ) (captured : Captured Timed) (lines : List Line) (awaited : Option KeyView) where
  shown_demo : packets ≤ most_packets → IsFitting demo_script → IsMade number packets demo_script.vips captured → Replays demo_script captured.packets.items lines awaited
      → IsDemonstrated number packets awaited lines
  shown_demo few fits made run =
      let replays = subst (λ ps. Replays demo_script ps lines awaited) made.packets_kept run in
      let told = played demo_script (made_of number packets) made.records lines awaited fits made.taken replays.lawful replays.settled in record {
        records = made.records;
        taken = made.taken;
        whole = made.whole;
        replays = replays;
        told = told;
        switches = twelve number packets made.records awaited lines few made.taken told;
      }

  pub shown : (s : Spelled) → packets ≤ most_packets → s ≡ demo_script → IsFitting s → IsMade number packets s.vips captured → Replays s captured.packets.items lines awaited
      → IsDemonstrated number packets awaited lines
  shown s few script =
      subst (λ s. IsFitting s → IsMade number packets s.vips captured → Replays s captured.packets.items lines awaited → IsDemonstrated number packets awaited lines)
      (sym script) (shown_demo few)

  lawful_demo : IsFitting demo_script → IsMade number packets demo_script.vips captured → Replays demo_script captured.packets.items lines awaited
      → IsLawful (setup_for demo_script captured.packets.items) lines
  lawful_demo fits made run =
      let run_kept = subst (λ ps. Replays demo_script ps lines awaited) made.packets_kept run in
      let told = played demo_script (made_of number packets) made.records lines awaited fits made.taken run_kept.lawful run_kept.settled in
      subst (λ ps. IsLawful (setup_for demo_script ps) lines) (sym made.packets_kept) told.lawful

  pub lawful : (s : Spelled) (setup : SetupView) → s ≡ demo_script → setup ≡ setup_for s captured.packets.items → IsFitting s
      → IsMade number packets s.vips captured → Replays s captured.packets.items lines awaited → IsLawful setup lines
  lawful s setup script is fits made run =
      let judged : IsFitting s → IsMade number packets s.vips captured → Replays s captured.packets.items lines awaited → IsLawful (setup_for s captured.packets.items) lines =
      subst (λ s. IsFitting s → IsMade number packets s.vips captured → Replays s captured.packets.items lines awaited → IsLawful (setup_for s captured.packets.items) lines)
      (sym script) lawful_demo in
      subst (λ k. IsLawful k lines) (sym is) (judged fits made run)

pub counted : (number packets : ℕ) (vips : List (ℕ × ℕ)) (captured : Captured Timed) → IsMade number packets vips captured
    → length captured.packets.items + length captured.skips.items ≡ packets
counted number packets vips captured made =
    let all = all_counted vips new_clock 1 made.records.frames in
    let kept = ap length made.packets_kept in
    let skips = ap length made.skips in
    let whole = made.whole in
    omega (arith, all, kept, skips, whole)

-- it has few virtual addresses
pub vips_few : (s : Spelled) → s ≡ demo_script → length s.vips ≡ 4
vips_few s script = ap (λ k. length k.vips) script
