-- The text of what is still to be printed, one line at a time.
use Rattle.std.proofs.Common.{◌≡◌, ◌<◌, ◌≤◌, ◌+◌, ℕ, List, [], ◌∷◌, ◌++◌, length, get_or, drop, ap, ◌∙◌, sym, refl, arith}
use Rattle.std.specs.List.{flat_map}
use Rattle.std.proofs.lemmas.List.{at_drop_more}
use Rattle.sr_base.specs.declared.packet.Packet.{Packet}
use Rattle.sr_frame.specs.declared.skip.Skip.{Skip}
use Rattle.sr_frame.specs.declared.skip.Skip.TheVariants.{NotIpv4}
use Rattle.sr_law.specs.declared.line.Line.{Line}
use Rattle.sr_text.specs.LineText.{line_text, skip_text}
use Rattle.sr_run.specs.One.{packet_line, packet_lines}
use Rattle.sr_run.specs.Status.{path_words}

pub skips_step : (skips : List (ℕ × Skip)) (i : ℕ) → i < length skips
    → flat_map skip_text (drop i skips) ≡ skip_text (get_or skips i (0, NotIpv4)) ++ flat_map skip_text (drop (i + 1) skips)
skips_step skips i below = at_drop_more (flat_map skip_text) skips i (0, NotIpv4) below

pub packets_step : (servers tick : ℕ) (packets : List Packet) (i : ℕ) (packet : Packet) → i < length packets → packet ≡ get_or packets i packet
    → flat_map line_text (packet_lines servers tick (drop i packets))
    ≡ line_text (packet_line servers tick packet) ++ flat_map line_text (packet_lines servers (tick + 2) (drop (i + 1) packets))
packets_step servers tick packets i packet below here =
    at_drop_more (λ left. flat_map line_text (packet_lines servers tick left)) packets i packet below
    ∙ ap (λ p. line_text (packet_line servers tick p) ++ flat_map line_text (packet_lines servers (tick + 2) (drop (i + 1) packets))) (sym here)

pub lines_step : (lines : List Line) (i : ℕ) (line : Line) → i < length lines → line ≡ get_or lines i line
    → flat_map line_text (drop i lines) ≡ line_text line ++ flat_map line_text (drop (i + 1) lines)
lines_step lines i line below here =
    at_drop_more (flat_map line_text) lines i line below ∙ ap (λ l. line_text l ++ flat_map line_text (drop (i + 1) lines)) (sym here)

pub path_some : (path : List ℕ) → 1 ≤ length path → path_words path ≡ (32 ∷ path) ++ 10 ∷ []
path_some [] some = absurd (omega arith)
path_some (byte ∷ path) some = refl
