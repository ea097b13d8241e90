-- What the command `demo` says once it has printed.
use Rattle.std.proofs.Common.{◌≡◌, ℕ, List, Option, Some, None, reverse, refl, ap, ◌∙◌, subst, arith}
use Rattle.sr_audit.specs.Counts.{openings_in}
use Rattle.sr_base.specs.Key.{KeyView}
use Rattle.sr_demo.specs.Demo.{Demonstrates, IsDemonstrated}
use Rattle.sr_demo.specs.declared.demo.Demonstration.{Demonstration}
use Rattle.sr_io.specs.Sink.{Adds, SinkKnown, Writes}
use Rattle.sr_io.specs.declared.sink.Put.TheVariants as put
use Rattle.sr_law.specs.declared.line.Line.{Line}
use Rattle.sr_run.specs.Demo.{RunsDemo, demo_packets, summary_of, summary_text}
use Rattle.sr_run.specs.Played.{status_after}

-- the text is that of the lines
pub counted : (number : ℕ) (d : Demonstration) (h : Demonstrates number demo_packets d) → summary_text d.packets d.opened d.switched ≡ summary_of h.lines
counted number d h =
    ap (λ n. summary_text n d.opened d.switched) h.records_counted
    ∙ (ap (λ n. summary_text demo_packets n d.switched) h.openings_counted
    ∙ ap (λ n. summary_text demo_packets (openings_in (reverse h.lines)) n) h.switches_counted)

pub demo_says : (number : ℕ) (lines : List Line) (before after : SinkKnown) (awaited : Option KeyView) → IsDemonstrated number demo_packets awaited lines → Writes put.All before after (summary_of lines)
    → RunsDemo number (status_after None awaited) before after
demo_says number lines before after None run written = (
  lines,
  run,
  subst (λ n. Adds before.taken after.taken (summary_text demo_packets (openings_in (reverse lines)) n)) (run.switches refl (omega arith)) written.taken,
)
demo_says number lines before after (Some key) run written = (lines, run, written.taken)
