use Rattle.std.proofs.Common.{◌∙◌, ap, map, string_bytes}
use Rattle.std.proofs.lemmas.Result.{IfOk-weaker}
use Rattle.clap.specs.Words.{is_simple, subcommand_of, takes}
use Rattle.sr_run.specs.Parting.{parts_of}
use Rattle.sr_run.proofs.Parts.{command_parts, program_simple}
use Rattle.sr_run.proofs.parting.part.Goals as goal

-- the library refuses the words of no command
pub unreachable-requires : goal.unreachable-requires
unreachable-requires c =
    let words = map string_bytes c.args.words.now in
    c.in_default.not-OutOfMemory (c.kind.ensures ∙ c.in-Err.ensures.passes (ap (λ a. takes a words) c.in_ok-program.ensures ∙ (command_parts words c.requires).taken))

-- and its parts are the words
pub returns-in-Ok : goal.returns-in-Ok
returns-in-Ok c =
    let words = map string_bytes c.args.words.now in
    let found = c.in-Ok.ensures.matches (ap is_simple c.in_ok-program.ensures ∙ program_simple) in
    IfOk-weaker c.parts_of.result _ _ (λ parts are. are ∙ ap parts_of (found.1 ∙ ap (λ a. subcommand_of a words) c.in_ok-program.ensures) ∙ (command_parts words c.requires).same) c.parts_of.ensures
