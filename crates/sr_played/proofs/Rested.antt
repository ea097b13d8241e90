-- A run whose tables rest is one of which nobody says who is next.
use Rattle.std.proofs.Common.{List, [], ◌∷◌, refl}
use Rattle.sr_machine.specs.Core.{Core, lines_of}
use Rattle.sr_picks.specs.Run.{RoundsByActs, RunsByActs}
use Rattle.sr_machine.specs.Config.{Config}
use Rattle.sr_machine.specs.declared.settled.Settled.{Settled}
use Rattle.sr_played.proofs.Playing.{played}
use Rattle.sr_played.specs.Captured.{played_packets}
use Rattle.sr_played.specs.Resting.{RestingRounds, RestingRunsHold, RunsResting}
use Rattle.sr_rounds.specs.declared.round.Round.{Round}
use Rattle.sr_rounds.specs.declared.timed.Timed.{Timed}
use Rattle.sr_scripted.proofs.Keeps.{replays}

rounds_acted : (packets : List Timed) (rounds : List Round) (s t : Core) → RestingRounds packets rounds s t → RoundsByActs packets rounds s t
rounds_acted packets [] s t h = h
rounds_acted packets (r ∷ rest) s t (q, (actors, order, made, over), more) = (q, (actors, made, over), rounds_acted packets rest q.state t more)

run_acted : (k : Config) (packets : List Timed) (r : Settled) (t : Core) → RunsResting k packets r t → RunsByActs k packets r t
run_acted k packets r t h = record { state = h.state; rounds = rounds_acted packets _ _ h.state h.rounds; settles = h.settles }

pub rested : RestingRunsHold
rested s bytes records t awaited fits taken ranges h =
    let packets = played_packets s records in
    let run = replays s packets (lines_of t) awaited fits ranges (record { state = t; runs = run_acted _ packets _ t h; all = refl }) in
    played s bytes records (lines_of t) awaited fits taken run.lawful run.settled
