use Rattle.sr_threads.proofs.Turns.{turn_timeless}
use Rattle.sr_threads.proofs.governing.turn.Goals as goal

pub returns-in-Did : goal.returns-in-Did
returns-in-Did c = record {
  config = c.turn.ensures.config;
  board = c.turn.ensures.board;
  belongs = c.turn.ensures.beside;
  clock = turn_timeless _ _ _ _ _ _ _ _ c.turn.ensures.turned;
}
