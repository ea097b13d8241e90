use Rattle.sr_words.proofs.word_board.WordBoard.swaps.Given as goal

abbrev pub ghosts-swap_told : goal.ghosts-swap_told
ghosts-swap_told a = record { config = a.words.now.key; heard = a.heard.now }
