use Rattle.sr_words.proofs.word_board.WordBoard.ors.Given as goal

abbrev pub ghosts-or_told : goal.ghosts-or_told
ghosts-or_told a = record { config = a.words.now.key; heard = a.heard.now }
