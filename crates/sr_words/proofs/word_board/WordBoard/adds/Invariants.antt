use Rattle.sr_words.proofs.word_board.WordBoard.adds.Given as goal

abbrev pub ghosts-add_told : goal.ghosts-add_told
ghosts-add_told a = record { config = a.words.now.key; heard = a.heard.now }
