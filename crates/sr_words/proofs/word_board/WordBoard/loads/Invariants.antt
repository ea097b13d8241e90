use Rattle.sr_words.proofs.word_board.WordBoard.loads.Given as goal

abbrev pub ghosts-load_told : goal.ghosts-load_told
ghosts-load_told a = record { config = a.words.now.key; heard = a.heard.now }
