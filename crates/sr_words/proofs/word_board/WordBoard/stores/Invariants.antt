use Rattle.sr_words.proofs.word_board.WordBoard.stores.Given as goal

abbrev pub ghosts-store_told : goal.ghosts-store_told
ghosts-store_told a = record { config = a.words.now.key; heard = a.heard.now }
