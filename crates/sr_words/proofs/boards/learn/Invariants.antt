use Rattle.sr_words.proofs.boards.learn.Given as goal

abbrev pub ghosts-learn_told : goal.ghosts-learn_told
ghosts-learn_told a = record { config = a.words.now.key; heard = a.heard.now }
