use Rattle.sr_words.proofs.switch.Switch.close.Given as goal

abbrev pub ghosts-look_told : goal.ghosts-look_told
ghosts-look_told a = record { config = a.words.now.key; heard = a.heard.now }
