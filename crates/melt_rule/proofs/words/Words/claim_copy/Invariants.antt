use Rattle.melt_rule.proofs.words.Words.claim_copy.Given as goal

-- the type stands for the Body that was read
abbrev pub ghosts-claim_body : goal.ghosts-claim_body
ghosts-claim_body a = record { shape = a.shape; rest = a.rest.now }
