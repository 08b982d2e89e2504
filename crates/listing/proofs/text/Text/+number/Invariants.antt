use Rattle.listing.proofs.text.Text.+number.Given as goal

-- proposed from what the function passes where it calls itself
abbrev pub decreases-number : goal.decreases-number
decreases-number l = l.n
