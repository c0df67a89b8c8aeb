-- `writing::put_hexes` meets its contract. Assumes nothing.
use Rattle.text.proofs.writing.+put_hexes.Given as goal

abbrev pub decreases-put_hexes : goal.decreases-put_hexes
decreases-put_hexes l = l.n
