-- `writing::put_decimal` meets its contract. Assumes nothing.
use Rattle.text.proofs.writing.+put_decimal.Given as goal

abbrev pub decreases-put_decimal : goal.decreases-put_decimal
decreases-put_decimal l = l.v
