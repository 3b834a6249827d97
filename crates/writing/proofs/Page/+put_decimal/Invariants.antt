-- `put_decimal` calls itself on the number without its last digit, which falls.
use Rattle.writing.proofs.Page.+put_decimal.Given as goal

abbrev pub decreases-put_decimal : goal.decreases-put_decimal
decreases-put_decimal l = l.n
