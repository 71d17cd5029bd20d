-- The measure of `octets::digits::put_digits`. Assumes nothing.
use Rattle.octets.proofs.digits.+put_digits.Given as goal

abbrev pub decreases-put_digits : goal.decreases-put_digits
decreases-put_digits l = l.number
