-- `octets::digits::glyph` meets its contract. Assumes nothing.
use borrow.Author.Tests.{le-ltb, lt-ltb}
use Rattle.octets.proofs.digits.glyph.Goals as goal

pub returns-then-byte-lt10 : goal.returns-then-byte-lt10
returns-then-byte-lt10 c = rw (lt-ltb _ 10 c.if-byte-lt10.true)

pub returns-else-byte-lt10 : goal.returns-else-byte-lt10
returns-else-byte-lt10 c = rw (le-ltb _ 10 c.if-byte-lt10.false)
