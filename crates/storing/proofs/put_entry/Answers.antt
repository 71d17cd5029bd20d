-- `storing::put_entry` meets its contract. Assumes nothing.
use mathlib.Core.Path.{◌∙◌}
use Rattle.storing.proofs.put_entry.Goals as goal

pub returns : goal.returns
returns c =
    record { puts = c.put_words-2.ensures ∙ rw (c.put_words.ensures, c.flag_word.ensures) }
