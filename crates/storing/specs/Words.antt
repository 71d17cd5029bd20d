-- The words of an entry. Assumes nothing.
use Rattle.std.specs.Prelude.{ℕ, List, [], ◌∷◌}
use Rattle.rules.specs.Store.{flag_word}
use Rattle.storing.specs.declared.Entry.{Entry}

-- six, as they stand one after another in the index
abbrev pub words_of : Entry → List ℕ
words_of e = e.fingerprint ∷ flag_word e.force_quotes ∷ e.program ∷ e.start ∷ e.key ∷ e.line ∷ []
