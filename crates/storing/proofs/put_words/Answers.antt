-- `storing::put_words` meets its contract. Assumes nothing.
use Rattle.std.proofs.Common.{◌≡◌, ◌+◌, ◌-◌, length, sym, arith, append_assoc, drop-drop}
use Rattle.std.proofs.lemmas.List.Edits.{sets-eq}
use Rattle.storing.proofs.put_words.Goals as goal

pub returns : goal.returns
returns c =
    let s = c.args in
    let n = length s.words.now in
    let e : s.at + n - s.at ≡ n = omega arith in
    rw (e, c.copy_from_slice.ensures.after, drop-drop, ← append_assoc) (sym (sets-eq s.words.now s.index.now s.at c.requires))
