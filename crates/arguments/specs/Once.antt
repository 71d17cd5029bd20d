-- What is promised of one argument allows one answer and one content of the output. Assumes nothing.
use Rattle.std.specs.Prelude.{ℕ, ◌-◌, ◌≡◌, List, length, drop}
use Rattle.std.proofs.Common.{arith, sym, ap, ◌∙◌, length-drop}
use Rattle.arguments.specs.Next.{Next, OneRead}

-- both counts and the output are those of the argument that is read: what is left behind it says how many units it took
pub one_read_once : {n : Next} {rest before after after' : List ℕ} {used used' units units' : ℕ} → OneRead n rest before after used units
    → OneRead n rest before after' used' units' → (used ≡ used') × (units ≡ units') × (after ≡ after')
one_read_once {rest = rest} {used = used} {used' = used'} r s =
    let left : length (drop used rest) ≡ length (drop used' rest) = ap length (r.behind ∙ sym s.behind) in
    let size : length (drop used rest) ≡ length rest - used = length-drop used rest in
    let size' : length (drop used' rest) ≡ length rest - used' = length-drop used' rest in
    (omega (arith, r.within, s.within), r.counts ∙ sym s.counts, r.stores ∙ sym s.stores)
