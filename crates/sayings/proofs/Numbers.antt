-- No refusal has the number 0. Assumes nothing.
use Rattle.std.proofs.Common.{◌≡◌, refl, false, eqb}
use Rattle.rules.specs.declared.Refusal.{Refusal}
use Rattle.rules.specs.declared.Refusal.TheVariants.{Record, Length, Places, Room, Nul, LineBreak, Script, Entry}
use Rattle.rules.specs.Answer.{refusal_number}

pub refusal_numbered : (r : Refusal) → eqb (refusal_number r) 0 ≡ false
refusal_numbered (Record place) = refl
refusal_numbered Length = refl
refusal_numbered Places = refl
refusal_numbered Room = refl
refusal_numbered (Nul place) = refl
refusal_numbered (LineBreak place) = refl
refusal_numbered Script = refl
refusal_numbered (Entry place) = refl
