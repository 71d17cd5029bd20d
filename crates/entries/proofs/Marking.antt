-- One entry by its marks: the first NUL or `=` behind its first unit, and the NUL behind that. Assumes nothing.
use Prim.Native.Nat.{ℕ, suc, ◌+◌, ◌≤◌, ◌<◌}
use native.Mathlib.Omega.{arith}
use borrow.Author.Tests.{eqb-true, ne_eqb}
use mathlib.Core.Path.{◌≡◌, refl, sym, ap, ◌∙◌}
use mathlib.Core.Bool.{true, false}
use mathlib.Core.List.{List, [], ◌∷◌, ◌++◌, append_assoc}
use lib.ListN.{length, get_or, take, drop, length-drop}
use lib.Seq.{drop-drop, length-take-le}
use Rattle.rules.specs.Choice.{flip, any}
use Rattle.rules.specs.Unit.{is_nul, is_equals, nul, equals}
use Rattle.rules.specs.BlockReading.{starts_with_nul}
use Rattle.laws.specs.Choice.{joint}
use Rattle.laws.specs.Nul.{Clean}
use Rattle.laws.specs.Scan.{before, is_either, leading_in}
use Rattle.laws.specs.Found.{before_none, before_met, before_all, parted_at, none_either}
use Rattle.laws.specs.BadEntry.{Cause, runs, unsplit}
use Rattle.entries.specs.Measured.{Stands}

-- the rest starts with a unit that is no NUL, and behind it so many units stand before the next mark
pub record Begun (rest : List ℕ) (near : ℕ) : Type 0 where
  pub some : 0 < length rest
  pub first : starts_with_nul rest ≡ false
  pub scanned : near ≡ before (is_either 0 61) (drop 1 rest)

-- the mark, or the end, is in the rest
pub mark_inside : (rest : List ℕ) (near : ℕ) → Begun rest near → 1 + near ≤ length rest
mark_inside rest near b = omega (arith, b.some, b.scanned, length-drop 1 rest, leading_in (λ x. flip (is_either 0 61 x)) (drop 1 rest))

-- no mark is left: it runs into the end
pub mark_cut : (rest : List ℕ) (near : ℕ) → Begun rest near → 1 + near ≡ length rest → Cause rest
mark_cut [] near b e = absurd (omega (arith, b.some))
mark_cut (x ∷ ys) near b e =
    let none = none_either is_nul is_equals ys (before_all (is_either 0 61) ys (omega (arith, b.scanned))) in
    runs (rw b.first none.0)

-- what stands before the mark has no NUL
front_clean : (x : ℕ) (ys : List ℕ) (near : ℕ) → Begun (x ∷ ys) near → Clean (x ∷ take near ys)
front_clean x ys near b = rw (b.first, b.scanned) (none_either is_nul is_equals (take (before (is_either 0 61) ys) ys) (before_none (is_either 0 61) ys)).0

-- and no `=` behind its first unit
front_once : (x : ℕ) (ys : List ℕ) (near : ℕ) → Begun (x ∷ ys) near → any is_equals (take near ys) ≡ false
front_once x ys near b = rw b.scanned (none_either is_nul is_equals (take (before (is_either 0 61) ys) ys) (before_none (is_either 0 61) ys)).1

-- the mark is a NUL: the units before it do not split
pub mark_nul : (rest : List ℕ) (near : ℕ) → Begun rest near → ¬ (1 + near ≡ length rest) → get_or rest (1 + near) 0 ≡ 0 → Cause rest
mark_nul [] near b more z = absurd (omega (arith, b.some))
mark_nul (x ∷ ys) near b more z =
    let l : near < length ys = omega (arith, mark_inside (x ∷ ys) near b) in
    let n : 1 + near ≡ suc near = omega arith in
    let y : get_or ys near 0 ≡ 0 = rw n at z in
    let here : ys ≡ take near ys ++ nul ∷ drop (near + 1) ys = rw y at (parted_at ys near l) in
    let same = ap (λ (l : List ℕ). x ∷ l) here in
    unsplit (x ∷ take near ys) (drop (near + 1) ys) same (front_clean x ys near b) refl (front_once x ys near b)

-- the mark behind the first unit
behind_first : (x : ℕ) (ys : List ℕ) (near : ℕ) → ¬ (get_or (x ∷ ys) (1 + near) 0 ≡ 0) → ¬ (get_or ys near 0 ≡ 0)
behind_first x ys near split z = let n : 1 + near ≡ suc near = omega arith in split (rw n z)

-- a mark that is no NUL is a `=`
is_equals_lem : (y : ℕ) → is_either 0 61 y ≡ true → ¬ (y ≡ 0) → y ≡ equals
is_equals_lem y h n = eqb-true y equals (rw (ne_eqb y 0 n) at h)

module _ (x : ℕ) (ys : List ℕ) (near : ℕ) (b : Begun (x ∷ ys) near) (more : ¬ (1 + near ≡ length (x ∷ ys))) (split : ¬ (get_or ys near 0 ≡ 0)) where
  in_ys : near < length ys
  in_ys = omega (arith, mark_inside (x ∷ ys) near b)

  -- the units behind the first: the key's, `=`, and those behind it
  halves : ys ≡ take near ys ++ equals ∷ drop (near + 1) ys
  halves =
      let l : before (is_either 0 61) ys < length ys = omega (arith, in_ys, b.scanned) in
      let m : is_either 0 61 (get_or ys near 0) ≡ true = rw b.scanned (before_met (is_either 0 61) ys l) in
      parted_at ys near in_ys ∙ ap (λ (y : ℕ). take near ys ++ y ∷ drop (near + 1) ys) (is_equals_lem (get_or ys near 0) m split)

  module _ (far : ℕ) (found : far ≡ before is_nul (drop (near + 1) ys)) where
    -- no NUL is left: it runs into the end
    runs_out : near + 1 + far ≡ length ys → Clean (x ∷ ys)
    runs_out e =
        let none : Clean (drop (near + 1) ys) = before_all is_nul (drop (near + 1) ys) (omega (arith, found, length-drop (near + 1) ys)) in
        ap (λ (l : List ℕ). any is_nul (x ∷ l)) halves ∙ joint is_nul (x ∷ take near ys) (equals ∷ drop (near + 1) ys) (front_clean x ys near b) none

    -- a NUL ends the value
    ends : near + 1 + far < length ys → Stands (x ∷ ys) (1 + near) far
    ends l =
        let zs = drop (near + 1) ys in
        let m : far < length zs = omega (arith, length-drop (near + 1) ys) in
        let w : before is_nul zs < length zs = omega (arith, found) in
        let n : get_or zs far 0 ≡ nul = eqb-true (get_or zs far 0) 0 (rw found (before_met is_nul zs w)) in
        let behind : zs ≡ take far zs ++ nul ∷ drop (far + 1) zs = parted_at zs far m ∙ ap (λ (y : ℕ). take far zs ++ y ∷ drop (far + 1) zs) n in
        let i : near + 1 + (far + 1) ≡ near + far + 2 = omega arith in
        let tail : drop (far + 1) zs ≡ drop (near + far + 2) ys = rw (drop-drop (far + 1) (near + 1) ys, i) in
        let j : 1 + near + far + 2 ≡ suc (near + far + 2) = omega arith in
        let at : drop (1 + near + far + 2) (x ∷ ys) ≡ drop (near + far + 2) ys = ap (λ (n : ℕ). drop n (x ∷ ys)) j in
        record {
          entry = record { key = x ∷ take near ys; value = take far zs };
          plain = record {
            some = refl;
            once = front_once x ys near b;
            key_clean = front_clean x ys near b;
            value_clean = rw found (before_none is_nul zs);
          };
          same =
              ap (λ (l : List ℕ). x ∷ l) (halves ∙ ap (λ (l : List ℕ). take near ys ++ equals ∷ l) behind)
              ∙ sym (append_assoc (x ∷ take near ys) (equals ∷ take far zs) (nul ∷ drop (far + 1) zs))
              ∙ ap (λ (l : List ℕ). (x ∷ take near ys ++ equals ∷ take far zs) ++ nul ∷ l) (tail ∙ sym at);
          key_units = omega (arith, length-take-le near ys (omega (arith, in_ys)));
          value_units = length-take-le far zs (omega arith);
        }

-- the second scan starts behind the mark
behind : (x : ℕ) (ys : List ℕ) (near far : ℕ) → far ≡ before is_nul (drop (1 + near + 1) (x ∷ ys)) → far ≡ before is_nul (drop (near + 1) ys)
behind x ys near far found = let n : 1 + near + 1 ≡ suc (near + 1) = omega arith in rw n at found

-- the end is in the rest
pub end_inside : (rest : List ℕ) (near : ℕ) → Begun rest near → ¬ (1 + near ≡ length rest) → (far : ℕ) → far ≡ before is_nul (drop (1 + near + 1) rest)
    → 1 + near + 1 + far ≤ length rest
end_inside rest near b more far found =
    omega (arith, mark_inside rest near b, length-drop (1 + near + 1) rest, leading_in (λ x. flip (is_nul x)) (drop (1 + near + 1) rest))

-- the value runs into the end
pub value_cut : (rest : List ℕ) (near : ℕ) → Begun rest near → ¬ (1 + near ≡ length rest) → ¬ (get_or rest (1 + near) 0 ≡ 0) → (far : ℕ)
    → far ≡ before is_nul (drop (1 + near + 1) rest) → 1 + near + 1 + far ≡ length rest → Cause rest
value_cut [] near b more split far found e = absurd (omega (arith, b.some))
value_cut (x ∷ ys) near b more split far found e =
    runs (runs_out x ys near b more (behind_first x ys near split) far (behind x ys near far found) (omega arith))

-- a good entry
pub good_met : (rest : List ℕ) (near : ℕ) → Begun rest near → ¬ (1 + near ≡ length rest) → ¬ (get_or rest (1 + near) 0 ≡ 0) → (far : ℕ)
    → far ≡ before is_nul (drop (1 + near + 1) rest) → ¬ (1 + near + 1 + far ≡ length rest) → Stands rest (1 + near) far
good_met [] near b more split far found ne = absurd (omega (arith, b.some))
good_met (x ∷ ys) near b more split far found ne =
    ends x ys near b more (behind_first x ys near split) far (behind x ys near far found) (omega (arith, end_inside (x ∷ ys) near b more far found))
