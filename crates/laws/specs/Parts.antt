-- A part of a text, clipped by code to what there is. Assumes nothing.
use Rattle.std.specs.Prelude.{ℕ, ◌+◌, ◌-◌, ◌≤◌, min, ◌≡◌, List, length, take, drop}
use Rattle.std.proofs.Common.{lt_of_not-le, arith, length-drop, drop_of_length-le, take_all}
use Rattle.std.proofs.Math.Decide.{dec_le}
use Rattle.std.proofs.Math.Seq.{take-length, drop-length}
use Rattle.rules.specs.Record.{part}

-- no more are taken than there are
pub take_min : (n m : ℕ) (l : List ℕ) → m ≡ min n (length l) → take m l ≡ take n l
take_min n m l e = go (dec_le n (length l))
  where
    go : Dec (n ≤ length l) → take m l ≡ take n l
    go (yes h) = let f : m ≡ n = omega arith in rw f
    go (no h) =
        let g = lt_of_not-le h in
        let f : m ≡ length l = omega arith in
        rw (f, take-length l, take_all n l (omega arith))

-- no more are dropped than there are
pub drop_min : (n m : ℕ) (l : List ℕ) → m ≡ min n (length l) → drop m l ≡ drop n l
drop_min n m l e = go (dec_le n (length l))
  where
    go : Dec (n ≤ length l) → drop m l ≡ drop n l
    go (yes h) = let f : m ≡ n = omega arith in rw f
    go (no h) =
        let g = lt_of_not-le h in
        let f : m ≡ length l = omega arith in
        rw (f, drop-length l, drop_of_length-le l {i = n} (omega arith))

-- a part between two places that are clipped
pub clipped : (text : List ℕ) (start len from more : ℕ) → from ≡ min start (length text) → more ≡ min len (length text - from)
    → take (from + more - from) (drop from text) ≡ part text start len
clipped text start len from more e f =
    let g : from + more - from ≡ more = omega arith in
    let h : more ≡ min len (length (drop from text)) = rw length-drop f in
    rw (g, take_min len more (drop from text) h, drop_min start from text e)
