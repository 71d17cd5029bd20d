-- A result over lent elements: it is the front, and the rest is kept. Assumes nothing.
use Rattle.std.specs.Prelude.{ℕ, ◌+◌, ◌-◌, ◌≤◌, ◌<◌, ◌≡◌, refl, List, length, get_or, take, drop}
use Rattle.std.proofs.Common.{arith, ◌∙◌, length-append, length-drop, get_or-append-add, get_or-drop}
use Rattle.std.proofs.Math.ListN.{get_or-append}
use Rattle.std.proofs.Math.Seq.{take-append_seam, drop-append_seam}
use Rattle.rules.specs.Outcome.{over}

-- n elements in front are the result, and everything behind them keeps its content
pub record Front (n : ℕ) (result before after : List ℕ) : Type 0 where
  pub units : length result ≡ n
  pub front : take n after ≡ result
  pub rest : drop n after ≡ drop n before
  pub size : length after ≡ length before

module _ (before result : List ℕ) where
  -- so it is where the result lies over lent elements that are enough
  pub over_front : length result ≤ length before → Front (length result) result before (over before result)
  over_front h =
      record {
        units = refl;
        front = take-append_seam result (drop (length result) before);
        rest = drop-append_seam result (drop (length result) before);
        size = simp (length-append, length-drop) (omega arith);
      }

  -- an element of the result
  pub over_in : (i : ℕ) → i < length result → get_or (over before result) i 0 ≡ get_or result i 0
  over_in i h = get_or-append result (drop (length result) before) 0 i h

  -- an element behind it
  pub over_behind : (i : ℕ) → length result ≤ i → get_or (over before result) i 0 ≡ get_or before i 0
  over_behind i h =
      let e : i ≡ length result + (i - length result) = omega arith in
      rw e (get_or-append-add result (drop (length result) before) (i - length result) 0 ∙ get_or-drop (length result) before (i - length result) 0)
