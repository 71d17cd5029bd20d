-- The span table of a list of texts, and the part that each span names. Assumes nothing.
use Rattle.std.specs.Prelude.{ℕ, zero, suc, ◌+◌, ◌*◌, ◌≤◌, ◌<◌, ◌≡◌, refl, List, [], ◌∷◌, ◌++◌, length, get_or, drop}
use Rattle.std.proofs.Common.{arith, append_assoc, length-append}
use borrow.Author.Tests.{lt-ltb, le-ltb}
use Rattle.std.proofs.Math.Seq.{take-append_seam, drop-append_seam}
use Rattle.rules.specs.Record.{part}
use Rattle.rules.specs.Reading.{joined, spans_from, spans_of, places_of, argument_part}
use Rattle.rules.specs.Outcome.{over}
use Rattle.laws.specs.Front.{over_front, over_in, over_behind}

-- two numbers a text
pub spans_length : (start : ℕ) (args : List (List ℕ)) → length (spans_from start args) ≡ 2 * length args
spans_length start [] = refl
spans_length start (a ∷ more) = omega (arith, spans_length (start + length a) more)

-- the span at an index lies in the text and names a part of it
pub record Names (text spans : List ℕ) (i : ℕ) (arg : List ℕ) : Type 0 where
  pub inside : get_or spans (2 * i) 0 + get_or spans (2 * i + 1) 0 ≤ length text
  pub named : part text (get_or spans (2 * i) 0) (get_or spans (2 * i + 1) 0) ≡ arg

names_behind : {text spans : List ℕ} {i start size : ℕ} {arg : List ℕ} → Names text spans i arg → Names text (start ∷ size ∷ spans) (suc i) arg
names_behind {i = i} n =
    let e : 2 * suc i ≡ suc (suc (2 * i)) = omega arith in
    let f : 2 * suc i + 1 ≡ suc (suc (2 * i + 1)) = omega arith in
    record { inside = rw (f, e) n.inside; named = rw (f, e) n.named }

-- of texts that lie behind a front, each is named by its span
pub spans_name : (front rest : List ℕ) (args : List (List ℕ)) (i : ℕ) → i < length args
    → Names (front ++ (joined args ++ rest)) (spans_from (length front) args) i (get_or args i [])
spans_name front rest [] i h = absurd (omega arith)
spans_name front rest (a ∷ more) zero h =
    record {
      inside = simp length-append (omega arith);
      named = rw (drop-append_seam front (a ++ joined more ++ rest), append_assoc a (joined more) rest) (take-append_seam a (joined more ++ rest));
    }
spans_name front rest (a ∷ more) (suc i) h =
    names_behind (simp append_assoc (simp (append_assoc, length-append) at (spans_name (front ++ a) rest more i (omega arith))))

-- ---- one argument

module _ (text spans : List ℕ) (i : ℕ) where
  -- where the table has the place and its span lies in the text, the part that it names
  pub part_named : {arg : List ℕ} → i < places_of (length spans) → Names text spans i arg → argument_part text spans i ≡ arg
  unfolding argument_part
  part_named h n = rw (lt-ltb i (places_of (length spans)) h, le-ltb (length text) _ n.inside) n.named

  -- where the table has no such place, nothing
  pub part_missing : places_of (length spans) ≤ i → argument_part text spans i ≡ []
  unfolding argument_part
  part_missing h = rw (le-ltb i (places_of (length spans)) h)

-- ---- after reading: the texts lie over the output, the spans over the table

module _ (text spans : List ℕ) (args : List (List ℕ)) (fits : length args ≤ places_of (length spans)) where
  wide : length (spans_of args) ≤ length spans
  wide = rw (spans_length 0 args) (omega arith)

  -- each argument is the part of its index
  pub part_given : (i : ℕ) → i < length args → argument_part (over text (joined args)) (over spans (spans_of args)) i ≡ get_or args i []
  part_given i h =
      let n = spans_name [] (drop (length (joined args)) text) args i h in
      let at = over_in spans (spans_of args) (2 * i) (rw (spans_length 0 args) (omega arith)) in
      let at' = over_in spans (spans_of args) (2 * i + 1) (rw (spans_length 0 args) (omega arith)) in
      part_named (over text (joined args)) (over spans (spans_of args)) i
      (rw (over_front spans (spans_of args) wide).size (omega arith))
      (record { inside = rw (at, at') n.inside; named = rw (at, at') n.named })

  -- behind them it is the part that the table's old span names
  pub part_stale : (text' : List ℕ) (i : ℕ) → length args ≤ i → argument_part text' (over spans (spans_of args)) i ≡ argument_part text' spans i
  unfolding argument_part
  part_stale text' i h =
      let at = over_behind spans (spans_of args) (2 * i) (rw (spans_length 0 args) (omega arith)) in
      let at' = over_behind spans (spans_of args) (2 * i + 1) (rw (spans_length 0 args) (omega arith)) in
      rw (at, at', (over_front spans (spans_of args) wide).size)
