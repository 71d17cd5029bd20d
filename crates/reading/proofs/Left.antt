-- The turns of `lay`: what is still to be laid out of a line. Assumes nothing.
use mathlib.Core.Path.{◌≡◌, refl, sym, ap, ◌∙◌}
use mathlib.Core.Bool.{Bool, true, false}
use mathlib.Core.List.{List, [], ◌∷◌, ◌++◌}
use Prim.Native.Nat.{ℕ, min, ◌+◌, ◌*◌, ◌≤◌, ◌<◌}
use native.Mathlib.Nat.{zero-add}
use native.Mathlib.Omega.{arith}
use lib.ListN.{length, take, drop, drop_of_length-le, length-append, length-drop}
use lib.Seq.{sets, length-sets, drop-drop}
use lib.Dec.{ltb}
use borrow.Author.Tests.{ltb-true, ltb-false}
use Rattle.rules.specs.Unit.{is_blank}
use Rattle.rules.specs.Reading.{later, between, argument0, behind0, arguments, joined, spans_from}
use Rattle.laws.specs.Scan.{leading}
use Rattle.laws.specs.Store.{sets_append, sets_out, sets_rest}
use Rattle.laws.specs.Run.{starts_with, stops_at}
use Rattle.reading.specs.Laid.{Laid}
use Rattle.arguments.specs.Next.{first_argument, later_argument, OneRead}
use Rattle.arguments.specs.Split as N

-- the later arguments that are still to be read behind i units of a line
abbrev pub left : List ℕ → ℕ → List (List ℕ)
left line i = later between 0 [] (drop i line)

-- stores into the rest from n on, or into an empty rest where there is no n, are stores from n on
sets_in : (d v : List ℕ) (n f : ℕ) → f ≡ min n (length d) → take f d ++ sets (drop f d) 0 v ≡ sets d n v
sets_in d v n f e = go (ltb n (length d)) refl
  where
    go : (b : Bool) → ltb n (length d) ≡ b → take f d ++ sets (drop f d) 0 v ≡ sets d n v
    go true t = let h : n < length d = ltb-true n (length d) t in let g : f ≡ n = omega arith in rw g (sets_rest d v n (omega arith))
    go false t =
        let h : length d ≤ n = ltb-false n (length d) t in
        let g : f ≡ length d = omega arith in
        rw g (sets_rest d v (length d) (omega arith) ∙ sets_out d (length d) v (omega arith) ∙ sym (sets_out d n v h))

-- two lists stored one after the other, the first of which has m elements
sets_both : (d u v : List ℕ) (n m : ℕ) → m ≡ length u → sets (sets d n u) (n + m) v ≡ sets d n (u ++ v)
sets_both d u v n m e = rw (e, sets_append)

-- behind the blanks from i on stands no blank
clear_at : (line : List ℕ) (i j : ℕ) → j ≡ i + leading is_blank (drop i line) → starts_with is_blank (drop j line) ≡ false
clear_at line i j e = rw e (stops_at is_blank line i refl)

-- no argument is lost with them
skips_to : (line : List ℕ) (i j : ℕ) → j ≡ i + leading is_blank (drop i line) → left line i ≡ left line j
skips_to line i j e = N.skips_blanks (drop i line) ∙ rw (drop-drop, ← e)

-- i units of the line are used, n units and count arguments are written; what is left goes behind them
pub record Laying (line text₀ spans₀ : List ℕ) (n₀ count₀ i₀ : ℕ) (text spans : List ℕ) (n count i : ℕ) : Type 0 where
  pub counts : count + length (left line i) ≡ count₀ + length (left line i₀)
  pub measures : n + length (joined (left line i)) ≡ n₀ + length (joined (left line i₀))
  pub stores : sets text n (joined (left line i)) ≡ sets text₀ n₀ (joined (left line i₀))
  pub tabulates : sets spans (2 * count) (spans_from n (left line i)) ≡ sets spans₀ (2 * count₀) (spans_from n₀ (left line i₀))
  pub within : i ≤ length line
  pub clear : starts_with is_blank (drop i line) ≡ false
  pub few : n ≤ i
  pub fewer : count ≤ i + 1

-- behind argument 0 and the blanks after it
pub starts : (line text spans : List ℕ) (n i b : ℕ) → i ≡ b + leading is_blank (drop b line) → i ≤ length line → n ≤ b → Laying line text spans n 1 i text spans n 1 i
starts line text spans n i b e h l = record {
  counts = refl;
  measures = refl;
  stores = refl;
  tabulates = refl;
  within = h;
  clear = clear_at line b i e;
  few = omega arith;
  fewer = omega arith;
}

module _ {line text₀ spans₀ : List ℕ} {n₀ count₀ i₀ : ℕ} {text spans : List ℕ} {n count i : ℕ} (r : Laying line text₀ spans₀ n₀ count₀ i₀ text spans n count i) where
  -- the table keeps its length
  pub spans_length : length spans ≡ length spans₀
  spans_length = sym (length-sets spans (2 * count) (spans_from n (left line i))) ∙ ap length r.tabulates ∙ length-sets spans₀ (2 * count₀) (spans_from n₀ (left line i₀))

  -- one argument more, read from the rest of the line into the rest of the text
  pub turn : {part part' text' spans' : List ℕ} {used units : ℕ} (from j : ℕ) → i < length line → OneRead (later_argument false (drop i line)) (drop i line) part part' used units
      → part ≡ drop from text → text' ≡ take from text ++ part' → from ≡ min n (length text) → spans' ≡ sets spans (2 * count) (n ∷ units ∷ [])
      → j ≡ i + used + leading is_blank (drop (i + used) line) → j ≤ length line
      → Laying line text₀ spans₀ n₀ count₀ i₀ text' spans' (n + units) (count + 1) j
  turn {text' = text'} {used = used} {units = units} from j z o d t f s e h =
      let a = (later_argument false (drop i line)).argument in
      let more = left line j in
      let behind : drop (i + used) line ≡ (later_argument false (drop i line)).behind = rw drop-drop at o.behind in
      let some : 0 < length (drop i line) = rw length-drop (omega arith) in
      let l : left line i ≡ a ∷ more = N.begins (drop i line) some r.clear ∙ ap (λ (x : List (List ℕ)). a ∷ x) (ap (later between 0 []) (sym behind) ∙ skips_to line (i + used) j e) in
      let w : text' ≡ sets text n a = t ∙ rw (o.stores, d) (sets_in text a n from f) in
      let two : 2 * (count + 1) ≡ 2 * count + 2 = omega arith in
      record {
        counts = omega (arith, rw l at r.counts);
        measures = omega (arith, rw (l, length-append) at r.measures, o.counts);
        stores = rw w (sets_both text a (joined more) n units o.counts) ∙ rw l at r.stores;
        tabulates = rw (s, two, o.counts) (sets_both spans (n ∷ length a ∷ []) (spans_from (n + length a) more) (2 * count) 2 refl) ∙ rw l at r.tabulates;
        within = h;
        clear = clear_at line (i + used) j e;
        few = omega (arith, r.few, o.few);
        fewer = omega (arith, r.fewer, o.some some);
      }

-- the end of the line: with argument 0 before them, all are laid out
pub finishes : {line text₀ text₁ spans₀ spans₁ text spans : List ℕ} {n₀ i₀ n count i : ℕ} (b : ℕ) → OneRead (first_argument false line) line text₀ text₁ b n₀ → spans₁ ≡ sets spans₀ (2 * 0) (0 ∷ n₀ ∷ [])
    → i₀ ≡ b + leading is_blank (drop b line) → Laying line text₁ spans₁ n₀ 1 i₀ text spans n count i → length line ≤ i → Laid (arguments line) text₀ text spans₀ spans count n
unfolding arguments
finishes {line} {text₀} {text₁} {spans₀} {spans₁} {text} {spans} {n₀} {i₀} {n} {count} {i} b m s e r h =
    let none : left line i ≡ [] = rw (drop_of_length-le line h) N.nothing_left in
    let a = argument0 false line in
    let all : later between 0 [] (behind0 false line) ≡ left line i₀ = ap (later between 0 []) (sym m.behind) ∙ skips_to line b i₀ e in
    rw all
    (record {
      counts = omega (arith, rw none at r.counts);
      measures = simp length-append (omega (arith, rw none at r.measures, m.counts));
      stores = rw none at r.stores ∙ rw m.stores (rw zero-add at (sets_both text₀ a (joined (left line i₀)) 0 n₀ m.counts));
      tabulates = rw none at r.tabulates ∙ rw (s, m.counts, zero-add (length a));
    })
