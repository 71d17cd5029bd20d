-- The rules' forms are what is emitted; parts of an argument are emitted one behind another, and one without marks as it is. Assumes nothing.
use Prim.Native.Nat.{ℕ, ◌+◌, ◌*◌}
use native.Mathlib.Omega.{arith}
use mathlib.Core.Path.{◌≡◌, refl, sym, ap, ◌∙◌}
use mathlib.Core.Bool.{Bool, true, false}
use mathlib.Core.List.{List, [], ◌∷◌, ◌++◌, append_assoc, append-nil}
use lib.ListN.{length, replicate-append-replicate, length-append, length-replicate}
use Rattle.rules.specs.Choice.{pick, any, is_empty}
use Rattle.rules.specs.Unit.{units, is_percent, is_quote, backslash}
use Rattle.rules.specs.Quoting.{slashes, escaped}
use Rattle.rules.specs.Batch.{batch_escaped, ends_in_backslash}
use Rattle.laws.specs.Choice.{apart}
use Rattle.laws.specs.Kind.{Kind, slash, marked, other, kind}
use Rattle.laws.specs.Scan.{trailing_from}
use Rattle.quoting.specs.Emitted.{is_mark, mark_for, units_for, count_on, stretch, slashes_behind, emitted}

-- backslashes in front of others
joined : (j k : ℕ) (ys : List ℕ) → slashes (j + k) ++ ys ≡ slashes j ++ (slashes k ++ ys)
joined j k ys = sym (ap (λ (l : List ℕ). l ++ ys) (replicate-append-replicate j k backslash)) ∙ append_assoc (slashes j) (slashes k) ys

-- the backslashes at the end
ended : (q : Bool) (k : ℕ) → slashes (pick q (2 * k) k) ≡ slashes k ++ slashes (pick q k 0)
ended true k = let e : 2 * k ≡ k + k = omega arith in rw (e, replicate-append-replicate)
ended false k = let e : k ≡ k + 0 = omega arith in ap slashes e ∙ sym (replicate-append-replicate k 0 backslash)

-- backslashes and one that is met
one_met : (k : ℕ) (ys : List ℕ) → slashes (k + 1) ++ ys ≡ slashes k ++ backslash ∷ ys
one_met k ys = joined k 1 ys

-- ---- the rules' definitions

-- one unit more in front
first : (batch q : Bool) (k x : ℕ) (xs : List ℕ) → emitted batch q k (x ∷ xs) ≡ units_for batch k x ++ emitted batch q (count_on k x) xs
unfolding emitted stretch trailing_from
first batch q k x xs = append_assoc (units_for batch k x) (stretch batch (count_on k x) xs) (slashes (pick q (slashes_behind (count_on k x) xs) 0))

-- one unit more in front of an ordinary argument
step : (q : Bool) {x : ℕ} (xs : List ℕ) → Kind x → ((k : ℕ) → escaped q k xs ≡ slashes k ++ emitted false q k xs)
    → (k : ℕ) → escaped q k (x ∷ xs) ≡ slashes k ++ (units_for false k x ++ emitted false q (count_on k x) xs)
unfolding escaped units_for mark_for
step q xs slash ih k = ih (k + 1) ∙ one_met k (emitted false q (k + 1) xs)
step q xs marked ih k = let e : 2 * k + 1 ≡ k + (k + 1) = omega arith in rw (ih 0, e, joined k (k + 1), one_met k, append_assoc)
step q xs (other p r) ih k = simp (p, r) (rw (ih 0))

-- one unit more in front of a batch argument
batch_step : (q : Bool) {x : ℕ} (xs : List ℕ) → Kind x → ((k : ℕ) → batch_escaped q k xs ≡ slashes k ++ emitted true q k xs)
    → (k : ℕ) → batch_escaped q k (x ∷ xs) ≡ slashes k ++ (units_for true k x ++ emitted true q (count_on k x) xs)
unfolding batch_escaped units_for mark_for
batch_step q xs slash ih k = ih (k + 1) ∙ one_met k (emitted true q (k + 1) xs)
batch_step q xs marked ih k = let e : 2 * k ≡ k + k = omega arith in rw (ih 0, e, joined k k, append_assoc)
batch_step q xs (other {x} p r) ih k = simp (p, r) (go (is_percent x))
  where
    go : (b : Bool) → pick b (slashes k ++ units "%%cd:~,%" ++ batch_escaped q 0 xs) (slashes k ++ x ∷ batch_escaped q 0 xs)
        ≡ slashes k ++ (pick b (units "%%cd:~,%") (x ∷ []) ++ emitted true q 0 xs)
    go true = rw (ih 0, append_assoc)
    go false = rw (ih 0)

-- the rest of an ordinary argument is what is emitted for it behind its backslashes
pub escaped_emitted : (q : Bool) (xs : List ℕ) (k : ℕ) → escaped q k xs ≡ slashes k ++ emitted false q k xs
unfolding escaped emitted stretch trailing_from
escaped_emitted q [] = λ k. ended q k
escaped_emitted q (x ∷ xs) = λ k. rw first (step q xs (kind x) (escaped_emitted q xs) k)

-- the same of a batch argument
pub batch_emitted : (q : Bool) (xs : List ℕ) (k : ℕ) → batch_escaped q k xs ≡ slashes k ++ emitted true q k xs
unfolding batch_escaped emitted stretch trailing_from
batch_emitted q [] = λ k. ended q k
batch_emitted q (x ∷ xs) = λ k. rw first (batch_step q xs (kind x) (batch_emitted q xs) k)

-- ---- parts of an argument

-- one part behind another
pub stretch_append : (batch : Bool) (k : ℕ) (xs ys : List ℕ) → stretch batch k (xs ++ ys) ≡ stretch batch k xs ++ stretch batch (slashes_behind k xs) ys
unfolding stretch trailing_from
stretch_append batch k [] ys = refl
stretch_append batch k (x ∷ xs) ys = rw (stretch_append batch (count_on k x) xs ys, append_assoc)

-- and their backslashes at the end
pub behind_append : (k : ℕ) (xs ys : List ℕ) → slashes_behind k (xs ++ ys) ≡ slashes_behind (slashes_behind k xs) ys
unfolding trailing_from
behind_append k [] ys = refl
behind_append k (x ∷ xs) ys = behind_append (count_on k x) xs ys

-- a part without marks is emitted as it is
pub stretch_itself : (batch : Bool) (k : ℕ) (xs : List ℕ) → any (is_mark batch) xs ≡ false → stretch batch k xs ≡ xs
unfolding stretch units_for
stretch_itself batch k [] h = refl
stretch_itself batch k (x ∷ xs) h =
    let (e, g) = apart true (is_mark batch x) (any (is_mark batch) xs) h in
    rw e (ap (λ (l : List ℕ). x ∷ l) (stretch_itself batch (count_on k x) xs g))

-- behind a part that ends in no backslash none counts
pub none_behind : (k : ℕ) (xs : List ℕ) → ends_in_backslash xs ≡ false → slashes_behind k xs ≡ pick (is_empty xs) k 0
unfolding trailing_from ends_in_backslash
none_behind k [] h = refl
none_behind k (x ∷ []) h = rw h
none_behind k (x ∷ y ∷ ys) h = none_behind (count_on k x) (y ∷ ys) h

-- ---- one unit

-- a mark is replaced
pub mark_stretch : (batch : Bool) (k x : ℕ) → is_mark batch x ≡ true → stretch batch k (x ∷ []) ≡ mark_for batch x k
unfolding stretch units_for
mark_stretch batch k x h = rw (h, append-nil)

-- and is no backslash
pub mark_behind : (batch : Bool) (k x : ℕ) → is_mark batch x ≡ true → 0 ≡ slashes_behind k (x ∷ [])
unfolding trailing_from
mark_behind batch k x h = go (kind x) batch h
  where
    go : {x : ℕ} → Kind x → (batch : Bool) → is_mark batch x ≡ true → 0 ≡ count_on k x
    go slash true h = cc
    go slash false h = cc
    go marked batch h = refl
    go (other p r) batch h = rw p

-- any other unit is kept
pub kept_stretch : (batch : Bool) (k x : ℕ) → is_mark batch x ≡ false → stretch batch k (x ∷ []) ≡ x ∷ []
unfolding stretch units_for
kept_stretch batch k x h = rw h

-- what stands for a mark has two units more than the backslashes, or eight
pub mark_length : (batch : Bool) (x k : ℕ) → length (mark_for batch x k) ≡ pick (is_quote x) (k + 2) 8
unfolding mark_for
mark_length batch x k = go (is_quote x)
  where
    go : (b : Bool) → length (pick b (slashes k ++ pick batch 34 92 ∷ 34 ∷ []) (units "%%cd:~,%")) ≡ pick b (k + 2) 8
    go true = simp (length-append, length-replicate)
    go false = refl
