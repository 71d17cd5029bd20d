-- Stores in a row into lent elements, `sets`. A store past the end changes nothing, so the same stores measure where there is no room. Assumes nothing.
use Rattle.std.specs.Prelude.{ℕ, suc, ◌+◌, ◌-◌, ◌≤◌, ◌<◌, ◌≡◌, refl, List, [], ◌∷◌, ◌++◌, length, get_or, take, drop, set}
use Rattle.std.proofs.Common.{add-suc, suc-add, add-zero, zero-add, add-one, arith, sym, ap, ◌∙◌, append-nil, length-drop, drop_of_length-le, take-append-drop, set-set, length-take-le, drop-cons, take_all, take-add}
use Rattle.std.proofs.lemmas.List.Edits.{sets, sets-eq}
use Rattle.std.proofs.Math.Seq.{set_out}
use Rattle.std.proofs.lemmas.List.{set_comm}
use Rattle.rules.specs.Record.{part}
use Rattle.laws.specs.Any.{four_units, part_length, parts_join}

module _ {A : Type 0} where
  -- what u and then v store is what u ++ v stores
  pub sets_append : (d : List A) (i : ℕ) (u v : List A) → sets d i (u ++ v) ≡ sets (sets d i u) (i + length u) v
  sets_append d i [] v = rw add-zero
  sets_append d i (a ∷ u) v = sets_append (set d i a) (suc i) u v ∙ rw (suc-add, add-suc)

  -- past the end nothing is stored
  pub sets_out : (d : List A) (i : ℕ) (v : List A) → length d ≤ i → sets d i v ≡ d
  sets_out d i [] h = refl
  sets_out d i (a ∷ v) h = rw set_out (sets_out d (suc i) v (omega arith))

  -- where there is room, what is stored from the front on is the front
  pub sets_front : (d v : List A) → length v ≤ length d → sets d 0 v ≡ v ++ drop (length v) d
  sets_front d v h = let z : 0 + length v ≡ length v = zero-add _ in rw z at (sets-eq v d 0 (omega arith))

  -- a store in front of others can come last
  set_last : (d : List A) (i j : ℕ) (a : A) (v : List A) → i < j → set (sets d j v) i a ≡ sets (set d i a) j v
  set_last d i j a [] h = refl
  set_last d i j a (b ∷ v) h = set_last (set d j b) i (suc j) a v (omega arith) ∙ rw (set_comm d j i b a (λ e. omega arith))

  -- what is stored once more changes nothing
  sets_twice : (d : List A) (i : ℕ) (v : List A) → sets (sets d i v) i v ≡ sets d i v
  sets_twice d i [] = refl
  sets_twice d i (a ∷ v) = rw (set_last (set d i a) i (suc i) a v (omega arith), set-set) (sets_twice (set d i a) (suc i) v)

  -- stores that begin where others have stored the same already
  pub sets_over : (d : List A) (i : ℕ) (u v : List A) → sets (sets d i u) i (u ++ v) ≡ sets d i (u ++ v)
  sets_over d i u v = sets_append (sets d i u) i u v ∙ rw (sets_twice d i u) (sym (sets_append d i u v))

  -- a store behind some stores can come before them
  set_first : (d : List A) (u : List A) (i j : ℕ) (b : A) → i + length u ≤ j → set (sets d i u) j b ≡ sets (set d j b) i u
  set_first d [] i j b h = refl
  set_first d (a ∷ u) i j b h = set_first (set d i a) u (suc i) j b (omega arith) ∙ rw (set_comm d i j a b (λ e. omega arith))

  -- stores behind each other come in any order
  pub sets_swap : (d u v : List A) (i j : ℕ) → i + length u ≤ j → sets (sets d j v) i u ≡ sets (sets d i u) j v
  sets_swap d u [] i j h = refl
  sets_swap d u (b ∷ v) i j h = sets_swap (set d j b) u v i (suc j) (omega arith) ∙ rw (set_first d u i j b h)

  set_behind : (p r : List A) (j : ℕ) (a : A) → set (p ++ r) (length p + j) a ≡ p ++ set r j a
  set_behind [] r j a = rw zero-add
  set_behind (x ∷ p) r j a = rw suc-add (ap (λ (l : List A). x ∷ l) (set_behind p r j a))

  sets_behind : (v p r : List A) (j : ℕ) → sets (p ++ r) (length p + j) v ≡ p ++ sets r j v
  sets_behind [] p r j = refl
  sets_behind (a ∷ v) p r j = rw (set_behind, ← add-suc) (sets_behind v p (set r j a) (suc j))

  -- stores into the rest that starts at n are stores into the whole from n on
  pub sets_rest : (d v : List A) (n : ℕ) → n ≤ length d → take n d ++ sets (drop n d) 0 v ≡ sets d n v
  sets_rest d v n h =
      let e : n ≡ length (take n d) + 0 = rw (length-take-le n d h) (omega arith) in
      let s : sets (take n d ++ drop n d) (length (take n d) + 0) v ≡ take n d ++ sets (drop n d) 0 v = sets_behind v (take n d) (drop n d) 0 in
      sym s ∙ rw (← e, take-append-drop)

-- the part from a on, as the code's rule has it
pub part_is : {A : Type 0} (a : ℕ) (x : List A) → take (length x - a) (drop a x) ≡ drop a x
part_is a x = take_all (length x - a) (drop a x) (simp length-drop (omega arith))

-- a part from a on that has come back as y, as the code's rule has it
pub back_is : {A : Type 0} (a : ℕ) (x y : List A) → take a x ++ (y ++ drop (length x - a) (drop a x)) ≡ take a x ++ y
back_is a x y =
    let e : drop (length x - a) (drop a x) ≡ [] = drop_of_length-le (drop a x) {i = length x - a} (simp length-drop (omega arith)) in
    rw (e, append-nil)

-- ---- one turn of a loop that stores

-- one element more of a copy
pub copy_turn : (out : List ℕ) (to i : ℕ) (xs : List ℕ) → i < length xs → sets out to (drop i xs) ≡ sets (set out to (get_or xs i 0)) (to + 1) (drop (i + 1) xs)
copy_turn out to i xs h = rw (add-one i, add-one to, drop-cons xs i 0)

-- ---- copies by parts

-- a part of a run, and then the part behind it
pub parts_stored : (d : List ℕ) (to : ℕ) (xs : List ℕ) (i m n : ℕ) → i + m ≤ length xs
    → sets (sets d to (part xs i m)) (to + m) (part xs (i + m) n) ≡ sets d to (part xs i (m + n))
parts_stored d to xs i m n h = rw (parts_join xs i m n, sets_append d to (part xs i m) (part xs (i + m) n), part_length xs i m h)

-- so many units of a run from a place on, and then a part right behind
pub part_more : (d : List ℕ) (at : ℕ) (xs : List ℕ) (i n : ℕ) → i ≤ length xs → sets (sets d at (take i xs)) (at + i) (part xs i n) ≡ sets d at (take (i + n) xs)
part_more d at xs i n h = rw (take-add i n xs, sets_append d at (take i xs) (take n (drop i xs)), length-take-le i xs h)

-- the last part of a run, which may begin among those that are stored, ends it
pub last_over : (d : List ℕ) (at : ℕ) (xs : List ℕ) (i j : ℕ) → j ≤ i → j ≤ length xs → sets (sets d at (take i xs)) (at + j) (drop j xs) ≡ sets d at xs
last_over d at xs i j l h =
    let e : j + (i - j) ≡ i = omega arith in
    let u = take j xs in
    let v = take (i - j) (drop j xs) in
    let s : sets d at (take i xs) ≡ sets (sets d at u) (at + j) v = sym (rw e at (part_more d at xs j (i - j) h)) in
    let c : v ++ drop (i - j) (drop j xs) ≡ drop j xs = take-append-drop (i - j) (drop j xs) in
    let o : sets (sets (sets d at u) (at + j) v) (at + j) (drop j xs) ≡ sets (sets d at u) (at + j) (drop j xs) =
    rw c at (sets_over (sets d at u) (at + j) v (drop (i - j) (drop j xs))) in
    let w : sets (sets d at u) (at + j) (drop j xs) ≡ sets d at xs = rw (take-append-drop j xs, length-take-le j xs h) at (sym (sets_append d at u (drop j xs))) in
    rw s (o ∙ w)

-- four stores in a row, as the code has them
pub four_stored : (d : List ℕ) (to : ℕ) (xs : List ℕ) (i : ℕ) → i + 4 ≤ length xs
    → set (set (set (set d to (get_or xs i 0)) (to + 1) (get_or xs (i + 1) 0)) (to + 2) (get_or xs (i + 2) 0)) (to + 3) (get_or xs (i + 3) 0) ≡ sets d to (part xs i 4)
four_stored d to xs i h =
    let e₁ : to + 1 ≡ suc to = omega arith in
    let e₂ : to + 2 ≡ suc (suc to) = omega arith in
    let e₃ : to + 3 ≡ suc (suc (suc to)) = omega arith in
    rw (four_units xs i h, e₁, e₂, e₃)
