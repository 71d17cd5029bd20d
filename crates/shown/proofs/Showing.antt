-- Units shown one after another. Assumes nothing.
use Rattle.std.proofs.Common.{ℕ, zero, suc, ◌+◌, ◌-◌, ◌≤◌, ◌<◌, ◌≡◌, refl, sym, ◌∙◌, append-nil, arith, Bool, true, false, ◌||◌, cond, inl, inr, List, [], ◌∷◌, ◌++◌, length, get_or, drop, leb, ltb, le-leb, leb-true, take}
use Rattle.std.specs.Char.{encode_utf8, OutOfScalarRange}
use Rattle.std.proofs.Math.Utf8.{encode}
use Rattle.std.proofs.lemmas.List.Edits.{sets}
use Rattle.rules.specs.Choice.{pick, both}
use Rattle.rules.specs.Unit.{within}
use Rattle.laws.specs.Choice.{choose}
use Rattle.laws.specs.Store.{part_is, sets_out}
use Rattle.laws.specs.Placed.{Left, Placed, less_left, same_left}
use Rattle.shown.specs.Shown.{hidden, in_ranges, is_pair, joined, is_hidden, utf8, single, shown, Clipped}
use Rattle.octets.specs.Braced.{braced, braced_short}

-- ---- single units

-- std's UTF-8 is the document's
pub utf8_is : (v : ℕ) → encode_utf8 v ≡ utf8 v
unfolding encode utf8
utf8_is v = go (ltb v 128) (ltb v 2048) (ltb v 65536) _ _ _ _
  where
    go : (p q r : Bool) (a b c d : List ℕ) → cond p a (cond q b (cond r c d)) ≡ pick p a (pick q b (pick r c d))
    go true q r a b c d = refl
    go false true r a b c d = refl
    go false false true a b c d = refl
    go false false false a b c d = refl

last_true : (a : Bool) {b : Bool} → b ≡ true → (a || b) ≡ true
last_true true h = refl
last_true false h = h

-- what stands in a later range stands in one
later : (n : ℕ) (ranges : List (ℕ × ℕ)) (x : ℕ) → in_ranges (drop n ranges) x ≡ true → in_ranges ranges x ≡ true
later zero ranges x h = h
later (suc n) [] x h = h
later (suc n) (r ∷ ranges) x h = last_true (within r.0 r.1 x) (later n ranges x h)

-- half a pair cannot be seen
half_hidden : (x : ℕ) → 55296 ≤ x → x ≤ 57343 → is_hidden x ≡ true
unfolding is_hidden hidden
half_hidden x a b = later 17 hidden x (rw (le-leb 55296 x a, le-leb x 63743 (omega arith)) refl)

-- what is no character by itself cannot be seen
pub out_hidden : (x : ℕ) → x < 65536 → OutOfScalarRange x → is_hidden x ≡ true
out_hidden x f (inl h) = half_hidden x h.0 h.1
out_hidden x f (inr h) = absurd (omega arith)

-- a unit that cannot be seen
pub escaped : (x : ℕ) → is_hidden x ≡ true → single x ≡ braced x
unfolding single
escaped x h = rw h refl

-- a unit that can be seen
pub seen : (x : ℕ) → is_hidden x ≡ false → single x ≡ utf8 x
unfolding single
seen x h = rw h refl

pub ruleset singles = (out_hidden, escaped, seen)

-- ---- pairs

-- a pair stands at the front
pub paired : (xs : List ℕ) → 2 ≤ length xs → (55296 ≤ get_or xs 0 0) × (get_or xs 0 0 ≤ 56127) → (56320 ≤ get_or xs 1 0) × (get_or xs 1 0 ≤ 57343)
    → shown xs ≡ utf8 (joined (get_or xs 0 0) (get_or xs 1 0)) ++ shown (take (length xs - 2) (drop 2 xs))
unfolding shown
paired [] n h l = absurd (omega arith)
paired (x ∷ []) n h l = absurd (omega arith)
paired (x ∷ y ∷ more) n h l = rw (le-leb 55296 x h.0, le-leb x 56127 h.1, le-leb 56320 y l.0, le-leb y 57343 l.1, part_is) refl

no_pair : (x y : ℕ) → (55296 ≤ x → x ≤ 56127 → 56320 ≤ y → y ≤ 57343 → ⊥) → is_pair x y ≡ false
no_pair x y n = go (leb 55296 x) (leb x 56127) (leb 56320 y) (leb y 57343) refl refl refl refl
  where
    go : (p q r t : Bool) → leb 55296 x ≡ p → leb x 56127 ≡ q → leb 56320 y ≡ r → leb y 57343 ≡ t → both (both p q) (both r t) ≡ false
    go true true true true a b c d = absurd (n (leb-true 55296 x a) (leb-true x 56127 b) (leb-true 56320 y c) (leb-true y 57343 d))
    go true true true false a b c d = refl
    go true true false t a b c d = refl
    go true false r t a b c d = refl
    go false q r t a b c d = refl

-- a unit without a partner stands at the front
pub alone : (xs : List ℕ) → 0 < length xs
    → (2 ≤ length xs → 55296 ≤ get_or xs 0 0 → get_or xs 0 0 ≤ 56127 → 56320 ≤ get_or xs 1 0 → get_or xs 1 0 ≤ 57343 → ⊥)
    → shown xs ≡ single (get_or xs 0 0) ++ shown (take (length xs - 1) (drop 1 xs))
unfolding shown
alone [] l n = absurd (omega arith)
alone (x ∷ []) l n = rw append-nil refl
alone (x ∷ y ∷ more) l n = rw (no_pair x y (n (omega arith)), part_is) refl

-- ---- how long pieces are

one_to_four : (p q r : Bool) (a : ℕ) (b₁ b₂ : ℕ) (c₁ c₂ c₃ : ℕ) (d₁ d₂ d₃ d₄ : ℕ)
    → length (pick p (a ∷ []) (pick q (b₁ ∷ b₂ ∷ []) (pick r (c₁ ∷ c₂ ∷ c₃ ∷ []) (d₁ ∷ d₂ ∷ d₃ ∷ d₄ ∷ [])))) ≤ 4
one_to_four true q r a b₁ b₂ c₁ c₂ c₃ d₁ d₂ d₃ d₄ = omega arith
one_to_four false true r a b₁ b₂ c₁ c₂ c₃ d₁ d₂ d₃ d₄ = omega arith
one_to_four false false true a b₁ b₂ c₁ c₂ c₃ d₁ d₂ d₃ d₄ = omega arith
one_to_four false false false a b₁ b₂ c₁ c₂ c₃ d₁ d₂ d₃ d₄ = omega arith

-- a character has at most four bytes
pub few_bytes : (v : ℕ) → length (utf8 v) ≤ 4
unfolding utf8
few_bytes v = one_to_four (ltb v 128) (ltb v 2048) (ltb v 65536) _ _ _ _ _ _ _ _ _ _

-- a unit has at most six
pub few_single : (x : ℕ) → length (single x) ≤ 6
unfolding single
few_single x = let u : length (utf8 x) ≤ 6 = omega (arith, few_bytes x) in choose (λ (l : List ℕ). length l ≤ 6) (is_hidden x) (braced_short x) u

-- ---- the loop

-- what is left would be shown from `to` on, which passes the end by less than one character
pub record Showing (units before out rest : List ℕ) (to : ℕ) : Type 0 where
  pub near : to ≤ length before + 6
  pub still : Left (shown units) 0 before (shown rest) to out

module _ {units before : List ℕ} where
  -- nothing is shown yet
  pub none_shown : Showing units before before units 0
  none_shown = record { near = omega arith; still = record { counts = refl; stores = refl } }

  -- a piece more
  pub piece_shown : {out out' rest rest' piece : List ℕ} {to to' : ℕ} → Showing units before out rest to → shown rest ≡ piece ++ shown rest'
      → to ≤ length out → length piece ≤ 6 → Placed piece to to' out out' → Showing units before out' rest' to'
  piece_shown s e n f p = record { near = omega (arith, p.ends, same_left s.still); still = less_left (rw e at s.still) p }

  -- no room
  pub no_room : {out rest : List ℕ} {to : ℕ} → Showing units before out rest to → length out < to → Clipped (shown units) (length out + 1) before out
  no_room {out} {rest} {to} s h =
      let l = s.still in
      let z : sets out to (shown rest) ≡ out = sets_out out to (shown rest) (omega arith) in
      record { counts = omega (arith, l.counts, same_left l); stores = sym z ∙ l.stores }

  -- all is shown
  pub all_shown : {out rest : List ℕ} {to : ℕ} → Showing units before out rest to → length rest < 1 → to ≤ length out → Clipped (shown units) to before out
  unfolding shown
  all_shown {rest = []} s h n = let l = s.still in record { counts = omega (arith, l.counts, same_left l); stores = l.stores }
  all_shown {rest = x ∷ rest} s h n = absurd (omega arith)

  -- a pair more
  pub pair_shown : {out out' rest : List ℕ} {to to' joint : ℕ} → Showing units before out rest to → to ≤ length out → 2 ≤ length rest
      → (55296 ≤ get_or rest 0 0) × (get_or rest 0 0 ≤ 56127) → (56320 ≤ get_or rest 1 0) × (get_or rest 1 0 ≤ 57343)
      → joint ≡ joined (get_or rest 0 0) (get_or rest 1 0) → Placed (utf8 joint) to to' out out'
      → Showing units before out' (take (length rest - 2) (drop 2 rest)) to'
  pair_shown {rest = rest} {joint = joint} s n l h w e p =
      let f = few_bytes joint in piece_shown s (paired rest l h w ∙ rw e refl) n (omega arith) p

  -- a unit without a partner more
  pub unit_shown : {out out' rest : List ℕ} {to to' : ℕ} → Showing units before out rest to → to ≤ length out → 0 < length rest
      → (2 ≤ length rest → 55296 ≤ get_or rest 0 0 → get_or rest 0 0 ≤ 56127 → 56320 ≤ get_or rest 1 0 → get_or rest 1 0 ≤ 57343 → ⊥)
      → Placed (single (get_or rest 0 0)) to to' out out' → Showing units before out' (take (length rest - 1) (drop 1 rest)) to'
  unit_shown {rest = rest} s n l h p = piece_shown s (alone rest l h) n (few_single (get_or rest 0 0)) p
