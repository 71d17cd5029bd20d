-- Entries that can be written and read back: where they split, and their units. Assumes nothing.
use Rattle.std.specs.Prelude.{ℕ, ◌+◌, ◌*◌, ◌≤◌, ◌≡◌, refl, Bool, true, false, List, [], ◌∷◌, ◌++◌, length, drop}
use Rattle.std.proofs.Common.{arith, eqb-true, sym, ap, ◌∙◌, append_assoc, length-append}
use Rattle.rules.specs.Choice.{pick, either, any, is_empty}
use Rattle.rules.specs.Unit.{is_nul, is_equals, nul, equals}
use Rattle.rules.specs.Record.{Entry}
use Rattle.rules.specs.Block.{block, entry_units}
use Rattle.rules.specs.BlockReading.{before_equals, behind_equals, splits, split_of, entry_size, entry_sizes, units_used}
use Rattle.laws.specs.Choice.{clash, apart, joint, any_behind, apart_lists}
use Rattle.laws.specs.Nul.{Clean}

-- "entries whose keys are non-empty and have no `=` after the first unit, all without NUL"
pub record Plain (e : Entry) : Type 0 where
  pub some : is_empty e.key ≡ false
  pub once : any is_equals (drop 1 e.key) ≡ false
  pub key_clean : Clean e.key
  pub value_clean : Clean e.value

-- each of the list is such an entry
abbrev pub AllPlain : List Entry → Type 0
AllPlain [] = Unit
AllPlain (e ∷ more) = Plain e × AllPlain more

-- the units of an entry before its NUL
abbrev pub text_of : Entry → List ℕ
text_of e = e.key ++ equals ∷ e.value

-- ---- where units split

-- a key without `=` stands before the first `=`
before_written : (k v : List ℕ) → any is_equals k ≡ false → before_equals (k ++ equals ∷ v) ≡ k
unfolding before_equals
before_written [] v h = refl
before_written (x ∷ k) v h = let (e, h') = apart true (is_equals x) (any is_equals k) h in rw (e, before_written k v h')

-- and its value behind it
behind_written : (k v : List ℕ) → any is_equals k ≡ false → behind_equals (k ++ equals ∷ v) ≡ v
unfolding behind_equals
behind_written [] v h = refl
behind_written (x ∷ k) v h = let (e, h') = apart true (is_equals x) (any is_equals k) h in rw e (behind_written k v h')

-- units with `=` are what stands before the first, `=`, and what stands behind it
parted : (xs : List ℕ) → any is_equals xs ≡ true → xs ≡ before_equals xs ++ equals ∷ behind_equals xs
unfolding before_equals behind_equals
parted [] h = cc
parted (x ∷ xs) h = go (is_equals x) refl h (parted xs)
  where
    go : (b : Bool) → is_equals x ≡ b → either b (any is_equals xs) ≡ true
        → (any is_equals xs ≡ true → xs ≡ before_equals xs ++ equals ∷ behind_equals xs)
        → x ∷ xs ≡ pick b [] (x ∷ before_equals xs) ++ equals ∷ pick b xs (behind_equals xs)
    go true e g ih = let z : x ≡ equals = eqb-true x equals e in rw z
    go false e g ih = ap (λ (l : List ℕ). x ∷ l) (ih g)

-- what stands before the first `=` has none
before_once : (xs : List ℕ) → any is_equals (before_equals xs) ≡ false
unfolding before_equals
before_once [] = refl
before_once (x ∷ xs) = go (is_equals x) refl (before_once xs)
  where
    go : (b : Bool) → is_equals x ≡ b → any is_equals (before_equals xs) ≡ false → any is_equals (pick b [] (x ∷ before_equals xs)) ≡ false
    go true e h = refl
    go false e h = rw e h

-- ---- an entry as it was written is read as it was

-- its units are some, have no NUL, and split into it
pub record Reads (e : Entry) : Type 0 where
  pub clean : Clean (text_of e)
  pub filled : is_empty (text_of e) ≡ false
  pub split : splits (text_of e) ≡ true
  pub same : split_of (text_of e) ≡ e

pub reads : (e : Entry) → Plain e → Reads e
unfolding split_of
reads e p = go e.key e.value p.some p.once p.key_clean p.value_clean
  where
    go : (key value : List ℕ) → is_empty key ≡ false → any is_equals (drop 1 key) ≡ false → Clean key → Clean value
        → Reads (record { key = key; value = value })
    go [] value some once kc vc = clash true refl some
    go (x ∷ k) value some once kc vc =
        record {
          clean = joint is_nul (x ∷ k) (equals ∷ value) kc vc;
          filled = refl;
          split = any_behind is_equals k (equals ∷ value) refl;
          same = rw (before_written k value once, behind_written k value once);
        }

-- ---- units that split are an entry

-- they are its key, `=` and its value, and it can be written
pub record SplitsInto (a : List ℕ) : Type 0 where
  pub text : a ≡ text_of (split_of a)
  pub plain : Plain (split_of a)

pub split_is : (y : ℕ) (ys : List ℕ) → Clean (y ∷ ys) → any is_equals ys ≡ true → SplitsInto (y ∷ ys)
unfolding split_of
split_is y ys h s =
    let j = parted ys s in
    let c : Clean ((y ∷ before_equals ys) ++ equals ∷ behind_equals ys) = ap (λ (l : List ℕ). any is_nul (y ∷ l)) (sym j) ∙ h in
    let (kc, vc) = apart_lists is_nul (y ∷ before_equals ys) (equals ∷ behind_equals ys) c in
    record {
      text = ap (λ (l : List ℕ). y ∷ l) j;
      plain = record { some = refl; once = before_once ys; key_clean = kc; value_clean = vc };
    }

-- ---- entries one after another

-- the first entry's units, its NUL, and the others
pub first_units : (e : Entry) (more : List Entry) (rest : List ℕ) → entry_units (e ∷ more) ++ rest ≡ text_of e ++ nul ∷ (entry_units more ++ rest)
unfolding entry_units
first_units e more rest = append_assoc (text_of e) (nul ∷ entry_units more) rest

-- one entry more behind others
pub last_units : (entries : List Entry) (e : Entry) (rest : List ℕ) → entry_units (entries ++ e ∷ []) ++ rest ≡ entry_units entries ++ (text_of e ++ nul ∷ rest)
unfolding entry_units
last_units [] e rest = append_assoc (text_of e) (nul ∷ []) rest
last_units (f ∷ more) e rest =
    first_units f (more ++ e ∷ []) rest ∙ ap (λ (l : List ℕ). text_of f ++ nul ∷ l) (last_units more e rest) ∙ sym (first_units f more (text_of e ++ nul ∷ rest))

pub last_plain : (entries : List Entry) (e : Entry) → AllPlain entries → Plain e → AllPlain (entries ++ e ∷ [])
last_plain [] e h p = (p, tt)
last_plain (f ∷ more) e h p = (h.0, last_plain more e h.1 p)

-- ---- how many units

pub last_sizes : (entries : List Entry) (e : Entry) → entry_sizes (entries ++ e ∷ []) ≡ entry_sizes entries + entry_size e
last_sizes [] e = omega arith
last_sizes (f ∷ more) e = omega (arith, last_sizes more e)

entry_units_lem : (entries : List Entry) → length (entry_units entries) ≡ entry_sizes entries
unfolding entry_units
entry_units_lem [] = refl
entry_units_lem (e ∷ more) = simp length-append (omega (arith, entry_units_lem more))

-- the units used are those of the block
pub units_used_lem : (entries : List Entry) → units_used entries ≡ length (block entries)
unfolding block
units_used_lem [] = refl
units_used_lem (e ∷ more) = sym (length-append (entry_units (e ∷ more)) (nul ∷ []) ∙ ap (λ (n : ℕ). n + 1) (entry_units_lem (e ∷ more)))

-- an entry has at least three units with its NUL
pub plain_sizes : (entries : List Entry) → AllPlain entries → 3 * length entries ≤ entry_sizes entries
plain_sizes [] h = omega arith
plain_sizes (e ∷ more) h = omega (arith, one e.key h.0.some, plain_sizes more h.1)
  where
    one : (key : List ℕ) → is_empty key ≡ false → 1 ≤ length key
    one [] s = clash true refl s
    one (x ∷ key) s = omega arith

-- and a NUL ends them
pub plain_used : (entries : List Entry) → AllPlain entries → 3 * length entries + 1 ≤ units_used entries
plain_used [] h = omega arith
plain_used (e ∷ more) h = omega (arith, plain_sizes (e ∷ more) h)
