-- A unit by what the rules of quoting and reading do with it. Assumes nothing.
use Rattle.std.specs.Prelude.{ℕ, ◌≡◌, refl, Bool, true, false}
use Rattle.std.proofs.Common.{eqb-true}
use Rattle.rules.specs.Unit.{is_quote, is_backslash}

-- a backslash, a quote mark or any other unit: to match on `kind x` puts the number for x, so that every test on it computes
pub data Kind : ℕ → Type 0 where
  slash : Kind 92
  marked : Kind 34
  other : {x : ℕ} → is_backslash x ≡ false → is_quote x ≡ false → Kind x

-- the kind of a unit
pub kind : (x : ℕ) → Kind x
kind x = go (is_backslash x) (is_quote x) refl refl
  where
    go : (b c : Bool) → is_backslash x ≡ b → is_quote x ≡ c → Kind x
    go true c p q = rw (eqb-true x 92 p) slash
    go false true p q = rw (eqb-true x 34 q) marked
    go false false p q = other p q
