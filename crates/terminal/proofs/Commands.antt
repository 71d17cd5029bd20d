-- Which command a word names, and whether it asks for quotes, by its length and its bytes. Assumes nothing.
use Rattle.std.proofs.Common.{ℕ, ◌≡◌, refl, Bool, true, false, List, [], ◌∷◌, length, get_or, arith, eqb, eqb-true}
use Rattle.std.proofs.lemmas.Slice.Eq.{text_from_reads}
use Rattle.rules.specs.Choice.{equal}
use Rattle.rules.specs.Unit.{units}
use Rattle.terminal.specs.declared.words.Command.{Command}
use Rattle.terminal.specs.Word.{command_of, small_command_of, is_force}
use Rattle.laws.specs.Choice.{both_true}

pub is_read : (w : List ℕ) → length w ≡ 4 → get_or w 0 0 ≡ 114 → get_or w 1 0 ≡ 101 → get_or w 2 0 ≡ 97 → get_or w 3 0 ≡ 100 → command_of w ≡ Command.Read
unfolding command_of units
is_read w l a b d e = rw (text_from_reads w (114 ∷ 101 ∷ 97 ∷ 100 ∷ []) l (a, (b, (d, (e, tt))))) refl

pub is_write : (w : List ℕ) → length w ≡ 5 → get_or w 0 0 ≡ 119 → get_or w 1 0 ≡ 114 → get_or w 2 0 ≡ 105 → get_or w 3 0 ≡ 116 → get_or w 4 0 ≡ 101 → command_of w ≡ Command.Write
unfolding command_of units
is_write w l a b d e f = rw (text_from_reads w (119 ∷ 114 ∷ 105 ∷ 116 ∷ 101 ∷ []) l (a, (b, (d, (e, (f, tt)))))) refl

pub is_batch : (w : List ℕ) → length w ≡ 5 → get_or w 0 0 ≡ 98 → get_or w 1 0 ≡ 97 → get_or w 2 0 ≡ 116 → get_or w 3 0 ≡ 99 → get_or w 4 0 ≡ 104 → command_of w ≡ Command.Batch
unfolding command_of units
is_batch w l a b d e f = rw (text_from_reads w (98 ∷ 97 ∷ 116 ∷ 99 ∷ 104 ∷ []) l (a, (b, (d, (e, (f, tt)))))) refl

pub is_env : (w : List ℕ) → length w ≡ 3 → get_or w 0 0 ≡ 101 → get_or w 1 0 ≡ 110 → get_or w 2 0 ≡ 118 → command_of w ≡ Command.Env
unfolding command_of units
is_env w l a b d = rw (text_from_reads w (101 ∷ 110 ∷ 118 ∷ []) l (a, (b, (d, tt)))) refl

pub is_status : (w : List ℕ) → length w ≡ 6 → get_or w 0 0 ≡ 115 → get_or w 1 0 ≡ 116 → get_or w 2 0 ≡ 97 → get_or w 3 0 ≡ 116 → get_or w 4 0 ≡ 117 → get_or w 5 0 ≡ 115 → command_of w ≡ Command.Status
unfolding command_of units
is_status w l a b d e f g = rw (text_from_reads w (115 ∷ 116 ∷ 97 ∷ 116 ∷ 117 ∷ 115 ∷ []) l (a, (b, (d, (e, (f, (g, tt))))))) refl

pub is_suffix : (w : List ℕ) → length w ≡ 6 → get_or w 0 0 ≡ 115 → get_or w 1 0 ≡ 117 → get_or w 2 0 ≡ 102 → get_or w 3 0 ≡ 102 → get_or w 4 0 ≡ 105 → get_or w 5 0 ≡ 120 → command_of w ≡ Command.Suffix
unfolding command_of units
is_suffix w l a b d e f g = rw (text_from_reads w (115 ∷ 117 ∷ 102 ∷ 102 ∷ 105 ∷ 120 ∷ []) l (a, (b, (d, (e, (f, (g, tt))))))) refl

pub is_help : (w : List ℕ) → length w ≡ 4 → get_or w 0 0 ≡ 104 → get_or w 1 0 ≡ 101 → get_or w 2 0 ≡ 108 → get_or w 3 0 ≡ 112 → command_of w ≡ Command.Help
unfolding command_of units
is_help w l a b d e = rw (text_from_reads w (104 ∷ 101 ∷ 108 ∷ 112 ∷ []) l (a, (b, (d, (e, tt))))) refl

equal_is : (w p : List ℕ) → equal w p ≡ true → w ≡ p
unfolding equal
equal_is [] [] h = refl
equal_is [] (y ∷ ys) h = absurd (let z : ◌≡◌ {A = ℕ} 0 1 = cc in omega arith)
equal_is (x ∷ xs) [] h = absurd (let z : ◌≡◌ {A = ℕ} 0 1 = cc in omega arith)
equal_is (x ∷ xs) (y ∷ ys) h =
    let b = both_true (eqb x y) (equal xs ys) h in
    rw (eqb-true x y b.0, equal_is xs ys b.1) refl

equal_no : (w p : List ℕ) → (w ≡ p → ⊥) → equal w p ≡ false
equal_no w p n = go (equal w p) refl
  where
    go : (b : Bool) → equal w p ≡ b → b ≡ false
    go true e = absurd (n (equal_is w p e))
    go false e = refl

-- the word is not read
abbrev pub Not_read : List ℕ → Type 0
Not_read w = length w ≡ 4 → get_or w 0 0 ≡ 114 → get_or w 1 0 ≡ 101 → get_or w 2 0 ≡ 97 → get_or w 3 0 ≡ 100 → ⊥

no_read : (w : List ℕ) → Not_read w → equal w (units "read") ≡ false
unfolding units
no_read w n = equal_no w (114 ∷ 101 ∷ 97 ∷ 100 ∷ []) (λ e. n (rw e refl) (rw e refl) (rw e refl) (rw e refl) (rw e refl))

-- the word is not write
abbrev pub Not_write : List ℕ → Type 0
Not_write w = length w ≡ 5 → get_or w 0 0 ≡ 119 → get_or w 1 0 ≡ 114 → get_or w 2 0 ≡ 105 → get_or w 3 0 ≡ 116 → get_or w 4 0 ≡ 101 → ⊥

no_write : (w : List ℕ) → Not_write w → equal w (units "write") ≡ false
unfolding units
no_write w n = equal_no w (119 ∷ 114 ∷ 105 ∷ 116 ∷ 101 ∷ []) (λ e. n (rw e refl) (rw e refl) (rw e refl) (rw e refl) (rw e refl) (rw e refl))

-- the word is not batch
abbrev pub Not_batch : List ℕ → Type 0
Not_batch w = length w ≡ 5 → get_or w 0 0 ≡ 98 → get_or w 1 0 ≡ 97 → get_or w 2 0 ≡ 116 → get_or w 3 0 ≡ 99 → get_or w 4 0 ≡ 104 → ⊥

no_batch : (w : List ℕ) → Not_batch w → equal w (units "batch") ≡ false
unfolding units
no_batch w n = equal_no w (98 ∷ 97 ∷ 116 ∷ 99 ∷ 104 ∷ []) (λ e. n (rw e refl) (rw e refl) (rw e refl) (rw e refl) (rw e refl) (rw e refl))

-- the word is not env
abbrev pub Not_env : List ℕ → Type 0
Not_env w = length w ≡ 3 → get_or w 0 0 ≡ 101 → get_or w 1 0 ≡ 110 → get_or w 2 0 ≡ 118 → ⊥

no_env : (w : List ℕ) → Not_env w → equal w (units "env") ≡ false
unfolding units
no_env w n = equal_no w (101 ∷ 110 ∷ 118 ∷ []) (λ e. n (rw e refl) (rw e refl) (rw e refl) (rw e refl))

-- the word is not status
abbrev pub Not_status : List ℕ → Type 0
Not_status w = length w ≡ 6 → get_or w 0 0 ≡ 115 → get_or w 1 0 ≡ 116 → get_or w 2 0 ≡ 97 → get_or w 3 0 ≡ 116 → get_or w 4 0 ≡ 117 → get_or w 5 0 ≡ 115 → ⊥

no_status : (w : List ℕ) → Not_status w → equal w (units "status") ≡ false
unfolding units
no_status w n = equal_no w (115 ∷ 116 ∷ 97 ∷ 116 ∷ 117 ∷ 115 ∷ []) (λ e. n (rw e refl) (rw e refl) (rw e refl) (rw e refl) (rw e refl) (rw e refl) (rw e refl))

-- the word is not suffix
abbrev pub Not_suffix : List ℕ → Type 0
Not_suffix w = length w ≡ 6 → get_or w 0 0 ≡ 115 → get_or w 1 0 ≡ 117 → get_or w 2 0 ≡ 102 → get_or w 3 0 ≡ 102 → get_or w 4 0 ≡ 105 → get_or w 5 0 ≡ 120 → ⊥

no_suffix : (w : List ℕ) → Not_suffix w → equal w (units "suffix") ≡ false
unfolding units
no_suffix w n = equal_no w (115 ∷ 117 ∷ 102 ∷ 102 ∷ 105 ∷ 120 ∷ []) (λ e. n (rw e refl) (rw e refl) (rw e refl) (rw e refl) (rw e refl) (rw e refl) (rw e refl))

-- the word is not help
abbrev pub Not_help : List ℕ → Type 0
Not_help w = length w ≡ 4 → get_or w 0 0 ≡ 104 → get_or w 1 0 ≡ 101 → get_or w 2 0 ≡ 108 → get_or w 3 0 ≡ 112 → ⊥

no_help : (w : List ℕ) → Not_help w → equal w (units "help") ≡ false
unfolding units
no_help w n = equal_no w (104 ∷ 101 ∷ 108 ∷ 112 ∷ []) (λ e. n (rw e refl) (rw e refl) (rw e refl) (rw e refl) (rw e refl))

-- the word names no command
pub is_unknown : (w : List ℕ) → Not_read w → Not_write w → Not_batch w → Not_env w → Not_status w → Not_suffix w → Not_help w → command_of w ≡ Command.Unknown
unfolding command_of small_command_of
is_unknown w a b c d e f g = rw (no_read w a, no_write w b, no_batch w c, no_env w d, no_status w e, no_suffix w f, no_help w g)

pub ruleset commands = (is_read, is_write, is_batch, is_env, is_status, is_suffix, is_help, is_unknown)

-- ---- the word that asks for quotes

pub is_forced : (w : List ℕ) → length w ≡ 7 → get_or w 0 0 ≡ 45 → get_or w 1 0 ≡ 45 → get_or w 2 0 ≡ 102 → get_or w 3 0 ≡ 111 → get_or w 4 0 ≡ 114 → get_or w 5 0 ≡ 99 → get_or w 6 0 ≡ 101 → is_force w ≡ true
unfolding is_force units
is_forced w l a b d e f g h = rw (text_from_reads w (45 ∷ 45 ∷ 102 ∷ 111 ∷ 114 ∷ 99 ∷ 101 ∷ []) l (a, (b, (d, (e, (f, (g, (h, tt)))))))) refl

pub not_forced : (w : List ℕ) → (length w ≡ 7 → get_or w 0 0 ≡ 45 → get_or w 1 0 ≡ 45 → get_or w 2 0 ≡ 102 → get_or w 3 0 ≡ 111 → get_or w 4 0 ≡ 114 → get_or w 5 0 ≡ 99 → get_or w 6 0 ≡ 101 → ⊥) → is_force w ≡ false
unfolding is_force units
not_forced w n = equal_no w (45 ∷ 45 ∷ 102 ∷ 111 ∷ 114 ∷ 99 ∷ 101 ∷ []) (λ e. n (rw e refl) (rw e refl) (rw e refl) (rw e refl) (rw e refl) (rw e refl) (rw e refl) (rw e refl))

pub ruleset forces = (is_forced, not_forced)
