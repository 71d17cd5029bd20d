-- What the Rust says where calls and loops follow each other with `?`. Assumes nothing.
use Rattle.std.specs.Prelude.{ℕ, ◌+◌, ◌≡◌, refl, Bool, true, false, List, [], ◌∷◌, ◌++◌}
use Rattle.std.proofs.Common.{ap, ◌∙◌, append_assoc, append-nil}
use Rattle.rules.specs.Choice.{pick}
use Rattle.rules.specs.Outcome.{Finding, sound, wrong, wrong_if, Fault, faultless, fault, fault_at, fault_from}
use Rattle.original.specs.Shims.{Result, Ok, Err, nul_found, ◌>>=◌}
use Rattle.original.specs.Domain.{gives, rust_says, finding_says, fault_says}

-- behind `ensure_no_nuls`: a NUL is 5
pub ensured_says : {A : Type 0} (n : Bool) (xs : List ℕ) {a b : A} → a ≡ b
    → rust_says (pick n (Err nul_found) (Ok xs) >>= λ xs. Ok a) ≡ finding_says (wrong_if 5 n sound) b
ensured_says true xs e = refl
ensured_says false xs e = ap gives e

-- a statement behind all others
pub says_then : {A B : Type 0} (f : A → B) (r : Result A) (g : Fault) (a : A) → rust_says r ≡ fault_says g a
    → rust_says (r >>= λ a. Ok (f a)) ≡ fault_says g (f a)
says_then f (Ok b) faultless a e = let d : b ≡ a = cc in rw d
says_then f (Ok b) (fault number place) a e = cc
says_then f (Err x) faultless a e = cc
says_then f (Err x) (fault number place) a e = cc

-- `?` behind a call that says what is found of one record: with what it appended the function goes on; else its error is the first found
then_says : {A : Type 0} (place : ℕ) (r : Result A) (f : Finding) (a : A) (more : A → Result A) (next : Fault) (all : A)
    → rust_says r ≡ finding_says f a → rust_says (more a) ≡ fault_says next all
    → rust_says (r >>= more) ≡ fault_says (fault_at place f next) all
then_says place (Ok b) sound a more next all e ih = let d : b ≡ a = cc in rw d ih
then_says place (Ok b) (wrong number) a more next all e ih = cc
then_says place (Err x) sound a more next all e ih = cc
then_says place (Err x) (wrong number) a more next all e ih = cc

-- a loop over records with a call for each: the call appends what is to be written of one, or gives the error of what is found of it
pub record Loop {A : Type 0} (loop : List ℕ → List A → Result (List ℕ)) (find : A → Finding) (one : A → List ℕ) (all : List A → List ℕ) : Type 0 where
  pub call : List ℕ → A → Result (List ℕ)
  pub ends : (v : List ℕ) → loop v [] ≡ Ok v
  pub turns : (v : List ℕ) (a : A) (more : List A) → loop v (a ∷ more) ≡ (call v a >>= λ v. loop v more)
  pub says : (v : List ℕ) (a : A) → rust_says (call v a) ≡ finding_says (find a) (v ++ one a)
  pub none : all [] ≡ []
  pub next : (a : A) (more : List A) → all (a ∷ more) ≡ one a ++ all more

-- it appends all of them, or gives the error of what is found first
pub loop_says : {A : Type 0} {loop : List ℕ → List A → Result (List ℕ)} {find : A → Finding} {one : A → List ℕ} {all : List A → List ℕ}
    → Loop loop find one all → (place : ℕ) (v : List ℕ) (records : List A)
    → rust_says (loop v records) ≡ fault_says (fault_from find place records) (v ++ all records)
unfolding fault_from
loop_says l place v [] = rw (l.ends v, l.none, append-nil v)
loop_says {loop = loop} {find = find} {one = one} {all = all} l place v (a ∷ more) =
    rw (l.turns v a more, l.next a more)
    (then_says place (l.call v a) (find a) (v ++ one a) (λ v. loop v more) (fault_from find (place + 1) more) (v ++ (one a ++ all more)) (l.says v a)
    (loop_says l (place + 1) (v ++ one a) more ∙ rw append_assoc))
