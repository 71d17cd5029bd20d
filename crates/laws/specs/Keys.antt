-- Keys compared by content, and by the units that they are in a store. Assumes nothing.
use Rattle.std.specs.Prelude.{ℕ, ◌+◌, ◌*◌, ◌≡◌, refl, ◌↔◌, Bool, true, false, List, [], ◌∷◌, ◌++◌, eqb, length}
use Rattle.std.proofs.Common.{arith, sym, length-append, eqb-true, eq-eqb}
use Rattle.std.proofs.lemmas.Bool.{eqb-false}
use Rattle.rules.specs.Choice.{both, equal}
use Rattle.rules.specs.Record.{Argument}
use Rattle.rules.specs.Key.{Key, same_flag, same_argument, same_arguments, same_key}
use Rattle.rules.specs.Cache.{text_units, key_size}
use Rattle.rules.specs.Store.{code_of, key_units}
use Rattle.laws.specs.Choice.{both_true, clash}
use Rattle.laws.specs.Equal.{unequal, equal_self, equal_one, equal_append, both_assoc}

-- ---- equal by content is equal

flag_one : (a b : Bool) → same_flag a b ≡ true → a ≡ b
flag_one true b h = sym h
flag_one false true h = h
flag_one false false h = refl

flag_self : (b : Bool) → same_flag b b ≡ true
flag_self true = refl
flag_self false = refl

-- an argument of a kind and a text
argument_for : ℕ → List ℕ → Argument
argument_for kind content = record { kind = kind; content = content }

argument_one : (a b : Argument) → same_argument a b ≡ true → a ≡ b
unfolding argument_for
argument_one a b h =
    let (p, q) = both_true (eqb a.kind b.kind) (equal a.content b.content) h in
    let e : argument_for a.kind a.content ≡ argument_for b.kind b.content
    = rw (eqb-true a.kind b.kind p, equal_one a.content b.content q) in
    e

arguments_one : (xs ys : List Argument) → same_arguments xs ys ≡ true → xs ≡ ys
unfolding same_arguments
arguments_one [] [] h = refl
arguments_one [] (b ∷ bs) h = clash false h refl
arguments_one (a ∷ more) [] h = clash false h refl
arguments_one (a ∷ more) (b ∷ bs) h =
    let (p, q) = both_true (same_argument a b) (same_arguments more bs) h in
    rw (argument_one a b p, arguments_one more bs q)

arguments_self : (xs : List Argument) → same_arguments xs xs ≡ true
unfolding same_arguments
arguments_self [] = refl
arguments_self (a ∷ more) = rw (eq-eqb a.kind a.kind refl, equal_self a.content) (arguments_self more)

-- a key of a flag, a program and arguments
key_for : Bool → List ℕ → List Argument → Key
key_for force program arguments = record { force = force; program = program; arguments = arguments }

-- keys are equal by content exactly where they are one
pub same_key_lem : (k j : Key) → (same_key k j ≡ true) ↔ (k ≡ j)
unfolding same_key key_for
same_key_lem k j = (there, λ e. rw e back)
  where
    there : same_key k j ≡ true → k ≡ j
    there h =
        let (p, q) = both_true (same_flag k.force j.force) (both (equal k.program j.program) (same_arguments k.arguments j.arguments)) h in
        let (r, s) = both_true (equal k.program j.program) (same_arguments k.arguments j.arguments) q in
        let e : key_for k.force k.program k.arguments ≡ key_for j.force j.program j.arguments
        = rw (flag_one k.force j.force p, equal_one k.program j.program r, arguments_one k.arguments j.arguments s) in
        e

    back : same_key j j ≡ true
    back = rw (flag_self j.force, equal_self j.program) (arguments_self j.arguments)

-- ---- equal by units

-- where the lengths of the fronts are compared first, the fronts and the rests decide
lengths_first : (s t x y : List ℕ) (b : Bool) → eqb (length s) (length t) ≡ b → both b (equal (s ++ x) (t ++ y)) ≡ both (equal s t) (equal x y)
lengths_first s t x y true h = equal_append s t x y (eqb-true _ _ h)
lengths_first s t x y false h = rw (unequal s t (eqb-false (length s) (length t) h))

-- arguments are the same where their units are
code_same : (xs ys : List Argument) → equal (code_of xs) (code_of ys) ≡ same_arguments xs ys
unfolding equal code_of same_arguments
code_same [] [] = refl
code_same [] (b ∷ bs) = refl
code_same (a ∷ more) [] = refl
code_same (a ∷ more) (b ∷ bs) =
    rw (lengths_first a.content b.content (code_of more) (code_of bs) _ refl, code_same more bs, both_assoc)

-- keys are the same where flag, length of the program and units are
pub same_units : (k j : Key)
    → both (same_flag k.force j.force) (both (eqb (length k.program) (length j.program)) (equal (key_units k) (key_units j))) ≡ same_key k j
unfolding same_key key_units
same_units k j = rw (lengths_first k.program j.program (code_of k.arguments) (code_of j.arguments) _ refl, code_same)

-- ---- how many units

-- those of arguments
code_length : (args : List Argument) → length (code_of args) ≡ text_units args + 2 * length args
unfolding code_of text_units
code_length [] = refl
code_length (a ∷ more) = rw length-append (omega (arith, code_length more))

-- those of a key
pub key_length_lem : (k : Key) → length (key_units k) ≡ key_size k
unfolding key_units key_size
key_length_lem k = rw length-append (omega (arith, code_length k.arguments))
