-- The arguments that records name, one after another: compared, measured, laid down. Assumes nothing.
use Prim.Native.Nat.{ℕ, suc, ◌+◌, ◌-◌, ◌/◌, ◌≤◌, ◌<◌}
use native.Mathlib.Numerals.{add-one}
use native.Mathlib.Omega.{arith}
use borrow.Author.Tests.{eq-eqb, ne_eqb}
use mathlib.Core.Path.{◌≡◌, refl, sym, ap, ◌∙◌}
use mathlib.Core.Bool.{Bool, true, false}
use mathlib.Core.List.{List, [], ◌∷◌, ◌++◌, map}
use lib.Dec.{eqb}
use lib.ListN.{length, get_or, drop, set, length-append, length-drop, length-take, drop_of_length-le}
use lib.Seq.{sets, drop-cons, drop-drop}
use Rattle.rules.specs.declared.Arg.{Arg}
use Rattle.rules.specs.Choice.{both, equal}
use Rattle.rules.specs.Record.{Argument, part, argument_of, arguments_of}
use Rattle.rules.specs.Store.{argument_code, code_of}
use Rattle.laws.specs.Equal.{unequal, equal_one, equal_front}
use Rattle.laws.specs.Placed.{Placed}
use Rattle.records.specs.Records.{records_of, no_arg}
use Rattle.records.specs.Flat.{whole_count}
use Rattle.keys.specs.Laid.{unit_of, laid_argument, laid_arguments}

-- ---- the arguments from an index on

-- those of the records from an index on
abbrev pub arguments_from : List ℕ → List ℕ → ℕ → List Argument
arguments_from text records i = map (argument_of text) (drop i (records_of records))

-- all of them
pub all_from : (text records : List ℕ) → arguments_of text records ≡ arguments_from text records 0
unfolding arguments_of records_of
all_from text records = refl

-- how many units a program and they have
pub key_from : (program text records : List ℕ) → length (program ++ code_of (arguments_of text records)) ≡ length program + length (code_of (arguments_from text records 0))
key_from program text records = length-append program (code_of (arguments_of text records)) ∙ rw (all_from text records)

-- none is left
pub none_from : (text records : List ℕ) (i : ℕ) → length records / 3 ≤ i → arguments_from text records i ≡ []
none_from text records i h = ap (map (argument_of text)) (drop_of_length-le (records_of records) {i = i} (rw (whole_count records) h))

-- one is left, and perhaps more
module _ (text records : List ℕ) (i : ℕ) {a : Arg} {content : List ℕ} (h : i < length records / 3) (r : a ≡ get_or (records_of records) i no_arg)
    (e : content ≡ part text a.start a.len) where
  next_from : arguments_from text records i ≡ record { kind = a.kind; content = content } ∷ arguments_from text records (i + 1)
  next_from = rw (add-one i, drop-cons (records_of records) i no_arg (rw (whole_count records) h), ← r, e)

  -- the units of the next argument, then the others'
  code_next : code_of (arguments_from text records i) ≡ argument_code (record { kind = a.kind; content = content }) ++ code_of (arguments_from text records (i + 1))
  unfolding code_of
  code_next = rw next_from

  -- how many they are
  pub count_next : length (code_of (arguments_from text records i)) ≡ 2 + length content + length (code_of (arguments_from text records (i + 1)))
  count_next = rw (code_next, length-append) (omega arith)

  -- they are compared
  pub compare_next : (key : List ℕ) (to : ℕ) (b : Bool) → b ≡ equal (part key to (2 + length content)) (argument_code (record { kind = a.kind; content = content }))
      → equal (drop to key) (code_of (arguments_from text records i)) ≡ both b (equal (drop (to + (2 + length content)) key) (code_of (arguments_from text records (i + 1))))
  compare_next key to b w =
      let code = argument_code (record { kind = a.kind; content = content }) in
      let l : length code ≡ 2 + length content = omega arith in
      rw code_next (equal_front (drop to key) code (code_of (arguments_from text records (i + 1))) ∙ rw (l, ← w, drop-drop (2 + length content) to key))

  -- and so as they are laid down
  pub laid_next : laid_arguments (arguments_from text records i) ≡ laid_argument (record { kind = a.kind; content = content }) ++ laid_arguments (arguments_from text records (i + 1))
  unfolding laid_arguments
  laid_next = rw next_from

  pub laid_count : length (laid_arguments (arguments_from text records i)) ≡ 2 + length content + length (laid_arguments (arguments_from text records (i + 1)))
  laid_count = rw (laid_next, length-append) (omega arith)

-- ---- one argument

-- kind, length and text laid down one after another
pub argument_placed : (kind : ℕ) (content : List ℕ) {at k u : ℕ} {d e f g : List ℕ} → k ≡ unit_of kind → u ≡ unit_of (length content) → e ≡ set d at k → f ≡ set e (at + 1) u
    → g ≡ sets f (at + 2) content → Placed (laid_argument (record { kind = kind; content = content })) at (at + 2 + length content) d g
argument_placed kind content {at} kinds lengths first second third =
    let two : at + 2 ≡ suc (suc at) = omega arith in
    record { ends = omega arith; stores = rw (third, second, first, kinds, lengths, two, add-one at) }

-- where it stands, there is room for it
pub argument_within : (key : List ℕ) (at : ℕ) (a : Argument) → at ≤ length key → equal (part key at (2 + length a.content)) (argument_code a) ≡ true
    → at + (2 + length a.content) ≤ length key
argument_within key at a h t =
    let e : length (part key at (2 + length a.content)) ≡ length (argument_code a) = ap length (equal_one _ (argument_code a) t) in
    omega (arith, e, length-take (2 + length a.content) (drop at key), length-drop at key)

-- too few units are left for it
pub no_argument : (key : List ℕ) (at : ℕ) (a : Argument) → length key - at < 2 + length a.content
    → equal (part key at (2 + length a.content)) (argument_code a) ≡ false
no_argument key at a h =
    unequal _ _ λ e. omega (arith, length-take (2 + length a.content) (drop at key), length-drop at key)

module _ (key : List ℕ) (at : ℕ) (a : Argument) (h : at + (2 + length a.content) ≤ length key) where
  -- its kind, its length and its text decide, one after another
  argument_decides : equal (part key at (2 + length a.content)) (argument_code a)
      ≡ both (eqb (get_or key at 0) a.kind) (both (eqb (get_or key (at + 1) 0) (length a.content)) (equal (part key (at + 2) (length a.content)) a.content))
  unfolding equal
  argument_decides =
      let e : at + 2 ≡ suc (suc at) = omega arith in
      let n : 2 + length a.content ≡ suc (suc (length a.content)) = omega arith in
      rw (e, n, add-one at, drop-cons key at 0 (omega arith), drop-cons key (suc at) 0 (omega arith))

  pub kind_differs : (get_or key at 0 ≡ a.kind → ⊥) → false ≡ equal (part key at (2 + length a.content)) (argument_code a)
  kind_differs d = sym (argument_decides ∙ rw (ne_eqb (get_or key at 0) a.kind d))

  pub length_differs : (get_or key (at + 1) 0 ≡ length a.content → ⊥) → false ≡ equal (part key at (2 + length a.content)) (argument_code a)
  length_differs d = sym (argument_decides ∙ rw (ne_eqb (get_or key (at + 1) 0) (length a.content) d) (go (eqb (get_or key at 0) a.kind)))
    where
      go : (b : Bool) → both b false ≡ false
      go true = refl
      go false = refl

  pub text_decides : get_or key at 0 ≡ a.kind → get_or key (at + 1) 0 ≡ length a.content
      → equal (part key (at + 2) (length a.content)) a.content ≡ equal (part key at (2 + length a.content)) (argument_code a)
  text_decides d e = sym (argument_decides ∙ rw (eq-eqb (get_or key at 0) a.kind d, eq-eqb (get_or key (at + 1) 0) (length a.content) e))
