-- A key as it is laid down: kinds and lengths as units. Assumes nothing.
use Rattle.std.specs.Prelude.{ℕ, ◌%◌, ◌≤◌, ◌<◌, ◌≡◌, refl, Bool, true, false, List, [], ◌∷◌, ◌++◌, length}
use Rattle.std.proofs.Common.{mod-eq_of_lt, arith, ne_eqb, length-append}
use Rattle.std.proofs.Math.Decide.{dec_le}
use Rattle.rules.specs.Choice.{either}
use Rattle.rules.specs.Record.{Argument, part, is_no_kind, exceeds, judged, argument_finding, argument_records, wholes, argument_fault, arguments_of}
use Rattle.rules.specs.Quoting.{enclosed, form}
use Rattle.rules.specs.Building.{line_limit, written, tail, line}
use Rattle.rules.specs.Key.{Launch}
use Rattle.rules.specs.Store.{code_of}
use Rattle.laws.specs.Choice.{apart, clash}
use Rattle.laws.specs.Fault.{Sound, passed_once, all_sound}
use Rattle.laws.specs.Length.{written_longer}
use Rattle.laws.specs.Prepared.{BuiltLine, short_line}

-- a number as a unit: what is past 65,535 is cut off
abbrev pub unit_of : ℕ → ℕ
unit_of n = n % 65536

-- an argument with its kind and its length as units
abbrev pub laid_argument : Argument → List ℕ
laid_argument a = unit_of a.kind ∷ unit_of (length a.content) ∷ a.content

-- arguments so, one after another. Of those whose line was built nothing is cut off (`laid_whole`).
unfoldable pub laid_arguments : List Argument → List ℕ
laid_arguments [] = []
laid_arguments (a ∷ more) = laid_argument a ++ laid_arguments more

-- ---- of what was built nothing is cut off

-- a kind is at most 1
small : (kind : ℕ) → is_no_kind kind ≡ false → kind ≤ 1
small kind h = go (dec_le kind 1)
  where
    go : Dec (kind ≤ 1) → kind ≤ 1
    go (yes s) = s
    go (no s) =
        let e : is_no_kind kind ≡ true = rw (ne_eqb kind 0 (λ z. s (omega arith)), ne_eqb kind 1 (λ z. s (omega arith))) in
        clash (is_no_kind kind) e h

-- arguments that sound records name, in a line that has few enough units
laid_sound : (force : Bool) (text flat : List ℕ) → Sound (judged (argument_finding text)) (argument_records flat) → length (tail form force (arguments_of text flat)) < 65536
    → laid_arguments (arguments_of text flat) ≡ code_of (arguments_of text flat)
unfolding arguments_of argument_records wholes laid_arguments code_of
laid_sound force text [] s h = refl
laid_sound force text (a ∷ []) s h = refl
laid_sound force text (a ∷ b ∷ []) s h = refl
laid_sound force text (k ∷ b ∷ z ∷ flat) s h =
    let x = part text b z in
    let (e, _) = apart true (is_no_kind k) (exceeds text b z) (passed_once 1 (either (is_no_kind k) (exceeds text b z)) s.0) in
    let w = written_longer force (record { kind = k; content = x }) in
    let m = length-append (written form force (record { kind = k; content = x })) (tail form force (arguments_of text flat)) in
    let p : k % 65536 ≡ k = mod-eq_of_lt (omega (arith, small k e)) in
    let q : length x % 65536 ≡ length x = mod-eq_of_lt (omega (arith, w, m, h)) in
    rw (p, q, laid_sound force text flat s.1 (omega (arith, m, h)))

-- of what is lent for a line that was built, each kind and each length is laid down as it is
pub laid_whole : (lent : Launch) {whole : List ℕ} → BuiltLine lent whole
    → laid_arguments (arguments_of lent.text lent.records) ≡ code_of (arguments_of lent.text lent.records)
unfolding line line_limit argument_fault
laid_whole lent l =
    let args = arguments_of lent.text lent.records in
    let m = length-append (enclosed lent.program) (tail form lent.force args) in
    let s = (all_sound (judged (argument_finding lent.text)) (argument_records lent.records)).0 l.sound in
    laid_sound lent.force lent.text lent.records s (omega (arith, m, short_line lent l))
