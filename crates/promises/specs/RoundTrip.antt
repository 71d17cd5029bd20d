-- What is written is read back. Assumes nothing.
use Rattle.std.specs.Prelude.{ℕ, ◌≤◌, ◌≡◌, refl, Bool, false, List, ◌∷◌, length}
use Rattle.std.proofs.Common.{arith, ◌∙◌}
use Rattle.rules.specs.Choice.{any, is_empty}
use Rattle.rules.specs.Unit.{is_quote}
use Rattle.rules.specs.Outcome.{done}
use Rattle.rules.specs.Record.{arguments_of}
use Rattle.rules.specs.Building.{command_line}
use Rattle.rules.specs.Reading.{read_limit, arguments_read, units_read, joined, places_of, reading}
use Rattle.laws.specs.Limit.{line_readable}
use Rattle.laws.specs.Nul.{line_clean, line_some, whole_units, whole_arguments}
use Rattle.laws.specs.LineRead.{is_raw, contents, line_read}
use Rattle.laws.specs.Extent.{read_extent}
use Rattle.promises.specs.Line.{line_built}
use Rattle.promises.specs.Reading.{read_given}

-- a line that was built, of a program without quote marks and of regular arguments
pub record BuiltOf (force : Bool) (program records text : List ℕ) (room : ℕ) (whole : List ℕ) : Type 0 where
  pub built : command_line force program records text room ≡ done whole
  pub unquoted : any is_quote program ≡ false
  pub regulars : any is_raw (arguments_of text records) ≡ false

-- a text of 32,767 units and a table of 32,768 numbers have room for whatever is not too long to be read
pub always_enough : (executable lent : List ℕ) (room numbers : ℕ) → 32767 ≤ room → 32768 ≤ numbers
    → length (units_read executable lent) ≤ read_limit → reading executable lent room numbers ≡ done (arguments_read executable lent)
unfolding read_limit
always_enough executable lent room numbers h g s =
    let e = read_extent executable lent in
    (read_given executable lent room numbers _).1 (s, (omega arith, (omega arith, refl)))

module _ {force : Bool} {program records text : List ℕ} {room : ℕ} {whole : List ℕ} (w : BuiltOf force program records text room whole) where
  -- the program and the units of each argument, in order
  abbrev pub listed : List (List ℕ)
  listed = program ∷ contents (arguments_of text records)

  -- whatever executable name is lent, the line is not too long to be read, and its arguments are that program and those arguments
  read_back : (executable : List ℕ) → (length (units_read executable whole) ≤ read_limit) × (arguments_read executable whole ≡ listed)
  read_back executable =
      let (_, (clean, (sound, (short, (_, made))))) = (line_built force program records text room whole).0 w.built in
      let args = arguments_of text records in
      let c = rw made at (line_clean force program args clean sound) in
      let some : is_empty whole ≡ false = rw (← made) (line_some force program args) in
      let fits : length whole ≤ read_limit = rw (← made) (omega (arith, line_readable)) in (
        rw (whole_units executable whole some c) fits,
        whole_arguments executable whole some c ∙ rw (← made) (line_read force program args w.unquoted w.regulars),
      )

  -- demand 3: it is read as that program and those arguments, without refusal, where the output has room for their units and the table for their number
  pub round_trip : (executable : List ℕ) (output numbers : ℕ) → length (joined listed) ≤ output → length listed ≤ places_of numbers
      → reading executable whole output numbers ≡ done listed
  round_trip executable output numbers h g =
      let (fits, same) = read_back executable in
      (read_given executable whole output numbers listed).1 (fits, (rw same g, (rw same h, same)))

  -- demand 3, with room that is always enough
  pub round_trip_always : (executable : List ℕ) (output numbers : ℕ) → 32767 ≤ output → 32768 ≤ numbers
      → reading executable whole output numbers ≡ done listed
  unfolding read_limit
  round_trip_always executable output numbers h g =
      let (fits, same) = read_back executable in
      let e = rw same at (read_extent executable whole) in
      round_trip executable output numbers (omega arith) (omega arith)
