-- A line is the line of one list. Assumes nothing.
use Rattle.std.specs.Prelude.{ℕ, ◌+◌, ◌*◌, ◌≡◌, Bool, List, [], length}
use Rattle.std.proofs.Common.{arith}
use Rattle.rules.specs.Record.{arguments_of}
use Rattle.rules.specs.Reading.{joined}
use Rattle.laws.specs.LineRead.{contents}
use Rattle.promises.specs.RoundTrip.{BuiltOf, listed, round_trip}

-- a line that was built twice was built of one program and of one list of arguments, whether quotes were forced or not and wherever the texts stood
pub one_list : {f f' : Bool} {program program' records records' text text' : List ℕ} {room room' : ℕ} {whole : List ℕ}
    → BuiltOf f program records text room whole → BuiltOf f' program' records' text' room' whole
    → (program ≡ program') × (contents (arguments_of text records) ≡ contents (arguments_of text' records'))
one_list w w' =
    let room = length (joined (listed w)) + length (joined (listed w')) in
    let numbers = 2 * (length (listed w) + length (listed w')) in
    let e = round_trip w [] room numbers (omega arith) (omega arith) in
    let e' = round_trip w' [] room numbers (omega arith) (omega arith) in
    (cc, cc)
