-- What the Rust and the port say, side by side, and on which inputs: the oracle's domain. Assumes nothing.
-- 01's domain is "inputs that the port doesn't refuse by 1, 2, 3 or 4", "with no NUL in program or script save one final NUL of a script".
-- Its last words: "for blocks, also entries with distinct keys in the order of the Rust's map."
use Rattle.std.specs.Prelude.{ℕ, Bool, true, List, map}
use Rattle.rules.specs.Choice.{pick, flip}
use Rattle.rules.specs.Unit.{within}
use Rattle.rules.specs.Outcome.{Outcome, done, refused, Finding, sound, wrong, Fault, faultless, fault}
use Rattle.rules.specs.Record.{Argument, is_regular}
use Rattle.original.specs.Shims.{Error, nul_found, invalid_argument, invalid_script, Result, Ok, Err}
use Rattle.original.specs.AppendArg.{Arg, Regular, Raw}

-- a result, or a refusal's number; the Rust gives no place
pub data Verdict (A : Type 0) : Type 0 where
  gives : A → Verdict A
  refuses : ℕ → Verdict A

-- the document's number of an error
abbrev pub number_of : Error → ℕ
number_of nul_found = 5
number_of invalid_argument = 6
number_of invalid_script = 7

-- what the Rust says
abbrev pub rust_says : {A : Type 0} → Result A → Verdict A
rust_says (Ok a) = gives a
rust_says (Err e) = refuses (number_of e)

-- what the port says
abbrev pub port_says : {A : Type 0} → Outcome A → Verdict A
port_says (done a) = gives a
port_says (refused number place) = refuses number

-- what the port says of one argument, where nothing else is wrong
abbrev pub finding_says : {A : Type 0} → Finding → A → Verdict A
finding_says sound a = gives a
finding_says (wrong number) a = refuses number

-- what the port says of a list, where nothing else is wrong
abbrev pub fault_says : {A : Type 0} → Fault → A → Verdict A
fault_says faultless a = gives a
fault_says (fault number place) a = refuses number

-- "inputs that the port doesn't refuse by 1, 2, 3 or 4"
abbrev pub in_domain : {A : Type 0} → Outcome A → Bool
in_domain (done a) = true
in_domain (refused number place) = flip (within 1 4 number)

-- an argument as the Rust has it: of kind 0 it is regular. Kinds but 0 and 1 the port refuses by 1.
abbrev pub arg_of : Argument → Arg
arg_of a = pick (is_regular a.kind) (Regular a.content) (Raw a.content)

-- the arguments as the Rust has them
abbrev pub args_of : List Argument → List Arg
args_of args = map arg_of args
