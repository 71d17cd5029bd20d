-- `make_command_line` writes the line of the rules. Assumes nothing.
use Rattle.std.specs.Prelude.{ℕ, ◌≡◌, refl, Bool, true, false, List, [], ◌∷◌, ◌++◌}
use Rattle.std.proofs.Common.{sym, ◌∙◌, append_assoc}
use Rattle.rules.specs.Choice.{any}
use Rattle.rules.specs.Unit.{is_nul, space}
use Rattle.rules.specs.Outcome.{first_fault, refuse, unless, limited}
use Rattle.rules.specs.Record.{Argument, arguments_of}
use Rattle.rules.specs.Quoting.{enclosed, form}
use Rattle.rules.specs.Building.{written, tail, line, line_limit, nul_finding, command_line}
use Rattle.original.specs.AppendArg.{append_arg}
use Rattle.original.specs.MakeCommandLine.{for_args, make_command_line}
use Rattle.original.specs.Domain.{rust_says, port_says, in_domain, fault_says, arg_of, args_of}
use Rattle.original.specs.DomainLaws.{unless_says, arguments_sound}
use Rattle.original.specs.Loops.{says_then, Loop, loop_says}
use Rattle.original.specs.ForAppendArg.{append_arg_same}

-- the loop appends a space and a form for each argument, up to the first with a NUL
args_loop : (force : Bool) → Loop (λ cmd args. for_args cmd (args_of args) force) nul_finding (λ a. space ∷ written form force a) (tail form force)
unfolding for_args
args_loop force =
    record {
      call = λ cmd a. append_arg (cmd ++ space ∷ []) (arg_of a) force;
      ends = λ cmd. refl;
      turns = λ cmd a more. refl;
      says = λ cmd a. append_arg_same force (cmd ++ space ∷ []) a ∙ simp append_assoc;
      none = refl;
      next = λ a more. refl;
    }

-- On every list of arguments: the line, or 5 where an argument has a NUL. A NUL in the program is not looked for.
pub make_command_line_says : (force : Bool) (program : List ℕ) (args : List Argument)
    → rust_says (make_command_line program (args_of args) force) ≡ fault_says (first_fault nul_finding args) (line force program args)
unfolding make_command_line line
make_command_line_says force program args =
    says_then (λ cmd. cmd) (for_args (enclosed program) (args_of args) force) (first_fault nul_finding args) (line force program args)
    (loop_says (args_loop force) 1 (enclosed program) args)

-- On the oracle's domain the Rust and the port say the same.
pub make_command_line_same : (force : Bool) (program records text : List ℕ) (room : ℕ)
    → in_domain (command_line force program records text room) ≡ true
    → any is_nul program ≡ false
    → rust_says (make_command_line program (args_of (arguments_of text records)) force) ≡ port_says (command_line force program records text room)
unfolding command_line
make_command_line_same force program records text room h clean =
    let args = arguments_of text records in
    let rest = unless (first_fault nul_finding args) (limited line_limit room (line force program args)) in
    let e = arguments_sound text records (refuse 5 (any is_nul program) rest) h in
    rw (e, clean) (make_command_line_says force program args
    ∙ sym (unless_says (first_fault nul_finding args) line_limit room (line force program args) (rw (e, clean) at h)))
